-- A client and its calls.
use Rattle.std.proofs.Common.{◌≡◌, ℕ, Bool, true, false, List, [], ◌∷◌, ◌++◌, length, Option, Some, None, refl, sym, ap, subst, ◌∙◌, inl, inr, append_assoc}
use Rattle.std.specs.Prelude.{Result, Ok, Err, IfOk, IfErr, IfSome, IsTrue, All}
use Rattle.std.specs.List.{flat_map}
use Rattle.std.proofs.lemmas.Bool.{true≢false}
use Rattle.std.proofs.lemmas.List.{append-nil}
use Rattle.std.proofs.lemmas.List.Elements.{All-head, All-tail, All-weaker}
use mathlib.Core.List.{IsPrefix}
use Rattle.gfs_types.specs.declared.answer.Answer.{Answer}
use Rattle.gfs_types.specs.declared.answer.Answer.TheVariants.{Refused}
use Rattle.gfs_types.specs.declared.call.Call.{Call}
use Rattle.gfs_types.specs.Settings.{first_out_of_range}
use Rattle.gfs_types.specs.declared.ids.Node.{Node}
use Rattle.gfs_types.specs.declared.refusal.Refusal.{Refusal}
use Rattle.protocol_journal.specs.Journal.{Entry, own}
use Rattle.headline.specs.Journals.{AreExplained}
use Rattle.headline.specs.AnswerKinds.{is_value_of, IsAnswerTo}
use Rattle.headline.proofs.JournalsExplained.{journals_are_explained}
use Rattle.cell_journal.specs.Log.{Listed}
use Rattle.cell_journal.proofs.Begins.{prefix_self, prefix_trans}
use Rattle.cell_journal.specs.Clocks.{are_clocks_kept}
use Rattle.cell_journal.specs.Identity.{Identity}
use Rattle.cell_journal.specs.declared.view.View.{View}
use Rattle.protocol_journal.proofs.CutJournals.{own_whole, whole_prefix}
use Rattle.cell_journal.specs.WholeHistories.{history_of, all_seen, steps_of, all_steps, is_retired, IsHistoryOf}
use Rattle.cell_seats.proofs.AnswerKinds.{answer_kind}
use Rattle.cell_seats.proofs.Shown.{visible_steps, answered_more}
use Rattle.cell_seats.specs.declared.client_call.CallFault.{CallFault}
use Rattle.cell_seats.specs.Seen.{Visible, Asked, Answered, visible_of, answered_only, IsFurther, HasSeen, Waits, StaysUnanswered}
use Rattle.cell_seats.specs.Seats.{SeatState, seat_state, shown, is_some, is_the_cells, IsLeft, IsUnanswered, IsGone, IsSeat, IsAnswered, IsLost, Fails, AnswersSo, Loses, refusal_in, IsRefusal}

-- a lawful history in which clocks were kept, of a cell whose settings are in their ranges
pub explains : (cell : Identity) (entries : List Entry) → first_out_of_range cell.config ≡ None → IsHistoryOf cell entries → IsTrue (are_clocks_kept cell entries) → AreExplained cell.config entries
explains cell entries in_range lawful clocks = journals_are_explained cell.config cell.servers cell.clients entries lawful.0 lawful.1 in_range clocks

pub range_later : (v w : View) → IsFurther v w → first_out_of_range v.of.config ≡ None → first_out_of_range w.of.config ≡ None
range_later v w further in_range = subst (λ (c : Identity). first_out_of_range c.config ≡ None) (sym further.of) in_range

items_of : (n : Node) (w : View) (now : Listed Entry) (after : ℕ) → HasSeen n w now after → now.items ≡ all_seen w
items_of n w now after has = ap (λ (l : Listed Entry). l.items) has.seen.0

-- what a client's view has seen of its own steps is all of them
own_all : (m : Node) (w : View) (now : Listed Entry) (after : ℕ) → HasSeen m w now after → own m now.items ≡ all_steps w m
own_all m w now after has = ap (own m) (items_of m w now after has) ∙ (own_whole m w.of.base w.seen ∙ ap (λ (l : List Entry). steps_of w.of m l) (sym has.own_is))

-- what began the history begins it later on
pub grown : (v w : View) (was : Listed Entry) → IsFurther v w → IsPrefix was.items (all_seen v) → IsPrefix was.items (all_seen w)
grown v w was further begins =
    let longer : IsPrefix (all_seen v) (all_seen w) = subst (λ (c : Identity). IsPrefix (all_seen v) (history_of c w.seen)) (sym further.of) (whole_prefix v.of.base v.seen w.seen further.grows) in
    prefix_trans was.items (all_seen v) (all_seen w) begins longer

-- of a client that this one was nothing more is written, and nothing more is seen
gone_steps : (m k : Node) (w : View) (now : Listed Entry) (after : ℕ) → HasSeen m w now after → IsTrue (is_retired w.of k) → own k now.items ≡ own k w.of.base
gone_steps m k w now after has retired =
    ap (own k) (items_of m w now after has)
    ∙ (own_whole k w.of.base w.seen ∙ (ap (λ (l : List Entry). steps_of w.of k l) (has.leaves k retired) ∙ append-nil (own k w.of.base)))

retired_later : (v w : View) (k : Node) → IsFurther v w → IsTrue (is_retired v.of k) → IsTrue (is_retired w.of k)
retired_later v w k further retired = subst (λ (c : Identity). IsTrue (is_retired c k)) (sym further.of) retired

-- and so it stays
gone_later : (v w : View) (seen : List Entry) (k : Node) → IsFurther v w → IsGone v seen k → IsGone w seen k
gone_later v w seen k further gone = record {
  retired = retired_later v w k further gone.retired;
  told = gone.told ∙ ap (λ (c : Identity). answered_only (visible_of (own k c.base))) (sym further.of);
}

gone_seen : (m : Node) (v w : View) (was now : Listed Entry) (after : ℕ) (k : Node) → IsFurther v w → HasSeen m w now after → IsGone v was.items k → IsGone w now.items k
gone_seen m v w was now after k further has gone = record {
  retired = retired_later v w k further gone.retired;
  told = ap (λ (l : List Entry). answered_only (visible_of l)) (gone_steps m k w now after has (retired_later v w k further gone.retired));
}

pub all_gone : (v w : View) (seen : List Entry) (earlier : List Node) → IsFurther v w → All (IsGone v seen) earlier → All (IsGone w seen) earlier
all_gone v w seen earlier further gone = All-weaker (IsGone v seen) (IsGone w seen) (λ k one. gone_later v w seen k further one) earlier gone

abbrev told_before : List Entry → Node → List Visible
told_before seen k = answered_only (visible_of (own k seen))

-- under its earlier numbers it shows what it showed
pub told_alike : (a b : List Entry) (earlier : List Node) → All (λ k. told_before a k ≡ told_before b k) earlier → flat_map (told_before a) earlier ≡ flat_map (told_before b) earlier
told_alike a b [] same = refl
told_alike a b (k ∷ rest) same =
    ap (λ (l : List Visible). l ++ flat_map (told_before a) rest) (All-head (λ m. told_before a m ≡ told_before b m) k rest same)
    ∙ ap (λ (l : List Visible). told_before b k ++ l) (told_alike a b rest (All-tail (λ m. told_before a m ≡ told_before b m) k rest same))

told_still : (m : Node) (v w : View) (was now : Listed Entry) (after : ℕ) (earlier : List Node) → IsFurther v w → HasSeen m w now after → All (IsGone v was.items) earlier
    → flat_map (told_before now.items) earlier ≡ flat_map (told_before was.items) earlier
told_still m v w was now after earlier further has gone =
    told_alike now.items was.items earlier (All-weaker (IsGone v was.items) (λ k. told_before now.items k ≡ told_before was.items k) one earlier gone)
  where
    one : (k : Node) → IsGone v was.items k → told_before now.items k ≡ told_before was.items k
    one k it = (gone_seen m v w was now after k further has it).told ∙ (ap (λ (c : Identity). answered_only (visible_of (own k c.base))) further.of ∙ sym it.told)

-- a client that was answered shows one call more of its own
shows_more : (n m : Node) (v w : View) (was now : Listed Entry) (after : ℕ) (call : Call) (reply : Answer) → m ≡ n → own n was.items ≡ all_steps v n → IsFurther v w → HasSeen m w now after
    → visible_of w.mine ≡ visible_of v.mine ++ Asked call ∷ Answered reply ∷ [] → visible_of (own m now.items) ≡ visible_of (own n was.items) ++ Asked call ∷ Answered reply ∷ []
shows_more n m v w was now after call reply same own_is further has shows =
    ap visible_of (own_all m w now after has)
    ∙ (visible_steps w.of m w.mine
    ∙ (ap (λ (c : Identity). visible_of (own m c.base) ++ visible_of w.mine) further.of
    ∙ (ap (λ (k : Node). visible_of (own k v.of.base) ++ visible_of w.mine) same
    ∙ (ap (λ l. visible_of (own n v.of.base) ++ l) shows
    ∙ (sym (append_assoc (visible_of (own n v.of.base)) (visible_of v.mine) (Asked call ∷ Answered reply ∷ []))
    ∙ ap (λ l. l ++ Asked call ∷ Answered reply ∷ []) (sym (visible_steps v.of n v.mine) ∙ ap visible_of (sym own_is)))))))

answered : (n m : Node) (earlier : List Node) (v w : View) (was now : Listed Entry) (count after : ℕ) (waits : Bool) (call : Call) (reply : Answer) → m ≡ n → IsSeat n earlier v was count None waits → IsFurther v w
    → HasSeen m w now after → visible_of w.mine ≡ visible_of v.mine ++ Asked call ∷ Answered reply ∷ []
    → IsAnswered (seat_state n earlier v.of was.items false waits) (seat_state m earlier w.of now.items false waits) call reply
answered n m earlier v w was now count after waits call reply same seat further has shows = record {
  node = same;
  cell = further.of;
  begins = subst (IsPrefix was.items) (sym items) (grown v w was further seat.begins);
  lawful = lawful_now;
  clocks = clocks_now;
  explained = explains w.of now.items (range_later v w further seat.in_range) lawful_now clocks_now;
  shows = ap (λ (l : List Visible). flat_map (told_before now.items) earlier ++ l) (shows_more n m v w was now after call reply same (seat.own_is refl) further has shows)
      ∙ (ap (λ (l : List Visible). l ++ (visible_of (own n was.items) ++ Asked call ∷ Answered reply ∷ [])) (told_still m v w was now after earlier further has seat.gone)
      ∙ sym (append_assoc (flat_map (told_before was.items) earlier) (visible_of (own n was.items)) (Asked call ∷ Answered reply ∷ [])));
  says = shows_more n m v w was now after call reply same (seat.own_is refl) further has shows;
  was_open = refl;
  still_open = refl;
  earlier = refl;
}
  where
    items : now.items ≡ all_seen w
    items = items_of m w now after has

    lawful_now : IsHistoryOf w.of now.items
    lawful_now = subst (IsHistoryOf w.of) (sym items) has.lawful

    clocks_now : IsTrue (are_clocks_kept w.of now.items)
    clocks_now = subst (λ l. IsTrue (are_clocks_kept w.of l)) (sym items) has.clocks

pub answered_here : (s : SeatState) (lost : Option Refusal) (n m : Node) (earlier : List Node) (v w : View) (was now : Listed Entry) (count after : ℕ) (waits : Bool) (call : Call) (reply : Answer)
    → seat_state n earlier v.of was.items (is_some lost) waits ≡ s → lost ≡ None → m ≡ n → IsSeat n earlier v was count lost waits → IsFurther v w → HasSeen m w now after
    → visible_of w.mine ≡ visible_of v.mine ++ Asked call ∷ Answered reply ∷ [] → IsAnswered s (seat_state m earlier w.of now.items false waits) call reply
answered_here s None n m earlier v w was now count after waits call reply view none same seat further has shows =
    subst (λ (x : SeatState). IsAnswered x (seat_state m earlier w.of now.items false waits) call reply) view (answered n m earlier v w was now count after waits call reply same seat further has shows)
answered_here s (Some r) n m earlier v w was now count after waits call reply view none same seat further has shows = absurd (let both : Some r ≡ None = none in cc)

pub sits : (n m : Node) (earlier : List Node) (v w : View) (was now : Listed Entry) (count after : ℕ) (lost : Option Refusal) (waits : Bool) (call : Call) (reply : Answer) → m ≡ n → lost ≡ None
    → IsSeat n earlier v was count lost waits → IsFurther v w → HasSeen m w now after → visible_of w.mine ≡ visible_of v.mine ++ Asked call ∷ Answered reply ∷ [] → IsSeat m earlier w now after None waits
sits n m earlier v w was now count after lost waits call reply same none seat further has shows = record {
  name = ap (λ (l : Listed Entry). l.name) has.seen.0;
  count_is = has.seen.1 ∙ ap length (sym items);
  begins = subst (λ l. IsPrefix l (all_seen w)) (sym items) (prefix_self (all_seen w));
  lawful = subst (IsHistoryOf w.of) (sym items) has.lawful;
  clocks = subst (λ l. IsTrue (are_clocks_kept w.of l)) (sym items) has.clocks;
  in_range = range_later v w further seat.in_range;
  own_is = λ _. own_all m w now after has;
  refused = tt;
  told = ap answered_only more ∙ (answered_more (visible_of (own n was.items)) call reply seat.told ∙ sym more);
  stands = tt;
  gone = All-weaker (IsGone v was.items) (IsGone w now.items) (λ k one. gone_seen m v w was now after k further has one) earlier seat.gone;
}
  where
    items : now.items ≡ all_seen w
    items = items_of m w now after has

    more : visible_of (own m now.items) ≡ visible_of (own n was.items) ++ Asked call ∷ Answered reply ∷ []
    more = shows_more n m v w was now after call reply same (seat.own_is none) further has shows

-- a call of one that was refused for good waits, or was not made; or clocks were not kept
left_so : (n m : Node) (v w : View) (seen : List Entry) (call : Call) (fault : CallFault) → m ≡ n → own n seen ≡ all_steps v n → IsFurther v w → StaysUnanswered v call w fault
    → IsUnanswered m w seen fault.stands
left_so n m v w seen call fault same own_is further (inr broken) = inl broken.1
left_so n m v w seen call fault same own_is further (inl waits) = inr (by_stands fault.stands waits)
  where
    steps_are : (es : List Entry) → steps_of w.of m es ≡ steps_of v.of n es
    steps_are es = ap (λ (c : Identity). steps_of c m es) further.of ∙ ap (λ (k : Node). steps_of v.of k es) same

    was : own m seen ≡ all_steps v n
    was = ap (λ (k : Node). own k seen) same ∙ own_is

    by_stands : (b : Bool) → Waits v.mine w.mine call b → IsLeft (own m seen) (all_steps w m) b
    by_stands true asked = (
      call,
      ap visible_of (steps_are w.mine)
          ∙ (visible_steps v.of n w.mine
          ∙ (ap (λ (l : List Visible). visible_of (own n v.of.base) ++ l) asked
          ∙ (sym (append_assoc (visible_of (own n v.of.base)) (visible_of v.mine) (Asked call ∷ []))
          ∙ ap (λ (l : List Visible). l ++ Asked call ∷ []) (sym (visible_steps v.of n v.mine) ∙ ap visible_of (sym was))))),
    )
    by_stands false none = steps_are w.mine ∙ (ap (λ (es : List Entry). steps_of v.of n es) none ∙ sym was)

-- one that was refused keeps what it saw
pub sits_still : (n m : Node) (earlier : List Node) (v w : View) (was : Listed Entry) (count : ℕ) (lost : Option Refusal) (waits : Bool) (refusal : Refusal) (call : Call) (fault : CallFault) → m ≡ n → lost ≡ None
    → IsSeat n earlier v was count lost waits → IsFurther v w → IsTrue (is_the_cells refusal) → StaysUnanswered v call w fault → IsSeat m earlier w was count (Some refusal) fault.stands
sits_still n m earlier v w was count lost waits refusal call fault same none seat further of_it stays = record {
  name = seat.name ∙ ap (λ c. c.name) (sym further.of);
  count_is = seat.count_is;
  begins = grown v w was further seat.begins;
  lawful = subst (λ c. IsHistoryOf c was.items) (sym further.of) seat.lawful;
  clocks = subst (λ c. IsTrue (are_clocks_kept c was.items)) (sym further.of) seat.clocks;
  in_range = range_later v w further seat.in_range;
  own_is = λ h. absurd (let both : Some refusal ≡ None = h in cc);
  refused = of_it;
  told = ap (λ (k : Node). answered_only (visible_of (own k was.items))) same ∙ (seat.told ∙ ap (λ (k : Node). visible_of (own k was.items)) (sym same));
  stands = left_so n m v w was.items call fault same (seat.own_is none) further stays;
  gone = all_gone v w was.items earlier further seat.gone;
}

pub loses : (n m : Node) (earlier : List Node) (v w : View) (was : Listed Entry) (lost : Option Refusal) (waits stands : Bool) (refusal : Refusal) → m ≡ n → lost ≡ None → IsFurther v w
    → IsTrue (is_the_cells refusal) → IsLost (seat_state n earlier v.of was.items (is_some lost) waits) (seat_state m earlier w.of was.items true stands) refusal
loses n m earlier v w was lost waits stands refusal same none further of_it = record {
  node = same;
  cell = further.of;
  seen = refl;
  earlier = refl;
  lost = refl;
  refused = of_it;
  again = λ was_lost. absurd (true≢false (sym was_lost ∙ ap is_some none));
}

-- one that was refused before is refused again
pub still_lost : (s : SeatState) (lost : Option Refusal) (refusal : Refusal) → lost ≡ Some refusal → s.is_lost ≡ is_some lost → IfSome lost (λ r. IsTrue (is_the_cells r)) → IsLost s s refusal
still_lost s None refusal is same h = absurd (let both : None ≡ Some refusal = is in cc)
still_lost s (Some r) refusal is same h = record {
  node = refl;
  cell = refl;
  seen = refl;
  earlier = refl;
  lost = same;
  refused = subst (λ (x : Refusal). IsTrue (is_the_cells x)) (let both : Some r ≡ Some refusal = is in cc) h;
  again = λ was_lost. refl;
}

-- what a call was answered
pub answers : {X : Type 0} (r : Result Answer Refusal) (found : Result X Refusal) (old new : SeatState) (call : Call) (reply : X → Answer) → IfOk r (λ a. IsAnswered old new call a) → IfOk found (λ x. r ≡ Ok (reply x))
    → IfOk found (λ x. IsAnswered old new call (reply x))
answers r (Ok x) old new call reply h is = subst (λ (a : Result Answer Refusal). IfOk a (λ b. IsAnswered old new call b)) is h
answers r (Err e) old new call reply h is = tt

-- an answer that is not what the call asks for is its refusal
refused_so : (old new : SeatState) (asked : Call) (reply : Answer) (refusal : Refusal) → IsAnswered old new asked reply → is_value_of asked reply ≡ false → refusal_in reply ≡ refusal
    → IsAnswerTo asked reply → IsAnswered old new asked (Refused refusal)
refused_so old new asked reply refusal answered_so other is (inl value) = absurd (true≢false (sym value ∙ other))
refused_so old new asked reply refusal answered_so other is (inr (found, same)) =
    subst (IsAnswered old new asked) (same ∙ ap (λ (r : Refusal). Refused r) (sym (ap refusal_in same) ∙ is)) answered_so

fails_with : (is_value : Answer → Bool) (r : Result Answer Refusal) (refusal : Refusal) (old new : SeatState) (asked : Call) → is_value_of asked ≡ is_value → IfOk r (λ a. IsAnswered old new asked a)
    → IfErr r (λ own_one. IsLost old new own_one) → IsRefusal is_value r refusal → Fails old new asked refusal
fails_with is_value (Ok a) refusal old new asked kind answered_so lost is =
    AnswersSo (refused_so old new asked a refusal answered_so (ap (λ (f : Answer → Bool). f a) kind ∙ is.0) is.1 (answer_kind old new asked a answered_so))
fails_with is_value (Err e) refusal old new asked kind answered_so lost is = Loses (subst (IsLost old new) is lost)

pub fails : {X : Type 0} (is_value : Answer → Bool) (r : Result Answer Refusal) (found : Result X Refusal) (old new : SeatState) (asked : Call) → is_value_of asked ≡ is_value
    → IfOk r (λ a. IsAnswered old new asked a) → IfErr r (λ own_one. IsLost old new own_one) → IfErr found (λ refusal. IsRefusal is_value r refusal) → IfErr found (λ refusal. Fails old new asked refusal)
fails is_value r (Ok x) old new asked kind answered_so lost is = tt
fails is_value r (Err refusal) old new asked kind answered_so lost is = fails_with is_value r refusal old new asked kind answered_so lost is
