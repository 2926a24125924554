-- A seat whose client is taken out.
use Rattle.std.proofs.Common.{◌≡◌, ℕ, Bool, true, false, List, [], ◌∷◌, ◌++◌, length, Option, Some, None, refl, sym, ap, subst, ◌∙◌, inl, inr, append_assoc}
use mathlib.Core.List.{IsPrefix}
use Rattle.std.specs.Prelude.{IsTrue, IfSome, All, map, get_or}
use Rattle.std.specs.List.{flat_map}
use Rattle.std.proofs.lemmas.List.{append-nil}
use Rattle.std.proofs.lemmas.List.Elements.{All-nil, All-push, All-weaker}
use Rattle.gfs_types.specs.declared.ids.Node.{Node}
use Rattle.gfs_types.specs.declared.refusal.Refusal.{Refusal}
use Rattle.protocol_journal.specs.Journal.{Entry, own, sent_after}
use Rattle.protocol_journal.specs.Whole.{raised_entry}
use Rattle.cell_journal.specs.Log.{Listed}
use Rattle.cell_journal.specs.Clocks.{are_clocks_kept}
use Rattle.cell_journal.specs.Identity.{Identity}
use Rattle.cell_journal.specs.declared.history_look.HistoryLook.{HistoryLook}
use Rattle.cell_journal.specs.declared.view.View.{View}
use Rattle.cell_journal.specs.WholeHistories.{history_of, steps_of, all_seen, all_steps, is_retired, IsHistoryOf}
use Rattle.cell_journal.specs.Writers.{IsLater, HasLooked}
use Rattle.cell_journal.proofs.Begins.{prefix_trans}
use Rattle.cell_journal.proofs.Beginnings.{history_begins, kept_before, none_before}
use Rattle.cell_journal.proofs.Observed.{still_broken}
use Rattle.protocol_journal.proofs.CutJournals.{own_whole, whole_prefix}
use Rattle.cell_seats.specs.Seen.{Visible, visible_of, answered_only, IsFurther}
use Rattle.cell_seats.specs.Seats.{SeatState, seat_state, shown, is_some, IsLeft, IsUnanswered, IsGone, IsSeat}
use Rattle.cell_seats.specs.ParkedNodes.{ParkedNodeState, parked_node, IsClientOf, IsBehind, GoesOnBehind, SitsOn}
use Rattle.cell_seats.proofs.Shown.{further, answered_left}
use Rattle.cell_seats.proofs.Sitting.{range_later, grown, all_gone}
use Rattle.cell_seats.proofs.ParkedNodes.{items_are, steps_are}

longer : (v w : View) → IsFurther v w → IsPrefix (all_seen v) (all_seen w)
longer v w further = subst (λ (c : Identity). IsPrefix (all_seen v) (history_of c w.seen)) (sym further.of) (whole_prefix v.of.base v.seen w.seen further.grows)

same_steps : (n : Node) (v w : View) → IsLater v w → all_steps w n ≡ all_steps v n
same_steps n v w later = ap (λ (c : Identity). steps_of c n w.mine) later.of ∙ ap (λ (es : List Entry). steps_of v.of n es) later.mine

-- what is left of a client that was refused stays so where no step more of it is written
unanswered_later : (n : Node) (v w : View) (seen : List Entry) (waits : Bool) → IsLater v w → IsUnanswered n v seen waits → IsUnanswered n w seen waits
unanswered_later n v w seen waits later (inl broken) =
    inl (ap (λ (c : Identity). are_clocks_kept c (all_seen w)) later.of ∙ still_broken v.of.config (all_seen v) (all_seen w) (longer v w (further v w later)) broken)
unanswered_later n v w seen waits later (inr left) = inr (subst (λ (es : List Entry). IsLeft (own n seen) es waits) (sym (same_steps n v w later)) left)

lost_later : (n : Node) (v w : View) (seen : List Entry) (lost : Option Refusal) (waits : Bool) → IsLater v w → IfSome lost (λ refusal. IsUnanswered n v seen waits) → IfSome lost (λ refusal. IsUnanswered n w seen waits)
lost_later n v w seen None waits later stands = tt
lost_later n v w seen (Some refusal) waits later stands = unanswered_later n v w seen waits later stands

-- a look leaves the seat as it was
pub sits_later : (n m : Node) (earlier : List Node) (v w : View) (was : Listed Entry) (count : ℕ) (lost : Option Refusal) (waits : Bool) → m ≡ n → IsLater v w → IsSeat n earlier v was count lost waits
    → IsSeat m earlier w was count lost waits
sits_later n m earlier v w was count lost waits same later seat =
    subst (λ (k : Node). IsSeat k earlier w was count lost waits) (sym same)
    (record {
      name = seat.name ∙ ap (λ (c : Identity). c.name) (sym later.of);
      count_is = seat.count_is;
      begins = grown v w was (further v w later) seat.begins;
      lawful = subst (λ (c : Identity). IsHistoryOf c was.items) (sym later.of) seat.lawful;
      clocks = subst (λ (c : Identity). IsTrue (are_clocks_kept c was.items)) (sym later.of) seat.clocks;
      in_range = range_later v w (further v w later) seat.in_range;
      own_is = λ none. seat.own_is none ∙ sym (same_steps n v w later);
      refused = seat.refused;
      told = seat.told;
      stands = lost_later n v w was.items lost waits later seat.stands;
      gone = all_gone v w was.items earlier (further v w later) seat.gone;
    })

none_of : (lost : Option Refusal) → is_some lost ≡ false → lost ≡ None
none_of None free = refl
none_of (Some r) free = absurd (let both : true ≡ false = free in cc)

-- where clocks were kept a call waits, or none was made
left_alone : (n : Node) (v : View) (seen : List Entry) (waits : Bool) → are_clocks_kept v.of (all_seen v) ≡ true → IsUnanswered n v seen waits → IsLeft (own n seen) (all_steps v n) waits
left_alone n v seen waits kept (inl broken) = absurd (let both : true ≡ false = sym kept ∙ broken in cc)
left_alone n v seen waits kept (inr left) = left

left_of : (n : Node) (v : View) (seen : List Entry) (lost : Option Refusal) (waits : Bool) → is_some lost ≡ true → are_clocks_kept v.of (all_seen v) ≡ true → IfSome lost (λ refusal. IsUnanswered n v seen waits)
    → IsLeft (own n seen) (all_steps v n) waits
left_of n v seen None waits some kept stands = absurd (let both : false ≡ true = some in cc)
left_of n v seen (Some refusal) waits some kept stands = left_alone n v seen waits kept stands

-- of a client of which nothing more is written the history has what the base has
gone_looked : (n m : Node) (v : View) (l : HistoryLook) → HasLooked n v l → IsTrue (is_retired v.of m) → own m l.beginning.items ≡ own m v.of.base
gone_looked n m v l looked retired =
    ap (own m) (items_are n v l looked)
    ∙ (own_whole m v.of.base v.seen ∙ (ap (λ (es : List Entry). steps_of v.of m es) (looked.leaves m retired) ∙ append-nil (own m v.of.base)))

-- the client that is taken out
pub client_of : (n : Node) (earlier : List Node) (v : View) (was : Listed Entry) (count : ℕ) (lost : Option Refusal) (waits : Bool) (l : HistoryLook) → IsSeat n earlier v was count lost waits → HasLooked n v l
    → IsClientOf (seat_state n earlier v.of was.items (is_some lost) waits) (parked_node l.cell n l.beginning)
client_of n earlier v was count lost waits l seat looked = record {
  cell_is = looked.cell_is;
  node_is = refl;
  name_is = ap (λ (x : Listed Entry). x.name) looked.seen.0;
  begins = subst (IsPrefix was.items) (sym (items_are n v l looked)) seat.begins;
  own_is = λ free. seat.own_is (none_of lost free) ∙ sym (steps_are n v l looked);
  left = λ some kept. subst (λ (es : List Entry). IsLeft (own n was.items) es waits) (sym (steps_are n v l looked))
      (left_of n v was.items lost waits some (ap (λ (c : Identity). are_clocks_kept c (all_seen v)) (sym looked.cell_is) ∙ (ap (λ (es : List Entry). are_clocks_kept l.cell es) (sym (items_are n v l looked)) ∙ kept)) seat.stands);
  told = seat.told;
  gone = All-weaker (IsGone v was.items) (λ m. answered_only (visible_of (own m was.items)) ≡ answered_only (visible_of (own m l.beginning.items))) one earlier seat.gone;
}
  where
    one : (m : Node) → IsGone v was.items m → answered_only (visible_of (own m was.items)) ≡ answered_only (visible_of (own m l.beginning.items))
    one m it = it.told ∙ ap (λ (es : List Entry). answered_only (visible_of es)) (sym (gone_looked n m v l looked it.retired))

-- the seat of a cell that goes on
pub sits_on : (s : SeatState) (n : Node) (earlier : List Node) (v : View) (was : Listed Entry) (count : ℕ) → SitsOn s n earlier v → was.name ≡ s.cell.name → was.items ≡ s.seen → count ≡ length was.items
    → IsSeat n earlier v was count None false
sits_on s n earlier v was count on name seen is = record {
  name = name ∙ sym on.name;
  count_is = is;
  begins = subst (λ (es : List Entry). IsPrefix es (all_seen v)) (sym seen) on.begins;
  lawful = subst (IsHistoryOf v.of) (sym seen) on.lawful;
  clocks = subst (λ (es : List Entry). IsTrue (are_clocks_kept v.of es)) (sym seen) on.clocks;
  in_range = on.in_range;
  own_is = λ none. ap (own n) seen ∙ on.own_is;
  refused = tt;
  told = ap (λ (es : List Entry). answered_only (visible_of (own n es))) seen ∙ (on.told ∙ ap (λ (es : List Entry). visible_of (own n es)) (sym seen));
  stands = tt;
  gone = subst (λ (es : List Entry). All (IsGone v es) earlier) (sym seen) on.gone;
}

begins_base : (v : View) → IsPrefix v.of.base (all_seen v)
begins_base v = (map (raised_entry (length (sent_after [] v.of.base))) v.seen, refl)

-- what a seat saw, behind which its cell goes on
module _ (s : SeatState) (v : View) (cell : GoesOnBehind s.cell.name v.of) (begins : IsPrefix s.seen v.of.base) where
  seen_begins : IsPrefix s.seen (all_seen v)
  seen_begins = prefix_trans s.seen v.of.base (all_seen v) begins (begins_base v)

  seen_lawful : IsHistoryOf v.of s.seen
  seen_lawful = history_begins v.of s.seen v.of.base begins cell.lawful

  seen_kept : IsTrue (are_clocks_kept v.of s.seen)
  seen_kept = kept_before v.of s.seen v.of.base begins cell.clocks

  -- a client of a number that was not used before, whose seat was left behind
  pub starts_anew : (n : Node) → v.mine ≡ [] → own n v.of.base ≡ [] → SitsOn s n [] v
  starts_anew n mine unused = record {
    name = cell.name_is;
    begins = seen_begins;
    lawful = seen_lawful;
    clocks = seen_kept;
    in_range = cell.in_range;
    own_is = none ∙ sym (ap (λ (es : List Entry). steps_of v.of n es) mine ∙ (append-nil (own n v.of.base) ∙ unused));
    told = ap (λ (es : List Entry). answered_only (visible_of es)) none ∙ ap visible_of (sym none);
    gone = All-nil (IsGone v s.seen);
  }
    where
      none : own n s.seen ≡ []
      none = none_before n s.seen v.of.base begins unused

module _ (s : SeatState) (p : ParkedNodeState) (v : View) (client : IsClientOf s p) (behind : IsBehind v p) (cell : GoesOnBehind s.cell.name v.of) (kept : IsTrue (are_clocks_kept p.cell p.history.items)) where
  begins : IsPrefix s.seen v.of.base
  begins = subst (IsPrefix s.seen) (sym behind.base) client.begins

  told_still : All (λ m. IsTrue (is_retired v.of m)) s.earlier → All (IsGone v s.seen) s.earlier
  told_still retired k d below = record { retired = retired k d below; told = client.gone k d below ∙ ap (λ (es : List Entry). answered_only (visible_of (own (get_or s.earlier k d) es))) (sym behind.base) }

  -- all its steps were seen, unless a call of it waits
  own_history : s.waits ≡ false → own s.node p.history.items ≡ own s.node s.seen
  own_history calm = by_lost s.is_lost refl
    where
      by_lost : (b : Bool) → s.is_lost ≡ b → own s.node p.history.items ≡ own s.node s.seen
      by_lost false is = sym (client.own_is is)
      by_lost true is = subst (λ (b : Bool). IsLeft (own s.node s.seen) (own s.node p.history.items) b) calm (client.left is kept)

  -- a seat whose client goes on as it is
  pub stays_on : s.waits ≡ false → All (λ m. IsTrue (is_retired v.of m)) s.earlier → SitsOn s s.node s.earlier v
  stays_on calm retired = record {
    name = cell.name_is;
    begins = seen_begins s v cell begins;
    lawful = seen_lawful s v cell begins;
    clocks = seen_kept s v cell begins;
    in_range = cell.in_range;
    own_is = sym (ap (λ (es : List Entry). steps_of v.of s.node es) behind.mine ∙ (append-nil (own s.node v.of.base) ∙ (ap (own s.node) behind.base ∙ own_history calm)));
    told = client.told;
    gone = told_still retired;
  }

  -- what it was answered is told, though a call of it waits
  told_left : answered_only (visible_of (own s.node s.seen)) ≡ answered_only (visible_of (own s.node v.of.base))
  told_left = by_lost s.is_lost refl ∙ ap (λ (es : List Entry). answered_only (visible_of (own s.node es))) (sym behind.base)
    where
      by_left : (b : Bool) → IsLeft (own s.node s.seen) (own s.node p.history.items) b → answered_only (visible_of (own s.node s.seen)) ≡ answered_only (visible_of (own s.node p.history.items))
      by_left true left = client.told ∙ sym (ap answered_only left.1 ∙ answered_left (visible_of (own s.node s.seen)) left.0 client.told)
      by_left false left = ap (λ (es : List Entry). answered_only (visible_of es)) (sym left)

      by_lost : (b : Bool) → s.is_lost ≡ b → answered_only (visible_of (own s.node s.seen)) ≡ answered_only (visible_of (own s.node p.history.items))
      by_lost false is = ap (λ (es : List Entry). answered_only (visible_of es)) (client.own_is is)
      by_lost true is = by_left s.waits (client.left is kept)

  -- a seat that goes on as a client of a number that was not used before
  pub moves_on : (n : Node) → own n v.of.base ≡ [] → All (λ m. IsTrue (is_retired v.of m)) s.earlier → IsTrue (is_retired v.of s.node) → SitsOn s n (s.earlier ++ s.node ∷ []) v
  moves_on n unused retired own_retired =
      let anew = starts_anew s v cell begins n behind.mine unused in
      record {
        name = anew.name;
        begins = anew.begins;
        lawful = anew.lawful;
        clocks = anew.clocks;
        in_range = anew.in_range;
        own_is = anew.own_is;
        told = anew.told;
        gone = All-push (IsGone v s.seen) s.earlier s.node (told_still retired) (record { retired = own_retired; told = told_left });
      }

-- a client of a number that was not used before shows what the one before it was answered
pub shows_moved : (s new : SeatState) (n : Node) → new.node ≡ n → new.earlier ≡ s.earlier ++ s.node ∷ [] → new.seen ≡ s.seen → own n s.seen ≡ [] → answered_only (visible_of (own s.node s.seen)) ≡ visible_of (own s.node s.seen)
    → shown new ≡ shown s
shows_moved s new n node_is earlier seen none told =
    let f : Node → List Visible = λ m. answered_only (visible_of (own m s.seen)) in
    ap (λ (es : List Entry). flat_map (λ m. answered_only (visible_of (own m es))) new.earlier ++ visible_of (own new.node es)) seen
    ∙ (ap (λ (ms : List Node). flat_map f ms ++ visible_of (own new.node s.seen)) earlier
    ∙ (ap (λ (m : Node). flat_map f (s.earlier ++ s.node ∷ []) ++ visible_of (own m s.seen)) node_is
    ∙ (ap (λ (es : List Entry). flat_map f (s.earlier ++ s.node ∷ []) ++ visible_of es) none
    ∙ (append-nil (flat_map f (s.earlier ++ s.node ∷ []))
    ∙ (flat_map-more f s.earlier s.node ∙ ap (λ (l : List Visible). flat_map f s.earlier ++ l) told)))))
  where
    flat_map-more : (f : Node → List Visible) (xs : List Node) (y : Node) → flat_map f (xs ++ y ∷ []) ≡ flat_map f xs ++ f y
    flat_map-more f [] y = append-nil (f y)
    flat_map-more f (x ∷ xs) y = ap (λ (l : List Visible). f x ++ l) (flat_map-more f xs y) ∙ sym (append_assoc (f x) (flat_map f xs) (f y))
