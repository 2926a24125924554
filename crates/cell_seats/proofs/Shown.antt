-- What is seen of a client's steps.
use Rattle.std.proofs.Common.{◌≡◌, ℕ, Bool, true, false, List, [], ◌∷◌, ◌++◌, Option, Some, None, refl, sym, ap, subst, ◌∙◌, inl, inr, append_assoc}
use Rattle.std.specs.Prelude.{length, map, Result, Ok, Err, IfOk, IfErr}
use Rattle.std.proofs.lemmas.List.{append-nil}
use Rattle.gfs_types.specs.declared.answer.Answer.{Answer}
use Rattle.gfs_types.specs.declared.call.Call.{Call}
use Rattle.gfs_types.specs.declared.ids.Node.{Node}
use Rattle.gfs_types.specs.declared.refusal.Refusal.{Refusal}
use Rattle.gfs_types.specs.declared.refusal.Refusal.TheVariants.{ClockBroken}
use Rattle.messages.specs.declared.message.Message.{Message}
use Rattle.protocol_journal.specs.Journal.{StepCause, Calls, Takes, Restarts, Entry, own, sent_after}
use Rattle.protocol_journal.specs.Whole.{raised_cause, raised_entry}
use Rattle.cell_journal.specs.Log.{Listed}
use Rattle.cell_journal.proofs.Begins.{prefix_self, prefix_trans}
use Rattle.cell_journal.specs.Clocks.{are_clocks_kept}
use Rattle.cell_journal.specs.declared.view.View.{View}
use Rattle.cell_journal.specs.Identity.{Identity}
use Rattle.cell_journal.specs.WholeHistories.{all_seen, steps_of}
use Rattle.cell_journal.specs.Writers.{IsLater, GoesOn}
use Rattle.cell_seats.specs.declared.mailboxes.Input.{Input}
use Rattle.cell_seats.specs.declared.mailboxes.Input.TheVariants.{Deliver, Tick, Restart}
use Rattle.cell_seats.specs.Slots.{IsInputOf, told_where, StepTaken, ActsOn}
use Rattle.cell_seats.specs.declared.client_call.AnsweredCall.{AnsweredCall}
use Rattle.cell_seats.specs.Seen.{Visible, Asked, Answered, asked_in, answered_in, visible_of, IsFurther, HasSeen, IsAnsweredCall, ShowsAnswer, TookNone, StaysUnanswered, answered_only}

visible_append : (xs ys : List Entry) → visible_of (xs ++ ys) ≡ visible_of xs ++ visible_of ys
visible_append [] ys = refl
visible_append (x ∷ xs) ys =
    ap (λ l. asked_in x.cause ++ answered_in x.out.answer ++ l) (visible_append xs ys) ∙ sym (append_assoc (asked_in x.cause ++ answered_in x.out.answer) (visible_of xs) (visible_of ys))

-- the same is seen of a step whatever the number of its message
asked_raised : (k : ℕ) (cause : StepCause) → asked_in (raised_cause k cause) ≡ asked_in cause
asked_raised k (Calls call) = refl
asked_raised k (Takes given) = refl
asked_raised k Restarts = refl

visible_raised : (k : ℕ) (es : List Entry) → visible_of (map (raised_entry k) es) ≡ visible_of es
visible_raised k [] = refl
visible_raised k (e ∷ es) =
    ap (λ l. l ++ answered_in e.out.answer ++ visible_of (map (raised_entry k) es)) (asked_raised k e.cause)
    ∙ ap (λ l. asked_in e.cause ++ answered_in e.out.answer ++ l) (visible_raised k es)

-- of all steps of a client
pub visible_steps : (cell : Identity) (n : Node) (mine : List Entry) → visible_of (steps_of cell n mine) ≡ visible_of (own n cell.base) ++ visible_of mine
visible_steps cell n mine =
    let k : ℕ = length (sent_after [] cell.base) in
    visible_append (own n cell.base) (map (raised_entry k) mine) ∙ ap (λ l. visible_of (own n cell.base) ++ l) (visible_raised k mine)

-- what is seen of one step more
visible_more : (v w : View) (e : Entry) → GoesOn v w e → visible_of w.mine ≡ visible_of v.mine ++ (asked_in e.cause ++ answered_in e.out.answer)
visible_more v w e goes =
    ap visible_of goes.mine ∙ (visible_append v.mine (e ∷ []) ∙ ap (λ l. visible_of v.mine ++ l) (append-nil (asked_in e.cause ++ answered_in e.out.answer)))

pub further : (v w : View) → IsLater v w → IsFurther v w
further v w later = record { of = later.of; grows = later.grows }

pub further_self : (v : View) → IsFurther v v
further_self v = record { of = refl; grows = prefix_self v.seen }

pub further_trans : (u v w : View) → IsFurther u v → IsFurther v w → IsFurther u w
further_trans u v w a b = record { of = b.of ∙ a.of; grows = prefix_trans u.seen v.seen w.seen a.grows b.grows }

-- what is told was answered, and clocks were kept
told_so : (kept : Bool) (answer o : Option Answer) → told_where kept answer ≡ Ok o → (kept ≡ true) × (answer ≡ o)
told_so true answer o h = (refl, (let both : ◌≡◌ {A = Result (Option Answer) Refusal} (Ok answer) (Ok o) = h in cc))
told_so false answer o h = absurd (let both : ◌≡◌ {A = Result (Option Answer) Refusal} (Err ClockBroken) (Ok o) = h in cc)

-- it is not told where clocks were not kept
not_told : (kept : Bool) (answer : Option Answer) (refusal : Refusal) → told_where kept answer ≡ Err refusal → refusal ≡ ClockBroken
not_told true answer refusal h = absurd (let both : ◌≡◌ {A = Result (Option Answer) Refusal} (Ok answer) (Err refusal) = h in cc)
not_told false answer refusal h = sym (let both : ◌≡◌ {A = Result (Option Answer) Refusal} (Err ClockBroken) (Err refusal) = h in cc)

not_kept : (kept : Bool) (answer : Option Answer) (refusal : Refusal) → told_where kept answer ≡ Err refusal → kept ≡ false
not_kept true answer refusal h = absurd (let both : ◌≡◌ {A = Result (Option Answer) Refusal} (Ok answer) (Err refusal) = h in cc)
not_kept false answer refusal h = refl

module _ (n : Node) (v w : View) (cause : StepCause) (answer : Result (Option Answer) Refusal) (beginning : Listed Entry) (count : ℕ) (t : StepTaken n v w cause answer beginning count) where
  pub further_taken : IsFurther v w
  further_taken = record { of = t.goes.of; grows = t.goes.grows }

  kept_and_told : (o : Option Answer) → answer ≡ Ok o → (are_clocks_kept w.of (all_seen w) ≡ true) × (t.entry.out.answer ≡ o)
  kept_and_told o is = told_so (are_clocks_kept w.of (all_seen w)) t.entry.out.answer o (sym t.answer_is ∙ is)

  has_seen : (h : AnsweredCall) → answer ≡ Ok (Some h.answer) → h.beginning ≡ beginning → h.count ≡ count → HasSeen n w h.beginning h.count
  has_seen h is b k = record {
    seen = (b ∙ t.seen.0, k ∙ t.seen.1);
    lawful = t.goes.lawful;
    clocks = (kept_and_told (Some h.answer) is).0;
    own_is = t.goes.own_is ∙ ap (λ (m : Node). own m w.seen) t.node_is;
    leaves = t.goes.leaves;
  }

  answer_of : (o : Option Answer) → answer ≡ Ok o → t.entry.out.answer ≡ o
  answer_of o is = (kept_and_told o is).1

  seen_so : visible_of w.mine ≡ visible_of v.mine ++ (asked_in cause ++ answered_in t.entry.out.answer)
  seen_so = visible_more v w t.entry t.goes ∙ ap (λ (x : StepCause). visible_of v.mine ++ (asked_in x ++ answered_in t.entry.out.answer)) t.cause_is

  -- what a step shows on which nothing but these was asked
  pub hears : (h : Option AnsweredCall) → IsAnsweredCall answer beginning count h → ShowsAnswer n (visible_of v.mine ++ asked_in cause) w h
  hears None is = seen_so ∙ (ap (λ (o : Option Answer). visible_of v.mine ++ (asked_in cause ++ answered_in o)) (answer_of None is) ∙ ap (λ l. visible_of v.mine ++ l) (append-nil (asked_in cause)))
  hears (Some h) is = (
    seen_so
        ∙ (ap (λ (o : Option Answer). visible_of v.mine ++ (asked_in cause ++ answered_in o)) (answer_of (Some h.answer) is.0)
        ∙ sym (append_assoc (visible_of v.mine) (asked_in cause) (Answered h.answer ∷ []))),
    has_seen h is.0 is.1 is.2,
  )

none_asked : (sent : List Message) (i : Input) (cause : StepCause) → IsInputOf sent i cause → asked_in cause ≡ []
none_asked sent (Deliver k) (Takes given) is = refl
none_asked sent (Deliver k) (Calls call) is = absurd is
none_asked sent (Deliver k) Restarts is = absurd is
none_asked sent Tick (Takes given) is = refl
none_asked sent Tick (Calls call) is = absurd is
none_asked sent Tick Restarts is = absurd is
none_asked sent Restart (Takes given) is = absurd is
none_asked sent Restart (Calls call) is = absurd is
none_asked sent Restart Restarts is = refl

pub hears_input : (n : Node) (v w : View) (i : Input) (answer : Result (Option Answer) Refusal) (beginning : Listed Entry) (count : ℕ) (h : Option AnsweredCall) → ActsOn n v w i answer beginning count
    → IsAnsweredCall answer beginning count h → ShowsAnswer n (visible_of v.mine) w h
hears_input n v w i answer beginning count h acts is =
    subst (λ (l : List Visible). ShowsAnswer n l w h) (ap (λ l. visible_of v.mine ++ l) (none_asked _ i acts.cause acts.names) ∙ append-nil (visible_of v.mine))
    (hears n v w acts.cause answer beginning count acts.taken h is)

pub further_input : (n : Node) (v w : View) (i : Input) (answer : Result (Option Answer) Refusal) (beginning : Listed Entry) (count : ℕ) → ActsOn n v w i answer beginning count → IsFurther v w
further_input n v w i answer beginning count acts = further_taken n v w acts.cause answer beginning count acts.taken

-- a lost message leaves what is seen of a client
pub hears_nothing : (n : Node) (v w : View) → IsLater v w → ShowsAnswer n (visible_of v.mine) w None
hears_nothing n v w later = ap visible_of later.mine

pub asked_answered : (before : List Visible) (call : Call) (reply : Answer) (all : List Visible) → all ≡ (before ++ Asked call ∷ []) ++ Answered reply ∷ [] → all ≡ before ++ Asked call ∷ Answered reply ∷ []
asked_answered before call reply all is = is ∙ append_assoc before (Asked call ∷ []) (Answered reply ∷ [])

pub answered_later : (before : List Visible) (call : Call) (reply : Answer) (was all : List Visible) → was ≡ before ++ Asked call ∷ [] → all ≡ was ++ Answered reply ∷ [] → all ≡ before ++ Asked call ∷ Answered reply ∷ []
answered_later before call reply was all is h = asked_answered before call reply all (h ∙ ap (λ l. l ++ Answered reply ∷ []) is)

pub answer_to_call : (r : Result (Option AnsweredCall) Refusal) (n m : Node) (v w : View) (call : Call) (answer : Result (Option Answer) Refusal) (beginning : Listed Entry) (count : ℕ) → m ≡ n
    → StepTaken n v w (Calls call) answer beginning count → IfOk r (λ h. IsAnsweredCall answer beginning count h) → IfOk r (λ h. ShowsAnswer m (visible_of v.mine ++ Asked call ∷ []) w h)
answer_to_call (Ok h) n m v w call answer beginning count is t heard =
    subst (λ (k : Node). ShowsAnswer k (visible_of v.mine ++ Asked call ∷ []) w h) (sym is) (hears n v w (Calls call) answer beginning count t h heard)
answer_to_call (Err e) n m v w call answer beginning count is t heard = tt

pub answer_to_input : (r : Result (Option AnsweredCall) Refusal) (n m : Node) (v w : View) (i : Input) (answer : Result (Option Answer) Refusal) (beginning : Listed Entry) (count : ℕ) → m ≡ n
    → ActsOn n v w i answer beginning count → IfOk r (λ h. IsAnsweredCall answer beginning count h) → IfOk r (λ h. ShowsAnswer m (visible_of v.mine) w h)
answer_to_input (Ok h) n m v w i answer beginning count is acts heard =
    subst (λ (k : Node). ShowsAnswer k (visible_of v.mine) w h) (sym is) (hears_input n v w i answer beginning count h acts heard)
answer_to_input (Err e) n m v w i answer beginning count is acts heard = tt

-- a step that ended with a refusal

pub took_none : (v w : View) (refusal : Refusal) → IsLater v w → TookNone v w refusal
took_none v w refusal later = inl later.mine

-- and so whatever the refusal is
pub refused_before : (r : Result (Option AnsweredCall) Refusal) (v w : View) → IsLater v w → IfErr r (TookNone v w)
refused_before (Ok h) v w later = tt
refused_before (Err refusal) v w later = took_none v w refusal later

refused_step : (r : Result (Option AnsweredCall) Refusal) (n : Node) (v w : View) (cause : StepCause) (answer : Result (Option Answer) Refusal) (beginning : Listed Entry) (count : ℕ)
    → StepTaken n v w cause answer beginning count → IfErr r (λ refusal. answer ≡ Err refusal) → IfErr r (TookNone v w)
refused_step (Ok h) n v w cause answer beginning count t is = tt
refused_step (Err refusal) n v w cause answer beginning count t is =
    let so = sym t.answer_is ∙ is in
    inr (not_told (are_clocks_kept w.of (all_seen w)) t.entry.out.answer refusal so, not_kept (are_clocks_kept w.of (all_seen w)) t.entry.out.answer refusal so)

pub refused_call : (r : Result (Option AnsweredCall) Refusal) (n : Node) (v w : View) (call : Call) (answer : Result (Option Answer) Refusal) (beginning : Listed Entry) (count : ℕ)
    → StepTaken n v w (Calls call) answer beginning count → IfErr r (λ refusal. answer ≡ Err refusal) → IfErr r (TookNone v w)
refused_call r n v w call answer beginning count t is = refused_step r n v w (Calls call) answer beginning count t is

pub refused_input : (r : Result (Option AnsweredCall) Refusal) (n : Node) (v w : View) (i : Input) (answer : Result (Option Answer) Refusal) (beginning : Listed Entry) (count : ℕ)
    → ActsOn n v w i answer beginning count → IfErr r (λ refusal. answer ≡ Err refusal) → IfErr r (TookNone v w)
refused_input r n v w i answer beginning count acts is = refused_step r n v w acts.cause answer beginning count acts.taken is

-- before the call was made
pub unanswered_first : (v w : View) (call : Call) (refusal : Refusal) → TookNone v w refusal → StaysUnanswered v call w (record { refusal = refusal; stands = false })
unanswered_first v w call refusal (inl same) = inl same
unanswered_first v w call refusal (inr clock) = inr clock

-- and after
pub unanswered_then : (v was w : View) (call : Call) (refusal : Refusal) → visible_of was.mine ≡ visible_of v.mine ++ Asked call ∷ [] → TookNone was w refusal
    → StaysUnanswered v call w (record { refusal = refusal; stands = true })
unanswered_then v was w call refusal asked (inl same) = inl (ap visible_of same ∙ asked)
unanswered_then v was w call refusal asked (inr clock) = inr clock

-- calls with their answers, and one more
pub answered_more : (before : List Visible) (call : Call) (reply : Answer) → answered_only before ≡ before → answered_only (before ++ Asked call ∷ Answered reply ∷ []) ≡ before ++ Asked call ∷ Answered reply ∷ []
answered_more [] call reply h = refl
answered_more (Asked c ∷ []) call reply h = absurd (let both : ◌≡◌ {A = List Visible} [] (Asked c ∷ []) = h in cc)
answered_more (Asked c ∷ Asked d ∷ rest) call reply h = absurd (let both : ◌≡◌ {A = List Visible} [] (Asked c ∷ Asked d ∷ rest) = h in cc)
answered_more (Asked c ∷ Answered r ∷ rest) call reply h =
    let tail : answered_only rest ≡ rest = (let both : ◌≡◌ {A = List Visible} (Asked c ∷ Answered r ∷ answered_only rest) (Asked c ∷ Answered r ∷ rest) = h in cc) in
    ap (λ (l : List Visible). Asked c ∷ Answered r ∷ l) (answered_more rest call reply tail)
answered_more (Answered r ∷ rest) call reply h = absurd (let both : ◌≡◌ {A = List Visible} [] (Answered r ∷ rest) = h in cc)

-- a call more that waits leaves those with their answers
pub answered_left : (before : List Visible) (call : Call) → answered_only before ≡ before → answered_only (before ++ Asked call ∷ []) ≡ before
answered_left [] call h = refl
answered_left (Asked c ∷ []) call h = absurd (let both : ◌≡◌ {A = List Visible} [] (Asked c ∷ []) = h in cc)
answered_left (Asked c ∷ Asked d ∷ rest) call h = absurd (let both : ◌≡◌ {A = List Visible} [] (Asked c ∷ Asked d ∷ rest) = h in cc)
answered_left (Asked c ∷ Answered r ∷ rest) call h =
    let tail : answered_only rest ≡ rest = (let both : ◌≡◌ {A = List Visible} (Asked c ∷ Answered r ∷ answered_only rest) (Asked c ∷ Answered r ∷ rest) = h in cc) in
    ap (λ (l : List Visible). Asked c ∷ Answered r ∷ l) (answered_left rest call tail)
answered_left (Answered r ∷ rest) call h = absurd (let both : ◌≡◌ {A = List Visible} [] (Answered r ∷ rest) = h in cc)
