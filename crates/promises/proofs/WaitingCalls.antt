-- The call that a client waits for in a run is the one that its calls and answers tell.
use Rattle.std.proofs.Common.{◌≡◌, ℕ, true, false, cond, List, [], ◌∷◌, ◌++◌, Option, Some, None, refl, sym, ◌∙◌, ap, inl, inr}
use Rattle.std.specs.Prelude.{◌==◌}
use Rattle.std.specs.List.{cons_option}
use Rattle.std.proofs.lemmas.Bool.{eq-eqb, ne_eqb}
use Rattle.std.proofs.lemmas.Option.{none-some}
use Rattle.gfs_types.specs.declared.call.Call.{Call}
use Rattle.relaxed_file.specs.Machine.{Machine, Asked, OpenCall}
use Rattle.relaxed_file.specs.Run.{Action, Visible, Called, Answered, Passed, shown, visible, after, after_all, IsLawful}
use Rattle.relaxed_file.proofs.CallSteps.{IsOthers, CallStep, call_step}
use Rattle.promises.specs.Answered.{waiting_call}

abbrev pub call_of : Option OpenCall → Option Call
call_of None = None
call_of (Some c) = Some c.asked.call

abbrev pub waiting_after : ℕ → Option Call → Option Visible → Option Call
waiting_after client now None = now
waiting_after client now (Some v) = waiting_call client now (v ∷ [])

pub waiting_others : (client : ℕ) (now : Option Call) (v : Option Visible) → IsOthers client v → waiting_after client now v ≡ now
waiting_others client now None other = refl
waiting_others client now (Some (Called who asked)) other = ap (λ b. cond b (Some asked) now) (ne_eqb client who other)
waiting_others client now (Some (Answered who reply)) other = ap (λ b. cond b None now) (ne_eqb client who other)
waiting_others client now (Some (Passed moment)) other = refl

waiting_step : (m : Machine) (client : ℕ) (v : Option Visible) (old new : Option OpenCall) → CallStep m client v old new → call_of new ≡ waiting_after client (call_of old) v
waiting_step m client v old new (inl made) =
    ap call_of made.3 ∙ sym (ap (waiting_after client (call_of old)) made.1 ∙ ap (λ b. cond b (Some made.0) (call_of old)) (eq-eqb client client refl))
waiting_step m client v old new (inr (inl ended)) =
    ap call_of ended.4 ∙ sym (ap (waiting_after client (call_of old)) ended.1 ∙ ap (λ b. cond b None (call_of old)) (eq-eqb client client refl))
waiting_step m client v old new (inr (inr (other, inl going))) =
    ap call_of going.3 ∙ ap (λ (a : Asked). Some a.call) (sym (going.4).1) ∙ sym (waiting_others client (call_of old) v other ∙ ap call_of going.2)
waiting_step m client v old new (inr (inr (other, inr none))) =
    ap call_of none.1 ∙ sym (waiting_others client (call_of old) v other ∙ ap call_of none.0)

pub waiting_cons : (client : ℕ) (now : Option Call) (o : Option Visible) (rest : List Visible) → waiting_call client now (cons_option o rest) ≡ waiting_call client (waiting_after client now o) rest
waiting_cons client now None rest = refl
waiting_cons client now (Some (Called who asked)) rest = refl
waiting_cons client now (Some (Answered who reply)) rest = refl
waiting_cons client now (Some (Passed moment)) rest = refl

-- in a run from any state
pub waiting_by_actions : (client : ℕ) (m : Machine) (actions : List Action) → IsLawful m actions
    → call_of ((after_all m actions).clients client).open_call ≡ waiting_call client (call_of (m.clients client).open_call) (visible actions)
waiting_by_actions client m [] lawful = refl
waiting_by_actions client m (x ∷ xs) lawful =
    waiting_by_actions client (after m x) xs lawful.1
    ∙ ap (λ now. waiting_call client now (visible xs)) (waiting_step m client (shown x) _ _ (call_step m client x lawful.0))
    ∙ sym (waiting_cons client (call_of (m.clients client).open_call) (shown x) (visible xs))

pub waiting-append : (client : ℕ) (xs ys : List Visible) (now : Option Call) → waiting_call client now (xs ++ ys) ≡ waiting_call client (waiting_call client now xs) ys
waiting-append client [] ys now = refl
waiting-append client (Called who asked ∷ xs) ys now = waiting-append client xs ys (cond (client == who) (Some asked) now)
waiting-append client (Answered who reply ∷ xs) ys now = waiting-append client xs ys (cond (client == who) None now)
waiting-append client (Passed moment ∷ xs) ys now = waiting-append client xs ys now

-- a call that was made in this part of the trace is the one that waits, whatever waited before
pub waiting_since : (client : ℕ) (now : Option Call) (asked : Call) (xs : List Visible) → waiting_call client None xs ≡ Some asked → waiting_call client now xs ≡ Some asked
waiting_since client now asked [] is = absurd (none-some asked is)
waiting_since client now asked (Called who c ∷ xs) is =
    elim (client == who) as (λ b. waiting_call client (cond b (Some c) None) xs ≡ Some asked → waiting_call client (cond b (Some c) now) xs ≡ Some asked) [
      | true ↦ λ h. h
      | false ↦ λ h. waiting_since client now asked xs h
    ] is
waiting_since client now asked (Answered who reply ∷ xs) is =
    elim (client == who) as (λ b. waiting_call client (cond b None None) xs ≡ Some asked → waiting_call client (cond b None now) xs ≡ Some asked) [
      | true ↦ λ h. h
      | false ↦ λ h. waiting_since client now asked xs h
    ] is
waiting_since client now asked (Passed moment ∷ xs) is = waiting_since client now asked xs is
