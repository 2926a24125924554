-- In every run only snapshots hold locks.
use Rattle.std.proofs.Common.{◌≡◌, ℕ, Option, Some, None, sym, ◌∙◌, subst, inl, inr}
use Rattle.std.specs.Prelude.{IsTrue}
use Rattle.std.proofs.lemmas.Bool.{false≢true}
use Rattle.relaxed_file.specs.Machine.{Machine, new_machine, OpenCall}
use Rattle.relaxed_file.specs.Locks.{is_snapshot}
use Rattle.relaxed_file.specs.Run.{Visible, shown, after}
use Rattle.relaxed_file.specs.RunLaws.{OnlySnapshotsHoldLocks}
use Rattle.relaxed_file.proofs.Reached.{kept_to}
use Rattle.relaxed_file.proofs.CallSteps.{GetsLocks, CallStep, call_step}

abbrev HoldsAsSnapshot : Option OpenCall → Type 0
HoldsAsSnapshot None = Unit {0}
HoldsAsSnapshot (Some c) = IsTrue c.has_locks → IsTrue (is_snapshot c.asked.call)

locks_go : (c d : OpenCall) → c.asked ≡ d.asked → GetsLocks c d → HoldsAsSnapshot (Some c) → HoldsAsSnapshot (Some d)
locks_go c d same (inl kept) h = λ holds. subst (λ a. IsTrue (is_snapshot a.call)) same (h (sym kept ∙ holds))
locks_go c d same (inr snapshot) h = λ holds. subst (λ a. IsTrue (is_snapshot a.call)) same snapshot

call_goes : (m : Machine) (client : ℕ) (v : Option Visible) (old new : Option OpenCall) → CallStep m client v old new → HoldsAsSnapshot old → HoldsAsSnapshot new
call_goes m client v old new (inl made) h = subst HoldsAsSnapshot (sym made.3) (λ holds. absurd (false≢true holds))
call_goes m client v old new (inr (inl ended)) h = subst HoldsAsSnapshot (sym ended.4) tt
call_goes m client v old new (inr (inr (others, inl going))) h = subst HoldsAsSnapshot (sym going.3) (locks_go going.0 going.1 (going.4).1 (going.4).7 (subst HoldsAsSnapshot going.2 h))
call_goes m client v old new (inr (inr (others, inr none))) h = subst HoldsAsSnapshot (sym none.1) tt

pub only_snapshots_hold_locks : OnlySnapshotsHoldLocks
only_snapshots_hold_locks config m client current reached is =
    subst HoldsAsSnapshot is
    (kept_to (λ k. HoldsAsSnapshot (k.clients client).open_call)
    (λ k action allowed h. call_goes k client (shown action) (k.clients client).open_call ((after k action).clients client).open_call (call_step k client action allowed) h)
    (new_machine config) m reached tt)
