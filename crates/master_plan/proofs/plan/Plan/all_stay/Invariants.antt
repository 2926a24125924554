use Rattle.std.proofs.Common.{◌≡◌, ℕ, true, ◌+◌, ◌<◌}
use Rattle.protocol.specs.Master.{is_present}
use Rattle.master_plan.specs.Plans.{known}
use Rattle.master_plan.proofs.plan.Plan.all_stay.Given as goal

-- those so far stay
abbrev pub invariant-loop-index : goal.invariant-loop-index
invariant-loop-index g l =
    let m = known l.self in
    (s : ℕ) → s < l.index → is_present m (s + 1) ≡ true → is_present (record m { now = l.moment }) (s + 1) ≡ true
