use Rattle.std.proofs.Common.{◌≡◌, drop}
use Rattle.protocol.specs.Logged.{LogDisk}
use Rattle.master_reports.specs.Drops.{orders_drops}
use Rattle.master_plan.specs.Plans.{doing}
use Rattle.master_reports.proofs.drops.orders_drops.Given as goal

-- what is left comes to what is asked
abbrev pub invariant-loop-line : goal.invariant-loop-line
invariant-loop-line g l =
    (disk : LogDisk) → orders_drops (doing disk l.plan) l.server.0 (drop l.line-index l.drops) ≡ orders_drops (doing disk l.fn.plan) l.server.0 l.drops
