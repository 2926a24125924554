use Rattle.std.proofs.Common.{◌≡◌, ◌+◌, drop, length}
use Rattle.std.specs.Prelude.{map}
use Rattle.std.specs.FinMap.{entries}
use Rattle.messages.specs.declared.message.ReplicaLine.{ReplicaLine}
use Rattle.master_plan.proofs.reports.are_same.Given as goal

-- the lines so far are the entries so far
abbrev pub invariant-loop-handle : goal.invariant-loop-handle
invariant-loop-handle l =
    (l.handle-iterator ≡ map (λ (x : ReplicaLine). (x.handle.0, x.version.0)) (drop l.index l.replicas)
    → entries l.held ≡ map (λ (x : ReplicaLine). (x.handle.0, x.version.0)) l.replicas)
    × (l.index + length l.handle-iterator ≡ length l.replicas)
