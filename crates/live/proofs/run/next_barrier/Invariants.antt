use Rattle.std.proofs.Common.{◌-◌, ◌≤◌, length}
use Rattle.live.proofs.run.next_barrier.Given as goal

abbrev pub invariant-loop-next : goal.invariant-loop-next
invariant-loop-next l = record { after : l.first ≤ l.next; within : l.next ≤ length l.lines }

abbrev pub decreases-loop-next : goal.decreases-loop-next
decreases-loop-next l = length l.lines - l.next
