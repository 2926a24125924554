use Rattle.std.proofs.Common.{◌≡◌, ℕ, length}
use Rattle.protocol.specs.MasterSnapshots.{live_snapshots}
use Rattle.master_waiting.proofs.locked_list.LockedSnapshots.keep_live.Given as goal

-- those that stay are the same
abbrev pub invariant-loop-index : goal.invariant-loop-index
invariant-loop-index l = live_snapshots l.now l.self ≡ live_snapshots l.now l.fn.self

abbrev pub decreases-loop-index : goal.decreases-loop-index
decreases-loop-index l = length l.self
