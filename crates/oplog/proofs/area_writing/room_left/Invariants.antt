use Rattle.std.proofs.Common.{◌≡◌, ◌+◌, ◌≤◌, length}
use Rattle.std.specs.List.{AllByRecursion}
use Rattle.log_codec.specs.Payloads.{IsWritable}
use Rattle.oplog.specs.Entries.{entries}
use Rattle.oplog.proofs.area_writing.room_left.Given as goal

abbrev pub invariant-loop-first : goal.invariant-loop-first
invariant-loop-first l = AllByRecursion IsWritable l.rest × (length (entries l.items) + l.left ≡ length (entries l.rest) + l.room) × (l.left ≤ l.room)

abbrev pub decreases-loop-first : goal.decreases-loop-first
decreases-loop-first l = length l.rest
