use Rattle.std.proofs.Common.{length}
use Rattle.oplog.proofs.Items.{ReadItems}
use Rattle.oplog.proofs.reading_items.read_items.Given as goal

abbrev pub invariant-loop-rest : goal.invariant-loop-rest
invariant-loop-rest l = ReadItems l.items l.last l.rest l.bytes

abbrev pub decreases-loop-rest : goal.decreases-loop-rest
decreases-loop-rest l = length l.rest
