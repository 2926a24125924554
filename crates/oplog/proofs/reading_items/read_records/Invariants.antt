use Rattle.std.proofs.Common.{length}
use Rattle.oplog.proofs.Parsing.{ReadRecords}
use Rattle.oplog.proofs.reading_items.read_records.Given as goal

abbrev pub invariant-loop-alloc : goal.invariant-loop-alloc
invariant-loop-alloc l = ReadRecords l.records l.rest l.bytes

abbrev pub decreases-loop-alloc : goal.decreases-loop-alloc
decreases-loop-alloc l = length l.rest
