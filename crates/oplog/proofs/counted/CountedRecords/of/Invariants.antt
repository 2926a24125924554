use Rattle.std.proofs.Common.{◌≡◌, take}
use Rattle.oplog.proofs.counted.CountedRecords.of.Given as goal

abbrev pub invariant-loop-entry : goal.invariant-loop-entry
invariant-loop-entry l = l.counted ≡ take l.entry-index l.records
