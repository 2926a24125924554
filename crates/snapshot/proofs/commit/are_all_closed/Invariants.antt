use Rattle.std.proofs.Common.{◌≡◌, drop}
use Rattle.snapshot.specs.Copies.{are_all_closed}
use Rattle.snapshot.proofs.commit.are_all_closed.Given as goal

abbrev pub invariant-loop-copy : goal.invariant-loop-copy
invariant-loop-copy l = are_all_closed l.table.table l.now.0 (drop l.copy-index l.copies) ≡ are_all_closed l.table.table l.now.0 l.copies
