use Rattle.std.proofs.Common.{◌≡◌, drop}
use Rattle.snapshot.specs.Copies.{are_closed}
use Rattle.snapshot.proofs.commit.are_closed.Given as goal

abbrev pub invariant-loop-handle : goal.invariant-loop-handle
invariant-loop-handle l = are_closed l.table.table l.now.0 (drop l.handle-index l.handles) ≡ are_closed l.table.table l.now.0 l.handles
