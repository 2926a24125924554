use Rattle.std.proofs.Common.{◌≡◌}
use Rattle.tests_live.proofs.parking.mkdir_all.Given as goal

abbrev pub invariant-loop-name : goal.invariant-loop-name
invariant-loop-name g l = l.seat.cell ≡ l.fn.seat.cell
