use Rattle.std.proofs.Common.{◌≡◌}
use Rattle.tests_live.proofs.resuming.make_clients.Given as goal

abbrev pub invariant-loop : goal.invariant-loop
invariant-loop l = l.cell.of ≡ l.fn.cell.of
