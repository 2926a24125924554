use Rattle.std.proofs.Common.{◌≡◌, true}
use Rattle.tests_stores.proofs.plan.change_all.Given as goal

abbrev pub invariant-loop-number : goal.invariant-loop-number
invariant-loop-number g l = l.log.is_open ≡ true
