use Rattle.std.proofs.Common.{◌≡◌, []}
use Rattle.tests_stores.proofs.refused.go_on.Given as goal

abbrev pub invariant-loop-number : goal.invariant-loop-number
invariant-loop-number l = l.log.under_way ≡ []
