use Rattle.std.proofs.Common.{◌≡◌, []}
use Rattle.tests_stores.proofs.same.are_always_alike.Given as goal

abbrev pub invariant-loop-number : goal.invariant-loop-number
invariant-loop-number l = l.store.under_way ≡ []
