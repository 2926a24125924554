use Rattle.tests_stores.specs.Usable.{IsUsable}
use Rattle.tests_stores.proofs.chunk_calls.go.Given as goal

abbrev pub invariant-loop-number : goal.invariant-loop-number
invariant-loop-number g l = IsUsable l.store
