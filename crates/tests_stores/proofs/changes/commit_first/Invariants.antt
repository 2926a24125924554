use Rattle.std.proofs.Common.{◌≡◌, []}
use Rattle.tests_stores.proofs.changes.commit_first.Given as goal

abbrev pub invariant-loop-number : goal.invariant-loop-number
invariant-loop-number g l = g.S.ReplicaStore.under_way l.store ≡ []
