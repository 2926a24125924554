use Rattle.std.proofs.Common.{◌≡◌, ◌++◌}
use Rattle.snapshot.specs.Copies.{are_paths}
use Rattle.snapshot.proofs.plan.with_paths.Given as goal

-- what is left completes the copies, and those so far have paths
abbrev pub invariant-loop-name : goal.invariant-loop-name
invariant-loop-name l = record {
  put : l.copies.items ++ l.name-iterator.rest.items ≡ l.fn.names.items;
  paths : are_paths l.name-iterator.rest.items ≡ are_paths l.fn.names.items;
}
