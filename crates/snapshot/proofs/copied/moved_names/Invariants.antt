use Rattle.std.proofs.Common.{◌≡◌, ◌++◌}
use Rattle.snapshot.specs.Copies.{moved}
use Rattle.snapshot.proofs.copied.moved_names.Given as goal

-- what is left completes the names
abbrev pub invariant-loop-name : goal.invariant-loop-name
invariant-loop-name l = l.found.items ++ moved l.from l.to l.name-iterator.rest.items ≡ moved l.from l.to l.fn.names.items
