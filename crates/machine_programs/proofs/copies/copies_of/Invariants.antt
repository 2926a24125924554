use Rattle.std.proofs.Common.{◌≡◌, ◌++◌, drop}
use Rattle.machine_programs.specs.NameTables.{copies_of}
use Rattle.machine_programs.proofs.copies.copies_of.Given as goal

-- what is left completes the list
abbrev pub invariant-loop-name : goal.invariant-loop-name
invariant-loop-name l = l.copies.items ++ copies_of l.from l.to (drop l.name-index l.names) ≡ copies_of l.from l.to l.names
