use Rattle.std.proofs.Common.{◌≡◌, drop}
use Rattle.std.specs.Ordering.{nat_cmp}
use Rattle.std.specs.Cmp.Lexicographic.{slice_cmp}
use Rattle.std.specs.FinMap.Entries.{find}
use Rattle.machine_programs.proofs.name_list.found.Given as goal

-- none of the names so far is the one
abbrev pub invariant-loop-name : goal.invariant-loop-name
invariant-loop-name l = find (slice_cmp nat_cmp) l.path (drop l.name-index l.names) ≡ find (slice_cmp nat_cmp) l.path l.names
