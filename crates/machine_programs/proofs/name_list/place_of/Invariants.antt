use Rattle.std.proofs.Common.{◌≡◌, ◌+◌, drop}
use Rattle.machine_programs.specs.NameKinds.{place_of}
use Rattle.machine_programs.proofs.name_list.place_of.Given as goal

-- all names so far stand before the path
abbrev pub invariant-loop-place : goal.invariant-loop-place
invariant-loop-place l = l.place + place_of l.path (drop l.place l.names) ≡ place_of l.path l.names
