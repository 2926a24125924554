use Rattle.std.proofs.Common.{◌≡◌, ◌++◌, drop}
use Rattle.std.specs.Prelude.{map, filter}
use Rattle.gfs_types.specs.Paths.{is_child}
use Rattle.relaxed_file.specs.Names.{listed}
use Rattle.machine_programs.proofs.listing.listing_of.Given as goal

-- what is left completes the list
abbrev pub invariant-loop-name : goal.invariant-loop-name
invariant-loop-name l =
    l.found ++ map listed (filter (λ e. is_child l.directory e.0) (drop l.name-index l.names)) ≡ map listed (filter (λ e. is_child l.directory e.0) l.names)
