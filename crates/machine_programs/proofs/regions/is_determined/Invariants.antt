use Rattle.std.proofs.Common.{◌≡◌, drop, option_map}
use Rattle.gfs_types.specs.Image.{newer}
use Rattle.relaxed_file.specs.Order.{last_cover}
use Rattle.machine_programs.proofs.regions.is_determined.Given as goal

-- what is left decides, and where nothing in it covers the place, what was found
abbrev pub invariant-loop-entry : goal.invariant-loop-entry
invariant-loop-entry l =
    newer l.settled (option_map (λ e. e.settled) (last_cover (drop l.entry-index l.entries) l.place)) ≡ option_map (λ e. e.settled) (last_cover l.entries l.place)
