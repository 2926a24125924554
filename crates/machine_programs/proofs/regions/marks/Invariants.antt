use Rattle.std.proofs.Common.{◌≡◌, ◌<◌, ℕ, drop, get_or, length, option_map, true, unwrap_or}
use Rattle.relaxed_file.specs.Order.{last_cover}
use Rattle.relaxed_file.specs.Regions.{is_determined}
use Rattle.machine_programs.proofs.regions.marks.Given as goal

-- of each place what is left decides, and where nothing in it covers the place, the mark
abbrev pub invariant-loop-entry : goal.invariant-loop-entry
invariant-loop-entry l =
    (length l.marks.items ≡ l.end)
    × ((place : ℕ) → place < l.end → unwrap_or (option_map (λ e. e.settled) (last_cover (drop l.entry-index l.entries) place)) (get_or l.marks.items place true) ≡ is_determined l.entries place)
