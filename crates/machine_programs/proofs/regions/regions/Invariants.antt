use Rattle.std.proofs.Common.{◌≡◌, ◌-◌, reverse}
use Rattle.relaxed_file.specs.Regions.{regions_from}
use Rattle.machine_programs.proofs.regions.regions.Given as goal

-- the regions of the last places, as many as were passed
abbrev pub invariant-loop-passed : goal.invariant-loop-passed
invariant-loop-passed l = reverse l.regions.items ≡ regions_from l.entries (l.end - l.passed) l.passed
