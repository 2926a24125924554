-- Settings that were checked are in their ranges.
use Rattle.std.proofs.Common.{◌≡◌, ℕ, Bool, true, Option, Some, None, ap, ◌∙◌}
use Rattle.std.specs.Prelude.{is_none, if◌then◌else◌}
use Rattle.gfs_types.specs.declared.config.Config.{Config}
use Rattle.gfs_types.specs.Settings.{first_out_of_range}
use Rattle.memory_nodes.specs.Starts.{is_count}
use Rattle.cell_run.specs.Starts.{bad_start}
use Rattle.cell_run.specs.declared.start_fault.StartFault.{StartFault}
use Rattle.cell_run.specs.declared.start_fault.StartFault.TheVariants as faults

-- a cell of such settings and servers may be started
abbrev bad_of : Bool → Bool → Option StartFault
bad_of fits counts = if fits then (if counts then None else Some faults.Count) else Some faults.Config

pub good_start : (config : Config) (servers : ℕ) → is_none (first_out_of_range config) ≡ true → is_count servers ≡ true → bad_start config servers ≡ None
good_start config servers fits counts = ap (λ (b : Bool). bad_of b (is_count servers)) fits ∙ ap (bad_of true) counts
