-- The master between two steps.
use Rattle.std.specs.Prelude.{◌≡◌, ℕ, Bool, true, false, List, []}
use Rattle.gfs_types.specs.declared.config.Config.{Config}
use Rattle.protocol.specs.Logged.{LogDisk, LogChange}
use Rattle.protocol.specs.Master.{MasterState, stopped_master}
use Rattle.master_plan.specs.Plans.{PlanState, master_of, known, resting}

-- up, with what it knows, or down, with its settings, its disk and what is under way
abbrev pub standing : Bool → LogDisk → List LogChange → Config → ℕ → PlanState → MasterState
standing true disk under_way config server_count p = record (master_of disk (resting p)) { under_way = under_way }
standing false disk under_way config server_count p = stopped_master (record (known p) { config = config; server_count = server_count }) disk under_way

-- a master that is up has nothing under way, and the settings that it was made with
pub record IsResting (under_way : List LogChange) (config : Config) (server_count : ℕ) (p : PlanState) : Type 0 where
  pub none : under_way ≡ []
  pub config_is : p.config ≡ config
  pub count_is : p.server_count ≡ server_count

-- A master over a log: what it is, and how often the disk of its log has failed.
pub record LoggedMasterState : Type 0 where
  pub state : MasterState
  pub failed : ℕ

abbrev pub logged_master : Bool → LogDisk → List LogChange → Config → ℕ → PlanState → ℕ → LoggedMasterState
logged_master up disk under_way config server_count p failed = record { state = standing up disk under_way config server_count p; failed = failed }
