-- A master that lets its log's disk stop and begins again over it.
use Rattle.std.specs.Prelude.{◌≡◌, ⊤, ℕ, List, [], ◌∷◌, Option, Some, None}
use Rattle.gfs_types.specs.declared.config.Config.{Config}
use Rattle.disk.specs.Failing.{FuseState}
use Rattle.disk.specs.Writes.{LeftBy}
use Rattle.stored_log.specs.Kept.{DiskLogState, LeavesDecided}
use Rattle.protocol.specs.Logged.{new_log}
use Rattle.protocol.specs.Master.{MasterState}
use Rattle.protocol.specs.Tables.{Table}
use Rattle.master_cell.specs.Opens.{down_over}
use Rattle.master_cell.specs.Standing.{LoggedMasterState}

-- a master, and the chunks of all files as they stood when it was last up
pub record SlotState : Type 0 where
  pub state : MasterState
  pub files : Table (List ℕ)

-- The master that is held. Where none is, since it could not be up again, the one that was is down: over its log, over the log that stood on its disk, or over a new one.
abbrev pub slot_state : Config → ℕ → Option LoggedMasterState → Option DiskLogState → List DiskLogState → MasterState
slot_state config count (Some m) log before = m.state
slot_state config count None (Some l) before = down_over config count l.disk l.under_way
slot_state config count None None [] = down_over config count new_log []
slot_state config count None None (l ∷ rest) = down_over config count l.disk l.under_way

-- a master of these settings, of a cell of so many servers
pub record IsMasterOf (config : Config) (count : ℕ) (m : MasterState) : Type 0 where
  pub config_is : m.config ≡ config
  pub count_is : m.server_count ≡ count

-- Where no master is held, nor its log, but a disk, a stop leaves of it the master's log, with what is under way or without it.
abbrev pub IsDiskLeft : Config → ℕ → Option LoggedMasterState → Option DiskLogState → List DiskLogState → Option FuseState → Type 0
IsDiskLeft config count (Some m) log before disk = ⊤
IsDiskLeft config count None (Some l) before disk = ⊤
IsDiskLeft config count None None before None = ⊤
IsDiskLeft config count None None before (Some f) = (let m = slot_state config count None None before in LeavesDecided (λ (d : FuseState). LeftBy d.disk) f m.disk m.under_way)

-- the log of a master that is let go, or the one that is held
abbrev pub IsLetGo : Option LoggedMasterState → Option DiskLogState → Option DiskLogState → Type 0
IsLetGo None held log = log ≡ held
IsLetGo (Some m) held log = (l : DiskLogState) × (log ≡ Some l) × (l.disk ≡ m.state.disk) × (l.under_way ≡ m.state.under_way)
