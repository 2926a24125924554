-- How a master begins again, once it is decided what of its log was made.
use Rattle.std.specs.Prelude.{◌≡◌, ℕ, Bool, true, false, List, []}
use Rattle.gfs_types.specs.declared.config.Config.{Config}
use Rattle.messages.specs.declared.event.StepOut.{StepOut}
use Rattle.protocol.specs.Choice.{Ending, Goes, Stops}
use Rattle.protocol.specs.Seen.{Taken}
use Rattle.protocol.specs.Logged.{LogDisk, LogChange}
use Rattle.protocol.specs.Master.{MasterState, stopped_master}
use Rattle.protocol.specs.MasterStep.{started_master, opening, opens_as, has_opened}
use Rattle.protocol.specs.Conforms.{GivesMaster}

-- it went through, or stopped after so many changes
abbrev pub ending_of : Bool → ℕ → Ending
ending_of true made = Goes
ending_of false made = Stops made

-- an opening over this disk
abbrev pub opened : Config → ℕ → LogDisk → ℕ → Bool → ℕ → Taken MasterState
opened config count disk moment went made =
    let started : MasterState = started_master config count disk moment in
    opens_as started started (opening started) (record { ending = ending_of went made; order = []; refused = []; decided = [] }) (ending_of went made)

pub record Opens (old : MasterState) (moment : ℕ) (out : StepOut) (new : MasterState) : Type 0 where
  pub went : Bool
  pub made : ℕ
  pub gives : GivesMaster (opened old.config old.server_count old.disk moment went made) out [] new

-- a master that is down over this disk, with this under way
abbrev pub down_over : Config → ℕ → LogDisk → List LogChange → MasterState
down_over config count disk under_way = stopped_master (started_master config count disk 0) disk under_way

-- it opened, and is up
pub record OpensUp (old : MasterState) (moment : ℕ) (new : MasterState) : Type 0 where
  pub is_up : new.up ≡ true
  pub out : StepOut
  pub opens : Opens old moment out new

-- It could not be up, and left a log with this under way.
pub record OpensNot (old : MasterState) (moment : ℕ) (disk : LogDisk) (under_way : List LogChange) : Type 0 where
  pub new : MasterState
  pub is_down : new.up ≡ false
  pub out : StepOut
  pub opens : Opens old moment out new
  pub disk_is : disk ≡ new.disk
  pub under_way_is : under_way ≡ new.under_way

-- The log has no room for the epoch that an opening over this disk adds to it.
abbrev pub HasNoRoom : Config → ℕ → LogDisk → ℕ → Type 0
HasNoRoom config count disk moment =
    let started : MasterState = started_master config count disk moment in
    has_opened started (opening started) ≡ false
