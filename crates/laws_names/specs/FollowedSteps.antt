-- A whole step of the master in a reached world, beside a machine that has the same names: the machine follows it, and follows the log where it stops (sections 2.6.3, 3.4 and 4.1).
use Rattle.std.specs.Prelude.{◌≡◌, ℕ, Bool, List, [], IsTrue}
use Rattle.gfs_types.specs.declared.config.Config.{Config}
use Rattle.messages.specs.declared.message.Body.{Body}
use Rattle.messages.specs.declared.message.Body.TheVariants as body
use Rattle.messages.specs.declared.message.Message.{Message}
use Rattle.messages.specs.declared.event.NodeInput.{NodeInput}
use Rattle.messages.specs.declared.event.NodeInput.TheVariants as input
use Rattle.relaxed_file.specs.Machine.{Machine, OpenCall, new_machine}
use Rattle.relaxed_file.specs.NameStep.{is_look}
use Rattle.machine_names.specs.NameRuns.{LeadsByNames}
use Rattle.protocol.specs.Choice.{Choice, decided_changes, made_changes, change_under_way}
use Rattle.protocol.specs.Sending.{client_number}
use Rattle.protocol.specs.Logged.{LogDisk, LogChange, log_changed_by_all, replayed}
use Rattle.protocol.specs.Master.{MasterState, MasterDoing, master_begins}
use Rattle.protocol.specs.MasterStep.{master_at, master_goes, found_log, started_master, opening}
use Rattle.protocol.specs.World.{WorldState, IsReached}
use Rattle.laws_names.specs.Alike.{Requests, AreAlike, IsWaiting}
use Rattle.laws_names.specs.Followed.{RunsTo, IsTold, AreKeptOn, IsBeside, IsTimely, IsRequest}

-- the machine comes to this state, unseen, and what clients were told stays true
pub record ComesTo (m n : Machine) (requests : Requests) : Type 0 where
  pub run : RunsTo m n
  pub told : (x : Message) → IsTold m requests x → IsTold n requests x

-- a master as it begins a step, beside a machine that was run by names alone
pub record IsAtStep (config : Config) (m : MasterState) (n : Machine) (requests : Requests) : Type 0 where
  pub run : LeadsByNames (new_machine config) n
  pub settings : n.config ≡ m.config
  pub timely : IsTimely n m.now
  pub alike : AreAlike m.logged m.snapshots n requests

-- Of the client's open call are a Name that may take effect, and a Look of its number.
abbrev pub IsOfOpenCall : MasterDoing → Machine → Requests → Message → Body → Type 0
IsOfOpenCall d n requests x (body.Name number deadline c) = IsRequest d n requests (client_number x.sender) number deadline.0 c
IsOfOpenCall d n requests x (body.Look number c) = IsTrue (is_look c) × ((current : OpenCall) → IsWaiting n requests (client_number x.sender) number current → current.asked.call ≡ c)
IsOfOpenCall d n requests x other = Unit {0}

abbrev pub IsInputOfOpenCall : MasterDoing → Machine → Requests → NodeInput → Type 0
IsInputOfOpenCall d n requests (input.Deliver x) = IsOfOpenCall d n requests x x.body
IsInputOfOpenCall d n requests input.Tick = Unit {0}

-- The machine follows a step that goes through: names, files, kept answers and locks are the same again, what is told are outcomes, and new kept answers are to open requests.
abbrev pub StepsAreFollowed : Type 0
StepsAreFollowed =
    (config : Config) (servers clients : ℕ) (w : WorldState) → IsReached config servers clients w → IsTrue w.master.up
    → (moment : ℕ) (i : NodeInput) (refused : List Bool) (n : Machine) (requests : Requests)
    → IsAtStep config (master_at w.master moment) n requests → IsInputOfOpenCall (master_begins (master_at w.master moment) refused) n requests i
    → (k : Machine) × ComesTo n k requests × IsBeside (master_goes w.master moment i refused) k requests
    × AreKeptOn requests w.master.logged.kept (master_goes w.master moment i refused).master.logged.kept

-- what a stop after so many changes may leave of the log, as it is decided what was under way
abbrev pub log_left : LogDisk → List LogChange → ℕ → List Bool → LogDisk
log_left disk changes made decided = log_changed_by_all (log_changed_by_all disk (made_changes made changes)) (decided_changes decided (change_under_way made changes))

-- The machine follows a step that stops, for each way to decide what was under way, to where the log has come.
abbrev pub StoppedStepsAreFollowed : Type 0
StoppedStepsAreFollowed =
    (config : Config) (servers clients : ℕ) (w : WorldState) → IsReached config servers clients w → IsTrue w.master.up
    → (moment : ℕ) (i : NodeInput) (refused : List Bool) (n : Machine) (requests : Requests)
    → IsAtStep config (master_at w.master moment) n requests → IsInputOfOpenCall (master_begins (master_at w.master moment) refused) n requests i
    → (made : ℕ) (decided : List Bool)
    → (k : Machine) × ComesTo n k requests × AreAlike (replayed (log_left w.master.disk (master_goes w.master moment i refused).changes made decided)) [] k requests
    × AreKeptOn requests w.master.logged.kept (replayed (log_left w.master.disk (master_goes w.master moment i refused).changes made decided)).kept

-- the opening of a restart, which has read the log as it was decided
abbrev pub opened : MasterState → ℕ → Choice → MasterDoing
opened m moment choice = opening (started_master m.config m.server_count (found_log m choice) moment)

-- The machine beside the log that was decided is beside the master that opens; and where the opening stops, the machine follows the log for each way to decide what was under way.
abbrev pub RestartsAreFollowed : Type 0
RestartsAreFollowed =
    (config : Config) (servers clients : ℕ) (w : WorldState) → IsReached config servers clients w → (moment : ℕ) (choice : Choice) (n : Machine) (requests : Requests)
    → AreAlike (replayed (found_log w.master choice)) [] n requests
    → AreAlike (opened w.master moment choice).master.logged (opened w.master moment choice).master.snapshots n requests
    × AreKeptOn requests (replayed (found_log w.master choice)).kept (opened w.master moment choice).master.logged.kept
    × ((made : ℕ) (decided : List Bool)
    → (k : Machine) × ComesTo n k requests × AreAlike (replayed (log_left (found_log w.master choice) (opened w.master moment choice).changes made decided)) [] k requests
    × AreKeptOn requests (replayed (found_log w.master choice)).kept (replayed (log_left (found_log w.master choice) (opened w.master moment choice).changes made decided)).kept)
