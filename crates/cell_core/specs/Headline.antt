-- The headline, of a cell as its code holds it: what its clients were answered is a run of the relaxed-file machine (sections 2.7.1 and 3).
use Rattle.std.specs.Prelude.{◌≡◌, ℕ, List, [], map, length, Option, None, IsTrue}
use Rattle.gfs_types.specs.declared.answer.Answer.{Answer}
use Rattle.gfs_types.specs.declared.config.Config.{Config}
use Rattle.gfs_types.specs.Settings.{first_out_of_range}
use Rattle.messages.specs.declared.event.Event.{Event}
use Rattle.messages.specs.declared.message.Message.{Message}
use Rattle.relaxed_file.specs.Machine.{Machine}
use Rattle.protocol.specs.Choice.{Choice}
use Rattle.protocol.specs.Conforms.{WorldRuns}
use Rattle.protocol.specs.World.{WorldState, happens, IsReached, is_kept}
use Rattle.promises.specs.ExplainedWorlds.{KeepsPromises}
use Rattle.protocol.specs.Explained.{Explains}
use Rattle.protocol_journal.specs.Rebased.{raised_event, restart_events}
use Rattle.cell_world.specs.Held.{HeldCell}
use Rattle.cell_world.specs.Looks.{server_count}
use Rattle.cell_core.specs.Standing.{StandsFor}
use Rattle.cell_core.specs.Traced.{AddsToTrace}

-- Under settings in their ranges, and where clocks and disks were kept, a run of the machine has the world's calls and answers, and led to what it shows.
abbrev pub IsMachineRun : Config → WorldState → Type 0
IsMachineRun config w = first_out_of_range config ≡ None → IsTrue (is_kept w) → (m : Machine) × Explains w m

-- So it is of each world that lawful events led to from a new one and that the cell stands for.
abbrev pub AreAnswersARun : HeldCell → Type 0
AreAnswersARun h =
    (config : Config) (servers clients : ℕ) (w : WorldState) (earlier : List Message) → IsReached config servers clients w → StandsFor w earlier h → IsMachineRun config w

-- From each such world the events lead to one, with just these answers, that the cell stands for then, and so it is of that world. A number in an event counts on from the messages that the cell dropped.
abbrev pub RunsAsMachine : HeldCell → List Event → List Answer → HeldCell → Type 0
RunsAsMachine old events answers new =
    (config : Config) (servers clients : ℕ) (w : WorldState) (earlier : List Message) → IsReached config servers clients w → StandsFor w earlier old
    → (next : WorldState) × WorldRuns w (map (raised_event (length earlier)) events) answers next × StandsFor next earlier new × IsMachineRun config next

-- One event leads to one, with just this answer, which it adds to the trace.
abbrev pub LeadsAsMachine : Config → WorldState → List Message → Event → Option Answer → HeldCell → Type 0
LeadsAsMachine config w earlier event answer new =
    (choice : Choice) × ((happens w event choice).out.answer ≡ answer) × AddsToTrace w event answer (happens w event choice).world
    × StandsFor (happens w event choice).world earlier new × IsMachineRun config (happens w event choice).world

abbrev pub StepsAsMachine : HeldCell → Event → Option Answer → HeldCell → Type 0
StepsAsMachine old event answer new =
    (config : Config) (servers clients : ℕ) (w : WorldState) (earlier : List Message) → IsReached config servers clients w → StandsFor w earlier old
    → LeadsAsMachine config w earlier (raised_event (length earlier) event) answer new

-- Restarts of the master and of each server lead to one of whose messages the cell dropped all.
abbrev pub RebasesAsMachine : HeldCell → ℕ → HeldCell → Type 0
RebasesAsMachine old moment new =
    (config : Config) (servers clients : ℕ) (w : WorldState) (earlier : List Message) → IsReached config servers clients w → StandsFor w earlier old
    → (next : WorldState) × WorldRuns w (restart_events (server_count old) moment) [] next × StandsFor next next.sent new × IsMachineRun config next

-- What users rely on: under the same conditions a run that explains such a world keeps all promises, in the words of the calls and answers so far.
abbrev pub ArePromisesKept : HeldCell → Type 0
ArePromisesKept h =
    (config : Config) (servers clients : ℕ) (w : WorldState) (earlier : List Message) → IsReached config servers clients w → StandsFor w earlier h
    → first_out_of_range config ≡ None → IsTrue (is_kept w) → KeepsPromises w
