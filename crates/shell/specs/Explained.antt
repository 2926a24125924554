-- What a script's lines come to in the protocol's worlds, and that a run of the relaxed-file machine explains it where disks were kept.
use Rattle.std.specs.Prelude.{◌≡◌, ◌⊎◌, ⊤, ℕ, IsTrue, List, [], ◌∷◌, ◌++◌, length, Option}
use Rattle.std.specs.List.{flat_map}
use Rattle.messages.specs.declared.message.Message.{Message}
use Rattle.script.specs.Answers.{answer_line}
use Rattle.script.specs.declared.script_fault.ScriptFault.{ScriptFault}
use Rattle.script.specs.declared.script_fault.ScriptFault.TheVariants as fault
use Rattle.relaxed_file.specs.Machine.{Machine}
use Rattle.relaxed_file.specs.Run.{Visible, Called, Answered, Passed}
use Rattle.protocol.specs.Choice.{Choice}
use Rattle.protocol.specs.Conforms.{WorldRuns}
use Rattle.protocol.specs.World.{WorldState, happens}
use Rattle.protocol.specs.Explained.{Explains}
use Rattle.cell_world.specs.Held.{HeldCell}
use Rattle.cell_world.specs.Looks.{server_count}
use Rattle.protocol_journal.specs.Rebased.{raised_event, restart_events}
use Rattle.cell_core.specs.Standing.{StandsFor}
use Rattle.cell_core.specs.Traced.{AddsToTrace}
use Rattle.script.specs.declared.cell_lines.CellLine.{CellLine}
use Rattle.script.specs.declared.cell_lines.CellLine.TheVariants as line
use Rattle.cell_simulator.specs.Cells.{Meaning}
use Rattle.cell_simulator.specs.Steps.{Step, Simulated, lines_of, with_feed}
use Rattle.cell_simulator.specs.Lines.{IsEndless}
use Rattle.cell_simulator.specs.Scripts.{ComeTo, RunsOn, StopsWith}

-- the event leads from one world to the other, for some choice, with just this answer, which it adds to the trace
pub record LeadsTo (w : WorldState) (s : Step) (v : WorldState) : Type 0 where
  pub choice : Choice
  pub answer_is : (happens w s.event choice).out.answer ≡ s.answer
  pub world_is : (happens w s.event choice).world ≡ v
  pub traced : AddsToTrace w s.event s.answer v

-- a step with messages counted on from those that were dropped
abbrev pub raised_step : List Message → Step → Step
raised_step dropped s = record s { event = raised_event (length dropped) s.event }

-- the messages that were dropped before, or all that were sent
abbrev pub MayDrop : WorldState → List Message → List Message → Type 0
MayDrop w dropped later = (later ≡ dropped) ⊎ (later ≡ w.sent)

-- Steps lead from one world to the other. Before each, and behind them, all messages may be dropped; none of them comes any more.
abbrev pub LeadTo : WorldState → List Message → List Step → WorldState → List Message → Type 0
LeadTo w dropped [] v last = (v ≡ w) × MayDrop w dropped last
LeadTo w dropped (s ∷ rest) v last =
    (later : List Message) × MayDrop w dropped later × (u : WorldState) × LeadsTo w (raised_step later s) u × LeadTo u later rest v last

-- A line leads from one world to the other: by its steps, or by restarts of the master and of each server, after which all messages are dropped.
abbrev pub LineLeads : {C : Type 0} (held : C → HeldCell) (w : WorldState) (dropped : List Message) (old : Simulated C) → CellLine → List Step → WorldState → List Message → Type 0
LineLeads held w dropped old line.Rebase steps v later = WorldRuns w (restart_events (server_count (held old.cell)) old.clock) [] v × (later ≡ v.sent)
LineLeads held w dropped old other steps v later = LeadTo w dropped steps v later

-- what is printed of what clients see: each answer
abbrev pub shown_of : Visible → List ℕ
shown_of (Called client asked) = []
shown_of (Answered client reply) = with_feed (answer_line client reply)
shown_of (Passed moment) = []

-- The cell stands for the world that a line led to, and clients see just the answers that are printed. Where disks were kept, a run of the machine has all calls and answers so far, and led to what that world shows.
pub record IsRunOfMachine (w : WorldState) (dropped : List Message) (printed : List ℕ) (cell : HeldCell) (v : WorldState) : Type 0 where
  pub held_as : StandsFor v dropped cell
  pub seen : List Visible
  pub trace_is : v.observer.trace ≡ w.observer.trace ++ seen
  pub answers_are : flat_map shown_of seen ≡ printed
  pub explained : IsTrue v.observer.are_disks_kept → (m : Machine) × Explains v m

-- So it is of the worlds that lines led to, one after another, up to the last world, and the messages that were dropped until then.
abbrev pub AreRunsOfMachine : {C : Type 0} (m : Meaning C) (held : C → HeldCell) (w : WorldState) (dropped : List Message) (old : Simulated C) (lines : List CellLine) (new : Simulated C) (printed : List ℕ) → ComeTo m old lines new printed → WorldState → List Message → Type 0
AreRunsOfMachine m held w dropped old [] new printed come v last = (v ≡ w) × (last ≡ dropped)
AreRunsOfMachine m held w dropped old (l ∷ rest) new printed come v last =
    (u : WorldState) × (later : List Message) × LineLeads held w dropped old l come.3.steps u later × IsRunOfMachine w later (lines_of come.3.steps) (held come.0.cell) u
    × AreRunsOfMachine m held u later come.0 rest new come.2 come.4 v last

-- the lines that ran, from one world on, in which no message was dropped, to the other
abbrev pub AreExplained : {C : Type 0} {m : Meaning C} {old new : Simulated C} {before after : Option (List ℕ)} {lines : List CellLine} → (C → HeldCell) → WorldState → RunsOn m old new before after lines → WorldState → List Message → Type 0
AreExplained {m} {old} {new} {lines} held w r v dropped = AreRunsOfMachine m held w [] old lines new r.printed r.come v dropped

-- a line that went on without an end, from this world on
abbrev pub IsEndlessExplained : {C : Type 0} (m : Meaning C) (held : C → HeldCell) (w : WorldState) (dropped : List Message) (old : Simulated C) (before after : Option (List ℕ)) → Type 0
IsEndlessExplained {C} m held w dropped old before after =
    (l : CellLine) (new : Simulated C) (endless : IsEndless m old l new before after)
    → (v : WorldState) × (last : List Message) × LeadTo w dropped endless.goes.steps v last × IsRunOfMachine w last (lines_of endless.goes.steps) (held new.cell) v

-- The lines that ran before a script stopped, where something is known of them, and the one that had no end.
abbrev pub AreExplainedUntil : {C : Type 0} (m : Meaning C) (held : C → HeldCell) (w : WorldState) (first : Simulated C) (script before after : Option (List ℕ)) (f : ScriptFault) → StopsWith m first script before after f → Type 0
AreExplainedUntil m held w first script before after (fault.Line number) stops = (v : WorldState) × (dropped : List Message) × AreExplained held w stops.runs v dropped
AreExplainedUntil m held w first script before after (fault.NoEnd number) stops =
    (v : WorldState) × (dropped : List Message) × AreExplained held w stops.runs v dropped × IsEndlessExplained m held v dropped stops.world stops.middle after
AreExplainedUntil m held w first script before after fault.Read stops = (v : WorldState) × (dropped : List Message) × AreExplained held w stops.1.runs v dropped
AreExplainedUntil m held w first script before after other stops = ⊤
