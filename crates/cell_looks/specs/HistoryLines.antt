-- The lines of a history: what its clients called, and what they were answered, in its order.
use Rattle.std.specs.Prelude.{⊤, ℕ, List, [], ◌∷◌, ◌++◌, Option, Some}
use Rattle.std.specs.List.{flat_map}
use Rattle.gfs_types.specs.declared.answer.Answer.{Answer}
use Rattle.gfs_types.specs.declared.ids.Node.{Node}
use Rattle.gfs_types.specs.declared.ids.Node.TheVariants as node
use Rattle.protocol_journal.specs.Journal.{StepCause, Calls, Entry}
use Rattle.cell_seats.specs.Journals.{JournalState}
use Rattle.script.specs.CallLines.{asked_line, answered_line}
use Rattle.cell_looks.specs.Looks.{IsPartial}
use Rattle.cell_looks.specs.declared.history_fault.HistoryFault.{HistoryFault}
use Rattle.cell_looks.specs.declared.history_fault.HistoryFault.TheVariants as fault

-- what a client called with this step
abbrev pub asked_by : ℕ → Node → StepCause → List ℕ
asked_by moment (node.Client c) (Calls call) = asked_line moment c.0 call ++ 10 ∷ []
asked_by moment n cause = []

-- and what it was answered with it
abbrev pub answered_by : ℕ → Node → Option Answer → List ℕ
answered_by moment (node.Client c) (Some answer) = answered_line moment c.0 answer ++ 10 ∷ []
answered_by moment n reply = []

abbrev pub entry_lines : Entry → List ℕ
entry_lines e = asked_by e.moment e.node e.cause ++ answered_by e.moment e.node e.out.answer

abbrev pub history_lines : List Entry → List ℕ
history_lines entries = flat_map entry_lines entries

-- why not all lines were printed
abbrev pub IsHistoryFault : JournalState → HistoryFault → Type 0
IsHistoryFault j fault.Partial = IsPartial j
IsHistoryFault j other = ⊤
