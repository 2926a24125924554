-- Entries of the code as entries of a journal.
use Rattle.std.specs.Prelude.{ℕ, List}
use Rattle.gfs_types.specs.declared.ids.Node.{Node}
use Rattle.messages.specs.declared.event.StepOut.{StepOut}
use Rattle.protocol.specs.declared.seen.Seen.{Seen}
use Rattle.protocol_journal.specs.Journal.{StepCause, Calls, Takes, Restarts, Entry}
use Rattle.cell_journal.specs.declared.step_cause.StepCause.{StepCause as CodeStepCause}
use Rattle.cell_journal.specs.declared.step_cause.StepCause.TheVariants as code

abbrev pub cause_of : CodeStepCause → StepCause
cause_of (code.Calls call) = Calls call
cause_of (code.Takes given) = Takes given
cause_of code.Restarts = Restarts

abbrev pub entry : Node → ℕ → StepCause → StepOut → List Seen → Entry
entry node moment cause out seen = record { node = node; moment = moment; cause = cause; out = out; seen = seen }
