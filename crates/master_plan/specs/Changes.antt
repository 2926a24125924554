-- The changes of the log, as the definitions of the master have them.
use Rattle.std.specs.Prelude.{List, map}
use Rattle.protocol.specs.Logged.{LogChange, AppendRecord, WriteCheckpoint}
use Rattle.master_plan.specs.declared.change.PlannedChange.{PlannedChange}
use Rattle.master_plan.specs.declared.change.PlannedChange.TheVariants.{Append, Checkpoint}

abbrev pub change_of : PlannedChange → LogChange
change_of (Append entry) = AppendRecord entry
change_of (Checkpoint items) = WriteCheckpoint items

abbrev pub changes_of : List PlannedChange → List LogChange
changes_of changes = map change_of changes
