-- A step that is planned, whose changes are taken out of the plan.
use Rattle.std.specs.Prelude.{◌≡◌, ℕ, List, []}
use Rattle.messages.specs.declared.event.NodeInput.{NodeInput}
use Rattle.protocol.specs.Logged.{LogDisk, LogChange}
use Rattle.master_plan.specs.Plans.{PlanState}
use Rattle.master_cell.specs.Ends.{Goes}

pub record Drafts (disk : LogDisk) (old : PlanState) (moment : ℕ) (i : NodeInput) (changes : List LogChange) (new : PlanState) : Type 0 where
  pub planned : PlanState
  pub goes : Goes disk old moment i planned
  pub changes_are : changes ≡ planned.changes
  pub rest : new ≡ record planned { changes = [] }
