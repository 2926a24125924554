-- How a step ends, from what was planned.
use Rattle.std.specs.Prelude.{◌≡◌, ℕ, Bool, true, false, List, [], None}
use Rattle.messages.specs.declared.event.NodeInput.{NodeInput}
use Rattle.messages.specs.declared.event.StepOut.{StepOut}
use Rattle.protocol.specs.Logged.{LogDisk, LogChange, log_changed_by_all}
use Rattle.protocol.specs.MasterStep.{master_goes, is_within_limits}
use Rattle.master_plan.specs.Plans.{PlanState, master_of, known, doing, resting}
use Rattle.master_cell.specs.Commits.{IsStopped}

-- a step on an input comes to this plan, for some answers to growths of the names
pub record Goes (disk : LogDisk) (old : PlanState) (moment : ℕ) (i : NodeInput) (new : PlanState) : Type 0 where
  pub used : List Bool
  pub leads : master_goes (master_of disk (resting old)) moment i used ≡ doing disk new

-- what a step gives that went through
abbrev pub step_out : PlanState → StepOut
step_out p = record { sent = p.sent; answer = None; down = false }

-- all changes were made, and no counter is past its limit
pub record AllMade (disk : LogDisk) (p : PlanState) (new_disk : LogDisk) (under_way : List LogChange) : Type 0 where
  pub within : is_within_limits (known p) ≡ true
  pub disk_is : new_disk ≡ log_changed_by_all disk p.changes
  pub none : under_way ≡ []

-- whether all were made
abbrev pub AreMade : LogDisk → PlanState → Bool → LogDisk → List LogChange → Type 0
AreMade disk p true new_disk under_way = AllMade disk p new_disk under_way
AreMade disk p false new_disk under_way = IsStopped disk p.changes new_disk under_way
