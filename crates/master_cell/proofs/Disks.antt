-- A master over a disk, from its parts.
use Rattle.std.proofs.Common.{◌≡◌, ◌⊎◌, ℕ, List, [], inl, inr, subst}
use Rattle.gfs_types.specs.declared.config.Config.{Config}
use Rattle.messages.specs.declared.event.NodeInput.{NodeInput}
use Rattle.messages.specs.declared.event.StepOut.{StepOut}
use Rattle.disk_redo.specs.GateMoments.{LeavesOnly}
use Rattle.oplog.specs.NewLogs.{IsLogOf}
use Rattle.oplog.specs.Opening.{IsOpening}
use Rattle.oplog.specs.Reopening.{IsReopened}
use Rattle.stored_log.specs.Kept.{LeavesDecided}
use Rattle.protocol.specs.Conforms.{MasterSteps}
use Rattle.protocol.specs.Logged.{LogDisk, LogChange}
use Rattle.protocol.specs.Master.{MasterState}
use Rattle.protocol.specs.declared.seen.Seen.{Seen}
use Rattle.master_cell.specs.Opens.{OpensNot, OpensUp, down_over}
use Rattle.master_cell.specs.Disks.{FailsOver, OpensOver}

-- its log was read, and it is up
pub opens_over : (config : Config) (count : ℕ) (disk : List ℕ) (moment : ℕ) (new : MasterState) (log : LogDisk) → IsLogOf log.items log.records disk → OpensUp (down_over config count log []) moment new → OpensOver config count disk moment new
opens_over config count disk moment new log stood up = record { log = log; stood = stood; opens = up }

module _ {D : Type 0} (seen : D → List ℕ) (may_leave : D → List ℕ → Type 0) (moment_of : D → ℕ) (left_since : D → ℕ → List ℕ → Type 0) (config : Config) (count : ℕ) (disk : D) (moment : ℕ) (left : D) where
  -- its log could not be opened
  pub not_read : IsReopened (seen disk) (seen left) → LeavesOnly moment_of left_since disk left (IsOpening (seen disk) (may_leave disk)) → FailsOver seen may_leave moment_of left_since config count disk moment left
  not_read read stops = inl (record { reads = read; stops = stops })

  -- it could not be up
  pub not_up : (log new_log : LogDisk) (under_way : List LogChange) → IsLogOf log.items log.records (seen disk) → OpensNot (down_over config count log []) moment new_log under_way → LeavesDecided may_leave left new_log under_way
      → FailsOver seen may_leave moment_of left_since config count disk moment left
  not_up log new_log under_way stood opens leaves = inr (record { log = log; stood = stood; new_log = new_log; under_way = under_way; opens = opens; leaves = leaves })

-- a stop leaves the log that the master has
pub leaves_as : {D : Type 0} (may_leave : D → List ℕ → Type 0) (disk : D) (log new_log : LogDisk) (under_way new_under_way : List LogChange) → log ≡ new_log → under_way ≡ new_under_way
    → LeavesDecided may_leave disk log under_way → LeavesDecided may_leave disk new_log new_under_way
leaves_as may_leave disk log new_log under_way new_under_way same same_under_way leaves =
    subst (λ (l : LogDisk). LeavesDecided may_leave disk l new_under_way) same (subst (λ (u : List LogChange). LeavesDecided may_leave disk log u) same_under_way leaves)

-- a step, of which something was seen
pub steps_seen : (old new : MasterState) (moment : ℕ) (i j : NodeInput) (out : StepOut) (seen : List Seen) → j ≡ i → MasterSteps old moment j out seen new → (s : List Seen) × MasterSteps old moment i out s new
steps_seen old new moment i j out seen same steps = (seen, subst (λ (x : NodeInput). MasterSteps old moment x out seen new) same steps)
