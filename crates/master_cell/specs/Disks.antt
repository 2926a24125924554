-- How a master begins over a disk.
use Rattle.std.specs.Prelude.{◌⊎◌, ℕ, List, []}
use Rattle.gfs_types.specs.declared.config.Config.{Config}
use Rattle.disk_redo.specs.GateMoments.{LeavesOnly}
use Rattle.oplog.specs.NewLogs.{IsLogOf}
use Rattle.oplog.specs.Opening.{IsOpening}
use Rattle.oplog.specs.Reopening.{IsReopened}
use Rattle.stored_log.specs.Kept.{LeavesDecided}
use Rattle.protocol.specs.Logged.{LogDisk, LogChange}
use Rattle.protocol.specs.Master.{MasterState}
use Rattle.master_cell.specs.Opens.{HasNoRoom, OpensNot, OpensUp, down_over}

-- the log that stood on the disk was read, and the master is up over it
pub record OpensOver (config : Config) (count : ℕ) (disk : List ℕ) (moment : ℕ) (new : MasterState) : Type 0 where
  pub log : LogDisk
  pub stood : IsLogOf log.items log.records disk
  pub opens : OpensUp (down_over config count log []) moment new

-- The log that stood on the disk was read, and the master could not be up. A stop leaves the log as the opening left it, with what is under way or without it.
pub record StopsOver {D : Type 0} (may_leave : D → List ℕ → Type 0) (config : Config) (count : ℕ) (disk : List ℕ) (moment : ℕ) (left : D) : Type 0 where
  pub log : LogDisk
  pub stood : IsLogOf log.items log.records disk
  pub new_log : LogDisk
  pub under_way : List LogChange
  pub opens : OpensNot (down_over config count log []) moment new_log under_way
  pub leaves : LeavesDecided may_leave left new_log under_way

-- The log was not opened. The disk and what a stop leaves read as before, as a new log where none stood, or as the same log in the other format.
pub record NotRead {D : Type 0} (seen : D → List ℕ) (may_leave : D → List ℕ → Type 0) (moment_of : D → ℕ) (left_since : D → ℕ → List ℕ → Type 0) (disk left : D) : Type 0 where
  pub reads : IsReopened (seen disk) (seen left)
  pub stops : LeavesOnly moment_of left_since disk left (IsOpening (seen disk) (may_leave disk))

-- The master could not be opened: its log couldn't, or it could not be up over it.
abbrev pub FailsOver : {D : Type 0} (seen : D → List ℕ) (may_leave : D → List ℕ → Type 0) (moment_of : D → ℕ) (left_since : D → ℕ → List ℕ → Type 0) → Config → ℕ → (disk : D) (moment : ℕ) (left : D) → Type 0
FailsOver seen may_leave moment_of left_since config count disk moment left = NotRead seen may_leave moment_of left_since disk left ⊎ StopsOver may_leave config count (seen disk) moment left

-- The log that stands on the disk has no room for the epoch that an opening adds to it.
pub record LacksRoom (config : Config) (count : ℕ) (disk : List ℕ) (moment : ℕ) : Type 0 where
  pub log : LogDisk
  pub stood : IsLogOf log.items log.records disk
  pub full : HasNoRoom config count log moment
