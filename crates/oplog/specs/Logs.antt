-- A log that is open on its disk.
use Rattle.std.specs.Prelude.{◌≡◌, ℕ, ◌<◌, ◌≤◌, Bool, true, List, length, Result, IsErrOf}
use Rattle.disk.specs.Device.{Only}
use Rattle.log_records.specs.declared.record.Record.{Record}
use Rattle.oplog.specs.Areas.{AreaState, end_of}
use Rattle.oplog.specs.Layout.{area_at, area_size}
use Rattle.oplog.specs.Disks.{DiskSays, HasLog}
use Rattle.oplog.specs.declared.fault.LogFault.{LogFault}
use Rattle.oplog.specs.declared.fault.LogFault.TheVariants.{Device}
use Rattle.oplog.specs.declared.volume.LogVolume.{LogVolume}

-- a log: its disk and how many bytes this has, whether it is open, and what the current area says
pub record LogState (D : Type 0) : Type 0 where
  pub disk : D
  pub size : ℕ
  pub is_open : Bool
  pub area : AreaState

-- The disk holds the log's items and records, and a stop leaves just that.
pub record IsDurable {D : Type 0} (seen : D → List ℕ) (may_leave : D → List ℕ → Type 0) (log : LogState D) : Type 0 where
  pub says : HasLog log.area.items log.area.records (seen log.disk)
  pub size : length (seen log.disk) ≡ log.size
  pub only : Only (seen log.disk) (may_leave log.disk)

-- the same log, but for its disk
pub record SameButDisk {D : Type 0} (old new : LogState D) : Type 0 where
  pub size : new.size ≡ old.size
  pub is_open : new.is_open ≡ old.is_open
  pub area : new.area ≡ old.area

-- `Device` is answered only where the disk has failed in this call.
pub record MayFail {T : Type 0} (before now : ℕ) (result : Result T LogFault) : Type 0 where
  pub later : before ≤ now
  pub failed : IsErrOf result Device → before < now

-- The volume is open: its disk says this, for good, and the volume knows where the records end.
pub record IsOpen {D : Type 0} (seen : D → List ℕ) (may_leave : D → List ℕ → Type 0) (log : LogVolume D) (area : AreaState) : Type 0 where
  pub says : DiskSays log.size log.which area (seen log.disk)
  pub start : log.start ≡ area_at log.size log.which
  pub room : log.room ≡ area_size log.size
  pub number : log.number ≡ area.number
  pub end : log.end ≡ end_of area
  pub small : log.size ≤ 1073741824
  pub large : 4096 ≤ log.size
  pub durable : Only (seen log.disk) (may_leave log.disk)

abbrev pub area_counted : {D : Type 0} → LogVolume D → List Record → List Record → AreaState
area_counted volume items records = record { number = volume.number; items = items; records = records }

-- what a volume with these items and records is to the log's callers
abbrev pub log_counted : {D : Type 0} → LogVolume D → List Record → List Record → Bool → LogState D
log_counted volume items records is_open = record { disk = volume.disk; size = volume.size; is_open = is_open; area = area_counted volume items records }

-- The volume's records end where those end that were counted; and while the log is open, its disk says what was counted.
pub record IsCounted {D : Type 0} (seen : D → List ℕ) (may_leave : D → List ℕ → Type 0) (volume : LogVolume D) (items records : List Record) (is_open : Bool) : Type 0 where
  pub large : 4096 ≤ volume.size
  pub small : volume.size ≤ 1073741824
  pub end : volume.end ≡ end_of (area_counted volume items records)
  pub within : volume.end < volume.size
  pub opened : is_open ≡ true → IsOpen seen may_leave volume (area_counted volume items records)
