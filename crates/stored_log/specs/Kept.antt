-- A log on a disk, and what is known of it.
use Rattle.std.specs.Prelude.{◌≡◌, ◌⊎◌, ℕ, ◌<◌, ◌≤◌, ◌^◌, Bool, true, false, List, [], ◌∷◌, ◌++◌, Option, None, Some}
use Rattle.std.specs.List.{AllByRecursion}
use Rattle.log_records.specs.declared.record.Record.{Record}
use Rattle.log_codec.specs.Payloads.{IsWritable}
use Rattle.oplog.specs.Disks.{HasLog}
use Rattle.oplog.specs.Logs.{LogState}
use Rattle.oplog.specs.Walks.{IsWalk}
use Rattle.oplog.specs.declared.walk.Walk.{Walk}
use Rattle.operation_log.specs.Logs.{IsDecided}
use Rattle.protocol.specs.Logged.{LogDisk, LogChange, AppendRecord, WriteCheckpoint}
use Rattle.protocol.specs.LogSizes.{used_size}
use Rattle.stored_log.specs.declared.standing.LogStanding.{LogStanding}
use Rattle.stored_log.specs.declared.standing.LogStanding.TheVariants.{Open, Unread, Appending, Checkpointing}

-- the log, the change that isn't decided, the items of the checkpoint that is being written, the bytes of the disk, whether the log is open, and how often the disk has failed
pub record DiskLogState : Type 0 where
  pub disk : LogDisk
  pub under_way : List LogChange
  pub writing : List Record
  pub log_bytes : ℕ
  pub is_open : Bool
  pub failed : ℕ

abbrev pub is_standing_open : LogStanding → Bool
is_standing_open Open = true
is_standing_open Unread = false
is_standing_open (Appending entry) = false
is_standing_open (Checkpointing items) = false

abbrev pub changes_of : LogStanding → List LogChange
changes_of Open = []
changes_of Unread = []
changes_of (Appending entry) = AppendRecord entry ∷ []
changes_of (Checkpointing items) = WriteCheckpoint items ∷ []

-- of an open log the disk has to be read anew; what is under way stays so
abbrev pub closed : LogStanding → LogStanding
closed Open = Unread
closed Unread = Unread
closed (Appending entry) = Appending entry
closed (Checkpointing items) = Checkpointing items

-- the disk has the log from before the change that is under way, or the one after it
abbrev pub HasKept : List Record → List Record → LogStanding → List ℕ → Type 0
HasKept items records Open disk = HasLog items records disk
HasKept items records Unread disk = HasLog items records disk
HasKept items records (Appending entry) disk = HasLog items records disk ⊎ HasLog items (records ++ entry ∷ []) disk
HasKept items records (Checkpointing written) disk = HasLog items records disk ⊎ HasLog written [] disk

-- A stop leaves the log from before the change that is under way, or the one after it.
abbrev pub Leaves : {D : Type 0} (may_leave : D → List ℕ → Type 0) → D → List Record → List Record → LogStanding → Type 0
Leaves may_leave disk items records standing = (c : List ℕ) → may_leave disk c → HasKept items records standing c

-- A stop leaves of a disk a log that has all changes, but for those under way, of which each was made or wasn't.
abbrev pub LeavesDecided : {D : Type 0} (may_leave : D → List ℕ → Type 0) → D → LogDisk → List LogChange → Type 0
LeavesDecided may_leave disk log under_way = (c : List ℕ) → may_leave disk c → (left : LogDisk) × IsDecided log under_way left × HasLog left.items left.records c

-- A log that is to take changes is open. Of another one a stop leaves what is kept, with the change under way or without it.
abbrev pub IsKept : {D : Type 0} (may_leave : D → List ℕ → Type 0) → LogState D → LogStanding → Type 0
IsKept may_leave log Open = log.is_open ≡ true
IsKept may_leave log Unread = Leaves may_leave log.disk log.area.items log.area.records Unread
IsKept may_leave log (Appending entry) = Leaves may_leave log.disk log.area.items log.area.records (Appending entry)
IsKept may_leave log (Checkpointing written) = Leaves may_leave log.disk log.area.items log.area.records (Checkpointing written)

-- the log's items and records
abbrev pub all_entries : {D : Type 0} → LogState D → List Record
all_entries log = log.area.items ++ log.area.records

-- a walk that is kept goes through these entries
abbrev pub KeepsWalk : List Record → Option Walk → Type 0
KeepsWalk all None = Unit {0}
KeepsWalk all (Some walk) = IsWalk all walk

-- these items and records take so many bytes of an area, which is a small number
abbrev pub Takes : ℕ → List Record → List Record → Type 0
Takes used items records = (used ≡ used_size items records) × (used < 2 ^ 63)

-- the bytes of the items of a checkpoint that is being written, which the log's format has bytes for
abbrev pub IsWritten : ℕ → List Record → Type 0
IsWritten written writing = Takes written writing [] × AllByRecursion IsWritable writing

-- how many bytes a log's disk may have
abbrev pub IsDiskSize : ℕ → Type 0
IsDiskSize size = (4096 ≤ size) × (size ≤ 1073741824)

-- the log's disk has this size, and a log's disk may have it
abbrev pub HasDiskSize : {D : Type 0} → LogState D → ℕ → Type 0
HasDiskSize log size = IsDiskSize size × (log.size ≡ size)
