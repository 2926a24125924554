-- What is known of each change that a step of the master makes of its log, of the log alone: what the whole machine needs to follow it (sections 2.6.3, 3.1 and 3.4).
use Rattle.std.specs.Prelude.{◌≡◌, ◌⊎◌, ℕ, ◌<◌, ◌≤◌, Bool, List, [], ◌∷◌, Some, None, IsTrue}
use Rattle.std.specs.FinMap as table
use Rattle.gfs_types.specs.declared.config.Config.{Config}
use Rattle.messages.specs.declared.event.NodeInput.{NodeInput}
use Rattle.log_records.specs.declared.record.Record.{Record}
use Rattle.log_records.specs.declared.record.Record.TheVariants as log
use Rattle.chunk_table.specs.ChunkTable.{ChunkRow, file_of, chunk_of}
use Rattle.relaxed_file.specs.Names.{copied_entries}
use Rattle.protocol.specs.Logged.{Logged, Copy, LogDisk, LogChange, AppendRecord, WriteCheckpoint, log_changed}
use Rattle.protocol.specs.MasterStep.{master_goes}
use Rattle.protocol.specs.World.{WorldState, IsReached}
use Rattle.laws_base.specs.Laws.{HasAllReferences, times_in}
use Rattle.laws_names.specs.NameSteps.{AreNamedFilesThere}
use Rattle.laws_names.specs.NameTrails.{log_read}
use Rattle.protocol_invariant.specs.Actions.{Spot}
use Rattle.laws_machine.specs.ChunksAlike.{StandsAt}
use Rattle.laws_machine.specs.ChunkRecords.{AreFilesOnce, AreFilesThere}
use Rattle.laws_machine.specs.MasterSteps.{AreCopiesApart, HaveCopiesRows, IsReadAgain}

-- A higher version is granted of a chunk that stands at one place.
pub record IsOwnGrant (l : Logged) (handle version : ℕ) : Type 0 where
  pub no_copy : table.get l.copies handle ≡ None
  pub place : Spot
  pub stands : StandsAt l.table handle place
  pub once : (other : Spot) → StandsAt l.table handle other → other ≡ place
  pub row : ChunkRow
  pub row_is : chunk_of l.table handle ≡ Some row
  pub higher : row.granted < version

-- A version is granted of a copy under way: it stands in no file, and its source still at the copy's place.
pub record IsCopyGrant (l : Logged) (handle : ℕ) (c : Copy) : Type 0 where
  pub under_way : table.get l.copies handle ≡ Some c
  pub place : StandsAt l.table c.source (record { file = c.file; index = c.index })
  pub unplaced : (s : Spot) → StandsAt l.table handle s → ⊥
  pub row : ChunkRow
  pub row_is : chunk_of l.table handle ≡ Some row
  pub before : ChunkRow
  pub before_is : chunk_of l.table c.source ≡ Some before

-- What the log says at each record that a step makes of it.
abbrev pub IsRecordDue : Logged → Record → Type 0
IsRecordDue l (log.Snapshot client number from to) = AreFilesOnce (copied_entries l.names from to) × AreFilesThere l (copied_entries l.names from to)
IsRecordDue l (log.Expired file) = HasAllReferences l.table × AreCopiesApart l × HaveCopiesRows l × AreNamedFilesThere l × ((handle : ℕ) → 1 ≤ times_in l.table.files handle → handle < l.next_handle)
IsRecordDue l (log.AddChunk file handle) = (handle.0 ≡ l.next_handle) × (chunk_of l.table handle.0 ≡ None) × (handles : List ℕ) × (file_of l.table file.0 ≡ Some handles)
IsRecordDue l (log.Grant handle version primary members) = HasAllReferences l.table × (IsOwnGrant l handle.0 version.0 ⊎ ((c : Copy) × IsCopyGrant l handle.0 c))
IsRecordDue l (log.CopyStart file index handle copy version) = (copy.0 ≡ l.next_handle) × ((s : Spot) → StandsAt l.table copy.0 s → ⊥)
IsRecordDue l other = Unit {0}

-- a checkpoint says what the log said before
abbrev pub IsLogDue : LogDisk → LogChange → Type 0
IsLogDue d (AppendRecord r) = IsRecordDue (log_read d) r
IsLogDue d (WriteCheckpoint items) = IsReadAgain (log_read d) (log_read (log_changed d (WriteCheckpoint items)))

abbrev pub AreLogDues : LogDisk → List LogChange → Type 0
AreLogDues d [] = Unit {0}
AreLogDues d (x ∷ rest) = IsLogDue d x × AreLogDues (log_changed d x) rest

-- Where clocks are kept, each change that a step of the master makes of its log is so.
abbrev pub StepsLogWhatIsDue : Type 0
StepsLogWhatIsDue =
    (config : Config) (servers clients : ℕ) (w : WorldState) → IsReached config servers clients w → IsTrue w.observer.are_clocks_kept → IsTrue w.master.up
    → (moment : ℕ) (i : NodeInput) (refused : List Bool) → AreLogDues w.master.disk (master_goes w.master moment i refused).changes
