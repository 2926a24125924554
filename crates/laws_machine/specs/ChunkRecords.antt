-- Where the master's log and the machine have the same chunks, each record of the log is some actions of the machine, after which they have the same chunks again (sections 2.6.3, 3.1 and 3.4).
use Rattle.std.specs.Prelude.{◌≡◌, ◌≢◌, ◌⊎◌, ℕ, suc, ◌<◌, ◌≤◌, List, [], ◌∷◌, Option, Some, None, option_map}
use Rattle.std.specs.List.{AllByRecursion}
use Rattle.std.specs.FinMap as table
use Rattle.gfs_types.specs.Paths.{Path}
use Rattle.gfs_types.specs.declared.ids.FileId.{FileId}
use Rattle.gfs_types.specs.declared.ids.Handle.{Handle}
use Rattle.gfs_types.specs.declared.ids.ServerId.{ServerId}
use Rattle.gfs_types.specs.declared.ids.Version.{Version}
use Rattle.log_records.specs.declared.record.Record.TheVariants as log
use Rattle.chunk_table.specs.ChunkTable.{ChunkRow, file_of, handles_of, chunk_of, add_file, drop_file}
use Rattle.relaxed_file.specs.Order.{CallId}
use Rattle.relaxed_file.specs.Names.{Node, File, copied_entries}
use Rattle.relaxed_file.specs.Machine.{Asked, new_file, put}
use Rattle.relaxed_file.specs.NameStep.{snapshot_taken}
use Rattle.relaxed_file.specs.Chunks.{MayAdd}
use Rattle.relaxed_file.specs.Run.{Add, expired}
use Rattle.protocol.specs.Tables.{element_at}
use Rattle.protocol.specs.Logged.{Logged, Copy, after_record, snapshot_logged}
use Rattle.laws_base.specs.Laws.{HasAllReferences, times_in}
use Rattle.protocol_invariant.specs.Actions.{Spot, opening, closings, index_in, first_spot}
use Rattle.laws_machine.specs.ChunksAlike.{ChunkSides, StandsAt, IsRoundOpen, AreChunksAlike, NoneEnds, entries_in, moved, KeepsChunks, Follows}
use Rattle.gfs_types.specs.declared.shape.Shape.{Shape}

-- the same rows as far as the machine has them: which versions were granted
abbrev pub HaveSameGrants : Logged → Logged → Type 0
HaveSameGrants l k = (handle : ℕ) → option_map (λ row. row.granted) (chunk_of l.table handle) ≡ option_map (λ row. row.granted) (chunk_of k.table handle)

-- What changes nothing of chunks: the files' lists, what was granted of each chunk, the orders and the machine's files stay; the next file's number may rise.
pub record AreSameChunks (k j : ChunkSides) : Type 0 where
  pub lists : j.log.table.files ≡ k.log.table.files
  pub grants : HaveSameGrants k.log j.log
  pub next : k.log.next_file ≤ j.log.next_file
  pub gone : j.gone ≡ k.gone
  pub orders : j.orders ≡ k.orders
  pub files : j.machine.files ≡ k.machine.files

-- Such a change keeps chunks alike: names, answers, epochs, numbers that are issued, ends of leases, and the machine's actions that touch no file.
abbrev pub OtherChangesKeepChunks : Type 0
OtherChangesKeepChunks = (k j : ChunkSides) → AreChunksAlike k → AreSameChunks k j → KeepsChunks NoneEnds k j

-- A chunk's row goes, or a row comes, of a handle that no file has: a copy begins, or is given up.
abbrev pub RowsOfNoFileMayChange : Type 0
RowsOfNoFileMayChange =
    (k : ChunkSides) (handle : ℕ) (l : Logged)
    → AreChunksAlike k → ((s : Spot) → StandsAt k.log.table handle s → ⊥)
    → l.table.files ≡ k.log.table.files → ((other : ℕ) → other ≢ handle → chunk_of l.table other ≡ chunk_of k.log.table other) → k.log.next_file ≤ l.next_file
    → KeepsChunks (λ ended. ended ≡ handle) k (record k { log = l })

-- A handle that was never used: no chunk has it or had it, and it has no entry.
pub record IsUnused (k : ChunkSides) (handle : ℕ) : Type 0 where
  pub no_row : chunk_of k.log.table handle ≡ None
  pub no_spot : k.gone handle ≡ None
  pub no_entry : entries_in k.orders handle ≡ []

-- A chunk is added: the machine adds one to the same file.
abbrev pub AddedChunksAreAdded : Type 0
AddedChunksAreAdded =
    (k : ChunkSides) (file : FileId) (handle : Handle) (handles : List ℕ) (id : CallId) (asked : Asked)
    → AreChunksAlike k → file_of k.log.table file.0 ≡ Some handles → IsUnused k handle.0 → MayAdd k.machine id asked file.0
    → Follows NoneEnds k (Add id ∷ []) (moved k (Add id ∷ []) (after_record k.log (log.AddChunk file handle)) k.gone k.orders)

-- the handle stands at this place alone
abbrev pub StandsAlone : ChunkSides → ℕ → Spot → Type 0
StandsAlone k handle s = StandsAt k.log.table handle s × ((other : Spot) → StandsAt k.log.table handle other → other ≡ s)

-- A version is granted of a chunk that one file has: the round before it is closed and a round opens.
abbrev pub GrantsOpenRounds : Type 0
GrantsOpenRounds =
    (k : ChunkSides) (handle : Handle) (version : Version) (primary : ServerId) (members : List ℕ) (s : Spot) (row : ChunkRow)
    → AreChunksAlike k → table.get k.log.copies handle.0 ≡ None → StandsAlone k handle.0 s → chunk_of k.log.table handle.0 ≡ Some row → row.granted < version.0
    → let j : ChunkSides = moved k (opening k.machine version.0 s) (after_record k.log (log.Grant handle version primary members)) k.gone k.orders in
    Follows (λ ended. ended ≡ handle.0) k (opening k.machine version.0 s) j × IsRoundOpen j handle.0 version.0 s

-- The copy of a chunk is under way for a file's chunk: that has the source still, and the copy has the source's entries.
pub record IsCopyDue (k : ChunkSides) (copy version : ℕ) (c : Copy) : Type 0 where
  pub under_way : table.get k.log.copies copy ≡ Some c
  pub place : StandsAt k.log.table c.source (record { file = c.file; index = c.index })
  pub unplaced : (s : Spot) → StandsAt k.log.table copy s → ⊥
  pub row : ChunkRow
  pub row_is : chunk_of k.log.table copy ≡ Some row
  pub before : ChunkRow
  pub before_is : chunk_of k.log.table c.source ≡ Some before
  pub higher : before.granted < version
  pub entries : entries_in k.orders copy ≡ entries_in k.orders c.source

-- A version of a copy is granted, which replaces its source in the file: a round opens in the file's chunk.
abbrev pub CopiesTakeTheirPlace : Type 0
CopiesTakeTheirPlace =
    (k : ChunkSides) (handle : Handle) (version : Version) (primary : ServerId) (members : List ℕ) (c : Copy)
    → AreChunksAlike k → HasAllReferences k.log.table → IsCopyDue k handle.0 version.0 c
    → let s : Spot = record { file = c.file; index = c.index } in
    let j : ChunkSides = moved k (opening k.machine version.0 s) (after_record k.log (log.Grant handle version primary members)) k.gone k.orders in
    Follows (λ ended. (ended ≡ handle.0) ⊎ (ended ≡ c.source)) k (opening k.machine version.0 s) j × IsRoundOpen j handle.0 version.0 s

-- no file is twice among these
abbrev pub AreFilesOnce : List (Path × Node) → Type 0
AreFilesOnce [] = Unit {0}
AreFilesOnce (e ∷ rest) = ((file : ℕ) → e.1 ≡ File file → AllByRecursion (λ other. other.1 ≢ File file) rest) × AreFilesOnce rest

-- the chunk is one of these files'
abbrev pub StandsIn : Logged → List (Path × Node) → ℕ → Type 0
StandsIn l [] handle = ⊥
StandsIn l (e ∷ rest) handle = ((file : ℕ) × (e.1 ≡ File file) × ((index : ℕ) × (element_at (handles_of l.table file) index ≡ Some handle))) ⊎ StandsIn l rest handle

-- The open rounds below the source of a snapshot are closed.
abbrev pub RoundsAreClosed : Type 0
RoundsAreClosed =
    (k : ChunkSides) (from to : Path) → AreChunksAlike k → AreFilesOnce (copied_entries k.log.names from to)
    → Follows (StandsIn k.log (copied_entries k.log.names from to)) k (closings k.machine k.log from to) (moved k (closings k.machine k.log from to) k.log k.gone k.orders)

-- where each handle stood, after a file was collected
abbrev pub gone_after : ℕ → List ℕ → (ℕ → Option Spot) → (ℕ → Option Spot)
gone_after file handles gone handle = first_spot (option_map (λ index. record { file = file; index = index }) (index_in handle handles 0)) (gone handle)

-- A file is collected, and keeps its chunks at the machine; of the rounds that are open those stay so whose chunk stands once at most in files.
abbrev pub CollectedFilesKeepTheirChunks : Type 0
CollectedFilesKeepTheirChunks =
    (k : ChunkSides) (file : FileId) (handles : List ℕ) (moment : ℕ)
    → AreChunksAlike k → HasAllReferences k.log.table → file_of k.log.table file.0 ≡ Some handles
    → KeepsChunks (λ ended. 2 ≤ times_in k.log.table.files ended) k
    (record { log = record k.log { table = drop_file k.log.table file.0 }; gone = gone_after file.0 handles k.gone; orders = k.orders; machine = expired k.machine file.0 moment })

-- A new file has no chunk, whatever its shape.
abbrev pub NewFilesHaveNoChunk : Type 0
NewFilesHaveNoChunk =
    (k : ChunkSides) (told made : Shape) → AreChunksAlike k → k.log.next_file ≡ suc k.machine.file_count
    → KeepsChunks NoneEnds k (record k {
      log = record k.log { table = add_file k.log.table k.log.next_file told; next_file = suc k.log.next_file };
      machine = record k.machine { file_count = suc k.machine.file_count; files = put (suc k.machine.file_count) (new_file made) k.machine.files };
    })

-- each file that is copied is there
abbrev pub AreFilesThere : Logged → List (Path × Node) → Type 0
AreFilesThere l copies = AllByRecursion (λ e. (file : ℕ) → e.1 ≡ File file → (handles : List ℕ) × (file_of l.table file ≡ Some handles)) copies

-- The files that a snapshot adds have their source's chunks.
abbrev pub SnapshotsCopyChunks : Type 0
SnapshotsCopyChunks =
    (k : ChunkSides) (copies : List (Path × Node)) → AreChunksAlike k → k.log.next_file ≡ suc k.machine.file_count → AreFilesThere k.log copies
    → KeepsChunks NoneEnds k (record k { log = snapshot_logged k.log copies; machine = snapshot_taken k.machine copies })
