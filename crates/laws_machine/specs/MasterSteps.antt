-- Where the whole machine goes beside the master's log, it follows each change of the log: by the action of the record, or by actions on chunks (sections 2.6.3, 3.1 and 3.4).
use Rattle.std.specs.Prelude.{◌≡◌, ◌⊎◌, ℕ, ◌<◌, ◌≤◌, List, [], ◌∷◌, Option, Some, None, option_map, IsTrue, Bool, true, false}
use Rattle.std.specs.List.{list_all}
use Rattle.std.specs.FinMap as table
use Rattle.log_records.specs.declared.record.Record.{Record}
use Rattle.log_records.specs.declared.record.Record.TheVariants as log
use Rattle.chunk_table.specs.ChunkTable.{ChunkRow, file_of, handles_of, chunk_of}
use Rattle.relaxed_file.specs.Order.{CallId}
use Rattle.relaxed_file.specs.Names.{copied_entries}
use Rattle.relaxed_file.specs.Machine.{Machine, Asked}
use Rattle.relaxed_file.specs.Chunks.{MayAdd}
use Rattle.relaxed_file.specs.Run.{Action, Step, FindBusy, FindFull, Lock, Expire, Add, OpenRound, CloseRound, IsLawful, after_all, visible, LeadsTo}
use Rattle.machine_names.specs.NameProjections.{AreNamesOf}
use Rattle.protocol.specs.Tables.{Table}
use Rattle.protocol.specs.Logged.{Logged, Copy, LogDisk, LogChange, AppendRecord, WriteCheckpoint, after_record, log_changed}
use Rattle.protocol.specs.Observer.{Placed}
use Rattle.laws_base.specs.Laws.{HasAllReferences, times_in}
use Rattle.laws_names.specs.Names.{HasNamesOf}
use Rattle.laws_names.specs.Alike.{Requests, is_there}
use Rattle.laws_names.specs.NameSteps.{AreNamedFilesThere}
use Rattle.laws_names.specs.NameTrails.{log_read, RunsQuietly, IsChangeOf, IsBesideLog, NameTrail}
use Rattle.protocol_invariant.specs.Actions.{Spot}
use Rattle.laws_machine.specs.ChunksAlike.{ChunkSides, StandsAt, IsRoundOpen, AreChunksAlike, KeepsRounds, NoneEnds}
use Rattle.laws_machine.specs.ChunkRecords.{IsUnused, StandsAlone, IsCopyDue, AreFilesOnce, StandsIn, AreFilesThere, gone_after}
use Rattle.laws_machine.specs.Tries.{places_nothing}

-- The whole machine has the names of the one by names alone and the chunks of the log; where handles stood that are gone, their numbers were used.
pub record IsWhole (k : ChunkSides) (n : Machine) : Type 0 where
  pub names : AreNamesOf k.machine n
  pub chunks : AreChunksAlike k
  pub below : (handle : ℕ) (s : Spot) → k.gone handle ≡ Some s → handle < k.log.next_handle

-- what the machine does for the master: names, files that expire, chunks that are added, and rounds
abbrev pub is_of_master : Action → Bool
is_of_master (Step client moment outcome) = true
is_of_master (FindBusy client holder) = true
is_of_master (FindFull client) = true
is_of_master (Lock client) = true
is_of_master (Expire file moment) = true
is_of_master (Add id) = true
is_of_master (OpenRound file index round) = true
is_of_master (CloseRound file index) = true
is_of_master other = false

-- The whole machine takes such actions, of which clients see nothing and that place nothing, and is then beside the log and the names again; rounds end of these handles alone.
pub record Comes (Ends : ℕ → Type 0) (k j : ChunkSides) (n : Machine) : Type 0 where
  pub actions : List Action
  pub lawful : IsLawful k.machine actions
  pub leads : after_all k.machine actions ≡ j.machine
  pub unseen : visible actions ≡ []
  pub places : IsTrue (list_all places_nothing actions)
  pub of_master : IsTrue (list_all is_of_master actions)
  pub rounds : KeepsRounds Ends k j
  pub whole : IsWhole j n

-- Quiet actions of the machine by names alone are the whole machine's too.
abbrev pub QuietRunsAreTaken : Type 0
QuietRunsAreTaken = (k : ChunkSides) (n later : Machine) → IsWhole k n → RunsQuietly n later → (m : Machine) × Comes NoneEnds k (record k { machine = m }) later

-- a handle of a copy under way
abbrev pub IsCopy : Logged → ℕ → Type 0
IsCopy l handle = (c : Copy) × (table.get l.copies handle ≡ Some c)

-- each copy under way has its row
abbrev pub HaveCopiesRows : Logged → Type 0
HaveCopiesRows l = (handle : ℕ) → IsCopy l handle → (row : ChunkRow) × (chunk_of l.table handle ≡ Some row)

-- no copy under way stands in a file
abbrev pub AreCopiesApart : Logged → Type 0
AreCopiesApart l = (handle : ℕ) → IsCopy l handle → times_in l.table.files handle ≡ 0

-- Handles whose rounds may end at a record: of the chunk that is granted and of the source whose place it takes, of the chunks below a snapshot's source, of shared chunks as a file is collected.
abbrev pub EndsAt : Logged → Record → ℕ → Type 0
EndsAt l (log.Snapshot client number from to) ended = StandsIn l (copied_entries l.names from to) ended
EndsAt l (log.Expired file) ended = 2 ≤ times_in l.table.files ended
EndsAt l (log.Grant handle version primary members) ended = (ended ≡ handle.0) ⊎ ((c : Copy) × (table.get l.copies handle.0 ≡ Some c) × (ended ≡ c.source))
EndsAt l other ended = ⊥

-- A version may be granted: of a chunk that one file has, or of a copy that is due.
abbrev pub MayBeGranted : ChunkSides → ℕ → ℕ → Type 0
MayBeGranted k handle version =
    ((table.get k.log.copies handle ≡ None) × (s : Spot) × (row : ChunkRow) × StandsAlone k handle s × (chunk_of k.log.table handle ≡ Some row) × (row.granted < version))
    ⊎ ((c : Copy) × HasAllReferences k.log.table × IsCopyDue k handle version c)

-- What a record asks of the sides: what the laws of reached worlds say of the log, and of a chunk that is added that a call asks for it.
abbrev pub IsDueAt : ChunkSides → Record → Type 0
IsDueAt k (log.Snapshot client number from to) = AreFilesOnce (copied_entries k.log.names from to) × AreFilesThere k.log (copied_entries k.log.names from to)
IsDueAt k (log.Expired file) =
    HasAllReferences k.log.table × AreCopiesApart k.log × HaveCopiesRows k.log × AreNamedFilesThere k.log × ((handle : ℕ) → 1 ≤ times_in k.log.table.files handle → handle < k.log.next_handle)
IsDueAt k (log.AddChunk file handle) =
    IsUnused k handle.0 × (handles : List ℕ) × (file_of k.log.table file.0 ≡ Some handles) × (id : CallId) × (asked : Asked) × MayAdd k.machine id asked file.0
IsDueAt k (log.Grant handle version primary members) = MayBeGranted k handle.0 version.0
IsDueAt k (log.CopyStart file index handle copy version) = (copy.0 ≡ k.log.next_handle) × ((s : Spot) → StandsAt k.log.table copy.0 s → ⊥)
IsDueAt k other = Unit {0}

-- where handles stood, after a record
abbrev pub gone_at : Logged → (ℕ → Option Spot) → Record → (ℕ → Option Spot)
gone_at l gone (log.Expired file) = gone_after file.0 (handles_of l.table file.0) gone
gone_at l gone other = gone

-- where a handle stands that may go at a record: as a file expires
abbrev pub GoesAt : Logged → Record → ℕ → Spot → Type 0
GoesAt l (log.Expired file) handle s = StandsAt l.table handle s
GoesAt l other handle s = ⊥

-- each handle that is gone was gone from its spot before, or goes from there
abbrev pub AreGoneBy : (ℕ → Spot → Type 0) → ChunkSides → ChunkSides → Type 0
AreGoneBy Goes k j = (handle : ℕ) (s : Spot) → j.gone handle ≡ Some s → (k.gone handle ≡ Some s) ⊎ Goes handle s

-- the round of a Grant is open
abbrev pub HasOpened : ChunkSides → Record → Type 0
HasOpened j (log.Grant handle version primary members) = (s : Spot) × IsRoundOpen j handle.0 version.0 s
HasOpened j other = Unit {0}

-- the log and the gone handles after a record, and this machine
abbrev pub recorded : ChunkSides → Record → Machine → ChunkSides
recorded k r m = record { log = after_record k.log r; gone = gone_at k.log k.gone r; orders = k.orders; machine = m }

-- Each record is followed that is due, where the machine by names alone takes its action, or none at a record about chunks.
abbrev pub RecordsAreTaken : Type 0
RecordsAreTaken =
    (k : ChunkSides) (n later : Machine) (r : Record) → IsWhole k n → HasNamesOf k.log n → IsChangeOf n later (AppendRecord r) → IsDueAt k r
    → (m : Machine) × Comes (EndsAt k.log r) k (recorded k r m) later × HasOpened (recorded k r m) r

-- the handle of a copy that is under way in one of both
abbrev pub IsCopyIn : Logged → Logged → ℕ → Type 0
IsCopyIn l j handle = IsCopy l handle ⊎ IsCopy j handle

-- Both have the same files, and the same was granted of each chunk but for copies under way, which stand in no file: so it is of a state and its log, and as copies are given up or a checkpoint is read again.
pub record HaveSameFiles (l j : Logged) : Type 0 where
  pub lists : j.table.files ≡ l.table.files
  pub next_file : l.next_file ≤ j.next_file
  pub next_handle : l.next_handle ≤ j.next_handle
  pub apart : (handle : ℕ) → IsCopyIn l j handle → times_in l.table.files handle ≡ 0
  pub rows : HaveCopiesRows l
  pub grants : (handle : ℕ) → IsCopyIn l j handle ⊎ (option_map (λ row. row.granted) (chunk_of l.table handle) ≡ option_map (λ row. row.granted) (chunk_of j.table handle))

-- a checkpoint says the same, without copies
abbrev pub IsReadAgain : Logged → Logged → Type 0
IsReadAgain l j = HaveSameFiles l j × ((handle : ℕ) → IsCopy j handle → ⊥)

abbrev pub CopiesMayComeAndGo : Type 0
CopiesMayComeAndGo = (k : ChunkSides) (n : Machine) (l : Logged) → IsWhole k n → HaveSameFiles k.log l → Comes (IsCopy l) k (record k { log = l }) n

-- handles whose rounds may end at a change of the log
abbrev pub EndsAtChange : LogDisk → LogChange → ℕ → Type 0
EndsAtChange d (AppendRecord r) = EndsAt (log_read d) r
EndsAtChange d (WriteCheckpoint items) = NoneEnds

-- where handles stand that may go at a change of the log
abbrev pub GoesAtChange : LogDisk → LogChange → ℕ → Spot → Type 0
GoesAtChange d (AppendRecord r) handle s = GoesAt (log_read d) r handle s
GoesAtChange d (WriteCheckpoint items) handle s = ⊥

-- what a change asks of the sides; of a checkpoint, that the log says the same after it
abbrev pub IsChangeDue : LogDisk → ChunkSides → LogChange → Type 0
IsChangeDue d k (AppendRecord r) = IsDueAt k r
IsChangeDue d k (WriteCheckpoint items) = IsReadAgain (log_read d) (log_read (log_changed d (WriteCheckpoint items)))

abbrev pub HasOpenedAt : ChunkSides → LogChange → Type 0
HasOpenedAt j (AppendRecord r) = HasOpened j r
HasOpenedAt j (WriteCheckpoint items) = Unit {0}

-- the machine by names alone has the files that the log has
abbrev pub HasFilesOf : Logged → Machine → Type 0
HasFilesOf l n = (file : ℕ) → table.contains_key l.table.files file ≡ is_there n file

-- each change is due, whichever whole machine, of those that the first one leads to, goes beside the log then
abbrev pub AreChangesDue : Machine → Table (List Placed) → LogDisk → List LogChange → Type 0
AreChangesDue first orders d [] = Unit {0}
AreChangesDue first orders d (x ∷ rest) =
    ((k : ChunkSides) (n : Machine) → LeadsTo first k.machine → k.log ≡ log_read d → k.orders ≡ orders → IsWhole k n → HasFilesOf k.log n → IsChangeDue d k x)
    × AreChangesDue first orders (log_changed d x) rest

-- The whole machine after a change, at the sides j, with the machine by names alone at a and then at b: it was at the machine m before the change.
pub record IsTaken (requests : Requests) (first : Machine) (start d : LogDisk) (k j : ChunkSides) (m a b : Machine) (x : LogChange) : Type 0 where
  pub quiet : Comes NoneEnds k (record k { machine = m }) a
  pub comes : Comes (EndsAtChange d x) (record k { machine = m }) j b
  pub log : j.log ≡ log_read (log_changed d x)
  pub orders : j.orders ≡ k.orders
  pub gone : AreGoneBy (GoesAtChange d x) k j
  pub opened : HasOpenedAt j x
  pub beside : IsBesideLog requests first start (log_changed d x) b

-- The whole machine along changes of a log: after each it is beside the log as it is read then.
abbrev pub WholeTrail : Requests → Machine → LogDisk → LogDisk → ChunkSides → List LogChange → Machine → Type 0
WholeTrail requests first start d k [] n = (m : Machine) × Comes NoneEnds k (record k { machine = m }) n
WholeTrail requests first start d k (x ∷ rest) n =
    (j : ChunkSides) × (m a b : Machine) × IsTaken requests first start d k j m a b x × WholeTrail requests first start (log_changed d x) j rest n

-- Where the machine by names alone goes along the changes of a step, and each is due, the whole machine goes along them too.
abbrev pub ChangesAreTaken : Type 0
ChangesAreTaken =
    (requests : Requests) (first : Machine) (start d : LogDisk) (changes : List LogChange) (k : ChunkSides) (n later : Machine)
    → IsWhole k n → k.log ≡ log_read d → HasNamesOf k.log n → HasFilesOf k.log n → NameTrail requests first start d n changes later → AreChangesDue k.machine k.orders d changes
    → WholeTrail requests first start d k changes later
