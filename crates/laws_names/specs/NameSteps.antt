-- Where the master and the machine have the same names, what the master does with a name call is an action of the machine, and they have the same names again (sections 2.6.3, 3.4, 4.1 and 4.4).
use Rattle.std.specs.Prelude.{◌≡◌, ℕ, ◌+◌, ◌≤◌, Bool, List, [], ◌∷◌, ◌++◌, filter, Some, None, IsTrue, IfSome}
use Rattle.std.specs.FinMap as table
use Rattle.gfs_types.specs.declared.call.Call.{Call}
use Rattle.gfs_types.specs.declared.answer.Answer.TheVariants as answer
use Rattle.gfs_types.specs.declared.refusal.Refusal.{Refusal}
use Rattle.gfs_types.specs.declared.refusal.Refusal.TheVariants.{Busy, NamesFull}
use Rattle.gfs_types.specs.Paths.{Path, hidden_name}
use Rattle.log_records.specs.declared.record.Record.{Record}
use Rattle.log_records.specs.declared.record.Record.TheVariants as log
use Rattle.relaxed_file.specs.Names.{Names, File, node_at}
use Rattle.relaxed_file.specs.Machine.{Machine, OpenCall, Replies}
use Rattle.relaxed_file.specs.NameStep.{is_look, needs_room, path_tests, first_refusal, refusal_of, outcome_by, MayTakeEffect}
use Rattle.relaxed_file.specs.Run.{Action, Step, FindBusy, FindFull, Lock, Expire, Allows, after}
use Rattle.protocol.specs.Sending.{client_id, file_id}
use Rattle.protocol.specs.Logged.{Logged, after_record, copies_given_up}
use Rattle.protocol.specs.Master.{MasterState, PendingSnapshot}
use Rattle.protocol.specs.MasterNames.{snapshot_call, is_busy, master_refusal}
use Rattle.laws_names.specs.Names.{record_of, snapshot_refusal}
use Rattle.laws_names.specs.Alike.{Requests, AreAlike, IsWaiting, IsNew, Follows}

-- the file of each name is there
abbrev pub AreNamedFilesThere : Logged → Type 0
AreNamedFilesThere l = (path : Path) (file : ℕ) → node_at l.names path ≡ Some (File file) → IsTrue (table.contains_key l.table.files file)

-- The record of a call that takes effect: the machine takes the call's step, which is Done.
abbrev pub RecordsAreSteps : Type 0
RecordsAreSteps =
    (l : Logged) (snapshots : List PendingSnapshot) (m : Machine) (requests : Requests) (client number moment : ℕ) (c : Call) (entry : Record)
    → AreAlike l snapshots m requests → AreNamedFilesThere l → IsNew snapshots m requests client number c
    → record_of m.config l client number moment c ≡ Some entry → refusal_of m.config l.names c ≡ None → MayTakeEffect m c moment
    → Follows (after_record l entry) snapshots m requests (Step client moment (Replies answer.Done)) client (Replies answer.Done)

-- The record of a call that the names refuse: the machine's step comes to this refusal.
abbrev pub RefusalsAreSteps : Type 0
RefusalsAreSteps =
    (l : Logged) (snapshots : List PendingSnapshot) (m : Machine) (requests : Requests) (client number moment : ℕ) (c : Call) (refusal : Refusal)
    → AreAlike l snapshots m requests → IsNew snapshots m requests client number c → refusal_of m.config l.names c ≡ Some refusal
    → Follows (after_record l (log.Refused (client_id client) number refusal)) snapshots m requests
    (Step client moment (Replies (answer.Refused refusal))) client (Replies (answer.Refused refusal))

-- The record of a call that is Busy, since a lock conflicts: the machine finds a holder of such a lock.
abbrev pub BusyCallsFindAHolder : Type 0
BusyCallsFindAHolder =
    (s : MasterState) (m : Machine) (requests : Requests) (client number : ℕ) (c : Call)
    → AreAlike s.logged s.snapshots m requests → IsNew s.snapshots m requests client number c → IsTrue (is_busy s c) → first_refusal (path_tests m.config c) ≡ None
    → (holder : ℕ) × Follows (after_record s.logged (log.Refused (client_id client) number Busy)) s.snapshots m requests
    (FindBusy client holder) client (Replies (answer.Refused Busy))

-- The record of a call for which an allocator has no room.
abbrev pub FullNamesAreFound : Type 0
FullNamesAreFound =
    (l : Logged) (snapshots : List PendingSnapshot) (m : Machine) (requests : Requests) (client number : ℕ) (c : Call)
    → AreAlike l snapshots m requests → IsNew snapshots m requests client number c → IsTrue (needs_room c) → refusal_of m.config l.names c ≡ None
    → Follows (after_record l (log.Refused (client_id client) number NamesFull)) snapshots m requests (FindFull client) client (Replies (answer.Refused NamesFull))

-- What a Look of the open call comes to at the master is an outcome at the machine, Busy included.
abbrev pub LooksAreSteps : Type 0
LooksAreSteps =
    (s : MasterState) (m : Machine) (requests : Requests) (client number : ℕ) (c : Call) (current : OpenCall)
    → AreAlike s.logged s.snapshots m requests → m.config ≡ s.config → IsWaiting m requests client number current → current.asked.call ≡ c → IsTrue (is_look c)
    → (action : Action) × Follows s.logged s.snapshots m requests action client (outcome_by s.logged.names c (master_refusal s c))

-- A snapshot that begins to wait takes its locks.
abbrev pub LocksAreTaken : Type 0
LocksAreTaken =
    (l : Logged) (snapshots : List PendingSnapshot) (m : Machine) (requests : Requests) (s : PendingSnapshot)
    → AreAlike l snapshots m requests → IsNew snapshots m requests s.client s.number (snapshot_call s) → snapshot_refusal l.names s ≡ None
    → Allows m (Lock s.client) × AreAlike l (snapshots ++ s ∷ []) (after m (Lock s.client)) requests

-- Locks that go back at the master change nothing.
abbrev pub LocksGoBack : Type 0
LocksGoBack =
    (l : Logged) (snapshots : List PendingSnapshot) (m : Machine) (requests : Requests) (stays : PendingSnapshot → Bool)
    → AreAlike l snapshots m requests → AreAlike l (filter stays snapshots) m requests

-- the only name of this file
abbrev pub IsOnlyName : Names → Path → ℕ → Type 0
IsOnlyName names path file = (node_at names path ≡ Some (File file)) × ((other : Path) → node_at names other ≡ Some (File file) → other ≡ path)

-- A hidden file that was kept long enough is collected.
abbrev pub ExpiredFilesAreCollected : Type 0
ExpiredFilesAreCollected =
    (l : Logged) (snapshots : List PendingSnapshot) (m : Machine) (requests : Requests) (file moment : ℕ)
    → AreAlike l snapshots m requests → IsOnlyName l.names (hidden_name moment file) file → IsTrue (table.contains_key l.table.files file) → moment + m.config.keep_ms ≤ m.clock
    → Allows m (Expire file moment) × AreAlike (after_record l (log.Expired (file_id file))) snapshots (after m (Expire file moment)) requests

-- a record that is about chunks alone, of files that are there
abbrev pub IsOfChunks : Logged → Record → Type 0
IsOfChunks l (log.Epoch epoch) = Unit {0}
IsOfChunks l (log.AddChunk file handle) = IsTrue (table.contains_key l.table.files file.0)
IsOfChunks l (log.Issue handle version) = Unit {0}
IsOfChunks l (log.Grant handle version primary members) = IfSome (table.get l.copies handle.0) (λ copy. IsTrue (table.contains_key l.table.files copy.file))
IsOfChunks l (log.CopyStart file index handle copy copy_version) = Unit {0}
IsOfChunks l other = ⊥

-- What is about chunks changes none of it.
abbrev pub ChunksChangeNoNames : Type 0
ChunksChangeNoNames =
    (l : Logged) (snapshots : List PendingSnapshot) (m : Machine) (requests : Requests) → AreAlike l snapshots m requests
    → ((entry : Record) → IsOfChunks l entry → AreAlike (after_record l entry) snapshots m requests)
    × ((handles : List ℕ) → AreAlike (copies_given_up l handles) snapshots m requests)
