-- The master beside the machine: both have the same names and files, kept answers are outcomes, and what waits at the master holds its locks at the machine.
use Rattle.std.specs.Prelude.{◌≡◌, ◌⊎◌, ℕ, suc, ◌==◌, ◌&&◌, nat_lt, nat_le, Bool, true, false, not, List, [], Option, Some, Contains, IsTrue, IsFalse}
use Rattle.std.specs.List.{AllByRecursion, list_any}
use Rattle.std.specs.FinMap as table
use Rattle.gfs_types.specs.declared.call.Call.{Call}
use Rattle.relaxed_file.specs.Machine.{Machine, OpenCall, Outcome, Replies, IsOpen}
use Rattle.relaxed_file.specs.NameStep.{is_look}
use Rattle.relaxed_file.specs.Run.{Action, Allows, after, OnOpen}
use Rattle.chunk_table.specs.ChunkTable.{shape_of}
use Rattle.protocol.specs.Tables.{Table}
use Rattle.protocol.specs.Logged.{Logged, KeptCall}
use Rattle.protocol.specs.Master.{PendingSnapshot}
use Rattle.protocol.specs.MasterNames.{snapshot_call}
use Rattle.protocol.specs.MasterSnapshots.{reply_of}

-- Of each client, the number of the request that its open call waits for. A client's name calls have numbers of their own.
abbrev pub Requests : Type 0
Requests = ℕ → Option ℕ

-- the machine has this file, and it was not collected
abbrev pub is_there : Machine → ℕ → Bool
is_there m file = nat_lt 0 file && nat_le file m.file_count && not (m.files file).is_collected

-- The client's open call is this one, and waits for the request of this number.
pub record IsWaiting (m : Machine) (requests : Requests) (client number : ℕ) (current : OpenCall) : Type 0 where
  pub is_open : IsOpen m client current
  pub number_is : requests client ≡ Some number

-- A kept answer is an outcome of its call, as long as that is open.
abbrev pub IsKept : Machine → Requests → ℕ → KeptCall → Type 0
IsKept m requests client k = (current : OpenCall) → IsWaiting m requests client k.number current → Contains current.outcomes (Replies (reply_of k.refusal))

-- the answer to the client's request of this number is kept
abbrev pub IsAnswered : Table KeptCall → ℕ → ℕ → Type 0
IsAnswered kept client number = (k : KeptCall) × (table.get kept client ≡ Some k) × (k.number ≡ number)

-- An open call that changes names took no step before it was answered.
abbrev pub AreUntaken : Table KeptCall → Machine → Requests → Type 0
AreUntaken kept m requests =
    (client number : ℕ) (current : OpenCall) → IsWaiting m requests client number current → IsFalse (is_look current.asked.call) → (current.outcomes ≡ []) ⊎ IsAnswered kept client number

-- A snapshot that waits holds its locks: its call is open and took no step yet.
pub record HoldsLocks (m : Machine) (requests : Requests) (s : PendingSnapshot) : Type 0 where
  pub current : OpenCall
  pub waiting : IsWaiting m requests s.client s.number current
  pub call_is : current.asked.call ≡ snapshot_call s
  pub has_locks : IsTrue current.has_locks
  pub untaken : current.outcomes ≡ []

-- what the master's log says and which snapshots wait, beside the machine; each file has its shape there
pub record AreAlike (l : Logged) (snapshots : List PendingSnapshot) (m : Machine) (requests : Requests) : Type 0 where
  pub names : l.names ≡ m.names
  pub next : l.next_file ≡ suc m.file_count
  pub files : (file : ℕ) → table.contains_key l.table.files file ≡ is_there m file
  pub shapes : (file : ℕ) → table.contains_key l.table.files file ≡ true → shape_of l.table file ≡ (m.files file).shape
  pub kept : (client : ℕ) (k : KeptCall) → table.get l.kept client ≡ Some k → IsKept m requests client k
  pub untaken : AreUntaken l.kept m requests
  pub locks : AllByRecursion (HoldsLocks m requests) snapshots

-- whether a snapshot of this very request waits
abbrev pub waits_among : List PendingSnapshot → ℕ → ℕ → Bool
waits_among snapshots client number = list_any (λ s. (s.client == client) && (s.number == number)) snapshots

-- The request of a changing name call may be taken: its call is open and took no step yet, and it does not wait already.
pub record IsNew (snapshots : List PendingSnapshot) (m : Machine) (requests : Requests) (client number : ℕ) (c : Call) : Type 0 where
  pub current : OpenCall
  pub waiting : IsWaiting m requests client number current
  pub call_is : current.asked.call ≡ c
  pub untaken : current.outcomes ≡ []
  pub alone : waits_among snapshots client number ≡ false

-- The machine may take this action; then both are alike again, and this is an outcome of the client's open call.
pub record Follows (l : Logged) (snapshots : List PendingSnapshot) (m : Machine) (requests : Requests) (action : Action) (client : ℕ) (outcome : Outcome) : Type 0 where
  pub allowed : Allows m action
  pub alike : AreAlike l snapshots (after m action) requests
  pub told : OnOpen (after m action) client (λ current. Contains current.outcomes outcome)
