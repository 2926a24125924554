-- A Name was answered, or is too late, or is of its client's open call (sections 2.6.3 and 3.4).
use Rattle.std.specs.Prelude.{◌≡◌, ◌⊎◌, ℕ, ◌+◌, ◌≤◌, List, Some, Contains, IsFalse}
use Rattle.std.specs.FinMap as table
use Rattle.gfs_types.specs.declared.call.Call.{Call}
use Rattle.relaxed_file.specs.Machine.{Machine, OpenCall, Outcome}
use Rattle.relaxed_file.specs.NameStep.{is_look}
use Rattle.protocol.specs.Tables.{Table}
use Rattle.protocol.specs.Logged.{Logged, KeptCall}
use Rattle.protocol.specs.Master.{MasterDoing, PendingSnapshot}
use Rattle.laws_names.specs.Alike.{Requests, AreAlike, IsWaiting, IsAnswered}
use Rattle.laws_names.specs.Followed.{RunsTo, AreKeptOn, IsTimely, IsRequest}

-- Its number has a kept answer, or a later one of its client has; or the clock is past its deadline by the clock bound; or its call is open.
abbrev pub IsOldOrOpen : Table KeptCall → Machine → Requests → ℕ → ℕ → ℕ → Call → Type 0
IsOldOrOpen kept m requests client number deadline c =
    ((k : KeptCall) × (table.get kept client ≡ Some k) × (number ≤ k.number))
    ⊎ ((deadline + m.config.skew_ms ≤ m.clock)
    ⊎ ((current : OpenCall) × IsWaiting m requests client number current × (current.asked.call ≡ c)))

-- Where such a Name may take effect, its call is open.
abbrev pub OldOrOpenNamesAreRequests : Type 0
OldOrOpenNamesAreRequests =
    (d : MasterDoing) (m : Machine) (requests : Requests) (client number deadline : ℕ) (c : Call)
    → IsTimely m d.master.now → IsFalse (is_look c) → IsOldOrOpen d.master.logged.kept m requests client number deadline c
    → IsRequest d m requests client number deadline c

-- no answer is kept under a later number than that of its client's open request
abbrev pub AreNotLater : Requests → Table KeptCall → Type 0
AreNotLater requests kept = (client number : ℕ) (k : KeptCall) → table.get kept client ≡ Some k → requests client ≡ Some number → k.number ≤ number

-- So it stays as the machine follows the master, unseen; and no later answer is kept.
abbrev pub NamesStayOldOrOpen : Type 0
NamesStayOldOrOpen =
    (m n : Machine) (requests : Requests) (before now : Table KeptCall) → RunsTo m n → AreKeptOn requests before now → AreNotLater requests before
    → AreNotLater requests now
    × ((client number deadline : ℕ) (c : Call) → IsOldOrOpen before m requests client number deadline c → IsOldOrOpen now n requests client number deadline c)

-- A call that changes names and has an outcome, as one that is answered so, has its answer kept.
abbrev pub AnsweredNamesAreKept : Type 0
AnsweredNamesAreKept =
    (l : Logged) (snapshots : List PendingSnapshot) (m : Machine) (requests : Requests) (client number : ℕ) (current : OpenCall) (outcome : Outcome)
    → AreAlike l snapshots m requests → IsWaiting m requests client number current → IsFalse (is_look current.asked.call) → Contains current.outcomes outcome
    → IsAnswered l.kept client number
