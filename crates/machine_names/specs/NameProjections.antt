-- A machine that was run by names alone beside a whole one: names, moments, files and open name calls are the same, and each action on names that the one takes the other may take too, where it is ready for it (sections 2.4 and 4.1).
use Rattle.std.specs.Prelude.{◌≡◌, ℕ, Bool, [], Option, Some, None, IsTrue, IsFalse}
use Rattle.gfs_types.specs.declared.call.Call.{Call}
use Rattle.gfs_types.specs.declared.call.Call.TheVariants as call
use Rattle.gfs_types.specs.declared.shape.Shape.{Shape}
use Rattle.gfs_types.specs.declared.answer.Answer.{Answer}
use Rattle.relaxed_file.specs.Names.{copied_entries}
use Rattle.relaxed_file.specs.Machine.{Machine, FileState, Client, OpenCall, IsOpen}
use Rattle.relaxed_file.specs.NameStep.{is_name_call, is_refused, AllRoundsClosed}
use Rattle.relaxed_file.specs.Run.{Action, Invoke, Return, Step, Allows, after}
use Rattle.machine_names.specs.NameRuns.{is_name_action}

-- the same name call, of which the same came so far; the second is one of the whole machine, whose client has it under its number
pub record IsSameCall (state : Client) (c d : OpenCall) : Type 0 where
  pub naming : IsTrue (is_name_call c.asked.call)
  pub call_is : d.asked.call ≡ c.asked.call
  pub no_file : (c.asked.file ≡ None) × (d.asked.file ≡ None)
  pub begun : d.has_begun ≡ c.has_begun
  pub locks : d.has_locks ≡ c.has_locks
  pub outcomes : d.outcomes ≡ c.outcomes
  pub no_offer : d.offers ≡ []
  pub listed : state.calls d.number ≡ Some d.asked

-- Where a name call is open, it is the same at both; where none is, the whole machine may have a call on a file open.
abbrev pub AreSameCalls : Client → Option OpenCall → Option OpenCall → Type 0
AreSameCalls state None None = Unit {0}
AreSameCalls state None (Some d) = IsFalse (is_name_call d.asked.call)
AreSameCalls state (Some c) None = ⊥
AreSameCalls state (Some c) (Some d) = IsSameCall state c d

-- what goes with a file's names: whether it was collected, and its shape
abbrev pub named_state : FileState → Bool × Shape
named_state f = (f.is_collected, f.shape)

-- The second machine has what the first one has of names.
pub record AreNamesOf (m n : Machine) : Type 0 where
  pub config : n.config ≡ m.config
  pub clock : n.clock ≡ m.clock
  pub names : n.names ≡ m.names
  pub count : n.file_count ≡ m.file_count
  pub files : (file : ℕ) → named_state (n.files file) ≡ named_state (m.files file)
  pub calls : (client : ℕ) → AreSameCalls (m.clients client) (n.clients client).open_call (m.clients client).open_call
  pub fds : (client : ℕ) → (n.clients client).fd_count ≡ (m.clients client).fd_count

abbrev pub AreSourcesClosed : Machine → Call → Type 0
AreSourcesClosed m (call.Snapshot p q) = AllRoundsClosed m (copied_entries m.names p q)
AreSourcesClosed m other = Unit {0}

-- What more the whole machine asks of an action on names: that no call on a file is open where a name call is made, and that a snapshot finds the rounds closed.
abbrev pub IsReady : Machine → Action → Type 0
IsReady m (Invoke client c) = ((m.clients client).open_call ≡ None) × IsTrue (is_name_call c)
IsReady m (Step client moment outcome) = (current : OpenCall) → IsOpen m client current → IsFalse (is_refused outcome) → AreSourcesClosed m current.asked.call
IsReady m other = Unit {0}

-- Each action on names that the second machine takes the first may take too, and they have the same names again.
abbrev pub NameActionsAreTaken : Type 0
NameActionsAreTaken =
    (m n : Machine) (action : Action) → AreNamesOf m n → IsTrue (is_name_action action) → Allows n action → IsReady m action
    → Allows m action × AreNamesOf (after m action) (after n action)

-- What the whole machine does to chunks, or for a call on a file, leaves its names.
abbrev pub ChunkActionsKeepNames : Type 0
ChunkActionsKeepNames = (m n : Machine) (action : Action) → AreNamesOf m n → IsFalse (is_name_action action) → Allows m action → AreNamesOf (after m action) n

-- So do a call on a file and its answer.
abbrev pub FileCallsKeepNames : Type 0
FileCallsKeepNames =
    (m n : Machine) (client : ℕ) → AreNamesOf m n
    → ((c : Call) → IsFalse (is_name_call c) → Allows m (Invoke client c) → AreNamesOf (after m (Invoke client c)) n)
    × ((reply : Answer) (d : OpenCall) → IsOpen m client d → IsFalse (is_name_call d.asked.call) → AreNamesOf (after m (Return client reply)) n)
