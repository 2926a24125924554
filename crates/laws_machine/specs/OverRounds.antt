-- Where clocks are kept, the rounds that may end in a step of the master are of chunks whose leases are over as its moment has passed (sections 3.1 and 3.4).
use Rattle.std.specs.Prelude.{◌≡◌, ◌⊎◌, ℕ, ◌≤◌, nat_le, Some, Bool, List, [], ◌∷◌, IsTrue}
use Rattle.gfs_types.specs.declared.config.Config.{Config}
use Rattle.gfs_types.specs.declared.ids.Moment.{Moment}
use Rattle.gfs_types.specs.declared.ids.Node.TheVariants as node
use Rattle.messages.specs.declared.event.Event.{Event}
use Rattle.messages.specs.declared.event.Event.TheVariants as event
use Rattle.messages.specs.declared.event.NodeInput.{NodeInput}
use Rattle.messages.specs.declared.event.NodeInput.TheVariants as input
use Rattle.messages.specs.declared.message.Message.{Message}
use Rattle.log_records.specs.declared.record.Record.TheVariants as log
use Rattle.relaxed_file.specs.Machine.{Machine}
use Rattle.protocol.specs.Tables.{moment_limit}
use Rattle.protocol.specs.Logged.{LogDisk, LogChange, AppendRecord, log_changed, log_changed_by_all}
use Rattle.protocol.specs.Choice.{Choice, Goes, Stops}
use Rattle.protocol.specs.Master.{MasterState}
use Rattle.protocol.specs.MasterStep.{master_step, master_goes, found_log, master_restart}
use Rattle.protocol.specs.Observer.{observed_moment}
use Rattle.protocol.specs.World.{WorldState, IsReached, numbered_from_1, happens, after_master}
use Rattle.laws_base.specs.Versions.{IsLeaseOver, AreLeasesOver}
use Rattle.laws_names.specs.Alike.{Requests}
use Rattle.laws_names.specs.FollowedSteps.{log_left, opened}
use Rattle.laws_names.specs.NameTrails.{log_read, IsBesideLog}
use Rattle.protocol_invariant.specs.Actions.{Spot}
use Rattle.laws_machine.specs.ChunksAlike.{ChunkSides, HasRounds}
use Rattle.laws_machine.specs.MasterSteps.{IsWhole, Comes, AreGoneBy, WholeTrail}
use Rattle.laws_machine.specs.WholeSteps.{EndsAlong, GoesAlong, IsLeftAt}

-- the event is a step of the master that takes this
abbrev pub IsMastersEvent : WorldState → Event → ℕ → NodeInput → Type 0
IsMastersEvent w e moment i = (choice : Choice) → (happens w e choice).world ≡ (after_master w moment (master_step w.master moment i choice)).world

-- So are a tick of a master that is up, and a message to it that is delivered.
abbrev pub MastersEventsAreSteps : Type 0
MastersEventsAreSteps =
    (w : WorldState) → IsTrue w.master.up → (now : Moment) → IsTrue (nat_le now.0 moment_limit)
    → IsMastersEvent w (event.Tick node.Master now) now.0 input.Tick
    × ((number : ℕ) (m : Message) → numbered_from_1 w.sent number ≡ Some m → m.receiver ≡ node.Master → IsMastersEvent w (event.Deliver number now) now.0 (input.Deliver m))

-- the world as a moment was given, before anything else is done
abbrev pub passed : WorldState → ℕ → WorldState
passed w moment = record w { observer = observed_moment w.config.skew_ms w.observer moment }

-- Each chunk whose rounds may end along the changes of a step has no lease that lasts, nor one that comes.
abbrev pub RoundsThatEndAreOver : Type 0
RoundsThatEndAreOver =
    (config : Config) (servers clients : ℕ) (w : WorldState) → IsReached config servers clients w → IsTrue w.master.up → (e : Event) (moment : ℕ) (i : NodeInput) → IsMastersEvent w e moment i
    → IsTrue (passed w moment).observer.are_clocks_kept → (choice : Choice) → (handle : ℕ) → EndsAlong w.master.disk (master_goes w.master moment i choice.refused).changes handle → AreLeasesOver (passed w moment) handle

-- So they are before the step, or after it, also where it goes through and grants.
abbrev pub RoundsThatEndStayOver : Type 0
RoundsThatEndStayOver =
    (config : Config) (servers clients : ℕ) (w : WorldState) → IsReached config servers clients w → IsTrue w.master.up → (e : Event) (moment : ℕ) (i : NodeInput) → IsMastersEvent w e moment i
    → IsTrue (passed w moment).observer.are_clocks_kept → (choice : Choice) → choice.ending ≡ Goes
    → (handle : ℕ) → EndsAlong w.master.disk (master_goes w.master moment i choice.refused).changes handle → AreLeasesOver w handle ⊎ AreLeasesOver (happens w e choice).world handle

-- Where a step of the master stops, the whole machine is beside the log that is left, and the round of each lease that isn't over is open again.
abbrev pub StoppedStepsKeepRounds : Type 0
StoppedStepsKeepRounds =
    (config : Config) (servers clients : ℕ) (w : WorldState) → IsReached config servers clients w → IsTrue w.master.up → (e : Event) (moment : ℕ) (i : NodeInput) → IsMastersEvent w e moment i
    → IsTrue (passed w moment).observer.are_clocks_kept → (choice : Choice) (made : ℕ) → choice.ending ≡ Stops made
    → (requests : Requests) (k : ChunkSides) (n later : Machine) → IsWhole k n → IsBesideLog requests n w.master.disk w.master.disk n → k.log ≡ log_read w.master.disk → HasRounds (IsLeaseOver w) k
    → WholeTrail requests n w.master.disk w.master.disk k (master_goes w.master moment i choice.refused).changes later → (decided : List Bool)
    → (left : IsLeftAt requests n w.master.disk k (EndsAlong w.master.disk (master_goes w.master moment i choice.refused).changes) (GoesAlong w.master.disk (master_goes w.master moment i choice.refused).changes) (log_left w.master.disk (master_goes w.master moment i choice.refused).changes made decided))
    × HasRounds (IsLeaseOver (happens w e choice).world) left.sides

-- what is granted by a change doesn't end along those that follow
abbrev pub IsGrantLast : LogDisk → List LogChange → LogChange → Type 0
IsGrantLast d rest (AppendRecord (log.Grant handle version primary members)) = EndsAlong d rest handle.0 → ⊥
IsGrantLast d rest other = Unit {0}

abbrev pub AreGrantsLast : LogDisk → List LogChange → Type 0
AreGrantsLast d [] = Unit {0}
AreGrantsLast d (x ∷ rest) = IsGrantLast (log_changed d x) rest x × AreGrantsLast (log_changed d x) rest

-- what the master takes was sent
abbrev pub WasSent : WorldState → NodeInput → Type 0
WasSent w (input.Deliver m) = (number : ℕ) × (numbered_from_1 w.sent number ≡ Some m)
WasSent w input.Tick = Unit {0}

-- Where leases last, nothing that a step of the master grants ends in the same step.
abbrev pub GrantsAreLast : Type 0
GrantsAreLast =
    (config : Config) (servers clients : ℕ) (w : WorldState) → IsReached config servers clients w → IsTrue w.observer.are_clocks_kept → IsTrue w.master.up → 1 ≤ config.lease_ms
    → (moment : ℕ) (i : NodeInput) → WasSent w i → (refused : List Bool) → AreGrantsLast w.master.disk (master_goes w.master moment i refused).changes

-- Where a step goes through, the whole machine is beside the log in the end, and the round of each lease that isn't over is open again.
abbrev pub StepsKeepRounds : Type 0
StepsKeepRounds =
    (config : Config) (servers clients : ℕ) (w : WorldState) → IsReached config servers clients w → IsTrue w.master.up → (e : Event) (moment : ℕ) (i : NodeInput) → IsMastersEvent w e moment i
    → IsTrue (passed w moment).observer.are_clocks_kept → (choice : Choice) → choice.ending ≡ Goes → 1 ≤ config.lease_ms → WasSent w i
    → (requests : Requests) (k : ChunkSides) (n later : Machine) → IsWhole k n → k.log ≡ log_read w.master.disk → HasRounds (IsLeaseOver w) k
    → WholeTrail requests n w.master.disk w.master.disk k (master_goes w.master moment i choice.refused).changes later
    → (j : ChunkSides) × (j.log ≡ log_read (log_changed_by_all w.master.disk (master_goes w.master moment i choice.refused).changes)) × (j.orders ≡ k.orders)
    × Comes (EndsAlong w.master.disk (master_goes w.master moment i choice.refused).changes) k j later × HasRounds (IsLeaseOver (happens w e choice).world) j
    × AreGoneBy (GoesAlong w.master.disk (master_goes w.master moment i choice.refused).changes) k j

-- The opening of a restart ends no round.
abbrev pub OpeningsEndNoRound : Type 0
OpeningsEndNoRound = (m : MasterState) (moment : ℕ) (choice : Choice) (handle : ℕ) → EndsAlong (found_log m choice) (opened m moment choice).changes handle → ⊥

-- Nor does it let a file expire.
abbrev pub OpeningsExpireNothing : Type 0
OpeningsExpireNothing = (m : MasterState) (moment : ℕ) (choice : Choice) (handle : ℕ) (s : Spot) → GoesAlong (found_log m choice) (opened m moment choice).changes handle s → ⊥

-- the event is a restart of the master
abbrev pub IsRestart : WorldState → Event → ℕ → Choice → Type 0
IsRestart w e moment choice = (happens w e choice).world ≡ (after_master w moment (master_restart w.master moment choice)).world

-- At a restart of the master the round of each lease that isn't over stays open, whatever the opening comes to.
abbrev pub RestartsKeepRounds : Type 0
RestartsKeepRounds =
    (config : Config) (servers clients : ℕ) (w : WorldState) → IsReached config servers clients w → (e : Event) (moment : ℕ) (choice : Choice) → IsRestart w e moment choice
    → IsTrue (passed w moment).observer.are_clocks_kept → (k j : ChunkSides) (n : Machine) → HasRounds (IsLeaseOver w) k
    → Comes (EndsAlong (found_log w.master choice) (opened w.master moment choice).changes) k j n → HasRounds (IsLeaseOver (happens w e choice).world) j
