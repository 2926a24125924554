-- The machine's open rounds from each world of a cell to the next, where clocks are kept: which event may end one, and why its lease is over then (sections 3.1 and 3.4).
use Rattle.std.specs.Prelude.{◌≡◌, ◌≢◌, ◌⊎◌, ℕ, ◌<◌, ◌≤◌, Bool, List, [], ◌∷◌, length, Some, IsTrue, IsFalse}
use Rattle.std.specs.FinMap as table
use Rattle.gfs_types.specs.declared.config.Config.{Config}
use Rattle.gfs_types.specs.declared.ids.Handle.{Handle}
use Rattle.gfs_types.specs.declared.ids.Moment.{Moment}
use Rattle.gfs_types.specs.declared.ids.OrderNo.{OrderNo}
use Rattle.gfs_types.specs.declared.ids.Version.{Version}
use Rattle.gfs_types.specs.declared.ids.Node.TheVariants.{Master}
use Rattle.messages.specs.declared.event.Event.{Event}
use Rattle.messages.specs.declared.event.Event.TheVariants as event
use Rattle.messages.specs.declared.event.NodeInput.{NodeInput}
use Rattle.messages.specs.declared.event.NodeInput.TheVariants as input
use Rattle.messages.specs.declared.message.Message.{Message}
use Rattle.chunk_table.specs.ChunkTable.{ChunkRow, chunk_of}
use Rattle.protocol.specs.Choice.{Choice, decided_changes, made_changes}
use Rattle.protocol.specs.Tables.{moment_limit, element_at}
use Rattle.protocol.specs.Sending.{handle_of}
use Rattle.protocol.specs.declared.seen.Seen.TheVariants.{CopyStarted}
use Rattle.log_records.specs.declared.record.Record.{Record}
use Rattle.log_records.specs.declared.record.Record.TheVariants as log
use Rattle.protocol.specs.Logged.{Logged, Copy, LogDisk, LogChange, AppendRecord, WriteCheckpoint, first_logged, after_records, log_changed, log_changed_by_all, replayed}
use Rattle.protocol.specs.Master.{MasterState, VersionAttempt}
use Rattle.protocol.specs.MasterStep.{master_goes, master_step}
use Rattle.protocol.specs.World.{WorldState, numbered_from_1, happens, IsReached}
use Rattle.laws_base.specs.Laws.{IsGrantBody, grants_of}
use Rattle.laws_base.specs.Versions.{IsLeaseOver, AreLeasesOver}
use Rattle.protocol_invariant.specs.Actions.{Spot}
use Rattle.laws_machine.specs.ChunksAlike.{ChunkSides, IsRoundOpen, AreChunksAlike, KeepsRounds, HasRounds}
use Rattle.laws_machine.specs.EntrySteps.{StandsNowhereElse}

-- what a master's log says, as it is decided what of it was under way
abbrev pub log_as : MasterState → List Bool → Logged
log_as s decided = replayed (log_changed_by_all s.disk (decided_changes decided s.under_way))

-- What a master has logged: while it is up, what it keeps; while it is down, what its log says for one way to decide.
abbrev pub IsLogOf : MasterState → Logged → Type 0
IsLogOf s l = (IsTrue s.up × (l ≡ s.logged)) ⊎ (IsFalse s.up × (decided : List Bool) × (l ≡ log_as s decided))

-- a message or a tick is given to the master
abbrev pub IsMastersStep : WorldState → Event → Type 0
IsMastersStep w (event.Deliver number now) = (m : Message) × (numbered_from_1 w.sent number ≡ Some m) × (m.receiver ≡ Master)
IsMastersStep w (event.Tick n now) = n ≡ Master
IsMastersStep w other = ⊥

-- each lease of the chunk that was granted before an event is over after it
abbrev pub IsEnded : WorldState → WorldState → ℕ → Type 0
IsEnded w then_ handle = (version : ℕ) → 1 ≤ grants_of handle version w.sent → IsLeaseOver then_ handle version

-- At an event that is no step of the master nothing is granted: where rounds end there only of chunks whose leases are over, the round of each lease that isn't over is open again.
abbrev pub OtherEventsKeepRounds : Type 0
OtherEventsKeepRounds =
    (config : Config) (servers clients : ℕ) (w : WorldState) → IsReached config servers clients w → (e : Event) (choice : Choice) → IsTrue (happens w e choice).world.observer.are_clocks_kept
    → (IsMastersStep w e → ⊥)
    → (k j : ChunkSides) → HasRounds (IsLeaseOver w) k → KeepsRounds (IsEnded w (happens w e choice).world) k j → HasRounds (IsLeaseOver (happens w e choice).world) j

-- Each lease of a chunk that several files own in the master's log is over, however it is decided what of the log was under way.
abbrev pub SharedChunksInEachLogHaveNoLease : Type 0
SharedChunksInEachLogHaveNoLease =
    (config : Config) (servers clients : ℕ) (w : WorldState) → IsReached config servers clients w → IsTrue w.observer.are_clocks_kept
    → (l : Logged) → IsLogOf w.master l → (handle : ℕ) (row : ChunkRow) → chunk_of l.table handle ≡ Some row → 2 ≤ row.references → AreLeasesOver w handle

-- So a chunk stands at one place at most in the log, or the lease is over.
abbrev pub LeasedChunksStandOnce : Type 0
LeasedChunksStandOnce =
    (config : Config) (servers clients : ℕ) (w : WorldState) → IsReached config servers clients w → IsTrue w.observer.are_clocks_kept
    → (k : ChunkSides) → IsLogOf w.master k.log → (handle version : ℕ) → IsLeaseOver w handle version ⊎ StandsNowhereElse k handle

-- The open rounds of a chunk that stands at one place at most are at one place of the machine.
abbrev pub OpenRoundsHaveOneSpot : Type 0
OpenRoundsHaveOneSpot =
    (k : ChunkSides) → AreChunksAlike k → (handle version other : ℕ) (s t : Spot) → StandsNowhereElse k handle → IsRoundOpen k handle version s → IsRoundOpen k handle other t → s ≡ t

-- a version of the chunk is attempted
abbrev pub IsTried : MasterState → ℕ → Type 0
IsTried s handle = IsTrue s.up × (a : VersionAttempt) × (table.get s.attempts handle ≡ Some a) × (row : ChunkRow) × (chunk_of s.logged.table handle ≡ Some row)

-- a copy of it is under way
abbrev pub IsCopied : MasterState → ℕ → Type 0
IsCopied s handle = IsTrue s.up × (copy : ℕ) × (c : Copy) × (table.get s.logged.copies copy ≡ Some c) × (c.source ≡ handle)

-- it is a copy that is under way
abbrev pub IsCopy : MasterState → ℕ → Type 0
IsCopy s handle = IsTrue s.up × (c : Copy) × (table.get s.logged.copies handle ≡ Some c)

-- it begins as a copy in a step of the master
abbrev pub IsBegun : MasterState → ℕ → Type 0
IsBegun s handle = (moment : ℕ) × (i : NodeInput) × (choice : Choice) × (place : ℕ) × (source : Handle) × (element_at (master_step s moment i choice).seen place ≡ Some (CopyStarted source (handle_of handle)))

-- several files own it in the master's log
abbrev pub IsShared : MasterState → ℕ → Type 0
IsShared s handle = (l : Logged) × IsLogOf s l × (row : ChunkRow) × (chunk_of l.table handle ≡ Some row) × (2 ≤ row.references)

-- The master may end rounds of the chunk between these two states: of a chunk whose version is attempted; of a copy, and of what it copies; and of a chunk that several files own, before or after.
abbrev pub MayEnd : MasterState → MasterState → ℕ → Type 0
MayEnd before after handle = IsTried before handle ⊎ IsCopied before handle ⊎ IsCopy before handle ⊎ IsBegun before handle ⊎ IsShared before handle ⊎ IsShared after handle

-- Where rounds of a chunk may end at an event, each of its leases that was granted before is over after it.
abbrev pub EndedRoundsAreOver : Type 0
EndedRoundsAreOver =
    (config : Config) (servers clients : ℕ) (w : WorldState) → IsReached config servers clients w → (e : Event) (choice : Choice) → IsTrue (happens w e choice).world.observer.are_clocks_kept
    → (handle : ℕ) → MayEnd w.master (happens w e choice).world.master handle → IsEnded w (happens w e choice).world handle

-- each Grant that was sent by an event has its round open
abbrev pub SentGrantsAreOpen : WorldState → WorldState → ChunkSides → Type 0
SentGrantsAreOpen w then_ j =
    (place : ℕ) (m : Message) (order : OrderNo) (handle : Handle) (version : Version) (end_moment : Moment) (members : List ℕ) → length w.sent ≤ place → element_at then_.sent place ≡ Some m
    → IsGrantBody order handle version end_moment members m.body → (s : Spot) × IsRoundOpen j handle.0 version.0 s

-- So at each event, a step of the master or its restart too, the round of each lease that isn't over is open again, where rounds end only of chunks of which they may, and what is granted has its round open.
abbrev pub EachEventKeepsRounds : Type 0
EachEventKeepsRounds =
    (config : Config) (servers clients : ℕ) (w : WorldState) → IsReached config servers clients w → (e : Event) (choice : Choice) → IsTrue (happens w e choice).world.observer.are_clocks_kept
    → (k j : ChunkSides) → HasRounds (IsLeaseOver w) k → KeepsRounds (MayEnd w.master (happens w e choice).world.master) k j → SentGrantsAreOpen w (happens w e choice).world j
    → HasRounds (IsLeaseOver (happens w e choice).world) j

-- this input is given to the master at this moment
abbrev pub IsMastersInput : WorldState → Event → ℕ → NodeInput → Type 0
IsMastersInput w (event.Deliver number now) moment (input.Deliver m) = (numbered_from_1 w.sent number ≡ Some m) × (m.receiver ≡ Master) × (now.0 ≡ moment)
IsMastersInput w (event.Tick n now) moment input.Tick = (n ≡ Master) × (now.0 ≡ moment)
IsMastersInput w e moment i = ⊥

-- what a master's log says after so many changes of a step
abbrev pub log_within : MasterState → ℕ → NodeInput → List Bool → ℕ → Logged
log_within s moment i refused made = replayed (log_changed_by_all s.disk (made_changes made (master_goes s moment i refused).changes))

-- What the log says along a step of the master: after each of its changes, of a chunk that several files own each lease is over after the step, and so is that of each version but the granted one, of those that were granted before it; and no Grant was sent before of a version above the granted one.
abbrev pub LogsWithinStepsEndLeases : Type 0
LogsWithinStepsEndLeases =
    (config : Config) (servers clients : ℕ) (w : WorldState) → IsReached config servers clients w → IsTrue w.master.up
    → (e : Event) (moment : ℕ) (i : NodeInput) (choice : Choice) → IsMastersInput w e moment i → moment ≤ moment_limit → IsTrue (happens w e choice).world.observer.are_clocks_kept
    → (made handle : ℕ) (row : ChunkRow) → chunk_of (log_within w.master moment i choice.refused made).table handle ≡ Some row
    → ((version : ℕ) → 1 ≤ grants_of handle version w.sent → (2 ≤ row.references) ⊎ (version ≢ row.granted) → IsLeaseOver (happens w e choice).world handle version)
    × ((version : ℕ) → row.granted < version → grants_of handle version w.sent ≡ 0)

-- what a log says, with the copies under way
abbrev pub log_on : LogDisk → Logged
log_on d = after_records (after_records first_logged d.items) d.records

-- where a record grants a copy that is under way in this log, each lease of its source is over
abbrev pub IsSourceOver : WorldState → Logged → Record → Type 0
IsSourceOver w l (log.Grant handle version primary members) = (c : Copy) → table.get l.copies handle.0 ≡ Some c → AreLeasesOver w c.source
IsSourceOver w l other = Unit {0}

abbrev pub AreSourcesOver : WorldState → LogDisk → List LogChange → Type 0
AreSourcesOver w d [] = Unit {0}
AreSourcesOver w d (AppendRecord r ∷ rest) = IsSourceOver w (log_on d) r × AreSourcesOver w (log_changed d (AppendRecord r)) rest
AreSourcesOver w d (WriteCheckpoint items ∷ rest) = AreSourcesOver w (log_changed d (WriteCheckpoint items)) rest

-- Where clocks are kept and a step of the master grants a copy, each lease of its source is over before the step.
abbrev pub SourcesOfGrantedCopiesHaveNoLease : Type 0
SourcesOfGrantedCopiesHaveNoLease =
    (config : Config) (servers clients : ℕ) (w : WorldState) → IsReached config servers clients w → IsTrue w.observer.are_clocks_kept → IsTrue w.master.up
    → (moment : ℕ) (i : NodeInput) (refused : List Bool) → AreSourcesOver w w.master.disk (master_goes w.master moment i refused).changes
