-- The whole machine follows a step of the master in a reached world, record by record (sections 2.6.3, 3.1, 3.4 and 4.1).
use Rattle.std.specs.Prelude.{◌≡◌, ◌⊎◌, ℕ, Bool, List, [], ◌∷◌, IsTrue}
use Rattle.gfs_types.specs.declared.config.Config.{Config}
use Rattle.messages.specs.declared.event.NodeInput.{NodeInput}
use Rattle.messages.specs.declared.event.NodeInput.TheVariants as input
use Rattle.messages.specs.declared.message.Body.{Body}
use Rattle.messages.specs.declared.message.Body.TheVariants as body
use Rattle.log_records.specs.declared.record.Record.{Record}
use Rattle.log_records.specs.declared.record.Record.TheVariants as log
use Rattle.relaxed_file.specs.Order.{CallId}
use Rattle.relaxed_file.specs.Machine.{Machine, Asked}
use Rattle.relaxed_file.specs.Chunks.{MayAdd}
use Rattle.relaxed_file.specs.Run.{LeadsTo}
use Rattle.protocol.specs.Tables.{Table}
use Rattle.protocol.specs.Choice.{Choice}
use Rattle.protocol.specs.Logged.{Logged, LogDisk, LogChange, AppendRecord, WriteCheckpoint, log_changed, log_changed_by_all, replayed}
use Rattle.protocol.specs.Observer.{Placed}
use Rattle.protocol.specs.Master.{MasterState, master_begins}
use Rattle.protocol.specs.MasterStep.{master_at, master_goes, found_log}
use Rattle.protocol.specs.World.{WorldState, IsReached}
use Rattle.laws_names.specs.Alike.{Requests, AreAlike}
use Rattle.laws_names.specs.Followed.{AreKeptOn, IsBeside}
use Rattle.laws_names.specs.FollowedSteps.{ComesTo, IsAtStep, IsInputOfOpenCall, log_left, opened}
use Rattle.laws_names.specs.NameTrails.{log_read, IsBesideLog}
use Rattle.laws_machine.specs.ChunksAlike.{ChunkSides, IsRoundOpen}
use Rattle.protocol_invariant.specs.Actions.{Spot}
use Rattle.laws_machine.specs.MasterSteps.{IsWhole, Comes, EndsAtChange, GoesAtChange, AreGoneBy, HaveSameFiles, HasFilesOf, WholeTrail}

-- A call asks for the chunk: whichever whole machine, of those that the first one leads to, goes beside the log then, it may add it.
abbrev pub IsChunkAskedFor : Machine → Table (List Placed) → Logged → ℕ → Type 0
IsChunkAskedFor first orders l file =
    (k : ChunkSides) (n : Machine) → LeadsTo first k.machine → k.log ≡ l → k.orders ≡ orders → IsWhole k n → HasFilesOf k.log n → (id : CallId) × (asked : Asked) × MayAdd k.machine id asked file

-- what is asked beside the log of a record
abbrev pub IsAskedFor : Machine → Table (List Placed) → Logged → Record → Type 0
IsAskedFor first orders l (log.AddChunk file handle) = IsChunkAskedFor first orders l file.0
IsAskedFor first orders l other = Unit {0}

-- each chunk that a step adds is asked for
abbrev pub AreAskedFor : Machine → Table (List Placed) → LogDisk → List LogChange → Type 0
AreAskedFor first orders d [] = Unit {0}
AreAskedFor first orders d (AppendRecord r ∷ rest) = IsAskedFor first orders (log_read d) r × AreAskedFor first orders (log_changed d (AppendRecord r)) rest
AreAskedFor first orders d (WriteCheckpoint items ∷ rest) = AreAskedFor first orders (log_changed d (WriteCheckpoint items)) rest

-- what is taken is no Ask
abbrev pub IsNoAskIn : Body → Type 0
IsNoAskIn (body.Ask number file what deadline lost) = ⊥
IsNoAskIn other = Unit {0}

abbrev pub TakesNoAsk : NodeInput → Type 0
TakesNoAsk (input.Deliver m) = IsNoAskIn m.body
TakesNoAsk input.Tick = Unit {0}

-- A step that takes no Ask adds no chunk, so nothing is asked of it.
abbrev pub OnlyAsksAddChunks : Type 0
OnlyAsksAddChunks =
    (m : MasterState) (moment : ℕ) (i : NodeInput) (refused : List Bool) → TakesNoAsk i
    → (first : Machine) (orders : Table (List Placed)) (d : LogDisk) → AreAskedFor first orders d (master_goes m moment i refused).changes

-- A step that a master takes, whatever it is, where clocks are kept: the whole machine follows it, change by change, and the machine by names alone is beside the step in the end.
abbrev pub MasterStepsAreTaken : Type 0
MasterStepsAreTaken =
    (config : Config) (servers clients : ℕ) (w : WorldState) → IsReached config servers clients w → IsTrue w.observer.are_clocks_kept → IsTrue w.master.up
    → (moment : ℕ) (i : NodeInput) (refused : List Bool) (n : Machine) (requests : Requests) (k : ChunkSides)
    → IsAtStep config (master_at w.master moment) n requests → IsInputOfOpenCall (master_begins (master_at w.master moment) refused) n requests i
    → k.log ≡ log_read w.master.disk → k.orders ≡ w.observer.orders → IsWhole k n
    → AreAskedFor k.machine k.orders w.master.disk (master_goes w.master moment i refused).changes
    → (later : Machine) × ComesTo n later requests × IsBeside (master_goes w.master moment i refused) later requests
    × AreKeptOn requests w.master.logged.kept (master_goes w.master moment i refused).master.logged.kept
    × WholeTrail requests n w.master.disk w.master.disk k (master_goes w.master moment i refused).changes later

-- A state of a master that is up has the files of its log, and the log those of the state; so has the log, and the log without copies under way.
abbrev pub StatesHaveTheirLogsFiles : Type 0
StatesHaveTheirLogsFiles =
    (config : Config) (servers clients : ℕ) (w : WorldState) → IsReached config servers clients w
    → (IsTrue w.master.up → HaveSameFiles w.master.logged (log_read w.master.disk) × HaveSameFiles (log_read w.master.disk) w.master.logged)
    × ((choice : Choice) → HaveSameFiles (log_read (found_log w.master choice)) (replayed (found_log w.master choice)) × HaveSameFiles (replayed (found_log w.master choice)) (log_read (found_log w.master choice)))

-- handles whose rounds may end at some of these changes
abbrev pub EndsAlong : LogDisk → List LogChange → ℕ → Type 0
EndsAlong d [] handle = ⊥
EndsAlong d (x ∷ rest) handle = EndsAtChange d x handle ⊎ EndsAlong (log_changed d x) rest handle

-- where handles stand that may go at some of these changes, as the log is then
abbrev pub GoesAlong : LogDisk → List LogChange → ℕ → Spot → Type 0
GoesAlong d [] handle s = ⊥
GoesAlong d (x ∷ rest) handle s = GoesAtChange d x handle s ⊎ GoesAlong (log_changed d x) rest handle s

-- the round of each Grant among these is open, or may end at a later one
abbrev pub IsOpenOrEnds : ChunkSides → LogDisk → List LogChange → LogChange → Type 0
IsOpenOrEnds j d rest (AppendRecord (log.Grant handle version primary members)) = EndsAlong d rest handle.0 ⊎ ((s : Spot) × IsRoundOpen j handle.0 version.0 s)
IsOpenOrEnds j d rest other = Unit {0}

abbrev pub AreRoundsOpened : LogDisk → List LogChange → ChunkSides → Type 0
AreRoundsOpened d [] j = Unit {0}
AreRoundsOpened d (x ∷ rest) j = IsOpenOrEnds j (log_changed d x) rest x × AreRoundsOpened (log_changed d x) rest j

-- The whole machine beside a log that a stop leaves, with the machine by names alone there.
pub record IsLeftAt (requests : Requests) (first : Machine) (start : LogDisk) (k : ChunkSides) (Ends : ℕ → Type 0) (Goes : ℕ → Spot → Type 0) (left : LogDisk) : Type 0 where
  pub names : Machine
  pub beside : IsBesideLog requests first start left names
  pub sides : ChunkSides
  pub log : sides.log ≡ log_read left
  pub orders : sides.orders ≡ k.orders
  pub comes : Comes Ends k sides names
  pub gone : AreGoneBy Goes k sides

-- Wherever the step stops, and however it is decided what was under way, the whole machine goes beside the log that is left.
abbrev pub StopsAreTaken : Type 0
StopsAreTaken =
    (requests : Requests) (first : Machine) (start d : LogDisk) (changes : List LogChange) (k : ChunkSides) (n later : Machine)
    → IsWhole k n → IsBesideLog requests first start d n → k.log ≡ log_read d → WholeTrail requests first start d k changes later
    → (made : ℕ) (decided : List Bool) → IsLeftAt requests first start k (EndsAlong d changes) (GoesAlong d changes) (log_left d changes made decided)

-- After all changes the whole machine is beside the last log, each round that was granted on the way is open, or ends later on the way, and handles that are gone went on the way or before.
abbrev pub EndsAreReached : Type 0
EndsAreReached =
    (requests : Requests) (first : Machine) (start d : LogDisk) (changes : List LogChange) (k : ChunkSides) (n later : Machine)
    → IsWhole k n → k.log ≡ log_read d → WholeTrail requests first start d k changes later
    → (j : ChunkSides) × (j.log ≡ log_read (log_changed_by_all d changes)) × (j.orders ≡ k.orders) × Comes (EndsAlong d changes) k j later
    × AreRoundsOpened d changes j × AreGoneBy (GoesAlong d changes) k j

-- At a restart the whole machine that is beside the log which was decided goes beside each log that the opening makes of it.
abbrev pub RestartsAreTaken : Type 0
RestartsAreTaken =
    (config : Config) (servers clients : ℕ) (w : WorldState) → IsReached config servers clients w → (moment : ℕ) (choice : Choice) (n : Machine) (requests : Requests) (k : ChunkSides)
    → AreAlike (replayed (found_log w.master choice)) [] n requests → k.log ≡ log_read (found_log w.master choice) → IsWhole k n
    → WholeTrail requests n (found_log w.master choice) (found_log w.master choice) k (opened w.master moment choice).changes n
