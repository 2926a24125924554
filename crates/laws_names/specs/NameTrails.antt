-- Which action of the machine each record of the master's log is, and the machine's states along the changes that a step makes of the log (sections 2.6.3, 3.4 and 4.1).
use Rattle.std.specs.Prelude.{◌≡◌, ◌⊎◌, ℕ, suc, Bool, List, [], ◌∷◌, Some, IsTrue, IsFalse}
use Rattle.gfs_types.specs.declared.config.Config.{Config}
use Rattle.gfs_types.specs.declared.call.Call.{Call}
use Rattle.gfs_types.specs.declared.refusal.Refusal.{Refusal}
use Rattle.log_records.specs.declared.record.Record.{Record}
use Rattle.log_records.specs.declared.record.Record.TheVariants as log
use Rattle.messages.specs.declared.event.NodeInput.{NodeInput}
use Rattle.relaxed_file.specs.Machine.{Machine, OpenCall, IsOpen}
use Rattle.relaxed_file.specs.NameStep.{is_look, is_refused}
use Rattle.relaxed_file.specs.Run.{Action, Step, FindBusy, FindFull, Lock, Expire, Allows, after}
use Rattle.protocol.specs.Sending.{client_id, file_id}
use Rattle.protocol.specs.Choice.{Choice}
use Rattle.protocol.specs.Logged.{Logged, LogDisk, LogChange, AppendRecord, WriteCheckpoint, first_logged, log_changed, after_records, replayed}
use Rattle.protocol.specs.Master.{master_begins}
use Rattle.protocol.specs.MasterStep.{master_at, master_goes, found_log}
use Rattle.protocol.specs.World.{WorldState, IsReached}
use Rattle.laws_names.specs.Names.{record_of}
use Rattle.laws_names.specs.Alike.{Requests, AreAlike}
use Rattle.laws_names.specs.Followed.{AreKeptOn, IsBeside}
use Rattle.laws_names.specs.FollowedSteps.{ComesTo, IsAtStep, IsInputOfOpenCall, opened}

-- what a log says, with the copies that are under way in it
abbrev pub log_read : LogDisk → Logged
log_read d = after_records (after_records first_logged d.items) d.records

-- the client's open call is this one
abbrev pub HasCall : Machine → ℕ → Call → Type 0
HasCall m client c = (current : OpenCall) × IsOpen m client current × (current.asked.call ≡ c)

-- the record of the client's open call, of a master whose next file is the machine's
abbrev pub IsRecordOfCall : Machine → ℕ → ℕ → Record → Type 0
IsRecordOfCall m client moment r =
    (number : ℕ) × (c : Call) × (l : Logged) × HasCall m client c × (l.next_file ≡ suc m.file_count) × (record_of m.config l client number moment c ≡ Some r)

-- a refusal of the client's call
abbrev pub IsRefusal : ℕ → Record → Type 0
IsRefusal client r = (number : ℕ) × (refusal : Refusal) × (r ≡ log.Refused (client_id client) number refusal)

-- The action is what the record says: a call's step, a refusal, or a file that expires.
abbrev pub IsActionOf : Machine → Record → Action → Type 0
IsActionOf m r (Step client moment outcome) = (IsFalse (is_refused outcome) × IsRecordOfCall m client moment r) ⊎ (IsTrue (is_refused outcome) × IsRefusal client r)
IsActionOf m r (FindBusy client holder) = IsRefusal client r
IsActionOf m r (FindFull client) = IsRefusal client r
IsActionOf m r (Expire file moment) = r ≡ log.Expired (file_id file)
IsActionOf m r other = ⊥

-- an action that is logged nowhere: locks that are taken, calls that are found busy, and what Open and List come to
abbrev pub IsQuiet : Machine → Action → Type 0
IsQuiet m (Lock client) = Unit {0}
IsQuiet m (FindBusy client holder) = Unit {0}
IsQuiet m (Step client moment outcome) = (c : Call) × HasCall m client c × IsTrue (is_look c)
IsQuiet m other = ⊥

-- the machine comes from one state to the other by such actions
abbrev pub AreQuiet : Machine → List Action → Machine → Type 0
AreQuiet m [] n = m ≡ n
AreQuiet m (action ∷ rest) n = Allows m action × IsQuiet m action × AreQuiet (after m action) rest n

abbrev pub RunsQuietly : Machine → Machine → Type 0
RunsQuietly m n = (actions : List Action) × AreQuiet m actions n

-- a record about chunks
abbrev pub IsChunkRecord : Record → Type 0
IsChunkRecord (log.Epoch epoch) = Unit {0}
IsChunkRecord (log.AddChunk file handle) = Unit {0}
IsChunkRecord (log.Issue handle version) = Unit {0}
IsChunkRecord (log.Grant handle version primary members) = Unit {0}
IsChunkRecord (log.CopyStart file index handle copy copy_version) = Unit {0}
IsChunkRecord other = ⊥

-- what the machine does at a change of the log: nothing at a checkpoint and at a record about chunks, and else the action that the record says
abbrev pub IsChangeOf : Machine → Machine → LogChange → Type 0
IsChangeOf m n (AppendRecord r) = (IsChunkRecord r × (m ≡ n)) ⊎ ((action : Action) × Allows m action × IsActionOf m r action × (after m action ≡ n))
IsChangeOf m n (WriteCheckpoint items) = m ≡ n

-- The machine's state beside this log: clients saw nothing since the first one, and what was kept since then are answers to open requests.
pub record IsBesideLog (requests : Requests) (first : Machine) (start d : LogDisk) (m : Machine) : Type 0 where
  pub comes : ComesTo first m requests
  pub alike : AreAlike (log_read d) [] m requests
  pub kept_on : AreKeptOn requests (log_read start).kept (log_read d).kept

-- The machine's states along changes of a log, from m to n: quiet actions, and what each change is, after which the machine is beside the log again.
abbrev pub NameTrail : Requests → Machine → LogDisk → LogDisk → Machine → List LogChange → Machine → Type 0
NameTrail requests first start d m [] n = RunsQuietly m n
NameTrail requests first start d m (x ∷ rest) n =
    (a b : Machine) × RunsQuietly m a × IsChangeOf a b x × IsBesideLog requests first start (log_changed d x) b × NameTrail requests first start (log_changed d x) b rest n

-- A step of the master in a reached world, record by record: the machine takes the action of each record, in order, and quiet ones between them.
abbrev pub StepsGoByRecords : Type 0
StepsGoByRecords =
    (config : Config) (servers clients : ℕ) (w : WorldState) → IsReached config servers clients w → IsTrue w.master.up
    → (moment : ℕ) (i : NodeInput) (refused : List Bool) (n : Machine) (requests : Requests)
    → IsAtStep config (master_at w.master moment) n requests → IsInputOfOpenCall (master_begins (master_at w.master moment) refused) n requests i
    → (k : Machine) × ComesTo n k requests × IsBeside (master_goes w.master moment i refused) k requests
    × AreKeptOn requests w.master.logged.kept (master_goes w.master moment i refused).master.logged.kept
    × IsBesideLog requests n w.master.disk w.master.disk n × NameTrail requests n w.master.disk w.master.disk n (master_goes w.master moment i refused).changes k

-- At a restart the machine beside the log that was decided is beside each log that the opening makes of it.
abbrev pub RestartsGoByRecords : Type 0
RestartsGoByRecords =
    (config : Config) (servers clients : ℕ) (w : WorldState) → IsReached config servers clients w → (moment : ℕ) (choice : Choice) (n : Machine) (requests : Requests)
    → AreAlike (replayed (found_log w.master choice)) [] n requests
    → IsBesideLog requests n (found_log w.master choice) (found_log w.master choice) n
    × NameTrail requests n (found_log w.master choice) (found_log w.master choice) n (opened w.master moment choice).changes n
