-- What is known as the master tells, logs or shows something in a step, and what is asked of a predicate that each step keeps.
use Rattle.std.proofs.Common.{◌≡◌, ◌⊎◌, ℕ, suc, ◌≤◌, ◌<◌, Bool, true, false, List, [], ◌∷◌, ◌++◌, length, map, Some, None}
use Rattle.std.specs.Prelude.{nat_lt, unwrap_or}
use Rattle.std.specs.FinMap as table
use Rattle.gfs_types.specs.declared.ids.Node.{Node}
use Rattle.gfs_types.specs.declared.ids.Node.TheVariants as node
use Rattle.gfs_types.specs.declared.ids.OrderNo.{OrderNo}
use Rattle.gfs_types.specs.declared.ids.FileId.{FileId}
use Rattle.gfs_types.specs.declared.ids.Handle.{Handle}
use Rattle.gfs_types.specs.declared.ids.Version.{Version}
use Rattle.gfs_types.specs.declared.ids.Moment.{Moment}
use Rattle.gfs_types.specs.declared.refusal.Refusal.{Refusal}
use Rattle.gfs_types.specs.declared.refusal.Refusal.TheVariants.{TooLong, Collected}
use Rattle.gfs_types.specs.declared.answer.Answer.{Answer}
use Rattle.messages.specs.declared.message.Body.{Body}
use Rattle.messages.specs.declared.message.Body.TheVariants as body
use Rattle.messages.specs.declared.message.Message.{Message}
use Rattle.messages.specs.declared.message.Holder.{Holder}
use Rattle.messages.specs.declared.message.Location.{Location}
use Rattle.messages.specs.declared.message.Wanted.{Wanted}
use Rattle.messages.specs.declared.message.Wanted.TheVariants as wanted
use Rattle.messages.specs.declared.message.NameReply.{NameReply}
use Rattle.messages.specs.declared.message.NameReply.TheVariants.{Opened, Answered}
use Rattle.messages.specs.declared.message.ReplicaLine.{ReplicaLine}
use Rattle.messages.specs.declared.message.LeaseLine.{LeaseLine}
use Rattle.messages.specs.declared.event.NodeInput.{NodeInput}
use Rattle.messages.specs.declared.event.NodeInput.TheVariants as input
use Rattle.log_records.specs.declared.record.Record.{Record}
use Rattle.log_records.specs.declared.record.Record.TheVariants as log
use Rattle.chunk_table.specs.ChunkTable.{ChunkRow, chunk_of, file_of, shape_of}
use Rattle.protocol.specs.Tables.{Table, element_at, has_number}
use Rattle.protocol.specs.Sending.{message, file_id, handle_of, moment_of, the_server, server_number}
use Rattle.protocol.specs.declared.seen.Seen.{Seen}
use Rattle.protocol.specs.declared.seen.Seen.TheVariants.{CopyStarted}
use Rattle.protocol.specs.Logged.{Logged, LogChange, AppendRecord, WriteCheckpoint}
use Rattle.protocol.specs.Master.{MasterState, MasterDoing, orders, appends, writes_checkpoint, gives_up_copy, version_held}
use Rattle.protocol.specs.MasterReports.{is_useless}
use Rattle.laws_base.proofs.LeaseOrders.{revoke_body, grant_body}
use Rattle.laws_base.proofs.Entries.{AllOf, all_joined}
use Rattle.gfs_types.specs.Paths.{Path}
use Rattle.relaxed_file.specs.Names.{File, node_at}

-- what came in

-- an Ask with this number came in from this node
pub record IsTakenAsk (i : NodeInput) (sender : Node) (number : ℕ) : Type 0 where
  pub ask : Message
  pub file : FileId
  pub what : Wanted
  pub deadline : Moment
  pub lost : Bool
  pub came : i ≡ input.Deliver ask
  pub sender_is : ask.sender ≡ sender
  pub body_is : ask.body ≡ body.Ask number file what deadline lost

-- for a read or a write it is the index that was asked for
abbrev pub IsIndexFor : Wanted → ℕ → Type 0
IsIndexFor (wanted.Read asked) index = index ≡ asked
IsIndexFor (wanted.Write asked) index = index ≡ asked
IsIndexFor other index = Unit {0}

-- an Ask with this number came in from this node, which this index answers
pub record IsTakenAskOf (i : NodeInput) (sender : Node) (number index : ℕ) : Type 0 where
  pub taken : IsTakenAsk i sender number
  pub index_is : IsIndexFor taken.what index

-- a client asks for a location
pub record IsAsk (i : NodeInput) : Type 0 where
  pub message : Message
  pub number : ℕ
  pub file : FileId
  pub what : Wanted
  pub deadline : Moment
  pub lost : Bool
  pub taken : i ≡ input.Deliver message
  pub is : message.body ≡ body.Ask number file what deadline lost

-- a server says which versions it has
abbrev pub is_told : Body → Bool
is_told (body.Recorded handle version) = true
is_told (body.Report replicas leases) = true
is_told other = false

pub record IsTold (i : NodeInput) : Type 0 where
  pub message : Message
  pub taken : i ≡ input.Deliver message
  pub is : is_told message.body ≡ true

-- a line of the leases in a Report that is taken from this node
pub record IsLineTaken (i : NodeInput) (server : ℕ) (line : LeaseLine) : Type 0 where
  pub report : Message
  pub replicas : List ReplicaLine
  pub leases : List LeaseLine
  pub taken : i ≡ input.Deliver report
  pub is : report.body ≡ body.Report replicas leases
  pub sender : server ≡ server_number report.sender
  pub place : ℕ
  pub at : element_at leases place ≡ Some line

-- a line of the replicas in one
pub record IsReplicaTaken (i : NodeInput) (server : ℕ) (line : ReplicaLine) : Type 0 where
  pub report : Message
  pub replicas : List ReplicaLine
  pub leases : List LeaseLine
  pub taken : i ≡ input.Deliver report
  pub is : report.body ≡ body.Report replicas leases
  pub sender : server ≡ server_number report.sender
  pub place : ℕ
  pub at : element_at replicas place ≡ Some line

abbrev pub IsTick : NodeInput → Type 0
IsTick (input.Deliver m) = ⊥
IsTick input.Tick = Unit {0}

-- What is told: l is what was logged as the step began, i its input, and A holds of the step so far as an Ask is looked at.

-- each of these holders is known with its version, the granted one or a later
abbrev pub AreHeld : MasterState → ℕ → ℕ → List Holder → Type 0
AreHeld m handle granted holders = AllOf (λ (x : Holder). (version_held m handle x.server.0 ≡ Some x.version.0) × (granted ≤ x.version.0)) holders

pub record IsLocated (i : NodeInput) (A : MasterDoing → Type 0) (receiver : Node) (number : ℕ) (place : Location) : Type 0 where
  pub asked : IsTakenAskOf i receiver number place.index
  pub doing : MasterDoing
  pub found : A doing
  -- its row, whose shape is told
  pub row : ChunkRow
  pub at : chunk_of doing.master.logged.table place.handle.0 ≡ Some row
  pub shape_is : place.shape ≡ row.shape
  pub held : AreHeld doing.master place.handle.0 place.round.0 place.holders

-- an Ask is refused for a chunk past the next one of its file, or for a file that is gone
abbrev pub IsRefusedFor : Logged → ℕ → Wanted → Refusal → Type 0
IsRefusedFor l file what TooLong =
    (index : ℕ) × (handles : List ℕ) × (what ≡ wanted.Write index) × (file_of l.table file ≡ Some handles) × (length handles < index)
IsRefusedFor l file what Collected = file_of l.table file ≡ None
IsRefusedFor l file what other = ⊥

-- a file that an Open found has a name that is logged, and is told with its shape
abbrev pub IsShapeOf : Logged → NameReply → Type 0
IsShapeOf l (Opened file shape) = (shape ≡ shape_of l.table file.0) × (path : Path) × (node_at l.names path ≡ Some (File file.0))
IsShapeOf l (Answered reply) = Unit {0}

-- an answer to a client
abbrev pub IsAnswer : Logged → NodeInput → (MasterDoing → Type 0) → Node → Body → Type 0
IsAnswer l i A receiver (body.Told number (Some place)) = IsLocated i A receiver number place
IsAnswer l i A receiver (body.Told number None) = IsTakenAsk i receiver number
IsAnswer l i A receiver (body.Refused number refusal) = (asked : IsTakenAsk i receiver number) × IsRefusedFor l asked.file.0 asked.what refusal
IsAnswer l i A receiver (body.Named number reply) = IsShapeOf l reply
IsAnswer l i A receiver (body.Wait number) = Unit {0}
IsAnswer l i A receiver other = ⊥

-- a version may replace this one: at least the granted one, or the one that was issued
abbrev pub IsOver : ChunkRow → ℕ → Type 0
IsOver row base = (row.granted ≤ base) ⊎ (base ≡ row.issued)

-- the next number of a chunk that is there without an attempt, over this version
pub record IsIssued (A : MasterDoing → Type 0) (handle version base : ℕ) : Type 0 where
  pub doing : MasterDoing
  pub found : A doing
  pub row : ChunkRow
  pub at : chunk_of doing.master.logged.table handle ≡ Some row
  pub none : table.get doing.master.attempts handle ≡ None
  pub next : version ≡ suc row.issued
  pub over : IsOver row base

-- the next handle
pub record IsUnused (A : MasterDoing → Type 0) (copy : ℕ) : Type 0 where
  pub doing : MasterDoing
  pub found : A doing
  pub next : copy ≡ doing.master.logged.next_handle

-- a version of a chunk with several owners, which a server is known to hold, and the next handle
pub record IsCopySource (A : MasterDoing → Type 0) (handle version copy : ℕ) : Type 0 where
  pub doing : MasterDoing
  pub found : A doing
  pub row : ChunkRow
  pub at : chunk_of doing.master.logged.table handle ≡ Some row
  pub shared : nat_lt 1 row.references ≡ true
  pub server : ℕ
  pub held : version_held doing.master handle server ≡ Some version
  pub next : copy ≡ doing.master.logged.next_handle

-- an order to a server, but a Drop
abbrev pub IsOrder : NodeInput → (MasterDoing → Type 0) → ℕ → Body → Type 0
IsOrder i A server (body.Create order handle version) = IsAsk i × (IsIssued A handle.0 version.0 0 ⊎ IsUnused A handle.0)
IsOrder i A server (body.SetVersion order handle version base) = IsAsk i × IsIssued A handle.0 version.0 base.0
IsOrder i A server (body.CopyLocal order handle version copy copy_version) = IsAsk i × IsCopySource A handle.0 version.0 copy.0
IsOrder i A server (grant_body order handle version end_moment chunk members) = IsTold i × (has_number members server ≡ true)
IsOrder i A server (revoke_body order handle version) = Unit {0}
IsOrder i A server (body.Clone order handle version source) = IsTick i
IsOrder i A server other = ⊥

-- a record of a name call
abbrev pub IsOfCalls : Record → Type 0
IsOfCalls (log.Mkdir client n path) = Unit {0}
IsOfCalls (log.Rmdir client n path) = Unit {0}
IsOfCalls (log.Create client n file shape path) = Unit {0}
IsOfCalls (log.Delete client n moment path) = Unit {0}
IsOfCalls (log.Rename client n from to) = Unit {0}
IsOfCalls (log.Snapshot client n from to) = Unit {0}
IsOfCalls (log.Refused client n refusal) = Unit {0}
IsOfCalls other = ⊥

-- a record that a step logs; files expire at a tick alone
abbrev pub IsOfStep : NodeInput → Record → Type 0
IsOfStep i (log.Epoch epoch) = ⊥
IsOfStep i (log.Expired file) = IsTick i
IsOfStep i (log.Counters next_file next_handle epoch) = ⊥
IsOfStep i (log.DirItem path) = ⊥
IsOfStep i (log.FileItem path file shape handles) = ⊥
IsOfStep i (log.ChunkItem handle granted issued primary members) = ⊥
IsOfStep i (log.ClientItem client n refusal) = ⊥
IsOfStep i other = Unit {0}

pub calls_are_of_steps : (i : NodeInput) (r : Record) → IsOfCalls r → IsOfStep i r
calls_are_of_steps i (log.Epoch epoch) is = absurd is
calls_are_of_steps i (log.Expired file) is = absurd is
calls_are_of_steps i (log.Counters next_file next_handle epoch) is = absurd is
calls_are_of_steps i (log.DirItem path) is = absurd is
calls_are_of_steps i (log.FileItem path file shape handles) is = absurd is
calls_are_of_steps i (log.ChunkItem handle granted issued primary members) is = absurd is
calls_are_of_steps i (log.ClientItem client n refusal) is = absurd is
calls_are_of_steps i other is = tt

-- What is kept while an Ask is looked at, before anything is ordered for it but that a lease ends.
pub record AskKeeps (A : MasterDoing → Type 0) : Type 0 where
  pub ordered : (d : MasterDoing) (server : ℕ) (b : OrderNo → Body) → A d → A (orders d server b)
  pub added : (d : MasterDoing) (file : ℕ) → A d → A (appends d (log.AddChunk (file_id file) (handle_of d.master.logged.next_handle)))
  pub checkpointed : (d : MasterDoing) → A d → A (writes_checkpoint d)
  pub less : (d : MasterDoing) (copy : ℕ) → A d → A (gives_up_copy d copy)

-- where nothing is asked for
abbrev pub AnyDoing : MasterDoing → Type 0
AnyDoing d = Unit {0}

pub any_kept : AskKeeps AnyDoing
any_kept = record { ordered = λ d server b h. h; added = λ d file h. h; checkpointed = λ d h. h; less = λ d copy h. h }

-- what a step told, logged and showed so far, and what it knows of each server's replicas
pub record StepEffects : Type 0 where
  pub holders : Table (Table ℕ)
  pub sent : List Message
  pub changes : List LogChange
  pub seen : List Seen

abbrev pub effects_of : MasterDoing → StepEffects
effects_of d = record { holders = d.master.holders; sent = d.sent; changes = d.changes; seen = d.seen }

abbrev pub effect_told : StepEffects → Node → Body → StepEffects
effect_told g receiver b = record g { sent = g.sent ++ message node.Master receiver b ∷ [] }

abbrev pub effect_logged : StepEffects → LogChange → StepEffects
effect_logged g change = record g { changes = g.changes ++ change ∷ [] }

-- a server has this version, by a Recorded or a Cloned
abbrev pub effect_held : StepEffects → ℕ → ℕ → ℕ → StepEffects
effect_held g server handle version =
    record g { holders = table.insert g.holders server (table.insert (unwrap_or (table.get g.holders server) table.empty) handle version) }

-- it has these, by a Report
abbrev pub effect_heard : StepEffects → ℕ → List ReplicaLine → StepEffects
effect_heard g server replicas = record g { holders = table.insert g.holders server (table.from_entries (map (λ line. (line.handle.0, line.version.0)) replicas)) }

-- a word of a server that holds this version
abbrev pub SaysOne : Body → Handle → Version → Type 0
SaysOne b handle version = (b ≡ body.Recorded handle version) ⊎ (b ≡ body.Cloned handle version)

-- What answers to name calls keep, with records of which Of holds.
pub record NameKeeps (Of : Record → Type 0) (P : StepEffects → Type 0) : Type 0 where
  pub named : (g : StepEffects) (receiver : Node) (number : ℕ) (reply : Answer) → P g → P (effect_told g receiver (body.Named number (Answered reply)))
  pub recorded : (g : StepEffects) (r : Record) → Of r → P g → P (effect_logged g (AppendRecord r))
  pub checkpointed : (g : StepEffects) (items : List Record) → P g → P (effect_logged g (WriteCheckpoint items))

-- What a step keeps of what it tells, logs, shows and gets to know.
pub record MasterKeeps (l : Logged) (i : NodeInput) (A : MasterDoing → Type 0) (P : StepEffects → Type 0) : Type 0 where
  pub answered : (g : StepEffects) (receiver : Node) (b : Body) → IsAnswer l i A receiver b → P g → P (effect_told g receiver b)
  pub ordered : (g : StepEffects) (server : ℕ) (b : Body) → IsOrder i A server b → P g → P (effect_told g (the_server server) b)
  pub extended : (g : StepEffects) (server : ℕ) (line : LeaseLine) (until : ℕ) → IsLineTaken i server line → P g
      → P (effect_told g (the_server server) (body.Extend line.handle line.version (moment_of until)))
  -- a replica that is reported is unknown, or older than the granted version
  pub dropped : (g : StepEffects) (server : ℕ) (order : OrderNo) (line : ReplicaLine) → IsReplicaTaken i server line
      → is_useless line.version.0 (chunk_of l.table line.handle.0) ≡ true → P g → P (effect_told g (the_server server) (body.Drop order line.handle line.version))
  pub recorded : (g : StepEffects) (r : Record) → IsOfStep i r → P g → P (effect_logged g (AppendRecord r))
  pub checkpointed : (g : StepEffects) (items : List Record) → P g → P (effect_logged g (WriteCheckpoint items))
  pub shown : (g : StepEffects) (handle copy : ℕ) → IsAsk i → IsUnused A copy → P g → P (record g { seen = g.seen ++ CopyStarted (handle_of handle) (handle_of copy) ∷ [] })
  pub held : (g : StepEffects) (x : Message) (handle : Handle) (version : Version) → i ≡ input.Deliver x → SaysOne x.body handle version → P g
      → P (effect_held g (server_number x.sender) handle.0 version.0)
  pub heard : (g : StepEffects) (x : Message) (replicas : List ReplicaLine) (leases : List LeaseLine) → i ≡ input.Deliver x → x.body ≡ body.Report replicas leases → P g
      → P (effect_heard g (server_number x.sender) replicas)

-- W of each message of a step
pub record MasterSays (l : Logged) (i : NodeInput) (A : MasterDoing → Type 0) (W : Message → Type 0) : Type 0 where
  pub answered : (receiver : Node) (b : Body) → IsAnswer l i A receiver b → W (message node.Master receiver b)
  pub ordered : (server : ℕ) (b : Body) → IsOrder i A server b → W (message node.Master (the_server server) b)
  pub extended : (server : ℕ) (line : LeaseLine) (until : ℕ) → IsLineTaken i server line
      → W (message node.Master (the_server server) (body.Extend line.handle line.version (moment_of until)))
  pub dropped : (server : ℕ) (order : OrderNo) (line : ReplicaLine) → IsReplicaTaken i server line → is_useless line.version.0 (chunk_of l.table line.handle.0) ≡ true
      → W (message node.Master (the_server server) (body.Drop order line.handle line.version))

module _ (l : Logged) (i : NodeInput) (A : MasterDoing → Type 0) where
  pub names_kept_by : (P : StepEffects → Type 0) → MasterKeeps l i A P → NameKeeps (IsOfStep i) P
  names_kept_by P k = record { named = λ g receiver number reply h. k.answered g receiver (body.Named number (Answered reply)) tt h; recorded = k.recorded; checkpointed = k.checkpointed }

  pub keeps_said : (W : Message → Type 0) → MasterSays l i A W → MasterKeeps l i A (λ g. AllOf W g.sent)
  keeps_said W k =
      record {
        answered = λ g receiver b is h. one g.sent (message node.Master receiver b) (k.answered receiver b is) h;
        ordered = λ g server b is h. one g.sent (message node.Master (the_server server) b) (k.ordered server b is) h;
        extended = λ g server line until is h.
            one g.sent (message node.Master (the_server server) (body.Extend line.handle line.version (moment_of until))) (k.extended server line until is) h;
        dropped = λ g server order line is useless h.
            one g.sent (message node.Master (the_server server) (body.Drop order line.handle line.version)) (k.dropped server order line is useless) h;
        recorded = λ g r is h. h;
        checkpointed = λ g items h. h;
        shown = λ g handle copy ask new h. h;
        held = λ g x handle version came is h. h;
        heard = λ g x replicas leases came is h. h;
      }
    where
      one : (sent : List Message) (m : Message) → W m → AllOf W sent → AllOf W (sent ++ m ∷ [])
      one sent m w h = all_joined W sent (m ∷ []) h (w, tt)

  -- V of all that it shows, where V holds of each copy that begins
  pub keeps_shown : (V : Seen → Type 0) → ((handle copy : ℕ) → IsAsk i → IsUnused A copy → V (CopyStarted (handle_of handle) (handle_of copy)))
      → MasterKeeps l i A (λ g. AllOf V g.seen)
  keeps_shown V copies =
      record {
        answered = λ g receiver b is h. h;
        ordered = λ g server b is h. h;
        extended = λ g server line until is h. h;
        dropped = λ g server order line is useless h. h;
        recorded = λ g r is h. h;
        checkpointed = λ g items h. h;
        shown = λ g handle copy ask new h. all_joined V g.seen (CopyStarted (handle_of handle) (handle_of copy) ∷ []) h (copies handle copy ask new, tt);
        held = λ g x handle version came is h. h;
        heard = λ g x replicas leases came is h. h;
      }
