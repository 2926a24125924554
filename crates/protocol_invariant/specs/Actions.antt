-- Which actions the machine takes at an event.
use Rattle.std.specs.Prelude.{ℕ, suc, ◌==◌, ◌&&◌, nat_le, Bool, true, false, not, if◌then◌else◌, List, [], ◌∷◌, ◌++◌, map, filter, flat_map, find, length, drop, Option, Some, None, option_map, option_and_then, unwrap_or, option_to_list}
use Rattle.std.specs.FinMap as table
use Rattle.gfs_types.specs.declared.call.Call.{Call}
use Rattle.gfs_types.specs.declared.call.Call.TheVariants as call
use Rattle.gfs_types.specs.declared.answer.Answer.TheVariants as answer
use Rattle.gfs_types.specs.declared.refusal.Refusal.{Refusal}
use Rattle.gfs_types.specs.declared.refusal.Refusal.TheVariants.{Busy, NamesFull}
use Rattle.gfs_types.specs.Paths.{Path}
use Rattle.gfs_types.specs.declared.ids.Node.{Node}
use Rattle.gfs_types.specs.declared.ids.Node.TheVariants.{Master, Server, Client}
use Rattle.messages.specs.declared.message.Message.{Message}
use Rattle.messages.specs.declared.message.Body.{Body}
use Rattle.messages.specs.declared.message.Body.TheVariants as body
use Rattle.messages.specs.declared.message.NameReply.TheVariants.{Opened, Answered}
use Rattle.messages.specs.declared.message.Location.{Location}
use Rattle.messages.specs.declared.event.Event.{Event}
use Rattle.messages.specs.declared.event.Event.TheVariants as event
use Rattle.messages.specs.declared.event.NodeInput.{NodeInput}
use Rattle.messages.specs.declared.event.NodeInput.TheVariants as input
use Rattle.log_records.specs.declared.record.Record.{Record}
use Rattle.log_records.specs.declared.record.Record.TheVariants as log
use Rattle.chunk_table.specs.ChunkTable.{ChunkRow, ChunkTable, chunk_of}
use Rattle.relaxed_file.specs.Order.{CallId, Entry}
use Rattle.relaxed_file.specs.Names.{Dir, File, copied_entries}
use Rattle.relaxed_file.specs.Names as names
use Rattle.relaxed_file.specs.NameStep.{outcome_of}
use Rattle.relaxed_file.specs.Locks.{conflict}
use Rattle.relaxed_file.specs.Machine.{Machine, OpenCall, Offer, Told, chunk_at}
use Rattle.relaxed_file.specs.Run.{Action, Invoke, Return, ReturnFd, Step, FindBusy, FindFull, Lock, Expire, Add, OpenRound, CloseRound, Place, Settle, Tell, Note, Look, LookPast, Measure, MeasureNone, Pass, Visible, Called, Answered, Passed, after_all}
use Rattle.protocol.specs.Tables.{Table}
use Rattle.protocol.specs.Choice.{Choice, Ending, Goes, Lost, Stops, made_changes}
use Rattle.protocol.specs.declared.seen.Seen.{Seen}
use Rattle.protocol.specs.declared.seen.Seen.TheVariants.{Numbered, BecameSettled, CopyStarted}
use Rattle.protocol.specs.Seen.{is_numbering}
use Rattle.protocol.specs.Sending.{client_number}
use Rattle.protocol.specs.Logged.{Logged, LogChange, AppendRecord, WriteCheckpoint, after_record, is_this_file}
use Rattle.protocol.specs.Master.{MasterState, MasterDoing, PendingSnapshot}
use Rattle.protocol.specs.MasterNames.{snapshot_call}
use Rattle.protocol.specs.MasterSnapshots.{is_same_snapshot}
use Rattle.protocol.specs.MasterStep.{master_at, master_goes, hidden_moment}
use Rattle.protocol.specs.Server.{ServerState, ServerDoing}
use Rattle.protocol.specs.ServerStep.{server_goes}
use Rattle.replica_store.specs.Replicas.{Replica, replica_of}
use Rattle.client_state.specs.declared.call.CurrentCall.{CurrentCall}
use Rattle.client_state.specs.declared.call.Stage.{Stage}
use Rattle.client_state.specs.declared.call.Stage.TheVariants.{AskedWhere}
use Rattle.protocol.specs.Observer.{Placed, order_of, is_placed_as}
use Rattle.protocol.specs.World.{WorldState, numbered_from_1}
use Rattle.protocol_invariant.specs.Ghost.{Ghost, Purpose, purpose_of, applied_at, named_in, entries_among}

-- a file's chunk, by its file and index
pub record Spot : Type 0 where
  pub file : ℕ
  pub index : ℕ

abbrev pub open_call : Machine → ℕ → Option OpenCall
open_call m client = (m.clients client).open_call

-- a step of a client's name call: what it comes to at these names
abbrev pub name_step : Machine → ℕ → ℕ → List Action
name_step m client moment = option_to_list (option_map (λ current. Step client moment (outcome_of m.config m.names current.asked.call)) (open_call m client))

-- the first snapshot that waits under a lock that conflicts
abbrev pub holder_of : MasterState → Call → Option PendingSnapshot
holder_of s c = find (λ pending. conflict c (snapshot_call pending)) s.snapshots

-- a name call is refused: Busy where a lock conflicts, for want of room, or as the names have it
abbrev pub refused_step : Machine → MasterState → ℕ → Refusal → List Action
refused_step m s client Busy =
    option_to_list (option_and_then (λ current. option_map (λ pending. FindBusy client pending.client) (holder_of s current.asked.call)) (open_call m client))
refused_step m s client NamesFull = FindFull client ∷ []
refused_step m s client refusal = name_step m client 0

-- the open rounds of a file's chunks are closed
abbrev pub closings_from : Machine → ℕ → ℕ → List ℕ → List Action
closings_from m file index [] = []
closings_from m file index (handle ∷ rest) =
    (if (chunk_at m file index).is_open then CloseRound file index ∷ [] else []) ++ closings_from m file (suc index) rest

abbrev pub closings_of_node : Machine → Logged → names.Node → List Action
closings_of_node m l Dir = []
closings_of_node m l (File id) = closings_from m id 0 (unwrap_or (table.get l.table.files id) [])

abbrev pub closings : Machine → Logged → Path → Path → List Action
closings m l from to = flat_map (λ e. closings_of_node m l e.1) (copied_entries l.names from to)

-- where a handle stands among these files
abbrev pub index_in : ℕ → List ℕ → ℕ → Option ℕ
index_in handle [] index = None
index_in handle (h ∷ rest) index = if h == handle then Some index else index_in handle rest (suc index)

abbrev pub first_spot : Option Spot → Option Spot → Option Spot
first_spot None other = other
first_spot (Some s) other = Some s

abbrev pub spot_in : ℕ → List (ℕ × List ℕ) → Option Spot
spot_in handle [] = None
spot_in handle (e ∷ rest) = first_spot (option_map (λ index. record { file = e.0; index = index }) (index_in handle e.1 0)) (spot_in handle rest)

abbrev pub spot_of : ChunkTable → ℕ → Option Spot
spot_of t handle = spot_in handle (table.entries t.files)

-- a round opens, after the one before it
abbrev pub opening : Machine → ℕ → Spot → List Action
opening m version s = (if (chunk_at m s.file s.index).is_open then CloseRound s.file s.index ∷ [] else []) ++ OpenRound s.file s.index version ∷ []

-- what the machine does at a record of the log, with the state before it and after it; the call is that of the ask which the step takes
abbrev pub at_record : Machine → MasterState → Option CallId → Logged → Logged → Record → List Action
at_record m s asker l then_ (log.Mkdir client n path) = name_step m client.0 0
at_record m s asker l then_ (log.Rmdir client n path) = name_step m client.0 0
at_record m s asker l then_ (log.Create client n file shape path) = name_step m client.0 0
at_record m s asker l then_ (log.Delete client n moment path) = name_step m client.0 moment.0
at_record m s asker l then_ (log.Rename client n from to) = name_step m client.0 0
at_record m s asker l then_ (log.Snapshot client n from to) = closings m l from to ++ name_step m client.0 0
at_record m s asker l then_ (log.Refused client n refusal) = refused_step m s client.0 refusal
at_record m s asker l then_ (log.Expired file) =
    option_to_list (option_map (λ e. Expire file.0 (hidden_moment e.0)) (find (λ e. is_this_file file.0 e.1) (table.entries l.names)))
at_record m s asker l then_ (log.AddChunk file handle) = option_to_list (option_map Add asker)
at_record m s asker l then_ (log.Grant handle version primary members) = unwrap_or (option_map (opening m version.0) (spot_of then_.table handle.0)) []
at_record m s asker l then_ other = []

-- what was made of a log's changes, in order
abbrev pub at_changes : Machine → MasterState → Option CallId → Logged → List LogChange → List Action
at_changes m s asker l [] = []
at_changes m s asker l (AppendRecord r ∷ rest) =
    let actions : List Action = at_record m s asker l (after_record l r) r in
    actions ++ at_changes (after_all m actions) s asker (after_record l r) rest
at_changes m s asker l (WriteCheckpoint items ∷ rest) = at_changes m s asker l rest

-- the call of an ask, and what a Look comes to
abbrev pub asker_of : Ghost → Message → Body → Option CallId
asker_of g x (body.Ask number file wanted deadline lost) = option_map (λ p. record { client = client_number x.sender; number = p.call }) (purpose_of g (client_number x.sender) number)
asker_of g x other = None

abbrev pub look_refused : Machine → MasterState → ℕ → Call → Body → List Action
look_refused m s client c (body.Named number (Answered (answer.Refused refusal))) = refused_step m s client refusal
look_refused m s client c other = name_step m client 0

-- A Look of the open call is answered as the names are then.
abbrev pub at_look : Machine → MasterState → ℕ → ℕ → Call → List Message → Bool → List Action
at_look m s client number c sent false = []
at_look m s client number c sent true = flat_map (λ x. look_refused m s client c x.body) sent

abbrev pub is_same_number : Option ℕ → Option ℕ → Bool
is_same_number None other = false
is_same_number (Some a) None = false
is_same_number (Some a) (Some b) = a == b

abbrev pub is_open_name_call : Ghost → Machine → ℕ → ℕ → Bool
is_open_name_call g m client number = is_same_number (option_map (λ current. current.number) (open_call m client)) (option_and_then (λ calls. table.get calls number) (table.get g.name_calls client))

abbrev pub at_name_message : Ghost → Machine → MasterState → Message → List Message → Body → List Action
at_name_message g m s x sent (body.Look number c) = at_look m s (client_number x.sender) number c sent (is_open_name_call g m (client_number x.sender) number)
at_name_message g m s x sent other = []

-- An offer is made when the master tells where a chunk is, or that there is none, for an ask of the open call.
abbrev pub told_index : ℕ → Option Location → ℕ
told_index asked None = asked
told_index asked (Some l) = l.index

abbrev pub offer_for : Machine → ℕ → Option Location → Purpose → List Action
offer_for m client location p = if is_same_number (option_map (λ current. current.number) (open_call m client)) (Some p.call) then Tell client p.file (told_index p.index location) ∷ [] else []

abbrev pub at_told : Ghost → Machine → Message → Body → List Action
at_told g m x (body.Told number location) = unwrap_or (option_map (offer_for m (client_number x.receiver) location) (purpose_of g (client_number x.receiver) number)) []
at_told g m x other = []

abbrev pub is_among : PendingSnapshot → List PendingSnapshot → Bool
is_among s [] = false
is_among s (other ∷ rest) = if is_same_snapshot s other then true else is_among s rest

-- a snapshot begins to wait, under its locks
abbrev pub locks_of : MasterState → MasterState → List Action
locks_of before then_ = map (λ s. Lock s.client) (filter (λ s. not (is_among s before.snapshots)) then_.snapshots)

-- the whole step of a master that goes through
abbrev pub at_master : Ghost → Machine → MasterState → MasterDoing → Option Message → List Action
at_master g m s d None = at_changes m s None s.logged d.changes ++ locks_of s d.master
at_master g m s d (Some x) =
    let named : List Action = at_name_message g m s x d.sent x.body ++ at_changes m s (asker_of g x x.body) s.logged d.changes in
    named ++ flat_map (λ y. at_told g (after_all m named) y y.body) d.sent ++ locks_of s d.master

-- the place of an entry in its order
abbrev pub place_from : ℕ → ℕ → List Placed → ℕ → ℕ
place_from version serial [] place = place
place_from version serial (p ∷ rest) place = if is_placed_as version serial p then place else place_from version serial rest (suc place)

abbrev pub at_seen : WorldState → Table Spot → Seen → List Action
at_seen w spots (Numbered handle version serial id mutation) = option_to_list (option_map (λ s. Place id.client.0 s.file s.index mutation) (table.get spots handle.0))
at_seen w spots (BecameSettled handle version serial) = option_to_list (option_map (λ s. Settle s.file s.index (place_from version.0 serial.0 (order_of w.observer handle.0) 0)) (table.get spots handle.0))
at_seen w spots (CopyStarted handle copy) = []

-- a server answers a read, or tells a length, of the call that is open, under the round that its client noted
abbrev pub look_of : WorldState → Ghost → Machine → ℕ → ServerState → ℕ → ℕ → Bool → Purpose → Replica → List Action
look_of w g m server s client handle is_length p r =
    let chosen : List Entry = entries_among (named_in (order_of w.observer handle) (applied_at g server handle)) in
    let noted : ℕ = unwrap_or ((m.clients client).notes p.file p.index) 0 in
    if is_same_number (option_map (λ current. current.number) (open_call m client)) (Some p.call) && (noted == p.round)
    then (if is_length then Measure client p.file p.index p.round noted r.version chosen ∷ [] else Look client p.file p.index noted r.version chosen ∷ [])
    else []

abbrev pub looks_of : WorldState → Ghost → Machine → ℕ → ServerState → ℕ → ℕ → ℕ → Bool → List Action
looks_of w g m server s client number handle is_length =
    unwrap_or (option_and_then (λ p. option_map (look_of w g m server s client handle is_length p) (replica_of s.disk handle)) (purpose_of g client number)) []

abbrev pub at_answered : WorldState → Ghost → Machine → ℕ → ServerState → Message → Body → Body → List Action
at_answered w g m server s x (body.Bytes n bytes) (body.Read number handle version offset count) = looks_of w g m server s (client_number x.sender) number handle.0 false
at_answered w g m server s x (body.LenIs n count) (body.Len number handle version) = looks_of w g m server s (client_number x.sender) number handle.0 true
at_answered w g m server s x sent other = []

-- a client takes a Told: it notes the round, or that there is no such chunk
abbrev pub is_offer_of : Location → Offer → Bool
is_offer_of l (Told index round count) = (index == l.index) && (round == l.round.0)
is_offer_of l other = false

abbrev pub note_of : ℕ → ℕ → Location → Offer → List Action
note_of client file l (Told index round count) = Note client file index round count ∷ []
note_of client file l other = []

abbrev pub no_chunk : ℕ → CurrentCall → Call → List Action
no_chunk client c (call.Read fd offset count) = LookPast client c.index ∷ []
no_chunk client c (call.Length fd) = MeasureNone client ∷ []
no_chunk client c other = []

abbrev pub at_location : Machine → ℕ → CurrentCall → Option Location → List Action
at_location m client c None = no_chunk client c c.asked
at_location m client c (Some l) =
    if length l.holders == 0 then []
    else unwrap_or (option_and_then (λ current. option_map (note_of client c.file.0 l) (find (is_offer_of l) current.offers)) (open_call m client)) []

abbrev pub at_client_body : Machine → ℕ → CurrentCall → Stage → Body → List Action
at_client_body m client c (AskedWhere asked) (body.Told number location) = if asked == number then at_location m client c location else []
at_client_body m client c stage other = []

abbrev pub file_named_by : Body → ℕ
file_named_by (body.Named number (Opened file shape)) = file.0
file_named_by other = 0

-- what the trace shows
abbrev pub file_opened : Option Message → ℕ
file_opened None = 0
file_opened (Some x) = file_named_by x.body

abbrev pub at_visible : Option Message → Visible → Action
at_visible x (Called client asked) = Invoke client asked
at_visible x (Answered client (answer.Fd fd)) = ReturnFd client fd.0 (file_opened x)
at_visible x (Answered client reply) = Return client reply
at_visible x (Passed moment) = Pass moment

-- what a step's own changes and messages come to, by how it ends
abbrev pub at_master_end : Ghost → Machine → MasterState → MasterDoing → Option Message → Ending → List Action
at_master_end g m s d x Goes = at_master g m s d x
at_master_end g m s d x Lost = []
at_master_end g m s d x (Stops made) = at_changes m s (option_and_then (λ y. asker_of g y y.body) x) s.logged (made_changes made d.changes)

abbrev pub at_server_end : WorldState → Ghost → Machine → Table Spot → ℕ → ServerState → ServerDoing → Option Message → Ending → List Action
at_server_end w g m spots server s d x Goes =
    flat_map (at_seen w spots) d.seen ++ unwrap_or (option_map (λ y. flat_map (λ z. at_answered w g m server s y z.body y.body) d.sent) x) []
at_server_end w g m spots server s d x Lost = []
at_server_end w g m spots server s d x (Stops made) = flat_map (at_seen w spots) (filter is_numbering d.seen)

abbrev pub at_client_end : Machine → ℕ → Option CurrentCall → Option Message → Ending → List Action
at_client_end m client (Some c) (Some x) Goes = at_client_body m client c c.stage x.body
at_client_end m client c x ending = []

-- the input of an event
abbrev pub input_of : Option Message → NodeInput
input_of None = input.Tick
input_of (Some x) = input.Deliver x

-- What a node's step comes to: the world before it, and after it.
abbrev pub at_node : WorldState → WorldState → Ghost → Machine → Table Spot → ℕ → Option Message → Choice → Node → List Action
at_node before then_ g m spots moment x choice Master =
    if before.master.up then at_master_end g m (master_at before.master moment) (master_goes before.master moment (input_of x) choice.refused) x choice.ending else []
at_node before then_ g m spots moment x choice (Server s) =
    unwrap_or (option_map (λ state. if state.up then at_server_end then_ g m spots s.0 state (server_goes state moment (input_of x)) x choice.ending else []) (numbered_from_1 before.servers s.0)) []
at_node before then_ g m spots moment x choice (Client c) =
    unwrap_or (option_map (λ state. at_client_end m c.0 state.current x choice.ending) (numbered_from_1 before.clients c.0)) []

abbrev pub at_event_node : WorldState → WorldState → Ghost → Machine → Table Spot → Choice → Event → List Action
at_event_node before then_ g m spots choice (event.Deliver number now) =
    unwrap_or (option_map (λ x. at_node before then_ g m spots now.0 (Some x) choice x.receiver) (numbered_from_1 before.sent number)) []
at_event_node before then_ g m spots choice (event.Tick n now) = at_node before then_ g m spots now.0 None choice n
at_event_node before then_ g m spots choice other = []

abbrev pub message_of : WorldState → Event → Option Message
message_of w (event.Deliver number now) = numbered_from_1 w.sent number
message_of w other = None

abbrev pub is_answer : Visible → Bool
is_answer (Answered client reply) = true
is_answer other = false

-- The machine's actions at an event: the moment that passed and the call, then what the node's step comes to, then the answer.
abbrev pub actions_at : WorldState → WorldState → Ghost → Machine → Table Spot → Choice → Event → List Action
actions_at before then_ g m spots choice e =
    let shown : List Visible = drop (length before.observer.trace) then_.observer.trace in
    let first : List Action = map (at_visible (message_of before e)) (filter (λ v. not (is_answer v)) shown) in
    first ++ at_event_node before then_ g (after_all m first) spots choice e ++ map (at_visible (message_of before e)) (filter is_answer shown)

abbrev pub is_owned_once : Option ChunkRow → Bool
is_owned_once None = false
is_owned_once (Some row) = nat_le row.references 1

-- where handles stand that one file owns; a handle that no file has any more keeps its place
abbrev pub spots_of_file : Table Spot → ChunkTable → ℕ → ℕ → List ℕ → Table Spot
spots_of_file spots t file index [] = spots
spots_of_file spots t file index (handle ∷ rest) =
    spots_of_file (if is_owned_once (chunk_of t handle) then table.insert spots handle (record { file = file; index = index }) else spots) t file (suc index) rest

abbrev pub spots_of_files : Table Spot → ChunkTable → List (ℕ × List ℕ) → Table Spot
spots_of_files spots t [] = spots
spots_of_files spots t (e ∷ rest) = spots_of_files (spots_of_file spots t e.0 0 e.1) t rest

abbrev pub spots_after : Table Spot → MasterState → Table Spot
spots_after spots s = if s.up then spots_of_files spots s.logged.table (table.entries s.logged.table.files) else spots
