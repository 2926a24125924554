-- What is kept beside a world for its proof: what messages told, and by the names of entries what each replica has applied. And worlds in which it is decided what of the changes under way was made.
use Rattle.std.specs.Prelude.{ℕ, Bool, ◌==◌, ◌&&◌, if◌then◌else◌, Option, List, [], ◌∷◌, ◌++◌, map, filter, unwrap_or, option_map, Some, None}
use Rattle.std.specs.List.{list_any}
use Rattle.std.specs.FinMap as table
use Rattle.messages.specs.declared.message.Message.{Message}
use Rattle.messages.specs.declared.message.Body.{Body}
use Rattle.messages.specs.declared.message.Body.TheVariants as body
use Rattle.relaxed_file.specs.Order.{Entry}
use Rattle.protocol.specs.Tables.{Table}
use Rattle.protocol.specs.Choice.{decided_changes}
use Rattle.protocol.specs.Sending.{server_number}
use Rattle.protocol.specs.Logged.{Logged, log_changed_by_all, replayed}
use Rattle.replica_store.specs.declared.change.StoreChange.{StoreChange}
use Rattle.replica_store.specs.declared.change.StoreChange.TheVariants.{Put, Write, Zero, Copy}
use Rattle.replica_store.specs.Replicas.{disk_changed_by_all}
use Rattle.protocol.specs.Server.{ServerState}
use Rattle.protocol.specs.Master.{MasterState}
use Rattle.client_state.specs.declared.call.ToldChunk.{ToldChunk}
use Rattle.client_state.specs.declared.call.CurrentCall.{CurrentCall}
use Rattle.client_state.specs.declared.call.Stage.{Stage}
use Rattle.client_state.specs.declared.call.Stage.TheVariants.{AskedNames, AskedWhere, SentData, SentRead}
use Rattle.protocol.specs.Observer.{Placed}
use Rattle.protocol.specs.World.{WorldState}
use Rattle.protocol_invariant.specs.Sent.{Sent, nothing_sent, get_under, put_under, with_message}

-- An entry of a chunk's order is known by its round and its serial.
pub record EntryName : Type 0 where
  pub round : ℕ
  pub serial : ℕ

abbrev pub name_of : Placed → EntryName
name_of p = record { round = p.entry.round; serial = p.serial }

abbrev pub is_name_of : Placed → EntryName → Bool
is_name_of p n = (n.round == p.entry.round) && (n.serial == p.serial)

-- whether an entry is among those that are named
abbrev pub is_named : List EntryName → Placed → Bool
is_named names p = list_any (is_name_of p) names

-- the named entries of an order
abbrev pub named_in : List Placed → List EntryName → List Placed
named_in order names = filter (is_named names) order

abbrev pub entries_among : List Placed → List Entry
entries_among placed = map (λ p. p.entry) placed

-- What an ask, an attempt or a reading of a client is for: its call by its number among the client's, the chunk's place, the round that was told, and which of the part's attempts it is.
pub record Purpose : Type 0 where
  pub call : ℕ
  pub file : ℕ
  pub index : ℕ
  pub round : ℕ
  pub try : ℕ

pub record Ghost : Type 0 where
  pub sent : Sent
  -- by client and number
  pub purposes : Table (Table Purpose)
  -- by client and a name call's own number: its number among all the client's calls
  pub name_calls : Table (Table ℕ)
  -- by server and handle: what its replica has applied
  pub applied : Table (Table (List EntryName))
  -- by server: what the replica has applied that it was about to store when it stopped
  pub under_way : Table (List EntryName)
  -- by the number of an Image: what the replica that it shows had applied
  pub images : Table (List EntryName)

abbrev pub first_ghost : Ghost
first_ghost = record { sent = nothing_sent; purposes = table.empty; name_calls = table.empty; applied = table.empty; under_way = table.empty; images = table.empty }

-- what that server's replica has applied
abbrev pub applied_at : Ghost → ℕ → ℕ → List EntryName
applied_at g server handle = unwrap_or (get_under g.applied server handle) []

abbrev pub with_applied : Ghost → ℕ → ℕ → List EntryName → Ghost
with_applied g server handle names = record g { applied = put_under g.applied server handle names }

-- What a new replica has applied: that of an image what it shows, and one that is created nothing.
abbrev pub applied_when_put : Ghost → Message → Body → List EntryName
applied_when_put g x (body.Image cloned version serial bytes) = unwrap_or (table.get g.images x.number) []
applied_when_put g x other = []

-- the version under which a message has something applied
abbrev pub round_applied : Body → ℕ
round_applied (body.Mutate id handle version target deadline) = version.0
round_applied (body.Forward handle version serial id chunk change) = version.0
round_applied other = 0

abbrev pub with_one_more : Ghost → ℕ → Message → ℕ → ℕ → List EntryName
with_one_more g server x handle serial = applied_at g server handle ++ record { round = round_applied x.body; serial = serial } ∷ []

-- What of a chunk is applied after a change: the handle and the names. A replica that is raised or removed needs no word.
abbrev pub applied_after : Ghost → ℕ → Message → StoreChange → Option (ℕ × List EntryName)
applied_after g server x (Put handle version serial bytes) = Some (handle.0, applied_when_put g x x.body)
applied_after g server x (Write handle serial offset bytes) = Some (handle.0, with_one_more g server x handle.0 serial.0)
applied_after g server x (Zero handle serial offset count) = Some (handle.0, with_one_more g server x handle.0 serial.0)
applied_after g server x (Copy handle copy version) = Some (copy.0, applied_at g server handle.0)
applied_after g server x other = None

abbrev pub with_some_applied : Ghost → ℕ → Option (ℕ × List EntryName) → Ghost
with_some_applied g server None = g
with_some_applied g server (Some e) = with_applied g server e.0 e.1

abbrev pub with_changes : Ghost → ℕ → Message → List StoreChange → Ghost
with_changes g server x [] = g
with_changes g server x (change ∷ rest) = with_changes (with_some_applied g server (applied_after g server x change)) server x rest

abbrev pub keeps_under_way : Ghost → ℕ → Option (ℕ × List EntryName) → Ghost
keeps_under_way g server None = g
keeps_under_way g server (Some e) = record g { under_way = table.insert g.under_way server e.1 }

-- a change that is under way as the server stops
abbrev pub with_under_way : Ghost → ℕ → Message → List StoreChange → Ghost
with_under_way g server x [] = g
with_under_way g server x (change ∷ rest) = keeps_under_way g server (applied_after g server x change)

abbrev pub handle_changed : StoreChange → Option ℕ
handle_changed (Put handle version serial bytes) = Some handle.0
handle_changed (Write handle serial offset bytes) = Some handle.0
handle_changed (Zero handle serial offset count) = Some handle.0
handle_changed (Copy handle copy version) = Some copy.0
handle_changed other = None

-- changes under way of which it is decided that they were made
abbrev pub with_decided : Ghost → ℕ → List StoreChange → Ghost
with_decided g server [] = g
with_decided g server (change ∷ rest) =
    with_some_applied g server (option_map (λ handle. (handle, unwrap_or (table.get g.under_way server) [])) (handle_changed change))

-- an Image is sent: it shows what its sender's replica has applied
abbrev pub with_image : Ghost → Message → Body → Ghost
with_image g x (body.Image handle version serial bytes) = record g { images = table.insert g.images x.number (applied_at g (server_number x.sender) handle.0) }
with_image g x other = g

abbrev pub with_sent_message : Ghost → Message → Ghost
with_sent_message g x = record (with_image g x x.body) { sent = with_message g.sent x }

abbrev pub with_sent_messages : Ghost → List Message → Ghost
with_sent_messages g [] = g
with_sent_messages g (x ∷ rest) = with_sent_messages (with_sent_message g x) rest

abbrev pub purpose_of : Ghost → ℕ → ℕ → Option Purpose
purpose_of g client number = get_under g.purposes client number

abbrev pub with_purpose : Ghost → ℕ → ℕ → Purpose → Ghost
with_purpose g client number p = record g { purposes = put_under g.purposes client number p }

-- the purpose of what was sent for a chunk that the master told
abbrev pub told_purpose : ℕ → CurrentCall → ToldChunk → Purpose
told_purpose call c l = record { call = call; file = c.file.0; index = l.index; round = l.round.0; try = c.left }

-- what a client waits for after its step, for its call of this number
abbrev pub with_stage : Ghost → ℕ → ℕ → CurrentCall → Stage → Ghost
with_stage g client call c AskedNames = record g { name_calls = put_under g.name_calls client c.number call }
with_stage g client call c (AskedWhere number) = with_purpose g client number (record { call = call; file = c.file.0; index = c.index; round = 0; try = c.left })
with_stage g client call c (SentData l primary number) = with_purpose g client number (told_purpose call c l)
with_stage g client call c (SentRead l left number) = with_purpose g client number (told_purpose call c l)
with_stage g client call c other = g

abbrev pub with_client_step : Ghost → ℕ → ℕ → Option CurrentCall → Ghost
with_client_step g client call None = g
with_client_step g client call (Some c) = with_stage g client call c c.stage

-- A world in which it is decided what was made of the changes that were under way.
abbrev pub resolved_master : List Bool → MasterState → MasterState
resolved_master decided m = record m { disk = log_changed_by_all m.disk (decided_changes decided m.under_way); under_way = [] }

abbrev pub resolved_server : List Bool → ServerState → ServerState
resolved_server decided s = record s { disk = disk_changed_by_all s.disk (decided_changes decided s.under_way); under_way = [] }

abbrev pub resolved : List Bool → (ℕ → List Bool) → WorldState → WorldState
resolved master servers w = record w { master = resolved_master master w.master; servers = map (λ s. resolved_server (servers s.id) s) w.servers }

abbrev pub ghost_resolved_by : (ℕ → List Bool) → List ServerState → Ghost → Ghost
ghost_resolved_by servers [] g = g
ghost_resolved_by servers (s ∷ rest) g = ghost_resolved_by servers rest (with_decided g s.id (decided_changes (servers s.id) s.under_way))

-- what is kept beside that world
abbrev pub ghost_resolved : (ℕ → List Bool) → WorldState → Ghost → Ghost
ghost_resolved servers w g = ghost_resolved_by servers w.servers g

-- what the log says, up to the ends of leases; of a master that is up, what it keeps
abbrev pub logged_of : MasterState → Logged
logged_of m = if m.up then m.logged else replayed m.disk
