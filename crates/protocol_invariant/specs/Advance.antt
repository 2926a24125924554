-- How what is kept beside the world goes on at an event.
use Rattle.std.specs.Prelude.{ℕ, suc, nat_le, if◌then◌else◌, List, [], ◌∷◌, ◌∷◌, length, drop, Option, Some, None}
use Rattle.gfs_types.specs.declared.ids.Node.{Node}
use Rattle.gfs_types.specs.declared.ids.Node.TheVariants as node
use Rattle.messages.specs.declared.message.Message.{Message}
use Rattle.messages.specs.declared.event.Event.{Event}
use Rattle.messages.specs.declared.event.Event.TheVariants as event
use Rattle.messages.specs.declared.event.NodeInput.TheVariants as input
use Rattle.protocol.specs.Tables.{moment_limit}
use Rattle.protocol.specs.Choice.{Choice, Ending, Goes, Lost, Stops, made_changes, change_under_way, decided_changes}
use Rattle.replica_store.specs.declared.change.StoreChange.{StoreChange}
use Rattle.protocol.specs.Server.{ServerState, ServerDoing}
use Rattle.protocol.specs.ServerStep.{server_goes}
use Rattle.protocol.specs.World.{WorldState, happens, numbered_from_1}
use Rattle.protocol.specs.Client.{ClientState}
use Rattle.protocol.specs.Observer.{calls_made}
use Rattle.protocol_invariant.specs.Ghost.{Ghost, with_client_step, with_changes, with_under_way, with_decided, with_sent_messages}

-- of a step's changes of a disk: those that were made, and the one under way
abbrev pub changes_made : Ending → List StoreChange → List StoreChange
changes_made Goes changes = changes
changes_made Lost changes = []
changes_made (Stops made) changes = made_changes made changes

abbrev pub changes_left : Ending → List StoreChange → List StoreChange
changes_left (Stops made) changes = change_under_way made changes
changes_left other changes = []

-- a server takes a message
abbrev pub ghost_at_server : Ghost → ℕ → Message → Choice → Option ServerState → Ghost
ghost_at_server g moment x choice None = g
ghost_at_server g moment x choice (Some s) =
    let d : ServerDoing = server_goes s moment (input.Deliver x) in
    if s.up then with_under_way (with_changes g s.id x (changes_made choice.ending d.changes)) s.id x (changes_left choice.ending d.changes) else g

abbrev pub ghost_delivered : Ghost → WorldState → ℕ → Choice → Message → Node → Ghost
ghost_delivered g w moment choice x (node.Server s) = ghost_at_server g moment x choice (numbered_from_1 w.servers s.0)
ghost_delivered g w moment choice x other = g

abbrev pub ghost_if_delivered : Ghost → WorldState → ℕ → Choice → Option Message → Ghost
ghost_if_delivered g w moment choice None = g
ghost_if_delivered g w moment choice (Some x) = ghost_delivered g w moment choice x x.receiver

-- a server that restarts finds what was under way made or not
abbrev pub ghost_found : Ghost → ServerState → Choice → Ending → Ghost
ghost_found g s choice Lost = g
ghost_found g s choice other = with_decided g s.id (decided_changes choice.decided s.under_way)

abbrev pub ghost_restarted : Ghost → Choice → Option ServerState → Ghost
ghost_restarted g choice None = g
ghost_restarted g choice (Some s) = ghost_found g s choice choice.ending

abbrev pub ghost_restarts : Ghost → WorldState → Choice → Node → Ghost
ghost_restarts g w choice (node.Server s) = ghost_restarted g choice (numbered_from_1 w.servers s.0)
ghost_restarts g w choice other = g

abbrev pub ghost_at_moment : ℕ → Ghost → Ghost → Ghost
ghost_at_moment moment before after = if nat_le moment moment_limit then after else before

-- what replicas have applied, after an event
abbrev pub ghost_moved : Ghost → WorldState → Event → Choice → Ghost
ghost_moved g w (event.Deliver number now) choice = ghost_at_moment now.0 g (ghost_if_delivered g w now.0 choice (numbered_from_1 w.sent number))
ghost_moved g w (event.Restart n now) choice = ghost_at_moment now.0 g (ghost_restarts g w choice n)
ghost_moved g w other choice = g

-- what a client waits for after its step
abbrev pub ghost_at_client : Ghost → WorldState → ℕ → Option ClientState → Ghost
ghost_at_client g w client None = g
ghost_at_client g w client (Some c) = with_client_step g client (calls_made w.observer.trace client) c.current

abbrev pub ghost_at_clients : Ghost → WorldState → ℕ → List ClientState → Ghost
ghost_at_clients g w client [] = g
ghost_at_clients g w client (c ∷ rest) = ghost_at_clients (ghost_at_client g w client (Some c)) w (suc client) rest

-- in the world after an event: what was sent, and what clients wait for
abbrev pub ghost_seen : Ghost → WorldState → List Message → Ghost
ghost_seen g w messages = ghost_at_clients (with_sent_messages g messages) w 1 w.clients

abbrev pub ghost_after : Ghost → WorldState → Event → Choice → Ghost
ghost_after g w e choice =
    let after : WorldState = (happens w e choice).world in
    ghost_seen (ghost_moved g w e choice) after (drop (length w.sent) after.sent)
