-- The master and the servers of a new cell stand as it began.
use Rattle.std.proofs.Common.{◌≡◌, ℕ, ◌<◌, ◌≤◌, [], refl, sym, ap, subst}
use Rattle.std.specs.Option.{option_map}
use Rattle.gfs_types.specs.declared.config.Config.{Config}
use Rattle.gfs_types.specs.declared.ids.Node.{Node}
use Rattle.gfs_types.specs.declared.ids.Node.TheVariants as node
use Rattle.gfs_types.specs.declared.ids.ServerId.{ServerId}
use Rattle.protocol.specs.Master.{MasterState}
use Rattle.protocol.specs.MasterStep.{new_master}
use Rattle.protocol.specs.Server.{ServerState, started_server}
use Rattle.replica_store.specs.Replicas.{new_server_disk}
use Rattle.protocol_journal.specs.Journal.{MasterIs, ServerIs, own}
use Rattle.cell_journal.specs.declared.view.View.{View}
use Rattle.cell_world.proofs.Left.{same_left}
use Rattle.cell_seats.specs.Slots.{IsLedTo, SlotState, slot_state}
use Rattle.running_nodes.specs.Standing.{MasterStands, ServerStands}
use Rattle.cell_seats.specs.Registry.{IsRegistered}
use Rattle.cell_nodes.specs.NewNodes.{IsNewNode}
use Rattle.cell_seats.proofs.Starting.{numbered_is, led_new}

pub master_led : (config : Config) (servers : ℕ) (n : Node) (v w : View) (held : MasterState) → IsRegistered config servers node.Master v n w → own node.Master v.of.base ≡ [] → held ≡ new_master config servers → IsLedTo w n (MasterStands held)
master_led config servers n v w held registered unused is =
    let state : MasterState = new_master config servers in
    led_new config servers node.Master n v w (MasterStands held) (MasterIs state) registered unused refl
    (subst (λ (x : MasterState). MasterStands x (MasterIs state)) (sym is) (record { master = state; is = refl; left_as = same_left state }))

pub server_led : (config : Config) (servers : ℕ) (id : ServerId) (n : Node) (v w : View) (held : ServerState) → 0 < id.0 → id.0 ≤ servers → IsRegistered config servers (node.Server id) v n w
    → own (node.Server id) v.of.base ≡ [] → held ≡ started_server config id.0 (new_server_disk config.chunk config.block config.slots) 0 → IsLedTo w n (ServerStands held)
server_led config servers id n v w held some within registered unused is =
    let new : ℕ → ServerState = λ s. started_server config s (new_server_disk config.chunk config.block config.slots) 0 in
    led_new config servers (node.Server id) n v w (ServerStands held) (ServerIs (new id.0)) registered unused
    (ap (option_map (λ (x : ServerState). ServerIs x)) (numbered_is new servers id.0 some within)) (ap (λ (x : ServerState). ServerIs x) (sym is))

-- the writer that was made is the slot's
pub new_node : (config : Config) (servers : ℕ) (node n : Node) (v w : View) (s : SlotState) → IsRegistered config servers node v n w → own node v.of.base ≡ [] → s ≡ slot_state n w → IsNewNode node v s.node s.view
new_node config servers node n v w s registered unused is =
    subst (λ (x : SlotState). IsNewNode node v x.node x.view) (sym is) (record { node_is = registered.node_is; of = registered.of; mine = registered.mine; unused = unused; seen = registered.seen })
