-- A client that made no call yet stands as its cell began.
use Rattle.std.proofs.Common.{◌≡◌, ℕ, ◌<◌, ◌≤◌, [], refl, sym, ap, ◌∙◌}
use Rattle.std.specs.Option.{option_map}
use Rattle.gfs_types.specs.declared.config.Config.{Config}
use Rattle.gfs_types.specs.declared.ids.ClientId.{ClientId}
use Rattle.gfs_types.specs.declared.ids.Node.{Node}
use Rattle.gfs_types.specs.declared.ids.Node.TheVariants as node
use Rattle.protocol.specs.Client.{ClientState, new_client}
use Rattle.protocol_journal.specs.Journal.{ClientIs, own}
use Rattle.cell_journal.specs.Identity.{Identity}
use Rattle.cell_journal.specs.declared.view.View.{View}
use Rattle.cell_seats.specs.Slots.{IsLedTo}
use Rattle.cell_seats.specs.Registry.{IsRegistered}
use Rattle.cell_seats.proofs.Starting.{numbered_is, led_new}
use Rattle.running_nodes.specs.Standing.{ClientStands}

pub client_led : (config : Config) (servers : ℕ) (id : ClientId) (n : Node) (v w : View) (held : ClientState) → 0 < id.0 → id.0 ≤ 64 → IsRegistered config servers (node.Client id) v n w
    → own (node.Client id) v.of.base ≡ [] → held ≡ new_client config id.0 → IsLedTo w n (ClientStands held)
client_led config servers id n v w held some within registered unused is =
    led_new config servers (node.Client id) n v w (ClientStands held) (ClientIs (new_client config id.0)) registered unused
    (ap (option_map (λ (x : ClientState). ClientIs x)) (numbered_is (new_client config) 64 id.0 some within)) (ap (λ (x : ClientState). ClientIs x) (sym is))

-- a client of a number that was not used before stands so in the cell that goes on
pub client_anew : (cell : Identity) (config : Config) (id : ClientId) (n : Node) (w : View) (held : ClientState) → 0 < id.0 → id.0 ≤ 64 → n ≡ node.Client id → w.of ≡ cell → w.mine ≡ [] → cell.config ≡ config
    → cell.clients ≡ 64 → own (node.Client id) cell.base ≡ [] → held ≡ new_client config id.0 → IsLedTo w n (ClientStands held)
client_anew cell config id n w held some within same of mine config_is clients_are unused is =
    client_led config w.of.servers id n w w held some within
    (record {
      node_is = same;
      of = refl;
      config_is = ap (λ (c : Identity). c.config) of ∙ config_is;
      servers_are = refl;
      clients_are = ap (λ (c : Identity). c.clients) of ∙ clients_are;
      mine = mine;
      seen = refl;
    })
    (ap (λ (c : Identity). own (node.Client id) c.base) of ∙ unused) is
