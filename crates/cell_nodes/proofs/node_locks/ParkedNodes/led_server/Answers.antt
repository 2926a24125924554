use Rattle.std.proofs.Common.{◌≡◌, ◌+◌, List, get_or, sym, subst, rules}
use Rattle.protocol.specs.Sending.{the_server}
use Rattle.cell_seats.specs.ParkedNodes.{ParkedNodeState}
use Rattle.cell_nodes.specs.Nodes.{HaveSeen}
use Rattle.running_nodes.specs.Standing.{ServerStands}
use Rattle.cell_nodes.proofs.Led.{within_servers, server_seen, led_so}
use Rattle.cell_nodes.proofs.node_locks.ParkedNodes.led_server.Goals as goal

pub server_at-server-requires : goal.server_at-server-requires
server_at-server-requires c =
    let i = c.self.inside in
    let r = c.requires in
    let items : c.as_slice.result.now ≡ i.servers.items = search rules in
    rw items (within_servers r.0 r.1 c.args.history.now i.master i.servers.items (subst (HaveSeen r.0 r.1 c.args.history.now) (sym c.self.view_is) r.2) c.args.before r.3)

pub meets-requires-clause-name : goal.meets-requires-clause-name
meets-requires-clause-name c =
    let i = c.self.inside in
    let r = c.requires in
    let p = c.server_at-server.result.now in
    let items : c.as_slice.result.now ≡ i.servers.items = search rules in
    let at = subst (λ (l : List ParkedNodeState). p ≡ get_or l c.args.before p) items c.server_at-server.ensures in
    (server_seen r.0 r.1 c.args.history.now i.master i.servers.items (subst (HaveSeen r.0 r.1 c.args.history.now) (sym c.self.view_is) r.2) c.args.before p r.3 at).name_is

pub meets-requires-clause-count : goal.meets-requires-clause-count
meets-requires-clause-count c =
    let i = c.self.inside in
    let r = c.requires in
    let p = c.server_at-server.result.now in
    let items : c.as_slice.result.now ≡ i.servers.items = search rules in
    let at = subst (λ (l : List ParkedNodeState). p ≡ get_or l c.args.before p) items c.server_at-server.ensures in
    (server_seen r.0 r.1 c.args.history.now i.master i.servers.items (subst (HaveSeen r.0 r.1 c.args.history.now) (sym c.self.view_is) r.2) c.args.before p r.3 at).count_is

pub returns : goal.returns
returns c = λ cell servers known within.
    let i = c.self.inside in
    let p = c.server_at-server.result.now in
    let items : c.as_slice.result.now ≡ i.servers.items = search rules in
    let at = subst (λ (l : List ParkedNodeState). p ≡ get_or l c.args.before p) items c.server_at-server.ensures in
    let seen = server_seen cell servers c.args.history.now i.master i.servers.items (subst (HaveSeen cell servers c.args.history.now) (sym c.self.view_is) known) c.args.before p within at in
    led_so cell (the_server (c.args.before + 1)) c.args.history.now p (ServerStands c.stepper.result.now.server) seen c.meets.ensures c.stepper.ensures
