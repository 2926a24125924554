use Rattle.std.proofs.Common.{sym, subst}
use Rattle.cell_nodes.specs.Nodes.{HaveSeen}
use Rattle.running_nodes.specs.Standing.{MasterStands}
use Rattle.cell_nodes.proofs.Led.{master_seen, led_so}
use Rattle.gfs_types.specs.declared.ids.Node.TheVariants.{Master}
use Rattle.cell_nodes.proofs.node_locks.ParkedNodes.led_master.Goals as goal

pub meets-requires-clause-name : goal.meets-requires-clause-name
meets-requires-clause-name c =
    let i = c.self.inside in
    let r = c.requires in
    (master_seen r.0 r.1 c.args.history.now i.master i.servers.items (subst (HaveSeen r.0 r.1 c.args.history.now) (sym c.self.view_is) r.2)).name_is

pub meets-requires-clause-count : goal.meets-requires-clause-count
meets-requires-clause-count c =
    let i = c.self.inside in
    let r = c.requires in
    (master_seen r.0 r.1 c.args.history.now i.master i.servers.items (subst (HaveSeen r.0 r.1 c.args.history.now) (sym c.self.view_is) r.2)).count_is

pub returns : goal.returns
returns c = λ cell servers known.
    let i = c.self.inside in
    let seen = master_seen cell servers c.args.history.now i.master i.servers.items (subst (HaveSeen cell servers c.args.history.now) (sym c.self.view_is) known) in
    led_so cell Master c.args.history.now i.master (MasterStands c.stepper.result.now.node.master.state) seen c.meets.ensures c.stepper.ensures
