use Rattle.std.proofs.Common.{ap, ◌∙◌}
use Rattle.gfs_types.specs.declared.ids.Node.TheVariants.{Master}
use Rattle.cell_run.specs.Parked.{ParkedState}
use Rattle.running_nodes.specs.Standing.{MasterStands}
use Rattle.cell_nodes.proofs.Led.{have_seen, led_whole}
use Rattle.cell_run.proofs.parked.Parked.master.Goals as goal

pub led_master-requires : goal.led_master-requires
led_master-requires c =
    let j = c.self.inside.parts.journal in
    (j.cell, j.cell.servers, have_seen j c.beginning-history.result c.nodes.result.now (c.beginning-history.ensures ∙ c.self.invariant) c.nodes.ensures)

pub returns : goal.returns
returns c =
    let j = c.self.inside.parts.journal in
    let list = c.beginning-history.ensures ∙ c.self.invariant in
    led_whole j c.args.self.now.journal c.beginning-history.result Master (MasterStands c.led_master.result.now.node.master.state) (ap (λ (p : ParkedState). p.journal) c.self.view_is) list
    (c.led_master.ensures j.cell j.cell.servers (have_seen j c.beginning-history.result c.nodes.result.now list c.nodes.ensures))
