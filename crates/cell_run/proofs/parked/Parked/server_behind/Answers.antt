use Rattle.std.proofs.Common.{◌+◌, ◌<◌, sym, ap, subst, ◌∙◌}
use Rattle.protocol.specs.Sending.{the_server}
use Rattle.cell_run.specs.Parked.{ParkedState}
use Rattle.running_nodes.specs.Standing.{ServerStands}
use Rattle.cell_nodes.proofs.Led.{have_seen, led_whole}
use Rattle.cell_run.proofs.parked.Parked.server_behind.Goals as goal

pub led_server-requires : goal.led_server-requires
led_server-requires c =
    let j = c.self.inside.parts.journal in
    let within = subst (λ (p : ParkedState). c.args.before < p.journal.cell.servers) (sym c.self.view_is) c.requires in
    (j.cell, j.cell.servers, have_seen j c.beginning-history.result c.nodes.result.now (c.beginning-history.ensures ∙ c.self.invariant) c.nodes.ensures, within)

pub returns : goal.returns
returns c =
    let j = c.self.inside.parts.journal in
    let list = c.beginning-history.ensures ∙ c.self.invariant in
    let within = subst (λ (p : ParkedState). c.args.before < p.journal.cell.servers) (sym c.self.view_is) c.requires in
    led_whole j c.args.self.now.journal c.beginning-history.result (the_server (c.args.before + 1)) (ServerStands c.led_server.result.now.server) (ap (λ (p : ParkedState). p.journal) c.self.view_is) list
    (c.led_server.ensures j.cell j.cell.servers (have_seen j c.beginning-history.result c.nodes.result.now list c.nodes.ensures) within)
