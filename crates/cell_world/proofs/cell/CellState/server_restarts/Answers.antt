use Rattle.cell_world.proofs.Inside.{holding}
use Rattle.cell_world.proofs.Moved.{no_server_restarts, server_restarted}
use Rattle.cell_world.specs.Held.{HeldCell}
use Rattle.cell_world.proofs.cell.CellState.server_restarts.Goals as goal

pub returns-in_default : goal.returns-in_default
returns-in_default g c =
    let i = c.self.inside in
    let h : HeldCell = holding i.config (g.M.CellMaster.state i.master) (g.M.CellMaster.files i.master) i.servers.items i.clients.items i.record i.greatest in
    rw (← c.self.view_is) (no_server_restarts h c.args.id c.args.now.0 c.in_default.ensures)

pub returns : goal.returns
returns g c =
    let i = c.self.inside in
    let h : HeldCell = holding i.config (g.M.CellMaster.state i.master) (g.M.CellMaster.files i.master) i.servers.items i.clients.items i.record i.greatest in
    rw (← c.self.view_is) (server_restarted h c.args.id c.in-Some.place c.args.now.0 c.server_restarts.result c.server_restarts.new.servers.items c.later-self-inside.result.0 c.in-Some.ensures.0 c.server_restarts.ensures c.later-self-inside.ensures)
