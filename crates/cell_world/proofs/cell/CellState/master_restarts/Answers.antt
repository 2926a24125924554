use Rattle.cell_world.specs.Held.{HeldCell}
use Rattle.cell_world.proofs.Inside.{holding}
use Rattle.cell_world.proofs.Moved.{master_restarted}
use Rattle.cell_world.proofs.cell.CellState.master_restarts.Goals as goal

pub returns : goal.returns
returns g c =
    let i = c.self.inside in
    let h : HeldCell = holding i.config (g.M.CellMaster.state i.master) (g.M.CellMaster.files i.master) i.servers.items i.clients.items i.record i.greatest in
    rw (← c.self.view_is) (master_restarted h c.args.now.0 c.restart.result _ _ c.later-self-inside.result.0 c.restart.ensures.steps c.restart.ensures.files c.later-self-inside.ensures)
