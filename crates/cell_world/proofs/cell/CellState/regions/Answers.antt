use Rattle.cell_world.proofs.Inside.{holding}
use Rattle.cell_world.proofs.Looked.{regions_are_held}
use Rattle.cell_world.proofs.Regions.{shown_regions}
use Rattle.cell_world.specs.Held.{HeldCell}
use Rattle.cell_world.proofs.cell.CellState.regions.Goals as goal

pub returns-clause-held : goal.returns-clause-held
returns-clause-held g c =
    let i = c.self.inside in
    let h : HeldCell = holding i.config (g.M.CellMaster.state i.master) (g.M.CellMaster.files i.master) i.servers.items i.clients.items i.record i.greatest in
    rw (← c.self.view_is) (regions_are_held h c.args.file.0 c.args.index c.handle_at.result c.in-Some.handle _ c.in-Some.is c.handle_at.ensures c.in_ok-regions.ensures)

pub returns-clause-world : goal.returns-clause-world
returns-clause-world g c =
    let i = c.self.inside in
    let h : HeldCell = holding i.config (g.M.CellMaster.state i.master) (g.M.CellMaster.files i.master) i.servers.items i.clients.items i.record i.greatest in
    rw (← c.self.view_is) (shown_regions h c.args.file.0 c.args.index c.handle_at.result c.in-Some.handle _ c.in-Some.is c.handle_at.ensures c.in_ok-regions.ensures)
