use Rattle.std.proofs.Common.{List, ap}
use Rattle.messages.specs.declared.message.Message.{Message}
use Rattle.cell_world.specs.Held.{HeldCell}
use Rattle.cell_world.proofs.Inside.{holding}
use Rattle.cell_world.proofs.cell.CellState.drop_messages.Goals as goal

pub returns : goal.returns
returns g c =
    let i = c.self.inside in
    let h : HeldCell = holding i.config (g.M.CellMaster.state i.master) (g.M.CellMaster.files i.master) i.servers.items i.clients.items i.record i.greatest in
    rw (← c.self.view_is) (ap (λ (ms : List Message). record h { sent = ms }) c.clear.ensures)
