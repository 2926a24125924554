use Rattle.std.proofs.Common.{sym, ap, ◌∙◌}
use Rattle.std.specs.Option.{option_copied}
use Rattle.cell_world.proofs.Inside.{holding}
use Rattle.cell_world.proofs.Happened.{no_message, message_came}
use Rattle.cell_world.specs.Held.{HeldCell}
use Rattle.cell_world.proofs.cell.CellState.delivers.Goals as goal

pub returns-in_default : goal.returns-in_default
returns-in_default g c =
    let i = c.self.inside in
    let h : HeldCell = holding i.config (g.M.CellMaster.state i.master) (g.M.CellMaster.files i.master) i.servers.items i.clients.items i.record i.greatest in
    rw (← c.self.view_is) (no_message h c.args.number c.args.now.0 (sym c.get.ensures ∙ ap option_copied c.in_default.is))

pub returns : goal.returns
returns g c =
    message_came c.args.self.now c.moves.new.self c.args.number c.args.now.0 c.in-Some.message.now c.moves.result (rw (← c.self.view_is) (sym c.get.ensures ∙ ap option_copied c.in-Some.is)) c.moves.ensures
