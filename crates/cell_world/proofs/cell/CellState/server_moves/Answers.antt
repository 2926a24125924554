use Rattle.std.proofs.Common.{refl, ◌∙◌}
use Rattle.server_cell.specs.Inputs.{input_of}
use Rattle.cell_world.specs.Batches.{message_named}
use Rattle.cell_world.proofs.Inside.{holding}
use Rattle.cell_world.proofs.Moved.{no_server, server_down, server_did}
use Rattle.cell_world.specs.Held.{HeldCell}
use Rattle.cell_world.proofs.cell.CellState.server_moves.Goals as goal

pub returns-in_default : goal.returns-in_default
returns-in_default g c =
    let i = c.self.inside in
    let h : HeldCell = holding i.config (g.M.CellMaster.state i.master) (g.M.CellMaster.files i.master) i.servers.items i.clients.items i.record i.greatest in
    rw (← c.self.view_is) (no_server h c.args.id c.args.now.0 (input_of (message_named h.sent c.args.given)) c.in_default.ensures)

pub returns-then-not-is_server_up : goal.returns-then-not-is_server_up
returns-then-not-is_server_up g c =
    let i = c.self.inside in
    let h : HeldCell = holding i.config (g.M.CellMaster.state i.master) (g.M.CellMaster.files i.master) i.servers.items i.clients.items i.record i.greatest in
    rw (← c.self.view_is) (server_down h c.args.id c.in-Some.place c.args.now.0 (input_of (message_named h.sent c.args.given)) c.in-Some.ensures.0 c.in-Some.ensures.1 (λ s e. c.is_server_up.ensures s e ∙ c.if-not-is_server_up.true))

pub returns : goal.returns
returns g c =
    let i = c.self.inside in
    let h : HeldCell = holding i.config (g.M.CellMaster.state i.master) (g.M.CellMaster.files i.master) i.servers.items i.clients.items i.record i.greatest in
    rw (← c.self.view_is) (server_did h c.args.id c.in-Some.place c.args.now.0 (input_of (message_named h.sent c.args.given)) c.self.inside.record c.server_steps.new.kept c.server_steps.result c.server_steps.new.servers.items c.later-self-inside.result.0 c.in-Some.ensures.0 (λ s e. c.is_server_up.ensures s e ∙ c.if-not-is_server_up.false) c.server_steps.ensures refl refl c.later-self-inside.ensures)
