use Rattle.std.proofs.Common.{inl, inr, ◌∙◌, arith}
use Rattle.cell_world.proofs.Inside.{holding}
use Rattle.cell_world.proofs.Happened.{no_server_rots, nothing_rots, server_rotted}
use Rattle.cell_world.specs.Held.{HeldCell}
use Rattle.cell_world.proofs.cell.CellState.rots.Goals as goal

pub returns-in_default : goal.returns-in_default
returns-in_default g c =
    let i = c.self.inside in
    let h : HeldCell = holding i.config (g.M.CellMaster.state i.master) (g.M.CellMaster.files i.master) i.servers.items i.clients.items i.record i.greatest in
    rw (← c.self.view_is) (no_server_rots h c.args.id c.args.handle c.args.place c.args.byte c.in_default.ensures)

pub returns-then-place-from : goal.returns-then-place-from
returns-then-place-from g c =
    let i = c.self.inside in
    let h : HeldCell = holding i.config (g.M.CellMaster.state i.master) (g.M.CellMaster.files i.master) i.servers.items i.clients.items i.record i.greatest in
    rw (← c.self.view_is) (nothing_rots h c.args.id c.in-Some.index c.args.handle c.args.place c.args.byte c.in-Some.ensures.0 c.in-Some.ensures.1 (inr (omega (arith, c.if-place-from.true, c.from.ensures))))

pub returns-then-not-is_server_up : goal.returns-then-not-is_server_up
returns-then-not-is_server_up g c =
    let i = c.self.inside in
    let h : HeldCell = holding i.config (g.M.CellMaster.state i.master) (g.M.CellMaster.files i.master) i.servers.items i.clients.items i.record i.greatest in
    rw (← c.self.view_is) (nothing_rots h c.args.id c.in-Some.index c.args.handle c.args.place c.args.byte c.in-Some.ensures.0 c.in-Some.ensures.1 (inl (λ s e. c.is_server_up.ensures s e ∙ c.if-not-is_server_up.true)))

pub returns : goal.returns
returns g c =
    let i = c.self.inside in
    let h : HeldCell = holding i.config (g.M.CellMaster.state i.master) (g.M.CellMaster.files i.master) i.servers.items i.clients.items i.record i.greatest in
    rw (← c.self.view_is) (server_rotted h c.args.id c.in-Some.index c.args.handle c.args.place c.args.byte c.server_rots.new.servers.items c.in-Some.ensures.0 (λ s e. c.is_server_up.ensures s e ∙ c.if-not-is_server_up.false)
    (omega (arith, c.if-place-from.false, c.from.ensures)) c.server_rots.ensures)
