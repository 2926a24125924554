use Rattle.std.proofs.Common.{refl, ◌∙◌}
use Rattle.cell_world.proofs.Inside.{holding}
use Rattle.cell_world.proofs.Moved.{no_caller, call_barred, call_did}
use Rattle.cell_world.specs.Held.{HeldCell}
use Rattle.cell_world.proofs.cell.CellState.takes_call.Goals as goal

pub returns-in_default : goal.returns-in_default
returns-in_default g c =
    let i = c.self.inside in
    let h : HeldCell = holding i.config (g.M.CellMaster.state i.master) (g.M.CellMaster.files i.master) i.servers.items i.clients.items i.record i.greatest in
    rw (← c.self.view_is) (no_caller h c.args.client c.args.now.0 c.args.call c.in_default.ensures)

pub returns-then-not-client_may_call : goal.returns-then-not-client_may_call
returns-then-not-client_may_call g c =
    let i = c.self.inside in
    let h : HeldCell = holding i.config (g.M.CellMaster.state i.master) (g.M.CellMaster.files i.master) i.servers.items i.clients.items i.record i.greatest in
    rw (← c.self.view_is) (call_barred h c.args.client c.in-Some.place c.args.now.0 c.args.call c.in-Some.ensures.0 c.in-Some.ensures.1 (λ s e. c.client_may_call.ensures s e ∙ c.if-not-client_may_call.true))

pub returns : goal.returns
returns g c =
    let i = c.self.inside in
    let h : HeldCell = holding i.config (g.M.CellMaster.state i.master) (g.M.CellMaster.files i.master) i.servers.items i.clients.items i.record i.greatest in
    rw (← c.self.view_is) (call_did h c.args.client c.in-Some.place c.args.now.0 c.args.call c.self.inside.record c.client_calls.new.kept c.client_calls.result c.client_calls.new.clients.items c.later-self-inside.result.0 c.in-Some.ensures.0 (λ s e. c.client_may_call.ensures s e ∙ c.if-not-client_may_call.false) c.client_calls.ensures refl refl c.later-self-inside.ensures)
