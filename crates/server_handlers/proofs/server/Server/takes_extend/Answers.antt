use Rattle.std.proofs.Common.{◌≡◌, ap, sym, ◌∙◌, true, eqb}
use Rattle.primary_order.specs.SerialOrder.{SerialOrder, order_of}
use Rattle.server_handlers.specs.Standing.{HeldServerState}
use Rattle.server_handlers.proofs.Counting.{extends_as}
use Rattle.server_handlers.proofs.server.Server.takes_extend.Goals as goal

pub returns-then-eq-clause-goes : goal.returns-then-eq-clause-goes
returns-then-eq-clause-goes g c =
    let p : SerialOrder = order_of c.in-Some.primary.now in
    let version : p.held.version ≡ c.version.result.0 = search in
    let is : eqb p.held.version c.args.version.0 ≡ true = ap (λ n. eqb n c.args.version.0) version ∙ (sym c.eq.ensures ∙ c.if-eq.true) in
    extends_as c.args.self.now.state _ c.args.effects.now c.args.handle.0 c.args.version.0 c.args.end.0 c.self.inside.leases.skew p c.extend.new.self.orders
    (ap (λ (x : HeldServerState). x.state) c.self.view_is) c.in-Some.ensures is c.self.invariant.5 (c.extend.ensures.after p (sym c.in-Some.ensures))
