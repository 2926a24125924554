use Rattle.std.proofs.Common.{◌≡◌, ap, sym, ◌∙◌, subst}
use Rattle.std.specs.FinMap as table
use Rattle.server_handlers.specs.Held.{AreHeld, HeldLeases, orders_of}
use Rattle.server_handlers.proofs.SeenOrders.{held_removed, orders_removed}
use Rattle.server_handlers.proofs.held_leases.Leases.end.Goals as goal

pub invariant_of-self : goal.invariant_of-self
invariant_of-self c =
    let own = c.self.inside in
    subst (AreHeld own.skew_ms own.latest) (sym c.end_at.ensures) (held_removed own.skew_ms own.latest own.table c.args.handle.0 c.self.invariant)

pub returns : goal.returns
returns c =
    let own = c.self.inside in
    let rest = ap (λ x. orders_of x) c.end_at.ensures ∙ orders_removed own.table c.args.handle.0 in
    let same : ◌≡◌ {A = HeldLeases} (record { skew = own.skew_ms; latest = own.latest; orders = orders_of c.end_at.new.leases }) _
    = λ i. record { skew = own.skew_ms; latest = own.latest; orders = rest i } in
    same ∙ ap (λ (v : HeldLeases). record v { orders = table.remove v.orders c.args.handle.0 }) c.self.view_is
