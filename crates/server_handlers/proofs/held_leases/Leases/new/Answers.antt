use Rattle.std.proofs.Common.{◌≡◌, ap, sym, ◌∙◌, subst}
use Rattle.server_handlers.specs.Held.{AreHeld, HeldLeases, orders_of}
use Rattle.server_handlers.proofs.SeenOrders.{held_none, orders_none}
use Rattle.server_handlers.proofs.held_leases.Leases.new.Goals as goal

pub invariant_of-result : goal.invariant_of-result
invariant_of-result c = subst (AreHeld c.args.skew_ms 0) (sym c.new.ensures) (held_none c.args.skew_ms 0)

pub returns : goal.returns
returns c =
    let empty = ap (λ x. orders_of x) c.new.ensures ∙ orders_none in
    let same : ◌≡◌ {A = HeldLeases} (record { skew = c.args.skew_ms; latest = 0; orders = orders_of c.new.result }) _ = λ i. record { skew = c.args.skew_ms; latest = 0; orders = empty i } in
    same
