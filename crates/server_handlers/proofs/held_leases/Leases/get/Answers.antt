use Rattle.std.proofs.Common.{ap, sym, ◌∙◌}
use Rattle.std.specs.Option.{option_map}
use Rattle.std.specs.FinMap as table
use Rattle.primary_order.specs.SerialOrder.{order_of}
use Rattle.server_handlers.specs.Held.{HeldLeases}
use Rattle.server_handlers.proofs.SeenOrders.{get_orders}
use Rattle.server_handlers.proofs.held_leases.Leases.get.Goals as goal

pub returns : goal.returns
returns c =
    ap (option_map order_of) c.get.ensures
    ∙ (sym (get_orders c.self.inside.table c.args.handle.0) ∙ ap (λ (v : HeldLeases). table.get v.orders c.args.handle.0) c.self.view_is)
