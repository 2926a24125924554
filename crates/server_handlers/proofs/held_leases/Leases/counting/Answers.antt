use Rattle.std.proofs.Common.{ap, ◌∙◌}
use Rattle.std.specs.Option.{option_map}
use Rattle.primary_order.specs.SerialOrder.{order_of}
use Rattle.server_handlers.specs.Held.{HeldLeases}
use Rattle.server_handlers.proofs.Moves.{counting_same, within}
use Rattle.server_handlers.proofs.held_leases.Leases.counting.Goals as goal

pub returns : goal.returns
returns c =
    let v = c.args.self.now in
    let own = c.self.inside in
    let le = within _ v c.args.now.0 c.self.view_is c.requires in
    ap (option_map order_of) c.counted.ensures
    ∙ counting_same own.skew_ms own.latest c.args.now.0 c.args.version.0 own.table c.args.handle.0 v.orders v.skew c.self.invariant le
    (ap (λ (x : HeldLeases). x.orders) c.self.view_is) (ap (λ (x : HeldLeases). x.skew) c.self.view_is)
