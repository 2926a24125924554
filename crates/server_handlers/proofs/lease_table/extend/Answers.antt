use Rattle.primary_order.specs.PrimaryOrder.{extended}
use Rattle.server_handlers.proofs.Lent.{changed_lent}
use Rattle.server_handlers.proofs.lease_table.extend.Goals as goal

pub returns-in-Some : goal.returns-in-Some
returns-in-Some c =
    changed_lent c.args.leases.now c.args.handle.0 (λ p. extended p c.args.until.0 c.args.now.0) c.get_mut.result c.in-Some.primary _ c.extend.new.self
    c.in-Some.is (c.get_mut.follows.holds c.extend.new.self) c.in-Some.ensures.value c.extend.ensures
