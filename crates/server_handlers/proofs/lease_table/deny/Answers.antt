use Rattle.primary_order.specs.PrimaryOrder.{denied}
use Rattle.server_handlers.proofs.Lent.{changed_lent, on_ok, on_err}
use Rattle.server_handlers.proofs.lease_table.deny.Goals as goal

pub returns-in-Some-clause-ok : goal.returns-in-Some-clause-ok
returns-in-Some-clause-ok c =
    on_ok c.deny.result (λ e.
    changed_lent c.args.leases.now c.args.handle.0 (λ p. denied p c.args.id.client c.args.id.seq c.args.refusal) c.get_mut.result c.in-Some.primary _ c.deny.new.self
    c.in-Some.is (c.get_mut.follows.holds c.deny.new.self) c.in-Some.ensures.value e)
    c.deny.ensures.ok

pub returns-in-Some-clause-err : goal.returns-in-Some-clause-err
returns-in-Some-clause-err c =
    on_err c.deny.result (λ e.
    changed_lent c.args.leases.now c.args.handle.0 (λ p. p) c.get_mut.result c.in-Some.primary _ c.deny.new.self
    c.in-Some.is (c.get_mut.follows.holds c.deny.new.self) c.in-Some.ensures.value e)
    c.deny.ensures.err
