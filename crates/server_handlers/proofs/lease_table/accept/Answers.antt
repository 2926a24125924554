use Rattle.std.proofs.Common.{ap, ◌∙◌}
use Rattle.primary_order.specs.PrimaryOrder.{accepted, place_of, seen_at}
use Rattle.server_handlers.specs.Held.{serial_given}
use Rattle.server_handlers.proofs.Lent.{changed_lent, if_ok, on_ok, on_err}
use Rattle.server_handlers.proofs.lease_table.accept.Goals as goal

pub returns-in-Some-clause-ok : goal.returns-in-Some-clause-ok
returns-in-Some-clause-ok c =
    on_ok c.accept_by.result (λ e.
    changed_lent c.args.leases.now c.args.handle.0 (λ p. accepted (seen_at p c.args.now.0) c.args.id.client c.args.id.seq (place_of c.args.mutation.now)) c.get_mut.result c.in-Some.primary _ c.accept_by.new.primary
    c.in-Some.is (c.get_mut.follows.holds c.accept_by.new.primary) c.in-Some.ensures.value e)
    c.accept_by.ensures.ok

pub returns-in-Some-clause-err : goal.returns-in-Some-clause-err
returns-in-Some-clause-err c =
    on_err c.accept_by.result (λ e.
    changed_lent c.args.leases.now c.args.handle.0 (λ p. seen_at p c.args.now.0) c.get_mut.result c.in-Some.primary _ c.accept_by.new.primary
    c.in-Some.is (c.get_mut.follows.holds c.accept_by.new.primary) c.in-Some.ensures.value e)
    c.accept_by.ensures.err

pub returns-in-Some-clause-serial : goal.returns-in-Some-clause-serial
returns-in-Some-clause-serial c =
    if_ok c.accept_by.result (λ serial e. e ∙ ap (serial_given c.args.now.0 c.args.id) c.in-Some.ensures.value) c.accept_by.ensures.serial
