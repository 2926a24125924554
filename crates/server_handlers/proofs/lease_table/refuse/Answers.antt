use Rattle.std.proofs.Common.{ap, ◌∙◌}
use Rattle.primary_order.specs.PrimaryOrder.{refused}
use Rattle.server_handlers.specs.Held.{attempt_at}
use Rattle.server_handlers.proofs.Lent.{changed_lent}
use Rattle.server_handlers.proofs.lease_table.refuse.Goals as goal

pub returns-in-Some-clause-after : goal.returns-in-Some-clause-after
returns-in-Some-clause-after c =
    changed_lent c.args.leases.now c.args.handle.0 (λ p. refused p c.args.serial.0 c.args.refusal) c.get_mut.result c.in-Some.primary _ c.refuse.new.self
    c.in-Some.is (c.get_mut.follows.holds c.refuse.new.self) c.in-Some.ensures.value c.refuse.ensures

pub returns-in-Some-clause-attempt : goal.returns-in-Some-clause-attempt
returns-in-Some-clause-attempt c = c.attempt-attempt.ensures ∙ ap (attempt_at c.args.serial.0) c.in-Some.ensures.value
