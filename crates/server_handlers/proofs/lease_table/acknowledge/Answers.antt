use Rattle.std.proofs.Common.{ap, ◌∙◌}
use Rattle.primary_order.specs.PrimaryOrder.{acknowledged, seen_at}
use Rattle.server_handlers.specs.Held.{settled_at}
use Rattle.server_handlers.proofs.Lent.{changed_lent}
use Rattle.server_handlers.proofs.lease_table.acknowledge.Goals as goal

pub returns-in-Some-clause-after : goal.returns-in-Some-clause-after
returns-in-Some-clause-after c =
    changed_lent c.args.leases.now c.args.handle.0 (λ p. acknowledged (seen_at p c.args.now.0) c.args.server.0 c.args.serial.0) c.get_mut.result c.in-Some.primary _ c.ack.new.self
    c.in-Some.is (c.get_mut.follows.holds c.ack.new.self) c.in-Some.ensures.value c.ack.ensures.after

pub returns-in-Some-clause-answer : goal.returns-in-Some-clause-answer
returns-in-Some-clause-answer c = c.ack.ensures.answer ∙ ap (settled_at c.args.now.0 c.args.server.0 c.args.serial.0) c.in-Some.ensures.value
