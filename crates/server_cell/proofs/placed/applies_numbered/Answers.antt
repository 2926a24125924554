use Rattle.std.proofs.Common.{ℕ}
use Rattle.primary_order.specs.SerialOrder.{order_of}
use Rattle.server_handlers.proofs.Lent.{on_ok, same_some}
use Rattle.server_handlers.specs.Doing.{doing, held_at}
use Rattle.server_cell.proofs.Numbering.{applied_as}
use Rattle.server_cell.proofs.placed.applies_numbered.Goals as goal

pub returns-clause-goes : goal.returns-clause-goes
returns-clause-goes g c =
    let handle : ℕ = c.args.handle.0 in
    on_ok c.applies.result (λ f p at counts is.
    applied_as c.args.server.now.state c.args.effects.now handle p c.args.id c.args.mutation (doing c.numbers.new.self.state c.numbers.new.effects) (doing c.applies.new.server.state c.applies.new.effects)
    (order_of c.in-Some.primary.now) c.serial.result.0 c.change_of-change.result c.in_ok-stored.stored
    counts (c.in_ok-numbers.ensures.goes p at counts is)
    (same_some (order_of c.in-Some.primary.now) p (held_at c.args.server.now.state handle) c.in-Some.ensures at)
    c.serial.ensures c.change_of-change.ensures c.in_ok-stored.ensures f)
    c.applies.ensures.goes
