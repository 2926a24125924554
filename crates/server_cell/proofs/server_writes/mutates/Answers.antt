use Rattle.std.proofs.Common.{ℕ, ap, ◌∙◌}
use Rattle.primary_order.specs.SerialOrder.{SerialOrder, order_of}
use Rattle.protocol.specs.Server.{ServerDoing}
use Rattle.protocol.specs.ServerWrites.{mutates_as}
use Rattle.server_handlers.proofs.Lent.{on_ok, same_some}
use Rattle.server_handlers.specs.Doing.{doing, held_at}
use Rattle.server_cell.proofs.Known.{known_one, new_one}
use Rattle.server_cell.proofs.server_writes.mutates.Goals as goal

pub returns-in-None-clause-goes : goal.returns-in-None-clause-goes
returns-in-None-clause-goes g c =
    let d : ServerDoing = doing c.args.server.now.state c.args.effects.now in
    let handle : ℕ = c.args.handle.0 in
    let x : SerialOrder = order_of c.in-Some.primary.now in
    on_ok c.mutates_new.result (λ f p at counts.
    let same = same_some x p (held_at c.args.server.now.state handle) c.in-Some.ensures at in
    let is = new_one x p c.args.id same c.in-None.ensures.attempt in
    ap (mutates_as d handle p c.args.id c.args.target) is ∙ f p at counts is)
    c.mutates_new.ensures.goes

pub returns-in-Some-known-clause-goes : goal.returns-in-Some-known-clause-goes
returns-in-Some-known-clause-goes g c =
    let d : ServerDoing = doing c.args.server.now.state c.args.effects.now in
    let handle : ℕ = c.args.handle.0 in
    let x : SerialOrder = order_of c.in-Some.primary.now in
    on_ok c.answers_known.result (λ f p at counts.
    known_one d handle x p c.args.id c.args.target c.in-Some-known.answer (same_some x p (held_at c.args.server.now.state handle) c.in-Some.ensures at) c.in-Some-known.ensures.attempt ∙ f)
    c.answers_known.ensures
