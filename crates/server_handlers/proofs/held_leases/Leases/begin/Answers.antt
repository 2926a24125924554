use Rattle.std.proofs.Common.{ap, sym, ◌∙◌, subst}
use Rattle.leases.specs.LeaseHeld.{HeldState}
use Rattle.primary_order.specs.declared.primary.Primary.{Primary}
use Rattle.primary_order.specs.SerialOrder.{new_order, order_of}
use Rattle.server_handlers.specs.Held.{AreHeld, HeldLeases}
use Rattle.server_handlers.proofs.Lent.{either, on_ok}
use Rattle.server_handlers.proofs.Moves.{begins_one, keeps_begun}
use Rattle.server_handlers.proofs.held_leases.Leases.begin.Goals as goal

pub invariant_of-self : goal.invariant_of-self
invariant_of-self c =
    let own = c.self.inside in
    either c.begin.result c.begin.ensures.ok c.begin.ensures.err
    (keeps_begun own.skew_ms own.latest own.table _ c.args.handle.0 c.new.result c.self.invariant
    (ap (λ (p : Primary). p.held.skew) c.new.ensures ∙ ap (λ (h : HeldState). h.skew) c.take-held.ensures)
    (ap (λ (p : Primary). p.held.latest) c.new.ensures ∙ ap (λ (h : HeldState). h.latest) c.take-held.ensures))
    (λ e. subst (AreHeld own.skew_ms own.latest) (sym e) c.self.invariant)

pub returns-clause-after : goal.returns-clause-after
returns-clause-after c =
    on_ok c.begin.result
    (begins_one c.self.inside.table _ c.args.handle.0 c.args.self.now.orders c.new.result c.args.chunk _ (ap (λ (v : HeldLeases). v.orders) c.self.view_is)
    (ap order_of c.new.ensures ∙ ap (λ (h : HeldState). new_order c.args.chunk h.lease) c.take-held.ensures))
    c.begin.ensures.ok
