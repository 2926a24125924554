use Rattle.std.proofs.Common.{ap, ◌∙◌}
use Rattle.server_handlers.specs.Held.{HeldLeases}
use Rattle.server_handlers.proofs.Moves.{keeps_refused, refuses_one, refuses_whose}
use Rattle.server_handlers.proofs.held_leases.Leases.refuse.Goals as goal

pub invariant_of-self : goal.invariant_of-self
invariant_of-self c =
    let own = c.self.inside in
    keeps_refused own.skew_ms own.latest own.table _ c.args.handle.0 c.self.invariant c.args.serial.0 c.args.refusal c.refuse.ensures.after

pub returns-clause-after : goal.returns-clause-after
returns-clause-after c = λ q at.
    refuses_one c.self.inside.table _ c.args.handle.0 c.args.self.now.orders (ap (λ (v : HeldLeases). v.orders) c.self.view_is) q at c.args.serial.0 c.args.refusal c.refuse.ensures.after

pub returns-clause-attempt : goal.returns-clause-attempt
returns-clause-attempt c = λ q at.
    c.refuse.ensures.attempt
    ∙ refuses_whose c.self.inside.table c.self.inside.table c.args.handle.0 c.args.self.now.orders (ap (λ (v : HeldLeases). v.orders) c.self.view_is) q at c.args.serial.0
