use Rattle.std.proofs.Common.{ap}
use Rattle.server_handlers.specs.Held.{HeldLeases}
use Rattle.server_handlers.proofs.Lent.{either, on_ok}
use Rattle.server_handlers.proofs.Moves.{denies_one, keeps_denied, keeps_itself}
use Rattle.server_handlers.proofs.held_leases.Leases.deny.Goals as goal

pub invariant_of-self : goal.invariant_of-self
invariant_of-self c =
    let own = c.self.inside in
    either c.deny.result c.deny.ensures.ok c.deny.ensures.err
    (λ e. keeps_denied own.skew_ms own.latest own.table _ c.args.handle.0 c.self.invariant c.args.id c.args.refusal e)
    (λ e. keeps_itself own.skew_ms own.latest own.table _ c.args.handle.0 c.self.invariant e)

pub returns-clause-after : goal.returns-clause-after
returns-clause-after c =
    on_ok c.deny.result (λ e q at is.
    denies_one c.self.inside.table _ c.args.handle.0 c.args.self.now.orders (ap (λ (v : HeldLeases). v.orders) c.self.view_is) q at c.args.id c.args.refusal e is)
    c.deny.ensures.ok
