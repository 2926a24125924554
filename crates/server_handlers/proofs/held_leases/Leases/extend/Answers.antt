use Rattle.std.proofs.Common.{ap}
use Rattle.server_handlers.specs.Held.{HeldLeases}
use Rattle.server_handlers.proofs.Moves.{extends_one, keeps_extended, within}
use Rattle.server_handlers.proofs.held_leases.Leases.extend.Goals as goal

pub invariant_of-self : goal.invariant_of-self
invariant_of-self c =
    let own = c.self.inside in
    let le = within _ c.args.self.now c.args.now.0 c.self.view_is c.requires in
    keeps_extended own.skew_ms own.latest own.table _ c.args.handle.0 c.self.invariant c.args.until.0 c.args.now.0 le c.extend.ensures

pub returns-clause-after : goal.returns-clause-after
returns-clause-after c = λ q at.
    let v = c.args.self.now in
    let own = c.self.inside in
    let le = within _ c.args.self.now c.args.now.0 c.self.view_is c.requires in
    extends_one own.skew_ms own.latest c.args.now.0 v.skew own.table _ c.args.handle.0 v.orders c.self.invariant le (ap (λ (v : HeldLeases). v.skew) c.self.view_is)
    (ap (λ (v : HeldLeases). v.orders) c.self.view_is) q at
    c.args.until.0 c.extend.ensures
