use Rattle.std.proofs.Common.{ap, ◌∙◌}
use Rattle.server_handlers.specs.Held.{HeldLeases}
use Rattle.primary_order.specs.PrimaryOrder.{place_of}
use Rattle.server_handlers.proofs.Lent.{either, if_ok, on_ok}
use Rattle.server_handlers.proofs.Moves.{accepts_as, accepts_one, keeps_accepted, keeps_seen, within}
use Rattle.server_handlers.proofs.held_leases.Leases.accept.Goals as goal

pub invariant_of-self : goal.invariant_of-self
invariant_of-self c =
    let own = c.self.inside in
    let le = within _ c.args.self.now c.args.now.0 c.self.view_is c.requires in
    either c.accept.result c.accept.ensures.ok c.accept.ensures.err
    (λ e. keeps_accepted own.skew_ms own.latest own.table _ c.args.handle.0 c.self.invariant c.args.now.0 c.args.id (place_of c.args.mutation.now) le e)
    (λ e. keeps_seen own.skew_ms own.latest own.table _ c.args.handle.0 c.self.invariant c.args.now.0 le e)

pub returns-clause-after : goal.returns-clause-after
returns-clause-after c =
    let v = c.args.self.now in
    let own = c.self.inside in
    let le = within _ c.args.self.now c.args.now.0 c.self.view_is c.requires in
    on_ok c.accept.result (λ e q at counts is lt.
    accepts_one own.skew_ms own.latest c.args.now.0 v.skew own.table _ c.args.handle.0 v.orders c.self.invariant le (ap (λ (v : HeldLeases). v.skew) c.self.view_is)
    (ap (λ (v : HeldLeases). v.orders) c.self.view_is) q at
    c.args.id (place_of c.args.mutation.now) e counts is lt)
    c.accept.ensures.ok

pub returns-clause-serial : goal.returns-clause-serial
returns-clause-serial c =
    let v = c.args.self.now in
    let own = c.self.inside in
    let le = within _ c.args.self.now c.args.now.0 c.self.view_is c.requires in
    if_ok c.accept.result (λ serial e q at counts is lt.
    e ∙ accepts_as own.skew_ms own.latest c.args.now.0 v.skew own.table own.table c.args.handle.0 v.orders c.self.invariant le (ap (λ (v : HeldLeases). v.skew) c.self.view_is)
    (ap (λ (v : HeldLeases). v.orders) c.self.view_is) q at
    c.args.id counts is lt)
    c.accept.ensures.serial
