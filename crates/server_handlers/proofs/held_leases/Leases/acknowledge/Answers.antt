use Rattle.std.proofs.Common.{ap, ◌∙◌}
use Rattle.server_handlers.specs.Held.{HeldLeases}
use Rattle.server_handlers.proofs.Moves.{acknowledges_one, keeps_acknowledged, settles_as, within}
use Rattle.server_handlers.proofs.held_leases.Leases.acknowledge.Goals as goal

pub invariant_of-self : goal.invariant_of-self
invariant_of-self c =
    let own = c.self.inside in
    let le = within _ c.args.self.now c.args.now.0 c.self.view_is c.requires in
    keeps_acknowledged own.skew_ms own.latest own.table _ c.args.handle.0 c.self.invariant c.args.now.0 c.args.server.0 c.args.serial.0 le c.acknowledge.ensures.after

pub returns-clause-after : goal.returns-clause-after
returns-clause-after c = λ q at counts.
    let v = c.args.self.now in
    let own = c.self.inside in
    let le = within _ c.args.self.now c.args.now.0 c.self.view_is c.requires in
    acknowledges_one own.skew_ms own.latest c.args.now.0 v.skew own.table _ c.args.handle.0 v.orders c.self.invariant le (ap (λ (v : HeldLeases). v.skew) c.self.view_is)
    (ap (λ (v : HeldLeases). v.orders) c.self.view_is) q at
    c.args.server.0 c.args.serial.0 c.acknowledge.ensures.after counts

pub returns-clause-answer : goal.returns-clause-answer
returns-clause-answer c = λ q at counts.
    let v = c.args.self.now in
    let own = c.self.inside in
    let le = within _ c.args.self.now c.args.now.0 c.self.view_is c.requires in
    c.acknowledge.ensures.answer
    ∙ settles_as own.skew_ms own.latest c.args.now.0 v.skew own.table own.table c.args.handle.0 v.orders c.self.invariant le (ap (λ (v : HeldLeases). v.skew) c.self.view_is)
    (ap (λ (v : HeldLeases). v.orders) c.self.view_is) q at
    c.args.server.0 c.args.serial.0 counts
