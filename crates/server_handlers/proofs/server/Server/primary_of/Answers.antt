use Rattle.std.proofs.Common.{ap, sym, ◌∙◌}
use Rattle.std.specs.FinMap as map
use Rattle.protocol.specs.Server.{ServerState}
use Rattle.server_handlers.specs.Standing.{HeldServerState}
use Rattle.server_handlers.proofs.Counting.{counted_by, counting_held}
use Rattle.server_handlers.proofs.server.Server.primary_of.Goals as goal

pub returns-clause-primary : goal.returns-clause-primary
returns-clause-primary g c =
    let i = c.self.inside in
    c.counting.ensures ∙ counted_by c.args.self.now.state i.leases.skew i.config.skew_ms i.clock c.args.version.0 c.args.handle.0 i.leases.orders c.self.invariant.5
    (ap (λ (x : HeldServerState). x.state.config.skew_ms) c.self.view_is) (ap (λ (x : HeldServerState). x.state.now) c.self.view_is) (ap (λ (x : HeldServerState). x.state.leases) c.self.view_is)

pub returns-clause-counts : goal.returns-clause-counts
returns-clause-counts g c = λ p e.
    let i = c.self.inside in
    let s : ServerState = c.args.self.now.state in
    counting_held s c.args.version.0 (map.get s.leases c.args.handle.0) p
    (sym (c.counting.ensures ∙ counted_by s i.leases.skew i.config.skew_ms i.clock c.args.version.0 c.args.handle.0 i.leases.orders c.self.invariant.5
    (ap (λ (x : HeldServerState). x.state.config.skew_ms) c.self.view_is) (ap (λ (x : HeldServerState). x.state.now) c.self.view_is) (ap (λ (x : HeldServerState). x.state.leases) c.self.view_is))
    ∙ e)
