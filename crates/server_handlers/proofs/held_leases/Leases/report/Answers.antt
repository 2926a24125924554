use Rattle.std.proofs.Common.{map, ap, sym, ◌∙◌, subst}
use Rattle.std.specs.FinMap as table
use Rattle.leases.specs.LeaseHeld.{counts_at}
use Rattle.protocol.specs.Tables.{kept_where, map_values}
use Rattle.protocol.specs.ServerStep.{asks_no_more, lease_line}
use Rattle.server_handlers.specs.Held.{AreHeld, HeldLeases, orders_of}
use Rattle.server_handlers.specs.Reported.{seen_all}
use Rattle.server_handlers.proofs.Moves.{within}
use Rattle.server_handlers.proofs.Told.{all_held, lines, told}
use Rattle.server_handlers.proofs.held_leases.Leases.report.Goals as goal

pub invariant_of-self : goal.invariant_of-self
invariant_of-self c =
    let own = c.self.inside in
    let le = within _ c.args.self.now c.args.now.0 c.self.view_is c.requires in
    let after = c.reported_all.ensures ∙ ap (seen_all c.args.now.0 own.table) (c.as_slice.ensures.value ∙ c.in_ok-handles.ensures) in
    subst (AreHeld own.skew_ms own.latest) (sym after) (all_held own.skew_ms own.latest c.args.now.0 le own.table (table.keys own.table) c.self.invariant)

pub returns-clause-lines : goal.returns-clause-lines
returns-clause-lines c =
    let own = c.self.inside in
    let le = within _ c.args.self.now c.args.now.0 c.self.view_is c.requires in
    c.in_ok-lines.ensures
    ∙ (lines own.skew_ms own.latest c.args.now.0 le own.table c.self.invariant
    ∙ ap (λ (v : HeldLeases). map lease_line (table.entries (kept_where (λ e. counts_at v.skew e.1.held c.args.now.0) v.orders))) c.self.view_is)

pub returns-clause-after : goal.returns-clause-after
returns-clause-after c =
    let own = c.self.inside in
    let le = within _ c.args.self.now c.args.now.0 c.self.view_is c.requires in
    ap (λ x. orders_of x) (c.reported_all.ensures ∙ ap (seen_all c.args.now.0 own.table) (c.as_slice.ensures.value ∙ c.in_ok-handles.ensures))
    ∙ (told own.skew_ms own.latest c.args.now.0 le own.table c.self.invariant
    ∙ ap (λ (v : HeldLeases). map_values asks_no_more (kept_where (λ e. counts_at v.skew e.1.held c.args.now.0) v.orders)) c.self.view_is)
