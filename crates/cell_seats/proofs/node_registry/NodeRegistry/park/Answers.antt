use Rattle.std.proofs.Common.{◌≡◌, None, sym, ap, subst, ◌∙◌}
use Rattle.gfs_types.specs.Settings.{first_out_of_range}
use Rattle.gfs_types.specs.declared.config.Config.{Config}
use Rattle.cell_journal.specs.Identity.{Identity}
use Rattle.cell_seats.proofs.RegisteredNodes.{writes_some, writes_for}
use Rattle.cell_seats.proofs.node_registry.NodeRegistry.park.Goals as goal

pub park-requires-clause-writes : goal.park-requires-clause-writes
park-requires-clause-writes g c =
    let d = c.args.self in
    writes_some d.config d.servers d.registered d.writer.me d.registers

pub returns-clause-range : goal.returns-clause-range
returns-clause-range g c =
    let d = c.args.self in
    subst (λ (x : Config). first_out_of_range x ≡ None) (sym (ap (λ (i : Identity). i.config) c.park.ensures.parked.cell_is ∙ d.registers.config_is)) d.in_range

pub returns-clause-fresh : goal.returns-clause-fresh
returns-clause-fresh g c =
    let d = c.args.self in
    λ n past. c.park.ensures.own n (writes_for d.config d.servers d.registered d.writer.me d.registers n past) ∙ d.registers.mine
