use Rattle.std.proofs.Common.{◌≡◌, None, sym, ap, subst, ◌∙◌}
use Rattle.gfs_types.specs.Settings.{first_out_of_range}
use Rattle.gfs_types.specs.declared.config.Config.{Config}
use Rattle.cell_journal.specs.Identity.{Identity}
use Rattle.cell_seats.specs.Journals.{joined, AreBehind}
use Rattle.cell_seats.proofs.RegisteredNodes.{writes_some}
use Rattle.cell_seats.proofs.node_registry.NodeRegistry.close.Goals as goal

pub close-requires-clause-writes : goal.close-requires-clause-writes
close-requires-clause-writes g c =
    let d = c.args.self in
    writes_some d.config d.servers d.registered d.writer.me d.registers

pub new-requires-clause-range : goal.new-requires-clause-range
new-requires-clause-range g c =
    let d = c.args.self in
    subst (λ (x : Config). first_out_of_range x ≡ None) (sym (ap (λ (i : Identity). i.config) c.close.ensures.cell ∙ d.registers.config_is)) d.in_range

pub new-requires-clause-behind : goal.new-requires-clause-behind
new-requires-clause-behind g c = subst (λ (i : Identity). AreBehind i (joined c.args.base.items)) (sym c.close.ensures.cell) c.requires.behind
