use Rattle.std.proofs.Common.{◌≡◌, ◌+◌, None, false, sym, subst, ◌∙◌, arith}
use Rattle.gfs_types.specs.Settings.{first_out_of_range}
use Rattle.gfs_types.specs.declared.config.Config.{Config}
use Rattle.gfs_types.specs.declared.ids.Node.TheVariants.{Client}
use Rattle.cell_journal.specs.Identity.{Identity}
use Rattle.cell_journal.specs.WholeHistories.{is_retired}
use Rattle.cell_run.proofs.NewSeats.{new_seat}
use Rattle.cell_run.proofs.cell.Cell.client.Goals as goal

pub client_slot-requires-clause-goes_on : goal.client_slot-requires-clause-goes_on
client_slot-requires-clause-goes_on c =
    let cell = c.self.inside in
    subst (λ (i : Identity). is_retired i (Client (record { 0 = cell.made + 1 })) ≡ false) (sym cell.registry.cell_is) (c.self.invariant.0.fresh (cell.made + 1) (omega arith)).1

pub client_slot-requires-clause-unused : goal.client_slot-requires-clause-unused
client_slot-requires-clause-unused c = (c.self.invariant.0.fresh (c.self.inside.made + 1) (omega arith)).0

pub new-requires : goal.new-requires
new-requires c =
    let registry = c.self.inside.registry in
    new_seat _ registry.writer.me.0 c.in-Ok.slot.view c.in-Ok.slot.node c.again.result c.in-Ok.ensures.slot (c.again.ensures ∙ c.self.invariant.0.nothing_is)
    (subst (λ (x : Config). first_out_of_range x ≡ None) (sym registry.registers.config_is) registry.in_range)
