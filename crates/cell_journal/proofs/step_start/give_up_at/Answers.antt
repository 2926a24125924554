use Rattle.std.proofs.Common.{◌-◌, Some, ap}
use Rattle.cell_journal.specs.Identity.{filled}
use Rattle.cell_journal.proofs.Lending.{lends, lent, left}
use Rattle.cell_journal.proofs.step_start.give_up_at.Goals as goal

pub slot_mut-requires : goal.slot_mut-requires
slot_mut-requires c = let h = c.requires.has in (c.requires.shared, (Some h.0, lends c.args.writer.now.me.1 h.0 h.1))

pub give_up_in-requires : goal.give_up_in-requires
give_up_in-requires c = let h = c.requires.has in (h.0, lent c.args.writer.now.me.1 c.slot_mut.result.now h.0 c.slot_mut.ensures.value h.1, h.2)

pub returns-clause-gives : goal.returns-clause-gives
returns-clause-gives c = λ y has.
    ap (λ l. (c.args.writer.now.me.0, l)) (left c.args.writer.now.me.1 c.give_up_in.new.slot y (filled y.cell y.entries (y.reserved - 1)) has
    (c.give_up_in.ensures y (lent c.args.writer.now.me.1 c.slot_mut.result.now y c.slot_mut.ensures.value has)))
