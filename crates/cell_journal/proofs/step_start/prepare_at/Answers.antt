use Rattle.std.proofs.Common.{Some}
use Rattle.cell_journal.proofs.Lending.{lends, lent}
use Rattle.cell_journal.proofs.WriterSteps.{prepares}
use Rattle.cell_journal.proofs.step_start.prepare_at.Goals as goal

pub slot_mut-requires : goal.slot_mut-requires
slot_mut-requires c = let h = c.requires.has in (c.requires.shared, (Some h.0, lends c.args.writer.now.me.1 h.0 h.1))

pub prepare_in-requires : goal.prepare_in-requires
prepare_in-requires c = let h = c.requires.has in (h.0, lent c.args.writer.now.me.1 c.slot_mut.result.now h.0 c.slot_mut.ensures.value h.1)

pub returns-clause-prepares : goal.returns-clause-prepares
returns-clause-prepares c = λ y has.
    prepares c.args.writer.now.me.0 c.args.writer.now.me.1 y c.args.node c.args.number c.slot_mut.result.now c.prepare_in.new.slot c.prepare_in.result c.slot_mut.ensures.value has
    c.prepare_in.ensures.ok c.prepare_in.ensures.err
