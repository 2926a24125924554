use Rattle.std.proofs.Common.{Some, refl}
use Rattle.cell_journal.proofs.Lending.{lends, lent}
use Rattle.cell_journal.proofs.WriterSteps.{put_back}
use Rattle.cell_journal.proofs.journal_park.is_ready_at.Goals as goal

pub slot_mut-requires : goal.slot_mut-requires
slot_mut-requires c = let h = c.requires.has in (c.requires.shared, (Some h.0, lends c.args.writer.now.me.1 h.0 h.1))

pub returns : goal.returns
returns c = record {
  same = (refl, refl, put_back c.args.writer.now.me.0 c.args.writer.now.me.1 c.slot_mut.result.now c.is_ready.new.slot c.slot_mut.ensures.value c.is_ready.ensures.same);
  ready = λ yes y has. c.is_ready.ensures.ready yes y (lent c.args.writer.now.me.1 c.slot_mut.result.now y c.slot_mut.ensures.value has);
}
