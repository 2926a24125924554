use Rattle.std.proofs.Common.{Some, refl}
use Rattle.cell_journal.proofs.Lending.{lends, lent}
use Rattle.cell_journal.proofs.WriterSteps.{put_back}
use Rattle.cell_journal.proofs.history_look.look_at.Goals as goal

pub slot_mut-requires : goal.slot_mut-requires
slot_mut-requires c = let h = c.requires.has in (c.requires.shared, (Some h.0, lends c.args.writer.now.me.1 h.0 h.1))

pub look_in-requires : goal.look_in-requires
look_in-requires c = let h = c.requires.has in (h.0, lent c.args.writer.now.me.1 c.slot_mut.result.now h.0 c.slot_mut.ensures.value h.1)

pub returns : goal.returns
returns c = record {
  same = (refl, refl, put_back c.args.writer.now.me.0 c.args.writer.now.me.1 c.slot_mut.result.now c.look_in.new.slot c.slot_mut.ensures.value c.look_in.ensures.same);
  cell = λ y has. c.look_in.ensures.cell y (lent c.args.writer.now.me.1 c.slot_mut.result.now y c.slot_mut.ensures.value has);
  beginning = λ y has. c.look_in.ensures.beginning y (lent c.args.writer.now.me.1 c.slot_mut.result.now y c.slot_mut.ensures.value has);
  count = λ y has. c.look_in.ensures.count y (lent c.args.writer.now.me.1 c.slot_mut.result.now y c.slot_mut.ensures.value has);
}
