use Rattle.std.proofs.Common.{refl, ◌∙◌}
use Rattle.cell_journal.proofs.WriterSteps.{waits_still, writes_waiting}
use Rattle.cell_journal.proofs.journal_park.park.Goals as goal

pub loop-init : goal.loop-init
loop-init g c = record { table = refl; waits = waits_still c.args.writer.now.me c.args.writer.now.me c.requires.none refl }

pub try_park-requires : goal.try_park-requires
try_park-requires g c = record {
  shared = (c.requires.shared.0, c.requires.shared.1, c.loop.invariant.table ∙ c.requires.shared.2);
  none = c.loop.invariant.waits.free;
  writes = (c.requires.writes.0, writes_waiting c.args.writer.now.me.0 c.loop.writer.me c.requires.writes.0 c.loop.invariant.waits c.requires.writes.1);
}
