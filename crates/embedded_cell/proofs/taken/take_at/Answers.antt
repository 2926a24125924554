use Rattle.std.proofs.Common.{◌+◌, ◌^◌, refl}
use Rattle.std.specs.Prelude.{◌%◌}
use Rattle.cell_journal.proofs.Begins.{prefix_self}
use Rattle.embedded_cell.proofs.Later.{none_here, one_here}
use Rattle.embedded_cell.proofs.taken.take_at.Goals as goal

pub returns-in_default-clause-stays : goal.returns-in_default-clause-stays
returns-in_default-clause-stays c = prefix_self c.args.taken.now.items

pub returns-in_default-clause-takes : goal.returns-in_default-clause-takes
returns-in_default-clause-takes c = none_here c.args.bytes.now c.args.offset c.args.place c.args.taken.now.items c.record_at.result c.record_at.ensures c.in_default.not-Some

pub returns-clause-stays : goal.returns-clause-stays
returns-clause-stays c = c.in_ok-take.ensures.stays

pub returns-clause-takes : goal.returns-clause-takes
returns-clause-takes c =
    one_here c.args.bytes.now c.args.offset c.args.place c.take.new.taken.items c.record_at.result c.record_at.ensures
    c.in-Some.id ((c.args.offset + c.args.place) % 2 ^ 64) c.in-Some.is refl c.in_ok-take.ensures.has
