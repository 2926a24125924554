use Rattle.std.proofs.Common.{◌≡◌, arith}
use mathlib.Core.Option.{none}
use Rattle.atomic_table.specs.Table.{step}
use Rattle.cell_journal.proofs.Keeping.{marks_step}
use Rattle.cell_journal.proofs.journal_steps.mark.Goals as goal

pub compare_exchange-requires : goal.compare_exchange-requires
compare_exchange-requires c =
    let b = c.requires.shared in
    let p = c.args.writer.now in
    let t = c.args.shared.now.table_id in
    let st = step t.slots 0 c.args.old c.args.new none in
    (b.2, omega (arith, b.0), marks_step c.args.shared.now.key t.slots p.id c.args.old c.args.new p.me.0 p.me.1 st c.requires.words.0 c.requires.words.1)
