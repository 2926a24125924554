use Rattle.std.proofs.Common.{◌≡◌, arith}
use mathlib.Core.Option.{none}
use Rattle.atomic_table.specs.Table.{step}
use Rattle.cell_journal.proofs.Keeping.{takes_step}
use Rattle.cell_journal.proofs.journal_steps.take.Goals as goal

pub compare_exchange-requires : goal.compare_exchange-requires
compare_exchange-requires c =
    let b = c.requires.shared in
    let p = c.args.writer.now in
    let t = c.args.shared.now.table_id in
    let st = step t.slots 0 0 c.args.word none in
    (b.2, omega (arith, b.0), rw c.requires.none (takes_step c.args.shared.now.key t.slots p.id p.me.0 c.args.word st c.requires.writes.0 c.requires.word c.requires.writes.1))
