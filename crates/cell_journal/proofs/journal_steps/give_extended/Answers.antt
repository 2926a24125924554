use Rattle.std.proofs.Common.{◌≡◌, arith}
use mathlib.Core.Option.{none}
use Rattle.atomic_table.specs.Table.{step}
use Rattle.cell_journal.proofs.Keeping.{gives_step}
use Rattle.cell_journal.proofs.journal_steps.give_extended.Goals as goal

pub swap-requires : goal.swap-requires
swap-requires c =
    let b = c.requires.shared in
    let p = c.args.writer.now in
    let t = c.args.shared.now.table_id in
    let h = c.requires.has in
    (b.2, omega (arith, b.0), rw h.1 (gives_step c.args.shared.now.key t.slots p.id p.me.0 h.0 h.2.0 (step t.slots 0 0 0 none) b.1 h.2.1))
