use Rattle.std.proofs.Common.{◌≡◌, arith, ap, ◌∙◌}
use mathlib.Core.Option.{none}
use Rattle.atomic_table.specs.Table.{step}
use Rattle.cell_journal.specs.Rules.{gave}
use Rattle.cell_journal.proofs.Keeping.{gives_same}
use Rattle.cell_journal.proofs.journal_steps.give_back.Goals as goal

pub swap-requires : goal.swap-requires
swap-requires c =
    let b = c.requires.shared in
    let p = c.args.writer.now in
    let t = c.args.shared.now.table_id in
    let h = c.requires.has in
    (b.2, omega (arith, b.0), rw h.1 (gives_same c.args.shared.now.key t.slots p.id p.me.0 h.0 (step t.slots 0 0 0 none) c.requires.writes.0 b.1 c.requires.writes.1 h.2))
