use Rattle.std.proofs.Common.{◌≡◌, arith}
use Rattle.cell_journal.proofs.Keeping.{splits_step}
use Rattle.cell_journal.proofs.journal_steps.next.Goals as goal

pub split_seat-requires : goal.split_seat-requires
split_seat-requires c =
    let b = c.requires.shared in
    (b.2, omega (arith, b.0), splits_step c.args.shared.now.key c.args.writer.now.id c.args.writer.now.me.0)
