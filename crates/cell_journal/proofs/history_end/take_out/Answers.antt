use Rattle.std.proofs.Common.{◌≡◌, Some}
use Rattle.cell_journal.proofs.Lending.{lends}
use Rattle.cell_journal.proofs.history_end.take_out.Goals as goal

pub exchange-requires : goal.exchange-requires
exchange-requires c = let h = c.requires.has in (c.requires.shared, (Some h.0, lends c.args.writer.now.me.1 h.0 h.1))
