use Rattle.std.proofs.Common.{◌+◌, refl}
use Rattle.cell_seats.proofs.EarlierJournals.{restart_more}
use Rattle.cell_seats.proofs.journal.next_restarts.Goals as goal

pub returns-clause-restarts : goal.returns-clause-restarts
returns-clause-restarts c = λ yes. restart_more c.args.history.now.entries c.args.before (c.args.before + 1) refl (c.restarts_at.ensures yes) c.requires
