use Rattle.std.proofs.Common.{sym}
use Rattle.cell_journal.proofs.Retained.{entry_is}
use Rattle.cell_seats.proofs.journal.restarts_at.Goals as goal

pub returns-in-Some : goal.returns-in-Some
returns-in-Some c = λ yes.
    let entry = c.in-Some.entry.now in
    let there = entry_is c.args.history.now.cell.retention c.args.history.now.entries c.args.place entry (sym c.in-Some.ensures) in
    (entry, there, c.is_restart_of.ensures.node yes, c.is_restart_of.ensures.cause yes)
