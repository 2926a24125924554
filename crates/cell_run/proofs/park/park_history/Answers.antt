use Rattle.std.proofs.Common.{sym, subst}
use Rattle.cell_journal.specs.Identity.{Identity}
use Rattle.cell_seats.specs.Journals.{joined, AreBehind}
use Rattle.cell_run.proofs.Parking.{beside_history}
use Rattle.cell_run.proofs.park.park_history.Goals as goal

pub returns-clause-base : goal.returns-clause-base
returns-clause-base g c =
    let base = c.requires.base in
    (base.0, subst (λ (i : Identity). AreBehind i (joined c.args.cell.base.items)) (sym c.park.ensures.parked.cell_is) base.1)

pub returns-clause-beside : goal.returns-clause-beside
returns-clause-beside g c =
    let ended = c.requires in
    let registry = c.args.cell.registry in
    beside_history registry.config registry.servers registry.registered c.args.cell.made _ registry.writer.me c.args.cell.nothing _ registry.registers c.park.ensures.parked ended.least ended.nothing ended.made ended.next ended.fresh
    c.park.ensures.fresh
