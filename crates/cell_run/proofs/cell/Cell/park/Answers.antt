use Rattle.std.proofs.Common.{◌≡◌, sym, subst}
use Rattle.std.specs.Prelude.{All}
use Rattle.cell_journal.specs.Identity.{Identity}
use Rattle.cell_seats.specs.Seats.{SeatState}
use Rattle.cell_run.proofs.cell.Cell.park.Goals as goal

pub park_in-requires-clause-named : goal.park_in-requires-clause-named
park_in-requires-clause-named g c = subst (λ (i : Identity). All (λ (s : SeatState). s.cell.name ≡ i.name) c.args.seats.items) (sym c.ended-locks.ensures.cell.0) c.requires
