use Rattle.std.proofs.Common.{sym, ap, ◌∙◌}
use Rattle.cell_seats.specs.Seats.{SeatState}
use Rattle.cell_run.specs.Cells.{CellState}
use Rattle.tests_live.proofs.resuming.new_seated.Goals as goal

pub invariant_of-seated : goal.invariant_of-seated
invariant_of-seated g c =
    record { of = ap (λ (s : SeatState). s.cell.name) c.in-Ok.ensures.seat ∙ sym (ap (λ (x : CellState). x.of.name) c.in-Ok.ensures.ok.1) }
