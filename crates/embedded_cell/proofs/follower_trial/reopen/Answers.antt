use Rattle.std.proofs.Common.{◌≡◌, sym, subst}
use Rattle.std.specs.Prelude.{All}
use Rattle.std.proofs.lemmas.List.Elements.{All-nil}
use Rattle.cell_seats.specs.Seats.{SeatState}
use Rattle.embedded_cell.proofs.follower_trial.reopen.Goals as goal

pub park-requires : goal.park-requires
park-requires g c =
    let named : SeatState → Type 0 = λ s. s.cell.name ≡ c.args.cell.of.name in
    subst (All named) (sym c.new.ensures.items) (All-nil named)
