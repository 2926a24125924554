use Rattle.std.proofs.Common.{◌≡◌, List, sym, subst}
use Rattle.std.specs.Prelude.{All, IfOk, IfErr}
use Rattle.cell_seats.specs.Seats.{SeatState}
use Rattle.cell_run.specs.Parked.{IsParked, IsClosedSo}
use Rattle.cell_nodes.proofs.NewLocks.{locks_fit}
use Rattle.cell_run.proofs.park.park_in.Goals as goal

pub take_nodes-requires-clause-servers : goal.take_nodes-requires-clause-servers
take_nodes-requires-clause-servers g c = locks_fit _ _ _ _ c.requires.locks c.requires.servers

pub park_cell-requires-clause-named : goal.park_cell-requires-clause-named
park_cell-requires-clause-named g c = subst (All (λ (s : SeatState). s.cell.name ≡ c.args.cell.registry.writer.me.0.of.name)) (sym c.take_nodes.ensures.seats) c.requires.named

pub returns-clause-parked : goal.returns-clause-parked
returns-clause-parked g c =
    subst (λ (seats : List SeatState). IfOk c.park_cell.result (IsParked c.args.cell.registry.writer.me.0.of c.args.cell.made seats)) c.take_nodes.ensures.seats c.park_cell.ensures.parked

pub returns-clause-closed : goal.returns-clause-closed
returns-clause-closed g c =
    subst (λ (seats : List SeatState). IfErr c.park_cell.result (λ f. IsClosedSo c.args.cell.registry.writer.me.0.of seats f.0.now f.1.items)) c.take_nodes.ensures.seats c.park_cell.ensures.closed
