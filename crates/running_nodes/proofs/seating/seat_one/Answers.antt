use Rattle.std.proofs.Common.{ap, subst, ◌∙◌}
use Rattle.std.specs.Prelude.{Option, IfSome}
use Rattle.cell_seats.specs.ParkedNodes.{ParkedNodeState, IsClientOf}
use Rattle.cell_seats.specs.Seats.{SeatState}
use Rattle.running_nodes.proofs.Anew.{saw_count, client_over, starts_over}
use Rattle.running_nodes.proofs.seating.seat_one.Goals as goal

pub go_over-requires-clause-client : goal.go_over-requires-clause-client
go_over-requires-clause-client g c = subst (λ (o : Option ParkedNodeState). IfSome o (IsClientOf c.into_parts-seat.result.0)) c.in-Some.is c.into_parts-seat.ensures.client

pub go_over-requires-clause-named : goal.go_over-requires-clause-named
go_over-requires-clause-named g c = ap (λ (s : SeatState). s.cell.name) c.into_parts-seat.ensures.seat ∙ c.requires.seat.named

pub go_over-requires-clause-count : goal.go_over-requires-clause-count
go_over-requires-clause-count g c = saw_count c.args.parked c.into_parts-seat.result.1 c.in-Some.client _ c.into_parts-seat.ensures.saw c.in-Some.is c.requires.seat.saw

pub start_anew-requires-clause-named : goal.start_anew-requires-clause-named
start_anew-requires-clause-named g c = ap (λ (s : SeatState). s.cell.name) c.into_parts-seat.ensures.seat ∙ c.requires.seat.named

pub returns-in-Some-clause-over : goal.returns-in-Some-clause-over
returns-in-Some-clause-over g c = client_over _ c.args.parked _ _ c.into_parts-seat.result.1 c.in-Some.client c.into_parts-seat.ensures.seat c.into_parts-seat.ensures.saw c.in-Some.is c.go_over.ensures.over

pub returns-in-None-clause-over : goal.returns-in-None-clause-over
returns-in-None-clause-over g c = starts_over c.args.parked _ _ c.into_parts-seat.result.1 _ c.into_parts-seat.ensures.seat c.into_parts-seat.ensures.saw c.in-None.is c.start_anew.ensures.over
