use Rattle.std.proofs.Common.{sym, subst, ◌≡◌, ◌∙◌}
use Rattle.std.proofs.lemmas.Option.{IfSome_then}
use Rattle.cell_seats.specs.Seats.{SeatState, seat_state, is_some, IsSeat}
use Rattle.cell_seats.specs.Slots.{SlotState}
use Rattle.cell_seats.specs.ParkedNodes.{ParkedNodeState, parked_node, IsClientOf}
use Rattle.cell_seats.specs.Seen.{clients_in}
use Rattle.cell_seats.proofs.ParkedSeats.{sits_later, client_of}
use Rattle.cell_seats.proofs.seat.Seat.park.Goals as goal

pub invariant_of-self : goal.invariant_of-self
invariant_of-self g c =
    let was = c.self.inside in
    sits_later was.slot.node c.look_until.new.slot.node (clients_in 0 was.earlier) was.slot.view c.look_until.new.slot.view was.view was.count was.lost was.waits c.look_until.ensures.node c.look_until.ensures.later
    c.self.invariant

pub invariant_of-self-2 : goal.invariant_of-self-2
invariant_of-self-2 g c =
    let was = c.self.inside in
    let now = c.look_until.new.slot in
    subst (λ (s : SlotState). IsSeat s.node (clients_in 0 was.earlier) s.view was.view was.count was.lost was.waits) (sym c.of.ensures.same)
    (sits_later was.slot.node now.node (clients_in 0 was.earlier) was.slot.view now.view was.view was.count was.lost was.waits c.look_until.ensures.node c.look_until.ensures.later c.self.invariant)

pub returns-clause-client : goal.returns-clause-client
returns-clause-client g c =
    let was = c.self.inside in
    let now = c.look_until.new.slot in
    let look = c.in_ok-look.look in
    let earlier = clients_in 0 was.earlier in
    let same : seat_state now.node earlier now.view.of was.view.items (is_some was.lost) was.waits ≡ c.args.self.now =
    (λ j. seat_state (c.look_until.ensures.node j) earlier (c.look_until.ensures.later.of j) was.view.items (is_some was.lost) was.waits) ∙ c.self.view_is in
    let sits = sits_later was.slot.node now.node earlier was.slot.view now.view was.view was.count was.lost was.waits c.look_until.ensures.node c.look_until.ensures.later c.self.invariant in
    let client = subst (λ (s : SeatState). IsClientOf s (parked_node look.cell now.node look.beginning)) same
    (client_of now.node earlier now.view was.view was.count was.lost was.waits look sits c.in_ok-look.ensures.looked) in
    IfSome_then c.of.result c.of.ensures.some (λ p is. subst (IsClientOf c.args.self.now) (sym is) client)
