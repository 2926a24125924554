use Rattle.std.proofs.Common.{◌≡◌, ◌+◌, ◌≤◌, ◌++◌, [], ◌∷◌, List, length, append_assoc, sym, ap, subst, ◌∙◌, arith, rules}
use Rattle.std.specs.Prelude.{All, vec_len}
use Rattle.std.specs.Vec.Iter.{into_iter_items, into_iter_len}
use Rattle.std.proofs.lemmas.List.{append-nil, nil_from_length}
use Rattle.std.proofs.lemmas.List.Elements.{All-head, All-tail}
use Rattle.cell_journal.specs.Identity.{Identity}
use Rattle.cell_seats.specs.Seats.{SeatState, GoesOver}
use Rattle.running_nodes.specs.Seatings.{AllGoOver, IsSeatOf}
use Rattle.running_nodes.specs.ParkedSeats.{ParkedSeatState}
use Rattle.running_nodes.proofs.Anew.{one_over}
use Rattle.running_nodes.proofs.seating.seat_all.Goals as goal

pub loop-seat-init : goal.loop-seat-init
loop-seat-init g c =
    let items : into_iter_items c.into_iter-seat-iterator.result ≡ c.args.parked.items = search rules in
    let count : into_iter_len c.into_iter-seat-iterator.result ≡ vec_len c.args.parked = search rules in
    record {
      ready = c.requires.ready;
      cell = search rules;
      count = omega (arith, count, ap length items, c.args.parked.ok.0);
      left = search rules;
      over = ([], search rules, subst (λ (news : List SeatState). AllGoOver c.args.seating.now.cell [] news) (sym c.requires.none) tt);
      room = search rules;
    }

pub seat_one-requires-clause-seat : goal.seat_one-requires-clause-seat
seat_one-requires-clause-seat g c =
    let of = c.args.seating.now.cell in
    let more : into_iter_items c.loop-seat.seat-iterator ≡ c.in-Some.seat ∷ into_iter_items c.next.new.self = search rules in
    subst (λ (i : Identity). IsSeatOf i (length i.base) c.in-Some.seat) (sym c.loop-seat.invariant.cell)
    (All-head (IsSeatOf of (length of.base)) c.in-Some.seat (into_iter_items c.next.new.self) (subst (All (IsSeatOf of (length of.base))) more c.loop-seat.invariant.left))

pub loop-seat-preserved : goal.loop-seat-preserved
loop-seat-preserved g c =
    let of = c.args.seating.now.cell in
    let one = c.in-Some.seat in
    let rest = into_iter_items c.next.new.self in
    let more : into_iter_items c.loop-seat.seat-iterator ≡ one ∷ rest = search rules in
    let was = c.loop-seat.invariant.over in
    let step : into_iter_len c.next.new.self + 1 ≡ into_iter_len c.loop-seat.seat-iterator = search rules in
    let over : GoesOver of one.saw one.seat c.seat_one.result = subst (λ (i : Identity). GoesOver i one.saw one.seat c.seat_one.result) c.loop-seat.invariant.cell c.seat_one.ensures.over in
    record {
      ready = c.seat_one.ensures.ready;
      cell = c.seat_one.ensures.cell ∙ c.loop-seat.invariant.cell;
      count = omega (arith, step, c.loop-seat.invariant.count, ap length more);
      left = All-tail (IsSeatOf of (length of.base)) one rest (subst (All (IsSeatOf of (length of.base))) more c.loop-seat.invariant.left);
      over = (was.0 ++ one ∷ [], append_assoc was.0 (one ∷ []) rest ∙ (ap (λ (l : List ParkedSeatState). was.0 ++ l) (sym more) ∙ was.1), subst (AllGoOver of (was.0 ++ one ∷ [])) (sym c.push_reserved.ensures.items) (one_over of was.0 c.loop-seat.seats.items one c.seat_one.result was.2 over));
      room = omega (arith, c.push_reserved.ensures.len, c.push_reserved.ensures.capacity, c.loop-seat.invariant.room, ap length more);
    }

pub returns : goal.returns
returns g c =
    let was = c.loop-seat.invariant.over in
    let zero : into_iter_len c.loop-seat.seat-iterator ≡ 0 = search rules in
    let none : into_iter_items c.loop-seat.seat-iterator ≡ [] = nil_from_length (into_iter_items c.loop-seat.seat-iterator) (omega (arith, zero, c.loop-seat.invariant.count)) in
    subst (λ (olds : List ParkedSeatState). AllGoOver c.args.seating.now.cell olds c.loop-seat.seats.items) (sym (append-nil was.0) ∙ (ap (λ (l : List ParkedSeatState). was.0 ++ l) (sym none) ∙ was.1)) was.2
