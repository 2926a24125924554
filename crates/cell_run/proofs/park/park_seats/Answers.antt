use Rattle.std.proofs.Common.{◌≡◌, ◌++◌, [], ◌∷◌, List, length, append_assoc, sym, ap, subst, ◌∙◌, arith, rules}
use Rattle.std.specs.Prelude.{All, IfSome, map}
use Rattle.std.specs.Vec.Iter.{into_iter_items}
use Rattle.std.proofs.lemmas.List.{map-append}
use Rattle.std.proofs.lemmas.List.Elements.{All-push}
use Rattle.cell_seats.specs.Seats.{SeatState}
use Rattle.running_nodes.specs.ParkedSeats.{ParkedSeatState}
use Rattle.cell_run.proofs.park.park_seats.Goals as goal

pub loop-seat-preserved : goal.loop-seat-preserved
loop-seat-preserved g c =
    let was = c.loop-seat.parked.items in
    let one = c.of.result in
    let rest = into_iter_items c.next.new.self in
    let more : into_iter_items c.loop-seat.seat-iterator ≡ c.in-Some.seat ∷ rest = search rules in
    let before : List SeatState = map (λ (p : ParkedSeatState). p.seat) was in
    let here : before ++ one.seat ∷ rest ≡ before ++ c.in-Some.seat ∷ rest = ap (λ (s : SeatState). before ++ s ∷ rest) c.of.ensures.seat in
    record {
      all = ap (λ (l : List ParkedSeatState). map (λ p. p.seat) l ++ rest) c.push_reserved.ensures.items
          ∙ (ap (λ (l : List SeatState). l ++ rest) (map-append (λ (p : ParkedSeatState). p.seat) was (one ∷ []))
          ∙ (append_assoc before (one.seat ∷ []) rest ∙ (here ∙ (ap (λ (l : List SeatState). before ++ l) (sym more) ∙ c.loop-seat.invariant.all))));
      saw = subst (All (λ (p : ParkedSeatState). IfSome p.saw (λ k. k ≡ c.args.count))) (sym c.push_reserved.ensures.items)
          (All-push (λ (p : ParkedSeatState). IfSome p.saw (λ k. k ≡ c.args.count)) was one c.loop-seat.invariant.saw c.of.ensures.saw);
      room = omega (arith, c.push_reserved.ensures.len, c.push_reserved.ensures.capacity, c.loop-seat.invariant.room, ap length more);
    }
