use Rattle.cell_seats.proofs.Sitting.{answered_here, sits, sits_still, loses}
use Rattle.cell_seats.specs.Seen.{clients_in}
use Rattle.cell_seats.proofs.seat.Seat.call.Goals as goal

pub returns-in-Ok-clause-ok : goal.returns-in-Ok-clause-ok
returns-in-Ok-clause-ok g c =
    let s = c.self.inside in
    let w = c.ask-answered.new.slot in
    let h = c.in-Ok.field-0 in
    answered_here c.args.self.now s.lost s.slot.node w.node (clients_in 0 s.earlier) s.slot.view w.view s.view h.beginning s.count h.count s.waits c.args.call h.answer c.self.view_is c.in_default.is
    c.ask-answered.ensures.node c.self.invariant c.ask-answered.ensures.further c.in-Ok.ensures.seen c.in-Ok.ensures.shows

pub invariant_of-self : goal.invariant_of-self
invariant_of-self g c =
    let s = c.self.inside in
    let w = c.ask-answered.new.slot in
    let h = c.in-Ok.field-0 in
    sits s.slot.node w.node (clients_in 0 s.earlier) s.slot.view w.view s.view h.beginning s.count h.count s.lost s.waits c.args.call h.answer c.ask-answered.ensures.node c.in_default.is c.self.invariant
    c.ask-answered.ensures.further c.in-Ok.ensures.seen c.in-Ok.ensures.shows

pub invariant_of-self-in-Err : goal.invariant_of-self-in-Err
invariant_of-self-in-Err g c =
    let s = c.self.inside in
    let w = c.ask-answered.new.slot in
    sits_still s.slot.node w.node (clients_in 0 s.earlier) s.slot.view w.view s.view s.count s.lost s.waits c.of_the_cell-own.result c.args.call c.in-Err.field-0 c.ask-answered.ensures.node c.in_default.is
    c.self.invariant c.ask-answered.ensures.further c.of_the_cell-own.ensures c.in-Err.ensures.err
