use Rattle.std.proofs.Common.{List, sym, ap, subst, ◌∙◌}
use Rattle.gfs_types.specs.declared.ids.Node.{Node}
use Rattle.protocol_journal.specs.Journal.{Entry}
use Rattle.cell_journal.specs.Log.{Listed}
use Rattle.cell_seats.specs.ParkedNodes.{SitsOn}
use Rattle.cell_seats.specs.Seats.{SeatState}
use Rattle.cell_seats.proofs.Flags.{no_clients}
use Rattle.cell_seats.proofs.GoingOver.{anew_here, goes_anew}
use Rattle.running_nodes.proofs.GoingSeats.{begins_base}
use Rattle.running_nodes.proofs.seating.start_anew.Goals as goal

pub meet-requires : goal.meet-requires
meet-requires g c = ap (λ (l : Listed Entry). l.name) c.view.ensures ∙ (c.requires.named ∙ sym (ap (λ (l : Listed Entry). l.name) c.base.ensures))

pub sit-requires : goal.sit-requires
sit-requires g c =
    let seating = c.args.seating.now in
    let ready = c.requires.ready in
    let new = c.new_client-slot.ensures in
    let slot = c.new_client-slot.result.slot in
    let begins =
    begins_base c.args.seat seating.cell c.view.result.now c.base.result.now c.seen.result seating.base_len c.view.ensures c.base.ensures c.seen.ensures.count ready.base_is (c.is_at_most.ensures c.hold.ensures) c.meet.ensures
    in
    subst (λ (ms : List Node). SitsOn c.args.seat slot.node ms slot.view) (sym no_clients)
    (anew_here seating.cell slot.view new.slot.0 c.args.seat slot.node new.slot.1 begins ready.goes_on c.requires.named new.unused)

pub returns-clause-over : goal.returns-clause-over
returns-clause-over g c =
    let is = c.sit.ensures in
    goes_anew _ _ _ (ap (λ (s : SeatState). s.cell) is ∙ c.new_client-slot.ensures.slot.0) (sym c.requires.named) (ap (λ (s : SeatState). s.seen) is) (ap (λ (s : SeatState). s.is_lost) is) (ap (λ (s : SeatState). s.waits) is)
    (ap (λ (s : SeatState). s.earlier) is ∙ no_clients)
