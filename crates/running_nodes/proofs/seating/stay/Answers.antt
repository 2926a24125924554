use Rattle.std.proofs.Common.{sym, subst, ◌∙◌}
use Rattle.cell_seats.specs.ParkedNodes.{SitsOn}
use Rattle.cell_seats.specs.Seen.{clients_in}
use Rattle.cell_seats.specs.Slots.{SlotState}
use Rattle.cell_seats.proofs.GoingOver.{behind_at, stay_flags}
use Rattle.running_nodes.proofs.GoingSeats.{stayed_over}
use Rattle.running_nodes.proofs.seating.stay.Goals as goal

pub into_slot-requires-clause-node : goal.into_slot-requires-clause-node
into_slot-requires-clause-node g c = c.place_of-journal.ensures.node ∙ (c.name-node.ensures ∙ sym c.requires.client.node_is)

pub into_slot-requires-clause-behind : goal.into_slot-requires-clause-behind
into_slot-requires-clause-behind g c =
    let place = c.place_of-journal.ensures.place in
    behind_at c.args.seating.now.cell c.place_of-journal.result.journal.writer.me.0 place.of c.args.client place.mine c.requires.behind

pub sit-requires : goal.sit-requires
sit-requires g c =
    let seating = c.args.seating.now in
    let ready = c.requires.ready in
    let place = c.place_of-journal.ensures.place in
    subst (λ (x : SlotState). SitsOn c.args.seat x.node (clients_in 0 c.earlier-earlier.result) x.view) (sym c.into_slot.ensures)
    (stay_flags seating.cell c.place_of-journal.result.journal.writer.me.0 place.of c.args.seat c.args.client c.place_of-journal.result.journal.node c.earlier-earlier.result seating.retired place.mine c.requires.client c.requires.behind
    ready.goes_on c.requires.named c.requires.calm ready.retired_are (c.are_within.ensures c.hold.ensures) c.earlier-earlier.ensures (c.place_of-journal.ensures.node ∙ c.name-node.ensures))

pub returns-clause-over : goal.returns-clause-over
returns-clause-over g c =
    stayed_over _ _ _ _ _ _ c.earlier-earlier.result c.into_slot.ensures c.sit.ensures c.place_of-journal.ensures.place.of (c.place_of-journal.ensures.node ∙ c.name-node.ensures) c.earlier-earlier.ensures
