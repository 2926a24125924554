use Rattle.std.proofs.Common.{sym, ◌∙◌}
use Rattle.cell_seats.proofs.GoingOver.{move_flags, moved_over}
use Rattle.running_nodes.proofs.seating.move_on.Goals as goal

pub with_client-gone-requires-clause-before : goal.with_client-gone-requires-clause-before
with_client-gone-requires-clause-before g c = c.is_after.ensures.after c.hold.ensures

pub sit-requires : goal.sit-requires
sit-requires g c =
    let seating = c.args.seating.now in
    let ready = c.requires.ready in
    let new = c.new_client-slot.ensures in
    let slot = c.new_client-slot.result.slot in
    let number = c.is_after.ensures.some c.hold.ensures in
    move_flags seating.cell slot.view new.slot.0 c.args.seat c.args.client slot.node c.earlier-earlier.result c.with_client-gone.result seating.retired c.number_of-number.result new.slot.1 c.requires.client
    c.requires.behind ready.goes_on c.requires.named new.unused ready.retired_are (c.are_within.ensures c.hold-2.ensures) c.earlier-earlier.ensures
    (sym c.name.ensures ∙ c.number_of-number.ensures number.0) c.with_client-gone.ensures

pub returns-clause-over : goal.returns-clause-over
returns-clause-over g c =
    let new = c.new_client-slot.ensures in
    let slot = c.new_client-slot.result.slot in
    let number = c.is_after.ensures.some c.hold.ensures in
    moved_over c.args.seating.now.cell c.args.seat c.sit.result c.args.client slot.node c.earlier-earlier.result c.with_client-gone.result c.number_of-number.result slot.view.of c.sit.ensures new.slot.0
    c.earlier-earlier.ensures (sym c.name.ensures ∙ c.number_of-number.ensures number.0) c.with_client-gone.ensures c.requires.client c.requires.behind new.unused
