use Rattle.std.proofs.Common.{sym, subst}
use Rattle.cell_seats.specs.ParkedNodes.{IsLedBy}
use Rattle.cell_seats.proofs.ParkedNodes.{led_by, counted}
use Rattle.cell_seats.proofs.parked_node.ParkedNode.of.Goals as goal

pub invariant_of-result : goal.invariant_of-result
invariant_of-result g c =
    let Stands = g.N.Stepper.stands c.in_ok-stepper.stepper in
    let node = c.args.slot.now.node in (
      counted node c.args.slot.now.view c.args.look c.requires,
      subst (λ n. IsLedBy c.args.look.cell n c.args.look.beginning.items Stands) (sym c.name-node.ensures)
          (led_by node c.args.slot.now.view c.args.look c.requires Stands c.in_ok-stepper.ensures.node),
    )
