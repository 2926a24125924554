use Rattle.std.proofs.Common.{◌≡◌, sym, ap, subst, ◌∙◌}
use Rattle.gfs_types.specs.declared.ids.Node.{Node}
use Rattle.cell_seats.specs.Slots.{IsLedTo}
use Rattle.cell_seats.specs.ParkedNodes.{ParkedNodeState, parked_node, IsBehind}
use Rattle.cell_seats.proofs.ParkedNodes.{led_behind}
use Rattle.cell_seats.proofs.parked_node.ParkedNode.into_slot.Goals as goal

pub new-requires : goal.new-requires
new-requires g c =
    let was = c.self.inside in
    let v = c.args.journal.writer.me.0 in
    let Stands = g.N.Stepper.stands was.stepper in
    let same : c.args.journal.node ≡ was.node = c.requires.node ∙ sym (ap (λ (p : ParkedNodeState). p.node) c.self.view_is) in
    record {
      led = subst (λ (n : Node). IsLedTo v n Stands) (sym same)
          (led_behind (parked_node was.cell was.node was.history) v Stands (subst (IsBehind v) (sym c.self.view_is) c.requires.behind) c.self.invariant.1);
    }
