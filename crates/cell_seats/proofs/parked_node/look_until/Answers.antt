use Rattle.std.proofs.Common.{◌∙◌}
use Rattle.cell_seats.proofs.Moving.{later_trans}
use Rattle.cell_seats.proofs.parked_node.look_until.Goals as goal

pub loop-preserved : goal.loop-preserved
loop-preserved g c = record {
  node = c.look.ensures.node ∙ c.loop.invariant.node;
  later = later_trans _ _ _ c.loop.invariant.later c.look.ensures.later;
}

pub returns-in_err-look-clause-node : goal.returns-in_err-look-clause-node
returns-in_err-look-clause-node g c = c.look.ensures.node ∙ c.loop.invariant.node

pub returns-in_err-look-clause-later : goal.returns-in_err-look-clause-later
returns-in_err-look-clause-later g c = later_trans _ _ _ c.loop.invariant.later c.look.ensures.later

pub returns-then-is_wanted-clause-node : goal.returns-then-is_wanted-clause-node
returns-then-is_wanted-clause-node g c = c.look.ensures.node ∙ c.loop.invariant.node

pub returns-then-is_wanted-clause-later : goal.returns-then-is_wanted-clause-later
returns-then-is_wanted-clause-later g c = later_trans _ _ _ c.loop.invariant.later c.look.ensures.later
