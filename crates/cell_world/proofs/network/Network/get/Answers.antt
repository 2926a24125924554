use Rattle.std.proofs.Common.{◌∙◌}
use Rattle.cell_world.proofs.Numbers.{first_until, got}
use Rattle.cell_world.proofs.network.Network.get.Goals as goal

pub overflow_sub-number : goal.overflow_sub-number
overflow_sub-number c = first_until c.self.inside.batches.items c.args.number c.place_of.result c.index-batch.result.now c.self.invariant.1 c.place_of.ensures c.index-batch.ensures

pub returns : goal.returns
returns c =
    rw (← c.self.view_is) (c.message_at.ensures ∙ got c.self.inside.batches.items c.args.number c.place_of.result c.index-batch.result.now c.self.invariant.1 c.place_of.ensures c.index-batch.ensures)
