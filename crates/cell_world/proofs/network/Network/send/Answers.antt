use Rattle.std.proofs.Common.{ap, ◌∙◌, arith, ◌+◌, ◌++◌}
use Rattle.cell_world.specs.Batches.{sent_in}
use Rattle.cell_world.proofs.Numbers.{sent_push, sent_so}
use Rattle.protocol.specs.World.{stamped}
use Rattle.cell_world.proofs.network.Network.send.Goals as goal

pub invariant_of-self : goal.invariant_of-self
invariant_of-self c = sent_so c.self.inside.batches.items c.push.new.batches.items c.self.inside.count c.stamp-messages.result c.len.result c.self.invariant.0 c.self.invariant.1 c.len.ensures c.push.ensures

pub returns : goal.returns
returns c =
    rw (← c.self.view_is) (ap sent_in c.push.ensures ∙ (sent_push c.self.inside.batches.items (record { first = c.self.inside.count + 1; messages = c.stamp-messages.result })
    ∙ ap (λ ms. sent_in c.self.inside.batches.items ++ ms) (c.stamp-messages.ensures ∙ ap (λ n. stamped n c.args.messages) (omega (arith, c.self.invariant.0)))))
