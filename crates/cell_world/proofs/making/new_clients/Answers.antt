use Rattle.std.proofs.Common.{[], ◌∷◌, ◌++◌, ap, ◌∙◌, arith}
use Rattle.protocol.specs.Client.{new_client}
use Rattle.cell_world.proofs.Made.{one_more}
use Rattle.cell_world.proofs.making.new_clients.Goals as goal

pub loop-before-preserved : goal.loop-before-preserved
loop-before-preserved c = record {
  made = one_more (new_client c.args.config) c.loop-before.before c.loop-before.all.items c.push.new.self.items c.loop-before.invariant.made (c.in_ok-push.ensures.items ∙ ap (λ x. c.loop-before.all.items ++ x ∷ []) c.in_ok-new.ensures);
  most = omega (arith, c.loop-before-test.true);
}
