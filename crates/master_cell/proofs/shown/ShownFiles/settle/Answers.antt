use Rattle.std.proofs.Common.{arith, rules, ◌∙◌}
use Rattle.master_cell.proofs.Updating.{settled_one}
use Rattle.master_cell.proofs.shown.ShownFiles.settle.Goals as goal

pub loop-preserved : goal.loop-preserved
loop-preserved c =
    let one = settled_one c.loop.self.files c.put_list.new.files c.loop.self.late.items c.pop.new.self.items c.pop.result c.in-Some.copy.now (search rules) (search rules) c.pop.ensures.items c.in_ok-put_list.ensures.ok (search rules) in
    (one.0 ∙ c.loop.invariant.0, omega (arith, one.1, c.loop.invariant.1))
