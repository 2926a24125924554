use Rattle.std.proofs.Common.{◌≤◌, length, arith}
use Rattle.std.proofs.lemmas.Grind.{common_steps}
use Rattle.label_tree.proofs.LabelCuts.{begins_some}
use Rattle.tests_names.proofs.put.put.Goals as goal

pub insert-requires : goal.insert-requires
insert-requires g c =
    let p = c.args.path.now in
    let some : 1 ≤ length p = grind (arith, common_steps, c.is_empty.ensures, c.if-is_empty.false) in
    begins_some p some
