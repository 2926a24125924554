use Rattle.std.proofs.Common.{◌≤◌, ◌<◌, sym, ap, subst, ◌∙◌, arith}
use Rattle.label_tree.specs.Entries.{bytes_in}
use Rattle.label_tree.specs.Nodes.{entries_of, IsInOrder}
use Rattle.label_tree.specs.Falls.{below_falls, next_falls}
use Rattle.label_tree.proofs.tree.Tree.+drop.Goals as goal

pub drop-into_inner-requires-in-More : goal.drop-into_inner-requires-in-More
drop-into_inner-requires-in-More g t c κs within =
    let n = c.in-More.node.value in
    let order = subst IsInOrder c.in-More.is c.loop-top.invariant.0 in
    (omega (arith, c.decreases, c.loop-top.invariant.1, ap (λ l. bytes_in (entries_of l)) c.in-More.is, below_falls n.label n.value n.below n.next order, ap (λ m. bytes_in m.below) c.into_inner-next.ensures), within)

pub loop-top-smaller : goal.loop-top-smaller
loop-top-smaller g t c =
    let n = c.in-More.node.value in
    let order = subst IsInOrder c.in-More.is c.loop-top.invariant.0 in
    omega (arith, ap (λ l. bytes_in (entries_of l)) c.in-More.is, next_falls n.label n.value n.below n.next order, ap (λ m. bytes_in m.next) c.into_inner-next.ensures, ap bytes_in c.open-top.ensures.says)

pub loop-top-preserved : goal.loop-top-preserved
loop-top-preserved g t c =
    let n = c.in-More.node.value in
    let order = subst IsInOrder c.in-More.is c.loop-top.invariant.0 in
    (c.open-top.ensures.order, omega (arith, c.loop-top.invariant.1, ap (λ l. bytes_in (entries_of l)) c.in-More.is, next_falls n.label n.value n.below n.next order, ap (λ m. bytes_in m.next) c.into_inner-next.ensures, ap bytes_in c.open-top.ensures.says))
