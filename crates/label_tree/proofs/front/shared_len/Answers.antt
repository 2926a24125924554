use Rattle.std.proofs.Common.{◌≡◌, ◌≤◌, drop, length, length-drop, arith}
use Rattle.label_tree.specs.Fronts.{shared}
use Rattle.label_tree.proofs.Shared.{ends_right}
use Rattle.label_tree.proofs.front.shared_len.Goals as goal

pub returns-else-count-path : goal.returns-else-count-path
returns-else-count-path c =
    let n = c.loop-count.count in
    let past : length (drop n c.args.path.now) ≤ 0 = omega (arith, length-drop n c.args.path.now, c.if-count-path.false) in
    let none : shared (drop n c.args.label.now) (drop n c.args.path.now) ≡ 0 = ends_right _ _ past in
    omega (arith, c.loop-count.invariant.counted, none)
