use Rattle.std.proofs.Common.{◌≤◌}
use Rattle.label_tree.specs.Entries.{bytes_in}
use Rattle.label_tree.specs.Nodes.{entries_of, IsInOrder}
use Rattle.label_tree.proofs.tree.Tree.+drop.Given as goal

abbrev pub decreases-drop : goal.decreases-drop
decreases-drop g l = bytes_in l.self

abbrev pub invariant-loop-top : goal.invariant-loop-top
invariant-loop-top g l = IsInOrder l.top × (bytes_in (entries_of l.top) ≤ bytes_in l.fn.self)

abbrev pub decreases-loop-top : goal.decreases-loop-top
decreases-loop-top g l = bytes_in (entries_of l.top)
