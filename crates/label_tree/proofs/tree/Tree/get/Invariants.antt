use Rattle.std.proofs.Common.{◌≡◌}
use Rattle.label_tree.specs.Entries.{find_path, bytes_in}
use Rattle.label_tree.proofs.tree.Tree.get.Given as goal

abbrev pub invariant-loop-here : goal.invariant-loop-here
invariant-loop-here g l = find_path l.rest l.here ≡ find_path l.path l.self

abbrev pub decreases-loop-here : goal.decreases-loop-here
decreases-loop-here g l = bytes_in l.here
