use Rattle.std.proofs.Common.{◌≡◌}
use Rattle.label_tree.specs.Entries.{BeginsFrom, bytes_in}
use Rattle.label_tree.specs.Behind.{behind}
use Rattle.label_tree.proofs.place.place.Given as goal

abbrev pub invariant-loop-node : goal.invariant-loop-node
invariant-loop-node g l = (behind l.rest l.here ≡ behind l.front l.tree) × BeginsFrom 0 l.rest

abbrev pub decreases-loop-node : goal.decreases-loop-node
decreases-loop-node g l = bytes_in l.here
