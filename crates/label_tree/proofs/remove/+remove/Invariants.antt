use Rattle.label_tree.specs.Entries.{bytes_in}
use Rattle.label_tree.proofs.remove.+remove.Given as goal

abbrev pub decreases-remove : goal.decreases-remove
decreases-remove g l = bytes_in l.tree.now
