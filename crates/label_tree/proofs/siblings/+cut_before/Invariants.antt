use Rattle.label_tree.specs.Entries.{bytes_in}
use Rattle.label_tree.proofs.siblings.+cut_before.Given as goal

abbrev pub decreases-cut_before : goal.decreases-cut_before
decreases-cut_before g l = bytes_in l.tree.now
