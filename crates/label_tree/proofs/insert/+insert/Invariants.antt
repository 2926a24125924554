use Rattle.label_tree.specs.Entries.{bytes_in}
use Rattle.label_tree.proofs.insert.+insert.Given as goal

abbrev pub decreases-insert : goal.decreases-insert
decreases-insert g l = bytes_in l.tree.now
