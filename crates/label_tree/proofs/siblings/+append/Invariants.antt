use Rattle.label_tree.specs.Entries.{bytes_in}
use Rattle.label_tree.proofs.siblings.+append.Given as goal

abbrev pub decreases-append : goal.decreases-append
decreases-append g l = bytes_in l.tree.now
