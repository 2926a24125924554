use Rattle.std.proofs.Common.{length}
use Rattle.label_tree.proofs.cut.+branch.Given as goal

abbrev pub decreases-branch : goal.decreases-branch
decreases-branch g l = length l.path.now
