use Rattle.std.proofs.Common.{ap, ◌∙◌}
use Rattle.std.specs.Ordering.{nat_cmp}
use Rattle.std.specs.FinMap as map
use Rattle.ordered_map.proofs.Leaves.{no_entries}
use Rattle.ordered_map.proofs.leaf.Leaf.new.Goals as goal

pub returns : goal.returns
returns g c = ap (map.from_sorted {R = nat_cmp}) c.new.ensures.items ∙ no_entries
