use Rattle.std.proofs.Common.{sym, ap, ◌∙◌}
use Rattle.std.specs.Ordering.{nat_cmp}
use Rattle.std.specs.FinMap as map
use Rattle.ordered_map.proofs.leaf.Leaf.entries.Goals as goal

pub returns : goal.returns
returns g c = c.as_slice.ensures.value ∙ sym (map.entries-from_sorted nat_cmp c.self.inside.entries.items c.self.invariant) ∙ ap map.entries c.self.view_is
