use Rattle.std.proofs.Common.{sym, ap, ◌∙◌}
use Rattle.std.specs.FinMap as map
use Rattle.ordered_map.specs.Rising.{flat}
use Rattle.ordered_map.proofs.Forests.{entries-forest}
use Rattle.ordered_map.proofs.forest.Forest.iter.Goals as goal

pub returns : goal.returns
returns g c = c.new.ensures ∙ ap flat c.iter.ensures.rest ∙ sym (entries-forest c.self.inside.leaves.entries c.self.invariant) ∙ ap map.entries c.self.view_is
