use Rattle.std.proofs.Common.{ap, ◌∙◌}
use Rattle.ordered_map.proofs.Leaves.{no_entries}
use Rattle.ordered_map.proofs.Forests.{forest}
use Rattle.ordered_map.proofs.forest.Forest.new.Goals as goal

pub returns : goal.returns
returns g c = ap forest c.new.ensures.empty ∙ no_entries
