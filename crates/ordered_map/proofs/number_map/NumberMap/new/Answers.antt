use Rattle.std.proofs.Common.{ap, ◌∙◌}
use Rattle.ordered_map.specs.Places.{numbers}
use Rattle.ordered_map.proofs.Numbers.{no_numbers}
use Rattle.ordered_map.proofs.number_map.NumberMap.new.Goals as goal

pub returns : goal.returns
returns g c = ap numbers c.new.ensures.empty ∙ no_numbers
