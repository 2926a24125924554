use Rattle.std.proofs.Common.{◌-◌, ap, ◌∙◌, bit_and}
use Rattle.std.specs.Int.RustNames.{count_ones}
use Rattle.std.proofs.lemmas.Nat.{and_mask, one_shl}
use Rattle.ordered_map.proofs.block.count_before.Goals as goal

pub returns : goal.returns
returns c = ap count_ones (ap (λ m. bit_and c.args.present (m - 1)) (one_shl c.args.place 32 c.requires) ∙ and_mask c.args.present c.args.place)
