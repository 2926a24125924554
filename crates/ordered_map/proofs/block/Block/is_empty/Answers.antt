use Rattle.std.proofs.Common.{T, sym, ap, subst, ◌∙◌}
use Rattle.std.proofs.Math.Facts.{eqb_yes}
use Rattle.ordered_map.specs.Places.{block_values}
use Rattle.ordered_map.proofs.Blocks.{without_any}
use Rattle.ordered_map.proofs.block.Block.is_empty.Goals as goal

pub returns : goal.returns
returns g c h = sym c.self.view_is ∙ ap (λ m. block_values m c.self.inside.values.items) (eqb_yes (subst T (sym h) tt)) ∙ without_any c.self.inside.values.items
