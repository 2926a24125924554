use Rattle.std.proofs.Common.{refl, sym, ap, ◌∙◌}
use Rattle.std.specs.Prelude.{slice_get}
use Rattle.std.specs.FinMap as map
use Rattle.ordered_map.proofs.Items.{not_set, item_found}
use Rattle.ordered_map.proofs.Blocks.{got, not_got}
use Rattle.ordered_map.proofs.block.Block.get.Goals as goal

pub returns-then-is_present : goal.returns-then-is_present
returns-then-is_present g c =
    let xs = c.self.inside.values.items in
    item_found (λ x. x.now) c.deref.result.now c.count_before.result c.get.result c.get.ensures.lookup
    ∙ ap (λ ys. slice_get ys c.count_before.result) c.deref.ensures.value ∙ ap (slice_get xs) c.count_before.ensures
    ∙ sym (got c.self.inside.present c.args.place xs c.requires (c.if-is_present.ensures.0 refl)) ∙ ap (λ m. map.get m c.args.place) c.self.view_is

pub returns-else-is_present : goal.returns-else-is_present
returns-else-is_present g c =
    sym (not_got c.self.inside.present c.args.place c.self.inside.values.items c.requires (not_set c.self.inside.present c.args.place c.if-is_present.ensures.1))
    ∙ ap (λ m. map.get m c.args.place) c.self.view_is
