use Rattle.std.proofs.Common.{◌^◌, ◌<◌, refl, sym, ap, ◌∙◌, arith}
use Rattle.std.specs.Prelude.{slice_get, slice_set}
use Rattle.std.specs.FinMap as map
use Rattle.ordered_map.specs.Places.{block_values}
use Rattle.ordered_map.proofs.NumberVariants.{some_on}
use Rattle.ordered_map.proofs.Items.{not_set, item_found}
use Rattle.ordered_map.proofs.Blocks.{got, not_got, written}
use Rattle.ordered_map.proofs.block.Block.get_mut.Goals as goal

pub returns-then-not-is_present : goal.returns-then-not-is_present
returns-then-not-is_present g c = (
  (refl, (λ w. tt), c.self.view_is),
  record {
    writes_back = tt;
    value = sym (not_got c.self.inside.present c.args.place c.self.inside.values.items c.requires (not_set c.self.inside.present c.args.place c.if-not-is_present.ensures.1))
        ∙ ap (λ m. map.get m c.args.place) c.self.view_is;
  },
)

pub returns : goal.returns
returns g c =
    let p = c.self.inside.present in let xs = c.self.inside.values.items in let k = c.args.place in let o = c.if-not-is_present.ensures.0 refl in
    let fits : c.self.inside.present < 2 ^ 32 = omega arith in (
      (
        refl,
        (λ w. some_on c.get_mut.result
            (ap (λ n. block_values p (slice_set xs n w)) c.count_before-index.ensures ∙ written p k xs fits c.requires c.self.invariant w o ∙ ap (λ m. map.insert m k w) c.self.view_is)),
        c.self.view_is,
      ),
      record {
        writes_back = tt;
        value = item_found (λ x. x.now) xs c.count_before-index.result c.get_mut.result c.get_mut.ensures.item ∙ ap (slice_get xs) c.count_before-index.ensures
            ∙ sym (got p k xs c.requires o) ∙ ap (λ m. map.get m k) c.self.view_is;
      },
    )
