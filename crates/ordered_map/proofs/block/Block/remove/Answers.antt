use Rattle.std.proofs.Common.{◌^◌, ◌<◌, length, refl, sym, ap, ◌∙◌, arith}
use Rattle.std.specs.Prelude.{slice_get}
use Rattle.std.specs.List as list
use Rattle.std.specs.FinMap as map
use Rattle.std.proofs.lemmas.List.Edits.{length-remove}
use Rattle.std.proofs.lemmas.Option.{slice_get_read}
use Rattle.ordered_map.specs.Places.{block_values}
use Rattle.ordered_map.proofs.Items.{not_set}
use Rattle.ordered_map.proofs.Ranks.{rank_inside}
use Rattle.ordered_map.proofs.NumberPlaces.{remove_absent}
use Rattle.ordered_map.proofs.Blocks.{without_bit, ones_without, got, not_got, taken}
use Rattle.ordered_map.proofs.block.Block.remove.Goals as goal

pub returns-then-not-is_present-clause-value : goal.returns-then-not-is_present-clause-value
returns-then-not-is_present-clause-value g c =
    sym (not_got c.self.inside.present c.args.place c.self.inside.values.items c.requires (not_set c.self.inside.present c.args.place c.if-not-is_present.ensures.1))
    ∙ ap (λ m. map.get m c.args.place) c.self.view_is

pub returns-then-not-is_present-clause-rest : goal.returns-then-not-is_present-clause-rest
returns-then-not-is_present-clause-rest g c =
    sym (remove_absent c.args.self.now c.args.place
    (ap (λ m. map.get m c.args.place) (sym c.self.view_is)
    ∙ not_got c.self.inside.present c.args.place c.self.inside.values.items c.requires (not_set c.self.inside.present c.args.place c.if-not-is_present.ensures.1)))

pub remove-value-requires : goal.remove-value-requires
remove-value-requires g c =
    let fits : c.self.inside.present < 2 ^ 32 = omega arith in
    omega (arith, rank_inside c.self.inside.present c.args.place fits c.requires (c.if-not-is_present.ensures.0 refl), c.count_before.ensures, c.self.invariant, c.self.inside.values.ok.0)

pub invariant_of-self : goal.invariant_of-self
invariant_of-self g c =
    let p = c.self.inside.present in let xs = c.self.inside.values.items in let k = c.args.place in let o = c.if-not-is_present.ensures.0 refl in
    let fits : c.self.inside.present < 2 ^ 32 = omega arith in
    let inside : c.count_before.result < length c.self.inside.values.items = omega (arith, rank_inside p k fits c.requires o, c.count_before.ensures, c.self.invariant) in
    omega (arith, ones_without p k fits c.requires o, ap length c.give_back.ensures, ap length c.remove-value.ensures.items, length-remove xs c.count_before.result inside, c.self.invariant)

pub returns-clause-value : goal.returns-clause-value
returns-clause-value g c =
    let p = c.self.inside.present in let xs = c.self.inside.values.items in let k = c.args.place in let o = c.if-not-is_present.ensures.0 refl in
    let fits : c.self.inside.present < 2 ^ 32 = omega arith in
    let inside : c.count_before.result < length c.self.inside.values.items = omega (arith, rank_inside p k fits c.requires o, c.count_before.ensures, c.self.invariant) in
    sym (slice_get_read xs (length xs) c.count_before.result c.remove-value.result refl inside c.remove-value.ensures.value) ∙ ap (slice_get xs) c.count_before.ensures
    ∙ sym (got p k xs c.requires o) ∙ ap (λ m. map.get m k) c.self.view_is

pub returns-clause-rest : goal.returns-clause-rest
returns-clause-rest g c =
    let p = c.self.inside.present in let xs = c.self.inside.values.items in let k = c.args.place in let o = c.if-not-is_present.ensures.0 refl in
    let fits : c.self.inside.present < 2 ^ 32 = omega arith in
    ap (block_values (without_bit p k)) (c.give_back.ensures ∙ c.remove-value.ensures.items) ∙ ap (λ n. block_values (without_bit p k) (list.remove xs n)) c.count_before.ensures
    ∙ taken p k xs fits c.requires c.self.invariant o ∙ ap (λ m. map.remove m k) c.self.view_is
