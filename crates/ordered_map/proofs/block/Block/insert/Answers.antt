use Rattle.std.proofs.Common.{refl, ◌^◌, ◌<◌, ◌≤◌, length, sym, ap, ◌∙◌, arith}
use Rattle.std.specs.Prelude.{slice_set}
use Rattle.std.specs.List as list
use Rattle.std.specs.FinMap as map
use Rattle.std.proofs.lemmas.List.Edits.{length-insert}
use Rattle.ordered_map.specs.Places.{block_values}
use Rattle.ordered_map.proofs.NumberVariants.{err_on}
use Rattle.ordered_map.proofs.Items.{not_set}
use Rattle.ordered_map.proofs.Ranks.{rank_within, rank_inside}
use Rattle.ordered_map.proofs.Blocks.{with_bit, ones_with, not_got, written, added}
use Rattle.ordered_map.proofs.block.Block.insert.Goals as goal

pub index_mut-requires : goal.index_mut-requires
index_mut-requires g c =
    let fits : c.self.inside.present < 2 ^ 32 = omega arith in
    omega (arith, rank_inside c.self.inside.present c.args.place fits c.requires (c.if-is_present.ensures.0 refl), c.count_before-index.ensures, c.self.invariant, c.self.inside.values.ok.0)

pub returns-then-is_present-clause-ok : goal.returns-then-is_present-clause-ok
returns-then-is_present-clause-ok g c =
    let p = c.self.inside.present in let xs = c.self.inside.values.items in let k = c.args.place in
    let fits : c.self.inside.present < 2 ^ 32 = omega arith in
    ap (λ n. block_values p (slice_set xs n c.args.value)) c.count_before-index.ensures
    ∙ written p k xs fits c.requires c.self.invariant c.args.value (c.if-is_present.ensures.0 refl) ∙ ap (λ m. map.insert m k c.args.value) c.self.view_is

pub returns-in_err-make_room-clause-absent : goal.returns-in_err-make_room-clause-absent
returns-in_err-make_room-clause-absent g c =
    err_on c.from_residual.result
    (ap (λ m. map.get m c.args.place) (sym c.self.view_is)
    ∙ not_got c.self.inside.present c.args.place c.self.inside.values.items c.requires (not_set c.self.inside.present c.args.place c.if-is_present.ensures.1))

pub insert-requires : goal.insert-requires
insert-requires g c =
    let fits : c.self.inside.present < 2 ^ 32 = omega arith in
    omega (arith, rank_within c.self.inside.present c.args.place fits c.requires, c.count_before-index.ensures, c.self.invariant, ap length c.make_room.ensures, c.make_room.new.values.ok.0)

pub returns-in_err-insert-clause-absent : goal.returns-in_err-insert-clause-absent
returns-in_err-insert-clause-absent g c =
    err_on c.from_residual-in_err-insert.result
    (ap (λ m. map.get m c.args.place) (sym c.self.view_is)
    ∙ not_got c.self.inside.present c.args.place c.self.inside.values.items c.requires (not_set c.self.inside.present c.args.place c.if-is_present.ensures.1))

pub invariant_of-self-2 : goal.invariant_of-self-2
invariant_of-self-2 g c =
    let p = c.self.inside.present in let k = c.args.place in
    let fits : c.self.inside.present < 2 ^ 32 = omega arith in
    let z = not_set p k c.if-is_present.ensures.1 in
    let within : c.count_before-index.result ≤ length c.make_room.new.values.items = omega (arith, rank_within p k fits c.requires, c.count_before-index.ensures, c.self.invariant, ap length c.make_room.ensures) in
    omega (arith, ones_with p k fits c.requires z, ap length c.in_ok-insert.ensures.items, length-insert c.make_room.new.values.items c.count_before-index.result c.args.value within, ap length c.make_room.ensures, c.self.invariant)

pub returns-clause-ok : goal.returns-clause-ok
returns-clause-ok g c =
    let p = c.self.inside.present in let xs = c.self.inside.values.items in let k = c.args.place in let v = c.args.value in
    let fits : c.self.inside.present < 2 ^ 32 = omega arith in
    ap (block_values (with_bit p k)) c.in_ok-insert.ensures.items ∙ (λ i. block_values (with_bit p k) (list.insert (c.make_room.ensures i) (c.count_before-index.ensures i) v))
    ∙ added p k xs fits c.requires c.self.invariant v (not_set p k c.if-is_present.ensures.1) ∙ ap (λ m. map.insert m k v) c.self.view_is
