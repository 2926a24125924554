use Rattle.std.proofs.Common.{length, is_some, not, sym, ap, subst, ◌∙◌, arith}
use Rattle.std.specs.Ordering.{nat_cmp}
use Rattle.std.specs.FinMap as map
use Rattle.std.specs.List as list
use Rattle.ordered_map.specs.Rising.{IsRising}
use Rattle.ordered_map.proofs.Places.{count_within, miss_put}
use Rattle.ordered_map.proofs.Leaves.{hit_some, missed, hit_written, rising_put, map_put}
use Rattle.ordered_map.proofs.leaf.Leaf.insert.Goals as goal

pub invariant_of-self : goal.invariant_of-self
invariant_of-self g c =
    let k = c.args.key in let es = c.self.inside.entries.items in let hit = sym c.place_in-place.ensures.hit ∙ c.if-is_there.true in
    subst IsRising (sym (hit_written k c.place_in-place.result.0 es c.self.invariant c.place_in-place.ensures.place hit c.args.value)) (rising_put k c.args.value es c.self.invariant)

pub returns-then-is_there-clause-ok : goal.returns-then-is_there-clause-ok
returns-then-is_there-clause-ok g c =
    let k = c.args.key in let es = c.self.inside.entries.items in let hit = sym c.place_in-place.ensures.hit ∙ c.if-is_there.true in
    ap (map.from_sorted {R = nat_cmp}) (hit_written k c.place_in-place.result.0 es c.self.invariant c.place_in-place.ensures.place hit c.args.value)
    ∙ map_put k c.args.value es c.self.invariant ∙ ap (λ m. map.insert m k c.args.value) c.self.view_is

pub insert-requires : goal.insert-requires
insert-requires g c =
    omega (arith, count_within c.args.key c.self.inside.entries.items, c.place_in-place.ensures.place, ap length c.make_room.ensures, c.make_room.new.entries.ok.0)

pub invariant_of-self-2 : goal.invariant_of-self-2
invariant_of-self-2 g c =
    let k = c.args.key in let v = c.args.value in let es = c.self.inside.entries.items in let miss = sym c.place_in-place.ensures.hit ∙ c.if-is_there.false in
    let items = c.in_ok-insert.ensures.items ∙ (λ j. list.insert (c.make_room.ensures j) (c.place_in-place.ensures.place j) (k, v)) ∙ sym (miss_put k v es miss) in
    subst IsRising (sym items) (rising_put k v es c.self.invariant)

pub returns-clause-ok : goal.returns-clause-ok
returns-clause-ok g c =
    let k = c.args.key in let v = c.args.value in let es = c.self.inside.entries.items in let miss = sym c.place_in-place.ensures.hit ∙ c.if-is_there.false in
    let items = c.in_ok-insert.ensures.items ∙ (λ j. list.insert (c.make_room.ensures j) (c.place_in-place.ensures.place j) (k, v)) ∙ sym (miss_put k v es miss) in
    ap (map.from_sorted {R = nat_cmp}) items ∙ map_put k v es c.self.invariant ∙ ap (λ m. map.insert m k v) c.self.view_is

pub returns-then-is_there-clause-is_new : goal.returns-then-is_there-clause-is_new
returns-then-is_there-clause-is_new g c =
    sym (ap not (ap (λ m. is_some (map.get m c.args.key)) (sym c.self.view_is) ∙ hit_some c.args.key c.self.inside.entries.items c.self.invariant (sym c.place_in-place.ensures.hit ∙ c.if-is_there.true)))

pub returns-clause-is_new : goal.returns-clause-is_new
returns-clause-is_new g c =
    sym (ap (λ o. not (is_some o)) (ap (λ m. map.get m c.args.key) (sym c.self.view_is) ∙ missed c.args.key c.self.inside.entries.items c.self.invariant (sym c.place_in-place.ensures.hit ∙ c.if-is_there.false)))
