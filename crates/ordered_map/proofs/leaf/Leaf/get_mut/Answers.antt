use Rattle.std.proofs.Common.{refl, sym, ap, subst, ◌∙◌, arith}
use Rattle.std.specs.Ordering.{nat_cmp}
use Rattle.std.specs.FinMap as map
use Rattle.ordered_map.specs.Rising.{IsRising}
use Rattle.ordered_map.proofs.Leaves.{missed, hit_in, hit_value, hit_set, rising_put, map_put}
use Rattle.ordered_map.proofs.leaf.Leaf.get_mut.Goals as goal

pub returns-then-not-is_there : goal.returns-then-not-is_there
returns-then-not-is_there g c = (
  (refl, (λ w. c.self.view_is), c.self.view_is),
  record {
    writes_back = tt;
    value = sym (missed c.args.key c.self.inside.entries.items c.self.invariant (sym c.place_in-place.ensures.hit ∙ c.if-not-is_there.true)) ∙ ap (λ m. map.get m c.args.key) c.self.view_is;
  },
)

pub index_mut-entry-requires : goal.index_mut-entry-requires
index_mut-entry-requires g c =
    let hit = sym c.place_in-place.ensures.hit ∙ c.if-not-is_there.false in
    omega (arith, hit_in c.args.key c.place_in-place.result.0 c.self.inside.entries.items c.self.invariant c.place_in-place.ensures.place hit, c.self.inside.entries.ok.0)

pub invariant_of-self-lent : goal.invariant_of-self-lent
invariant_of-self-lent g c w =
    let k = c.args.key in let es = c.self.inside.entries.items in let hit = sym c.place_in-place.ensures.hit ∙ c.if-not-is_there.false in
    let set = hit_set k c.place_in-place.result.0 es c.self.invariant c.place_in-place.ensures.place hit c.index_mut-entry.result.now c.index_mut-entry.ensures.value w in
    subst IsRising (sym set) (rising_put k w es c.self.invariant)

pub returns : goal.returns
returns g c =
    let k = c.args.key in let es = c.self.inside.entries.items in let hit = sym c.place_in-place.ensures.hit ∙ c.if-not-is_there.false in
    let x = c.index_mut-entry.result.now in let i = c.place_in-place.result.0 in let at = c.place_in-place.ensures.place in (
      (
        refl,
        (λ w. ap (map.from_sorted {R = nat_cmp}) (hit_set k i es c.self.invariant at hit x c.index_mut-entry.ensures.value w) ∙ map_put k w es c.self.invariant ∙ ap (λ m. map.insert m k w) c.self.view_is),
        refl,
      ),
      record {
        writes_back = tt;
        value = hit_value k i es c.self.invariant at hit x c.index_mut-entry.ensures.value ∙ ap (λ m. map.get m k) c.self.view_is;
      },
    )
