use Rattle.std.proofs.Common.{sym, ap, subst, ◌∙◌, arith}
use Rattle.std.specs.Ordering.{nat_cmp}
use Rattle.std.specs.FinMap as map
use Rattle.ordered_map.specs.Rising.{IsRising}
use Rattle.ordered_map.proofs.Leaves.{missed, hit_in, hit_value, hit_removed, rising_others, map_others, remove_absent}
use Rattle.ordered_map.proofs.leaf.Leaf.remove.Goals as goal

pub returns-then-not-is_there-clause-value : goal.returns-then-not-is_there-clause-value
returns-then-not-is_there-clause-value g c =
    sym (missed c.args.key c.self.inside.entries.items c.self.invariant (sym c.place_in-place.ensures.hit ∙ c.if-not-is_there.true)) ∙ ap (λ m. map.get m c.args.key) c.self.view_is

pub returns-then-not-is_there-clause-rest : goal.returns-then-not-is_there-clause-rest
returns-then-not-is_there-clause-rest g c =
    sym (remove_absent c.args.self.now c.args.key
    (ap (λ m. map.get m c.args.key) (sym c.self.view_is) ∙ missed c.args.key c.self.inside.entries.items c.self.invariant (sym c.place_in-place.ensures.hit ∙ c.if-not-is_there.true)))

pub remove-value-requires : goal.remove-value-requires
remove-value-requires g c =
    let hit = sym c.place_in-place.ensures.hit ∙ c.if-not-is_there.false in
    omega (arith, hit_in c.args.key c.place_in-place.result.0 c.self.inside.entries.items c.self.invariant c.place_in-place.ensures.place hit, c.self.inside.entries.ok.0)

pub invariant_of-self : goal.invariant_of-self
invariant_of-self g c =
    let k = c.args.key in let es = c.self.inside.entries.items in let hit = sym c.place_in-place.ensures.hit ∙ c.if-not-is_there.false in
    subst IsRising (sym (c.give_back.ensures ∙ c.remove-value.ensures.items ∙ hit_removed k c.place_in-place.result.0 es c.self.invariant c.place_in-place.ensures.place hit)) (rising_others k es c.self.invariant)

pub returns-clause-value : goal.returns-clause-value
returns-clause-value g c =
    hit_value c.args.key c.place_in-place.result.0 c.self.inside.entries.items c.self.invariant c.place_in-place.ensures.place
    (sym c.place_in-place.ensures.hit ∙ c.if-not-is_there.false) c.remove-value.result c.remove-value.ensures.value ∙ ap (λ m. map.get m c.args.key) c.self.view_is

pub returns-clause-rest : goal.returns-clause-rest
returns-clause-rest g c =
    let k = c.args.key in let es = c.self.inside.entries.items in let hit = sym c.place_in-place.ensures.hit ∙ c.if-not-is_there.false in
    ap (map.from_sorted {R = nat_cmp}) (c.give_back.ensures ∙ c.remove-value.ensures.items ∙ hit_removed k c.place_in-place.result.0 es c.self.invariant c.place_in-place.ensures.place hit)
    ∙ map_others k es c.self.invariant ∙ ap (λ m. map.remove m k) c.self.view_is
