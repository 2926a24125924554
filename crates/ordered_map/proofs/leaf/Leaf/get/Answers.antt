use Rattle.std.proofs.Common.{sym, ap, ◌∙◌, arith}
use Rattle.std.specs.FinMap as map
use Rattle.ordered_map.proofs.Leaves.{missed, hit_in, hit_value}
use Rattle.ordered_map.proofs.leaf.Leaf.get.Goals as goal

pub returns-then-not-is_there : goal.returns-then-not-is_there
returns-then-not-is_there g c =
    sym (missed c.args.key c.self.inside.entries.items c.self.invariant (sym c.place_in-place.ensures.hit ∙ c.if-not-is_there.true)) ∙ ap (λ m. map.get m c.args.key) c.self.view_is

pub index-requires : goal.index-requires
index-requires g c =
    let hit = sym c.place_in-place.ensures.hit ∙ c.if-not-is_there.false in
    omega (arith, hit_in c.args.key c.place_in-place.result.0 c.self.inside.entries.items c.self.invariant c.place_in-place.ensures.place hit, c.self.inside.entries.ok.0)

pub returns : goal.returns
returns g c =
    hit_value c.args.key c.place_in-place.result.0 c.self.inside.entries.items c.self.invariant c.place_in-place.ensures.place
    (sym c.place_in-place.ensures.hit ∙ c.if-not-is_there.false) c.index.result.now c.index.ensures ∙ ap (λ m. map.get m c.args.key) c.self.view_is
