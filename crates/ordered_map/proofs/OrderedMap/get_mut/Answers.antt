use Rattle.std.proofs.Common.{sym, ap, ◌∙◌}
use Rattle.std.specs.FinMap as map
use Rattle.ordered_map.proofs.Counts.{lent, count_kept}
use Rattle.ordered_map.proofs.OrderedMap.get_mut.Goals as goal

pub invariant_of-self-lent : goal.invariant_of-self-lent
invariant_of-self-lent g c r = (
  (λ w. lent c.get_mut.result _ c.get_mut.ensures.value (c.get_mut.follows.holds w)
      (λ is. c.self.invariant ∙ sym (ap map.len is))
      (λ there is. count_kept c.self.inside.forest _ c.args.key w c.self.inside.count is there c.self.invariant)),
  c.self.invariant ∙ sym (ap map.len c.get_mut.follows.holds-at-none),
)
