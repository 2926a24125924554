use Rattle.std.proofs.Common.{arith}
use Rattle.ordered_map.proofs.Counts.{not_none, count_fallen}
use Rattle.ordered_map.proofs.OrderedMap.remove.Goals as goal

pub overflow_sub-self : goal.overflow_sub-self
overflow_sub-self g c = omega (arith, not_none c.self.inside.forest c.self.inside.forest c.args.key c.in_ok-value.value c.in_ok-value.ensures.value, c.self.invariant)

pub invariant_of-self-2 : goal.invariant_of-self-2
invariant_of-self-2 g c = count_fallen c.self.inside.forest c.remove.new.self c.args.key c.in_ok-value.value c.self.inside.count c.in_ok-value.ensures.rest c.in_ok-value.ensures.value c.self.invariant
