use Rattle.ordered_map.proofs.Counts.{count_grown, count_kept_by}
use Rattle.ordered_map.proofs.OrderedMap.insert.Goals as goal

pub invariant_of-self-then-branch : goal.invariant_of-self-then-branch
invariant_of-self-then-branch g c =
    count_grown c.self.inside.forest c.insert.new.self c.args.key c.args.value c.in_ok-insert.field-0 c.self.inside.count c.in_ok-insert.ensures.ok c.in_ok-insert.ensures.is_new c.if-branch.true c.self.invariant

pub invariant_of-self-else-branch : goal.invariant_of-self-else-branch
invariant_of-self-else-branch g c =
    count_kept_by c.self.inside.forest c.insert.new.self c.args.key c.args.value c.in_ok-insert.field-0 c.self.inside.count c.in_ok-insert.ensures.ok c.in_ok-insert.ensures.is_new c.if-branch.false c.self.invariant
