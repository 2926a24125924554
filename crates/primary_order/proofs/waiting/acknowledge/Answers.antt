use Rattle.std.proofs.Common.{◌≡◌, false, sym, ◌∙◌}
use Rattle.primary_order.specs.PrimaryOrder.{is_last}
use Rattle.primary_order.proofs.Lent.{less_lent}
use Rattle.primary_order.proofs.waiting.acknowledge.Goals as goal

pub returns-clause-rest : goal.returns-clause-rest
returns-clause-rest c =
    let more : is_last c.args.server c.in-Some.mutation.now ≡ false = sym c.are_all.ensures ∙ c.if-are_all.false in
    less_lent c.args.waiting.now c.args.serial c.args.server c.get_mut.result c.in-Some-get_mut.mutation _ _ c.in-Some.mutation.now
    c.in-Some-get_mut.is (c.get_mut.follows.holds _) c.in-Some-get_mut.ensures.value c.in-Some.ensures more (λ i. record c.in-Some-get_mut.mutation.now { members = c.remove-2.ensures i })
