use Rattle.std.proofs.Common.{◌≡◌, get_or, refl, arith}
use Rattle.serve.proofs.Places.{first_none, first_more, first_all}
use Rattle.serve.proofs.Prints.{AsMany, as_many}
use Rattle.serve.proofs.run.are_all_printed.Goals as goal

pub loop-before-init : goal.loop-before-init
loop-before-init g c = first_none (AsMany c.args.asked.now) c.args.printed.now 0 refl

pub loop-before-preserved : goal.loop-before-preserved
loop-before-preserved g c =
    let at = c.index-printed-before in
    let here = c.loop-before.before in
    let same : get_or c.args.asked.now here 0 ≡ at.result.count = omega (arith, c.count.ensures.count) in
    first_more (AsMany c.args.asked.now) c.args.printed.now here at.result (omega arith) at.is c.loop-before.invariant (as_many c.args.asked.now here at.result same)

pub returns : goal.returns
returns g c = λ _. record {
  clients = omega arith;
  each = λ k count p to at. first_all (AsMany c.args.asked.now) c.args.printed.now c.loop-before.before (omega arith) c.loop-before.invariant k p at count to;
}
