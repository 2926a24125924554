use Rattle.std.proofs.Common.{refl}
use Rattle.serve.proofs.Places.{first_none, first_more, first_all}
use Rattle.serve.proofs.Prints.{Meets, meets_there}
use Rattle.serve.proofs.run.meet_each.Goals as goal

pub loop-before-init : goal.loop-before-init
loop-before-init g c = first_none (Meets c.args.printed.now c.args.one) c.args.printed.now 0 refl

pub loop-before-preserved : goal.loop-before-preserved
loop-before-preserved g c =
    let all = c.args.printed.now in
    let mine = c.index-printed-one in
    let at = c.index-printed-before in
    first_more (Meets all c.args.one) all c.loop-before.before at.result c.loop-before-test.true at.is c.loop-before.invariant
    (meets_there all c.args.one mine.result at.result c.requires mine.is c.meet.ensures c.loop-before.before)

pub returns : goal.returns
returns g c = λ j p q mine at. first_all (Meets c.args.printed.now c.args.one) c.args.printed.now c.loop-before.before c.loop-before-test.false c.loop-before.invariant j q at p mine
