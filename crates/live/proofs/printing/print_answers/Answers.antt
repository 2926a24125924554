use Rattle.cell_looks.proofs.Appending.{appends_none}
use Rattle.live.proofs.Telling.{told_next, told_all}
use Rattle.live.proofs.printing.print_answers.Goals as goal

pub loop-before-init : goal.loop-before-init
loop-before-init g c = appends_none _

pub loop-before-preserved : goal.loop-before-preserved
loop-before-preserved g c =
    let at = c.index-answers-before in
    told_next _ _ _ c.args.client.0 c.args.answers.now c.loop-before.before at.result c.loop-before-test.true at.is c.loop-before.invariant c.in_ok-print_line.ensures.printed

pub returns-clause-printed : goal.returns-clause-printed
returns-clause-printed g c = told_all _ _ c.args.client.0 c.args.answers.now c.loop-before.before c.loop-before-test.false c.loop-before.invariant
