use Rattle.std.proofs.Common.{◌≡◌, ◌+◌, List, sym, ap, subst, ◌∙◌}
use Rattle.std.specs.Io.KnownBytes.{Appends}
use Rattle.gfs_types.specs.declared.answer.Answer.{Answer}
use Rattle.live.specs.Live.{told_by}
use Rattle.live.specs.declared.play.Player.{Player}
use Rattle.cell_looks.proofs.Appending.{appends_none}
use Rattle.live.proofs.Telling.{from_next, from_all}
use Rattle.live.proofs.printing.print_all.Goals as goal

pub loop-before-init : goal.loop-before-init
loop-before-init g c = appends_none _

pub loop-before-preserved : goal.loop-before-preserved
loop-before-preserved g c =
    let at = c.index-players-before in
    let answers_are : c.as_slice.result.now ≡ at.result.answers.items = c.as_slice.ensures.value ∙ ap (λ (p : Player). p.answers.items) (sym at.is) in
    let printed = subst (λ (xs : List Answer). Appends (g.W.Write.contents c.loop-before.writer) (g.W.Write.contents c.print_answers.new.writer) (told_by (c.loop-before.before + 1) xs)) answers_are c.in_ok-print_answers.ensures.printed in
    from_next (λ (p : Player). p.answers.items) _ _ _ c.args.players.now c.loop-before.before at.result c.loop-before-test.true at.is c.loop-before.invariant printed

pub returns-clause-printed : goal.returns-clause-printed
returns-clause-printed g c = from_all (λ (p : Player). p.answers.items) _ _ _ c.args.players.now c.loop-before.before c.loop-before-test.false c.loop-before.invariant c.in_ok-flush.ensures.keeps
