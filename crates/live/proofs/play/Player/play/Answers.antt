use Rattle.live.proofs.Players.{nothing_to_play, plays_next, plays_all}
use Rattle.live.proofs.play.Player.play.Goals as goal

pub loop-before-init : goal.loop-before-init
loop-before-init g c = nothing_to_play _

pub loop-before-preserved : goal.loop-before-preserved
loop-before-preserved g c =
    let at = c.index-lines-before in
    plays_next _ _ _ c.args.lines.now c.loop-before.before at.result c.loop-before-test.true at.is c.loop-before.invariant c.try_line.ensures

pub returns : goal.returns
returns g c = plays_all _ _ c.args.lines.now c.loop-before.before c.loop-before-test.false c.loop-before.invariant
