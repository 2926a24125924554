use Rattle.std.proofs.Common.{refl}
use Rattle.cell_journal.specs.WholeHistories.{whole_of}
use Rattle.live.specs.declared.play.Player.{Player}
use Rattle.live.specs.Live.{HasSeenPart}
use Rattle.live.proofs.Players.{first_more, first_none, first_all}
use Rattle.live.proofs.run.agree_all.Goals as goal

pub loop-before-init : goal.loop-before-init
loop-before-init c = first_none (λ (p : Player). HasSeenPart (whole_of c.args.journal.now.now) p.seat) c.args.players.now 0 refl

pub loop-before-preserved : goal.loop-before-preserved
loop-before-preserved c =
    let at = c.index-players-before in
    first_more (λ (p : Player). HasSeenPart (whole_of c.args.journal.now.now) p.seat) c.args.players.now c.loop-before.before at.result c.loop-before-test.true at.is c.loop-before.invariant
    c.agree_one.ensures

pub returns : goal.returns
returns c = first_all (λ (p : Player). HasSeenPart (whole_of c.args.journal.now.now) p.seat) c.args.players.now c.loop-before.before c.loop-before-test.false c.loop-before.invariant
