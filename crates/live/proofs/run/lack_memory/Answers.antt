use Rattle.std.proofs.Common.{◌≡◌, false, refl}
use Rattle.live.specs.declared.play.Player.{Player}
use Rattle.live.proofs.Players.{first_none}
use Rattle.live.proofs.run.lack_memory.Goals as goal

pub loop-before-init : goal.loop-before-init
loop-before-init c = first_none (λ (p : Player). p.lacked_memory ≡ false) c.args.players.now 0 refl
