use Rattle.std.proofs.Common.{◌≡◌, List, length, sym, ap, subst, ◌∙◌, arith}
use Rattle.live.specs.declared.play.Player.{Player}
use Rattle.live.specs.Playing.{AllPlay}
use Rattle.live.proofs.Players.{written_back}
use Rattle.live.proofs.run.play_part.Goals as goal

pub returns : goal.returns
returns g c =
    let olds = c.args.players.now.items in
    let news = c.play_on_threads.new.players in
    let count : length news ≡ c.args.players.now.len = omega (arith, c.args.players.now.ok.0, c.play_on_threads.ensures.0, ap length c.as_mut_slice.ensures.value) in
    let all = subst (λ (l : List Player). AllPlay c.args.lines.now l news) c.as_mut_slice.ensures.value c.play_on_threads.ensures in
    subst (λ (l : List Player). AllPlay c.args.lines.now olds l) (sym (written_back c.args.players.now.len news olds count)) all
