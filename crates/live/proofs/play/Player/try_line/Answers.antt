use Rattle.std.proofs.Common.{sym, ◌∙◌}
use Rattle.live.specs.declared.play.Player.{Player}
use Rattle.live.proofs.Players.{one_line, where_ok}
use Rattle.live.proofs.play.Player.try_line.Goals as goal

pub returns-then-not-self : goal.returns-then-not-self
returns-then-not-self g c =
    let q : Player = record { id = c.play_line.new.self.id; seat = c.play_line.new.self.seat; answers = c.play_line.new.self.answers; lacked_memory = c.is_err-self.result } in
    let same = c.play_line.ensures.same in
    one_line c.args.self.now q c.args.line.now (record { id = same.id; node = same.node; earlier = same.earlier; cell = same.cell }) (λ _. c.if-not-self.true)
    (λ none. where_ok c.play_line.result (sym c.is_err-self.ensures.value ∙ none) c.play_line.ensures.played)
