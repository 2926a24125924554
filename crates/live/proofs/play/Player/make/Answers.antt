use Rattle.std.proofs.Common.{[], ◌∷◌, ◌++◌, ap, ◌∙◌}
use Rattle.gfs_types.specs.declared.answer.Answer.{Answer}
use Rattle.live.specs.declared.play.Player.{Player}
use Rattle.live.proofs.Players.{made_answered, made_refused}
use Rattle.live.proofs.play.Player.make.Goals as goal
use Rattle.live.proofs.play.Player.make.Goals.{in-Ok, in-Err}

pub returns-clause-played : goal.returns-clause-played
returns-clause-played g c =
    let p = c.args.self.now in
    let q : Player = record { id = p.id; seat = c.call.new.self; answers = c.push.new.self; lacked_memory = p.lacked_memory } in
    let kept = λ (a : Answer). p.answers.items ++ a ∷ [] in
    elim c.match-call.branch [
      | in-Ok w ↦ made_answered p q c.args.call w.in-Ok.answer w.in-Ok.ensures.ok (c.in_ok-push.ensures.items ∙ ap kept w.answer-is)
      | in-Err w ↦ made_refused p q c.args.call w.in-Err.refusal w.in-Err.ensures.err (c.in_ok-push.ensures.items ∙ ap kept w.answer-is)
    ]
