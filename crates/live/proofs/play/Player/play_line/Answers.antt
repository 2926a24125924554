use Rattle.std.proofs.Common.{List, subst}
use Rattle.std.specs.Prelude.{OnOk}
use Rattle.gfs_types.specs.declared.call.Call.{Call}
use Rattle.live.specs.Playing.{PlaysOn}
use Rattle.live.proofs.Players.{same_player, plays_no_call, plays_no_other, its_calls}
use Rattle.live.proofs.play.Player.play_line.Goals as goal

pub returns-in_default : goal.returns-in_default
returns-in_default g c = record {
  same = same_player c.args.self.now;
  played = plays_no_call c.args.self.now c.args.line.now (λ times asked is. c.in_default.not-Calls times asked is);
}

pub returns-then-asked-self-clause-played : goal.returns-then-asked-self-clause-played
returns-then-asked-self-clause-played g c = plays_no_other c.args.self.now c.args.line.now c.in-Calls.times c.in-Calls.asked c.in-Calls.is c.if-asked-self.true

pub returns-clause-played : goal.returns-clause-played
returns-clause-played g c =
    subst (λ (l : List Call). OnOk c.repeat.result (PlaysOn c.args.self.now c.repeat.new.self l))
    (its_calls c.args.self.now.id.0 c.args.line.now c.in-Calls.times c.in-Calls.asked c.in-Calls.is c.if-asked-self.false) c.repeat.ensures.played
