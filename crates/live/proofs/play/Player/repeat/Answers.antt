use Rattle.std.proofs.Common.{◌≡◌, ℕ, [], ◌∷◌, subst, arith}
use Rattle.std.specs.Prelude.{replicate}
use Rattle.gfs_types.specs.declared.call.Call.{Call}
use Rattle.live.specs.Playing.{PlaysOn}
use Rattle.live.proofs.Players.{still_same, made_again}
use Rattle.live.proofs.play.Player.repeat.Goals as goal

pub loop-made-preserved : goal.loop-made-preserved
loop-made-preserved g c =
    let one = subst (λ (x : Call). PlaysOn c.loop-made.self c.make.new.self (x ∷ [])) c.in_ok-copy.ensures c.in_ok-make.ensures.played in
    record {
      within = omega arith;
      same = still_same c.args.self.now c.loop-made.self c.make.new.self c.loop-made.invariant.same c.make.ensures.same;
      played = made_again c.args.self.now c.loop-made.self c.make.new.self c.loop-made.made c.args.call.now c.loop-made.invariant.played one;
    }

pub returns-clause-played : goal.returns-clause-played
returns-clause-played g c =
    let all : c.loop-made.made ≡ c.args.times = omega (arith, c.loop-made.invariant.within, c.loop-made-test.false) in
    subst (λ (n : ℕ). PlaysOn c.args.self.now c.loop-made.self (replicate n c.args.call.now)) all c.loop-made.invariant.played
