use Rattle.std.proofs.Common.{take}
use Rattle.live.specs.Playing.{Plays}
use Rattle.live.proofs.play.Player.play.Given as goal

-- it made its calls of so many lines
abbrev pub invariant-loop-before : goal.invariant-loop-before
invariant-loop-before g l = Plays (take l.before l.fn.lines) l.fn.self l.self
