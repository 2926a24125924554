use Rattle.std.proofs.Common.{◌≡◌, ◌<◌, ℕ, Some, false}
use Rattle.std.specs.Prelude.{slice_get}
use Rattle.live.specs.declared.play.Player.{Player}
use Rattle.live.proofs.run.lack_memory.Given as goal

-- the first ones lacked none
abbrev pub invariant-loop-before : goal.invariant-loop-before
invariant-loop-before l = (k : ℕ) (p : Player) → k < l.before → slice_get l.fn.players k ≡ Some p → p.lacked_memory ≡ false
