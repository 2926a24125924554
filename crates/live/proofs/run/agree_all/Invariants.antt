use Rattle.std.proofs.Common.{◌≡◌, ◌<◌, ℕ, Some}
use Rattle.std.specs.Prelude.{slice_get}
use Rattle.cell_journal.specs.WholeHistories.{whole_of}
use Rattle.live.specs.declared.play.Player.{Player}
use Rattle.live.specs.Live.{HasSeenPart}
use Rattle.live.proofs.run.agree_all.Given as goal

-- what the first ones saw begins the cell's history
abbrev pub invariant-loop-before : goal.invariant-loop-before
invariant-loop-before l = (k : ℕ) (p : Player) → k < l.before → slice_get l.fn.players k ≡ Some p → HasSeenPart (whole_of l.fn.journal.now) p.seat
