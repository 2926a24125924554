use Rattle.std.proofs.Common.{ℕ, ◌*◌, ◌<◌}
use mathlib.Core.List.{IsPrefix}
use Rattle.embedded_cell.specs.Reading.{IsLater, HasRead}
use Rattle.embedded_cell.proofs.follower.Follower.read_all.Given as goal

-- so many chunks were read whole
abbrev pub invariant-loop-index : goal.invariant-loop-index
invariant-loop-index g l = record {
  later : IsLater l.initial.self.seat l.self.seat;
  stays : IsPrefix l.initial.self.taken.items l.self.taken.items;
  done : (k : ℕ) → k < l.index → HasRead l.initial.self.seat l.self l.fd (k * 512) 512;
}
