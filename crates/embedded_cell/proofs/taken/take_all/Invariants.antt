use Rattle.std.proofs.Common.{ℕ, ◌<◌}
use mathlib.Core.List.{IsPrefix}
use Rattle.embedded_cell.specs.Reading.{IsTakenAt}
use Rattle.embedded_cell.proofs.taken.take_all.Given as goal

-- the records that begin at so many places were taken
abbrev pub invariant-loop-place : goal.invariant-loop-place
invariant-loop-place l = record {
  stays : IsPrefix l.fn.taken.items l.taken.items;
  takes : (k : ℕ) → k < l.place → IsTakenAt l.fn.bytes l.fn.offset k l.taken.items;
}
