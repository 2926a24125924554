use Rattle.std.proofs.Common.{◌≡◌, ◌<◌, ◌++◌, drop, map}
use Rattle.cell_world.specs.Kept.{blank_seen}
use Rattle.cell_looks.specs.Noted.{noted_in}
use Rattle.cell_looks.proofs.history_sights.note_all.Given as goal

-- what is left completes what is noted
abbrev pub invariant-loop-place : goal.invariant-loop-place
invariant-loop-place l = record {
  seen : l.sights.seen ++ map blank_seen (noted_in (drop l.place l.fn.history.entries)) ≡ l.fn.sights.seen ++ map blank_seen (noted_in l.fn.history.entries);
  room : 0 < l.sights.room;
}
