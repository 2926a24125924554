use Rattle.std.proofs.Common.{◌≡◌, ◌<◌, ◌++◌, map, length}
use Rattle.std.specs.Prelude.{All, Contains}
use Rattle.cell_journal.specs.WholeHistories.{whole_of}
use Rattle.cell_seats.specs.Journals.{all_in}
use Rattle.cell_world.specs.Kept.{blank_seen}
use Rattle.cell_looks.specs.Noted.{noted, noted_in}
use Rattle.cell_looks.proofs.Behind.{behind}
use Rattle.cell_looks.proofs.history_sights.sights_of.Given as goal

-- what is left completes what is noted
abbrev pub invariant-loop-earliest : goal.invariant-loop-earliest
invariant-loop-earliest l = record {
  seen : l.sights.seen ++ map blank_seen (behind noted (map (λ j. j.now.now) l.left.items)) ≡ map blank_seen (noted_in (whole_of l.fn.journal.now));
  room : 0 < l.sights.room;
  are : All (λ j. Contains (all_in l.fn.journal) j.now.now) l.left.items;
}

abbrev pub decreases-loop-earliest : goal.decreases-loop-earliest
decreases-loop-earliest l = length l.left.items
