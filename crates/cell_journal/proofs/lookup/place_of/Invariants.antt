use Rattle.std.proofs.Common.{◌≤◌, ◌<◌, ◌-◌, length, take}
use Rattle.cell_journal.specs.CountedEntries.{sent_in}
use Rattle.cell_journal.specs.Retained.{first_of}
use Rattle.cell_journal.proofs.lookup.place_of.Given as goal

-- the row is one from the lower place, which stays, to before the higher one
abbrev pub invariant-loop-high : goal.invariant-loop-high
invariant-loop-high l = record {
  stays : first_of l.rows ≤ l.low;
  places : l.low < l.high;
  within : l.high ≤ length l.rows.all;
  after : length (sent_in (take l.low l.rows.all)) < l.number;
  until : l.number ≤ length (sent_in (take l.high l.rows.all));
}

abbrev pub decreases-loop-high : goal.decreases-loop-high
decreases-loop-high l = l.high - l.low
