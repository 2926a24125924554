use Rattle.std.proofs.Common.{◌-◌, length}
use Rattle.script.specs.Reading.{HasNoFeed, Loses}
use Rattle.script.proofs.reading.read_line.Given as goal

-- what was read is in the line
abbrev pub invariant-loop-reader : goal.invariant-loop-reader
invariant-loop-reader g l = record {
  feeds : HasNoFeed l.line.items;
  bytes : Loses (g.R.Read.remaining l.fn.reader) (g.R.Read.remaining l.reader) l.line.items;
}

abbrev pub decreases-loop-reader : goal.decreases-loop-reader
decreases-loop-reader g l = 8193 - length l.line.items
