use Rattle.std.proofs.Common.{◌≡◌, ◌-◌, length, take}
use Rattle.live.specs.Playing.{IsPlayed, IsReopened, Each}
use Rattle.live.proofs.run.play_all.Given as goal

-- all made their calls of so many lines, in this cell
abbrev pub invariant-loop-first : goal.invariant-loop-first
invariant-loop-first g l = record {
  cell : IsReopened l.fn.cell.of l.running.cell.of;
  count : length l.running.players.items ≡ length l.fn.players.items;
  played : Each (IsPlayed l.running.cell.of (take l.first l.fn.lines)) l.running.players.items;
}

abbrev pub decreases-loop-first : goal.decreases-loop-first
decreases-loop-first g l = length l.fn.lines - l.first
