use Rattle.std.proofs.Common.{◌≡◌, length}
use Rattle.live.specs.Playing.{IsNewPlayer, Each}
use Rattle.live.proofs.run.new_players.Given as goal

-- so many players were made
abbrev pub invariant-loop-before : goal.invariant-loop-before
invariant-loop-before l = record {
  made : l.cell.made ≡ l.before;
  cell : l.cell.of ≡ l.fn.cell.of;
  count : length l.all.items ≡ l.before;
  new : Each (IsNewPlayer l.fn.cell.of) l.all.items;
}
