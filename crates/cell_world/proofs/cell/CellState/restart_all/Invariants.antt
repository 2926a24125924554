use Rattle.std.proofs.Common.{◌≤◌, []}
use Rattle.protocol_journal.specs.Rebased.{restart_events}
use Rattle.cell_world.specs.Runs.{Runs}
use Rattle.cell_world.proofs.cell.CellState.restart_all.Given as goal

-- the master and so many servers began again
abbrev pub invariant-loop-number : goal.invariant-loop-number
invariant-loop-number g l = record {
  runs : Runs l.fn.self (restart_events l.number l.now.0) [] l.self;
  most : l.number ≤ l.count;
}
