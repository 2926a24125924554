use Rattle.std.proofs.Common.{◌≡◌, ◌≤◌, ◌++◌, List, length}
use Rattle.messages.specs.declared.event.Event.{Event}
use Rattle.cell_world.specs.Runs.{Runs}
use Rattle.cell_world.proofs.cell.CellState.run.Given as goal

-- the events before those that are left were run, with these answers, and there is room for an answer to each that is left
abbrev pub invariant-loop-event : goal.invariant-loop-event
invariant-loop-event g l = record {
  runs : (ran : List Event) × (ran ++ l.left.items ≡ l.fn.events) × Runs l.fn.self ran l.answers.items l.self;
  room : length l.left.items ≤ l.answers.room;
}

abbrev pub decreases-loop-event : goal.decreases-loop-event
decreases-loop-event g l = length l.left.items
