use Rattle.std.proofs.Common.{◌+◌, ◌<◌, take}
use Rattle.cell_journal.specs.WholeHistories.{AreRestarts}
use Rattle.cell_seats.proofs.journal.all_restart.Given as goal

-- the master and so many servers began again
abbrev pub invariant-loop-before : goal.invariant-loop-before
invariant-loop-before l = record { restarts : AreRestarts l.before (take (l.before + 1) l.fn.history.entries); few : l.before < 65536 }
