use Rattle.std.proofs.Common.{◌≡◌}
use Rattle.master_replay.specs.Room.{taken_back}
use Rattle.master_replay.proofs.room.adds_all.Given as goal

-- without what was added it is as it was
abbrev pub invariant-loop-copy : goal.invariant-loop-copy
invariant-loop-copy g l = record l.state { names = taken_back l.state.names l.added.items } ≡ record l.fn.state { names = taken_back l.fn.state.names l.fn.added.items }
