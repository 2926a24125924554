use Rattle.std.proofs.Common.{◌≡◌, ℕ, length}
use Rattle.master_replay.specs.Room.{taken_back}
use Rattle.master_replay.proofs.room.takes_back.Given as goal

-- what is left to take out gives what is wanted
abbrev pub invariant-loop-path : goal.invariant-loop-path
invariant-loop-path g l = record l.state { names = taken_back l.state.names l.added.items } ≡ record l.fn.state { names = taken_back l.fn.state.names l.fn.added.items }

abbrev pub decreases-loop-path : goal.decreases-loop-path
decreases-loop-path g l = length l.added.items
