use Rattle.std.proofs.Common.{◌≡◌, ◌++◌, take}
use Rattle.oplog.specs.Walks.{IsWalk}
use Rattle.oplog.proofs.collecting.collect_walk.Given as goal

abbrev pub invariant-loop-number : goal.invariant-loop-number
invariant-loop-number l =
    IsWalk (l.items ++ l.records) l.walk × (l.walk.place ≡ l.number) × (l.entries.items ≡ take l.number (l.items ++ l.records))
