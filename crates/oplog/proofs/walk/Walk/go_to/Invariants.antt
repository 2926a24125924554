use Rattle.std.proofs.Common.{◌≤◌, ◌-◌, List}
use Rattle.log_records.specs.declared.record.Record.{Record}
use Rattle.oplog.specs.Walks.{IsWalk}
use Rattle.oplog.proofs.walk.Walk.go_to.Given as goal

abbrev pub invariant-loop-self : goal.invariant-loop-self
invariant-loop-self l = ((all : List Record) → IsWalk all l.fn.self → IsWalk all l.self) × (l.self.place ≤ l.place)

abbrev pub decreases-loop-self : goal.decreases-loop-self
decreases-loop-self l = l.place - l.self.place
