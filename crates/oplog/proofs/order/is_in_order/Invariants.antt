use Rattle.std.proofs.Common.{◌≡◌, length}
use Rattle.oplog.specs.Order.{is_in_order}
use Rattle.oplog.proofs.order.is_in_order.Given as goal

abbrev pub invariant-loop-rest : goal.invariant-loop-rest
invariant-loop-rest l = is_in_order l.items ≡ is_in_order l.rest

abbrev pub decreases-loop-rest : goal.decreases-loop-rest
decreases-loop-rest l = length l.rest
