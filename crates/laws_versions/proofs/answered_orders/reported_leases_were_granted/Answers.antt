use Rattle.laws_versions.proofs.AnsweredOrders.{reported_leases_were_granted}
use Rattle.laws_versions.proofs.answered_orders.reported_leases_were_granted.Goals as goal

pub returns : goal.returns
returns c = reported_leases_were_granted
