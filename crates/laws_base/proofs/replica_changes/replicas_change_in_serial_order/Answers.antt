use Rattle.laws_base.proofs.Changes.{replicas_change_in_serial_order}
use Rattle.laws_base.proofs.replica_changes.replicas_change_in_serial_order.Goals as goal

pub returns : goal.returns
returns c = replicas_change_in_serial_order
