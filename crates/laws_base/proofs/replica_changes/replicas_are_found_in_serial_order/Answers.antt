use Rattle.laws_base.proofs.Found.{replicas_are_found_in_serial_order}
use Rattle.laws_base.proofs.replica_changes.replicas_are_found_in_serial_order.Goals as goal

pub returns : goal.returns
returns c = replicas_are_found_in_serial_order
