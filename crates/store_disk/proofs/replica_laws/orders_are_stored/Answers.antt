use Rattle.store_disk.proofs.Keeping.{order_stored}
use Rattle.store_disk.proofs.replica_laws.orders_are_stored.Goals as goal

pub returns : goal.returns
returns c chunk block slots index disk d order small fits is = order_stored chunk block slots index disk d order small fits is
