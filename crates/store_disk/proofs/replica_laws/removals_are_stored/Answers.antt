use Rattle.store_disk.proofs.Stores.{remove_stored}
use Rattle.store_disk.proofs.replica_laws.removals_are_stored.Goals as goal

pub returns : goal.returns
returns c chunk block slots index disk d handle found fits is there = remove_stored chunk block slots index disk d fits is handle found there
