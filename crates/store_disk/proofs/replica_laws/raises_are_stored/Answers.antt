use Rattle.store_disk.proofs.Stores.{raise_stored}
use Rattle.store_disk.proofs.replica_laws.raises_are_stored.Goals as goal

pub returns : goal.returns
returns c chunk block slots index disk d handle version found fits is there small = raise_stored chunk block slots index disk d fits is handle found version there small
