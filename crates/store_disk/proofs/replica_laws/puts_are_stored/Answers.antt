use Rattle.store_disk.proofs.Stores.{put_stored}
use Rattle.store_disk.proofs.replica_laws.puts_are_stored.Goals as goal

pub returns : goal.returns
returns c chunk block slots index disk d handle slot rest row bytes fits is none first le count small = put_stored chunk block slots index disk d fits is handle slot rest row bytes none first le count small
