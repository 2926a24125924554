use Rattle.store_disk.proofs.Rotten.{byte_rotten}
use Rattle.store_disk.proofs.block_laws.rot_lies_in_its_place.Goals as goal

pub returns : goal.returns
returns c r place byte low = byte_rotten r.bytes place byte low
