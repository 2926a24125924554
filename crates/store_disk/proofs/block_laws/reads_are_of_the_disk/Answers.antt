use Rattle.store_disk.proofs.ReadBytes.{read_is}
use Rattle.store_disk.proofs.block_laws.reads_are_of_the_disk.Goals as goal

pub returns : goal.returns
returns c = read_is
