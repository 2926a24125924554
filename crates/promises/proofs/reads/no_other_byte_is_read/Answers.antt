use Rattle.promises.proofs.ReadBytes.{no_other_byte_is_read}
use Rattle.promises.proofs.reads.no_other_byte_is_read.Goals as goal

pub returns : goal.returns
returns c = no_other_byte_is_read
