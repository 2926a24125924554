use Rattle.relaxed_file.proofs.Sources.{no_other_byte}
use Rattle.relaxed_file.proofs.laws.no_other_byte.Goals as goal

pub returns : goal.returns
returns c = no_other_byte
