use Rattle.relaxed_file.proofs.OwnReads.{own_successes_are_read}
use Rattle.relaxed_file.proofs.laws.own_successes_are_read.Goals as goal

pub returns : goal.returns
returns c = own_successes_are_read
