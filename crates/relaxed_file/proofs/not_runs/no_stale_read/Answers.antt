use Rattle.relaxed_file.proofs.StaleReads.{no_stale_read}
use Rattle.relaxed_file.proofs.not_runs.no_stale_read.Goals as goal

pub returns : goal.returns
returns c = no_stale_read
