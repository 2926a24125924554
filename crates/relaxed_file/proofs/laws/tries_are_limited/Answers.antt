use Rattle.relaxed_file.proofs.Limits.{tries_are_limited}
use Rattle.relaxed_file.proofs.AppendLimits.{append_tries_are_limited}
use Rattle.relaxed_file.proofs.laws.tries_are_limited.Goals as goal

pub returns-clause-chunk : goal.returns-clause-chunk
returns-clause-chunk c = tries_are_limited

pub returns-clause-file : goal.returns-clause-file
returns-clause-file c = append_tries_are_limited
