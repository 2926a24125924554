use Rattle.stored_log.proofs.Causes.{log_cause}
use Rattle.stored_log.proofs.entries.walk_before.Goals as goal

pub returns-in-Err-clause-cause : goal.returns-in-Err-clause-cause
returns-in-Err-clause-cause g c = log_cause _ _ _ c.in-Err.fault c.fault_of.result c.fault_of.ensures.value c.in-Err.ensures.cause
