use Rattle.stored_log.proofs.Causes.{other_cause, passed_cause}
use Rattle.stored_log.proofs.entries.entry_at.Goals as goal

pub returns-in_err-walk-clause-cause : goal.returns-in_err-walk-clause-cause
returns-in_err-walk-clause-cause g c = passed_cause _ _ _ c.from_residual.result c.in_err-walk.field-0.0 c.from_residual.ensures.1 c.in_err-walk.ensures.cause

pub returns-in-Err-clause-cause : goal.returns-in-Err-clause-cause
returns-in-Err-clause-cause g c = other_cause _ _ _ c.fault_read.result c.walk_before.ensures.cause.later c.fault_read.ensures
