use Rattle.std.proofs.Common.{refl, inl, inr}
use Rattle.running_nodes.proofs.client_stepper.with_copy.Goals as goal

pub returns-in-Ok-clause-step : goal.returns-in-Ok-clause-step
returns-in-Ok-clause-step c = inl (refl, refl)

pub returns-in-Err-clause-step : goal.returns-in-Err-clause-step
returns-in-Err-clause-step c = inr (c.in-Err.ensures.err, c.down_output.ensures, c.stops.ensures)
