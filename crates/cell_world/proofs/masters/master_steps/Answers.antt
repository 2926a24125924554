use Rattle.cell_world.proofs.Lost.{master_lost}
use Rattle.cell_world.proofs.masters.master_steps.Goals as goal

pub returns-then-is_err-clause-steps : goal.returns-then-is_err-clause-steps
returns-then-is_err-clause-steps g c = master_lost _ _ _ _ _ _ c.requires.up c.stop.ensures.state c.reserve.ensures.sent c.reserve.ensures.seen
