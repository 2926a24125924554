use Rattle.cell_run.proofs.Fresh.{no_flag}
use Rattle.cell_run.proofs.parked.first_flags.Goals as goal

pub loop-before-init : goal.loop-before-init
loop-before-init c = λ k past. no_flag 64 k
