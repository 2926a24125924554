use Rattle.cell_core.proofs.Explained.{promises_kept}
use Rattle.cell_core.proofs.kept_promises.promises_are_kept.Goals as goal

pub returns : goal.returns
returns c = promises_kept
