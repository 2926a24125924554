use Rattle.cell_core.proofs.Explained.{all_explained}
use Rattle.cell_core.proofs.kept_promises.answers_are_a_run.Goals as goal

pub returns : goal.returns
returns c = all_explained
