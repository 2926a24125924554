use Rattle.laws_names.proofs.LocksAndFiles.{chunks_change_no_names}
use Rattle.laws_names.proofs.name_steps.chunks_change_no_names.Goals as goal

pub returns : goal.returns
returns c = chunks_change_no_names
