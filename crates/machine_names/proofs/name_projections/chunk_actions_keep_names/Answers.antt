use Rattle.machine_names.proofs.Chunks.{chunk_actions_keep_names}
use Rattle.machine_names.proofs.name_projections.chunk_actions_keep_names.Goals as goal

pub returns : goal.returns
returns c = chunk_actions_keep_names
