use Rattle.machine_names.proofs.Chunks.{file_calls_keep_names}
use Rattle.machine_names.proofs.name_projections.file_calls_keep_names.Goals as goal

pub returns : goal.returns
returns c = file_calls_keep_names
