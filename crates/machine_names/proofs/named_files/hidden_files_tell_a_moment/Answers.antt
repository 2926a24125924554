use Rattle.machine_names.proofs.Named.{hidden_files_tell_a_moment}
use Rattle.machine_names.proofs.named_files.hidden_files_tell_a_moment.Goals as goal

pub returns : goal.returns
returns c = hidden_files_tell_a_moment
