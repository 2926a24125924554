use Rattle.relaxed_file.proofs.Collected.{collected_files_are_closed}
use Rattle.relaxed_file.proofs.laws.collected_files_are_closed.Goals as goal

pub returns : goal.returns
returns c = collected_files_are_closed
