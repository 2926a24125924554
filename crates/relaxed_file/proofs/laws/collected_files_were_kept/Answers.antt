use Rattle.relaxed_file.proofs.Kept.{collected_files_were_kept}
use Rattle.relaxed_file.proofs.laws.collected_files_were_kept.Goals as goal

pub returns : goal.returns
returns c = collected_files_were_kept
