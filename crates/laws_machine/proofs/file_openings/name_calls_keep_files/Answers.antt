use Rattle.laws_machine.proofs.FileOpenings.{name_calls_keep_files}
use Rattle.laws_machine.proofs.file_openings.name_calls_keep_files.Goals as goal

pub returns : goal.returns
returns c = name_calls_keep_files
