use Rattle.laws_machine.proofs.FileOpenings.{name_steps_keep_files}
use Rattle.laws_machine.proofs.file_openings.name_steps_keep_files.Goals as goal

pub returns : goal.returns
returns c = name_steps_keep_files
