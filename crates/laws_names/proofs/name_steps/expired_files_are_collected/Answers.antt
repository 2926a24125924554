use Rattle.laws_names.proofs.LocksAndFiles.{expired_files_are_collected}
use Rattle.laws_names.proofs.name_steps.expired_files_are_collected.Goals as goal

pub returns : goal.returns
returns c = expired_files_are_collected
