use Rattle.machine_names.proofs.Named.{named_files_are_there, files_have_one_name}
use Rattle.machine_names.proofs.named_files.files_have_one_name.Goals as goal

pub returns-clause-there : goal.returns-clause-there
returns-clause-there c = named_files_are_there

pub returns-clause-one : goal.returns-clause-one
returns-clause-one c = files_have_one_name
