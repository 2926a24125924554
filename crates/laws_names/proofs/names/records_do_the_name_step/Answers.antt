use Rattle.laws_names.proofs.NameRecords.{records_do_the_name_step}
use Rattle.laws_names.proofs.names.records_do_the_name_step.Goals as goal

pub returns : goal.returns
returns c = records_do_the_name_step
