use Rattle.laws_names.proofs.NameRecords.{looks_read_the_names}
use Rattle.laws_names.proofs.names.looks_read_the_names.Goals as goal

pub returns : goal.returns
returns c = looks_read_the_names
