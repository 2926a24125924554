use Rattle.machine_names.proofs.Changed.{no_byte_of_another_file, no_write_into_snapshot, no_write_through_snapshot}
use Rattle.machine_names.proofs.false_traces.no_byte_of_another_file.Goals as goal

pub returns-clause-files : goal.returns-clause-files
returns-clause-files c = no_byte_of_another_file

pub returns-clause-copy : goal.returns-clause-copy
returns-clause-copy c = no_write_through_snapshot

pub returns-clause-source : goal.returns-clause-source
returns-clause-source c = no_write_into_snapshot
