use Rattle.promises.proofs.KeptPromises.{answered_reads_have_a_file, reads_are_selections}
use Rattle.promises.proofs.reads.reads_are_selections.Goals as goal

pub returns-clause-file : goal.returns-clause-file
returns-clause-file c = answered_reads_have_a_file

pub returns-clause-gives : goal.returns-clause-gives
returns-clause-gives c = reads_are_selections
