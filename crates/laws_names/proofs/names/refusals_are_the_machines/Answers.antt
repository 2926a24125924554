use Rattle.laws_names.proofs.NameRecords.{refusals_are_the_machines}
use Rattle.laws_names.proofs.names.refusals_are_the_machines.Goals as goal

pub returns : goal.returns
returns c = refusals_are_the_machines
