use Rattle.laws_machine.proofs.ToldStanding.{told_chunks_stand}
use Rattle.laws_machine.proofs.told_holders.told_chunks_stand.Goals as goal

pub returns : goal.returns
returns c = told_chunks_stand
