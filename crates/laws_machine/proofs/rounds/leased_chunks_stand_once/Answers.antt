use Rattle.laws_machine.proofs.EndedRounds.{leased_chunks_stand_once}
use Rattle.laws_machine.proofs.rounds.leased_chunks_stand_once.Goals as goal

pub returns : goal.returns
returns c = leased_chunks_stand_once
