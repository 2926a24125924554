use Rattle.laws_machine.proofs.ToldHolders.{logged_chunks_are_last_rounds}
use Rattle.laws_machine.proofs.told_holders.logged_chunks_are_last_rounds.Goals as goal

pub returns : goal.returns
returns c = logged_chunks_are_last_rounds
