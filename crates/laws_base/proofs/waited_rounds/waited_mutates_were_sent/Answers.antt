use Rattle.laws_base.proofs.WaitedMutates.{waited_mutates_were_sent}
use Rattle.laws_base.proofs.waited_rounds.waited_mutates_were_sent.Goals as goal

pub returns : goal.returns
returns c = waited_mutates_were_sent
