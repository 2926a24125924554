use Rattle.laws_machine.proofs.Answerers.{refusals_of_the_master_answer_an_ask}
use Rattle.laws_machine.proofs.refused_asks.refusals_of_the_master_answer_an_ask.Goals as goal

pub returns : goal.returns
returns c = refusals_of_the_master_answer_an_ask
