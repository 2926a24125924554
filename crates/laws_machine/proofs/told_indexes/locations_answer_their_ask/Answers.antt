use Rattle.laws_machine.proofs.Answerers.{locations_answer_their_ask}
use Rattle.laws_machine.proofs.told_indexes.locations_answer_their_ask.Goals as goal

pub returns : goal.returns
returns c = locations_answer_their_ask
