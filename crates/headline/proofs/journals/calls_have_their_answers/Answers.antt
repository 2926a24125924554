use Rattle.headline.proofs.AnswerKinds.{calls_have_their_answers}
use Rattle.headline.proofs.journals.calls_have_their_answers.Goals as goal

pub returns : goal.returns
returns c = calls_have_their_answers
