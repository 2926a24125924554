use Rattle.headline.proofs.AllAnswers.{answers_are_so}
use Rattle.headline.proofs.answers.answers_are_so.Goals as goal

pub returns : goal.returns
returns c = answers_are_so
