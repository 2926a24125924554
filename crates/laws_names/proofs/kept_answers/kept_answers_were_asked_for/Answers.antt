use Rattle.laws_names.proofs.KeptAnswersReached.{kept_answers_were_asked_for}
use Rattle.laws_names.proofs.kept_answers.kept_answers_were_asked_for.Goals as goal

pub returns : goal.returns
returns c = kept_answers_were_asked_for
