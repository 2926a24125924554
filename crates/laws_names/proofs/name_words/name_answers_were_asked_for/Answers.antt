use Rattle.laws_names.proofs.NameWords.{name_answers_were_asked_for}
use Rattle.laws_names.proofs.name_words.name_answers_were_asked_for.Goals as goal

pub returns : goal.returns
returns c = name_answers_were_asked_for
