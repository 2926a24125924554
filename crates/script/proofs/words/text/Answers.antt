use Rattle.script.proofs.WordLemmas.{text_is, no_text}
use Rattle.script.proofs.words.text.Goals as goal

pub returns-in-Ok : goal.returns-in-Ok
returns-in-Ok c = text_is c.args.word.now _ c.in-Ok.ensures.cases.1 c.in-Ok.ensures.cases.0

pub returns-in-Err : goal.returns-in-Err
returns-in-Err c = no_text c.args.word.now c.in-Err.ensures.cases.0
