use Rattle.laws_base.proofs.NamesLogged.{log_has_the_chunks}
use Rattle.laws_base.proofs.laws.log_has_the_chunks.Goals as goal

pub returns : goal.returns
returns c = log_has_the_chunks
