use Rattle.headline.proofs.ClientWords.{clients_tell_nothing}
use Rattle.headline.proofs.client_words.clients_tell_nothing.Goals as goal

pub returns : goal.returns
returns c = clients_tell_nothing
