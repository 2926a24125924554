use Rattle.laws_base.proofs.Forwards.{forwards_name_entries}
use Rattle.laws_base.proofs.caused_words.forwards_name_entries.Goals as goal

pub returns : goal.returns
returns c = forwards_name_entries
