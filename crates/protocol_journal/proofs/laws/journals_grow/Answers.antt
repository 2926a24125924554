use Rattle.protocol_journal.proofs.Journals.{journals_grow as proved}
use Rattle.protocol_journal.proofs.laws.journals_grow.Goals as goal

pub returns : goal.returns
returns c = proved
