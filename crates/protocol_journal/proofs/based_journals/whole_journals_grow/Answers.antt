use Rattle.protocol_journal.proofs.CutJournals.{whole_journals_grow as proved}
use Rattle.protocol_journal.proofs.based_journals.whole_journals_grow.Goals as goal

pub returns : goal.returns
returns c = proved
