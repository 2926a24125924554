use Rattle.protocol_journal.proofs.CutJournals.{journals_with_bases_are_lawful as proved}
use Rattle.protocol_journal.proofs.based_journals.journals_with_bases_are_lawful.Goals as goal

pub returns : goal.returns
returns c = proved
