use Rattle.protocol_journal.proofs.CutJournals.{journals_without_bases_are_whole as proved}
use Rattle.protocol_journal.proofs.based_journals.journals_without_bases_are_whole.Goals as goal

pub returns : goal.returns
returns c = proved
