use Rattle.protocol_journal.proofs.CutJournals.{bases_change_nothing_seen as proved}
use Rattle.protocol_journal.proofs.based_journals.bases_change_nothing_seen.Goals as goal

pub returns : goal.returns
returns c = proved
