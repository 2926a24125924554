use Rattle.protocol_journal.proofs.Journals.{journals_are_runs as proved}
use Rattle.protocol_journal.proofs.laws.journals_are_runs.Goals as goal

pub returns : goal.returns
returns c = proved
