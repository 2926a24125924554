use Rattle.laws_base.proofs.AppendedBytes.{answered_appends_have_entries}
use Rattle.laws_base.proofs.answered_appends.answered_appends_have_entries.Goals as goal

pub returns : goal.returns
returns c = answered_appends_have_entries
