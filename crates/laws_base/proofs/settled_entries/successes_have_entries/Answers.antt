use Rattle.laws_base.proofs.SettledEntries.{successes_have_entries}
use Rattle.laws_base.proofs.settled_entries.successes_have_entries.Goals as goal

pub returns : goal.returns
returns c = successes_have_entries
