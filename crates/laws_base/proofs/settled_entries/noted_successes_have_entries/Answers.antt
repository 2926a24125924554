use Rattle.laws_base.proofs.SettledEntries.{noted_successes_have_entries}
use Rattle.laws_base.proofs.settled_entries.noted_successes_have_entries.Goals as goal

pub returns : goal.returns
returns c = noted_successes_have_entries
