use Rattle.laws_base.proofs.SettledEntries.{waiting_mutations_have_entries}
use Rattle.laws_base.proofs.settled_entries.waiting_mutations_have_entries.Goals as goal

pub returns : goal.returns
returns c = waiting_mutations_have_entries
