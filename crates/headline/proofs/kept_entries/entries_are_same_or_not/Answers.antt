use Rattle.headline.proofs.KeptEntries.{entries_are_same_or_not}
use Rattle.headline.proofs.kept_entries.entries_are_same_or_not.Goals as goal

pub returns : goal.returns
returns c = entries_are_same_or_not
