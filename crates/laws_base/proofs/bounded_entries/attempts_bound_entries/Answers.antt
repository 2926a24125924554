use Rattle.laws_base.proofs.BoundedEntries.{attempts_bound_entries}
use Rattle.laws_base.proofs.bounded_entries.attempts_bound_entries.Goals as goal

pub returns : goal.returns
returns c = attempts_bound_entries
