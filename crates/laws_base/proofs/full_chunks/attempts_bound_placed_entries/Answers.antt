use Rattle.laws_base.proofs.PlacedEntries.{attempts_bound_placed_entries}
use Rattle.laws_base.proofs.full_chunks.attempts_bound_placed_entries.Goals as goal

pub returns : goal.returns
returns c = attempts_bound_placed_entries
