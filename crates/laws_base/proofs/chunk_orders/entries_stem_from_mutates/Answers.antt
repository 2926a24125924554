use Rattle.laws_base.proofs.Numbering.{entries_stem_from_mutates}
use Rattle.laws_base.proofs.chunk_orders.entries_stem_from_mutates.Goals as goal

pub returns : goal.returns
returns c = entries_stem_from_mutates
