use Rattle.chunk_table.proofs.Sound.{holds_empty}
use Rattle.chunk_table.proofs.table.Table.counting_from.Goals as goal

pub invariant_of-result : goal.invariant_of-result
invariant_of-result c = holds_empty _ _ _ _ _ c.new.ensures c.new-2.ensures c.new-3.ensures c.requires.file c.requires.handle
