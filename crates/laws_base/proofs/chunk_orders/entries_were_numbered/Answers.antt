use Rattle.laws_base.proofs.Numbering.{entries_were_numbered}
use Rattle.laws_base.proofs.chunk_orders.entries_were_numbered.Goals as goal

pub returns : goal.returns
returns c = entries_were_numbered
