use Rattle.ordered_map.proofs.Blocks.{without_any}
use Rattle.ordered_map.proofs.block.Block.new.Goals as goal

pub returns : goal.returns
returns g c = without_any c.new.result.items
