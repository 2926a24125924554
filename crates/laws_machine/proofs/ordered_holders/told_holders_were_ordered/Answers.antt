use Rattle.laws_machine.proofs.OrderedHolders.{told_holders_were_ordered}
use Rattle.laws_machine.proofs.ordered_holders.told_holders_were_ordered.Goals as goal

pub returns : goal.returns
returns c = told_holders_were_ordered
