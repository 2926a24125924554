use Rattle.laws_machine.proofs.ToldHolders.{holders_are_seen}
use Rattle.laws_machine.proofs.told_holders.holders_are_seen.Goals as goal

pub returns : goal.returns
returns c = holders_are_seen
