use Rattle.laws_machine.proofs.Orders.{numbered_mutations_are_placed}
use Rattle.laws_machine.proofs.entry_steps.numbered_mutations_are_placed.Goals as goal

pub returns : goal.returns
returns c = numbered_mutations_are_placed
