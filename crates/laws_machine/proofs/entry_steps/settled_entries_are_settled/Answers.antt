use Rattle.laws_machine.proofs.Orders.{settled_entries_are_settled}
use Rattle.laws_machine.proofs.entry_steps.settled_entries_are_settled.Goals as goal

pub returns : goal.returns
returns c = settled_entries_are_settled
