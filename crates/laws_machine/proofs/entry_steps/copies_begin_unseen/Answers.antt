use Rattle.laws_machine.proofs.Orders.{copies_begin_unseen}
use Rattle.laws_machine.proofs.entry_steps.copies_begin_unseen.Goals as goal

pub returns : goal.returns
returns c = copies_begin_unseen
