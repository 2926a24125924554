use Rattle.laws_machine.proofs.MasterKept.{copies_may_come_and_go}
use Rattle.laws_machine.proofs.master_steps.copies_may_come_and_go.Goals as goal

pub returns : goal.returns
returns c = copies_may_come_and_go
