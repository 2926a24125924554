use Rattle.laws_machine.proofs.AnsweredWrites.{earlier_parts_are_settled}
use Rattle.laws_machine.proofs.earlier_parts.earlier_parts_are_settled.Goals as goal

pub returns : goal.returns
returns c = earlier_parts_are_settled
