use Rattle.laws_machine.proofs.AnsweredWrites.{answered_writes_have_their_bytes}
use Rattle.laws_machine.proofs.answered_writes.answered_writes_have_their_bytes.Goals as goal

pub returns : goal.returns
returns c = answered_writes_have_their_bytes
