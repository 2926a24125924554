use Rattle.laws_machine.proofs.Closings.{rounds_are_closed}
use Rattle.laws_machine.proofs.chunk_records.rounds_are_closed.Goals as goal

pub returns : goal.returns
returns c = rounds_are_closed
