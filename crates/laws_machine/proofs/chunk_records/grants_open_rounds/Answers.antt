use Rattle.laws_machine.proofs.Grants.{grants_open_rounds}
use Rattle.laws_machine.proofs.chunk_records.grants_open_rounds.Goals as goal

pub returns : goal.returns
returns c = grants_open_rounds
