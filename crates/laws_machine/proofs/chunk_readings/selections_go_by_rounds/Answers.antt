use Rattle.laws_machine.proofs.ChunkReadings.{selections_go_by_rounds}
use Rattle.laws_machine.proofs.chunk_readings.selections_go_by_rounds.Goals as goal

pub returns : goal.returns
returns c = selections_go_by_rounds
