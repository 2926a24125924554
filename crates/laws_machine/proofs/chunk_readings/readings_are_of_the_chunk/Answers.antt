use Rattle.laws_machine.proofs.ChunkReadings.{readings_are_of_the_chunk}
use Rattle.laws_machine.proofs.chunk_readings.readings_are_of_the_chunk.Goals as goal

pub returns : goal.returns
returns c = readings_are_of_the_chunk
