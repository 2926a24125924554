use Rattle.serve.proofs.Handing.{of_reading}
use Rattle.serve.proofs.reading.next_line.Goals as goal

pub returns-in-Err-clause-fault : goal.returns-in-Err-clause-fault
returns-in-Err-clause-fault g c = of_reading c.of_read.result c.of_read.ensures.either
