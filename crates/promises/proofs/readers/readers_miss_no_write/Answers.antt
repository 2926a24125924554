use Rattle.promises.proofs.PartReads.{answers_reach_writes, readers_miss_no_write}
use Rattle.promises.proofs.readers.readers_miss_no_write.Goals as goal

pub returns-clause-reach : goal.returns-clause-reach
returns-clause-reach c = answers_reach_writes

pub returns-clause-any : goal.returns-clause-any
returns-clause-any c = readers_miss_no_write
