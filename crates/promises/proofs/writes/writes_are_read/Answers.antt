use Rattle.promises.proofs.WrittenParts.{own_writes_are_read, writes_are_read}
use Rattle.promises.proofs.writes.writes_are_read.Goals as goal

pub returns-clause-any : goal.returns-clause-any
returns-clause-any c = writes_are_read

pub returns-clause-own : goal.returns-clause-own
returns-clause-own c = own_writes_are_read
