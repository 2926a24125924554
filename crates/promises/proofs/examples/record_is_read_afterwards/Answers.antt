use Rattle.promises.proofs.WorkedTrace.{record_is_read_afterwards}
use Rattle.promises.proofs.examples.record_is_read_afterwards.Goals as goal

pub returns : goal.returns
returns c = record_is_read_afterwards
