use Rattle.promises.proofs.WorkedTrace.{record_is_read_after_open}
use Rattle.promises.proofs.examples.record_is_read_after_open.Goals as goal

pub returns : goal.returns
returns c = record_is_read_after_open
