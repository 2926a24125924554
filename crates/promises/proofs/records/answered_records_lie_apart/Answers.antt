use Rattle.promises.proofs.StandingRecords.{answered_records_lie_apart}
use Rattle.promises.proofs.records.answered_records_lie_apart.Goals as goal

pub returns : goal.returns
returns c = answered_records_lie_apart
