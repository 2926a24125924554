use Rattle.promises.proofs.Lengths.{lengths_reach_records}
use Rattle.promises.proofs.reads.lengths_reach_records.Goals as goal

pub returns : goal.returns
returns c = lengths_reach_records
