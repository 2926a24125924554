use Rattle.promises.proofs.StandingRecords.{answered_records_stand, records_keep_their_place}
use Rattle.promises.proofs.records.answered_records_stand.Goals as goal

pub returns-clause-stand : goal.returns-clause-stand
returns-clause-stand c = answered_records_stand

pub returns-clause-keep : goal.returns-clause-keep
returns-clause-keep c = records_keep_their_place
