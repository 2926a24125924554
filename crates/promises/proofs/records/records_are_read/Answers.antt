use Rattle.promises.proofs.ReadRecords.{own_records_are_read, records_are_read, seen_rounds_suffice}
use Rattle.promises.proofs.records.records_are_read.Goals as goal

pub returns-clause-any : goal.returns-clause-any
returns-clause-any c = records_are_read

pub returns-clause-own : goal.returns-clause-own
returns-clause-own c = own_records_are_read

pub returns-clause-seen : goal.returns-clause-seen
returns-clause-seen c = seen_rounds_suffice
