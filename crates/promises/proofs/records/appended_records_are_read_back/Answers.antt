use Rattle.promises.proofs.LeftAlone.{appends_leave_records_alone}
use Rattle.promises.proofs.ReadRecords.{appended_records_are_read_back}
use Rattle.promises.proofs.records.appended_records_are_read_back.Goals as goal

pub returns-clause-alone : goal.returns-clause-alone
returns-clause-alone c = appends_leave_records_alone

pub returns-clause-back : goal.returns-clause-back
returns-clause-back c = appended_records_are_read_back
