use Rattle.laws_names.proofs.NameRecords.{records_are_logged, snapshot_records_are_logged}
use Rattle.laws_names.proofs.names.records_are_logged.Goals as goal

pub returns-clause-call : goal.returns-clause-call
returns-clause-call c = records_are_logged

pub returns-clause-snapshot : goal.returns-clause-snapshot
returns-clause-snapshot c = snapshot_records_are_logged
