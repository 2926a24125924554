use Rattle.relaxed_file.proofs.Successes.{settled_entries_stay, answered_appends_stay, answered_writes_stay}
use Rattle.relaxed_file.proofs.laws.successes_stay.Goals as goal

pub returns-clause-entries : goal.returns-clause-entries
returns-clause-entries c = settled_entries_stay

pub returns-clause-appends : goal.returns-clause-appends
returns-clause-appends c = answered_appends_stay

pub returns-clause-writes : goal.returns-clause-writes
returns-clause-writes c = answered_writes_stay
