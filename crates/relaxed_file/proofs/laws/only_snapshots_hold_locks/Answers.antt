use Rattle.relaxed_file.proofs.Holders.{only_snapshots_hold_locks}
use Rattle.relaxed_file.proofs.laws.only_snapshots_hold_locks.Goals as goal

pub returns : goal.returns
returns c = only_snapshots_hold_locks
