use Rattle.std.proofs.Common.{true}
use Rattle.oplog.proofs.OpenLogs.{counted_open}
use Rattle.oplog.proofs.log.Log.of_found.Goals as goal

pub invariant_of-log : goal.invariant_of-log
invariant_of-log g c =
    let found = c.args.found in
    counted_open g.D.Disk.seen g.D.Disk.may_leave c.new-volume.result found.number found.items found.records true c.new-volume.ensures.open

pub returns-clause-walk : goal.returns-clause-walk
returns-clause-walk g c = c.requires.found.walk
