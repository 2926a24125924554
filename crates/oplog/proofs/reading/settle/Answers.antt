use Rattle.oplog.proofs.Starting.{settled}
use Rattle.oplog.proofs.reading.settle.Goals as goal

pub returns-clause-reads : goal.returns-clause-reads
returns-clause-reads g c =
    let disk = g.D.Disk in
    let told = c.forget_past.ensures in
    let after = c.sync.ensures in
    settled disk.seen disk.may_leave disk.moment disk.left_since c.args.disk.now c.forget_past.new.self c.sync.new.self (λ d f left. g.met.D.Disk.only_now d f left) told.seen told.crash told.time after.seen after.crash after.time
