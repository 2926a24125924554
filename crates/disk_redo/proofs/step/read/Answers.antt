use Rattle.disk_redo.proofs.Moments.{reads_one}
use Rattle.disk_redo.proofs.step.read.Goals as goal

pub returns-clause-reads : goal.returns-clause-reads
returns-clause-reads g c =
    let disk = g.D.Disk in
    let told = c.read.ensures in
    reads_one disk.seen disk.may_leave disk.moment disk.left_since c.args.disk.now c.read.new.self (λ f left. g.met.D.Disk.only_now c.args.disk.now f left) told.seen told.crash told.time
