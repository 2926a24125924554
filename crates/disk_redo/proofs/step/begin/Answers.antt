use Rattle.disk_redo.proofs.Moments.{reads_one}
use Rattle.disk_redo.proofs.Runs.{forgot_on, reads_forgotten}
use Rattle.disk_redo.proofs.step.begin.Goals as goal

pub returns-clause-reads : goal.returns-clause-reads
returns-clause-reads g c =
    let disk = g.D.Disk in
    let told = c.forget_past.ensures in
    reads_forgotten disk.seen disk.may_leave disk.moment disk.left_since c.args.disk.now c.forget_past.new.self (λ f left. g.met.D.Disk.only_now c.args.disk.now f left) told.seen told.crash told.time

pub returns-clause-goes_on : goal.returns-clause-goes_on
returns-clause-goes_on g c start kept so_far =
    let disk = g.D.Disk in
    let told = c.forget_past.ensures in
    forgot_on disk.seen disk.may_leave disk.moment disk.left_since kept start c.args.disk.now c.forget_past.new.self told.seen told.crash told.time so_far
