use Rattle.std.proofs.Common.{length}
use Rattle.disk_redo.proofs.Runs.{written_on}
use Rattle.disk_redo.proofs.step.write.Goals as goal

pub returns-clause-goes_on : goal.returns-clause-goes_on
returns-clause-goes_on g c start kept misses so_far =
    let told = c.write_at.ensures in
    written_on g.D.Disk.seen g.D.Disk.may_leave g.D.Disk.moment g.D.Disk.left_since kept c.args.at (length c.args.bytes.now) start c.args.disk.now c.write_at.new.self misses told.elsewhere told.crash told.time so_far
