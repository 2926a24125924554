use Rattle.std.proofs.Common.{subst, sym}
use Rattle.disk.specs.Writes.{DiskState, GoesOn, LeftBy}
use Rattle.disk.proofs.Calls.{only_marked, sync_goes_on}
use Rattle.disk.proofs.memory.MemDiskDisk.sync.Goals as goal

pub returns-clause-durable : goal.returns-clause-durable
returns-clause-durable g c = λ image left. only_marked c.args.self.now.writes c.args.self.now.bytes image (subst (λ (d : DiskState). LeftBy d image) c.mark.ensures.marked left)

pub returns-clause-time : goal.returns-clause-time
returns-clause-time g c = subst (λ (d : DiskState). GoesOn c.args.self.now d) (sym c.mark.ensures.marked) (sync_goes_on c.args.self.now)
