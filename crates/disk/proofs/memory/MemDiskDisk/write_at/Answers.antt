use Rattle.std.proofs.Common.{subst, sym}
use Rattle.disk.specs.Writes.{DiskState, GoesOn, LeftBy}
use Rattle.disk.proofs.Calls.{write_crash, write_goes_on}
use Rattle.disk.proofs.memory.MemDiskDisk.write_at.Goals as goal

pub returns-in-Ok-clause-crash : goal.returns-in-Ok-clause-crash
returns-in-Ok-clause-crash g c = λ image left. write_crash c.args.self.now c.args.at c.args.bytes.now image c.requires (subst (λ (d : DiskState). LeftBy d image) c.in-Ok.ensures.ok left)

pub returns-in-Ok-clause-time : goal.returns-in-Ok-clause-time
returns-in-Ok-clause-time g c = subst (λ (d : DiskState). GoesOn c.args.self.now d) (sym c.in-Ok.ensures.ok) (write_goes_on c.args.self.now c.args.at c.args.bytes.now c.requires)
