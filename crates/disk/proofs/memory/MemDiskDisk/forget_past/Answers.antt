use Rattle.std.proofs.Common.{subst, sym}
use Rattle.disk.specs.Writes.{BeginsAnew, DiskState, LeftBy}
use Rattle.disk.proofs.Forgetting.{begins_anew, begun_left}
use Rattle.disk.proofs.memory.MemDiskDisk.forget_past.Goals as goal

pub returns-clause-crash : goal.returns-clause-crash
returns-clause-crash g c = λ image left. begun_left c.args.self.now image (subst (λ (d : DiskState). LeftBy d image) c.begin_anew.ensures left)

pub returns-clause-time : goal.returns-clause-time
returns-clause-time g c = subst (λ (d : DiskState). BeginsAnew c.args.self.now d) (sym c.begin_anew.ensures) (begins_anew c.args.self.now)
