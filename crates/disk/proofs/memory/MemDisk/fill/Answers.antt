use Rattle.std.proofs.Common.{ap, length, arith}
use Rattle.disk.specs.Writes.{DiskState}
use Rattle.disk.proofs.Places.{length_bytes}
use Rattle.disk.proofs.memory.MemDisk.fill.Goals as goal

pub read-requires : goal.read-requires
read-requires g c = let same = ap (λ (d : DiskState). length d.bytes) c.self.view_is in omega (arith, same, length_bytes c.self.inside.bytes, c.requires)
