use Rattle.std.proofs.Common.{◌∙◌, ap, sym, length}
use Rattle.disk.specs.Writes.{DiskState}
use Rattle.disk.proofs.Places.{length_bytes}
use Rattle.disk.proofs.memory.MemDiskDisk.size.Goals as goal

pub returns : goal.returns
returns g c = c.len.ensures ∙ sym (length_bytes c.self.inside.bytes) ∙ ap (λ (d : DiskState). length d.bytes) c.self.view_is
