use Rattle.std.proofs.Common.{◌≡◌, ℕ, length, sym, subst, true}
use Rattle.gfs_types.specs.declared.torn.Torn.TheVariants.{New}
use Rattle.disk.specs.Pages.{bytes_of}
use Rattle.disk.specs.Writes.{DiskState, LeftBy, all_fit}
use Rattle.disk.proofs.Places.{length_bytes}
use Rattle.disk.proofs.Stops.{settled_left}
use Rattle.disk.proofs.memory.MemDiskDisk.may_stop_as_read.Goals as goal

pub returns : goal.returns
returns g c =
    let inside = c.self.inside in
    let disk : DiskState = record { bytes = bytes_of inside.bytes; writes = inside.writes.items; forgotten = inside.forgotten } in
    let fits : all_fit (length disk.bytes) disk.writes ≡ true = subst (λ (n : ℕ). all_fit n inside.writes.items ≡ true) (sym (length_bytes inside.bytes)) c.self.invariant.0 in
    subst (λ (s : DiskState). LeftBy s s.bytes) c.self.view_is (settled_left New disk fits)
