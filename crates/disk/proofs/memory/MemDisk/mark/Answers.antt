use Rattle.std.proofs.Common.{◌≡◌, ℕ, subst, sym, true, length, List}
use Rattle.disk.specs.Pages.{all_taken, bytes_of}
use Rattle.disk.specs.Writes.{Write, DiskState, LeftBy, all_fit}
use Rattle.disk.proofs.Calls.{fits_marked, sync_crash}
use Rattle.disk.proofs.Places.{length_bytes}
use Rattle.disk.proofs.Taken.{taken_marked}
use Rattle.disk.proofs.memory.MemDisk.mark.Goals as goal

pub invariant_of-self : goal.invariant_of-self
invariant_of-self g c =
    let inside = c.self.inside in (
      subst (λ (ws : List Write). all_fit inside.bytes.size ws ≡ true) (sym c.mark_last.ensures) (fits_marked inside.bytes.size inside.writes.items c.self.invariant.0),
      subst (λ (ws : List Write). all_taken inside.bytes.pages ws ≡ true) (sym c.mark_last.ensures) (taken_marked inside.bytes.pages inside.writes.items c.self.invariant.1),
    )

pub returns-clause-crash : goal.returns-clause-crash
returns-clause-crash g c =
    let inside = c.self.inside in
    let bytes : List ℕ = bytes_of inside.bytes in
    let disk : DiskState = record { bytes = bytes; writes = inside.writes.items; forgotten = inside.forgotten } in
    let fits : all_fit (length bytes) inside.writes.items ≡ true = subst (λ (n : ℕ). all_fit n inside.writes.items ≡ true) (sym (length_bytes inside.bytes)) c.self.invariant.0 in
    λ image left. subst (λ (s : DiskState). LeftBy s image) c.self.view_is
    (sync_crash disk image fits (subst (λ (ws : List Write). LeftBy (record { bytes = bytes; writes = ws; forgotten = inside.forgotten }) image) c.mark_last.ensures left))
