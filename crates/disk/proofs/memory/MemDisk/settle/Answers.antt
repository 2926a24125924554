use Rattle.std.proofs.Common.{◌≡◌, ℕ, List, subst, sym, ap, ◌∙◌, length, true}
use Rattle.disk.specs.Pages.{bytes_of}
use Rattle.disk.specs.Writes.{DiskState, Write, LeftBy, all_fit, settled}
use Rattle.disk.proofs.Places.{length_bytes}
use Rattle.disk.proofs.Stops.{settled_left}
use Rattle.disk.proofs.memory.MemDisk.settle.Goals as goal

pub returns-clause-lawful : goal.returns-clause-lawful
returns-clause-lawful g c =
    let inside = c.self.inside in
    let bytes : List ℕ = bytes_of inside.bytes in
    let disk : DiskState = record { bytes = bytes; writes = inside.writes.items; forgotten = inside.forgotten } in
    let fits : all_fit (length bytes) inside.writes.items ≡ true = subst (λ (n : ℕ). all_fit n inside.writes.items ≡ true) (sym (length_bytes inside.bytes)) c.self.invariant.0 in
    let is = c.settle_bytes.ensures ∙ ap (λ (ws : List Write). settled c.args.torn bytes ws) c.deref.ensures.value in
    subst (λ (s : DiskState). LeftBy s (bytes_of c.settle_bytes.new.bytes)) c.self.view_is
    (subst (LeftBy disk) (sym is) (settled_left c.args.torn disk fits))
