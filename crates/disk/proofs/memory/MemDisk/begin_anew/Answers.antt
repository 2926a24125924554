use Rattle.std.proofs.Common.{◌≡◌, subst, sym, true, List}
use Rattle.disk.specs.Pages.{all_taken}
use Rattle.disk.specs.Writes.{Write, all_fit}
use Rattle.disk.proofs.Stops.{fits_unsynced}
use Rattle.disk.proofs.Taken.{taken_unsynced}
use Rattle.disk.proofs.memory.MemDisk.begin_anew.Goals as goal

pub invariant_of-self : goal.invariant_of-self
invariant_of-self g c =
    let inside = c.self.inside in (
      subst (λ (ws : List Write). all_fit inside.bytes.size ws ≡ true) (sym c.keep_unsynced.ensures) (fits_unsynced inside.bytes.size inside.writes.items c.self.invariant.0),
      subst (λ (ws : List Write). all_taken inside.bytes.pages ws ≡ true) (sym c.keep_unsynced.ensures) (taken_unsynced inside.bytes.pages inside.writes.items c.self.invariant.1),
    )
