use Rattle.std.proofs.Common.{◌≡◌, ◌%◌, sym, subst}
use Rattle.store_disk.specs.declared.places.Layout.{Layout}
use Rattle.chunk_store.proofs.store.Store.layout.Goals as goal

pub returns-clause-whole : goal.returns-clause-whole
returns-clause-whole g c = subst (λ (l : Layout). l.chunk % l.block ≡ 0) (sym c.layout.ensures) c.self.invariant.whole
