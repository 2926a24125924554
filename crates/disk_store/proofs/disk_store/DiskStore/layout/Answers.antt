use Rattle.std.proofs.Common.{sym, ap, ◌∙◌}
use Rattle.store_disk.specs.declared.places.Layout.{Layout}
use Rattle.disk_store.specs.Standing.{DiskStoreView}
use Rattle.disk_store.proofs.disk_store.DiskStore.layout.Goals as goal

pub returns-clause-chunk : goal.returns-clause-chunk
returns-clause-chunk g c = ap (λ (l : Layout). l.chunk) c.layout.ensures.value ∙ sym c.self.invariant.0.chunk_is ∙ ap (λ (s : DiskStoreView). s.disk.chunk) c.self.view_is

pub returns-clause-block : goal.returns-clause-block
returns-clause-block g c = ap (λ (l : Layout). l.block) c.layout.ensures.value ∙ sym c.self.invariant.0.block_is ∙ ap (λ (s : DiskStoreView). s.disk.block) c.self.view_is

pub returns-clause-slots : goal.returns-clause-slots
returns-clause-slots g c = ap (λ (l : Layout). l.slots) c.layout.ensures.value ∙ sym c.self.invariant.0.slots_is ∙ ap (λ (s : DiskStoreView). s.disk.slots) c.self.view_is
