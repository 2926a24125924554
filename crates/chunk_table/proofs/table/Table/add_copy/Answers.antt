use Rattle.std.proofs.Common.{◌<◌, ap, sym, subst, ◌∙◌, refl}
use Rattle.std.specs.FinMap as map
use Rattle.gfs_types.specs.Counters.{counter_limit}
use Rattle.chunk_table.proofs.Sound.{along, holds_copy_added}
use Rattle.chunk_table.proofs.table.Table.add_copy.Goals as goal

pub invariant_of-self-2 : goal.invariant_of-self-2
invariant_of-self-2 c =
    let t = c.self.inside in
    along refl refl (c.in-Ok.ensures.ok ∙ ap (map.insert t.chunks t.next_handle) c.new-copy.ensures) refl
    (holds_copy_added t.files t.shapes t.chunks t.next_file t.next_handle t.owners c.self.invariant c.args.shape _ c.requires.version (subst (λ s. s.next_handle < counter_limit) (sym c.self.view_is) c.requires.handle))
