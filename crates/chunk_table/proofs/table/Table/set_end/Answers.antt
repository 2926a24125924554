use Rattle.std.proofs.Common.{refl}
use Rattle.chunk_table.proofs.Sound.{along, holds_ended}
use Rattle.chunk_table.proofs.table.Table.set_end.Goals as goal

pub invariant_of-self : goal.invariant_of-self
invariant_of-self c =
    let t = c.self.inside in
    along refl refl c.end_at.ensures refl
    (holds_ended t.files t.shapes t.chunks t.next_file t.next_handle t.owners c.self.invariant c.args.handle.0 c.args.moment.0)
