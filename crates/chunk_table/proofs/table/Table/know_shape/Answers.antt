use Rattle.std.proofs.Common.{refl}
use Rattle.chunk_table.proofs.Sound.{along, holds_known}
use Rattle.chunk_table.proofs.table.Table.know_shape.Goals as goal

pub invariant_of-self : goal.invariant_of-self
invariant_of-self c =
    let t = c.self.inside in
    along refl c.know_at.ensures refl refl
    (holds_known t.files t.shapes t.chunks t.next_file t.next_handle t.owners c.self.invariant c.args.file.0 c.args.usual)
