use Rattle.std.proofs.Common.{ap, ◌∙◌, refl, arith}
use Rattle.std.specs.FinMap as map
use Rattle.chunk_table.proofs.Sound.{along, fresh_file, holds_file_added}
use Rattle.chunk_table.proofs.Shaped.{none_there}
use Rattle.chunk_table.proofs.table.Table.add_file.Goals as goal

pub insert_file-requires : goal.insert_file-requires
insert_file-requires c =
    let t = c.self.inside in
    none_there t.files t.shapes t.next_file c.self.invariant.0.shapes (fresh_file t.files t.shapes t.chunks t.next_file t.next_handle t.owners c.self.invariant)

pub invariant_of-self-2 : goal.invariant_of-self-2
invariant_of-self-2 c =
    let t = c.self.inside in
    along (c.in-Ok.ensures.files ∙ ap (map.insert t.files t.next_file) c.empty-none.ensures) c.in-Ok.ensures.shapes refl refl
    (holds_file_added t.files t.shapes t.chunks t.next_file t.next_handle t.owners c.self.invariant c.args.shape (omega arith))
