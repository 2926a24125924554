use Rattle.std.proofs.Common.{sym, refl, arith}
use Rattle.chunk_table.proofs.Sound.{along, holds_copy_removed}
use Rattle.chunk_table.proofs.table.Table.give_up_copy.Goals as goal

pub invariant_of-self : goal.invariant_of-self
invariant_of-self c =
    let t = c.self.inside in
    along refl refl c.remove.ensures.rest refl
    (holds_copy_removed t.files t.shapes t.chunks t.next_file t.next_handle t.owners c.self.invariant c.args.copy.0 c.in-Some.chunk.now (sym c.in-Some.ensures) (omega (arith, c.references.ensures)))
