use Rattle.std.proofs.Common.{ap, sym, ◌∙◌, arith}
use Rattle.chunk_table.proofs.Sound.{along, holds_dropped, dropped_le}
use Rattle.chunk_table.specs.ChunkTable.{leave_all}
use Rattle.chunk_table.proofs.table.Table.drop_file.Goals as goal

pub overflow_sub-self : goal.overflow_sub-self
overflow_sub-self c =
    let t = c.self.inside in
    let le = dropped_le t.files t.shapes t.chunks t.next_file t.next_handle t.owners c.self.invariant c.args.file.0 c.in-Some.handles (sym c.in-Some.ensures.value) in
    omega (arith, c.len.ensures)

pub invariant_of-self-2 : goal.invariant_of-self-2
invariant_of-self-2 c =
    let t = c.self.inside in
    along c.remove.ensures.rest c.remove-2.ensures.rest (c.leave_each.ensures ∙ ap (leave_all t.chunks) c.as_slice.ensures) (omega (arith, c.len.ensures))
    (holds_dropped t.files t.shapes t.chunks t.next_file t.next_handle t.owners c.self.invariant c.args.file.0 c.in-Some.handles (sym c.in-Some.ensures.value))
