use Rattle.std.proofs.Common.{◌<◌, [], ap, sym, ◌∙◌, refl, unwrap_or, get_or, length, arith}
use Rattle.std.specs.FinMap as map
use Rattle.std.proofs.Math.ListN.{set}
use Rattle.chunk_table.specs.ChunkTable.{leave_one, share_one}
use Rattle.chunk_table.proofs.Sound.{along, holds_swapped}
use Rattle.chunk_table.proofs.table.Table.swap.Goals as goal

pub invariant_of-self : goal.invariant_of-self
invariant_of-self c =
    let t = c.self.inside in
    let handles = c.in-Some.handles.now in
    let i = c.args.index in
    let copy = c.args.copy.0 in
    let seen = c.as_slice-handles.result.now in
    let lt : i < length handles = omega (arith, ap length c.as_slice-handles.ensures) in
    along
    (c.set_at.ensures ∙ sym (ap (λ o. map.insert t.files c.args.file.0 (set (unwrap_or o []) i copy)) c.in-Some.ensures))
    refl
    (c.leave_at.ensures ∙ ap (λ m. leave_one m (get_or seen i 0)) c.share_at.ensures ∙ ap (λ hs. leave_one (share_one t.chunks copy) (get_or hs i 0)) c.as_slice-handles.ensures)
    refl
    (holds_swapped t.files t.shapes t.chunks t.next_file t.next_handle t.owners c.self.invariant c.args.file.0 handles i copy c.in-Some-get.chunk.now (sym c.in-Some.ensures) lt (sym c.in-Some-get.ensures))
