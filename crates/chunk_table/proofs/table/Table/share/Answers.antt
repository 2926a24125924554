use Rattle.std.proofs.Common.{ℕ, ◌≤◌, ◌+◌, List, [], ap, sym, ◌∙◌, subst, unwrap_or, length, arith}
use Rattle.std.specs.FinMap as map
use Rattle.gfs_types.specs.Counters.{counter_limit}
use Rattle.chunk_table.specs.ChunkTable.{share_all, with_shared, shape_of}
use Rattle.chunk_table.specs.Owners.{references_at}
use Rattle.chunk_table.proofs.Sound.{along, same_state, fresh_file, got_back, room_to_share, holds_shared}
use Rattle.chunk_table.proofs.Shaped.{none_there}
use Rattle.chunk_table.proofs.table.Table.share.Goals as goal

pub insert_file-requires : goal.insert_file-requires
insert_file-requires c =
    let t = c.self.inside in
    none_there t.files t.shapes t.next_file c.self.invariant.0.shapes (fresh_file t.files t.shapes t.chunks t.next_file t.next_handle t.owners c.self.invariant)

pub share_file-requires : goal.share_file-requires
share_file-requires c =
    let t = c.self.inside in
    let handles = c.in-Some.handles.now in
    let got = ap (λ m. unwrap_or (map.get m t.next_file) []) (c.in-Ok-insert_file.ensures.files ∙ ap (map.insert t.files t.next_file) c.in-Ok.ensures) ∙ got_back t.files t.next_file handles in
    let sound = c.self.invariant in
    let within = sound.0.owners_within_limit in
    let room : t.owners + length handles ≤ counter_limit = omega (arith, c.len-count.ensures, sound.1) in
    λ q. (
    let P : List ℕ → Type 0 = λ l. references_at t.chunks q + length l ≤ counter_limit in
    subst P (sym got) (room_to_share t.files t.shapes t.chunks t.next_file t.next_handle t.owners sound handles room q))

pub invariant_of-self-2 : goal.invariant_of-self-2
invariant_of-self-2 c =
    let t = c.self.inside in
    let handles = c.in-Some.handles.now in
    let put = c.in-Ok-insert_file.ensures.files ∙ ap (map.insert t.files t.next_file) c.in-Ok.ensures in
    let got = ap (λ m. unwrap_or (map.get m t.next_file) []) put ∙ got_back t.files t.next_file handles in
    let sound = c.self.invariant in
    let within = sound.0.owners_within_limit in
    let room : t.owners + length handles ≤ counter_limit = omega (arith, c.len-count.ensures, sound.1) in
    along put c.in-Ok-insert_file.ensures.shapes (c.share_file.ensures ∙ ap (share_all t.chunks) got) (ap (λ x. t.owners + x) c.len-count.ensures)
    (holds_shared t.files t.shapes t.chunks t.next_file t.next_handle t.owners sound c.args.file.0 c.shape-shape.result handles (sym c.in-Some.ensures) (omega arith) room)

pub returns-clause-ok : goal.returns-clause-ok
returns-clause-ok c =
    let t = c.self.inside in
    let handles = c.in-Some.handles.now in
    let put = c.in-Ok-insert_file.ensures.files ∙ ap (map.insert t.files t.next_file) c.in-Ok.ensures in
    let got = ap (λ m. unwrap_or (map.get m t.next_file) []) put ∙ got_back t.files t.next_file handles in
    let list = ap (λ o. unwrap_or o []) c.in-Some.ensures in
    same_state (t.next_file + 1) t.next_handle (with_shared c.args.self.now c.args.file.0)
    (put ∙ ap (map.insert t.files t.next_file) list)
    (c.in-Ok-insert_file.ensures.shapes ∙ ap (map.insert t.shapes t.next_file) (c.shape-shape.ensures ∙ sym (ap (λ s. shape_of s.table c.args.file.0) c.self.view_is)))
    (c.share_file.ensures ∙ ap (share_all t.chunks) (got ∙ list))
    (ap (λ s. with_shared s c.args.file.0) c.self.view_is)
