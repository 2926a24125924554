use Rattle.std.proofs.Common.{◌≡◌, ℕ, ◌+◌, ◌≤◌, true, None, ap, sym, subst, ◌∙◌, length, List, arith, rules}
use Rattle.std.specs.List.{list_all}
use Rattle.std.specs.FinMap as map
use Rattle.gfs_types.specs.Counters.{counter_limit}
use Rattle.chunk_table.specs.ChunkTable.{with_owned}
use Rattle.chunk_table.specs.Owners.{references_at}
use Rattle.chunk_table.specs.Refusals.{is_given}
use Rattle.chunk_table.proofs.Sound.{along, room_to_share}
use Rattle.chunk_table.proofs.Shaped.{none_there}
use Rattle.chunk_table.proofs.Owning.{holds_file_put}
use Rattle.chunk_table.proofs.table.Table.put_file.Goals as goal

pub own_each-requires : goal.own_each-requires
own_each-requires c =
    let t = c.self.inside in
    let sound = c.self.invariant in
    let within = sound.0.owners_within_limit in
    let room : t.owners + length c.args.handles ≤ counter_limit = omega (arith, c.len-count.ensures, sound.1) in
    λ q. (
    let P : List ℕ → Type 0 = λ l. references_at t.chunks q + length l ≤ counter_limit in
    subst P (sym c.as_slice-2.ensures) (room_to_share t.files t.shapes t.chunks t.next_file t.next_handle t.owners sound c.args.handles room q))

pub insert_file-requires : goal.insert_file-requires
insert_file-requires c =
    let t = c.self.inside in
    none_there t.files t.shapes c.args.file.0 c.self.invariant.0.shapes (search rules)

pub invariant_of-result : goal.invariant_of-result
invariant_of-result c =
    let t = c.self.inside in
    let sound = c.self.invariant in
    let within = sound.0.owners_within_limit in
    let room : t.owners + length c.args.handles ≤ counter_limit = omega (arith, c.len-count.ensures, sound.1) in
    let fresh : map.get t.files c.args.file.0 ≡ None = search rules in
    let file_given : is_given t.next_file c.args.file.0 ≡ true = search rules in
    let given : list_all (is_given t.next_handle) c.args.handles ≡ true = search rules in
    along c.in-Ok-insert_file.ensures.files c.in-Ok-insert_file.ensures.shapes (c.in-Ok.ensures ∙ ap (with_owned c.args.shape t.chunks) c.as_slice-2.ensures) (ap (λ x. t.owners + x) c.len-count.ensures)
    (holds_file_put t.files t.shapes t.chunks t.next_file t.next_handle t.owners sound c.args.file.0 c.args.shape c.args.handles fresh file_given given room)
