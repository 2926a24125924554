use Rattle.std.proofs.Common.{ap, ◌∙◌, refl, IsSome, arith, rules}
use Rattle.std.specs.FinMap as map
use Rattle.chunk_table.proofs.Sums.{put_and_removed}
use Rattle.chunk_table.proofs.Sound.{along, same_state, some_or_nil, fresh_chunk, holds_chunk_added}
use Rattle.chunk_table.proofs.table.Table.add_chunk.Goals as goal

pub invariant_of-self-in_default-push_at : goal.invariant_of-self-in_default-push_at
invariant_of-self-in_default-push_at c =
    let t = c.self.inside in
    let undone = c.remove.ensures.rest ∙ ap (λ m. map.remove m t.next_handle) c.in-Ok.ensures.ok ∙ put_and_removed t.chunks t.next_handle _ (fresh_chunk t.files t.shapes t.chunks t.next_file t.next_handle t.owners c.self.invariant) in
    along c.in_default-push_at.ensures.err refl undone refl c.self.invariant

pub returns-in_default-push_at-clause-err : goal.returns-in_default-push_at-clause-err
returns-in_default-push_at-clause-err c =
    let t = c.self.inside in
    let undone = c.remove.ensures.rest ∙ ap (λ m. map.remove m t.next_handle) c.in-Ok.ensures.ok ∙ put_and_removed t.chunks t.next_handle _ (fresh_chunk t.files t.shapes t.chunks t.next_file t.next_handle t.owners c.self.invariant) in
    same_state t.next_file t.next_handle c.args.self.now c.in_default-push_at.ensures.err refl undone c.self.view_is

pub invariant_of-self-2 : goal.invariant_of-self-2
invariant_of-self-2 c =
    let t = c.self.inside in
    let stands : IsSome (map.get t.files c.args.file.0) = search rules in
    along c.in-Ok-push_at.ensures.ok refl (c.in-Ok.ensures.ok ∙ ap (map.insert t.chunks t.next_handle) c.new-chunk.ensures) refl
    (holds_chunk_added t.files t.shapes t.chunks t.next_file t.next_handle t.owners c.self.invariant c.args.file.0 _ _ (some_or_nil (map.get t.files c.args.file.0) stands) (omega arith) (omega arith))
