use Rattle.std.proofs.Common.{◌≡◌, ◌≤◌, ◌↔◌, Some, sym, ap, subst, ◌∙◌}
use Rattle.std.specs.Prelude.{IsTrue}
use Rattle.chunk_table.specs.ChunkTable.{ChunkRow, TableState, chunk_of}
use Rattle.chunk_table.specs.Owners.{owners, references_at}
use Rattle.protocol.specs.Logged.{Logged}
use Rattle.master_chunks.proofs.Owned.{found_row, has_ended_at, issuable}
use Rattle.master_chunks.proofs.wanting.is_issuable.Goals as goal

pub returns-in-Some : goal.returns-in-Some
returns-in-Some g c =
    let a = c.args in
    let h = a.handle.0 in
    let own = c.requires.own in
    let table_of : Logged → TableState = λ l. record { table = l.table; next_file = l.next_file; next_handle = l.next_handle } in
    let table : c.table-table.result.now ≡ table_of a.plan.now.logged = c.table-table.ensures ∙ ap table_of c.state.ensures in
    let counts = subst (λ (t : TableState). references_at t.table.chunks h ≡ owners t.table.files h) table (c.is_sound.ensures.references h) in
    let same : Some c.in-Some.chunk.now ≡ Some a.row.now = c.in-Some.ensures ∙ ap (λ (t : TableState). chunk_of t.table h) table ∙ own.stands in
    let row = found_row c.in-Some.chunk.now a.row.now same in
    let may = subst (λ (r : ChunkRow). IsTrue c.may_issue.result ↔ (r.lease_end ≤ c.now.result.0) × (r.references ≡ 1)) row c.may_issue.ensures in
    issuable (table_of a.plan.now.logged) a.asker.file.0 a.asker.index h c.now.result.0 a.row.now c.may_issue.result counts own.listed own.stands
    (has_ended_at a.row.now.lease_end a.plan.now.now c.now.result.0 own.ended c.now.ensures.now) may
