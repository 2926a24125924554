use Rattle.std.proofs.Common.{◌≡◌, ℕ, sym, ap, ◌∙◌, arith}
use Rattle.std.specs.FinMap.{get}
use Rattle.chunk_table.specs.ChunkTable.{TableState, NumberTable, ChunkRow, row_restarted, changed_at, with_row_changed}
use Rattle.master_state.proofs.Ends.{below_changed, row_changed, stepped, whole, rows_given}
use Rattle.master_state.proofs.lease_ends.restart_each.Goals as goal

pub loop-number-preserved : goal.loop-number-preserved
loop-number-preserved c =
    let f = row_restarted c.args.until.0 c.args.usual in
    let old = c.args.table.now in
    let n = c.loop-number.number in
    let t = c.loop-number.table in
    record {
      others =
          c.restart_chunk.ensures
          ∙ ap (λ (x : TableState). with_row_changed x n f) c.loop-number.invariant.others
          ∙ ap (λ (x : TableState). record old { table = record old.table { chunks = x.table.chunks } }) (sym c.restart_chunk.ensures);
      chunks = λ q.
          ap (λ (x : TableState). get x.table.chunks q) c.restart_chunk.ensures
          ∙ stepped f (changed_at t.table.chunks n f) t.table.chunks old.table.chunks n (row_changed f t.table.chunks n) c.loop-number.invariant.chunks q;
    }

pub returns : goal.returns
returns c =
    let f = row_restarted c.args.until.0 c.args.usual in
    let old = c.args.table.now in
    let t = c.loop-number.table in
    let n = c.loop-number.number in
    let all : n ≡ old.next_handle = omega (arith, c.next_handle-number-end.ensures) in
    c.loop-number.invariant.others
    ∙ ap (λ (chunks : NumberTable ChunkRow). record old { table = record old.table { chunks = chunks } })
    (whole f t.table.chunks old.table.chunks old.next_handle (λ q. c.loop-number.invariant.chunks q ∙ ap (λ (k : ℕ). below_changed f old.table.chunks k q) all) (rows_given old c.is_sound.ensures))
