use Rattle.std.proofs.Common.{◌+◌, ◌<◌, ap, sym, ◌∙◌, drop, length, get_or, arith}
use Rattle.std.proofs.lemmas.List.{at_drop_more}
use Rattle.chunk_table.specs.ChunkTable.{with_owned}
use Rattle.chunk_table.specs.Owners.{references_at}
use Rattle.chunk_table.proofs.Counts.{references_owned_le}
use Rattle.chunk_table.proofs.chunks.own_each.Goals as goal

pub loop-handle-preserved : goal.loop-handle-preserved
loop-handle-preserved c =
    let hs = c.args.handles.now in
    let i = c.loop-handle.handle-index in
    let lt : i < length hs = omega arith in
    record {
      owned = ap (λ m. with_owned c.args.shape m (drop (i + 1) hs)) c.in_ok-own_at.ensures ∙ sym (at_drop_more (with_owned c.args.shape c.loop-handle.chunks) hs i 0 lt) ∙ c.loop-handle.invariant.owned;
      room = λ q. (
          let e = ap (λ m. references_at m q) c.in_ok-own_at.ensures in
          let up = references_owned_le c.args.shape c.loop-handle.chunks (get_or hs i 0) q in
          let r = c.loop-handle.invariant.room q in
          omega arith);
    }
