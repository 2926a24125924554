use Rattle.std.proofs.Common.{sym, ◌∙◌}
use Rattle.rereplicate.proofs.Wholeness.{found_one, found_none}
use Rattle.rereplicate.proofs.whole.lacking.Goals.{then-lacks_at+in_ok-insert, else-lacks_at}
use Rattle.rereplicate.proofs.whole.lacking.Goals as goal

pub loop-number-preserved : goal.loop-number-preserved
loop-number-preserved g c =
    let known = g.H.Holders.servers c.args.holders.now in
    let chunks = c.args.table.now.table.chunks in
    let n = c.loop-number.number in
    elim c.if-lacks_at.branch [
      | then-lacks_at+in_ok-insert w ↦ found_one known chunks c.loop-number.found c.if-lacks_at.found n (w.found-is ∙ w.in_ok-insert.ensures.ok) c.loop-number.invariant
      | else-lacks_at w ↦ found_none known chunks c.loop-number.found c.if-lacks_at.found n w.found-is (sym c.lacks_at.ensures ∙ w.if-lacks_at.false) c.loop-number.invariant
    ]
