use Rattle.std.proofs.Common.{◌≡◌, ◌+◌, length, sym, ap, ◌∙◌, arith}
use Rattle.rereplicate.proofs.Choosing.{among, counts_one, counts_none}
use Rattle.rereplicate.proofs.servers.count_current.Goals.{then-is_some, else-is_some}
use Rattle.rereplicate.proofs.servers.count_current.Goals as goal

pub loop-index-preserved : goal.loop-index-preserved
loop-index-preserved g c =
    let known = g.H.Holders.servers c.args.holders.now in
    let h = c.args.handle.0 in
    let row = c.args.chunk.now in
    let n = c.loop-index.index in
    elim c.if-is_some.branch [
      | then-is_some w ↦ (
        w.count-is ∙ ap (λ k. k + 1) c.loop-index.invariant.0 ∙ sym (counts_one known h row n c.current_version.result c.current_version.ensures (sym c.is_some.ensures ∙ w.if-is_some.true)),
        (let e = w.count-is in let le = c.loop-index.invariant.1 in omega arith),
      )
      | else-is_some w ↦ (
        w.count-is ∙ c.loop-index.invariant.0 ∙ sym (counts_none known h row n c.current_version.result c.current_version.ensures (sym c.is_some.ensures ∙ w.if-is_some.false)),
        (let e = w.count-is in let le = c.loop-index.invariant.1 in omega arith),
      )
    ]

pub returns : goal.returns
returns g c =
    let known = g.H.Holders.servers c.args.holders.now in
    let h = c.args.handle.0 in
    let row = c.args.chunk.now in
    let all : c.loop-index.index ≡ known.count = omega (arith, c.server_count-index-end.ensures) in
    c.loop-index.invariant.0 ∙ ap (λ n. length (among known h row n)) all
