use Rattle.std.proofs.Common.{◌≡◌, option_map, sym, ap, ◌∙◌, arith}
use Rattle.rereplicate.specs.Servers.{server_id}
use Rattle.rereplicate.proofs.Choosing.{target_among, target_kept, target_taken}
use Rattle.rereplicate.proofs.servers.target.Goals.{then-is_free, else-is_free}
use Rattle.rereplicate.proofs.servers.target.Goals as goal

pub loop-index-preserved : goal.loop-index-preserved
loop-index-preserved g c =
    let known = g.H.Holders.servers c.args.holders.now in
    let h = c.args.handle.0 in
    let n = c.loop-index.index in
    elim c.if-is_free.branch [
      | then-is_free w ↦ w.best-is ∙ target_taken known h n c.loop-index.best w.with_fewer.result c.loop-index.invariant w.with_fewer.ensures (sym c.is_free.ensures ∙ w.if-is_free.true)
      | else-is_free w ↦ w.best-is ∙ c.loop-index.invariant ∙ ap (option_map server_id) (sym (target_kept known h n (sym c.is_free.ensures ∙ w.if-is_free.false)))
    ]

pub returns : goal.returns
returns g c =
    let known = g.H.Holders.servers c.args.holders.now in
    let h = c.args.handle.0 in
    let all : c.loop-index.index ≡ known.count = omega (arith, c.server_count-index-end.ensures) in
    c.loop-index.invariant ∙ ap (λ n. option_map server_id (target_among known h n)) all
