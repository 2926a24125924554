use Rattle.std.proofs.Common.{not, ◌≡◌, option_map, sym, ap, ◌∙◌, arith}
use Rattle.rereplicate.specs.Servers.{held_version}
use Rattle.rereplicate.proofs.Choosing.{source_among, source_is, source_kept, source_found}
use Rattle.rereplicate.proofs.servers.source.Goals.{then-is_none, else-is_none}
use Rattle.rereplicate.proofs.servers.source.Goals as goal

pub loop-index-preserved : goal.loop-index-preserved
loop-index-preserved g c =
    let known = g.H.Holders.servers c.args.holders.now in
    let h = c.args.handle.0 in
    let row = c.args.chunk.now in
    let n = c.loop-index.index in
    elim c.if-is_none.branch [
      | then-is_none w ↦ w.found-is ∙ source_found known h row n c.loop-index.found w.closed_at-found.result c.loop-index.invariant (ap not c.is_none.ensures ∙ ap (λ b. not (not b)) w.if-is_none.true) w.closed_at-found.ensures
      | else-is_none w ↦ w.found-is ∙ source_kept known h row n c.loop-index.found c.loop-index.invariant (ap not c.is_none.ensures ∙ ap (λ b. not (not b)) w.if-is_none.false)
    ]

pub returns : goal.returns
returns g c =
    let known = g.H.Holders.servers c.args.holders.now in
    let h = c.args.handle.0 in
    let row = c.args.chunk.now in
    let all : c.loop-index.index ≡ known.count = omega (arith, c.server_count-index-end.ensures) in
    c.loop-index.invariant
    ∙ ap (λ n. option_map held_version (source_among known h row n)) all
    ∙ ap (option_map held_version) (sym (source_is known h row))
