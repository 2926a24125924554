use Rattle.std.proofs.Common.{◌-◌, ◌*◌, ◌/◌, ◌%◌, sym, ◌∙◌, arith, Some}
use Rattle.store_changes.proofs.Bounds.{first_last, last_within}
use Rattle.store_changes.proofs.Pairs.{aligned_edges, aligned_long, ends_long, first_slice, last_part, last_slice, mod_less, no_edges, parts_long, some_edges}
use Rattle.store_changes.proofs.edges.read_edges.Goals as goal

pub returns-then-is_aligned-clause-edges : goal.returns-then-is_aligned-clause-edges
returns-then-is_aligned-clause-edges g c handle r h =
    let l = c.args.layout in
    (λ i. Some (record { before = c.new.ensures i; after = c.new-then-is_aligned.ensures i }))
    ∙ aligned_edges l.block r c.args.offset c.args.end (omega (arith, l.block_range)) c.requires.some (sym c.is_aligned.ensures ∙ c.if-is_aligned.true)

pub read_ends-requires-clause-order : goal.read_ends-requires-clause-order
read_ends-requires-clause-order g c =
    let l = c.args.layout in
    first_last l.chunk l.block c.args.offset c.args.end (omega (arith, l.block_range)) c.requires.whole c.requires.some c.requires.within

pub read_ends-requires-clause-within : goal.read_ends-requires-clause-within
read_ends-requires-clause-within g c =
    let l = c.args.layout in
    last_within l.chunk l.block c.args.offset c.args.end (omega (arith, l.block_range)) c.requires.whole c.requires.some c.requires.within

pub returns-in_default-clause-edges : goal.returns-in_default-clause-edges
returns-in_default-clause-edges g c handle r h =
    let l = c.args.layout in
    no_edges l.block r c.args.offset c.args.end (omega (arith, l.block_range)) c.requires.some (sym c.is_aligned.ensures ∙ c.if-is_aligned.false) (sym c.in_default.is ∙ c.in_ok-ends.ensures.ends handle r h)

pub slice-requires-clause-in_bounds : goal.slice-requires-clause-in_bounds
slice-requires-clause-in_bounds g c =
    let l = c.args.layout in
    let long = ends_long _ c.in-Some.ends.0 c.in-Some.ends.1 l.block c.in-Some.is c.in_ok-ends.ensures.long in
    let most = mod_less c.args.offset l.block (omega (arith, l.block_range)) in
    omega (arith, long.0, most)

pub slice-requires-2-clause-start_le_end : goal.slice-requires-2-clause-start_le_end
slice-requires-2-clause-start_le_end g c =
    let l = c.args.layout in
    let long = ends_long _ c.in-Some.ends.0 c.in-Some.ends.1 l.block c.in-Some.is c.in_ok-ends.ensures.long in
    let most = last_part l.block c.args.end (omega (arith, l.block_range)) in
    omega (arith, long.1, most)

pub returns-clause-edges : goal.returns-clause-edges
returns-clause-edges g c handle r h =
    let l = c.args.layout in
    let one = c.in-Some.ends.0 in
    let two = c.in-Some.ends.1 in
    let before = c.in_ok-before.ensures.ok ∙ first_slice one (c.args.offset % l.block) in
    let after = c.in_ok-after.ensures.ok ∙ last_slice two (c.args.end - (c.args.end - 1) / l.block * l.block) in
    (λ i. Some (record { before = before i; after = after i }))
    ∙ some_edges l.block r c.args.offset c.args.end (omega (arith, l.block_range)) c.requires.some (sym c.is_aligned.ensures ∙ c.if-is_aligned.false) one two (sym c.in-Some.is ∙ c.in_ok-ends.ensures.ends handle r h)

pub returns-then-is_aligned-clause-long : goal.returns-then-is_aligned-clause-long
returns-then-is_aligned-clause-long g c =
    let l = c.args.layout in
    aligned_long l.block c.args.offset c.args.end (omega (arith, l.block_range)) c.requires.some c.new.result c.new-then-is_aligned.result (sym c.is_aligned.ensures ∙ c.if-is_aligned.true) c.new.ensures c.new-then-is_aligned.ensures

pub returns-clause-long : goal.returns-clause-long
returns-clause-long g c =
    let l = c.args.layout in
    let one = c.in-Some.ends.0 in
    let two = c.in-Some.ends.1 in
    let long = ends_long _ one two l.block c.in-Some.is c.in_ok-ends.ensures.long in
    parts_long l.block c.args.offset c.args.end (omega (arith, l.block_range)) c.requires.some c.in_ok-before.before c.in_ok-after.after one two long.0 long.1
    (c.in_ok-before.ensures.ok ∙ first_slice one (c.args.offset % l.block)) (c.in_ok-after.ensures.ok ∙ last_slice two (c.args.end - (c.args.end - 1) / l.block * l.block))
