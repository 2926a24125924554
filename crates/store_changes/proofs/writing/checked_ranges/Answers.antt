use Rattle.std.proofs.Common.{ℕ, ◌+◌, List, length, sym, ap, ◌∙◌, subst, arith, Some}
use Rattle.disk_redo.specs.declared.range.RedoRange.{RedoRange}
use Rattle.store_changes.specs.Edging.{checked_edges}
use Rattle.store_changes.proofs.Planning.{empty_ranges, no_ranges, some_ranges}
use Rattle.disk_redo.specs.Redo.{FitsArea}
use Rattle.store_changes.specs.Areas.{area_of}
use Rattle.store_changes.proofs.Fitting.{header_fits, written_fit}
use Rattle.store_changes.proofs.Pairs.{long_of}
use Rattle.store_changes.proofs.writing.checked_ranges.Goals as goal

pub returns-then-count-eq0-clause-ranges : goal.returns-then-count-eq0-clause-ranges
returns-then-count-eq0-clause-ranges g c h r holds =
    let l = c.args.layout in
    ap (λ (rs : List RedoRange). Some rs) c.in_ok-header.ensures.ranges ∙ empty_ranges l.chunk l.block r c.args.new.slot c.args.handle.0 c.args.new.row c.args.offset c.args.bytes.now (sym c.len-count.ensures.value ∙ c.if-count-eq0.true)

pub returns-in_default-clause-ranges : goal.returns-in_default-clause-ranges
returns-in_default-clause-ranges g c h r holds =
    let l = c.args.layout in
    no_ranges l.chunk l.block r c.args.new.slot c.args.handle.0 c.args.new.row c.args.offset c.args.bytes.now (omega (arith, c.len-count.ensures.value, c.if-count-eq0.false)) (sym c.in_default.is ∙ c.in_ok-edges.ensures.edges h r holds ∙ ap (λ (n : ℕ). checked_edges l.block r c.args.offset (c.args.offset + n)) c.len-count.ensures.value)

pub write_ranges-requires-clause-before : goal.write_ranges-requires-clause-before
write_ranges-requires-clause-before g c = (long_of c.args.layout.block c.args.offset _ c.in-Some.edges c.len-count.result (length c.args.bytes.now) c.in-Some.is c.len-count.ensures.value c.in_ok-edges.ensures.long).before

pub write_ranges-requires-clause-after : goal.write_ranges-requires-clause-after
write_ranges-requires-clause-after g c = (long_of c.args.layout.block c.args.offset _ c.in-Some.edges c.len-count.result (length c.args.bytes.now) c.in-Some.is c.len-count.ensures.value c.in_ok-edges.ensures.long).after

pub returns-clause-ranges : goal.returns-clause-ranges
returns-clause-ranges g c h r holds =
    let l = c.args.layout in
    ap (λ (rs : List RedoRange). Some rs) c.in_ok-ranges.ensures.ranges
    ∙ some_ranges l.chunk l.block r c.args.new.slot c.args.handle.0 c.args.new.row c.args.offset c.args.bytes.now (omega (arith, c.len-count.ensures.value, c.if-count-eq0.false)) c.in-Some.edges (sym c.in-Some.is ∙ c.in_ok-edges.ensures.edges h r holds ∙ ap (λ (n : ℕ). checked_edges l.block r c.args.offset (c.args.offset + n)) c.len-count.ensures.value)

pub returns-then-count-eq0-clause-room : goal.returns-then-count-eq0-clause-room
returns-then-count-eq0-clause-room g c =
    let l = c.args.layout in
    let seen = g.D.Disk.seen c.args.disk.now in
    subst (λ (rs : List RedoRange). FitsArea (area_of l.chunk l.block) (length seen) rs) (sym c.in_ok-header.ensures.ranges)
    (header_fits l.chunk l.block l.slots seen c.requires.size c.args.new.slot c.requires.slot c.args.handle.0 c.args.new.row)

pub returns-clause-room : goal.returns-clause-room
returns-clause-room g c =
    let l = c.args.layout in
    let seen = g.D.Disk.seen c.args.disk.now in
    subst (λ (rs : List RedoRange). FitsArea (area_of l.chunk l.block) (length seen) rs) (sym c.in_ok-ranges.ensures.ranges)
    (written_fit l.chunk l.block l.slots seen c.requires.size c.args.new.slot c.requires.slot c.args.handle.0 c.args.new.row c.in-Some.edges c.args.offset c.args.bytes.now (omega (arith, l.block_range)) c.requires.whole
    (omega (arith, c.len-count.ensures.value, c.if-count-eq0.false)) c.requires.within)
