use Rattle.std.proofs.Common.{◌≡◌, ℕ, ◌+◌, ◌-◌, ◌*◌, ◌/◌, ◌%◌, List, length, take, drop, sym, ap, ◌∙◌, subst, arith, Some}
use Rattle.std.specs.Prelude.{IfSome, Option}
use Rattle.store_disk.proofs.FormatSlots.{slot_before}
use Rattle.store_disk.proofs.Slots.{bytes_long}
use Rattle.store_changes.proofs.Bounds.{range_within}
use Rattle.store_changes.proofs.ReadRanges.{none_part, some_part}
use Rattle.store_changes.proofs.blocks.read_range.Goals as goal

pub returns-in_default-clause-part : goal.returns-in_default-clause-part
returns-in_default-clause-part g c handle r h =
    let l = c.args.layout in
    let long = bytes_long l.chunk l.block (g.D.Disk.seen c.args.disk.now) c.args.slot handle r (omega (arith, slot_before l.chunk l.block c.args.slot l.slots c.requires.slot, c.requires.size)) h in
    none_part l.chunk l.block r c.args.offset c.args.end (omega (arith, l.block_range)) c.requires.whole c.requires.some c.requires.within long (sym c.in_default.is ∙ c.in_ok-bytes.ensures.blocks handle r h)

pub copy_of-requires-clause-within : goal.copy_of-requires-clause-within
copy_of-requires-clause-within g c =
    let l = c.args.layout in
    let count = (c.args.end - 1) / l.block + 1 - c.args.offset / l.block in
    let long : length c.in-Some.bytes ≡ count * l.block = subst (λ (o : Option (List ℕ)). IfSome o (λ bytes. length bytes ≡ count * l.block)) c.in-Some.is c.in_ok-bytes.ensures.size in
    let most = range_within l.chunk l.block c.args.offset c.args.end (omega (arith, l.block_range)) c.requires.whole c.requires.some c.requires.within in
    omega (arith, long, most, ap length c.deref.ensures)

pub returns-clause-part : goal.returns-clause-part
returns-clause-part g c handle r h =
    let l = c.args.layout in
    let before = c.args.offset % l.block in
    let bytes = c.in-Some.bytes in
    let long = bytes_long l.chunk l.block (g.D.Disk.seen c.args.disk.now) c.args.slot handle r (omega (arith, slot_before l.chunk l.block c.args.slot l.slots c.requires.slot, c.requires.size)) h in
    let size : before + (c.args.end - c.args.offset) - before ≡ c.args.end - c.args.offset = omega arith in
    ap (λ (s : List ℕ). Some s) (c.in_ok-copy_of.ensures ∙ ap (λ (b : List ℕ). take (before + (c.args.end - c.args.offset) - before) (drop before b)) c.deref.ensures ∙ ap (λ (k : ℕ). take k (drop before bytes)) size)
    ∙ some_part l.chunk l.block r c.args.offset c.args.end (omega (arith, l.block_range)) c.requires.whole c.requires.some c.requires.within long bytes (sym c.in-Some.is ∙ c.in_ok-bytes.ensures.blocks handle r h)
