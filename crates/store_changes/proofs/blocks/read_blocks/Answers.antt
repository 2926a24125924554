use Rattle.std.proofs.Common.{◌≡◌, ℕ, ◌+◌, ◌*◌, true, false, List, length, sym, ap, ◌∙◌, arith, Some}
use Rattle.replica_store.specs.Replicas.{digests_of}
use Rattle.disk.specs.Bytes.{range_at}
use Rattle.disk_redo.proofs.Moments.{reads_both}
use Rattle.disk_redo.proofs.Ranges.{length_range}
use Rattle.store_disk.proofs.FormatSlots.{slot_before}
use Rattle.store_changes.proofs.Bounds.{bytes_room}
use Rattle.store_changes.proofs.Checked.{run_fails, run_matches}
use Rattle.store_changes.proofs.blocks.read_blocks.Goals as goal

pub read_part-requires : goal.read_part-requires
read_part-requires g c =
    let l = c.args.layout in
    let room = bytes_room l.chunk l.block l.slots c.args.slot c.args.first c.args.count c.requires.slot c.requires.within in
    omega (arith, room, c.requires.size, c.chunk_bytes.ensures)

pub blocks_match-requires : goal.blocks_match-requires
blocks_match-requires g c =
    let l = c.args.layout in
    let seen = g.D.Disk.seen c.args.disk.now in
    let room = bytes_room l.chunk l.block l.slots c.args.slot c.args.first c.args.count c.requires.slot c.requires.within in
    let long = length_range seen (c.chunk_bytes.result + c.args.first * l.block) (c.args.count * l.block) (omega (arith, room, c.requires.size, c.chunk_bytes.ensures)) in
    let is = ap length (c.deref.ensures ∙ c.in_ok-bytes.ensures.bytes) in
    omega (arith, long, is)

pub returns-then-branch-clause-blocks : goal.returns-then-branch-clause-blocks
returns-then-branch-clause-blocks g c handle r h =
    let l = c.args.layout in
    let slot = c.args.slot in
    let first = c.args.first in
    let count = c.args.count in
    let seen = g.D.Disk.seen c.args.disk.now in
    let bytes_is = c.in_ok-bytes.ensures.bytes ∙ ap (λ (k : ℕ). range_at seen (k + first * l.block) (count * l.block)) c.chunk_bytes.ensures in
    let digests_is = c.in_ok-digests.ensures.bytes ∙ ap (λ (s : List ℕ). range_at s (c.digests.result + 32 * first) (32 * count)) c.read_part.ensures.reads.seen_same ∙ ap (λ (k : ℕ). range_at seen (k + 32 * first) (32 * count)) c.digests.ensures in
    let before = slot_before l.chunk l.block slot l.slots c.requires.slot in
    let same = ap (λ (s : List ℕ). digests_of l.block count s) (sym (c.deref.ensures ∙ bytes_is)) ∙ c.in_ok-blocks_match.ensures.0 c.if-branch.true ∙ c.deref-2.ensures ∙ digests_is in
    ap (λ (s : List ℕ). Some s) bytes_is
    ∙ run_matches l.chunk l.block seen slot handle r (omega (arith, l.block_range)) (omega (arith, before, c.requires.size)) h first count c.requires.some c.requires.within same

pub returns-then-branch-clause-reads : goal.returns-then-branch-clause-reads
returns-then-branch-clause-reads g c =
    let disk = g.D.Disk in
    reads_both disk.seen disk.may_leave disk.moment disk.left_since c.args.disk.now c.read_part.new.disk c.read_part-2.new.disk c.read_part.ensures.reads c.read_part-2.ensures.reads

pub returns-else-branch-clause-blocks : goal.returns-else-branch-clause-blocks
returns-else-branch-clause-blocks g c handle r h =
    let l = c.args.layout in
    let slot = c.args.slot in
    let first = c.args.first in
    let count = c.args.count in
    let seen = g.D.Disk.seen c.args.disk.now in
    let bytes_is = c.in_ok-bytes.ensures.bytes ∙ ap (λ (k : ℕ). range_at seen (k + first * l.block) (count * l.block)) c.chunk_bytes.ensures in
    let digests_is = c.in_ok-digests.ensures.bytes ∙ ap (λ (s : List ℕ). range_at s (c.digests.result + 32 * first) (32 * count)) c.read_part.ensures.reads.seen_same ∙ ap (λ (k : ℕ). range_at seen (k + 32 * first) (32 * count)) c.digests.ensures in
    let before = slot_before l.chunk l.block slot l.slots c.requires.slot in
    run_fails l.chunk l.block seen slot handle r (omega (arith, l.block_range)) (omega (arith, before, c.requires.size)) h first count c.requires.some c.requires.within
    (λ same.
    let is = ap (λ (s : List ℕ). digests_of l.block count s) (c.deref.ensures ∙ bytes_is) ∙ same ∙ sym (c.deref-2.ensures ∙ digests_is) in
    let yes = c.in_ok-blocks_match.ensures.1 is in
    let no : true ≡ false = sym yes ∙ c.if-branch.false in
    absurd cc)

pub returns-else-branch-clause-reads : goal.returns-else-branch-clause-reads
returns-else-branch-clause-reads g c =
    let disk = g.D.Disk in
    reads_both disk.seen disk.may_leave disk.moment disk.left_since c.args.disk.now c.read_part.new.disk c.read_part-2.new.disk c.read_part.ensures.reads c.read_part-2.ensures.reads

pub returns-then-branch-clause-size : goal.returns-then-branch-clause-size
returns-then-branch-clause-size g c =
    let l = c.args.layout in
    let seen = g.D.Disk.seen c.args.disk.now in
    let room = bytes_room l.chunk l.block l.slots c.args.slot c.args.first c.args.count c.requires.slot c.requires.within in
    ap length c.in_ok-bytes.ensures.bytes ∙ length_range seen (c.chunk_bytes.result + c.args.first * l.block) (c.args.count * l.block) (omega (arith, room, c.requires.size, c.chunk_bytes.ensures))
