use Rattle.std.proofs.Common.{◌≡◌, ℕ, ◌+◌, ◌-◌, ◌*◌, ◌/◌, ◌<◌, ◌≤◌, length, sym, ap, ◌∙◌, arith}
use Rattle.std.proofs.Math.Nat.{lt-div-mul-add}
use Rattle.std.proofs.lemmas.Nat.{div-add-mod'}
use Rattle.store_changes.proofs.Bounds.{run_bytes}
use Rattle.store_changes.proofs.ranges.write_ranges.Goals as goal

pub new_digests-requires-clause-enough : goal.new_digests-requires-clause-enough
new_digests-requires-clause-enough c =
    let l = c.args.layout in
    let offset = c.args.offset in
    let count = c.len.result in
    let same : count ≡ length c.args.bytes.now = c.len.ensures.value in
    let positive : 1 ≤ l.block = omega (arith, l.block_range) in
    let end_place = offset + count in
    let run = run_bytes l.chunk l.block offset end_place positive c.requires.whole (omega (arith, c.requires.some, same)) (omega (arith, c.requires.within, same)) in
    let less : end_place - 1 < (end_place - 1) / l.block * l.block + l.block = lt-div-mul-add positive in
    let after = c.requires.after ∙ ap (λ (n : ℕ). (offset + n - 1) / l.block * l.block + l.block - (offset + n)) (sym same) in
    let slice = ap length c.deref.ensures in
    omega (arith, run, slice, c.requires.before, after, div-add-mod' offset l.block, less, c.requires.some, same)
