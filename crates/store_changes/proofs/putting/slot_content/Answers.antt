use Rattle.std.proofs.Common.{◌≡◌, ℕ, ◌*◌, ◌/◌, ◌≤◌, length, ap, ◌∙◌, arith}
use Rattle.std.proofs.Math.Nat.{div-mul-le_self}
use Rattle.store_disk.proofs.Puts.{length_filled}
use Rattle.store_changes.proofs.putting.slot_content.Goals as goal

pub digests_of_blocks-requires : goal.digests_of_blocks-requires
digests_of_blocks-requires c =
    let layout = c.args.layout in
    let is = c.deref.ensures.value ∙ c.in_ok-all.ensures in
    let size : length c.deref.result.now ≡ layout.chunk = ap length is ∙ length_filled layout.chunk c.args.bytes.now c.requires in
    let most : layout.chunk / layout.block * layout.block ≤ length c.deref.result.now = omega (arith, div-mul-le_self layout.chunk layout.block, size) in
    omega (arith, most, ap (λ (n : ℕ). n * layout.block) c.blocks-2.ensures.value)
