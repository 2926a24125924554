-- A head that stays open.
use Rattle.std.proofs.Common.{◌≡◌, ℕ, ◌+◌, ◌<◌, ◌≤◌, Bool, true, ◌==◌, List, length, ap, ◌∙◌, arith}
use Rattle.disk_redo.specs.Moments.{KeepsAt}
use Rattle.store_disk.specs.Formats.{HasOpenHead}
use Rattle.store_disk.proofs.FormatSlots.{slots_behind}
use Rattle.store_disk.proofs.Slots.{range_same}

pub head_kept : (chunk block slots : ℕ) (kept : ℕ → Bool) (disk new : List ℕ) → KeepsAt kept disk new → ((place : ℕ) → place < 32 → kept place ≡ true) → HasOpenHead chunk block slots disk → HasOpenHead chunk block slots new
head_kept chunk block slots kept disk new keeps before is =
    let large = is.large in
    let room : 0 + 31 ≤ length disk = omega (arith, large, slots_behind chunk block slots) in
    record {
      large = omega (arith, large, keeps.size);
      head = range_same kept disk new 0 31 keeps room (λ place le lt. before place (omega (arith, lt))) ∙ is.head;
      gate = ap (λ (n : ℕ). n == 1) (keeps.same 31 (before 31 (omega arith))) ∙ is.gate;
    }
