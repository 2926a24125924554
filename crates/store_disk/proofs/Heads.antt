-- The head of a disk.
use Rattle.std.proofs.Common.{◌≡◌, inl, inr, ℕ, ◌+◌, ◌≤◌, Bool, true, false, ◌==◌, List, length, take, drop, ap, ◌∙◌, arith}
use Rattle.std.proofs.lemmas.Bool.{cases_Bool}
use Rattle.std.proofs.lemmas.List.{take_at}
use Rattle.disk.specs.Bytes.{put_at}
use Rattle.disk.specs.Device.{ChangesOnly}
use Rattle.disk_redo.specs.Gates.{IsCommitting}
use Rattle.disk_redo.specs.Moments.{KeepsAt, is_outside}
use Rattle.disk_redo.proofs.Places.{changes_keep, is_after, length_put, put_keeps}
use Rattle.store_disk.specs.Formats.{IsBlank, IsFormatted, IsFormatting, is_head_open}
use Rattle.store_disk.proofs.FormatSlots.{slots_behind}
use Rattle.store_disk.specs.Fields.{head_bytes}
use Rattle.store_disk.specs.Places.{disk_size, slot_place}

-- what keeps the gate keeps it closed
pub still_closed : (kept : ℕ → Bool) (c d : List ℕ) → kept 31 ≡ true → is_head_open c ≡ false → KeepsAt kept c d → is_head_open d ≡ false
still_closed kept c d h closed p = ap (λ (n : ℕ). n == 1) (p.same 31 h) ∙ closed

module _ (chunk block slots : ℕ) where
  pub blank_kept : (c d : List ℕ) → ((place : ℕ) → 32 ≤ place → is_outside 31 1 place ≡ true) → KeepsAt (is_outside 31 1) c d → IsBlank chunk block slots c → IsBlank chunk block slots d
  blank_kept c d behind p blank = record {
    order = λ place le lt. p.same place (behind place le) ∙ blank.order place le lt;
    free = λ slot lt. p.same (slot_place chunk block slot) (behind (slot_place chunk block slot) (omega (arith, slots_behind chunk block slot))) ∙ blank.free slot lt;
  }

  head_put : (c head : List ℕ) → length head ≡ 31 → take 31 (put_at c 0 head) ≡ head
  head_put c head count = take_at head (drop (0 + length head) c) 31 count

  behind_gate : (place : ℕ) → 32 ≤ place → is_outside 31 1 place ≡ true
  behind_gate place le = is_after 31 1 place (omega (arith, le))

  -- with the head written and its gate open
  pub formed : (c d head : List ℕ) → head ≡ head_bytes chunk block slots → disk_size chunk block slots ≤ length c → IsBlank chunk block slots c → ChangesOnly 31 1 (put_at c 0 head) d → is_head_open d ≡ true → IsFormatted chunk block slots d
  formed c d head is fits blank changes opened =
      let count : length head ≡ 31 = ap length is in
      let room : 31 ≤ length c = omega (arith, fits, slots_behind chunk block slots) in
      let headed : IsBlank chunk block slots (put_at c 0 head) = record {
        order = λ place le lt. (put_keeps c head 0 (omega (arith, count, room))).same place (is_after 0 (length head) place (omega (arith, count, le))) ∙ blank.order place le lt;
        free = λ slot lt. (put_keeps c head 0 (omega (arith, count, room))).same (slot_place chunk block slot) (is_after 0 (length head) (slot_place chunk block slot) (omega (arith, count, slots_behind chunk block slot))) ∙ blank.free slot lt;
      } in
      record {
        head = record {
          large = omega (arith, fits, changes.size, length_put c head 0 (omega (arith, count, room)));
          head = changes.before ∙ head_put c head count ∙ is;
          gate = opened;
        };
        blank = blank_kept (put_at c 0 head) d behind_gate (changes_keep 31 1 (put_at c 0 head) d changes) headed;
      }

  -- a stop while the head is written
  pub forming : (c d head : List ℕ) → head ≡ head_bytes chunk block slots → disk_size chunk block slots ≤ length c → is_head_open c ≡ false → IsBlank chunk block slots c → IsCommitting c 0 head 31 d → IsFormatting chunk block slots d
  forming c d head is fits closed blank (inl torn) =
      let count : length head ≡ 31 = ap length is in
      inl (still_closed (is_outside 0 (length head)) c d (is_after 0 (length head) 31 (omega (arith, count))) closed (changes_keep 0 (length head) c d torn))
  forming c d head is fits closed blank (inr changes) = elim (cases_Bool (is_head_open d)) [
    | inl opened ↦ inr (formed c d head is fits blank changes opened)
    | inr still ↦ inl still
  ]
