-- The head, as it is read.
use Rattle.std.proofs.Common.{◌≡◌, ℕ, Bool, ◌==◌, List, get_or, take, sym, ap, ◌∙◌, arith}
use Rattle.std.proofs.lemmas.List.{take-take}
use Rattle.disk.specs.Bytes.{range_at}
use Rattle.disk_redo.proofs.Ranges.{get_range}
use Rattle.store_disk.specs.Formats.{is_head_open}

pub gate_read : (d head : List ℕ) (b : Bool) → head ≡ range_at d 0 32 → b ≡ (get_or head 31 0 == 1) → is_head_open d ≡ b
gate_read d head b bytes test =
    ap (λ (n : ℕ). n == 1) (sym (get_range d 0 32 31 (omega arith))) ∙ sym (ap (λ (l : List ℕ). get_or l 31 0 == 1) bytes) ∙ sym test

pub head_read : (d head : List ℕ) → head ≡ range_at d 0 32 → take 31 head ≡ take 31 d
head_read d head bytes = ap (λ (l : List ℕ). take 31 l) bytes ∙ take-take 31 32 d (omega arith)
