-- The blocks that a change of bytes touches.
use Rattle.std.proofs.Common.{◌≡◌, ℕ, ◌+◌, ◌-◌, ◌*◌, ◌/◌, ◌%◌, ◌<◌, ◌≤◌, List, ◌++◌, length, take, drop, sym, ap, ◌∙◌, arith, length-append, length-drop}
use Rattle.std.proofs.lemmas.List.{drop-append-le, drop-drop, drop-take, length-take-le, take-take}
use Rattle.std.proofs.Math.Nat.{lt-div-mul-add, mod-eq-sub-div-mul}
use Rattle.std.proofs.Math.Seq.{take-append-add}
use Rattle.replica_store.specs.Replicas.{written_over}

-- A change of bytes from offset on, within the run of blocks from one place to another.
module _ (old new : List ℕ) (offset from to : ℕ) (low : from ≤ offset) (high : offset + length new ≤ to) (fits : to ≤ length old) where
  abbrev end_place : ℕ
  end_place = offset + length new

  front_long : length (take offset old) ≡ offset
  front_long = length-take-le offset old (omega (arith, high, fits))

  -- the run's bytes then: what stood before the change, the new bytes, and what stood after it
  pub run_then : take (to - from) (drop from (written_over old offset new)) ≡ take (offset - from) (drop from old) ++ new ++ take (to - end_place) (drop end_place old)
  run_then =
      let before = take (offset - from) (drop from old) in
      let both : length (take offset old ++ new) ≡ end_place = length-append (take offset old) new ∙ ap (λ (k : ℕ). k + length new) front_long in
      let whole : from + (offset - from) ≡ offset = omega (arith, low) in
      let first : drop from (take offset old) ≡ before = ap (λ (k : ℕ). drop from (take k old)) (sym whole) ∙ drop-take from (offset - from) old in
      let rest : drop from (written_over old offset new) ≡ before ++ new ++ drop end_place old =
      drop-append-le from (take offset old ++ new) (drop end_place old) (omega (arith, both, low))
      ∙ ap (λ (l : List ℕ). l ++ drop end_place old) (drop-append-le from (take offset old) new (omega (arith, front_long, low)) ∙ ap (λ (l : List ℕ). l ++ new) first) in
      let before_long : length before ≡ offset - from = length-take-le (offset - from) (drop from old) (omega (arith, length-drop from old, low, high, fits)) in
      let now_long : length (before ++ new) ≡ offset - from + length new = length-append before new ∙ ap (λ (k : ℕ). k + length new) before_long in
      let size : to - from ≡ length (before ++ new) + (to - end_place) = omega (arith, now_long, low, high) in
      ap (λ (l : List ℕ). take (to - from) l) rest
      ∙ ap (λ (k : ℕ). take k (before ++ new ++ drop end_place old)) size
      ∙ take-append-add (before ++ new) (drop end_place old) (to - end_place)

-- The first and the last block, of which the run keeps a part.
module _ (block : ℕ) (positive : 1 ≤ block) (old : List ℕ) where
  -- before a place, the first bytes of its block
  pub part_before : (offset : ℕ) → take (offset % block) (take block (drop (offset / block * block) old)) ≡ take (offset - offset / block * block) (drop (offset / block * block) old)
  part_before offset =
      let n : offset % block ≡ offset - offset / block * block = mod-eq-sub-div-mul offset block in
      let low : offset < offset / block * block + block = lt-div-mul-add positive in
      ap (λ (k : ℕ). take k (take block (drop (offset / block * block) old))) n
      ∙ take-take (offset - offset / block * block) block (drop (offset / block * block) old) (omega (arith, low))

  -- from a place on, the last bytes of a block
  pub part_after : (place n : ℕ) → n * block ≤ place → place ≤ n * block + block → drop (place - n * block) (take block (drop (n * block) old)) ≡ take (n * block + block - place) (drop place old)
  part_after place n low high =
      let k = place - n * block in
      let rest = n * block + block - place in
      let size : k + rest ≡ block = omega (arith, low, high) in
      let at : n * block + k ≡ place = omega (arith, low) in
      ap (λ (m : ℕ). drop k (take m (drop (n * block) old))) (sym size)
      ∙ drop-take k rest (drop (n * block) old)
      ∙ ap (λ (l : List ℕ). take rest l) (drop-drop k (n * block) old ∙ ap (λ (m : ℕ). drop m old) at)
