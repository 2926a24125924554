-- A disk that stands for one with an open head has one.
use Rattle.std.proofs.Common.{◌≡◌, inr, ℕ, ◌<◌, ◌≤◌, true, ◌==◌, List, get_or, length, take, sym, ap, ◌∙◌, arith}
use Rattle.std.proofs.lemmas.List.{ext_get_or, get_or-take, length-take}
use Rattle.disk_redo.proofs.Fronts.{front_stands}
use Rattle.disk_redo.specs.Redo.{stands_for}
use Rattle.replica_store.specs.Replicas.{ServerDisk}
use Rattle.store_changes.specs.Areas.{area_of}
use Rattle.store_disk.specs.Formats.{HasOpenHead, IsHeadOf, is_head_open}
use Rattle.store_disk.specs.Stored.{IsStored}
use Rattle.store_disk.proofs.FormatSlots.{slots_behind}
use Rattle.chunk_store.specs.Opening.{HoldsReplicas}

module _ (chunk block slots : ℕ) (c : List ℕ) where
  abbrev stands : List ℕ
  stands = stands_for (area_of chunk block) c

  module _ (is : HasOpenHead chunk block slots stands) where
    front : (48 ≤ length c) × ((place : ℕ) → place < 32 → get_or stands place 0 ≡ get_or c place 0)
    front = let large = is.large in front_stands (area_of chunk block) c (omega arith) (omega (arith, large))

    pub gate_below : is_head_open c ≡ true
    gate_below = ap (λ (n : ℕ). n == 1) (sym (front.1 31 (omega arith))) ∙ is.gate

    pub head_below : IsHeadOf chunk block slots c
    head_below =
        let large = is.large in
        let here : length (take 31 c) ≡ 31 = omega (arith, length-take 31 c, front.0) in
        let there : length (take 31 stands) ≡ 31 = omega (arith, length-take 31 stands, large, slots_behind chunk block slots) in
        ext_get_or 0 (take 31 c) (take 31 stands) (here ∙ sym there) (λ i lt.
        let few : i < 31 = omega (arith, lt, here) in
        get_or-take 31 c i 0 few ∙ sym (front.1 i (omega (arith, few))) ∙ sym (get_or-take 31 stands i 0 few))
        ∙ is.head

  -- what its bytes stand for, it holds
  pub holds_stored : (d : ServerDisk) → IsStored chunk block slots stands d → HoldsReplicas chunk block slots c d
  holds_stored d is = inr (gate_below is.1.head, is)
