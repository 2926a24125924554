-- Blocks that match, and their digests.
use Rattle.std.proofs.Common.{◌≡◌, ◌↔◌, inl, inr, ℕ, zero, suc, ◌+◌, ◌-◌, ◌*◌, ◌/◌, ◌<◌, ◌≤◌, Bool, true, false, not, ◌||◌, List, take, drop, refl, sym, ap, ◌∙◌, arith}
use Rattle.std.specs.List.{list_any, range_with_len}
use Rattle.std.proofs.lemmas.Bool.{cases_eq}
use Rattle.std.proofs.lemmas.List.{drop-drop}
use Rattle.std.proofs.lemmas.Slice.Eq.{bytes_eq-Decides}
use native.Mathlib.Nat.{add-mul}
use Rattle.sha2.specs.Sha256.{sha256}
use Rattle.replica_store.specs.Replicas.{Replica, block_in, block_matches, blocks_match, digest_in, digests_of}
use Rattle.store_disk.specs.Blocks.{RunMatches}
use Rattle.store_disk.proofs.BlockDigests.{all_digests, each_digest}

-- a block matches just where its bytes have its digest
pub match_is : (block : ℕ) (r : Replica) (n : ℕ) → block_matches block r n ≡ true ↔ sha256 (block_in block n r.bytes) ≡ digest_in n r.digests
match_is block r n = bytes_eq-Decides (sha256 (block_in block n r.bytes)) (digest_in n r.digests)

-- A run of blocks.
module _ (block : ℕ) (r : Replica) (first count : ℕ) where
  place_is : (i : ℕ) (xs : List ℕ) → drop (i * block) (drop (first * block) xs) ≡ drop ((first + i) * block) xs
  place_is i xs = drop-drop (i * block) (first * block) xs ∙ ap (λ (k : ℕ). drop k xs) (sym (add-mul first i block))

  digest_place : (i : ℕ) (ds : List ℕ) → drop (i * 32) (drop (32 * first) ds) ≡ drop ((first + i) * 32) ds
  digest_place i ds = drop-drop (i * 32) (32 * first) ds ∙ ap (λ (k : ℕ). drop k ds) (omega arith)

  pub run_is : digests_of block count (drop (first * block) r.bytes) ≡ take (32 * count) (drop (32 * first) r.digests) ↔ RunMatches block r first count
  run_is = (
    λ same n le lt.
        let i = n - first in
        let at : first + i ≡ n = omega (arith, le) in
        let alike = each_digest block count (drop (first * block) r.bytes) (drop (32 * first) r.digests) same i (omega (arith, le, lt)) in
        (match_is block r n).1
        (ap (λ (k : ℕ). sha256 (take block (drop (k * block) r.bytes))) (sym at) ∙ ap (λ (l : List ℕ). sha256 (take block l)) (sym (place_is i r.bytes))
        ∙ alike
        ∙ ap (λ (l : List ℕ). take 32 l) (digest_place i r.digests) ∙ ap (λ (k : ℕ). take 32 (drop (k * 32) r.digests)) at),
    λ each. all_digests block count (drop (first * block) r.bytes) (drop (32 * first) r.digests) (λ i lt.
        ap (λ (l : List ℕ). sha256 (take block l)) (place_is i r.bytes)
        ∙ (match_is block r (first + i)).0 (each (first + i) (omega arith) (omega (arith, lt)))
        ∙ ap (λ (l : List ℕ). take 32 l) (sym (digest_place i r.digests))),
  )

-- each number of a range passes a test

both_pass : (b c : Bool) → not (not b || c) ≡ true → (b ≡ true) × (not c ≡ true)
both_pass true true e = absurd cc
both_pass true false e = (refl, refl)
both_pass false c e = absurd cc

passes : (b c : Bool) → b ≡ true → not c ≡ true → not (not b || c) ≡ true
passes true c p q = q
passes false c p q = absurd cc

module _ (test : ℕ → Bool) where
  each_passes : (a n : ℕ) → not (list_any (λ k. not (test k)) (range_with_len a n)) ≡ true → (k : ℕ) → a ≤ k → k < a + n → test k ≡ true
  each_passes a zero h k le lt = absurd (omega (arith, le, lt))
  each_passes a (suc n) h k le lt =
      let parts = both_pass (test a) (list_any (λ i. not (test i)) (range_with_len (a + 1) n)) h in
      elim (cases_eq k a) [
        | inl same ↦ ap test same ∙ parts.0
        | inr other ↦ each_passes (a + 1) n parts.1 k (omega (arith, le, other)) (omega (arith, lt))
      ]

  all_pass : (a n : ℕ) → ((k : ℕ) → a ≤ k → k < a + n → test k ≡ true) → not (list_any (λ k. not (test k)) (range_with_len a n)) ≡ true
  all_pass a zero each = refl
  all_pass a (suc n) each =
      passes (test a) (list_any (λ i. not (test i)) (range_with_len (a + 1) n)) (each a (omega arith) (omega arith))
      (all_pass (a + 1) n (λ k le lt. each k (omega (arith, le)) (omega (arith, lt))))

-- each block that a range touches matches
pub touched_is : (block : ℕ) (r : Replica) (offset end_place : ℕ) → blocks_match block r offset end_place ≡ true ↔ ((n : ℕ) → offset / block ≤ n → n ≤ (end_place - 1) / block → block_matches block r n ≡ true)
touched_is block r offset end_place =
    let first = offset / block in
    let last = (end_place - 1) / block in (
      λ h n low high. each_passes (block_matches block r) first (last + 1 - first) h n low (omega (arith, low, high)),
      λ each. all_pass (block_matches block r) first (last + 1 - first) (λ n low lt. each n low (omega (arith, low, lt))),
    )
