-- Digests, one block after another.
use Rattle.std.proofs.Common.{◌≡◌, ℕ, zero, suc, ◌+◌, ◌*◌, ◌<◌, List, ◌++◌, length, take, drop, refl, sym, ap, ◌∙◌, arith, length-append}
use native.Mathlib.Nat.{suc-mul}
use Rattle.std.proofs.lemmas.List.{drop-drop, drop-take, drop_at, take-append-drop, take-take, take_at}
use Rattle.sha2.specs.Sha256.{sha256}
use Rattle.sha2.proofs.Facts256.{length-sha256}
use Rattle.replica_store.specs.Replicas.{digests_of}

pub length_digests : (block n : ℕ) (bytes : List ℕ) → length (digests_of block n bytes) ≡ 32 * n
length_digests block zero bytes = refl
length_digests block (suc n) bytes =
    omega (arith, length-append (sha256 (take block bytes)) (digests_of block n (drop block bytes)), length-sha256 (take block bytes), length_digests block n (drop block bytes))

-- the bytes behind a run say nothing of it
pub digests_front : (block p : ℕ) (xs : List ℕ) → digests_of block p (take (p * block) xs) ≡ digests_of block p xs
digests_front block zero xs = refl
digests_front block (suc p) xs =
    let one : suc p * block ≡ block + p * block = omega (arith, suc-mul p block) in
    let first : take block (take (suc p * block) xs) ≡ take block xs = take-take block (suc p * block) xs (omega (arith, one)) in
    let rest : drop block (take (suc p * block) xs) ≡ take (p * block) (drop block xs) = ap (λ (k : ℕ). drop block (take k xs)) one ∙ drop-take block (p * block) xs in
    ap (λ (l : List ℕ). sha256 l ++ digests_of block p (drop block (take (suc p * block) xs))) first
    ∙ ap (λ (l : List ℕ). sha256 (take block xs) ++ l) (ap (λ (l : List ℕ). digests_of block p l) rest ∙ digests_front block p (drop block xs))

-- each block against the digest in its place
module _ (block : ℕ) where
  next_part : (size i : ℕ) (xs : List ℕ) → take size (drop (i * size) (drop size xs)) ≡ take size (drop (suc i * size) xs)
  next_part size i xs = ap (λ (l : List ℕ). take size l) (drop-drop (i * size) size xs ∙ ap (λ (k : ℕ). drop k xs) (omega (arith, suc-mul i size)))

  first_part : (size : ℕ) (xs : List ℕ) → take size (drop (0 * size) xs) ≡ take size xs
  first_part size xs = let none : 0 * size ≡ 0 = omega arith in ap (λ (k : ℕ). take size (drop k xs)) none

  rest_of : (n : ℕ) (ds : List ℕ) → drop 32 (take (32 * suc n) ds) ≡ take (32 * n) (drop 32 ds)
  rest_of n ds = let more : 32 * suc n ≡ 32 + 32 * n = omega arith in ap (λ (k : ℕ). drop 32 (take k ds)) more ∙ drop-take 32 (32 * n) ds

  pub each_digest : (n : ℕ) (xs ds : List ℕ) → digests_of block n xs ≡ take (32 * n) ds → (i : ℕ) → i < n → sha256 (take block (drop (i * block) xs)) ≡ take 32 (drop (i * 32) ds)
  each_digest zero xs ds same i lt = absurd (omega (arith, lt))
  each_digest (suc n) xs ds same zero lt =
      ap sha256 (first_part block xs)
      ∙ sym (take_at (sha256 (take block xs)) (digests_of block n (drop block xs)) 32 (length-sha256 (take block xs)))
      ∙ ap (λ (l : List ℕ). take 32 l) same
      ∙ take-take 32 (32 * suc n) ds (omega arith)
      ∙ sym (first_part 32 ds)
  each_digest (suc n) xs ds same (suc i) lt =
      let rest : digests_of block n (drop block xs) ≡ take (32 * n) (drop 32 ds) =
      sym (drop_at (sha256 (take block xs)) (digests_of block n (drop block xs)) 32 (length-sha256 (take block xs))) ∙ ap (λ (l : List ℕ). drop 32 l) same ∙ rest_of n ds in
      ap sha256 (sym (next_part block i xs)) ∙ each_digest n (drop block xs) (drop 32 ds) rest i (omega (arith, lt)) ∙ next_part 32 i ds

  pub all_digests : (n : ℕ) (xs ds : List ℕ) → ((i : ℕ) → i < n → sha256 (take block (drop (i * block) xs)) ≡ take 32 (drop (i * 32) ds)) → digests_of block n xs ≡ take (32 * n) ds
  all_digests zero xs ds each = let none : 32 * 0 ≡ 0 = omega arith in sym (ap (λ (k : ℕ). take k ds) none)
  all_digests (suc n) xs ds each =
      let one : sha256 (take block xs) ≡ take 32 ds = sym (ap sha256 (first_part block xs)) ∙ each 0 (omega arith) ∙ first_part 32 ds in
      let rest : digests_of block n (drop block xs) ≡ take (32 * n) (drop 32 ds) =
      all_digests n (drop block xs) (drop 32 ds) (λ i lt. ap sha256 (next_part block i xs) ∙ each (suc i) (omega (arith, lt)) ∙ sym (next_part 32 i ds)) in
      ap (λ (l : List ℕ). l ++ digests_of block n (drop block xs)) one
      ∙ ap (λ (l : List ℕ). take 32 ds ++ l) rest
      ∙ sym (ap (λ (l : List ℕ). l ++ drop 32 (take (32 * suc n) ds)) (take-take 32 (32 * suc n) ds (omega arith)) ∙ ap (λ (l : List ℕ). take 32 ds ++ l) (rest_of n ds))
      ∙ take-append-drop 32 (take (32 * suc n) ds)
