-- Digests, one block after another.
use Rattle.std.proofs.Common.{◌≡◌, ℕ, zero, suc, ◌+◌, ◌-◌, ◌*◌, ◌<◌, ◌≤◌, List, ◌++◌, length, take, drop, refl, sym, ap, ◌∙◌, arith, append_assoc}
use native.Mathlib.Nat.{suc-mul}
use Rattle.std.proofs.lemmas.List.{append-nil}
use Rattle.sha2.specs.Sha256.{sha256}
use Rattle.replica_store.specs.Replicas.{digests_of}

one_fewer : (count counter : ℕ) → counter < count → count - counter ≡ suc (count - (counter + 1))
one_fewer count counter lt = omega (arith, lt)

module _ (block count counter : ℕ) (done rest all : List ℕ) where
  -- a block is there
  pub block_left : counter < count → (count - counter) * block ≤ length rest → block ≤ length rest
  block_left lt room =
      let more : (count - counter) * block ≡ (count - (counter + 1)) * block + block = ap (λ (k : ℕ). k * block) (one_fewer count counter lt) ∙ suc-mul (count - (counter + 1)) block in
      omega (arith, room, more)

  -- and the others behind it
  pub others_left : counter < count → (count - counter) * block ≤ length rest → (count - (counter + 1)) * block ≤ length rest - block
  others_left lt room =
      let more : (count - counter) * block ≡ (count - (counter + 1)) * block + block = ap (λ (k : ℕ). k * block) (one_fewer count counter lt) ∙ suc-mul (count - (counter + 1)) block in
      omega (arith, room, more)

  pub goes_on : counter < count → done ++ digests_of block (count - counter) rest ≡ all
      → (done ++ sha256 (take block rest)) ++ digests_of block (count - (counter + 1)) (drop block rest) ≡ all
  goes_on lt so_far =
      append_assoc done (sha256 (take block rest)) (digests_of block (count - (counter + 1)) (drop block rest))
      ∙ sym (ap (λ (k : ℕ). done ++ digests_of block k rest) (one_fewer count counter lt)) ∙ so_far

  pub ends : count ≤ counter → done ++ digests_of block (count - counter) rest ≡ all → done ≡ all
  ends le so_far =
      let none : count - counter ≡ 0 = omega (arith, le) in
      sym (append-nil done) ∙ sym (ap (λ (k : ℕ). done ++ digests_of block k rest) none) ∙ so_far
