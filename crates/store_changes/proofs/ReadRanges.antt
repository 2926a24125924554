-- A range of the bytes of its blocks.
use Rattle.std.proofs.Common.{◌≡◌, ℕ, suc, ◌+◌, ◌-◌, ◌*◌, ◌/◌, ◌%◌, ◌<◌, ◌≤◌, Bool, true, false, if◌then◌else◌, not, ◌||◌, List, [], length, refl, sym, ap, ◌∙◌, arith, Option, None, Some}
use Rattle.std.specs.Prelude.{nat_le}
use Rattle.std.specs.List.{list_any, range_with_len}
use Rattle.std.proofs.lemmas.Bool.Decides.{nat_tests}
use Rattle.std.proofs.lemmas.Nat.{div-add-mod', div-mul-add, mul-le}
use native.Mathlib.Nat.{suc-mul}
use Rattle.std.proofs.Math.Nat.{div-mul-le_self}
use Rattle.disk.specs.Bytes.{range_at}
use Rattle.disk_redo.proofs.Ranges.{range_range}
use Rattle.store_disk.proofs.ReadBytes.{read_is, read_none}
use Rattle.replica_store.specs.Replicas.{Replica, ServerDisk, block_matches, blocks_match, read_at, read_bytes, read_end, read_from, replica_of}
use Rattle.store_changes.specs.Reading.{checked_part}
use Rattle.store_changes.proofs.Bounds.{first_last, range_within, run_bytes, run_within}

module _ (chunk block : ℕ) (r : Replica) (offset end_place : ℕ) (positive : 1 ≤ block) (even : chunk % block ≡ 0) (some : offset < end_place) (within : end_place ≤ chunk) (long : length r.bytes ≡ chunk) where
  abbrev first : ℕ
  first = offset / block

  abbrev last : ℕ
  last = (end_place - 1) / block

  abbrev count : ℕ
  count = last + 1 - first

  abbrev from : ℕ
  from = first * block

  abbrev to : ℕ
  to = (first + count) * block

  all : first + count ≡ suc last
  all = let low = first_last chunk block offset end_place positive even some within in omega (arith, low)

  to_is : to ≡ last * block + block
  to_is = ap (λ (n : ℕ). n * block) all ∙ omega (arith, suc-mul last block)

  first_is : from / block ≡ first
  first_is = let none : from ≡ first * block + 0 = omega arith in ap (λ (n : ℕ). n / block) none ∙ div-mul-add first block 0 (omega (arith, positive))

  last_is : (to - 1) / block ≡ last
  last_is = let at : to - 1 ≡ last * block + (block - 1) = omega (arith, to_is, positive) in ap (λ (n : ℕ). n / block) at ∙ div-mul-add last block (block - 1) (omega (arith, positive))

  -- the range touches just these blocks
  match_same : blocks_match block r from to ≡ blocks_match block r offset end_place
  match_same = ap (λ (n : ℕ). runs n ((to - 1) / block)) first_is ∙ ap (λ (n : ℕ). runs first n) last_is
    where
      runs : ℕ → ℕ → Bool
      runs a b = not (list_any (λ n. not (block_matches block r n)) (range_with_len a (b + 1 - a)))

  pub none_part : None ≡ checked_part block r from to → None ≡ checked_part block r offset end_place
  none_part none = by (blocks_match block r offset end_place) refl
    where
      by : (b : Bool) → blocks_match block r offset end_place ≡ b → None ≡ (if b then Some (range_at r.bytes offset (end_place - offset)) else None)
      by true is = (
          let f : None ≡ Some (range_at r.bytes from (to - from)) = none ∙ ap (λ b. if b then Some (range_at r.bytes from (to - from)) else None) (match_same ∙ is) in
          absurd cc)
      by false is = refl

  pub some_part : (bytes : List ℕ) → Some bytes ≡ checked_part block r from to → Some (range_at bytes (offset % block) (end_place - offset)) ≡ checked_part block r offset end_place
  some_part bytes some_bytes = by (blocks_match block r offset end_place) refl
    where
      by : (b : Bool) → blocks_match block r offset end_place ≡ b → Some (range_at bytes (offset % block) (end_place - offset)) ≡ (if b then Some (range_at r.bytes offset (end_place - offset)) else None)
      by true is = (
          let disk = r.bytes in
          let f : Some bytes ≡ Some (range_at disk from (to - from)) = some_bytes ∙ ap (λ b. if b then Some (range_at disk from (to - from)) else None) (match_same ∙ is) in
          let same : bytes ≡ range_at disk from (to - from) = cc in
          let low : from ≤ offset = div-mul-le_self offset block in
          let at : offset % block ≡ offset - from = omega (arith, div-add-mod' offset block) in
          let inner = range_within chunk block offset end_place positive even some within in
          let size = run_bytes chunk block offset end_place positive even some within in
          let parts : to - from ≡ count * block = omega (arith, to_is, size) in
          let high : to ≤ chunk = (let most : (first + count) * block ≤ chunk / block * block = mul-le (first + count) block (chunk / block) block (run_within chunk block offset end_place positive even some within) (omega arith) in omega (arith, most, div-mul-le_self chunk block)) in
          ap (λ (l : List ℕ). Some (range_at l (offset % block) (end_place - offset))) same
          ∙ ap (λ (k : ℕ). Some (range_at (range_at disk from (to - from)) k (end_place - offset))) at
          ∙ ap (λ (l : List ℕ). Some l) (range_range disk from (to - from) offset (end_place - offset) (omega (arith, long, high, low, some)) low (omega (arith, inner, parts, at, low, some))))
      by false is = (
          let f : Some bytes ≡ None = some_bytes ∙ ap (λ b. if b then Some (range_at r.bytes from (to - from)) else None) (match_same ∙ is) in
          absurd cc)

-- What a read gives.

less_test : (a b : ℕ) → a < b → nat_le b a ≡ false
less_test a b lt = grind (arith, nat_tests, lt)

more_test : (a b : ℕ) → a ≤ b → nat_le a b ≡ true
more_test a b le = grind (arith, nat_tests, le)

module _ (block : ℕ) (r : Replica) (offset count : ℕ) where
  part_read : offset < read_end r offset count → checked_part block r offset (read_end r offset count) ≡ read_from block offset count (Some r)
  part_read some =
      let end_place = read_end r offset count in
      let match : Bool = blocks_match block r offset end_place in
      ap (λ (l : List ℕ). if match then Some l else None) (read_is r offset count (omega (arith, some)))
      ∙ sym (ap (λ b. if b || match then Some (read_bytes r offset count) else None) (less_test offset end_place some))

  nothing_read : read_end r offset count ≤ offset → Some [] ≡ read_from block offset count (Some r)
  nothing_read none =
      let match : Bool = blocks_match block r offset (read_end r offset count) in
      sym (ap (λ b. if b || match then Some (read_bytes r offset count) else None) (more_test (read_end r offset count) offset none) ∙ ap (λ (l : List ℕ). Some l) (read_none r offset count none))

-- of a disk
module _ (block : ℕ) (d : ServerDisk) (handle : ℕ) (r : Replica) (own : replica_of d handle ≡ Some r) (same : d.block ≡ block) (offset count : ℕ) where
  at_is : read_from block offset count (Some r) ≡ read_at d handle offset count
  at_is = ap (λ (b : ℕ). read_from b offset count (Some r)) (sym same) ∙ ap (λ (o : Option Replica). read_from d.block offset count o) (sym own)

  pub reads_part : (end_place : ℕ) → end_place ≡ read_end r offset count → offset < end_place → checked_part block r offset end_place ≡ read_at d handle offset count
  reads_part end_place is some = ap (λ (e : ℕ). checked_part block r offset e) is ∙ part_read block r offset count (omega (arith, is, some)) ∙ at_is

  pub reads_nothing : read_end r offset count ≤ offset → Some [] ≡ read_at d handle offset count
  reads_nothing none = nothing_read block r offset count none ∙ at_is
