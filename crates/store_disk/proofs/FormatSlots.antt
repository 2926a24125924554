-- Slots lie one behind another.
use Rattle.std.proofs.Common.{◌≡◌, inl, inr, ⊎_elim, ℕ, suc, ◌+◌, ◌-◌, ◌*◌, ◌<◌, ◌≤◌, Bool, true, List, [], ◌∷◌, length, get_or, replicate, subst, sym, ap, ◌∙◌, arith}
use native.Mathlib.Nat.{suc-mul}
use Rattle.std.proofs.lemmas.Bool.{cases_lt}
use Rattle.std.proofs.lemmas.List.{get_or-replicate, length-replicate}
use Rattle.std.proofs.lemmas.Nat.{mul-le}
use Rattle.disk.specs.Bytes.{put_at}
use Rattle.disk_redo.specs.GateMoments.{OnlyReads}
use Rattle.disk_redo.specs.Moments.{ChangesBut, KeepsAt, Misses}
use Rattle.disk_redo.proofs.Places.{is_before, length_put, put_after, put_before, put_keeps, put_within, same_bytes}
use Rattle.store_disk.specs.Places.{slot_place, slot_size}

module _ (chunk block : ℕ) where
  pub slot_before : (s t : ℕ) → s < t → slot_place chunk block s + slot_size chunk block ≤ slot_place chunk block t
  slot_before s t lt =
      let size = slot_size chunk block in
      let more : suc s * size ≤ t * size = mul-le (suc s) size t size (omega (arith, lt)) (omega arith) in
      let one = suc-mul s size in
      omega (arith, more, one)

  pub slots_behind : (s : ℕ) → 304 ≤ slot_place chunk block s
  slots_behind s = omega arith

-- a byte that is written, and those that stay

pub zero_put : (old : List ℕ) (at : ℕ) → at + 1 ≤ length old → get_or (put_at old at (0 ∷ [])) at 0 ≡ 0
zero_put old at fits =
    let none : at - at ≡ 0 = omega arith in
    put_within old (0 ∷ []) at at fits (omega arith) (omega arith) ∙ ap (λ (k : ℕ). get_or (0 ∷ []) k 0) none

-- a 0 that is written where one stands
pub zero_stays : (old : List ℕ) (at : ℕ) → at + 1 ≤ length old → get_or old at 0 ≡ 0 → put_at old at (0 ∷ []) ≡ old
zero_stays old at fits zero =
    let new : List ℕ = put_at old at (0 ∷ []) in
    same_bytes old new (record {
      size = length_put old (0 ∷ []) at fits;
      same = λ place h. elim (cases_lt place at) [
        | inl before ↦ put_before old (0 ∷ []) at place fits before
        | inr le ↦ elim (cases_lt at place) [
          | inl behind ↦ put_after old (0 ∷ []) at place fits (omega (arith, behind))
          | inr ge ↦
              let here : at ≡ place = omega (arith, le, ge) in
              subst (λ (k : ℕ). get_or (put_at old at (0 ∷ [])) k 0 ≡ get_or old k 0) here (zero_put old at fits ∙ sym zero)
        ]
      ];
    })

pub kept_before : (old bytes : List ℕ) (at place : ℕ) → at + length bytes ≤ length old → place < at → get_or (put_at old at bytes) place 0 ≡ get_or old place 0
kept_before old bytes at place fits lt = (put_keeps old bytes at fits).same place (is_before at (length bytes) place lt)

-- a range behind the head is missed by what is kept of the head
pub misses_behind : (kept : ℕ → Bool) (at n : ℕ) → 32 ≤ at → ((place : ℕ) → kept place ≡ true → place < 32) → Misses kept at n
misses_behind kept at n le small place h = is_before at n place (omega (arith, le, small place h))

-- the first 17 bytes behind the head
pub zeros_put : (old : List ℕ) → 49 ≤ length old → (place : ℕ) → 32 ≤ place → place < 49 → get_or (put_at old 32 (replicate 17 0)) place 0 ≡ 0
zeros_put old fits place le lt =
    let zeros : List ℕ = replicate 17 0 in
    let count : length zeros ≡ 17 = length-replicate {A = ℕ} 17 0 in
    put_within old zeros 32 place (omega (arith, count, fits)) le (omega (arith, count, lt)) ∙ get_or-replicate {A = ℕ} 17 (place - 32) 0 0 (omega (arith, le, lt))

-- a run goes on over calls that only read
pub read_on : {D : Type 0} (seen : D → List ℕ) (may_leave : D → List ℕ → Type 0) (moment : D → ℕ) (left_since : D → ℕ → List ℕ → Type 0) (kept : ℕ → Bool) (start old new : D) → OnlyReads seen may_leave moment left_since old new
    → ChangesBut seen may_leave moment left_since kept start old → ChangesBut seen may_leave moment left_since kept start new
read_on seen may_leave moment left_since kept start old new reads so_far = record {
  read = subst (λ (l : List ℕ). KeepsAt kept (seen start) l) (sym reads.seen_same) so_far.read;
  stop = λ c now. so_far.stop c (reads.crash c now);
  moments = record {
    later = omega (arith, so_far.moments.later, reads.any_moment.later);
    each = λ c left. ⊎_elim (so_far.moments.each c) (λ now. so_far.stop c now) (reads.any_moment.before (moment start) c so_far.moments.later left);
    before = λ t c le left. ⊎_elim (so_far.moments.before t c le) (λ now. inr (so_far.stop c now)) (reads.any_moment.before t c (omega (arith, le, so_far.moments.later)) left);
  };
}
