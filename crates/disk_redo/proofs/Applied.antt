-- Bytes with ranges in place.
use Rattle.std.proofs.Common.{◌≡◌, ◌⊎◌, inl, inr, ℕ, zero, suc, ◌+◌, ◌<◌, ◌≤◌, Bool, true, false, ◌&&◌, ◌||◌, List, [], ◌∷◌, length, drop, refl, sym, ap, ◌∙◌, subst, arith, nat_lt, replicate}
use Rattle.std.specs.Prelude.{nat_le}
use Rattle.std.proofs.lemmas.Bool.{cases_lt}
use Rattle.std.proofs.lemmas.Bool.Decides.{nat_tests}
use Rattle.std.proofs.lemmas.List.{length-replicate}
use Rattle.disk.specs.Bytes.{put_at}
use Rattle.disk_redo.specs.Changes.{all_outside, applied, is_free, lies_outside}
use Rattle.disk_redo.specs.Moments.{KeepsAt, Misses, is_outside}
use Rattle.disk_redo.specs.Redo.{blanked}
use Rattle.disk_redo.specs.declared.range.RedoArea.{RedoArea}
use Rattle.disk_redo.specs.declared.range.RedoRange.{RedoRange}
use Rattle.disk_redo.proofs.Places.{is_after, is_before, keeps_all, keeps_fewer, keeps_then, length_put, outside_cases, put_alike, put_either, put_keeps, same_bytes}

pub both : (a b : Bool) → a ≡ true → b ≡ true → (a && b) ≡ true
both a b x y = ap (λ (c : Bool). c && b) x ∙ y

pub first_of : (a b : Bool) → (a && b) ≡ true → (a ≡ true) × (b ≡ true)
first_of true b h = (refl, h)
first_of false b h = absurd cc

-- where a range lies
pub record Lies (area : RedoArea) (n : ℕ) (r : RedoRange) : Type 0 where
  pub within : r.place + length r.bytes ≤ n
  pub apart : (r.place + length r.bytes ≤ area.place) ⊎ (area.place + area.size ≤ r.place)
  pub from : area.first ≤ r.place

pub lies : (area : RedoArea) (n : ℕ) (r : RedoRange) → lies_outside area n r ≡ true → Lies area n r
lies area n r h = record {
  within = elim (cases_lt n (r.place + length r.bytes)) [
    | inl lt ↦ absurd (grind (arith, nat_tests, h, lt))
    | inr le ↦ le
  ];
  apart = elim (cases_lt area.place (r.place + length r.bytes)) [
    | inr le ↦ inl le
    | inl lt ↦ elim (cases_lt r.place (area.place + area.size)) [
      | inr le ↦ inr le
      | inl less ↦ absurd (grind (arith, nat_tests, h, lt, less))
    ]
  ];
  from = elim (cases_lt r.place area.first) [
    | inl lt ↦ absurd (grind (arith, nat_tests, h, lt))
    | inr le ↦ le
  ];
}

pub outside_first : (area : RedoArea) (n : ℕ) (r : RedoRange) (rs : List RedoRange) → all_outside area n (r ∷ rs) ≡ true → Lies area n r × (all_outside area n rs ≡ true)
outside_first area n r rs h = let two = first_of (lies_outside area n r) (all_outside area n rs) h in (lies area n r two.0, two.1)

outside_put : (area : RedoArea) (r : RedoRange) (rs : List RedoRange) (c : List ℕ) → r.place + length r.bytes ≤ length c → all_outside area (length c) rs ≡ true → all_outside area (length (put_at c r.place r.bytes)) rs ≡ true
outside_put area r rs c fits h = subst (λ (n : ℕ). all_outside area n rs ≡ true) (sym (length_put c r.bytes r.place fits)) h

-- bytes that differ in the ranges alone become the same
pub applied_alike : (area : RedoArea) (rs : List RedoRange) (c d : List ℕ) → all_outside area (length c) rs ≡ true → KeepsAt (is_free rs) c d → applied rs d ≡ applied rs c
applied_alike area [] c d h p = same_bytes c d (record { size = p.size; same = λ place k. p.same place refl })
applied_alike area (r ∷ rs) c d h p =
    let two = outside_first area (length c) r rs h in
    applied_alike area rs (put_at c r.place r.bytes) (put_at d r.place r.bytes) (outside_put area r rs c two.0.within two.1)
    (put_alike (is_free (r ∷ rs)) (is_free rs) c d r.bytes r.place two.0.within (λ place free out. both (is_outside r.place (length r.bytes) place) (is_free rs place) out free) p)

-- only the ranges change
pub applied_keeps : (area : RedoArea) (rs : List RedoRange) (c : List ℕ) → all_outside area (length c) rs ≡ true → KeepsAt (is_free rs) c (applied rs c)
applied_keeps area [] c h = keeps_all (is_free []) c
applied_keeps area (r ∷ rs) c h =
    let two = outside_first area (length c) r rs h in
    let next = put_at c r.place r.bytes in
    keeps_then (is_free (r ∷ rs)) c next (applied rs next)
    (keeps_fewer (is_free (r ∷ rs)) (is_outside r.place (length r.bytes)) c next (λ place k. (first_of (is_outside r.place (length r.bytes) place) (is_free rs place) k).0) (put_keeps c r.bytes r.place two.0.within))
    (keeps_fewer (is_free (r ∷ rs)) (is_free rs) next (applied rs next) (λ place k. (first_of (is_outside r.place (length r.bytes) place) (is_free rs place) k).1) (applied_keeps area rs next (outside_put area r rs c two.0.within two.1)))

-- twice is as once
pub applied_twice : (area : RedoArea) (rs : List RedoRange) (c : List ℕ) → all_outside area (length c) rs ≡ true → applied rs (applied rs c) ≡ applied rs c
applied_twice area rs c h = applied_alike area rs c (applied rs c) h (applied_keeps area rs c h)

-- a place in the area is in no range
pub free_inside : (area : RedoArea) (n : ℕ) (rs : List RedoRange) (place : ℕ) → all_outside area n rs ≡ true → area.place ≤ place → place < area.place + area.size → is_free rs place ≡ true
free_inside area n [] place h from to = refl
free_inside area n (r ∷ rs) place h from to =
    let two = outside_first area n r rs h in
    both (is_outside r.place (length r.bytes) place) (is_free rs place)
    (elim two.0.apart [
      | inl le ↦ is_after r.place (length r.bytes) place (omega (arith, le, from))
      | inr le ↦ is_before r.place (length r.bytes) place (omega (arith, le, to))
    ])
    (free_inside area n rs place two.1 from to)

-- a write into one of the ranges keeps what is in none
pub misses_one : (rs : List RedoRange) (i : ℕ) (r : RedoRange) (tail : List RedoRange) → drop i rs ≡ r ∷ tail → Misses (is_free rs) r.place (length r.bytes)
misses_one [] i r tail e place h = absurd (nothing i e)
  where
    nothing : (k : ℕ) → drop k [] ≡ r ∷ tail → ⊥
    nothing zero is = cc
    nothing (suc k) is = cc
misses_one (q ∷ rs) zero r tail e place h =
    let same : q ≡ r = cc in
    subst (λ (x : RedoRange). is_outside x.place (length x.bytes) place ≡ true) same (first_of (is_outside q.place (length q.bytes) place) (is_free rs place) h).0
misses_one (q ∷ rs) (suc i) r tail e place h = misses_one rs i r tail e place (first_of (is_outside q.place (length q.bytes) place) (is_free rs place) h).1

-- Zeros in the area.

module _ (area : RedoArea) where
  abbrev pub zeros : List ℕ
  zeros = replicate area.size 0

  count : length zeros ≡ area.size
  count = length-replicate area.size 0

  pub length_blanked : (c : List ℕ) → area.place + area.size ≤ length c → length (blanked area c) ≡ length c
  length_blanked c fits = length_put c zeros area.place (omega (arith, count, fits))

  pub blanked_same : (c d : List ℕ) → area.place + area.size ≤ length c → KeepsAt (is_outside area.place area.size) c d → blanked area d ≡ blanked area c
  blanked_same c d fits p =
      same_bytes (blanked area c) (blanked area d)
      (put_alike (is_outside area.place area.size) (λ place. true) c d zeros area.place (omega (arith, count, fits))
      (λ place t out. subst (λ (n : ℕ). is_outside area.place n place ≡ true) count out) p)

  -- what the same ranges keep, they keep with zeros in the area
  pub blanked_keeps : (kept : ℕ → Bool) (c d : List ℕ) → area.place + area.size ≤ length c → KeepsAt kept c d → KeepsAt kept (blanked area c) (blanked area d)
  blanked_keeps kept c d fits p = put_alike kept kept c d zeros area.place (omega (arith, count, fits)) (λ place k out. k) p

  pub applied_blanked : (rs : List RedoRange) (c : List ℕ) → area.place + area.size ≤ length c → all_outside area (length c) rs ≡ true → blanked area (applied rs c) ≡ applied rs (blanked area c)
  applied_blanked [] c fits h = refl
  applied_blanked (r ∷ rs) c fits h =
      let two = outside_first area (length c) r rs h in
      let next = put_at c r.place r.bytes in
      let same = length_put c r.bytes r.place two.0.within in
      applied_blanked rs next (omega (arith, same, fits)) (outside_put area r rs c two.0.within two.1)
      ∙ ap (λ (l : List ℕ). applied rs l) (put_either c r.bytes zeros r.place area.place two.0.within (omega (arith, count, fits)) (apart two.0.apart))
    where
      apart : (r.place + length r.bytes ≤ area.place) ⊎ (area.place + area.size ≤ r.place) → (r.place + length r.bytes ≤ area.place) ⊎ (area.place + length zeros ≤ r.place)
      apart (inl le) = inl le
      apart (inr le) = inr (omega (arith, count, le))

pub lies_one : (area : RedoArea) (n : ℕ) (rs : List RedoRange) (i : ℕ) (r : RedoRange) (tail : List RedoRange) → drop i rs ≡ r ∷ tail → all_outside area n rs ≡ true → Lies area n r
lies_one area n [] i r tail e h = absurd (nothing i e)
  where
    nothing : (k : ℕ) → drop k [] ≡ r ∷ tail → ⊥
    nothing zero is = cc
    nothing (suc k) is = cc
lies_one area n (q ∷ rs) zero r tail e h =
    let same : q ≡ r = cc in
    subst (λ (x : RedoRange). Lies area n x) same (outside_first area n q rs h).0
lies_one area n (q ∷ rs) (suc i) r tail e h = lies_one area n rs i r tail e (outside_first area n q rs h).1
