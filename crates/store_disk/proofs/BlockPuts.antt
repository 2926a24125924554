-- Bytes with others in their place, place by place.
use Rattle.std.proofs.Common.{◌≡◌, inl, inr, ℕ, ◌+◌, ◌-◌, ◌<◌, ◌≤◌, List, ◌++◌, take, drop, length, get_or, replicate, refl, sym, ap, ◌∙◌, arith, length-append, length-drop}
use Rattle.std.proofs.lemmas.Bool.{cases_lt}
use Rattle.std.proofs.lemmas.List.{get_or-append_right, get_or-drop, get_or-replicate, get_or-take, get_or_append_left, get_or_past, length-replicate, length-take-le}
use Rattle.replica_store.specs.Replicas.{filled_to, written_over}

-- what stands after the end may as well be written out
pub get_padded : (xs : List ℕ) (n i : ℕ) → get_or (xs ++ replicate n 0) i 0 ≡ get_or xs i 0
get_padded xs n i = elim (cases_lt i (length xs)) [
  | inl below ↦ get_or_append_left xs (replicate n 0) 0 i below
  | inr past ↦ (
      get_or-append_right xs (replicate n 0) (length xs) i 0 refl past
      ∙ get_filled n (i - length xs)
      ∙ sym (get_or_past xs i 0 past))
]
  where
    get_filled : (n j : ℕ) → ◌≡◌ {A = ℕ} (get_or (replicate n 0) j 0) 0
    get_filled n j = elim (cases_lt j n) [
      | inl below ↦ get_or-replicate n j 0 0 below
      | inr past ↦ get_or_past (replicate n 0) j 0 (omega (arith, length-replicate {A = ℕ} n 0, past))
    ]

pub length_filled : (size : ℕ) (xs : List ℕ) → length xs ≤ size → length (filled_to size xs) ≡ size
length_filled size xs le = omega (arith, length-append xs (replicate (size - length xs) 0), length-replicate {A = ℕ} (size - length xs) 0, le)

pub length_filled_more : (size : ℕ) (xs : List ℕ) → size ≤ length (filled_to size xs)
length_filled_more size xs = omega (arith, length-append xs (replicate (size - length xs) 0), length-replicate {A = ℕ} (size - length xs) 0)

-- new bytes over a front of so many
module _ (front new old : List ℕ) (at place : ℕ) (size : length front ≡ at) where
  both : length (front ++ new) ≡ at + length new
  both = length-append front new ∙ ap (λ (k : ℕ). k + length new) size

  joined_before : place < at → get_or (front ++ new ++ drop (at + length new) old) place 0 ≡ get_or front place 0
  joined_before lt =
      get_or_append_left (front ++ new) (drop (at + length new) old) 0 place (omega (arith, both, lt))
      ∙ get_or_append_left front new 0 place (omega (arith, size, lt))

  joined_within : at ≤ place → place < at + length new → get_or (front ++ new ++ drop (at + length new) old) place 0 ≡ get_or new (place - at) 0
  joined_within le lt =
      get_or_append_left (front ++ new) (drop (at + length new) old) 0 place (omega (arith, both, lt))
      ∙ get_or-append_right front new at place 0 size le

  joined_after : at + length new ≤ place → get_or (front ++ new ++ drop (at + length new) old) place 0 ≡ get_or old place 0
  joined_after le =
      let same : at + length new + (place - (at + length new)) ≡ place = omega (arith, le) in
      get_or-append_right (front ++ new) (drop (at + length new) old) (at + length new) place 0 both le
      ∙ get_or-drop (at + length new) old (place - (at + length new)) 0
      ∙ ap (λ (k : ℕ). get_or old k 0) same

  joined_long : length (front ++ new ++ drop (at + length new) old) ≡ at + length new + (length old - (at + length new))
  joined_long = length-append (front ++ new) (drop (at + length new) old) ∙ ap (λ (k : ℕ). k + length (drop (at + length new) old)) both ∙ ap (λ (k : ℕ). at + length new + k) (length-drop (at + length new) old)

module _ (old new : List ℕ) (at place : ℕ) (fits : at + length new ≤ length old) where
  front_size : length (take at old) ≡ at
  front_size = length-take-le at old (omega (arith, fits))

  pub over_before : place < at → get_or (written_over old at new) place 0 ≡ get_or old place 0
  over_before lt = joined_before (take at old) new old at place front_size lt ∙ get_or-take at old place 0 lt

  pub over_within : at ≤ place → place < at + length new → get_or (written_over old at new) place 0 ≡ get_or new (place - at) 0
  over_within = joined_within (take at old) new old at place front_size

  pub over_after : at + length new ≤ place → get_or (written_over old at new) place 0 ≡ get_or old place 0
  over_after = joined_after (take at old) new old at place front_size

pub length_over : (old new : List ℕ) (at : ℕ) → at + length new ≤ length old → length (written_over old at new) ≡ length old
length_over old new at fits = let long = joined_long (take at old) new old at 0 (front_size old new at 0 fits) in omega (arith, long, fits)
