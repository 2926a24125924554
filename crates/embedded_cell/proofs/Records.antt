-- Records in bytes.
use Rattle.std.proofs.Common.{◌≡◌, ℕ, ◌+◌, ◌-◌, ◌^◌, ◌<◌, ◌≤◌, true, List, [], ◌∷◌, ◌++◌, length, take, drop, refl, sym, ◌∙◌, ap, arith, length-append, length-take, length-drop}
use Rattle.std.specs.Prelude.{◌==◌, bytes_eq}
use Rattle.std.proofs.lemmas.Bool.{and_parts, and_from, eqb-true, eq-eqb}
use Rattle.std.proofs.lemmas.List.{take_all, take_at, drop_at}
use Rattle.std.proofs.lemmas.Nat.{from_be_bytes-to_be_bytes_4}
use Rattle.std.specs.Int.{w32, to_be_bytes}
use Rattle.sha2.specs.Sha256.{sha256}
use Rattle.sha2.proofs.Facts256.{length-sha256}
use Rattle.embedded_cell.specs.Records.{id_of, is_record, is_sealed, StandsAt}

pub nine_bytes : (one : List ℕ) → is_record one ≡ true → length one ≡ 9
nine_bytes one h = eqb-true (length one) 9 (and_parts (length one == 9) _ h).0

-- where a record stands
module _ (bytes : List ℕ) (place : ℕ) (one : List ℕ) (at : StandsAt bytes place one) where
  pub nine_there : 9 ≤ length bytes - place
  nine_there = omega (arith, ap length at.1, length-take (length one) (drop place bytes), length-drop place bytes, nine_bytes one at.0)

  pub bytes_there : take 9 (take (length bytes - place) (drop place bytes)) ≡ one
  bytes_there =
      ap (λ (l : List ℕ). take 9 l) (take_all (length bytes - place) (drop place bytes) (omega (arith, length-drop place bytes)))
      ∙ (ap (λ (n : ℕ). take n (drop place bytes)) (sym (nine_bytes one at.0)) ∙ at.1)

  pub stands_within : (count : ℕ) → length bytes ≤ count → place < count
  stands_within count past = omega (arith, past, nine_there)

-- the bytes that are made of an id

bytes_same : (xs : List ℕ) → bytes_eq xs xs ≡ true
bytes_same [] = refl
bytes_same (x ∷ xs) = and_from (x == x) (bytes_eq xs xs) (eq-eqb x x refl) (bytes_same xs)

module _ (id : ℕ) where
  abbrev head : List ℕ
  head = 245 ∷ to_be_bytes w32 id

  abbrev seal : List ℕ
  seal = take 4 (sha256 head)

  abbrev made : List ℕ
  made = head ++ seal

  made_long : length made ≡ 9
  made_long = omega (arith, length-append head seal, length-take 4 (sha256 head), length-sha256 head)

  sealed : is_sealed made ≡ true
  sealed =
      ap (λ (l : List ℕ). bytes_eq (take 4 (sha256 l)) (drop 5 made)) (take_at head seal 5 refl)
      ∙ (ap (λ (l : List ℕ). bytes_eq seal l) (drop_at head seal 5 refl) ∙ bytes_same seal)

  pub is_made : is_record made ≡ true
  is_made = and_from (length made == 9) _ (eq-eqb (length made) 9 made_long) (and_from (245 == 245) _ refl sealed)

  pub made_of : id < 2 ^ 32 → id_of made ≡ id
  made_of small = from_be_bytes-to_be_bytes_4 id small

  -- bytes that were put one after another
  pub made_bytes : (a b c : List ℕ) → a ≡ 245 ∷ [] → b ≡ a ++ to_be_bytes w32 id → c ≡ b ++ take 4 (sha256 b) → c ≡ made
  made_bytes a b c p q r =
      let whole : b ≡ head = q ∙ ap (λ (l : List ℕ). l ++ to_be_bytes w32 id) p in
      r ∙ ap (λ (l : List ℕ). l ++ take 4 (sha256 l)) whole
