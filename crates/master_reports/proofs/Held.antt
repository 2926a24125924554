-- Whether some server holds a version, found by going over them.
use Rattle.std.proofs.Common.{◌≡◌, ℕ, suc, ◌+◌, Bool, true, false, ◌||◌, List, [], ◌∷◌, ◌++◌, refl, sym, ap, ◌∙◌, Some, None, Option, arith}
use Rattle.std.specs.Prelude.{◌==◌}
use Rattle.std.specs.Option.{is_some}
use Rattle.std.specs.List.{filter_map, cons_option}
use Rattle.std.proofs.lemmas.List.Elements.{filter_map-append}
use Rattle.protocol.specs.Tables.{first_numbers, first_of_list}
use Rattle.protocol.specs.Master.{MasterState, HeldAt, held_where, version_held}

first_more : (n : ℕ) → first_numbers (n + 1) ≡ first_numbers n ++ (n + 1) ∷ []
first_more n = let e : n + 1 ≡ suc n = omega arith in ap first_numbers e ∙ ap (λ x. first_numbers n ++ x ∷ []) (sym e)

some_append : {X : Type 0} (xs ys : List X) → is_some (first_of_list (xs ++ ys)) ≡ is_some (first_of_list xs) || is_some (first_of_list ys)
some_append [] ys = refl
some_append (x ∷ xs) ys = refl

some_of_one : {X : Type 0} (o : Option X) → is_some (first_of_list (cons_option o [])) ≡ is_some o
some_of_one None = refl
some_of_one (Some x) = refl

module _ (m : MasterState) (handle version : ℕ) where
  -- a server that holds exactly this version
  abbrev pub exactly : ℕ → Option HeldAt
  exactly s = held_where (λ v. v == version) s (version_held m handle s)

  -- whether one of so many servers does
  abbrev pub held_among : ℕ → Bool
  held_among n = is_some (first_of_list (filter_map exactly (first_numbers n)))

  pub one_more : (n : ℕ) → held_among (n + 1) ≡ held_among n || is_some (exactly (n + 1))
  one_more n =
      ap (λ xs. is_some (first_of_list (filter_map exactly xs))) (first_more n)
      ∙ ap (λ hs. is_some (first_of_list hs)) (filter_map-append exactly (first_numbers n) ((n + 1) ∷ []))
      ∙ some_append (filter_map exactly (first_numbers n)) (filter_map exactly ((n + 1) ∷ []))
      ∙ ap (λ b. held_among n || b) (some_of_one (exactly (n + 1)))

  either : (a b : Bool) → b ≡ true → (a || b) ≡ true
  either true b e = refl
  either false b e = e

  neither : (a b : Bool) → b ≡ false → (a || b) ≡ a
  neither true b e = refl
  neither false b e = e

  pub found : (n : ℕ) → is_some (exactly (n + 1)) ≡ true → held_among (n + 1) ≡ true
  found n e = one_more n ∙ either (held_among n) (is_some (exactly (n + 1))) e

  pub not_found : (n : ℕ) → is_some (exactly (n + 1)) ≡ false → held_among (n + 1) ≡ held_among n
  not_found n e = one_more n ∙ neither (held_among n) (is_some (exactly (n + 1))) e
