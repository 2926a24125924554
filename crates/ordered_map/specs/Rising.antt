-- Lists of entries in rising number.
use Rattle.std.specs.Prelude.{◌≡◌, ℕ, suc, ◌/◌, ◌==◌, ◌≢◌, nat_lt, Bool, false, cond, T, List, [], ◌∷◌, ◌++◌, Option, Some, None}
use Rattle.std.specs.Ordering.{nat_cmp}
use Rattle.std.specs.FinMap.{FinMap, find, get, is_sorted, entries}

-- the numbers strictly rise
abbrev pub IsRising : {X : Type 0} → List (ℕ × X) → Type 0
IsRising es = T (is_sorted nat_cmp es)

-- how many entries stand before a number
abbrev pub count_below : {X : Type 0} → ℕ → List (ℕ × X) → ℕ
count_below k [] = 0
count_below k (e ∷ es) = cond (nat_lt e.0 k) (suc (count_below k es)) 0

-- whether there is an entry, with that number
abbrev pub has_key : {X : Type 0} → ℕ → Option (ℕ × X) → Bool
has_key k None = false
has_key k (Some e) = e.0 == k

-- the entries of all leaves, one after another
abbrev pub flat : {X : Type 0} → List (ℕ × FinMap nat_cmp X) → List (ℕ × X)
flat [] = []
flat (e ∷ es) = entries e.1 ++ flat es

-- each leaf is empty at the numbers of others
abbrev pub IsTied : {X : Type 0} → List (ℕ × FinMap nat_cmp X) → Type 0
IsTied {X} es = (b : ℕ) (m : FinMap nat_cmp X) → find nat_cmp b es ≡ Some m → (k : ℕ) → k / 128 ≢ b → get m k ≡ None

-- leaves in rising number, each with its own numbers
pub record IsForest {X : Type 0} (es : List (ℕ × FinMap nat_cmp X)) : Type 0 where
  pub rising : IsRising es
  pub tied : IsTied es
