-- What one node of a trie stands for: names by the bytes that lie below its place, in their order.
use Rattle.std.specs.Prelude.{Bool, true, false, ◌≡◌, ℕ, suc, ◌+◌, ◌≤◌, ◌<◌, not, List, [], ◌∷◌, ◌++◌, length, Option, Some, None}
use Rattle.std.specs.Ordering.{nat_cmp, eq_by_cmp}
use Rattle.std.specs.Cmp.Lexicographic.{slice_cmp}
use Rattle.label_tree.specs.Fronts.{first_byte}
use Rattle.std.specs.FinMap.Entries.{find, put, where_key}

-- these bytes begin with one that is so large or larger
abbrev pub BeginsFrom : ℕ → List ℕ → Type 0
BeginsFrom n [] = ⊥
BeginsFrom n (c ∷ rest) = n ≤ c

module _ {X : Type 0} where
  -- each name begins with a byte that is so large or larger
  abbrev pub AllFrom : ℕ → List (List ℕ × X) → Type 0
  AllFrom n [] = Unit {0}
  AllFrom n (e ∷ es) = BeginsFrom n e.0 × AllFrom n es

  -- these names with a label before each
  abbrev pub under : List ℕ → List (List ℕ × X) → List (List ℕ × X)
  under label [] = []
  under label (e ∷ es) = (label ++ e.0, e.1) ∷ under label es

  -- a value at the place itself
  abbrev pub own : Option X → List (List ℕ × X)
  own None = []
  own (Some v) = ([], v) ∷ []

  -- what a node and its later siblings stand for
  abbrev pub level : List ℕ → Option X → List (List ℕ × X) → List (List ℕ × X) → List (List ℕ × X)
  level label value below next = under label (own value ++ below) ++ next

  -- the byte that the first name begins with, and the one that the last does
  abbrev pub first_start : List (List ℕ × X) → ℕ
  first_start [] = 0
  first_start (e ∷ es) = first_byte e.0

  abbrev pub last_start : List (List ℕ × X) → ℕ
  last_start [] = 0
  last_start (e ∷ []) = first_byte e.0
  last_start (e ∷ f ∷ es) = last_start (f ∷ es)

  -- names go on alike, and no label has room for this one and what they share
  pub record HasNoRoom (label : List ℕ) (below : List (List ℕ × X)) : Type 0 where
    pub front : List ℕ
    pub rest : List (List ℕ × X)
    pub alike : below ≡ under front rest
    pub too_long : 24 < length label + length front

  -- a node has a value, two nodes right below it, or names too long to be told with its label
  abbrev pub IsPacked : List ℕ → Option X → List (List ℕ × X) → Type 0
  IsPacked label (Some v) below = Unit {0}
  IsPacked label None below = first_start below ≡ last_start below → HasNoRoom label below

  -- a label isn't empty, names below it aren't, and later siblings begin with larger bytes
  pub record IsPlaced (label : List ℕ) (below next : List (List ℕ × X)) : Type 0 where
    pub labelled : BeginsFrom 0 label
    pub below_filled : AllFrom 0 below
    pub rising : AllFrom (suc (first_byte label)) next

  -- its parts are in their places, it says some name, and it can't be told with what stands below it
  pub record IsNode (label : List ℕ) (value : Option X) (below next : List (List ℕ × X)) : Type 0 where
    pub placed : IsPlaced label below next
    pub alive : 1 ≤ length (own value ++ below)
    pub packed : IsPacked label value below

  -- whether there are no names
  abbrev pub is_nothing : List (List ℕ × X) → Bool
  is_nothing [] = true
  is_nothing (e ∷ es) = false

  -- the value at a path
  abbrev pub find_path : List ℕ → List (List ℕ × X) → Option X
  find_path path es = find (slice_cmp nat_cmp) path es

  -- the names with this one, in its place
  abbrev pub put_path : List ℕ → X → List (List ℕ × X) → List (List ℕ × X)
  put_path path value es = put (slice_cmp nat_cmp) path value es

  -- the bytes of all names, and one for each
  abbrev pub bytes_in : List (List ℕ × X) → ℕ
  bytes_in [] = 0
  bytes_in (e ∷ es) = suc (length e.0) + bytes_in es

  -- the names without this one
  abbrev pub without_path : List ℕ → List (List ℕ × X) → List (List ℕ × X)
  without_path path es = where_key (slice_cmp nat_cmp) (λ k. not (eq_by_cmp (slice_cmp nat_cmp) path k)) es
