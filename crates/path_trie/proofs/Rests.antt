-- What a path has behind a name that it lies at or below, and where a path goes that is moved with it.
use Rattle.std.proofs.Common.{◌≡◌, ◌⊎◌, ℕ, Bool, true, false, not, cond, ◌&&◌, ◌||◌, nat_eq, List, [], ◌∷◌, ◌++◌, take, drop, length, map, filter, refl, sym, ap, subst, ◌∙◌, inl, inr}
use mathlib.Core.Bool.{false≢true}
use Rattle.std.specs.List.{starts_with, list_all}
use Rattle.std.specs.Str.{bytes_eq}
use Rattle.std.proofs.Math.Seq.{take-length, take-append_seam, drop-length, drop-append_seam}
use Rattle.std.proofs.lemmas.List.{take-append-drop}
use Rattle.std.proofs.lemmas.Slice.Eq.{bytes_eq-Decides}
use Rattle.gfs_types.specs.Paths.{root, front_below, is_below, is_at_or_below}
use Rattle.path_trie.specs.Below.{rest_below, copies_of}
use Rattle.path_trie.proofs.Cuts.{begins_append, begins_front}

pub and_first : (a b : Bool) → (a && b) ≡ true → a ≡ true
and_first true b h = refl
and_first false b h = h

pub and_second : (a b : Bool) → (a && b) ≡ true → b ≡ true
and_second true b h = h
and_second false b h = absurd (false≢true h)

same_bytes : (xs ys : List ℕ) → bytes_eq xs ys ≡ true → xs ≡ ys
same_bytes xs ys h = (bytes_eq-Decides xs ys).0 h

bytes_same : (xs ys : List ℕ) → xs ≡ ys → bytes_eq xs ys ≡ true
bytes_same xs ys e = (bytes_eq-Decides xs ys).1 e

-- to begin with a list is to be that list and more
starts_split : (p d : List ℕ) → starts_with nat_eq p d ≡ true → p ≡ d ++ drop (length d) p
starts_split p d h = sym (take-append-drop (length d) p) ∙ ap (λ xs. xs ++ drop (length d) p) (sym (same_bytes d (take (length d) p) h))

starts_self : (d : List ℕ) → starts_with nat_eq d d ≡ true
starts_self d = bytes_same d (take (length d) d) (sym (take-length d))

starts_append : (d rest : List ℕ) → starts_with nat_eq (d ++ rest) d ≡ true
starts_append d rest = bytes_same d (take (length d) (d ++ rest)) (sym (take-append_seam d rest))

append_none : (d : List ℕ) → d ++ [] ≡ d
append_none [] = refl
append_none (x ∷ d) = ap (λ xs. x ∷ xs) (append_none d)

below_begins : (top path : List ℕ) → is_below top path ≡ true → (b : Bool) → bytes_eq top root ≡ b → starts_with nat_eq path top ≡ true
below_begins top path h true e = subst (λ d. starts_with nat_eq path d ≡ true) (sym (same_bytes top root e)) (subst (λ b. starts_with nat_eq path (cond b root (top ++ root)) ≡ true) e (and_first _ _ h))
below_begins top path h false e = and_first _ _ (sym (begins_front top path e) ∙ and_first _ _ h)

begins_at : (top path : List ℕ) (b : Bool) → bytes_eq path top ≡ b → (b || is_below top path) ≡ true → starts_with nat_eq path top ≡ true
begins_at top path true e h = subst (λ p. starts_with nat_eq p top ≡ true) (sym (same_bytes path top e)) (starts_self top)
begins_at top path false e h = below_begins top path h (bytes_eq top root) refl

pub begins : (top path : List ℕ) → is_at_or_below top path ≡ true → starts_with nat_eq path top ≡ true
begins top path h = begins_at top path (bytes_eq path top) refl h

-- a path that lies at a name or below it begins with that name
pub at_or_below_split : (top path : List ℕ) → is_at_or_below top path ≡ true → path ≡ top ++ drop (length top) path
at_or_below_split top path h = starts_split path top (begins top path h)

-- nothing, or a slash and more
abbrev pub IsRest : List ℕ → Type 0
IsRest rest = (rest ≡ []) ⊎ (starts_with nat_eq rest root ≡ true)

rest_of_other : (top path : List ℕ) (at at_root : Bool) → bytes_eq path top ≡ at → bytes_eq top root ≡ at_root → (at || is_below top path) ≡ true → (at_root && not (bytes_eq path root)) ≡ false → IsRest (drop (length top) path)
rest_of_other top path true at_root e r h c = inl (ap (drop (length top)) (same_bytes path top e) ∙ drop-length top)
rest_of_other top path false true e r h c = inl (ap (drop (length top)) (path_is_top (bytes_eq path root) refl c) ∙ drop-length top)
  where
    path_is_top : (b : Bool) → bytes_eq path root ≡ b → not b ≡ false → path ≡ top
    path_is_top true p c = same_bytes path root p ∙ sym (same_bytes top root r)
    path_is_top false p c = absurd (false≢true (sym c))
rest_of_other top path false false e r h c = inr (and_second _ _ (sym (begins_front top path r) ∙ and_first _ _ h))

rest_by : (top path : List ℕ) (b : Bool) → (bytes_eq top root && not (bytes_eq path root)) ≡ b → is_at_or_below top path ≡ true → IsRest (cond b path (drop (length top) path))
rest_by top path true c h = inr (subst (λ d. starts_with nat_eq path d ≡ true) (same_bytes top root (and_first _ _ c)) (begins top path h))
rest_by top path false c h = rest_of_other top path (bytes_eq path top) (bytes_eq top root) refl refl h c

pub rest_below-IsRest : (top path : List ℕ) → is_at_or_below top path ≡ true → IsRest (rest_below top path)
rest_below-IsRest top path h = rest_by top path _ refl h

front_begins : (to rest : List ℕ) (at_root : Bool) → bytes_eq to root ≡ at_root → starts_with nat_eq rest root ≡ true → starts_with nat_eq (to ++ rest) (cond at_root root (to ++ root)) ≡ true
front_begins to rest true r h = subst (λ d. starts_with nat_eq (d ++ rest) root ≡ true) (sym (same_bytes to root r)) refl
front_begins to rest false r h =
    begins_append (to ++ rest) to root
    ∙ ap (λ b. b && starts_with nat_eq (drop (length to) (to ++ rest)) root) (starts_append to rest)
    ∙ ap (λ xs. starts_with nat_eq xs root) (drop-append_seam to rest) ∙ h

joined_by : (to rest : List ℕ) (at : Bool) → starts_with nat_eq rest root ≡ true → (at || (starts_with nat_eq (to ++ rest) (front_below to) && not at)) ≡ true
joined_by to rest true h = refl
joined_by to rest false h = ap (λ b. b && true) (front_begins to rest (bytes_eq to root) refl h)

-- a rest behind a name lies at that name or below it
pub joined_below : (to rest : List ℕ) → IsRest rest → is_at_or_below to (to ++ rest) ≡ true
joined_below to rest (inl e) = ap (λ b. b || is_below to (to ++ rest)) (bytes_same (to ++ rest) to (ap (λ xs. to ++ xs) e ∙ append_none to))
joined_below to rest (inr h) = joined_by to rest (bytes_eq (to ++ rest) to) h

module _ {X : Type 0} (from to : List ℕ) where
  abbrev is_there : List ℕ × X → Bool
  is_there e = is_at_or_below to e.0

  abbrev moved : List ℕ × X → List ℕ × X
  moved e = (to ++ rest_below from e.0, e.1)

  copies_there_by : (e : List ℕ × X) (es : List (List ℕ × X)) (b : Bool) → is_at_or_below from e.0 ≡ b → list_all is_there (map moved es) ≡ true → list_all is_there (map moved (cond b (e ∷ es) es)) ≡ true
  copies_there_by e es true h rest = ap (λ b. b && list_all is_there (map moved es)) (joined_below to (rest_below from e.0) (rest_below-IsRest from e.0 h)) ∙ rest
  copies_there_by e es false h rest = rest

  -- what a copy adds lies where it is copied to, or below
  pub copies_there : (es : List (List ℕ × X)) → list_all (λ (e : List ℕ × X). is_at_or_below to e.0) (copies_of from to es) ≡ true
  copies_there [] = refl
  copies_there (e ∷ es) = copies_there_by e (filter (λ (e : List ℕ × X). is_at_or_below from e.0) es) (is_at_or_below from e.0) refl (copies_there es)
