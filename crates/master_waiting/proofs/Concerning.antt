-- What waiting snapshots are about, and what of it records leave as it was.
use native.Mathlib.Omega.{arith}
use Rattle.std.proofs.Common.{◌≡◌, ◌⊎◌, ℕ, suc, ◌≤◌, Bool, true, false, cond, eqb, ltb, not, ◌||◌, List, [], ◌∷◌, ◌++◌, length, refl, sym, ap, ◌∙◌, subst, Some, None, Option, inl, inr, append-nil}
use Rattle.std.specs.Prelude.{◌==◌, ◌&&◌, is_some, map, flat_map, drop, unwrap_or}
use Rattle.std.specs.List.{filter, list_any}
use Rattle.std.specs.Ordering.{nat_cmp, eq_by_cmp}
use Rattle.std.specs.Cmp.{nat_cmp_total}
use Rattle.std.specs.FinMap.{FinMap, get, insert, remove, empty, entries, get-insert, get-empty, get-entries}
use Rattle.std.proofs.lemmas.Bool.{true≢false, false≢true, or_parts, or_left, or_right, eqb-true, false_from_ne_true}
use Rattle.std.proofs.lemmas.Bool.Decides.{nat_tests}
use Rattle.chunk_table.specs.ChunkTable.{NumberTable, ChunkTable, handles_of}
use Rattle.chunk_table.proofs.Lookups.{at_key, same_key, key_itself}
use Rattle.gfs_types.specs.Paths.{Path, is_at_or_below}
use Rattle.relaxed_file.specs.Names.{Names, Node, Dir, File, node_at, copied_entries}
use Rattle.relaxed_file.proofs.NamesTree.{HasAt, found_at, entry_is}
use Rattle.protocol.specs.Tables.{has_number, with_number, rising}
use Rattle.protocol.specs.Logged.{Logged}
use Rattle.protocol.specs.Master.{PendingSnapshot}
use Rattle.protocol.specs.MasterSnapshots.{node_handles, node_files}
use Rattle.master_state.specs.Copied.{handles_copied, files_copied}
use Rattle.master_waiting.specs.Concerned.{NumberSet, is_in, with_all, copies_file, shares_chunk, files_of_all, chunks_of_all, AreConcerned, IfKnown, is_source}

-- tests

pub same_tests : (a b : Bool) → (a ≡ true → b ≡ true) → (b ≡ true → a ≡ true) → a ≡ b
same_tests true b f g = sym (f refl)
same_tests false true f g = g refl
same_tests false false f g = refl

pub or_cases : (a b : Bool) → a || b ≡ true → (a ≡ true) ⊎ (b ≡ true)
or_cases true b h = inl refl
or_cases false b h = inr h

pub neither : (a b : Bool) → a ≡ false → b ≡ false → a || b ≡ false
neither a b p q = ap (λ x. x || b) p ∙ q

or_none : (a : Bool) → a || false ≡ a
or_none true = refl
or_none false = refl

joined : (a b c : Bool) → a || (b || c) ≡ (a || b) || c
joined true b c = refl
joined false b c = refl

swapped : (a b c : Bool) → (a || b) || c ≡ b || (a || c)
swapped true true c = refl
swapped true false c = refl
swapped false b c = refl

marked : (b : Bool) (o : Option (Unit {0})) → is_some (cond b (Some tt) o) ≡ b || is_some o
marked true o = refl
marked false o = refl

-- numbers

pub itself : (n : ℕ) → (n == n) ≡ true
itself n = grind (arith, nat_tests)

pub number_or_not : (a b : ℕ) → (a ≡ b) ⊎ (a ≡ b → ⊥)
number_or_not a b = elim (eqb a b) as (λ t. eqb a b ≡ t → (a ≡ b) ⊎ (a ≡ b → ⊥)) [
  | true ↦ λ e. inl (eqb-true a b e)
  | false ↦ λ e. inr (λ same. true≢false (sym (itself b) ∙ ap (λ x. x == b) (sym same) ∙ e))
] refl

same_eq : (q n : ℕ) → eq_by_cmp nat_cmp q n ≡ (n == q)
same_eq q n = elim (eqb n q) as (λ b. eqb n q ≡ b → eq_by_cmp nat_cmp q n ≡ b) [
  | true ↦ λ e. let same : n ≡ q = grind (arith, nat_tests) in ap (eq_by_cmp nat_cmp q) same ∙ key_itself q
  | false ↦ λ e. elim (eq_by_cmp nat_cmp q n) as (λ b. eq_by_cmp nat_cmp q n ≡ b → b ≡ false) [
    | true ↦ λ t. let same : q ≡ n = same_key q n t in absurd (grind (arith, nat_tests))
    | false ↦ λ t. refl
  ] refl
] refl

-- sets

pub put_one : (set : NumberSet) (k n : ℕ) → is_in (insert set k tt) n ≡ (k == n) || is_in set n
put_one set k n =
    ap is_some (get-insert nat_cmp_total set k tt n) ∙ marked (eq_by_cmp nat_cmp n k) (get set n) ∙ ap (λ b. b || is_in set n) (same_eq n k)

one_more : (set : NumberSet) (k n : ℕ) (rest : List ℕ) → is_in (insert set k tt) n || has_number rest n ≡ is_in set n || has_number (k ∷ rest) n
one_more set k n rest = ap (λ b. b || has_number rest n) (put_one set k n) ∙ swapped (k == n) (is_in set n) (has_number rest n)

in_all : (set : NumberSet) (ns : List ℕ) (n : ℕ) → is_in (with_all set ns) n ≡ is_in set n || has_number ns n
in_all set [] n = sym (or_none (is_in set n))
in_all set (k ∷ ns) n = in_all (insert set k tt) ns n ∙ one_more set k n ns

none_in : (b : Bool) (n : ℕ) → is_in empty n || b ≡ b
none_in b n = ap (λ (o : Option (Unit {0})). is_some o || b) (get-empty nat_cmp n)

in_files : (l : Logged) (ss : List PendingSnapshot) (set : NumberSet) (n : ℕ) → is_in (files_of_all l ss set) n ≡ is_in set n || copies_file l ss n
in_files l [] set n = sym (or_none (is_in set n))
in_files l (s ∷ ss) set n =
    in_files l ss (with_all set (files_copied l s.from s.to)) n
    ∙ ap (λ b. b || copies_file l ss n) (in_all set (files_copied l s.from s.to) n)
    ∙ sym (joined (is_in set n) (has_number (files_copied l s.from s.to) n) (copies_file l ss n))

in_chunks : (l : Logged) (ss : List PendingSnapshot) (set : NumberSet) (n : ℕ) → is_in (chunks_of_all l ss set) n ≡ is_in set n || shares_chunk l ss n
in_chunks l [] set n = sym (or_none (is_in set n))
in_chunks l (s ∷ ss) set n =
    in_chunks l ss (with_all set (handles_copied l s.from s.to)) n
    ∙ ap (λ b. b || shares_chunk l ss n) (in_all set (handles_copied l s.from s.to) n)
    ∙ sym (joined (is_in set n) (has_number (handles_copied l s.from s.to) n) (shares_chunk l ss n))

-- what is found over the names
pub found : (l : Logged) (ss : List PendingSnapshot) → AreConcerned l ss (files_of_all l ss empty) (chunks_of_all l ss empty)
found l ss = (
  λ n. in_files l ss empty n ∙ none_in (copies_file l ss n) n,
  λ n. in_chunks l ss empty n ∙ none_in (shares_chunk l ss n) n,
)

-- one number more in a rising list

either_swapped : (a b c : Bool) → b || (a || c) ≡ a || (b || c)
either_swapped true true c = refl
either_swapped true false c = refl
either_swapped false b c = refl

twice : (a c : Bool) → a || c ≡ a || (a || c)
twice true c = refl
twice false c = refl

any_with : (p : ℕ → Bool) (ys : List ℕ) (n : ℕ) → list_any p (with_number ys n) ≡ p n || list_any p ys
any_with p [] n = refl
any_with p (y ∷ ys) n =
    elim (eqb y n) as (λ b. eqb y n ≡ b → list_any p (cond b (y ∷ ys) (cond (ltb n y) (n ∷ y ∷ ys) (y ∷ with_number ys n))) ≡ p n || (p y || list_any p ys)) [
      | true ↦ λ e. let same : y ≡ n = grind (arith, nat_tests) in twice (p y) (list_any p ys) ∙ ap (λ x. p x || (p y || list_any p ys)) same
      | false ↦ λ e. elim (ltb n y) as (λ b. list_any p (cond b (n ∷ y ∷ ys) (y ∷ with_number ys n)) ≡ p n || (p y || list_any p ys)) [
        | true ↦ refl
        | false ↦ ap (λ b. p y || b) (any_with p ys n) ∙ either_swapped (p n) (p y) (list_any p ys)
      ]
    ] refl

pub any_rising : (p : ℕ → Bool) (xs : List ℕ) → list_any p (rising xs) ≡ list_any p xs
any_rising p [] = refl
any_rising p (x ∷ xs) = any_with p (rising xs) x ∙ ap (λ b. p x || b) (any_rising p xs)

pub any_both : (p : ℕ → Bool) (xs ys : List ℕ) → list_any p (xs ++ ys) ≡ list_any p xs || list_any p ys
any_both p [] ys = refl
any_both p (x ∷ xs) ys = ap (λ b. p x || b) (any_both p xs ys) ∙ joined (p x) (list_any p xs) (list_any p ys)

any_same : {X : Type 0} (p q : X → Bool) → ((x : X) → p x ≡ q x) → (xs : List X) → list_any p xs ≡ list_any q xs
any_same p q same [] = refl
any_same p q same (x ∷ xs) = ap (λ b. b || list_any p xs) (same x) ∙ ap (λ b. q x || b) (any_same p q same xs)

-- what the copied names have

module _ (g : Node → List ℕ) where
  abbrev moved : Path → Path → Path × Node → Path × Node
  moved from to e = (to ++ drop (length from) e.0, e.1)

  abbrev kept_of : Path → List (Path × Node) → List (Path × Node)
  kept_of from es = filter (λ e. is_at_or_below from e.0) es

  abbrev of_kept : Path → Path → List (Path × Node) → List ℕ
  of_kept from to ks = flat_map (λ e. g e.1) (map (moved from to) ks)

  abbrev copied : Path → Path → List (Path × Node) → List ℕ
  copied from to es = of_kept from to (kept_of from es)

  here_cons : (from to : Path) (e : Path × Node) (es : List (Path × Node)) (n : ℕ) → is_at_or_below from e.0 ≡ true → has_number (copied from to (e ∷ es)) n ≡ has_number (g e.1) n || has_number (copied from to es) n
  here_cons from to e es n at =
      ap (λ (b : Bool). has_number (of_kept from to (cond b (e ∷ kept_of from es) (kept_of from es))) n) at ∙ any_both (λ x. x == n) (g e.1) (copied from to es)

  there_cons : (from to : Path) (e : Path × Node) (es : List (Path × Node)) (n : ℕ) → is_at_or_below from e.0 ≡ false → has_number (copied from to (e ∷ es)) n ≡ has_number (copied from to es) n
  there_cons from to e es n at = ap (λ (b : Bool). has_number (of_kept from to (cond b (e ∷ kept_of from es) (kept_of from es))) n) at

  -- an entry that is copied and has this number
  abbrev HasEntry : Path → List (Path × Node) → ℕ → Type 0
  HasEntry from es n = (x : Path) × (v : Node) × HasAt es x v × (is_at_or_below from x ≡ true) × (has_number (g v) n ≡ true)

  copied_there : (from to : Path) (es : List (Path × Node)) (n : ℕ) → has_number (copied from to es) n ≡ true → HasEntry from es n
  copied_there from to [] n h = absurd (false≢true h)
  copied_there from to (e ∷ es) n h = by_test (is_at_or_below from e.0) refl (λ more. copied_there from to es n more)
    where
      later : HasEntry from es n → HasEntry from (e ∷ es) n
      later f = (f.0, f.1, inr f.2, f.3, f.4)

      by_half : is_at_or_below from e.0 ≡ true → (has_number (copied from to es) n ≡ true → HasEntry from es n) → (has_number (g e.1) n ≡ true) ⊎ (has_number (copied from to es) n ≡ true) → HasEntry from (e ∷ es) n
      by_half at rest (inl here) = (e.0, e.1, inl (refl, refl), at, here)
      by_half at rest (inr there) = later (rest there)

      by_test : (b : Bool) → is_at_or_below from e.0 ≡ b → (has_number (copied from to es) n ≡ true → HasEntry from es n) → HasEntry from (e ∷ es) n
      by_test true at rest = by_half at rest (or_cases (has_number (g e.1) n) (has_number (copied from to es) n) (sym (here_cons from to e es n at) ∙ h))
      by_test false at rest = later (rest (sym (there_cons from to e es n at) ∙ h))

  there_copied : (from to : Path) (es : List (Path × Node)) (x : Path) (v : Node) (n : ℕ) → HasAt es x v → is_at_or_below from x ≡ true → has_number (g v) n ≡ true → has_number (copied from to es) n ≡ true
  there_copied from to [] x v n has at some = absurd has
  there_copied from to (e ∷ es) x v n has at some = by_test (is_at_or_below from e.0) refl has (λ later. there_copied from to es x v n later at some)
    where
      by_test : (b : Bool) → is_at_or_below from e.0 ≡ b → ((e.0 ≡ x) × (e.1 ≡ v)) ⊎ HasAt es x v → (HasAt es x v → has_number (copied from to es) n ≡ true) → has_number (copied from to (e ∷ es)) n ≡ true
      by_test true is (inl here) rest = here_cons from to e es n is ∙ or_left (has_number (g e.1) n) (has_number (copied from to es) n) (ap (λ (w : Node). has_number (g w) n) here.1 ∙ some)
      by_test true is (inr later) rest = here_cons from to e es n is ∙ or_right (has_number (g e.1) n) (has_number (copied from to es) n) (rest later)
      by_test false is (inl here) rest = absurd (true≢false (sym at ∙ ap (is_at_or_below from) (sym here.0) ∙ is))
      by_test false is (inr later) rest = there_cons from to e es n is ∙ rest later

  -- a name at a source or below it that has this number
  abbrev pub HasCopied : Names → List PendingSnapshot → ℕ → Type 0
  HasCopied names ss n = (x : Path) × (v : Node) × (is_source ss x ≡ true) × (node_at names x ≡ Some v) × (has_number (g v) n ≡ true)

  abbrev any_copied : Names → List PendingSnapshot → ℕ → Bool
  any_copied names ss n = list_any (λ s. has_number (flat_map (λ e. g e.1) (copied_entries names s.from s.to)) n) ss

  pub any_there : (names : Names) (ss : List PendingSnapshot) (n : ℕ) → any_copied names ss n ≡ true → HasCopied names ss n
  any_there names [] n h = absurd (false≢true h)
  any_there names (s ∷ ss) n h = by_half (λ more. any_there names ss n more) (or_cases (has_number (copied s.from s.to (entries names)) n) (any_copied names ss n) h)
    where
      by_half : (any_copied names ss n ≡ true → HasCopied names ss n) → (has_number (copied s.from s.to (entries names)) n ≡ true) ⊎ (any_copied names ss n ≡ true) → HasCopied names (s ∷ ss) n
      by_half rest (inl here) =
          let f = copied_there s.from s.to (entries names) n here in (f.0, f.1, or_left (is_at_or_below s.from f.0) (is_source ss f.0) f.3, entry_is names f.0 f.1 f.2, f.4)
      by_half rest (inr there) = let f = rest there in (f.0, f.1, or_right (is_at_or_below s.from f.0) (is_source ss f.0) f.2, f.3, f.4)

  pub there_any : (names : Names) (ss : List PendingSnapshot) (n : ℕ) → HasCopied names ss n → any_copied names ss n ≡ true
  there_any names [] n f = absurd (false≢true f.2)
  there_any names (s ∷ ss) n f = by_half (λ more. there_any names ss n more) (or_cases (is_at_or_below s.from f.0) (is_source ss f.0) f.2)
    where
      by_half : (HasCopied names ss n → any_copied names ss n ≡ true) → (is_at_or_below s.from f.0 ≡ true) ⊎ (is_source ss f.0 ≡ true) → any_copied names (s ∷ ss) n ≡ true
      by_half rest (inl at) =
          or_left (has_number (copied s.from s.to (entries names)) n) (any_copied names ss n)
          (there_copied s.from s.to (entries names) f.0 f.1 n (found_at f.0 (entries names) f.1 (sym (get-entries names f.0) ∙ f.3)) at f.4)
      by_half rest (inr below) = or_right (has_number (copied s.from s.to (entries names)) n) (any_copied names ss n) (rest (f.0, f.1, below, f.3, f.4))

-- the chunks that are shared, in any order
pub shared_is : (l : Logged) (ss : List PendingSnapshot) (n : ℕ) → shares_chunk l ss n ≡ any_copied (node_handles l.table) l.names ss n
shared_is l ss n =
    any_same (λ s. has_number (handles_copied l s.from s.to) n) (λ s. has_number (flat_map (λ e. node_handles l.table e.1) (copied_entries l.names s.from s.to)) n)
    (λ s. any_rising (λ x. x == n) (flat_map (λ e. node_handles l.table e.1) (copied_entries l.names s.from s.to))) ss

pub one_file : (id : ℕ) → has_number (node_files (File id)) id ≡ true
one_file id = or_left (id == id) false (itself id)

-- a name with a chunk is a file's
pub file_with : (t : ChunkTable) (v : Node) (n : ℕ) → has_number (node_handles t v) n ≡ true → (id : ℕ) × (v ≡ File id) × (has_number (handles_of t id) n ≡ true)
file_with t Dir n h = absurd (false≢true h)
file_with t (File id) n h = (id, refl, h)

-- another key of a table
pub other_key : {X : Type 0} (m : NumberTable X) (k : ℕ) (v : X) (q : ℕ) → (q ≡ k → ⊥) → get (insert m k v) q ≡ get m q
other_key m k v q apart =
    get-insert nat_cmp_total m k v q ∙ at_key (λ x o. (x ≡ k → ⊥) → o ≡ get m q) q k (Some v) (get m q) (λ ne. absurd (ne refl)) (λ _ _. refl) apart

pub own_key : {X : Type 0} (m : NumberTable X) (k : ℕ) (v : X) → get (insert m k v) k ≡ Some v
own_key m k v = get-insert nat_cmp_total m k v k ∙ ap (λ b. cond b (Some v) (get m k)) (key_itself k)

-- What snapshots are about stays, where the names at their sources and below, and the chunks of these files, stay.
module _ (l after : Logged) (ss : List PendingSnapshot) where
  abbrev AreNamesSame : Type 0
  AreNamesSame = (x : Path) → is_source ss x ≡ true → node_at after.names x ≡ node_at l.names x

  file_stays : AreNamesSame → (n : ℕ) → copies_file l ss n ≡ copies_file after ss n
  file_stays names n =
      same_tests (copies_file l ss n) (copies_file after ss n)
      (λ t. let f = any_there node_files l.names ss n t in there_any node_files after.names ss n (f.0, f.1, f.2, names f.0 f.2 ∙ f.3, f.4))
      (λ t. let f = any_there node_files after.names ss n t in there_any node_files l.names ss n (f.0, f.1, f.2, sym (names f.0 f.2) ∙ f.3, f.4))

  chunk_stays : AreNamesSame → ((id : ℕ) → copies_file l ss id ≡ true → handles_of after.table id ≡ handles_of l.table id) → (n : ℕ) → shares_chunk l ss n ≡ shares_chunk after ss n
  chunk_stays names handles n =
      same_tests (shares_chunk l ss n) (shares_chunk after ss n)
      (λ t.
      let f = any_there (node_handles l.table) l.names ss n (sym (shared_is l ss n) ∙ t) in
      let g = file_with l.table f.1 n f.4 in
      let stands : node_at l.names f.0 ≡ Some (File g.0) = f.3 ∙ ap Some g.1 in
      let is_copied : copies_file l ss g.0 ≡ true = there_any node_files l.names ss g.0 (f.0, File g.0, f.2, stands, one_file g.0) in
      shared_is after ss n
      ∙ there_any (node_handles after.table) after.names ss n (f.0, File g.0, f.2, names f.0 f.2 ∙ stands, ap (λ hs. has_number hs n) (handles g.0 is_copied) ∙ g.2))
      (λ t.
      let f = any_there (node_handles after.table) after.names ss n (sym (shared_is after ss n) ∙ t) in
      let g = file_with after.table f.1 n f.4 in
      let stands : node_at l.names f.0 ≡ Some (File g.0) = sym (names f.0 f.2) ∙ f.3 ∙ ap Some g.1 in
      let is_copied : copies_file l ss g.0 ≡ true = there_any node_files l.names ss g.0 (f.0, File g.0, f.2, stands, one_file g.0) in
      shared_is l ss n
      ∙ there_any (node_handles l.table) l.names ss n (f.0, File g.0, f.2, stands, ap (λ hs. has_number hs n) (sym (handles g.0 is_copied)) ∙ g.2))

  pub all_stay : (files chunks : NumberSet) → AreNamesSame → ((id : ℕ) → is_in files id ≡ true → handles_of after.table id ≡ handles_of l.table id)
      → AreConcerned l ss files chunks → AreConcerned after ss files chunks
  all_stay files chunks names handles h = (
    λ n. h.0 n ∙ file_stays names n,
    λ n. h.1 n ∙ chunk_stays names (λ id is_copied. handles id (h.0 id ∙ is_copied)) n,
  )

-- Where all that wait live on, none of them goes.

fewer : {X : Type 0} (p : X → Bool) (xs : List X) → length (filter p xs) ≤ length xs
fewer p [] = omega arith
fewer p (x ∷ xs) = let rest = fewer p xs in elim (p x) as (λ b. length (cond b (x ∷ filter p xs) (filter p xs)) ≤ suc (length xs)) [ true ↦ omega (arith, rest) | false ↦ omega (arith, rest) ]

all_kept : {X : Type 0} (p : X → Bool) (xs : List X) → length (filter p xs) ≡ length xs → filter p xs ≡ xs
all_kept p [] e = refl
all_kept {X} p (x ∷ xs) e =
    elim (p x) as (λ b. length (cond b (x ∷ filter p xs) (filter p xs)) ≡ suc (length xs) → cond b (x ∷ filter p xs) (filter p xs) ≡ x ∷ xs) [
      | true ↦ λ h. ap (λ (ys : List X). x ∷ ys) (all_kept p xs (omega (arith, h)))
      | false ↦ λ h. let less = fewer p xs in absurd (omega (arith, h, less))
    ] e

pub live_on : (l : Logged) (p : PendingSnapshot → Bool) (ss left : List PendingSnapshot) (files chunks : NumberSet) (known same : Bool) → left ≡ filter p ss → (same ≡ true → length left ≡ length ss)
    → IfKnown known (AreConcerned l ss files chunks) → IfKnown (known && same) (AreConcerned l left files chunks)
live_on l p ss left files chunks false same is count h = tt
live_on l p ss left files chunks true false is count h = tt
live_on l p ss left files chunks true true is count h =
    subst (λ xs. AreConcerned l xs files chunks) (sym (is ∙ all_kept p ss (sym (ap (λ (xs : List PendingSnapshot). length xs) is) ∙ count refl))) h

-- Copies that are given up, and the end of a lease, change no name and no file.
pub same_files : (l after : Logged) (ss : List PendingSnapshot) (files chunks : NumberSet) (known : Bool) → after.names ≡ l.names → after.table.files ≡ l.table.files
    → IfKnown known (AreConcerned l ss files chunks) → IfKnown known (AreConcerned after ss files chunks)
same_files l after ss files chunks false names table h = tt
same_files l after ss files chunks true names table h =
    all_stay l after ss files chunks (λ x c. ap (λ (m : Names). node_at m x) names) (λ id c. ap (λ (m : NumberTable (List ℕ)). unwrap_or (get m id) []) table) h
