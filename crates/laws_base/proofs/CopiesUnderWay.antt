-- Copies under way: which are listed, and that there is one at most for a file's chunk.
use Rattle.std.proofs.Common.{◌≡◌, ℕ, Bool, true, false, cond, List, [], ◌∷◌, map, Option, Some, None, is_some, refl, sym, ap, subst, ◌∙◌}
use Rattle.std.specs.Prelude.{◌==◌, ◌&&◌, ◌||◌, filter}
use Rattle.std.specs.List.{list_any}
use Rattle.std.specs.Ordering.{nat_cmp, eq_by_cmp}
use Rattle.std.specs.Cmp.{unsigned_tied}
use Rattle.std.proofs.lemmas.Bool.{true≢false, eqb-true, and_parts, or_right}
use Rattle.std.specs.FinMap as table
use Rattle.std.specs.FinMap.Entries.{find}
use Rattle.protocol.specs.Tables.{Table, removed_all, first_of_list}
use Rattle.chunk_table.specs.ChunkTable.{ChunkRow, chunk_of}
use Rattle.protocol.specs.Logged.{Logged, Copy, copies_that, copies_given_up}
use Rattle.protocol.specs.MasterVersions.{copy_for}
use Rattle.laws_base.proofs.Steps.{none_some, same_some, gone_split, stays_gone, now_gone}
use Rattle.laws_base.proofs.Entries.{AllOf, IsFound, all_found, same_number}

-- no copy is under way for this chunk of this file
abbrev pub IsUncopied : Logged → ℕ → ℕ → Type 0
IsUncopied l file index = (handle : ℕ) (c : Copy) → table.get l.copies handle ≡ Some c → c.file ≡ file → c.index ≡ index → ⊥

abbrev pub IsListed : List ℕ → ℕ → Type 0
IsListed handles q = list_any (eq_by_cmp nat_cmp q) handles ≡ true

-- each of these is a copy's handle
abbrev pub AreCopied : Logged → List ℕ → Type 0
AreCopied l handles = (q : ℕ) → IsListed handles q → (c : Copy) × (table.get l.copies q ≡ Some c)

-- one copy at most for a file's chunk, and each has a row
pub record AreSoundCopies (l : Logged) : Type 0 where
  pub alone : (handle other : ℕ) (c d : Copy) → table.get l.copies handle ≡ Some c → table.get l.copies other ≡ Some d → c.file ≡ d.file → c.index ≡ d.index → handle ≡ other
  pub rows : (handle : ℕ) (c : Copy) → table.get l.copies handle ≡ Some c → (row : ChunkRow) × (chunk_of l.table handle ≡ Some row)

-- a listed copy, that passes the test
record IsPassed (all : List (ℕ × Copy)) (test : Copy → Bool) (q : ℕ) : Type 0 where
  copy : Copy
  at : find nat_cmp q all ≡ Some copy
  passes : test copy ≡ true

key_is : (q k : ℕ) → eq_by_cmp nat_cmp q k ≡ true → q ≡ k
key_is q k is = eqb-true q k (sym (unsigned_tied q k) ∙ is)

listed : (all : List (ℕ × Copy)) (test : Copy → Bool) (es : List (ℕ × Copy)) (q : ℕ) → AllOf (IsFound all) es → IsListed (map (λ e. e.0) (filter (λ e. test e.1) es)) q → IsPassed all test q
listed all test [] q every is = absurd (true≢false (sym is))
listed all test (e ∷ es) q every is = by_test (test e.1) refl (listed all test es q every.1) is
  where
    by_key : (b : Bool) → eq_by_cmp nat_cmp q e.0 ≡ b → test e.1 ≡ true → (IsListed (map (λ x. x.0) (filter (λ x. test x.1) es)) q → IsPassed all test q)
        → b || list_any (eq_by_cmp nat_cmp q) (map (λ x. x.0) (filter (λ x. test x.1) es)) ≡ true → IsPassed all test q
    by_key true same passes rest g = record { copy = e.1; at = ap (λ (n : ℕ). find nat_cmp n all) (key_is q e.0 same) ∙ every.0; passes = passes }
    by_key false other passes rest g = rest g

    by_test : (b : Bool) → test e.1 ≡ b → (IsListed (map (λ x. x.0) (filter (λ x. test x.1) es)) q → IsPassed all test q)
        → IsListed (map (λ x. x.0) (cond b (e ∷ filter (λ x. test x.1) es) (filter (λ x. test x.1) es))) q → IsPassed all test q
    by_test true passes rest g = by_key (eq_by_cmp nat_cmp q e.0) refl passes rest g
    by_test false fails rest g = rest g

pub listed_copied : (l : Logged) (test : Copy → Bool) → AreCopied l (copies_that l test)
listed_copied l test q is =
    let one = listed (table.entries l.copies) test (table.entries l.copies) q (all_found (table.entries l.copies) (table.entries_sorted l.copies)) is in
    (one.copy, table.get-entries l.copies q ∙ one.at)

first_listed : (all : List (ℕ × Copy)) (test : Copy → Bool) (es : List (ℕ × Copy)) (q : ℕ) → AllOf (IsFound all) es → first_of_list (map (λ e. e.0) (filter (λ e. test e.1) es)) ≡ Some q → IsPassed all test q
first_listed all test [] q every is = none_some q is
first_listed all test (e ∷ es) q every is = by_test (test e.1) refl (first_listed all test es q every.1) is
  where
    by_test : (b : Bool) → test e.1 ≡ b → (first_of_list (map (λ x. x.0) (filter (λ x. test x.1) es)) ≡ Some q → IsPassed all test q)
        → first_of_list (map (λ x. x.0) (cond b (e ∷ filter (λ x. test x.1) es) (filter (λ x. test x.1) es))) ≡ Some q → IsPassed all test q
    by_test true passes rest g = record { copy = e.1; at = ap (λ (n : ℕ). find nat_cmp n all) (sym (same_some e.0 q g)) ∙ every.0; passes = passes }
    by_test false fails rest g = rest g

none_listed : (test : Copy → Bool) (es : List (ℕ × Copy)) (q : ℕ) (c : Copy) → first_of_list (map (λ e. e.0) (filter (λ e. test e.1) es)) ≡ None → find nat_cmp q es ≡ Some c → test c ≡ true → ⊥
none_listed test [] q c none is passes = none_some c is
none_listed test (e ∷ es) q c none is passes = by_test (test e.1) refl (none_listed test es q c) none
  where
    by_key : (b : Bool) → test e.1 ≡ false → (find nat_cmp q es ≡ Some c → ⊥) → cond b (Some e.1) (find nat_cmp q es) ≡ Some c → ⊥
    by_key true fails rest g = true≢false (sym passes ∙ sym (ap test (same_some e.1 c g)) ∙ fails)
    by_key false fails rest g = rest g

    by_test : (b : Bool) → test e.1 ≡ b → (first_of_list (map (λ x. x.0) (filter (λ x. test x.1) es)) ≡ None → find nat_cmp q es ≡ Some c → test c ≡ true → ⊥)
        → first_of_list (map (λ x. x.0) (cond b (e ∷ filter (λ x. test x.1) es) (filter (λ x. test x.1) es))) ≡ None → ⊥
    by_test true same rest g = none_some e.0 (sym g)
    by_test false fails rest g = by_key (eq_by_cmp nat_cmp q e.0) fails (λ later. rest g later passes) is

-- the copy that is found for a file's chunk
pub record IsFoundCopy (l : Logged) (file index handle : ℕ) : Type 0 where
  pub copy : Copy
  pub at : table.get l.copies handle ≡ Some copy
  pub file_is : copy.file ≡ file
  pub index_is : copy.index ≡ index

pub found_for : (l : Logged) (file index handle : ℕ) → copy_for l file index ≡ Some handle → IsFoundCopy l file index handle
found_for l file index handle is =
    let one = first_listed (table.entries l.copies) (λ c. (c.file == file) && (c.index == index)) (table.entries l.copies) handle (all_found (table.entries l.copies) (table.entries_sorted l.copies)) is in
    let both = and_parts (one.copy.file == file) (one.copy.index == index) one.passes in
    record { copy = one.copy; at = table.get-entries l.copies handle ∙ one.at; file_is = eqb-true one.copy.file file both.0; index_is = eqb-true one.copy.index index both.1 }

pub none_for : (l : Logged) (file index : ℕ) → copy_for l file index ≡ None → IsUncopied l file index
none_for l file index none handle c is file_is index_is =
    none_listed (λ x. (x.file == file) && (x.index == index)) (table.entries l.copies) handle c none (sym (table.get-entries l.copies handle) ∙ is)
    (ap (λ (b : Bool). b && (c.index == index)) (same_test c.file file file_is) ∙ same_test c.index index index_is)
  where
    same_test : (a b : ℕ) → a ≡ b → (a == b) ≡ true
    same_test a b same = subst (λ (n : ℕ). (a == n) ≡ true) same (same_number a)

-- when the one copy for a file's chunk is given up, there is none
pub given_up_free : (l : Logged) (file index handle : ℕ) → IsFoundCopy l file index handle → AreSoundCopies l → IsUncopied (copies_given_up l (handle ∷ [])) file index
given_up_free l file index handle found sound other c is file_is index_is =
    let old = gone_split l.copies handle other c is in
    old.0 (sound.alone other handle c found.copy old.1 found.at (file_is ∙ sym found.file_is) (index_is ∙ sym found.index_is))

pub one_copied : (l : Logged) (file index handle : ℕ) → IsFoundCopy l file index handle → AreCopied l (handle ∷ [])
one_copied l file index handle found q is = by_key (eq_by_cmp nat_cmp q handle) refl is
  where
    by_key : (b : Bool) → eq_by_cmp nat_cmp q handle ≡ b → b || false ≡ true → (c : Copy) × (table.get l.copies q ≡ Some c)
    by_key true same g = (found.copy, ap (λ (n : ℕ). table.get l.copies n) (key_is q handle same) ∙ found.at)
    by_key false other g = absurd (true≢false (sym g))

listed_of_filter : (test : ℕ → Bool) (xs : List ℕ) (q : ℕ) → IsListed (filter test xs) q → IsListed xs q
listed_of_filter test [] q is = is
listed_of_filter test (x ∷ xs) q is = by_test (test x) (listed_of_filter test xs q) is
  where
    by_key : (b : Bool) → (IsListed (filter test xs) q → IsListed xs q) → b || list_any (eq_by_cmp nat_cmp q) (filter test xs) ≡ true → b || list_any (eq_by_cmp nat_cmp q) xs ≡ true
    by_key true rest g = refl
    by_key false rest g = rest g

    by_test : (b : Bool) → (IsListed (filter test xs) q → IsListed xs q) → IsListed (cond b (x ∷ filter test xs) (filter test xs)) q → IsListed (x ∷ xs) q
    by_test true rest g = by_key (eq_by_cmp nat_cmp q x) rest g
    by_test false rest g = or_right (eq_by_cmp nat_cmp q x) (list_any (eq_by_cmp nat_cmp q) xs) (rest g)

key_copied : (o : Option Copy) → is_some o ≡ true → (c : Copy) × (o ≡ Some c)
key_copied None is = absurd (true≢false (sym is))
key_copied (Some c) is = (c, refl)

pub keys_copied : (l : Logged) (test : ℕ → Bool) → AreCopied l (filter test (table.keys l.copies))
keys_copied l test q is = key_copied (table.get l.copies q) (table.contains_key-keys l.copies q ∙ listed_of_filter test (table.keys l.copies) q is)

pub keys_are_copied : (l : Logged) → AreCopied l (table.keys l.copies)
keys_are_copied l q is = key_copied (table.get l.copies q) (table.contains_key-keys l.copies q ∙ is)

-- copies that are all given up

pub copy_listed : (copies : Table Copy) (q : ℕ) (c : Copy) → table.get copies q ≡ Some c → list_any (eq_by_cmp nat_cmp q) (table.keys copies) ≡ true
copy_listed copies q c is = sym (table.contains_key-keys copies q) ∙ ap is_some is

pub no_copies : (copies : Table Copy) (q : ℕ) → table.get (removed_all copies (table.keys copies)) q ≡ None
no_copies copies q = by_copy (table.get copies q) refl
  where
    by_copy : (o : Option Copy) → table.get copies q ≡ o → table.get (removed_all copies (table.keys copies)) q ≡ None
    by_copy None is = stays_gone copies (table.keys copies) q is
    by_copy (Some c) is = now_gone copies (table.keys copies) q (copy_listed copies q c is)
