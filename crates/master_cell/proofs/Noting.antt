-- The files of the copies under way are noted one after another.
use Rattle.std.proofs.Common.{◌≡◌, ℕ, ◌+◌, ◌<◌, ◌≤◌, Bool, true, false, cond, List, [], ◌∷◌, ◌++◌, take, length, get_or, is_some, Some, None, Option, refl, sym, ap, ◌∙◌}
use Rattle.std.specs.Prelude.{◌||◌, option_map}
use Rattle.std.specs.List.{list_any}
use Rattle.std.specs.Ordering.{nat_cmp, eq_by_cmp}
use Rattle.std.specs.Cmp.{nat_cmp_total}
use Rattle.std.specs.FinMap as table
use Rattle.std.proofs.lemmas.List.{take_more, take_all}
use Rattle.chunk_table.proofs.Lookups.{same_key}
use Rattle.protocol.specs.Logged.{Logged, Copy}
use Rattle.protocol.specs.Tables.{Table}
use Rattle.master_cell.specs.Files.{with_file_of}

abbrev pub file_under : Logged → ℕ → Option ℕ
file_under l handle = option_map (λ (c : Copy). c.file) (table.get l.copies handle)

-- so far of these handles
abbrev pub noted : Logged → List ℕ → ℕ → Option ℕ
noted l handles q = cond (list_any (eq_by_cmp nat_cmp q) handles) (file_under l q) None

any_last : (f : ℕ → Bool) (xs : List ℕ) (x : ℕ) → list_any f (xs ++ x ∷ []) ≡ (f x || list_any f xs)
any_last f [] x = refl
any_last f (y ∷ ys) x = ap (λ b. f y || b) (any_last f ys x) ∙ swapped (f y) (f x) (list_any f ys)
  where
    swapped : (a b c : Bool) → (a || (b || c)) ≡ (b || (a || c))
    swapped true true c = refl
    swapped true false c = refl
    swapped false b c = refl

-- one handle more, of this copy
one_noted : (l : Logged) (files new : Table ℕ) (handles : List ℕ) (handle file : ℕ) → ((q : ℕ) → table.get files q ≡ noted l handles q) → new ≡ table.insert files handle file → Some file ≡ file_under l handle
    → (q : ℕ) → table.get new q ≡ noted l (handles ++ handle ∷ []) q
one_noted l files new handles handle file before is there q =
    ap (λ (t : Table ℕ). table.get t q) is
    ∙ table.get-insert nat_cmp_total files handle file q
    ∙ ap (cond (eq_by_cmp nat_cmp q handle) (Some file)) (before q)
    ∙ by_key (eq_by_cmp nat_cmp q handle) refl
    ∙ sym (ap (λ b. cond b (file_under l q) None) (any_last (eq_by_cmp nat_cmp q) handles handle))
  where
    by_key : (b : Bool) → eq_by_cmp nat_cmp q handle ≡ b → cond b (Some file) (noted l handles q) ≡ cond (b || list_any (eq_by_cmp nat_cmp q) handles) (file_under l q) None
    by_key true e = there ∙ ap (file_under l) (sym (same_key q handle e))
    by_key false e = refl

-- one handle more, of none
none_noted : (l : Logged) (files : Table ℕ) (handles : List ℕ) (handle : ℕ) → ((q : ℕ) → table.get files q ≡ noted l handles q) → None ≡ table.get l.copies handle → (q : ℕ) → table.get files q ≡ noted l (handles ++ handle ∷ []) q
none_noted l files handles handle before none q =
    before q ∙ by_key (eq_by_cmp nat_cmp q handle) refl ∙ sym (ap (λ b. cond b (file_under l q) None) (any_last (eq_by_cmp nat_cmp q) handles handle))
  where
    gone : eq_by_cmp nat_cmp q handle ≡ true → file_under l q ≡ None
    gone e = ap (file_under l) (same_key q handle e) ∙ ap (option_map (λ (c : Copy). c.file)) (sym none)

    by_rest : (b : Bool) → file_under l q ≡ None → cond b (file_under l q) None ≡ file_under l q
    by_rest true e = refl
    by_rest false e = sym e

    by_key : (b : Bool) → eq_by_cmp nat_cmp q handle ≡ b → noted l handles q ≡ cond (b || list_any (eq_by_cmp nat_cmp q) handles) (file_under l q) None
    by_key true e = by_rest (list_any (eq_by_cmp nat_cmp q) handles) (gone e)
    by_key false e = refl

-- one handle more
pub handle_noted : (l : Logged) (files new : Table ℕ) (handles : List ℕ) (i handle : ℕ) → i < length handles → handle ≡ get_or handles i handle → ((q : ℕ) → table.get files q ≡ noted l (take i handles) q)
    → new ≡ with_file_of files handle (table.get l.copies handle) → (q : ℕ) → table.get new q ≡ noted l (take (i + 1) handles) q
handle_noted l files new handles i handle within is before new_is q =
    by_copy (table.get l.copies handle) refl new_is ∙ ap (λ xs. noted l xs q) (ap (λ x. take i handles ++ x ∷ []) is ∙ sym (take_more handles i handle within))
  where
    by_copy : (o : Option Copy) → table.get l.copies handle ≡ o → new ≡ with_file_of files handle o → table.get new q ≡ noted l (take i handles ++ handle ∷ []) q
    by_copy None e made = ap (λ (t : Table ℕ). table.get t q) made ∙ none_noted l files (take i handles) handle before (sym e) q
    by_copy (Some c) e made = one_noted l files new (take i handles) handle c.file before made (sym (ap (option_map (λ (x : Copy). x.file)) e)) q

pub none_yet : (l : Logged) (files : Table ℕ) → files ≡ table.empty → (q : ℕ) → table.get files q ≡ noted l [] q
none_yet l files is q = ap (λ (t : Table ℕ). table.get t q) is ∙ table.get-empty nat_cmp q

where_some : (o : Option Copy) → cond (is_some o) (option_map (λ (c : Copy). c.file) o) None ≡ option_map (λ (c : Copy). c.file) o
where_some None = refl
where_some (Some c) = refl

-- all of them
pub all_noted : (l : Logged) (files : Table ℕ) (q : ℕ) → table.get files q ≡ noted l (table.keys l.copies) q → table.get files q ≡ file_under l q
all_noted l files q h = h ∙ ap (λ b. cond b (file_under l q) None) (sym (table.contains_key-keys l.copies q)) ∙ where_some (table.get l.copies q)

-- the same, of a list of all of them up to its end
pub all_handles : (l : Logged) (files : Table ℕ) (handles : List ℕ) (i : ℕ) → handles ≡ table.keys l.copies → length handles ≤ i → ((q : ℕ) → table.get files q ≡ noted l (take i handles) q) → (q : ℕ) → table.get files q ≡ file_under l q
all_handles l files handles i same end h q = all_noted l files q (h q ∙ ap (λ xs. noted l xs q) (take_all i handles end ∙ same))
