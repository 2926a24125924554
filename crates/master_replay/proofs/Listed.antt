-- The names below a directory, by the last parts of their paths.
use Rattle.std.proofs.Common.{◌≡◌, Bool, true, false, not, ◌||◌, eqb, cond, List, [], ◌∷◌, length, suc, refl, ap, arith}
use Rattle.std.specs.Prelude.{ℕ, map, filter}
use Rattle.std.specs.List.{list_any}
use Rattle.std.proofs.lemmas.Bool.Decides.{nat_tests}
use Rattle.std.specs.FinMap.{entries}
use Rattle.gfs_types.specs.Paths.{Path, last_part, is_child}
use Rattle.path_trie.specs.Below.{children_by_part}
use Rattle.relaxed_file.specs.Names.{Names, Node, listed, listing, has_children}
use Rattle.master_replay.specs.Listing.{named}

by_part : (es : List (Path × Node)) → map named (map (λ e. (last_part e.0, e.1)) es) ≡ map listed es
by_part [] = refl
by_part (e ∷ es) = ap (λ (l : List (List ℕ)). listed e ∷ l) (by_part es)

pub all_listed : (names : Names) (directory : Path) → map named (children_by_part names directory) ≡ listing names directory
all_listed names directory = by_part (filter (λ e. is_child directory e.0) (entries names))

abbrev part : Path × Node → List ℕ × Node
part e = (last_part e.0, e.1)

not_zero : (n : ℕ) → not (eqb (suc n) 0) ≡ true
not_zero n = elim (eqb (suc n) 0) as (λ b. eqb (suc n) 0 ≡ b → not b ≡ true) [ true ↦ λ e. absurd (grind (arith, nat_tests)) | false ↦ λ e. refl ] refl

none_left : (test : Path × Node → Bool) (es : List (Path × Node)) → not (eqb (length (map part (filter test es))) 0) ≡ list_any test es
none_left test [] = refl
none_left test (e ∷ es) =
    elim (test e) as (λ b. not (eqb (length (map part (cond b (e ∷ filter test es) (filter test es)))) 0) ≡ (b || list_any test es)) [
      | true ↦ not_zero (length (map part (filter test es)))
      | false ↦ none_left test es
    ]

-- a directory has children where the list of them isn't empty
pub any_child : (names : Names) (directory : Path) → not (eqb (length (children_by_part names directory)) 0) ≡ has_children names directory
any_child names directory = none_left (λ e. is_child directory e.0) (entries names)
