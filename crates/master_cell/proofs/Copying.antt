-- Files that are copied one after another are all of them.
use Rattle.std.proofs.Common.{◌≡◌, ℕ, ◌+◌, ◌<◌, Bool, true, false, cond, ltb, List, Some, None, Option, OnSome, refl, sym, ap, ◌∙◌, arith}
use Rattle.std.specs.Ordering.{nat_cmp, eq_by_cmp}
use Rattle.std.specs.Cmp.{nat_cmp_total}
use Rattle.std.specs.FinMap.{get, empty, get-empty, get-insert, same_map, nat_cmp-IsAntisymmetric}
use Rattle.std.proofs.lemmas.Bool.Decides.{nat_tests}
use Rattle.chunk_table.specs.ChunkTable.{NumberTable}
use Rattle.chunk_table.specs.Owners.{IsSoundFile}
use Rattle.chunk_table.proofs.Lookups.{same_key, key_itself}
use Rattle.master_cell.specs.Copies.{with_copy_of}

differs : false ≡ true → ⊥
differs e = cc

-- the files below a number
abbrev pub below : NumberTable (List ℕ) → ℕ → ℕ → Option (List ℕ)
below files n q = cond (ltb q n) (get files q) None

pub none_below : (files : NumberTable (List ℕ)) (q : ℕ) → get (empty {X = List ℕ} {R = nat_cmp}) q ≡ below files 0 q
none_below files q =
    let past : ltb q 0 ≡ false = grind (arith, nat_tests) in
    get-empty nat_cmp q ∙ sym (ap (λ b. cond b (get files q) None) past)

itself : (files : NumberTable (List ℕ)) (n : ℕ) → below files n n ≡ None
itself files n =
    let past : ltb n n ≡ false = grind (arith, nat_tests) in
    ap (λ b. cond b (get files n) None) past

get_put : (m : NumberTable (List ℕ)) (n q : ℕ) (o : Option (List ℕ)) → get m n ≡ None → get (with_copy_of m n o) q ≡ cond (eq_by_cmp nat_cmp q n) o (get m q)
get_put m n q None none =
    elim (eq_by_cmp nat_cmp q n) as (λ b. eq_by_cmp nat_cmp q n ≡ b → get m q ≡ cond b None (get m q)) [
      | true ↦ λ e. ap (get m) (same_key q n e) ∙ none
      | false ↦ λ e. refl
    ] refl
get_put m n q (Some handles) none = get-insert nat_cmp_total m n handles q

-- one file more
pub stepped : (m files : NumberTable (List ℕ)) (n : ℕ) → ((q : ℕ) → get m q ≡ below files n q) → (q : ℕ) → get (with_copy_of m n (get files n)) q ≡ below files (n + 1) q
stepped m files n h q =
    get_put m n q (get files n) (h n ∙ itself files n)
    ∙ ap (λ o. cond (eq_by_cmp nat_cmp q n) (get files n) o) (h q)
    ∙ elim (eq_by_cmp nat_cmp q n) as (λ b. eq_by_cmp nat_cmp q n ≡ b → cond b (get files n) (below files n q) ≡ below files (n + 1) q) [
      | true ↦ λ e.
          let same : q ≡ n = same_key q n e in
          let after : ltb q (n + 1) ≡ true = grind (arith, nat_tests) in
          ap (get files) (sym same) ∙ sym (ap (λ b. cond b (get files q) None) after)
      | false ↦ λ e.
          let apart : q ≡ n → ⊥ = λ s. differs (sym e ∙ ap (λ x. eq_by_cmp nat_cmp q x) (sym s) ∙ key_itself q) in
          let alike : ltb q n ≡ ltb q (n + 1) = grind (arith, nat_tests) in
          ap (λ b. cond b (get files q) None) alike
    ] refl

neither : (b : Bool) → ◌≡◌ {A = Option (List ℕ)} (cond b None None) None
neither true = refl
neither false = refl

all_below : (next q : ℕ) (o : Option (List ℕ)) → OnSome o (IsSoundFile next q) → cond (ltb q next) o None ≡ o
all_below next q None sound = neither (ltb q next)
all_below next q (Some handles) sound =
    let given : q < next = sound.given in
    let yes : ltb q next ≡ true = grind (arith, nat_tests) in
    ap (λ b. cond b (Some handles) None) yes

-- no file's number reaches the next file's
pub whole : (m files : NumberTable (List ℕ)) (next : ℕ) → ((q : ℕ) → get m q ≡ below files next q) → ((q : ℕ) → OnSome (get files q) (IsSoundFile next q)) → m ≡ files
whole m files next h sound = same_map nat_cmp_total nat_cmp-IsAntisymmetric _ _ (λ q. h q ∙ all_below next q (get files q) (sound q))
