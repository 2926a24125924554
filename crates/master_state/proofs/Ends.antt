-- A table's values changed one number after the other.
use Rattle.std.proofs.Common.{◌≡◌, ℕ, ◌+◌, ◌<◌, true, false, cond, ltb, List, Some, None, Option, is_some, IfSome, OnSome, refl, sym, ap, ◌∙◌, arith}
use Rattle.std.specs.Ordering.{nat_cmp, eq_by_cmp}
use Rattle.std.specs.Option.{option_map}
use Rattle.std.specs.Cmp.{nat_cmp_total}
use Rattle.std.specs.FinMap.{get, insert, get-insert, same_map, nat_cmp-IsAntisymmetric}
use Rattle.std.proofs.lemmas.Bool.Decides.{nat_tests}
use Rattle.ordered_map.proofs.Filtered.{get_map}
use Rattle.gfs_types.specs.declared.shape.Shape.{Shape}
use Rattle.chunk_table.specs.ChunkTable.{NumberTable, ChunkRow, TableState, changed_by, changed_at, known_shape, known_by, known_at}
use Rattle.chunk_table.specs.Owners.{IsSoundRow, IsSoundFile, IsSound}
use Rattle.chunk_table.proofs.Lookups.{same_key, key_itself}
use Rattle.protocol.specs.Tables.{map_values}

differs : false ≡ true → ⊥
differs e = cc

module _ {X : Type 0} (change : X → X) where
  -- the values below a number are changed
  abbrev pub below_changed : NumberTable X → ℕ → ℕ → Option X
  below_changed old n q = cond (ltb q n) (option_map change (get old q)) (get old q)

  -- the value of this number is changed, where there is one
  abbrev pub IsChangedAt : NumberTable X → NumberTable X → ℕ → Type 0
  IsChangedAt later m k = (q : ℕ) → get later q ≡ cond (eq_by_cmp nat_cmp q k) (option_map change (get m q)) (get m q)

  pub none_changed : (m : NumberTable X) (k : ℕ) → get m k ≡ None → IsChangedAt m m k
  none_changed m k is q =
      elim (eq_by_cmp nat_cmp q k) as (λ b. eq_by_cmp nat_cmp q k ≡ b → get m q ≡ cond b (option_map change (get m q)) (get m q)) [
        | true ↦ λ e.
            let none : get m q ≡ None = ap (get m) (same_key q k e) ∙ is in
            none ∙ ap (option_map change) (sym none)
        | false ↦ λ e. refl
      ] refl

  pub one_changed : (m : NumberTable X) (k : ℕ) (x : X) → get m k ≡ Some x → IsChangedAt (insert m k (change x)) m k
  one_changed m k x is q =
      get-insert nat_cmp_total m k (change x) q
      ∙ elim (eq_by_cmp nat_cmp q k) as (λ b. eq_by_cmp nat_cmp q k ≡ b → cond b (Some (change x)) (get m q) ≡ cond b (option_map change (get m q)) (get m q)) [
        | true ↦ λ e. ap (option_map change) (sym (ap (get m) (same_key q k e) ∙ is))
        | false ↦ λ e. refl
      ] refl

  pub stepped : (later m old : NumberTable X) (n : ℕ) → IsChangedAt later m n → ((q : ℕ) → get m q ≡ below_changed old n q) → (q : ℕ) → get later q ≡ below_changed old (n + 1) q
  stepped later m old n changed h q =
      changed q
      ∙ ap (λ o. cond (eq_by_cmp nat_cmp q n) (option_map change o) o) (h q)
      ∙ elim (eq_by_cmp nat_cmp q n) as (λ b. eq_by_cmp nat_cmp q n ≡ b → cond b (option_map change (below_changed old n q)) (below_changed old n q) ≡ below_changed old (n + 1) q) [
        | true ↦ λ e.
            let same : q ≡ n = same_key q n e in
            let before : ltb q n ≡ false = grind (arith, nat_tests) in
            let after : ltb q (n + 1) ≡ true = grind (arith, nat_tests) in
            ap (λ b. option_map change (cond b (option_map change (get old q)) (get old q))) before ∙ sym (ap (λ b. cond b (option_map change (get old q)) (get old q)) after)
        | false ↦ λ e.
            let apart : q ≡ n → ⊥ = λ s. differs (sym e ∙ ap (λ x. eq_by_cmp nat_cmp q x) (sym s) ∙ key_itself q) in
            let alike : ltb q n ≡ ltb q (n + 1) = grind (arith, nat_tests) in
            ap (λ b. cond b (option_map change (get old q)) (get old q)) alike
      ] refl

  all_below : (next q : ℕ) (o : Option X) → (is_some o ≡ true → q < next) → cond (ltb q next) (option_map change o) o ≡ option_map change o
  all_below next q None given = elim (ltb q next) as (λ b. cond b (option_map change None) None ≡ option_map change None) [ true ↦ refl | false ↦ refl ]
  all_below next q (Some x) given =
      let below : q < next = given refl in
      let yes : ltb q next ≡ true = grind (arith, nat_tests) in
      ap (λ b. cond b (Some (change x)) (Some x)) yes

  pub whole : (m old : NumberTable X) (next : ℕ) → ((q : ℕ) → get m q ≡ below_changed old next q) → ((q : ℕ) → is_some (get old q) ≡ true → q < next) → m ≡ map_values change old
  whole m old next h given = same_map nat_cmp_total nat_cmp-IsAntisymmetric _ _ (λ q. h q ∙ all_below next q (get old q) (given q) ∙ sym (get_map change old q))

pub row_changed : (change : ChunkRow → ChunkRow) (m : NumberTable ChunkRow) (k : ℕ) → IsChangedAt change (changed_at m k change) m k
row_changed change m k = by_row (get m k) refl
  where
    by_row : (o : Option ChunkRow) → get m k ≡ o → IsChangedAt change (changed_by m k change o) m k
    by_row None is = none_changed change m k is
    by_row (Some row) is = one_changed change m k row is

pub shape_known : (usual : Shape) (m : NumberTable Shape) (k : ℕ) → IsChangedAt (known_shape usual) (known_at m k usual) m k
shape_known usual m k = by_shape (get m k) refl
  where
    by_shape : (o : Option Shape) → get m k ≡ o → IsChangedAt (known_shape usual) (known_by m k usual o) m k
    by_shape None is = none_changed (known_shape usual) m k is
    by_shape (Some shape) is = one_changed (known_shape usual) m k shape is

row_given : (next q : ℕ) (o : Option ChunkRow) → IfSome o (IsSoundRow next q) → is_some o ≡ true → q < next
row_given next q None sound there = cc
row_given next q (Some row) sound there = sound.given

pub rows_given : (s : TableState) → IsSound s → (q : ℕ) → is_some (get s.table.chunks q) ≡ true → q < s.next_handle
rows_given s sound q there = row_given s.next_handle q (get s.table.chunks q) (sound.chunks q) there

file_given : (next q : ℕ) (o : Option (List ℕ)) → OnSome o (IsSoundFile next q) → is_some o ≡ true → q < next
file_given next q None sound there = cc
file_given next q (Some handles) sound there = sound.given

pub shapes_given : (s : TableState) → IsSound s → (q : ℕ) → is_some (get s.table.shapes q) ≡ true → q < s.next_file
shapes_given s sound q there = file_given s.next_file q (get s.table.files q) (sound.files q) (sym (sound.shapes q) ∙ there)
