-- What stands in a map after one change.
use Rattle.std.proofs.Common.{◌≡◌, ℕ, ◌<◌, Bool, true, false, cond, leb, refl, sym, ap, ◌∙◌, subst, Some, None, Option, OnSome, MutBor, Ordering, arith}
use Rattle.std.specs.declared.cmp.Ordering.TheVariants.{Less, Equal, Greater}
use Rattle.std.specs.Option.{option_map}
use Rattle.std.specs.Ordering.{nat_cmp, eq_by_cmp, is_eq}
use Rattle.std.specs.Cmp.{nat_cmp_total, eq_by_cmp_equiv}
use Rattle.std.specs.FinMap.{get, insert, remove, get-insert, get-remove, nat_cmp-IsAntisymmetric}
use Rattle.std.proofs.lemmas.Bool.Decides.{nat_tests}
use Rattle.chunk_table.specs.ChunkTable.{NumberTable, ChunkRow, changed_by, changed_at, left_by, leave_one, row_left}

-- a row that was lent and changed
pub changed_lent : (old : NumberTable ChunkRow) (k : ℕ) (f : ChunkRow → ChunkRow) (r : Option (MutBor ChunkRow)) (b : MutBor ChunkRow) (new : NumberTable ChunkRow) (w : ChunkRow)
    → r ≡ Some b → OnSome r (new ≡ insert old k w) → Some b.now ≡ get old k → w ≡ f b.now → new ≡ changed_at old k f
changed_lent old k f r b new w is holds value v =
    let h : new ≡ insert old k w = subst (λ o. OnSome o (new ≡ insert old k w)) is holds in
    subst (λ o. new ≡ changed_by old k f o) value (h ∙ ap (insert old k) v)

is_equal : (r : Ordering) → is_eq r ≡ true → r ≡ Equal
is_equal Less e = cc
is_equal Equal e = refl
is_equal Greater e = cc

pub same_key : (q k : ℕ) → eq_by_cmp nat_cmp q k ≡ true → q ≡ k
same_key q k e = nat_cmp-IsAntisymmetric q k (is_equal (nat_cmp q k) e)

pub key_itself : (k : ℕ) → eq_by_cmp nat_cmp k k ≡ true
key_itself k = (eq_by_cmp_equiv nat_cmp_total).refl k

not_both : (b : Bool) → b ≡ true → b ≡ false → ⊥
not_both b t f = cc

-- a fact at one key, and at all others
pub at_key : {X : Type 0} (P : ℕ → Option X → Type 0) (q k : ℕ) (o p : Option X) → P k o → ((q ≡ k → ⊥) → P q p) → P q (cond (eq_by_cmp nat_cmp q k) o p)
at_key P q k o p here there =
    elim (eq_by_cmp nat_cmp q k) as (λ b. eq_by_cmp nat_cmp q k ≡ b → P q (cond b o p)) [
      | true ↦ λ e. subst (λ x. P x o) (sym (same_key q k e)) here
      | false ↦ λ e. there (λ is. not_both _ (ap (λ x. eq_by_cmp nat_cmp x k) is ∙ key_itself k) e)
    ] refl

pub get_changed : (m : NumberTable ChunkRow) (k : ℕ) (f : ChunkRow → ChunkRow) (q : ℕ)
    → get (changed_at m k f) q ≡ cond (eq_by_cmp nat_cmp q k) (option_map f (get m k)) (get m q)
get_changed m k f q =
    elim (get m k) as (λ o. get m k ≡ o → get (changed_by m k f o) q ≡ cond (eq_by_cmp nat_cmp q k) (option_map f o) (get m q)) [
      | None ↦ λ e. at_key (λ x o. get m x ≡ o) q k None (get m q) e (λ _. refl)
      | Some row ↦ λ e. get-insert nat_cmp_total m k (f row) q
    ] refl

-- a row with one owner less
abbrev pub row_after : Option ChunkRow → Option ChunkRow
row_after None = None
row_after (Some row) = cond (leb row.references 1) None (Some (row_left row))

get_left_if : (m : NumberTable ChunkRow) (k : ℕ) (row : ChunkRow) (q : ℕ) (b : Bool)
    → get (cond b (remove m k) (insert m k (row_left row))) q ≡ cond (eq_by_cmp nat_cmp q k) (cond b None (Some (row_left row))) (get m q)
get_left_if m k row q true = get-remove nat_cmp_total m k q
get_left_if m k row q false = get-insert nat_cmp_total m k (row_left row) q

pub get_left : (m : NumberTable ChunkRow) (k q : ℕ) → get (leave_one m k) q ≡ cond (eq_by_cmp nat_cmp q k) (row_after (get m k)) (get m q)
get_left m k q =
    elim (get m k) as (λ o. get m k ≡ o → get (left_by m k o) q ≡ cond (eq_by_cmp nat_cmp q k) (row_after o) (get m q)) [
      | None ↦ λ e. at_key (λ x o. get m x ≡ o) q k None (get m q) e (λ _. refl)
      | Some row ↦ λ e. get_left_if m k row q (leb row.references 1)
    ] refl

over_one : (n : ℕ) → 1 < n → leb n 1 ≡ false
over_one n h = grind (arith, nat_tests)

same_some : {X : Type 0} (x y : X) (o : Option X) → Some x ≡ o → Some y ≡ o → x ≡ y
same_some x y o e f = let both : Some x ≡ Some y = e ∙ sym f in cc

-- a row that was lent and lost one of several owners
pub left_lent : (old : NumberTable ChunkRow) (k : ℕ) (r : Option (MutBor ChunkRow)) (b : MutBor ChunkRow) (new : NumberTable ChunkRow) (w seen : ChunkRow)
    → r ≡ Some b → OnSome r (new ≡ insert old k w) → Some b.now ≡ get old k → Some seen ≡ get old k → 1 < seen.references → w ≡ row_left b.now → new ≡ leave_one old k
left_lent old k r b new w seen is holds value was more v =
    let h : new ≡ insert old k w = subst (λ o. OnSome o (new ≡ insert old k w)) is holds in
    let same : seen ≡ b.now = same_some seen b.now (get old k) was value in
    let none : leb b.now.references 1 ≡ false = over_one _ (let P : ChunkRow → Type 0 = λ x. 1 < x.references in subst P same more) in
    subst (λ o. new ≡ left_by old k o) value
    (h ∙ ap (insert old k) v ∙ sym (ap (λ x. cond x (remove old k) (insert old k (row_left b.now))) none))
