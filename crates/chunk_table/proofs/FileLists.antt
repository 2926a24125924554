-- A file's list that was lent and changed.
use Rattle.std.proofs.Common.{◌≡◌, ℕ, List, [], ◌∷◌, ◌++◌, sym, ap, ◌∙◌, subst, Some, Option, OnSome, MutBor, Result, Ok, Err, OnOk, OnErr, unwrap_or}
use Rattle.std.proofs.Math.ListN.{set}
use Rattle.std.specs.FinMap.{get, insert}
use Rattle.chunk_table.specs.ChunkTable.{NumberTable}
use Rattle.chunk_table.proofs.Sums.{put_same}

lent : (old : NumberTable (List ℕ)) (k : ℕ) (r : Option (MutBor (List ℕ))) (b : MutBor (List ℕ)) (new : NumberTable (List ℕ)) (w : List ℕ)
    → r ≡ Some b → OnSome r (new ≡ insert old k w) → new ≡ insert old k w
lent old k r b new w is holds = subst (λ o. OnSome o (new ≡ insert old k w)) is holds

pub set_lent : (old : NumberTable (List ℕ)) (k index handle : ℕ) (r : Option (MutBor (List ℕ))) (b : MutBor (List ℕ)) (new : NumberTable (List ℕ)) (w : List ℕ)
    → r ≡ Some b → OnSome r (new ≡ insert old k w) → Some b.now ≡ get old k → w ≡ set b.now index handle → new ≡ insert old k (set (unwrap_or (get old k) []) index handle)
set_lent old k index handle r b new w is holds value v =
    lent old k r b new w is holds ∙ ap (insert old k) (v ∙ ap (λ o. set (unwrap_or o []) index handle) value)

pub pushed_lent : {E : Type 0} (old : NumberTable (List ℕ)) (k : ℕ) (r : Option (MutBor (List ℕ))) (b : MutBor (List ℕ)) (new : NumberTable (List ℕ)) (w : List ℕ) (handle : ℕ) (q : Result (Unit {0}) E)
    → r ≡ Some b → OnSome r (new ≡ insert old k w) → Some b.now ≡ get old k → OnOk q (w ≡ b.now ++ handle ∷ []) → OnOk q (new ≡ insert old k (unwrap_or (get old k) [] ++ handle ∷ []))
pushed_lent old k r b new w handle (Ok u) is holds value v = lent old k r b new w is holds ∙ ap (insert old k) (v ∙ ap (λ o. unwrap_or o [] ++ handle ∷ []) value)
pushed_lent old k r b new w handle (Err e) is holds value v = tt

pub not_pushed : {E : Type 0} (old : NumberTable (List ℕ)) (k : ℕ) (r : Option (MutBor (List ℕ))) (b : MutBor (List ℕ)) (new : NumberTable (List ℕ)) (w : List ℕ) (q : Result (Unit {0}) E)
    → r ≡ Some b → OnSome r (new ≡ insert old k w) → Some b.now ≡ get old k → OnErr q (w ≡ b.now) → OnErr q (new ≡ old)
not_pushed old k r b new w (Ok u) is holds value v = tt
not_pushed old k r b new w (Err e) is holds value v = lent old k r b new w is holds ∙ ap (insert old k) v ∙ put_same old k b.now (sym value)
