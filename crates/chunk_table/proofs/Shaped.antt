-- Each file has a shape and nothing else has, after one change of the files.
use Rattle.std.proofs.Common.{◌≡◌, ℕ, Bool, true, false, cond, List, [], refl, sym, ap, ◌∙◌, subst, Some, None, Option, OnSome, MutBor, is_some}
use Rattle.std.specs.Prelude.{unwrap_or}
use Rattle.std.specs.Ordering.{nat_cmp, eq_by_cmp}
use Rattle.std.specs.Cmp.{nat_cmp_total}
use Rattle.std.specs.FinMap.{get, insert, remove, get-insert, get-remove, same_map, nat_cmp-IsAntisymmetric}
use Rattle.gfs_types.specs.declared.shape.Shape.{Shape}
use Rattle.chunk_table.specs.ChunkTable.{NumberTable, ChunkTable, known_by, known_at, known_shape, drop_file, leave_all}
use Rattle.chunk_table.proofs.Lookups.{at_key, same_key}

abbrev pub HaveShapes : NumberTable (List ℕ) → NumberTable Shape → Type 0
HaveShapes files shapes = (file : ℕ) → is_some (get shapes file) ≡ is_some (get files file)

some_of : {X : Type 0} (b : Bool) (o p : Option X) → is_some (cond b o p) ≡ cond b (is_some o) (is_some p)
some_of true o p = refl
some_of false o p = refl

stands_with : {X : Type 0} (m : NumberTable X) (k : ℕ) (v : X) (q : ℕ) → is_some (get (insert m k v) q) ≡ cond (eq_by_cmp nat_cmp q k) true (is_some (get m q))
stands_with m k v q = ap is_some (get-insert nat_cmp_total m k v q) ∙ some_of (eq_by_cmp nat_cmp q k) (Some v) (get m q)

stands_without : {X : Type 0} (m : NumberTable X) (k q : ℕ) → is_some (get (remove m k) q) ≡ cond (eq_by_cmp nat_cmp q k) false (is_some (get m q))
stands_without m k q = ap is_some (get-remove nat_cmp_total m k q) ∙ some_of (eq_by_cmp nat_cmp q k) None (get m q)

-- another value where one stands
stands_same : {X : Type 0} (m : NumberTable X) (k : ℕ) (v : X) → is_some (get m k) ≡ true → (q : ℕ) → is_some (get (insert m k v) q) ≡ is_some (get m q)
stands_same m k v stands q =
    ap is_some (get-insert nat_cmp_total m k v q) ∙ at_key (λ x o. is_some o ≡ is_some (get m x)) q k (Some v) (get m q) (sym stands) (λ _. refl)

pub shapes_added : (files : NumberTable (List ℕ)) (shapes : NumberTable Shape) (k : ℕ) (handles : List ℕ) (shape : Shape)
    → HaveShapes files shapes → HaveShapes (insert files k handles) (insert shapes k shape)
shapes_added files shapes k handles shape have q =
    stands_with shapes k shape q ∙ ap (cond (eq_by_cmp nat_cmp q k) true) (have q) ∙ sym (stands_with files k handles q)

pub shapes_replaced : (files : NumberTable (List ℕ)) (shapes : NumberTable Shape) (k : ℕ) (old handles : List ℕ) → get files k ≡ Some old
    → HaveShapes files shapes → HaveShapes (insert files k handles) shapes
shapes_replaced files shapes k old handles is have q = have q ∙ sym (stands_same files k handles (ap is_some is) q)

pub shapes_removed : (files : NumberTable (List ℕ)) (shapes : NumberTable Shape) (k : ℕ) → HaveShapes files shapes → HaveShapes (remove files k) (remove shapes k)
shapes_removed files shapes k have q =
    stands_without shapes k q ∙ ap (cond (eq_by_cmp nat_cmp q k) false) (have q) ∙ sym (stands_without files k q)

pub shapes_known : (files : NumberTable (List ℕ)) (shapes : NumberTable Shape) (k : ℕ) (usual : Shape) → HaveShapes files shapes → HaveShapes files (known_at shapes k usual)
shapes_known files shapes k usual have q =
    elim (get shapes k) as (λ o. get shapes k ≡ o → is_some (get (known_by shapes k usual o) q) ≡ is_some (get files q)) [
      | None ↦ λ _. have q
      | Some shape ↦ λ is. stands_same shapes k (known_shape usual shape) (ap is_some is) q ∙ have q
    ] refl

none_of : {X : Type 0} (o : Option X) → is_some o ≡ false → o ≡ None
none_of None e = refl
none_of (Some x) e = cc

-- where no file is, no shape is
pub none_there : (files : NumberTable (List ℕ)) (shapes : NumberTable Shape) (k : ℕ) → HaveShapes files shapes → get files k ≡ None → get shapes k ≡ None
none_there files shapes k have none = none_of (get shapes k) (have k ∙ ap is_some none)

none_at : {X : Type 0} (m : NumberTable X) (k q : ℕ) (b : Bool) → eq_by_cmp nat_cmp q k ≡ b → get m k ≡ None → cond b None (get m q) ≡ get m q
none_at m k q true e none = sym (ap (get m) (same_key q k e) ∙ none)
none_at m k q false e none = refl

-- what isn't there can be removed
pub absent : {X : Type 0} (m : NumberTable X) (k : ℕ) → get m k ≡ None → remove m k ≡ m
absent m k none = same_map nat_cmp_total nat_cmp-IsAntisymmetric _ _ (λ q. get-remove nat_cmp_total m k q ∙ none_at m k q (eq_by_cmp nat_cmp q k) refl none)

-- a file that isn't there can be dropped
pub none_dropped : (t : ChunkTable) (file : ℕ) → HaveShapes t.files t.shapes → get t.files file ≡ None → drop_file t file ≡ t
none_dropped t file have none =
    ap (λ (m : NumberTable (List ℕ)). record t { files = m; shapes = remove t.shapes file; chunks = leave_all t.chunks (unwrap_or (get t.files file) []) }) (absent t.files file none)
    ∙ ap (λ (m : NumberTable Shape). record t { shapes = m; chunks = leave_all t.chunks (unwrap_or (get t.files file) []) }) (absent t.shapes file (none_there t.files t.shapes file have none))
    ∙ ap (λ (o : Option (List ℕ)). record t { chunks = leave_all t.chunks (unwrap_or o []) }) none

-- a shape that was lent and changed
pub known_lent : (old : NumberTable Shape) (k : ℕ) (usual : Shape) (r : Option (MutBor Shape)) (b : MutBor Shape) (new : NumberTable Shape) (w : Shape)
    → r ≡ Some b → OnSome r (new ≡ insert old k w) → Some b.now ≡ get old k → w ≡ known_shape usual b.now → new ≡ known_at old k usual
known_lent old k usual r b new w is holds value v =
    let h : new ≡ insert old k w = subst (λ o. OnSome o (new ≡ insert old k w)) is holds in
    subst (λ o. new ≡ known_by old k usual o) value (h ∙ ap (insert old k) v)
