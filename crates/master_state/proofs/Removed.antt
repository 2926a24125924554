-- What a removal leaves.
use Rattle.std.proofs.Common.{◌≡◌, ℕ, Bool, true, false, cond, List, [], ◌∷◌, ◌&&◌, Some, None, Option, refl, sym, ap, ◌∙◌}
use Rattle.std.specs.Ordering.{nat_cmp, eq_by_cmp}
use Rattle.std.specs.Cmp.{nat_cmp_total}
use Rattle.std.specs.List.{list_all}
use Rattle.std.specs.FinMap.{get, insert, remove, get-insert, get-remove, same_map, nat_cmp-IsAntisymmetric}
use Rattle.chunk_table.specs.ChunkTable.{NumberTable, ChunkRow}
use Rattle.chunk_table.proofs.Lookups.{same_key}
use Rattle.master_state.specs.Follows.{is_unowned}

some_at : {X : Type 0} (m : NumberTable X) (k q : ℕ) (v : X) (b : Bool) → eq_by_cmp nat_cmp q k ≡ b → get m k ≡ Some v → cond b (Some v) (get m q) ≡ get m q
some_at m k q v true e is = sym (ap (get m) (same_key q k e) ∙ is)
some_at m k q v false e is = refl

-- what is there can be put there
pub put_back : {X : Type 0} (m : NumberTable X) (k : ℕ) (v : X) → get m k ≡ Some v → insert m k v ≡ m
put_back m k v is = same_map nat_cmp_total nat_cmp-IsAntisymmetric _ _ (λ q. get-insert nat_cmp_total m k v q ∙ some_at m k q v (eq_by_cmp nat_cmp q k) refl is)

still : (m : NumberTable ChunkRow) (k q : ℕ) (b : Bool) → eq_by_cmp nat_cmp q k ≡ b → is_unowned (get m k) ≡ true → is_unowned (cond b None (get m q)) ≡ is_unowned (get m q)
still m k q true e free = sym (ap (λ x. is_unowned (get m x)) (same_key q k e) ∙ free)
still m k q false e free = refl

-- the removal of a chunk without owner changes nothing of the others
pub others_unowned : (m : NumberTable ChunkRow) (k : ℕ) (qs : List ℕ) → is_unowned (get m k) ≡ true
    → list_all (λ q. is_unowned (get (remove m k) q)) qs ≡ list_all (λ q. is_unowned (get m q)) qs
others_unowned m k [] free = refl
others_unowned m k (q ∷ qs) free =
    ap (λ b. b && list_all (λ q. is_unowned (get (remove m k) q)) qs) (ap is_unowned (get-remove nat_cmp_total m k q) ∙ still m k q (eq_by_cmp nat_cmp q k) refl free)
    ∙ ap (λ b. is_unowned (get m q) && b) (others_unowned m k qs free)
