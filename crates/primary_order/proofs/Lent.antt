-- An entry that was lent and changed, and one that was put back.
use Rattle.std.proofs.Common.{◌≡◌, ℕ, Bool, true, false, cond, refl, sym, ap, ◌∙◌, subst, Some, None, Option, OnSome, MutBor, is_some}
use Rattle.std.specs.Ordering.{nat_cmp, eq_by_cmp}
use Rattle.std.specs.Cmp.{nat_cmp_total}
use Rattle.std.specs.FinMap.{get, insert, remove, get-insert, same_map, nat_cmp-IsAntisymmetric}
use Rattle.std.proofs.lemmas.Bool.{eq-eqb}
use Rattle.chunk_table.proofs.Lookups.{key_itself}
use Rattle.chunk_table.proofs.Sums.{put_same, put_and_removed}
use Rattle.primary_order.specs.declared.kept.Standing.{Standing}
use Rattle.primary_order.specs.declared.kept.Kept.{Kept}
use Rattle.primary_order.specs.declared.waiting.Waiting.{Waiting}
use Rattle.primary_order.specs.PrimaryOrder.{NumberTable, stood_by, with_standing, is_last, less_member, waiting_by, restored}

same_some : {X : Type 0} (x y : X) (o : Option X) → Some x ≡ o → Some y ≡ o → x ≡ y
same_some x y o e f = let both : Some x ≡ Some y = e ∙ sym f in cc

pub stood_lent : (old : NumberTable Kept) (client seq : ℕ) (standing : Standing) (r : Option (MutBor Kept)) (b : MutBor Kept) (new : NumberTable Kept) (seen : Kept)
    → r ≡ Some b → OnSome r (new ≡ insert old client (record b.now { standing = standing })) → Some b.now ≡ get old client → Some seen ≡ get old client → seen.seq ≡ seq
    → new ≡ with_standing old client seq standing
stood_lent old client seq standing r b new seen is holds value was e =
    let w : Kept = record b.now { standing = standing } in
    let h : new ≡ insert old client w = subst (λ o. OnSome o (new ≡ insert old client w)) is holds in
    let same : b.now.seq ≡ seq = ap (λ k. k.seq) (same_some b.now seen (get old client) value was) ∙ e in
    subst (λ o. new ≡ stood_by old client seq standing o) value
    (h ∙ sym (ap (λ x. cond x (insert old client w) old) (eq-eqb b.now.seq seq same)))

pub less_lent : (old : NumberTable Waiting) (serial server : ℕ) (r : Option (MutBor Waiting)) (b : MutBor Waiting) (new : NumberTable Waiting) (w seen : Waiting)
    → r ≡ Some b → OnSome r (new ≡ insert old serial w) → Some b.now ≡ get old serial → Some seen ≡ get old serial → is_last server seen ≡ false → w ≡ less_member server b.now
    → new ≡ waiting_by old serial server (get old serial)
less_lent old serial server r b new w seen is holds value was more v =
    let h : new ≡ insert old serial w = subst (λ o. OnSome o (new ≡ insert old serial w)) is holds in
    let same : b.now ≡ seen = same_some b.now seen (get old serial) value was in
    let none : is_last server b.now ≡ false = ap (is_last server) same ∙ more in
    subst (λ o. new ≡ waiting_by old serial server o) value
    (h ∙ ap (insert old serial) v ∙ sym (ap (λ x. cond x (remove old serial) (insert old serial (less_member server b.now))) none))

pub put_back_lent : (old : NumberTable Kept) (client : ℕ) (v : Kept) (r : Option (MutBor Kept)) (b : MutBor Kept) (new : NumberTable Kept)
    → r ≡ Some b → OnSome r (new ≡ insert old client v) → new ≡ restored old client (Some v)
put_back_lent old client v r b new is holds = subst (λ o. OnSome o (new ≡ insert old client v)) is holds

cond_same : {X : Type 0} (b : Bool) (x y z : X) → cond b x (cond b y z) ≡ cond b x z
cond_same true x y z = refl
cond_same false x y z = refl

put_twice : (m : NumberTable Kept) (k : ℕ) (v w : Kept) → insert (insert m k v) k w ≡ insert m k w
put_twice m k v w = same_map nat_cmp_total nat_cmp-IsAntisymmetric _ _ (λ q.
    get-insert nat_cmp_total (insert m k v) k w q ∙ ap (cond (eq_by_cmp nat_cmp q k) (Some w)) (get-insert nat_cmp_total m k v q)
    ∙ cond_same (eq_by_cmp nat_cmp q k) (Some w) (Some v) (get m q) ∙ sym (get-insert nat_cmp_total m k w q))

-- what was put is undone
pub undone : (m : NumberTable Kept) (k : ℕ) (v : Kept) (o : Option Kept) → o ≡ get m k → restored (insert m k v) k o ≡ m
undone m k v None e = put_and_removed m k v (sym e)
undone m k v (Some old) e = put_twice m k v old ∙ put_same m k old (sym e)

pub put_stands : (m : NumberTable Kept) (k : ℕ) (v : Kept) → is_some (get (insert m k v) k) ≡ true
put_stands m k v = ap is_some (get-insert nat_cmp_total m k v k) ∙ ap (λ b. is_some (cond b (Some v) (get m k))) (key_itself k)
