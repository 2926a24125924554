-- A lease that was lent and changed.
use Rattle.std.proofs.Common.{◌≡◌, ℕ, ap, ◌∙◌, subst, Some, Option, OnSome, MutBor, Result, Ok, Err, OnOk, OnErr, IfOk}
use Rattle.std.specs.FinMap.{get, insert}
use Rattle.primary_order.specs.declared.primary.Primary.{Primary}
use Rattle.protocol.specs.Tables.{Table}
use Rattle.server_handlers.specs.Held.{changed_by, changed_at}

pub same_some : {X : Type 0} (x y : X) (o : Option X) → Some x ≡ o → o ≡ Some y → x ≡ y
same_some x y o e f = let both : Some x ≡ Some y = e ∙ f in cc

pub lent : (old : Table Primary) (handle : ℕ) (f : Primary → Primary) (r : Option (MutBor Primary)) (b : MutBor Primary) (new : Table Primary) (w p : Primary)
    → r ≡ Some b → OnSome r (new ≡ insert old handle w) → Some b.now ≡ get old handle → w ≡ f b.now → get old handle ≡ Some p
    → new ≡ insert old handle (f p)
lent old handle f r b new w p is holds value v at =
    subst (λ o. OnSome o (new ≡ insert old handle w)) is holds
    ∙ ap (insert old handle) (v ∙ ap f (same_some b.now p (get old handle) value at))

pub changed_lent : (old : Table Primary) (handle : ℕ) (f : Primary → Primary) (r : Option (MutBor Primary)) (b : MutBor Primary) (new : Table Primary) (w : Primary)
    → r ≡ Some b → OnSome r (new ≡ insert old handle w) → Some b.now ≡ get old handle → w ≡ f b.now → new ≡ changed_at old handle f
changed_lent old handle f r b new w is holds value v =
    let h : new ≡ insert old handle w = subst (λ o. OnSome o (new ≡ insert old handle w)) is holds in
    subst (λ o. new ≡ changed_by old handle f o) value (h ∙ ap (insert old handle) v)

pub on_ok : {T E P Q : Type 0} (r : Result T E) → (P → Q) → OnOk r P → OnOk r Q
on_ok (Ok x) f h = f h
on_ok (Err e) f h = h

pub on_err : {T E P Q : Type 0} (r : Result T E) → (P → Q) → OnErr r P → OnErr r Q
on_err (Ok x) f h = h
on_err (Err e) f h = f h

pub if_ok : {T E : Type 0} {P Q : T → Type 0} (r : Result T E) → ((x : T) → P x → Q x) → IfOk r P → IfOk r Q
if_ok (Ok x) f h = f x h
if_ok (Err e) f h = h

-- what holds of both holds
pub either : {T E P Q C : Type 0} (r : Result T E) → OnOk r P → OnErr r Q → (P → C) → (Q → C) → C
either (Ok x) h k f g = f h
either (Err e) h k f g = g k
