-- A mutation under a lease that counts, by what its primary knows of the attempt.
use Rattle.std.proofs.Common.{◌≡◌, ℕ, refl, sym, ap, ◌∙◌, Some, None}
use Rattle.gfs_types.specs.declared.ids.DataId.{DataId}
use Rattle.messages.specs.declared.message.Target.{Target}
use Rattle.primary_order.specs.declared.answer.Accept.{Accept}
use Rattle.primary_order.specs.declared.kept.Standing.TheVariants.{IsPending, IsSettled, IsRefused}
use Rattle.primary_order.specs.SerialOrder.{SerialOrder, Attempted, IsNew, IsRepeat, IsOld, attempted, known_as}
use Rattle.protocol.specs.Server.{ServerDoing}
use Rattle.protocol.specs.ServerWrites.{mutates_as}
use Rattle.server_cell.specs.Known.{answers_known}

same_answer : (x y : Accept) → Some x ≡ Some y → x ≡ y
same_answer x y e = cc

none_some : {P : Type 0} (x : Accept) → None ≡ Some x → P
none_some x e = cc

some_none : {P : Type 0} (x : Accept) → Some x ≡ None → P
some_none x e = cc

-- what is known is answered
mutates_known : (d : ServerDoing) (handle : ℕ) (p : SerialOrder) (id : DataId) (t : Target) (a : Attempted) (answer : Accept) → known_as id.client id.seq a ≡ Some answer
    → mutates_as d handle p id t a ≡ answers_known d id answer
mutates_known d handle p id t IsNew answer e = none_some answer e
mutates_known d handle p id t (IsRepeat IsPending) answer e = ap (answers_known d id) (same_answer _ answer e)
mutates_known d handle p id t (IsRepeat (IsSettled place)) answer e = ap (answers_known d id) (same_answer _ answer e)
mutates_known d handle p id t (IsRepeat (IsRefused r)) answer e = ap (answers_known d id) (same_answer _ answer e)
mutates_known d handle p id t IsOld answer e = ap (answers_known d id) (same_answer _ answer e)

-- what is not known is new
is_new : (id : DataId) (a : Attempted) → known_as id.client id.seq a ≡ None → a ≡ IsNew
is_new id IsNew e = refl
is_new id (IsRepeat IsPending) e = some_none _ e
is_new id (IsRepeat (IsSettled place)) e = some_none _ e
is_new id (IsRepeat (IsRefused r)) e = some_none _ e
is_new id IsOld e = some_none _ e

-- the same of the lease that the code found
pub known_one : (d : ServerDoing) (handle : ℕ) (x p : SerialOrder) (id : DataId) (t : Target) (answer : Accept) → x ≡ p → Some answer ≡ known_as id.client id.seq (attempted x id.client id.seq)
    → mutates_as d handle p id t (attempted p id.client id.seq) ≡ answers_known d id answer
known_one d handle x p id t answer same known =
    mutates_known d handle p id t (attempted p id.client id.seq) answer (sym (known ∙ ap (λ (q : SerialOrder). known_as id.client id.seq (attempted q id.client id.seq)) same))

pub new_one : (x p : SerialOrder) (id : DataId) → x ≡ p → None ≡ known_as id.client id.seq (attempted x id.client id.seq) → attempted p id.client id.seq ≡ IsNew
new_one x p id same known =
    is_new id (attempted p id.client id.seq) (sym (known ∙ ap (λ (q : SerialOrder). known_as id.client id.seq (attempted q id.client id.seq)) same))
