-- What is known of an attempt's number, by what the number is to its client's last one.
use Rattle.std.proofs.Common.{◌≡◌, ℕ, ◌<◌, ◌≤◌, Bool, true, false, cond, eqb, ltb, refl, Some, None, Option, arith}
use Rattle.std.specs.FinMap.{get}
use Rattle.std.proofs.lemmas.Bool.{eq-eqb}
use Rattle.std.proofs.lemmas.Bool.Decides.{nat_tests}
use Rattle.gfs_types.specs.declared.ids.ClientId.{ClientId}
use Rattle.gfs_types.specs.declared.refusal.Refusal.TheVariants as refusal
use Rattle.primary_order.specs.declared.answer.Accept.TheVariants.{Refused}
use Rattle.primary_order.specs.declared.kept.Standing.{Standing}
use Rattle.primary_order.specs.declared.kept.Kept.{Kept}
use Rattle.primary_order.specs.declared.primary.Primary.{Primary}
use Rattle.primary_order.specs.PrimaryOrder.{known, known_by, answer_by}
use Rattle.primary_order.specs.SerialOrder.{IsNew, IsRepeat, IsOld, attempted, attempted_by, known_as, order_of}

not_both : (b : Bool) → b ≡ true → b ≡ false → ⊥
not_both b t f = cc

at_most : (a b : ℕ) → ltb a b ≡ false → b ≤ a
at_most a b e = grind (arith, nat_tests)

before : (a b : ℕ) → ltb a b ≡ true → a < b
before a b e = grind (arith, nat_tests)

is_same : (a b : ℕ) → eqb a b ≡ true → a ≡ b
is_same a b e = grind (arith, nat_tests)

by_number : (client : ClientId) (seq a : ℕ) (s : Standing) (b d e : Bool) → ltb a seq ≡ b → eqb a seq ≡ d → ltb seq a ≡ e
    → cond b None (cond d (Some (answer_by client seq s)) (Some (Refused refusal.OldRequest))) ≡ known_as client seq (cond d (IsRepeat s) (cond e IsOld IsNew))
by_number client seq a s true true e less same more = (let lt = before a seq less in let is = is_same a seq same in absurd (omega arith))
by_number client seq a s true false true less same more = (let lt = before a seq less in let gt = before seq a more in absurd (omega arith))
by_number client seq a s true false false less same more = refl
by_number client seq a s false true e less same more = refl
by_number client seq a s false false true less same more = refl
by_number client seq a s false false false less same more =
    let ge = at_most a seq less in
    let le = at_most seq a more in
    let is : a ≡ seq = omega arith in
    absurd (not_both (eqb a seq) (eq-eqb a seq is) same)

by_kept : (client : ClientId) (seq : ℕ) (o : Option Kept) → known_by client seq o ≡ known_as client seq (attempted_by seq o)
by_kept client seq None = refl
by_kept client seq (Some k) = by_number client seq k.seq k.standing (ltb k.seq seq) (eqb k.seq seq) (ltb seq k.seq) refl refl refl

pub known_by_attempt : (p : Primary) (client : ClientId) (seq : ℕ) → known p client seq ≡ known_as client seq (attempted (order_of p) client seq)
known_by_attempt p client seq = by_kept client seq (get p.kept client.0)
