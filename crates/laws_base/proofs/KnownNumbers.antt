-- A client's number that a lease keeps, it keeps from then on, or a later one.
use Rattle.std.proofs.Common.{◌≡◌, ◌⊎◌, ◌≤◌, ◌<◌, ℕ, Bool, true, false, cond, Option, Some, None, refl, sym, ap, ◌∙◌, inl, inr, arith}
use Rattle.std.specs.Prelude.{◌==◌, nat_lt}
use Rattle.std.specs.FinMap as table
use Rattle.std.proofs.lemmas.Bool.{eqb-false, ltb-false, cases_lt}
use Rattle.gfs_types.specs.declared.ids.DataId.{DataId}
use Rattle.gfs_types.specs.declared.refusal.Refusal.{Refusal}
use Rattle.primary_order.specs.declared.kept.Kept.{Kept}
use Rattle.primary_order.specs.declared.kept.Standing.{Standing}
use Rattle.primary_order.specs.declared.kept.Standing.TheVariants.{IsPending, IsSettled, IsRefused}
use Rattle.primary_order.specs.declared.waiting.Waiting.{Waiting}
use Rattle.primary_order.specs.PrimaryOrder.{kept_as, with_standing, stood_by, settled_by, settled_kept}
use Rattle.primary_order.specs.SerialOrder.{SerialOrder, IsNew, IsRepeat, IsOld, attempted, attempted_by, refused_by}
use Rattle.protocol.specs.Tables.{Table}
use Rattle.protocol.specs.Server.{ServerState, counting_primary}
use Rattle.laws_base.proofs.Steps.{on_cond, none_some, same_some, same_or_not, put_there, put_other}
use Rattle.laws_base.proofs.ServerWalk.{primary_there as counting_there}
use Rattle.laws_base.proofs.OrderWalk.{KeepsOrders}

-- what is kept for the client has this number or a later one
abbrev pub IsKept : ℕ → ℕ → Table Kept → Type 0
IsKept client seq kept = (k : Kept) × (table.get kept client ≡ Some k) × (seq ≤ k.seq)

-- a lease that counts is there, and of that version
pub primary_there : (s : ServerState) (version : ℕ) (o : Option SerialOrder) (p : SerialOrder) → counting_primary s version o ≡ Some p → (o ≡ Some p) × (p.held.version ≡ version)
primary_there s version o p is = counting_there s version o p is

above : (a b : ℕ) → a ≤ b → (a ≡ b → ⊥) → a < b
above a b low other =
    elim (cases_lt a b) [
      | inl less ↦ less
      | inr least ↦ absurd (other (omega (arith, low, least)))
    ]

module _ (client seq : ℕ) where
  abbrev Keeps : Table Kept → Type 0
  Keeps kept = IsKept client seq kept

  -- a later number of the client is kept, or what another client's is
  kept_put : (kept : Table Kept) (c n : ℕ) (standing : Standing) → (c ≡ client → seq ≤ n) → (c ≡ client → ⊥) ⊎ (c ≡ client) → ((c ≡ client → ⊥) → Keeps kept)
      → Keeps (table.insert kept c (kept_as n standing))
  kept_put kept c n standing later which old =
      elim (which) [
        | inl apart ↦ let was = old apart in (was.0, put_other kept c (kept_as n standing) client (λ same. apart (sym same)) ∙ was.1, was.2)
        | inr same ↦ (kept_as n standing, put_there kept c (kept_as n standing) client (sym same), later same)
      ]

  -- what an attempt becomes
  pub kept_stands : (kept : Table Kept) (c n : ℕ) (standing : Standing) → Keeps kept → Keeps (with_standing kept c n standing)
  kept_stands kept c n standing h = by_kept (table.get kept c) refl
    where
      put : (k : Kept) → table.get kept c ≡ Some k → Keeps (table.insert kept c (record k { standing = standing }))
      put k at =
          elim (same_or_not c client) [
            | inl same ↦
                let one : k ≡ h.0 = same_some k h.0 (sym at ∙ ap (λ (x : ℕ). table.get kept x) same ∙ h.1) in
                let few = h.2 in
                let number = ap (λ (x : Kept). x.seq) one in
                (record k { standing = standing }, put_there kept c (record k { standing = standing }) client (sym same), omega (arith, few, number))
            | inr apart ↦ (h.0, put_other kept c (record k { standing = standing }) client (λ same. apart (sym same)) ∙ h.1, h.2)
          ]

      by_kept : (o : Option Kept) → table.get kept c ≡ o → Keeps (stood_by kept c n standing o)
      by_kept None at = h
      by_kept (Some k) at = on_cond Keeps (k.seq == n) (table.insert kept c (record k { standing = standing })) kept (λ _. put k at) (λ _. h)

  pub kept_settles : (kept : Table Kept) (o : Option Waiting) → Keeps kept → Keeps (settled_kept kept o)
  kept_settles kept None h = h
  kept_settles kept (Some w) h = kept_stands kept w.client.0 w.seq (IsSettled w.place) h

  kept_refused : (p : SerialOrder) (refusal : Refusal) (o : Option Waiting) → Keeps p.kept → Keeps (refused_by p refusal o).kept
  kept_refused p refusal None h = h
  kept_refused p refusal (Some w) h = kept_stands p.kept w.client.0 w.seq (IsRefused refusal) h

  -- a new number is later than what is kept
  pub new_later : (n : ℕ) (o : Option Kept) (k : Kept) → o ≡ Some k → attempted_by n o ≡ IsNew → k.seq < n
  new_later n None k at new = none_some k at
  new_later n (Some x) k at new = by_tests (x.seq == n) refl (nat_lt n x.seq) refl new
    where
      number : x.seq ≡ k.seq
      number = ap (λ (y : Kept). y.seq) (same_some x k at)

      by_tests : (a : Bool) → (x.seq == n) ≡ a → (b : Bool) → nat_lt n x.seq ≡ b → cond a (IsRepeat x.standing) (cond b IsOld IsNew) ≡ IsNew → k.seq < n
      by_tests true e b f g = absurd (let both : IsRepeat x.standing ≡ IsNew = g in cc)
      by_tests false e true f g = absurd (let both : IsOld ≡ IsNew = g in cc)
      by_tests false e false f g = let least = ltb-false n x.seq f in above k.seq n (omega (arith, least, number)) (λ same. eqb-false x.seq n e (number ∙ same))

  -- a new number is kept in place of an older one
  new_kept : (p : SerialOrder) (id : DataId) (standing : Standing) → attempted p id.client id.seq ≡ IsNew → Keeps p.kept → Keeps (table.insert p.kept id.client.0 (kept_as id.seq standing))
  new_kept p id standing new old =
      kept_put p.kept id.client.0 id.seq standing
      (λ c. let less = new_later id.seq (table.get p.kept id.client.0) old.0 (ap (λ (n : ℕ). table.get p.kept n) c ∙ old.1) new in let few = old.2 in omega (arith, less, few)) (which id.client.0) (λ _. old)
    where
      which : (c : ℕ) → (c ≡ client → ⊥) ⊎ (c ≡ client)
      which c = elim (same_or_not c client) [ inl same ↦ inr same | inr apart ↦ inl apart ]

  pub keeps_known : KeepsOrders (λ p. Keeps p.kept)
  keeps_known =
      record {
        numbers = λ p id place new h. new_kept p id IsPending new h;
        denies = λ p id refusal new h. new_kept p id (IsRefused refusal) new h;
        acknowledges = λ p server serial h. kept_settles p.kept (settled_by server (table.get p.waiting serial)) h;
        refuses = λ p refusal o h. kept_refused p refusal o h;
        extends = λ p skew until now h. h;
        reports = λ p h. h;
      }
