-- A lease's order keeps the last number of each client: of each mutation that waits its client's, or a later one; and what is kept as pending waits. What an order becomes goes on so.
use Rattle.std.proofs.Common.{◌≡◌, ◌≢◌, ◌⊎◌, ℕ, ◌+◌, ◌≤◌, Bool, true, false, cond, Option, Some, None, refl, sym, ap, subst, ◌∙◌, inl, inr, arith}
use Rattle.std.specs.Prelude.{◌==◌}
use Rattle.std.specs.Ordering.{nat_cmp}
use Rattle.std.specs.FinMap as table
use Rattle.std.proofs.lemmas.Bool.{eqb-true, eqb-false}
use Rattle.gfs_types.specs.declared.ids.DataId.{DataId}
use Rattle.gfs_types.specs.declared.refusal.Refusal.{Refusal}
use Rattle.leases.specs.LeaseHeld.{LeaseHeld, extended}
use Rattle.primary_order.specs.declared.kept.Kept.{Kept}
use Rattle.primary_order.specs.declared.kept.Standing.{Standing}
use Rattle.primary_order.specs.declared.kept.Standing.TheVariants.{IsPending, IsSettled, IsRefused}
use Rattle.primary_order.specs.declared.waiting.Waiting.{Waiting}
use Rattle.primary_order.specs.PrimaryOrder.{kept_as, with_standing, stood_by, settled_by, settled_kept, waiting_by, is_last, less_member}
use Rattle.primary_order.specs.SerialOrder.{SerialOrder, IsNew, new_order, attempted, denied, numbered, acknowledged, refused_by, attempt_of}
use Rattle.protocol.specs.Tables.{Table}
use Rattle.protocol.specs.ServerStep.{asks_no_more}
use Rattle.laws_base.proofs.Steps.{on_cond, none_some, same_some, same_or_not, put_cases, put_split, put_there, put_other, kept_cases, gone_other}
use Rattle.laws_base.specs.KeptAttempts.{IsWaitingFor}
use Rattle.laws_base.proofs.KnownNumbers.{IsKept}
use Rattle.laws_base.proofs.UsedNumbers.{knows_keeps, own_kept}

pub record IsWellKept (p : SerialOrder) : Type 0 where
  pub low : (n : ℕ) (w : Waiting) → table.get p.waiting n ≡ Some w → n ≤ p.serial
  pub kept : (n : ℕ) (w : Waiting) → table.get p.waiting n ≡ Some w → IsKept w.client.0 w.seq p.kept
  pub pending : (c : ℕ) (k : Kept) → table.get p.kept c ≡ Some k → k.standing ≡ IsPending → IsWaitingFor p.waiting c k.seq

settled_apart : {A : Type 0} (place : Option ℕ) → IsSettled place ≡ IsPending → A
settled_apart place is = absurd (let both : IsSettled place ≡ IsPending = is in cc)

refused_apart : {A : Type 0} (refusal : Refusal) → IsRefused refusal ≡ IsPending → A
refused_apart refusal is = absurd (let both : IsRefused refusal ≡ IsPending = is in cc)

-- what is pending still was so before, and isn't what just became something else
stood_pending : (kept : Table Kept) (client seq : ℕ) (standing : Standing) → (standing ≡ IsPending → ⊥) → (c : ℕ) (k : Kept) → table.get (with_standing kept client seq standing) c ≡ Some k → k.standing ≡ IsPending
    → (table.get kept c ≡ Some k) × (c ≡ client → k.seq ≡ seq → ⊥)
stood_pending kept client seq standing other c k at pending = by_kept (table.get kept client) refl at
  where
    by_kept : (o : Option Kept) → table.get kept client ≡ o → table.get (stood_by kept client seq standing o) c ≡ Some k → (table.get kept c ≡ Some k) × (c ≡ client → k.seq ≡ seq → ⊥)
    by_kept None none g = (g, λ same number. none_some k (sym none ∙ (ap (λ (n : ℕ). table.get kept n) (sym same) ∙ g)))
    by_kept (Some x) some g = by_test (x.seq == seq) refl g
      where
        by_test : (b : Bool) → (x.seq == seq) ≡ b → table.get (cond b (table.insert kept client (record x { standing = standing })) kept) c ≡ Some k → (table.get kept c ≡ Some k) × (c ≡ client → k.seq ≡ seq → ⊥)
        by_test true is now =
            elim (put_split kept client (record x { standing = standing }) c k now) [
              | inl new ↦ absurd (other (ap (λ (y : Kept). y.standing) new.1 ∙ pending))
              | inr before ↦ (before.1, λ same number. before.0 same)
            ]
        by_test false is old = (
          old,
          λ same number. eqb-false x.seq seq is (ap (λ (y : Kept). y.seq) (same_some x k (sym some ∙ (ap (λ (n : ℕ). table.get kept n) (sym same) ∙ old))) ∙ number),
        )

pub well_numbered : (p : SerialOrder) (id : DataId) (place : Option ℕ) → attempted p id.client id.seq ≡ IsNew → IsWellKept p → IsWellKept (numbered p id.client id.seq place)
well_numbered p id place fresh h =
    record {
      low = λ n w at.
          elim (put_cases p.waiting (p.serial + 1) new n w at) [
            | inl now ↦ let same = now.0 in omega (arith, same)
            | inr before ↦ let few = h.low n w before in omega (arith, few)
          ];
      kept = λ n w at.
          elim (put_cases p.waiting (p.serial + 1) new n w at) [
            | inl now ↦ subst (λ (x : Waiting). IsKept x.client.0 x.seq (table.insert p.kept id.client.0 (kept_as id.seq IsPending))) now.1 (own_kept id p IsPending)
            | inr before ↦ (knows_keeps (attempt_of w)).numbers p id place fresh (h.kept n w before)
          ];
      pending = λ c k at is.
          elim (put_split p.kept id.client.0 (kept_as id.seq IsPending) c k at) [
            | inl now ↦ record { serial = p.serial + 1; waits = new; is = put_there p.waiting (p.serial + 1) new (p.serial + 1) refl; client_is = sym now.0; seq_is = ap (λ (x : Kept). x.seq) now.1 }
            | inr before ↦
                let old = h.pending c k before.1 is in
                record {
                  serial = old.serial;
                  waits = old.waits;
                  is = put_other p.waiting (p.serial + 1) new old.serial (λ same. let few = h.low old.serial old.waits old.is in absurd (omega (arith, few, same))) ∙ old.is;
                  client_is = old.client_is;
                  seq_is = old.seq_is;
                }
          ];
    }
  where
    new : Waiting
    new = record { client = id.client; seq = id.seq; members = p.held.members; place = place }

pub well_denied : (p : SerialOrder) (id : DataId) (refusal : Refusal) → attempted p id.client id.seq ≡ IsNew → IsWellKept p → IsWellKept (denied p id.client id.seq refusal)
well_denied p id refusal fresh h =
    record {
      low = h.low;
      kept = λ n w at. (knows_keeps (attempt_of w)).denies p id refusal fresh (h.kept n w at);
      pending = λ c k at is.
          elim (put_split p.kept id.client.0 (kept_as id.seq (IsRefused refusal)) c k at) [
            | inl now ↦ refused_apart refusal (ap (λ (x : Kept). x.standing) now.1 ∙ is)
            | inr before ↦ h.pending c k before.1 is
          ];
    }

pub well_refused : (p : SerialOrder) (refusal : Refusal) (o : Option Waiting) → IsWellKept p → IsWellKept (refused_by p refusal o)
well_refused p refusal None h = h
well_refused p refusal (Some x) h =
    record {
      low = h.low;
      kept = λ n w at. (knows_keeps (attempt_of w)).refuses p refusal (Some x) (h.kept n w at);
      pending = λ c k at is. h.pending c k (stood_pending p.kept x.client.0 x.seq (IsRefused refusal) (λ same. refused_apart refusal same) c k at is).0 is;
    }

-- an acknowledgement
module _ (p : SerialOrder) (server serial : ℕ) (h : IsWellKept p) where
  -- what waits still waited before, for the same attempt
  waited : (o : Option Waiting) → table.get p.waiting serial ≡ o → (n : ℕ) (w : Waiting) → table.get (waiting_by p.waiting serial server o) n ≡ Some w → (x : Waiting) × (table.get p.waiting n ≡ Some x) × (attempt_of x ≡ attempt_of w)
  waited None is n w at = (w, at, refl)
  waited (Some x) is n w at =
      on_cond (λ (t : Table Waiting). table.get t n ≡ Some w → (y : Waiting) × (table.get p.waiting n ≡ Some y) × (attempt_of y ≡ attempt_of w)) (is_last server x) (table.remove p.waiting serial) (table.insert p.waiting serial (less_member server x))
      (λ _ g. (w, kept_cases p.waiting serial n w g, refl))
      (λ _ g. elim (put_cases p.waiting serial (less_member server x) n w g) [
        | inl now ↦ (x, ap (λ (k : ℕ). table.get p.waiting k) now.0 ∙ is, ap attempt_of now.1)
        | inr before ↦ (w, before, refl)
      ])
      at

  waits_on : (o : Option Waiting) → table.get p.waiting serial ≡ o → (c : ℕ) (k : Kept) → table.get (settled_kept p.kept (settled_by server o)) c ≡ Some k → k.standing ≡ IsPending → IsWaitingFor (waiting_by p.waiting serial server o) c k.seq
  waits_on None none c k at is = h.pending c k at is
  waits_on (Some x) some c k at is = by_last (is_last server x) at
    where
      at_serial : (old : IsWaitingFor p.waiting c k.seq) → old.serial ≡ serial → x ≡ old.waits
      at_serial old same = same_some x old.waits (sym some ∙ (ap (λ (n : ℕ). table.get p.waiting n) (sym same) ∙ old.is))

      by_last : (b : Bool) → table.get (settled_kept p.kept (cond b (Some x) None)) c ≡ Some k → IsWaitingFor (cond b (table.remove p.waiting serial) (table.insert p.waiting serial (less_member server x))) c k.seq
      by_last true g =
          let was = stood_pending p.kept x.client.0 x.seq (IsSettled x.place) (λ same. settled_apart x.place same) c k g is in
          let old = h.pending c k was.0 is in
          record {
            serial = old.serial;
            waits = old.waits;
            is = gone_other p.waiting serial old.serial (λ same.
                was.1 (sym old.client_is ∙ ap (λ (y : Waiting). y.client.0) (sym (at_serial old same))) (sym old.seq_is ∙ ap (λ (y : Waiting). y.seq) (sym (at_serial old same)))) ∙ old.is;
            client_is = old.client_is;
            seq_is = old.seq_is;
          }
      by_last false g = let old = h.pending c k g is in by_place old (same_or_not old.serial serial)
        where
          by_place : (old : IsWaitingFor p.waiting c k.seq) → (old.serial ≡ serial) ⊎ (old.serial ≡ serial → ⊥) → IsWaitingFor (table.insert p.waiting serial (less_member server x)) c k.seq
          by_place old (inl same) =
              record {
                serial = serial;
                waits = less_member server x;
                is = put_there p.waiting serial (less_member server x) serial refl;
                client_is = ap (λ (y : Waiting). y.client.0) (at_serial old same) ∙ old.client_is;
                seq_is = ap (λ (y : Waiting). y.seq) (at_serial old same) ∙ old.seq_is;
              }
          by_place old (inr apart) = record { serial = old.serial; waits = old.waits; is = put_other p.waiting serial (less_member server x) old.serial apart ∙ old.is; client_is = old.client_is; seq_is = old.seq_is }

  pub well_acknowledged : IsWellKept (acknowledged p server serial)
  well_acknowledged =
      record {
        low = λ n w at. let was = waited (table.get p.waiting serial) refl n w at in h.low n was.0 was.1;
        kept = λ n w at.
            let was = waited (table.get p.waiting serial) refl n w at in
            (knows_keeps (attempt_of w)).acknowledges p server serial (subst (λ (id : DataId). IsKept id.client.0 id.seq p.kept) was.2 (h.kept n was.0 was.1));
        pending = λ c k at is. waits_on (table.get p.waiting serial) refl c k at is;
      }

pub well_extended : (p : SerialOrder) (skew until now : ℕ) → IsWellKept p → IsWellKept (record p { held = extended skew p.held until now })
well_extended p skew until now h = record { low = h.low; kept = h.kept; pending = h.pending }

pub well_reported : (p : SerialOrder) → IsWellKept p → IsWellKept (asks_no_more p)
well_reported p h = record { low = h.low; kept = h.kept; pending = h.pending }

pub well_new : (chunk : ℕ) (held : LeaseHeld) → IsWellKept (new_order chunk held)
well_new chunk held =
    record {
      low = λ n w at. none_some w (sym (table.get-empty nat_cmp n) ∙ at);
      kept = λ n w at. none_some w (sym (table.get-empty nat_cmp n) ∙ at);
      pending = λ c k at is. none_some k (sym (table.get-empty nat_cmp c) ∙ at);
    }
