-- Of each attempt that a lease's order knows F holds: of those that wait, and of those that are kept. What an order becomes knows no more than that.
use Rattle.std.proofs.Common.{◌≡◌, ◌⊎◌, ℕ, ◌+◌, Bool, true, false, cond, Option, Some, None, refl, sym, subst, ◌∙◌, inl, inr}
use Rattle.std.specs.Prelude.{◌==◌}
use Rattle.std.specs.Ordering.{nat_cmp}
use Rattle.std.specs.FinMap as table
use Rattle.gfs_types.specs.declared.ids.ClientId.{ClientId}
use Rattle.gfs_types.specs.declared.ids.DataId.{DataId}
use Rattle.gfs_types.specs.declared.ids.Node.{Node}
use Rattle.gfs_types.specs.declared.ids.Node.TheVariants as node
use Rattle.gfs_types.specs.declared.refusal.Refusal.{Refusal}
use Rattle.messages.specs.declared.message.Body.{Body}
use Rattle.messages.specs.declared.message.Body.TheVariants as body
use Rattle.messages.specs.declared.message.Message.{Message}
use Rattle.leases.specs.LeaseHeld.{LeaseHeld, extended}
use Rattle.primary_order.specs.declared.kept.Kept.{Kept}
use Rattle.primary_order.specs.declared.kept.Standing.{Standing}
use Rattle.primary_order.specs.declared.kept.Standing.TheVariants.{IsPending, IsSettled, IsRefused}
use Rattle.primary_order.specs.declared.waiting.Waiting.{Waiting}
use Rattle.primary_order.specs.PrimaryOrder.{kept_as, with_standing, stood_by, settled_by, settled_kept, waiting_by, is_last, less_member}
use Rattle.primary_order.specs.SerialOrder.{SerialOrder, new_order, denied, numbered, acknowledged, refused_by, attempt_of}
use Rattle.protocol.specs.Tables.{Table}
use Rattle.protocol.specs.Sending.{data_id, the_client}
use Rattle.protocol.specs.ServerStep.{asks_no_more}
use Rattle.laws_base.proofs.Steps.{on_cond, none_some, put_cases, kept_cases}
use Rattle.laws_base.specs.AnsweredAttempts.{IsFinal}

pub record IsRight (F : DataId → Type 0) (p : SerialOrder) : Type 0 where
  pub waits : (n : ℕ) (w : Waiting) → table.get p.waiting n ≡ Some w → F (attempt_of w)
  pub keeps : (c : ℕ) (k : Kept) → table.get p.kept c ≡ Some k → F (data_id c k.seq)

-- what is said of an answer: it is of such an attempt, or of a reading G
abbrev pub IsCaused : (DataId → Type 0) → (ℕ → ℕ → Type 0) → Body → Node → Type 0
IsCaused F G (body.Done id place) receiver = F id
IsCaused F G (body.Refused number refusal) (node.Client c) = IsFinal refusal → F (data_id c.0 number) ⊎ G c.0 number
IsCaused F G other receiver = Unit {0}

abbrev pub Causes : (DataId → Type 0) → (ℕ → ℕ → Type 0) → Message → Type 0
Causes F G m = IsCaused F G m.body m.receiver

pub refusal_caused : (F : DataId → Type 0) (G : ℕ → ℕ → Type 0) (refusal : Refusal) (id : DataId) → (IsFinal refusal → F id) → IsCaused F G (body.Refused id.seq refusal) (the_client id.client.0)
refusal_caused F G refusal id h = λ final. inl (h final)

pub reading_caused : (F : DataId → Type 0) (G : ℕ → ℕ → Type 0) (number : ℕ) (refusal : Refusal) (receiver : Node) → ((c : ClientId) → receiver ≡ node.Client c → G c.0 number) → IsCaused F G (body.Refused number refusal) receiver
reading_caused F G number refusal (node.Client c) h = λ final. inr (h c refl)
reading_caused F G number refusal other h = tt

-- what holds of F and G holds of more
module _ (F : DataId → Type 0) (G : ℕ → ℕ → Type 0) (H : DataId → Type 0) (J : ℕ → ℕ → Type 0) (go : (id : DataId) → F id → H id) (on : (c n : ℕ) → G c n → J c n) where
  pub right_on : (p : SerialOrder) → IsRight F p → IsRight H p
  right_on p h = record { waits = λ n w at. go (attempt_of w) (h.waits n w at); keeps = λ c k at. go (data_id c k.seq) (h.keeps c k at) }

  pub caused_on : (b : Body) (receiver : Node) → IsCaused F G b receiver → IsCaused H J b receiver
  caused_on (body.Done id place) receiver h = go id h
  caused_on (body.Refused number refusal) (node.Client c) h = λ final. elim (h final) [ inl used ↦ inl (go (data_id c.0 number) used) | inr reads ↦ inr (on c.0 number reads) ]
  caused_on other receiver h = tt

module _ (F : DataId → Type 0) where
  abbrev AreKeptRight : Table Kept → Type 0
  AreKeptRight kept = (c : ℕ) (k : Kept) → table.get kept c ≡ Some k → F (data_id c k.seq)

  kept_put : (kept : Table Kept) (client : ℕ) (new : Kept) → F (data_id client new.seq) → AreKeptRight kept → AreKeptRight (table.insert kept client new)
  kept_put kept client new right h c k at =
      elim (put_cases kept client new c k at) [
        | inl now ↦ subst (λ (n : ℕ). F (data_id n k.seq)) (sym now.0) (subst (λ (x : Kept). F (data_id client x.seq)) now.1 right)
        | inr before ↦ h c k before
      ]

  kept_stood : (kept : Table Kept) (client seq : ℕ) (standing : Standing) → AreKeptRight kept → AreKeptRight (with_standing kept client seq standing)
  kept_stood kept client seq standing h = by_kept (table.get kept client) refl
    where
      by_kept : (o : Option Kept) → table.get kept client ≡ o → AreKeptRight (stood_by kept client seq standing o)
      by_kept None at = h
      by_kept (Some k) at =
          on_cond AreKeptRight (k.seq == seq) (table.insert kept client (record k { standing = standing })) kept (λ _. kept_put kept client (record k { standing = standing }) (h client k at) h) (λ _. h)

  pub right_denied : (p : SerialOrder) (client : ClientId) (seq : ℕ) (refusal : Refusal) → F (data_id client.0 seq) → IsRight F p → IsRight F (denied p client seq refusal)
  right_denied p client seq refusal right h = record { waits = h.waits; keeps = kept_put p.kept client.0 (kept_as seq (IsRefused refusal)) right h.keeps }

  pub right_refused : (p : SerialOrder) (refusal : Refusal) (o : Option Waiting) → IsRight F p → IsRight F (refused_by p refusal o)
  right_refused p refusal None h = h
  right_refused p refusal (Some w) h = record { waits = h.waits; keeps = kept_stood p.kept w.client.0 w.seq (IsRefused refusal) h.keeps }

  pub right_numbered : (p : SerialOrder) (id : DataId) (place : Option ℕ) → F id → IsRight F p → IsRight F (numbered p id.client id.seq place)
  right_numbered p id place right h =
      record {
        waits = λ n w at.
            elim (put_cases p.waiting (p.serial + 1) new n w at) [
              | inl now ↦ subst (λ (x : Waiting). F (attempt_of x)) now.1 right
              | inr before ↦ h.waits n w before
            ];
        keeps = kept_put p.kept id.client.0 (kept_as id.seq IsPending) right h.keeps;
      }
    where
      new : Waiting
      new = record { client = id.client; seq = id.seq; members = p.held.members; place = place }

  was_waiting : (server : ℕ) (o : Option Waiting) (w : Waiting) → settled_by server o ≡ Some w → o ≡ Some w
  was_waiting server None w is = none_some w is
  was_waiting server (Some x) w is = by_last (is_last server x) is
    where
      by_last : (b : Bool) → cond b (Some x) None ≡ Some w → Some x ≡ Some w
      by_last true g = g
      by_last false g = none_some w g

  -- a success that an acknowledgement makes
  pub success_right : (p : SerialOrder) (server serial : ℕ) (w : Waiting) → settled_by server (table.get p.waiting serial) ≡ Some w → IsRight F p → F (attempt_of w)
  success_right p server serial w is h = h.waits serial w (was_waiting server (table.get p.waiting serial) w is)

  pub right_acknowledged : (p : SerialOrder) (server serial : ℕ) → IsRight F p → IsRight F (acknowledged p server serial)
  right_acknowledged p server serial h = record { waits = by_waiting (table.get p.waiting serial) refl; keeps = by_settled (settled_by server (table.get p.waiting serial)) }
    where
      by_waiting : (o : Option Waiting) → table.get p.waiting serial ≡ o → (n : ℕ) (w : Waiting) → table.get (waiting_by p.waiting serial server o) n ≡ Some w → F (attempt_of w)
      by_waiting None is n w at = h.waits n w at
      by_waiting (Some x) is n w at =
          on_cond (λ (t : Table Waiting). table.get t n ≡ Some w → F (attempt_of w)) (is_last server x) (table.remove p.waiting serial) (table.insert p.waiting serial (less_member server x))
          (λ _ g. h.waits n w (kept_cases p.waiting serial n w g))
          (λ _ g. elim (put_cases p.waiting serial (less_member server x) n w g) [
            | inl now ↦ subst (λ (y : Waiting). F (attempt_of y)) now.1 (h.waits serial x is)
            | inr before ↦ h.waits n w before
          ])
          at

      by_settled : (o : Option Waiting) → AreKeptRight (settled_kept p.kept o)
      by_settled None = h.keeps
      by_settled (Some w) = kept_stood p.kept w.client.0 w.seq (IsSettled w.place) h.keeps

  pub right_extended : (p : SerialOrder) (skew until now : ℕ) → IsRight F p → IsRight F (record p { held = extended skew p.held until now })
  right_extended p skew until now h = record { waits = h.waits; keeps = h.keeps }

  pub right_reported : (p : SerialOrder) → IsRight F p → IsRight F (asks_no_more p)
  right_reported p h = record { waits = h.waits; keeps = h.keeps }

  pub right_new : (chunk : ℕ) (held : LeaseHeld) → IsRight F (new_order chunk held)
  right_new chunk held =
      record {
        waits = λ n w at. none_some w (sym (table.get-empty nat_cmp n) ∙ at);
        keeps = λ c k at. none_some k (sym (table.get-empty nat_cmp c) ∙ at);
      }
