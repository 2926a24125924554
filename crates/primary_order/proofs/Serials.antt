-- Each call gives no serial, or the next one.
use Rattle.std.proofs.Common.{◌≡◌, ℕ, ◌+◌, Bool, true, false, cond, eqb, ltb, List, [], ◌∷◌, ◌++◌, length, refl, sym, ap, subst, Some, None, Option, ◌⊎◌, inl, inr}
use Rattle.std.specs.FinMap.{get}
use Rattle.gfs_types.specs.declared.ids.ClientId.{ClientId}
use Rattle.gfs_types.specs.declared.refusal.Refusal.{Refusal}
use Rattle.gfs_types.specs.declared.refusal.Refusal.TheVariants as refusal
use Rattle.leases.specs.LeaseHeld.{counts}
use Rattle.primary_order.specs.declared.answer.Accept.{Accept}
use Rattle.primary_order.specs.declared.answer.Accept.TheVariants.{New, Pending, Refused}
use Rattle.primary_order.specs.declared.kept.Standing.{Standing}
use Rattle.primary_order.specs.declared.kept.Standing.TheVariants.{IsPending, IsSettled, IsRefused}
use Rattle.primary_order.specs.declared.kept.Kept.{Kept}
use Rattle.primary_order.specs.declared.waiting.Waiting.{Waiting}
use Rattle.primary_order.specs.declared.primary.Primary.{Primary}
use Rattle.gfs_types.specs.Counters.{counter_limit}
use Rattle.primary_order.specs.PrimaryOrder.{known, known_by, answer_by, new_answer, numbered, numbered_if, denied_if, seen_at, settled_kept, settled_by, waiting_by, refused_by}
use Rattle.primary_order.specs.Laws.{OrderCall, Attempt, AttemptWithoutMemory, Deny, Acknowledge, Refuse, ExtendLease, Report, EndLease, after_call, serials_in, serials_by, serials_of, counted_from}

abbrev Next : ℕ → List ℕ → ℕ → Type 0
Next serial given after = ((given ≡ []) × (after ≡ serial)) ⊎ ((given ≡ (serial + 1) ∷ []) × (after ≡ serial + 1))

by_room : (p : Primary) (client : ClientId) (seq : ℕ) (place : Option ℕ) (b : Bool)
    → Next p.serial (serials_in (cond b (New (record { 0 = p.serial + 1 })) Pending)) (cond b (numbered p client seq place) p).serial
by_room p client seq place true = inr (refl, refl)
by_room p client seq place false = inl (refl, refl)

by_standing : (p : Primary) (client : ClientId) (seq : ℕ) (s : Standing) → Next p.serial (serials_in (answer_by client seq s)) p.serial
by_standing p client seq IsPending = inl (refl, refl)
by_standing p client seq (IsSettled place) = inl (refl, refl)
by_standing p client seq (IsRefused r) = inl (refl, refl)

by_number : (p : Primary) (client : ClientId) (seq : ℕ) (place : Option ℕ) (s : Standing) (b d : Bool)
    → Next p.serial (serials_in (new_answer p (cond b None (cond d (Some (answer_by client seq s)) (Some (Refused refusal.OldRequest))))))
    (numbered_if p client seq place (cond b None (cond d (Some (answer_by client seq s)) (Some (Refused refusal.OldRequest))))).serial
by_number p client seq place s true d = by_room p client seq place (ltb p.serial counter_limit)
by_number p client seq place s false true = by_standing p client seq s
by_number p client seq place s false false = inl (refl, refl)

by_kept : (p : Primary) (client : ClientId) (seq : ℕ) (place : Option ℕ) (k : Option Kept)
    → Next p.serial (serials_in (new_answer p (known_by client seq k))) (numbered_if p client seq place (known_by client seq k)).serial
by_kept p client seq place None = by_room p client seq place (ltb p.serial counter_limit)
by_kept p client seq place (Some k) = by_number p client seq place k.standing (ltb k.seq seq) (eqb k.seq seq)

by_lease : (p : Primary) (client : ClientId) (seq : ℕ) (place : Option ℕ) (b : Bool)
    → Next p.serial (serials_in (cond b (new_answer p (known p client seq)) (Refused refusal.NoLease))) (cond b (numbered_if p client seq place (known p client seq)) p).serial
by_lease p client seq place true = by_kept p client seq place (get p.kept client.0)
by_lease p client seq place false = inl (refl, refl)

denied_serial : (p : Primary) (client : ClientId) (seq : ℕ) (r : Refusal) (o : Option Accept) → (denied_if p client seq r o).serial ≡ p.serial
denied_serial p client seq r None = refl
denied_serial p client seq r (Some a) = refl

either_serial : (p q : Primary) (b : Bool) → q.serial ≡ p.serial → (cond b q p).serial ≡ p.serial
either_serial p q true e = e
either_serial p q false e = refl

refused_serial : (p : Primary) (r : Refusal) (o : Option Waiting) → (refused_by p r o).serial ≡ p.serial
refused_serial p r None = refl
refused_serial p r (Some w) = refl

next : (p : Primary) (call : OrderCall) → Next p.serial (serials_by p call) (after_call p call).serial
next p (Attempt client seq place now) = by_lease (seen_at p now) client seq place (counts (seen_at p now).held)
next p (AttemptWithoutMemory now) = inl (refl, refl)
next p (Deny client seq r) = inl (refl, denied_serial p client seq r (known p client seq))
next p (Acknowledge server serial now) =
    let q : Primary = seen_at p now in
    inl (
      refl,
      either_serial q (record q {
        kept = settled_kept q.kept (settled_by server (get q.waiting serial));
        waiting = waiting_by q.waiting serial server (get q.waiting serial);
      }) (counts q.held) refl,
    )
next p (Refuse serial r) = inl (refl, refused_serial p r (get p.waiting serial))
next p (ExtendLease until now) = inl (refl, refl)
next p Report = inl (refl, refl)
next p EndLease = inl (refl, refl)

joined : (serial after : ℕ) (given later : List ℕ) → Next serial given after → later ≡ counted_from (after + 1) (length later)
    → given ++ later ≡ counted_from (serial + 1) (length (given ++ later))
joined serial after given later (inl h) e =
    subst (λ g. g ++ later ≡ counted_from (serial + 1) (length (g ++ later))) (sym h.0)
    (subst (λ n. later ≡ counted_from (n + 1) (length later)) h.1 e)
joined serial after given later (inr h) e =
    subst (λ g. g ++ later ≡ counted_from (serial + 1) (length (g ++ later))) (sym h.0)
    (ap (λ l. (serial + 1) ∷ l) (subst (λ n. later ≡ counted_from (n + 1) (length later)) h.1 e))

pub rise_by_one : (p : Primary) (calls : List OrderCall) → serials_of p calls ≡ counted_from (p.serial + 1) (length (serials_of p calls))
rise_by_one p [] = refl
rise_by_one p (call ∷ rest) =
    joined p.serial (after_call p call).serial (serials_by p call) (serials_of (after_call p call) rest) (next p call) (rise_by_one (after_call p call) rest)
