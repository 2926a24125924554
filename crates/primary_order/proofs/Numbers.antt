-- What is kept of a client's numbers only grows, and a number that is kept is not new.
use Rattle.std.proofs.Common.{◌≡◌, ℕ, ◌+◌, ◌<◌, ◌≤◌, Bool, true, false, cond, eqb, ltb, ◌&&◌, List, [], ◌∷◌, length, refl, sym, ap, ◌∙◌, subst, Some, None, Option, IsSome, ◌⊎◌, inl, inr, arith}
use Rattle.std.specs.Cmp.{nat_cmp_total}
use Rattle.std.specs.FinMap.{get, insert, get-insert}
use Rattle.std.proofs.lemmas.Bool.Decides.{nat_tests}
use Rattle.chunk_table.proofs.Lookups.{key_itself, at_key}
use Rattle.gfs_types.specs.declared.ids.ClientId.{ClientId}
use Rattle.gfs_types.specs.declared.refusal.Refusal.{Refusal}
use Rattle.gfs_types.specs.declared.refusal.Refusal.TheVariants as refusal
use Rattle.leases.specs.LeaseHeld.{counts}
use Rattle.primary_order.specs.declared.answer.Accept.{Accept}
use Rattle.primary_order.specs.declared.answer.Accept.TheVariants.{New, Pending, Refused}
use Rattle.primary_order.specs.declared.kept.Standing.{Standing}
use Rattle.primary_order.specs.declared.kept.Standing.TheVariants.{IsPending, IsSettled, IsRefused}
use Rattle.primary_order.specs.declared.kept.Kept.{Kept}
use Rattle.primary_order.specs.declared.waiting.Waiting.{Waiting}
use Rattle.primary_order.specs.declared.primary.Primary.{Primary}
use Rattle.gfs_types.specs.Counters.{counter_limit}
use Rattle.primary_order.specs.PrimaryOrder.{NumberTable, known, known_by, answer_by, kept_as, new_answer, numbered, numbered_if, denied_if, seen_at, stood_by, settled_kept, settled_by, waiting_by, refused_by}
use Rattle.primary_order.specs.Laws.{OrderCall, Attempt, AttemptWithoutMemory, Deny, Acknowledge, Refuse, ExtendLease, Report, EndLease, after_call, serials_in, serials_by, times_new_by, times_new}

-- the number is at most the one that is kept
abbrev Past : Option Kept → ℕ → Type 0
Past None seq = ⊥
Past (Some k) seq = seq ≤ k.seq

abbrev Grows : NumberTable Kept → NumberTable Kept → Type 0
Grows m n = (client seq : ℕ) → Past (get m client) seq → Past (get n client) seq

grows_put : (m : NumberTable Kept) (k : ℕ) (v : Kept) → ((seq : ℕ) → Past (get m k) seq → seq ≤ v.seq) → Grows m (insert m k v)
grows_put m k v h client seq past =
    subst (λ o. Past o seq) (sym (get-insert nat_cmp_total m k v client))
    (at_key (λ x o. Past (get m x) seq → Past o seq) client k (Some v) (get m client) (h seq) (λ _ p. p) past)

past_put : (m : NumberTable Kept) (k : ℕ) (v : Kept) → Past (get (insert m k v) k) v.seq
past_put m k v =
    subst (λ o. Past o v.seq) (sym (get-insert nat_cmp_total m k v k ∙ ap (λ b. cond b (Some v) (get m k)) (key_itself k))) (omega arith)

later_if : (a seq : ℕ) (x y : Accept) (b d : Bool) → ltb a seq ≡ b → cond b None (cond d (Some x) (Some y)) ≡ None → a < seq
later_if a seq x y true d e n = grind (arith, nat_tests)
later_if a seq x y false true e n = cc
later_if a seq x y false false e n = cc

-- a new number is greater than each that is past
later : (client : ClientId) (seq : ℕ) (o : Option Kept) → known_by client seq o ≡ None → (s : ℕ) → Past o s → s ≤ seq
later client seq None e s past = absurd past
later client seq (Some k) e s past =
    let lt : k.seq < seq = later_if k.seq seq (answer_by client seq k.standing) (Refused refusal.OldRequest) (ltb k.seq seq) (eqb k.seq seq) refl e in
    omega arith

grows_if : (m n : NumberTable Kept) (b : Bool) → Grows m n → Grows m (cond b n m)
grows_if m n true g = g
grows_if m n false g = λ client seq past. past

grows_either : (p q : Primary) (b : Bool) → Grows p.kept q.kept → Grows p.kept (cond b q p).kept
grows_either p q true g = g
grows_either p q false g = λ client seq past. past

grows_numbered : (p : Primary) (client : ClientId) (seq : ℕ) (place : Option ℕ) (o : Option Accept) → known p client seq ≡ o → Grows p.kept (numbered_if p client seq place o).kept
grows_numbered p client seq place None e =
    grows_either p (numbered p client seq place) (ltb p.serial counter_limit)
    (grows_put p.kept client.0 (kept_as seq IsPending) (later client seq (get p.kept client.0) e))
grows_numbered p client seq place (Some a) e = λ c s past. past

grows_denied : (p : Primary) (client : ClientId) (seq : ℕ) (r : Refusal) (o : Option Accept) → known p client seq ≡ o → Grows p.kept (denied_if p client seq r o).kept
grows_denied p client seq r None e = grows_put p.kept client.0 (kept_as seq (IsRefused r)) (later client seq (get p.kept client.0) e)
grows_denied p client seq r (Some a) e = λ c s past. past

grows_stood : (m : NumberTable Kept) (client seq : ℕ) (standing : Standing) (o : Option Kept) → get m client ≡ o → Grows m (stood_by m client seq standing o)
grows_stood m client seq standing None e = λ c s past. past
grows_stood m client seq standing (Some k) e =
    grows_if m (insert m client (record k { standing = standing })) (eqb k.seq seq)
    (grows_put m client (record k { standing = standing }) (λ s past. subst (λ o. Past o s) e past))

grows_settled : (m : NumberTable Kept) (o : Option Waiting) → Grows m (settled_kept m o)
grows_settled m None = λ c s past. past
grows_settled m (Some w) = grows_stood m w.client.0 w.seq (IsSettled w.place) (get m w.client.0) refl

grows_refused : (p : Primary) (r : Refusal) (o : Option Waiting) → Grows p.kept (refused_by p r o).kept
grows_refused p r None = λ c s past. past
grows_refused p r (Some w) = grows_stood p.kept w.client.0 w.seq (IsRefused r) (get p.kept w.client.0) refl

grows : (p : Primary) (call : OrderCall) → Grows p.kept (after_call p call).kept
grows p (Attempt client seq place now) =
    let q : Primary = seen_at p now in
    grows_either q (numbered_if q client seq place (known q client seq)) (counts q.held) (grows_numbered q client seq place (known q client seq) refl)
grows p (AttemptWithoutMemory now) = λ c s past. past
grows p (Deny client seq r) = grows_denied p client seq r (known p client seq) refl
grows p (Acknowledge server serial now) =
    let q : Primary = seen_at p now in
    grows_either q (record q {
      kept = settled_kept q.kept (settled_by server (get q.waiting serial));
      waiting = waiting_by q.waiting serial server (get q.waiting serial);
    }) (counts q.held) (grows_settled q.kept (settled_by server (get q.waiting serial)))
grows p (Refuse serial r) = grows_refused p r (get p.waiting serial)
grows p (ExtendLease until now) = λ c s past. past
grows p Report = λ c s past. past
grows p EndLease = λ c s past. past

-- An attempt gets no serial, or one; then its number is past.
abbrev Once : List ℕ → NumberTable Kept → ClientId → ℕ → Type 0
Once given after client seq = (length given ≡ 0) ⊎ ((length given ≡ 1) × Past (get after client.0) seq)

once_room : (p : Primary) (client : ClientId) (seq : ℕ) (place : Option ℕ) (b : Bool)
    → Once (serials_in (cond b (New (record { 0 = p.serial + 1 })) Pending)) (cond b (numbered p client seq place) p).kept client seq
once_room p client seq place true = inr (refl, past_put p.kept client.0 (kept_as seq IsPending))
once_room p client seq place false = inl refl

none_standing : (client : ClientId) (seq : ℕ) (s : Standing) → serials_in (answer_by client seq s) ≡ []
none_standing client seq IsPending = refl
none_standing client seq (IsSettled place) = refl
none_standing client seq (IsRefused r) = refl

once_number : (p : Primary) (client : ClientId) (seq : ℕ) (place : Option ℕ) (s : Standing) (b d : Bool)
    → Once (serials_in (new_answer p (cond b None (cond d (Some (answer_by client seq s)) (Some (Refused refusal.OldRequest))))))
    (numbered_if p client seq place (cond b None (cond d (Some (answer_by client seq s)) (Some (Refused refusal.OldRequest))))).kept client seq
once_number p client seq place s true d = once_room p client seq place (ltb p.serial counter_limit)
once_number p client seq place s false true = inl (ap (λ l. length l) (none_standing client seq s))
once_number p client seq place s false false = inl refl

once_kept : (p : Primary) (client : ClientId) (seq : ℕ) (place : Option ℕ) (k : Option Kept)
    → Once (serials_in (new_answer p (known_by client seq k))) (numbered_if p client seq place (known_by client seq k)).kept client seq
once_kept p client seq place None = once_room p client seq place (ltb p.serial counter_limit)
once_kept p client seq place (Some k) = once_number p client seq place k.standing (ltb k.seq seq) (eqb k.seq seq)

once_lease : (p : Primary) (client : ClientId) (seq : ℕ) (place : Option ℕ) (b : Bool)
    → Once (serials_in (cond b (new_answer p (known p client seq)) (Refused refusal.NoLease))) (cond b (numbered_if p client seq place (known p client seq)) p).kept client seq
once_lease p client seq place true = once_kept p client seq place (get p.kept client.0)
once_lease p client seq place false = inl refl

past_none_number : (p : Primary) (client : ClientId) (seq a : ℕ) (s : Standing) (b d : Bool) → ltb a seq ≡ b → seq ≤ a
    → serials_in (new_answer p (cond b None (cond d (Some (answer_by client seq s)) (Some (Refused refusal.OldRequest))))) ≡ []
past_none_number p client seq a s true d e le = (let lt : a < seq = grind (arith, nat_tests) in absurd (omega arith))
past_none_number p client seq a s false true e le = none_standing client seq s
past_none_number p client seq a s false false e le = refl

past_none_kept : (p : Primary) (client : ClientId) (seq : ℕ) (k : Option Kept) → Past k seq → serials_in (new_answer p (known_by client seq k)) ≡ []
past_none_kept p client seq None past = absurd past
past_none_kept p client seq (Some k) past = past_none_number p client seq k.seq k.standing (ltb k.seq seq) (eqb k.seq seq) refl past

past_none_lease : (p : Primary) (client : ClientId) (seq : ℕ) (b : Bool) → Past (get p.kept client.0) seq
    → serials_in (cond b (new_answer p (known p client seq)) (Refused refusal.NoLease)) ≡ []
past_none_lease p client seq true past = past_none_kept p client seq (get p.kept client.0) past
past_none_lease p client seq false past = refl

none_if : (c client s seq n : ℕ) (b d : Bool) → eqb c client ≡ b → eqb s seq ≡ d → (c ≡ client → s ≡ seq → n ≡ 0) → cond (b && d) n 0 ≡ 0
none_if c client s seq n true true e f h = h (grind (arith, nat_tests)) (grind (arith, nat_tests))
none_if c client s seq n true false e f h = refl
none_if c client s seq n false d e f h = refl

-- a past number is not new
none_by : (p : Primary) (client : ClientId) (seq : ℕ) (call : OrderCall) → Past (get p.kept client.0) seq → times_new_by p client seq call ≡ 0
none_by p client seq (Attempt c s place now) past =
    none_if c.0 client.0 s seq (length (serials_by p (Attempt c s place now))) (eqb c.0 client.0) (eqb s seq) refl refl (λ same equal.
    ap (λ l. length l) (past_none_lease (seen_at p now) c s (counts (seen_at p now).held)
    (subst (λ n. Past (get p.kept c.0) n) (sym equal) (subst (λ n. Past (get p.kept n) seq) (sym same) past))))
none_by p client seq (AttemptWithoutMemory now) past = refl
none_by p client seq (Deny c s r) past = refl
none_by p client seq (Acknowledge server serial now) past = refl
none_by p client seq (Refuse serial r) past = refl
none_by p client seq (ExtendLease until now) past = refl
none_by p client seq Report past = refl
none_by p client seq EndLease past = refl

past_never_new : (p : Primary) (client : ClientId) (seq : ℕ) (calls : List OrderCall) → Past (get p.kept client.0) seq → times_new p client seq calls ≡ 0
past_never_new p client seq [] past = refl
past_never_new p client seq (call ∷ rest) past =
    let now = none_by p client seq call past in
    let then = past_never_new (after_call p call) client seq rest (grows p call client.0 seq past) in
    omega arith

-- the same of a count
abbrev OnceBy : ℕ → NumberTable Kept → ℕ → ℕ → Type 0
OnceBy n after client seq = (n ≡ 0) ⊎ ((n ≡ 1) × Past (get after client) seq)

once_if : (c client s seq n : ℕ) (after : NumberTable Kept) (b d : Bool) → eqb c client ≡ b → eqb s seq ≡ d → OnceBy n after c s → OnceBy (cond (b && d) n 0) after client seq
once_if c client s seq n after true true e f h =
    subst (λ x. OnceBy n after x seq) (grind (arith, nat_tests)) (subst (λ x. OnceBy n after c x) (grind (arith, nat_tests)) h)
once_if c client s seq n after true false e f h = inl refl
once_if c client s seq n after false d e f h = inl refl

once_by : (p : Primary) (client : ClientId) (seq : ℕ) (call : OrderCall) → OnceBy (times_new_by p client seq call) (after_call p call).kept client.0 seq
once_by p client seq (Attempt c s place now) =
    once_if c.0 client.0 s seq (length (serials_by p (Attempt c s place now))) (after_call p (Attempt c s place now)).kept (eqb c.0 client.0) (eqb s seq) refl refl
    (once_lease (seen_at p now) c s place (counts (seen_at p now).held))
once_by p client seq (AttemptWithoutMemory now) = inl refl
once_by p client seq (Deny c s r) = inl refl
once_by p client seq (Acknowledge server serial now) = inl refl
once_by p client seq (Refuse serial r) = inl refl
once_by p client seq (ExtendLease until now) = inl refl
once_by p client seq Report = inl refl
once_by p client seq EndLease = inl refl

added : (n : ℕ) (after : Primary) (client : ClientId) (seq : ℕ) (rest : List OrderCall) → OnceBy n after.kept client.0 seq → times_new after client seq rest ≤ 1
    → n + times_new after client seq rest ≤ 1
added n after client seq rest (inl e) le = omega arith
added n after client seq rest (inr h) le =
    let one = h.0 in
    let none = past_never_new after client seq rest h.1 in
    omega arith

pub at_most_once : (p : Primary) (client : ClientId) (seq : ℕ) (calls : List OrderCall) → times_new p client seq calls ≤ 1
at_most_once p client seq [] = omega arith
at_most_once p client seq (call ∷ rest) =
    added (times_new_by p client seq call) (after_call p call) client seq rest (once_by p client seq call) (at_most_once (after_call p call) client seq rest)

past_if : (a seq : ℕ) (x y : Accept) (b d : Bool) → ltb a seq ≡ b → IsSome (cond b None (cond d (Some x) (Some y))) → seq ≤ a
past_if a seq x y true d e h = cc
past_if a seq x y false d e h = grind (arith, nat_tests)

past_known : (client : ClientId) (seq : ℕ) (o : Option Kept) → IsSome (known_by client seq o) → Past o seq
past_known client seq None h = cc
past_known client seq (Some k) h = past_if k.seq seq (answer_by client seq k.standing) (Refused refusal.OldRequest) (ltb k.seq seq) (eqb k.seq seq) refl h

pub never_new : (p : Primary) (client : ClientId) (seq : ℕ) (calls : List OrderCall) → IsSome (known p client seq) → times_new p client seq calls ≡ 0
never_new p client seq calls h = past_never_new p client seq calls (past_known client seq (get p.kept client.0) h)
