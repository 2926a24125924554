-- A mutation waits for each member that has not acknowledged it.
use Rattle.std.proofs.Common.{◌≡◌, ℕ, suc, ◌+◌, ◌≤◌, Bool, true, false, cond, eqb, ltb, leb, ◌&&◌, List, [], ◌∷◌, ◌++◌, get_or, take, drop, take-append-drop, drop-cons, refl, sym, ap, ◌∙◌, subst, Some, None, Option, IsSome, ◌⊎◌, inl, inr, ⊎_elim, All, Contains, position, arith}
use Rattle.std.specs.List.{remove}
use Rattle.std.specs.Ordering.{nat_cmp}
use Rattle.std.specs.Cmp.{nat_cmp_total}
use Rattle.std.specs.FinMap as map
use Rattle.std.specs.FinMap.{get, get-empty, get-insert, get-remove}
use Rattle.std.proofs.lemmas.Bool.Decides.{nat_tests}
use Rattle.std.proofs.lemmas.List.Elements.{Contains-append_left, Contains-append_right, Contains-append_cases, Contains-push_cases, All-contains, All-contains_itself, All-weaker}
use Rattle.std.proofs.lemmas.List.Quantifiers.{position-Some}
use Rattle.std.proofs.lemmas.List.Sums.{AllPass-from_list_all}
use Rattle.chunk_table.proofs.Lookups.{at_key}
use Rattle.gfs_types.specs.declared.ids.ClientId.{ClientId}
use Rattle.gfs_types.specs.declared.refusal.Refusal.{Refusal}
use Rattle.leases.specs.LeaseHeld.{HeldState, at_moment, counts, extended_if}
use Rattle.primary_order.specs.declared.answer.Accept.{Accept}
use Rattle.primary_order.specs.declared.waiting.Waiting.{Waiting}
use Rattle.primary_order.specs.declared.primary.Primary.{Primary}
use Rattle.gfs_types.specs.Counters.{counter_limit}
use Rattle.primary_order.specs.PrimaryOrder.{new_primary, known, numbered, numbered_if, denied_if, seen_at, is_last, without_at, less_member, settled_kept, settled_by, success_of, waiting_by, ack_answer, refused_by}
use Rattle.primary_order.specs.Laws.{OrderCall, Attempt, AttemptWithoutMemory, Deny, Acknowledge, Refuse, ExtendLease, Report, EndLease, after_call, after_calls, members_by, members_of}

-- what waits under a serial was given, and waits for that member
abbrev WaitsIn : Option Waiting → ℕ → ℕ → ℕ → Type 0
WaitsIn None given serial member = Unit {0}
WaitsIn (Some w) given serial member = (serial ≤ given) × Contains w.members member

abbrev WaitsFor : Primary → ℕ → ℕ → Type 0
WaitsFor p serial member = WaitsIn (get p.waiting serial) p.serial serial member

-- the lease names that member, and a mutation that waits under the serial waits for it
abbrev Owes : Primary → ℕ → ℕ → Type 0
Owes p serial member = Contains p.held.lease.members member × WaitsFor p serial member

waits_more : (o : Option Waiting) (given more serial member : ℕ) → given ≤ more → WaitsIn o given serial member → WaitsIn o more serial member
waits_more None given more serial member le h = tt
waits_more (Some w) given more serial member le h = let lt = h.0 in (omega arith, h.1)

owes_either : (p q : Primary) (serial member : ℕ) (b : Bool) → (Owes p serial member → Owes q serial member) → Owes p serial member → Owes (cond b q p) serial member
owes_either p q serial member true f h = f h
owes_either p q serial member false f h = h

owes_new : (p : Primary) (client : ClientId) (seq : ℕ) (place : Option ℕ) (serial member : ℕ) → Owes p serial member → Owes (numbered p client seq place) serial member
owes_new p client seq place serial member h =
    let w : Waiting = record { client = client; seq = seq; members = p.held.lease.members; place = place } in (
      h.0,
      subst (λ o. WaitsIn o (p.serial + 1) serial member) (sym (get-insert nat_cmp_total p.waiting (p.serial + 1) w serial))
          (at_key (λ x o. WaitsIn o (p.serial + 1) x member) serial (p.serial + 1) (Some w) (get p.waiting serial)
          (omega arith, h.0) (λ _. waits_more (get p.waiting serial) p.serial (p.serial + 1) serial member (omega arith) h.1)),
    )

owes_numbered : (p : Primary) (client : ClientId) (seq : ℕ) (place : Option ℕ) (o : Option Accept) (serial member : ℕ)
    → Owes p serial member → Owes (numbered_if p client seq place o) serial member
owes_numbered p client seq place None serial member h = owes_either p (numbered p client seq place) serial member (ltb p.serial counter_limit) (owes_new p client seq place serial member) h
owes_numbered p client seq place (Some a) serial member h = h

owes_denied : (p : Primary) (client : ClientId) (seq : ℕ) (r : Refusal) (o : Option Accept) (serial member : ℕ) → Owes p serial member → Owes (denied_if p client seq r o) serial member
owes_denied p client seq r None serial member h = h
owes_denied p client seq r (Some a) serial member h = h

owes_refused : (p : Primary) (r : Refusal) (o : Option Waiting) (serial member : ℕ) → Owes p serial member → Owes (refused_by p r o) serial member
owes_refused p r None serial member h = h
owes_refused p r (Some w) serial member h = h

same_members_if : (s : HeldState) (until : ℕ) (b : Bool)
    → (cond b (record s.lease { until = until }) s.lease).members ≡ s.lease.members
same_members_if s until true = refl
same_members_if s until false = refl

same_members : (s : HeldState) (until : ℕ) → (extended_if s until).lease.members ≡ s.lease.members
same_members s until = same_members_if s until (counts s && ltb s.lease.until until)

is_it : (x member : ℕ) → Contains (x ∷ []) member → x ≡ member
is_it x member h = ⊎_elim (λ none. (let lt = none.1 in absurd (omega arith))) (λ e. e) (Contains-push_cases [] x member h)

not_it : (x server member : ℕ) → eqb x server ≡ true → eqb member server ≡ false → x ≡ member → ⊥
not_it x server member passes fails same = cc

-- another member than the one that was taken out is still there
other_stays : (members : List ℕ) (server member i : ℕ) → position (λ m. eqb m server) members ≡ Some i → eqb member server ≡ false → Contains members member → Contains (remove members i) member
other_stays members server member i e other h =
    let at = position-Some (λ m. eqb m server) members i 0 e in
    let x = get_or members i 0 in
    let rest = drop (suc i) members in
    let split : take i members ++ x ∷ rest ≡ members = ap (λ l. take i members ++ l) (sym (drop-cons members i 0 at.0)) ∙ take-append-drop i members in
    ⊎_elim
    (λ k. Contains-append_left (take i members) rest member k)
    (λ k. ⊎_elim
    (λ one. absurd (not_it x server member at.1 other (is_it x member one)))
    (λ more. Contains-append_right (take i members) rest member more)
    (Contains-append_cases (x ∷ []) rest member k))
    (Contains-append_cases (take i members) (x ∷ rest) member (subst (λ l. Contains l member) (sym split) h))

stays : (members : List ℕ) (server member : ℕ) (o : Option ℕ) → position (λ m. eqb m server) members ≡ o → eqb member server ≡ false → Contains members member → Contains (without_at members o) member
stays members server member None e other h = h
stays members server member (Some i) e other h = other_stays members server member i e other h

contains_one : (x : ℕ) → Contains (x ∷ []) x
contains_one x = (0, omega arith, refl)

-- the acknowledgement of a waiting mutation, by that member or by another
abbrev LeftBy : Primary → ℕ → ℕ → ℕ → Option Waiting → ℕ → Bool → Type 0
LeftBy p s server member o serial b = WaitsIn o p.serial serial member ⊎ Contains (cond (eqb s serial && (leb s p.serial && b)) (server ∷ []) []) member

by_itself : (s server member given : ℕ) → eqb member server ≡ true → s ≤ given → Contains (cond (eqb s s && (leb s given && true)) (server ∷ []) []) member
by_itself s server member given e le =
    let same : member ≡ server = grind (arith, nat_tests) in
    let one : eqb s s ≡ true = grind (arith, nat_tests) in
    let within : leb s given ≡ true = grind (arith, nat_tests) in
    subst (λ m. Contains (cond (eqb s s && (leb s given && true)) (server ∷ []) []) m) (sym same)
    (subst (λ b. Contains (cond (b && (leb s given && true)) (server ∷ []) []) server) (sym one)
    (subst (λ b. Contains (cond (true && (b && true)) (server ∷ []) []) server) (sym within) (contains_one server)))

left_less : (p : Primary) (s server member : ℕ) (w : Waiting) (b : Bool) → eqb member server ≡ b → s ≤ p.serial → Contains w.members member
    → LeftBy p s server member (Some (less_member server w)) s true
left_less p s server member w true e le h = inr (by_itself s server member p.serial e le)
left_less p s server member w false e le h = inl (le, stays w.members server member (position (λ m. eqb m server) w.members) refl e h)

left_if : (p : Primary) (s server member : ℕ) (w : Waiting) (serial : ℕ) (b : Bool) → get p.waiting s ≡ Some w → WaitsFor p serial member
    → LeftBy p s server member (get (cond b (map.remove p.waiting s) (map.insert p.waiting s (less_member server w))) serial) serial true
left_if p s server member w serial true e h =
    subst (λ o. LeftBy p s server member o serial true) (sym (get-remove nat_cmp_total p.waiting s serial))
    (at_key (λ x o. WaitsFor p x member → LeftBy p s server member o x true) serial s None (get p.waiting serial) (λ _. inl tt) (λ _ k. inl k) h)
left_if p s server member w serial false e h =
    subst (λ o. LeftBy p s server member o serial true) (sym (get-insert nat_cmp_total p.waiting s (less_member server w) serial))
    (at_key (λ x o. WaitsFor p x member → LeftBy p s server member o x true) serial s (Some (less_member server w)) (get p.waiting serial)
    (λ k. let here = subst (λ o. WaitsIn o p.serial s member) e k in left_less p s server member w (eqb member server) refl here.0 here.1) (λ _ k. inl k) h)

left_by : (p : Primary) (s server member : ℕ) (o : Option Waiting) (serial : ℕ) → get p.waiting s ≡ o → WaitsFor p serial member
    → LeftBy p s server member (get (waiting_by p.waiting s server o) serial) serial true
left_by p s server member None serial e h = inl h
left_by p s server member (Some w) serial e h = left_if p s server member w serial (is_last server w) e h

-- a member that a call does not free of its debt still owes
abbrev OwesOr : Primary → ℕ → ℕ → List ℕ → Type 0
OwesOr p serial member freed = Owes p serial member ⊎ Contains freed member

owes_if : (p : Primary) (server s serial member : ℕ) (b : Bool) → Owes p serial member
    → OwesOr (cond b (record p {
      kept = settled_kept p.kept (settled_by server (get p.waiting s));
      waiting = waiting_by p.waiting s server (get p.waiting s);
    }) p) serial member (cond (eqb s serial && (leb s p.serial && b)) (server ∷ []) [])
owes_if p server s serial member true h = ⊎_elim (λ k. inl (h.0, k)) (λ k. inr k) (left_by p s server member (get p.waiting s) serial refl h.1)
owes_if p server s serial member false h = inl h

owes : (p : Primary) (serial member : ℕ) (call : OrderCall) → Owes p serial member → OwesOr (after_call p call) serial member (members_by p serial call)
owes p serial member (Attempt client seq place now) h =
    let q : Primary = seen_at p now in
    inl (owes_either q (numbered_if q client seq place (known q client seq)) serial member (counts q.held) (owes_numbered q client seq place (known q client seq) serial member) h)
owes p serial member (AttemptWithoutMemory now) h = inl h
owes p serial member (Deny client seq r) h = inl (owes_denied p client seq r (known p client seq) serial member h)
owes p serial member (Acknowledge server s now) h = owes_if (seen_at p now) server s serial member (counts (seen_at p now).held) h
owes p serial member (Refuse s r) h = inl (owes_refused p r (get p.waiting s) serial member h)
owes p serial member (ExtendLease until now) h = inl (subst (λ l. Contains l member) (sym (same_members (at_moment p.held now) until)) h.0, h.1)
owes p serial member Report h = inl h
owes p serial member EndLease h = inl h

settles_if : (p : Primary) (serial server member : ℕ) (w : Waiting) (b : Bool) → is_last server w ≡ b → (serial ≤ p.serial) × Contains w.members member
    → IsSome (success_of (cond b (Some w) None)) → Contains (cond (eqb serial serial && (leb serial p.serial && true)) (server ∷ []) []) member
settles_if p serial server member w true e h some =
    by_itself serial server member p.serial
    (All-contains (λ m. eqb m server ≡ true) w.members member (AllPass-from_list_all (λ m. eqb m server) w.members e) h.1) h.0
settles_if p serial server member w false e h some = cc

-- the last acknowledgement
last_settles : (p : Primary) (serial server member : ℕ) (o : Option Waiting) (b : Bool) → WaitsIn o p.serial serial member
    → IsSome (cond b (success_of (settled_by server o)) None) → Contains (cond (eqb serial serial && (leb serial p.serial && b)) (server ∷ []) []) member
last_settles p serial server member None true h some = cc
last_settles p serial server member None false h some = cc
last_settles p serial server member (Some w) true h some = settles_if p serial server member w (is_last server w) refl h some
last_settles p serial server member (Some w) false h some = cc

last : (p : Primary) (serial server now member : ℕ) → Owes p serial member → IsSome (ack_answer (seen_at p now) server serial)
    → Contains (members_by p serial (Acknowledge server serial now)) member
last p serial server now member h some = last_settles (seen_at p now) serial server member (get p.waiting serial) (counts (seen_at p now).held) h.1 some

all_freed : (p : Primary) (calls : List OrderCall) (serial server now member : ℕ) → Owes p serial member → IsSome (ack_answer (seen_at (after_calls p calls) now) server serial)
    → Contains (members_of p serial (calls ++ Acknowledge server serial now ∷ [])) member
all_freed p [] serial server now member h some = Contains-append_left (members_by p serial (Acknowledge server serial now)) [] member (last p serial server now member h some)
all_freed p (call ∷ rest) serial server now member h some =
    let last_call = Acknowledge server serial now in
    let later = members_of (after_call p call) serial (rest ++ last_call ∷ []) in
    ⊎_elim
    (λ k. Contains-append_right (members_by p serial call) later member (all_freed (after_call p call) rest serial server now member k some))
    (λ k. Contains-append_left (members_by p serial call) later member k)
    (owes p serial member call h)

nothing_waits : (chunk : ℕ) (held : HeldState) (serial member : ℕ) → WaitsFor (new_primary chunk held) serial member
nothing_waits chunk held serial member = subst (λ o. WaitsIn o 0 serial member) (sym (get-empty nat_cmp serial)) tt

pub every_member : (chunk : ℕ) (held : HeldState) (calls : List OrderCall) (server serial now : ℕ)
    → IsSome (ack_answer (seen_at (after_calls (new_primary chunk held) calls) now) server serial)
    → All (Contains (members_of (new_primary chunk held) serial (calls ++ Acknowledge server serial now ∷ []))) held.lease.members
every_member chunk held calls server serial now some =
    All-weaker (Contains held.lease.members) (Contains (members_of (new_primary chunk held) serial (calls ++ Acknowledge server serial now ∷ [])))
    (λ member has. all_freed (new_primary chunk held) calls serial server now member (has, nothing_waits chunk held serial member) some)
    held.lease.members (All-contains_itself held.lease.members)
