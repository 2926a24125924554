-- The open call of one client goes on; those of the others stay, with their kept answers and locks.
use Rattle.std.proofs.Common.{◌≡◌, ◌⊎◌, ⊎_elim, ℕ, zero, suc, Bool, true, false, cond, List, [], ◌∷◌, ◌++◌, Option, Some, refl, sym, ap, subst, ◌∙◌, inl, inr, arith}
use Rattle.std.specs.Prelude.{◌==◌, ◌&&◌, option_map, Contains, filter, IsFalse}
use Rattle.std.specs.List.{AllByRecursion}
use Rattle.std.specs.Cmp.{nat_cmp_total, unsigned_tied}
use Rattle.std.proofs.lemmas.Bool.{true≢false, eqb-true, eqb-false, eq-eqb, ne_eqb, or_parts}
use Rattle.std.specs.FinMap as table
use Rattle.gfs_types.specs.declared.refusal.Refusal.{Refusal}
use Rattle.relaxed_file.specs.Machine.{Machine, Client, OpenCall, Outcome, Replies, IsOpen, with_step}
use Rattle.relaxed_file.specs.NameStep.{is_look, with_outcome}
use Rattle.relaxed_file.proofs.Tables.{put_same, put_other, from_some}
use Rattle.protocol.specs.Tables.{Table}
use Rattle.protocol.specs.Logged.{KeptCall}
use Rattle.protocol.specs.Master.{PendingSnapshot}
use Rattle.protocol.specs.MasterNames.{snapshot_call}
use Rattle.protocol.specs.MasterSnapshots.{reply_of}
use Rattle.laws_names.specs.Alike.{Requests, IsWaiting, IsKept, IsAnswered, AreUntaken, HoldsLocks, waits_among}

pub contains_first : {X : Type 0} (x : X) (xs : List X) → Contains (x ∷ xs) x
contains_first x xs = (zero, omega arith, refl)

pub contains_more : {X : Type 0} (x y : X) (xs : List X) → Contains xs y → Contains (x ∷ xs) y
contains_more x y xs h = let low = h.1 in (suc h.0, omega (arith, low), h.2)

pub same_or_not : (a b : ℕ) → (a ≡ b) ⊎ (a ≡ b → ⊥)
same_or_not a b = by_test (a == b) refl
  where
    by_test : (t : Bool) → (a == b) ≡ t → (a ≡ b) ⊎ (a ≡ b → ⊥)
    by_test true e = inl (eqb-true a b e)
    by_test false e = inr (eqb-false a b e)

-- what stands in a table after one number was put in
pub put_split : {X : Type 0} (t : Table X) (k : ℕ) (v : X) (q : ℕ) (x : X) → table.get (table.insert t k v) q ≡ Some x → ((q ≡ k) × (v ≡ x)) ⊎ ((q ≡ k → ⊥) × (table.get t q ≡ Some x))
put_split {X} t k v q x h = split (q == k) refl (sym (table.get-insert nat_cmp_total t k v q ∙ ap (λ b. cond b (Some v) (table.get t q)) (unsigned_tied q k)) ∙ h)
  where
    split : (b : Bool) → (q == k) ≡ b → cond b (Some v) (table.get t q) ≡ Some x → ((q ≡ k) × (v ≡ x)) ⊎ ((q ≡ k → ⊥) × (table.get t q ≡ Some x))
    split true e g = inl (eqb-true q k e, from_some g)
    split false e g = inr (eqb-false q k e, g)

-- what was put in stands there, and the others stay
pub got_same : {X : Type 0} (t : Table X) (k : ℕ) (v : X) (q : ℕ) → q ≡ k → table.get (table.insert t k v) q ≡ Some v
got_same t k v q same = table.get-insert nat_cmp_total t k v q ∙ ap (λ b. cond b (Some v) (table.get t q)) (unsigned_tied q k ∙ eq-eqb q k same)

pub got_other : {X : Type 0} (t : Table X) (k : ℕ) (v : X) (q : ℕ) → (q ≡ k → ⊥) → table.get (table.insert t k v) q ≡ table.get t q
got_other t k v q other = table.get-insert nat_cmp_total t k v q ∙ ap (λ b. cond b (Some v) (table.get t q)) (unsigned_tied q k ∙ ne_eqb q k other)

-- from one state to another the open call of this client alone goes on, and keeps its outcomes
pub record GoesOn (m n : Machine) (client : ℕ) (current later : OpenCall) : Type 0 where
  pub before : IsOpen m client current
  pub after : IsOpen n client later
  pub others : (q : ℕ) → (q ≡ client → ⊥) → n.clients q ≡ m.clients q
  pub more : (o : Outcome) → Contains current.outcomes o → Contains later.outcomes o

pub one_call : (m : Machine) (client : ℕ) (a b : OpenCall) → IsOpen m client a → IsOpen m client b → a ≡ b
one_call m client a b h g = from_some (sym h ∙ g)

-- a step of the open call, on a state with the same clients
pub step_goes_on : (m base : Machine) (client : ℕ) (current : OpenCall) (change : OpenCall → OpenCall) → base.clients ≡ m.clients → IsOpen m client current
    → ((o : Outcome) → Contains current.outcomes o → Contains (change current).outcomes o) → GoesOn m (with_step base client change) client current (record (change current) { has_begun = true })
step_goes_on m base client current change same h more =
    let f : OpenCall → OpenCall = λ c. record (change c) { has_begun = true } in
    let state : Client = record (base.clients client) { open_call = option_map f (base.clients client).open_call } in
    record {
      before = h;
      after = ap (λ (s : Client). s.open_call) (put_same client state base.clients) ∙ ap (λ (o : Option OpenCall). option_map f o) (ap (λ (cs : ℕ → Client). (cs client).open_call) same ∙ h);
      others = λ q other. put_other client state base.clients q other ∙ ap (λ (cs : ℕ → Client). cs q) same;
      more = more;
    }

pub outcome_goes_on : (m base : Machine) (client : ℕ) (current : OpenCall) (outcome : Outcome) → base.clients ≡ m.clients → IsOpen m client current
    → GoesOn m (with_outcome base client outcome) client current (record current { outcomes = outcome ∷ current.outcomes; has_begun = true })
outcome_goes_on m base client current outcome same h =
    step_goes_on m base client current (λ c. record c { outcomes = outcome ∷ c.outcomes }) same h (λ o there. contains_more outcome o current.outcomes there)

-- another client's open call was so before
pub back_at_other : (m n : Machine) (client : ℕ) (current later : OpenCall) → GoesOn m n client current later → (q : ℕ) (c : OpenCall) → (q ≡ client → ⊥) → IsOpen n q c → IsOpen m q c
back_at_other m n client current later g q c other h = ap (λ (s : Client). s.open_call) (sym (g.others q other)) ∙ h

module _ (m n : Machine) (requests : Requests) (client : ℕ) (current later : OpenCall) (g : GoesOn m n client current later) where
  -- a kept answer stays an outcome
  pub kept_stays : (q : ℕ) (k : KeptCall) → IsKept m requests q k → IsKept n requests q k
  kept_stays q k h c w = ⊎_elim
      (λ same.
      let here : IsOpen n client c = subst (λ (i : ℕ). IsOpen n i c) same w.is_open in
      let had : Contains current.outcomes (Replies (reply_of k.refusal)) = h current (record { is_open = subst (λ (i : ℕ). IsOpen m i current) (sym same) g.before; number_is = w.number_is }) in
      subst (λ (x : OpenCall). Contains x.outcomes (Replies (reply_of k.refusal))) (one_call n client later c g.after here) (g.more (Replies (reply_of k.refusal)) had))
      (λ other. h c (record { is_open = back_at_other m n client current later g q c other w.is_open; number_is = w.number_is }))
      (same_or_not q client)

  -- the answer that is an outcome now is kept
  pub kept_now : (kept : Table KeptCall) (number : ℕ) (refusal : Option Refusal) → ((q : ℕ) (k : KeptCall) → table.get kept q ≡ Some k → IsKept m requests q k) → Contains later.outcomes (Replies (reply_of refusal))
      → (q : ℕ) (k : KeptCall) → table.get (table.insert kept client (record { number = number; refusal = refusal })) q ≡ Some k → IsKept n requests q k
  kept_now kept number refusal all has q k is = elim (put_split kept client (record { number = number; refusal = refusal }) q k is) [
    | inl now ↦ λ c w.
        let here : IsOpen n client c = subst (λ (i : ℕ). IsOpen n i c) now.0 w.is_open in
        let told : Contains c.outcomes (Replies (reply_of refusal)) = subst (λ (x : OpenCall). Contains x.outcomes (Replies (reply_of refusal))) (one_call n client later c g.after here) has in
        subst (λ (x : KeptCall). Contains c.outcomes (Replies (reply_of x.refusal))) now.1 told
    | inr old ↦ kept_stays q k (all q k old.1)
  ]

  -- the calls of the others took no step now
  pub untaken_stays : (kept : Table KeptCall) → AreUntaken kept m requests → ((number : ℕ) → IsFalse (is_look later.asked.call) → (later.outcomes ≡ []) ⊎ IsAnswered kept client number) → AreUntaken kept n requests
  untaken_stays kept all own q number c w plain = ⊎_elim
      (λ same.
      let is : later ≡ c = one_call n client later c g.after (subst (λ (i : ℕ). IsOpen n i c) same w.is_open) in
      subst (λ (x : OpenCall). (x.outcomes ≡ []) ⊎ IsAnswered kept q number) is
      (subst (λ (i : ℕ). (later.outcomes ≡ []) ⊎ IsAnswered kept i number) (sym same) (own number (ap (λ (x : OpenCall). is_look x.asked.call) is ∙ plain))))
      (λ other. all q number c (record { is_open = back_at_other m n client current later g q c other w.is_open; number_is = w.number_is }) plain)
      (same_or_not q client)

  -- the call that took a step now is answered
  pub untaken_now : (kept : Table KeptCall) (number : ℕ) (refusal : Option Refusal) → requests client ≡ Some number → AreUntaken kept m requests
      → AreUntaken (table.insert kept client (record { number = number; refusal = refusal })) n requests
  untaken_now kept number refusal is all q asked c w plain = ⊎_elim
      (λ same. inr (record { number = number; refusal = refusal }, got_same kept client (record { number = number; refusal = refusal }) q same, from_some (sym is ∙ ap requests (sym same) ∙ w.number_is)))
      (λ other. ⊎_elim
      (λ none. inl none)
      (λ found. inr (found.0, got_other kept client (record { number = number; refusal = refusal }) q other ∙ found.1, found.2))
      (all q asked c (record { is_open = back_at_other m n client current later g q c other w.is_open; number_is = w.number_is }) plain))
      (same_or_not q client)

  -- another client's locks stay
  pub holds_still : (s : PendingSnapshot) → (s.client ≡ client → ⊥) → HoldsLocks m requests s → HoldsLocks n requests s
  holds_still s other h =
      record {
        current = h.current;
        waiting = record { is_open = ap (λ (x : Client). x.open_call) (g.others s.client other) ∙ h.waiting.is_open; number_is = h.waiting.number_is };
        call_is = h.call_is;
        has_locks = h.has_locks;
        untaken = h.untaken;
      }

  pub all_hold_still : (snapshots : List PendingSnapshot) → AllByRecursion (λ s. s.client ≡ client → ⊥) snapshots → AllByRecursion (HoldsLocks m requests) snapshots → AllByRecursion (HoldsLocks n requests) snapshots
  all_hold_still [] apart all = tt
  all_hold_still (s ∷ rest) apart all = (holds_still s apart.0 all.0, all_hold_still rest apart.1 all.1)

-- where no snapshot of this request waits, none of its client does
both_true : (a b c d : ℕ) → a ≡ b → c ≡ d → (a == b) && (c == d) ≡ true
both_true a b c d e f = ap (λ x. x && (c == d)) (eq-eqb a b e) ∙ eq-eqb c d f

pub none_of_client : (m : Machine) (requests : Requests) (client number : ℕ) (snapshots : List PendingSnapshot) → requests client ≡ Some number → waits_among snapshots client number ≡ false
    → AllByRecursion (HoldsLocks m requests) snapshots → AllByRecursion (λ s. s.client ≡ client → ⊥) snapshots
none_of_client m requests client number [] is alone all = tt
none_of_client m requests client number (s ∷ rest) is alone all =
    let parts = or_parts ((s.client == client) && (s.number == number)) (waits_among rest client number) alone in (
      λ same.
          let number_is : s.number ≡ number = from_some (sym (all.0).waiting.number_is ∙ ap requests same ∙ is) in
          true≢false (sym (both_true s.client client s.number number same number_is) ∙ parts.0),
      none_of_client m requests client number rest is parts.1 all.1,
    )

-- where the client's open call is no snapshot, none of its snapshots waits
pub none_of_call : (m : Machine) (requests : Requests) (client : ℕ) (current : OpenCall) (snapshots : List PendingSnapshot) → IsOpen m client current → ((s : PendingSnapshot) → current.asked.call ≡ snapshot_call s → ⊥)
    → AllByRecursion (HoldsLocks m requests) snapshots → AllByRecursion (λ s. s.client ≡ client → ⊥) snapshots
none_of_call m requests client current [] h plain all = tt
none_of_call m requests client current (s ∷ rest) h plain all = (
  λ same.
      let is : (all.0).current ≡ current = one_call m client (all.0).current current (subst (λ (i : ℕ). IsOpen m i (all.0).current) same (all.0).waiting.is_open) h in
      plain s (ap (λ (c : OpenCall). c.asked.call) (sym is) ∙ (all.0).call_is),
  none_of_call m requests client current rest h plain all.1,
)

-- some of the snapshots
pub some_hold : (m : Machine) (requests : Requests) (stays : PendingSnapshot → Bool) (snapshots : List PendingSnapshot) → AllByRecursion (HoldsLocks m requests) snapshots → AllByRecursion (HoldsLocks m requests) (filter stays snapshots)
some_hold m requests stays [] all = tt
some_hold m requests stays (s ∷ rest) all = by_test (stays s) (some_hold m requests stays rest all.1)
  where
    by_test : (b : Bool) → AllByRecursion (HoldsLocks m requests) (filter stays rest) → AllByRecursion (HoldsLocks m requests) (cond b (s ∷ filter stays rest) (filter stays rest))
    by_test true more = (all.0, more)
    by_test false more = more

pub one_more_holds : (m : Machine) (requests : Requests) (snapshots : List PendingSnapshot) (s : PendingSnapshot) → AllByRecursion (HoldsLocks m requests) snapshots → HoldsLocks m requests s → AllByRecursion (HoldsLocks m requests) (snapshots ++ s ∷ [])
one_more_holds m requests [] s all one = (one, tt)
one_more_holds m requests (t ∷ rest) s all one = (all.0, one_more_holds m requests rest s all.1 one)

-- where no client changes
pub waits_still : (m n : Machine) (requests : Requests) (client number : ℕ) (c : OpenCall) → n.clients ≡ m.clients → IsWaiting n requests client number c → IsWaiting m requests client number c
waits_still m n requests client number c same w = record { is_open = ap (λ (cs : ℕ → Client). (cs client).open_call) (sym same) ∙ w.is_open; number_is = w.number_is }

pub all_still : (m n : Machine) (requests : Requests) (snapshots : List PendingSnapshot) → n.clients ≡ m.clients → AllByRecursion (HoldsLocks m requests) snapshots → AllByRecursion (HoldsLocks n requests) snapshots
all_still m n requests [] same all = tt
all_still m n requests (s ∷ rest) same all = (
  record {
    current = (all.0).current;
    waiting = waits_still n m requests s.client s.number (all.0).current (sym same) (all.0).waiting;
    call_is = (all.0).call_is;
    has_locks = (all.0).has_locks;
    untaken = (all.0).untaken;
  },
  all_still m n requests rest same all.1,
)
