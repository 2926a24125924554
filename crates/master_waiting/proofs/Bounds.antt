-- The earliest deadline and the clients of the snapshots that wait, as these come and go.
use native.Mathlib.Omega.{arith}
use Rattle.std.proofs.Common.{◌≡◌, ℕ, ◌+◌, ◌<◌, length, take, get_or, Bool, true, false, cond, ltb, leb, ◌&&◌, ◌||◌, List, [], ◌∷◌, ◌++◌, filter, Some, None, Option, refl, sym, ap, ◌∙◌, subst}
use Rattle.std.specs.Prelude.{◌==◌, is_some, min}
use Rattle.std.specs.List.{list_all, list_any}
use Rattle.std.specs.Ordering.{nat_cmp, eq_by_cmp}
use Rattle.std.specs.Cmp.{nat_cmp_total}
use Rattle.std.specs.FinMap as map
use Rattle.std.proofs.lemmas.Bool.{true≢false, and_parts}
use Rattle.std.proofs.lemmas.Bool.Decides.{nat_tests}
use Rattle.std.proofs.lemmas.List.{take_more}
use Rattle.chunk_table.proofs.Lookups.{same_key}
use Rattle.protocol.specs.Master.{PendingSnapshot}
use Rattle.protocol.specs.MasterSnapshots.{live_snapshots}
use Rattle.master_waiting.specs.Concerned.{NumberSet, is_in}
use Rattle.master_waiting.specs.Due.{are_due_from, are_from}
use Rattle.master_waiting.proofs.Concerning.{itself, put_one}
use Rattle.master_waiting.proofs.Locked.{all_more, neither}

-- before the earliest deadline all live
live : (earliest now deadline : ℕ) → leb earliest deadline ≡ true → now < earliest → ltb now deadline ≡ true
live earliest now deadline le lt = grind (arith, nat_tests)

pub all_live : (earliest now : ℕ) (ss : List PendingSnapshot) → are_due_from earliest ss ≡ true → now < earliest → live_snapshots now ss ≡ ss
all_live earliest now [] h lt = refl
all_live earliest now (s ∷ ss) h lt =
    let both = and_parts (leb earliest s.deadline) (are_due_from earliest ss) h in
    ap (λ b. cond b (s ∷ live_snapshots now ss) (live_snapshots now ss)) (live earliest now s.deadline both.0 lt)
    ∙ ap (λ (rest : List PendingSnapshot). s ∷ rest) (all_live earliest now ss both.1 lt)

lower : (earliest other deadline : ℕ) → leb earliest deadline ≡ true → leb (min earliest other) deadline ≡ true
lower earliest other deadline e = grind (arith, nat_tests)

own : (earliest deadline : ℕ) → leb (min earliest deadline) deadline ≡ true
own earliest deadline = grind (arith, nat_tests)

pub due_lower : (earliest other : ℕ) (ss : List PendingSnapshot) → are_due_from earliest ss ≡ true → are_due_from (min earliest other) ss ≡ true
due_lower earliest other [] h = refl
due_lower earliest other (s ∷ ss) h =
    let both = and_parts (leb earliest s.deadline) (are_due_from earliest ss) h in
    ap (λ b. b && are_due_from (min earliest other) ss) (lower earliest other s.deadline both.0) ∙ due_lower earliest other ss both.1

pub due_more : (earliest : ℕ) (ss : List PendingSnapshot) (s : PendingSnapshot) → are_due_from earliest ss ≡ true → are_due_from (min earliest s.deadline) (ss ++ s ∷ []) ≡ true
due_more earliest ss s h =
    all_more (λ (x : PendingSnapshot). leb (min earliest s.deadline) x.deadline) ss s (due_lower earliest s.deadline ss h) (own earliest s.deadline)

all_some : (f keep : PendingSnapshot → Bool) (ss : List PendingSnapshot) → list_all f ss ≡ true → list_all f (filter keep ss) ≡ true
all_some f keep [] h = refl
all_some f keep (s ∷ ss) h =
    let both = and_parts (f s) (list_all f ss) h in
    let rest : list_all f (filter keep ss) ≡ true = all_some f keep ss both.1 in
    elim (keep s) as (λ b. list_all f (cond b (s ∷ filter keep ss) (filter keep ss)) ≡ true) [
      | true ↦ ap (λ b. b && list_all f (filter keep ss)) both.0 ∙ rest
      | false ↦ rest
    ]

pub due_some : (earliest : ℕ) (keep : PendingSnapshot → Bool) (ss : List PendingSnapshot) → are_due_from earliest ss ≡ true → are_due_from earliest (filter keep ss) ≡ true
due_some earliest keep ss h = all_some (λ (x : PendingSnapshot). leb earliest x.deadline) keep ss h

or_true : (b : Bool) → (b || true) ≡ true
or_true true = refl
or_true false = refl

pub from_wider : (clients : NumberSet) (client : ℕ) (ss : List PendingSnapshot) → are_from clients ss ≡ true → are_from (map.insert clients client tt) ss ≡ true
from_wider clients client [] h = refl
from_wider clients client (s ∷ ss) h =
    let both = and_parts (is_in clients s.client) (are_from clients ss) h in
    ap (λ b. b && are_from (map.insert clients client tt) ss) (put_one clients client s.client ∙ ap (λ b. (client == s.client) || b) both.0 ∙ or_true (client == s.client))
    ∙ from_wider clients client ss both.1

pub from_more : (clients : NumberSet) (ss : List PendingSnapshot) (s : PendingSnapshot) → are_from clients ss ≡ true → are_from (map.insert clients s.client tt) (ss ++ s ∷ []) ≡ true
from_more clients ss s h =
    all_more (λ (x : PendingSnapshot). is_in (map.insert clients s.client tt) x.client) ss s (from_wider clients s.client ss h)
    (put_one clients s.client s.client ∙ ap (λ b. b || is_in clients s.client) (itself s.client))

pub from_some : (clients : NumberSet) (keep : PendingSnapshot → Bool) (ss : List PendingSnapshot) → are_from clients ss ≡ true → are_from clients (filter keep ss) ≡ true
from_some clients keep ss h = all_some (λ (x : PendingSnapshot). is_in clients x.client) keep ss h

-- another client stays in a set from which one goes
other_client : (clients : NumberSet) (gone client : ℕ) → (client == gone) ≡ false → is_in (map.remove clients gone) client ≡ is_in clients client
other_client clients gone client apart =
    ap (λ (o : Option (Unit {0})). is_some o)
    (map.get-remove nat_cmp_total clients gone client
    ∙ elim (eq_by_cmp nat_cmp client gone) as (λ b. eq_by_cmp nat_cmp client gone ≡ b → cond b None (map.get clients client) ≡ map.get clients client) [
      | true ↦ λ e.
          absurd (true≢false (sym (itself client) ∙ ap (λ x. client == x) (same_key client gone e) ∙ apart))
      | false ↦ λ e. refl
    ] refl)

pub from_others : (clients : NumberSet) (gone : ℕ) (ss : List PendingSnapshot) → list_any (λ s. s.client == gone) ss ≡ false → are_from clients ss ≡ true
    → are_from (map.remove clients gone) ss ≡ true
from_others clients gone [] none h = refl
from_others clients gone (s ∷ ss) none h =
    let both = and_parts (is_in clients s.client) (are_from clients ss) h in
    let apart = neither (s.client == gone) (list_any (λ s. s.client == gone) ss) none in
    ap (λ b. b && are_from (map.remove clients gone) ss) (other_client clients gone s.client apart.0 ∙ both.0) ∙ from_others clients gone ss apart.1 both.1

-- a client that isn't among them has none that waits
pub none_of : (clients : NumberSet) (client : ℕ) (ss : List PendingSnapshot) → is_in clients client ≡ false → are_from clients ss ≡ true → list_any (λ s. s.client == client) ss ≡ false
none_of clients client [] none h = refl
none_of clients client (s ∷ ss) none h =
    let both = and_parts (is_in clients s.client) (are_from clients ss) h in
    elim (s.client == client) as (λ b. (s.client == client) ≡ b → (b || list_any (λ s. s.client == client) ss) ≡ false) [
      | true ↦ λ e. let same : s.client ≡ client = grind (arith, nat_tests) in absurd (true≢false (sym both.0 ∙ ap (is_in clients) same ∙ none))
      | false ↦ λ e. none_of clients client ss none both.1
    ] refl

pub no_call : (client number : ℕ) (ss : List PendingSnapshot) → list_any (λ s. s.client == client) ss ≡ false → false ≡ list_any (λ s. (s.client == client) && (s.number == number)) ss
no_call client number [] none = refl
no_call client number (s ∷ ss) none =
    let parts = neither (s.client == client) (list_any (λ s. s.client == client) ss) none in
    no_call client number ss parts.1 ∙ sym (ap (λ b. (b && (s.number == number)) || list_any (λ s. (s.client == client) && (s.number == number)) ss) parts.0)

-- the next of a list that is gone over
pub due_next : (earliest : ℕ) (ss : List PendingSnapshot) (i : ℕ) (s : PendingSnapshot) → i < length ss → get_or ss i s ≡ s → are_due_from earliest (take i ss) ≡ true
    → are_due_from (min earliest s.deadline) (take (i + 1) ss) ≡ true
due_next earliest ss i s inside is h =
    subst (λ (xs : List PendingSnapshot). are_due_from (min earliest s.deadline) xs ≡ true)
    (ap (λ (x : PendingSnapshot). take i ss ++ x ∷ []) (sym is) ∙ sym (take_more ss i s inside)) (due_more earliest (take i ss) s h)

-- As calls say it.

pub due_pushed : (earliest lower : ℕ) (ss left : List PendingSnapshot) (s : PendingSnapshot) → lower ≡ min earliest s.deadline → left ≡ ss ++ s ∷ [] → are_due_from earliest ss ≡ true
    → are_due_from lower left ≡ true
due_pushed earliest lower ss left s is more h =
    ap (λ n. are_due_from n left) is ∙ ap (are_due_from (min earliest s.deadline)) more ∙ due_more earliest ss s h

pub due_left : (earliest lower other : ℕ) (ss left : List PendingSnapshot) → lower ≡ min earliest other → left ≡ ss → are_due_from earliest ss ≡ true → are_due_from lower left ≡ true
due_left earliest lower other ss left is same h = ap (λ n. are_due_from n left) is ∙ ap (are_due_from (min earliest other)) same ∙ due_lower earliest other ss h

pub from_pushed : (clients more : NumberSet) (client : ℕ) (ss left : List PendingSnapshot) (s : PendingSnapshot) → more ≡ map.insert clients client tt → client ≡ s.client → left ≡ ss ++ s ∷ []
    → are_from clients ss ≡ true → are_from more left ≡ true
from_pushed clients more client ss left s is own longer h =
    ap (λ (c : NumberSet). are_from c left) (is ∙ ap (λ n. map.insert clients n tt) own) ∙ ap (are_from (map.insert clients s.client tt)) longer ∙ from_more clients ss s h

pub from_left : (clients more : NumberSet) (client : ℕ) (ss left : List PendingSnapshot) → more ≡ map.insert clients client tt → left ≡ ss → are_from clients ss ≡ true → are_from more left ≡ true
from_left clients more client ss left is same h = ap (λ (c : NumberSet). are_from c left) is ∙ ap (are_from (map.insert clients client tt)) same ∙ from_wider clients client ss h

pub due_kept : (earliest : ℕ) (keep : PendingSnapshot → Bool) (ss left : List PendingSnapshot) → left ≡ filter keep ss → are_due_from earliest ss ≡ true → are_due_from earliest left ≡ true
due_kept earliest keep ss left is h = ap (are_due_from earliest) is ∙ due_some earliest keep ss h

pub from_kept : (clients : NumberSet) (keep : PendingSnapshot → Bool) (ss left : List PendingSnapshot) → left ≡ filter keep ss → are_from clients ss ≡ true → are_from clients left ≡ true
from_kept clients keep ss left is h = ap (are_from clients) is ∙ from_some clients keep ss h

pub from_without : (clients less : NumberSet) (gone : ℕ) (keep : PendingSnapshot → Bool) (ss left : List PendingSnapshot) (b : Bool) → less ≡ map.remove clients gone → left ≡ filter keep ss
    → b ≡ list_any (λ s. s.client == gone) left → b ≡ false → are_from clients ss ≡ true → are_from less left ≡ true
from_without clients less gone keep ss left b is kept_is found none h =
    ap (λ (c : NumberSet). are_from c left) is ∙ from_others clients gone left (sym found ∙ none) (from_kept clients keep ss left kept_is h)
