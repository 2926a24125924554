-- Which messages were sent.
use Rattle.std.proofs.Common.{◌≡◌, ◌⊎◌, ℕ, zero, suc, ◌≤◌, true, List, [], ◌∷◌, ◌++◌, Some, refl, ap, ◌∙◌, inl, inr, arith}
use Rattle.std.specs.Prelude.{◌==◌}
use Rattle.std.proofs.lemmas.Bool.{and_from}
use Rattle.gfs_types.specs.declared.ids.OrderNo.{OrderNo}
use Rattle.messages.specs.declared.message.Message.{Message}
use Rattle.protocol.specs.Tables.{element_at}
use Rattle.protocol.specs.Choice.{in_order}
use Rattle.protocol.specs.World.{stamped}
use Rattle.protocol.specs.Sending.{order_number}
use Rattle.laws_base.specs.Laws.{is_number, orders_under}
use Rattle.laws_base.proofs.Steps.{none_some, same_some, tally, count-cons}
use Rattle.laws_base.proofs.Entries.{AllOf, same_number}
use Rattle.laws_base.proofs.MembersRecorded.{kept_place, place_cases, all_at, all_in_order}

abbrev pub IsSent : List Message → Message → Type 0
IsSent ms m = (place : ℕ) × (element_at ms place ≡ Some m)

-- the same but for its number
abbrev pub IsSameMessage : Message → Message → Type 0
IsSameMessage m x = (m.sender ≡ x.sender) × (m.receiver ≡ x.receiver) × (m.body ≡ x.body)

pub sent_before : (xs ys : List Message) (m : Message) → IsSent xs m → IsSent (xs ++ ys) m
sent_before xs ys m h = (h.0, kept_place xs ys h.0 m h.1)

pub sent_after : (xs ys : List Message) (m : Message) → IsSent ys m → IsSent (xs ++ ys) m
sent_after [] ys m h = h
sent_after (x ∷ xs) ys m h = let rest = sent_after xs ys m h in (suc rest.0, rest.1)

pub sent_cases : (xs ys : List Message) (m : Message) → IsSent (xs ++ ys) m → IsSent xs m ⊎ IsSent ys m
sent_cases xs ys m h =
    elim (place_cases xs ys h.0 m h.1) [
      | inl before ↦ inl (h.0, before)
      | inr later ↦ inr (later.0, later.2)
    ]

pub none_sent : {A : Type 0} (m : Message) → IsSent [] m → A
none_sent m h = none_some m h.1

one_sent : (x m : Message) (place : ℕ) → element_at (x ∷ []) place ≡ Some m → x ≡ m
one_sent x m zero is = same_some x m is
one_sent x m (suc place) is = none_some m is

-- a message that was sent before, or the last one
pub sent_last : (xs : List Message) (x m : Message) → IsSent (xs ++ x ∷ []) m → IsSent xs m ⊎ (x ≡ m)
sent_last xs x m h =
    elim (sent_cases xs (x ∷ []) m h) [
      | inl before ↦ inl before
      | inr last ↦ inr (one_sent x m last.0 last.1)
    ]

pub numbered_sent : (k : ℕ) (ms : List Message) (place : ℕ) (m : Message) → element_at (stamped k ms) place ≡ Some m → (x : Message) × IsSent ms x × IsSameMessage x m
numbered_sent k [] place m is = none_some m is
numbered_sent k (x ∷ ms) zero m is =
    let same = same_some (record x { number = k }) m is in
    (x, (zero, refl), (ap (λ (y : Message). y.sender) same, ap (λ (y : Message). y.receiver) same, ap (λ (y : Message). y.body) same))
numbered_sent k (x ∷ ms) (suc place) m is = let rest = numbered_sent (suc k) ms place m is in (rest.0, (suc (rest.1).0, (rest.1).1), rest.2)

all_sent : (P : Message → Type 0) (ms : List Message) → ((m : Message) → IsSent ms m → P m) → AllOf P ms
all_sent P [] f = tt
all_sent P (m ∷ ms) f = (f m (zero, refl), all_sent P ms (λ x h. f x (suc h.0, h.1)))

pub ordered_sent : (order : List ℕ) (ms : List Message) (m : Message) → IsSent (in_order order ms) m → IsSent ms m
ordered_sent order ms m h = all_at (IsSent ms) (in_order order ms) h.0 m (all_in_order (IsSent ms) order ms (all_sent (IsSent ms) ms (λ x is. is))) h.1

-- what a step sends, in the chosen order and with its numbers
pub step_sent : (sent : List Message) (k : ℕ) (order : List ℕ) (ms : List Message) (m : Message) → IsSent (sent ++ stamped k (in_order order ms)) m → (x : Message) × IsSent (sent ++ ms) x × IsSameMessage x m
step_sent sent k order ms m h =
    elim (sent_cases sent (stamped k (in_order order ms)) m h) [
      | inl before ↦ (m, sent_before sent ms m before, (refl, refl, refl))
      | inr new ↦ let was = numbered_sent k (in_order order ms) new.0 m new.1 in (was.0, sent_after sent ms was.0 (ordered_sent order ms was.0 was.1), was.2)
    ]

-- an order that was sent is counted
pub order_counted : (ms : List Message) (m : Message) (o : OrderNo) → IsSent ms m → order_number m.body ≡ Some o → 1 ≤ orders_under o.epoch o.count ms
order_counted ms m o h is = counted ms h.0 h.1
  where
    counts : is_number o.epoch o.count (order_number m.body) ≡ true
    counts = ap (is_number o.epoch o.count) is ∙ and_from (o.epoch == o.epoch) (o.count == o.count) (same_number o.epoch) (same_number o.count)

    counted : (xs : List Message) (place : ℕ) → element_at xs place ≡ Some m → 1 ≤ orders_under o.epoch o.count xs
    counted [] place at = none_some m at
    counted (x ∷ xs) zero at =
        let whole = count-cons (λ (y : Message). is_number o.epoch o.count (order_number y.body)) x xs in
        let one = ap tally (ap (λ (y : Message). is_number o.epoch o.count (order_number y.body)) (same_some x m at) ∙ counts) in
        omega (arith, whole, one)
    counted (x ∷ xs) (suc place) at =
        let whole = count-cons (λ (y : Message). is_number o.epoch o.count (order_number y.body)) x xs in
        let more = counted xs place at in
        omega (arith, whole, more)
