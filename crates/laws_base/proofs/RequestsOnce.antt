-- A client's requests carry numbers that it used, each once; and its numbers rise.
use Rattle.std.proofs.Common.{◌≡◌, ◌⊎◌, ℕ, zero, suc, ◌+◌, ◌≤◌, ◌<◌, Bool, true, false, List, [], ◌∷◌, ◌++◌, length, map, Option, Some, None, refl, sym, ap, subst, ◌∙◌, inl, inr, arith}
use Rattle.std.specs.Prelude.{◌==◌, ◌&&◌, is_none, IsTrue}
use Rattle.std.specs.Option.{option_to_list}
use Rattle.std.proofs.lemmas.Bool.{eqb-true, true≢false}
use Rattle.gfs_types.specs.declared.config.Config.{Config}
use Rattle.gfs_types.specs.declared.ids.Node.{Node}
use Rattle.messages.specs.declared.message.Body.{Body}
use Rattle.messages.specs.declared.message.Body.TheVariants as body
use Rattle.messages.specs.declared.message.Message.{Message}
use Rattle.client_state.specs.declared.call.CurrentCall.{CurrentCall}
use Rattle.protocol.specs.Tables.{element_at, with_at, first_numbers}
use Rattle.protocol.specs.Sending.{the_client}
use Rattle.protocol.specs.Client.{ClientState, ClientDoing, new_client, stopped_client}
use Rattle.protocol.specs.ClientStep.{client_at, has_room_to_count}
use Rattle.protocol.specs.MasterStep.{master_step, master_restart}
use Rattle.protocol.specs.ServerStep.{server_step, server_restart}
use Rattle.protocol.specs.World.{WorldState, stamped, new_world, IsReached}
use Rattle.laws_base.proofs.Steps.{none_some, same_some, tally, count-cons, count-append, same_or_not}
use Rattle.laws_base.proofs.Entries.{AllOf, same_number}
use Rattle.laws_base.proofs.RisingOrders.{set_cases}
use Rattle.laws_base.proofs.MembersRecorded.{place_cases, all_at}
use Rattle.laws_base.proofs.MessagesSent.{IsSent, IsSameMessage, numbered_sent}
use Rattle.laws_base.specs.Attempts.{is_from_client, is_request, is_mutate, requests_under, mutates_under, waited_data, IsRequestOf, RequestsAreNumberedOnce, RequestsCarryUsedNumbers}
use Rattle.laws_base.proofs.Events.{HoldsAfter, world_reached}
use Rattle.laws_base.proofs.ClientNumbers.{IsSaid, IsStepOf, of_step, of_call}
use Rattle.laws_base.proofs.Senders.{AreNotClients, ByBody, count_of, count-stamped, count-with-others, one_client, server_sends, server_restart_sends, master_sends, master_restart_sends}

-- what a step sends under a new number, and for which data it asks a primary

said_request : (s t : ClientState) (b : Body) (n : ℕ) → IsSaid s t b → is_request n b ≡ true → (n ≡ suc s.number) × (t.number ≡ suc s.number)
said_request s t (body.Ask number file wanted deadline lost) n said is = (sym (eqb-true number n is) ∙ said.0, said.1)
said_request s t (body.Read number handle version offset count) n said is = (sym (eqb-true number n is) ∙ said.0, said.1)
said_request s t (body.Len number handle version) n said is = (sym (eqb-true number n is) ∙ said.0, said.1)
said_request s t (body.Push id bytes rest) n said is = (sym (eqb-true id.seq n is) ∙ said.1, said.2)
said_request s t other n said is = absurd (let both : false ≡ true = is in cc)

said_mutate : (s t : ClientState) (b : Body) (n : ℕ) → IsSaid s t b → is_mutate n b ≡ true → (waited_data s.current ≡ Some n) × (waited_data t.current ≡ None)
said_mutate s t (body.Mutate id handle version target deadline) n said is = (said.2 ∙ ap (λ (k : ℕ). Some k) (eqb-true id.seq n is), said.3)
said_mutate s t other n said is = absurd (let both : false ≡ true = is in cc)

said_used : (s t : ClientState) (b : Body) → t.id ≡ s.id → s.number ≤ t.number → ((n : ℕ) → waited_data s.current ≡ Some n → n ≤ s.number) → IsSaid s t b → IsRequestOf t b
said_used s t (body.Ask number file wanted deadline lost) id more waited said = (let one = said.0 in let two = said.1 in omega (arith, one, two))
said_used s t (body.Read number handle version offset count) id more waited said = (let one = said.0 in let two = said.1 in omega (arith, one, two))
said_used s t (body.Len number handle version) id more waited said = (let one = said.0 in let two = said.1 in omega (arith, one, two))
said_used s t (body.Push id bytes rest) same more waited said = (said.0 ∙ sym same, let one = said.1 in let two = said.2 in omega (arith, one, two))
said_used s t (body.Mutate id handle version target deadline) same more waited said = (said.0 ∙ sym same, let few = waited id.seq said.2 in omega (arith, few, more))
said_used s t (body.Name number deadline asked) id more waited said = said.0
said_used s t (body.Look number asked) id more waited said = said.0
said_used s t other id more waited said = absurd said

still_used : (s t : ClientState) (b : Body) → t.id ≡ s.id → s.number ≤ t.number → s.call_count ≤ t.call_count → IsRequestOf s b → IsRequestOf t b
still_used s t (body.Ask number file wanted deadline lost) id more calls h = omega (arith, more, h)
still_used s t (body.Read number handle version offset count) id more calls h = omega (arith, more, h)
still_used s t (body.Len number handle version) id more calls h = omega (arith, more, h)
still_used s t (body.Push id bytes rest) same more calls h = (h.0 ∙ sym same, let few = h.1 in omega (arith, more, few))
still_used s t (body.Mutate id handle version target deadline) same more calls h = (h.0 ∙ sym same, let few = h.1 in omega (arith, more, few))
still_used s t (body.Name number deadline asked) id more calls h = omega (arith, calls, h)
still_used s t (body.Look number asked) id more calls h = omega (arith, calls, h)
still_used s t other id more calls h = absurd h

-- what a client in a world is to the messages that were sent
pub record IsNumbered (sent : List Message) (index : ℕ) (s : ClientState) : Type 0 where
  pub id : s.id ≡ suc index
  pub unused : IsTrue s.up → (n : ℕ) → s.number < n → (requests_under (suc index) n sent ≡ 0) × (mutates_under (suc index) n sent ≡ 0)
  pub waited : (n : ℕ) → waited_data s.current ≡ Some n → (mutates_under (suc index) n sent ≡ 0) × (n ≤ s.number)
  pub named : (c : CurrentCall) → s.current ≡ Some c → c.number ≤ s.call_count
  pub used : IsTrue s.up → (place : ℕ) (m : Message) → element_at sent place ≡ Some m → m.sender ≡ the_client (suc index) → IsRequestOf s m.body

abbrev AreOnce : List Message → Type 0
AreOnce sent = (client n : ℕ) → (requests_under client n sent ≤ 1) × (mutates_under client n sent ≤ 1)

pub record AreNumbered (sent : List Message) (clients : List ClientState) : Type 0 where
  pub once : AreOnce sent
  pub each : (index : ℕ) (s : ClientState) → element_at clients index ≡ Some s → IsNumbered sent index s

-- messages of others

pub from_itself : (n : ℕ) (sender : Node) → sender ≡ the_client n → is_from_client n sender ≡ true
from_itself n sender is = ap (is_from_client n) is ∙ same_number n

-- what stands among the messages after a step: one that was sent before, or one of the step
pub later_cases : (sent : List Message) (k : ℕ) (ms : List Message) (place : ℕ) (m : Message) → element_at (sent ++ stamped k ms) place ≡ Some m → (element_at sent place ≡ Some m) ⊎ ((x : Message) × IsSent ms x × IsSameMessage x m)
later_cases sent k ms place m is =
    elim (place_cases sent (stamped k ms) place m is) [
      | inl before ↦ inl before
      | inr new ↦ inr (numbered_sent k ms new.0 m new.2)
    ]

others_used : (sent : List Message) (k : ℕ) (ms : List Message) (n : ℕ) (A : Message → Type 0) → AllOf (λ m. is_from_client n m.sender ≡ false) ms
    → ((place : ℕ) (m : Message) → element_at sent place ≡ Some m → m.sender ≡ the_client n → A m)
    → (place : ℕ) (m : Message) → element_at (sent ++ stamped k ms) place ≡ Some m → m.sender ≡ the_client n → A m
others_used sent k ms n A all h place m is mine =
    elim (later_cases sent k ms place m is) [
      | inl before ↦ h place m before mine
      | inr new ↦ absurd (true≢false (sym (from_itself n new.0.sender ((new.2).0 ∙ mine)) ∙ all_at (λ (x : Message). is_from_client n x.sender ≡ false) ms (new.1).0 new.0 all (new.1).1))
    ]

with_others : (sent : List Message) (k : ℕ) (ms : List Message) (index : ℕ) (s : ClientState) → AllOf (λ m. is_from_client (suc index) m.sender ≡ false) ms → IsNumbered sent index s → IsNumbered (sent ++ stamped k ms) index s
with_others sent k ms index s all h =
    record {
      id = h.id;
      unused = λ up n more. (
        count-with-others (suc index) (is_request n) sent k ms all ∙ (h.unused up n more).0,
        count-with-others (suc index) (is_mutate n) sent k ms all ∙ (h.unused up n more).1,
      );
      waited = λ n is. (count-with-others (suc index) (is_mutate n) sent k ms all ∙ (h.waited n is).0, (h.waited n is).1);
      named = h.named;
      used = λ up. others_used sent k ms (suc index) (λ m. IsRequestOf s m.body) all (h.used up);
    }

once_with_others : (sent : List Message) (k : ℕ) (ms : List Message) (client n : ℕ) → AllOf (λ m. is_from_client client m.sender ≡ false) ms → (requests_under client n sent ≤ 1) × (mutates_under client n sent ≤ 1)
    → (requests_under client n (sent ++ stamped k ms) ≤ 1) × (mutates_under client n (sent ++ stamped k ms) ≤ 1)
once_with_others sent k ms client n all h =
    let one = count-with-others client (is_request n) sent k ms all in
    let two = count-with-others client (is_mutate n) sent k ms all in
    let a = h.0 in
    let b = h.1 in
    (omega (arith, one, a), omega (arith, two, b))

nodes_send : (sent : List Message) (k : ℕ) (ms : List Message) (clients : List ClientState) → AreNotClients ms → AreNumbered sent clients → AreNumbered (sent ++ stamped k ms) clients
nodes_send sent k ms clients none h =
    record {
      once = λ client n. once_with_others sent k ms client n (one_client client ms none) (h.once client n);
      each = λ index s is. with_others sent k ms index s (one_client (suc index) ms none) (h.each index s is);
    }

-- messages of the client

abbrev pub AreFrom : ℕ → List Message → Type 0
AreFrom n ms = AllOf (λ m. m.sender ≡ the_client n) ms

pub not_other : (n other : ℕ) → (n ≡ other → ⊥) → (ms : List Message) → AreFrom n ms → AllOf (λ m. is_from_client other m.sender ≡ false) ms
not_other n other apart [] all = tt
not_other n other apart (m ∷ ms) all = (ap (is_from_client other) all.0 ∙ differ (n == other) refl, not_other n other apart ms all.1)
  where
    differ : (b : Bool) → (n == other) ≡ b → (n == other) ≡ false
    differ false e = e
    differ true e = absurd (apart (eqb-true n other e))

passes : (a b : Bool) → a ≡ true → tally (a && b) ≡ tally b
passes true b is = refl
passes false b is = absurd (let both : false ≡ true = is in cc)

count-own : (n : ℕ) (f : ByBody) (sent : List Message) (k : ℕ) (m : Message) → m.sender ≡ the_client n → count_of n f (sent ++ stamped k (m ∷ [])) ≡ count_of n f sent + tally (f m.body)
count-own n f sent k m is =
    let whole = count-append (λ (x : Message). is_from_client n x.sender && f x.body) sent (stamped k (m ∷ [])) in
    let new = count-stamped n f k (m ∷ []) in
    let one = count-cons (λ (x : Message). is_from_client n x.sender && f x.body) m [] in
    let mine = passes (is_from_client n m.sender) (f m.body) (from_itself n m.sender is) in
    omega (arith, whole, new, one, mine)

tally_false : (b : Bool) → (b ≡ true → ⊥) → tally b ≡ 0
tally_false false h = refl
tally_false true h = absurd (h refl)

tally_few : (b : Bool) → tally b ≤ 1
tally_few false = omega arith
tally_few true = omega arith

-- where it counts, nothing was counted before
once_more : (b : Bool) (before after : ℕ) → after ≡ before + tally b → before ≤ 1 → (b ≡ true → before ≡ 0) → after ≤ 1
once_more false before after is few none = omega (arith, is, few)
once_more true before after is few none = let zero = none refl in omega (arith, is, zero)

-- One message of a client that goes on from s to t.
module _ (sent : List Message) (k index : ℕ) (s : ClientState) (d : ClientDoing) (h : IsNumbered sent index s) (up : IsTrue s.up) (step : IsStepOf s d) where
  own_once : (m : Message) → d.sent ≡ Some m → (n : ℕ) → (requests_under (suc index) n sent ≤ 1) × (mutates_under (suc index) n sent ≤ 1)
      → (requests_under (suc index) n (sent ++ stamped k (m ∷ [])) ≤ 1) × (mutates_under (suc index) n (sent ++ stamped k (m ∷ [])) ≤ 1)
  own_once m is n few =
      let said = step.says m is in
      let mine = said.0 ∙ ap (λ (x : ℕ). the_client x) h.id in (
        once_more (is_request n m.body) (requests_under (suc index) n sent) _ (count-own (suc index) (is_request n) sent k m mine) few.0
            (λ does. (h.unused up n (let new = (said_request s d.client m.body n said.1 does).0 in omega (arith, new))).0),
        once_more (is_mutate n m.body) (mutates_under (suc index) n sent) _ (count-own (suc index) (is_mutate n) sent k m mine) few.1
            (λ does. (h.waited n (said_mutate s d.client m.body n said.1 does).0).0),
      )

  own_unused : (m : Message) → d.sent ≡ Some m → (n : ℕ) → d.client.number < n → (requests_under (suc index) n (sent ++ stamped k (m ∷ [])) ≡ 0) × (mutates_under (suc index) n (sent ++ stamped k (m ∷ [])) ≡ 0)
  own_unused m is n more =
      let said = step.says m is in
      let mine = said.0 ∙ ap (λ (x : ℕ). the_client x) h.id in
      let rise = step.numbers in
      let before = h.unused up n (omega (arith, more, rise)) in
      let one = count-own (suc index) (is_request n) sent k m mine in
      let two = count-own (suc index) (is_mutate n) sent k m mine in
      let a = tally_false (is_request n m.body) (λ does. let new = said_request s d.client m.body n said.1 does in let x = new.0 in let y = new.1 in omega (arith, more, x, y)) in
      let b = tally_false (is_mutate n m.body) (λ does. let few = (h.waited n (said_mutate s d.client m.body n said.1 does).0).1 in omega (arith, more, rise, few)) in
      let r = before.0 in
      let t = before.1 in
      (omega (arith, one, a, r), omega (arith, two, b, t))

  own_waited : (m : Message) → d.sent ≡ Some m → (n : ℕ) → waited_data d.client.current ≡ Some n → (mutates_under (suc index) n (sent ++ stamped k (m ∷ [])) ≡ 0) × (n ≤ d.client.number)
  own_waited m is n wait =
      let said = step.says m is in
      let mine = said.0 ∙ ap (λ (x : ℕ). the_client x) h.id in
      let two = count-own (suc index) (is_mutate n) sent k m mine in
      let b = tally_false (is_mutate n m.body) (λ does. none_some n (sym (said_mutate s d.client m.body n said.1 does).1 ∙ wait)) in
      elim (step.waits n wait) [
        | inl new ↦ let x = new.0 in let y = new.1 in let before = (h.unused up n (omega (arith, x))).1 in (omega (arith, two, b, before), omega (arith, x, y))
        | inr old ↦ none_some m (sym old.1 ∙ is)
      ]

  own_used : (m : Message) → d.sent ≡ Some m → (place : ℕ) (x : Message) → element_at (sent ++ stamped k (m ∷ [])) place ≡ Some x → x.sender ≡ the_client (suc index) → IsRequestOf d.client x.body
  own_used m is place x there mine =
      elim (later_cases sent k (m ∷ []) place x there) [
        | inl before ↦ still_used s d.client x.body step.id step.numbers step.calls (h.used up place x before mine)
        | inr new ↦ subst (λ (b : Body). IsRequestOf d.client b) (ap (λ (y : Message). y.body) (only m new.0 (new.1).0 (new.1).1) ∙ (new.2).2)
            (said_used s d.client m.body step.id step.numbers (λ n wait. (h.waited n wait).1) (step.says m is).1)
      ]
    where
      only : (y z : Message) (p : ℕ) → element_at (y ∷ []) p ≡ Some z → y ≡ z
      only y z zero e = same_some y z e
      only y z (suc p) e = none_some z e

  own_numbered : (o : Option Message) → d.sent ≡ o → IsNumbered (sent ++ stamped k (option_to_list o)) index d.client
  own_numbered None is =
      let same = count-with-others (suc index) in
      record {
        id = step.id ∙ h.id;
        unused = λ go n more. let before = h.unused up n (let rise = step.numbers in omega (arith, more, rise)) in
            (same (is_request n) sent k [] tt ∙ before.0, same (is_mutate n) sent k [] tt ∙ before.1);
        waited = λ n wait. elim (step.waits n wait) [
          | inl new ↦ let x = new.0 in let y = new.1 in (same (is_mutate n) sent k [] tt ∙ (h.unused up n (omega (arith, x))).1, omega (arith, x, y))
          | inr old ↦ let before = h.waited n old.0 in (same (is_mutate n) sent k [] tt ∙ before.0, let few = before.1 in let rise = step.numbers in omega (arith, few, rise))
        ];
        named = step.named;
        used = λ go place x there mine. others_used sent k [] (suc index) (λ m. IsRequestOf d.client m.body) tt
            (λ p m e own. still_used s d.client m.body step.id step.numbers step.calls (h.used up p m e own)) place x there mine;
      }
  own_numbered (Some m) is =
      record {
        id = step.id ∙ h.id;
        unused = λ go n more. own_unused m is n more;
        waited = λ n wait. own_waited m is n wait;
        named = step.named;
        used = λ go place x there mine. own_used m is place x there mine;
      }

  pub own_sender : (o : Option Message) → d.sent ≡ o → AreFrom (suc index) (option_to_list o)
  own_sender None is = tt
  own_sender (Some m) is = ((step.says m is).0 ∙ ap (λ (x : ℕ). the_client x) h.id, tt)

  own_all_once : (o : Option Message) → d.sent ≡ o → AreOnce sent → AreOnce (sent ++ stamped k (option_to_list o))
  own_all_once None is few client n = once_with_others sent k [] client n tt (few client n)
  own_all_once (Some m) is few client n =
      elim (same_or_not (suc index) client) [
        | inl same ↦ subst (λ (c : ℕ). (requests_under c n (sent ++ stamped k (m ∷ [])) ≤ 1) × (mutates_under c n (sent ++ stamped k (m ∷ [])) ≤ 1)) same (own_once m is n (few (suc index) n))
        | inr apart ↦ once_with_others sent k (m ∷ []) client n (not_other (suc index) client apart (m ∷ []) (own_sender (Some m) is)) (few client n)
      ]

-- what stands at a place where an element was put
pub put_at : (t : ClientState) (xs : List ClientState) (i : ℕ) (s : ClientState) → element_at (with_at xs i t) i ≡ Some s → s ≡ t
put_at t [] i s e = none_some s e
put_at t (x ∷ xs) zero s e = sym (same_some t s e)
put_at t (x ∷ xs) (suc i) s e = put_at t xs i s e

-- clients that are another's, after one has sent these
after_one : (sent : List Message) (k index : ℕ) (ms : List Message) (clients : List ClientState) (t : ClientState) → AreFrom (suc index) ms → AreOnce (sent ++ stamped k ms) → IsNumbered (sent ++ stamped k ms) index t
    → AreNumbered sent clients → AreNumbered (sent ++ stamped k ms) (with_at clients index t)
after_one sent k index ms clients t from once own h =
    record {
      once = once;
      each = λ other s is. elim (same_or_not index other) [
        | inl same ↦ here other s same is
        | inr apart ↦ elim (set_cases clients index t other s is) [
          | inl both ↦ absurd (apart (sym both.0))
          | inr there ↦ with_others sent k ms other s (not_other (suc index) (suc other) (λ e. apart (less e)) ms from) (h.each other s there)
        ]
      ];
    }
  where
    less : {a b : ℕ} → suc a ≡ suc b → a ≡ b
    less e = omega (arith, e)

    here : (other : ℕ) (s : ClientState) → index ≡ other → element_at (with_at clients index t) other ≡ Some s → IsNumbered (sent ++ stamped k ms) other s
    here other s same is = subst (λ (n : ℕ). IsNumbered (sent ++ stamped k ms) n s) same (by_place s (subst (λ (n : ℕ). element_at (with_at clients index t) n ≡ Some s) (sym same) is))
      where
        by_place : (s : ClientState) → element_at (with_at clients index t) index ≡ Some s → IsNumbered (sent ++ stamped k ms) index s
        by_place s e = subst (λ (u : ClientState). IsNumbered (sent ++ stamped k ms) index u) (sym (put_at t clients index s e)) own

-- a client at a later moment is the same to all that was sent
pub at_numbered : (sent : List Message) (index : ℕ) (s : ClientState) (moment : ℕ) → IsNumbered sent index s → IsNumbered sent index (client_at s moment)
at_numbered sent index s moment h = record { id = h.id; unused = h.unused; waited = h.waited; named = h.named; used = λ up place m is mine. same m.body (h.used up place m is mine) }
  where
    same : (b : Body) → IsRequestOf s b → IsRequestOf (client_at s moment) b
    same b g = still_used s (client_at s moment) b refl (omega arith) (omega arith) g

-- one that is put down
down_numbered : (sent : List Message) (k index : ℕ) (s : ClientState) → IsNumbered sent index s → IsNumbered (sent ++ stamped k []) index (stopped_client s)
down_numbered sent k index s h =
    record {
      id = h.id;
      unused = λ up. absurd (let both : false ≡ true = up in cc);
      waited = λ n is. none_some n is;
      named = λ c is. none_some c is;
      used = λ up. absurd (let both : false ≡ true = up in cc);
    }

module _ (sent : List Message) (k index : ℕ) (clients : List ClientState) (s : ClientState) (up : IsTrue s.up) (at : element_at clients index ≡ Some s) (h : AreNumbered sent clients) where
  abbrev Left : ClientState → List Message → Type 0
  Left t ms = AreNumbered (sent ++ stamped k ms) (with_at clients index t)

  left_silent : (t : ClientState) → IsNumbered (sent ++ stamped k []) index t → Left t []
  left_silent t own = after_one sent k index [] clients t tt (λ client n. once_with_others sent k [] client n tt (h.once client n)) own h

  left_stopped : Left (stopped_client s) []
  left_stopped = left_silent (stopped_client s) (down_numbered sent k index s (h.each index s at))

  left_same : Left s []
  left_same = left_silent s (with_others sent k [] index s tt (h.each index s at))

  left_goes : (moment : ℕ) (d : ClientDoing) → IsStepOf (client_at s moment) d → Left d.client (option_to_list d.sent)
  left_goes moment d step =
      let own : IsNumbered sent index (client_at s moment) = at_numbered sent index s moment (h.each index s at) in
      after_one sent k index (option_to_list d.sent) clients d.client (own_sender sent k index (client_at s moment) d own up step d.sent refl)
      (own_all_once sent k index (client_at s moment) d own up step d.sent refl h.once) (own_numbered sent k index (client_at s moment) d own up step d.sent refl) h

pub first_and : (a b : Bool) → a && b ≡ true → a ≡ true
first_and true b h = refl
first_and false b h = absurd (let both : false ≡ true = h in cc)

pub each_event : (w : WorldState) → AreNumbered w.sent w.clients → HoldsAfter w (λ e x. AreNumbered x.world.sent x.world.clients)
each_event w h =
    record {
      nothing = λ e. h;
      masters = λ e moment i choice is up. nodes_send w.sent (suc (length w.sent)) (master_step w.master moment i choice).out.sent w.clients (master_sends w.master moment i choice) h;
      opens = λ e moment choice. nodes_send w.sent (suc (length w.sent)) (master_restart w.master moment choice).out.sent w.clients (master_restart_sends w.master moment choice) h;
      serves = λ e index moment s i choice at is up. nodes_send w.sent (suc (length w.sent)) (server_step s moment i choice).out.sent w.clients (server_sends s moment i choice) h;
      restarts = λ e index moment s choice at. nodes_send w.sent (suc (length w.sent)) (server_restart s moment choice).out.sent w.clients (server_restart_sends s moment choice) h;
      steps = λ e index moment s i choice at is up.
          of_step (Left w.sent (suc (length w.sent)) index w.clients s up at h) s moment i choice (h.each index s at).named
          (left_goes w.sent (suc (length w.sent)) index w.clients s up at h moment) (left_stopped w.sent (suc (length w.sent)) index w.clients s up at h) (left_same w.sent (suc (length w.sent)) index w.clients s up at h);
      calls = λ e index moment s c choice at may.
          let up : IsTrue s.up = first_and s.up (is_none s.current && has_room_to_count s) may in
          of_call (Left w.sent (suc (length w.sent)) index w.clients s up at h) s moment c choice (h.each index s at).named
          (left_goes w.sent (suc (length w.sent)) index w.clients s up at h moment) (left_stopped w.sent (suc (length w.sent)) index w.clients s up at h);
      rots = λ e index handle s r place byte ending is_kept at there up. h;
    }

-- clients of a new world stand by their numbers
numbered_client : (config : Config) (count index : ℕ) (s : ClientState) → element_at (map (new_client config) (first_numbers count)) index ≡ Some s → s ≡ new_client config (suc index)
numbered_client config count index s is = (by_count count is).0
  where
    appended : (xs : List ℕ) (x : ℕ) (i : ℕ) → element_at (map (new_client config) (xs ++ x ∷ [])) i ≡ Some s → (element_at (map (new_client config) xs) i ≡ Some s) ⊎ ((i ≡ length xs) × (s ≡ new_client config x))
    appended [] x zero e = inr (refl, sym (same_some (new_client config x) s e))
    appended [] x (suc i) e = none_some s e
    appended (y ∷ xs) x zero e = inl e
    appended (y ∷ xs) x (suc i) e = elim (appended xs x i e) [ inl before ↦ inl before | inr last ↦ inr (ap (λ (k : ℕ). suc k) last.0, last.1) ]

    counted : (c : ℕ) → length (first_numbers c) ≡ c
    counted zero = refl
    counted (suc c) = longer (first_numbers c) (suc c) ∙ ap (λ (k : ℕ). suc k) (counted c)
      where
        longer : (xs : List ℕ) (x : ℕ) → length (xs ++ x ∷ []) ≡ suc (length xs)
        longer [] x = refl
        longer (y ∷ xs) x = ap (λ (k : ℕ). suc k) (longer xs x)

    by_count : (c : ℕ) → element_at (map (new_client config) (first_numbers c)) index ≡ Some s → (s ≡ new_client config (suc index)) × (index < c)
    by_count zero e = none_some s e
    by_count (suc c) e =
        elim (appended (first_numbers c) (suc c) index e) [
          | inl before ↦ let rest = by_count c before in (rest.0, let below = rest.1 in omega (arith, below))
          | inr last ↦ let there = last.0 in let all = counted c in (last.1 ∙ ap (new_client config) (omega (arith, there, all)), omega (arith, there, all))
        ]

new_numbered : (config : Config) (servers clients : ℕ) → AreNumbered (new_world config servers clients).sent (new_world config servers clients).clients
new_numbered config servers clients =
    record {
      once = λ client n. (omega arith, omega arith);
      each = λ index s is. subst (λ (t : ClientState). IsNumbered [] index t) (sym (numbered_client config clients index s is))
          (record { id = refl; unused = λ up n more. (refl, refl); waited = λ n none. none_some n none; named = λ c none. none_some c none; used = λ up place m none. none_some m none });
    }

pub numbered_reached : (config : Config) (servers clients : ℕ) (w : WorldState) → IsReached config servers clients w → AreNumbered w.sent w.clients
numbered_reached = world_reached (λ w. AreNumbered w.sent w.clients) each_event new_numbered

pub requests_are_numbered_once : RequestsAreNumberedOnce
requests_are_numbered_once config servers clients w r client number = (numbered_reached config servers clients w r).once client number

pub requests_carry_used_numbers : RequestsCarryUsedNumbers
requests_carry_used_numbers config servers clients w r index s at up place m is mine = ((numbered_reached config servers clients w r).each index s at).used up place m is mine
