-- In each reached world a client's requests on names ask for its calls.
use Rattle.std.proofs.Common.{◌≡◌, ⊎_elim, ℕ, zero, suc, false, List, [], ◌∷◌, ◌++◌, length, map, Option, Some, None, refl, sym, ap, subst, ◌∙◌, inl, inr, arith}
use Rattle.std.specs.Prelude.{◌&&◌, is_none, IsTrue}
use Rattle.std.specs.Option.{option_to_list}
use Rattle.std.proofs.lemmas.Bool.{true≢false}
use Rattle.gfs_types.specs.declared.config.Config.{Config}
use Rattle.gfs_types.specs.declared.call.Call.{Call}
use Rattle.gfs_types.specs.declared.answer.Answer.TheVariants as answer
use Rattle.gfs_types.specs.declared.refusal.Refusal.TheVariants.{NoMemory}
use Rattle.messages.specs.declared.event.NodeInput.{NodeInput}
use Rattle.messages.specs.declared.message.Body.{Body}
use Rattle.messages.specs.declared.message.Body.TheVariants as body
use Rattle.messages.specs.declared.message.Message.{Message}
use Rattle.protocol.specs.Tables.{element_at, with_at, first_numbers}
use Rattle.protocol.specs.Choice.{Choice, Ending, Goes, Lost, Stops}
use Rattle.protocol.specs.Seen.{Taken, no_step}
use Rattle.protocol.specs.Sending.{the_client}
use Rattle.protocol.specs.Client.{ClientState, ClientDoing, new_client, stopped_client, client_begins, answers}
use Rattle.protocol.specs.ClientStep.{client_at, client_goes, client_call_goes, client_ends, client_step, client_call, has_room_to_count, may_step}
use Rattle.protocol.specs.MasterSnapshots.{first_is_true}
use Rattle.protocol.specs.MasterStep.{master_step, master_restart}
use Rattle.protocol.specs.ServerStep.{server_step, server_restart}
use Rattle.protocol.specs.World.{WorldState, new_world, stamped}
use Rattle.laws_base.proofs.Steps.{on_cond, none_some, same_some, same_or_not}
use Rattle.laws_base.proofs.Entries.{AllOf}
use Rattle.laws_base.proofs.RisingOrders.{set_cases}
use Rattle.laws_base.proofs.MembersRecorded.{all_at}
use Rattle.laws_base.proofs.MessagesSent.{IsSent, none_sent, sent_last}
use Rattle.laws_base.specs.Attempts.{is_from_client}
use Rattle.laws_base.proofs.Events.{HoldsAfter, world_reached}
use Rattle.laws_base.proofs.ClientNumbers.{IsStepOf, goes_numbered, call_numbered}
use Rattle.laws_base.proofs.Senders.{AreNotClients, one_client, server_sends, server_restart_sends, master_sends, master_restart_sends}
use Rattle.laws_base.proofs.RequestsOnce.{IsNumbered, AreNumbered, AreFrom, not_other, from_itself, later_cases, own_sender, first_and, at_numbered, each_event, numbered_reached}
use Rattle.laws_base.specs.NameCalls.{AsksForTheCall, NameRequestsAskForTheirCall}
use Rattle.laws_base.proofs.CallsGoOn.{AreStaged, IsOwn, IsNext, goes_next, call_next, refused_next, still_own, asked_own}

-- what a client is to the requests on names that it sent
record IsAsking (sent : List Message) (index : ℕ) (s : ClientState) : Type 0 where
  staged : AreStaged s
  own : (place : ℕ) (m : Message) → element_at sent place ≡ Some m → m.sender ≡ the_client (suc index) → IsOwn s m.body

abbrev AreAsking : List Message → List ClientState → Type 0
AreAsking sent clients = (index : ℕ) (s : ClientState) → element_at clients index ≡ Some s → IsTrue s.up → IsAsking sent index s

-- others send
with_others : (sent : List Message) (k : ℕ) (ms : List Message) (index : ℕ) (s : ClientState) → AllOf (λ m. is_from_client (suc index) m.sender ≡ false) ms → IsAsking sent index s → IsAsking (sent ++ stamped k ms) index s
with_others sent k ms index s all h =
    record {
      staged = h.staged;
      own = λ place m is mine. elim (later_cases sent k ms place m is) [
        | inl before ↦ h.own place m before mine
        | inr new ↦ absurd (true≢false (sym (from_itself (suc index) new.0.sender ((new.2).0 ∙ mine)) ∙ all_at (λ (x : Message). is_from_client (suc index) x.sender ≡ false) ms (new.1).0 new.0 all (new.1).1))
      ];
    }

nodes_send : (sent : List Message) (k : ℕ) (ms : List Message) (clients : List ClientState) → AreNotClients ms → AreAsking sent clients → AreAsking (sent ++ stamped k ms) clients
nodes_send sent k ms clients none h index s is up = with_others sent k ms index s (one_client (suc index) ms none) (h index s is up)

sent_one : (o : Option Message) (m : Message) → IsSent (option_to_list o) m → o ≡ Some m
sent_one None m h = none_sent m h
sent_one (Some x) m h = ⊎_elim (λ none. none_sent m none) (λ same. ap (λ (y : Message). Some y) same) (sent_last [] x m h)

-- the client itself goes on
own_goes : (sent : List Message) (k index : ℕ) (s : ClientState) (moment : ℕ) (d : ClientDoing) → IsNext (client_at s moment) d → IsAsking sent index s → IsAsking (sent ++ stamped k (option_to_list d.sent)) index d.client
own_goes sent k index s moment d next h =
    record {
      staged = next.staged;
      own = λ place m is mine. elim (later_cases sent k (option_to_list d.sent) place m is) [
        | inl before ↦ still_own (client_at s moment) d m.body next (h.own place m before mine)
        | inr new ↦ subst (λ (b : Body). IsOwn d.client b) ((new.2).2) (asked_own d.client new.0.body (next.says new.0 (sent_one d.sent new.0 new.1)))
      ];
    }

put_at : (t : ClientState) (xs : List ClientState) (i : ℕ) (s : ClientState) → element_at (with_at xs i t) i ≡ Some s → t ≡ s
put_at t [] i s e = none_some s e
put_at t (x ∷ xs) zero s e = same_some t s e
put_at t (x ∷ xs) (suc i) s e = put_at t xs i s e

-- one client has come to this state and sent these
after_one : (sent : List Message) (k index : ℕ) (ms : List Message) (clients : List ClientState) (t : ClientState) → AreFrom (suc index) ms → (IsTrue t.up → IsAsking (sent ++ stamped k ms) index t) → AreAsking sent clients
    → AreAsking (sent ++ stamped k ms) (with_at clients index t)
after_one sent k index ms clients t from own h other s is up = elim (same_or_not index other) [
  | inl same ↦
      let at : element_at (with_at clients index t) index ≡ Some s = subst (λ (n : ℕ). element_at (with_at clients index t) n ≡ Some s) (sym same) is in
      let here : t ≡ s = put_at t clients index s at in
      subst (λ (n : ℕ). IsAsking (sent ++ stamped k ms) n s) same (subst (λ (u : ClientState). IsAsking (sent ++ stamped k ms) index u) here (own (subst (λ (u : ClientState). IsTrue u.up) (sym here) up)))
  | inr apart ↦ elim (set_cases clients index t other s is) [
    | inl both ↦ absurd (apart (sym both.0))
    | inr there ↦ with_others sent k ms other s (not_other (suc index) (suc other) (λ e. apart (omega (arith, e))) ms from) (h other s there up)
  ]
]

module _ (sent : List Message) (k index : ℕ) (clients : List ClientState) (s : ClientState) (up : IsTrue s.up) (at : element_at clients index ≡ Some s) (numbered : IsNumbered sent index s) (h : AreAsking sent clients) where
  abbrev Left : ClientState → List Message → Type 0
  Left t ms = AreAsking (sent ++ stamped k ms) (with_at clients index t)

  mine : IsAsking sent index s
  mine = h index s at up

  left_stopped : Left (stopped_client s) []
  left_stopped = after_one sent k index [] clients (stopped_client s) tt (λ up. absurd (true≢false (sym up))) h

  left_same : Left s []
  left_same = after_one sent k index [] clients s tt (λ _. with_others sent k [] index s tt mine) h

  left_goes : (moment : ℕ) (d : ClientDoing) → IsStepOf (client_at s moment) d → IsNext (client_at s moment) d → Left d.client (option_to_list d.sent)
  left_goes moment d step next =
      after_one sent k index (option_to_list d.sent) clients d.client (own_sender sent k index (client_at s moment) d (at_numbered sent index s moment numbered) up step d.sent refl)
      (λ _. own_goes sent k index s moment d next mine) h

  left_ends : (moment : ℕ) (d : ClientDoing) → IsStepOf (client_at s moment) d → IsNext (client_at s moment) d → (e : Ending) → Left (client_ends s d e).state (client_ends s d e).out.sent
  left_ends moment d step next Goes = left_goes moment d step next
  left_ends moment d step next Lost = left_stopped
  left_ends moment d step next (Stops made) = left_stopped

  left_steps : (moment : ℕ) (i : NodeInput) (choice : Choice) → Left (client_step s moment i choice).state (client_step s moment i choice).out.sent
  left_steps moment i choice =
      on_cond (λ (t : Taken ClientState). Left t.state t.out.sent) (may_step s) (client_ends s (client_goes s moment i) choice.ending) (no_step s)
      (λ _. left_ends moment (client_goes s moment i) (goes_numbered s moment i numbered.named) (goes_next s moment i mine.staged) choice.ending) (λ _. left_same)

  left_calls : (moment : ℕ) (c : Call) (choice : Choice) → Left (client_call s moment c choice).state (client_call s moment c choice).out.sent
  left_calls moment c choice =
      let refused : ClientDoing = answers (client_begins (client_at s moment)) (answer.Refused NoMemory) in
      on_cond (λ (t : Taken ClientState). Left t.state t.out.sent) (first_is_true choice.refused) (client_ends s refused choice.ending) (client_ends s (client_call_goes s moment c) choice.ending)
      (λ _. left_ends moment refused (silent_step moment) (refused_next s moment refused refl refl refl refl refl) choice.ending)
      (λ _. left_ends moment (client_call_goes s moment c) (call_numbered s moment c numbered.named) (call_next s moment c mine.staged) choice.ending)
    where
      silent_step : (moment : ℕ) → IsStepOf (client_at s moment) (answers (client_begins (client_at s moment)) (answer.Refused NoMemory))
      silent_step moment =
          record {
            id = refl;
            up = refl;
            now = refl;
            numbers = omega arith;
            calls = omega arith;
            descriptors = omega arith;
            says = λ m is. none_some m is;
            waits = λ n is. none_some n is;
            named = λ c is. none_some c is;
          }

record IsOn (w : WorldState) : Type 0 where
  numbered : AreNumbered w.sent w.clients
  asking : AreAsking w.sent w.clients

on_event : (w : WorldState) → IsOn w → HoldsAfter w (λ e x. IsOn x.world)
on_event w h =
    let n = each_event w h.numbered in
    let k : ℕ = suc (length w.sent) in
    record {
      nothing = λ e. h;
      masters = λ e moment i choice is up. record { numbered = n.masters e moment i choice is up; asking = nodes_send w.sent k (master_step w.master moment i choice).out.sent w.clients (master_sends w.master moment i choice) h.asking };
      opens = λ e moment choice. record { numbered = n.opens e moment choice; asking = nodes_send w.sent k (master_restart w.master moment choice).out.sent w.clients (master_restart_sends w.master moment choice) h.asking };
      serves = λ e index moment s i choice at is up. record { numbered = n.serves e index moment s i choice at is up; asking = nodes_send w.sent k (server_step s moment i choice).out.sent w.clients (server_sends s moment i choice) h.asking };
      restarts = λ e index moment s choice at. record { numbered = n.restarts e index moment s choice at; asking = nodes_send w.sent k (server_restart s moment choice).out.sent w.clients (server_restart_sends s moment choice) h.asking };
      steps = λ e index moment s i choice at is up. record {
        numbered = n.steps e index moment s i choice at is up;
        asking = left_steps w.sent k index w.clients s up at (h.numbered.each index s at) h.asking moment i choice;
      };
      calls = λ e index moment s c choice at may. record {
        numbered = n.calls e index moment s c choice at may;
        asking = left_calls w.sent k index w.clients s (first_and s.up (is_none s.current && has_room_to_count s) may) at (h.numbered.each index s at) h.asking moment c choice;
      };
      rots = λ e index handle s r place byte ending is_kept at there up. record { numbered = h.numbered; asking = h.asking };
    }

idle_first : (config : Config) (xs : List ℕ) (index : ℕ) (s : ClientState) → element_at (map (new_client config) xs) index ≡ Some s → s.current ≡ None
idle_first config [] index s is = none_some s is
idle_first config (x ∷ xs) zero s is = ap (λ (t : ClientState). t.current) (sym (same_some (new_client config x) s is))
idle_first config (x ∷ xs) (suc index) s is = idle_first config xs index s is

new_asking : (config : Config) (servers clients : ℕ) → IsOn (new_world config servers clients)
new_asking config servers clients =
    record {
      numbered = numbered_reached config servers clients (new_world config servers clients) ([], refl);
      asking = λ index s is up. record {
        staged = λ c at. none_some c (sym (idle_first config (first_numbers clients) index s is) ∙ at);
        own = λ place m at. none_some m at;
      };
    }

asks_for : (s : ClientState) (b : Body) → IsOwn s b → AsksForTheCall s b
asks_for s (body.Name number deadline c) h = h.0
asks_for s (body.Look number c) h = h.0
asks_for s other h = tt

pub name_requests_ask_for_their_call : NameRequestsAskForTheirCall
name_requests_ask_for_their_call config servers clients w r index s at up place m is mine =
    asks_for s m.body (((world_reached IsOn on_event new_asking config servers clients w r).asking index s at up).own place m is mine)
