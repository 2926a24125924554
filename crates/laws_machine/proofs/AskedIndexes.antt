-- In each world that is reached, each client keeps locations under their own indexes; and a location that is told for its ask for a read or a write is of the part in hand.
use Rattle.std.proofs.Common.{◌≡◌, ℕ, zero, suc, List, [], ◌∷◌, ◌++◌, length, map, Option, Some, None, refl, sym, ap, subst, ◌∙◌, inl, inr}
use Rattle.std.specs.Prelude.{◌&&◌, ◌==◌, true, IsTrue}
use Rattle.std.proofs.lemmas.Bool.{and_from}
use Rattle.gfs_types.specs.declared.config.Config.{Config}
use Rattle.gfs_types.specs.declared.ids.FileId.{FileId}
use Rattle.gfs_types.specs.declared.ids.Moment.{Moment}
use Rattle.gfs_types.specs.declared.ids.Node.{Node}
use Rattle.gfs_types.specs.declared.call.Call.{Call}
use Rattle.gfs_types.specs.declared.call.Call.TheVariants as call
use Rattle.messages.specs.declared.message.Body.{Body}
use Rattle.messages.specs.declared.message.Body.TheVariants as body
use Rattle.messages.specs.declared.message.Message.{Message}
use Rattle.messages.specs.declared.message.Location.{Location}
use Rattle.messages.specs.declared.message.Wanted.{Wanted}
use Rattle.messages.specs.declared.event.Event.{Event}
use Rattle.messages.specs.declared.event.NodeInput.{NodeInput}
use Rattle.messages.specs.declared.event.NodeInput.TheVariants as input
use Rattle.client_state.specs.declared.call.CurrentCall.{CurrentCall}
use Rattle.client_state.specs.declared.call.Stage.{Stage}
use Rattle.client_state.specs.declared.call.Stage.TheVariants.{AskedWhere}
use Rattle.protocol.specs.Tables.{element_at, with_at, first_numbers}
use Rattle.protocol.specs.Sending.{the_client}
use Rattle.protocol.specs.Choice.{Choice}
use Rattle.protocol.specs.Client.{ClientState, new_client, stopped_client}
use Rattle.protocol.specs.ClientAttempts.{wanted_by}
use Rattle.protocol.specs.ClientStep.{client_at, has_room_to_count, client_step, client_call}
use Rattle.protocol.specs.MasterStep.{master_step, master_restart}
use Rattle.protocol.specs.ServerStep.{server_step, server_restart}
use Rattle.protocol.specs.World.{WorldState, new_world, stamped, IsReached}
use Rattle.laws_base.proofs.Steps.{none_some, same_some}
use Rattle.laws_base.proofs.Entries.{AllOf, same_number}
use Rattle.laws_base.proofs.RisingOrders.{set_cases}
use Rattle.laws_base.proofs.ServerMoves.{IsCameIn}
use Rattle.laws_base.specs.Attempts.{is_from_client, is_request}
use Rattle.laws_base.proofs.Events.{HoldsAfter, world_reached}
use Rattle.laws_base.proofs.RequestsOnce.{AreNumbered, from_itself, first_and, each_event, numbered_reached, requests_are_numbered_once}
use Rattle.laws_base.proofs.ClientReads.{stepped, called}
use Rattle.laws_base.proofs.Deadlines.{same_counted}
use Rattle.laws_machine.proofs.CallWalk.{IsOfPart}
use Rattle.laws_machine.specs.ToldIndexes.{IsAskFor, IsIndexOf, AsksAreForThePartInHand}
use Rattle.laws_machine.proofs.Answerers.{HasAskOf, told_as_asked}
use Rattle.laws_machine.proofs.KeptIndexes.{IsKeyed, WasAskSent, Knows, knows_later, steps_here, calls_here, refused_here}

-- any message
abbrev Any : Body → Type 0
Any b = Unit {0}

came_any : (i : NodeInput) → IsCameIn Any i
came_any (input.Deliver m) = tt
came_any input.Tick = tt

pub record AreKnown (w : WorldState) : Type 0 where
  pub numbered : AreNumbered w.sent w.clients
  pub known : (index : ℕ) (s : ClientState) → element_at w.clients index ≡ Some s → Knows w.sent (suc index) s

others_known : (w : WorldState) (ms : List Message) → AreKnown w → (index : ℕ) (s : ClientState) → element_at w.clients index ≡ Some s → Knows (w.sent ++ stamped (suc (length w.sent)) ms) (suc index) s
others_known w ms h index s at = knows_later w.sent (stamped (suc (length w.sent)) ms) (suc index) s (h.known index s at)

module _ (w : WorldState) (h : AreKnown w) (index : ℕ) (s : ClientState) (at : element_at w.clients index ≡ Some s) where
  abbrev k : ℕ
  k = suc (length w.sent)

  abbrev Leaves : ClientState → List Message → Type 0
  Leaves t ms = Knows (w.sent ++ stamped (suc (length w.sent)) ms) (suc index) t

  stops : Leaves (stopped_client s) []
  stops = record { keyed = tt; stands = λ c is. none_some c is }

  same : Leaves s []
  same = others_known w [] h index s at

  later : (moment : ℕ) → Knows w.sent (suc index) (client_at s moment)
  later moment = let knows = h.known index s at in record { keyed = knows.keyed; stands = knows.stands }

  id_is : s.id ≡ suc index
  id_is = (h.numbered.each index s at).id

  step_leaves : (moment : ℕ) (i : NodeInput) (choice : Choice) → Leaves (client_step s moment i choice).state (client_step s moment i choice).out.sent
  step_leaves moment i choice = stepped Leaves s moment i choice (steps_here w.sent k (suc index) (client_at s moment) id_is (later moment) Any i (came_any i)) stops same

  call_leaves : (moment : ℕ) (c : Call) (choice : Choice) → Leaves (client_call s moment c choice).state (client_call s moment c choice).out.sent
  call_leaves moment c choice =
      called Leaves s moment c choice (calls_here w.sent k (suc index) (client_at s moment) id_is (later moment) Any c) (refused_here w.sent k (suc index) (client_at s moment) id_is (later moment)) stops

  -- all clients then
  all_known : (t : ClientState) (ms : List Message) → Leaves t ms → (other : ℕ) (u : ClientState) → element_at (with_at w.clients index t) other ≡ Some u → Knows (w.sent ++ stamped (suc (length w.sent)) ms) (suc other) u
  all_known t ms left other u is =
      elim (set_cases w.clients index t other u is) [
        | inl both ↦ subst (λ (x : ClientState). Knows (w.sent ++ stamped (suc (length w.sent)) ms) (suc other) x) (sym both.1) (subst (λ (n : ℕ). Knows (w.sent ++ stamped (suc (length w.sent)) ms) (suc n) t) (sym both.0) left)
        | inr there ↦ others_known w ms h other u there
      ]

each_known : (w : WorldState) → AreKnown w → HoldsAfter w (λ e x. AreKnown x.world)
each_known w h =
    let numbered = each_event w h.numbered in
    record {
      nothing = λ e. h;
      masters = λ e moment i choice is up. record { numbered = numbered.masters e moment i choice is up; known = others_known w (master_step w.master moment i choice).out.sent h };
      opens = λ e moment choice. record { numbered = numbered.opens e moment choice; known = others_known w (master_restart w.master moment choice).out.sent h };
      serves = λ e index moment s i choice at is up. record { numbered = numbered.serves e index moment s i choice at is up; known = others_known w (server_step s moment i choice).out.sent h };
      restarts = λ e index moment s choice at. record { numbered = numbered.restarts e index moment s choice at; known = others_known w (server_restart s moment choice).out.sent h };
      steps = λ e index moment s i choice at is up.
          record { numbered = numbered.steps e index moment s i choice at is up; known = all_known w h index s at (client_step s moment i choice).state (client_step s moment i choice).out.sent (step_leaves w h index s at moment i choice) };
      calls = λ e index moment s c choice at may.
          record { numbered = numbered.calls e index moment s c choice at may; known = all_known w h index s at (client_call s moment c choice).state (client_call s moment c choice).out.sent (call_leaves w h index s at moment c choice) };
      rots = λ e index handle s r place byte ending is_kept at there up. record { numbered = h.numbered; known = h.known };
    }

new_mapped : (config : Config) (ns : List ℕ) (index : ℕ) (s : ClientState) → element_at (map (new_client config) ns) index ≡ Some s → (n : ℕ) × (new_client config n ≡ s)
new_mapped config [] index s is = none_some s is
new_mapped config (n ∷ ns) zero s is = (n, same_some (new_client config n) s is)
new_mapped config (n ∷ ns) (suc index) s is = new_mapped config ns index s is

new_known : (config : Config) (servers clients : ℕ) → AreKnown (new_world config servers clients)
new_known config servers clients =
    record {
      numbered = numbered_reached config servers clients (new_world config servers clients) ([], refl);
      known = λ index s is. let made = new_mapped config (first_numbers clients) index s is in subst (λ (x : ClientState). Knows [] (suc index) x) made.1 (record { keyed = tt; stands = λ c none. none_some c none });
    }

pub indexes_reached : (config : Config) (servers clients : ℕ) (w : WorldState) → IsReached config servers clients w → AreKnown w
indexes_reached config servers clients w r = world_reached AreKnown each_known new_known config servers clients w r

-- what is told for the part in hand

abbrev wanted_in : Wanted → Body → Wanted
wanted_in none (body.Ask number file what deadline lost) = what
wanted_in none other = none

module _ (config : Config) (servers clients : ℕ) (w : WorldState) (r : IsReached config servers clients w) (index : ℕ) (s : ClientState) (at : element_at w.clients index ≡ Some s) where
  pub asked_for : (c : CurrentCall) (number : ℕ) → s.current ≡ Some c → c.stage ≡ AskedWhere number → IsAskFor w.sent (suc index) c number
  asked_for c number now staged = subst (λ (st : Stage). WasAskSent w.sent (suc index) c st) staged (((indexes_reached config servers clients w r).known index s at).stands c now)

  part_of_wanted : (c : CurrentCall) (asked : Call) (at_index : ℕ) → IsIndexOf (wanted_by c.index asked) at_index → IsOfPart asked c.index at_index
  part_of_wanted c (call.Write fd offset bytes) at_index h = h
  part_of_wanted c (call.Read fd offset count) at_index h = h
  part_of_wanted c other at_index h = tt

  -- a location that comes in to it
  pub told_of_part : (c : CurrentCall) (number : ℕ) (l : Location) → s.current ≡ Some c → c.stage ≡ AskedWhere number → (place : ℕ) (m : Message) → element_at w.sent place ≡ Some m → m.receiver ≡ the_client (suc index) → m.body ≡ body.Told number (Some l)
      → IsOfPart c.asked c.index l.index
  told_of_part c number l now staged place m there receiver is = part_of_wanted c c.asked l.index (subst (λ (x : Wanted). IsIndexOf x l.index) same of.index_is)
    where
      of : HasAskOf w.sent m.receiver number l.index
      of = told_as_asked config servers clients w r place number m l there is

      mine : IsAskFor w.sent (suc index) c number
      mine = asked_for c number now staged

      test : (x : Message) → x.sender ≡ the_client (suc index) → is_request number x.body ≡ (number == number) → is_from_client (suc index) x.sender && is_request number x.body ≡ true
      test x from request = and_from (is_from_client (suc index) x.sender) (is_request number x.body) (from_itself (suc index) x.sender from) (request ∙ same_number number)

      one : of.asked.ask ≡ mine.ask
      one =
          same_counted (λ x. is_from_client (suc index) x.sender && is_request number x.body) w.sent (of.asked.sent_is).0 (mine.sent_is).0 of.asked.ask mine.ask (requests_are_numbered_once config servers clients w r (suc index) number).0
          (of.asked.sent_is).1 (mine.sent_is).1 (test of.asked.ask (of.asked.sender_is ∙ receiver) (ap (λ (b : Body). is_request number b) of.asked.body_is)) (test mine.ask mine.sender_is (ap (λ (b : Body). is_request number b) mine.body_is))

      same : of.asked.what ≡ wanted_by c.index c.asked
      same = sym (ap (wanted_in of.asked.what) of.asked.body_is) ∙ (ap (λ (x : Message). wanted_in of.asked.what x.body) one ∙ ap (wanted_in of.asked.what) mine.body_is)

pub asks_are_for_the_part_in_hand : AsksAreForThePartInHand
asks_are_for_the_part_in_hand config servers clients w r index s at c number now staged = asked_for config servers clients w r index s at c number now staged
