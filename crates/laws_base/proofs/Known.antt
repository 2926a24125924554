-- In each world that is reached, what clients wait for was sent, and what they keep was told; and over each event a call in hand stays, or waits for no reading but a new one.
use Rattle.std.proofs.Common.{◌≡◌, ◌⊎◌, ℕ, zero, suc, ◌-◌, ◌≤◌, true, false, List, [], ◌∷◌, ◌++◌, length, map, Some, refl, sym, ap, subst, ◌∙◌, inl, inr, arith}
use Rattle.std.specs.Prelude.{◌&&◌, is_none, IsTrue}
use Rattle.std.proofs.lemmas.Bool.{eqb-true}
use Rattle.gfs_types.specs.declared.config.Config.{Config}
use Rattle.gfs_types.specs.declared.call.Call.{Call}
use Rattle.messages.specs.declared.message.Body.{Body}
use Rattle.messages.specs.declared.message.Body.TheVariants as body
use Rattle.messages.specs.declared.message.Message.{Message}
use Rattle.messages.specs.declared.event.Event.{Event}
use Rattle.messages.specs.declared.event.Event.TheVariants as event
use Rattle.messages.specs.declared.event.NodeInput.{NodeInput}
use Rattle.messages.specs.declared.event.NodeInput.TheVariants as input
use Rattle.client_state.specs.declared.call.CurrentCall.{CurrentCall}
use Rattle.protocol.specs.Tables.{element_at, with_at, first_numbers}
use Rattle.protocol.specs.Sending.{the_client}
use Rattle.protocol.specs.Choice.{Choice}
use Rattle.protocol.specs.Client.{ClientState, new_client, stopped_client}
use Rattle.protocol.specs.ClientStep.{client_at, has_room_to_count, client_step, client_call}
use Rattle.protocol.specs.MasterStep.{master_step, master_restart}
use Rattle.protocol.specs.ServerStep.{server_step, server_restart}
use Rattle.protocol.specs.World.{WorldState, stamped, new_world, happens, after_events}
use Rattle.laws_base.proofs.Steps.{none_some, same_some}
use Rattle.laws_base.proofs.RisingOrders.{set_cases, element_numbered}
use Rattle.laws_base.proofs.ServerMoves.{IsCameIn}
use Rattle.laws_base.proofs.MessagesSent.{IsSent, sent_before}
use Rattle.laws_base.specs.Attempts.{is_request, IsRequestOf}
use Rattle.laws_base.proofs.Events.{IsGiven, HoldsAfter, holds_after}
use Rattle.laws_base.proofs.RequestsOnce.{AreNumbered, first_and, each_event, numbered_reached}
use Rattle.laws_base.proofs.ClientReads.{Knows, knows_later, waited_reading, stage_reading, Came, steps_here, calls_here, refused_here, stepped, called}
use Rattle.laws_base.proofs.Histories.{step_grown}

pub record AreKnown (w : WorldState) : Type 0 where
  pub numbered : AreNumbered w.sent w.clients
  pub known : (index : ℕ) (s : ClientState) → element_at w.clients index ≡ Some s → Knows w.config w.sent (suc index) s

-- the call in hand of a client that goes on from s
abbrev IsCallOf : ClientState → ClientState → Type 0
IsCallOf s t = (t.current ≡ s.current) ⊎ (IsTrue s.up × ((n : ℕ) → waited_reading t.current ≡ Some n → n ≡ suc s.number))

abbrev pub Continues : WorldState → WorldState → Type 0
Continues w u = (index : ℕ) (t : ClientState) → element_at u.clients index ≡ Some t → (s : ClientState) × (element_at w.clients index ≡ Some s) × IsCallOf s t

abbrev pub GoesOn : WorldState → WorldState → Type 0
GoesOn w u = AreKnown u × Continues w u

-- what comes in to a client was sent to it
came_in : (w : WorldState) (e : Event) (client moment : ℕ) (i : NodeInput) → IsGiven w e (the_client client) moment i → IsCameIn (Came w.sent client) i
came_in w (event.Deliver number now) client moment (input.Deliver m) is = (m, (number - 1, element_numbered w.sent number m is.0), is.1, refl)
came_in w (event.Call c asked now) client moment (input.Deliver m) is = absurd is
came_in w (event.Tick to now) client moment (input.Deliver m) is = absurd is
came_in w (event.Restart n now) client moment (input.Deliver m) is = absurd is
came_in w (event.Rot server handle place byte) client moment (input.Deliver m) is = absurd is
came_in w (event.Fuse n count torn) client moment (input.Deliver m) is = absurd is
came_in w e client moment input.Tick is = tt

same_calls : (w : WorldState) → Continues w w
same_calls w index t is = (t, is, inl refl)

others_known : (w : WorldState) (ms : List Message) → AreKnown w → (index : ℕ) (s : ClientState) → element_at w.clients index ≡ Some s → Knows w.config (w.sent ++ stamped (suc (length w.sent)) ms) (suc index) s
others_known w ms h index s at = knows_later w.sent (stamped (suc (length w.sent)) ms) (suc index) w.config s (h.known index s at)

module _ (w : WorldState) (h : AreKnown w) (index : ℕ) (s : ClientState) (at : element_at w.clients index ≡ Some s) (up : IsTrue s.up) where
  abbrev pub k : ℕ
  k = suc (length w.sent)

  -- what the client leaves and sends
  abbrev pub Leaves : ClientState → List Message → Type 0
  Leaves t ms = Knows w.config (w.sent ++ stamped k ms) (suc index) t × ((t.current ≡ s.current) ⊎ ((n : ℕ) → waited_reading t.current ≡ Some n → n ≡ suc s.number))

  stops : Leaves (stopped_client s) []
  stops = (record { settings = (h.known index s at).settings; cache = tt; stands = λ c is. none_some c is }, inr (λ n is. none_some n is))

  same : Leaves s []
  same = (others_known w [] h index s at, inl refl)

  later : (moment : ℕ) → Knows w.config w.sent (suc index) (client_at s moment)
  later moment = let knows = h.known index s at in record { settings = knows.settings; cache = knows.cache; stands = knows.stands }

  id_is : s.id ≡ suc index
  id_is = (h.numbered.each index s at).id

  pub step_leaves : (moment : ℕ) (i : NodeInput) (choice : Choice) → IsCameIn (Came w.sent (suc index)) i → Leaves (client_step s moment i choice).state (client_step s moment i choice).out.sent
  step_leaves moment i choice came = stepped Leaves s moment i choice (steps_here w.config w.sent k (suc index) (client_at s moment) id_is (later moment) i came) stops same

  pub call_leaves : (moment : ℕ) (c : Call) (choice : Choice) → Leaves (client_call s moment c choice).state (client_call s moment c choice).out.sent
  call_leaves moment c choice =
      called Leaves s moment c choice (calls_here w.config w.sent k (suc index) (client_at s moment) id_is (later moment) c) (refused_here w.config w.sent k (suc index) (client_at s moment) id_is (later moment)) stops

  -- all clients then
  pub all_known : (t : ClientState) (ms : List Message) → Leaves t ms → (other : ℕ) (u : ClientState) → element_at (with_at w.clients index t) other ≡ Some u → Knows w.config (w.sent ++ stamped k ms) (suc other) u
  all_known t ms left other u is =
      elim (set_cases w.clients index t other u is) [
        | inl both ↦ subst (λ (x : ClientState). Knows w.config (w.sent ++ stamped k ms) (suc other) x) (sym both.1) (subst (λ (n : ℕ). Knows w.config (w.sent ++ stamped k ms) (suc n) t) (sym both.0) left.0)
        | inr there ↦ others_known w ms h other u there
      ]

  pub all_continue : (t : ClientState) (ms : List Message) → Leaves t ms → (other : ℕ) (u : ClientState) → element_at (with_at w.clients index t) other ≡ Some u → (x : ClientState) × (element_at w.clients other ≡ Some x) × IsCallOf x u
  all_continue t ms left other u is =
      elim (set_cases w.clients index t other u is) [
        | inl both ↦ (s, ap (λ (n : ℕ). element_at w.clients n) both.0 ∙ at, subst (λ (x : ClientState). IsCallOf s x) (sym both.1) (call_of left.1))
        | inr there ↦ (u, there, inl refl)
      ]
    where
      call_of : (t.current ≡ s.current) ⊎ ((n : ℕ) → waited_reading t.current ≡ Some n → n ≡ suc s.number) → IsCallOf s t
      call_of o = elim (o) [ inl kept ↦ inl kept | inr new ↦ inr (up, new) ]

each_known : (w : WorldState) → AreKnown w → HoldsAfter w (λ e x. GoesOn w x.world)
each_known w h =
    let numbered = each_event w h.numbered in
    record {
      nothing = λ e. (h, same_calls w);
      masters = λ e moment i choice is up. (record { numbered = numbered.masters e moment i choice is up; known = others_known w (master_step w.master moment i choice).out.sent h }, same_calls w);
      opens = λ e moment choice. (record { numbered = numbered.opens e moment choice; known = others_known w (master_restart w.master moment choice).out.sent h }, same_calls w);
      serves = λ e index moment s i choice at is up. (record { numbered = numbered.serves e index moment s i choice at is up; known = others_known w (server_step s moment i choice).out.sent h }, same_calls w);
      restarts = λ e index moment s choice at. (record { numbered = numbered.restarts e index moment s choice at; known = others_known w (server_restart s moment choice).out.sent h }, same_calls w);
      steps = λ e index moment s i choice at is up.
          let t : ClientState = (client_step s moment i choice).state in
          let ms : List Message = (client_step s moment i choice).out.sent in
          let left = step_leaves w h index s at up moment i choice (came_in w e (suc index) moment i is) in
          (record { numbered = numbered.steps e index moment s i choice at is up; known = all_known w h index s at up t ms left }, all_continue w h index s at up t ms left);
      calls = λ e index moment s c choice at may.
          let up : IsTrue s.up = first_and s.up (is_none s.current && has_room_to_count s) may in
          let t : ClientState = (client_call s moment c choice).state in
          let ms : List Message = (client_call s moment c choice).out.sent in
          let left = call_leaves w h index s at up moment c choice in
          (record { numbered = numbered.calls e index moment s c choice at may; known = all_known w h index s at up t ms left }, all_continue w h index s at up t ms left);
      rots = λ e index handle s r place byte ending is_kept at there up. (record { numbered = h.numbered; known = h.known }, same_calls w);
    }

pub step_known : (w : WorldState) (e : Event) (choice : Choice) → AreKnown w → GoesOn w (happens w e choice).world
step_known w e choice h = holds_after w (λ f x. GoesOn w x.world) (each_known w h) e choice

new_mapped : (config : Config) (ns : List ℕ) (index : ℕ) (s : ClientState) → element_at (map (new_client config) ns) index ≡ Some s → (n : ℕ) × (new_client config n ≡ s)
new_mapped config [] index s is = none_some s is
new_mapped config (n ∷ ns) zero s is = (n, same_some (new_client config n) s is)
new_mapped config (n ∷ ns) (suc index) s is = new_mapped config ns index s is

new_known : (config : Config) (servers clients : ℕ) → AreKnown (new_world config servers clients)
new_known config servers clients =
    record {
      numbered = numbered_reached config servers clients (new_world config servers clients) ([], refl);
      known = λ index s is. let made = new_mapped config (first_numbers clients) index s is in
          subst (λ (x : ClientState). Knows config [] (suc index) x) made.1 (record { settings = refl; cache = tt; stands = λ c none. none_some c none });
    }

pub steps_known : (w : WorldState) (steps : List (Event × Choice)) → AreKnown w → AreKnown (after_events w steps)
steps_known w [] h = h
steps_known w (step ∷ rest) h = steps_known (happens w step.0 step.1).world rest (step_known w step.0 step.1 h).0

pub known_reached : (config : Config) (servers clients : ℕ) (steps : List (Event × Choice)) → AreKnown (after_events (new_world config servers clients) steps)
known_reached config servers clients steps = steps_known (new_world config servers clients) steps (new_known config servers clients)

step_config : (w : WorldState) (e : Event) (choice : Choice) → (happens w e choice).world.config ≡ w.config
step_config w e choice =
    holds_after w (λ f x. x.world.config ≡ w.config)
    (record {
      nothing = λ f. refl;
      masters = λ f moment i c is up. refl;
      opens = λ f moment c. refl;
      serves = λ f index moment s i c at is up. refl;
      restarts = λ f index moment s c at. refl;
      steps = λ f index moment s i c at is up. refl;
      calls = λ f index moment s asked c at may. refl;
      rots = λ f index handle s r place byte ending is_kept at there up. refl;
    }) e choice

pub same_config : (w : WorldState) (steps : List (Event × Choice)) → (after_events w steps).config ≡ w.config
same_config w [] = refl
same_config w (step ∷ rest) = same_config (happens w step.0 step.1).world rest ∙ step_config w step.0 step.1

-- a request that was sent has a number that was used
used_number : (s : ClientState) (b : Body) (n : ℕ) → IsRequestOf s b → is_request n b ≡ true → n ≤ s.number
used_number s (body.Ask number file wanted deadline lost) n h is = (let same = eqb-true number n is in omega (arith, same, h))
used_number s (body.Read number handle version offset count) n h is = (let same = eqb-true number n is in omega (arith, same, h))
used_number s (body.Len number handle version) n h is = (let same = eqb-true number n is in omega (arith, same, h))
used_number s (body.Push id bytes rest) n h is = (let same = eqb-true id.seq n is in let few = h.1 in omega (arith, same, few))
used_number s other n h is = absurd (let both : false ≡ true = is in cc)

-- A client that waits for a reading has waited for it, in the same call, since its request was sent.
pub waited_since : (v : WorldState) → AreKnown v → (index number : ℕ) (x : Message) → IsSent v.sent x → x.sender ≡ the_client (suc index) → is_request number x.body ≡ true → (steps : List (Event × Choice))
    → (s : ClientState) (c : CurrentCall) → element_at (after_events v steps).clients index ≡ Some s → s.current ≡ Some c → stage_reading c.stage ≡ Some number
    → (t : ClientState) × (element_at v.clients index ≡ Some t) × (t.current ≡ Some c)
waited_since v h index number x there from is [] s c at now reading = (s, at, now)
waited_since v h index number x there from is (step ∷ rest) s c at now reading = here (waited_since u after.0 index number x still from is rest s c at now reading)
  where
    u : WorldState
    u = (happens v step.0 step.1).world

    after : GoesOn v u
    after = step_known v step.0 step.1 h

    still : IsSent u.sent x
    still = let grown = step_grown v step.0 step.1 in subst (λ (ms : List Message). IsSent ms x) (sym grown.1) (sent_before v.sent grown.0 x there)

    here : (t : ClientState) × (element_at u.clients index ≡ Some t) × (t.current ≡ Some c) → (t : ClientState) × (element_at v.clients index ≡ Some t) × (t.current ≡ Some c)
    here t =
        let was = after.1 index t.0 t.1 in
        elim (was.2) [
          | inl kept ↦ (was.0, was.1, sym kept ∙ t.2)
          | inr new ↦
              let one : number ≡ suc (was.0).number = new.1 number (ap waited_reading t.2 ∙ reading) in
              let few = used_number was.0 x.body number ((h.numbered.each index was.0 was.1).used new.0 there.0 x there.1 from) is in
              absurd (omega (arith, one, few))
        ]
