-- The numbers of a client rise, and what it sends later has later numbers.
use Rattle.std.proofs.Common.{◌≡◌, ◌⊎◌, ℕ, suc, ◌≤◌, ◌<◌, true, false, List, [], ◌∷◌, ◌++◌, length, Option, Some, None, refl, sym, subst, ◌∙◌, inl, inr, arith}
use Rattle.std.specs.Prelude.{◌&&◌, max, is_none, IsTrue}
use Rattle.std.specs.Option.{option_to_list}
use Rattle.std.proofs.lemmas.Bool.{true≢false}
use Rattle.std.proofs.Math.Nat.{le-max_left}
use Rattle.gfs_types.specs.declared.config.Config.{Config}
use Rattle.messages.specs.declared.event.Event.{Event}
use Rattle.messages.specs.declared.message.Body.{Body}
use Rattle.messages.specs.declared.message.Body.TheVariants as body
use Rattle.messages.specs.declared.message.Message.{Message}
use Rattle.protocol.specs.Tables.{element_at, with_at}
use Rattle.protocol.specs.Sending.{the_client}
use Rattle.protocol.specs.Choice.{Choice}
use Rattle.protocol.specs.Client.{ClientState, ClientDoing, stopped_client}
use Rattle.protocol.specs.ClientStep.{client_at, has_room_to_count}
use Rattle.protocol.specs.MasterStep.{master_step, master_restart}
use Rattle.protocol.specs.ServerStep.{server_step, server_restart}
use Rattle.protocol.specs.World.{WorldState, stamped, after_events, IsReached}
use Rattle.laws_base.proofs.Steps.{same_some, same_or_not}
use Rattle.laws_base.proofs.Entries.{AllOf}
use Rattle.laws_base.proofs.RisingOrders.{set_cases}
use Rattle.laws_base.proofs.MembersRecorded.{place_below, place_cases, all_at}
use Rattle.laws_base.proofs.MessagesSent.{numbered_sent}
use Rattle.laws_base.specs.Attempts.{is_from_client, waited_data}
use Rattle.laws_base.specs.Numbers.{IsLaterRequest, ClientNumbersRise, LaterRequestsHaveLaterNumbers}
use Rattle.laws_base.proofs.Events.{HoldsAfter, holds_on}
use Rattle.laws_base.proofs.ClientNumbers.{IsSaid, IsStepOf, of_step, of_call}
use Rattle.laws_base.proofs.Senders.{AreNotClients, one_client, server_sends, server_restart_sends, master_sends, master_restart_sends}
use Rattle.laws_base.proofs.RequestsOnce.{IsNumbered, AreNumbered, not_other, from_itself, own_sender, first_and, at_numbered, each_event, numbered_reached}

-- a client's state is one that comes after another
abbrev pub IsAfter : ClientState → ClientState → Type 0
IsAfter s t =
    (s.number ≤ t.number) × (s.call_count ≤ t.call_count) × (s.fd_count ≤ t.fd_count) × (s.now ≤ t.now)
    × ((n : ℕ) → waited_data t.current ≡ Some n → (s.number < n) ⊎ (waited_data s.current ≡ Some n))

said_later : (s t u : ClientState) (b : Body) → IsAfter s t → IsSaid t u b → IsLaterRequest s b
said_later s t u (body.Ask number file wanted deadline lost) after said = (let rise = after.0 in let new = said.0 in omega (arith, rise, new))
said_later s t u (body.Read number handle version offset count) after said = (let rise = after.0 in let new = said.0 in omega (arith, rise, new))
said_later s t u (body.Len number handle version) after said = (let rise = after.0 in let new = said.0 in omega (arith, rise, new))
said_later s t u (body.Push id bytes rest) after said = (let rise = after.0 in let new = said.1 in omega (arith, rise, new))
said_later s t u (body.Mutate id handle version target deadline) after said = after.4 id.seq said.2
said_later s t u (body.Name number deadline asked) after said = tt
said_later s t u (body.Look number asked) after said = tt
said_later s t u other after said = absurd said

step_after : (s t : ClientState) (moment : ℕ) (d : ClientDoing) → IsAfter s t → IsStepOf (client_at t moment) d → IsAfter s d.client
step_after s t moment d after step =
    let numbers = after.0 in
    let calls = after.1 in
    let fds = after.2 in
    let clock = after.3 in
    let more : t.number ≤ d.client.number = step.numbers in
    let called : t.call_count ≤ d.client.call_count = step.calls in
    let opened : t.fd_count ≤ d.client.fd_count = step.descriptors in
    let now : d.client.now ≡ max t.now moment = step.now in
    let passed : t.now ≤ max t.now moment = le-max_left t.now moment in (
      omega (arith, numbers, more),
      omega (arith, calls, called),
      omega (arith, fds, opened),
      omega (arith, clock, now, passed),
      λ n is. elim (step.waits n is) [
        | inl new ↦ let one : n ≡ suc t.number = new.0 in inl (omega (arith, one, numbers))
        | inr old ↦ after.4 n old.0
      ],
    )

-- From a world with so many messages in which a client was in this state.
module _ (count index : ℕ) (s : ClientState) where
  abbrev AreLater : List Message → Type 0
  AreLater sent = (place : ℕ) (m : Message) → count ≤ place → element_at sent place ≡ Some m → m.sender ≡ the_client (suc index) → IsLaterRequest s m.body

  record IsOn (w : WorldState) : Type 0 where
    numbered : AreNumbered w.sent w.clients
    here : (t : ClientState) → element_at w.clients index ≡ Some t → IsTrue t.up → IsAfter s t
    later : AreLater w.sent

  abbrev NewLater : List Message → Type 0
  NewLater ms = AllOf (λ m. m.sender ≡ the_client (suc index) → IsLaterRequest s m.body) ms

  more_later : (sent : List Message) (k : ℕ) (ms : List Message) → NewLater ms → AreLater sent → AreLater (sent ++ stamped k ms)
  more_later sent k ms new h place m from there mine =
      elim (place_cases sent (stamped k ms) place m there) [
        | inl before ↦ h place m from before mine
        | inr last ↦ let x = numbered_sent k ms last.0 m last.2 in
            subst (λ (b : Body). IsLaterRequest s b) ((x.2).2) (all_at (λ (y : Message). y.sender ≡ the_client (suc index) → IsLaterRequest s y.body) ms (x.1).0 x.0 new (x.1).1 ((x.2).0 ∙ mine))
      ]

  by_others : (ms : List Message) → AllOf (λ m. is_from_client (suc index) m.sender ≡ false) ms → NewLater ms
  by_others [] all = tt
  by_others (m ∷ ms) all = (λ mine. absurd (true≢false (sym (from_itself (suc index) m.sender mine) ∙ all.0)), by_others ms all.1)

  nodes_later : (sent : List Message) (k : ℕ) (ms : List Message) → AreNotClients ms → AreLater sent → AreLater (sent ++ stamped k ms)
  nodes_later sent k ms none h = more_later sent k ms (by_others ms (one_client (suc index) ms none)) h

  said_new : (t : ClientState) (d : ClientDoing) (o : Option Message) → IsAfter s t → IsStepOf t d → d.sent ≡ o → NewLater (option_to_list o)
  said_new t d None after step is = tt
  said_new t d (Some m) after step is = (λ mine. said_later s t d.client m.body after (step.says m is).1, tt)

  module _ (sent : List Message) (k other : ℕ) (clients : List ClientState) (t : ClientState) (up : IsTrue t.up) (at : element_at clients other ≡ Some t) (named : IsNumbered sent other t)
      (was : (u : ClientState) → element_at clients index ≡ Some u → IsTrue u.up → IsAfter s u) (since : AreLater sent) where
    abbrev Left : ClientState → List Message → Type 0
    Left u ms = ((v : ClientState) → element_at (with_at clients other u) index ≡ Some v → IsTrue v.up → IsAfter s v) × AreLater (sent ++ stamped k ms)

    mine : other ≡ index → IsAfter s t
    mine same = was t (subst (λ (n : ℕ). element_at clients n ≡ Some t) same at) up

    left_silent : (u : ClientState) → (other ≡ index → IsTrue u.up → IsAfter s u) → Left u []
    left_silent u new = (
      λ v is go. elim (set_cases clients other u index v is) [
        | inl both ↦ subst (λ (x : ClientState). IsAfter s x) (sym both.1) (new (sym both.0) (subst (λ (x : ClientState). IsTrue x.up) both.1 go))
        | inr there ↦ was v there go
      ],
      more_later sent k [] tt since,
    )

    left_stopped : Left (stopped_client t) []
    left_stopped = left_silent (stopped_client t) (λ same go. absurd (let both : false ≡ true = go in cc))

    left_same : Left t []
    left_same = left_silent t (λ same go. mine same)

    left_goes : (moment : ℕ) (d : ClientDoing) → IsStepOf (client_at t moment) d → Left d.client (option_to_list d.sent)
    left_goes moment d step = (
      λ v is go. elim (set_cases clients other d.client index v is) [
        | inl both ↦ subst (λ (x : ClientState). IsAfter s x) (sym both.1) (step_after s t moment d (mine (sym both.0)) step)
        | inr there ↦ was v there go
      ],
      elim (same_or_not other index) [
        | inl same ↦ more_later sent k (option_to_list d.sent) (said_new (client_at t moment) d d.sent (at_moment (mine same)) step refl) since
        | inr apart ↦ more_later sent k (option_to_list d.sent) (by_others (option_to_list d.sent) (not_other (suc other) (suc index) (λ e. apart (less e)) (option_to_list d.sent)
            (own_sender sent k other (client_at t moment) d (at_numbered sent other t moment named) up step d.sent refl))) since
      ],
    )
      where
        less : {a b : ℕ} → suc a ≡ suc b → a ≡ b
        less e = omega (arith, e)

        at_moment : IsAfter s t → IsAfter s (client_at t moment)
        at_moment h = (h.0, h.1, h.2, let clock : s.now ≤ t.now = h.3 in let passed : t.now ≤ max t.now moment = le-max_left t.now moment in omega (arith, clock, passed), h.4)

  on_event : (w : WorldState) → IsOn w → HoldsAfter w (λ e x. IsOn x.world)
  on_event w h =
      let numbered = each_event w h.numbered in
      record {
        nothing = λ e. h;
        masters = λ e moment i choice is up. record { numbered = numbered.masters e moment i choice is up; here = h.here; later = nodes_later w.sent (suc (length w.sent)) (master_step w.master moment i choice).out.sent (master_sends w.master moment i choice) h.later };
        opens = λ e moment choice. record { numbered = numbered.opens e moment choice; here = h.here; later = nodes_later w.sent (suc (length w.sent)) (master_restart w.master moment choice).out.sent (master_restart_sends w.master moment choice) h.later };
        serves = λ e other moment t i choice at is up. record { numbered = numbered.serves e other moment t i choice at is up; here = h.here; later = nodes_later w.sent (suc (length w.sent)) (server_step t moment i choice).out.sent (server_sends t moment i choice) h.later };
        restarts = λ e other moment t choice at. record { numbered = numbered.restarts e other moment t choice at; here = h.here; later = nodes_later w.sent (suc (length w.sent)) (server_restart t moment choice).out.sent (server_restart_sends t moment choice) h.later };
        steps = λ e other moment t i choice at is up.
            let own : IsNumbered w.sent other t = h.numbered.each other t at in
            let k : ℕ = suc (length w.sent) in
            let left = of_step (Left w.sent k other w.clients t up at own h.here h.later) t moment i choice own.named
            (left_goes w.sent k other w.clients t up at own h.here h.later moment) (left_stopped w.sent k other w.clients t up at own h.here h.later) (left_same w.sent k other w.clients t up at own h.here h.later) in
            record { numbered = numbered.steps e other moment t i choice at is up; here = left.0; later = left.1 };
        calls = λ e other moment t c choice at may.
            let own : IsNumbered w.sent other t = h.numbered.each other t at in
            let up : IsTrue t.up = first_and t.up (is_none t.current && has_room_to_count t) may in
            let k : ℕ = suc (length w.sent) in
            let left = of_call (Left w.sent k other w.clients t up at own h.here h.later) t moment c choice own.named
            (left_goes w.sent k other w.clients t up at own h.here h.later moment) (left_stopped w.sent k other w.clients t up at own h.here h.later) in
            record { numbered = numbered.calls e other moment t c choice at may; here = left.0; later = left.1 };
        rots = λ e other handle t r place byte ending is_kept at there up. record { numbered = h.numbered; here = h.here; later = h.later };
      }

same_after : (s : ClientState) → IsAfter s s
same_after s = (omega arith, omega arith, omega arith, omega arith, λ n is. inr is)

goes_on : (config : Config) (servers clients : ℕ) (w : WorldState) → IsReached config servers clients w → (steps : List (Event × Choice)) → (index : ℕ) (s : ClientState) → element_at w.clients index ≡ Some s
    → IsOn (length w.sent) index s (after_events w steps)
goes_on config servers clients w r steps index s at =
    holds_on (IsOn (length w.sent) index s) (on_event (length w.sent) index s) w steps
    (record {
      numbered = numbered_reached config servers clients w r;
      here = λ t is up. subst (λ (u : ClientState). IsAfter s u) (same_some s t (sym at ∙ is)) (same_after s);
      later = λ place m from there mine. let below = place_below w.sent place m there in absurd (omega (arith, below, from));
    })

pub client_numbers_rise : ClientNumbersRise
client_numbers_rise config servers clients w r steps index before after at later_at up =
    let h = (goes_on config servers clients w r steps index before at).here after later_at up in
    (h.0, h.1, h.2, h.3)

pub later_requests_have_later_numbers : LaterRequestsHaveLaterNumbers
later_requests_have_later_numbers config servers clients w r steps index s at place m from there mine = (goes_on config servers clients w r steps index s at).later place m from there mine
