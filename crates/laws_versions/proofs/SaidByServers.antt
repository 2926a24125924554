-- A Report, a Recorded or a Forward that stands among what was sent was sent in one step of a server.
use Rattle.std.proofs.Common.{◌≡◌, ℕ, suc, ◌≤◌, ◌-◌, Bool, true, false, List, [], ◌∷◌, ◌++◌, length, Option, Some, None, refl, sym, ap, subst, ◌∙◌, inl, inr, arith}
use Rattle.std.specs.Option.{option_to_list}
use Rattle.gfs_types.specs.declared.config.Config.{Config}
use Rattle.messages.specs.declared.event.Event.{Event}
use Rattle.messages.specs.declared.event.Event.TheVariants as event
use Rattle.messages.specs.declared.event.NodeInput.{NodeInput}
use Rattle.messages.specs.declared.event.NodeInput.TheVariants as input
use Rattle.messages.specs.declared.message.Message.{Message}
use Rattle.messages.specs.declared.message.Body.{Body}
use Rattle.messages.specs.declared.message.Body.TheVariants as body
use Rattle.protocol.specs.Tables.{element_at}
use Rattle.protocol.specs.Sending.{the_server}
use Rattle.protocol.specs.Choice.{Choice, Ending, Goes, Lost, Stops}
use Rattle.protocol.specs.Client.{ClientState, ClientDoing}
use Rattle.protocol.specs.ClientStep.{client_at, client_step, client_call}
use Rattle.protocol.specs.Server.{ServerState}
use Rattle.protocol.specs.ServerStep.{server_step, server_restarts, server_restart}
use Rattle.protocol.specs.MasterStep.{master_step, master_restart}
use Rattle.protocol.specs.World.{WorldState, new_world, stamped, after_server, happens, after_events, IsReached}
use Rattle.laws_base.proofs.Steps.{same_some}
use Rattle.laws_base.proofs.Entries.{AllOf}
use Rattle.laws_base.proofs.Words.{true_false}
use Rattle.laws_base.proofs.MembersRecorded.{place_below, all_at}
use Rattle.laws_base.proofs.MessagesSent.{IsSent, IsSameMessage}
use Rattle.laws_base.proofs.RisingOrders.{element_numbered}
use Rattle.laws_base.proofs.LeasesStayOver.{reached_later}
use Rattle.laws_base.proofs.Events.{IsGiven, HoldsAfter, holds_after}
use Rattle.laws_base.proofs.ClientNumbers.{IsSaid, IsStepOf, of_step, of_call}
use Rattle.laws_base.proofs.RequestsOnce.{numbered_reached, later_cases}
use Rattle.laws_base.proofs.MasterTalks.{is_masters, MasterTalks, master_said, restart_said}
use Rattle.laws_base.proofs.Histories.{IsGrown, steps_grown, SentIn, sent_in, after_both}

-- words that others than servers say, or that nobody looks for here
abbrev pub is_other : Body → Bool
is_other (body.Recorded handle version) = false
is_other (body.Report replicas leases) = false
is_other (body.Forward handle version serial id chunk change) = false
is_other other = true

-- In a step from one world to the next a server said this, on a message that was sent to it or at a tick.
pub record IsSaidNow (u v : WorldState) (m : Message) : Type 0 where
  pub index : ℕ
  pub moment : ℕ
  pub server : ServerState
  pub taken : NodeInput
  pub choice : Choice
  pub at : element_at u.servers index ≡ Some server
  pub came : (x : Message) → taken ≡ input.Deliver x → (place : ℕ) × (element_at u.sent place ≡ Some x) × (x.receiver ≡ the_server (suc index))
  pub world_is : v ≡ (after_server u index moment (server_step server moment taken choice)).world
  pub word : Message
  pub said : IsSent (server_step server moment taken choice).out.sent word
  pub same : IsSameMessage word m

-- what is new among the messages
new_one : (sent ms : List Message) (k place : ℕ) (m : Message) → length sent ≤ place → element_at (sent ++ stamped k ms) place ≡ Some m → (x : Message) × IsSent ms x × IsSameMessage x m
new_one sent ms k place m from at =
    elim (later_cases sent k ms place m at) [
      | inl before ↦ absurd (let below = place_below sent place m before in omega (arith, below, from))
      | inr new ↦ new
    ]

abbrev IsPlain : Message → Type 0
IsPlain x = is_other x.body ≡ true

none_new : {A : Type 0} (sent ms : List Message) (k place : ℕ) (m : Message) → AllOf IsPlain ms → length sent ≤ place → element_at (sent ++ stamped k ms) place ≡ Some m → is_other m.body ≡ false → A
none_new sent ms k place m all from at none =
    let new = new_one sent ms k place m from at in
    let one : is_other (new.0).body ≡ true = all_at IsPlain ms (new.1).0 new.0 all (new.1).1 in
    true_false (sym one ∙ ap is_other (new.2).2 ∙ none)

none_before : {A : Type 0} (sent : List Message) (place : ℕ) (m : Message) → length sent ≤ place → element_at sent place ≡ Some m → A
none_before sent place m from at = absurd (let below = place_below sent place m at in omega (arith, below, from))

-- who says none of these words

masters_plain : (b : Body) → is_masters b ≡ true → is_other b ≡ true
masters_plain (body.Recorded handle version) is = true_false (sym is)
masters_plain (body.Report replicas leases) is = true_false (sym is)
masters_plain (body.Forward handle version serial id chunk change) is = true_false (sym is)
masters_plain other is = refl

master_plain : MasterTalks IsPlain
master_plain = record { plain = λ receiver b is. masters_plain b is; locates = λ receiver number l current. refl }

said_plain : (s t : ClientState) (b : Body) → IsSaid s t b → is_other b ≡ true
said_plain s t (body.Recorded handle version) h = absurd h
said_plain s t (body.Report replicas leases) h = absurd h
said_plain s t (body.Forward handle version serial id chunk change) h = absurd h
said_plain s t other h = refl

client_plain : (s : ClientState) (d : ClientDoing) (o : Option Message) → IsStepOf s d → d.sent ≡ o → AllOf IsPlain (option_to_list o)
client_plain s d None step is = tt
client_plain s d (Some m) step is = (said_plain s d.client m.body (step.says m is).1, tt)

restart_plain : (s : ServerState) (moment : ℕ) (choice : Choice) (e : Ending) → AllOf IsPlain (server_restarts s moment choice e).out.sent
restart_plain s moment choice Goes = tt
restart_plain s moment choice Lost = tt
restart_plain s moment choice (Stops made) = tt

came_in : (w : WorldState) (e : Event) (index moment : ℕ) (i : NodeInput) → IsGiven w e (the_server (suc index)) moment i → (m : Message) → i ≡ input.Deliver m
    → (place : ℕ) × (element_at w.sent place ≡ Some m) × (m.receiver ≡ the_server (suc index))
came_in w (event.Deliver number now) index moment (input.Deliver x) is m same =
    subst (λ (y : Message). (place : ℕ) × (element_at w.sent place ≡ Some y) × (y.receiver ≡ the_server (suc index))) (same_message x m same) (number - 1, element_numbered w.sent number x is.0, is.1)
  where
    message_in : NodeInput → Option Message
    message_in (input.Deliver y) = Some y
    message_in input.Tick = None

    same_message : (y z : Message) → input.Deliver y ≡ input.Deliver z → y ≡ z
    same_message y z h = same_some y z (ap message_in h)
came_in w (event.Call c asked now) index moment (input.Deliver x) is m same = absurd is
came_in w (event.Tick to now) index moment (input.Deliver x) is m same = absurd is
came_in w (event.Restart n now) index moment (input.Deliver x) is m same = absurd is
came_in w (event.Rot n handle place byte) index moment (input.Deliver x) is m same = absurd is
came_in w (event.Fuse n count torn) index moment (input.Deliver x) is m same = absurd is
came_in w e index moment input.Tick is m same = absurd (cc)

-- worlds

abbrev AreSaidNow : WorldState → WorldState → Type 0
AreSaidNow u v = (place : ℕ) (m : Message) → length u.sent ≤ place → element_at v.sent place ≡ Some m → is_other m.body ≡ false → IsSaidNow u v m

each_said : (config : Config) (servers clients : ℕ) (u : WorldState) → IsReached config servers clients u → HoldsAfter u (λ e x. AreSaidNow u x.world)
each_said config servers clients u r =
    let k : ℕ = suc (length u.sent) in
    record {
      nothing = λ e place m from at none. none_before u.sent place m from at;
      masters = λ e moment i choice is up place m from at none. none_new u.sent (master_step u.master moment i choice).out.sent k place m (master_said IsPlain master_plain u.master moment i choice) from at none;
      opens = λ e moment choice place m from at none. none_new u.sent (master_restart u.master moment choice).out.sent k place m (restart_said IsPlain master_plain u.master moment choice) from at none;
      serves = λ e index moment s i choice there is up place m from at none.
          let new = new_one u.sent (server_step s moment i choice).out.sent k place m from at in
          record { index = index; moment = moment; server = s; taken = i; choice = choice; at = there; came = came_in u e index moment i is; world_is = refl; word = new.0; said = new.1; same = new.2 };
      restarts = λ e index moment s choice there place m from at none. none_new u.sent (server_restart s moment choice).out.sent k place m (restart_plain s moment choice choice.ending) from at none;
      steps = λ e index moment s i choice there is up place m from at none.
          none_new u.sent (client_step s moment i choice).out.sent k place m
          (of_step (λ t ms. AllOf IsPlain ms) s moment i choice ((numbered_reached config servers clients u r).each index s there).named (λ d step. client_plain (client_at s moment) d d.sent step refl) tt tt) from at none;
      calls = λ e index moment s c choice there may place m from at none.
          none_new u.sent (client_call s moment c choice).out.sent k place m
          (of_call (λ t ms. AllOf IsPlain ms) s moment c choice ((numbered_reached config servers clients u r).each index s there).named (λ d step. client_plain (client_at s moment) d d.sent step refl) tt) from at none;
      rots = λ e index handle s x q byte ending is_kept there held up place m from at none. none_before u.sent place m from at;
    }

-- It was said in a step of the list, and the rest of the list led here.
pub record WasSaid (config : Config) (servers clients : ℕ) (w : WorldState) (place : ℕ) (m : Message) : Type 0 where
  pub before : WorldState
  pub reached : IsReached config servers clients before
  pub unsent : length before.sent ≤ place
  pub grown : IsGrown before.sent w.sent
  pub next : WorldState
  pub next_reached : IsReached config servers clients next
  pub now : IsSaidNow before next m
  pub after : List (Event × Choice)
  pub rest : after_events next after ≡ w

pub was_said : (config : Config) (servers clients : ℕ) (w : WorldState) → IsReached config servers clients w → (place : ℕ) (m : Message) → element_at w.sent place ≡ Some m → is_other m.body ≡ false → WasSaid config servers clients w place m
was_said config servers clients w r place m at none =
    record {
      before = u;
      reached = u_reached;
      unsent = h.unsent;
      grown = subst (λ (v : WorldState). IsGrown u.sent v.sent) rest (steps_grown u (h.step ∷ h.after));
      next = (happens u h.step.0 h.step.1).world;
      next_reached = reached_later config servers clients u (h.step ∷ []) u_reached;
      now = holds_after u (λ e x. AreSaidNow u x.world) (each_said config servers clients u u_reached) h.step.0 h.step.1 place m h.unsent h.sent_is none;
      after = h.after;
      rest = rest;
    }
  where
    start : WorldState
    start = new_world config servers clients

    h : SentIn start r.0 place m
    h = sent_in start r.0 place m (omega arith) (ap (λ (v : WorldState). element_at v.sent place) r.1 ∙ at)

    u : WorldState
    u = after_events start h.before

    u_reached : IsReached config servers clients u
    u_reached = (h.before, refl)

    rest : after_events u (h.step ∷ h.after) ≡ w
    rest = sym (ap (λ (steps : List (Event × Choice)). after_events start steps) h.steps_are ∙ after_both start h.before (h.step ∷ h.after)) ∙ r.1
