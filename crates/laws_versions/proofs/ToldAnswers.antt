-- Each location that was told with a granted round was told in one step of a master that was up, in answer to an Ask, of the chunk that stood at the place that was asked for.
use Rattle.std.proofs.Common.{◌≡◌, ◌⊎◌, ℕ, suc, ◌≤◌, Bool, true, false, true≢false, List, [], ◌∷◌, ◌++◌, length, Option, Some, None, refl, sym, ap, subst, ◌∙◌, inl, inr, arith}
use Rattle.std.specs.Prelude.{◌&&◌, IsTrue}
use Rattle.std.specs.Option.{option_to_list}
use Rattle.gfs_types.specs.declared.config.Config.{Config}
use Rattle.gfs_types.specs.declared.ids.FileId.{FileId}
use Rattle.gfs_types.specs.declared.ids.Moment.{Moment}
use Rattle.gfs_types.specs.declared.ids.Node.{Node}
use Rattle.gfs_types.specs.declared.ids.Node.TheVariants as node
use Rattle.gfs_types.specs.declared.ids.DataId.{DataId}
use Rattle.messages.specs.declared.event.Event.{Event}
use Rattle.messages.specs.declared.event.NodeInput.{NodeInput}
use Rattle.messages.specs.declared.message.Message.{Message}
use Rattle.messages.specs.declared.message.Body.{Body}
use Rattle.messages.specs.declared.message.Body.TheVariants as body
use Rattle.messages.specs.declared.message.Location.{Location}
use Rattle.messages.specs.declared.message.Wanted.{Wanted}
use Rattle.protocol.specs.Tables.{element_at}
use Rattle.protocol.specs.Sending.{the_client}
use Rattle.protocol.specs.Choice.{Choice, Ending, Goes, Lost, Stops}
use Rattle.protocol.specs.Seen.{Taken, no_step}
use Rattle.protocol.specs.Client.{ClientState, ClientDoing}
use Rattle.protocol.specs.ClientStep.{client_at, client_step, client_call}
use Rattle.protocol.specs.Server.{ServerState}
use Rattle.protocol.specs.ServerStep.{server_at, server_step, server_restarts, server_restart}
use Rattle.protocol.specs.Master.{MasterState, MasterDoing}
use Rattle.protocol.specs.MasterStep.{master_goes, master_ends, master_bounded, master_step, may_end, master_restart}
use Rattle.protocol.specs.World.{WorldState, new_world, stamped, happens, after_events, IsReached}
use Rattle.laws_base.proofs.Steps.{on_cond}
use Rattle.laws_base.proofs.Entries.{AllOf, same_number}
use Rattle.laws_base.proofs.MembersRecorded.{all_at, all_in_order}
use Rattle.laws_base.proofs.MessagesSent.{IsSent, sent_before}
use Rattle.laws_base.specs.Attempts.{is_from_client, is_request}
use Rattle.laws_base.specs.ToldShapes.{IsShapeIn}
use Rattle.laws_base.proofs.ToldShapes.{told_shapes_are_of_their_chunks}
use Rattle.laws_base.proofs.Events.{IsGiven, HoldsAfter, holds_after}
use Rattle.laws_base.proofs.ClientNumbers.{IsSaid as IsClientsWord, IsStepOf, of_step, of_call}
use Rattle.laws_base.proofs.RequestsOnce.{AreNumbered, numbered_reached, requests_are_numbered_once}
use Rattle.laws_base.proofs.Deadlines.{same_counted}
use Rattle.laws_base.proofs.ServerTalks.{is_quiet, Talks, step_said}
use Rattle.laws_base.proofs.Histories.{IsGrown, steps_grown, SentIn, sent_in, after_both}
use Rattle.laws_versions.proofs.ExtendLaws.{restart_silent, new_one, none_before, came_in}
use Rattle.laws_versions.proofs.UnaskedSteps.{is_location, IsUnasked}
use Rattle.laws_versions.proofs.AskedSteps.{IsToldOf, IsSaid}
use Rattle.laws_base.proofs.MasterPremises.{IsAsk}
use Rattle.laws_versions.proofs.CopiedSources.{IsSilent, asked_or_not, unasked_step, asked_step, free_reached}
use Rattle.laws_versions.specs.ReplacedChunks.{IsToldAt}

-- who tells no location

abbrev pub TellsNone : Body → Type 0
TellsNone b = is_location b ≡ false

server_talks : (s : ServerState) (i : NodeInput) → Talks s i (λ r b. TellsNone b) (λ v. Unit {0}) (λ x. Unit {0})
server_talks s i =
    record {
      quiet = λ receiver b is. quiet_tells b is;
      reads = λ m number handle version offset count r bytes is asked row same there. refl;
      lengths = λ m number handle version r is asked row same. refl;
      pushes = λ m id bytes rest is asked. (tt, λ receiver hops. refl);
      settled = λ handle version serial. tt;
      numbers = λ m id handle version t deadline p bytes placed is asked primary new there fit. tt;
    }
  where
    quiet_tells : (b : Body) → is_quiet b ≡ true → is_location b ≡ false
    quiet_tells (body.Told number o) is = absurd (let both : false ≡ true = is in cc)
    quiet_tells other is = refl

all_kept : (es : List (DataId × List ℕ)) → AllOf (λ x. Unit {0}) es
all_kept [] = tt
all_kept (x ∷ es) = (tt, all_kept es)

pub server_tells : (s : ServerState) (moment : ℕ) (i : NodeInput) (choice : Choice) → AllOf (λ m. TellsNone m.body) (server_step s moment i choice).out.sent
server_tells s moment i choice = (step_said (λ r b. TellsNone b) (λ v. Unit {0}) (λ x. Unit {0}) s moment i choice (server_talks (server_at s moment) i) (all_kept s.pushed.entries)).0

pub restart_tells : (s : ServerState) (moment : ℕ) (choice : Choice) (e : Ending) → AllOf (λ m. TellsNone m.body) (server_restarts s moment choice e).out.sent
restart_tells s moment choice Goes = tt
restart_tells s moment choice Lost = tt
restart_tells s moment choice (Stops made) = tt

client_word : (s t : ClientState) (b : Body) → IsClientsWord s t b → is_location b ≡ false
client_word s t (body.Told number o) is = absurd is
client_word s t other is = refl

pub client_tells : (s : ClientState) (d : ClientDoing) (o : Option Message) → IsStepOf s d → d.sent ≡ o → AllOf (λ m. TellsNone m.body) (option_to_list o)
client_tells s d None step is = tt
client_tells s d (Some m) step is = (client_word s d.client m.body (step.says m is).1, tt)

-- a message of a step that tells a location with a granted round

pub record IsAnswer (u : WorldState) (m : Message) (number : ℕ) (l : Location) : Type 0 where
  pub up : IsTrue u.master.up
  pub ask : Message
  pub file : FileId
  pub what : Wanted
  pub deadline : Moment
  pub lost : Bool
  pub sent_is : IsSent u.sent ask
  pub sender_is : ask.sender ≡ m.receiver
  pub body_is : ask.body ≡ body.Ask number file what deadline lost
  pub told : IsToldOf u.master.logged file.0 l
  pub shape : IsShapeIn u.master.logged l.handle.0 l.shape

abbrev AreAnswers : WorldState → WorldState → Type 0
AreAnswers u v = (place : ℕ) (m : Message) → length u.sent ≤ place → element_at v.sent place ≡ Some m → (number : ℕ) (l : Location) → m.body ≡ body.Told number (Some l) → 1 ≤ l.round.0 → IsAnswer u m number l

pub none_new : {A : Type 0} (sent ms : List Message) (k place : ℕ) (m : Message) → AllOf (λ x. TellsNone x.body) ms → length sent ≤ place → element_at (sent ++ stamped k ms) place ≡ Some m → (number : ℕ) (l : Location) → m.body ≡ body.Told number (Some l) → A
none_new sent ms k place m none from at number l is =
    let new = new_one sent ms k place m from at in
    absurd (true≢false (sym (ap is_location ((new.2).2 ∙ is)) ∙ all_at (λ (x : Message). TellsNone x.body) ms (new.1).0 new.0 none (new.1).1))

ends_sent : (W : Message → Type 0) (m : MasterState) (d : MasterDoing) (choice : Choice) (e : Ending) → AllOf W d.sent → AllOf W (master_ends m d choice e).out.sent
ends_sent W m d choice Goes h = all_in_order W choice.order d.sent h
ends_sent W m d choice Lost h = tt
ends_sent W m d choice (Stops made) h = tt

step_sent : (W : Message → Type 0) (m : MasterState) (moment : ℕ) (i : NodeInput) (choice : Choice) → AllOf W (master_goes m moment i choice.refused).sent → AllOf W (master_step m moment i choice).out.sent
step_sent W m moment i choice h =
    let d : MasterDoing = master_goes m moment i choice.refused in
    on_cond (λ (t : Taken MasterState). AllOf W t.out.sent) m.up (master_bounded m i d choice) (no_step m)
    (λ _. on_cond (λ (t : Taken MasterState). AllOf W t.out.sent) (may_end m i d choice.ending) (master_ends m d choice choice.ending) (no_step m) (λ _. ends_sent W m d choice choice.ending h) (λ _. tt)) (λ _. tt)

each_answered : (config : Config) (servers clients : ℕ) (u : WorldState) → IsReached config servers clients u → IsTrue u.observer.are_clocks_kept → HoldsAfter u (λ e x. AreAnswers u x.world)
each_answered config servers clients u r clocks =
    record {
      nothing = λ e place m from at number l is granted. none_before u.sent place m from at;
      masters = λ e moment i choice given up place m from at number l is granted. by_input e moment i choice given up place m from at number l is granted (asked_or_not i);
      opens = λ e moment choice place m from at number l is granted. none_new u.sent (master_restart u.master moment choice).out.sent k place m (subst (λ (ms : List Message). AllOf (λ x. TellsNone x.body) ms) (sym (restart_silent u.master moment choice)) tt) from at number l is;
      serves = λ e index moment s i choice there given up place m from at number l is granted. none_new u.sent (server_step s moment i choice).out.sent k place m (server_tells s moment i choice) from at number l is;
      restarts = λ e index moment s choice there place m from at number l is granted. none_new u.sent (server_restart s moment choice).out.sent k place m (restart_tells s moment choice choice.ending) from at number l is;
      steps = λ e index moment s i choice there given up place m from at number l is granted. none_new u.sent (client_step s moment i choice).out.sent k place m
          (of_step (λ t ms. AllOf (λ x. TellsNone x.body) ms) s moment i choice (numbered.each index s there).named (λ d step. client_tells (client_at s moment) d d.sent step refl) tt tt) from at number l is;
      calls = λ e index moment s c choice there may place m from at number l is granted. none_new u.sent (client_call s moment c choice).out.sent k place m
          (of_call (λ t ms. AllOf (λ x. TellsNone x.body) ms) s moment c choice (numbered.each index s there).named (λ d step. client_tells (client_at s moment) d d.sent step refl) tt) from at number l is;
      rots = λ e index q s x at_place byte ending is_kept there held up place m from at number l is granted. none_before u.sent place m from at;
    }
  where
    k : ℕ
    k = suc (length u.sent)

    numbered : AreNumbered u.sent u.clients
    numbered = numbered_reached config servers clients u r

    by_input : (e : Event) (moment : ℕ) (i : NodeInput) (choice : Choice) → IsGiven u e node.Master moment i → IsTrue u.master.up → (place : ℕ) (m : Message) → length u.sent ≤ place
        → element_at (u.sent ++ stamped (suc (length u.sent)) (master_step u.master moment i choice).out.sent) place ≡ Some m → (number : ℕ) (l : Location) → m.body ≡ body.Told number (Some l) → 1 ≤ l.round.0
        → IsUnasked i ⊎ IsAsk i → IsAnswer u m number l
    by_input e moment i choice given up place m from at number l is granted (inl none) =
        none_new u.sent (master_step u.master moment i choice).out.sent k place m
        (step_sent IsSilent u.master moment i choice (unasked_step config servers clients u r clocks up (free_reached config servers clients u r clocks up) moment i choice.refused none).sent) from at number l is
    by_input e moment i choice given up place m from at number l is granted (inr ask) =
        let new = new_one u.sent (master_step u.master moment i choice).out.sent k place m from at in
        let all = step_sent (IsSaid u.master.logged (ask.message).sender ask.number (ask.file).0) u.master moment i choice (asked_step config servers clients u r clocks up (free_reached config servers clients u r clocks up) moment i choice.refused ask).sent in
        let one = all_at (IsSaid u.master.logged (ask.message).sender ask.number (ask.file).0) (master_step u.master moment i choice).out.sent (new.1).0 new.0 all (new.1).1 number l ((new.2).2 ∙ is) granted in
        record {
          up = up;
          ask = ask.message;
          file = ask.file;
          what = ask.what;
          deadline = ask.deadline;
          lost = ask.lost;
          sent_is = came_in u e node.Master moment i given ask.message ask.taken;
          sender_is = sym one.1 ∙ (new.2).1;
          body_is = subst (λ (n : ℕ). (ask.message).body ≡ body.Ask n ask.file ask.what ask.deadline ask.lost) (sym one.0) ask.is;
          told = one.2;
          shape = told_shapes_are_of_their_chunks u.master moment i choice (new.1).0 new.0 (new.1).1 number l ((new.2).2 ∙ is);
        }

-- two asks of a client under one number are one
same_ask : (config : Config) (servers clients : ℕ) (w : WorldState) → IsReached config servers clients w → (client number : ℕ) (ask other : Message) → IsSent w.sent ask → IsSent w.sent other → ask.sender ≡ the_client client → other.sender ≡ the_client client
    → is_request number ask.body ≡ true → is_request number other.body ≡ true → ask ≡ other
same_ask config servers clients w r client number ask other sent also sender other_sender is other_is =
    same_counted (λ m. is_from_client client m.sender && is_request number m.body) w.sent sent.0 also.0 ask other (requests_are_numbered_once config servers clients w r client number).0 sent.1 also.1 (counted ask sender is) (counted other other_sender other_is)
  where
    counted : (m : Message) → m.sender ≡ the_client client → is_request number m.body ≡ true → is_from_client client m.sender && is_request number m.body ≡ true
    counted m from request = ap (λ (n : Node). is_from_client client n && is_request number m.body) from ∙ (ap (λ (b : Bool). b && is_request number m.body) (same_number client) ∙ request)

abbrev file_in : Body → ℕ
file_in (body.Ask number file what deadline lost) = file.0
file_in other = 0

-- The step of the list in which a location was told: of the file that was asked for, at a master that was up.
pub record WasToldIn (config : Config) (servers clients : ℕ) (v : WorldState) (file : ℕ) (l : Location) (place : ℕ) : Type 0 where
  pub before : WorldState
  pub reached : IsReached config servers clients before
  pub unsent : length before.sent ≤ place
  pub steps : List (Event × Choice)
  pub rest : after_events before steps ≡ v
  pub up : IsTrue before.master.up
  pub told : IsToldOf before.master.logged file l

-- with which shape it was told
pub told_shaped : (config : Config) (servers clients : ℕ) (w u : WorldState) → IsReached config servers clients u → IsTrue u.observer.are_clocks_kept → (step : Event × Choice) (client file : ℕ) (l : Location) (place : ℕ) (t : IsToldAt w.sent client file l place)
    → length u.sent ≤ place → element_at (happens u step.0 step.1).world.sent place ≡ Some t.told → IsShapeIn u.master.logged l.handle.0 l.shape
told_shaped config servers clients w u reached clocks step client file l place t from at =
    (holds_after u (λ e x. AreAnswers u x.world) (each_answered config servers clients u reached clocks) step.0 step.1 place t.told from at t.number l t.body_is t.granted).shape

module _ (config : Config) (servers clients : ℕ) (w : WorldState) (r : IsReached config servers clients w) where
  -- a location that was told since a world, in its next step
  pub told_now : (u : WorldState) → IsReached config servers clients u → IsTrue u.observer.are_clocks_kept → (step : Event × Choice) (more : List (Event × Choice)) → after_events u (step ∷ more) ≡ w → (client file : ℕ) (l : Location) (place : ℕ) (t : IsToldAt w.sent client file l place)
      → length u.sent ≤ place → element_at (happens u step.0 step.1).world.sent place ≡ Some t.told → IsTrue u.master.up × IsToldOf u.master.logged file l
  told_now u reached clocks step more path client file l place t from at = (a.up, subst (λ (n : ℕ). IsToldOf u.master.logged n l) same a.told)
    where
      a : IsAnswer u t.told t.number l
      a = holds_after u (λ e x. AreAnswers u x.world) (each_answered config servers clients u reached clocks) step.0 step.1 place t.told from at t.number l t.body_is t.granted

      grown : IsGrown u.sent w.sent
      grown = subst (λ (v : WorldState). IsGrown u.sent v.sent) path (steps_grown u (step ∷ more))

      there : IsSent w.sent a.ask
      there = subst (λ (ms : List Message). IsSent ms a.ask) (sym grown.1) (sent_before u.sent grown.0 a.ask a.sent_is)

      one : a.ask ≡ (t.asked).ask
      one =
          same_ask config servers clients w r client t.number a.ask (t.asked).ask there (t.asked).sent_is (a.sender_is ∙ t.receiver_is) (t.asked).sender_is (ap (λ (b : Body). is_request t.number b) a.body_is ∙ same_number t.number)
          (ap (λ (b : Body). is_request t.number b) (t.asked).body_is ∙ same_number t.number)

      same : (a.file).0 ≡ file
      same = sym (ap file_in a.body_is) ∙ (ap (λ (m : Message). file_in m.body) one ∙ (ap file_in (t.asked).body_is ∙ (t.asked).file_is))

  -- one that was told in the worlds before this one
  pub was_told_in : ((v : WorldState) (steps : List (Event × Choice)) → after_events v steps ≡ w → IsTrue v.observer.are_clocks_kept) → (v : WorldState) → IsReached config servers clients v → (more : List (Event × Choice)) → after_events v more ≡ w
      → (client file : ℕ) (l : Location) (place : ℕ) (t : IsToldAt w.sent client file l place) → element_at v.sent place ≡ Some t.told → WasToldIn config servers clients v file l place
  was_told_in clocks v there more to client file l place t at =
      record { before = u; reached = (h.before, refl); unsent = h.unsent; steps = h.step ∷ h.after; rest = rest; up = now.0; told = now.1 }
    where
      start : WorldState
      start = new_world config servers clients

      h : SentIn start there.0 place t.told
      h = sent_in start there.0 place t.told (omega arith) (ap (λ (x : WorldState). element_at x.sent place) there.1 ∙ at)

      u : WorldState
      u = after_events start h.before

      rest : after_events u (h.step ∷ h.after) ≡ v
      rest = sym (ap (λ (steps : List (Event × Choice)). after_events start steps) h.steps_are ∙ after_both start h.before (h.step ∷ h.after)) ∙ there.1

      path : after_events u (h.step ∷ (h.after ++ more)) ≡ w
      path = after_both u (h.step ∷ h.after) more ∙ (ap (λ (x : WorldState). after_events x more) rest ∙ to)

      now : IsTrue u.master.up × IsToldOf u.master.logged file l
      now = told_now u (h.before, refl) (clocks u (h.step ∷ (h.after ++ more)) path) h.step (h.after ++ more) path client file l place t h.unsent h.sent_is
