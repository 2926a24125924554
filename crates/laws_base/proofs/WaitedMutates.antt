-- In each world that is reached, a client that waits for its data to be placed has asked for that.
use Rattle.std.proofs.Common.{◌≡◌, ◌⊎◌, ℕ, zero, suc, List, [], ◌∷◌, ◌++◌, length, map, Option, Some, None, refl, sym, ap, subst, ◌∙◌, inl, inr}
use Rattle.std.specs.Option.{option_to_list}
use Rattle.gfs_types.specs.declared.config.Config.{Config}
use Rattle.gfs_types.specs.declared.call.Call.{Call}
use Rattle.gfs_types.specs.declared.answer.Answer.TheVariants as answer
use Rattle.gfs_types.specs.declared.refusal.Refusal.TheVariants.{NoMemory}
use Rattle.messages.specs.declared.event.NodeInput.{NodeInput}
use Rattle.messages.specs.declared.event.NodeInput.TheVariants as input
use Rattle.messages.specs.declared.message.Message.{Message}
use Rattle.client_state.specs.declared.call.CurrentCall.{CurrentCall}
use Rattle.client_state.specs.declared.call.ToldChunk.{ToldChunk}
use Rattle.client_state.specs.declared.call.Stage.{Stage}
use Rattle.client_state.specs.declared.call.Stage.TheVariants.{AskedNames, AskedWhere, MustAskAgain, SentData, SentMutate, SentRead, IsOver, HasAnswer}
use Rattle.protocol.specs.Tables.{element_at, with_at, first_numbers}
use Rattle.protocol.specs.Sending.{the_client}
use Rattle.protocol.specs.Choice.{Choice, Ending, Goes, Lost, Stops}
use Rattle.protocol.specs.Seen.{Taken, no_step}
use Rattle.protocol.specs.Client.{ClientState, ClientDoing, new_client, client_begins, answers}
use Rattle.protocol.specs.ClientStep.{client_at, client_goes, client_call_goes, may_step, client_ends, client_step, client_call}
use Rattle.protocol.specs.MasterSnapshots.{first_is_true}
use Rattle.protocol.specs.MasterStep.{master_step, master_restart}
use Rattle.protocol.specs.ServerStep.{server_step, server_restart}
use Rattle.protocol.specs.World.{WorldState, new_world, stamped, after_events}
use Rattle.laws_base.proofs.Steps.{on_cond, none_some, same_some}
use Rattle.laws_base.proofs.ServerMoves.{IsCameIn}
use Rattle.laws_base.proofs.RisingOrders.{set_cases}
use Rattle.laws_base.proofs.MembersRecorded.{kept_place}
use Rattle.laws_base.proofs.Events.{HoldsAfter, world_reached}
use Rattle.laws_base.proofs.ClientWalk.{IsIdle, KeepsClient, KeepsCalls, HoldsAt, step_kept, call_kept}
use Rattle.laws_base.proofs.RequestsOnce.{AreNumbered, each_event, numbered_reached}
use Rattle.laws_base.specs.WaitedRounds.{waits_at, waited, IsMutateOf, HasAskedFor, WaitedMutatesWereSent}

-- what a step made of a client: it waits for what it waited for before, or asks for it now

pub record IsAskedNow (s : ClientState) (d : ClientDoing) (chunk : ToldChunk) (number : ℕ) : Type 0 where
  pub asked : Message
  pub sent_is : d.sent ≡ Some asked
  pub sender_is : asked.sender ≡ the_client s.id
  pub body_is : IsMutateOf s.id chunk number asked.body

abbrev IsNext : ClientState → ClientDoing → Type 0
IsNext s d = (chunk : ToldChunk) (number : ℕ) → waited d.client.current ≡ Some (chunk, number) → IsAskedNow s d chunk number ⊎ (waited s.current ≡ Some (chunk, number))

abbrev Any : ClientDoing → CurrentCall → Type 0
Any d c = Unit {0}

none_waited : (s : ClientState) (d : ClientDoing) → waited d.client.current ≡ None → IsNext s d
none_waited s d none chunk number is = none_some (chunk, number) (sym none ∙ is)

idle_waits : (st : Stage) → IsIdle st → waits_at st ≡ None
idle_waits (HasAnswer reply) is = refl
idle_waits MustAskAgain is = refl
idle_waits IsOver is = refl
idle_waits AskedNames is = absurd is
idle_waits (AskedWhere number) is = absurd is
idle_waits (SentData chunk primary number) is = absurd is
idle_waits (SentMutate chunk number) is = absurd is
idle_waits (SentRead chunk left number) is = absurd is

module _ (s : ClientState) where
  this_asked : (d : ClientDoing) (x y : ToldChunk × ℕ) → IsAskedNow s d x.0 x.1 → Some x ≡ Some y → IsAskedNow s d y.0 y.1
  this_asked d x y h is = subst (λ (z : ToldChunk × ℕ). IsAskedNow s d z.0 z.1) (same_some x y is) h

  next_kept : KeepsClient s (λ b. Unit {0}) Any Any (λ d c l. Unit {0}) (λ d c chunk left. Unit {0}) (IsNext s)
  next_kept =
      record {
        changes = λ d c e same h. tt;
        name_changes = λ d c e same h. tt;
        begins = λ d c e same end h. tt;
        drops = λ d c chunk h. tt;
        notes = λ d c index h. tt;
        looks = λ d c index h. tt;
        finds = λ d c index e end is h. tt;
        hears = λ c number l now at came h. (tt, tt);
        holders = λ d c l fit. tt;
        left = λ c chunk rest number now at fresh h. tt;
        answered = λ d c reply h. none_waited s _ refl;
        name_answered = λ d c reply h. none_waited s _ refl;
        opened = λ c number file shape now at came h. none_waited s _ refl;
        waits = λ d c idle h. none_waited s _ (idle_waits c.stage idle);
        waits_again = λ d c h. none_waited s _ refl;
        asking = λ d c h. none_waited s _ refl;
        reads = λ d c chunk x rest r h. none_waited s _ refl;
        pushes = λ d c l g first is hop fit h. none_waited s _ refl;
        mutates = λ c chunk primary number now at fresh h x n is. inl (this_asked _ (chunk, number) (x, n) (record {
          asked = _;
          sent_is = refl;
          sender_is = refl;
          body_is = record { id = _; aim = _; deadline = _; is = refl; client_is = refl; seq_is = refl };
        }) is);
        naming = λ d c end h. none_waited s _ refl;
      }

  begun : IsNext s (client_begins s)
  begun chunk number is = inr is

  at_stage : (c : CurrentCall) (st : Stage) → HoldsAt s Any Any c st
  at_stage c AskedNames = tt
  at_stage c (AskedWhere number) = tt
  at_stage c MustAskAgain = tt
  at_stage c (SentData chunk primary number) = tt
  at_stage c (SentMutate chunk number) = tt
  at_stage c (SentRead chunk left number) = tt
  at_stage c IsOver = tt
  at_stage c (HasAnswer reply) = tt

  calls_next : KeepsCalls s Any Any (IsNext s)
  calls_next =
      record {
        replies = λ reply. none_waited s _ refl;
        closes = λ fd file is. none_waited s _ refl;
        named = λ c. tt;
        filed = λ c file index last is. tt;
      }

all_came : (i : NodeInput) → IsCameIn (λ b. Unit {0}) i
all_came (input.Deliver m) = tt
all_came input.Tick = tt

goes_next : (s : ClientState) (moment : ℕ) (i : NodeInput) → IsNext (client_at s moment) (client_goes s moment i)
goes_next s moment i =
    let at : ClientState = client_at s moment in
    step_kept at (λ b. Unit {0}) Any Any (λ d c l. Unit {0}) (λ d c chunk left. Unit {0}) (IsNext at) (next_kept at) i s.current refl (all_came i) (λ c is. at_stage at c c.stage) (begun at)

call_next : (s : ClientState) (moment : ℕ) (c : Call) → IsNext (client_at s moment) (client_call_goes s moment c)
call_next s moment c =
    let at : ClientState = client_at s moment in
    call_kept at (λ b. Unit {0}) Any Any (λ d c l. Unit {0}) (λ d c chunk left. Unit {0}) (IsNext at) (next_kept at) (calls_next at) c (begun at)

-- messages are sent

last_at : (xs : List Message) (y : Message) → element_at (xs ++ y ∷ []) (length xs) ≡ Some y
last_at [] y = refl
last_at (x ∷ xs) y = last_at xs y

still_asked : (sent more : List Message) (client : ℕ) (chunk : ToldChunk) (number : ℕ) → HasAskedFor sent client chunk number → HasAskedFor (sent ++ more) client chunk number
still_asked sent more client chunk number h =
    record { asked = h.asked; place = h.place; sent_is = kept_place sent more h.place h.asked h.sent_is; sender_is = h.sender_is; body_is = h.body_is }

abbrev HaveAsked : List Message → List ClientState → Type 0
HaveAsked sent clients = (index : ℕ) (s : ClientState) → element_at clients index ≡ Some s → (chunk : ToldChunk) (number : ℕ) → waited s.current ≡ Some (chunk, number) → HasAskedFor sent (suc index) chunk number

more_sent : (sent more : List Message) (clients : List ClientState) → HaveAsked sent clients → HaveAsked (sent ++ more) clients
more_sent sent more clients h index s at chunk number is = still_asked sent more (suc index) chunk number (h index s at chunk number is)

asked_now : (sent : List Message) (k index : ℕ) (s : ClientState) (d : ClientDoing) (chunk : ToldChunk) (number : ℕ) → s.id ≡ suc index → IsAskedNow s d chunk number → HasAskedFor (sent ++ stamped k (option_to_list d.sent)) (suc index) chunk number
asked_now sent k index s d chunk number own h =
    subst (λ (o : Option Message). HasAskedFor (sent ++ stamped k (option_to_list o)) (suc index) chunk number) (sym h.sent_is)
    (record {
      asked = record h.asked { number = k };
      place = length sent;
      sent_is = last_at sent (record h.asked { number = k });
      sender_is = h.sender_is ∙ ap (λ (n : ℕ). the_client n) own;
      body_is = subst (λ (n : ℕ). IsMutateOf n chunk number (h.asked).body) own h.body_is;
    })

module _ (sent : List Message) (k index : ℕ) (clients : List ClientState) (s : ClientState) (at : element_at clients index ≡ Some s) (own : s.id ≡ suc index) (h : HaveAsked sent clients) where
  abbrev Left : Taken ClientState → Type 0
  Left t = HaveAsked (sent ++ stamped k t.out.sent) (with_at clients index t.state)

  one_left : (t : Taken ClientState) → ((chunk : ToldChunk) (number : ℕ) → waited t.state.current ≡ Some (chunk, number) → HasAskedFor (sent ++ stamped k t.out.sent) (suc index) chunk number) → Left t
  one_left t now other u there chunk number is =
      elim (set_cases clients index t.state other u there) [
        | inl both ↦ subst (λ (n : ℕ). HasAskedFor (sent ++ stamped k t.out.sent) (suc n) chunk number) (sym both.0) (now chunk number (ap (λ (v : ClientState). waited v.current) (sym both.1) ∙ is))
        | inr before ↦ more_sent sent (stamped k t.out.sent) clients h other u before chunk number is
      ]

  goes_left : (moment : ℕ) (d : ClientDoing) → IsNext (client_at s moment) d → (e : Ending) → Left (client_ends s d e)
  goes_left moment d next Goes =
      one_left (client_ends s d Goes)
      (λ chunk number is. elim (next chunk number is) [
        | inl new ↦ asked_now sent k index (client_at s moment) d chunk number own new
        | inr old ↦ more_sent sent (stamped k (option_to_list d.sent)) clients h index s at chunk number old
      ])
  goes_left moment d next Lost = one_left (client_ends s d Lost) (λ chunk number is. none_some (chunk, number) is)
  goes_left moment d next (Stops made) = one_left (client_ends s d (Stops made)) (λ chunk number is. none_some (chunk, number) is)

  step_left : (moment : ℕ) (i : NodeInput) (choice : Choice) → Left (client_step s moment i choice)
  step_left moment i choice =
      on_cond Left (may_step s) (client_ends s (client_goes s moment i) choice.ending) (no_step s) (λ _. goes_left moment (client_goes s moment i) (goes_next s moment i) choice.ending)
      (λ _. one_left (no_step s) (λ chunk number is. more_sent sent [] clients h index s at chunk number is))

  call_left : (moment : ℕ) (c : Call) (choice : Choice) → Left (client_call s moment c choice)
  call_left moment c choice =
      let refused : ClientDoing = answers (client_begins (client_at s moment)) (answer.Refused NoMemory) in
      on_cond Left (first_is_true choice.refused) (client_ends s refused choice.ending) (client_ends s (client_call_goes s moment c) choice.ending)
      (λ _. goes_left moment refused (none_waited (client_at s moment) refused refl) choice.ending) (λ _. goes_left moment (client_call_goes s moment c) (call_next s moment c) choice.ending)

-- each event

record IsOn (w : WorldState) : Type 0 where
  numbered : AreNumbered w.sent w.clients
  asked : HaveAsked w.sent w.clients

on_event : (w : WorldState) → IsOn w → HoldsAfter w (λ e x. IsOn x.world)
on_event w h =
    let n = each_event w h.numbered in
    let k : ℕ = suc (length w.sent) in
    record {
      nothing = λ e. h;
      masters = λ e moment i choice is up. record { numbered = n.masters e moment i choice is up; asked = more_sent w.sent (stamped k (master_step w.master moment i choice).out.sent) w.clients h.asked };
      opens = λ e moment choice. record { numbered = n.opens e moment choice; asked = more_sent w.sent (stamped k (master_restart w.master moment choice).out.sent) w.clients h.asked };
      serves = λ e index moment s i choice at is up. record { numbered = n.serves e index moment s i choice at is up; asked = more_sent w.sent (stamped k (server_step s moment i choice).out.sent) w.clients h.asked };
      restarts = λ e index moment s choice at. record { numbered = n.restarts e index moment s choice at; asked = more_sent w.sent (stamped k (server_restart s moment choice).out.sent) w.clients h.asked };
      steps = λ e index moment s i choice at is up. record { numbered = n.steps e index moment s i choice at is up; asked = step_left w.sent k index w.clients s at (h.numbered.each index s at).id h.asked moment i choice };
      calls = λ e index moment s c choice at may. record { numbered = n.calls e index moment s c choice at may; asked = call_left w.sent k index w.clients s at (h.numbered.each index s at).id h.asked moment c choice };
      rots = λ e index handle s r place byte ending is_kept at there up. record { numbered = h.numbered; asked = h.asked };
    }

-- a new world

new_clients : (config : Config) (ns : List ℕ) (index : ℕ) (s : ClientState) → element_at (map (new_client config) ns) index ≡ Some s → waited s.current ≡ None
new_clients config [] index s is = none_some s is
new_clients config (n ∷ ns) zero s is = sym (ap (λ (c : ClientState). waited c.current) (same_some (new_client config n) s is))
new_clients config (n ∷ ns) (suc index) s is = new_clients config ns index s is

new_on : (config : Config) (servers clients : ℕ) → IsOn (new_world config servers clients)
new_on config servers clients =
    record {
      numbered = numbered_reached config servers clients (new_world config servers clients) ([], refl);
      asked = λ index s at chunk number is. none_some (chunk, number) (sym (new_clients config (first_numbers clients) index s at) ∙ is);
    }

pub waited_mutates_were_sent : WaitedMutatesWereSent
waited_mutates_were_sent config servers clients steps index s at chunk number is =
    (world_reached IsOn on_event new_on config servers clients (after_events (new_world config servers clients) steps) (steps, refl)).asked index s at chunk number is
