-- In each world that is reached, the place that a client will answer an append, or answers it now, was told by a Done of data that it pushed for this call; and the settled entry has these bytes.
use Rattle.std.proofs.Common.{◌≡◌, ℕ, zero, suc, ◌-◌, true, List, [], ◌∷◌, ◌++◌, length, map, Option, Some, None, refl, sym, ap, subst, ◌∙◌, inl, inr, Bool, cond}
use Rattle.gfs_types.specs.declared.config.Config.{Config}
use Rattle.gfs_types.specs.declared.ids.DataId.{DataId}
use Rattle.gfs_types.specs.declared.call.Call.{Call}
use Rattle.gfs_types.specs.declared.answer.Answer.{Answer}
use Rattle.gfs_types.specs.declared.answer.Answer.TheVariants as answer
use Rattle.gfs_types.specs.declared.refusal.Refusal.TheVariants.{NoMemory}
use Rattle.messages.specs.declared.event.Event.{Event}
use Rattle.messages.specs.declared.event.Event.TheVariants as event
use Rattle.gfs_types.specs.declared.ids.Node.{Node}
use Rattle.messages.specs.declared.event.NodeInput.{NodeInput}
use Rattle.messages.specs.declared.event.NodeInput.TheVariants as input
use Rattle.messages.specs.declared.message.Body.{Body}
use Rattle.messages.specs.declared.message.Body.TheVariants as body
use Rattle.messages.specs.declared.message.Message.{Message}
use Rattle.client_state.specs.declared.call.CurrentCall.{CurrentCall}
use Rattle.client_state.specs.declared.call.Stage.{Stage}
use Rattle.client_state.specs.declared.call.Stage.TheVariants.{AskedNames, HasAnswer, SentData, SentMutate}
use Rattle.protocol.specs.Tables.{element_at, with_at, first_numbers}
use Rattle.protocol.specs.Sending.{the_client}
use Rattle.protocol.specs.Choice.{Choice, Ending, Goes, Lost, Stops}
use Rattle.protocol.specs.Seen.{Taken, no_step}
use Rattle.protocol.specs.Client.{ClientState, ClientDoing, new_client, client_begins, answers, place_in_file, file_chunk}
use Rattle.protocol.specs.ClientAttempts.{is_append}
use Rattle.protocol.specs.ClientStep.{client_at, client_does, client_goes, client_call_goes, may_step, client_ends, client_step, client_call, fd_of}
use Rattle.protocol.specs.MasterSnapshots.{first_is_true}
use Rattle.protocol.specs.MasterStep.{master_step, master_restart}
use Rattle.protocol.specs.ServerStep.{server_step, server_restart}
use Rattle.protocol.specs.World.{WorldState, new_world, stamped, IsReached}
use Rattle.laws_base.proofs.Steps.{on_cond, none_some, same_some}
use Rattle.laws_base.proofs.RisingOrders.{set_cases, element_numbered}
use Rattle.laws_base.proofs.MembersRecorded.{kept_place}
use Rattle.laws_base.proofs.Events.{IsGiven, HoldsAfter, holds_on}
use Rattle.laws_base.proofs.RequestsOnce.{AreNumbered, each_event, numbered_reached, from_itself, requests_are_numbered_once}
use Rattle.laws_base.specs.Entries.{IsAmong, IsPlacedFor}
use Rattle.laws_base.proofs.SettledEntries.{successes_have_entries}
use Rattle.laws_base.specs.SettledEntries.{HasSettledEntry}
use Rattle.laws_base.specs.AnsweredAppends.{AnswersAppend, AnsweredAppendsHaveEntries}
use Rattle.laws_base.specs.Bytes.{bytes_in, AnsweredAppendsHaveTheirBytes}
use Rattle.laws_base.proofs.Sendings.{appended, IsPushOf, HasPushed, FineReply, FineStage, FineNow, FineAnswer, Good, TellsPlace, TellsInput, does_good, calls_good}
use Rattle.gfs_types.specs.declared.mutation.Mutation.{Mutation}
use Rattle.gfs_types.specs.declared.mutation.Mutation.TheVariants as mutation
use Rattle.messages.specs.declared.message.Target.{Target}
use Rattle.messages.specs.declared.message.Target.TheVariants as target
use Rattle.std.specs.Prelude.{◌==◌, ◌&&◌, unwrap_or}
use Rattle.std.specs.FinMap as table
use Rattle.std.specs.Option.{option_to_list}
use Rattle.std.proofs.lemmas.Bool.{and_from}
use Rattle.primary_order.specs.PrimaryOrder.{place_of}
use Rattle.protocol.specs.Observer.{Placed, order_of}
use Rattle.laws_base.proofs.Entries.{same_number}
use Rattle.laws_base.specs.Attempts.{is_from_client, is_request}
use Rattle.laws_base.proofs.Deadlines.{same_counted}
use Rattle.laws_base.specs.ChunkOrders.{HasMutate}
use Rattle.laws_base.proofs.Numbering.{entries_stem_from_mutates}
use Rattle.relaxed_file.specs.NameStep.{is_name_call}

-- a Done of data of this client told a place, in that chunk of the file; and it pushed these bytes under their number
pub record IsPlaceTold (sent : List Message) (size client : ℕ) (bytes : List ℕ) (offset : ℕ) : Type 0 where
  pub told : Message
  pub id : DataId
  pub index : ℕ
  pub place : ℕ
  pub sent_is : IsAmong sent told
  pub body_is : told.body ≡ body.Done id place
  pub client_is : id.client.0 ≡ client
  pub offset_is : offset ≡ place_in_file size index place
  pub push : Message
  pub push_sent : IsAmong sent push
  pub push_is : IsPushOf client id.seq bytes push

still_told : (sent more : List Message) (size client : ℕ) (bytes : List ℕ) (offset : ℕ) → IsPlaceTold sent size client bytes offset → IsPlaceTold (sent ++ more) size client bytes offset
still_told sent more size client bytes offset h =
    record {
      told = h.told;
      id = h.id;
      index = h.index;
      place = h.place;
      sent_is = ((h.sent_is).0, kept_place sent more (h.sent_is).0 h.told (h.sent_is).1);
      body_is = h.body_is;
      client_is = h.client_is;
      offset_is = h.offset_is;
      push = h.push;
      push_sent = ((h.push_sent).0, kept_place sent more (h.push_sent).0 h.push (h.push_sent).1);
      push_is = h.push_is;
    }

last_at : (xs : List Message) (y : Message) → element_at (xs ++ y ∷ []) (length xs) ≡ Some y
last_at [] y = refl
last_at (x ∷ xs) y = last_at xs y

module _ (A : Call) (file size client : ℕ) (sent : List Message) where
  abbrev F : List Message → ℕ → Type 0
  F ms offset = IsPlaceTold ms size client (appended A) offset

  reply_on : (more : List Message) (reply : Answer) → FineReply A file (F sent) size client sent reply → FineReply A file (F (sent ++ more)) size client (sent ++ more) reply
  reply_on more (answer.At offset) h = λ it. still_told sent more size client (appended A) offset (h it)
  reply_on more other h = tt

  -- what is sent in a step was sent after it
  pushed_on : (k : ℕ) (o : Option Message) (number : ℕ) → HasPushed A file (F sent) size client sent o number → HasPushed A file (F (sent ++ stamped k (option_to_list o))) size client (sent ++ stamped k (option_to_list o)) None number
  pushed_on k o number h =
      elim (h.1) [
        | inl before ↦ (h.0, inl (before.0, kept_place sent (stamped k (option_to_list o)) before.0 h.0 before.1), h.2)
        | inr now ↦
            subst (λ (x : Option Message). HasPushed A file (F (sent ++ stamped k (option_to_list x))) size client (sent ++ stamped k (option_to_list x)) None number) (sym now) (
              record h.0 { number = k },
              inl (length sent, last_at sent (record h.0 { number = k })),
              record { id = h.2.id; rest = h.2.rest; sender_is = h.2.sender_is; body_is = h.2.body_is; client_is = h.2.client_is; seq_is = h.2.seq_is },
            )
      ]

  stage_on : (k : ℕ) (o : Option Message) (st : Stage) → FineStage A file (F sent) size client sent o st → FineStage A file (F (sent ++ stamped k (option_to_list o))) size client (sent ++ stamped k (option_to_list o)) None st
  stage_on k o (HasAnswer reply) h = reply_on (stamped k (option_to_list o)) reply h
  stage_on k o AskedNames h = h
  stage_on k o (SentData chunk primary number) h = λ it. pushed_on k o number (h it)
  stage_on k o (SentMutate chunk number) h = λ it. pushed_on k o number (h it)
  stage_on k o other h = tt

  pushed_later : (more : List Message) (number : ℕ) → HasPushed A file (F sent) size client sent None number → HasPushed A file (F (sent ++ more)) size client (sent ++ more) None number
  pushed_later more number h = (h.0, elim (h.1) [ inl before ↦ inl (before.0, kept_place sent more before.0 h.0 before.1) | inr none ↦ none_some h.0 none ], h.2)

  stage_later : (more : List Message) (st : Stage) → FineStage A file (F sent) size client sent None st → FineStage A file (F (sent ++ more)) size client (sent ++ more) None st
  stage_later more (HasAnswer reply) h = reply_on more reply h
  stage_later more AskedNames h = h
  stage_later more (SentData chunk primary number) h = λ it. pushed_later more number (h it)
  stage_later more (SentMutate chunk number) h = λ it. pushed_later more number (h it)
  stage_later more other h = tt

  tells : (m : Message) → IsAmong sent m → (b : Body) → m.body ≡ b → TellsPlace A file (F sent) size client sent b
  tells m there (body.Done id place) is = λ of pushed index.
      record {
        told = m;
        id = id;
        index = index;
        place = place;
        sent_is = there;
        body_is = is;
        client_is = of;
        offset_is = refl;
        push = pushed.0;
        push_sent = elim (pushed.1) [ inl before ↦ before | inr none ↦ none_some pushed.0 none ];
        push_is = pushed.2;
      }
  tells m there other is = tt

  tells_input : (i : NodeInput) → ((m : Message) → i ≡ input.Deliver m → IsAmong sent m) → TellsInput A file (F sent) size client sent i
  tells_input (input.Deliver m) came = tells m (came m refl) m.body refl
  tells_input input.Tick came = tt

-- what holds of a client at the stage of its call, by the size of the call's file
abbrev IsFine : List Message → ℕ → ClientState → Type 0
IsFine sent client s =
    (c : CurrentCall) → s.current ≡ Some c
    → FineStage c.asked c.file.0 (λ offset. IsPlaceTold sent (file_chunk s c.file.0) client (appended c.asked) offset) (file_chunk s c.file.0) client sent None c.stage

fine_later : (sent more : List Message) (client : ℕ) (s : ClientState) → IsFine sent client s → IsFine (sent ++ more) client s
fine_later sent more client s h = λ c is. stage_later c.asked c.file.0 (file_chunk s c.file.0) client sent more c.stage (h c is)

module _ (sent : List Message) (k client : ℕ) (s : ClientState) (own : s.id ≡ client) (fine : IsFine sent client s) where
  abbrev Told : ℕ → Call → ℕ → Type 0
  Told size A offset = IsPlaceTold sent size client (appended A) offset

  -- a step, with a call in hand
  goes_good : (moment : ℕ) (i : NodeInput) → ((m : Message) → i ≡ input.Deliver m → IsAmong sent m) → (c : CurrentCall) → s.current ≡ Some c
      → Good c.asked c.file.0 (Told (file_chunk s c.file.0) c.asked) (file_chunk s c.file.0) client sent (client_goes s moment i)
  goes_good moment i came c is =
      let size : ℕ = file_chunk s c.file.0 in
      subst (λ (o : Option CurrentCall). Good c.asked c.file.0 (Told size c.asked) size client sent (client_does (client_begins (client_at s moment)) i o)) (sym is)
      (does_good c.asked c.file.0 (Told size c.asked) size client sent (client_begins (client_at s moment)) i c (refl, refl) (fine c is) (tells_input c.asked c.file.0 size client sent i came)
      (refl, tt, own, subst (λ (o : Option CurrentCall). FineNow c.asked c.file.0 (Told size c.asked) size client sent None o) (sym is) ((refl, refl), fine c is)))

  abbrev Left : Taken ClientState → Type 0
  Left t = IsFine (sent ++ stamped k t.out.sent) client t.state

  good_left : (A : Call) (file size : ℕ) (d : ClientDoing) → Good A file (Told size A) size client sent d → IsFine (sent ++ stamped k (option_to_list d.sent)) client d.client
  good_left A file size d h = λ c is.
      let all : List Message = sent ++ stamped k (option_to_list d.sent) in
      let now = subst (λ (o : Option CurrentCall). FineNow A file (Told size A) size client sent d.sent o) is h.3 in
      let sized : file_chunk d.client c.file.0 ≡ size = elim (h.0) [ inl none ↦ none_some c (sym none ∙ is) | inr same ↦ ap (λ (f : ℕ). file_chunk d.client f) (now.0).1 ∙ same ] in
      subst (λ (z : ℕ). FineStage c.asked c.file.0 (λ offset. IsPlaceTold all z client (appended c.asked) offset) z client all None c.stage) (sym sized)
      (subst (λ (f : ℕ). FineStage c.asked f (λ offset. IsPlaceTold all size client (appended c.asked) offset) size client all None c.stage) (sym (now.0).1)
      (subst (λ (x : Call). FineStage x file (λ offset. IsPlaceTold all size client (appended x) offset) size client all None c.stage) (sym (now.0).0) (stage_on A file size client sent k d.sent c.stage now.1)))

  ends_left : (d : ClientDoing) (e : Ending) → IsFine (sent ++ stamped k (option_to_list d.sent)) client d.client → Left (client_ends s d e)
  ends_left d Goes h = h
  ends_left d Lost h = λ c is. none_some c is
  ends_left d (Stops made) h = λ c is. none_some c is

  goes_left : (moment : ℕ) (i : NodeInput) → ((m : Message) → i ≡ input.Deliver m → IsAmong sent m) → (o : Option CurrentCall) → s.current ≡ o → IsFine (sent ++ stamped k (option_to_list (client_goes s moment i).sent)) client (client_goes s moment i).client
  goes_left moment i came None is =
      subst (λ (o : Option CurrentCall). IsFine (sent ++ stamped k (option_to_list (client_does (client_begins (client_at s moment)) i o).sent)) client (client_does (client_begins (client_at s moment)) i o).client) (sym is)
      (λ c there. none_some c (sym is ∙ there))
  goes_left moment i came (Some c) is = good_left c.asked c.file.0 (file_chunk s c.file.0) (client_goes s moment i) (goes_good moment i came c is)

  step_left : (moment : ℕ) (i : NodeInput) (choice : Choice) → ((m : Message) → i ≡ input.Deliver m → IsAmong sent m) → Left (client_step s moment i choice)
  step_left moment i choice came =
      on_cond Left (may_step s) (client_ends s (client_goes s moment i) choice.ending) (no_step s) (λ _. ends_left (client_goes s moment i) choice.ending (goes_left moment i came s.current refl)) (λ _. fine_later sent [] client s fine)

  -- the file of a call that begins
  abbrev file_named : Call → ℕ
  file_named c = cond (is_name_call c) 0 (unwrap_or (table.get s.descriptors (fd_of c)) 0)

  call_good : (moment : ℕ) (c : Call) → Good c (file_named c) (Told (file_chunk s (file_named c)) c) (file_chunk s (file_named c)) client sent (client_call_goes s moment c)
  call_good moment c =
      let there : ℕ = unwrap_or (table.get s.descriptors (fd_of c)) 0 in
      calls_good c (file_named c) (Told (file_chunk s (file_named c)) c) (file_chunk s (file_named c)) client sent (client_begins (client_at s moment)) c refl (λ name. sym (ap (λ (b : Bool). cond b 0 there) name))
      (λ plain file at. sym (ap (λ (b : Bool). cond b 0 there) plain ∙ ap (λ (o : Option ℕ). unwrap_or o 0) at)) (refl, tt, own)

  call_left : (moment : ℕ) (c : Call) (choice : Choice) → Left (client_call s moment c choice)
  call_left moment c choice =
      let refused : ClientDoing = answers (client_begins (client_at s moment)) (answer.Refused NoMemory) in
      on_cond Left (first_is_true choice.refused) (client_ends s refused choice.ending) (client_ends s (client_call_goes s moment c) choice.ending) (λ _. ends_left refused choice.ending (λ e is. none_some e is))
      (λ _. ends_left (client_call_goes s moment c) choice.ending (good_left c (file_named c) (file_chunk s (file_named c)) (client_call_goes s moment c) (call_good moment c)))

  -- what is answered
  answer_told : (moment : ℕ) (i : NodeInput) (choice : Choice) (offset : ℕ) → ((m : Message) → i ≡ input.Deliver m → IsAmong sent m) → (c : CurrentCall) → s.current ≡ Some c → is_append c.asked ≡ true
      → (client_step s moment i choice).out.answer ≡ Some (answer.At offset) → IsPlaceTold sent (file_chunk s c.file.0) client (appended c.asked) offset
  answer_told moment i choice offset came c is append =
      on_cond (λ (t : Taken ClientState). t.out.answer ≡ Some (answer.At offset) → IsPlaceTold sent (file_chunk s c.file.0) client (appended c.asked) offset) (may_step s) (client_ends s (client_goes s moment i) choice.ending) (no_step s) (λ _. by_ending choice.ending)
      (λ _ none. none_some (answer.At offset) none)
    where
      good : Good c.asked c.file.0 (Told (file_chunk s c.file.0) c.asked) (file_chunk s c.file.0) client sent (client_goes s moment i)
      good = goes_good moment i came c is

      by_ending : (e : Ending) → (client_ends s (client_goes s moment i) e).out.answer ≡ Some (answer.At offset) → IsPlaceTold sent (file_chunk s c.file.0) client (appended c.asked) offset
      by_ending Goes answered = subst (λ (o : Option Answer). FineAnswer c.asked c.file.0 (Told (file_chunk s c.file.0) c.asked) (file_chunk s c.file.0) client sent o) answered good.1 append
      by_ending Lost answered = none_some (answer.At offset) answered
      by_ending (Stops made) answered = none_some (answer.At offset) answered

-- what comes in was sent

abbrev message_in : NodeInput → Option Message
message_in (input.Deliver m) = Some m
message_in input.Tick = None

came_to : (w : WorldState) (e : Event) (n : Node) (moment : ℕ) (i : NodeInput) → IsGiven w e n moment i → (m : Message) → i ≡ input.Deliver m → IsAmong w.sent m
came_to w (event.Deliver number now) n moment (input.Deliver x) is m same = subst (λ (y : Message). IsAmong w.sent y) (same_some x m (ap message_in same)) (number - 1, element_numbered w.sent number x is.0)
came_to w (event.Call c asked now) n moment (input.Deliver x) is m same = absurd is
came_to w (event.Tick to now) n moment (input.Deliver x) is m same = absurd is
came_to w (event.Restart k now) n moment (input.Deliver x) is m same = absurd is
came_to w (event.Rot k handle place byte) n moment (input.Deliver x) is m same = absurd is
came_to w (event.Fuse k count torn) n moment (input.Deliver x) is m same = absurd is
came_to w e n moment input.Tick is m same = none_some m (ap message_in same)

-- worlds

abbrev AreFine : List Message → List ClientState → Type 0
AreFine sent clients = (index : ℕ) (s : ClientState) → element_at clients index ≡ Some s → IsFine sent (suc index) s

record IsOn (w : WorldState) : Type 0 where
  numbered : AreNumbered w.sent w.clients
  fine : AreFine w.sent w.clients

more_sent : (sent more : List Message) (clients : List ClientState) → AreFine sent clients → AreFine (sent ++ more) clients
more_sent sent more clients h index s at = fine_later sent more (suc index) s (h index s at)

one_left : (sent more : List Message) (clients : List ClientState) (index : ℕ) (t : ClientState) → IsFine (sent ++ more) (suc index) t → AreFine sent clients → AreFine (sent ++ more) (with_at clients index t)
one_left sent more clients index t now h other u at =
    elim (set_cases clients index t other u at) [
      | inl both ↦ subst (λ (x : ClientState). IsFine (sent ++ more) (suc other) x) (sym both.1) (subst (λ (n : ℕ). IsFine (sent ++ more) (suc n) t) (sym both.0) now)
      | inr there ↦ more_sent sent more clients h other u there
    ]

on_event : (w : WorldState) → IsOn w → HoldsAfter w (λ e x. IsOn x.world)
on_event w h =
    let n = each_event w h.numbered in
    let k : ℕ = suc (length w.sent) in
    record {
      nothing = λ e. h;
      masters = λ e moment i choice is up. record { numbered = n.masters e moment i choice is up; fine = more_sent w.sent (stamped k (master_step w.master moment i choice).out.sent) w.clients h.fine };
      opens = λ e moment choice. record { numbered = n.opens e moment choice; fine = more_sent w.sent (stamped k (master_restart w.master moment choice).out.sent) w.clients h.fine };
      serves = λ e index moment s i choice at is up. record { numbered = n.serves e index moment s i choice at is up; fine = more_sent w.sent (stamped k (server_step s moment i choice).out.sent) w.clients h.fine };
      restarts = λ e index moment s choice at. record { numbered = n.restarts e index moment s choice at; fine = more_sent w.sent (stamped k (server_restart s moment choice).out.sent) w.clients h.fine };
      steps = λ e index moment s i choice at is up. record {
        numbered = n.steps e index moment s i choice at is up;
        fine = one_left w.sent (stamped k (client_step s moment i choice).out.sent) w.clients index (client_step s moment i choice).state
            (step_left w.sent k (suc index) s (h.numbered.each index s at).id (h.fine index s at) moment i choice (came_to w e (the_client (suc index)) moment i is)) h.fine;
      };
      calls = λ e index moment s c choice at may. record {
        numbered = n.calls e index moment s c choice at may;
        fine = one_left w.sent (stamped k (client_call s moment c choice).out.sent) w.clients index (client_call s moment c choice).state
            (call_left w.sent k (suc index) s (h.numbered.each index s at).id (h.fine index s at) moment c choice) h.fine;
      };
      rots = λ e index handle s r place byte ending is_kept at there up. record { numbered = h.numbered; fine = h.fine };
    }

-- a new world

new_clients : (config : Config) (ns : List ℕ) (index : ℕ) (s : ClientState) → element_at (map (new_client config) ns) index ≡ Some s → s.current ≡ None
new_clients config [] index s is = none_some s is
new_clients config (n ∷ ns) zero s is = ap (λ (c : ClientState). c.current) (sym (same_some (new_client config n) s is))
new_clients config (n ∷ ns) (suc index) s is = new_clients config ns index s is

new_on : (config : Config) (servers clients : ℕ) → IsOn (new_world config servers clients)
new_on config servers clients =
    record {
      numbered = numbered_reached config servers clients (new_world config servers clients) ([], refl);
      fine = λ index s at. λ c is. none_some c (sym (new_clients config (first_numbers clients) index s at) ∙ is);
    }

all_on : (config : Config) (servers clients : ℕ) (w : WorldState) → IsReached config servers clients w → IsOn w
all_on config servers clients w r = subst (λ (v : WorldState). IsOn v) r.1 (holds_on (IsOn) (on_event) (new_world config servers clients) r.0 (new_on config servers clients))

-- the entry and its bytes

stems : (config : Config) (servers clients : ℕ) (w : WorldState) → IsReached config servers clients w → (handle place : ℕ) (p : Placed) → element_at (order_of w.observer handle) place ≡ Some p → (from : ℕ) × HasMutate w.sent from p
stems config servers clients w r =
    subst (λ (u : WorldState). (handle place : ℕ) (p : Placed) → element_at (order_of u.observer handle) place ≡ Some p → (from : ℕ) × HasMutate u.sent from p) r.1
    (λ handle place p at. let one = entries_stem_from_mutates config servers clients r.0 handle place p at in (one.0, one.1))

fit_bytes : (aim : Target) (bytes : List ℕ) (m : Mutation) (offset : ℕ) → IsPlacedFor aim bytes m → place_of m ≡ Some offset → bytes_in m ≡ Some bytes
fit_bytes (target.Write at) bytes (mutation.Write o written) offset fits there = ap (λ (x : List ℕ). Some x) fits.1
fit_bytes target.Append bytes (mutation.Append o written) offset fits there = ap (λ (x : List ℕ). Some x) fits
fit_bytes target.Append bytes (mutation.Pad o end) offset fits there = none_some offset there
fit_bytes (target.Write at) bytes (mutation.Append o written) offset fits there = absurd fits
fit_bytes (target.Write at) bytes (mutation.Pad o end) offset fits there = absurd fits
fit_bytes target.Append bytes (mutation.Write o written) offset fits there = absurd fits

abbrev pushed_bytes : Body → Option (List ℕ)
pushed_bytes (body.Push id bytes rest) = Some bytes
pushed_bytes other = None

-- a client pushes once under a number
one_push : (config : Config) (servers clients : ℕ) (w : WorldState) → IsReached config servers clients w → (client number : ℕ) (m n : Message) → IsAmong w.sent m → IsAmong w.sent n → (a b : List ℕ) → IsPushOf client number a m → IsPushOf client number b n → a ≡ b
one_push config servers clients w r client number m n at there a b pushed also =
    same_some a b (sym (ap pushed_bytes pushed.body_is) ∙ ap (λ (x : Message). pushed_bytes x.body) one ∙ ap pushed_bytes also.body_is)
  where
    test : (bytes : List ℕ) (x : Message) → IsPushOf client number bytes x → is_from_client client x.sender && is_request number x.body ≡ true
    test bytes x h =
        and_from (is_from_client client x.sender) (is_request number x.body) (from_itself client x.sender h.sender_is)
        (ap (λ (y : Body). is_request number y) h.body_is ∙ (ap (λ (k : ℕ). k == number) h.seq_is ∙ same_number number))

    one : m ≡ n
    one =
        same_counted (λ x. is_from_client client x.sender && is_request number x.body) w.sent at.0 there.0 m n (requests_are_numbered_once config servers clients w r client number).0 at.1 there.1 (test a m pushed) (test b n also)

module _ (config : Config) (servers clients : ℕ) (w : WorldState) (r : IsReached config servers clients w) (index moment : ℕ) (s : ClientState) (i : NodeInput) (choice : Choice) (offset : ℕ) (a : AnswersAppend w index moment s i choice offset) where
  on_here : IsOn w
  on_here = all_on config servers clients w r

  place_told : IsPlaceTold w.sent (file_chunk s a.current.file.0) (suc index) (appended a.current.asked) offset
  place_told = answer_told w.sent 0 (suc index) s (on_here.numbered.each index s a.is).id (on_here.fine index s a.is) moment i choice offset a.came a.current a.current_is a.append a.answered

  entry_found : (handle : ℕ) × (round : ℕ) × HasSettledEntry w.observer handle round place_told.id place_told.place
  entry_found = successes_have_entries config servers clients w r (place_told.sent_is).0 place_told.told (place_told.sent_is).1 place_told.id place_told.place place_told.body_is

pub answered_appends_have_entries : AnsweredAppendsHaveEntries
answered_appends_have_entries config servers clients w r index moment s i choice offset a =
    record {
      id = told.id;
      client_is = told.client_is;
      index = told.index;
      place = told.place;
      offset_is = told.offset_is;
      handle = found.0;
      round = found.1;
      entry = found.2;
    }
  where
    told : IsPlaceTold w.sent (file_chunk s a.current.file.0) (suc index) (appended a.current.asked) offset
    told = place_told config servers clients w r index moment s i choice offset a

    found : (handle : ℕ) × (round : ℕ) × HasSettledEntry w.observer handle round told.id told.place
    found = entry_found config servers clients w r index moment s i choice offset a

pub answered_appends_have_their_bytes : AnsweredAppendsHaveTheirBytes
answered_appends_have_their_bytes config servers clients w r index moment s i choice offset a fd bytes asked =
    record {
      id = told.id;
      client_is = told.client_is;
      index = told.index;
      place = told.place;
      offset_is = told.offset_is;
      handle = found.0;
      round = found.1;
      entry = found.2;
      bytes_are = fit_bytes mutate.aim mutate.bytes (entry.placed).entry.mutation told.place mutate.fits entry.place_is
          ∙ ap (λ (x : List ℕ). Some x) (one_push config servers clients w r (suc index) (told.id).seq (mutate.pushed).push told.push (mutate.pushed).sent_is told.push_sent mutate.bytes (appended a.current.asked) own told.push_is ∙ ap appended asked);
    }
  where
    told : IsPlaceTold w.sent (file_chunk s a.current.file.0) (suc index) (appended a.current.asked) offset
    told = place_told config servers clients w r index moment s i choice offset a

    found : (handle : ℕ) × (round : ℕ) × HasSettledEntry w.observer handle round told.id told.place
    found = entry_found config servers clients w r index moment s i choice offset a

    entry : HasSettledEntry w.observer found.0 found.1 told.id told.place
    entry = found.2

    stem : (from : ℕ) × HasMutate w.sent from entry.placed
    stem = stems config servers clients w r found.0 entry.place entry.placed entry.is

    mutate : HasMutate w.sent stem.0 entry.placed
    mutate = stem.1

    same_client : (mutate.id).client.0 ≡ suc index
    same_client = sym mutate.client_is ∙ entry.client_is ∙ told.client_is

    own : IsPushOf (suc index) (told.id).seq mutate.bytes (mutate.pushed).push
    own =
        record {
          id = mutate.id;
          rest = (mutate.pushed).rest;
          sender_is = (mutate.pushed).sender_is ∙ ap (λ (n : ℕ). the_client n) same_client;
          body_is = (mutate.pushed).body_is;
          client_is = same_client;
          seq_is = sym mutate.seq_is ∙ entry.seq_is;
        }
