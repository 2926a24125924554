-- What a client that waits for a reading is answered was so.
use Rattle.std.proofs.Common.{◌≡◌, ℕ, zero, suc, ◌-◌, ◌≤◌, Bool, true, false, cond, List, [], ◌∷◌, ◌++◌, length, Option, Some, None, refl, sym, ap, subst, ◌∙◌, inl, inr, arith}
use Rattle.std.specs.Prelude.{◌==◌, ◌&&◌, count_by, IsTrue}
use Rattle.std.specs.Option.{option_to_list}
use Rattle.std.proofs.lemmas.Bool.{and_from}
use Rattle.gfs_types.specs.declared.config.Config.{Config}
use Rattle.gfs_types.specs.declared.ids.Node.{Node}
use Rattle.gfs_types.specs.declared.ids.Node.TheVariants as node
use Rattle.gfs_types.specs.declared.ids.DataId.{DataId}
use Rattle.messages.specs.declared.message.Body.{Body}
use Rattle.messages.specs.declared.message.Body.TheVariants as body
use Rattle.messages.specs.declared.message.Message.{Message}
use Rattle.messages.specs.declared.message.Holder.{Holder}
use Rattle.messages.specs.declared.event.Event.{Event}
use Rattle.messages.specs.declared.event.Event.TheVariants as event
use Rattle.messages.specs.declared.event.NodeInput.{NodeInput}
use Rattle.messages.specs.declared.event.NodeInput.TheVariants as input
use Rattle.client_state.specs.declared.call.CurrentCall.{CurrentCall}
use Rattle.client_state.specs.declared.call.ToldChunk.{ToldChunk}
use Rattle.client_state.specs.declared.call.Stage.{Stage}
use Rattle.client_state.specs.declared.call.Stage.TheVariants.{SentRead}
use Rattle.replica_store.specs.declared.row.Row.{Row}
use Rattle.replica_store.specs.Replicas.{ServerDisk, row_at, read_at}
use Rattle.protocol.specs.Tables.{element_at}
use Rattle.protocol.specs.Sending.{server_number, the_server, the_client, version_of}
use Rattle.protocol.specs.Choice.{Choice, Ending, Goes, Lost, Stops}
use Rattle.protocol.specs.Client.{ClientState, ClientDoing, file_chunk}
use Rattle.protocol.specs.ClientAttempts.{is_length, read_start, read_count}
use Rattle.protocol.specs.ClientStep.{client_at, client_step, client_call}
use Rattle.protocol.specs.Server.{ServerState}
use Rattle.protocol.specs.ServerStep.{server_at, server_step, server_restarts, server_restart}
use Rattle.protocol.specs.MasterStep.{master_step, master_restart}
use Rattle.protocol.specs.World.{WorldState, stamped, new_world, after_events}
use Rattle.laws_base.proofs.Steps.{on_cond, none_some, same_some, tally, count-cons}
use Rattle.laws_base.proofs.Entries.{AllOf, same_number}
use Rattle.laws_base.proofs.RisingOrders.{element_numbered}
use Rattle.laws_base.proofs.MembersRecorded.{place_below, place_cases, all_at}
use Rattle.laws_base.proofs.MessagesSent.{IsSent, sent_before, numbered_sent}
use Rattle.laws_base.specs.Attempts.{is_from_client, is_request, requests_under}
use Rattle.laws_base.proofs.Events.{IsGiven, HoldsAfter, holds_after}
use Rattle.laws_base.proofs.ClientNumbers.{IsSaid, IsStepOf, of_step, of_call}
use Rattle.laws_base.proofs.RequestsOnce.{AreNumbered, from_itself}
use Rattle.laws_base.specs.Reads.{IsReading, request_to, is_answer, IsTrueOf, WasSo, ReadsAreOfTheToldVersion}
use Rattle.laws_base.specs.Words.{HoldAtLeast, AreCurrent}
use Rattle.laws_base.proofs.Locations.{locations_name_current_holders}
use Rattle.laws_base.proofs.MasterTalks.{is_masters, MasterTalks, master_said, restart_said}
use Rattle.laws_base.proofs.Histories.{SentIn, sent_in, steps_grown, after_both}
use Rattle.laws_base.proofs.ServerTalks.{is_quiet, Talks, step_said}
use Rattle.laws_base.proofs.ClientReads.{WasRequestSent, stage_reading}
use Rattle.laws_base.proofs.Known.{AreKnown, known_reached, waited_since}

-- this request makes a server say this
abbrev pub IsReadBy : ServerDisk → Row → Body → Body → Type 0
IsReadBy disk row (body.Read n handle version offset count) (body.Bytes number bytes) =
    (number ≡ n) × (row_at disk handle.0 ≡ Some row) × (row.version.0 ≡ version.0) × (read_at disk handle.0 offset count ≡ Some bytes)
IsReadBy disk row (body.Len n handle version) (body.LenIs number count) = (number ≡ n) × (row_at disk handle.0 ≡ Some row) × (row.version.0 ≡ version.0) × (row.count ≡ count)
IsReadBy disk row request other = ⊥

-- a server of the world says this, by a request that was sent to it
pub record IsAnswered (w : WorldState) (receiver : Node) (b : Body) : Type 0 where
  pub index : ℕ
  pub server : ServerState
  pub server_is : element_at w.servers index ≡ Some server
  pub up : IsTrue server.up
  pub request : Message
  pub sent_is : IsSent w.sent request
  pub to : request.receiver ≡ the_server (suc index)
  pub from : request.sender ≡ receiver
  pub row : Row
  pub so : IsReadBy server.disk row request.body b

abbrev IsAnsweredIfAny : WorldState → Node → Body → Type 0
IsAnsweredIfAny w receiver b = (number : ℕ) → is_answer number b ≡ true → IsAnswered w receiver b

-- what is new among the messages that were sent
abbrev NewAnswers : WorldState → List Message → Type 0
NewAnswers w sent = (place : ℕ) (m : Message) (number : ℕ) → length w.sent ≤ place → element_at sent place ≡ Some m → is_answer number m.body ≡ true → IsAnswered w m.receiver m.body

-- it answers no reading
abbrev AnswersNone : Body → Type 0
AnswersNone b = (number : ℕ) → is_answer number b ≡ true → ⊥

quiet_answer : (w : WorldState) (receiver : Node) (b : Body) → is_quiet b ≡ true → IsAnsweredIfAny w receiver b
quiet_answer w receiver (body.Bytes n bytes) quiet number is = absurd (let both : false ≡ true = quiet in cc)
quiet_answer w receiver (body.LenIs n count) quiet number is = absurd (let both : false ≡ true = quiet in cc)
quiet_answer w receiver other quiet number is = absurd (let both : false ≡ true = is in cc)

-- what is new was sent in the step
new_of_step : (w : WorldState) (ms : List Message) (P : Message → Type 0) → AllOf P ms → (place : ℕ) (m : Message) → length w.sent ≤ place → element_at (w.sent ++ stamped (suc (length w.sent)) ms) place ≡ Some m
    → (x : Message) × P x × ((x.sender ≡ m.sender) × (x.receiver ≡ m.receiver) × (x.body ≡ m.body))
new_of_step w ms P all place m from at =
    elim (place_cases w.sent (stamped (suc (length w.sent)) ms) place m at) [
      | inl before ↦ let below = place_below w.sent place m before in absurd (omega (arith, below, from))
      | inr later ↦ let x = numbered_sent (suc (length w.sent)) ms later.0 m later.2 in (x.0, all_at P ms (x.1).0 x.0 all (x.1).1, x.2)
    ]

none_new : (w : WorldState) → NewAnswers w w.sent
none_new w place m number from at is = let below = place_below w.sent place m at in absurd (omega (arith, below, from))

others_silent : (w : WorldState) (ms : List Message) → AllOf (λ m. AnswersNone m.body) ms → NewAnswers w (w.sent ++ stamped (suc (length w.sent)) ms)
others_silent w ms all place m number from at is =
    let x = new_of_step w ms (λ y. AnswersNone y.body) all place m from at in absurd (x.1 number (subst (λ (b : Body). is_answer number b ≡ true) (sym (x.2).2) is))

masters_none : (b : Body) → is_masters b ≡ true → AnswersNone b
masters_none (body.Bytes n bytes) masters number is = absurd (let both : false ≡ true = masters in cc)
masters_none (body.LenIs n count) masters number is = absurd (let both : false ≡ true = masters in cc)
masters_none other masters number is = absurd (let both : false ≡ true = is in cc)

master_talks : MasterTalks (λ m. AnswersNone m.body)
master_talks = record { plain = λ receiver b masters. masters_none b masters; locates = λ receiver number l current n is. absurd (let both : false ≡ true = is in cc) }

clients_none : (s t : ClientState) (b : Body) → IsSaid s t b → AnswersNone b
clients_none s t (body.Bytes n bytes) said number is = absurd said
clients_none s t (body.LenIs n count) said number is = absurd said
clients_none s t other said number is = absurd (let both : false ≡ true = is in cc)

client_silent : (s : ClientState) (d : ClientDoing) (o : Option Message) → IsStepOf s d → d.sent ≡ o → AllOf (λ m. AnswersNone m.body) (option_to_list o)
client_silent s d None step is = tt
client_silent s d (Some m) step is = (clients_none s d.client m.body (step.says m is).1, tt)

-- a server's step
module _ (w : WorldState) (e : Event) (index moment : ℕ) (s : ServerState) (i : NodeInput) (at : element_at w.servers index ≡ Some s) (given : IsGiven w e (the_server (suc index)) moment i) (up : IsTrue s.up) where
  came : (f : Event) (m : Message) → IsGiven w f (the_server (suc index)) moment (input.Deliver m) → IsSent w.sent m × (m.receiver ≡ the_server (suc index))
  came (event.Deliver number now) m is = ((number - 1, element_numbered w.sent number m is.0), is.1)
  came (event.Call c asked now) m is = absurd is
  came (event.Tick to now) m is = absurd is
  came (event.Restart n now) m is = absurd is
  came (event.Rot server handle place byte) m is = absurd is
  came (event.Fuse n count torn) m is = absurd is

  answered : (m : Message) (b : Body) (row : Row) → i ≡ input.Deliver m → IsReadBy s.disk row m.body b → IsAnswered w m.sender b
  answered m b row is so =
      let there = came e m (subst (λ (j : NodeInput). IsGiven w e (the_server (suc index)) moment j) is given) in
      record { index = index; server = s; server_is = at; up = up; request = m; sent_is = there.0; to = there.1; from = refl; row = row; so = so }

  talks : Talks (server_at s moment) i (IsAnsweredIfAny w) (λ v. Unit {0}) (λ x. Unit {0})
  talks =
      record {
        quiet = quiet_answer w;
        reads = λ m number handle version offset count r bytes is asked row same there n any.
            answered m (body.Bytes number bytes) r is (subst (λ (b : Body). IsReadBy s.disk r b (body.Bytes number bytes)) (sym asked) (refl, row, same, there));
        lengths = λ m number handle version r is asked row same n any.
            answered m (body.LenIs number r.count) r is (subst (λ (b : Body). IsReadBy s.disk r b (body.LenIs number r.count)) (sym asked) (refl, row, same, refl));
        pushes = λ m id bytes rest is asked. (tt, λ receiver hops n any. absurd (let both : false ≡ true = any in cc));
        settled = λ handle version serial. tt;
        numbers = λ m id handle version t deadline p bytes placed is asked primary new there fit. tt;
      }

  all_kept : (es : List (DataId × List ℕ)) → AllOf (λ x. Unit {0}) es
  all_kept [] = tt
  all_kept (x ∷ es) = (tt, all_kept es)

  step_answers : (choice : Choice) → NewAnswers w (w.sent ++ stamped (suc (length w.sent)) (server_step s moment i choice).out.sent)
  step_answers choice place m number from there is =
      let said = step_said (IsAnsweredIfAny w) (λ v. Unit {0}) (λ x. Unit {0}) s moment i choice talks (all_kept s.pushed.entries) in
      let x = new_of_step w (server_step s moment i choice).out.sent (λ y. IsAnsweredIfAny w y.receiver y.body) said.0 place m from there in
      subst (λ (r : Node). IsAnswered w r m.body) (x.2).1 (subst (λ (b : Body). IsAnswered w (x.0).receiver b) (x.2).2 (x.1 number (subst (λ (b : Body). is_answer number b ≡ true) (sym (x.2).2) is)))

restart_silent : (s : ServerState) (moment : ℕ) (choice : Choice) (e : Ending) → AllOf (λ m. AnswersNone m.body) (server_restarts s moment choice e).out.sent
restart_silent s moment choice Goes = tt
restart_silent s moment choice Lost = tt
restart_silent s moment choice (Stops made) = tt

answers_here : (w : WorldState) → AreNumbered w.sent w.clients → HoldsAfter w (λ e x. NewAnswers w x.world.sent)
answers_here w h =
    record {
      nothing = λ e. none_new w;
      masters = λ e moment i choice is up. others_silent w (master_step w.master moment i choice).out.sent (master_said (λ m. AnswersNone m.body) master_talks w.master moment i choice);
      opens = λ e moment choice. others_silent w (master_restart w.master moment choice).out.sent (restart_said (λ m. AnswersNone m.body) master_talks w.master moment choice);
      serves = λ e index moment s i choice at is up. step_answers w e index moment s i at is up choice;
      restarts = λ e index moment s choice at. others_silent w (server_restart s moment choice).out.sent (restart_silent s moment choice choice.ending);
      steps = λ e index moment s i choice at is up. others_silent w (client_step s moment i choice).out.sent
          (of_step (λ t ms. AllOf (λ m. AnswersNone m.body) ms) s moment i choice (h.each index s at).named (λ d step. client_silent (client_at s moment) d d.sent step refl) tt tt);
      calls = λ e index moment s c choice at may. others_silent w (client_call s moment c choice).out.sent
          (of_call (λ t ms. AllOf (λ m. AnswersNone m.body) ms) s moment c choice (h.each index s at).named (λ d step. client_silent (client_at s moment) d d.sent step refl) tt);
      rots = λ e index handle s r place byte ending is_kept at there up. none_new w;
    }

-- one message at most passes a test that is counted once

counted : (f : Message → Bool) (ms : List Message) (place : ℕ) (m : Message) → element_at ms place ≡ Some m → f m ≡ true → 1 ≤ count_by f ms
counted f [] place m at is = none_some m at
counted f (x ∷ ms) zero m at is =
    let whole = count-cons f x ms in
    let one = ap tally (ap f (same_some x m at) ∙ is) in
    omega (arith, whole, one)
counted f (x ∷ ms) (suc place) m at is =
    let whole = count-cons f x ms in
    let rest = counted f ms place m at is in
    omega (arith, whole, rest)

one_passes : (f : Message → Bool) (ms : List Message) → count_by f ms ≤ 1 → (here there : ℕ) (x y : Message) → element_at ms here ≡ Some x → f x ≡ true → element_at ms there ≡ Some y → f y ≡ true → x ≡ y
one_passes f [] few here there x y at is also passes = none_some x at
one_passes f (m ∷ ms) few zero zero x y at is also passes = sym (same_some m x at) ∙ same_some m y also
one_passes f (m ∷ ms) few zero (suc there) x y at is also passes =
    let whole = count-cons f m ms in
    let one = ap tally (ap f (same_some m x at) ∙ is) in
    let more = counted f ms there y also passes in
    absurd (omega (arith, few, whole, one, more))
one_passes f (m ∷ ms) few (suc here) zero x y at is also passes =
    let whole = count-cons f m ms in
    let one = ap tally (ap f (same_some m y also) ∙ passes) in
    let more = counted f ms here x at is in
    absurd (omega (arith, few, whole, one, more))
one_passes f (m ∷ ms) few (suc here) (suc there) x y at is also passes =
    one_passes f ms (let whole = count-cons f m ms in omega (arith, few, whole)) here there x y at is also passes

pub one_request : (sent : List Message) (client number : ℕ) → requests_under client number sent ≤ 1 → (x y : Message) → IsSent sent x → x.sender ≡ the_client client → is_request number x.body ≡ true → IsSent sent y → y.sender ≡ the_client client → is_request number y.body ≡ true
    → x ≡ y
one_request sent client number few x y here mine is there also passes =
    one_passes (λ m. is_from_client client m.sender && is_request number m.body) sent few here.0 there.0 x y
    here.1 (and_from (is_from_client client x.sender) (is_request number x.body) (from_itself client x.sender mine) is)
    there.1 (and_from (is_from_client client y.sender) (is_request number y.body) (from_itself client y.sender also) passes)

-- the request of a reading

asks_number : (disk : ServerDisk) (row : Row) (request b : Body) (number : ℕ) → IsReadBy disk row request b → is_answer number b ≡ true → is_request number request ≡ true
asks_number disk row (body.Read n handle version offset count) (body.Bytes m bytes) number so is = ap (λ (x : ℕ). x == number) (sym so.0) ∙ is
asks_number disk row (body.Len n handle version) (body.LenIs m count) number so is = ap (λ (x : ℕ). x == number) (sym so.0) ∙ is
asks_number disk row request b number so is = absurd so

request_number : (chunk_size number : ℕ) (c : CurrentCall) (chunk : ToldChunk) (holder : Holder) → is_request number (request_to chunk_size number c chunk holder) ≡ true
request_number chunk_size number c chunk holder = on_cond (λ (b : Body). is_request number b ≡ true) (is_length c.asked) _ _ (λ _. same_number number) (λ _. same_number number)

-- what was so, in the words of the law
abbrev IsSoAt : ServerDisk → Row → ℕ → CurrentCall → ToldChunk → Holder → Body → Type 0
IsSoAt disk row chunk_size c chunk holder b = (row_at disk chunk.handle.0 ≡ Some row) × (row.version ≡ holder.version) × IsTrueOf disk row chunk_size c chunk b

so_of : (disk : ServerDisk) (row : Row) (chunk_size number : ℕ) (c : CurrentCall) (chunk : ToldChunk) (holder : Holder) (is : Bool) (b : Body) → is_length c.asked ≡ is
    → IsReadBy disk row (cond is (body.Len number chunk.handle holder.version) (body.Read number chunk.handle holder.version (read_start chunk_size c.index c.asked) (read_count chunk_size c.index c.asked))) b
    → IsSoAt disk row chunk_size c chunk holder b
so_of disk row chunk_size number c chunk holder true (body.LenIs n count) asked so = (so.1, ap (λ (v : ℕ). version_of v) so.2, (asked, so.3))
so_of disk row chunk_size number c chunk holder false (body.Bytes n bytes) asked so = (so.1, ap (λ (v : ℕ). version_of v) so.2, (asked, so.3))
so_of disk row chunk_size number c chunk holder true b asked so = absurd so
so_of disk row chunk_size number c chunk holder false b asked so = absurd so

holds_one : (version : ℕ) (earlier : List Holder) (holder : Holder) (left : List Holder) → HoldAtLeast version (earlier ++ holder ∷ left) → version ≤ holder.version.0
holds_one version [] holder left all = all.0
holds_one version (x ∷ earlier) holder left all = holds_one version earlier holder left all.1

-- the law

module _ (config : Config) (servers clients : ℕ) (steps : List (Event × Choice)) where
  abbrev start : WorldState
  start = new_world config servers clients

  abbrev w : WorldState
  w = after_events start steps

  known : AreKnown w
  known = known_reached config servers clients steps

  module _ (index : ℕ) (s : ClientState) (c : CurrentCall) (chunk : ToldChunk) (left : List Holder) (number : ℕ) (at : element_at w.clients index ≡ Some s) (now : s.current ≡ Some c) (stage : c.stage ≡ SentRead chunk left number) where
    abbrev size : ℕ
    size = file_chunk s c.file.0

    reading : IsReading w.sent (suc index) (file_chunk s c.file.0) c chunk left number
    reading = subst (λ (st : Stage). WasRequestSent w.sent (suc index) (file_chunk s c.file.0) c st) stage ((known.known index s at).stands c now)

    located : (reading.told.told.sender ≡ node.Master) × AreCurrent reading.location
    located = locations_name_current_holders config servers clients w (steps, refl) (reading.told.sent_is).0 reading.told.number reading.told.told reading.location (reading.told.sent_is).1 reading.told.body_is

    at_least : chunk.round.0 ≤ reading.holder.version.0
    at_least =
        let held = holds_one reading.location.round.0 reading.earlier reading.holder left (subst (λ (hs : List Holder). HoldAtLeast reading.location.round.0 hs) reading.holders_are located.1) in
        subst (λ (x : ToldChunk). x.round.0 ≤ reading.holder.version.0) reading.chunk_is held

    module _ (place : ℕ) (m : Message) (there : element_at w.sent place ≡ Some m) (to : m.receiver ≡ the_client (suc index)) (is : IsTrue (is_answer number m.body)) where
      sending : SentIn start steps place m
      sending = sent_in start steps place m (omega arith) there

      abbrev v : WorldState
      v = after_events start sending.before

      before : AreKnown v
      before = known_reached config servers clients sending.before

      w_is : w ≡ after_events v (sending.step ∷ sending.after)
      w_is = ap (λ (xs : List (Event × Choice)). after_events start xs) sending.steps_are ∙ after_both start sending.before (sending.step ∷ sending.after)

      cause : IsAnswered v m.receiver m.body
      cause = holds_after v (λ e x. NewAnswers v x.world.sent) (answers_here v before.numbered) sending.step.0 sending.step.1 place m number sending.unsent sending.sent_is is

      mine : cause.request.sender ≡ the_client (suc index)
      mine = cause.from ∙ to

      asked : is_request number cause.request.body ≡ true
      asked = asks_number cause.server.disk cause.row cause.request.body m.body number cause.so is

      still : IsSent w.sent cause.request
      still =
          let grown = steps_grown v (sending.step ∷ sending.after) in
          subst (λ (u : WorldState). IsSent u.sent cause.request) (sym w_is) (subst (λ (ms : List Message). IsSent ms cause.request) (sym grown.1) (sent_before v.sent grown.0 cause.request cause.sent_is))

      same : cause.request ≡ reading.request
      same =
          one_request w.sent (suc index) number (known.numbered.once (suc index) number).0 cause.request reading.request still mine asked reading.sent_is reading.sender_is
          (ap (is_request number) reading.body_is ∙ request_number size number c chunk reading.holder)

      so : IsSoAt cause.server.disk cause.row size c chunk reading.holder m.body
      so =
          so_of cause.server.disk cause.row size number c chunk reading.holder (is_length c.asked) m.body refl
          (subst (λ (b : Body). IsReadBy cause.server.disk cause.row b m.body) (ap (λ (x : Message). x.body) same ∙ reading.body_is) cause.so)

      place_is : reading.holder.server.0 - 1 ≡ cause.index
      place_is = ap (λ (n : Node). server_number n - 1) (sym reading.receiver_is ∙ (ap (λ (x : Message). x.receiver) (sym same) ∙ cause.to)) ∙ omega arith

      was_so : WasSo start steps index size c chunk reading.holder reading.request place m
      was_so =
          record {
            before = sending.before;
            step = sending.step;
            after = sending.after;
            steps_are = sending.steps_are;
            requested = subst (λ (x : Message). IsSent v.sent x) same cause.sent_is;
            waited = waited_since v before index number cause.request cause.sent_is mine asked (sending.step ∷ sending.after) s c (subst (λ (u : WorldState). element_at u.clients index ≡ Some s) w_is at) now (ap stage_reading stage);
            unsent = sending.unsent;
            answered = sending.sent_is;
            server = cause.server;
            server_is = ap (λ (n : ℕ). element_at v.servers n) place_is ∙ cause.server_is;
            up = cause.up;
            row = cause.row;
            row_is = so.0;
            version_is = so.1;
            so = so.2;
          }

pub reads_are_of_the_told_version : ReadsAreOfTheToldVersion
reads_are_of_the_told_version config servers clients steps index s c chunk left number at now stage = (
  reading config servers clients steps index s c chunk left number at now stage,
  (located config servers clients steps index s c chunk left number at now stage).0,
  at_least config servers clients steps index s c chunk left number at now stage,
  λ place m there to is. was_so config servers clients steps index s c chunk left number at now stage place m there to is,
)
