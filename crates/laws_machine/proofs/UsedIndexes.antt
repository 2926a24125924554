-- In each world that is reached, the location by which a client reads, or goes with a write, is of the part in hand; and it was told to the client, for an ask of its own.
use Rattle.std.proofs.Common.{◌≡◌, ◌⊎◌, ℕ, zero, suc, ◌-◌, true, false, true≢false, List, [], ◌∷◌, ◌++◌, length, map, Option, Some, None, refl, sym, ap, subst, ◌∙◌, inl, inr}
use Rattle.std.specs.Prelude.{◌&&◌, is_none, IsTrue}
use Rattle.std.proofs.lemmas.Bool.{and_parts}
use Rattle.std.specs.Option.{option_to_list}
use Rattle.gfs_types.specs.declared.config.Config.{Config}
use Rattle.gfs_types.specs.declared.call.Call.{Call}
use Rattle.gfs_types.specs.declared.call.Call.TheVariants as call
use Rattle.gfs_types.specs.declared.answer.Answer.{Answer}
use Rattle.gfs_types.specs.declared.answer.Answer.TheVariants as answer
use Rattle.gfs_types.specs.declared.refusal.Refusal.TheVariants.{NoMemory}
use Rattle.gfs_types.specs.declared.ids.ServerId.{ServerId}
use Rattle.gfs_types.specs.declared.ids.Fd.{Fd}
use Rattle.messages.specs.declared.message.Body.{Body}
use Rattle.messages.specs.declared.message.Body.TheVariants as body
use Rattle.messages.specs.declared.message.Message.{Message}
use Rattle.messages.specs.declared.message.Location.{Location}
use Rattle.messages.specs.declared.event.Event.{Event}
use Rattle.messages.specs.declared.event.Event.TheVariants as event
use Rattle.messages.specs.declared.event.NodeInput.{NodeInput}
use Rattle.messages.specs.declared.event.NodeInput.TheVariants as input
use Rattle.client_state.specs.declared.call.CurrentCall.{CurrentCall}
use Rattle.client_state.specs.declared.call.ToldChunk.{ToldChunk}
use Rattle.client_state.specs.declared.call.Stage.{Stage}
use Rattle.client_state.specs.declared.call.Stage.TheVariants.{AskedNames, AskedWhere, MustAskAgain, SentData, SentMutate, SentRead, IsOver, HasAnswer}
use Rattle.client_state.specs.declared.kept.Place.{Place}
use Rattle.client_state.specs.declared.kept.Cached.{Cached}
use Rattle.protocol.specs.Tables.{element_at, with_at, first_numbers}
use Rattle.protocol.specs.Sending.{message, data_id, the_server, the_client}
use Rattle.protocol.specs.Choice.{Choice}
use Rattle.protocol.specs.Client.{ClientState, ClientDoing, new_client, client_begins, stopped_client, answers, file_chunk}
use Rattle.protocol.specs.ClientAttempts.{is_mutation, target_of, mutate_planned, chunk_of}
use Rattle.protocol.specs.ClientStep.{may_call, has_room_to_count, client_at, calls, client_does, client_step, client_call}
use Rattle.protocol.specs.World.{WorldState, new_world, happens, after_events, IsReached}
use Rattle.laws_base.proofs.Steps.{none_some, same_some}
use Rattle.laws_base.proofs.Entries.{AllOf}
use Rattle.laws_base.proofs.RisingOrders.{set_cases, element_numbered}
use Rattle.laws_base.proofs.ServerMoves.{IsCameIn}
use Rattle.laws_base.specs.Reads.{HasAsked, IsTold}
use Rattle.laws_base.specs.Locations.{chunk_used, BeganInTime, WasTold, IsToldNow}
use Rattle.laws_base.proofs.ClientReads.{WasRequestSent, Came, told_later, stepped, called}
use Rattle.laws_base.proofs.Budget.{IsNoMutate}
use Rattle.laws_base.proofs.ClientWalk.{place_at}
use Rattle.laws_base.proofs.Events.{IsGiven, HoldsAfter, holds_after}
use Rattle.laws_base.proofs.Histories.{IsGrown, steps_grown, after_both}
use Rattle.laws_base.proofs.Known.{known_reached}
use Rattle.laws_base.proofs.RequestsOnce.{first_and}
use Rattle.laws_base.proofs.LeasesStayOver.{reached_later}
use Rattle.laws_base.proofs.LocationsUsed.{attempts_go_by_told_locations}
use Rattle.laws_machine.specs.AnsweredWrites.{IsToldChunk}
use Rattle.laws_machine.specs.ToldIndexes.{has_index, PartsGoToTheirChunk}
use Rattle.laws_machine.proofs.CallWalk.{IsOfPart, KeepsCall, StandsAt, StandsNow, IsCalm, IsAsking, Leaves, does_leave, begun_calm, call_calm, at_once_calm}
use Rattle.laws_machine.proofs.KeptIndexes.{IsKeyed, keyed_at, heard_keyed}
use Rattle.laws_machine.proofs.AskedIndexes.{indexes_reached, told_of_part}
use Rattle.laws_machine.proofs.ToldParts.{IsLocated}

-- a location that fits the part in hand, of a read or a write
abbrev pub Fits : CurrentCall → ToldChunk → Type 0
Fits c chunk = IsOfPart c.asked c.index chunk.index

abbrev pub AnyCall : CurrentCall → Type 0
AnyCall c = Unit {0}

abbrev pub Pushed : Option Message → CurrentCall → ToldChunk → ℕ → Type 0
Pushed o c chunk number = IsOfPart c.asked c.index chunk.index

abbrev pub Asking : CurrentCall → ToldChunk → ℕ → Type 0
Asking c chunk number = IsOfPart c.asked c.index chunk.index

abbrev pub AnyPlace : CurrentCall → ToldChunk → ℕ → Type 0
AnyPlace c chunk place = Unit {0}

abbrev pub AnyReply : Call → Answer → Type 0
AnyReply asked reply = Unit {0}

abbrev pub AnyEnd : Answer → Type 0
AnyEnd reply = Unit {0}

abbrev pub IsFitting : ClientState → Type 0
IsFitting s = (c : CurrentCall) → s.current ≡ Some c → StandsAt Fits AnyCall Pushed Asking AnyReply None c c.stage

-- what is sent doesn't matter
relaxed : (o : Option Message) (c : CurrentCall) (st : Stage) → StandsAt Fits AnyCall Pushed Asking AnyReply o c st → StandsAt Fits AnyCall Pushed Asking AnyReply None c st
relaxed o c AskedNames h = h
relaxed o c (AskedWhere number) h = h
relaxed o c MustAskAgain h = h
relaxed o c (SentData chunk primary number) h = h
relaxed o c (SentMutate chunk number) h = h
relaxed o c (SentRead chunk left number) h = h
relaxed o c IsOver h = h
relaxed o c (HasAnswer reply) h = h

of_part : (asked : Call) (index at to : ℕ) → to ≡ at → IsOfPart asked index at → IsOfPart asked index to
of_part (call.Write fd offset bytes) index at to same h = same ∙ h
of_part (call.Read fd offset count) index at to same h = same ∙ h
of_part other index at to same h = tt

-- what comes in to a client was sent to it
pub came_in : (w : WorldState) (e : Event) (client moment : ℕ) (i : NodeInput) → IsGiven w e (the_client client) moment i → IsCameIn (Came w.sent client) i
came_in w (event.Deliver number now) client moment (input.Deliver m) is = (m, (number - 1, element_numbered w.sent number m is.0), is.1, refl)
came_in w (event.Call c asked now) client moment (input.Deliver m) is = absurd is
came_in w (event.Tick to now) client moment (input.Deliver m) is = absurd is
came_in w (event.Restart n now) client moment (input.Deliver m) is = absurd is
came_in w (event.Rot server handle place byte) client moment (input.Deliver m) is = absurd is
came_in w (event.Fuse n count torn) client moment (input.Deliver m) is = absurd is
came_in w e client moment input.Tick is = tt

-- this client asks a primary to place the data of the part in hand
pub record IsPlannedBy (s : ClientState) (m : Message) : Type 0 where
  pub current : CurrentCall
  pub chunk : ToldChunk
  pub number : ℕ
  pub current_is : s.current ≡ Some current
  pub mutates : is_mutation current.asked ≡ true
  pub body_is : m.body ≡ body.Mutate (data_id s.id number) chunk.handle chunk.round (target_of (file_chunk s current.file.0) current.index current.asked) current.deadline

abbrev pub MayAsk : ClientState → Message → Type 0
MayAsk s m = IsNoMutate m.body ⊎ IsPlannedBy s m

module _ (config : Config) (servers clients : ℕ) (w : WorldState) (r : IsReached config servers clients w) (index : ℕ) (s : ClientState) (at : element_at w.clients index ≡ Some s) (moment : ℕ) where
  abbrev Begun : ClientState
  Begun = client_at s moment

  keyed : AllOf IsKeyed s.cache.entries
  keyed = ((indexes_reached config servers clients w r).known index s at).keyed

  keeps : KeepsCall (client_at s moment) (Came w.sent (suc index)) IsKeyed Fits AnyCall Pushed Asking AnyPlace AnyReply
  keeps =
      record {
        keyed = keyed;
        hears = λ d c l h. heard_keyed d c l h;
        finds = λ t c at_index e all is part. of_part c.asked c.index at_index e.location.index (keyed_at t c at_index e all is) part;
        tells = λ c number l now staged came. told_of_part config servers clients w r index s at c number l now staged (came.1).0 came.0 (came.1).1 came.2 came.3;
        fits = λ c e chunk asked same h. subst (λ (x : Call). IsOfPart x e.index chunk.index) (sym asked) (subst (λ (n : ℕ). IsOfPart c.asked n chunk.index) (sym same) h);
        same = λ c e same h. tt;
        begins = λ c e same deadline h. tt;
        goes_on = λ c e plain asked file live deadline h. tt;
        replies = λ asked reply plain. tt;
        refuses = λ asked refusal. tt;
        pushes = λ d c chunk g first ready mutates x h. x;
        expires = λ c chunk number h late. tt;
        stays = λ c chunk number h. tt;
        denied = λ c chunk number refusal h came is. tt;
        done = λ c chunk number id place h came own is. tt;
        passes = λ c chunk number e append m came asked file index live deadline h. tt;
        appended = λ c chunk place append h. (tt, tt);
        next = λ c e chunk place write more asked file same live deadline h. tt;
        last = λ c chunk place write none h. (tt, tt);
      }

  abbrev Calm : ClientDoing → Type 0
  Calm d = IsCalm (client_at s moment) Fits AnyCall Pushed Asking AnyReply AnyEnd (Unit {0}) d

  calm_fits : (d : ClientDoing) → Calm d → IsFitting d.client
  calm_fits d calm c is =
      relaxed d.sent c c.stage (subst (λ (o : Option CurrentCall). StandsNow (client_at s moment) Fits AnyCall Pushed Asking AnyReply AnyEnd (Unit {0}) d.sent d.answer o) is calm.stands).1

  stands_now : (o : Option CurrentCall) → ((c : CurrentCall) → o ≡ Some c → StandsAt Fits AnyCall Pushed Asking AnyReply None c c.stage) → StandsNow (client_at s moment) Fits AnyCall Pushed Asking AnyReply AnyEnd (Unit {0}) None None o
  stands_now None h = tt
  stands_now (Some c) h = (refl, h c refl)

  module _ (fitting : IsFitting s) where
    begun : Calm (client_begins (client_at s moment))
    begun = begun_calm (client_at s moment) (Came w.sent (suc index)) IsKeyed Fits AnyCall Pushed Asking AnyPlace AnyReply AnyEnd (Unit {0}) keeps (λ c reply h f none. tt) (stands_now s.current fitting)

    leaves : (i : NodeInput) → IsCameIn (Came w.sent (suc index)) i → Leaves (client_at s moment) Fits AnyCall Pushed Asking AnyReply AnyEnd (Unit {0}) (client_does (client_begins (client_at s moment)) i s.current)
    leaves i came =
        does_leave (client_at s moment) (Came w.sent (suc index)) IsKeyed Fits AnyCall Pushed Asking AnyPlace AnyReply AnyEnd (Unit {0}) keeps (λ c reply h f none. tt) i s.current refl came (stands_now s.current fitting) begun

    left_fits : (d : ClientDoing) → Leaves (client_at s moment) Fits AnyCall Pushed Asking AnyReply AnyEnd (Unit {0}) d → IsFitting d.client
    left_fits d (inl calm) c is = calm_fits d calm c is
    left_fits d (inr g) c is =
        subst (λ (x : CurrentCall). StandsAt Fits AnyCall Pushed Asking AnyReply None x x.stage) (same_some (record g.current { stage = SentMutate g.chunk g.number }) c (sym (ap (λ (x : ClientDoing). x.client.current) g.is) ∙ is)) (g.mutates, g.pushed)

    step_fits : (i : NodeInput) (choice : Choice) → IsCameIn (Came w.sent (suc index)) i → IsFitting (client_step s moment i choice).state
    step_fits i choice came = stepped (λ t ms. IsFitting t) s moment i choice (left_fits (client_does (client_begins (client_at s moment)) i s.current) (leaves i came)) (λ c is. none_some c is) fitting

    planned : (d : ClientDoing) (o : Option Message) → d.sent ≡ o → Leaves (client_at s moment) Fits AnyCall Pushed Asking AnyReply AnyEnd (Unit {0}) d → AllOf (MayAsk s) (option_to_list o)
    planned d None is h = tt
    planned d (Some m) is (inl calm) = (inl (calm.silent m is), tt)
    planned d (Some m) is (inr g) = (
      inr (record {
        current = g.current;
        chunk = g.chunk;
        number = g.number;
        current_is = g.current_is;
        mutates = g.mutates;
        body_is = sym (ap (λ (x : Message). x.body) (same_some (message (the_client s.id) (the_server g.primary.0) (body.Mutate (data_id s.id g.number) g.chunk.handle g.chunk.round (target_of (file_chunk s g.current.file.0) g.current.index g.current.asked) g.current.deadline)) m (sym (ap (λ (x : ClientDoing). x.sent) g.is) ∙ is)));
      }),
      tt,
    )

    -- a Mutate that it sends is for the part in hand
    pub step_asks : (i : NodeInput) (choice : Choice) → IsCameIn (Came w.sent (suc index)) i → AllOf (MayAsk s) (client_step s moment i choice).out.sent
    step_asks i choice came =
        stepped (λ t ms. AllOf (MayAsk s) ms) s moment i choice
        (planned (client_does (client_begins (client_at s moment)) i s.current) (client_does (client_begins (client_at s moment)) i s.current).sent refl (leaves i came)) tt tt

  calm_asks : (d : ClientDoing) (o : Option Message) → d.sent ≡ o → Calm d → AllOf (MayAsk s) (option_to_list o)
  calm_asks d None is calm = tt
  calm_asks d (Some m) is calm = (inl (calm.silent m is), tt)

  call_is_calm : (c : Call) → s.current ≡ None → Calm (calls (client_begins (client_at s moment)) c)
  call_is_calm c none =
      call_calm (client_at s moment) (Came w.sent (suc index)) IsKeyed Fits AnyCall Pushed Asking AnyPlace AnyReply AnyEnd (Unit {0}) keeps (λ e reply h f live. tt) (λ e. Unit {0}) (λ e file at_index last plain there asks first. tt) (λ e name asks. tt) (λ reply. tt) c tt
      (begun (λ e is. none_some e (sym none ∙ is)))

  pub call_asks : (c : Call) (choice : Choice) → s.current ≡ None → AllOf (MayAsk s) (client_call s moment c choice).out.sent
  call_asks c choice none =
      called (λ t ms. AllOf (MayAsk s) ms) s moment c choice (calm_asks (calls (client_begins (client_at s moment)) c) (calls (client_begins (client_at s moment)) c).sent refl (call_is_calm c none)) tt tt

  call_fits : (c : Call) (choice : Choice) → s.current ≡ None → IsFitting (client_call s moment c choice).state
  call_fits c choice none =
      called (λ t ms. IsFitting t) s moment c choice (calm_fits (calls (client_begins (client_at s moment)) c) (call_is_calm c none)) (λ e is. none_some e is) (λ e is. none_some e is)

-- worlds

abbrev pub AreFitting : WorldState → Type 0
AreFitting w = (index : ℕ) (s : ClientState) → element_at w.clients index ≡ Some s → IsFitting s

one_fits : (clients : List ClientState) (index : ℕ) (t : ClientState) → ((other : ℕ) (s : ClientState) → element_at clients other ≡ Some s → IsFitting s) → IsFitting t → (other : ℕ) (u : ClientState) → element_at (with_at clients index t) other ≡ Some u → IsFitting u
one_fits clients index t h here other u at =
    elim (set_cases clients index t other u at) [
      | inl both ↦ subst IsFitting (sym both.1) here
      | inr there ↦ h other u there
    ]

pub no_call : (s : ClientState) → IsTrue (may_call s) → s.current ≡ None
no_call s may = by_call s.current (first_and (is_none s.current) (has_room_to_count s) (and_parts s.up (is_none s.current && has_room_to_count s) may).1)
  where
    by_call : (o : Option CurrentCall) → is_none o ≡ true → o ≡ None
    by_call None is = refl
    by_call (Some c) is = absurd (true≢false (sym is))

each_fits : (config : Config) (servers clients : ℕ) (w : WorldState) → IsReached config servers clients w → AreFitting w → HoldsAfter w (λ e x. AreFitting x.world)
each_fits config servers clients w r h =
    record {
      nothing = λ e. h;
      masters = λ e moment i choice is up. h;
      opens = λ e moment choice. h;
      serves = λ e index moment s i choice at is up. h;
      restarts = λ e index moment s choice at. h;
      steps = λ e index moment s i choice at is up. one_fits w.clients index (client_step s moment i choice).state h (step_fits config servers clients w r index s at moment (h index s at) i choice (came_in w e (suc index) moment i is));
      calls = λ e index moment s c choice at may. one_fits w.clients index (client_call s moment c choice).state h (call_fits config servers clients w r index s at moment c choice (no_call s may));
      rots = λ e index handle s d place byte ending is_kept at there up. h;
    }

fits_on : (config : Config) (servers clients : ℕ) (w : WorldState) (steps : List (Event × Choice)) → IsReached config servers clients w → AreFitting w → AreFitting (after_events w steps)
fits_on config servers clients w [] r h = h
fits_on config servers clients w (step ∷ rest) r h =
    fits_on config servers clients (happens w step.0 step.1).world rest (reached_later config servers clients w (step ∷ []) r) (holds_after w (λ e x. AreFitting x.world) (each_fits config servers clients w r h) step.0 step.1)

new_fits : (config : Config) (ns : List ℕ) (index : ℕ) (s : ClientState) → element_at (map (new_client config) ns) index ≡ Some s → IsFitting s
new_fits config [] index s is = none_some s is
new_fits config (n ∷ ns) zero s is = subst IsFitting (same_some (new_client config n) s is) (λ c none. none_some c none)
new_fits config (n ∷ ns) (suc index) s is = new_fits config ns index s is

pub fitting_reached : (config : Config) (servers clients : ℕ) (steps : List (Event × Choice)) → AreFitting (after_events (new_world config servers clients) steps)
fitting_reached config servers clients steps = fits_on config servers clients (new_world config servers clients) steps ([], refl) (new_fits config (first_numbers clients))

-- the location was told
pub used_was_told : (config : Config) (servers clients : ℕ) (steps : List (Event × Choice)) (index : ℕ) (s : ClientState) (c : CurrentCall) (chunk : ToldChunk) → element_at (after_events (new_world config servers clients) steps).clients index ≡ Some s → s.current ≡ Some c
    → chunk_used c.stage ≡ Some chunk → (l : Location) × (chunk_of l ≡ chunk) × IsTold (after_events (new_world config servers clients) steps).sent (suc index) c.file.0 l
used_was_told config servers clients steps index s c chunk at current used = (law.0, law.1, subst (λ (ms : List Message). IsTold ms (suc index) c.file.0 law.0) (sym grown.1) (told_later v.sent grown.0 (suc index) c.file.0 law.0 there))
  where
    start : WorldState
    start = new_world config servers clients

    w : WorldState
    w = after_events start steps

    law : (l : Location) × (chunk_of l ≡ chunk) × BeganInTime config c.deadline.0 c.told.0 × WasTold start steps index c.file.0 l c.told.0
    law = attempts_go_by_told_locations config servers clients steps index s c chunk at current used

    was : WasTold start steps index c.file.0 law.0 c.told.0
    was = law.3

    v : WorldState
    v = after_events start was.before

    now : IsToldNow v (was.step).0 index c.file.0 law.0 c.told.0
    now = was.told

    grown : IsGrown v.sent w.sent
    grown = subst (λ (u : WorldState). IsGrown v.sent u.sent) (sym (ap (λ (xs : List (Event × Choice)). after_events start xs) was.steps_are ∙ after_both start was.before (was.step ∷ was.after))) (steps_grown v (was.step ∷ was.after))

    stood : HasAsked v.sent (suc index) (now.call).file.0 now.asked
    stood = subst (λ (st : Stage). WasRequestSent v.sent (suc index) (file_chunk now.client (now.call).file.0) now.call st) now.ask_is (((known_reached config servers clients was.before).known index now.client now.client_is).stands now.call now.call_is)

    there : IsTold v.sent (suc index) c.file.0 law.0
    there =
        record {
          number = now.asked;
          asked = subst (λ (n : ℕ). HasAsked v.sent (suc index) n now.asked) now.file_is stood;
          told = now.told;
          sent_is = (now.number - 1, element_numbered v.sent now.number now.told now.message_is);
          receiver_is = now.receiver_is;
          body_is = now.body_is;
        }

-- of a write it is of the part in hand
module _ (config : Config) (servers clients : ℕ) (w : WorldState) (r : IsReached config servers clients w) (index : ℕ) (s : ClientState) (at : element_at w.clients index ≡ Some s) (c : CurrentCall) (current : s.current ≡ Some c) where
  there : element_at (after_events (new_world config servers clients) r.0).clients index ≡ Some s
  there = subst (λ (u : WorldState). element_at u.clients index ≡ Some s) (sym r.1) at

  stands : StandsAt Fits AnyCall Pushed Asking AnyReply None c c.stage
  stands = fitting_reached config servers clients r.0 index s there c current

  told_chunk : (chunk : ToldChunk) → chunk_used c.stage ≡ Some chunk → chunk.index ≡ c.index → IsToldChunk (after_events (new_world config servers clients) r.0).sent (suc index) c.file.0 c.index chunk.handle.0 chunk.round.0
  told_chunk chunk used same =
      let told = used_was_told config servers clients r.0 index s c chunk there current used in
      record {
        location = told.0;
        told = told.2;
        index_is = ap (λ (x : ToldChunk). x.index) told.1 ∙ same;
        handle_is = ap (λ (x : ToldChunk). x.handle.0) told.1;
        round_is = ap (λ (x : ToldChunk). x.round.0) told.1;
      }

  pub located_part : (chunk : ToldChunk) (primary : ServerId) (number : ℕ) → c.stage ≡ SentData chunk primary number → IsLocated w.sent (suc index) c.file.0 c.asked c.index chunk.handle.0 chunk.round.0
  located_part chunk primary number staged =
      subst (λ (u : WorldState). IsLocated u.sent (suc index) c.file.0 c.asked c.index chunk.handle.0 chunk.round.0) r.1 (by_call c.asked fits.2)
    where
      fits : StandsAt Fits AnyCall Pushed Asking AnyReply None c (SentData chunk primary number)
      fits = subst (λ (st : Stage). StandsAt Fits AnyCall Pushed Asking AnyReply None c st) staged stands

      by_call : (asked : Call) → IsOfPart asked c.index chunk.index → IsLocated (after_events (new_world config servers clients) r.0).sent (suc index) c.file.0 asked c.index chunk.handle.0 chunk.round.0
      by_call (call.Write fd offset bytes) part = told_chunk chunk (ap (λ (st : Stage). chunk_used st) staged) part
      by_call other part = tt

  -- at whichever stage
  index_used : (st : Stage) (chunk : ToldChunk) → StandsAt Fits AnyCall Pushed Asking AnyReply None c st → chunk_used st ≡ Some chunk → IsOfPart c.asked c.index chunk.index
  index_used (SentData x primary number) chunk h used = subst (λ (y : ToldChunk). IsOfPart c.asked c.index y.index) (same_some x chunk used) h.2
  index_used (SentMutate x number) chunk h used = subst (λ (y : ToldChunk). IsOfPart c.asked c.index y.index) (same_some x chunk used) h.1
  index_used (SentRead x left number) chunk h used = subst (λ (y : ToldChunk). IsOfPart c.asked c.index y.index) (same_some x chunk used) h.2
  index_used AskedNames chunk h used = none_some chunk used
  index_used (AskedWhere number) chunk h used = none_some chunk used
  index_used MustAskAgain chunk h used = none_some chunk used
  index_used IsOver chunk h used = none_some chunk used
  index_used (HasAnswer reply) chunk h used = none_some chunk used

  same_part : (A : Call) (at : ℕ) → has_index A ≡ true → IsOfPart A c.index at → at ≡ c.index
  same_part (call.Write fd offset bytes) at has h = h
  same_part (call.Read fd offset count) at has h = h
  same_part other at has h = absurd (true≢false (sym has))

  pub part_told : (chunk : ToldChunk) → chunk_used c.stage ≡ Some chunk → has_index c.asked ≡ true → IsToldChunk w.sent (suc index) c.file.0 c.index chunk.handle.0 chunk.round.0
  part_told chunk used has =
      subst (λ (u : WorldState). IsToldChunk u.sent (suc index) c.file.0 c.index chunk.handle.0 chunk.round.0) r.1 (told_chunk chunk used (same_part c.asked chunk.index has (index_used c.stage chunk stands used)))

pub parts_go_to_their_chunk : PartsGoToTheirChunk
parts_go_to_their_chunk config servers clients w r index s at c chunk current used has = part_told config servers clients w r index s at c current chunk used has
