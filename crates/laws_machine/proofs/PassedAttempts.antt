-- An attempt that was answered went by a location that was told after that of each earlier attempt at another chunk of the same place: else its own lease was over as it was sent.
use Rattle.std.proofs.Common.{◌≡◌, ◌⊎◌, ℕ, suc, ◌-◌, ◌≤◌, ◌<◌, List, [], ◌∷◌, ◌++◌, Option, Some, None, refl, sym, ap, subst, ◌∙◌, inl, inr, arith}
use Rattle.std.specs.Prelude.{IsTrue}
use Rattle.std.proofs.lemmas.Bool.{cases_lt}
use Rattle.gfs_types.specs.declared.config.Config.{Config}
use Rattle.gfs_types.specs.declared.ids.DataId.{DataId}
use Rattle.gfs_types.specs.declared.ids.Handle.{Handle}
use Rattle.gfs_types.specs.declared.ids.Moment.{Moment}
use Rattle.gfs_types.specs.declared.ids.Version.{Version}
use Rattle.messages.specs.declared.event.Event.{Event}
use Rattle.messages.specs.declared.message.Body.{Body}
use Rattle.messages.specs.declared.message.Body.TheVariants as body
use Rattle.messages.specs.declared.message.Message.{Message}
use Rattle.messages.specs.declared.message.Location.{Location}
use Rattle.client_state.specs.declared.call.CurrentCall.{CurrentCall}
use Rattle.client_state.specs.declared.call.ToldChunk.{ToldChunk}
use Rattle.client_state.specs.declared.call.Stage.{Stage}
use Rattle.client_state.specs.declared.call.Stage.TheVariants.{SentData}
use Rattle.protocol.specs.Tables.{element_at}
use Rattle.protocol.specs.Sending.{data_id, the_client}
use Rattle.protocol.specs.Choice.{Choice}
use Rattle.protocol.specs.ClientAttempts.{chunk_of}
use Rattle.protocol.specs.Observer.{observed_moment}
use Rattle.protocol.specs.World.{WorldState, Happened, new_world, happens, after_events}
use Rattle.laws_base.proofs.Steps.{none_some, same_some, same_or_not}
use Rattle.laws_base.proofs.RisingOrders.{element_numbered}
use Rattle.laws_base.proofs.MembersRecorded.{kept_place, place_below}
use Rattle.laws_base.proofs.RequestsOnce.{requests_are_numbered_once}
use Rattle.laws_base.proofs.Histories.{IsGrown, steps_grown, stood_before, after_both}
use Rattle.laws_base.specs.Versions.{IsLeaseOver}
use Rattle.laws_base.proofs.EndedLeases.{over_leases_number_nothing}
use Rattle.laws_versions.proofs.ClosedVersions.{clocks_before}
use Rattle.laws_base.specs.Reads.{HasAsked}
use Rattle.laws_base.proofs.ClientReads.{WasRequestSent}
use Rattle.laws_base.proofs.Known.{known_reached}
use Rattle.laws_base.specs.Locations.{chunk_used, BeganInTime, WasTold, IsToldNow}
use Rattle.laws_base.proofs.LocationsUsed.{attempts_go_by_told_locations}
use Rattle.laws_base.proofs.Deadlines.{asks_for, asking, same_counted}
use Rattle.laws_base.proofs.OwnMutates.{IsOwn, mutates_are_own}
use Rattle.laws_base.proofs.UsedNumbers.{Asks}
use Rattle.laws_base.proofs.AnsweredAttempts.{same_mutate}
use Rattle.laws_machine.specs.OpenAttempts.{IsSentFor, WasSentFor, AsksBy}
use Rattle.laws_machine.proofs.OpenStages.{IsOpen, HasData, IsUnderWay, AnyReply, strictly}
use Rattle.laws_machine.proofs.LaterCalls.{CallStands}
use Rattle.laws_machine.proofs.OpenCalls.{IsStanding, SinceFor, Never, NeverFor, all_since, new_on}
use Rattle.laws_machine.proofs.CallWalk.{AnyUsed, StandsAt}
use Rattle.laws_base.specs.LeasedAnswers.{IsTakenNow, WasTaken}
use Rattle.laws_base.proofs.LeasedAnswers.{answers_are_given_under_leases}
use Rattle.laws_versions.specs.ReplacedChunks.{IsToldAt}
use Rattle.laws_versions.proofs.ReplacedChunks.{replaced_chunks_have_no_lease, replaced_from}
use Rattle.laws_machine.specs.PassedAttempts.{PassedAttemptsHaveNoLease}
use Rattle.protocol.specs.Client.{file_chunk}

-- a step of a list

record IsStepOf (start : WorldState) (steps : List (Event × Choice)) (Q : WorldState → Happened → Type 0) : Type 0 where
  before : List (Event × Choice)
  step : Event × Choice
  after : List (Event × Choice)
  steps_are : steps ≡ before ++ step ∷ after
  now : Q (after_events start before) (happens (after_events start before) step.0 step.1)

later_step : (start : WorldState) (first : Event × Choice) (steps : List (Event × Choice)) (Q : WorldState → Happened → Type 0) → IsStepOf (happens start first.0 first.1).world steps Q → IsStepOf start (first ∷ steps) Q
later_step start first steps Q h = record { before = first ∷ h.before; step = h.step; after = h.after; steps_are = ap (λ (xs : List (Event × Choice)). first ∷ xs) h.steps_are; now = h.now }

sent_step : (index : ℕ) (start : WorldState) (steps : List (Event × Choice)) (file : ℕ) (chunk : ToldChunk) (seq : ℕ) → WasSentFor index start steps file chunk seq → IsStepOf start steps (λ w x. IsSentFor index w x file chunk seq)
sent_step index start [] file chunk seq h = absurd h
sent_step index start (step ∷ rest) file chunk seq h =
    elim (h) [
      | inl now ↦ record { before = []; step = step; after = rest; steps_are = refl; now = now }
      | inr later ↦ later_step start step rest (λ w x. IsSentFor index w x file chunk seq) (sent_step index (happens start step.0 step.1).world rest file chunk seq later)
    ]

taken_step : (start : WorldState) (steps : List (Event × Choice)) (id : DataId) → WasTaken start steps id → IsStepOf start steps (λ w x. IsTakenNow w x id)
taken_step start [] id h = absurd h
taken_step start (step ∷ rest) id h =
    elim (h) [
      | inl now ↦ record { before = []; step = step; after = rest; steps_are = refl; now = now }
      | inr later ↦ later_step start step rest (λ w x. IsTakenNow w x id) (taken_step (happens start step.0 step.1).world rest id later)
    ]

-- two beginnings of one list: one of them begins with the other
one_first : {X : Type 0} (xs ys vs ws : List X) → xs ++ ys ≡ vs ++ ws → ((more : List X) × (vs ≡ xs ++ more)) ⊎ ((more : List X) × (xs ≡ vs ++ more))
one_first [] ys vs ws same = inl (vs, refl)
one_first (x ∷ xs) ys [] ws same = inr (x ∷ xs, refl)
one_first {X} (x ∷ xs) ys (v ∷ vs) ws same =
    let head : x ≡ v = first_is same in
    elim (one_first xs ys vs ws (ap (λ (zs : List X). rest_of zs) same)) [
      | inl h ↦ inl (h.0, ap (λ (zs : List X). v ∷ zs) h.1 ∙ ap (λ (y : X). y ∷ (xs ++ h.0)) (sym head))
      | inr h ↦ inr (h.0, ap (λ (zs : List X). x ∷ zs) h.1 ∙ ap (λ (y : X). y ∷ (vs ++ h.0)) head)
    ]
  where
    rest_of : List X → List X
    rest_of [] = []
    rest_of (z ∷ zs) = zs

    first_or : X → List X → X
    first_or none [] = none
    first_or none (z ∷ zs) = z

    first_is : x ∷ (xs ++ ys) ≡ v ∷ (vs ++ ws) → x ≡ v
    first_is e = ap (λ (zs : List X). first_or x zs) e

-- what was told stays told

asked_later : (sent more : List Message) (client file number : ℕ) → HasAsked sent client file number → HasAsked (sent ++ more) client file number
asked_later sent more client file number h =
    record {
      named = h.named;
      wanted = h.wanted;
      deadline = h.deadline;
      lost = h.lost;
      ask = h.ask;
      sent_is = ((h.sent_is).0, kept_place sent more (h.sent_is).0 h.ask (h.sent_is).1);
      sender_is = h.sender_is;
      body_is = h.body_is;
      file_is = h.file_is;
    }

told_grown : (before after : List Message) → IsGrown before after → (client file : ℕ) (l : Location) (place : ℕ) → IsToldAt before client file l place → IsToldAt after client file l place
told_grown before after grown client file l place h =
    subst (λ (ms : List Message). IsToldAt ms client file l place) (sym grown.1)
    (record { number = h.number; asked = asked_later before grown.0 client file h.number h.asked; told = h.told; sent_is = kept_place before grown.0 place h.told h.sent_is; receiver_is = h.receiver_is; body_is = h.body_is; granted = h.granted })

-- the location by which an attempt goes was told before
record IsLocated (w : WorldState) (index file : ℕ) (chunk : ToldChunk) : Type 0 where
  location : Location
  chunk_is : chunk_of location ≡ chunk
  place : ℕ
  told : IsToldAt w.sent (suc index) file location place

located : (config : Config) (servers clients : ℕ) (steps : List (Event × Choice)) (index file : ℕ) (chunk : ToldChunk) (seq : ℕ) (x : Happened) → IsSentFor index (after_events (new_world config servers clients) steps) x file chunk seq → 1 ≤ chunk.round.0
    → IsLocated (after_events (new_world config servers clients) steps) index file chunk
located config servers clients steps index file chunk seq x h granted =
    record {
      location = l;
      chunk_is = law.1;
      place = now.number - 1;
      told = told_grown v.sent w.sent grown (suc index) file l (now.number - 1)
          (subst (λ (n : ℕ). IsToldAt v.sent (suc index) n l (now.number - 1)) (now.file_is ∙ h.file_is) (record {
            number = now.asked;
            asked = stood;
            told = now.told;
            sent_is = element_numbered v.sent now.number now.told now.message_is;
            receiver_is = now.receiver_is;
            body_is = now.body_is;
            granted = subst (λ (c : ToldChunk). 1 ≤ c.round.0) (sym law.1) granted;
          }));
    }
  where
    start : WorldState
    start = new_world config servers clients

    w : WorldState
    w = after_events start steps

    law : (l : Location) × (chunk_of l ≡ chunk) × BeganInTime config (h.current).deadline.0 (h.current).told.0 × WasTold start steps index (h.current).file.0 l (h.current).told.0
    law = attempts_go_by_told_locations config servers clients steps index h.client h.current chunk h.client_is h.current_is (ap (λ (st : Stage). chunk_used st) h.stage_is)

    l : Location
    l = law.0

    was : WasTold start steps index (h.current).file.0 l (h.current).told.0
    was = law.3

    v : WorldState
    v = after_events start was.before

    now : IsToldNow v (was.step).0 index (h.current).file.0 l (h.current).told.0
    now = was.told

    grown : IsGrown v.sent w.sent
    grown = subst (λ (u : WorldState). IsGrown v.sent u.sent) (sym (ap (λ (xs : List (Event × Choice)). after_events start xs) was.steps_are ∙ after_both start was.before (was.step ∷ was.after))) (steps_grown v (was.step ∷ was.after))

    stood : HasAsked v.sent (suc index) (now.call).file.0 now.asked
    stood = subst (λ (st : Stage). WasRequestSent v.sent (suc index) (file_chunk now.client (now.call).file.0) now.call st) now.ask_is (((known_reached config servers clients was.before).known index now.client now.client_is).stands now.call now.call_is)

-- as a client is about to ask a primary, it asked for earlier numbers alone
asked_earlier : (config : Config) (servers clients : ℕ) (steps : List (Event × Choice)) (index file : ℕ) (chunk : ToldChunk) (seq : ℕ) (x : Happened) → IsSentFor index (after_events (new_world config servers clients) steps) x file chunk seq
    → (id : DataId) (handle : Handle) (version : Version) (deadline : Moment) → id.client.0 ≡ suc index → AsksBy (after_events (new_world config servers clients) steps).sent id handle version deadline → id.seq < seq
asked_earlier config servers clients steps index file chunk seq x h id handle version deadline own asks = stands.2.0 id handle version deadline own asks
  where
    start : WorldState
    start = new_world config servers clients

    w : WorldState
    w = after_events start steps

    standing : IsStanding config index (SinceFor config index start steps NeverFor) w h.client
    standing = (all_since config index servers clients start steps Never NeverFor ([], refl) (new_on config servers clients index)).stands h.client h.client_is

    stands : StandsAt AnyUsed (IsOpen (SinceFor config index start steps NeverFor) config w.sent w.observer.greatest (suc index) (h.client).now) (λ o c told number. HasData config w.sent w.observer.greatest (suc index) o c told number) (IsUnderWay (SinceFor config index start steps NeverFor) config w.sent w.observer.greatest (suc index) (h.client).now) AnyReply None h.current (SentData chunk h.primary seq)
    stands =
        subst (λ (st : Stage). StandsAt AnyUsed (IsOpen (SinceFor config index start steps NeverFor) config w.sent w.observer.greatest (suc index) (h.client).now) (λ o c told number. HasData config w.sent w.observer.greatest (suc index) o c told number) (IsUnderWay (SinceFor config index start steps NeverFor) config w.sent w.observer.greatest (suc index) (h.client).now) AnyReply None h.current st) h.stage_is
        (subst (λ (o : Option CurrentCall). CallStands (SinceFor config index start steps NeverFor) config w.sent w.observer.greatest (suc index) (h.client).now None o) h.current_is (standing.call h.is_up))

-- the Mutate that was sent
pub sent_asks : (index : ℕ) (start : WorldState) (steps : List (Event × Choice)) (file : ℕ) (chunk : ToldChunk) (seq : ℕ) → WasSentFor index start steps file chunk seq → Asks (after_events start steps).sent (data_id (suc index) seq) chunk.handle chunk.round
sent_asks index start steps file chunk seq sent =
    record {
      asked = (b.now).asked;
      aim = (b.now).aim;
      deadline = (b.now).deadline;
      sent_is = ((b.now).place, subst (λ (ms : List Message). element_at ms (b.now).place ≡ Some (b.now).asked) (sym grown.1) (kept_place next.sent grown.0 (b.now).place (b.now).asked (b.now).sent_is));
      sender_is = (b.now).sender_is;
      body_is = (b.now).body_is;
    }
  where
    b : IsStepOf start steps (λ v x. IsSentFor index v x file chunk seq)
    b = sent_step index start steps file chunk seq sent

    v : WorldState
    v = after_events start b.before

    next : WorldState
    next = (happens v (b.step).0 (b.step).1).world

    path : after_events v (b.step ∷ b.after) ≡ after_events start steps
    path = sym (ap (λ (xs : List (Event × Choice)). after_events start xs) b.steps_are ∙ after_both start b.before (b.step ∷ b.after))

    grown : IsGrown next.sent (after_events start steps).sent
    grown = subst (λ (x : WorldState). IsGrown next.sent x.sent) path (steps_grown next b.after)

abbrev location_in : Body → Option Location
location_in (body.Told number o) = o
location_in other = None

pub passed_attempts_have_no_lease : PassedAttemptsHaveNoLease
passed_attempts_have_no_lease config servers clients steps clocks index file chunk other first later sent_first sent_later before same_index apart granted also place server m at from answer bytes pushed =
    elim (cases_lt at_a.place at_b.place) [
      | inl less ↦ subst (λ (c : ToldChunk). IsLeaseOver w c.handle.0 c.round.0) at_a.chunk_is (replaced_chunks_have_no_lease config servers clients w (steps, refl) clocks (suc index) (suc index) file at_a.location at_b.location at_a.place at_b.place told_a told_b less indexes (λ same. absurd (handles same)))
      | inr high ↦ absurd (elim (same_or_not at_a.place at_b.place) [ inl same ↦ not_same same | inr other_place ↦ not_after (strictly at_b.place at_a.place high (λ e. other_place (sym e))) ])
    ]
  where
    start : WorldState
    start = new_world config servers clients

    w : WorldState
    w = after_events start steps

    id : DataId
    id = data_id (suc index) later

    a : IsStepOf start steps (λ v x. IsSentFor index v x file chunk first)
    a = sent_step index start steps file chunk first sent_first

    b : IsStepOf start steps (λ v x. IsSentFor index v x file other later)
    b = sent_step index start steps file other later sent_later

    u : WorldState
    u = after_events start a.before

    v : WorldState
    v = after_events start b.before

    path_a : after_events u (a.step ∷ a.after) ≡ w
    path_a = sym (ap (λ (xs : List (Event × Choice)). after_events start xs) a.steps_are ∙ after_both start a.before (a.step ∷ a.after))

    path_b : after_events v (b.step ∷ b.after) ≡ w
    path_b = sym (ap (λ (xs : List (Event × Choice)). after_events start xs) b.steps_are ∙ after_both start b.before (b.step ∷ b.after))

    grown_a : IsGrown u.sent w.sent
    grown_a = subst (λ (x : WorldState). IsGrown u.sent x.sent) path_a (steps_grown u (a.step ∷ a.after))

    grown_b : IsGrown v.sent w.sent
    grown_b = subst (λ (x : WorldState). IsGrown v.sent x.sent) path_b (steps_grown v (b.step ∷ b.after))

    at_a : IsLocated u index file chunk
    at_a = located config servers clients a.before index file chunk first (happens u (a.step).0 (a.step).1) a.now granted

    at_b : IsLocated v index file other
    at_b = located config servers clients b.before index file other later (happens v (b.step).0 (b.step).1) b.now also

    told_a : IsToldAt w.sent (suc index) file at_a.location at_a.place
    told_a = told_grown u.sent w.sent grown_a (suc index) file at_a.location at_a.place at_a.told

    told_b : IsToldAt w.sent (suc index) file at_b.location at_b.place
    told_b = told_grown v.sent w.sent grown_b (suc index) file at_b.location at_b.place at_b.told

    indexes : at_a.location.index ≡ at_b.location.index
    indexes = ap (λ (c : ToldChunk). c.index) at_a.chunk_is ∙ (same_index ∙ sym (ap (λ (c : ToldChunk). c.index) at_b.chunk_is))

    handles : at_a.location.handle.0 ≡ at_b.location.handle.0 → ⊥
    handles same = apart (sym (ap (λ (c : ToldChunk). c.handle.0) at_a.chunk_is) ∙ (same ∙ ap (λ (c : ToldChunk). c.handle.0) at_b.chunk_is))

    not_same : at_a.place ≡ at_b.place → ⊥
    not_same same =
        let one : told_a.told ≡ told_b.told = same_some told_a.told told_b.told (sym told_a.sent_is ∙ (ap (λ (n : ℕ). element_at w.sent n) same ∙ told_b.sent_is)) in
        let location : at_a.location ≡ at_b.location = same_some at_a.location at_b.location (sym (ap location_in told_a.body_is) ∙ (ap (λ (x : Message). location_in x.body) one ∙ ap location_in told_b.body_is)) in
        handles (ap (λ (l : Location). l.handle.0) location)

    -- the step in which a server took the later one
    t : IsStepOf start steps (λ x y. IsTakenNow x y id)
    t = taken_step start steps id (answers_are_given_under_leases config servers clients steps place server m at from id bytes pushed answer)

    z : WorldState
    z = after_events start t.before

    now : IsTakenNow z (happens z (t.step).0 (t.step).1) id
    now = t.now

    path_t : after_events z (t.step ∷ t.after) ≡ w
    path_t = sym (ap (λ (xs : List (Event × Choice)). after_events start xs) t.steps_are ∙ after_both start t.before (t.step ∷ t.after))

    grown_t : IsGrown z.sent w.sent
    grown_t = subst (λ (x : WorldState). IsGrown z.sent x.sent) path_t (steps_grown z (t.step ∷ t.after))

    sender : (now.asked).sender ≡ the_client (suc index)
    sender = let own = mutates_are_own config servers clients z (t.before, refl) (now.sent_is).0 now.asked (now.sent_is).1 in subst (λ (y : Body). IsOwn (now.asked).sender y) now.body_is own

    -- it names the chunk by whose location the client sent it
    same_names : (now.handle ≡ other.handle) × (now.version ≡ other.round)
    same_names = let all = same_mutate id now.handle other.handle now.version other.round now.aim (b.now).aim now.deadline (b.now).deadline (sym now.body_is ∙ (ap (λ (x : Message). x.body) one ∙ (b.now).body_is)) in (all.0, all.1)
      where
        next : WorldState
        next = (happens v (b.step).0 (b.step).1).world

        grown : IsGrown next.sent w.sent
        grown = subst (λ (x : WorldState). IsGrown next.sent x.sent) path_b (steps_grown next b.after)

        one : now.asked ≡ (b.now).asked
        one =
            same_counted (asks_for id) w.sent (now.sent_is).0 (b.now).place now.asked (b.now).asked (requests_are_numbered_once config servers clients w (steps, refl) (suc index) later).1
            (subst (λ (ms : List Message). element_at ms (now.sent_is).0 ≡ Some now.asked) (sym grown_t.1) (kept_place z.sent grown_t.0 (now.sent_is).0 now.asked (now.sent_is).1))
            (subst (λ (ms : List Message). element_at ms (b.now).place ≡ Some (b.now).asked) (sym grown.1) (kept_place next.sent grown.0 (b.now).place (b.now).asked (b.now).sent_is))
            (asking id now.asked now.handle now.version now.aim now.deadline sender now.body_is) (asking id (b.now).asked other.handle other.round (b.now).aim (b.now).deadline (b.now).sender_is (b.now).body_is)

    clocks_then : IsTrue (observed_moment z.config.skew_ms z.observer now.moment).are_clocks_kept
    clocks_then = subst (λ (x : Happened). IsTrue x.world.observer.are_clocks_kept) now.step_is (clocks_before (happens z (t.step).0 (t.step).1).world t.after (subst (λ (x : WorldState). IsTrue x.observer.are_clocks_kept) (sym path_t) clocks))

    not_over : IsLeaseOver z at_b.location.handle.0 at_b.location.round.0 → ⊥
    not_over over =
        let named : IsLeaseOver z now.handle.0 now.version.0 =
        subst (λ (h : Handle). IsLeaseOver z h.0 now.version.0) (sym same_names.0)
        (subst (λ (y : Version). IsLeaseOver z other.handle.0 y.0) (sym same_names.1) (subst (λ (c : ToldChunk). IsLeaseOver z c.handle.0 c.round.0) at_b.chunk_is over)) in
        let none = over_leases_number_nothing config servers clients z (t.before, refl) now.handle.0 now.version.0 named now.moment clocks_then now.index now.server now.server_is in
        none_some now.lease (sym none ∙ now.lease_is)

    -- had the later one's location been told first, its lease was over as the earlier one was sent, and so as a server took it
    not_after : at_b.place < at_a.place → ⊥
    not_after less =
        elim (one_first a.before (a.step ∷ a.after) t.before (t.step ∷ t.after) (sym a.steps_are ∙ t.steps_are)) [
          | inl h ↦
              let reach : after_events u h.0 ≡ z = sym (ap (λ (xs : List (Event × Choice)). after_events start xs) h.1 ∙ after_both start a.before h.0) in
              not_over (subst (λ (x : WorldState). IsLeaseOver x at_b.location.handle.0 at_b.location.round.0) reach
              (replaced_from config servers clients w (steps, refl) clocks (suc index) (suc index) file at_b.location at_a.location at_b.place at_a.place told_b told_a less (sym indexes) (λ same. handles (sym same)) u (a.before, refl) (a.step ∷ a.after) path_a stood h.0 (t.step ∷ t.after)
              (ap (λ (x : WorldState). after_events x (t.step ∷ t.after)) reach ∙ path_t)))
          | inr h ↦
              let reach : after_events z h.0 ≡ u = sym (ap (λ (xs : List (Event × Choice)). after_events start xs) h.1 ∙ after_both start t.before h.0) in
              let grown : IsGrown z.sent u.sent = subst (λ (x : WorldState). IsGrown z.sent x.sent) reach (steps_grown z h.0) in
              let early : later < first = asked_earlier config servers clients a.before index file chunk first (happens u (a.step).0 (a.step).1) a.now id now.handle now.version now.deadline refl (record {
                asked = now.asked;
                aim = now.aim;
                sent_is = ((now.sent_is).0, subst (λ (ms : List Message). element_at ms (now.sent_is).0 ≡ Some now.asked) (sym grown.1) (kept_place z.sent grown.0 (now.sent_is).0 now.asked (now.sent_is).1));
                sender_is = sender;
                body_is = now.body_is;
              }) in
              omega (arith, early, before)
        ]
      where
        stood : element_at u.sent at_a.place ≡ Some told_a.told
        stood = stood_before u.sent w.sent at_a.place told_a.told grown_a (place_below u.sent at_a.place (at_a.told).told (at_a.told).sent_is) told_a.sent_is
