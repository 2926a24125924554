-- The locations that a client keeps and uses were told to it, and what it waits for was sent.
use Rattle.std.proofs.Common.{◌≡◌, ◌⊎◌, ℕ, zero, suc, Bool, true, false, cond, List, [], ◌∷◌, ◌++◌, Option, Some, None, refl, sym, ap, subst, ◌∙◌, inl, inr}
use Rattle.std.specs.Prelude.{◌==◌}
use Rattle.std.specs.Option.{option_to_list}
use Rattle.std.specs.Map.{lookup}
use Rattle.std.proofs.lemmas.Bool.{and_parts, eqb-true}
use Rattle.gfs_types.specs.declared.config.Config.{Config}
use Rattle.gfs_types.specs.declared.ids.Node.{Node}
use Rattle.gfs_types.specs.declared.ids.Node.TheVariants.{Master}
use Rattle.gfs_types.specs.declared.call.Call.{Call}
use Rattle.gfs_types.specs.declared.answer.Answer.{Answer}
use Rattle.gfs_types.specs.declared.answer.Answer.TheVariants as answer
use Rattle.gfs_types.specs.declared.refusal.Refusal.TheVariants.{NoMemory}
use Rattle.messages.specs.declared.message.Body.{Body}
use Rattle.messages.specs.declared.message.Body.TheVariants as body
use Rattle.messages.specs.declared.message.Message.{Message}
use Rattle.messages.specs.declared.message.Holder.{Holder}
use Rattle.messages.specs.declared.message.Location.{Location}
use Rattle.messages.specs.declared.event.NodeInput.{NodeInput}
use Rattle.protocol.specs.Sending.{message, the_server, the_client}
use Rattle.protocol.specs.Choice.{Choice, Ending, Goes, Lost, Stops}
use Rattle.protocol.specs.Seen.{Taken, no_step}
use Rattle.protocol.specs.MasterSnapshots.{first_is_true}
use Rattle.client_state.specs.declared.kept.Place.{Place}
use Rattle.client_state.specs.declared.kept.Cached.{Cached}
use Rattle.client_state.specs.declared.call.CurrentCall.{CurrentCall}
use Rattle.client_state.specs.declared.call.ToldChunk.{ToldChunk}
use Rattle.client_state.specs.declared.call.Stage.{Stage}
use Rattle.client_state.specs.declared.call.Stage.TheVariants.{AskedNames, AskedWhere, MustAskAgain, SentData, SentMutate, SentRead, IsOver, HasAnswer}
use Rattle.protocol.specs.Client.{ClientState, ClientDoing, stopped_client, client_begins, committed, with_current, answers, file_chunk}
use Rattle.protocol.specs.ClientCache.{is_same_place, is_fresh, fresh_one, cached}
use Rattle.protocol.specs.ClientAttempts.{wanted_by, read_body, read_planned, again_planned, push_planned_to, mutate_planned, chunk_of, name_planned, asks}
use Rattle.protocol.specs.ClientTakes.{opens}
use Rattle.protocol.specs.ClientStep.{client_does, calls, client_at, client_goes, client_call_goes, may_step, client_ends, client_call, client_step}
use Rattle.protocol.specs.World.{stamped}
use Rattle.laws_base.proofs.Steps.{on_cond, none_some, same_some}
use Rattle.laws_base.proofs.Entries.{AllOf}
use Rattle.laws_base.proofs.ServerMoves.{IsCameIn}
use Rattle.laws_base.proofs.MessagesSent.{IsSent, sent_before, sent_after}
use Rattle.laws_base.proofs.ClientWalk.{IsIdle, HoldsAt, KeepsClient, KeepsCalls, step_kept, call_kept, closed, heard_at, is_told_of, place_at}
use Rattle.laws_base.specs.Reads.{HasAsked, IsTold, IsReading}
use Rattle.laws_base.proofs.Caches.{found, after_look, after_drop, after_put}

abbrev pub IsKeptTold : List Message → ℕ → Place × Cached → Type 0
IsKeptTold sent client e = IsTold sent client e.0.file e.1.location

-- what a call waits for was sent
abbrev pub WasRequestSent : List Message → ℕ → ℕ → CurrentCall → Stage → Type 0
WasRequestSent sent client chunk_size c (AskedWhere number) = HasAsked sent client c.file.0 number
WasRequestSent sent client chunk_size c (SentRead chunk left number) = IsReading sent client chunk_size c chunk left number
WasRequestSent sent client chunk_size c other = Unit {0}

-- a client, by the messages that were sent
pub record Knows (config : Config) (sent : List Message) (client : ℕ) (s : ClientState) : Type 0 where
  pub settings : s.config ≡ config
  pub cache : AllOf (IsKeptTold sent client) s.cache.entries
  pub stands : (c : CurrentCall) → s.current ≡ Some c → WasRequestSent sent client (file_chunk s c.file.0) c c.stage

-- the number of the reading for which it waits
abbrev pub stage_reading : Stage → Option ℕ
stage_reading (SentRead chunk left number) = Some number
stage_reading other = None

abbrev pub waited_reading : Option CurrentCall → Option ℕ
waited_reading None = None
waited_reading (Some c) = stage_reading c.stage

-- the call in hand is as it was, or it waits for no reading but a new one
abbrev pub IsSameOrNew : ClientState → ClientDoing → Type 0
IsSameOrNew s d = (d.client.current ≡ s.current) ⊎ ((n : ℕ) → waited_reading d.client.current ≡ Some n → n ≡ suc s.number)

-- more messages

module _ (sent more : List Message) (client : ℕ) where
  asked_later : (file number : ℕ) → HasAsked sent client file number → HasAsked (sent ++ more) client file number
  asked_later file number h =
      record {
        named = h.named;
        wanted = h.wanted;
        deadline = h.deadline;
        lost = h.lost;
        ask = h.ask;
        sent_is = sent_before sent more h.ask h.sent_is;
        sender_is = h.sender_is;
        body_is = h.body_is;
        file_is = h.file_is;
      }

  pub told_later : (file : ℕ) (l : Location) → IsTold sent client file l → IsTold (sent ++ more) client file l
  told_later file l h =
      record { number = h.number; asked = asked_later file h.number h.asked; told = h.told; sent_is = sent_before sent more h.told h.sent_is; receiver_is = h.receiver_is; body_is = h.body_is }

  reading_later : (chunk_size : ℕ) (c : CurrentCall) (chunk : ToldChunk) (left : List Holder) (number : ℕ) → IsReading sent client chunk_size c chunk left number → IsReading (sent ++ more) client chunk_size c chunk left number
  reading_later chunk_size c chunk left number h =
      record {
        location = h.location;
        told = told_later c.file.0 h.location h.told;
        chunk_is = h.chunk_is;
        earlier = h.earlier;
        holder = h.holder;
        holders_are = h.holders_are;
        request = h.request;
        sent_is = sent_before sent more h.request h.sent_is;
        sender_is = h.sender_is;
        receiver_is = h.receiver_is;
        body_is = h.body_is;
      }

  all_later : (es : List (Place × Cached)) → AllOf (IsKeptTold sent client) es → AllOf (IsKeptTold (sent ++ more) client) es
  all_later [] h = tt
  all_later (e ∷ es) h = (told_later e.0.file e.1.location h.0, all_later es h.1)

  stands_later : (chunk_size : ℕ) (c : CurrentCall) (st : Stage) → WasRequestSent sent client chunk_size c st → WasRequestSent (sent ++ more) client chunk_size c st
  stands_later chunk_size c AskedNames h = tt
  stands_later chunk_size c (AskedWhere number) h = asked_later c.file.0 number h
  stands_later chunk_size c MustAskAgain h = tt
  stands_later chunk_size c (SentData chunk primary number) h = tt
  stands_later chunk_size c (SentMutate chunk number) h = tt
  stands_later chunk_size c (SentRead chunk left number) h = reading_later chunk_size c chunk left number h
  stands_later chunk_size c IsOver h = tt
  stands_later chunk_size c (HasAnswer reply) h = tt

  pub knows_later : (config : Config) (s : ClientState) → Knows config sent client s → Knows config (sent ++ more) client s
  knows_later config s h =
      record { settings = h.settings; cache = all_later s.cache.entries h.cache; stands = λ c is. stands_later (file_chunk s c.file.0) c c.stage (h.stands c is) }

idle_stands : (sent : List Message) (client chunk_size : ℕ) (c : CurrentCall) (st : Stage) → IsIdle st → WasRequestSent sent client chunk_size c st
idle_stands sent client chunk_size c (HasAnswer reply) is = tt
idle_stands sent client chunk_size c MustAskAgain is = tt
idle_stands sent client chunk_size c IsOver is = tt
idle_stands sent client chunk_size c AskedNames is = absurd is
idle_stands sent client chunk_size c (AskedWhere number) is = absurd is
idle_stands sent client chunk_size c (SentData chunk primary number) is = absurd is
idle_stands sent client chunk_size c (SentMutate chunk number) is = absurd is
idle_stands sent client chunk_size c (SentRead chunk left number) is = absurd is

idle_reading : (st : Stage) → IsIdle st → stage_reading st ≡ None
idle_reading (HasAnswer reply) is = refl
idle_reading MustAskAgain is = refl
idle_reading IsOver is = refl
idle_reading AskedNames is = absurd is
idle_reading (AskedWhere number) is = absurd is
idle_reading (SentData chunk primary number) is = absurd is
idle_reading (SentMutate chunk number) is = absurd is
idle_reading (SentRead chunk left number) is = absurd is

append-step : {X : Type 0} (xs : List X) (x : X) (ys : List X) → xs ++ x ∷ ys ≡ (xs ++ x ∷ []) ++ ys
append-step [] x ys = refl
append-step {X} (z ∷ zs) x ys = ap (λ (vs : List X). z ∷ vs) (append-step zs x ys)

-- a message of this body came
abbrev pub Came : List Message → ℕ → Body → Type 0
Came sent client b = (m : Message) × IsSent sent m × (m.receiver ≡ the_client client) × (m.body ≡ b)

module _ (config : Config) (sent : List Message) (k client : ℕ) (s : ClientState) where
  -- a call in hand, before anything is sent
  abbrev Hand : ClientDoing → CurrentCall → Type 0
  Hand d c = (d.client.config ≡ s.config) × (d.client.id ≡ s.id) × (d.client.number ≡ s.number) × (d.sent ≡ None) × AllOf (IsKeptTold sent client) d.client.cache.entries

  abbrev Used : ClientDoing → CurrentCall → Location → Type 0
  Used d c l = IsTold sent client c.file.0 l

  abbrev Left : ClientDoing → CurrentCall → ToldChunk → List Holder → Type 0
  Left d c chunk left = (l : Location) × IsTold sent client c.file.0 l × (chunk_of l ≡ chunk) × ((earlier : List Holder) × (l.holders ≡ earlier ++ left))

  abbrev pub After : ClientDoing → Type 0
  After d = Knows config (sent ++ stamped k (option_to_list d.sent)) client d.client × IsSameOrNew s d

  module _ (id_is : s.id ≡ client) (knows : Knows config sent client s) where
    none_read : (d : ClientDoing) → waited_reading d.client.current ≡ None → IsSameOrNew s d
    none_read d none = inr (λ n is. none_some n (sym none ∙ is))

    -- nothing is waited for that was sent in this step
    rests : (d : ClientDoing) → d.client.config ≡ s.config → AllOf (IsKeptTold sent client) d.client.cache.entries → ((c : CurrentCall) → d.client.current ≡ Some c → WasRequestSent sent client (file_chunk d.client c.file.0) c c.stage) → IsSameOrNew s d → After d
    rests d settings cache stands new =
        (knows_later sent (stamped k (option_to_list d.sent)) client config d.client (record { settings = settings ∙ knows.settings; cache = cache; stands = stands }), new)

    answered : (d : ClientDoing) (reply : Answer) → d.client.config ≡ s.config → AllOf (IsKeptTold sent client) d.client.cache.entries → After (answers d reply)
    answered d reply settings cache = rests (answers d reply) settings cache (λ c is. none_some c is) (none_read (answers d reply) refl)

    -- one message is sent under the next number
    sends : (d : ClientDoing) (e : CurrentCall) (b : Body) (receiver : Node) → d.client.config ≡ s.config → d.client.number ≡ s.number → AllOf (IsKeptTold sent client) d.client.cache.entries
        → ((m : Message) → IsSent (sent ++ stamped k (m ∷ [])) (record m { number = k }) → m ≡ message (the_client d.client.id) receiver b → WasRequestSent (sent ++ stamped k (m ∷ [])) client (file_chunk d.client e.file.0) e e.stage)
        → ((n : ℕ) → stage_reading e.stage ≡ Some n → n ≡ suc d.client.number)
        → After (record d { client = record d.client { number = suc d.client.number; current = Some e }; sent = Some (message (the_client d.client.id) receiver b) })
    sends d e b receiver settings number cache stands new =
        let m : Message = message (the_client d.client.id) receiver b in
        let more : List Message = stamped k (m ∷ []) in (
          record {
            settings = settings ∙ knows.settings;
            cache = all_later sent more client d.client.cache.entries cache;
            stands = λ c is. subst (λ (x : CurrentCall). WasRequestSent (sent ++ more) client (file_chunk d.client x.file.0) x x.stage) (same_some e c is) (stands m (sent_after sent more (record m { number = k }) (zero, refl)) refl);
          },
          inr (λ n is. new n is ∙ ap (λ (x : ℕ). suc x) number),
        )

    reads : (d : ClientDoing) (c : CurrentCall) (chunk : ToldChunk) (h : Holder) (rest : List Holder) → Left d c chunk (h ∷ rest) → Hand d c → After (committed d c (read_planned d.client c chunk h rest))
    reads d c chunk h rest there hand =
        sends d (record c { stage = SentRead chunk rest (suc d.client.number) }) (read_body d.client c chunk h) (the_server h.server.0) hand.0 hand.2 hand.4
        (λ m now is. record {
          location = there.0;
          told = told_later sent (stamped k (m ∷ [])) client c.file.0 there.0 there.1;
          chunk_is = there.2;
          earlier = (there.3).0;
          holder = h;
          holders_are = (there.3).1;
          request = record m { number = k };
          sent_is = now;
          sender_is = ap (λ (x : Message). x.sender) is ∙ ap (λ (n : ℕ). the_client n) (hand.1 ∙ id_is);
          receiver_is = ap (λ (x : Message). x.receiver) is;
          body_is = ap (λ (x : Message). x.body) is;
        })
        (λ n is. sym (same_some (suc d.client.number) n is))

    asking : (d : ClientDoing) (c : CurrentCall) → Hand d c → After (asks d c)
    asking d c hand =
        sends d (record c { lost_lease = false; stage = AskedWhere (suc d.client.number) }) (body.Ask (suc d.client.number) c.file (wanted_by c.index c.asked) c.deadline c.lost_lease) Master hand.0 hand.2 hand.4
        (λ m now is. record {
          named = c.file;
          wanted = wanted_by c.index c.asked;
          deadline = c.deadline;
          lost = c.lost_lease;
          ask = record m { number = k };
          sent_is = now;
          sender_is = ap (λ (x : Message). x.sender) is ∙ ap (λ (n : ℕ). the_client n) (hand.1 ∙ id_is);
          body_is = ap (λ (x : Message). x.body) is;
          file_is = refl;
        })
        (λ n is. none_some n is)

    -- a location that is kept was told for its file
    kept_told : (d : ClientDoing) (c : CurrentCall) (index : ℕ) (e : Cached) → cached d.client (place_at c index) ≡ Some e → AllOf (IsKeptTold sent client) d.client.cache.entries → IsTold sent client c.file.0 e.location
    kept_told d c index e is all = fresh (lookup (is_same_place (place_at c index)) d.client.cache.entries) refl is
      where
        from_entry : (found_one : Cached) → lookup (is_same_place (place_at c index)) d.client.cache.entries ≡ Some found_one → IsTold sent client c.file.0 found_one.location
        from_entry one at =
            let there = found (IsKeptTold sent client) (is_same_place (place_at c index)) d.client.cache.entries one at all in
            let same = and_parts (c.file.0 == (there.0).file) (index == (there.0).index) there.1 in
            subst (λ (n : ℕ). IsTold sent client n one.location) (sym (eqb-true c.file.0 (there.0).file same.0)) there.2

        by_test : (one : Cached) (b : Bool) → lookup (is_same_place (place_at c index)) d.client.cache.entries ≡ Some one → cond b (Some one) None ≡ Some e → IsTold sent client c.file.0 e.location
        by_test one true at g = subst (λ (x : Cached). IsTold sent client c.file.0 x.location) (same_some one e g) (from_entry one at)
        by_test one false at g = none_some e g

        fresh : (o : Option Cached) → lookup (is_same_place (place_at c index)) d.client.cache.entries ≡ o → fresh_one d.client c.file.0 o ≡ Some e → IsTold sent client c.file.0 e.location
        fresh None at g = none_some e g
        fresh (Some one) at g = by_test one (is_fresh d.client c.file.0 one) at g

    -- a location that is told now
    told_now : (c : CurrentCall) (number : ℕ) (l : Location) → s.current ≡ Some c → c.stage ≡ AskedWhere number → Came sent client (body.Told number (Some l)) → IsTold sent client c.file.0 l
    told_now c number l now at came =
        record {
          number = number;
          asked = subst (λ (st : Stage). WasRequestSent sent client (file_chunk s c.file.0) c st) at (knows.stands c now);
          told = came.0;
          sent_is = came.1;
          receiver_is = came.2;
          body_is = came.3;
        }

    heard : (c : CurrentCall) (l : Location) → IsTold sent client c.file.0 l → Hand (client_begins s) c → Hand (heard_at (client_begins s) c l) (is_told_of (client_begins s) c)
    heard c l told hand = (
      hand.0,
      hand.1,
      hand.2,
      hand.3,
      after_put (IsKeptTold sent client) s.cache (place_at c l.index) _
          (λ q same. subst (λ (n : ℕ). IsTold sent client n l) (eqb-true c.file.0 q.file (and_parts (c.file.0 == q.file) (l.index == q.index) same).0) told) told hand.4,
    )

    kept : KeepsClient s (Came sent client) Hand Hand Used Left After
    kept =
        record {
          changes = λ d c e same h. h;
          name_changes = λ d c e same h. h;
          begins = λ d c e same end h. h;
          drops = λ d c chunk h. (h.0, h.1, h.2, h.3, after_drop (IsKeptTold sent client) d.client.cache (record { file = c.file.0; index = chunk.index }) h.4);
          notes = λ d c index h. h;
          looks = λ d c index h. (h.0, h.1, h.2, h.3, after_look (IsKeptTold sent client) d.client (place_at c index) h.4);
          finds = λ d c index e end is h. kept_told d c index e is h.4;
          hears = λ c number l now at came h. let told = told_now c number l now at came in (heard c l told h, told);
          holders = λ d c l told. (l, told, refl, ([], refl));
          left = λ c chunk rest number now at fresh h.
              let reading : IsReading sent client (file_chunk s c.file.0) c chunk rest number = subst (λ (st : Stage). WasRequestSent sent client (file_chunk s c.file.0) c st) at (knows.stands c now) in
              (reading.location, reading.told, reading.chunk_is, (reading.earlier ++ reading.holder ∷ [], reading.holders_are ∙ append-step reading.earlier reading.holder rest));
          answered = λ d c reply h. answered d reply h.0 h.4;
          name_answered = λ d c reply h. answered d reply h.0 h.4;
          opened = λ c number file shape now at came h. rests (opens (client_begins s) file.0 shape) h.0 h.4 (λ e is. none_some e is) (none_read (opens (client_begins s) file.0 shape) refl);
          waits = λ d c idle h.
              rests (with_current d c) h.0 h.4 (λ e is. subst (λ (x : CurrentCall). WasRequestSent sent client (file_chunk d.client x.file.0) x x.stage) (same_some c e is) (idle_stands sent client (file_chunk d.client c.file.0) c c.stage idle))
              (none_read (with_current d c) (idle_reading c.stage idle));
          waits_again = λ d c h. stays (committed d c (again_planned d.client)) (record c { stage = MustAskAgain }) refl tt refl h.0 h.4;
          asking = λ d c h. asking d c h;
          reads = λ d c chunk x rest r h. reads d c chunk x rest r h;
          pushes = λ d c l g first is hop told h.
              stays (committed d c (push_planned_to d.client c (chunk_of l) g (Some first))) (record c { stage = SentData (chunk_of l) g.primary (suc d.client.number) }) refl tt refl h.0 h.4;
          mutates = λ c chunk primary number now at fresh h.
              stays (committed (client_begins s) c (mutate_planned s c chunk primary number)) (record c { stage = SentMutate chunk number }) refl tt refl h.0 h.4;
          naming = λ d c end h. stays (committed d c (name_planned d.client c)) (record c { stage = AskedNames }) refl tt refl h.0 h.4;
        }
      where
        stays : (d : ClientDoing) (e : CurrentCall) → d.client.current ≡ Some e → WasRequestSent sent client (file_chunk d.client e.file.0) e e.stage → stage_reading e.stage ≡ None → d.client.config ≡ s.config → AllOf (IsKeptTold sent client) d.client.cache.entries → After d
        stays d e is stands none settings cache =
            rests d settings cache (λ c at. subst (λ (x : CurrentCall). WasRequestSent sent client (file_chunk d.client x.file.0) x x.stage) (same_some e c (sym is ∙ at)) stands) (none_read d (ap waited_reading is ∙ none))

    at_stage : (c : CurrentCall) (st : Stage) → Hand (client_begins s) c → HoldsAt s Hand Hand c st
    at_stage c AskedNames h = h
    at_stage c (AskedWhere number) h = h
    at_stage c MustAskAgain h = h
    at_stage c (SentData chunk primary number) h = h
    at_stage c (SentMutate chunk number) h = h
    at_stage c (SentRead chunk left number) h = h
    at_stage c IsOver h = h
    at_stage c (HasAnswer reply) h = h

    begun : After (client_begins s)
    begun = rests (client_begins s) refl knows.cache knows.stands (inl refl)

    calls_kept : KeepsCalls s Hand Hand After
    calls_kept =
        record {
          replies = λ reply. answered (client_begins s) reply refl knows.cache;
          closes = λ fd file is. answered (closed s fd file) answer.Done refl knows.cache;
          named = λ c. (refl, refl, refl, refl, knows.cache);
          filed = λ c file index last is. (refl, refl, refl, refl, knows.cache);
        }

    pub steps_here : (i : NodeInput) → IsCameIn (Came sent client) i → After (client_does (client_begins s) i s.current)
    steps_here i came = step_kept s (Came sent client) Hand Hand Used Left After kept i s.current refl came (λ c is. at_stage c c.stage (refl, refl, refl, refl, knows.cache)) begun

    pub calls_here : (c : Call) → After (calls (client_begins s) c)
    calls_here c = call_kept s (Came sent client) Hand Hand Used Left After kept calls_kept c begun

    pub refused_here : After (answers (client_begins s) (answer.Refused NoMemory))
    refused_here = answered (client_begins s) (answer.Refused NoMemory) refl knows.cache

-- what a client leaves and sends: nothing of one that is put down, all as it was, or as its handling came to
pub stepped : (P : ClientState → List Message → Type 0) (s : ClientState) (moment : ℕ) (i : NodeInput) (choice : Choice) → P (client_goes s moment i).client (option_to_list (client_goes s moment i).sent) → P (stopped_client s) [] → P s []
    → P (client_step s moment i choice).state (client_step s moment i choice).out.sent
stepped P s moment i choice goes stops same =
    on_cond (λ (t : Taken ClientState). P t.state t.out.sent) (may_step s) (client_ends s (client_goes s moment i) choice.ending) (no_step s) (λ _. by_ending choice.ending) (λ _. same)
  where
    by_ending : (e : Ending) → P (client_ends s (client_goes s moment i) e).state (client_ends s (client_goes s moment i) e).out.sent
    by_ending Goes = goes
    by_ending Lost = stops
    by_ending (Stops made) = stops

pub called : (P : ClientState → List Message → Type 0) (s : ClientState) (moment : ℕ) (c : Call) (choice : Choice) → P (client_call_goes s moment c).client (option_to_list (client_call_goes s moment c).sent)
    → P (answers (client_begins (client_at s moment)) (answer.Refused NoMemory)).client [] → P (stopped_client s) [] → P (client_call s moment c choice).state (client_call s moment c choice).out.sent
called P s moment c choice goes refused stops =
    on_cond (λ (t : Taken ClientState). P t.state t.out.sent) (first_is_true choice.refused) (client_ends s no_memory choice.ending) (client_ends s (client_call_goes s moment c) choice.ending)
    (λ _. by_ending no_memory refused choice.ending) (λ _. by_ending (client_call_goes s moment c) goes choice.ending)
  where
    no_memory : ClientDoing
    no_memory = answers (client_begins (client_at s moment)) (answer.Refused NoMemory)

    by_ending : (d : ClientDoing) → P d.client (option_to_list d.sent) → (e : Ending) → P (client_ends s d e).state (client_ends s d e).out.sent
    by_ending d h Goes = h
    by_ending d h Lost = stops
    by_ending d h (Stops made) = stops
