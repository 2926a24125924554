-- In each world that is reached, each attempt of a client is over, or it was sent in the client's last call, which is open.
use Rattle.std.proofs.Common.{◌≡◌, ◌⊎◌, ℕ, zero, suc, ◌≤◌, Bool, true, false, true≢false, List, [], ◌∷◌, ◌++◌, length, map, Option, Some, None, refl, sym, ap, subst, ◌∙◌, inl, inr, arith}
use Rattle.std.specs.Prelude.{◌==◌, ◌&&◌, max, cond, is_none, is_some, IsTrue}
use Rattle.std.specs.Option.{option_to_list}
use Rattle.std.proofs.lemmas.Bool.{and_parts, eqb-true}
use Rattle.std.proofs.Math.Nat.{le-max_left, le-max_right, max-le}
use Rattle.gfs_types.specs.declared.config.Config.{Config}
use Rattle.gfs_types.specs.declared.ids.DataId.{DataId}
use Rattle.gfs_types.specs.declared.ids.ServerId.{ServerId}
use Rattle.gfs_types.specs.declared.ids.Handle.{Handle}
use Rattle.gfs_types.specs.declared.ids.Version.{Version}
use Rattle.gfs_types.specs.declared.ids.Moment.{Moment}
use Rattle.gfs_types.specs.declared.call.Call.{Call}
use Rattle.gfs_types.specs.declared.answer.Answer.{Answer}
use Rattle.gfs_types.specs.declared.answer.Answer.TheVariants as answer
use Rattle.gfs_types.specs.declared.refusal.Refusal.TheVariants.{NoMemory}
use Rattle.messages.specs.declared.event.Event.{Event}
use Rattle.messages.specs.declared.event.Event.TheVariants as event
use Rattle.messages.specs.declared.event.NodeInput.{NodeInput}
use Rattle.messages.specs.declared.event.NodeInput.TheVariants as input
use Rattle.messages.specs.declared.message.Body.{Body}
use Rattle.messages.specs.declared.message.Body.TheVariants as body
use Rattle.messages.specs.declared.message.Message.{Message}
use Rattle.client_state.specs.declared.call.CurrentCall.{CurrentCall}
use Rattle.client_state.specs.declared.call.ToldChunk.{ToldChunk}
use Rattle.client_state.specs.declared.call.Stage.TheVariants.{SentData, SentMutate}
use Rattle.relaxed_file.specs.NotRuns.{waits}
use Rattle.relaxed_file.specs.Run.{Visible, Called}
use Rattle.protocol.specs.Tables.{element_at, with_at, first_numbers}
use Rattle.protocol.specs.Sending.{message, data_id, the_server, the_client}
use Rattle.protocol.specs.Choice.{Choice, Ending, Goes, Lost, Stops}
use Rattle.protocol.specs.Seen.{Taken, no_step}
use Rattle.protocol.specs.Observer.{Observer, observed_moment, observed_answer, calls_made}
use Rattle.protocol.specs.Client.{file_chunk, ClientState, ClientDoing, new_client, client_begins, committed, answers}
use Rattle.protocol.specs.ClientAttempts.{is_mutation, target_of, mutate_planned}
use Rattle.protocol.specs.ClientStep.{client_does, client_at, client_goes, client_call_goes, may_step, may_call, has_room_to_count, client_ends, client_step, client_call}
use Rattle.protocol.specs.MasterSnapshots.{first_is_true}
use Rattle.protocol.specs.MasterStep.{master_step, master_restart}
use Rattle.protocol.specs.ServerStep.{server_step, server_restart}
use Rattle.protocol.specs.World.{WorldState, Happened, new_world, nothing_happens, stamped, after_master, after_server, after_client, happens, after_events, IsReached}
use Rattle.laws_base.proofs.Steps.{on_cond, none_some, same_some, same_or_not}
use Rattle.laws_base.proofs.Entries.{AllOf, same_number}
use Rattle.laws_base.proofs.ServerMoves.{IsCameIn}
use Rattle.laws_base.proofs.RisingOrders.{set_cases}
use Rattle.laws_base.specs.Attempts.{is_from_client, mutates_under, IsRequestOf}
use Rattle.laws_base.proofs.Events.{IsGiven, HoldsAfter, holds_after, with_call}
use Rattle.laws_base.proofs.ClientNumbers.{IsStepOf, of_step, of_call}
use Rattle.laws_base.proofs.RequestsOnce.{AreNumbered, not_other, own_sender, at_numbered, first_and, numbered_reached, later_cases}
use Rattle.laws_base.proofs.Senders.{server_sends, server_restart_sends, master_sends, master_restart_sends, one_client}
use Rattle.laws_base.specs.Entries.{IsAmong, IsPushed}
use Rattle.laws_base.specs.FewAttempts.{part_of, IsAskedNow, WasAsked}
use Rattle.laws_base.proofs.LeasesStayOver.{reached_later}
use Rattle.laws_machine.proofs.CallWalk.{AnyUsed, IsCalm, IsAsking}
use Rattle.laws_machine.proofs.Answerers.{came_to, attempts_are_answered_by_servers}
use Rattle.laws_machine.specs.OpenAttempts.{AsksBy, WasAnswered, IsOver, IsSentFor, WasSentFor, AttemptsAreOverOrOpen}
use Rattle.laws_machine.proofs.OpenStages.{EachOwn, IsOpen, HasData, IsUnderWay, AllOver, CameAs, AnyReply, step_leaves, call_leaves, refusal_leaves}
use Rattle.laws_machine.proofs.LaterCalls.{over_all_later, pushed_later, over_later, counted_later, CallStands, NoNew, stands_later, from_others, one_message, from_silent, last_at, sent_there, append-[], waits_joined, waits_passed, waits_others, calls_joined, calls_passed, calls_answered, greatest_answered, put_at, denial_final, split_now, to_now}

-- one client; T: the numbers under which it asked so far, for each call and part; G: for each chunk of a file
module _ (config : Config) (index : ℕ) where
  abbrev K : WorldState → ℕ
  K w = calls_made w.observer.trace (suc index)

  abbrev Waits : WorldState → Bool
  Waits w = waits (suc index) false w.observer.trace

  abbrev pub InCall : (ℕ → Option ℕ → ℕ → Type 0) → WorldState → ℕ → Type 0
  InCall T w seq = ((part : Option ℕ) × T (calls_made w.observer.trace (suc index)) part seq) × (waits (suc index) false w.observer.trace ≡ true)

  abbrev pub AreAsked : (ℕ → Option ℕ → ℕ → Type 0) → (ℕ → ToldChunk → ℕ → Type 0) → WorldState → Type 0
  AreAsked T G w = EachOwn config w.sent w.observer.greatest (suc index) (λ id handle version deadline. IsOver G w.sent config.skew_ms w.observer.greatest id version deadline ⊎ InCall T w id.seq)

  pub record IsStanding (G : ℕ → ToldChunk → ℕ → Type 0) (w : WorldState) (s : ClientState) : Type 0 where
    pub config_is : s.config ≡ config
    pub known : s.now ≤ w.observer.greatest
    pub call : IsTrue s.up → CallStands G config w.sent w.observer.greatest (suc index) s.now None s.current
    pub is_open : IsTrue s.up → is_some s.current ≡ true → waits (suc index) false w.observer.trace ≡ true

  pub record IsOn (T : ℕ → Option ℕ → ℕ → Type 0) (G : ℕ → ToldChunk → ℕ → Type 0) (w : WorldState) : Type 0 where
    pub asked : AreAsked T G w
    pub stands : (s : ClientState) → element_at w.clients index ≡ Some s → IsStanding G w s

  on_more : (T V : ℕ → Option ℕ → ℕ → Type 0) → ((made : ℕ) (part : Option ℕ) (n : ℕ) → T made part n → V made part n)
      → (G J : ℕ → ToldChunk → ℕ → Type 0) → ((file : ℕ) (chunk : ToldChunk) (seq : ℕ) → G file chunk seq → J file chunk seq) → (w : WorldState) → IsOn T G w → IsOn V J w
  on_more T V go G J gone w h =
      record {
        asked = λ id handle version deadline own a. elim (h.asked id handle version deadline own a) [
          | inl over ↦ inl (subst (λ (ms : List Message). IsOver J ms config.skew_ms w.observer.greatest id version deadline) (append-[] w.sent) (over_later w.sent [] G J gone config.skew_ms w.observer.greatest w.observer.greatest (omega arith) id version deadline over))
          | inr is_open ↦ inr (((is_open.0).0, go (K w) (is_open.0).0 id.seq (is_open.0).1), is_open.1)
        ];
        stands = λ s at. let old = h.stands s at in record {
          config_is = old.config_is;
          known = old.known;
          call = λ up. subst (λ (ms : List Message). CallStands J config ms w.observer.greatest (suc index) s.now None s.current) (append-[] w.sent)
              (stands_later G J gone config w.sent [] (suc index) w.observer.greatest w.observer.greatest (omega arith) (λ id handle version deadline own a. subst (λ (ms : List Message). AsksBy ms id handle version deadline) (append-[] w.sent) a)
              None (λ m is. none_some m is) s.now s.now (omega arith) s.current (old.call up));
          is_open = old.is_open;
        };
      }

  -- an event that asks for nothing and leaves the client as it was
  others_on : (T : ℕ → Option ℕ → ℕ → Type 0) (G : ℕ → ToldChunk → ℕ → Type 0) (w : WorldState) → IsOn T G w → (u : WorldState) (more : List Message) → u.sent ≡ w.sent ++ more → NoNew w.sent (w.sent ++ more) (suc index) → K u ≡ K w → Waits u ≡ Waits w
      → w.observer.greatest ≤ u.observer.greatest → ((s : ClientState) → element_at u.clients index ≡ Some s → element_at w.clients index ≡ Some s) → IsOn T G u
  others_on T G w h u more sent none calls waiting grows there =
      record {
        asked = λ id handle version deadline own a.
            elim (h.asked id handle version deadline own (none id handle version deadline own (subst (λ (ms : List Message). AsksBy ms id handle version deadline) sent a))) [
              | inl over ↦ inl (subst (λ (ms : List Message). IsOver G ms config.skew_ms u.observer.greatest id version deadline) (sym sent) (over_later w.sent more G G (λ file chunk seq i. i) config.skew_ms w.observer.greatest u.observer.greatest grows id version deadline over))
              | inr is_open ↦ inr (((is_open.0).0, subst (λ (k : ℕ). T k (is_open.0).0 id.seq) (sym calls) (is_open.0).1), waiting ∙ is_open.1)
            ];
        stands = λ s at. let old = h.stands s (there s at) in record {
          config_is = old.config_is;
          known = let low = old.known in omega (arith, low, grows);
          call = λ up. subst (λ (ms : List Message). CallStands G config ms u.observer.greatest (suc index) s.now None s.current) (sym sent)
              (stands_later G G (λ file chunk seq i. i) config w.sent more (suc index) w.observer.greatest u.observer.greatest grows none None (λ m is. none_some m is) s.now s.now (omega arith) s.current (old.call up));
          is_open = λ up some. waiting ∙ old.is_open up some;
        };
      }

  abbrev Next : WorldState → Happened → (ℕ → Option ℕ → ℕ → Type 0) → ℕ → Option ℕ → ℕ → Type 0
  Next w x T made part n = T made part n ⊎ IsAskedNow index w x made part n

  abbrev NextFor : WorldState → Happened → (ℕ → ToldChunk → ℕ → Type 0) → ℕ → ToldChunk → ℕ → Type 0
  NextFor w x G file chunk seq = G file chunk seq ⊎ IsSentFor index w x file chunk seq

  -- the client itself
  module _ (T : ℕ → Option ℕ → ℕ → Type 0) (G : ℕ → ToldChunk → ℕ → Type 0) (servers clients : ℕ) (w : WorldState) (r : IsReached config servers clients w) (numbered : AreNumbered w.sent w.clients) (h : IsOn T G w) (moment : ℕ) (s : ClientState) (at : element_at w.clients index ≡ Some s)
      (up : IsTrue s.up) where
    abbrev Top : ℕ
    Top = max w.observer.greatest moment

    abbrev Then : ClientState
    Then = client_at s moment

    id_is : s.id ≡ suc index
    id_is = (numbered.each index s at).id

    config_then : (client_at s moment).config ≡ config
    config_then = (h.stands s at).config_is

    known_then : (client_at s moment).now ≤ max w.observer.greatest moment
    known_then = let low = (h.stands s at).known in let one = le-max_left w.observer.greatest moment in max-le (omega (arith, low, one)) (le-max_right w.observer.greatest moment)

    once : (client n : ℕ) → mutates_under client n w.sent ≤ 1
    once client n = (numbered.once client n).1

    used : EachOwn config w.sent (max w.observer.greatest moment) (client_at s moment).id (λ id handle version deadline. id.seq ≤ (client_at s moment).number)
    used id handle version deadline own a =
        (subst (IsRequestOf s) a.body_is ((numbered.each index s at).used up (a.sent_is).0 a.asked (a.sent_is).1 (a.sender_is ∙ ap (λ (n : ℕ). the_client n) (own ∙ id_is)))).1

    grows : w.observer.greatest ≤ max w.observer.greatest moment
    grows = le-max_left w.observer.greatest moment

    none_yet : NoNew w.sent (w.sent ++ []) (suc index)
    none_yet id handle version deadline own a = subst (λ (ms : List Message). AsksBy ms id handle version deadline) (append-[] w.sent) a

    -- what stands as the step begins
    begun : CallStands G config w.sent (max w.observer.greatest moment) s.id (client_at s moment).now None s.current
    begun =
        subst (λ (n : ℕ). CallStands G config w.sent (max w.observer.greatest moment) n (client_at s moment).now None s.current) (sym id_is)
        (subst (λ (ms : List Message). CallStands G config ms (max w.observer.greatest moment) (suc index) (client_at s moment).now None s.current) (append-[] w.sent)
        (stands_later G G (λ file chunk seq i. i) config w.sent [] (suc index) w.observer.greatest (max w.observer.greatest moment) grows none_yet None (λ m is. none_some m is) s.now (client_at s moment).now (le-max_left s.now moment) s.current ((h.stands s at).call up)))

    abbrev Calm : ClientDoing → Type 0
    Calm d =
        IsCalm (client_at s moment) AnyUsed (IsOpen G config w.sent (max w.observer.greatest moment) s.id (client_at s moment).now) (λ o c chunk number. HasData config w.sent (max w.observer.greatest moment) s.id o c chunk number)
        (IsUnderWay G config w.sent (max w.observer.greatest moment) s.id (client_at s moment).now) AnyReply (λ reply. AllOver G config w.sent (max w.observer.greatest moment) s.id) (AllOver G config w.sent (max w.observer.greatest moment) s.id) d

    -- what a calm step leaves, in a world where the calls made and who waits are these
    module _ (d : ClientDoing) (calm : Calm d) where
      abbrev After : List Message
      After = w.sent ++ stamped (suc (length w.sent)) (option_to_list d.sent)

      none_new : NoNew w.sent (w.sent ++ stamped (suc (length w.sent)) (option_to_list d.sent)) (suc index)
      none_new = from_silent w.sent (suc (length w.sent)) (suc index) d.sent calm.silent

      abbrev IsSplit : Type 0
      IsSplit = ((d.answer ≡ None) × CallStands G config w.sent (max w.observer.greatest moment) (suc index) (client_at s moment).now d.sent d.client.current) ⊎ ((d.client.current ≡ None) × AllOver G config w.sent (max w.observer.greatest moment) (suc index))

      split : IsSplit
      split =
          subst (λ (n : ℕ). ((d.answer ≡ None) × CallStands G config w.sent (max w.observer.greatest moment) n (client_at s moment).now d.sent d.client.current) ⊎ ((d.client.current ≡ None) × AllOver G config w.sent (max w.observer.greatest moment) n)) id_is
          (split_now G config w.sent (max w.observer.greatest moment) s.id (client_at s moment).now (client_at s moment) d.sent d.answer d.client.current calm.stands)

      over_then : AllOver G config w.sent (max w.observer.greatest moment) (suc index) → AllOver G config After (max w.observer.greatest moment) (suc index)
      over_then all = over_all_later G G (λ file chunk seq i. i) config w.sent (stamped (suc (length w.sent)) (option_to_list d.sent)) (suc index) (max w.observer.greatest moment) (max w.observer.greatest moment) (omega arith) none_new all

      call_then : CallStands G config After (max w.observer.greatest moment) (suc index) d.client.now None d.client.current
      call_then =
          subst (λ (n : ℕ). CallStands G config After (max w.observer.greatest moment) (suc index) n None d.client.current) (sym (calm.kept).1)
          (elim (split) [
            | inl goes ↦ stands_later G G (λ file chunk seq i. i) config w.sent (stamped (suc (length w.sent)) (option_to_list d.sent)) (suc index) (max w.observer.greatest moment) (max w.observer.greatest moment) (omega arith) none_new d.sent
                (λ m is. sent_there w.sent (suc (length w.sent)) d.sent m is) (client_at s moment).now (client_at s moment).now (omega arith) d.client.current goes.1
            | inr ended ↦ subst (λ (o : Option CurrentCall). CallStands G config After (max w.observer.greatest moment) (suc index) (client_at s moment).now None o) (sym ended.0) (over_then ended.1)
          ])

    abbrev Left : Taken ClientState → Type 0
    Left t = IsOn (Next w (after_client w index moment t) T) (NextFor w (after_client w index moment t) G) (after_client w index moment t).world

    -- where no primary is asked
    abbrev Quiet : Taken ClientState → Type 0
    Quiet t = IsOn (Next w (after_client w index moment t) T) G (after_client w index moment t).world

    quiet_left : (t : Taken ClientState) → Quiet t → Left t
    quiet_left t g =
        let x : Happened = after_client w index moment t in
        on_more (Next w x T) (Next w x T) (λ made part n asked. asked) G (NextFor w x G) (λ file chunk seq i. inl i) x.world g

    same_waits : (d : ClientDoing) → d.answer ≡ None → waits (suc index) false (observed_answer (observed_moment w.config.skew_ms w.observer moment) (suc index) d.answer).trace ≡ waits (suc index) false w.observer.trace
    same_waits d none = ap (λ (a : Option Answer). waits (suc index) false (observed_answer (observed_moment w.config.skew_ms w.observer moment) (suc index) a).trace) none ∙ waits_passed w.config.skew_ms w.observer moment (suc index)

    same_calls : (a : Option Answer) → calls_made (observed_answer (observed_moment w.config.skew_ms w.observer moment) (suc index) a).trace (suc index) ≡ calls_made w.observer.trace (suc index)
    same_calls a = calls_answered (observed_moment w.config.skew_ms w.observer moment) (suc index) (suc index) a ∙ calls_passed w.config.skew_ms w.observer moment (suc index)

    top_is : (a : Option Answer) → (observed_answer (observed_moment w.config.skew_ms w.observer moment) (suc index) a).greatest ≡ max w.observer.greatest moment
    top_is a = greatest_answered (observed_moment w.config.skew_ms w.observer moment) (suc index) a

    calm_left : (d : ClientDoing) → Calm d → (is_some d.client.current ≡ true → is_some s.current ≡ true) → Quiet (client_ends s d Goes)
    calm_left d calm was =
        record {
          asked = λ id handle version deadline own a. subst (λ (n : ℕ). IsOver G (After d calm) config.skew_ms n id version deadline ⊎ InCall (Next w x T) x.world id.seq) (sym (top_is d.answer))
              (elim (h.asked id handle version deadline own (none_new d calm id handle version deadline own a)) [
                | inl over ↦ inl (over_later w.sent more G G (λ file chunk seq i. i) config.skew_ms w.observer.greatest (max w.observer.greatest moment) grows id version deadline over)
                | inr is_open ↦ elim (split d calm) [
                  | inl goes ↦ inr (((is_open.0).0, subst (λ (n : ℕ). Next w x T n (is_open.0).0 id.seq) (sym (same_calls d.answer)) (inl (is_open.0).1)), same_waits d goes.0 ∙ is_open.1)
                  | inr ended ↦ inl (over_then d calm ended.1 id handle version deadline own a)
                ]
              ]);
          stands = λ v there. subst (λ (y : ClientState). IsStanding G x.world y) (sym (put_at d.client w.clients index v there)) (record {
            config_is = (calm.kept).0 ∙ config_then;
            known = let same = (calm.kept).1 in let top = top_is d.answer in let low = known_then in omega (arith, same, top, low);
            call = λ up_then. subst (λ (n : ℕ). CallStands G config (After d calm) n (suc index) d.client.now None d.client.current) (sym (top_is d.answer)) (call_then d calm);
            is_open = λ up_then some. elim (split d calm) [
              | inl goes ↦ same_waits d goes.0 ∙ (h.stands s at).is_open up (was some)
              | inr ended ↦ absurd (true≢false (sym some ∙ ap is_some ended.0))
            ];
          });
        }
      where
        x : Happened
        x = after_client w index moment (client_ends s d Goes)

        more : List Message
        more = stamped (suc (length w.sent)) (option_to_list d.sent)

    -- it asks a primary

    abbrev Asking : ClientDoing → Type 0
    Asking d =
        IsAsking (client_at s moment) AnyUsed (IsOpen G config w.sent (max w.observer.greatest moment) s.id (client_at s moment).now) (λ o c chunk number. HasData config w.sent (max w.observer.greatest moment) s.id o c chunk number)
        (IsUnderWay G config w.sent (max w.observer.greatest moment) s.id (client_at s moment).now) AnyReply (λ reply. AllOver G config w.sent (max w.observer.greatest moment) s.id) (AllOver G config w.sent (max w.observer.greatest moment) s.id) d

    -- the Mutate that is sent
    module _ (c : CurrentCall) (chunk : ToldChunk) (primary : ServerId) (number : ℕ) (current_is : s.current ≡ Some c) (stage_is : c.stage ≡ SentData chunk primary number) (mutates : is_mutation c.asked ≡ true)
        (over : IsOpen G config w.sent (max w.observer.greatest moment) (suc index) (client_at s moment).now c) (pushed : HasData config w.sent (max w.observer.greatest moment) (suc index) None c chunk number) where
      abbrev Doing : ClientDoing
      Doing = committed (client_begins (client_at s moment)) c (mutate_planned (client_at s moment) c chunk primary number)

      abbrev Word : Message
      Word = message (the_client s.id) (the_server primary.0) (body.Mutate (data_id s.id number) chunk.handle chunk.round (target_of (file_chunk s c.file.0) c.index c.asked) c.deadline)

      abbrev Then_ : Happened
      Then_ = after_client w index moment (client_ends s (committed (client_begins (client_at s moment)) c (mutate_planned (client_at s moment) c chunk primary number)) Goes)

      abbrev Sent : List Message
      Sent = w.sent ++ stamped (suc (length w.sent)) (Word ∷ [])

      abbrev Later : List Message
      Later = stamped (suc (length w.sent)) (Word ∷ [])

      data_is : data_id s.id number ≡ data_id (suc index) number
      data_is = ap (λ (n : ℕ). data_id n number) id_is

      -- an attempt was sent before, or is this one
      which : (id : DataId) (handle : Handle) (version : Version) (deadline : Moment) → AsksBy (w.sent ++ stamped (suc (length w.sent)) (Word ∷ [])) id handle version deadline
          → AsksBy w.sent id handle version deadline ⊎ (number ≡ id.seq)
      which id handle version deadline a =
          elim (later_cases w.sent (suc (length w.sent)) (Word ∷ []) (a.sent_is).0 a.asked (a.sent_is).1) [
            | inl before ↦ inl (record { asked = a.asked; aim = a.aim; sent_is = ((a.sent_is).0, before); sender_is = a.sender_is; body_is = a.body_is })
            | inr new ↦ inr (ap (λ (b : Body). seq_in number b) (ap (λ (m : Message). m.body) (same_some Word new.0 (one_message (Some Word) new.0 (new.1).0 (new.1).1)) ∙ (new.2).2 ∙ a.body_is))
          ]
        where
          seq_in : ℕ → Body → ℕ
          seq_in none (body.Mutate id handle version aim deadline) = id.seq
          seq_in none other = none

      now_asked : IsAskedNow index w (after_client w index moment (client_ends s (committed (client_begins (client_at s moment)) c (mutate_planned (client_at s moment) c chunk primary number)) Goes)) (calls_made w.observer.trace (suc index)) (part_of c.asked c.index) number
      now_asked =
          record {
            client = s;
            current = c;
            asked = Word;
            place = 0;
            id = data_id s.id number;
            handle = chunk.handle;
            version = chunk.round;
            aim = target_of (file_chunk s c.file.0) c.index c.asked;
            deadline = c.deadline;
            is = at;
            current_is = current_is;
            part_is = refl;
            made_is = refl;
            sent_is = refl;
            sender_is = ap (λ (n : ℕ). the_client n) id_is;
            body_is = refl;
            number_is = refl;
          }

      -- and this chunk of the file
      sent_now : IsSentFor index w Then_ c.file.0 chunk number
      sent_now =
          record {
            client = s;
            current = c;
            primary = primary;
            client_is = at;
            current_is = current_is;
            stage_is = stage_is;
            file_is = refl;
            is_up = up;
            place = length w.sent;
            asked = record Word { number = suc (length w.sent) };
            aim = target_of (file_chunk s c.file.0) c.index c.asked;
            deadline = c.deadline;
            unsent = omega arith;
            sent_is = last_at w.sent (record Word { number = suc (length w.sent) });
            sender_is = ap (λ (n : ℕ). the_client n) id_is;
            body_is = ap (λ (x : DataId). body.Mutate x chunk.handle chunk.round (target_of (file_chunk s c.file.0) c.index c.asked) c.deadline) data_is;
          }

      open_now : waits (suc index) false (observed_answer (observed_moment w.config.skew_ms w.observer moment) (suc index) None).trace ≡ true
      open_now = waits_passed w.config.skew_ms w.observer moment (suc index) ∙ (h.stands s at).is_open up (ap is_some current_is)

      calls_now : calls_made (observed_answer (observed_moment w.config.skew_ms w.observer moment) (suc index) None).trace (suc index) ≡ calls_made w.observer.trace (suc index)
      calls_now = same_calls None

      way : IsUnderWay (NextFor w Then_ G) config (w.sent ++ stamped (suc (length w.sent)) (Word ∷ [])) (max w.observer.greatest moment) (suc index) (client_at s moment).now (record c { stage = SentMutate chunk number }) chunk number
      way =
          record {
            each = λ id handle version deadline own a. elim (which id handle version deadline a) [
              | inl before ↦ elim (over.each id handle version deadline own before) [
                | inl done ↦ inl (over_later w.sent Later G (NextFor w Then_ G) (λ file told seq i. inl i) config.skew_ms (max w.observer.greatest moment) (max w.observer.greatest moment) (omega arith) id version deadline done)
                | inr live ↦ inr (inl (counted_later G (NextFor w Then_ G) (λ file told seq i. inl i) config w.sent Sent (max w.observer.greatest moment) (max w.observer.greatest moment) (suc index) c.file.0 id.seq version deadline c.live live))
              ]
              | inr this ↦ inr (inr (sym this))
            ];
            timely = record { early = over.timely.early; lives = over.timely.lives; plain = over.timely.plain };
            last = λ id handle version deadline own a. elim (which id handle version deadline a) [
              | inl before ↦ let less = pushed.0 id handle version deadline own before in omega (arith, less)
              | inr this ↦ omega (arith, this)
            ];
            asks = record {
              asked = record Word { number = suc (length w.sent) };
              aim = target_of (file_chunk s c.file.0) c.index c.asked;
              sent_is = (length w.sent, last_at w.sent (record Word { number = suc (length w.sent) }));
              sender_is = ap (λ (n : ℕ). the_client n) id_is;
              body_is = ap (λ (x : DataId). body.Mutate x chunk.handle chunk.round (target_of (file_chunk s c.file.0) c.index c.asked) c.deadline) data_is;
            };
            placed = inr sent_now;
            pushed = elim (pushed.1) [ inl before ↦ (before.0, pushed_later w.sent Later (data_id (suc index) number) before.0 before.1) | inr now ↦ none_some now.0 now.1 ];
            mutates = mutates;
          }

      asking_left : Left (client_ends s (committed (client_begins (client_at s moment)) c (mutate_planned (client_at s moment) c chunk primary number)) Goes)
      asking_left =
          record {
            asked = λ id handle version deadline own a. elim (which id handle version deadline a) [
              | inl before ↦ elim (h.asked id handle version deadline own before) [
                | inl done ↦ inl (over_later w.sent Later G (NextFor w Then_ G) (λ file told seq i. inl i) config.skew_ms w.observer.greatest (max w.observer.greatest moment) grows id version deadline done)
                | inr is_open ↦ inr (((is_open.0).0, subst (λ (n : ℕ). Next w Then_ T n (is_open.0).0 id.seq) (sym calls_now) (inl (is_open.0).1)), open_now)
              ]
              | inr this ↦ inr ((part_of c.asked c.index, subst (λ (n : ℕ). Next w Then_ T (K Then_.world) (part_of c.asked c.index) n) this (subst (λ (n : ℕ). Next w Then_ T n (part_of c.asked c.index) number) (sym calls_now) (inr now_asked))), open_now)
            ];
            stands = λ v there. subst (λ (y : ClientState). IsStanding (NextFor w Then_ G) Then_.world y) (sym (put_at Doing.client w.clients index v there)) (record {
              config_is = config_then;
              known = known_then;
              call = λ up_then. (mutates, way);
              is_open = λ up_then some. open_now;
            });
          }

    -- a client that stops

    stopped_left : (t : Taken ClientState) → t.out.sent ≡ [] → t.out.answer ≡ None → t.state.up ≡ false → t.state.config ≡ config → t.state.now ≡ 0 → Quiet t
    stopped_left t sent none down same zero_ =
        record {
          asked = λ id handle version deadline own a.
              elim (h.asked id handle version deadline own (subst (λ (ms : List Message). AsksBy ms id handle version deadline) (append-[] w.sent) (subst (λ (ms : List Message). AsksBy (w.sent ++ stamped (suc (length w.sent)) ms) id handle version deadline) sent a))) [
                | inl over ↦ inl (over_later w.sent (stamped (suc (length w.sent)) t.out.sent) G G (λ file chunk seq i. i) config.skew_ms w.observer.greatest x.world.observer.greatest (let top = top_is t.out.answer in let low = grows in omega (arith, top, low)) id version deadline over)
                | inr is_open ↦ inr (
                  ((is_open.0).0, subst (λ (n : ℕ). Next w x T n (is_open.0).0 id.seq) (sym (same_calls t.out.answer)) (inl (is_open.0).1)),
                  ap (λ (a : Option Answer). waits (suc index) false (observed_answer (observed_moment w.config.skew_ms w.observer moment) (suc index) a).trace) none ∙ waits_passed w.config.skew_ms w.observer moment (suc index) ∙ is_open.1,
                )
              ];
          stands = λ v there. subst (λ (y : ClientState). IsStanding G x.world y) (sym (put_at t.state w.clients index v there)) (record {
            config_is = same;
            known = omega (arith, zero_);
            call = λ up_then. absurd (true≢false (sym up_then ∙ down));
            is_open = λ up_then some. absurd (true≢false (sym up_then ∙ down));
          });
        }
      where
        x : Happened
        x = after_client w index moment t

    down_left : (d : ClientDoing) → (e : Ending) → Left (client_ends s d Goes) → Left (client_ends s d e)
    down_left d Goes left = left
    down_left d Lost left = quiet_left (client_ends s d Lost) (stopped_left (client_ends s d Lost) refl refl refl config_then refl)
    down_left d (Stops made) left = quiet_left (client_ends s d (Stops made)) (stopped_left (client_ends s d (Stops made)) refl refl refl config_then refl)

    same_left : Quiet (no_step s)
    same_left =
        record {
          asked = λ id handle version deadline own a. elim (h.asked id handle version deadline own (none_yet id handle version deadline own a)) [
            | inl over ↦ inl (over_later w.sent [] G G (λ file chunk seq i. i) config.skew_ms w.observer.greatest (max w.observer.greatest moment) grows id version deadline over)
            | inr is_open ↦ inr (((is_open.0).0, subst (λ (n : ℕ). Next w x T n (is_open.0).0 id.seq) (sym (same_calls None)) (inl (is_open.0).1)), waits_passed w.config.skew_ms w.observer moment (suc index) ∙ is_open.1)
          ];
          stands = λ v there. subst (λ (y : ClientState). IsStanding G x.world y) (sym (put_at s w.clients index v there)) (record {
            config_is = config_then;
            known = let low = (h.stands s at).known in let top = grows in omega (arith, low, top);
            call = λ up_then. stands_later G G (λ file chunk seq i. i) config w.sent [] (suc index) w.observer.greatest (max w.observer.greatest moment) grows none_yet None (λ m is. none_some m is) s.now s.now (omega arith) s.current ((h.stands s at).call up_then);
            is_open = λ up_then some. waits_passed w.config.skew_ms w.observer moment (suc index) ∙ (h.stands s at).is_open up_then some;
          });
        }
      where
        x : Happened
        x = after_client w index moment (no_step s)

    -- what comes in was sent to it

    answers_so : (m : Message) → IsAmong w.sent m → m.receiver ≡ the_client (suc index) → (b : Body) → m.body ≡ b → CameAs w.sent s.id b
    answers_so m among to (body.Refused number refusal) is = λ denial pushed.
        let id : DataId = data_id s.id number in
        let own_receiver : m.receiver ≡ the_client s.id = to ∙ ap (λ (n : ℕ). the_client n) (sym id_is) in
        let from = attempts_are_answered_by_servers config servers clients w r among.0 m among.1 id pushed.0 pushed.1 (inr (refusal, own_receiver, is)) in
        record { server = from.0; answer = m; sent_is = among; sender_is = from.1; answers = inr (refusal, own_receiver, is, denial_final refusal denial) }
    answers_so m among to (body.Done id place) is = λ number own seq pushed.
        let same : data_id s.id number ≡ id = ap (λ (n : ℕ). data_id n number) (sym own) ∙ ap (λ (n : ℕ). data_id id.client.0 n) (sym seq) in
        let from = attempts_are_answered_by_servers config servers clients w r among.0 m among.1 id pushed.0 (subst (λ (x : DataId). IsPushed w.sent x pushed.0) same pushed.1) (inl (place, is)) in
        subst (λ (x : DataId). WasAnswered w.sent x) (sym same) (record { server = from.0; answer = m; sent_is = among; sender_is = from.1; answers = inl (place, is) })
    answers_so m among to other is = tt

    came_as : (e : Event) (i : NodeInput) → IsGiven w e (the_client (suc index)) moment i → IsCameIn (CameAs w.sent s.id) i
    came_as e (input.Deliver m) is = answers_so m (came_to w e (the_client (suc index)) moment (input.Deliver m) is m refl) (given_to e m is) m.body refl
      where
        given_to : (e : Event) (m : Message) → IsGiven w e (the_client (suc index)) moment (input.Deliver m) → m.receiver ≡ the_client (suc index)
        given_to (event.Deliver number now) m is = is.1
        given_to (event.Call c asked now) m is = absurd is
        given_to (event.Tick to now) m is = absurd is
        given_to (event.Restart n now) m is = absurd is
        given_to (event.Rot n handle place byte) m is = absurd is
        given_to (event.Fuse n count torn) m is = absurd is
    came_as e input.Tick is = tt

    goes_left : (i : NodeInput) → IsCameIn (CameAs w.sent s.id) i → Left (client_ends s (client_goes s moment i) Goes)
    goes_left i came =
        elim (step_leaves G config w.sent (max w.observer.greatest moment) (client_at s moment) config_then known_then once used i came
        (to_now G config w.sent (max w.observer.greatest moment) s.id (client_at s moment).now (client_at s moment) s.current begun)) [
          | inl calm ↦ quiet_left (client_ends s (client_goes s moment i) Goes) (calm_left (client_goes s moment i) calm (λ some. by_current s.current refl some))
          | inr asking ↦ subst (λ (d : ClientDoing). Left (client_ends s d Goes)) (sym asking.is)
              (asking_left asking.current asking.chunk asking.primary asking.number asking.current_is asking.stage_is asking.mutates
              (subst (λ (n : ℕ). IsOpen G config w.sent (max w.observer.greatest moment) n (client_at s moment).now asking.current) id_is asking.over)
              (subst (λ (n : ℕ). HasData config w.sent (max w.observer.greatest moment) n None asking.current asking.chunk asking.number) id_is asking.pushed))
        ]
      where
        by_current : (o : Option CurrentCall) → s.current ≡ o → is_some (client_goes s moment i).client.current ≡ true → is_some s.current ≡ true
        by_current None is some = absurd (true≢false (sym some ∙ ap (λ (o : Option CurrentCall). is_some (client_does (client_begins (client_at s moment)) i o).client.current) is ∙ ap is_some is))
        by_current (Some c) is some = ap is_some is

    step_left : (e : Event) (i : NodeInput) (choice : Choice) → IsGiven w e (the_client (suc index)) moment i → Left (client_step s moment i choice)
    step_left e i choice is =
        on_cond Left (may_step s) (client_ends s (client_goes s moment i) choice.ending) (no_step s) (λ _. down_left (client_goes s moment i) choice.ending (goes_left i (came_as e i is))) (λ _. quiet_left (no_step s) same_left)

    -- a call of the client, which had none open

    module _ (c : Call) (none_open : s.current ≡ None) where
      abbrev Called_ : Taken ClientState → Type 0
      Called_ t = IsOn (Next w (after_client (with_call w index moment c) index moment t) T) G (after_client (with_call w index moment c) index moment t).world

      all_over : AllOver G config w.sent (max w.observer.greatest moment) (suc index)
      all_over = subst (λ (n : ℕ). AllOver G config w.sent (max w.observer.greatest moment) n) id_is (subst (λ (o : Option CurrentCall). CallStands G config w.sent (max w.observer.greatest moment) s.id (client_at s moment).now None o) none_open begun)

      own_over : AllOver G config w.sent (max w.observer.greatest moment) s.id
      own_over = subst (λ (n : ℕ). AllOver G config w.sent (max w.observer.greatest moment) n) (sym id_is) all_over

      top_called : (a : Option Answer) → (observed_answer (observed_moment w.config.skew_ms (with_call w index moment c).observer moment) (suc index) a).greatest ≡ max (max w.observer.greatest moment) moment
      top_called a = greatest_answered (observed_moment w.config.skew_ms (with_call w index moment c).observer moment) (suc index) a

      twice : max w.observer.greatest moment ≤ max (max w.observer.greatest moment) moment
      twice = le-max_left (max w.observer.greatest moment) moment

      waits_called : waits (suc index) false (observed_moment w.config.skew_ms (with_call w index moment c).observer moment).trace ≡ true
      waits_called =
          waits_passed w.config.skew_ms (with_call w index moment c).observer moment (suc index) ∙ waits_joined (suc index) false (observed_moment w.config.skew_ms w.observer moment).trace (Called (suc index) c)
          ∙ ap (λ (b : Bool). cond b true (waits (suc index) false (observed_moment w.config.skew_ms w.observer moment).trace)) (same_number (suc index))

      called_left : (d : ClientDoing) → Calm d → Called_ (client_ends s d Goes)
      called_left d calm =
          record {
            asked = λ id handle version deadline own a. inl (subst (λ (n : ℕ). IsOver G (After d calm) config.skew_ms n id version deadline) (sym (top_called d.answer))
                (over_later w.sent more G G (λ file chunk seq i. i) config.skew_ms (max w.observer.greatest moment) (max (max w.observer.greatest moment) moment) twice id version deadline (all_over id handle version deadline own (none_new d calm id handle version deadline own a))));
            stands = λ v there. subst (λ (y : ClientState). IsStanding G x.world y) (sym (put_at d.client w.clients index v there)) (record {
              config_is = (calm.kept).0 ∙ config_then;
              known = let same = (calm.kept).1 in let top = top_called d.answer in let low = known_then in let high = twice in omega (arith, same, top, low, high);
              call = λ up_then. subst (λ (n : ℕ). CallStands G config (After d calm) n (suc index) d.client.now None d.client.current) (sym (top_called d.answer)) (later_call (call_then d calm));
              is_open = λ up_then some. elim (split d calm) [
                | inl goes ↦ ap (λ (a : Option Answer). waits (suc index) false (observed_answer (observed_moment w.config.skew_ms (with_call w index moment c).observer moment) (suc index) a).trace) goes.0 ∙ waits_called
                | inr ended ↦ absurd (true≢false (sym some ∙ ap is_some ended.0))
              ];
            });
          }
        where
          x : Happened
          x = after_client (with_call w index moment c) index moment (client_ends s d Goes)

          more : List Message
          more = stamped (suc (length w.sent)) (option_to_list d.sent)

          later_call : CallStands G config (After d calm) (max w.observer.greatest moment) (suc index) d.client.now None d.client.current → CallStands G config (After d calm) (max (max w.observer.greatest moment) moment) (suc index) d.client.now None d.client.current
          later_call stands = subst (λ (ms : List Message). CallStands G config ms (max (max w.observer.greatest moment) moment) (suc index) d.client.now None d.client.current) (append-[] (After d calm))
              (stands_later G G (λ file chunk seq i. i) config (After d calm) [] (suc index) (max w.observer.greatest moment) (max (max w.observer.greatest moment) moment) twice
              (λ id handle version deadline own a. subst (λ (ms : List Message). AsksBy ms id handle version deadline) (append-[] (After d calm)) a) None (λ m is. none_some m is) d.client.now d.client.now (omega arith) d.client.current stands)

      called_down : (t : Taken ClientState) → t.out.sent ≡ [] → t.state.up ≡ false → t.state.config ≡ config → t.state.now ≡ 0 → Called_ t
      called_down t sent down same zero_ =
          record {
            asked = λ id handle version deadline own a. inl (subst (λ (n : ℕ). IsOver G (w.sent ++ stamped (suc (length w.sent)) t.out.sent) config.skew_ms n id version deadline) (sym (top_called t.out.answer))
                (over_later w.sent (stamped (suc (length w.sent)) t.out.sent) G G (λ file chunk seq i. i) config.skew_ms (max w.observer.greatest moment) (max (max w.observer.greatest moment) moment) twice id version deadline
                (all_over id handle version deadline own (subst (λ (ms : List Message). AsksBy ms id handle version deadline) (append-[] w.sent) (subst (λ (ms : List Message). AsksBy (w.sent ++ stamped (suc (length w.sent)) ms) id handle version deadline) sent a)))));
            stands = λ v there. subst (λ (y : ClientState). IsStanding G x.world y) (sym (put_at t.state w.clients index v there)) (record {
              config_is = same;
              known = omega (arith, zero_);
              call = λ up_then. absurd (true≢false (sym up_then ∙ down));
              is_open = λ up_then some. absurd (true≢false (sym up_then ∙ down));
            });
          }
        where
          x : Happened
          x = after_client (with_call w index moment c) index moment t

      called_ends : (d : ClientDoing) → Calm d → (e : Ending) → Called_ (client_ends s d e)
      called_ends d calm Goes = called_left d calm
      called_ends d calm Lost = called_down (client_ends s d Lost) refl refl config_then refl
      called_ends d calm (Stops made) = called_down (client_ends s d (Stops made)) refl refl config_then refl

      call_left : (choice : Choice) → Called_ (client_call s moment c choice)
      call_left choice =
          let refused : ClientDoing = answers (client_begins (client_at s moment)) (answer.Refused NoMemory) in
          on_cond Called_ (first_is_true choice.refused) (client_ends s refused choice.ending) (client_ends s (client_call_goes s moment c) choice.ending)
          (λ _. called_ends refused (refusal_leaves G config w.sent (max w.observer.greatest moment) (client_at s moment) config_then known_then once used own_over (answer.Refused NoMemory)) choice.ending)
          (λ _. called_ends (client_call_goes s moment c)
          (call_leaves G config w.sent (max w.observer.greatest moment) (client_at s moment) config_then known_then once used own_over c
          (to_now G config w.sent (max w.observer.greatest moment) s.id (client_at s moment).now (client_at s moment) s.current begun)) choice.ending)

  -- other clients

  less : {a b : ℕ} → suc a ≡ suc b → a ≡ b
  less e = omega (arith, e)

  differ : (other : ℕ) → (other ≡ index → ⊥) → (suc index == suc other) ≡ false
  differ other apart = by_test (suc index == suc other) refl
    where
      by_test : (b : Bool) → (suc index == suc other) ≡ b → (suc index == suc other) ≡ false
      by_test false e = e
      by_test true e = absurd (apart (sym (less (eqb-true (suc index) (suc other) e))))

  differs : (other : ℕ) → (other ≡ index → ⊥) → (suc other == suc index) ≡ false
  differs other apart = by_test (suc other == suc index) refl
    where
      by_test : (b : Bool) → (suc other == suc index) ≡ b → (suc other == suc index) ≡ false
      by_test false e = e
      by_test true e = absurd (apart (less (eqb-true (suc other) (suc index) e)))

  module _ (T : ℕ → Option ℕ → ℕ → Type 0) (G : ℕ → ToldChunk → ℕ → Type 0) (w : WorldState) (numbered : AreNumbered w.sent w.clients) (h : IsOn T G w) (other moment : ℕ) (apart : other ≡ index → ⊥) (s : ClientState) (at : element_at w.clients other ≡ Some s) (up : IsTrue s.up) where
    abbrev Foreign : ClientState → List Message → Type 0
    Foreign t ms = AllOf (λ m. is_from_client (suc index) m.sender ≡ false) ms

    goes_foreign : (d : ClientDoing) → IsStepOf (client_at s moment) d → Foreign d.client (option_to_list d.sent)
    goes_foreign d step =
        not_other (suc other) (suc index) (λ e. apart (less e)) (option_to_list d.sent) (own_sender w.sent (suc (length w.sent)) other (client_at s moment) d (at_numbered w.sent other s moment (numbered.each other s at)) up step d.sent refl)

    there_before : (t u : ClientState) → element_at (with_at w.clients other t) index ≡ Some u → element_at w.clients index ≡ Some u
    there_before t u is = elim (set_cases w.clients other t index u is) [ inl both ↦ absurd (apart (sym both.0)) | inr there ↦ there ]

    other_steps : (i : NodeInput) (choice : Choice) → IsOn T G (after_client w other moment (client_step s moment i choice)).world
    other_steps i choice =
        let t : Taken ClientState = client_step s moment i choice in
        let o : Observer = observed_moment w.config.skew_ms w.observer moment in
        others_on T G w h (after_client w other moment t).world (stamped (suc (length w.sent)) t.out.sent) refl
        (from_others w.sent (suc (length w.sent)) (suc index) t.out.sent (of_step Foreign s moment i choice (numbered.each other s at).named goes_foreign tt tt))
        (calls_answered o (suc other) (suc index) t.out.answer ∙ calls_passed w.config.skew_ms w.observer moment (suc index)) (waits_others o (suc other) (suc index) t.out.answer (differ other apart) ∙ waits_passed w.config.skew_ms w.observer moment (suc index))
        (let top = greatest_answered o (suc other) t.out.answer in let low = le-max_left w.observer.greatest moment in omega (arith, top, low)) (there_before t.state)

    other_calls : (c : Call) (choice : Choice) → IsOn T G (after_client (with_call w other moment c) other moment (client_call s moment c choice)).world
    other_calls c choice =
        let v : WorldState = with_call w other moment c in
        let t : Taken ClientState = client_call s moment c choice in
        let o : Observer = observed_moment w.config.skew_ms v.observer moment in
        let trace : List Visible = (observed_moment w.config.skew_ms w.observer moment).trace in
        others_on T G w h (after_client v other moment t).world (stamped (suc (length w.sent)) t.out.sent) refl
        (from_others w.sent (suc (length w.sent)) (suc index) t.out.sent (of_call Foreign s moment c choice (numbered.each other s at).named goes_foreign tt))
        (calls_answered o (suc other) (suc index) t.out.answer ∙ calls_passed w.config.skew_ms v.observer moment (suc index) ∙ calls_joined (suc index) trace (Called (suc other) c) (differs other apart) ∙ calls_passed w.config.skew_ms w.observer moment (suc index))
        (waits_others o (suc other) (suc index) t.out.answer (differ other apart) ∙ waits_passed w.config.skew_ms v.observer moment (suc index)
        ∙ waits_joined (suc index) false trace (Called (suc other) c) ∙ ap (λ (b : Bool). cond b true (waits (suc index) false trace)) (differ other apart) ∙ waits_passed w.config.skew_ms w.observer moment (suc index))
        (let top = greatest_answered o (suc other) t.out.answer in let low = le-max_left w.observer.greatest moment in let high = le-max_left (max w.observer.greatest moment) moment in omega (arith, top, low, high)) (there_before t.state)

  -- each event

  module _ (T : ℕ → Option ℕ → ℕ → Type 0) (G : ℕ → ToldChunk → ℕ → Type 0) (servers clients : ℕ) (w : WorldState) (r : IsReached config servers clients w) (h : IsOn T G w) where
    abbrev After_ : Happened → Type 0
    After_ x = IsOn (Next w x T) (NextFor w x G) x.world

    numbered : AreNumbered w.sent w.clients
    numbered = numbered_reached config servers clients w r

    all_more : (x : Happened) → IsOn T G x.world → After_ x
    all_more x g = on_more T (Next w x T) (λ made part n t. inl t) G (NextFor w x G) (λ file chunk seq i. inl i) x.world g

    on_steps : (e : Event) (other moment : ℕ) (s : ClientState) (i : NodeInput) (choice : Choice) → element_at w.clients other ≡ Some s → IsGiven w e (the_client (suc other)) moment i → IsTrue s.up → After_ (after_client w other moment (client_step s moment i choice))
    on_steps e other moment s i choice at is up =
        elim (same_or_not index other) [
          | inl same ↦ subst (λ (n : ℕ). After_ (after_client w n moment (client_step s moment i choice))) same
              (step_left T G servers clients w r numbered h moment s (subst (λ (n : ℕ). element_at w.clients n ≡ Some s) (sym same) at) up e i choice (subst (λ (n : ℕ). IsGiven w e (the_client (suc n)) moment i) (sym same) is))
          | inr apart ↦ all_more (after_client w other moment (client_step s moment i choice)) (other_steps T G w numbered h other moment (λ e. apart (sym e)) s at up i choice)
        ]

    no_call : (o : Option CurrentCall) → is_none o ≡ true → o ≡ None
    no_call None is = refl
    no_call (Some c) is = absurd (true≢false (sym is))

    on_calls : (other moment : ℕ) (s : ClientState) (c : Call) (choice : Choice) → element_at w.clients other ≡ Some s → IsTrue (may_call s) → After_ (after_client (with_call w other moment c) other moment (client_call s moment c choice))
    on_calls other moment s c choice at may =
        let up : IsTrue s.up = first_and s.up (is_none s.current && has_room_to_count s) may in
        let none : is_none s.current ≡ true = first_and (is_none s.current) (has_room_to_count s) (and_parts s.up (is_none s.current && has_room_to_count s) may).1 in
        elim (same_or_not index other) [
          | inl same ↦ subst (λ (n : ℕ). After_ (after_client (with_call w n moment c) n moment (client_call s moment c choice))) same
              (let x : Happened = after_client (with_call w index moment c) index moment (client_call s moment c choice) in
              on_more (Next w x T) (Next w x T) (λ made part n asked. asked) G (NextFor w x G) (λ file chunk seq i. inl i) x.world
              (call_left T G servers clients w r numbered h moment s (subst (λ (n : ℕ). element_at w.clients n ≡ Some s) (sym same) at) up c (no_call s.current none) choice))
          | inr apart ↦ all_more (after_client (with_call w other moment c) other moment (client_call s moment c choice)) (other_calls T G w numbered h other moment (λ e. apart (sym e)) s at up c choice)
        ]

    each_on : HoldsAfter w (λ e x. IsOn (Next w x T) (NextFor w x G) x.world)
    each_on =
        let k : ℕ = suc (length w.sent) in
        record {
          nothing = λ e. all_more (nothing_happens w) h;
          masters = λ e moment i choice is up.
              let ms : List Message = (master_step w.master moment i choice).out.sent in
              let x : Happened = after_master w moment (master_step w.master moment i choice) in
              all_more x (others_on T G w h x.world (stamped k ms) refl (from_others w.sent k (suc index) ms (one_client (suc index) ms (master_sends w.master moment i choice))) (calls_passed w.config.skew_ms w.observer moment (suc index))
              (waits_passed w.config.skew_ms w.observer moment (suc index)) (le-max_left w.observer.greatest moment) (λ s at. at));
          opens = λ e moment choice.
              let ms : List Message = (master_restart w.master moment choice).out.sent in
              let x : Happened = after_master w moment (master_restart w.master moment choice) in
              all_more x (others_on T G w h x.world (stamped k ms) refl (from_others w.sent k (suc index) ms (one_client (suc index) ms (master_restart_sends w.master moment choice))) (calls_passed w.config.skew_ms w.observer moment (suc index))
              (waits_passed w.config.skew_ms w.observer moment (suc index)) (le-max_left w.observer.greatest moment) (λ s at. at));
          serves = λ e other moment s i choice at is up.
              let ms : List Message = (server_step s moment i choice).out.sent in
              let x : Happened = after_server w other moment (server_step s moment i choice) in
              all_more x (others_on T G w h x.world (stamped k ms) refl (from_others w.sent k (suc index) ms (one_client (suc index) ms (server_sends s moment i choice))) (calls_passed w.config.skew_ms w.observer moment (suc index))
              (waits_passed w.config.skew_ms w.observer moment (suc index)) (le-max_left w.observer.greatest moment) (λ s at. at));
          restarts = λ e other moment s choice at.
              let ms : List Message = (server_restart s moment choice).out.sent in
              let x : Happened = after_server w other moment (server_restart s moment choice) in
              all_more x (others_on T G w h x.world (stamped k ms) refl (from_others w.sent k (suc index) ms (one_client (suc index) ms (server_restart_sends s moment choice))) (calls_passed w.config.skew_ms w.observer moment (suc index))
              (waits_passed w.config.skew_ms w.observer moment (suc index)) (le-max_left w.observer.greatest moment) (λ s at. at));
          steps = λ e other moment s i choice at is up. on_steps e other moment s i choice at is up;
          calls = λ e other moment s c choice at may. on_calls other moment s c choice at may;
          rots = λ e other handle s d place byte ending is_kept at there up. all_more _ (record { asked = h.asked; stands = λ v there. let old = h.stands v there in record { config_is = old.config_is; known = old.known; call = old.call; is_open = old.is_open } });
        }

  -- all events

  abbrev pub Since : WorldState → List (Event × Choice) → (ℕ → Option ℕ → ℕ → Type 0) → ℕ → Option ℕ → ℕ → Type 0
  Since w steps T made part n = T made part n ⊎ WasAsked index w steps made part n

  abbrev pub SinceFor : WorldState → List (Event × Choice) → (ℕ → ToldChunk → ℕ → Type 0) → ℕ → ToldChunk → ℕ → Type 0
  SinceFor w steps G file chunk seq = G file chunk seq ⊎ WasSentFor index w steps file chunk seq

  pub all_since : (servers clients : ℕ) (w : WorldState) (steps : List (Event × Choice)) (T : ℕ → Option ℕ → ℕ → Type 0) (G : ℕ → ToldChunk → ℕ → Type 0) → IsReached config servers clients w → IsOn T G w → IsOn (Since w steps T) (SinceFor w steps G) (after_events w steps)
  all_since servers clients w [] T G r h = on_more T (Since w [] T) (λ made part n t. inl t) G (SinceFor w [] G) (λ file chunk seq i. inl i) w h
  all_since servers clients w (step ∷ rest) T G r h =
      let x : Happened = happens w step.0 step.1 in
      on_more (Since x.world rest (Next w x T)) (Since w (step ∷ rest) T)
      (λ made part n since. elim (since) [
        | inl old ↦ elim (old) [ inl before ↦ inl before | inr now ↦ inr (inl now) ]
        | inr later ↦ inr (inr later)
      ]) (SinceFor x.world rest (NextFor w x G)) (SinceFor w (step ∷ rest) G)
      (λ file chunk seq since. elim (since) [
        | inl old ↦ elim (old) [ inl before ↦ inl before | inr now ↦ inr (inl now) ]
        | inr later ↦ inr (inr later)
      ]) (after_events x.world rest)
      (all_since servers clients x.world rest (Next w x T) (NextFor w x G) (reached_later config servers clients w (step ∷ []) r) (holds_after w (λ e y. IsOn (Next w y T) (NextFor w y G) y.world) (each_on T G servers clients w r h) step.0 step.1))

-- a new world

new_clients : (config : Config) (ns : List ℕ) (index : ℕ) (s : ClientState) → element_at (map (new_client config) ns) index ≡ Some s → (s.config ≡ config) × (s.current ≡ None) × (s.now ≡ 0)
new_clients config [] index s is = none_some s is
new_clients config (n ∷ ns) zero s is =
    let same = same_some (new_client config n) s is in (sym (ap (λ (c : ClientState). c.config) same), sym (ap (λ (c : ClientState). c.current) same), sym (ap (λ (c : ClientState). c.now) same))
new_clients config (n ∷ ns) (suc index) s is = new_clients config ns index s is

abbrev pub Never : ℕ → Option ℕ → ℕ → Type 0
Never made part n = ⊥

abbrev pub NeverFor : ℕ → ToldChunk → ℕ → Type 0
NeverFor file chunk seq = ⊥

pub new_on : (config : Config) (servers clients index : ℕ) → IsOn config index Never NeverFor (new_world config servers clients)
new_on config servers clients index =
    record {
      asked = λ id handle version deadline own a. none_some a.asked (a.sent_is).1;
      stands = λ s at. let there = new_clients config (first_numbers clients) index s at in record {
        config_is = there.0;
        known = let zero_ = there.2 in omega (arith, zero_);
        call = λ up. subst (λ (o : Option CurrentCall). CallStands NeverFor config [] 0 (suc index) s.now None o) (sym there.1) (λ id handle version deadline own a. none_some a.asked (a.sent_is).1);
        is_open = λ up some. absurd (true≢false (sym some ∙ ap is_some there.1));
      };
    }

pub attempts_are_over_or_open : AttemptsAreOverOrOpen
attempts_are_over_or_open config servers clients steps index id handle version deadline own a =
    elim ((all_since config index servers clients start steps Never NeverFor ([], refl) (new_on config servers clients index)).asked id handle version deadline own a) [
      | inl over ↦ inl (subst (λ (ms : List Message). IsOver (WasSentFor index start steps) ms config.skew_ms w.observer.greatest id version deadline) (append-[] w.sent)
          (over_later w.sent [] (SinceFor config index start steps NeverFor) (WasSentFor index start steps) (λ file chunk seq since. elim (since) [ inl never ↦ absurd never | inr was ↦ was ]) config.skew_ms w.observer.greatest w.observer.greatest (omega arith) id version deadline over))
      | inr open_one ↦ inr (record { part = (open_one.0).0; asked = elim ((open_one.0).1) [ inl never ↦ absurd never | inr was ↦ was ]; is_open = open_one.1 })
    ]
  where
    start : WorldState
    start = new_world config servers clients

    w : WorldState
    w = after_events start steps
