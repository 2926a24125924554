-- A record is of an append, which has one part: the Mutate of its number was sent for the call in hand, and asks for what such a call does.
use Rattle.std.proofs.Common.{◌≡◌, ◌⊎◌, ℕ, zero, suc, true, false, true≢false, List, [], ◌∷◌, ◌++◌, length, Option, Some, None, refl, sym, ap, subst, ◌∙◌, inl, inr, arith}
use Rattle.std.specs.Prelude.{◌≤◌, ◌<◌, ◌+◌, nat_le, max, IsTrue}
use Rattle.std.specs.Option.{option_to_list}
use Rattle.std.proofs.lemmas.Bool.{and_parts}
use Rattle.gfs_types.specs.declared.config.Config.{Config}
use Rattle.gfs_types.specs.declared.call.Call.{Call}
use Rattle.gfs_types.specs.declared.call.Call.TheVariants as call
use Rattle.gfs_types.specs.declared.ids.DataId.{DataId}
use Rattle.gfs_types.specs.declared.ids.Handle.{Handle}
use Rattle.gfs_types.specs.declared.ids.Version.{Version}
use Rattle.gfs_types.specs.declared.ids.Moment.{Moment}
use Rattle.gfs_types.specs.declared.ids.Node.{Node}
use Rattle.gfs_types.specs.declared.mutation.Mutation.{Mutation}
use Rattle.gfs_types.specs.declared.mutation.Mutation.TheVariants as mutation
use Rattle.messages.specs.declared.event.Event.{Event}
use Rattle.messages.specs.declared.event.NodeInput.{NodeInput}
use Rattle.messages.specs.declared.event.NodeInput.TheVariants as input
use Rattle.messages.specs.declared.message.Body.{Body}
use Rattle.messages.specs.declared.message.Body.TheVariants as body
use Rattle.messages.specs.declared.message.Message.{Message}
use Rattle.messages.specs.declared.message.Target.{Target}
use Rattle.messages.specs.declared.message.Target.TheVariants as target
use Rattle.client_state.specs.declared.call.CurrentCall.{CurrentCall}
use Rattle.relaxed_file.specs.Order.{CallId}
use Rattle.relaxed_file.specs.Parts.{part_start}
use Rattle.protocol.specs.Tables.{element_at}
use Rattle.protocol.specs.Sending.{data_id, the_client, client_number}
use Rattle.protocol.specs.Choice.{Choice}
use Rattle.protocol.specs.Observer.{Placed, observed_moment, order_of, calls_made}
use Rattle.protocol.specs.Client.{ClientState, ClientDoing, file_chunk}
use Rattle.protocol.specs.ClientAttempts.{is_mutation, target_of}
use Rattle.protocol.specs.ClientStep.{client_at, client_step, client_call}
use Rattle.protocol.specs.MasterStep.{master_step, master_restart}
use Rattle.protocol.specs.Server.{ServerState}
use Rattle.protocol.specs.ServerStep.{server_at, server_step, server_restart}
use Rattle.protocol.specs.World.{WorldState, Happened, new_world, stamped, after_master, after_server, after_client, happens, after_events, IsReached}
use Rattle.laws_base.proofs.Steps.{none_some, same_some}
use Rattle.laws_base.proofs.Entries.{AllOf}
use Rattle.laws_base.proofs.MembersRecorded.{kept_place, all_at}
use Rattle.laws_base.proofs.MessagesSent.{IsSent, sent_after}
use Rattle.laws_base.specs.Attempts.{is_from_client}
use Rattle.laws_base.specs.FewAttempts.{part_of, IsAskedNow, WasAsked, EachOf, AreApart}
use Rattle.laws_base.proofs.Budget.{IsNoMutate}
use Rattle.laws_base.proofs.Events.{HoldsAfter, holds_after, with_call}
use Rattle.laws_base.proofs.ClientNumbers.{IsStepOf, of_step, of_call}
use Rattle.laws_base.proofs.Histories.{IsGrown, steps_grown, after_both}
use Rattle.laws_base.proofs.LeasesStayOver.{reached_later}
use Rattle.laws_base.proofs.RequestsOnce.{from_itself, numbered_reached, requests_are_numbered_once}
use Rattle.laws_base.proofs.Senders.{server_sends, server_restart_sends, master_sends, master_restart_sends, one_client}
use Rattle.laws_base.specs.Deadlines.{Numbers}
use Rattle.laws_base.specs.Entries.{IsAmong, IsPlacedFor, IsAskedFor}
use Rattle.laws_base.specs.ChunkOrders.{HasMutate}
use Rattle.laws_base.specs.FullChunks.{IsPad}
use Rattle.laws_base.proofs.OwnMutates.{IsOwn, mutates_are_own}
use Rattle.laws_base.proofs.Deadlines.{asks_for, asking, same_counted}
use Rattle.laws_base.proofs.Numbering.{entries_stem_from_mutates}
use Rattle.laws_base.proofs.Stemming.{numbered_mutations_were_asked_for}
use Rattle.laws_machine.specs.OpenAttempts.{IsOfOpenCall}
use Rattle.laws_machine.specs.BoundedCalls.{IsEntryFor, IsRecordOf, CallsHaveFewRecords, RecordsArePlacedAsFew}
use Rattle.laws_machine.proofs.BoundedCalls.{few, fewer}
use Rattle.laws_machine.proofs.OpenEntries.{entries_are_of_open_calls, entries_were_asked_for_in_their_call}
use Rattle.laws_machine.proofs.UsedIndexes.{MayAsk, IsPlannedBy, AreFitting, came_in, no_call, fitting_reached, step_asks, call_asks}

-- a Mutate that a client sends in an event was for the part in hand of its call
record IsAskedIn (w : WorldState) (x : Happened) (index : ℕ) (m : Message) : Type 0 where
  client : ClientState
  is : element_at w.clients index ≡ Some client
  may : MayAsk client m
  among : (y : Message) × IsAmong x.world.sent y × (y.sender ≡ m.sender) × (y.body ≡ m.body)

abbrev AreAskedIn : ℕ → WorldState → Happened → Type 0
AreAskedIn index w x = (place : ℕ) (m : Message) → element_at x.out.sent place ≡ Some m → m.sender ≡ the_client (suc index) → IsAskedIn w x index m

stamped_there : (k : ℕ) (ms : List Message) (place : ℕ) (m : Message) → element_at ms place ≡ Some m → (y : Message) × (element_at (stamped k ms) place ≡ Some y) × (y.sender ≡ m.sender) × (y.body ≡ m.body)
stamped_there k [] place m at = none_some m at
stamped_there k (x ∷ ms) zero m at = (record x { number = k }, refl, ap (λ (y : Message). y.sender) (same_some x m at), ap (λ (y : Message). y.body) (same_some x m at))
stamped_there k (x ∷ ms) (suc place) m at = stamped_there (suc k) ms place m at

sent_there : (sent : List Message) (k : ℕ) (ms : List Message) (place : ℕ) (m : Message) → element_at ms place ≡ Some m → (y : Message) × IsAmong (sent ++ stamped k ms) y × (y.sender ≡ m.sender) × (y.body ≡ m.body)
sent_there sent k ms place m at = let there = stamped_there k ms place m at in (there.0, sent_after sent (stamped k ms) there.0 (place, there.1), there.2, there.3)

module _ (config : Config) (servers clients : ℕ) (steps : List (Event × Choice)) (index : ℕ) where
  others : (x : Happened) → AllOf (λ m. is_from_client (suc index) m.sender ≡ false) x.out.sent → AreAskedIn index (after_events (new_world config servers clients) steps) x
  others x all place m at from =
      absurd (true≢false (sym (from_itself (suc index) m.sender from) ∙ all_at (λ (y : Message). is_from_client (suc index) y.sender ≡ false) x.out.sent place m all at))

  -- of a client's own messages
  own : (other : ℕ) (s : ClientState) → element_at (after_events (new_world config servers clients) steps).clients other ≡ Some s → (x : Happened) (k : ℕ) (ms : List Message) → x.out.sent ≡ ms → x.world.sent ≡ (after_events (new_world config servers clients) steps).sent ++ stamped k ms
      → AllOf (λ m. m.sender ≡ the_client (suc other)) ms → AllOf (MayAsk s) ms → AreAskedIn index (after_events (new_world config servers clients) steps) x
  own other s at x k ms out sent senders all place m there from =
      record {
        client = s;
        is = subst (λ (n : ℕ). element_at (after_events (new_world config servers clients) steps).clients n ≡ Some s) same at;
        may = all_at (MayAsk s) ms place m all here;
        among = subst (λ (xs : List Message). (y : Message) × IsAmong xs y × (y.sender ≡ m.sender) × (y.body ≡ m.body)) (sym sent) (sent_there (after_events (new_world config servers clients) steps).sent k ms place m here);
      }
    where
      here : element_at ms place ≡ Some m
      here = subst (λ (xs : List Message). element_at xs place ≡ Some m) out there

      sender : the_client (suc other) ≡ the_client (suc index)
      sender = sym (all_at (λ (y : Message). y.sender ≡ the_client (suc other)) ms place m senders here) ∙ from

      same : other ≡ index
      same = let both : suc other ≡ suc index = ap client_number sender in omega (arith, both)

  said_by : (other : ℕ) (s : ClientState) → s.id ≡ suc other → (t : ClientState) → t.id ≡ s.id → (d : ClientDoing) (o : Option Message) → d.sent ≡ o → IsStepOf t d → AllOf (λ m. m.sender ≡ the_client (suc other)) (option_to_list o)
  said_by other s id t same d None is step = tt
  said_by other s id t same d (Some m) is step = ((step.says m is).0 ∙ ap (λ (n : ℕ). the_client n) (same ∙ id), tt)

  reached : IsReached config servers clients (after_events (new_world config servers clients) steps)
  reached = (steps, refl)

  each_asked : HoldsAfter (after_events (new_world config servers clients) steps) (λ e x. AreAskedIn index (after_events (new_world config servers clients) steps) x)
  each_asked =
      let w : WorldState = after_events (new_world config servers clients) steps in
      let k : ℕ = suc (length w.sent) in
      let numbered = numbered_reached config servers clients w reached in
      record {
        nothing = λ e place m none from. none_some m none;
        masters = λ e moment i choice is up. others (after_master w moment (master_step w.master moment i choice)) (one_client (suc index) (master_step w.master moment i choice).out.sent (master_sends w.master moment i choice));
        opens = λ e moment choice. others (after_master w moment (master_restart w.master moment choice)) (one_client (suc index) (master_restart w.master moment choice).out.sent (master_restart_sends w.master moment choice));
        serves = λ e other moment s i choice at is up. others (after_server w other moment (server_step s moment i choice)) (one_client (suc index) (server_step s moment i choice).out.sent (server_sends s moment i choice));
        restarts = λ e other moment s choice at. others (after_server w other moment (server_restart s moment choice)) (one_client (suc index) (server_restart s moment choice).out.sent (server_restart_sends s moment choice));
        steps = λ e other moment s i choice at is up.
            own other s at (after_client w other moment (client_step s moment i choice)) k (client_step s moment i choice).out.sent refl refl
            (of_step (λ t ms. AllOf (λ m. m.sender ≡ the_client (suc other)) ms) s moment i choice (numbered.each other s at).named (λ d step. said_by other s (numbered.each other s at).id (client_at s moment) refl d d.sent refl step) tt tt)
            (step_asks config servers clients w reached other s at moment (fitting_reached config servers clients steps other s at) i choice (came_in w e (suc other) moment i is));
        calls = λ e other moment s c choice at may.
            own other s at (after_client (with_call w other moment c) other moment (client_call s moment c choice)) k (client_call s moment c choice).out.sent refl refl
            (of_call (λ t ms. AllOf (λ m. m.sender ≡ the_client (suc other)) ms) s moment c choice (numbered.each other s at).named (λ d step. said_by other s (numbered.each other s at).id (client_at s moment) refl d d.sent refl step) tt)
            (call_asks config servers clients w reached other s at moment c choice (no_call s may));
        rots = λ e other handle s d spot byte ending is_kept at there up place m none from. none_some m none;
      }

  -- what was asked now
  asked_in : (step : Event × Choice) → AreAskedIn index (after_events (new_world config servers clients) steps) (happens (after_events (new_world config servers clients) steps) step.0 step.1)
  asked_in step = holds_after (after_events (new_world config servers clients) steps) (λ e x. AreAskedIn index (after_events (new_world config servers clients) steps) x) each_asked step.0 step.1

-- the step in which it was asked
record IsAskedAt (config : Config) (servers clients : ℕ) (steps : List (Event × Choice)) (index made : ℕ) (part : Option ℕ) (number : ℕ) : Type 0 where
  before : List (Event × Choice)
  step : Event × Choice
  after : List (Event × Choice)
  path : after_events (happens (after_events (new_world config servers clients) before) step.0 step.1).world after ≡ after_events (new_world config servers clients) steps
  now : IsAskedNow index (after_events (new_world config servers clients) before) (happens (after_events (new_world config servers clients) before) step.0 step.1) made part number

asked_at : (config : Config) (servers clients : ℕ) (before rest : List (Event × Choice)) (index made : ℕ) (part : Option ℕ) (number : ℕ) → WasAsked index (after_events (new_world config servers clients) before) rest made part number
    → IsAskedAt config servers clients (before ++ rest) index made part number
asked_at config servers clients before [] index made part number h = absurd h
asked_at config servers clients before (step ∷ rest) index made part number (inl now) =
    record { before = before; step = step; after = rest; path = sym (after_both (new_world config servers clients) before (step ∷ rest)); now = now }
asked_at config servers clients before (step ∷ rest) index made part number (inr later) =
    subst (λ (xs : List (Event × Choice)). IsAskedAt config servers clients xs index made part number) (joined before)
    (asked_at config servers clients (before ++ step ∷ []) rest index made part number
    (subst (λ (u : WorldState). WasAsked index u rest made part number) (sym (after_both (new_world config servers clients) before (step ∷ []))) later))
  where
    joined : (xs : List (Event × Choice)) → (xs ++ step ∷ []) ++ rest ≡ xs ++ step ∷ rest
    joined [] = refl
    joined (x ∷ xs) = ap (λ (ys : List (Event × Choice)). x ∷ ys) (joined xs)

-- an append has one part
no_part : (size index : ℕ) (asked : Call) (part : Option ℕ) → is_mutation asked ≡ true → target_of size index asked ≡ target.Append → part_of asked index ≡ part → part ≡ None
no_part size index (call.Append fd bytes) part mutates aim is = sym is
no_part size index (call.Write fd offset bytes) part mutates aim is = absurd (let both : target.Write (part_start size offset index) ≡ target.Append = aim in cc)
no_part size index other part mutates aim is = absurd (true≢false (sym mutates))

abbrev aim_in : Target → Body → Target
aim_in none (body.Mutate id handle version aim deadline) = aim
aim_in none other = none

module _ (config : Config) (servers clients : ℕ) (steps : List (Event × Choice)) (index made : ℕ) (part : Option ℕ) (number : ℕ) (was : WasAsked index (new_world config servers clients) steps made part number)
    (asked : Message) (handle : Handle) (version : Version) (deadline : Moment) (sent_is : IsAmong (after_events (new_world config servers clients) steps).sent asked) (sender_is : asked.sender ≡ the_client (suc index))
    (body_is : asked.body ≡ body.Mutate (data_id (suc index) number) handle version target.Append deadline) where
  h : IsAskedAt config servers clients steps index made part number
  h = asked_at config servers clients [] steps index made part number was

  abbrev v : WorldState
  v = after_events (new_world config servers clients) h.before

  a : IsAskedNow index v (happens v (h.step).0 (h.step).1) made part number
  a = h.now

  sent_in : IsAskedIn v (happens v (h.step).0 (h.step).1) index a.asked
  sent_in = asked_in config servers clients h.before index h.step a.place a.asked a.sent_is a.sender_is

  grown : IsGrown (happens v (h.step).0 (h.step).1).world.sent (after_events (new_world config servers clients) steps).sent
  grown = subst (λ (u : WorldState). IsGrown (happens v (h.step).0 (h.step).1).world.sent u.sent) h.path (steps_grown (happens v (h.step).0 (h.step).1).world h.after)

  -- it is this message
  data_is : a.id ≡ data_id (suc index) number
  data_is = ap (λ (n : ℕ). data_id n (a.id).seq) (own_client (subst (λ (b : Body). IsOwn (a.asked).sender b) a.body_is owned)) ∙ ap (λ (n : ℕ). data_id (suc index) n) a.number_is
    where
      own_client : (a.asked).sender ≡ the_client (a.id).client.0 → (a.id).client.0 ≡ suc index
      own_client e = ap client_number (sym e ∙ a.sender_is)

      owned : IsOwn (a.asked).sender (a.asked).body
      owned =
          subst (λ (n : Node). IsOwn n (a.asked).body) (sent_in.among).2 (subst (λ (b : Body). IsOwn ((sent_in.among).0).sender b) (sent_in.among).3
          (mutates_are_own config servers clients (happens v (h.step).0 (h.step).1).world (reached_later config servers clients v (h.step ∷ []) (h.before, refl)) ((sent_in.among).1).0 (sent_in.among).0 ((sent_in.among).1).1))

  same_aim : a.aim ≡ target.Append
  same_aim = sym (ap (aim_in a.aim) ((sent_in.among).3 ∙ a.body_is)) ∙ (ap (λ (m : Message). aim_in a.aim m.body) one ∙ ap (aim_in a.aim) body_is)
    where
      one : (sent_in.among).0 ≡ asked
      one =
          same_counted (asks_for (data_id (suc index) number)) (after_events (new_world config servers clients) steps).sent ((sent_in.among).1).0 sent_is.0 (sent_in.among).0 asked
          (requests_are_numbered_once config servers clients (after_events (new_world config servers clients) steps) (steps, refl) (suc index) number).1
          (subst (λ (ms : List Message). element_at ms ((sent_in.among).1).0 ≡ Some (sent_in.among).0) (sym grown.1) (kept_place (happens v (h.step).0 (h.step).1).world.sent grown.0 ((sent_in.among).1).0 (sent_in.among).0 ((sent_in.among).1).1)) sent_is.1
          (asking (data_id (suc index) number) (sent_in.among).0 a.handle a.version a.aim a.deadline ((sent_in.among).2 ∙ a.sender_is) ((sent_in.among).3 ∙ (a.body_is ∙ ap (λ (x : DataId). body.Mutate x a.handle a.version a.aim a.deadline) data_is)))
          (asking (data_id (suc index) number) asked handle version target.Append deadline sender_is body_is)

  pub part_is_none : part ≡ None
  part_is_none = by_cases sent_in.may
    where
      same_client : sent_in.client ≡ a.client
      same_client = same_some sent_in.client a.client (sym sent_in.is ∙ a.is)

      by_cases : MayAsk sent_in.client a.asked → part ≡ None
      by_cases (inl silent) = absurd (subst (λ (b : Body). IsNoMutate b) a.body_is silent)
      by_cases (inr p) =
          no_part (file_chunk sent_in.client (p.current).file.0) (p.current).index (p.current).asked part p.mutates
          (sym (ap (aim_in a.aim) p.body_is) ∙ (ap (aim_in a.aim) a.body_is ∙ same_aim))
          (ap (λ (c : CurrentCall). part_of c.asked c.index) (same_some p.current a.current (sym p.current_is ∙ (ap (λ (x : ClientState). x.current) same_client ∙ a.current_is))) ∙ a.part_is)

record_aim : (aim : Target) (bytes : List ℕ) (m : Mutation) (offset : ℕ) (found : List ℕ) → m ≡ mutation.Append offset found → IsPlacedFor aim bytes m → aim ≡ target.Append
record_aim target.Append bytes m offset found is fits = refl
record_aim (target.Write at) bytes m offset found is fits = absurd (subst (λ (x : Mutation). IsPlacedFor (target.Write at) bytes x) is fits)

module _ (config : Config) (servers clients : ℕ) (steps : List (Event × Choice)) (kept : IsTrue (after_events (new_world config servers clients) steps).observer.are_clocks_kept) (index made : ℕ) where
  -- a record is an entry for the one part
  entry_for : (n : ℕ) → IsRecordOf (after_events (new_world config servers clients) steps) index made n → IsEntryFor (new_world config servers clients) steps index made None n
  entry_for n e =
      record {
        handle = e.handle;
        place = e.place;
        placed = e.placed;
        is = e.is;
        call_is = e.call_is;
        seq_is = e.seq_is;
        no_pad = λ pad. subst (λ (m : Mutation). IsPad m) e.record_is pad;
        part_is = subst (λ (p : Option ℕ). WasAsked index (new_world config servers clients) steps made p n) none here;
      }
    where
      client : (e.placed).entry.call.client ≡ suc index
      client = ap (λ (c : CallId). c.client) e.call_is

      was : (part : Option ℕ) × WasAsked index (new_world config servers clients) steps (e.placed).entry.call.number part (e.placed).seq
      was = entries_were_asked_for_in_their_call config servers clients steps kept e.handle e.place e.placed e.is index client

      here : WasAsked index (new_world config servers clients) steps made was.0 n
      here = subst (λ (k : ℕ). WasAsked index (new_world config servers clients) steps k was.0 n) (ap (λ (c : CallId). c.number) e.call_is) (subst (λ (k : ℕ). WasAsked index (new_world config servers clients) steps (e.placed).entry.call.number was.0 k) e.seq_is was.1)

      stem : (from : ℕ) × HasMutate (after_events (new_world config servers clients) steps).sent from e.placed
      stem = let one = entries_stem_from_mutates config servers clients steps e.handle e.place e.placed e.is in (one.0, one.1)

      mutate : HasMutate (after_events (new_world config servers clients) steps).sent stem.0 e.placed
      mutate = stem.1

      data_is : mutate.id ≡ data_id (suc index) n
      data_is = ap (λ (k : ℕ). data_id k (mutate.id).seq) (sym mutate.client_is ∙ client) ∙ ap (λ (k : ℕ). data_id (suc index) k) (sym mutate.seq_is ∙ e.seq_is)

      aim_is : mutate.aim ≡ target.Append
      aim_is = record_aim mutate.aim mutate.bytes (e.placed).entry.mutation e.offset e.bytes e.record_is mutate.fits

      none : was.0 ≡ None
      none =
          part_is_none config servers clients steps index made was.0 n here mutate.asked mutate.named mutate.version mutate.deadline mutate.sent_is (mutate.sender_is ∙ ap (λ (x : DataId). the_client x.client.0) data_is)
          (mutate.body_is ∙ (ap (λ (x : DataId). body.Mutate x mutate.named mutate.version mutate.aim mutate.deadline) data_is ∙ ap (λ (t : Target). body.Mutate (data_id (suc index) n) mutate.named mutate.version t mutate.deadline) aim_is))

  pub all_for : (numbers : List ℕ) → EachOf (IsRecordOf (after_events (new_world config servers clients) steps) index made) numbers → EachOf (IsEntryFor (new_world config servers clients) steps index made None) numbers
  all_for [] h = tt
  all_for (n ∷ ns) h = (entry_for n h.0, all_for ns h.1)

pub calls_have_few_records : CallsHaveFewRecords
calls_have_few_records config servers clients w r kept index made numbers apart each =
    few config servers clients r.0 index made None numbers apart
    (all_for config servers clients r.0 (subst (λ (u : WorldState). IsTrue u.observer.are_clocks_kept) (sym r.1) kept) index made numbers (subst (λ (u : WorldState). EachOf (IsRecordOf u index made) numbers) (sym r.1) each))

pub records_are_placed_as_few : RecordsArePlacedAsFew
records_are_placed_as_few config servers clients steps server moment s i choice handle version id n offset bytes record_is kept index own numbers apart each =
    fewer config servers clients steps server moment s i choice handle version id n index own (calls_made (after_events (new_world config servers clients) steps).observer.trace (suc index)) None
    (subst (λ (p : Option ℕ). WasAsked index (new_world config servers clients) steps (calls_made (after_events (new_world config servers clients) steps).observer.trace (suc index)) p id.seq) none is_open.asked) numbers apart
    (all_for config servers clients steps (and_parts (after_events (new_world config servers clients) steps).observer.are_clocks_kept (nat_le (after_events (new_world config servers clients) steps).observer.greatest (moment + config.skew_ms)) kept).0 index (calls_made (after_events (new_world config servers clients) steps).observer.trace (suc index)) numbers each)
  where
    is_open : IsOfOpenCall (new_world config servers clients) steps index id.seq
    is_open = entries_are_of_open_calls config servers clients steps server moment s i choice handle version id n kept index own

    law : (m : Message) × (i ≡ input.Deliver m) × IsAskedFor (server_at s moment) (after_events (new_world config servers clients) steps).sent m handle version n.serial id n.placed
    law = numbered_mutations_were_asked_for config servers clients (after_events (new_world config servers clients) steps) (steps, refl) server s n.is moment i choice n.came n.place handle version n.serial id n.placed n.seen

    asked : IsAskedFor (server_at s moment) (after_events (new_world config servers clients) steps).sent law.0 handle version n.serial id n.placed
    asked = law.2

    same_data : id ≡ data_id (suc index) id.seq
    same_data = ap (λ (k : ℕ). data_id k id.seq) own

    aim_is : asked.aim ≡ target.Append
    aim_is = record_aim asked.aim asked.bytes n.placed offset bytes record_is asked.fits

    none : is_open.part ≡ None
    none =
        part_is_none config servers clients steps index (calls_made (after_events (new_world config servers clients) steps).observer.trace (suc index)) is_open.part id.seq is_open.asked law.0 handle version asked.deadline (n.came law.0 law.1) (asked.sender_is ∙ ap (λ (k : ℕ). the_client k) own)
        (asked.body_is ∙ (ap (λ (x : DataId). body.Mutate x handle version asked.aim asked.deadline) same_data ∙ ap (λ (t : Target). body.Mutate (data_id (suc index) id.seq) handle version t asked.deadline) aim_is))
