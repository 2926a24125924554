-- In each world that is reached, for each part of a call its client asked at most as often as it has attempts.
use Rattle.std.proofs.Common.{◌≡◌, ◌⊎◌, ℕ, zero, suc, ◌-◌, ◌≤◌, Bool, true, false, List, [], ◌∷◌, ◌++◌, length, map, Option, Some, None, refl, sym, ap, subst, ◌∙◌, inl, inr, arith}
use Rattle.std.specs.Prelude.{max, ◌==◌, ◌&&◌, nat_lt, is_none, count_by, cond, IsTrue}
use Rattle.std.specs.Option.{option_to_list}
use Rattle.std.proofs.lemmas.Bool.{eqb-true, true≢false, and_parts}
use Rattle.std.proofs.Math.Nat.{le-max_left}
use Rattle.gfs_types.specs.declared.config.Config.{Config}
use Rattle.gfs_types.specs.declared.call.Call.{Call}
use Rattle.gfs_types.specs.declared.answer.Answer.{Answer}
use Rattle.gfs_types.specs.declared.answer.Answer.TheVariants as answer
use Rattle.gfs_types.specs.declared.refusal.Refusal.TheVariants.{NoMemory}
use Rattle.messages.specs.declared.message.Body.{Body}
use Rattle.messages.specs.declared.message.Body.TheVariants as body
use Rattle.messages.specs.declared.message.Message.{Message}
use Rattle.messages.specs.declared.event.Event.{Event}
use Rattle.messages.specs.declared.event.Event.TheVariants as event
use Rattle.messages.specs.declared.event.NodeInput.{NodeInput}
use Rattle.messages.specs.declared.event.NodeInput.TheVariants as input
use Rattle.relaxed_file.specs.Run.{Visible, Called, Answered, Passed}
use Rattle.client_state.specs.declared.call.CurrentCall.{CurrentCall}
use Rattle.protocol.specs.Tables.{element_at, with_at, first_numbers}
use Rattle.protocol.specs.Sending.{the_client}
use Rattle.protocol.specs.Choice.{Choice, Ending, Goes, Lost, Stops}
use Rattle.protocol.specs.Seen.{Taken, no_step}
use Rattle.protocol.specs.Observer.{Observer, observed_moment, observed_answer, is_call_of, calls_made}
use Rattle.protocol.specs.Client.{ClientState, ClientDoing, new_client, client_begins, committed, answers}
use Rattle.protocol.specs.ClientAttempts.{mutate_planned}
use Rattle.protocol.specs.ClientStep.{may_call, client_at, client_goes, client_call_goes, may_step, has_room_to_count, client_ends, client_step, client_call}
use Rattle.protocol.specs.MasterSnapshots.{first_is_true}
use Rattle.protocol.specs.ServerStep.{server_step, server_restart}
use Rattle.protocol.specs.MasterStep.{master_step, master_restart}
use Rattle.protocol.specs.World.{WorldState, Happened, new_world, stamped, nothing_happens, after_master, after_server, after_client, happens, after_events}
use Rattle.laws_base.proofs.Steps.{on_cond, none_some, same_some, same_or_not, count-append, count-cons}
use Rattle.laws_base.proofs.Entries.{AllOf, same_number}
use Rattle.laws_base.proofs.ServerMoves.{IsCameIn}
use Rattle.laws_base.proofs.RisingOrders.{set_cases, element_numbered}
use Rattle.laws_base.proofs.MembersRecorded.{kept_place, all_at}
use Rattle.laws_base.specs.Attempts.{is_from_client}
use Rattle.laws_base.proofs.Events.{IsGiven, with_call, with_rot, rot_of, HoldsAfter, holds_after}
use Rattle.laws_base.proofs.ClientNumbers.{IsStepOf, of_step, of_call}
use Rattle.laws_base.proofs.Senders.{one_client, server_sends, server_restart_sends, master_sends, master_restart_sends}
use Rattle.laws_base.proofs.RequestsOnce.{AreNumbered, each_event, numbered_reached, from_itself, not_other, own_sender, at_numbered, first_and}
use Rattle.laws_base.specs.FewAttempts.{part_of, IsAskedNow, WasAsked, Counts, EachOf, AreApart, PartsHaveFewAttempts}
use Rattle.laws_base.proofs.Budget.{each_on, Others, others, IsNoMutate, HasAsked, IsRight, IsFine, IsAsking, Came, Leaves, does_leaves, begun_fine, call_fine, refused_call_fine, right_on}

-- how many calls were made, after an event

calls_joined : (client : ℕ) (trace : List Visible) (v : Visible) → is_call_of client v ≡ false → calls_made (trace ++ v ∷ []) client ≡ calls_made trace client
calls_joined client trace v none =
    let both = count-append (is_call_of client) trace (v ∷ []) in
    let one : count_by (is_call_of client) (v ∷ []) ≡ 0 = no_count (is_call_of client v) none in
    omega (arith, both, one)
  where
    no_count : (b : Bool) → b ≡ false → count_by (λ x. b) (v ∷ []) ≡ 0
    no_count false h = refl
    no_count true h = absurd (let two : true ≡ false = h in cc)

passed_calls : (skew : ℕ) (o : Observer) (moment client : ℕ) → calls_made (observed_moment skew o moment).trace client ≡ calls_made o.trace client
passed_calls skew o moment client =
    on_cond (λ (trace : List Visible). calls_made trace client ≡ calls_made o.trace client) (nat_lt o.greatest moment) (o.trace ++ Passed moment ∷ []) o.trace
    (λ _. calls_joined client o.trace (Passed moment) refl) (λ _. refl)

answered_calls : (o : Observer) (n client : ℕ) (a : Option Answer) → calls_made (observed_answer o n a).trace client ≡ calls_made o.trace client
answered_calls o n client None = refl
answered_calls o n client (Some reply) = calls_joined client o.trace (Answered n reply) refl

-- one client
module _ (config : Config) (index : ℕ) where
  abbrev K : WorldState → ℕ
  K w = calls_made w.observer.trace (suc index)

  abbrev Tried : (ℕ → Option ℕ → ℕ → Type 0) → List Message → ℕ → Option ℕ → ℕ → Type 0
  Tried T sent made part n = T made part n × Counts sent index part n

  -- T: the numbers under which it asked so far, for each call and part
  record IsFew (T : ℕ → Option ℕ → ℕ → Type 0) (w : WorldState) : Type 0 where
    limits : (made : ℕ) (part : Option ℕ) (ns : List ℕ) → AreApart ns → EachOf (Tried T w.sent made part) ns → length ns ≤ max 1 config.attempts
    before : (made : ℕ) (part : Option ℕ) (n : ℕ) → T made part n → made ≤ K w
    stands : (s : ClientState) → element_at w.clients index ≡ Some s → (s.config ≡ config) × IsRight config (Tried T w.sent (K w)) s.current

  abbrev Next : WorldState → Happened → (ℕ → Option ℕ → ℕ → Type 0) → ℕ → Option ℕ → ℕ → Type 0
  Next w x T made part n = T made part n ⊎ IsAskedNow index w x made part n

  counts_on : (sent more : List Message) (part : Option ℕ) (n : ℕ) → Counts (sent ++ more) index part n → Counts sent index part n
  counts_on sent more None n h = λ place m at to is. h place m (kept_place sent more place m at) to is
  counts_on sent more (Some part) n h = tt

  -- nothing was asked in this event
  abbrev IsSilent : WorldState → Happened → Type 0
  IsSilent w x = (made : ℕ) (part : Option ℕ) (n : ℕ) → IsAskedNow index w x made part n → ⊥

  module _ (T : ℕ → Option ℕ → ℕ → Type 0) (w : WorldState) (h : IsFew T w) (x : Happened) (silent : IsSilent w x) (more : List Message) where
    only_before : (made : ℕ) (part : Option ℕ) (n : ℕ) → Tried (Next w x T) (w.sent ++ more) made part n → Tried T w.sent made part n
    only_before made part n t = (elim (t.0) [ inl old ↦ old | inr new ↦ absurd (silent made part n new) ], counts_on w.sent more part n t.1)

    silent_few : (u : WorldState) → u.sent ≡ w.sent ++ more → K w ≤ K u → ((s : ClientState) → element_at u.clients index ≡ Some s → (s.config ≡ config) × IsRight config (Tried (Next w x T) (w.sent ++ more) (K u)) s.current)
        → IsFew (Next w x T) u
    silent_few u sent rise open_at =
        record {
          limits = λ made part ns apart each. h.limits made part ns apart
              (each_on (Tried (Next w x T) (w.sent ++ more) made part) (Tried T w.sent made part) (only_before made part) ns (subst (λ (ms : List Message). EachOf (Tried (Next w x T) ms made part) ns) sent each));
          before = λ made part n t. let old = h.before made part n (elim (t) [ inl old ↦ old | inr new ↦ absurd (silent made part n new) ]) in omega (arith, old, rise);
          stands = λ s at. let there = open_at s at in (there.0, subst (λ (ms : List Message). IsRight config (Tried (Next w x T) ms (K u)) s.current) (sym sent) there.1);
        }

    -- what was open stays as it was
    still_open : (k : ℕ) → k ≡ K w → (s : ClientState) → element_at w.clients index ≡ Some s → (s.config ≡ config) × IsRight config (Tried (Next w x T) (w.sent ++ more) k) s.current
    still_open k same s at =
        let there = h.stands s at in (
          there.0,
          subst (λ (n : ℕ). IsRight config (Tried (Next w x T) (w.sent ++ more) n) s.current) (sym same)
              (right_on config (Tried T w.sent (K w)) (Tried (Next w x T) (w.sent ++ more) (K w)) (only_before (K w)) s.current there.1),
        )

    others_few : (u : WorldState) → u.sent ≡ w.sent ++ more → K u ≡ K w → ((s : ClientState) → element_at u.clients index ≡ Some s → element_at w.clients index ≡ Some s) → IsFew (Next w x T) u
    others_few u sent same there = silent_few u sent (omega (arith, same)) (λ s at. still_open (K u) same s (there s at))

  -- messages of others ask for nothing
  others_silent : (w : WorldState) (x : Happened) → AllOf (λ m. is_from_client (suc index) m.sender ≡ false) x.out.sent → IsSilent w x
  others_silent w x all made part n h =
      true≢false (sym (from_itself (suc index) (h.asked).sender h.sender_is) ∙ all_at (λ (m : Message). is_from_client (suc index) m.sender ≡ false) x.out.sent h.place h.asked all h.sent_is)

  plain_silent : (w : WorldState) (x : Happened) → AllOf (λ m. IsNoMutate m.body) x.out.sent → IsSilent w x
  plain_silent w x all made part n h =
      subst (λ (b : Body). IsNoMutate b) h.body_is (all_at (λ (m : Message). IsNoMutate m.body) x.out.sent h.place h.asked all h.sent_is)

  append-[] : (xs : List Message) → xs ++ [] ≡ xs
  append-[] [] = refl
  append-[] (y ∷ xs) = ap (λ (ys : List Message). y ∷ ys) (append-[] xs)

  put_at : (t : ClientState) (xs : List ClientState) (i : ℕ) (s : ClientState) → element_at (with_at xs i t) i ≡ Some s → s ≡ t
  put_at t [] i s e = none_some s e
  put_at t (y ∷ xs) zero s e = sym (same_some t s e)
  put_at t (y ∷ xs) (suc i) s e = put_at t xs i s e

  listed : (o : Option Message) → ((m : Message) → o ≡ Some m → IsNoMutate m.body) → AllOf (λ m. IsNoMutate m.body) (option_to_list o)
  listed None h = tt
  listed (Some m) h = (h m refl, tt)

  -- a step of the client

  module _ (T : ℕ → Option ℕ → ℕ → Type 0) (w : WorldState) (h : IsFew T w) (moment : ℕ) (s : ClientState) (at : element_at w.clients index ≡ Some s) where
    abbrev Left : Taken ClientState → Type 0
    Left t = IsFew (Next w (after_client w index moment t) T) (after_client w index moment t).world

    same_calls : (a : Option Answer) → calls_made (observed_answer (observed_moment w.config.skew_ms w.observer moment) (suc index) a).trace (suc index) ≡ K w
    same_calls a = answered_calls (observed_moment w.config.skew_ms w.observer moment) (suc index) (suc index) a ∙ passed_calls w.config.skew_ms w.observer moment (suc index)

    plain_left : (t : Taken ClientState) → t.state.config ≡ config → AllOf (λ m. IsNoMutate m.body) t.out.sent → IsRight config (Tried T w.sent (K w)) t.state.current → Left t
    plain_left t same none right =
        let x : Happened = after_client w index moment t in
        let more : List Message = stamped (suc (length w.sent)) t.out.sent in
        let silent : IsSilent w x = plain_silent w x none in
        let calls : K x.world ≡ K w = same_calls t.out.answer in
        silent_few T w h x silent more x.world refl (omega (arith, calls))
        (λ u there. subst (λ (v : ClientState). (v.config ≡ config) × IsRight config (Tried (Next w x T) (w.sent ++ more) (K x.world)) v.current) (sym (put_at t.state w.clients index u there)) (
          same,
          subst (λ (n : ℕ). IsRight config (Tried (Next w x T) (w.sent ++ more) n) t.state.current) (sym calls)
              (right_on config (Tried T w.sent (K w)) (Tried (Next w x T) (w.sent ++ more) (K w)) (only_before T w h x silent more (K w)) t.state.current right),
        ))

    fine_left : (d : ClientDoing) → IsFine config (Tried T w.sent (K w)) d → (e : Ending) → Left (client_ends s d e)
    fine_left d f Goes = plain_left (client_ends s d Goes) f.config_is (listed d.sent f.silent) f.right
    fine_left d f Lost = plain_left (client_ends s d Lost) (h.stands s at).0 tt tt
    fine_left d f (Stops made) = plain_left (client_ends s d (Stops made)) (h.stands s at).0 tt tt

    -- it asks a primary

    abbrev seq_in : ℕ → Body → ℕ
    seq_in none (body.Mutate id handle version target deadline) = id.seq
    seq_in none other = none

    module _ (d : ClientDoing) (g : IsAsking config (Tried T w.sent (K w)) (client_at s moment) d) where
      abbrev Asks : Happened
      Asks = after_client w index moment (client_ends s (committed (client_begins (client_at s moment)) g.current (mutate_planned (client_at s moment) g.current g.chunk g.primary g.number)) Goes)

      only_one : (x y : Message) (place : ℕ) → element_at (x ∷ []) place ≡ Some y → x ≡ y
      only_one x y zero e = same_some x y e
      only_one x y (suc place) e = none_some y e

      asked_this : (made : ℕ) (part : Option ℕ) (n : ℕ) → IsAskedNow index w Asks made part n → (K w ≡ made) × (part_of (g.current).asked (g.current).index ≡ part) × (g.number ≡ n)
      asked_this made part n a = (
        a.made_is,
        ap (λ (c : CurrentCall). part_of c.asked c.index) same_current ∙ a.part_is,
        ap (λ (m : Message). seq_in n m.body) (only_one _ a.asked a.place a.sent_is) ∙ ap (seq_in n) a.body_is ∙ a.number_is,
      )
        where
          same_client : s ≡ a.client
          same_client = same_some s a.client (sym at ∙ a.is)

          same_current : g.current ≡ a.current
          same_current = same_some g.current a.current (sym g.current_is ∙ ap (λ (c : ClientState). c.current) same_client ∙ a.current_is)

      -- either all were asked before, or one now
      split : (made : ℕ) (part : Option ℕ) (more : List Message) (ns : List ℕ) → EachOf (Tried (Next w Asks T) (w.sent ++ more) made part) ns
          → EachOf (Tried T w.sent made part) ns ⊎ ((n : ℕ) × IsAskedNow index w Asks made part n)
      split made part more [] each = inl tt
      split made part more (n ∷ ns) each =
          elim ((each.0).0) [
            | inr now ↦ inr (n, now)
            | inl old ↦ elim (split made part more ns each.1) [ inl all ↦ inl ((old, counts_on w.sent more part n (each.0).1), all) | inr now ↦ inr now ]
          ]

      earlier : (more : List Message) (made : ℕ) (part : Option ℕ) (n : ℕ) → Tried (Next w Asks T) (w.sent ++ more) made part n → (n ≡ g.number → ⊥) → Tried T w.sent made part n
      earlier more made part n t other = (elim (t.0) [ inl old ↦ old | inr now ↦ absurd (other (sym (asked_this made part n now).2)) ], counts_on w.sent more part n t.1)

      with_one : (more : List Message) (ns : List ℕ) → AreApart ns → EachOf (Tried (Next w Asks T) (w.sent ++ more) (K w) (part_of (g.current).asked (g.current).index)) ns → length ns ≤ max 1 config.attempts
      with_one more ns apart each =
          let P : ℕ → Type 0 = Tried (Next w Asks T) (w.sent ++ more) (K w) (part_of (g.current).asked (g.current).index) in
          let o : Others P g.number ns = others P g.number ns apart each in
          let count = o.count in
          let room = ((g.goes).0 o.rest o.apart
          (each_on (λ n. P n × (n ≡ g.number → ⊥)) (Tried T w.sent (K w) (part_of (g.current).asked (g.current).index)) (λ n p. earlier more (K w) (part_of (g.current).asked (g.current).index) n p.0 p.1) o.rest o.each)).0 in
          omega (arith, count, room)

      last_still : (more : List Message) (p i n : ℕ) → Tried (Next w Asks T) (w.sent ++ more) (K w) (Some p) n → part_of (g.current).asked (g.current).index ≡ Some i → p ≤ i
      last_still more p i n t is =
          elim (t.0) [
            | inl old ↦ (g.goes).1 p i n (old, tt) is
            | inr now ↦ let same : i ≡ p = same_some i p (sym is ∙ (asked_this (K w) (Some p) n now).1) in omega (arith, same)
          ]

      asks_left : Left (client_ends s (committed (client_begins (client_at s moment)) g.current (mutate_planned (client_at s moment) g.current g.chunk g.primary g.number)) Goes)
      asks_left =
          record {
            limits = λ made part ns apart each. elim (split made part more ns each) [
              | inl all ↦ h.limits made part ns apart all
              | inr now ↦ let this = asked_this made part now.0 now.1 in
                  with_one more ns apart (subst (λ (p : Option ℕ). EachOf (Tried (Next w Asks T) (w.sent ++ more) (K w) p) ns) (sym this.1)
                  (subst (λ (n : ℕ). EachOf (Tried (Next w Asks T) (w.sent ++ more) n part) ns) (sym this.0) each))
            ];
            before = λ made part n t. elim (t) [
              | inl old ↦ let few = h.before made part n old in omega (arith, few, calls)
              | inr now ↦ let this = (asked_this made part n now).0 in omega (arith, this, calls)
            ];
            stands = λ u there. subst (λ (v : ClientState). (v.config ≡ config) × IsRight config (Tried (Next w Asks T) (w.sent ++ more) (K Asks.world)) v.current) (sym (put_at after w.clients index u there)) (
              (h.stands s at).0,
              subst (λ (n : ℕ). HasAsked config (Tried (Next w Asks T) (w.sent ++ more) n) g.number g.current) (sym calls) (
                λ ns apart each. (g.goes).0 ns apart
                    (each_on (λ n. Tried (Next w Asks T) (w.sent ++ more) (K w) (part_of (g.current).asked (g.current).index) n × (n ≡ g.number → ⊥)) (Tried T w.sent (K w) (part_of (g.current).asked (g.current).index))
                    (λ n p. earlier more (K w) (part_of (g.current).asked (g.current).index) n p.0 p.1) ns each),
                last_still more,
              ),
            );
          }
        where
          more : List Message
          more = stamped (suc (length w.sent)) (option_to_list (mutate_planned (client_at s moment) g.current g.chunk g.primary g.number).sent)

          after : ClientState
          after = (committed (client_begins (client_at s moment)) g.current (mutate_planned (client_at s moment) g.current g.chunk g.primary g.number)).client

          calls : K (after_client w index moment (client_ends s (committed (client_begins (client_at s moment)) g.current (mutate_planned (client_at s moment) g.current g.chunk g.primary g.number)) Goes)).world ≡ K w
          calls = same_calls None

      asking_left : (e : Ending) → Left (client_ends s d e)
      asking_left Goes = subst (λ (y : ClientDoing). Left (client_ends s y Goes)) (sym g.is) asks_left
      asking_left Lost = plain_left (client_ends s d Lost) (h.stands s at).0 tt tt
      asking_left (Stops made) = plain_left (client_ends s d (Stops made)) (h.stands s at).0 tt tt

    ends_left : (d : ClientDoing) → Leaves config (Tried T w.sent (K w)) (client_at s moment) d → (e : Ending) → Left (client_ends s d e)
    ends_left d leaves e = elim (leaves) [ inl f ↦ fine_left d f e | inr g ↦ asking_left d g e ]

    -- what comes in was sent to it
    came_in : (e : Event) (i : NodeInput) → IsGiven w e (the_client (suc index)) moment i → IsCameIn (Came config (Tried T w.sent (K w))) i
    came_in (event.Deliver number now) (input.Deliver m) is = λ n body_is u. u.1 (number - 1) m (element_numbered w.sent number m is.0) is.1 body_is
    came_in (event.Call c asked now) (input.Deliver m) is = absurd is
    came_in (event.Tick to now) (input.Deliver m) is = absurd is
    came_in (event.Restart n now) (input.Deliver m) is = absurd is
    came_in (event.Rot n handle place byte) (input.Deliver m) is = absurd is
    came_in (event.Fuse n count torn) (input.Deliver m) is = absurd is
    came_in e input.Tick is = tt

    step_left : (e : Event) (i : NodeInput) (choice : Choice) → IsGiven w e (the_client (suc index)) moment i → Left (client_step s moment i choice)
    step_left e i choice is =
        let there = h.stands s at in
        on_cond Left (may_step s) (client_ends s (client_goes s moment i) choice.ending) (no_step s)
        (λ _. ends_left (client_goes s moment i) (does_leaves config (Tried T w.sent (K w)) (client_at s moment) i s.current refl there.0 (came_in e i is) there.1 there.1) choice.ending)
        (λ _. plain_left (no_step s) there.0 tt there.1)

    -- a call of the client

    module _ (c : Call) where
      abbrev Called_ : Taken ClientState → Type 0
      Called_ t = IsFew (Next w (after_client (with_call w index moment c) index moment t) T) (after_client (with_call w index moment c) index moment t).world

      one_more : (a : Option Answer) → calls_made (observed_answer (observed_moment w.config.skew_ms (with_call w index moment c).observer moment) (suc index) a).trace (suc index) ≡ suc (K w)
      one_more a =
          let trace : List Visible = (observed_moment w.config.skew_ms w.observer moment).trace in
          let first = answered_calls (observed_moment w.config.skew_ms (with_call w index moment c).observer moment) (suc index) (suc index) a in
          let then_ = passed_calls w.config.skew_ms (with_call w index moment c).observer moment (suc index) in
          let both = count-append (is_call_of (suc index)) trace (Called (suc index) c ∷ []) in
          let one = count-cons (is_call_of (suc index)) (Called (suc index) c) [] in
          let yes = ap {B = ℕ} (λ (b : Bool). cond b 1 0) (same_number (suc index)) in
          let old = passed_calls w.config.skew_ms w.observer moment (suc index) in
          omega (arith, first, then_, both, one, yes, old)

      called_left : (t : Taken ClientState) → t.state.config ≡ config → AllOf (λ m. IsNoMutate m.body) t.out.sent → ((U : Option ℕ → ℕ → Type 0) → ((p : Option ℕ) (n : ℕ) → U p n → ⊥) → IsRight config U t.state.current) → Called_ t
      called_left t same none right =
          let x : Happened = after_client (with_call w index moment c) index moment t in
          let more : List Message = stamped (suc (length w.sent)) t.out.sent in
          let silent : IsSilent w x = plain_silent w x none in
          let rise : K x.world ≡ suc (K w) = one_more t.out.answer in
          silent_few T w h x silent more x.world refl (omega (arith, rise))
          (λ u there. subst (λ (v : ClientState). (v.config ≡ config) × IsRight config (Tried (Next w x T) (w.sent ++ more) (K x.world)) v.current) (sym (put_at t.state w.clients index u there)) (
            same,
            right (Tried (Next w x T) (w.sent ++ more) (K x.world))
                (λ p n tried. let low = h.before (K x.world) p n (only_before T w h x silent more (K x.world) p n tried).0 in absurd (omega (arith, low, rise))),
          ))

      ends_called : (d : ClientDoing) → ((U : Option ℕ → ℕ → Type 0) → ((p : Option ℕ) (n : ℕ) → U p n → ⊥) → IsFine config U d) → (e : Ending) → Called_ (client_ends s d e)
      ends_called d fine Goes =
          let one = fine (λ p n. ⊥) (λ p n u. u) in
          called_left (client_ends s d Goes) one.config_is (listed d.sent one.silent) (λ U none. (fine U none).right)
      ends_called d fine Lost = called_left (client_ends s d Lost) (h.stands s at).0 tt (λ U none. tt)
      ends_called d fine (Stops made) = called_left (client_ends s d (Stops made)) (h.stands s at).0 tt (λ U none. tt)

      none_right : (U : Option ℕ → ℕ → Type 0) (o : Option CurrentCall) → is_none o ≡ true → IsRight config U o
      none_right U None is = tt
      none_right U (Some x) is = absurd (let both : false ≡ true = is in cc)

      call_left : (choice : Choice) → is_none s.current ≡ true → Called_ (client_call s moment c choice)
      call_left choice none =
          let there = h.stands s at in
          let refused : ClientDoing = answers (client_begins (client_at s moment)) (answer.Refused NoMemory) in
          on_cond Called_ (first_is_true choice.refused) (client_ends s refused choice.ending) (client_ends s (client_call_goes s moment c) choice.ending)
          (λ _. ends_called refused (λ U empty. refused_call_fine config U (client_at s moment) (answer.Refused NoMemory) there.0) choice.ending)
          (λ _. ends_called (client_call_goes s moment c)
          (λ U empty. call_fine config U (client_at s moment) empty c there.0 (begun_fine config U (client_at s moment) there.0 (none_right U s.current none))) choice.ending)

  -- another client

  less : {a b : ℕ} → suc a ≡ suc b → a ≡ b
  less e = omega (arith, e)

  module _ (T : ℕ → Option ℕ → ℕ → Type 0) (w : WorldState) (numbered : AreNumbered w.sent w.clients) (h : IsFew T w) (other moment : ℕ) (apart : other ≡ index → ⊥) (s : ClientState) (at : element_at w.clients other ≡ Some s)
      (up : IsTrue s.up) where
    abbrev Foreign : ClientState → List Message → Type 0
    Foreign t ms = AllOf (λ m. is_from_client (suc index) m.sender ≡ false) ms

    goes_foreign : (d : ClientDoing) → IsStepOf (client_at s moment) d → Foreign d.client (option_to_list d.sent)
    goes_foreign d step =
        not_other (suc other) (suc index) (λ e. apart (less e)) (option_to_list d.sent)
        (own_sender w.sent (suc (length w.sent)) other (client_at s moment) d (at_numbered w.sent other s moment (numbered.each other s at)) up step d.sent refl)

    there_before : (t u : ClientState) → element_at (with_at w.clients other t) index ≡ Some u → element_at w.clients index ≡ Some u
    there_before t u is = elim (set_cases w.clients other t index u is) [ inl both ↦ absurd (apart (sym both.0)) | inr there ↦ there ]

    other_steps : (i : NodeInput) (choice : Choice) → IsFew (Next w (after_client w other moment (client_step s moment i choice)) T) (after_client w other moment (client_step s moment i choice)).world
    other_steps i choice =
        let t : Taken ClientState = client_step s moment i choice in
        let x : Happened = after_client w other moment t in
        others_few T w h x (others_silent w x (of_step Foreign s moment i choice (numbered.each other s at).named goes_foreign tt tt)) (stamped (suc (length w.sent)) t.out.sent) x.world refl
        (answered_calls (observed_moment w.config.skew_ms w.observer moment) (suc other) (suc index) t.out.answer ∙ passed_calls w.config.skew_ms w.observer moment (suc index)) (there_before t.state)

    other_calls : (c : Call) (choice : Choice)
        → IsFew (Next w (after_client (with_call w other moment c) other moment (client_call s moment c choice)) T) (after_client (with_call w other moment c) other moment (client_call s moment c choice)).world
    other_calls c choice =
        let v : WorldState = with_call w other moment c in
        let t : Taken ClientState = client_call s moment c choice in
        let x : Happened = after_client v other moment t in
        others_few T w h x (others_silent w x (of_call Foreign s moment c choice (numbered.each other s at).named goes_foreign tt)) (stamped (suc (length w.sent)) t.out.sent) x.world refl
        (answered_calls (observed_moment w.config.skew_ms v.observer moment) (suc other) (suc index) t.out.answer ∙ passed_calls w.config.skew_ms v.observer moment (suc index)
        ∙ calls_joined (suc index) (observed_moment w.config.skew_ms w.observer moment).trace (Called (suc other) c) (differ (suc other == suc index) refl) ∙ passed_calls w.config.skew_ms w.observer moment (suc index))
        (there_before t.state)
      where
        differ : (b : Bool) → (suc other == suc index) ≡ b → (suc other == suc index) ≡ false
        differ false e = e
        differ true e = absurd (apart (less (eqb-true (suc other) (suc index) e)))

  -- each event

  record IsOn (T : ℕ → Option ℕ → ℕ → Type 0) (w : WorldState) : Type 0 where
    numbered : AreNumbered w.sent w.clients
    few : IsFew T w

  module _ (T : ℕ → Option ℕ → ℕ → Type 0) (w : WorldState) (g : IsOn T w) where
    abbrev After : Happened → Type 0
    After x = IsFew (Next w x T) x.world

    few_steps : (e : Event) (other moment : ℕ) (s : ClientState) (i : NodeInput) (choice : Choice) → element_at w.clients other ≡ Some s → IsGiven w e (the_client (suc other)) moment i → IsTrue s.up → After (after_client w other moment (client_step s moment i choice))
    few_steps e other moment s i choice at is up =
        elim (same_or_not index other) [
          | inl same ↦ subst (λ (n : ℕ). After (after_client w n moment (client_step s moment i choice))) same
              (step_left T w g.few moment s (subst (λ (n : ℕ). element_at w.clients n ≡ Some s) (sym same) at) e i choice (subst (λ (n : ℕ). IsGiven w e (the_client (suc n)) moment i) (sym same) is))
          | inr apart ↦ other_steps T w g.numbered g.few other moment (λ e. apart (sym e)) s at up i choice
        ]

    few_calls : (other moment : ℕ) (s : ClientState) (c : Call) (choice : Choice) → element_at w.clients other ≡ Some s → IsTrue (may_call s) → After (after_client (with_call w other moment c) other moment (client_call s moment c choice))
    few_calls other moment s c choice at may =
        let up : IsTrue s.up = first_and s.up (is_none s.current && has_room_to_count s) may in
        let none : is_none s.current ≡ true = first_and (is_none s.current) (has_room_to_count s) (and_parts s.up (is_none s.current && has_room_to_count s) may).1 in
        elim (same_or_not index other) [
          | inl same ↦ subst (λ (n : ℕ). After (after_client (with_call w n moment c) n moment (client_call s moment c choice))) same
              (call_left T w g.few moment s (subst (λ (n : ℕ). element_at w.clients n ≡ Some s) (sym same) at) c choice none)
          | inr apart ↦ other_calls T w g.numbered g.few other moment (λ e. apart (sym e)) s at up c choice
        ]

    each_few : HoldsAfter w (λ e x. IsFew (Next w x T) x.world)
    each_few =
        record {
          nothing = λ e. others_few T w g.few (nothing_happens w) (others_silent w (nothing_happens w) tt) [] w (sym (append-[] w.sent)) refl (λ s at. at);
          masters = λ e moment i choice is up.
              let t = master_step w.master moment i choice in
              let x : Happened = after_master w moment t in
              others_few T w g.few x (others_silent w x (one_client (suc index) t.out.sent (master_sends w.master moment i choice))) (stamped (suc (length w.sent)) t.out.sent) x.world refl
              (passed_calls w.config.skew_ms w.observer moment (suc index)) (λ s at. at);
          opens = λ e moment choice.
              let t = master_restart w.master moment choice in
              let x : Happened = after_master w moment t in
              others_few T w g.few x (others_silent w x (one_client (suc index) t.out.sent (master_restart_sends w.master moment choice))) (stamped (suc (length w.sent)) t.out.sent) x.world refl
              (passed_calls w.config.skew_ms w.observer moment (suc index)) (λ s at. at);
          serves = λ e other moment s i choice at is up.
              let t = server_step s moment i choice in
              let x : Happened = after_server w other moment t in
              others_few T w g.few x (others_silent w x (one_client (suc index) t.out.sent (server_sends s moment i choice))) (stamped (suc (length w.sent)) t.out.sent) x.world refl
              (passed_calls w.config.skew_ms w.observer moment (suc index)) (λ s at. at);
          restarts = λ e other moment s choice at.
              let t = server_restart s moment choice in
              let x : Happened = after_server w other moment t in
              others_few T w g.few x (others_silent w x (one_client (suc index) t.out.sent (server_restart_sends s moment choice))) (stamped (suc (length w.sent)) t.out.sent) x.world refl
              (passed_calls w.config.skew_ms w.observer moment (suc index)) (λ s at. at);
          steps = λ e other moment s i choice at is up. few_steps e other moment s i choice at is up;
          calls = λ e other moment s c choice at may. few_calls other moment s c choice at may;
          rots = λ e other handle s r place byte ending is_kept at there up.
              let x : Happened = with_rot w other s (rot_of handle place byte) ending is_kept in
              others_few T w g.few x (others_silent w x tt) [] x.world (sym (append-[] w.sent)) refl (λ s at. at);
        }

  few_less : (T V : ℕ → Option ℕ → ℕ → Type 0) → ((made : ℕ) (part : Option ℕ) (n : ℕ) → V made part n → T made part n) → (w : WorldState) → IsFew T w → IsFew V w
  few_less T V go w h =
      record {
        limits = λ made part ns apart each. h.limits made part ns apart (each_on (Tried V w.sent made part) (Tried T w.sent made part) (λ n t. (go made part n t.0, t.1)) ns each);
        before = λ made part n v. h.before made part n (go made part n v);
        stands = λ s at. let there = h.stands s at in (there.0, right_on config (Tried T w.sent (K w)) (Tried V w.sent (K w)) (λ part n t. (go (K w) part n t.0, t.1)) s.current there.1);
      }

  abbrev Since : WorldState → List (Event × Choice) → (ℕ → Option ℕ → ℕ → Type 0) → ℕ → Option ℕ → ℕ → Type 0
  Since w steps T made part n = T made part n ⊎ WasAsked index w steps made part n

  all_since : (w : WorldState) (steps : List (Event × Choice)) (T : ℕ → Option ℕ → ℕ → Type 0) → IsOn T w → IsFew (Since w steps T) (after_events w steps)
  all_since w [] T g = few_less T (Since w [] T) (λ made part n since. elim (since) [ inl old ↦ old | inr none ↦ absurd none ]) w g.few
  all_since w (step ∷ rest) T g =
      let x : Happened = happens w step.0 step.1 in
      few_less (Since x.world rest (Next w x T)) (Since w (step ∷ rest) T)
      (λ made part n since. elim (since) [
        | inl old ↦ inl (inl old)
        | inr was ↦ elim (was) [ inl now ↦ inl (inr now) | inr later ↦ inr later ]
      ]) (after_events x.world rest)
      (all_since x.world rest (Next w x T) (record {
        numbered = holds_after w (λ e y. AreNumbered y.world.sent y.world.clients) (each_event w g.numbered) step.0 step.1;
        few = holds_after w (λ e y. IsFew (Next w y T) y.world) (each_few T w g) step.0 step.1;
      }))

-- a new world

new_clients : (config : Config) (ns : List ℕ) (index : ℕ) (s : ClientState) → element_at (map (new_client config) ns) index ≡ Some s → (s.config ≡ config) × (s.current ≡ None)
new_clients config [] index s is = none_some s is
new_clients config (n ∷ ns) zero s is = let same = same_some (new_client config n) s is in (sym (ap (λ (c : ClientState). c.config) same), sym (ap (λ (c : ClientState). c.current) same))
new_clients config (n ∷ ns) (suc index) s is = new_clients config ns index s is

abbrev Never : ℕ → Option ℕ → ℕ → Type 0
Never made part n = ⊥

new_few : (config : Config) (servers clients index : ℕ) → IsFew config index Never (new_world config servers clients)
new_few config servers clients index =
    record {
      limits = λ made part ns apart each. none_asked made part ns each;
      before = λ made part n none. absurd none;
      stands = λ s at. let there = new_clients config (first_numbers clients) index s at in
          (there.0, subst (λ (o : Option CurrentCall). IsRight config (Tried config index Never [] 0) o) (sym there.1) tt);
    }
  where
    none_asked : (made : ℕ) (part : Option ℕ) (ns : List ℕ) → EachOf (Tried config index Never [] made part) ns → length ns ≤ max 1 config.attempts
    none_asked made part [] each = let one : 1 ≤ max 1 config.attempts = le-max_left 1 config.attempts in omega (arith, one)
    none_asked made part (n ∷ ns) each = absurd (each.0).0

pub parts_have_few_attempts : PartsHaveFewAttempts
parts_have_few_attempts config servers clients steps index made part numbers apart each =
    (all_since config index start steps Never (record { numbered = numbered_reached config servers clients start ([], refl); few = new_few config servers clients index })).limits made part numbers apart
    (each_on (λ n. WasAsked index start steps made part n × Counts (after_events start steps).sent index part n) (Tried config index (Since config index start steps Never) (after_events start steps).sent made part)
    (λ n p. (inr p.0, p.1)) numbers each)
  where
    start : WorldState
    start = new_world config servers clients
