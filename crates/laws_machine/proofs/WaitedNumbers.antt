-- In which call a client used the number of the data for whose place it waits.
use Rattle.std.proofs.Common.{◌≡◌, ◌⊎◌, ℕ, zero, suc, ◌+◌, ◌≤◌, Bool, true, cond, List, [], ◌∷◌, ◌++◌, length, map, Option, Some, None, refl, sym, ap, subst, ◌∙◌, inl, inr, arith}
use Rattle.std.specs.Prelude.{◌&&◌, is_none, IsTrue}
use Rattle.std.specs.Option.{option_to_list}
use Rattle.std.proofs.lemmas.Bool.{and_parts, eq-eqb, ne_eqb, cases_eq, true≢false}
use Rattle.std.proofs.lemmas.List.{append-nil}
use Rattle.std.proofs.lemmas.List.Sums.{sum_by-cons, sum_by-append}
use Rattle.gfs_types.specs.declared.config.Config.{Config}
use Rattle.gfs_types.specs.declared.call.Call.{Call}
use Rattle.messages.specs.declared.event.Event.{Event}
use Rattle.messages.specs.declared.event.NodeInput.{NodeInput}
use Rattle.messages.specs.declared.event.NodeInput.TheVariants as input
use Rattle.messages.specs.declared.message.Body.{Body}
use Rattle.messages.specs.declared.message.Body.TheVariants as body
use Rattle.messages.specs.declared.message.Message.{Message}
use Rattle.relaxed_file.specs.Run.{Called}
use Rattle.client_state.specs.declared.call.CurrentCall.{CurrentCall}
use Rattle.client_state.specs.declared.call.ToldChunk.{ToldChunk}
use Rattle.client_state.specs.declared.call.Stage.{Stage}
use Rattle.client_state.specs.declared.call.Stage.TheVariants.{AskedNames, AskedWhere, MustAskAgain, SentData, SentMutate, SentRead, IsOver, HasAnswer}
use Rattle.protocol.specs.Tables.{element_at, with_at, first_numbers}
use Rattle.protocol.specs.Sending.{message, the_client, the_server, data_id}
use Rattle.protocol.specs.Choice.{Choice}
use Rattle.protocol.specs.Client.{ClientState, ClientDoing, new_client, client_begins, committed, file_chunk}
use Rattle.protocol.specs.ClientAttempts.{mutate_planned, target_of}
use Rattle.protocol.specs.ClientStep.{client_at, client_step, client_call, may_call, has_room_to_count}
use Rattle.protocol.specs.MasterStep.{master_step, master_restart}
use Rattle.protocol.specs.ServerStep.{server_step, server_restart}
use Rattle.protocol.specs.Observer.{calls_made, observed_moment, observed_call, observed_answer}
use Rattle.protocol.specs.World.{WorldState, Happened, new_world, nothing_happens, after_master, after_server, after_client, stamped, happens, after_events}
use Rattle.gfs_types.specs.declared.ids.ServerId.{ServerId}
use Rattle.laws_base.proofs.Steps.{none_some, same_some}
use Rattle.laws_base.proofs.RisingOrders.{set_cases}
use Rattle.laws_base.proofs.ServerMoves.{IsCameIn}
use Rattle.laws_base.specs.Attempts.{is_from_client, is_mutate, mutates_under}
use Rattle.laws_base.specs.FewAttempts.{IsAskedNow, WasAsked}
use Rattle.laws_base.proofs.ClientReads.{stepped, called}
use Rattle.laws_base.proofs.ClientWalk.{IsIdle, KeepsClient, HoldsAt, step_kept, call_kept}
use Rattle.laws_base.proofs.Events.{HoldsAfter, holds_after, with_call, with_rot, rot_of}
use Rattle.laws_base.proofs.RequestsOnce.{AreNumbered, each_event, numbered_reached, from_itself}
use Rattle.laws_base.specs.WaitedRounds.{waits_at, waited}
use Rattle.laws_machine.proofs.LaterCalls.{calls_joined, calls_passed, calls_answered, put_at}
use Rattle.laws_machine.specs.WaitedNumbers.{WaitedNumbersAreOfTheOpenCall}

-- whether this is the client's Mutate of the number
abbrev is_own : ℕ → ℕ → Message → Bool
is_own client n m = is_from_client client m.sender && is_mutate n m.body

abbrev one_if : Bool → ℕ
one_if b = cond b 1 0

-- counts of messages

joined : (client n : ℕ) (xs ys : List Message) → mutates_under client n (xs ++ ys) ≡ mutates_under client n xs + mutates_under client n ys
joined client n xs ys = sum_by-append (λ (m : Message). one_if (is_own client n m)) xs ys

cons_under : (client n : ℕ) (m : Message) (ms : List Message) → mutates_under client n (m ∷ ms) ≡ one_if (is_own client n m) + mutates_under client n ms
cons_under client n m ms = sum_by-cons (λ (x : Message). cond (is_own client n x) 1 0) m ms

stamped_under : (client n k : ℕ) (ms : List Message) → mutates_under client n (stamped k ms) ≡ mutates_under client n ms
stamped_under client n k [] = refl
stamped_under client n k (m ∷ ms) =
    cons_under client n (record m { number = k }) (stamped (suc k) ms) ∙ ap (λ (q : ℕ). one_if (is_own client n m) + q) (stamped_under client n (suc k) ms) ∙ sym (cons_under client n m ms)

among : (client n : ℕ) (ms : List Message) (place : ℕ) (m : Message) → element_at ms place ≡ Some m → is_own client n m ≡ true → 1 ≤ mutates_under client n ms
among client n [] place m is own = none_some m is
among client n (x ∷ ms) zero m is own =
    let count = cons_under client n x ms in
    let one : one_if (is_own client n x) ≡ 1 = ap (λ (y : Message). one_if (is_own client n y)) (same_some x m is) ∙ ap one_if own in
    omega (arith, count, one)
among client n (x ∷ ms) (suc place) m is own = let count = cons_under client n x ms in let rest = among client n ms place m is own in omega (arith, count, rest)

own_mutate : (client n : ℕ) (m : Message) → m.sender ≡ the_client client → is_mutate n m.body ≡ true → is_own client n m ≡ true
own_mutate client n m sender mutate = ap (λ (b : Bool). b && is_mutate n m.body) (from_itself client m.sender sender) ∙ mutate

-- a client's step: it waited before, or asks now

abbrev IsNext : ClientState → ClientState → List Message → Type 0
IsNext s t ms = (chunk : ToldChunk) (n : ℕ) → waited t.current ≡ Some (chunk, n) → (waited s.current ≡ Some (chunk, n)) ⊎ (1 ≤ mutates_under s.id n ms)

abbrev Next : ClientState → ClientDoing → Type 0
Next s d = IsNext s d.client (option_to_list d.sent)

abbrev Any : ClientDoing → CurrentCall → Type 0
Any d c = Unit {0}

none_next : (s : ClientState) (d : ClientDoing) → waited d.client.current ≡ None → Next s d
none_next s d none chunk n is = none_some (chunk, n) (sym none ∙ is)

idle_waits : (st : Stage) → IsIdle st → waits_at st ≡ None
idle_waits (HasAnswer reply) is = refl
idle_waits MustAskAgain is = refl
idle_waits IsOver is = refl
idle_waits AskedNames is = absurd is
idle_waits (AskedWhere number) is = absurd is
idle_waits (SentData chunk primary number) is = absurd is
idle_waits (SentMutate chunk number) is = absurd is
idle_waits (SentRead chunk left number) is = absurd is

-- P: what is left where nothing is waited for
frame : (s : ClientState) (P : ClientDoing → Type 0) → ((d : ClientDoing) → waited d.client.current ≡ None → P d)
    → ((c : CurrentCall) (chunk : ToldChunk) (primary : ServerId) (number : ℕ) → s.current ≡ Some c → P (committed (client_begins s) c (mutate_planned (client_begins s).client c chunk primary number)))
    → KeepsClient s (λ b. Unit {0}) Any Any (λ d c l. Unit {0}) (λ d c chunk left. Unit {0}) P
frame s P quiet asks =
    record {
      changes = λ d c e same h. tt;
      name_changes = λ d c e same h. tt;
      begins = λ d c e same end h. tt;
      drops = λ d c chunk h. tt;
      notes = λ d c index h. tt;
      looks = λ d c index h. tt;
      finds = λ d c index e end is h. tt;
      hears = λ c number l now at came h. (tt, tt);
      holders = λ d c l fit. tt;
      left = λ c chunk rest number now at fresh h. tt;
      answered = λ d c reply h. quiet _ refl;
      name_answered = λ d c reply h. quiet _ refl;
      opened = λ c number file shape now at came h. quiet _ refl;
      waits = λ d c idle h. quiet _ (idle_waits c.stage idle);
      waits_again = λ d c h. quiet _ refl;
      asking = λ d c h. quiet _ refl;
      reads = λ d c chunk x rest r h. quiet _ refl;
      pushes = λ d c l g first is hop fit h. quiet _ refl;
      mutates = λ c chunk primary number now at fresh h. asks c chunk primary number now;
      naming = λ d c end h. quiet _ refl;
    }

at_stage : (s : ClientState) (c : CurrentCall) (st : Stage) → HoldsAt s Any Any c st
at_stage s c AskedNames = tt
at_stage s c (AskedWhere number) = tt
at_stage s c MustAskAgain = tt
at_stage s c (SentData chunk primary number) = tt
at_stage s c (SentMutate chunk number) = tt
at_stage s c (SentRead chunk left number) = tt
at_stage s c IsOver = tt
at_stage s c (HasAnswer reply) = tt

all_came : (i : NodeInput) → IsCameIn (λ b. Unit {0}) i
all_came (input.Deliver m) = tt
all_came input.Tick = tt

asks_now : (s : ClientState) (c : CurrentCall) (chunk : ToldChunk) (primary : ServerId) (number : ℕ) → Next s (committed (client_begins s) c (mutate_planned s c chunk primary number))
asks_now s c chunk primary number x n is =
    let same : number ≡ n = ap (λ (p : ToldChunk × ℕ). p.1) (same_some (chunk, number) (x, n) is) in
    let asked : Message = message (the_client s.id) (the_server primary.0) (body.Mutate (data_id s.id number) chunk.handle chunk.round (target_of (file_chunk s c.file.0) c.index c.asked) c.deadline) in
    inr (among s.id n (asked ∷ []) zero asked refl (own_mutate s.id n asked refl (eq-eqb number n same)))

step_next : (s : ClientState) (moment : ℕ) (i : NodeInput) (choice : Choice) → IsNext s (client_step s moment i choice).state (client_step s moment i choice).out.sent
step_next s moment i choice =
    let at : ClientState = client_at s moment in
    stepped (λ t ms. IsNext s t ms) s moment i choice
    (step_kept at (λ b. Unit {0}) Any Any (λ d c l. Unit {0}) (λ d c chunk left. Unit {0}) (Next at) (frame at (Next at) (none_next at) (λ c chunk primary number now. asks_now at c chunk primary number)) i s.current refl (all_came i)
    (λ c is. at_stage at c c.stage) (λ chunk n is. inl is)) (λ chunk n is. none_some (chunk, n) is) (λ chunk n is. inl is)

-- a call waits for nothing to be placed
abbrev IsCalm : ClientState → Type 0
IsCalm t = waited t.current ≡ None

call_calm : (s : ClientState) (moment : ℕ) (c : Call) (choice : Choice) → s.current ≡ None → IsCalm (client_call s moment c choice).state
call_calm s moment c choice none =
    let at : ClientState = client_at s moment in
    called (λ t ms. IsCalm t) s moment c choice
    (call_kept at (λ b. Unit {0}) Any Any (λ d c l. Unit {0}) (λ d c chunk left. Unit {0}) (λ d. IsCalm d.client) (frame at (λ d. IsCalm d.client) (λ d calm. calm) (λ e chunk primary number now. none_some e (sym none ∙ now)))
    (record { replies = λ reply. refl; closes = λ fd file is. refl; named = λ c. tt; filed = λ c file index last is. tt }) c (ap (λ (o : Option CurrentCall). waited o) none)) refl refl

-- an event, for one client

record Steps (index : ℕ) (w : WorldState) (x : Happened) : Type 0 where
  sent_is : (k : ℕ) × (x.world.sent ≡ w.sent ++ stamped k x.out.sent)
  next : (s : ClientState) → element_at x.world.clients index ≡ Some s → (chunk : ToldChunk) (n : ℕ) → waited s.current ≡ Some (chunk, n)
      → ((t : ClientState) × (element_at w.clients index ≡ Some t) × (waited t.current ≡ Some (chunk, n))) ⊎ (1 ≤ mutates_under (suc index) n x.out.sent)
  calls : (s : ClientState) → element_at x.world.clients index ≡ Some s → (chunk : ToldChunk) (n : ℕ) → waited s.current ≡ Some (chunk, n) → calls_made x.world.observer.trace (suc index) ≡ calls_made w.observer.trace (suc index)

module _ (index : ℕ) (w : WorldState) (numbered : AreNumbered w.sent w.clients) where
  abbrev k : ℕ
  k = suc (length w.sent)

  others : (x : Happened) → (k : ℕ) × (x.world.sent ≡ w.sent ++ stamped k x.out.sent) → x.world.clients ≡ w.clients → calls_made x.world.observer.trace (suc index) ≡ calls_made w.observer.trace (suc index) → Steps index w x
  others x sent clients calls =
      record {
        sent_is = sent;
        next = λ s at chunk n is. inl (s, ap (λ (cs : List ClientState). element_at cs index) (sym clients) ∙ at, is);
        calls = λ s at chunk n is. calls;
      }

  one_stepped : (j moment : ℕ) (s : ClientState) (i : NodeInput) (choice : Choice) → element_at w.clients j ≡ Some s → Steps index w (after_client w j moment (client_step s moment i choice))
  one_stepped j moment s i choice at =
      record {
        sent_is = (k, refl);
        next = λ t there chunk n is. elim (set_cases w.clients j (client_step s moment i choice).state index t there) [
          | inl both ↦ elim (step_next s moment i choice chunk n (ap (λ (u : ClientState). waited u.current) (sym both.1) ∙ is)) [
            | inl before ↦ inl (s, ap (λ (q : ℕ). element_at w.clients q) both.0 ∙ at, before)
            | inr asked ↦ inr (subst (λ (q : ℕ). 1 ≤ mutates_under q n (client_step s moment i choice).out.sent) ((numbered.each j s at).id ∙ ap (λ (q : ℕ). suc q) (sym both.0)) asked)
          ]
          | inr before ↦ inl (t, before, is)
        ];
        calls = λ t there chunk n is.
            calls_answered (observed_moment w.config.skew_ms w.observer moment) (suc j) (suc index) (client_step s moment i choice).out.answer ∙ calls_passed w.config.skew_ms w.observer moment (suc index);
      }

  one_called : (j moment : ℕ) (s : ClientState) (c : Call) (choice : Choice) → element_at w.clients j ≡ Some s → s.current ≡ None → Steps index w (after_client (with_call w j moment c) j moment (client_call s moment c choice))
  one_called j moment s c choice at none =
      record {
        sent_is = (k, refl);
        next = λ t there chunk n is. elim (set_cases w.clients j (client_call s moment c choice).state index t there) [
          | inl both ↦ none_some (chunk, n) (sym (call_calm s moment c choice none) ∙ ap (λ (u : ClientState). waited u.current) (sym both.1) ∙ is)
          | inr before ↦ inl (t, before, is)
        ];
        calls = λ t there chunk n is. elim (cases_eq index j) [
          | inl same ↦ none_some (chunk, n) (sym (call_calm s moment c choice none) ∙ calm_there t there same ∙ is)
          | inr other ↦ same_calls other
        ];
      }
    where
      calm_there : (t : ClientState) → element_at (with_at w.clients j (client_call s moment c choice).state) index ≡ Some t → index ≡ j → waited (client_call s moment c choice).state.current ≡ waited t.current
      calm_there t there same = ap (λ (u : ClientState). waited u.current) (sym (put_at (client_call s moment c choice).state w.clients j t (subst (λ (q : ℕ). element_at (with_at w.clients j (client_call s moment c choice).state) q ≡ Some t) same there)))

      same_calls : (index ≡ j → ⊥) → calls_made (observed_answer (observed_moment w.config.skew_ms (observed_call (observed_moment w.config.skew_ms w.observer moment) (suc j) c) moment) (suc j) (client_call s moment c choice).out.answer).trace (suc index) ≡ calls_made w.observer.trace (suc index)
      same_calls other =
          calls_answered (observed_moment w.config.skew_ms (observed_call (observed_moment w.config.skew_ms w.observer moment) (suc j) c) moment) (suc j) (suc index) (client_call s moment c choice).out.answer
          ∙ calls_passed w.config.skew_ms (observed_call (observed_moment w.config.skew_ms w.observer moment) (suc j) c) moment (suc index)
          ∙ calls_joined (suc index) (observed_moment w.config.skew_ms w.observer moment).trace (Called (suc j) c) (ne_eqb (suc j) (suc index) (λ same. other (omega (arith, same)))) ∙ calls_passed w.config.skew_ms w.observer moment (suc index)

  idle_then : (s : ClientState) → IsTrue (may_call s) → s.current ≡ None
  idle_then s may = by_current s.current (and_parts (is_none s.current) (has_room_to_count s) (and_parts s.up (is_none s.current && has_room_to_count s) may).1).0
    where
      by_current : (o : Option CurrentCall) → is_none o ≡ true → o ≡ None
      by_current None is = refl
      by_current (Some c) is = absurd (true≢false (sym is))

  one_event : HoldsAfter w (λ e x. Steps index w x)
  one_event =
      record {
        nothing = λ e. others (nothing_happens w) (k, sym (append-nil w.sent)) refl refl;
        masters = λ e moment i choice given up. others (after_master w moment (master_step w.master moment i choice)) (k, refl) refl (calls_passed w.config.skew_ms w.observer moment (suc index));
        opens = λ e moment choice. others (after_master w moment (master_restart w.master moment choice)) (k, refl) refl (calls_passed w.config.skew_ms w.observer moment (suc index));
        serves = λ e j moment s i choice at given up. others (after_server w j moment (server_step s moment i choice)) (k, refl) refl (calls_passed w.config.skew_ms w.observer moment (suc index));
        restarts = λ e j moment s choice at. others (after_server w j moment (server_restart s moment choice)) (k, refl) refl (calls_passed w.config.skew_ms w.observer moment (suc index));
        steps = λ e j moment s i choice at is up. one_stepped j moment s i choice at;
        calls = λ e j moment s c choice at may. one_called j moment s c choice at (idle_then s may);
        rots = λ e j handle s r place byte ending is_kept at there up. others (with_rot w j s (rot_of handle place byte) ending is_kept) (k, sym (append-nil w.sent)) refl refl;
      }

-- along the steps: what was asked was sent, and for what is waited it was in the call that is open

record Inv (index : ℕ) (w : WorldState) (H : ℕ → ℕ → Type 0) : Type 0 where
  sent : (made n : ℕ) → H made n → 1 ≤ mutates_under (suc index) n w.sent
  asked : (s : ClientState) → element_at w.clients index ≡ Some s → (chunk : ToldChunk) (n : ℕ) → waited s.current ≡ Some (chunk, n) → 1 ≤ mutates_under (suc index) n w.sent
  here : (s : ClientState) → element_at w.clients index ≡ Some s → (chunk : ToldChunk) (n : ℕ) → waited s.current ≡ Some (chunk, n) → (made : ℕ) → H made n → made ≡ calls_made w.observer.trace (suc index)

asked_now_in : (index : ℕ) (w : WorldState) (x : Happened) (made : ℕ) (part : Option ℕ) (n : ℕ) → IsAskedNow index w x made part n → 1 ≤ mutates_under (suc index) n x.out.sent
asked_now_in index w x made part n a =
    among (suc index) n x.out.sent a.place a.asked a.sent_is (own_mutate (suc index) n a.asked a.sender_is (ap (λ (b : Body). is_mutate n b) a.body_is ∙ eq-eqb a.id.seq n a.number_is))

module _ (index : ℕ) (w : WorldState) (numbered : AreNumbered w.sent w.clients) (e : Event) (choice : Choice) (H : ℕ → ℕ → Type 0) (h : Inv index w H) where
  abbrev x : Happened
  x = happens w e choice

  abbrev Later : ℕ → ℕ → Type 0
  Later made n = H made n ⊎ ((part : Option ℕ) × IsAskedNow index w x made part n)

  later_numbered : AreNumbered x.world.sent x.world.clients
  later_numbered = holds_after w (λ f y. AreNumbered y.world.sent y.world.clients) (each_event w numbered) e choice

  step : Steps index w x
  step = holds_after w (λ f y. Steps index w y) (one_event index w numbered) e choice

  total : (n : ℕ) → mutates_under (suc index) n x.world.sent ≡ mutates_under (suc index) n w.sent + mutates_under (suc index) n x.out.sent
  total n =
      ap (λ (ms : List Message). mutates_under (suc index) n ms) step.sent_is.1 ∙ joined (suc index) n w.sent (stamped step.sent_is.0 x.out.sent)
      ∙ ap (λ (q : ℕ). mutates_under (suc index) n w.sent + q) (stamped_under (suc index) n step.sent_is.0 x.out.sent)

  inv_next : Inv index x.world Later
  inv_next =
      record {
        sent = λ made n was. elim was [
          | inl before ↦ let one = h.sent made n before in let sum = total n in omega (arith, one, sum)
          | inr now ↦ let one = asked_now_in index w x made now.0 n now.1 in let sum = total n in omega (arith, one, sum)
        ];
        asked = λ s at chunk n is. elim (step.next s at chunk n is) [
          | inl old ↦ let one = h.asked old.0 old.1 chunk n old.2 in let sum = total n in omega (arith, one, sum)
          | inr new ↦ let sum = total n in omega (arith, new, sum)
        ];
        here = λ s at chunk n is made was. elim was [
          | inl before ↦ elim (step.next s at chunk n is) [
            | inl old ↦ h.here old.0 old.1 chunk n old.2 made before ∙ sym (step.calls s at chunk n is)
            | inr new ↦ absurd (twice n (h.sent made n before) new)
          ]
          | inr now ↦ elim (step.next s at chunk n is) [
            | inl old ↦ absurd (twice n (h.asked old.0 old.1 chunk n old.2) (asked_now_in index w x made now.0 n now.1))
            | inr new ↦ sym (now.1).made_is ∙ sym (step.calls s at chunk n is)
          ]
        ];
      }
    where
      twice : (n : ℕ) → 1 ≤ mutates_under (suc index) n w.sent → 1 ≤ mutates_under (suc index) n x.out.sent → ⊥
      twice n one two = let sum = total n in let most = (later_numbered.once (suc index) n).1 in omega (arith, one, two, sum, most)

-- what was asked in the first step, or later
sorted : (index : ℕ) (w : WorldState) (first : Event × Choice) (rest : List (Event × Choice)) (H : ℕ → ℕ → Type 0) (made n : ℕ) → H made n ⊎ ((part : Option ℕ) × WasAsked index w (first ∷ rest) made part n)
    → (H made n ⊎ ((part : Option ℕ) × IsAskedNow index w (happens w first.0 first.1) made part n)) ⊎ ((part : Option ℕ) × WasAsked index (happens w first.0 first.1).world rest made part n)
sorted index w first rest H made n (inl before) = inl (inl before)
sorted index w first rest H made n (inr (part, inl now)) = inl (inr (part, now))
sorted index w first rest H made n (inr (part, inr later)) = inr (part, later)

all_steps : (index : ℕ) (w : WorldState) → AreNumbered w.sent w.clients → (steps : List (Event × Choice)) (H : ℕ → ℕ → Type 0) → Inv index w H
    → Inv index (after_events w steps) (λ made n. H made n ⊎ ((part : Option ℕ) × WasAsked index w steps made part n))
all_steps index w numbered [] H h =
    record {
      sent = λ made n was. elim was [ inl before ↦ h.sent made n before | inr none ↦ absurd none.1 ];
      asked = h.asked;
      here = λ s at chunk n is made was. elim was [ inl before ↦ h.here s at chunk n is made before | inr none ↦ absurd none.1 ];
    }
all_steps index w numbered (first ∷ rest) H h =
    let now : ℕ → ℕ → Type 0 = λ made n. H made n ⊎ ((part : Option ℕ) × IsAskedNow index w (happens w first.0 first.1) made part n) in
    let more = all_steps index (happens w first.0 first.1).world (later_numbered index w numbered first.0 first.1 H h) rest now (inv_next index w numbered first.0 first.1 H h) in
    record {
      sent = λ made n was. more.sent made n (sorted index w first rest H made n was);
      asked = more.asked;
      here = λ s at chunk n is made was. more.here s at chunk n is made (sorted index w first rest H made n was);
    }

new_clients : (config : Config) (ns : List ℕ) (index : ℕ) (s : ClientState) → element_at (map (new_client config) ns) index ≡ Some s → waited s.current ≡ None
new_clients config [] index s is = none_some s is
new_clients config (n ∷ ns) zero s is = sym (ap (λ (c : ClientState). waited c.current) (same_some (new_client config n) s is))
new_clients config (n ∷ ns) (suc index) s is = new_clients config ns index s is

pub waited_numbers_are_of_the_open_call : WaitedNumbersAreOfTheOpenCall
waited_numbers_are_of_the_open_call config servers clients steps index s at chunk number is made part was =
    (all_steps index (new_world config servers clients) (numbered_reached config servers clients (new_world config servers clients) ([], refl)) steps (λ made n. ⊥) first).here s at chunk number is made (inr (part, was))
  where
    first : Inv index (new_world config servers clients) (λ made n. ⊥)
    first =
        record {
          sent = λ made n was. absurd was;
          asked = λ t there chunk n waits. none_some (chunk, n) (sym (new_clients config (first_numbers clients) index t there) ∙ waits);
          here = λ t there chunk n waits made was. absurd was;
        }
