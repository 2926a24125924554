-- What a step or a call of a client does to its numbers, what it sends, and for which data it waits then.
use Rattle.std.proofs.Common.{◌≡◌, ◌⊎◌, ℕ, suc, ◌≤◌, false, List, [], Some, None, refl, sym, ap, subst, ◌∙◌, inl, inr, arith}
use Rattle.std.specs.Option.{option_to_list}
use Rattle.gfs_types.specs.declared.ids.Node.{Node}
use Rattle.gfs_types.specs.declared.ids.Node.TheVariants.{Master}
use Rattle.gfs_types.specs.declared.call.Call.{Call}
use Rattle.gfs_types.specs.declared.answer.Answer.TheVariants as answer
use Rattle.gfs_types.specs.declared.refusal.Refusal.TheVariants.{NoMemory}
use Rattle.messages.specs.declared.message.Body.{Body}
use Rattle.messages.specs.declared.message.Body.TheVariants as body
use Rattle.messages.specs.declared.message.Message.{Message}
use Rattle.messages.specs.declared.message.Holder.{Holder}
use Rattle.messages.specs.declared.event.NodeInput.{NodeInput}
use Rattle.messages.specs.declared.event.NodeInput.TheVariants as input
use Rattle.relaxed_file.specs.NameStep.{is_look}
use Rattle.protocol.specs.Sending.{message, data_id, the_server, the_client}
use Rattle.protocol.specs.PushBuffer.{hops_after}
use Rattle.protocol.specs.Choice.{Choice, Ending, Goes, Lost, Stops}
use Rattle.protocol.specs.Seen.{Taken, no_step}
use Rattle.protocol.specs.MasterSnapshots.{first_is_true}
use Rattle.client_state.specs.declared.call.CurrentCall.{CurrentCall}
use Rattle.client_state.specs.declared.call.ToldChunk.{ToldChunk}
use Rattle.client_state.specs.declared.call.Stage.{Stage}
use Rattle.client_state.specs.declared.call.Stage.TheVariants.{AskedNames, AskedWhere, MustAskAgain, SentData, SentMutate, SentRead, IsOver, HasAnswer}
use Rattle.protocol.specs.Client.{file_chunk, ClientState, ClientDoing, stopped_client, client_begins, committed, with_current, answers}
use Rattle.protocol.specs.ClientAttempts.{is_length, bytes_to_send, wanted_by, read_start, read_count, read_body, read_planned, again_planned, mutate_planned, chunk_of, name_planned}
use Rattle.protocol.specs.ClientTakes.{opens}
use Rattle.protocol.specs.ClientStep.{client_at, client_goes, client_call_goes, may_step, client_ends, client_call, client_step}
use Rattle.laws_base.proofs.Steps.{on_cond, none_some, same_some}
use Rattle.laws_base.proofs.ServerMoves.{IsCameIn}
use Rattle.laws_base.specs.Attempts.{data_number, waited_data}
use Rattle.laws_base.proofs.ClientWalk.{IsIdle, HoldsAt, KeepsClient, step_kept, call_kept, closed}

-- what a client sends as it goes from one state to another
abbrev pub IsSaid : ClientState → ClientState → Body → Type 0
IsSaid s t (body.Ask number file wanted deadline lost) = (number ≡ suc s.number) × (t.number ≡ suc s.number)
IsSaid s t (body.Read number handle version offset count) = (number ≡ suc s.number) × (t.number ≡ suc s.number)
IsSaid s t (body.Len number handle version) = (number ≡ suc s.number) × (t.number ≡ suc s.number)
IsSaid s t (body.Push id bytes rest) = (id.client.0 ≡ s.id) × (id.seq ≡ suc s.number) × (t.number ≡ suc s.number)
IsSaid s t (body.Mutate id handle version target deadline) = (id.client.0 ≡ s.id) × (t.number ≡ s.number) × (waited_data s.current ≡ Some id.seq) × (waited_data t.current ≡ None)
IsSaid s t (body.Name number deadline asked) = (number ≤ t.call_count) × (t.number ≡ s.number)
IsSaid s t (body.Look number asked) = (number ≤ t.call_count) × (t.number ≡ s.number)
IsSaid s t other = ⊥

-- What a step or a call made of a client that began it in state s.
pub record IsStepOf (s : ClientState) (d : ClientDoing) : Type 0 where
  pub id : d.client.id ≡ s.id
  pub up : d.client.up ≡ s.up
  pub now : d.client.now ≡ s.now
  pub numbers : s.number ≤ d.client.number
  pub calls : s.call_count ≤ d.client.call_count
  pub descriptors : s.fd_count ≤ d.client.fd_count
  pub says : (m : Message) → d.sent ≡ Some m → (m.sender ≡ the_client s.id) × IsSaid s d.client m.body
  -- the data for which it waits are new, or it waited for them before and sent nothing
  pub waits : (n : ℕ) → waited_data d.client.current ≡ Some n → ((n ≡ suc s.number) × (d.client.number ≡ suc s.number)) ⊎ ((waited_data s.current ≡ Some n) × (d.sent ≡ None))
  pub named : (c : CurrentCall) → d.client.current ≡ Some c → c.number ≤ d.client.call_count

-- a call in hand, before anything is sent
abbrev pub IsInHand : ClientState → ClientDoing → CurrentCall → Type 0
IsInHand s d c =
    (d.client.id ≡ s.id) × (d.client.up ≡ s.up) × (d.client.now ≡ s.now) × (d.client.number ≡ s.number) × (s.call_count ≤ d.client.call_count) × (d.client.fd_count ≡ s.fd_count) × (d.sent ≡ None) × (c.number ≤ d.client.call_count)

module _ (s : ClientState) where
  sent_none : {A : Type 0} (d : ClientDoing) (m : Message) → d.sent ≡ None → d.sent ≡ Some m → A
  sent_none d m none is = none_some m (sym none ∙ is)

  waits_none : {A : Type 0} (n : ℕ) → None ≡ Some n → A
  waits_none n is = none_some n is

  idle_data : (st : Stage) → IsIdle st → data_number st ≡ None
  idle_data (HasAnswer reply) is = refl
  idle_data MustAskAgain is = refl
  idle_data IsOver is = refl
  idle_data AskedNames is = absurd is
  idle_data (AskedWhere number) is = absurd is
  idle_data (SentData chunk primary number) is = absurd is
  idle_data (SentMutate chunk number) is = absurd is
  idle_data (SentRead chunk left number) is = absurd is

  -- nothing is sent, and no data are waited for
  rests : (d : ClientDoing) → waited_data d.client.current ≡ None → ((e : CurrentCall) → d.client.current ≡ Some e → e.number ≤ d.client.call_count) → s.fd_count ≤ d.client.fd_count
      → (d.client.id ≡ s.id) × (d.client.up ≡ s.up) × (d.client.now ≡ s.now) × (d.client.number ≡ s.number) × (s.call_count ≤ d.client.call_count) × (d.sent ≡ None) → IsStepOf s d
  rests d none named fds h =
      record {
        id = h.0;
        up = h.1;
        now = h.2;
        numbers = (let same = h.3 in omega (arith, same));
        calls = h.4;
        descriptors = fds;
        says = λ m is. sent_none d m h.5 is;
        waits = λ n is. waits_none n (sym none ∙ is);
        named = named;
      }

  -- one message is sent under the next number
  asks_new : (d : ClientDoing) (c e : CurrentCall) (b : Body) (receiver : Node) → IsInHand s d c → e.number ≡ c.number → (waited_data (Some e) ≡ None) ⊎ (waited_data (Some e) ≡ Some (suc d.client.number))
      → ((t : ClientState) → t.number ≡ suc s.number → IsSaid s t b)
      → IsStepOf s (record d { client = record d.client { number = suc d.client.number; current = Some e }; sent = Some (message (the_client d.client.id) receiver b) })
  asks_new d c e b receiver h same after said =
      record {
        id = h.0;
        up = h.1;
        now = h.2;
        numbers = (let is = h.3 in omega (arith, is));
        calls = h.4;
        descriptors = (let is = h.5 in omega (arith, is));
        says = λ m is. subst (λ (x : Message). (x.sender ≡ the_client s.id) × IsSaid s (record d.client { number = suc d.client.number; current = Some e }) x.body) (same_some (message (the_client d.client.id) receiver b) m is)
            (ap (λ (n : ℕ). the_client n) h.0, said (record d.client { number = suc d.client.number; current = Some e }) (ap (λ (n : ℕ). suc n) h.3));
        waits = λ n is. elim (after) [
          | inl none ↦ waits_none n (sym none ∙ is)
          | inr some ↦ let one : suc d.client.number ≡ n = same_some (suc d.client.number) n (sym some ∙ is) in inl (sym one ∙ ap (λ (k : ℕ). suc k) h.3, ap (λ (k : ℕ). suc k) h.3)
        ];
        named = λ x is. subst (λ (y : CurrentCall). y.number ≤ d.client.call_count) (same_some e x is) (let few = h.7 in omega (arith, few, same));
      }

  numbers_kept : (Came : Body → Type 0) → ((c : CurrentCall) → s.current ≡ Some c → c.number ≤ s.call_count) → KeepsClient s Came (IsInHand s) (IsInHand s) (λ d c l. Unit {0}) (λ d c chunk left. Unit {0}) (IsStepOf s)
  numbers_kept Came named =
      record {
        changes = λ d c e same h. (h.0, h.1, h.2, h.3, h.4, h.5, h.6, subst (λ (n : ℕ). n ≤ d.client.call_count) (sym same.0) h.7);
        name_changes = λ d c e same h. (h.0, h.1, h.2, h.3, h.4, h.5, h.6, subst (λ (n : ℕ). n ≤ d.client.call_count) (sym same.0) h.7);
        begins = λ d c e same end h. (h.0, h.1, h.2, h.3, h.4, h.5, h.6, subst (λ (n : ℕ). n ≤ d.client.call_count) (sym same.0) h.7);
        drops = λ d c chunk h. h;
        notes = λ d c index h. h;
        looks = λ d c index h. h;
        finds = λ d c index e end is h. tt;
        hears = λ c number l now at came h. (h, tt);
        holders = λ d c l fit. tt;
        left = λ c chunk rest number now at fresh h. tt;
        answered = λ d c reply h. rests (answers d reply) refl (λ e is. none_some e is) (let same = h.5 in omega (arith, same)) (h.0, h.1, h.2, h.3, h.4, h.6);
        name_answered = λ d c reply h. rests (answers d reply) refl (λ e is. none_some e is) (let same = h.5 in omega (arith, same)) (h.0, h.1, h.2, h.3, h.4, h.6);
        opened = λ c number file shape now at came h. rests (opens (client_begins s) file.0 shape) refl (λ e is. none_some e is) (omega arith) (h.0, h.1, h.2, h.3, h.4, h.6);
        waits = λ d c idle h. rests (with_current d c) (idle_data c.stage idle) (λ e is. subst (λ (x : CurrentCall). x.number ≤ d.client.call_count) (same_some c e is) h.7) (let same = h.5 in omega (arith, same)) (h.0, h.1, h.2, h.3, h.4, h.6);
        waits_again = λ d c h. rests (committed d c (again_planned d.client)) refl (λ e is. subst (λ (x : CurrentCall). x.number ≤ d.client.call_count) (same_some _ e is) h.7) (let same = h.5 in omega (arith, same)) (h.0, h.1, h.2, h.3, h.4, refl);
        asking = λ d c h. asks_new d c (record c { lost_lease = false; stage = AskedWhere (suc d.client.number) }) (body.Ask (suc d.client.number) c.file (wanted_by c.index c.asked) c.deadline c.lost_lease) Master h refl (inl refl) (λ t is. (ap (λ (n : ℕ). suc n) h.3, is));
        reads = λ d c chunk x rest r h. reads_new d c chunk x rest h;
        pushes = λ d c l g first is hop fit h. asks_new d c (record c { stage = SentData (chunk_of l) g.primary (suc d.client.number) }) (body.Push (data_id d.client.id (suc d.client.number)) (bytes_to_send (file_chunk d.client c.file.0) c.index c.asked) (hops_after g.members first.0)) (the_server first.0) h refl (inr refl) (λ t is. (h.0, ap (λ (n : ℕ). suc n) h.3, is));
        mutates = λ c chunk primary number now at fresh h. record {
          id = refl;
          up = refl;
          now = refl;
          numbers = omega arith;
          calls = omega arith;
          descriptors = omega arith;
          says = λ m is. subst (λ (x : Message). (x.sender ≡ the_client s.id) × IsSaid s (committed (client_begins s) c (mutate_planned s c chunk primary number)).client x.body) (same_some _ m is) (refl, (refl, refl, ap waited_data now ∙ ap data_number at, refl));
          waits = λ n is. waits_none n is;
          named = λ e is. subst (λ (x : CurrentCall). x.number ≤ s.call_count) (same_some _ e is) h.7;
        };
        naming = λ d c end h. names_now d c h;
      }
    where
      reads_new : (d : ClientDoing) (c : CurrentCall) (chunk : ToldChunk) (x : Holder) (rest : List Holder) → IsInHand s d c → IsStepOf s (committed d c (read_planned d.client c chunk x rest))
      reads_new d c chunk x rest h =
          let read : Body = body.Read (suc d.client.number) chunk.handle x.version (read_start (file_chunk d.client c.file.0) c.index c.asked) (read_count (file_chunk d.client c.file.0) c.index c.asked) in
          asks_new d c (record c { stage = SentRead chunk rest (suc d.client.number) }) (read_body d.client c chunk x) (the_server x.server.0) h refl (inl refl)
          (λ t is. on_cond (λ (b : Body). IsSaid s t b) (is_length c.asked) (body.Len (suc d.client.number) chunk.handle x.version) read (λ _. (ap (λ (n : ℕ). suc n) h.3, is)) (λ _. (ap (λ (n : ℕ). suc n) h.3, is)))

      names_now : (d : ClientDoing) (c : CurrentCall) → IsInHand s d c → IsStepOf s (committed d c (name_planned d.client c))
      names_now d c h =
          record {
            id = h.0;
            up = h.1;
            now = h.2;
            numbers = (let same = h.3 in omega (arith, same));
            calls = h.4;
            descriptors = (let same = h.5 in omega (arith, same));
            says = λ m is. subst (λ (x : Message). (x.sender ≡ the_client s.id) × IsSaid s (committed d c (name_planned d.client c)).client x.body) (same_some _ m is)
                (ap (λ (n : ℕ). the_client n) h.0, on_cond (λ (b : Body). IsSaid s (committed d c (name_planned d.client c)).client b) (is_look c.asked) (body.Look c.number c.asked) (body.Name c.number c.deadline c.asked) (λ _. (h.7, h.3)) (λ _. (h.7, h.3)));
            waits = λ n is. waits_none n is;
            named = λ e is. subst (λ (x : CurrentCall). x.number ≤ d.client.call_count) (same_some _ e is) h.7;
          }

  at_stage : (c : CurrentCall) (st : Stage) → IsInHand s (client_begins s) c → HoldsAt s (IsInHand s) (IsInHand s) c st
  at_stage c AskedNames h = h
  at_stage c (AskedWhere number) h = h
  at_stage c MustAskAgain h = h
  at_stage c (SentData chunk primary number) h = h
  at_stage c (SentMutate chunk number) h = h
  at_stage c (SentRead chunk left number) h = h
  at_stage c IsOver h = h
  at_stage c (HasAnswer reply) h = h

  -- nothing happened
  begun : ((c : CurrentCall) → s.current ≡ Some c → c.number ≤ s.call_count) → IsStepOf s (client_begins s)
  begun named =
      record {
        id = refl;
        up = refl;
        now = refl;
        numbers = omega arith;
        calls = omega arith;
        descriptors = omega arith;
        says = λ m is. none_some m is;
        waits = λ n is. inr (is, refl);
        named = named;
      }

all_came : (i : NodeInput) → IsCameIn (λ b. Unit {0}) i
all_came (input.Deliver m) = tt
all_came input.Tick = tt

pub goes_numbered : (s : ClientState) (moment : ℕ) (i : NodeInput) → ((c : CurrentCall) → s.current ≡ Some c → c.number ≤ s.call_count) → IsStepOf (client_at s moment) (client_goes s moment i)
goes_numbered s moment i named =
    let at : ClientState = client_at s moment in
    step_kept at (λ b. Unit {0}) (IsInHand at) (IsInHand at) (λ d c l. Unit {0}) (λ d c chunk left. Unit {0}) (IsStepOf at) (numbers_kept at (λ b. Unit {0}) named) i s.current refl (all_came i)
    (λ c is. at_stage at c c.stage (refl, refl, refl, refl, omega arith, refl, refl, named c is)) (begun at named)

pub call_numbered : (s : ClientState) (moment : ℕ) (c : Call) → ((c : CurrentCall) → s.current ≡ Some c → c.number ≤ s.call_count) → IsStepOf (client_at s moment) (client_call_goes s moment c)
call_numbered s moment c named =
    let at : ClientState = client_at s moment in
    call_kept at (λ b. Unit {0}) (IsInHand at) (IsInHand at) (λ d c l. Unit {0}) (λ d c chunk left. Unit {0}) (IsStepOf at) (numbers_kept at (λ b. Unit {0}) named)
    (record {
      replies = λ reply. rests at (answers (client_begins at) reply) refl (λ e is. none_some e is) (omega arith) (refl, refl, refl, refl, omega arith, refl);
      closes = λ fd file is. rests at (answers (closed at fd file) answer.Done) refl (λ e is. none_some e is) (omega arith) (refl, refl, refl, refl, omega arith, refl);
      named = λ x. (refl, refl, refl, refl, omega arith, refl, refl, omega arith);
      filed = λ x file index last is. (refl, refl, refl, refl, omega arith, refl, refl, omega arith);
    }) c (begun at named)

-- What a step or a call leaves of a client and sends: as its handling came to, nothing of one that is put down, or all as it was.
pub of_step : (P : ClientState → List Message → Type 0) (s : ClientState) (moment : ℕ) (i : NodeInput) (choice : Choice) → ((c : CurrentCall) → s.current ≡ Some c → c.number ≤ s.call_count)
    → ((d : ClientDoing) → IsStepOf (client_at s moment) d → P d.client (option_to_list d.sent)) → P (stopped_client s) [] → P s [] → P (client_step s moment i choice).state (client_step s moment i choice).out.sent
of_step P s moment i choice named goes stops same =
    on_cond (λ (t : Taken ClientState). P t.state t.out.sent) (may_step s) (client_ends s (client_goes s moment i) choice.ending) (no_step s) (λ _. by_ending choice.ending) (λ _. same)
  where
    by_ending : (e : Ending) → P (client_ends s (client_goes s moment i) e).state (client_ends s (client_goes s moment i) e).out.sent
    by_ending Goes = goes (client_goes s moment i) (goes_numbered s moment i named)
    by_ending Lost = stops
    by_ending (Stops made) = stops

pub of_call : (P : ClientState → List Message → Type 0) (s : ClientState) (moment : ℕ) (c : Call) (choice : Choice) → ((c : CurrentCall) → s.current ≡ Some c → c.number ≤ s.call_count)
    → ((d : ClientDoing) → IsStepOf (client_at s moment) d → P d.client (option_to_list d.sent)) → P (stopped_client s) [] → P (client_call s moment c choice).state (client_call s moment c choice).out.sent
of_call P s moment c choice named goes stops =
    on_cond (λ (t : Taken ClientState). P t.state t.out.sent) (first_is_true choice.refused) (client_ends s refused choice.ending) (client_ends s (client_call_goes s moment c) choice.ending)
    (λ _. by_ending refused (rests at refused refl (λ e is. none_some e is) (omega arith) (refl, refl, refl, refl, omega arith, refl)) choice.ending)
    (λ _. by_ending (client_call_goes s moment c) (call_numbered s moment c named) choice.ending)
  where
    at : ClientState
    at = client_at s moment

    refused : ClientDoing
    refused = answers (client_begins (client_at s moment)) (answer.Refused NoMemory)

    by_ending : (d : ClientDoing) → IsStepOf (client_at s moment) d → (e : Ending) → P (client_ends s d e).state (client_ends s d e).out.sent
    by_ending d h Goes = goes d h
    by_ending d h Lost = stops
    by_ending d h (Stops made) = stops
