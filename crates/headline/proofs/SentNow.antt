-- What a client's step sends: an Ask for the part in hand of its call, a Mutate for the part whose data it pushed, or nothing of this kind. What it waits to have pushed it pushed, for the part in hand.
use Rattle.std.proofs.Common.{◌≡◌, ◌⊎◌, ℕ, zero, suc, false, List, [], ◌∷◌, ◌++◌, length, map, Option, Some, None, refl, sym, ap, subst, ◌∙◌, inl, inr}
use Rattle.std.specs.Prelude.{IsTrue}
use Rattle.std.specs.Option.{option_to_list}
use Rattle.gfs_types.specs.declared.config.Config.{Config}
use Rattle.gfs_types.specs.declared.call.Call.{Call}
use Rattle.gfs_types.specs.declared.ids.DataId.{DataId}
use Rattle.gfs_types.specs.declared.ids.Handle.{Handle}
use Rattle.gfs_types.specs.declared.ids.ServerId.{ServerId}
use Rattle.gfs_types.specs.declared.ids.Version.{Version}
use Rattle.gfs_types.specs.declared.ids.Node.TheVariants.{Master}
use Rattle.messages.specs.declared.event.Event.{Event}
use Rattle.messages.specs.declared.event.NodeInput.{NodeInput}
use Rattle.messages.specs.declared.event.NodeInput.TheVariants as input
use Rattle.messages.specs.declared.message.Body.{Body}
use Rattle.messages.specs.declared.message.Body.TheVariants as body
use Rattle.messages.specs.declared.message.Group.{Group}
use Rattle.messages.specs.declared.message.Holder.{Holder}
use Rattle.messages.specs.declared.message.Message.{Message}
use Rattle.messages.specs.declared.message.Target.{Target}
use Rattle.relaxed_file.specs.NameStep.{is_look}
use Rattle.client_state.specs.declared.call.CurrentCall.{CurrentCall}
use Rattle.client_state.specs.declared.call.ToldChunk.{ToldChunk}
use Rattle.client_state.specs.declared.call.Stage.{Stage}
use Rattle.client_state.specs.declared.call.Stage.TheVariants.{AskedNames, AskedWhere, MustAskAgain, SentData, SentMutate, SentRead, IsOver, HasAnswer}
use Rattle.protocol.specs.Tables.{element_at, with_at, first_numbers}
use Rattle.protocol.specs.Sending.{message, the_client, the_server, data_id}
use Rattle.protocol.specs.Choice.{Choice}
use Rattle.protocol.specs.Client.{ClientState, ClientDoing, new_client, stopped_client, client_begins, committed, answers, file_chunk}
use Rattle.protocol.specs.ClientAttempts.{is_length, bytes_to_send, target_of, wanted_by, asks, again_planned, read_planned, read_body, read_start, read_count, push_planned_to, mutate_planned, name_planned, chunk_of}
use Rattle.protocol.specs.PushBuffer.{hops_after}
use Rattle.protocol.specs.ClientStep.{client_at, client_step, client_call}
use Rattle.protocol.specs.MasterStep.{master_step, master_restart}
use Rattle.protocol.specs.ServerStep.{server_step, server_restart}
use Rattle.protocol.specs.World.{WorldState, new_world, stamped, happens, after_events}
use Rattle.laws_base.proofs.Steps.{on_cond, none_some, same_some}
use Rattle.laws_base.proofs.MessagesSent.{IsSent, IsSameMessage, sent_after}
use Rattle.laws_base.proofs.RisingOrders.{set_cases}
use Rattle.laws_base.proofs.ServerMoves.{IsCameIn}
use Rattle.laws_base.specs.Attempts.{data_number}
use Rattle.laws_base.specs.FileCalls.{IsOfFile}
use Rattle.laws_base.proofs.ClientReads.{stepped, called}
use Rattle.laws_base.proofs.ClientWalk.{IsIdle, KeepsClient, HoldsAt, step_kept, call_kept}
use Rattle.laws_base.proofs.Events.{HoldsAfter, holds_after}
use Rattle.laws_base.proofs.RequestsOnce.{AreNumbered, each_event, numbered_reached}
use Rattle.laws_base.specs.Entries.{IsPushed}
use Rattle.laws_machine.proofs.LaterCalls.{pushed_later, one_message}

-- the client asked now to place the data that it had pushed
pub record IsMutateNow (s : ClientState) (o : Option CurrentCall) (id : DataId) (handle : Handle) (version : Version) (aim : Target) : Type 0 where
  pub before : CurrentCall
  pub chunk : ToldChunk
  pub primary : ServerId
  pub number : ℕ
  pub before_is : s.current ≡ Some before
  pub stage_is : before.stage ≡ SentData chunk primary number
  pub after_is : o ≡ Some (record before { stage = SentMutate chunk number })
  pub id_is : id ≡ data_id s.id number
  pub handle_is : handle ≡ chunk.handle
  pub version_is : version ≡ chunk.round
  pub aim_is : aim ≡ target_of (file_chunk s before.file.0) before.index before.asked

-- what is sent is for the open call, on a file
abbrev pub IsOwn : ClientState → Option CurrentCall → Body → Type 0
IsOwn s o (body.Ask number file what deadline lost) = (c : CurrentCall) × (o ≡ Some c) × IsOfFile c.stage × (file ≡ c.file) × (what ≡ wanted_by c.index c.asked)
IsOwn s o (body.Mutate id handle version aim deadline) = IsMutateNow s o id handle version aim
IsOwn s o other = Unit {0}

-- these data were pushed for the part in hand, as the client has its file open
abbrev IsPushBody : ℕ → ClientState → CurrentCall → ℕ → Message → Type 0
IsPushBody own t c number m = (m.sender ≡ the_client own) × ((rest : List ℕ) × (m.body ≡ body.Push (data_id own number) (bytes_to_send (file_chunk t c.file.0) c.index c.asked) rest))

-- the call is the one from before, and files have the same sizes
abbrev IsSameAsBefore : ClientState → ClientState → CurrentCall → Type 0
IsSameAsBefore s t c = (s.current ≡ Some c) × ((file : ℕ) → file_chunk t file ≡ file_chunk s file)

-- what a step that sends these messages leaves of a client
pub record IsLeft (s t : ClientState) (ms : List Message) : Type 0 where
  pub settings : t.config ≡ s.config
  pub says : (place : ℕ) (m : Message) → element_at ms place ≡ Some m → (m.sender ≡ the_client s.id) × (t.up ≡ s.up) × IsOwn s t.current m.body
  pub pushes : (c : CurrentCall) (chunk : ToldChunk) (primary : ServerId) (number : ℕ) → t.current ≡ Some c → c.stage ≡ SentData chunk primary number
      → IsSameAsBefore s t c ⊎ ((m : Message) × IsSent ms m × IsPushBody s.id t c number m)

-- a step

module _ (s : ClientState) where
  abbrev Hand : ClientDoing → Type 0
  Hand d = (d.client.id ≡ s.id) × (d.client.config ≡ s.config) × (d.client.up ≡ s.up) × (d.sent ≡ None)

  pub record Goes (d : ClientDoing) : Type 0 where
    pub settings : d.client.config ≡ s.config
    pub up : d.client.up ≡ s.up
    pub says : (m : Message) → d.sent ≡ Some m → (m.sender ≡ the_client s.id) × IsOwn s d.client.current m.body
    pub pushes : (c : CurrentCall) (chunk : ToldChunk) (primary : ServerId) (number : ℕ) → d.client.current ≡ Some c → c.stage ≡ SentData chunk primary number
        → IsSameAsBefore s d.client c ⊎ ((m : Message) × (d.sent ≡ Some m) × IsPushBody s.id d.client c number m)

  -- a stage at which nothing is pushed
  unpushed : (o : Option CurrentCall) (e : CurrentCall) → o ≡ Some e → data_number e.stage ≡ None → (c : CurrentCall) (chunk : ToldChunk) (primary : ServerId) (number : ℕ) → o ≡ Some c → c.stage ≡ SentData chunk primary number → ⊥
  unpushed o e is none c chunk primary number there staged =
      none_some number (sym none ∙ ap (λ (x : CurrentCall). data_number x.stage) (same_some e c (sym is ∙ there)) ∙ ap (λ (st : Stage). data_number st) staged)

  silent : (d : ClientDoing) → Hand d → (e : ClientDoing) → e.client.config ≡ d.client.config → e.client.up ≡ d.client.up → e.sent ≡ None
      → ((c : CurrentCall) (chunk : ToldChunk) (primary : ServerId) (number : ℕ) → e.client.current ≡ Some c → c.stage ≡ SentData chunk primary number → ⊥) → Goes e
  silent d h e settings up none nothing =
      record {
        settings = settings ∙ h.1;
        up = up ∙ h.2;
        says = λ m is. none_some m (sym none ∙ is);
        pushes = λ c chunk primary number is staged. absurd (nothing c chunk primary number is staged);
      }

  none_open : (c : CurrentCall) (chunk : ToldChunk) (primary : ServerId) (number : ℕ) → None ≡ Some c → c.stage ≡ SentData chunk primary number → ⊥
  none_open c chunk primary number is staged = none_some c is

  -- one message goes, from this client
  speaks : (d : ClientDoing) → Hand d → (e : ClientDoing) → e.client.config ≡ d.client.config → e.client.up ≡ d.client.up → (m : Message) → e.sent ≡ Some m → m.sender ≡ the_client d.client.id → IsOwn s e.client.current m.body
      → (c : CurrentCall) → e.client.current ≡ Some c → data_number c.stage ≡ None → Goes e
  speaks d h e settings up m is sender own c current none =
      record {
        settings = settings ∙ h.1;
        up = up ∙ h.2;
        says = λ x there. subst (λ (y : Message). (y.sender ≡ the_client s.id) × IsOwn s e.client.current y.body) (same_some m x (sym is ∙ there)) (sender ∙ ap (λ (n : ℕ). the_client n) h.0, own);
        pushes = λ x chunk primary number there staged. absurd (unpushed e.client.current c current none x chunk primary number there staged);
      }

  module _ (d : ClientDoing) (h : Hand d) (c : CurrentCall) (chunk : ToldChunk) (g : Group) (first : ServerId) where
    abbrev Now : CurrentCall
    Now = record c { stage = SentData chunk g.primary (suc d.client.number) }

    abbrev Word : Message
    Word = message (the_client d.client.id) (the_server first.0) (body.Push (data_id d.client.id (suc d.client.number)) (bytes_to_send (file_chunk d.client c.file.0) c.index c.asked) (hops_after g.members first.0))

    number_is : (x : CurrentCall) (told : ToldChunk) (primary : ServerId) (number : ℕ) → Some Now ≡ Some x → x.stage ≡ SentData told primary number → suc d.client.number ≡ number
    number_is x told primary number there staged =
        same_some (suc d.client.number) number (ap (λ (y : CurrentCall). data_number y.stage) (same_some Now x there) ∙ ap (λ (st : Stage). data_number st) staged)

    pushed_now : Goes (committed d c (push_planned_to d.client c chunk g (Some first)))
    pushed_now =
        record {
          settings = h.1;
          up = h.2;
          says = λ x there. subst (λ (y : Message). (y.sender ≡ the_client s.id) × IsOwn s (Some Now) y.body) (same_some Word x there) (ap (λ (n : ℕ). the_client n) h.0, tt);
          pushes = λ x told primary number there staged. inr (
            Word,
            refl,
            (
              ap (λ (n : ℕ). the_client n) h.0,
              (
                hops_after g.members first.0,
                ap (λ (n : ℕ). body.Push (data_id n (suc d.client.number)) (bytes_to_send (file_chunk d.client c.file.0) c.index c.asked) (hops_after g.members first.0)) h.0
                    ∙ ap (λ (n : ℕ). body.Push (data_id s.id n) (bytes_to_send (file_chunk d.client c.file.0) c.index c.asked) (hops_after g.members first.0)) (number_is x told primary number there staged)
                    ∙ ap (λ (y : CurrentCall). body.Push (data_id s.id number) (bytes_to_send (file_chunk d.client y.file.0) y.index y.asked) (hops_after g.members first.0)) (same_some Now x there),
              ),
            ),
          );
        }

  idle_data : (st : Stage) → IsIdle st → data_number st ≡ None
  idle_data (HasAnswer reply) is = refl
  idle_data MustAskAgain is = refl
  idle_data IsOver is = refl
  idle_data AskedNames is = absurd is
  idle_data (AskedWhere number) is = absurd is
  idle_data (SentData chunk primary number) is = absurd is
  idle_data (SentMutate chunk number) is = absurd is
  idle_data (SentRead chunk left number) is = absurd is

  -- what a server is asked is no Ask and no Mutate
  own_read : (o : Option CurrentCall) (t : ClientState) (c : CurrentCall) (chunk : ToldChunk) (h : Holder) → IsOwn s o (read_body t c chunk h)
  own_read o t c chunk h =
      on_cond (λ (b : Body). IsOwn s o b) (is_length c.asked) (body.Len (suc t.number) chunk.handle h.version)
      (body.Read (suc t.number) chunk.handle h.version (read_start (file_chunk t c.file.0) c.index c.asked) (read_count (file_chunk t c.file.0) c.index c.asked)) (λ _. tt) (λ _. tt)

  own_name : (o : Option CurrentCall) (c : CurrentCall) → IsOwn s o (Rattle.std.specs.Prelude.cond (is_look c.asked) (body.Look c.number c.asked) (body.Name c.number c.deadline c.asked))
  own_name o c = on_cond (λ (b : Body). IsOwn s o b) (is_look c.asked) (body.Look c.number c.asked) (body.Name c.number c.deadline c.asked) (λ _. tt) (λ _. tt)

  frame : KeepsClient s (λ b. Unit {0}) (λ d c. Hand d) (λ d c. Hand d) (λ d c l. Unit {0}) (λ d c chunk left. Unit {0}) Goes
  frame =
      record {
        changes = λ d c e same h. h;
        name_changes = λ d c e same h. h;
        begins = λ d c e same end h. h;
        drops = λ d c chunk h. h;
        notes = λ d c index h. h;
        looks = λ d c index h. h;
        finds = λ d c index e end is h. tt;
        hears = λ c number l now at came h. (h, tt);
        holders = λ d c l fit. tt;
        left = λ c chunk rest number now at fresh h. tt;
        answered = λ d c reply h. silent d h (answers d reply) refl refl h.3 none_open;
        name_answered = λ d c reply h. silent d h (answers d reply) refl refl h.3 none_open;
        opened = λ c number file shape now at came h. silent (client_begins s) (refl, refl, refl, refl) _ refl refl refl none_open;
        waits = λ d c idle h. silent d h _ refl refl h.3 (unpushed (Some c) c refl (idle_data c.stage idle));
        waits_again = λ d c h. silent d h (committed d c (again_planned d.client)) refl refl refl (unpushed (Some (record c { stage = MustAskAgain })) (record c { stage = MustAskAgain }) refl refl);
        asking = λ d c h.
            speaks d h (asks d c) refl refl (message (the_client d.client.id) Master (body.Ask (suc d.client.number) c.file (wanted_by c.index c.asked) c.deadline c.lost_lease)) refl refl
            (record c { lost_lease = false; stage = AskedWhere (suc d.client.number) }, refl, tt, refl, refl) (record c { lost_lease = false; stage = AskedWhere (suc d.client.number) }) refl refl;
        reads = λ d c chunk x rest r h.
            speaks d h (committed d c (read_planned d.client c chunk x rest)) refl refl (message (the_client d.client.id) (the_server x.server.0) (read_body d.client c chunk x)) refl refl
            (own_read (Some (record c { stage = SentRead chunk rest (suc d.client.number) })) d.client c chunk x) (record c { stage = SentRead chunk rest (suc d.client.number) }) refl refl;
        pushes = λ d c l g first is hop fit h. pushed_now d h c (chunk_of l) g first;
        mutates = λ c chunk primary number now at fresh h.
            speaks (client_begins s) h (committed (client_begins s) c (mutate_planned s c chunk primary number)) refl refl
            (message (the_client s.id) (the_server primary.0) (body.Mutate (data_id s.id number) chunk.handle chunk.round (target_of (file_chunk s c.file.0) c.index c.asked) c.deadline)) refl refl
            (record { before = c; chunk = chunk; primary = primary; number = number; before_is = now; stage_is = at; after_is = refl; id_is = refl; handle_is = refl; version_is = refl; aim_is = refl })
            (record c { stage = SentMutate chunk number }) refl refl;
        naming = λ d c end h.
            speaks d h (committed d c (name_planned d.client c)) refl refl (message (the_client d.client.id) Master (Rattle.std.specs.Prelude.cond (is_look c.asked) (body.Look c.number c.asked) (body.Name c.number c.deadline c.asked))) refl refl
            (own_name (Some (record c { stage = AskedNames })) c) (record c { stage = AskedNames }) refl refl;
      }

  at_stage : (c : CurrentCall) (st : Stage) → HoldsAt s (λ d c. Hand d) (λ d c. Hand d) c st
  at_stage c AskedNames = (refl, refl, refl, refl)
  at_stage c (AskedWhere number) = (refl, refl, refl, refl)
  at_stage c MustAskAgain = (refl, refl, refl, refl)
  at_stage c (SentData chunk primary number) = (refl, refl, refl, refl)
  at_stage c (SentMutate chunk number) = (refl, refl, refl, refl)
  at_stage c (SentRead chunk left number) = (refl, refl, refl, refl)
  at_stage c IsOver = (refl, refl, refl, refl)
  at_stage c (HasAnswer reply) = (refl, refl, refl, refl)

  begun : Goes (client_begins s)
  begun = record { settings = refl; up = refl; says = λ m is. none_some m is; pushes = λ c chunk primary number is staged. inl (is, λ file. refl) }

  left_by : (d : ClientDoing) → Goes d → IsLeft s d.client (option_to_list d.sent)
  left_by d g =
      record {
        settings = g.settings;
        says = λ place m at. let own = g.says m (one_message d.sent m place at) in (own.0, g.up, own.1);
        pushes = λ c chunk primary number is staged. elim (g.pushes c chunk primary number is staged) [
          | inl before ↦ inl before
          | inr now ↦ inr (now.0, (0, ap (λ (o : Option Message). element_at (option_to_list o) 0) now.1), now.2)
        ];
      }

  stopped : IsLeft s (stopped_client s) []
  stopped = record { settings = refl; says = λ place m at. none_some m at; pushes = λ c chunk primary number is staged. none_some c is }

  same : IsLeft s s []
  same = record { settings = refl; says = λ place m at. none_some m at; pushes = λ c chunk primary number is staged. inl (is, λ file. refl) }

  refused : IsLeft s (record s { current = None }) []
  refused = record { settings = refl; says = λ place m at. none_some m at; pushes = λ c chunk primary number is staged. none_some c is }

all_came : (i : NodeInput) → IsCameIn (λ b. Unit {0}) i
all_came (input.Deliver m) = tt
all_came input.Tick = tt

-- the clock of the client says nothing of this
module _ (s : ClientState) (moment : ℕ) where
  own_from : (o : Option CurrentCall) (b : Body) → IsOwn (client_at s moment) o b → IsOwn s o b
  own_from o (body.Mutate id handle version aim deadline) h =
      record {
        before = h.before;
        chunk = h.chunk;
        primary = h.primary;
        number = h.number;
        before_is = h.before_is;
        stage_is = h.stage_is;
        after_is = h.after_is;
        id_is = h.id_is;
        handle_is = h.handle_is;
        version_is = h.version_is;
        aim_is = h.aim_is;
      }
  own_from o (body.Ask number file what deadline lost) h = h
  own_from o other h = tt

  left_from : (t : ClientState) (ms : List Message) → IsLeft (client_at s moment) t ms → IsLeft s t ms
  left_from t ms h =
      record {
        settings = h.settings;
        says = λ place m at. let said = h.says place m at in (said.0, said.1, own_from t.current m.body said.2);
        pushes = h.pushes;
      }

pub step_left : (s : ClientState) (moment : ℕ) (i : NodeInput) (choice : Choice) → IsLeft s (client_step s moment i choice).state (client_step s moment i choice).out.sent
step_left s moment i choice =
    let at : ClientState = client_at s moment in
    stepped (λ t ms. IsLeft s t ms) s moment i choice
    (left_from s moment _ _ (left_by at _
    (step_kept at (λ b. Unit {0}) (λ d c. Hand at d) (λ d c. Hand at d) (λ d c l. Unit {0}) (λ d c chunk left. Unit {0}) (Goes at) (frame at) i s.current refl (all_came i) (λ c is. at_stage at c c.stage) (begun at))))
    (stopped s) (same s)

pub call_left : (s : ClientState) (moment : ℕ) (c : Call) (choice : Choice) → IsLeft s (client_call s moment c choice).state (client_call s moment c choice).out.sent
call_left s moment c choice =
    let at : ClientState = client_at s moment in
    called (λ t ms. IsLeft s t ms) s moment c choice
    (left_from s moment _ _ (left_by at _
    (call_kept at (λ b. Unit {0}) (λ d c. Hand at d) (λ d c. Hand at d) (λ d c l. Unit {0}) (λ d c chunk left. Unit {0}) (Goes at) (frame at)
    (record {
      replies = λ reply. silent at (client_begins at) (refl, refl, refl, refl) _ refl refl refl (none_open at);
      closes = λ fd file is. silent at (client_begins at) (refl, refl, refl, refl) _ refl refl refl (none_open at);
      named = λ x. (refl, refl, refl, refl);
      filed = λ x file index last is. (refl, refl, refl, refl);
    }) c (begun at))))
    (record { settings = refl; says = λ place m there. none_some m there; pushes = λ x chunk primary number is staged. none_some x is }) (stopped s)

-- worlds: what a client waits to have pushed it pushed

pub record ArePushing (config : Config) (w : WorldState) : Type 0 where
  pub numbered : AreNumbered w.sent w.clients
  pub settings : (index : ℕ) (s : ClientState) → element_at w.clients index ≡ Some s → s.config ≡ config
  pub pushed : (index : ℕ) (s : ClientState) → element_at w.clients index ≡ Some s → (c : CurrentCall) (chunk : ToldChunk) (primary : ServerId) (number : ℕ) → s.current ≡ Some c → c.stage ≡ SentData chunk primary number
      → IsPushed w.sent (data_id (suc index) number) (bytes_to_send (file_chunk s c.file.0) c.index c.asked)

pub stamped_sent : (k : ℕ) (ms : List Message) (m : Message) (place : ℕ) → element_at ms place ≡ Some m → (x : Message) × IsSent (stamped k ms) x × IsSameMessage x m
stamped_sent k [] m place is = none_some m is
stamped_sent k (y ∷ ms) m zero is =
    let same = same_some y m is in (record y { number = k }, (zero, refl), (ap (λ (z : Message). z.sender) same, ap (λ (z : Message). z.receiver) same, ap (λ (z : Message). z.body) same))
stamped_sent k (y ∷ ms) m (suc place) is = let rest = stamped_sent (suc k) ms m place is in (rest.0, (suc (rest.1).0, (rest.1).1), rest.2)

module _ (config : Config) (w : WorldState) (h : ArePushing config w) where
  abbrev K : ℕ
  K = suc (length w.sent)

  one_left : (ms : List Message) (at : ℕ) (s t : ClientState) → element_at w.clients at ≡ Some s → IsLeft s t ms
      → ((index : ℕ) (u : ClientState) → element_at (with_at w.clients at t) index ≡ Some u → u.config ≡ config)
      × ((index : ℕ) (u : ClientState) → element_at (with_at w.clients at t) index ≡ Some u → (c : CurrentCall) (chunk : ToldChunk) (primary : ServerId) (number : ℕ) → u.current ≡ Some c → c.stage ≡ SentData chunk primary number
      → IsPushed (w.sent ++ stamped K ms) (data_id (suc index) number) (bytes_to_send (file_chunk u c.file.0) c.index c.asked))
  one_left ms at s t there left = (
    λ index u is. elim (set_cases w.clients at t index u is) [
      | inl both ↦ subst (λ (x : ClientState). x.config ≡ config) (sym both.1) (left.settings ∙ h.settings at s there)
      | inr before ↦ h.settings index u before
    ],
    λ index u is c chunk primary number current staged. elim (set_cases w.clients at t index u is) [
      | inl both ↦
          subst (λ (n : ℕ). IsPushed (w.sent ++ stamped K ms) (data_id (suc n) number) (bytes_to_send (file_chunk u c.file.0) c.index c.asked)) (sym both.0)
          (subst (λ (x : ClientState). IsPushed (w.sent ++ stamped K ms) (data_id (suc at) number) (bytes_to_send (file_chunk x c.file.0) c.index c.asked)) (sym both.1)
          (own c chunk primary number (subst (λ (x : ClientState). x.current ≡ Some c) both.1 current) staged))
      | inr before ↦ pushed_later w.sent (stamped K ms) (data_id (suc index) number) (bytes_to_send (file_chunk u c.file.0) c.index c.asked) (h.pushed index u before c chunk primary number current staged)
    ],
  )
    where
      id_is : s.id ≡ suc at
      id_is = (h.numbered.each at s there).id

      own : (c : CurrentCall) (chunk : ToldChunk) (primary : ServerId) (number : ℕ) → t.current ≡ Some c → c.stage ≡ SentData chunk primary number → IsPushed (w.sent ++ stamped K ms) (data_id (suc at) number) (bytes_to_send (file_chunk t c.file.0) c.index c.asked)
      own c chunk primary number current staged = elim (left.pushes c chunk primary number current staged) [
        | inl before ↦
            subst (λ (size : ℕ). IsPushed (w.sent ++ stamped K ms) (data_id (suc at) number) (bytes_to_send size c.index c.asked)) (sym (before.1 c.file.0))
            (pushed_later w.sent (stamped K ms) (data_id (suc at) number) (bytes_to_send (file_chunk s c.file.0) c.index c.asked) (h.pushed at s there c chunk primary number before.0 staged))
        | inr now ↦
            let x = stamped_sent K ms now.0 (now.1).0 (now.1).1 in
            record {
              push = x.0;
              rest = ((now.2).1).0;
              sent_is = sent_after w.sent (stamped K ms) x.0 x.1;
              sender_is = (x.2).0 ∙ (now.2).0 ∙ ap (λ (n : ℕ). the_client n) id_is;
              body_is = (x.2).2 ∙ ((now.2).1).1 ∙ ap (λ (n : ℕ). body.Push (data_id n number) (bytes_to_send (file_chunk t c.file.0) c.index c.asked) ((now.2).1).0) id_is;
            }
      ]

  later : (more : List Message) → (index : ℕ) (s : ClientState) → element_at w.clients index ≡ Some s → (c : CurrentCall) (chunk : ToldChunk) (primary : ServerId) (number : ℕ) → s.current ≡ Some c → c.stage ≡ SentData chunk primary number
      → IsPushed (w.sent ++ more) (data_id (suc index) number) (bytes_to_send (file_chunk s c.file.0) c.index c.asked)
  later more index s at c chunk primary number is staged = pushed_later w.sent more (data_id (suc index) number) (bytes_to_send (file_chunk s c.file.0) c.index c.asked) (h.pushed index s at c chunk primary number is staged)

  each_pushing : HoldsAfter w (λ e x. ArePushing config x.world)
  each_pushing =
      let n = each_event w h.numbered in
      record {
        nothing = λ e. h;
        masters = λ e moment i choice is up. record { numbered = n.masters e moment i choice is up; settings = h.settings; pushed = later (stamped K (master_step w.master moment i choice).out.sent) };
        opens = λ e moment choice. record { numbered = n.opens e moment choice; settings = h.settings; pushed = later (stamped K (master_restart w.master moment choice).out.sent) };
        serves = λ e index moment s i choice at is up. record { numbered = n.serves e index moment s i choice at is up; settings = h.settings; pushed = later (stamped K (server_step s moment i choice).out.sent) };
        restarts = λ e index moment s choice at. record { numbered = n.restarts e index moment s choice at; settings = h.settings; pushed = later (stamped K (server_restart s moment choice).out.sent) };
        steps = λ e index moment s i choice at is up.
            let left = one_left (client_step s moment i choice).out.sent index s (client_step s moment i choice).state at (step_left s moment i choice) in
            record { numbered = n.steps e index moment s i choice at is up; settings = left.0; pushed = left.1 };
        calls = λ e index moment s c choice at may.
            let left = one_left (client_call s moment c choice).out.sent index s (client_call s moment c choice).state at (call_left s moment c choice) in
            record { numbered = n.calls e index moment s c choice at may; settings = left.0; pushed = left.1 };
        rots = λ e index handle s d place byte ending is_kept at there up. record { numbered = h.numbered; settings = h.settings; pushed = h.pushed };
      }

pub pushing_on : (config : Config) (w : WorldState) (steps : List (Event × Choice)) → ArePushing config w → ArePushing config (after_events w steps)
pushing_on config w [] h = h
pushing_on config w (step ∷ rest) h = pushing_on config (happens w step.0 step.1).world rest (holds_after w (λ e x. ArePushing config x.world) (each_pushing config w h) step.0 step.1)

new_one : (config : Config) (ns : List ℕ) (index : ℕ) (s : ClientState) → element_at (map (new_client config) ns) index ≡ Some s → (s.config ≡ config) × (s.current ≡ None)
new_one config [] index s is = none_some s is
new_one config (n ∷ ns) zero s is = let same = same_some (new_client config n) s is in (ap (λ (c : ClientState). c.config) (sym same), ap (λ (c : ClientState). c.current) (sym same))
new_one config (n ∷ ns) (suc index) s is = new_one config ns index s is

pub pushing_reached : (config : Config) (servers clients : ℕ) (steps : List (Event × Choice)) → ArePushing config (after_events (new_world config servers clients) steps)
pushing_reached config servers clients steps =
    pushing_on config (new_world config servers clients) steps (record {
      numbered = numbered_reached config servers clients (new_world config servers clients) ([], refl);
      settings = λ index s at. (new_one config (first_numbers clients) index s at).0;
      pushed = λ index s at c chunk primary number is staged. none_some c (sym (new_one config (first_numbers clients) index s at).1 ∙ is);
    })
