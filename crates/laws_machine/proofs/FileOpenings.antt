-- A client's name calls beside what it has of files.
use Rattle.std.proofs.Common.{◌≡◌, ◌⊎◌, ℕ, suc, ◌+◌, true, false, [], Option, Some, None, refl, sym, ap, subst, ◌∙◌, inl, inr, arith}
use Rattle.std.specs.Prelude.{◌==◌, nat_lt}
use Rattle.std.specs.List.{AllByRecursion}
use Rattle.std.specs.FinMap as table
use Rattle.std.proofs.lemmas.Bool.{eqb-true, true≢false}
use Rattle.gfs_types.specs.declared.shape.Shape.{Shape}
use Rattle.gfs_types.specs.declared.call.Call.{Call}
use Rattle.gfs_types.specs.declared.call.Call.TheVariants as call
use Rattle.gfs_types.specs.declared.answer.Answer.{Answer}
use Rattle.gfs_types.specs.declared.answer.Answer.TheVariants as answer
use Rattle.gfs_types.specs.declared.refusal.Refusal.TheVariants.{NoMemory, Unknown}
use Rattle.messages.specs.declared.event.NodeInput.{NodeInput}
use Rattle.messages.specs.declared.event.NodeInput.TheVariants as input
use Rattle.messages.specs.declared.message.Body.{Body}
use Rattle.messages.specs.declared.message.Body.TheVariants as body
use Rattle.messages.specs.declared.message.Message.{Message}
use Rattle.messages.specs.declared.message.NameReply.{NameReply}
use Rattle.messages.specs.declared.message.NameReply.TheVariants.{Opened, Answered}
use Rattle.relaxed_file.specs.Machine.{Machine, Client, OpenCall, IsOpen, put}
use Rattle.relaxed_file.specs.NameStep.{is_name_call}
use Rattle.relaxed_file.specs.Answers.{descriptors_after, returned}
use Rattle.relaxed_file.specs.Run.{Invoke, Return, ReturnFd, after, asked_now}
use Rattle.relaxed_file.proofs.Tables.{put_same, put_other, put_is, at_some}
use Rattle.client_state.specs.declared.kept.Place.{Place}
use Rattle.client_state.specs.declared.kept.Cached.{Cached}
use Rattle.client_state.specs.declared.kept.OpenFile.{OpenFile}
use Rattle.client_state.specs.declared.call.CurrentCall.{CurrentCall}
use Rattle.client_state.specs.declared.call.Stage.TheVariants.{AskedNames}
use Rattle.protocol.specs.Tables.{Table}
use Rattle.protocol.specs.Client.{ClientState, ClientDoing, client_begins, answers}
use Rattle.protocol.specs.ClientFiles.{opened_again, files_after_open}
use Rattle.protocol.specs.ClientAttempts.{ended, is_last_attempt, attempts_names}
use Rattle.protocol.specs.ClientTakes.{opens, takes_reply, client_takes}
use Rattle.protocol.specs.ClientStep.{calls_names, calls_on, fd_of, ticks_names, client_does, client_at, client_call_goes}
use Rattle.laws_base.proofs.Steps.{on_cond, none_some, same_some, same_or_not, put_there}
use Rattle.laws_base.proofs.Steps as steps
use Rattle.laws_machine.specs.FileClients.{IsOpenedAgain, IsKeptNote, AreOfPlaces, IsCallAlike, AreOpenAsMade, IsFileClient}
use Rattle.laws_machine.specs.FileOpenings.{NameCallsKeepFiles, IsAnsweredAs, TellsAsMade, NameStepsKeepFiles}
use Rattle.laws_machine.specs.ToldShapes.{IsMadeWith}
use Rattle.laws_machine.proofs.ClientCaches.{all_go}
use Rattle.laws_machine.proofs.MachineSteps.{in_client}

name_keeps : (c : Call) (reply : Answer) (ds : ℕ → Option ℕ) → is_name_call c ≡ true → descriptors_after ds c reply ≡ ds
name_keeps (call.Close fd) reply ds name = absurd (true≢false (sym name))
name_keeps other reply ds name = refl

module _ (m : Machine) (client : ℕ) (s : ClientState) (h : IsFileClient m client s) (moment : ℕ) where
  abbrev d0 : ClientDoing
  d0 = client_begins (client_at s moment)

  -- a name call is answered, but for an Open
  pub replied : (o : OpenCall) → IsOpen m client o → is_name_call o.asked.call ≡ true → (reply : Answer) → IsFileClient (after m (Return client reply)) client (answers d0 reply).client
  replied o is name reply =
      at_some (λ n. IsFileClient n client (answers d0 reply).client) (λ (c : OpenCall). returned m client c reply) m (m.clients client).open_call o is (record {
        settings = h.settings;
        fds = now (λ c. s.fd_count ≡ c.fd_count) h.fds;
        descriptors = λ fd. now (λ c. table.get s.descriptors fd ≡ c.descriptors fd) (h.descriptors fd ∙ ap (λ (ds : ℕ → Option ℕ). ds fd) (sym (name_keeps o.asked.call reply (m.clients client).descriptors name)));
        kept = now (λ c. AllByRecursion (IsKeptNote c.notes s.files s.fd_count) s.cache.entries) h.kept;
        places = h.places;
        shapes = h.shapes;
        call = now (λ c. c.open_call ≡ None) refl;
      })
    where
      closed : Client
      closed = record (m.clients client) { open_call = None; descriptors = descriptors_after (m.clients client).descriptors o.asked.call reply }

      now : (P : Client → Type 0) → P closed → P (put client closed m.clients client)
      now P g = subst P (sym (put_same client closed m.clients)) g

  -- a file is opened
  pub opened : (file : ℕ) (shape : Shape) → IsMadeWith m file shape → IsFileClient (after m (ReturnFd client (suc (m.clients client).fd_count) file)) client (opens d0 file shape).client
  opened file shape made =
      record {
        settings = h.settings;
        fds = now (λ c. suc s.fd_count ≡ c.fd_count) (ap (λ (k : ℕ). suc k) h.fds);
        descriptors = λ fd. now (λ c. table.get (table.insert s.descriptors (suc s.fd_count) file) fd ≡ c.descriptors fd) (described fd (same_or_not fd (suc s.fd_count)));
        kept = now (λ c. AllByRecursion (IsKeptNote c.notes (files_after_open s.files file shape (suc s.fd_count)) (suc s.fd_count)) s.cache.entries)
            (all_go (IsKeptNote (m.clients client).notes s.files s.fd_count) (IsKeptNote new.notes (files_after_open s.files file shape (suc s.fd_count)) (suc s.fd_count)) later s.cache.entries h.kept);
        places = h.places;
        shapes = shapes_now;
        call = now (λ c. c.open_call ≡ None) refl;
      }
    where
      fd_is : suc s.fd_count ≡ suc (m.clients client).fd_count
      fd_is = ap (λ (k : ℕ). suc k) h.fds

      new : Client
      new = record (m.clients client) { open_call = None; fd_count = suc (m.clients client).fd_count; descriptors = put (suc (m.clients client).fd_count) (Some file) (m.clients client).descriptors; notes = put file (λ index. None) (m.clients client).notes }

      now : (P : Client → Type 0) → P new → P (put client new m.clients client)
      now P g = subst P (sym (put_same client new m.clients)) g

      described : (fd : ℕ) → (fd ≡ suc s.fd_count) ⊎ (fd ≡ suc s.fd_count → ⊥) → table.get (table.insert s.descriptors (suc s.fd_count) file) fd ≡ put (suc (m.clients client).fd_count) (Some file) (m.clients client).descriptors fd
      described fd (inl same) = put_there s.descriptors (suc s.fd_count) file fd same ∙ sym (put_is (suc (m.clients client).fd_count) (Some file) (m.clients client).descriptors fd (same ∙ fd_is))
      described fd (inr other) =
          steps.put_other s.descriptors (suc s.fd_count) file fd other ∙ h.descriptors fd
          ∙ sym (put_other (suc (m.clients client).fd_count) (Some file) (m.clients client).descriptors fd (λ same. other (same ∙ sym fd_is)))

      row : OpenFile
      row = opened_again (table.get s.files file) shape (suc s.fd_count)

      row_made : (o : Option OpenFile) → table.get s.files file ≡ o → IsMadeWith m file (opened_again o shape (suc s.fd_count)).shape
      row_made None is = made
      row_made (Some f) is = h.shapes file f is

      shapes_now : AreOpenAsMade m (files_after_open s.files file shape (suc s.fd_count))
      shapes_now q f is = elim (same_or_not q file) [
        | inl same ↦
            let here : row ≡ f = same_some row f (sym (put_there s.files file row q same) ∙ is) in
            subst (λ (x : ℕ). IsMadeWith m x f.shape) (sym same) (subst (λ (g : OpenFile). IsMadeWith m file g.shape) here (row_made (table.get s.files file) refl))
        | inr other ↦ h.shapes q f (sym (steps.put_other s.files file row q other) ∙ is)
      ]

      row_last : (o : Option OpenFile) → (opened_again o shape (suc s.fd_count)).last_opened.0 ≡ suc s.fd_count
      row_last None = refl
      row_last (Some f) = refl

      later : (e : Place × Cached) → IsKeptNote (m.clients client).notes s.files s.fd_count e → IsKeptNote new.notes (files_after_open s.files file shape (suc s.fd_count)) (suc s.fd_count) e
      later e k =
          record {
            opened = (let few = k.opened in omega (arith, few));
            place = k.place;
            noted = by_file (same_or_not e.0.file file);
          }
        where
          by_file : (e.0.file ≡ file) ⊎ (e.0.file ≡ file → ⊥)
              → (new.notes e.0.file e.0.index ≡ Some e.1.location.round.0) ⊎ IsOpenedAgain (files_after_open s.files file shape (suc s.fd_count)) e.0.file e.1.opened.0
          by_file (inl same) = inr (λ f is.
              let here : row ≡ f = same_some row f (sym (put_there s.files file row e.0.file same) ∙ is) in
              let last : f.last_opened.0 ≡ suc s.fd_count = ap (λ (g : OpenFile). g.last_opened.0) (sym here) ∙ row_last (table.get s.files file) in
              let few = k.opened in omega (arith, few, last))
          by_file (inr other) = elim k.noted [
            | inl noted ↦ inl (ap (λ (g : ℕ → Option ℕ). g e.0.index) (put_other file (λ index. None) (m.clients client).notes e.0.file other) ∙ noted)
            | inr again ↦ inr (λ f is. again f (sym (steps.put_other s.files file row e.0.file other) ∙ is))
          ]

-- a call on names begins

module _ (m : Machine) (client : ℕ) (s : ClientState) (h : IsFileClient m client s) (moment : ℕ) (c : Call) (name : is_name_call c ≡ true) where
  abbrev o : OpenCall
  o = record { number = suc (m.clients client).call_count; asked = asked_now m client c; has_begun = false; has_locks = false; outcomes = []; offers = []; pieces = []; lengths = [] }

  abbrev called : Client
  called = record (m.clients client) { call_count = suc (m.clients client).call_count; calls = put (suc (m.clients client).call_count) (Some (asked_now m client c)) (m.clients client).calls; open_call = Some o }

  abbrev n : Machine
  n = after m (Invoke client c)

  now : (P : Client → Type 0) → P called → P (n.clients client)
  now = in_client m client called

  -- the client waits for an answer on names
  waits : (t : ClientState) (x : CurrentCall) → t.config ≡ s.config → t.fd_count ≡ s.fd_count → t.descriptors ≡ s.descriptors → t.files ≡ s.files → t.cache ≡ s.cache → t.current ≡ Some x → x.stage ≡ AskedNames → IsFileClient n client t
  waits t x config fds descriptors files cache is stage =
      record {
        settings = config ∙ h.settings;
        fds = fds ∙ now (λ c. s.fd_count ≡ c.fd_count) h.fds;
        descriptors = λ fd. ap (λ (ds : Table ℕ). table.get ds fd) descriptors ∙ now (λ c. table.get s.descriptors fd ≡ c.descriptors fd) (h.descriptors fd);
        kept = subst (λ (fs : Table OpenFile). AllByRecursion (IsKeptNote (n.clients client).notes fs t.fd_count) t.cache.entries) (sym files)
            (subst (λ (k : ℕ). AllByRecursion (IsKeptNote (n.clients client).notes s.files k) t.cache.entries) (sym fds)
            (subst (λ c. AllByRecursion (IsKeptNote (n.clients client).notes s.files s.fd_count) c.entries) (sym cache) (now (λ c. AllByRecursion (IsKeptNote c.notes s.files s.fd_count) s.cache.entries) h.kept)));
        places = subst (λ c. AreOfPlaces c.entries) (sym cache) h.places;
        shapes = subst (λ (fs : Table OpenFile). AreOpenAsMade m fs) (sym files) h.shapes;
        call = subst (λ (q : Option CurrentCall). IsCallAlike n client q) (sym is) (inl stage);
      }

  pub begun : IsFileClient n client (client_call_goes s moment c).client
  begun =
      on_cond (λ (d : ClientDoing). IsFileClient n client d.client) (is_name_call c) (calls_names (client_begins (client_at s moment)) c) (calls_on (client_begins (client_at s moment)) c (table.get s.descriptors (fd_of c)))
      (λ _. waits (calls_names (client_begins (client_at s moment)) c).client _ refl refl refl refl refl refl refl) (λ plain. absurd (true≢false (sym name ∙ plain)))

  pub out_of_memory : IsFileClient (after n (Return client (answer.Refused NoMemory))) client (answers (client_begins (client_at s moment)) (answer.Refused NoMemory)).client
  out_of_memory =
      at_some (λ k. IsFileClient k client (answers (client_begins (client_at s moment)) (answer.Refused NoMemory)).client) (λ (p : OpenCall). returned n client p (answer.Refused NoMemory)) n (n.clients client).open_call o (now (λ c. c.open_call ≡ Some o) refl) (record {
        settings = h.settings;
        fds = both (λ c. s.fd_count ≡ c.fd_count) h.fds;
        descriptors = λ fd. both (λ c. table.get s.descriptors fd ≡ c.descriptors fd) (h.descriptors fd);
        kept = both (λ c. AllByRecursion (IsKeptNote c.notes s.files s.fd_count) s.cache.entries) h.kept;
        places = h.places;
        shapes = h.shapes;
        call = ap (λ (c : Client). c.open_call) (put_same client closed n.clients);
      })
    where
      closed : Client
      closed = record (n.clients client) { open_call = None; descriptors = descriptors_after (n.clients client).descriptors c (answer.Refused NoMemory) }

      both : (P : Client → Type 0) → P (record (m.clients client) { call_count = called.call_count; calls = called.calls; open_call = None }) → P (put client closed n.clients client)
      both P g =
          subst P (sym (put_same client closed n.clients))
          (subst (λ (q : Client). P (record q { open_call = None; descriptors = descriptors_after q.descriptors c (answer.Refused NoMemory) })) (sym (put_same client called m.clients))
          (subst (λ (ds : ℕ → Option ℕ). P (record called { open_call = None; descriptors = ds })) (sym (name_keeps c (answer.Refused NoMemory) (m.clients client).descriptors name)) g))

pub name_calls_keep_files : NameCallsKeepFiles
name_calls_keep_files m client s h none moment c name = (begun m client s h moment c name, out_of_memory m client s h moment c name)

-- a step

module _ (m : Machine) (client : ℕ) (s : ClientState) (x : CurrentCall) (h : IsFileClient m client s) (o : OpenCall) (is_open : IsOpen m client o) (name : is_name_call o.asked.call ≡ true) (moment : ℕ) where
  abbrev begin : ClientDoing
  begin = client_begins (client_at s moment)

  -- the call, as it waits for an answer on names
  abbrev waiting : CurrentCall
  waiting = record x { stage = AskedNames }

  abbrev Ends : NodeInput → ClientDoing → Type 0
  Ends i d = IsAnsweredAs m client x.number i d d.answer

  nothing : (i : NodeInput) → Ends i begin
  nothing i = record { settings = h.settings; fds = h.fds; descriptors = h.descriptors; kept = h.kept; places = h.places; shapes = h.shapes; call = h.call }

  again : (i : NodeInput) (y : CurrentCall) → Ends i (attempts_names begin y)
  again i y = record { settings = h.settings; fds = h.fds; descriptors = h.descriptors; kept = h.kept; places = h.places; shapes = h.shapes; call = inl refl }

  reply_ends : (y : Message) (number : ℕ) (r : NameReply) → TellsAsMade m (input.Deliver y) → x.number ≡ number → y.body ≡ body.Named number r → Ends (input.Deliver y) (takes_reply begin r)
  reply_ends y number (Opened file shape) made same at =
      inr (file, (shape, at ∙ ap (λ (k : ℕ). body.Named k (Opened file shape)) (sym same)), ap (λ (k : ℕ). answer.Fd (record { 0 = suc k })) h.fds, opened m client s h moment file.0 shape (made number file shape at))
  reply_ends y number (Answered reply) made same at = inl (replied m client s h moment o is_open name reply)

  takes_ends : (y : Message) (b : Body) → TellsAsMade m (input.Deliver y) → y.body ≡ b → Ends (input.Deliver y) (client_takes begin waiting b)
  takes_ends y (body.Named number r) made at =
      on_cond (Ends (input.Deliver y)) (x.number == number) (takes_reply begin r) begin (λ same. reply_ends y number r made (eqb-true x.number number same) at) (λ _. nothing (input.Deliver y))
  takes_ends y other made at = nothing (input.Deliver y)

  late_ends : Ends input.Tick (ticks_names begin waiting)
  late_ends =
      on_cond (Ends input.Tick) (nat_lt begin.client.now (x.deadline.0 + begin.client.config.skew_ms)) begin _ (λ _. nothing input.Tick)
      (λ _. on_cond (Ends input.Tick) (is_last_attempt waiting) (answers begin (answer.Refused Unknown)) (attempts_names begin (ended waiting)) (λ _. inl (replied m client s h moment o is_open name (answer.Refused Unknown)))
      (λ _. again input.Tick (ended waiting)))

  pub step_ends : (i : NodeInput) → TellsAsMade m i → Ends i (client_does begin i (Some waiting))
  step_ends (input.Deliver y) made = takes_ends y y.body made refl
  step_ends input.Tick made = late_ends

pub name_steps_keep_files : NameStepsKeepFiles
name_steps_keep_files m client s x h is stage o is_open name moment i made =
    subst (λ (q : Option CurrentCall). IsAnsweredAs m client x.number i (client_does (client_begins (client_at s moment)) i q) (client_does (client_begins (client_at s moment)) i q).answer) (sym is)
    (subst (λ (y : CurrentCall). IsAnsweredAs m client y.number i (client_does (client_begins (client_at s moment)) i (Some y)) (client_does (client_begins (client_at s moment)) i (Some y)).answer) (sym as_waiting)
    (step_ends m client s x h o is_open name moment i made))
  where
    as_waiting : x ≡ record x { stage = AskedNames }
    as_waiting = λ j. record x { stage = stage j }
