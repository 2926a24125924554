-- In each world that is reached, each number under which ChunkFull was told is used up, and its entries are pads.
use Rattle.std.proofs.Common.{IsTrue, ◌≡◌, ℕ, zero, suc, ◌+◌, true, false, true≢false, List, [], ◌∷◌, ◌++◌, length, map, Option, Some, None, refl, sym, ap, subst, ◌∙◌, inl, inr}
use Rattle.std.specs.Prelude.{nat_le}
use Rattle.std.specs.Option.{option_to_list}
use Rattle.std.specs.FinMap as table
use Rattle.gfs_types.specs.declared.config.Config.{Config}
use Rattle.gfs_types.specs.declared.ids.Node.{Node}
use Rattle.gfs_types.specs.declared.ids.DataId.{DataId}
use Rattle.gfs_types.specs.declared.ids.Handle.{Handle}
use Rattle.gfs_types.specs.declared.ids.Version.{Version}
use Rattle.gfs_types.specs.declared.ids.Moment.{Moment}
use Rattle.gfs_types.specs.declared.mutation.Mutation.{Mutation}
use Rattle.gfs_types.specs.declared.mutation.Mutation.TheVariants as mutation
use Rattle.gfs_types.specs.declared.refusal.Refusal.TheVariants.{ChunkFull, Corrupt}
use Rattle.gfs_types.specs.Mutations.{start_of, end_of}
use Rattle.messages.specs.declared.event.Event.{Event}
use Rattle.messages.specs.declared.event.NodeInput.{NodeInput}
use Rattle.messages.specs.declared.event.NodeInput.TheVariants as input
use Rattle.messages.specs.declared.message.Body.{Body}
use Rattle.messages.specs.declared.message.Body.TheVariants as body
use Rattle.messages.specs.declared.message.Message.{Message}
use Rattle.messages.specs.declared.message.Target.{Target}
use Rattle.replica_store.specs.Replicas.{new_server_disk, is_writable_at}
use Rattle.laws_base.proofs.Rots.{rot_leases}
use Rattle.primary_order.specs.declared.answer.Settled.{Settled}
use Rattle.primary_order.specs.declared.kept.Standing.TheVariants.{IsPending, IsRefused}
use Rattle.primary_order.specs.PrimaryOrder.{place_of}
use Rattle.primary_order.specs.SerialOrder.{SerialOrder, IsNew, attempted, denied, numbered, settled, acknowledged}
use Rattle.gfs_types.specs.Counters.{counter_limit}
use Rattle.protocol.specs.Tables.{element_at, with_at, without, first_numbers}
use Rattle.protocol.specs.Sending.{data_id, handle_of, version_of, serial_of, the_client}
use Rattle.protocol.specs.Choice.{Choice, Ending, Goes, Lost, Stops}
use Rattle.protocol.specs.Seen.{is_numbering, Taken, no_step}
use Rattle.protocol.specs.declared.seen.Seen.{Seen}
use Rattle.protocol.specs.declared.seen.Seen.TheVariants.{Numbered, BecameSettled}
use Rattle.protocol.specs.Observer.{Placed, order_of, placed_in}
use Rattle.protocol.specs.Client.{ClientState, ClientDoing}
use Rattle.protocol.specs.ClientStep.{client_at, client_step, client_call}
use Rattle.protocol.specs.Server.{ServerState, ServerDoing, started_server, server_begins, chunk_limit, stores, shows, with_primary, takes_data, drops_corrupt, primary_of}
use Rattle.protocol.specs.ServerWrites.{refuses_attempt, answers_settled, forwards, settles, change_of, stored_as, primary_applies, places, mutates_under}
use Rattle.protocol.specs.ServerStep.{server_at, server_takes, server_goes, server_ends, server_step, server_restart}
use Rattle.protocol.specs.MasterStep.{master_step, master_restart}
use Rattle.protocol.specs.World.{WorldState, Happened, new_world, stamped, after_master, after_server, after_client, happens, after_events, IsReached, after_rot}
use Rattle.laws_base.proofs.Steps.{on_cond, none_some, same_some}
use Rattle.laws_base.proofs.Entries.{AllOf, all_joined, all_filtered}
use Rattle.laws_base.proofs.RisingOrders.{set_cases}
use Rattle.laws_base.proofs.MembersRecorded.{kept_place, all_at}
use Rattle.laws_base.proofs.Events.{with_call, with_rot, rot_of, HoldsAfter, holds_after}
use Rattle.laws_base.proofs.ClientNumbers.{IsSaid, IsStepOf, of_step, of_call}
use Rattle.laws_base.proofs.RequestsOnce.{AreNumbered, each_event, numbered_reached, later_cases}
use Rattle.laws_base.proofs.MasterTalks.{is_masters, MasterTalks, master_said, restart_said}
use Rattle.laws_base.proofs.LeasesStayOver.{reached_later}
use Rattle.laws_base.specs.Entries.{IsAmong}
use Rattle.laws_base.proofs.Stemming.{came_in, numbered_mutations_were_asked_for}
use Rattle.laws_base.proofs.KnownNumbers.{primary_there}
use Rattle.laws_base.proofs.Placing.{all_placed, AreAll}
use Rattle.laws_base.proofs.NewCopies.{IsNotFull, step_tells, restart_tells}
use Rattle.laws_base.proofs.OrderWalk.{AreFit, put_fit}
use Rattle.laws_base.proofs.SpentVersions.{IsSpent, none_fit, each_spent, first_spent, places_fit}
use Rattle.laws_base.specs.FullChunks.{IsPad, FullNumbersHavePadsAlone}
use Rattle.laws_base.proofs.FullOrders.{IsCaused, Causes, right_on, caused_on}
use Rattle.laws_base.proofs.FullAnswers.{AreRight, IsFullEnd, step_leaves, none_right, restart_leaves}
use Rattle.laws_base.proofs.OwnMutates.{IsOwn, mutates_are_own}
use Rattle.laws_base.proofs.Beside.{three_after, each_among, Of, Shows, shown_of, each_of}
use Rattle.laws_base.proofs.UsedNumbers.{Knows, knows_keeps, own_kept, IsUsed, entries_are_used, used_not_new}

-- a number that is used up, and has no entry but pads
pub record IsFull (w : WorldState) (id : DataId) : Type 0 where
  pub used : IsUsed w id
  pub pads : AreAll (Of id.client.0 id.seq IsPad) w.observer.orders

-- one that is used up gets no entry any more

none_numbered : (config : Config) (servers clients : ℕ) (w : WorldState) → IsReached config servers clients w → (id : DataId) → IsUsed w id
    → (index moment : ℕ) (s : ServerState) (i : NodeInput) (choice : Choice) → element_at w.servers index ≡ Some s → ((m : Message) → i ≡ input.Deliver m → IsAmong w.sent m) → AllOf (Shows id.client.0 id.seq IsPad) (server_step s moment i choice).seen
none_numbered config servers clients w r id used index moment s i choice at came = all_placed (Shows id.client.0 id.seq IsPad) (server_step s moment i choice).seen one
  where
    one : (place : ℕ) (x : Seen) → element_at (server_step s moment i choice).seen place ≡ Some x → Shows id.client.0 id.seq IsPad x
    one place (Numbered handle version serial other m) seen = λ client seq.
        let same : other ≡ id = ap (λ (n : ℕ). data_id n other.seq) client ∙ ap (λ (n : ℕ). data_id id.client.0 n) seq in
        let law = numbered_mutations_were_asked_for config servers clients w r index s at moment i choice came place handle version serial other m seen in
        let asked = law.2 in
        absurd
        (used_not_new config servers clients w r other (subst (λ (x : DataId). IsUsed w x) (sym same) used) index moment s at handle version
        (record { asked = law.0; aim = asked.aim; deadline = asked.deadline; sent_is = came law.0 law.1; sender_is = asked.sender_is; body_is = asked.body_is }) asked.lease asked.lease_is asked.new)
    one place other seen = tt

-- what is so stays so
module _ (config : Config) (servers clients : ℕ) (w : WorldState) (r : IsReached config servers clients w) (id : DataId) (h : IsFull w id) where
  abbrev Parts : Event → Happened → Type 0
  Parts e x = IsAmong x.world.sent h.used.asks.asked × IsSpent (Knows id) h.used.handle.0 h.used.version.0 x.world × AreAll (Of id.client.0 id.seq IsPad) x.world.observer.orders

  parts_after : HoldsAfter w Parts
  parts_after =
      three_after w (λ e x. IsAmong x.world.sent h.used.asks.asked) (λ e x. IsSpent (Knows id) h.used.handle.0 h.used.version.0 x.world) (λ e x. AreAll (Of id.client.0 id.seq IsPad) x.world.observer.orders)
      (each_among w h.used.asks.asked h.used.asks.sent_is) (each_spent (Knows id) (knows_keeps id) config servers clients h.used.handle.0 h.used.version.0 w r h.used.spent)
      (each_of id.client.0 id.seq IsPad w h.pads (none_numbered config servers clients w r id h.used))

  whole : (u : WorldState) → IsAmong u.sent h.used.asks.asked × IsSpent (Knows id) h.used.handle.0 h.used.version.0 u × AreAll (Of id.client.0 id.seq IsPad) u.observer.orders → IsFull u id
  whole u parts =
      record {
        used = record {
          handle = h.used.handle;
          version = h.used.version;
          asks = record { asked = h.used.asks.asked; aim = h.used.asks.aim; deadline = h.used.asks.deadline; sent_is = parts.0; sender_is = h.used.asks.sender_is; body_is = h.used.asks.body_is };
          spent = parts.1;
        };
        pads = parts.2;
      }

  each_full : HoldsAfter w (λ e x. IsFull x.world id)
  each_full =
      record {
        nothing = λ e. whole _ (parts_after.nothing e);
        masters = λ e moment i choice is up. whole _ (parts_after.masters e moment i choice is up);
        opens = λ e moment choice. whole _ (parts_after.opens e moment choice);
        serves = λ e index moment t i choice at is up. whole _ (parts_after.serves e index moment t i choice at is up);
        restarts = λ e index moment t choice at. whole _ (parts_after.restarts e index moment t choice at);
        steps = λ e index moment t i choice at is up. whole _ (parts_after.steps e index moment t i choice at is up);
        calls = λ e index moment t c choice at may. whole _ (parts_after.calls e index moment t c choice at may);
        rots = λ e index handle t d place byte ending is_kept at there up. whole _ (parts_after.rots e index handle t d place byte ending is_kept at there up);
      }

-- a new attempt that is refused since the chunk is full, or is a pad

module _ (S : Seen → Type 0) (quiet : (handle version serial : ℕ) → S (BecameSettled (handle_of handle) (version_of version) (serial_of serial))) where
  abbrev AreShown : ServerDoing → Type 0
  AreShown d = AllOf S d.seen

  answers_shown : (d : ServerDoing) (id : DataId) (place : Option ℕ) → AreShown d → AreShown (answers_settled d id place)
  answers_shown d id None h = h
  answers_shown d id (Some place) h = h

  settles_shown : (d : ServerDoing) (handle version serial : ℕ) (o : Option Settled) → AreShown d → AreShown (settles d handle version serial o)
  settles_shown d handle version serial None h = h
  settles_shown d handle version serial (Some x) h =
      let seen : Seen = BecameSettled (handle_of handle) (version_of version) (serial_of serial) in
      answers_shown (shows d seen) (record { client = x.client; seq = x.seq }) x.place (all_joined S d.seen (seen ∷ []) h (quiet handle version serial, tt))

  places_shown : (d : ServerDoing) (handle : ℕ) (p : SerialOrder) (id : DataId) (m : Mutation) → AreShown d → S (Numbered (handle_of handle) (version_of p.held.version) (serial_of (p.serial + 1)) id m) → AreShown (places d handle p id m)
  places_shown d handle p id m h one =
      on_cond AreShown (nat_le counter_limit p.serial) d _ (λ _. h)
      (λ _. on_cond AreShown (is_writable_at d.server.disk handle (start_of m) (end_of m)) (primary_applies taken handle p id m) (refuses_attempt (drops_corrupt taken handle) id Corrupt)
      (λ _. settles_shown (with_primary forwarded handle (acknowledged new d.server.id (p.serial + 1))) handle p.held.version (p.serial + 1) (settled new d.server.id (p.serial + 1)) more) (λ _. more))
    where
      new : SerialOrder
      new = numbered p id.client id.seq (place_of m)

      taken : ServerDoing
      taken = shows (takes_data (with_primary d handle (numbered p id.client id.seq (place_of m))) id) (Numbered (handle_of handle) (version_of p.held.version) (serial_of (p.serial + 1)) id m)

      forwarded : ServerDoing
      forwarded = forwards (stores taken (stored_as handle (p.serial + 1) m)) (without p.held.members d.server.id) handle p.held.version (p.serial + 1) id p.chunk (change_of m)

      more : AllOf S (d.seen ++ Numbered (handle_of handle) (version_of p.held.version) (serial_of (p.serial + 1)) id m ∷ [])
      more = all_joined S d.seen (Numbered (handle_of handle) (version_of p.held.version) (serial_of (p.serial + 1)) id m ∷ []) h (one, tt)

module _ (id : DataId) (handle : ℕ) (p : SerialOrder) where
  -- what the server did: its leases of that version know the number, and it numbered nothing but a pad of it
  abbrev IsDone : ServerDoing → Type 0
  IsDone d = ((version : ℕ) → AreFit (Knows id) handle version d.server.leases) × AllOf (Shows id.client.0 id.seq IsPad) d.seen

  end_done : (d x : ServerDoing) → d.seen ≡ [] → IsFullEnd d handle p id x → IsDone x
  end_done d x none end =
      elim (end) [
        | inl denied_ ↦ subst IsDone (sym denied_) (λ version. put_fit (Knows id) (knows_keeps id) handle version d.server.leases (denied p id.client id.seq ChunkFull) (own_kept id p (IsRefused ChunkFull)), all_none)
        | inr placed ↦
            subst IsDone (sym placed.1) (
              λ version. places_fit (Knows id) (knows_keeps id) handle version id p (λ o. own_kept id p IsPending) d (mutation.Pad placed.0 (chunk_limit d.server p.chunk)) placed.2,
              places_shown (Shows id.client.0 id.seq IsPad) (λ q v n. tt) d handle p id (mutation.Pad placed.0 (chunk_limit d.server p.chunk)) all_none (λ client seq. tt),
            )
      ]
    where
      all_none : AllOf (Shows id.client.0 id.seq IsPad) d.seen
      all_none = subst (λ (xs : List Seen). AllOf (Shows id.client.0 id.seq IsPad) xs) (sym none) tt

  abbrev Leaves : Taken ServerState → Type 0
  Leaves t = ((version : ℕ) → AreFit (Knows id) handle version t.state.leases) × AllOf (Shows id.client.0 id.seq IsPad) t.seen

  ends_done : (s : ServerState) (d : ServerDoing) (choice : Choice) (e : Ending) → IsDone d → Leaves (server_ends s d choice e)
  ends_done s d choice Goes h = h
  ends_done s d choice Lost h = (λ version. none_fit (Knows id) handle version, tt)
  ends_done s d choice (Stops made) h = (λ version. none_fit (Knows id) handle version, all_filtered (Shows id.client.0 id.seq IsPad) is_numbering d.seen h.1)

  step_done : (s : ServerState) (moment : ℕ) (i : NodeInput) (choice : Choice) → IsTrue s.up → IsDone (server_goes s moment i) → Leaves (server_step s moment i choice)
  step_done s moment i choice up h =
      on_cond Leaves s.up (server_ends s (server_goes s moment i) choice choice.ending) (no_step s) (λ _. ends_done s (server_goes s moment i) choice choice.ending h) (λ down. absurd (true≢false (sym up ∙ down)))

new_full : (config : Config) (servers clients : ℕ) (w : WorldState) → IsReached config servers clients w → (index moment : ℕ) (s : ServerState) (i : NodeInput) (choice : Choice) → element_at w.servers index ≡ Some s → IsTrue s.up
    → ((m : Message) → i ≡ input.Deliver m → IsAmong w.sent m)
    → (m : Message) (id : DataId) (handle : Handle) (version : Version) (t : Target) (deadline : Moment) (p : SerialOrder) → i ≡ input.Deliver m → m.body ≡ body.Mutate id handle version t deadline → primary_of (server_at s moment) handle.0 version.0 ≡ Some p
    → attempted p id.client id.seq ≡ IsNew
    → IsFullEnd (server_begins (server_at s moment)) handle.0 p id (mutates_under (server_begins (server_at s moment)) handle.0 id t deadline.0 (primary_of (server_at s moment) handle.0 version.0))
    → IsFull (after_server w index moment (server_step s moment i choice)).world id
new_full config servers clients w r index moment s i choice at up came m id handle version t deadline p is asked primary new end =
    record {
      used = record {
        handle = handle;
        version = version;
        asks = record {
          asked = m;
          aim = t;
          deadline = deadline;
          sent_is = (there.0, kept_place w.sent (stamped (suc (length w.sent)) (server_step s moment i choice).out.sent) there.0 m there.1);
          sender_is = sender;
          body_is = asked;
        };
        spent = first_spent (Knows id) config servers clients w r index moment s i choice at handle.0 version.0 p held.0 held.1 (left.0 version.0);
      };
      pads = shown_of id.client.0 id.seq IsPad w moment (server_step s moment i choice).seen left.1 (λ q. all_placed (λ (e : Placed). e.entry.call.client ≡ id.client.0 → e.seq ≡ id.seq → IsPad e.entry.mutation) (placed_in w.observer.orders q) (no_entry q));
    }
  where
    d : ServerDoing
    d = server_begins (server_at s moment)

    there : IsAmong w.sent m
    there = came m is

    sender : m.sender ≡ the_client id.client.0
    sender = let own = mutates_are_own config servers clients w r there.0 m there.1 in subst (λ (b : Body). IsOwn m.sender b) asked own

    held : (table.get s.leases handle.0 ≡ Some p) × (p.held.version ≡ version.0)
    held = primary_there (server_at s moment) version.0 (table.get s.leases handle.0) p primary

    goes_is : server_goes s moment i ≡ mutates_under d handle.0 id t deadline.0 (primary_of (server_at s moment) handle.0 version.0)
    goes_is = ap (λ (j : NodeInput). server_goes s moment j) is ∙ ap (λ (b : Body). server_takes d m b) asked

    left : Leaves id handle.0 p (server_step s moment i choice)
    left = step_done id handle.0 p s moment i choice up (subst (IsDone id handle.0 p) (sym goes_is) (end_done id handle.0 p d (mutates_under d handle.0 id t deadline.0 (primary_of (server_at s moment) handle.0 version.0)) refl end))

    no_entry : (q place : ℕ) (e : Placed) → element_at (order_of w.observer q) place ≡ Some e → e.entry.call.client ≡ id.client.0 → e.seq ≡ id.seq → IsPad e.entry.mutation
    no_entry q place e here client seq =
        let same : data_id e.entry.call.client e.seq ≡ id = ap (λ (n : ℕ). data_id n e.seq) client ∙ ap (λ (n : ℕ). data_id id.client.0 n) seq in
        absurd
        (used_not_new config servers clients w r id (subst (λ (x : DataId). IsUsed w x) same (entries_are_used config servers clients w r q place e here)) index moment s at handle version
        (record { asked = m; aim = t; deadline = deadline; sent_is = there; sender_is = sender; body_is = asked }) p primary new)

-- worlds

masters_cause : (F : DataId → Type 0) (b : Body) (receiver : Node) → is_masters b ≡ true → IsNotFull b → IsCaused F b receiver
masters_cause F (body.Refused number ChunkFull) receiver is other = absurd other
masters_cause F (body.Nacked handle version serial refusal) receiver is other = absurd (let both : false ≡ true = is in cc)
masters_cause F b receiver is other = tt

clients_cause : (F : DataId → Type 0) (s t : ClientState) (b : Body) (receiver : Node) → IsSaid s t b → IsCaused F b receiver
clients_cause F s t (body.Refused number refusal) receiver said = absurd said
clients_cause F s t (body.Nacked handle version serial refusal) receiver said = absurd said
clients_cause F s t other receiver said = tt

client_causes : (F : DataId → Type 0) (s : ClientState) (d : ClientDoing) (o : Option Message) → IsStepOf s d → d.sent ≡ o → AllOf (Causes F) (option_to_list o)
client_causes F s d None step is = tt
client_causes F s d (Some m) step is = let said = step.says m is in (clients_cause F s d.client m.body m.receiver said.1, tt)

record IsToldTruly (w : WorldState) : Type 0 where
  numbered : AreNumbered w.sent w.clients
  leases : (index : ℕ) (s : ServerState) → element_at w.servers index ≡ Some s → AreRight (IsFull w) s.leases
  told : (place : ℕ) (m : Message) → element_at w.sent place ≡ Some m → Causes (IsFull w) m

more_told : (F : DataId → Type 0) (sent : List Message) (k : ℕ) (ms : List Message) → ((place : ℕ) (m : Message) → element_at sent place ≡ Some m → Causes F m) → AllOf (Causes F) ms
    → (place : ℕ) (m : Message) → element_at (sent ++ stamped k ms) place ≡ Some m → Causes F m
more_told F sent k ms h all place m at =
    elim (later_cases sent k ms place m at) [
      | inl before ↦ h place m before
      | inr new ↦
          subst (λ (n : Node). IsCaused F m.body n) (new.2).1 (subst (λ (b : Body). IsCaused F b (new.0).receiver) (new.2).2 (all_at (Causes F) ms (new.1).0 new.0 all (new.1).1))
    ]

module _ (w : WorldState) (h : IsToldTruly w) (F : DataId → Type 0) (go : (id : DataId) → IsFull w id → F id) where
  told_on : (place : ℕ) (m : Message) → element_at w.sent place ≡ Some m → Causes F m
  told_on place m at = caused_on (IsFull w) F go m.body m.receiver (h.told place m at)

  leases_on : (index : ℕ) (s : ServerState) → element_at w.servers index ≡ Some s → AreRight F s.leases
  leases_on index s at q p there = right_on (IsFull w) F go p (h.leases index s at q p there)

  one_server : (index : ℕ) (t : ServerState) → AreRight F t.leases → (other : ℕ) (u : ServerState) → element_at (with_at w.servers index t) other ≡ Some u → AreRight F u.leases
  one_server index t here other u at =
      elim (set_cases w.servers index t other u at) [
        | inl both ↦ subst (λ (y : ServerState). AreRight F y.leases) (sym both.1) here
        | inr there ↦ leases_on other u there
      ]

all_apply : (F : DataId → Type 0) (ms : List Message) → AllOf (λ m. IsNotFull m.body → Causes F m) ms → AllOf (λ m. IsNotFull m.body) ms → AllOf (Causes F) ms
all_apply F [] all none = tt
all_apply F (m ∷ ms) all none = (all.0 none.0, all_apply F ms all.1 none.1)

talks : (F : DataId → Type 0) → MasterTalks (λ m. IsNotFull m.body → Causes F m)
talks F = record { plain = λ receiver b is other. masters_cause F b receiver is other; locates = λ receiver number l current other. tt }

module _ (config : Config) (servers clients : ℕ) (w : WorldState) (r : IsReached config servers clients w) (h : IsToldTruly w) where
  -- what is full stays full
  abbrev Full : Happened → Type 0
  Full x = (id : DataId) → IsFull w id → IsFull x.world id

  after_masters : (x : Happened) (ms : List Message) → Full x → AllOf (λ m. IsNotFull m.body → Causes (IsFull x.world) m) ms → AllOf (λ m. IsNotFull m.body) ms → (place : ℕ) (m : Message) → element_at (w.sent ++ stamped (suc (length w.sent)) ms) place ≡ Some m
      → Causes (IsFull x.world) m
  after_masters x ms go all none = more_told (IsFull x.world) w.sent (suc (length w.sent)) ms (told_on w h (IsFull x.world) go) (all_apply (IsFull x.world) ms all none)

  served : (index moment : ℕ) (s : ServerState) (i : NodeInput) (choice : Choice) → element_at w.servers index ≡ Some s → IsTrue s.up → ((m : Message) → i ≡ input.Deliver m → IsAmong w.sent m) → Full (after_server w index moment (server_step s moment i choice))
      → AreRight (IsFull (after_server w index moment (server_step s moment i choice)).world) (server_step s moment i choice).state.leases
      × AllOf (Causes (IsFull (after_server w index moment (server_step s moment i choice)).world)) (server_step s moment i choice).out.sent
  served index moment s i choice at up came go =
      step_leaves (IsFull (after_server w index moment (server_step s moment i choice)).world) s moment i choice (new_full config servers clients w r index moment s i choice at up came)
      (λ m q v serial refusal is asked. let there = came m is in subst (λ (b : Body). IsCaused (IsFull w) b m.receiver) asked (h.told there.0 m there.1))
      (leases_on w h (IsFull (after_server w index moment (server_step s moment i choice)).world) go index s at)

  each_sound : HoldsAfter w (λ e x. IsToldTruly x.world)
  each_sound =
      let numbered = each_event w h.numbered in
      let full : (id : DataId) → IsFull w id → HoldsAfter w (λ e x. IsFull x.world id) = each_full config servers clients w r in
      record {
        nothing = λ e. h;
        masters = λ e moment i choice is up.
            let x : Happened = after_master w moment (master_step w.master moment i choice) in
            let go : Full x = λ id f. (full id f).masters e moment i choice is up in
            let ms : List Message = (master_step w.master moment i choice).out.sent in
            record {
              numbered = numbered.masters e moment i choice is up;
              leases = leases_on w h (IsFull x.world) go;
              told = after_masters x ms go (master_said (λ m. IsNotFull m.body → Causes (IsFull x.world) m) (talks (IsFull x.world)) w.master moment i choice) (step_tells w.master moment i choice);
            };
        opens = λ e moment choice.
            let x : Happened = after_master w moment (master_restart w.master moment choice) in
            let go : Full x = λ id f. (full id f).opens e moment choice in
            let ms : List Message = (master_restart w.master moment choice).out.sent in
            record {
              numbered = numbered.opens e moment choice;
              leases = leases_on w h (IsFull x.world) go;
              told = after_masters x ms go (restart_said (λ m. IsNotFull m.body → Causes (IsFull x.world) m) (talks (IsFull x.world)) w.master moment choice) (restart_tells w.master moment choice);
            };
        serves = λ e index moment s i choice at is up.
            let x : Happened = after_server w index moment (server_step s moment i choice) in
            let go : Full x = λ id f. (full id f).serves e index moment s i choice at is up in
            let left = served index moment s i choice at up (came_in w e (suc index) moment i is) go in
            record {
              numbered = numbered.serves e index moment s i choice at is up;
              leases = one_server w h (IsFull x.world) go index (server_step s moment i choice).state left.0;
              told = more_told (IsFull x.world) w.sent (suc (length w.sent)) (server_step s moment i choice).out.sent (told_on w h (IsFull x.world) go) left.1;
            };
        restarts = λ e index moment s choice at.
            let x : Happened = after_server w index moment (server_restart s moment choice) in
            let go : Full x = λ id f. (full id f).restarts e index moment s choice at in
            let left = restart_leaves (IsFull x.world) s moment choice in
            record {
              numbered = numbered.restarts e index moment s choice at;
              leases = one_server w h (IsFull x.world) go index (server_restart s moment choice).state left.0;
              told = more_told (IsFull x.world) w.sent (suc (length w.sent)) (server_restart s moment choice).out.sent (told_on w h (IsFull x.world) go) left.1;
            };
        steps = λ e index moment s i choice at is up.
            let x : Happened = after_client w index moment (client_step s moment i choice) in
            let go : Full x = λ id f. (full id f).steps e index moment s i choice at is up in
            record {
              numbered = numbered.steps e index moment s i choice at is up;
              leases = leases_on w h (IsFull x.world) go;
              told = more_told (IsFull x.world) w.sent (suc (length w.sent)) (client_step s moment i choice).out.sent (told_on w h (IsFull x.world) go)
                  (of_step (λ t ms. AllOf (Causes (IsFull x.world)) ms) s moment i choice ((h.numbered).each index s at).named (λ d step. client_causes (IsFull x.world) (client_at s moment) d d.sent step refl) tt tt);
            };
        calls = λ e index moment s c choice at may.
            let x : Happened = after_client (with_call w index moment c) index moment (client_call s moment c choice) in
            let go : Full x = λ id f. (full id f).calls e index moment s c choice at may in
            record {
              numbered = numbered.calls e index moment s c choice at may;
              leases = leases_on w h (IsFull x.world) go;
              told = more_told (IsFull x.world) w.sent (suc (length w.sent)) (client_call s moment c choice).out.sent (told_on w h (IsFull x.world) go)
                  (of_call (λ t ms. AllOf (Causes (IsFull x.world)) ms) s moment c choice ((h.numbered).each index s at).named (λ d step. client_causes (IsFull x.world) (client_at s moment) d d.sent step refl) tt);
            };
        rots = λ e index handle s d place byte ending is_kept at there up.
            let x : Happened = with_rot w index s (rot_of handle place byte) ending is_kept in
            let go : Full x = λ id f. (full id f).rots e index handle s d place byte ending is_kept at there up in
            record {
              numbered = h.numbered;
              leases = one_server w h (IsFull x.world) go index (after_rot s (rot_of handle place byte) ending)
                  (rot_leases (λ ls. AreRight (IsFull x.world) ls) s (rot_of handle place byte) ending (leases_on w h (IsFull x.world) go index s at) (none_right (IsFull x.world)));
              told = told_on w h (IsFull x.world) go;
            };
      }

-- a list of events

sound_on : (config : Config) (servers clients : ℕ) (w : WorldState) (steps : List (Event × Choice)) → IsReached config servers clients w → IsToldTruly w → IsToldTruly (after_events w steps)
sound_on config servers clients w [] r h = h
sound_on config servers clients w (step ∷ rest) r h =
    sound_on config servers clients (happens w step.0 step.1).world rest (reached_later config servers clients w (step ∷ []) r) (holds_after w (λ e x. IsToldTruly x.world) (each_sound config servers clients w r h) step.0 step.1)

new_servers : (F : DataId → Type 0) (config : Config) (ns : List ℕ) (index : ℕ) (s : ServerState) → element_at (map (λ n. started_server config n (new_server_disk config.chunk config.block config.slots) 0) ns) index ≡ Some s → AreRight F s.leases
new_servers F config [] index s is = none_some s is
new_servers F config (n ∷ ns) zero s is = subst (λ (x : ServerState). AreRight F x.leases) (same_some (started_server config n (new_server_disk config.chunk config.block config.slots) 0) s is) (none_right F)
new_servers F config (n ∷ ns) (suc index) s is = new_servers F config ns index s is

new_sound : (config : Config) (servers clients : ℕ) → IsToldTruly (new_world config servers clients)
new_sound config servers clients =
    record {
      numbered = numbered_reached config servers clients (new_world config servers clients) ([], refl);
      leases = new_servers (IsFull (new_world config servers clients)) config (first_numbers servers);
      told = λ place m none. none_some m none;
    }

pub full_numbers : (config : Config) (servers clients : ℕ) (w : WorldState) → IsReached config servers clients w → (told client number : ℕ) (m : Message) → element_at w.sent told ≡ Some m → m.receiver ≡ the_client client → m.body ≡ body.Refused number ChunkFull
    → IsFull w (data_id client number)
full_numbers config servers clients w r told client number m at receiver is =
    subst (λ (n : Node). IsCaused (IsFull w) (body.Refused number ChunkFull) n) receiver (subst (λ (b : Body). IsCaused (IsFull w) b m.receiver) is (sound.told told m at))
  where
    sound : IsToldTruly w
    sound = subst (λ (u : WorldState). IsToldTruly u) r.1 (sound_on config servers clients (new_world config servers clients) r.0 ([], refl) (new_sound config servers clients))

pub full_numbers_have_pads_alone : FullNumbersHavePadsAlone
full_numbers_have_pads_alone config servers clients w r told client number m at receiver is handle place p here of_client of_number =
    let full = full_numbers config servers clients w r told client number m at receiver is in
    all_at (λ (e : Placed). e.entry.call.client ≡ client → e.seq ≡ number → IsPad e.entry.mutation) (placed_in w.observer.orders handle) place p (full.pads handle) here of_client of_number
