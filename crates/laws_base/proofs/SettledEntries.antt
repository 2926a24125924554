-- In each world that is reached, each mutation that a lease or a Done says to be settled has a settled entry in the order of its chunk.
use Rattle.std.proofs.Common.{IsTrue, ◌≡◌, ◌⊎◌, ℕ, zero, suc, ◌+◌, true, false, List, [], ◌∷◌, ◌++◌, length, map, Option, Some, None, refl, sym, ap, subst, ◌∙◌, inl, inr, arith}
use Rattle.std.specs.Prelude.{nat_le, nat_lt}
use Rattle.std.specs.Option.{option_to_list}
use Rattle.std.specs.Ordering.{nat_cmp}
use Rattle.std.specs.FinMap as table
use Rattle.gfs_types.specs.declared.config.Config.{Config}
use Rattle.gfs_types.specs.declared.ids.DataId.{DataId}
use Rattle.gfs_types.specs.declared.ids.Handle.{Handle}
use Rattle.gfs_types.specs.declared.ids.Version.{Version}
use Rattle.gfs_types.specs.declared.ids.Serial.{Serial}
use Rattle.gfs_types.specs.declared.ids.Moment.{Moment}
use Rattle.gfs_types.specs.declared.mutation.Mutation.{Mutation}
use Rattle.gfs_types.specs.declared.mutation.Mutation.TheVariants as mutation
use Rattle.gfs_types.specs.declared.refusal.Refusal.TheVariants.{Late}
use Rattle.messages.specs.declared.event.Event.{Event}
use Rattle.messages.specs.declared.event.NodeInput.{NodeInput}
use Rattle.messages.specs.declared.event.NodeInput.TheVariants as input
use Rattle.messages.specs.declared.message.Body.{Body}
use Rattle.messages.specs.declared.message.Body.TheVariants as body
use Rattle.messages.specs.declared.message.Message.{Message}
use Rattle.messages.specs.declared.message.Target.{Target}
use Rattle.messages.specs.declared.message.Target.TheVariants as target
use Rattle.laws_base.proofs.Rots.{rot_leases}
use Rattle.record_append.specs.declared.placing.Placing.{Placing}
use Rattle.record_append.specs.declared.placing.Placing.TheVariants.{At, Pad, Full, TooLong}
use Rattle.record_append.specs.Placing.{placing}
use Rattle.data_push.specs.Buffers.{data_of}
use Rattle.replica_store.specs.declared.row.Row.{Row}
use Rattle.replica_store.specs.Replicas.{new_server_disk, row_at}
use Rattle.primary_order.specs.PrimaryOrder.{place_of}
use Rattle.primary_order.specs.SerialOrder.{SerialOrder, Attempted, IsNew, attempted, numbered, attempt_of}
use Rattle.gfs_types.specs.Counters.{counter_limit}
use Rattle.protocol.specs.Tables.{Table, element_at, with_at, first_numbers}
use Rattle.protocol.specs.Sending.{data_id, handle_of, version_of, the_client, the_server}
use Rattle.protocol.specs.Choice.{Choice, Ending, Goes, Lost, Stops}
use Rattle.protocol.specs.Seen.{Taken, no_step}
use Rattle.protocol.specs.declared.seen.Seen.{Seen}
use Rattle.protocol.specs.declared.seen.Seen.TheVariants.{Numbered, BecameSettled, CopyStarted}
use Rattle.protocol.specs.Observer.{Placed, order_of, placed_in, observed_moment, orders_after, orders_after_all}
use Rattle.protocol.specs.Client.{ClientState, ClientDoing}
use Rattle.protocol.specs.ClientStep.{client_at, client_step, client_call}
use Rattle.protocol.specs.Server.{ServerState, ServerDoing, started_server, server_begins, chunk_limit, primary_of}
use Rattle.protocol.specs.ServerWrites.{refuses_attempt, places, appends_as, mutates_with, mutates_new, mutates_as, mutates_under}
use Rattle.protocol.specs.ServerStep.{server_at, server_takes, server_goes, server_ends, server_step, server_restarts, server_restart}
use Rattle.protocol.specs.MasterStep.{master_step, master_restart}
use Rattle.protocol.specs.World.{WorldState, Happened, new_world, stamped, after_master, after_server, after_client, happens, after_events, IsReached, after_rot}
use Rattle.laws_base.proofs.Steps.{on_cond, none_some, same_some}
use Rattle.laws_base.proofs.Entries.{AllOf}
use Rattle.laws_base.proofs.RisingOrders.{set_cases}
use Rattle.laws_base.proofs.MembersRecorded.{kept_place, all_at}
use Rattle.laws_base.proofs.Events.{IsGiven, with_call, with_rot, rot_of, HoldsAfter, holds_after}
use Rattle.laws_base.proofs.ClientNumbers.{IsSaid, IsStepOf, of_step, of_call}
use Rattle.laws_base.proofs.RequestsOnce.{AreNumbered, each_event, numbered_reached, later_cases}
use Rattle.laws_base.proofs.MasterTalks.{is_masters, MasterTalks, master_said, restart_said}
use Rattle.laws_base.proofs.LeasesStayOver.{reached_later}
use Rattle.laws_base.specs.Entries.{IsAmong, IsAskedFor}
use Rattle.laws_base.proofs.Stemming.{came_in, numbered_mutations_were_asked_for}
use Rattle.laws_base.proofs.KnownNumbers.{primary_there}
use Rattle.laws_base.proofs.Placing.{all_placed}
use Rattle.laws_base.proofs.OnceShown.{NumbersNone, NumbersOnce, step_once}
use Rattle.laws_base.specs.WaitedRounds.{IsMutateOf, HasAskedFor}
use Rattle.laws_base.proofs.WaitedMutates.{waited_mutates_were_sent}
use Rattle.laws_base.specs.Successes.{IsNumberedAs, IsSettledAs}
use Rattle.laws_base.proofs.RightLeases.{IsCaused, right_on, caused_on}
use Rattle.laws_base.proofs.LeaseAnswers.{Since, AreRight, step_leaves, restart_right, none_right}
use Rattle.laws_base.proofs.OrderWalk.{KeepsOrders, AreFit}
use Rattle.laws_base.proofs.SpentVersions.{IsSpent, none_fit, places_fit, each_spent, first_spent}
use Rattle.laws_base.proofs.SerialsOnce.{HasGiven, given_keeps, given_spent}
use Rattle.laws_base.proofs.UsedNumbers.{Asks, one_target}
use Rattle.laws_base.specs.SettledEntries.{HasSettledEntry, SuccessesHaveEntries, SuccessesAreAtTheirChunk, NotedSuccessesHaveEntries, WaitingMutationsHaveEntries}
use Rattle.laws_base.proofs.SettledSerials.{IsWaiting, IsNewly, IsDue, step_due}
use Rattle.laws_base.proofs.SettledOrders.{IsKept, shown_good, IsNoCopyTo, IsEntryOf, HasEntry, entry_kept, entry_new, IsSettled, AreSettled, GivesNot, settled_kept, settled_new}
use Rattle.laws_base.proofs.KnownEntries.{IsPlacedNow, IsSettledNow, K, known_on, servers_copy}

-- a step in which the server is asked to place a new number, and shows something

module _ (P : SerialOrder → Type 0) (k : KeepsOrders P) (handle version : ℕ) (id : DataId) (p : SerialOrder) (start : (place : Option ℕ) → P (numbered p id.client id.seq place)) where
  abbrev IsNoted : ServerDoing → Type 0
  IsNoted d = (d.seen ≡ []) ⊎ AreFit P handle version d.server.leases

  places_noted : (d : ServerDoing) (m : Mutation) → d.seen ≡ [] → IsNoted (places d handle p id m)
  places_noted d m none =
      on_cond (λ (e : ServerDoing). (nat_le counter_limit p.serial ≡ false → AreFit P handle version e.server.leases) → IsNoted e) (nat_le counter_limit p.serial) d _ (λ _ fit. inl none) (λ room fit. inr (fit room))
      (λ room. places_fit P k handle version id p start d m room)

  appends_noted : (d : ServerDoing) (bytes : List ℕ) (where_ : Placing) → d.seen ≡ [] → IsNoted (appends_as d handle p id bytes where_)
  appends_noted d bytes TooLong none = inl none
  appends_noted d bytes Full none = inl none
  appends_noted d bytes (Pad offset) none = places_noted d (mutation.Pad offset (chunk_limit d.server p.chunk)) none
  appends_noted d bytes (At offset) none = places_noted d (mutation.Append offset bytes) none

  with_noted : (d : ServerDoing) (r : Row) (t : Target) (bytes : List ℕ) → d.seen ≡ [] → IsNoted (mutates_with d handle p r id t bytes)
  with_noted d r (target.Write offset) bytes none =
      on_cond IsNoted (nat_lt (chunk_limit d.server p.chunk) (offset + length bytes)) d (places d handle p id (mutation.Write offset bytes)) (λ _. inl none) (λ _. places_noted d (mutation.Write offset bytes) none)
  with_noted d r target.Append bytes none = appends_noted d bytes (placing r.count (length bytes) (chunk_limit d.server p.chunk)) none

  new_noted : (d : ServerDoing) (t : Target) (o : Option Row) (found : Option (List ℕ)) → d.seen ≡ [] → IsNoted (mutates_new d handle p id t o found)
  new_noted d t None found none = inl none
  new_noted d t (Some r) None none = inl none
  new_noted d t (Some r) (Some bytes) none = with_noted d r t bytes none

  under_noted : (d : ServerDoing) (t : Target) (deadline : ℕ) → attempted p id.client id.seq ≡ IsNew → d.seen ≡ [] → IsNoted (mutates_under d handle id t deadline (Some p))
  under_noted d t deadline new none =
      on_cond IsNoted (nat_le deadline d.server.now) (refuses_attempt d id Late) (mutates_as d handle p id t (attempted p id.client id.seq)) (λ _. inl none)
      (λ _. subst (λ (a : Attempted). IsNoted (mutates_as d handle p id t a)) (sym new) (new_noted d t (row_at d.server.disk handle) (data_of d.server.pushed id) none))

  goes_noted : (s : ServerState) (moment : ℕ) (i : NodeInput) (m : Message) (v : Version) (t : Target) (deadline : Moment) → i ≡ input.Deliver m → m.body ≡ body.Mutate id (handle_of handle) v t deadline
      → primary_of (server_at s moment) handle v.0 ≡ Some p → attempted p id.client id.seq ≡ IsNew → IsNoted (server_goes s moment i)
  goes_noted s moment i m v t deadline is asked primary new =
      let d : ServerDoing = server_begins (server_at s moment) in
      subst (λ (j : NodeInput). IsNoted (server_goes s moment j)) (sym is)
      (subst (λ (b : Body). IsNoted (server_takes d m b)) (sym asked) (subst (λ (o : Option SerialOrder). IsNoted (mutates_under d handle id t deadline.0 o)) (sym primary) (under_noted d t deadline.0 new refl)))

  ends_fit : (s : ServerState) (d : ServerDoing) (choice : Choice) (e : Ending) (place : ℕ) (x : Seen) → element_at (server_ends s d choice e).seen place ≡ Some x → IsNoted d → AreFit P handle version (server_ends s d choice e).state.leases
  ends_fit s d choice Goes place x at noted = elim (noted) [ inl none ↦ none_some x (sym (ap (λ (xs : List Seen). element_at xs place) none) ∙ at) | inr fit ↦ fit ]
  ends_fit s d choice Lost place x at noted = none_fit P handle version
  ends_fit s d choice (Stops made) place x at noted = none_fit P handle version

  step_noted : (s : ServerState) (moment : ℕ) (i : NodeInput) (choice : Choice) (place : ℕ) (x : Seen) → element_at (server_step s moment i choice).seen place ≡ Some x → IsNoted (server_goes s moment i)
      → AreFit P handle version (server_step s moment i choice).state.leases
  step_noted s moment i choice place x at noted =
      on_cond (λ (t : Taken ServerState). element_at t.seen place ≡ Some x → AreFit P handle version t.state.leases) s.up (server_ends s (server_goes s moment i) choice choice.ending) (no_step s)
      (λ _ g. ends_fit s (server_goes s moment i) choice choice.ending place x g noted) (λ _ g. none_some x g) at

-- what a server's step shows

none_given : (version serial handle : ℕ) (x : Seen) → NumbersNone x → GivesNot version serial handle x
none_given version serial handle (Numbered q v n id m) none = absurd none
none_given version serial handle (BecameSettled q v n) none = tt
none_given version serial handle (CopyStarted q copy) none = tt

module _ (config : Config) (servers clients : ℕ) (w : WorldState) (r : IsReached config servers clients w) (e : Event) (index moment : ℕ) (s : ServerState) (i : NodeInput) (choice : Choice) (at : element_at w.servers index ≡ Some s)
    (given : IsGiven w e (the_server (suc index)) moment i) (up : IsTrue s.up) (rights : AreRight (K w) s.leases) where
  came : (m : Message) → i ≡ input.Deliver m → IsAmong w.sent m
  came = came_in w e (suc index) moment i given

  -- what begins to hold of a chunk's order by what is shown
  begins : (handle : ℕ) (Good : List Placed → Type 0) (seen : List Seen) (place : ℕ) (x : Seen) → element_at seen place ≡ Some x
      → ((y : Seen) (ys : List Seen) → seen ≡ y ∷ ys → AllOf (IsKept (observed_moment w.config.skew_ms w.observer moment).trace handle Good) ys)
      → ((os : Table (List Placed)) → Good (placed_in (orders_after (observed_moment w.config.skew_ms w.observer moment).trace os x) handle))
      → Good (placed_in (orders_after_all (observed_moment w.config.skew_ms w.observer moment).trace w.observer.orders seen) handle)
  begins handle Good [] place x is kept new = none_some x is
  begins handle Good (y ∷ ys) place x is kept new = shown_good (observed_moment w.config.skew_ms w.observer moment).trace handle Good w.observer.orders y ys place x is (kept y ys refl) new

  tail_of : (P : Seen → Type 0) (y : Seen) (ys : List Seen) → (server_step s moment i choice).seen ≡ y ∷ ys → AllOf P (server_step s moment i choice).seen → AllOf P ys
  tail_of P y ys is all = (subst (λ (xs : List Seen). AllOf P xs) is all).1

  numbered_now : (place : ℕ) (handle : Handle) (version : Version) (serial : Serial) (id : DataId) (m : Mutation) → element_at (server_step s moment i choice).seen place ≡ Some (Numbered handle version serial id m)
      → IsPlacedNow (after_server w index moment (server_step s moment i choice)).world handle.0 version.0 serial.0 id m
  numbered_now place handle version serial id m seen =
      record {
        has = begins handle.0 (HasEntry version.0 serial.0 id m) (server_step s moment i choice).seen place (Numbered handle version serial id m) seen
            (λ y ys is. tail_of (IsKept (observed_moment w.config.skew_ms w.observer moment).trace handle.0 (HasEntry version.0 serial.0 id m)) y ys is
            (all_placed (IsKept (observed_moment w.config.skew_ms w.observer moment).trace handle.0 (HasEntry version.0 serial.0 id m)) (server_step s moment i choice).seen
            (λ n x here. entry_kept version.0 serial.0 id m (observed_moment w.config.skew_ms w.observer moment).trace handle.0 x (servers_copy config servers clients w r handle.0 moment s i choice n x here))))
            (λ os. entry_new (observed_moment w.config.skew_ms w.observer moment).trace handle version serial id m os);
        spent = given_spent config servers clients w r index moment s i choice handle version serial (record { is = at; came = came; place = place; id = id; placed = m; seen = seen });
        asks = record {
          asked = law.0;
          aim = asked.aim;
          deadline = asked.deadline;
          sent_is = (there.0, kept_place w.sent (stamped (suc (length w.sent)) (server_step s moment i choice).out.sent) there.0 law.0 there.1);
          sender_is = asked.sender_is;
          body_is = asked.body_is;
        };
      }
    where
      law : (x : Message) × (i ≡ input.Deliver x) × IsAskedFor (server_at s moment) w.sent x handle version serial id m
      law = numbered_mutations_were_asked_for config servers clients w r index s at moment i choice came place handle version serial id m seen

      asked : IsAskedFor (server_at s moment) w.sent law.0 handle version serial id m
      asked = law.2

      there : IsAmong w.sent law.0
      there = came law.0 law.1

  given_now : (place handle version serial : ℕ) (x : Seen) → element_at (server_step s moment i choice).seen place ≡ Some x → IsWaiting (server_at s moment) handle version serial ⊎ IsNewly (server_at s moment) i handle version serial
      → IsSpent (HasGiven serial) handle version (after_server w index moment (server_step s moment i choice)).world
  given_now place handle version serial x seen due =
      elim (due) [
        | inl waits ↦
            let known = (rights handle waits.lease waits.there).waits serial waits.waiting waits.waits in
            let now : IsPlacedNow w handle waits.lease.held.version serial (attempt_of waits.waiting) known.placed = known.numbered in
            let before : IsSpent (HasGiven serial) handle waits.lease.held.version w = now.spent in
            (each_spent (HasGiven serial) (given_keeps serial) config servers clients handle version w r (subst (λ (v : ℕ). IsSpent (HasGiven serial) handle v w) waits.version_is before)).serves e index moment s i choice at given up
        | inr new ↦
            let there = primary_there (server_at s moment) new.named.0 (table.get s.leases handle) new.lease new.lease_is in
            let next = new.next in
            first_spent (HasGiven serial) config servers clients w r index moment s i choice at handle version new.lease there.0 new.version_is
            (step_noted (HasGiven serial) (given_keeps serial) handle version new.id new.lease (λ o. omega (arith, next)) s moment i choice place x seen
            (goes_noted (HasGiven serial) (given_keeps serial) handle version new.id new.lease (λ o. omega (arith, next)) s moment i new.asked new.named new.aim new.deadline new.came new.body_is new.lease_is new.new))
      ]

  settled_now : (place : ℕ) (handle : Handle) (version : Version) (serial : Serial) → element_at (server_step s moment i choice).seen place ≡ Some (BecameSettled handle version serial)
      → IsSettledNow (after_server w index moment (server_step s moment i choice)).world handle.0 version.0 serial.0
  settled_now place handle version serial seen =
      record {
        all = begins handle.0 (AreSettled version.0 serial.0) (server_step s moment i choice).seen place (BecameSettled handle version serial) seen
            (λ y ys is.
            let none : AllOf NumbersNone ys = subst NumbersOnce is (step_once s moment i choice) in
            let copies : AllOf (IsNoCopyTo handle.0) ys = tail_of (IsNoCopyTo handle.0) y ys is (all_placed (IsNoCopyTo handle.0) (server_step s moment i choice).seen (λ n x here. servers_copy config servers clients w r handle.0 moment s i choice n x here)) in
            all_placed (IsKept (observed_moment w.config.skew_ms w.observer moment).trace handle.0 (AreSettled version.0 serial.0)) ys
            (λ n x here.
            settled_kept version.0 serial.0 (observed_moment w.config.skew_ms w.observer moment).trace handle.0 x (all_at (IsNoCopyTo handle.0) ys n x copies here)
            (none_given version.0 serial.0 handle.0 x (all_at NumbersNone ys n x none here))))
            (λ os. settled_new (observed_moment w.config.skew_ms w.observer moment).trace handle version serial os);
        spent = given_now place handle.0 version.0 serial.0 (BecameSettled handle version serial) seen
            (all_at (IsDue (server_at s moment) i) (server_step s moment i choice).seen place (BecameSettled handle version serial) (step_due s moment i choice) seen);
      }

  shown_now : (place : ℕ) (y : Seen) → element_at (server_step s moment i choice).seen place ≡ Some y → K (after_server w index moment (server_step s moment i choice)).world y
  shown_now place (Numbered handle version serial id m) seen = numbered_now place handle version serial id m seen
  shown_now place (BecameSettled handle version serial) seen = settled_now place handle version serial seen
  shown_now place (CopyStarted handle copy) seen = tt

  since_known : (y : Seen) → Since (K w) (server_step s moment i choice).seen y → K (after_server w index moment (server_step s moment i choice)).world y
  since_known y since =
      elim (since) [
        | inl before ↦ (known_on config servers clients w r y before).serves e index moment s i choice at given up
        | inr now ↦ shown_now now.0 y now.1
      ]

-- messages that tell no success

masters_cause : (L : Seen → Type 0) (b : Body) → is_masters b ≡ true → IsCaused L b
masters_cause L (body.Done id place) is = absurd (let both : false ≡ true = is in cc)
masters_cause L other is = tt

talks : (L : Seen → Type 0) → MasterTalks (λ m. IsCaused L m.body)
talks L = record { plain = λ receiver b is. masters_cause L b is; locates = λ receiver number l current. tt }

clients_cause : (L : Seen → Type 0) (s t : ClientState) (b : Body) → IsSaid s t b → IsCaused L b
clients_cause L s t (body.Done id place) said = absurd said
clients_cause L s t other said = tt

client_causes : (L : Seen → Type 0) (s : ClientState) (d : ClientDoing) (o : Option Message) → IsStepOf s d → d.sent ≡ o → AllOf (λ m. IsCaused L m.body) (option_to_list o)
client_causes L s d None step is = tt
client_causes L s d (Some m) step is = let said = step.says m is in (clients_cause L s d.client m.body said.1, tt)

restart_silent : (L : Seen → Type 0) (s : ServerState) (moment : ℕ) (choice : Choice) (e : Ending) → AllOf (λ m. IsCaused L m.body) (server_restarts s moment choice e).out.sent
restart_silent L s moment choice Goes = tt
restart_silent L s moment choice Lost = tt
restart_silent L s moment choice (Stops made) = tt

all_on : (P Q : Message → Type 0) → ((m : Message) → P m → Q m) → (ms : List Message) → AllOf P ms → AllOf Q ms
all_on P Q go [] h = tt
all_on P Q go (m ∷ ms) h = (go m h.0, all_on P Q go ms h.1)

-- worlds

pub record IsToldTruly (w : WorldState) : Type 0 where
  pub numbered : AreNumbered w.sent w.clients
  pub leases : (index : ℕ) (s : ServerState) → element_at w.servers index ≡ Some s → AreRight (K w) s.leases
  pub told : (place : ℕ) (m : Message) → element_at w.sent place ≡ Some m → IsCaused (K w) m.body

more_told : (L : Seen → Type 0) (sent : List Message) (k : ℕ) (ms : List Message) → ((place : ℕ) (m : Message) → element_at sent place ≡ Some m → IsCaused L m.body) → AllOf (λ m. IsCaused L m.body) ms
    → (place : ℕ) (m : Message) → element_at (sent ++ stamped k ms) place ≡ Some m → IsCaused L m.body
more_told L sent k ms h all place m at =
    elim (later_cases sent k ms place m at) [
      | inl before ↦ h place m before
      | inr new ↦ subst (λ (b : Body). IsCaused L b) (new.2).2 (all_at (λ (x : Message). IsCaused L x.body) ms (new.1).0 new.0 all (new.1).1)
    ]

module _ (w : WorldState) (h : IsToldTruly w) (L : Seen → Type 0) (go : (y : Seen) → K w y → L y) where
  told_on : (place : ℕ) (m : Message) → element_at w.sent place ≡ Some m → IsCaused L m.body
  told_on place m at = caused_on (K w) L go m.body (h.told place m at)

  leases_on : (index : ℕ) (s : ServerState) → element_at w.servers index ≡ Some s → AreRight L s.leases
  leases_on index s at q p there = right_on (K w) L go q p (h.leases index s at q p there)

  one_server : (index : ℕ) (t : ServerState) → AreRight L t.leases → (other : ℕ) (u : ServerState) → element_at (with_at w.servers index t) other ≡ Some u → AreRight L u.leases
  one_server index t here other u at =
      elim (set_cases w.servers index t other u at) [
        | inl both ↦ subst (λ (y : ServerState). AreRight L y.leases) (sym both.1) here
        | inr there ↦ leases_on other u there
      ]

module _ (config : Config) (servers clients : ℕ) (w : WorldState) (r : IsReached config servers clients w) (h : IsToldTruly w) where
  -- what is known stays known
  abbrev GoesOn : Happened → Type 0
  GoesOn x = (y : Seen) → K w y → K x.world y

  each_sound : HoldsAfter w (λ e x. IsToldTruly x.world)
  each_sound =
      let numbered = each_event w h.numbered in
      let known : (y : Seen) → K w y → HoldsAfter w (λ e x. K x.world y) = known_on config servers clients w r in
      record {
        nothing = λ e. h;
        masters = λ e moment i choice is up.
            let x : Happened = after_master w moment (master_step w.master moment i choice) in
            let go : GoesOn x = λ y f. (known y f).masters e moment i choice is up in
            record {
              numbered = numbered.masters e moment i choice is up;
              leases = leases_on w h (K x.world) go;
              told = more_told (K x.world) w.sent (suc (length w.sent)) (master_step w.master moment i choice).out.sent (told_on w h (K x.world) go)
                  (master_said (λ m. IsCaused (K x.world) m.body) (talks (K x.world)) w.master moment i choice);
            };
        opens = λ e moment choice.
            let x : Happened = after_master w moment (master_restart w.master moment choice) in
            let go : GoesOn x = λ y f. (known y f).opens e moment choice in
            record {
              numbered = numbered.opens e moment choice;
              leases = leases_on w h (K x.world) go;
              told = more_told (K x.world) w.sent (suc (length w.sent)) (master_restart w.master moment choice).out.sent (told_on w h (K x.world) go)
                  (restart_said (λ m. IsCaused (K x.world) m.body) (talks (K x.world)) w.master moment choice);
            };
        serves = λ e index moment s i choice at is up.
            let x : Happened = after_server w index moment (server_step s moment i choice) in
            let go : GoesOn x = λ y f. (known y f).serves e index moment s i choice at is up in
            let left = step_leaves (K w) s moment i choice (h.leases index s at) in
            let since : (y : Seen) → Since (K w) (server_step s moment i choice).seen y → K x.world y = since_known config servers clients w r e index moment s i choice at is up (h.leases index s at) in
            record {
              numbered = numbered.serves e index moment s i choice at is up;
              leases = one_server w h (K x.world) go index (server_step s moment i choice).state (λ q p there. right_on (Since (K w) (server_step s moment i choice).seen) (K x.world) since q p (left.0 q p there));
              told = more_told (K x.world) w.sent (suc (length w.sent)) (server_step s moment i choice).out.sent (told_on w h (K x.world) go)
                  (all_on (λ m. IsCaused (Since (K w) (server_step s moment i choice).seen) m.body) (λ m. IsCaused (K x.world) m.body)
                  (λ m c. caused_on (Since (K w) (server_step s moment i choice).seen) (K x.world) since m.body c) (server_step s moment i choice).out.sent left.1);
            };
        restarts = λ e index moment s choice at.
            let x : Happened = after_server w index moment (server_restart s moment choice) in
            let go : GoesOn x = λ y f. (known y f).restarts e index moment s choice at in
            record {
              numbered = numbered.restarts e index moment s choice at;
              leases = one_server w h (K x.world) go index (server_restart s moment choice).state (restart_right (K x.world) s moment choice);
              told = more_told (K x.world) w.sent (suc (length w.sent)) (server_restart s moment choice).out.sent (told_on w h (K x.world) go) (restart_silent (K x.world) s moment choice choice.ending);
            };
        steps = λ e index moment s i choice at is up.
            let x : Happened = after_client w index moment (client_step s moment i choice) in
            let go : GoesOn x = λ y f. (known y f).steps e index moment s i choice at is up in
            record {
              numbered = numbered.steps e index moment s i choice at is up;
              leases = leases_on w h (K x.world) go;
              told = more_told (K x.world) w.sent (suc (length w.sent)) (client_step s moment i choice).out.sent (told_on w h (K x.world) go)
                  (of_step (λ t ms. AllOf (λ m. IsCaused (K x.world) m.body) ms) s moment i choice ((h.numbered).each index s at).named (λ d step. client_causes (K x.world) (client_at s moment) d d.sent step refl) tt tt);
            };
        calls = λ e index moment s c choice at may.
            let x : Happened = after_client (with_call w index moment c) index moment (client_call s moment c choice) in
            let go : GoesOn x = λ y f. (known y f).calls e index moment s c choice at may in
            record {
              numbered = numbered.calls e index moment s c choice at may;
              leases = leases_on w h (K x.world) go;
              told = more_told (K x.world) w.sent (suc (length w.sent)) (client_call s moment c choice).out.sent (told_on w h (K x.world) go)
                  (of_call (λ t ms. AllOf (λ m. IsCaused (K x.world) m.body) ms) s moment c choice ((h.numbered).each index s at).named (λ d step. client_causes (K x.world) (client_at s moment) d d.sent step refl) tt);
            };
        rots = λ e index handle s d place byte ending is_kept at there up.
            let x : Happened = with_rot w index s (rot_of handle place byte) ending is_kept in
            let go : GoesOn x = λ y f. (known y f).rots e index handle s d place byte ending is_kept at there up in
            record {
              numbered = h.numbered;
              leases = one_server w h (K x.world) go index (after_rot s (rot_of handle place byte) ending)
                  (rot_leases (λ ls. AreRight (K x.world) ls) s (rot_of handle place byte) ending (leases_on w h (K x.world) go index s at) (none_right (K x.world) (K x.world)));
              told = told_on w h (K x.world) go;
            };
      }

sound_on : (config : Config) (servers clients : ℕ) (w : WorldState) (steps : List (Event × Choice)) → IsReached config servers clients w → IsToldTruly w → IsToldTruly (after_events w steps)
sound_on config servers clients w [] r h = h
sound_on config servers clients w (step ∷ rest) r h =
    sound_on config servers clients (happens w step.0 step.1).world rest (reached_later config servers clients w (step ∷ []) r) (holds_after w (λ e x. IsToldTruly x.world) (each_sound config servers clients w r h) step.0 step.1)

new_servers : (L : Seen → Type 0) (config : Config) (ns : List ℕ) (index : ℕ) (s : ServerState) → element_at (map (λ n. started_server config n (new_server_disk config.chunk config.block config.slots) 0) ns) index ≡ Some s → AreRight L s.leases
new_servers L config [] index s is = none_some s is
new_servers L config (n ∷ ns) zero s is = subst (λ (x : ServerState). AreRight L x.leases) (same_some (started_server config n (new_server_disk config.chunk config.block config.slots) 0) s is) (λ q p at. none_some p (sym (table.get-empty nat_cmp q) ∙ at))
new_servers L config (n ∷ ns) (suc index) s is = new_servers L config ns index s is

new_sound : (config : Config) (servers clients : ℕ) → IsToldTruly (new_world config servers clients)
new_sound config servers clients =
    record {
      numbered = numbered_reached config servers clients (new_world config servers clients) ([], refl);
      leases = new_servers (K (new_world config servers clients)) config (first_numbers servers);
      told = λ place m none. none_some m none;
    }

-- the laws

pub sound_reached : (config : Config) (servers clients : ℕ) (w : WorldState) → IsReached config servers clients w → IsToldTruly w
sound_reached config servers clients w r = subst (λ (u : WorldState). IsToldTruly u) r.1 (sound_on config servers clients (new_world config servers clients) r.0 ([], refl) (new_sound config servers clients))

done_settled : (config : Config) (servers clients : ℕ) (w : WorldState) → IsReached config servers clients w → (place : ℕ) (m : Message) → element_at w.sent place ≡ Some m → (id : DataId) (offset : ℕ) → m.body ≡ body.Done id offset → IsSettledAs (K w) id (Some offset)
done_settled config servers clients w r place m at id offset is = subst (λ (b : Body). IsCaused (K w) b) is ((sound_reached config servers clients w r).told place m at)

entry_of : (w : WorldState) (id : DataId) (offset : ℕ) (h : IsSettledAs (K w) id (Some offset)) → HasSettledEntry w.observer h.handle h.version id offset
entry_of w id offset h =
    record {
      place = has.0;
      placed = has.1;
      is = has.2;
      client_is = entry.client;
      seq_is = entry.seq;
      round_is = entry.round;
      place_is = ap place_of entry.mutation ∙ h.numbered.place_is;
      settled = all_at (IsSettled h.version h.serial) (order_of w.observer h.handle) has.0 has.1 done.all has.2 entry.round entry.serial_is;
    }
  where
    now : IsPlacedNow w h.handle h.version h.serial id h.numbered.placed
    now = h.numbered.numbered

    done : IsSettledNow w h.handle h.version h.serial
    done = h.settled

    has : HasEntry h.version h.serial id h.numbered.placed (order_of w.observer h.handle)
    has = now.has

    entry : IsEntryOf h.version h.serial id h.numbered.placed has.1
    entry = has.3

pub successes_have_entries : SuccessesHaveEntries
successes_have_entries config servers clients w r place m at id offset is =
    let h : IsSettledAs (K w) id (Some offset) = done_settled config servers clients w r place m at id offset is in (h.handle, h.version, entry_of w id offset h)

pub successes_are_at_their_chunk : SuccessesAreAtTheirChunk
successes_are_at_their_chunk config servers clients w r place m at id offset is asked handle version aim deadline sent sender body_is =
    subst (λ (n : ℕ). HasSettledEntry w.observer n version.0 id offset) (ap (λ (x : Handle). x.0) same.0) (subst (λ (n : ℕ). HasSettledEntry w.observer h.handle n id offset) (ap (λ (x : Version). x.0) same.1) (entry_of w id offset h))
  where
    h : IsSettledAs (K w) id (Some offset)
    h = done_settled config servers clients w r place m at id offset is

    now : IsPlacedNow w h.handle h.version h.serial id h.numbered.placed
    now = h.numbered.numbered

    same : (handle_of h.handle ≡ handle) × (version_of h.version ≡ version)
    same = one_target config servers clients w r id (handle_of h.handle) handle (version_of h.version) version now.asks (record { asked = asked; aim = aim; deadline = deadline; sent_is = sent; sender_is = sender; body_is = body_is })

pub noted_successes_have_entries : NotedSuccessesHaveEntries
noted_successes_have_entries config servers clients steps index s there chunk number waits place m at id offset is client seq =
    subst (λ (n : ℕ). HasSettledEntry w.observer n chunk.round.0 id offset) (ap (λ (x : Handle). x.0) same.0)
    (subst (λ (n : ℕ). HasSettledEntry w.observer h.handle n id offset) (ap (λ (x : Version). x.0) same.1) (entry_of w id offset h))
  where
    w : WorldState
    w = after_events (new_world config servers clients) steps

    h : IsSettledAs (K w) id (Some offset)
    h = done_settled config servers clients w (steps, refl) place m at id offset is

    now : IsPlacedNow w h.handle h.version h.serial id h.numbered.placed
    now = h.numbered.numbered

    noted : HasAskedFor w.sent (suc index) chunk number
    noted = waited_mutates_were_sent config servers clients steps index s there chunk number waits

    own : IsMutateOf (suc index) chunk number (noted.asked).body
    own = noted.body_is

    same_data : own.id ≡ id
    same_data = ap (λ (n : ℕ). data_id n (own.id).seq) (own.client_is ∙ sym client) ∙ ap (λ (n : ℕ). data_id id.client.0 n) (own.seq_is ∙ sym seq)

    asks : Asks w.sent id chunk.handle chunk.round
    asks =
        record {
          asked = noted.asked;
          aim = own.aim;
          deadline = own.deadline;
          sent_is = (noted.place, noted.sent_is);
          sender_is = noted.sender_is ∙ ap (λ (n : ℕ). the_client n) (sym client);
          body_is = own.is ∙ ap (λ (x : DataId). body.Mutate x chunk.handle chunk.round own.aim own.deadline) same_data;
        }

    same : (handle_of h.handle ≡ chunk.handle) × (version_of h.version ≡ chunk.round)
    same = one_target config servers clients w (steps, refl) id (handle_of h.handle) chunk.handle (version_of h.version) chunk.round now.asks asks

pub waiting_mutations_have_entries : WaitingMutationsHaveEntries
waiting_mutations_have_entries config servers clients w r index s at handle p there serial a waits =
    record {
      place = has.0;
      placed = has.1;
      is = has.2;
      round_is = entry.round;
      serial_is = entry.serial_is;
      client_is = entry.client;
      seq_is = entry.seq;
      place_is = ap place_of entry.mutation ∙ known.place_is;
    }
  where
    known : IsNumberedAs (K w) handle p.held.version serial (attempt_of a) a.place
    known = ((sound_reached config servers clients w r).leases index s at handle p there).waits serial a waits

    now : IsPlacedNow w handle p.held.version serial (attempt_of a) known.placed
    now = known.numbered

    has : HasEntry p.held.version serial (attempt_of a) known.placed (order_of w.observer handle)
    has = now.has

    entry : IsEntryOf p.held.version serial (attempt_of a) known.placed has.1
    entry = has.3
