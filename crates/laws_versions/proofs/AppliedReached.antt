-- What is carried along of the entries that replicas have applied, and of those that Images show: one induction over reached worlds with kept clocks and disks, for whatever each event keeps.
use Rattle.std.proofs.Common.{◌≡◌, ℕ, suc, ◌+◌, ◌≤◌, min, Bool, true, false, List, [], ◌∷◌, ◌++◌, length, Option, Some, None, refl, sym, ap, subst, ◌∙◌, inl, inr}
use Rattle.std.specs.Prelude.{◌&&◌, nat_le, IsTrue}
use Rattle.std.specs.Option.{option_to_list}
use Rattle.std.specs.FinMap as table
use Rattle.std.specs.Ordering.{nat_cmp}
use Rattle.std.specs.Str.{bytes_eq}
use Rattle.std.proofs.lemmas.Bool.{and_parts, true≢false}
use Rattle.gfs_types.specs.declared.call.Call.{Call}
use Rattle.gfs_types.specs.declared.config.Config.{Config}
use Rattle.gfs_types.specs.declared.ids.Handle.{Handle}
use Rattle.gfs_types.specs.declared.ids.Version.{Version}
use Rattle.gfs_types.specs.declared.ids.Serial.{Serial}
use Rattle.gfs_types.specs.declared.ids.Node.TheVariants as node
use Rattle.gfs_types.specs.Mutations.{start_of, end_of}
use Rattle.messages.specs.declared.event.Event.{Event}
use Rattle.messages.specs.declared.event.NodeInput.{NodeInput}
use Rattle.messages.specs.declared.event.NodeInput.TheVariants as input
use Rattle.messages.specs.declared.message.Body.{Body}
use Rattle.messages.specs.declared.message.Body.TheVariants as body
use Rattle.messages.specs.declared.message.Message.{Message}
use Rattle.replica_store.specs.declared.change.StoreChange.{StoreChange}
use Rattle.replica_store.specs.Replicas.{Replica, ServerDisk, new_server_disk, replica_of, rotten_replica, disk_changed_by_all}
use Rattle.protocol.specs.Tables.{Table, element_at, with_at}
use Rattle.protocol.specs.Sending.{the_server, the_client}
use Rattle.protocol.specs.Choice.{Choice, Ending, Goes, Lost, Stops, decided_changes}
use Rattle.protocol.specs.Observer.{Placed, Observer, observed_moment, observed_call, placed_in, order_of}
use Rattle.protocol.specs.StoredBytes.{stored_chunk, with_intact}
use Rattle.protocol.specs.Client.{ClientState, ClientDoing}
use Rattle.protocol.specs.ClientStep.{may_call, client_at, client_step, client_call}
use Rattle.protocol.specs.Server.{ServerState, started_server}
use Rattle.protocol.specs.ServerStep.{found_disk, server_step, server_restarts, server_restart}
use Rattle.protocol.specs.MasterStep.{master_step, master_restart}
use Rattle.protocol.specs.World.{WorldState, new_world, stamped, after_master, after_server, after_client, happens, after_events, IsReached, is_kept, after_rot}
use Rattle.laws_base.proofs.Steps.{none_some, same_some, same_or_not}
use Rattle.laws_base.proofs.Entries.{AllOf}
use Rattle.laws_base.proofs.LeasesTold.{numbered_from}
use Rattle.laws_base.proofs.MembersRecorded.{all_at}
use Rattle.laws_base.proofs.MessagesSent.{IsSent, sent_cases, none_sent, numbered_sent}
use Rattle.laws_base.proofs.Events.{IsGiven, with_call, with_rot, rot_of, known_after, HoldsExactly, holds_exactly}
use Rattle.laws_base.proofs.Lengths.{servers_within, settings_stay}
use Rattle.laws_base.proofs.ClientNumbers.{IsSaid, IsStepOf, of_step, of_call}
use Rattle.laws_base.proofs.RequestsOnce.{numbered_reached}
use Rattle.laws_base.proofs.LeasesStayOver.{reached_later}
use Rattle.laws_base.proofs.MasterTalks.{is_masters, master_said, restart_said}
use Rattle.laws_versions.proofs.Rising.{orders_rise}
use Rattle.laws_base.proofs.Within.{entries_lie_within_the_chunk}
use Rattle.laws_base.proofs.RoundsPassed.{server_shown}
use Rattle.laws_base.proofs.CountedRounds.{set_split, comes_in}
use Rattle.laws_base.proofs.Forwards.{images_are_of_replicas}
use Rattle.laws_versions.proofs.KeptDisks.{none_more, answered_notes, replicas_are_read_as_stored}
use Rattle.laws_versions.proofs.StoredChunks.{own_stored}
use Rattle.laws_versions.specs.CopiedEntries.{Follows}
use Rattle.laws_versions.proofs.OrdersGrow.{IsAny, same_follows, orders_grow}
use Rattle.laws_versions.specs.ReplicaImages.{marked, IsImageOf}
use Rattle.laws_versions.proofs.Images.{Carried, Holds, own_in, AreIn, holds_grown, IsImageSaid, starts_before_end, Carries}
use Rattle.laws_versions.proofs.ImagesReached.{IsGood, IsFound, own_noted, rot_other, rot_same, rot_good, step_done, answered_kept}

-- what is said, in a world, of the entries that a server's replica at a version has applied
abbrev pub AppliedBy : Type 1
AppliedBy = WorldState → ℕ → Carried

-- what is said of those that the Images at a version show
abbrev pub ShownBy : Type 1
ShownBy = WorldState → Carried

pub record AreAppliedIn (J : Carried) (K : ℕ → Carried) (stored : ℕ → ℕ → Replica → List ℕ) (orders : Table (List Placed)) (servers : List ServerState) (sent : List Message) : Type 0 where
  pub each : (index : ℕ) (s : ServerState) → element_at servers index ≡ Some s → IsGood (K index) (stored index) orders s
  pub said : (m : Message) → IsSent sent m → IsImageSaid J orders m.body

abbrev pub AreApplied : ShownBy → AppliedBy → WorldState → Type 0
AreApplied J K w = AreAppliedIn (J w) (K w) (own_in w) w.observer.orders w.servers w.sent

-- what is kept of the replicas of some servers, as they were before, and of the Images that were sent
pub record StaysIn (J L : Carried) (K M : ℕ → Carried) (Other : ℕ → Type 0) (servers : List ServerState) (sent : List Message) : Type 0 where
  pub each : (index : ℕ) (s : ServerState) → element_at servers index ≡ Some s → Other index → (handle : ℕ) (x : Replica) → IsFound s handle x → (ps : List Placed) → K index handle x.version ps → M index handle x.version ps
  pub said : (m : Message) → IsSent sent m → (handle : Handle) (version : Version) (serial : Serial) (bytes : List ℕ) → m.body ≡ body.Image handle version serial bytes → (ps : List Placed) → J handle.0 version.0 ps → L handle.0 version.0 ps

abbrev pub Stays : ShownBy → AppliedBy → (ℕ → Type 0) → WorldState → WorldState → Type 0
Stays J K Other w v = StaysIn (J w) (J v) (K w) (K v) Other w.servers w.sent

abbrev pub Each : ℕ → Type 0
Each index = Unit {0}

abbrev pub Apart : ℕ → ℕ → Type 0
Apart index other = other ≡ index → ⊥

-- what each event keeps that leads from this world to one that is reached, with kept clocks and disks
pub record Keeps (J : ShownBy) (K : AppliedBy) (config : Config) (servers clients : ℕ) (w : WorldState) (Later : WorldState → Type 0) : Type 0 where
  pub carries : (index : ℕ) (s : ServerState) (i : NodeInput) → element_at w.servers index ≡ Some s → IsTrue s.up
      → ((m : Message) → i ≡ input.Deliver m → (place : ℕ) × (element_at w.sent place ≡ Some m) × (m.receiver ≡ the_server (suc index))) → Carries s i (J w) (K w index)
  -- the replicas that a step of a server leaves
  pub served : (e : Event) (index moment : ℕ) (s : ServerState) (i : NodeInput) (choice : Choice) → element_at w.servers index ≡ Some s → IsGiven w e (the_server (suc index)) moment i → IsTrue s.up
      → Later (after_server w index moment (server_step s moment i choice)).world → (handle : ℕ) (x : Replica) → IsFound (server_step s moment i choice).state handle x
      → (bytes : List ℕ) (g : IsImageOf (placed_in (after_server w index moment (server_step s moment i choice)).world.observer.orders handle) x.version x.serial bytes)
      → K w index handle x.version (marked g.marks (placed_in (after_server w index moment (server_step s moment i choice)).world.observer.orders handle))
      → K (after_server w index moment (server_step s moment i choice)).world index handle x.version (marked g.marks (placed_in (after_server w index moment (server_step s moment i choice)).world.observer.orders handle))
  -- an Image that it sends
  pub shown : (e : Event) (index moment : ℕ) (s : ServerState) (i : NodeInput) (choice : Choice) → element_at w.servers index ≡ Some s → IsGiven w e (the_server (suc index)) moment i → IsTrue s.up
      → Later (after_server w index moment (server_step s moment i choice)).world → (m : Message) → IsSent (server_step s moment i choice).out.sent m
      → (handle : Handle) (version : Version) (serial : Serial) (bytes : List ℕ) → m.body ≡ body.Image handle version serial bytes → (x : Replica) → replica_of s.disk handle.0 ≡ Some x → x.version ≡ version.0
      → (ps : List Placed) → K w index handle.0 version.0 ps → J (after_server w index moment (server_step s moment i choice)).world handle.0 version.0 ps
  -- what stays over each kind of event
  pub masters : (e : Event) (moment : ℕ) (i : NodeInput) (choice : Choice) → IsGiven w e node.Master moment i → IsTrue w.master.up
      → Later (after_master w moment (master_step w.master moment i choice)).world → Stays J K Each w (after_master w moment (master_step w.master moment i choice)).world
  pub opens : (e : Event) (moment : ℕ) (choice : Choice) → Later (after_master w moment (master_restart w.master moment choice)).world → Stays J K Each w (after_master w moment (master_restart w.master moment choice)).world
  pub serves : (e : Event) (index moment : ℕ) (s : ServerState) (i : NodeInput) (choice : Choice) → element_at w.servers index ≡ Some s → IsGiven w e (the_server (suc index)) moment i → IsTrue s.up
      → Later (after_server w index moment (server_step s moment i choice)).world → Stays J K (Apart index) w (after_server w index moment (server_step s moment i choice)).world
  pub restarts : (e : Event) (index moment : ℕ) (s : ServerState) (choice : Choice) → element_at w.servers index ≡ Some s
      → Later (after_server w index moment (server_restart s moment choice)).world → Stays J K Each w (after_server w index moment (server_restart s moment choice)).world
  pub steps : (e : Event) (index moment : ℕ) (s : ClientState) (i : NodeInput) (choice : Choice) → element_at w.clients index ≡ Some s → IsGiven w e (the_client (suc index)) moment i → IsTrue s.up
      → Later (after_client w index moment (client_step s moment i choice)).world → Stays J K Each w (after_client w index moment (client_step s moment i choice)).world
  pub calls : (e : Event) (index moment : ℕ) (s : ClientState) (c : Call) (choice : Choice) → element_at w.clients index ≡ Some s → IsTrue (may_call s)
      → Later (after_client (with_call w index moment c) index moment (client_call s moment c choice)).world → Stays J K Each w (after_client (with_call w index moment c) index moment (client_call s moment c choice)).world
  pub rots : (e : Event) (index handle : ℕ) (s : ServerState) (x : Replica) (place byte : ℕ) (ending : Ending) → element_at w.servers index ≡ Some s → replica_of s.disk handle ≡ Some x → IsTrue s.up
      → Later (with_rot w index s (rot_of handle place byte) ending (known_after w index handle s x place byte)).world
      → Stays J K Each w (with_rot w index s (rot_of handle place byte) ending (known_after w index handle s x place byte)).world

abbrev pub IsLater : Config → ℕ → ℕ → WorldState → Type 0
IsLater config servers clients v = IsReached config servers clients v × IsTrue (is_kept v)

-- from orders to others that have grown

good_on : (K M : Carried) (stored now : ℕ → Replica → List ℕ) (from to : Table (List Placed)) (s : ServerState) → ((handle : ℕ) → Follows IsAny (placed_in from handle) (placed_in to handle))
    → ((handle : ℕ) (x : Replica) → IsFound s handle x → now handle x ≡ stored handle x)
    → ((handle : ℕ) (x : Replica) → IsFound s handle x → (ps : List Placed) → K handle x.version ps → M handle x.version ps) → IsGood K stored from s → IsGood M now to s
good_on K M stored now from to s grown same go h =
    record {
      found = λ decided handle x is.
          subst (λ (bs : List ℕ). Holds M (placed_in to handle) handle x.version x.serial bs) (sym (same handle x (decided, is)))
          (let one = holds_grown K (placed_in from handle) (placed_in to handle) handle x.version x.serial (stored handle x) (grown handle) (h.found decided handle x is) in
          (one.0, go handle x (decided, is) (marked one.0.marks (placed_in to handle)) one.1));
      idle = h.idle;
    }

said_on : (J L : Carried) (from to : Table (List Placed)) (b : Body) → ((handle : ℕ) → Follows IsAny (placed_in from handle) (placed_in to handle))
    → ((handle : Handle) (version : Version) (serial : Serial) (bytes : List ℕ) → b ≡ body.Image handle version serial bytes → (ps : List Placed) → J handle.0 version.0 ps → L handle.0 version.0 ps) → IsImageSaid J from b → IsImageSaid L to b
said_on J L from to (body.Image handle version serial bytes) grown go h =
    let one = holds_grown J (placed_in from handle.0) (placed_in to handle.0) handle.0 version.0 serial.0 bytes (grown handle.0) h in
    (one.0, go handle version serial bytes refl (marked one.0.marks (placed_in to handle.0)) one.1)
said_on J L from to other grown go h = tt

-- who says no Image

abbrev IsNoImage : Body → Type 0
IsNoImage (body.Image handle version serial bytes) = ⊥
IsNoImage other = Unit {0}

none_said : (L : Carried) (orders : Table (List Placed)) (b : Body) → IsNoImage b → IsImageSaid L orders b
none_said L orders (body.Image handle version serial bytes) none = absurd none
none_said L orders other none = tt

masters_none : (b : Body) → is_masters b ≡ true → IsNoImage b
masters_none (body.Image handle version serial bytes) is = absurd (let both : false ≡ true = is in cc)
masters_none other is = tt

clients_none : (s t : ClientState) (b : Body) → IsSaid s t b → IsNoImage b
clients_none s t (body.Image handle version serial bytes) said = absurd said
clients_none s t other said = tt

client_none : (s : ClientState) (d : ClientDoing) (o : Option Message) → IsStepOf s d → d.sent ≡ o → AllOf (λ m. IsNoImage m.body) (option_to_list o)
client_none s d None step is = tt
client_none s d (Some m) step is = (clients_none s d.client m.body (step.says m is).1, tt)

restarted_none : (P : Message → Type 0) (s : ServerState) (moment : ℕ) (choice : Choice) (e : Ending) → AllOf P (server_restarts s moment choice e).out.sent
restarted_none P s moment choice Goes = tt
restarted_none P s moment choice Lost = tt
restarted_none P s moment choice (Stops made) = tt

-- a restart finds what was carried
restart_good : (M : Carried) (stored : ℕ → Replica → List ℕ) (orders : Table (List Placed)) (s : ServerState) (moment : ℕ) (choice : Choice) (e : Ending) → IsGood M stored orders s → IsGood M stored orders (server_restarts s moment choice e).state
restart_good M stored orders s moment choice Lost g = record { found = g.found; idle = λ on. absurd (true≢false (sym on)) }
restart_good M stored orders s moment choice (Stops made) g =
    record { found = λ decided. subst (AreIn M stored orders) (sym (none_more (found_disk s choice) decided)) (g.found choice.decided); idle = λ on. refl }
restart_good M stored orders s moment choice Goes g =
    record { found = λ decided. subst (AreIn M stored orders) (sym (none_more (found_disk s choice) decided)) (g.found choice.decided); idle = λ on. refl }

-- what is kept

pub kept_of : (clocks more disks : Bool) → IsTrue ((clocks && more) && disks) → IsTrue (clocks && disks)
kept_of true more disks is = (and_parts (true && more) disks is).1
kept_of false more disks is = absurd (true≢false (sym is))

pub kept_both : (a b : Bool) → IsTrue a → IsTrue b → IsTrue (a && b)
kept_both true b x y = y
kept_both false b x y = absurd (true≢false (sym x))

module _ (J : ShownBy) (K : AppliedBy) (config : Config) (servers clients : ℕ) where
  abbrev Later : WorldState → Type 0
  Later = IsLater config servers clients

  abbrev KeepsOn : WorldState → Type 0
  KeepsOn w = Keeps J K config servers clients w Later

  -- One event. What is said after it is L of Images and M of replicas.
  module _ (w : WorldState) (r : IsReached config servers clients w) (h : AreApplied J K w) where
    was_kept : (moment : ℕ) → IsTrue ((observed_moment w.config.skew_ms w.observer moment).are_clocks_kept && w.observer.are_disks_kept) → IsTrue (is_kept w)
    was_kept moment is = kept_of w.observer.are_clocks_kept (nat_le w.observer.greatest (moment + w.config.skew_ms)) w.observer.are_disks_kept is

    module _ (L : Carried) (M : ℕ → Carried) (Other : ℕ → Type 0) (stays : StaysIn (J w) L (K w) M Other w.servers w.sent) (stored : ℕ → ℕ → Replica → List ℕ)
        (same : (index : ℕ) (s : ServerState) → element_at w.servers index ≡ Some s → Other index → (handle : ℕ) (x : Replica) → IsFound s handle x → stored index handle x ≡ own_in w index handle x)
        (orders : Table (List Placed)) (grown : (handle : ℕ) → Follows IsAny (placed_in w.observer.orders handle) (placed_in orders handle)) where
      stay_good : (index : ℕ) (s : ServerState) → element_at w.servers index ≡ Some s → Other index → IsGood (M index) (stored index) orders s
      stay_good index s at other = good_on (K w index) (M index) (own_in w index) (stored index) w.observer.orders orders s grown (same index s at other) (stays.each index s at other) (h.each index s at)

      stay_said : (m : Message) → IsSent w.sent m → IsImageSaid L orders m.body
      stay_said m there = said_on (J w) L w.observer.orders orders m.body grown (stays.said m there) (h.said m there)

      more_said : (k : ℕ) (ms : List Message) → ((x : Message) → IsSent ms x → IsImageSaid L orders x.body) → (m : Message) → IsSent (w.sent ++ stamped k ms) m → IsImageSaid L orders m.body
      more_said k ms new m there =
          elim (sent_cases w.sent (stamped k ms) m there) [
            | inl old ↦ stay_said m old
            | inr now ↦ let was = numbered_sent k ms now.0 m now.1 in subst (λ (b : Body). IsImageSaid L orders b) (was.2).2 (new was.0 was.1)
          ]

      silent_said : (k : ℕ) (ms : List Message) → AllOf (λ m. IsNoImage m.body) ms → (m : Message) → IsSent (w.sent ++ stamped k ms) m → IsImageSaid L orders m.body
      silent_said k ms none = more_said k ms (λ x there. none_said L orders x.body (all_at (λ (m : Message). IsNoImage m.body) ms there.0 x none there.1))

      -- one server is another
      one_good : (index : ℕ) (t : ServerState) → ((other : ℕ) → Apart index other → Other other) → IsGood (M index) (stored index) orders t → (other : ℕ) (u : ServerState) → element_at (with_at w.servers index t) other ≡ Some u
          → IsGood (M other) (stored other) orders u
      one_good index t apart new other u there =
          elim (set_split w.servers index t other u there) [
            | inl both ↦ subst (λ (n : ℕ). IsGood (M n) (stored n) orders u) (sym both.0) (subst (λ (x : ServerState). IsGood (M index) (stored index) orders x) (sym both.1) new)
            | inr old ↦ stay_good other u old.1 (apart other old.0)
          ]

    -- a step of a server
    module _ (kept : IsTrue (is_kept w)) (keeps : KeepsOn w) (e : Event) (index moment : ℕ) (s : ServerState) (i : NodeInput) (choice : Choice) (at : element_at w.servers index ≡ Some s) (given : IsGiven w e (the_server (suc index)) moment i) (up : IsTrue s.up) where
      abbrev v : WorldState
      v = (after_server w index moment (server_step s moment i choice)).world

      abbrev t : ServerState
      t = (server_step s moment i choice).state

      abbrev ms : List Message
      ms = (server_step s moment i choice).out.sent

      grown_on : (handle : ℕ) → Follows IsAny (placed_in w.observer.orders handle) (placed_in v.observer.orders handle)
      grown_on = (orders_grow config servers clients w r).serves e index moment s i choice at given up

      own_block : s.disk.block ≡ w.config.block
      own_block = (servers_within config servers clients w r index s at).block ∙ sym (ap (λ (c : Config). c.block) (settings_stay config servers clients w r))

      came : (m : Message) → i ≡ input.Deliver m → (place : ℕ) × (element_at w.sent place ≡ Some m) × (m.receiver ≡ the_server (suc index))
      came = comes_in w e (suc index) moment i given

      both_kept : IsTrue w.observer.are_clocks_kept × IsTrue w.observer.are_disks_kept
      both_kept = and_parts w.observer.are_clocks_kept w.observer.are_disks_kept kept

      module _ (later : Later v) where
        entry_within : (handle place : ℕ) (p : Placed) → element_at (order_of v.observer handle) place ≡ Some p → start_of p.entry.mutation ≤ end_of p.entry.mutation
        entry_within handle place p there =
            let lies = entries_lie_within_the_chunk config servers clients later.0.0 handle place p (ap (λ (u : WorldState). element_at (order_of u.observer handle) place) later.0.1 ∙ there) in
            starts_before_end (min lies.1 config.chunk) p.entry.mutation lies.3

        -- as much is stored
        as_much : (n q : ℕ) (x : Replica) → own_in v n q x ≡ own_in w n q x
        as_much n q x = own_noted w v refl refl n q x

        stepped : IsGood (K w index) (own_in w index) v.observer.orders t
        stepped =
            step_done (J w) (K w index) config servers clients w r both_kept.0 both_kept.1 h.said index moment s i choice at up ((h.each index s at).found []) ((h.each index s at).idle up) (λ m same. let sent = came m same in (sent.0, sent.1))
            (keeps.carries index s i at up came)
            (record {
              of = server_shown s moment i choice;
              rising = λ handle. orders_rise config servers clients v later.0 (and_parts (observed_moment w.config.skew_ms w.observer moment).are_clocks_kept w.observer.are_disks_kept later.1).0 handle;
              within = λ handle place p p_there. entry_within handle place p p_there;
            })

        here : IsGood (K v index) (own_in v index) v.observer.orders t
        here =
            record {
              found = λ decided handle x is.
                  subst (λ (bs : List ℕ). Holds (K v index) (placed_in v.observer.orders handle) handle x.version x.serial bs) (sym (as_much index handle x))
                  (let one = stepped.found decided handle x is in (one.0, keeps.served e index moment s i choice at given up later handle x (decided, is) (own_in w index handle x) one.0 one.1));
              idle = stepped.idle;
            }

        says : (m : Message) → IsSent (server_step s moment i choice).out.sent m → (b : Body) → m.body ≡ b → IsImageSaid (J v) v.observer.orders b
        says m there (body.Image handle version serial bytes) is =
            let of = images_are_of_replicas s moment i choice there.0 m there.1 handle version serial bytes is in
            let same : bytes ≡ own_in w index handle.0 of.0 = (replicas_are_read_as_stored config servers clients w r both_kept.1 index s at handle.0 of.0 of.1).0 bytes of.4 ∙ ap (λ (n : ℕ). own_stored n w.observer index handle.0 of.0) own_block in
            let was : Holds (K w index) (placed_in w.observer.orders handle.0) handle.0 version.0 serial.0 bytes =
            subst (λ (n : ℕ). Holds (K w index) (placed_in w.observer.orders handle.0) handle.0 n serial.0 bytes) of.2
            (subst (λ (n : ℕ). Holds (K w index) (placed_in w.observer.orders handle.0) handle.0 of.0.version n bytes) of.3
            (subst (λ (bs : List ℕ). Holds (K w index) (placed_in w.observer.orders handle.0) handle.0 of.0.version of.0.serial bs) (sym same) ((h.each index s at).found [] handle.0 of.0 of.1))) in
            let one = holds_grown (K w index) (placed_in w.observer.orders handle.0) (placed_in v.observer.orders handle.0) handle.0 version.0 serial.0 bytes (grown_on handle.0) was in
            (one.0, keeps.shown e index moment s i choice at given up later m there handle version serial bytes is of.0 of.1 of.2 (marked one.0.marks (placed_in v.observer.orders handle.0)) one.1)
        says m there other is = tt

        served_all : AreApplied J K v
        served_all =
            let stays = keeps.serves e index moment s i choice at given up later in
            record {
              each = one_good (J v) (K v) (Apart index) stays (own_in v) (λ n u there other q x found. as_much n q x) v.observer.orders grown_on index t (λ other apart. apart) here;
              said = more_said (J v) (K v) (Apart index) stays (own_in v) (λ n u there other q x found. as_much n q x) v.observer.orders grown_on (suc (length w.sent)) ms (λ x there. says x there x.body refl);
            }

    -- a byte rots
    module _ (index handle : ℕ) (s : ServerState) (x : Replica) (place byte : ℕ) (ending : Ending) (at : element_at w.servers index ≡ Some s) (there : replica_of s.disk handle ≡ Some x)
        (disks : bytes_eq (stored_chunk (with_intact w.observer index handle s.disk.block x) index handle s.disk.block (rotten_replica x place byte)) (stored_chunk w.observer index handle s.disk.block x) ≡ true) (up : IsTrue s.up) where
      abbrev rotted_world : WorldState
      rotted_world = (with_rot w index s (rot_of handle place byte) ending (known_after w index handle s x place byte)).world

      -- nothing is under way where it is up, so what is found is on the disk
      on_disk : (q : ℕ) (y : Replica) → IsFound s q y → replica_of s.disk q ≡ Some y
      on_disk q y found =
          ap (λ (d : ServerDisk). replica_of d q) (sym (ap (λ (xs : List StoreChange). disk_changed_by_all s.disk (decided_changes found.0 xs)) ((h.each index s at).idle up) ∙ none_more s.disk found.0)) ∙ found.1

      rotted_same : (n : ℕ) (u : ServerState) → element_at w.servers n ≡ Some u → Each n → (q : ℕ) (y : Replica) → IsFound u q y → own_in rotted_world n q y ≡ own_in w n q y
      rotted_same n u u_at each q y found =
          elim (same_or_not n index) [
            | inl here ↦
                let one : u ≡ s = same_some u s (sym u_at ∙ ap (λ (k : ℕ). element_at w.servers k) here ∙ at) in
                subst (λ (k : ℕ). own_in rotted_world k q y ≡ own_in w k q y) (sym here)
                (rot_same config servers clients w r index handle s x place byte ending at there disks q y (on_disk q y (subst (λ (z : ServerState). IsFound z q y) one found)))
            | inr apart ↦ rot_other config servers clients w r index handle s x place byte ending at there disks n apart q y
          ]

      rotted_all : Stays J K Each w rotted_world → AreApplied J K rotted_world
      rotted_all stays =
          let more : (n : ℕ) → Follows IsAny (placed_in w.observer.orders n) (placed_in w.observer.orders n) = λ n. same_follows IsAny (placed_in w.observer.orders n) in
          record {
            each = one_good (J rotted_world) (K rotted_world) Each stays (own_in rotted_world) rotted_same w.observer.orders more index (after_rot s (rot_of handle place byte) ending) (λ other apart. tt)
                (rot_good config servers clients w r index handle s x place byte ending at there disks (K rotted_world index) w.observer.orders up
                (good_on (K w index) (K rotted_world index) (own_in w index) (own_in w index) w.observer.orders w.observer.orders s more (λ q y found. refl) (stays.each index s at tt) (h.each index s at)));
            said = stay_said (J rotted_world) (K rotted_world) Each stays (own_in rotted_world) rotted_same w.observer.orders more;
          }

  abbrev Applied : WorldState → Type 0
  Applied w = IsTrue (is_kept w) → AreApplied J K w

  module _ (keeps : (w : WorldState) → IsReached config servers clients w → IsTrue (is_kept w) → AreApplied J K w → KeepsOn w) where
    module _ (w : WorldState) (r : IsReached config servers clients w) (h : Applied w) where
      abbrev LaterOn : WorldState → Type 0
      LaterOn v = IsReached config servers clients v → Applied v

      on : (kept : IsTrue (is_kept w)) → KeepsOn w
      on kept = keeps w r kept (h kept)

      each_later : HoldsExactly w (λ e x. LaterOn x.world)
      each_later =
          let k : ℕ = suc (length w.sent) in
          let grow = orders_grow config servers clients w r in
          record {
            nothing = λ e later kept. h kept;
            masters = λ e moment i choice is up later kept.
                let v : WorldState = (after_master w moment (master_step w.master moment i choice)).world in
                let before = kept_of w.observer.are_clocks_kept (nat_le w.observer.greatest (moment + w.config.skew_ms)) w.observer.are_disks_kept kept in
                let stays = (on before).masters e moment i choice is up (later, kept) in
                let more = grow.masters e moment i choice is up in
                record {
                  each = λ index s at. stay_good w r (h before) (J v) (K v) Each stays (own_in v) (λ n u there other q x found. own_noted w v refl refl n q x) v.observer.orders more index s at tt;
                  said = silent_said w r (h before) (J v) (K v) Each stays (own_in v) (λ n u there other q x found. own_noted w v refl refl n q x) v.observer.orders more k (master_step w.master moment i choice).out.sent
                      (master_said (λ m. IsNoImage m.body) (record { plain = λ receiver b is. masters_none b is; locates = λ receiver number l current. tt }) w.master moment i choice);
                };
            opens = λ e moment choice later kept.
                let v : WorldState = (after_master w moment (master_restart w.master moment choice)).world in
                let before = kept_of w.observer.are_clocks_kept (nat_le w.observer.greatest (moment + w.config.skew_ms)) w.observer.are_disks_kept kept in
                let stays = (on before).opens e moment choice (later, kept) in
                let more = grow.opens e moment choice in
                record {
                  each = λ index s at. stay_good w r (h before) (J v) (K v) Each stays (own_in v) (λ n u there other q x found. own_noted w v refl refl n q x) v.observer.orders more index s at tt;
                  said = silent_said w r (h before) (J v) (K v) Each stays (own_in v) (λ n u there other q x found. own_noted w v refl refl n q x) v.observer.orders more k (master_restart w.master moment choice).out.sent
                      (restart_said (λ m. IsNoImage m.body) (record { plain = λ receiver b is. masters_none b is; locates = λ receiver number l current. tt }) w.master moment choice);
                };
            serves = λ e index moment s i choice at is up later kept.
                let before = kept_of w.observer.are_clocks_kept (nat_le w.observer.greatest (moment + w.config.skew_ms)) w.observer.are_disks_kept kept in
                served_all w r (h before) before (on before) e index moment s i choice at is up (later, kept);
            restarts = λ e index moment s choice at later kept.
                let v : WorldState = (after_server w index moment (server_restart s moment choice)).world in
                let before = kept_of w.observer.are_clocks_kept (nat_le w.observer.greatest (moment + w.config.skew_ms)) w.observer.are_disks_kept kept in
                let stays = (on before).restarts e index moment s choice at (later, kept) in
                let more = grow.restarts e index moment s choice at in
                record {
                  each = one_good w r (h before) (J v) (K v) Each stays (own_in v) (λ n u there other q x found. own_noted w v refl refl n q x) v.observer.orders more index (server_restart s moment choice).state (λ other apart. tt)
                      (restart_good (K v index) (own_in v index) v.observer.orders s moment choice choice.ending (stay_good w r (h before) (J v) (K v) Each stays (own_in v) (λ n u there other q x found. own_noted w v refl refl n q x) v.observer.orders more index s at tt));
                  said = silent_said w r (h before) (J v) (K v) Each stays (own_in v) (λ n u there other q x found. own_noted w v refl refl n q x) v.observer.orders more k (server_restart s moment choice).out.sent (restarted_none (λ m. IsNoImage m.body) s moment choice choice.ending);
                };
            steps = λ e index moment s i choice at is up later kept.
                let v : WorldState = (after_client w index moment (client_step s moment i choice)).world in
                let before =
                kept_of w.observer.are_clocks_kept (nat_le w.observer.greatest (moment + w.config.skew_ms)) w.observer.are_disks_kept
                (answered_kept (observed_moment w.config.skew_ms w.observer moment) (suc index) (client_step s moment i choice).out.answer kept) in
                let stays = (on before).steps e index moment s i choice at is up (later, kept) in
                let more = grow.steps e index moment s i choice at is up in
                record {
                  each = λ n u there. stay_good w r (h before) (J v) (K v) Each stays (own_in v) (λ n u there other q x found. own_noted w v refl (answered_notes (observed_moment w.config.skew_ms w.observer moment) (suc index) (client_step s moment i choice).out.answer) n q x) v.observer.orders more n u there tt;
                  said = silent_said w r (h before) (J v) (K v) Each stays (own_in v) (λ n u there other q x found. own_noted w v refl (answered_notes (observed_moment w.config.skew_ms w.observer moment) (suc index) (client_step s moment i choice).out.answer) n q x) v.observer.orders more k (client_step s moment i choice).out.sent
                      (of_step (λ t xs. AllOf (λ m. IsNoImage m.body) xs) s moment i choice ((numbered_reached config servers clients w r).each index s at).named (λ d step. client_none (client_at s moment) d d.sent step refl) tt tt);
                };
            calls = λ e index moment s c choice at may later kept.
                let v : WorldState = (after_client (with_call w index moment c) index moment (client_call s moment c choice)).world in
                let seen : Observer = observed_call (observed_moment w.config.skew_ms w.observer moment) (suc index) c in
                let twice = answered_kept (observed_moment w.config.skew_ms seen moment) (suc index) (client_call s moment c choice).out.answer kept in
                let before =
                kept_of w.observer.are_clocks_kept (nat_le w.observer.greatest (moment + w.config.skew_ms)) w.observer.are_disks_kept
                (kept_of seen.are_clocks_kept (nat_le seen.greatest (moment + w.config.skew_ms)) w.observer.are_disks_kept twice) in
                let stays = (on before).calls e index moment s c choice at may (later, kept) in
                let more = grow.calls e index moment s c choice at may in
                record {
                  each = λ n u there. stay_good w r (h before) (J v) (K v) Each stays (own_in v) (λ n u there other q x found. own_noted w v refl (answered_notes (observed_moment w.config.skew_ms seen moment) (suc index) (client_call s moment c choice).out.answer) n q x) v.observer.orders more n u there tt;
                  said = silent_said w r (h before) (J v) (K v) Each stays (own_in v) (λ n u there other q x found. own_noted w v refl (answered_notes (observed_moment w.config.skew_ms seen moment) (suc index) (client_call s moment c choice).out.answer) n q x) v.observer.orders more k (client_call s moment c choice).out.sent
                      (of_call (λ t xs. AllOf (λ m. IsNoImage m.body) xs) s moment c choice ((numbered_reached config servers clients w r).each index s at).named (λ d step. client_none (client_at s moment) d d.sent step refl) tt);
                };
            rots = λ e index handle s x place byte ending at x_there up later kept.
                let v : WorldState = (with_rot w index s (rot_of handle place byte) ending (known_after w index handle s x place byte)).world in
                let now : List ℕ = stored_chunk (with_intact w.observer index handle s.disk.block x) index handle s.disk.block (rotten_replica x place byte) in
                let parts = and_parts w.observer.are_clocks_kept (w.observer.are_disks_kept && bytes_eq now (stored_chunk w.observer index handle s.disk.block x)) kept in
                let disks = and_parts w.observer.are_disks_kept (bytes_eq now (stored_chunk w.observer index handle s.disk.block x)) parts.1 in
                let before = kept_both w.observer.are_clocks_kept w.observer.are_disks_kept parts.0 disks.0 in
                let stays = (on before).rots e index handle s x place byte ending at x_there up (later, kept) in
                let more : (n : ℕ) → Follows IsAny (placed_in w.observer.orders n) (placed_in w.observer.orders n) = λ n. same_follows IsAny (placed_in w.observer.orders n) in
                rotted_all w r (h before) index handle s x place byte ending at x_there disks.1 up stays;
          }

    applied_on : (w : WorldState) (steps : List (Event × Choice)) → IsReached config servers clients w → Applied w → Applied (after_events w steps)
    applied_on w [] r h = h
    applied_on w (step ∷ rest) r h =
        let later = reached_later config servers clients w (step ∷ []) r in
        applied_on (happens w step.0 step.1).world rest later (holds_exactly w (λ e x. LaterOn w r h x.world) (each_later w r h) step.0 step.1 later)

    new_applied : Applied (new_world config servers clients)
    new_applied kept =
        record {
          each = λ index s at.
              subst (IsGood (K (new_world config servers clients) index) (own_in (new_world config servers clients) index) table.empty) (sym (numbered_from (λ n. started_server config n (new_server_disk config.chunk config.block config.slots) 0) servers index s at))
              (record { found = λ decided handle x is. none_some x (sym (table.get-empty nat_cmp handle) ∙ ap (λ (d : ServerDisk). replica_of d handle) (sym (none_more (new_server_disk config.chunk config.block config.slots) decided)) ∙ is); idle = λ on. refl });
          said = λ m there. none_sent m there;
        }

    pub applied_reached : (w : WorldState) → IsReached config servers clients w → IsTrue (is_kept w) → AreApplied J K w
    applied_reached w r = subst Applied r.1 (applied_on (new_world config servers clients) r.0 ([], refl) new_applied)
