-- In each world that is reached with kept clocks, each attempt whose chunk is told to be full, or kept as such, was sent for a chunk whose order has an entry that ends at the chunk's end.
use Rattle.std.proofs.Common.{◌≡◌, ℕ, zero, suc, ◌+◌, ◌≤◌, Bool, true, false, cond, List, [], ◌∷◌, ◌++◌, length, map, Option, Some, None, refl, sym, ap, subst, ◌∙◌, inl, inr, arith}
use Rattle.std.proofs.Math.Nat.{le-min}
use Rattle.std.specs.Prelude.{◌||◌, ◌==◌, min, IsTrue}
use Rattle.std.specs.FinMap as table
use Rattle.std.specs.List.{list_any}
use Rattle.std.specs.Option.{option_to_list}
use Rattle.std.proofs.lemmas.Bool.{eq-eqb, or_right}
use Rattle.gfs_types.specs.declared.config.Config.{Config}
use Rattle.gfs_types.specs.declared.ids.Node.{Node}
use Rattle.gfs_types.specs.declared.ids.DataId.{DataId}
use Rattle.gfs_types.specs.declared.ids.Handle.{Handle}
use Rattle.gfs_types.specs.declared.ids.Version.{Version}
use Rattle.gfs_types.specs.declared.ids.Moment.{Moment}
use Rattle.gfs_types.specs.declared.refusal.Refusal.TheVariants.{ChunkFull}
use Rattle.gfs_types.specs.declared.mutation.Mutation.{Mutation}
use Rattle.gfs_types.specs.declared.mutation.Mutation.TheVariants.{Write, Append, Pad}
use Rattle.gfs_types.specs.Mutations.{end_of}
use Rattle.messages.specs.declared.event.Event.{Event}
use Rattle.messages.specs.declared.event.NodeInput.{NodeInput}
use Rattle.messages.specs.declared.event.NodeInput.TheVariants as input
use Rattle.messages.specs.declared.message.Body.{Body}
use Rattle.messages.specs.declared.message.Body.TheVariants as body
use Rattle.messages.specs.declared.message.Message.{Message}
use Rattle.messages.specs.declared.message.Target.{Target}
use Rattle.laws_base.proofs.Rots.{rot_leases}
use Rattle.primary_order.specs.SerialOrder.{SerialOrder, IsNew, attempted}
use Rattle.replica_store.specs.declared.row.Row.{Row}
use Rattle.replica_store.specs.Replicas.{Replica, new_server_disk, replica_of, row_of, row_at}
use Rattle.protocol.specs.Tables.{element_at, with_at, first_numbers}
use Rattle.protocol.specs.Sending.{data_id, version_of, serial_of}
use Rattle.protocol.specs.Choice.{Choice, Ending, Goes, Lost, Stops}
use Rattle.protocol.specs.Seen.{Taken, no_step}
use Rattle.protocol.specs.declared.seen.Seen.TheVariants.{Numbered}
use Rattle.protocol.specs.Observer.{Placed, observed_moment, placed_in, order_of}
use Rattle.protocol.specs.Client.{ClientState, ClientDoing}
use Rattle.protocol.specs.ClientStep.{client_at, client_step, client_call}
use Rattle.protocol.specs.Server.{ServerState, ServerDoing, chunk_limit, started_server, server_begins, primary_of}
use Rattle.protocol.specs.ServerWrites.{mutates_under}
use Rattle.protocol.specs.ServerStep.{server_at, server_takes, server_goes, server_ends, server_step, server_restart}
use Rattle.protocol.specs.MasterStep.{master_step, master_restart}
use Rattle.protocol.specs.World.{WorldState, Happened, new_world, stamped, after_master, after_server, after_client, happens, after_events, IsReached, after_rot}
use Rattle.laws_base.proofs.Steps.{none_some, same_some}
use Rattle.laws_base.proofs.Entries.{AllOf}
use Rattle.laws_base.proofs.RisingOrders.{set_cases}
use Rattle.laws_base.proofs.MembersRecorded.{kept_place, all_at}
use Rattle.laws_base.proofs.Events.{HoldsAfter, holds_after, with_call, with_rot, rot_of}
use Rattle.laws_base.proofs.ClientNumbers.{IsSaid, IsStepOf, of_step, of_call}
use Rattle.laws_base.proofs.RequestsOnce.{AreNumbered, numbered_reached, later_cases}
use Rattle.laws_base.proofs.MasterTalks.{is_masters, MasterTalks, master_said, restart_said}
use Rattle.laws_base.proofs.LeasesStayOver.{reached_later}
use Rattle.laws_base.proofs.NewCopies.{IsNotFull, step_tells, restart_tells}
use Rattle.laws_base.proofs.Lengths.{servers_within, settings_stay}
use Rattle.laws_base.proofs.HeldReplicas.{leases_have_their_replica}
use Rattle.laws_base.specs.Entries.{IsAmong}
use Rattle.laws_base.proofs.Stemming.{came_in}
use Rattle.laws_base.proofs.OwnMutates.{IsOwn, mutates_are_own}
use Rattle.laws_base.proofs.RoundsPassed.{primary_there, server_shown}
use Rattle.laws_base.proofs.FullOrders.{IsCaused, Causes, right_on, caused_on}
use Rattle.laws_base.proofs.FullAnswers.{AreRight, Leaves, IsFullEnd, step_leaves, none_right, restart_leaves}
use Rattle.laws_base.proofs.FullPlaces.{placed_first, denied_full}
use Rattle.laws_versions.proofs.ClosedVersions.{clocks_before}
use Rattle.laws_base.specs.Laws.{IsSizeGranted}
use Rattle.laws_base.proofs.LeasesTold.{leases_are_told}
use Rattle.laws_base.specs.PlacedEntries.{LiesWithin}
use Rattle.laws_versions.proofs.OneSizes.{chunks_have_one_size, entries_are_of_their_chunks_size}
use Rattle.laws_versions.specs.CopiedEntries.{Follows}
use Rattle.laws_versions.specs.FullOrders.{HasFullEnd, FullChunksHaveAFullOrder}
use Rattle.laws_versions.proofs.OrdersGrow.{IsAny, same_follows, HaveGrown, orders_grow}
use Rattle.laws_versions.proofs.Images.{numbered_there}
use Rattle.laws_versions.specs.EndedReplicas.{EndsAtEntry}
use Rattle.laws_versions.proofs.EndedReached.{replicas_end_at_entries}

-- a row is of a replica
row_there : (o : Option Replica) (row : Row) → row_of o ≡ Some row → (r : Replica) × (o ≡ Some r) × (r.count ≡ row.count)
row_there None row is = none_some row is
row_there (Some r) row is = (r, refl, ap (λ (x : Row). x.count) (same_some _ row is))

-- where an entry ends there, the test says so
listed : (size : ℕ) (order : List Placed) (place : ℕ) (p : Placed) → element_at order place ≡ Some p → end_of p.entry.mutation ≡ size → IsTrue (list_any (λ q. end_of q.entry.mutation == size) order)
listed size [] place p at is = none_some p at
listed size (q ∷ order) zero p at is =
    ap (λ (b : Bool). b || list_any (λ x. end_of x.entry.mutation == size) order) (eq-eqb (end_of q.entry.mutation) size (ap (λ (x : Placed). end_of x.entry.mutation) (same_some q p at) ∙ is))
listed size (q ∷ order) (suc place) p at is = or_right (end_of q.entry.mutation == size) (list_any (λ x. end_of x.entry.mutation == size) order) (listed size order place p at is)

-- the data were to be placed in a chunk whose order has such an entry, by the size with which the version was granted
record IsEnded (slot : ℕ) (w : WorldState) (id : DataId) : Type 0 where
  asked : Message
  handle : Handle
  version : Version
  aim : Target
  deadline : Moment
  sent_is : IsAmong w.sent asked
  body_is : asked.body ≡ body.Mutate id handle version aim deadline
  size : ℕ
  granted : IsSizeGranted w.sent handle.0 version.0 size
  ends : HasFullEnd (min size slot) (order_of w.observer handle.0) version.0

ends_on : (size version : ℕ) (from to : List Placed) → Follows IsAny from to → HasFullEnd size from version → HasFullEnd size to version
ends_on size version from to follows h =
    let there = follows h.0 h.1 h.2 tt in
    (h.0, there.0, there.1, subst (λ (n : ℕ). n ≤ version) (sym (ap (λ (x : Placed). x.entry.round) there.2)) h.3, ap (λ (x : Placed). end_of x.entry.mutation) there.2 ∙ h.4)

-- a Grant that was sent was sent
granted_on : (sent all more : List Message) → all ≡ sent ++ more → (handle version size : ℕ) → IsSizeGranted sent handle version size → IsSizeGranted all handle version size
granted_on sent all more grown handle version size g =
    (g.0, g.1, ap (λ (ms : List Message). element_at ms g.0) grown ∙ kept_place sent more g.0 g.1 g.2, g.3, g.4, g.5, g.6)

ended_on : (slot : ℕ) (w v : WorldState) (more : List Message) → v.sent ≡ w.sent ++ more → HaveGrown w v → (id : DataId) → IsEnded slot w id → IsEnded slot v id
ended_on slot w v more sent grown id h =
    record {
      asked = h.asked;
      handle = h.handle;
      version = h.version;
      aim = h.aim;
      deadline = h.deadline;
      sent_is = ((h.sent_is).0, ap (λ (ms : List Message). element_at ms (h.sent_is).0) sent ∙ kept_place w.sent more (h.sent_is).0 h.asked (h.sent_is).1);
      body_is = h.body_is;
      size = h.size;
      granted = granted_on w.sent v.sent more sent h.handle.0 h.version.0 h.size h.granted;
      ends = ends_on (min h.size slot) h.version.0 (order_of w.observer h.handle.0) (order_of v.observer h.handle.0) (grown h.handle.0) h.ends;
    }

-- what lies within a chunk ends within it
within_end : (size : ℕ) (m : Mutation) → LiesWithin size m → end_of m ≤ size
within_end size (Write offset bytes) lies = lies
within_end size (Append offset bytes) lies = lies
within_end size (Pad offset end) lies = let same = lies.1 in omega (arith, same)

-- as much as a chunk of this size may have at least, and no more
both_ends : (end count size : ℕ) → end ≡ count → size ≤ count → end ≤ size → end ≡ size
both_ends end count size same least most = omega (arith, same, least, most)

-- words that tell of no full chunk

masters_cause : (F : DataId → Type 0) (b : Body) (receiver : Node) → is_masters b ≡ true → IsNotFull b → IsCaused F b receiver
masters_cause F (body.Refused number ChunkFull) receiver is other = absurd other
masters_cause F (body.Nacked handle version serial refusal) receiver is other = absurd (let both : false ≡ true = is in cc)
masters_cause F b receiver is other = tt

clients_cause : (F : DataId → Type 0) (s t : ClientState) (b : Body) (receiver : Node) → IsSaid s t b → IsCaused F b receiver
clients_cause F s t (body.Refused number refusal) receiver said = absurd said
clients_cause F s t (body.Nacked handle version serial refusal) receiver said = absurd said
clients_cause F s t other receiver said = tt

client_causes : (F : DataId → Type 0) (s : ClientState) (d : ClientDoing) (o : Option Message) → IsStepOf s d → d.sent ≡ o → AllOf (Causes F) (option_to_list o)
client_causes F s d None step is = tt
client_causes F s d (Some m) step is = let said = step.says m is in (clients_cause F s d.client m.body m.receiver said.1, tt)

all_apply : (F : DataId → Type 0) (ms : List Message) → AllOf (λ m. IsNotFull m.body → Causes F m) ms → AllOf (λ m. IsNotFull m.body) ms → AllOf (Causes F) ms
all_apply F [] all none = tt
all_apply F (m ∷ ms) all none = (all.0 none.0, all_apply F ms all.1 none.1)

talks : (F : DataId → Type 0) → MasterTalks (λ m. IsNotFull m.body → Causes F m)
talks F = record { plain = λ receiver b is other. masters_cause F b receiver is other; locates = λ receiver number l current other. tt }

record IsToldTruly (F : DataId → Type 0) (w : WorldState) : Type 0 where
  leases : (index : ℕ) (s : ServerState) → element_at w.servers index ≡ Some s → AreRight F s.leases
  told : (place : ℕ) (m : Message) → element_at w.sent place ≡ Some m → Causes F m

more_told : (F : DataId → Type 0) (sent : List Message) (k : ℕ) (ms : List Message) → ((place : ℕ) (m : Message) → element_at sent place ≡ Some m → Causes F m) → AllOf (Causes F) ms
    → (place : ℕ) (m : Message) → element_at (sent ++ stamped k ms) place ≡ Some m → Causes F m
more_told F sent k ms h all place m at =
    elim (later_cases sent k ms place m at) [
      | inl before ↦ h place m before
      | inr new ↦
          subst (λ (n : Node). IsCaused F m.body n) (new.2).1 (subst (λ (b : Body). IsCaused F b (new.0).receiver) (new.2).2 (all_at (Causes F) ms (new.1).0 new.0 all (new.1).1))
    ]

module _ (config : Config) (servers clients : ℕ) (some : 1 ≤ config.chunk) where
  abbrev Ended : WorldState → DataId → Type 0
  Ended w = IsEnded config.chunk w

  abbrev Sound : WorldState → Type 0
  Sound w = IsToldTruly (Ended w) w

  module _ (w : WorldState) (r : IsReached config servers clients w) (kept : IsTrue w.observer.are_clocks_kept) (h : Sound w) where
    module _ (v : WorldState) (more : List Message) (sent : v.sent ≡ w.sent ++ more) (grown : HaveGrown w v) where
      go : (id : DataId) → Ended w id → Ended v id
      go = ended_on config.chunk w v more sent grown

      leases_then : (index : ℕ) (s : ServerState) → element_at w.servers index ≡ Some s → AreRight (Ended v) s.leases
      leases_then index s at q p there = right_on (Ended w) (Ended v) go p (h.leases index s at q p there)

      told_then : (place : ℕ) (m : Message) → element_at w.sent place ≡ Some m → Causes (Ended v) m
      told_then place m at = caused_on (Ended w) (Ended v) go m.body m.receiver (h.told place m at)

      one_server : (index : ℕ) (t : ServerState) → AreRight (Ended v) t.leases → (other : ℕ) (u : ServerState) → element_at (with_at w.servers index t) other ≡ Some u → AreRight (Ended v) u.leases
      one_server index t here other u at =
          elim (set_cases w.servers index t other u at) [
            | inl both ↦ subst (λ (y : ServerState). AreRight (Ended v) y.leases) (sym both.1) here
            | inr there ↦ leases_then other u there
          ]

    -- a server's step on an attempt that is new
    module _ (index moment : ℕ) (s : ServerState) (i : NodeInput) (choice : Choice) (at : element_at w.servers index ≡ Some s) (up : IsTrue s.up) (came : (m : Message) → i ≡ input.Deliver m → IsAmong w.sent m) where
      abbrev After : Happened
      After = after_server w index moment (server_step s moment i choice)

      abbrev New : List Message
      New = stamped (suc (length w.sent)) (server_step s moment i choice).out.sent

      module _ (grown : HaveGrown w (after_server w index moment (server_step s moment i choice)).world) where
        -- the replica was full
        by_replica : (handle : Handle) (version : ℕ) (p : SerialOrder) → primary_of (server_at s moment) handle.0 version ≡ Some p → IsSizeGranted w.sent handle.0 version p.chunk
            → (row : Row) × (row_at s.disk handle.0 ≡ Some row) × (min p.chunk config.chunk ≤ row.count) → HasFullEnd (min p.chunk config.chunk) (order_of w.observer handle.0) version
        by_replica handle version p primary granted found = there ends
          where
            one : (x : Replica) × (replica_of s.disk handle.0 ≡ Some x) × (x.count ≡ found.0.count)
            one = row_there (replica_of s.disk handle.0) found.0 found.1

            ends : EndsAtEntry (order_of w.observer handle.0) one.0.version one.0.count
            ends = (replicas_end_at_entries config servers clients w r kept index s at).0 handle.0 one.0 one.1

            -- a chunk has at least one byte
            least : 1 ≤ min p.chunk config.chunk
            least = let told = (chunks_have_one_size config servers clients w r handle.0 version version p.chunk p.chunk granted granted).1 in le-min (omega (arith, told)) some

            -- each entry of the order is of the chunk's size
            most : (place : ℕ) (e : Placed) → element_at (order_of w.observer handle.0) place ≡ Some e → end_of e.entry.mutation ≤ min p.chunk config.chunk
            most place e stands =
                let of =
                entries_are_of_their_chunks_size config servers clients r.0 handle.0 place e (subst (λ (v : WorldState). element_at (order_of v.observer handle.0) place ≡ Some e) (sym r.1) stands) version p.chunk
                (subst (λ (v : WorldState). IsSizeGranted v.sent handle.0 version p.chunk) (sym r.1) granted) in
                within_end (min p.chunk config.chunk) e.entry.mutation of.2

            version_is : one.0.version ≡ version
            version_is =
                let held = primary_there (server_at s moment) version (table.get s.leases handle.0) p primary in
                let has = leases_have_their_replica config servers clients w r index s at handle.0 p held.0 in
                ap (λ (x : Replica). x.version) (same_some one.0 has.0 (sym one.1 ∙ has.1)) ∙ (has.2 ∙ held.1)

            there : EndsAtEntry (order_of w.observer handle.0) one.0.version one.0.count → HasFullEnd (min p.chunk config.chunk) (order_of w.observer handle.0) version
            there (inl none) = absurd (let long = one.2 in let full = found.2 in let low = least in omega (arith, none, long, full, low))
            there (inr entry) = (
              entry.0,
              entry.1,
              entry.2,
              subst (λ (n : ℕ). (entry.1).entry.round ≤ n) version_is entry.3,
              both_ends (end_of (entry.1).entry.mutation) found.0.count (min p.chunk config.chunk) (entry.4 ∙ one.2) found.2 (most entry.0 entry.1 entry.2),
            )

        -- a pad is placed
        by_pad : (handle version : ℕ) (p : SerialOrder) (id : DataId) (offset : ℕ) (handle_is : Handle) → handle_is.0 ≡ handle → p.held.version ≡ version → (place : ℕ) → element_at (server_step s moment i choice).seen place ≡ Some (Numbered handle_is (version_of p.held.version) (serial_of (p.serial + 1)) id (Pad offset (min p.chunk config.chunk)))
            → HasFullEnd (min p.chunk config.chunk) (order_of After.world.observer handle) version
        by_pad handle version p id offset named same under place shown =
            let there = numbered_there (observed_moment w.config.skew_ms w.observer moment).trace w.observer.orders (server_step s moment i choice).seen place named (version_of p.held.version) (serial_of (p.serial + 1)) id (Pad offset (min p.chunk config.chunk)) (server_shown s moment i choice) shown in
            let round : (there.1).entry.round ≡ version = ap (λ (x : Placed). x.entry.round) there.3 ∙ under in
            subst (λ (n : ℕ). HasFullEnd (min p.chunk config.chunk) (order_of After.world.observer n) version) same (there.0, there.1, there.2, omega (arith, round), ap (λ (x : Placed). end_of x.entry.mutation) there.3)

        whole_step : server_step s moment i choice ≡ server_ends s (server_goes s moment i) choice choice.ending
        whole_step = ap (λ (b : Bool). cond b (server_ends s (server_goes s moment i) choice choice.ending) (no_step s)) up

        anew : choice.ending ≡ Goes → (m : Message) (id : DataId) (handle : Handle) (version : Version) (t : Target) (deadline : Moment) (p : SerialOrder) → i ≡ input.Deliver m → m.body ≡ body.Mutate id handle version t deadline → primary_of (server_at s moment) handle.0 version.0 ≡ Some p
            → attempted p id.client id.seq ≡ IsNew
            → IsFullEnd (server_begins (server_at s moment)) handle.0 p id (mutates_under (server_begins (server_at s moment)) handle.0 id t deadline.0 (primary_of (server_at s moment) handle.0 version.0)) → Ended After.world id
        anew goes m id handle version t deadline p is asked primary new end =
            record {
              asked = m;
              handle = handle;
              version = version;
              aim = t;
              deadline = deadline;
              sent_is = ((came m is).0, kept_place w.sent New (came m is).0 m (came m is).1);
              body_is = asked;
              size = p.chunk;
              granted = granted_on w.sent After.world.sent New refl handle.0 version.0 p.chunk granted;
              ends = elim (end) [
                | inl denied ↦
                    let found = denied_full (server_at s moment) handle.0 p id t deadline.0 (primary_of (server_at s moment) handle.0 version.0) primary new denied in
                    ends_on (min p.chunk config.chunk) version.0 (order_of w.observer handle.0) (order_of After.world.observer handle.0) (grown handle.0)
                    (by_replica handle version.0 p primary granted (found.0, found.1, subst (λ (n : ℕ). n ≤ (found.0).count) limit_is found.2))
                | inr placed ↦ by_pad handle.0 version.0 p id placed.0 handle refl (primary_there (server_at s moment) version.0 (table.get s.leases handle.0) p primary).1 0 (shown ∙ (ap (λ (e : ServerDoing). element_at e.seen 0) (goes_is ∙ placed.1) ∙ placed_first (server_at s moment) handle.0 p id (Pad placed.0 (chunk_limit s p.chunk)) placed.2
                    ∙ ap (λ (n : ℕ). Some (Numbered handle (version_of p.held.version) (serial_of (p.serial + 1)) id (Pad placed.0 n))) limit_is))
              ];
            }
          where
            limit_is : chunk_limit s p.chunk ≡ min p.chunk config.chunk
            limit_is = ap (λ (g : Config). min p.chunk g.chunk) (servers_within config servers clients w r index s at).set

            lease_there : (table.get s.leases handle.0 ≡ Some p) × (p.held.version ≡ version.0)
            lease_there = primary_there (server_at s moment) version.0 (table.get s.leases handle.0) p primary

            granted : IsSizeGranted w.sent handle.0 version.0 p.chunk
            granted =
                let told = (leases_are_told config servers clients w r index s at handle.0 p lease_there.0).0 in
                subst (λ (n : ℕ). IsSizeGranted w.sent handle.0 n p.chunk) lease_there.1 (told.0, told.1, told.2, told.4, told.5, p.held.members, told.6)

            goes_is : server_goes s moment i ≡ mutates_under (server_begins (server_at s moment)) handle.0 id t deadline.0 (primary_of (server_at s moment) handle.0 version.0)
            goes_is = ap (λ (j : NodeInput). server_goes s moment j) is ∙ ap (λ (b : Body). server_takes (server_begins (server_at s moment)) m b) asked

            shown : element_at (server_step s moment i choice).seen 0 ≡ element_at (server_goes s moment i).seen 0
            shown = ap (λ (x : Taken ServerState). element_at x.seen 0) (whole_step ∙ ap (λ (e : Ending). server_ends s (server_goes s moment i) choice e) goes)

        served : Leaves (Ended After.world) (server_step s moment i choice)
        served = by_ending choice.ending refl
          where
            none : Leaves (Ended After.world) (server_ends s (server_goes s moment i) choice Lost)
            none = (none_right (Ended After.world), tt)

            by_ending : (e : Ending) → choice.ending ≡ e → Leaves (Ended After.world) (server_step s moment i choice)
            by_ending Goes is =
                step_leaves (Ended After.world) s moment i choice (anew is)
                (λ m q v serial refusal taken asked. let there = came m taken in subst (λ (b : Body). IsCaused (Ended w) b m.receiver) asked (h.told there.0 m there.1)) (leases_then After.world New refl grown index s at)
            by_ending Lost is = subst (Leaves (Ended After.world)) (sym (whole_step ∙ ap (λ (e : Ending). server_ends s (server_goes s moment i) choice e) is)) none
            by_ending (Stops made) is = subst (Leaves (Ended After.world)) (sym (whole_step ∙ ap (λ (e : Ending). server_ends s (server_goes s moment i) choice e) is)) (none_right (Ended After.world), tt)

    numbered : AreNumbered w.sent w.clients
    numbered = numbered_reached config servers clients w r

    each_sound : HoldsAfter w (λ e x. Sound x.world)
    each_sound =
        let k : ℕ = suc (length w.sent) in
        let grow = orders_grow config servers clients w r in
        record {
          nothing = λ e. h;
          masters = λ e moment i choice is up.
              let v : WorldState = (after_master w moment (master_step w.master moment i choice)).world in
              let ms : List Message = (master_step w.master moment i choice).out.sent in
              let grown = grow.masters e moment i choice is up in
              record {
                leases = leases_then v (stamped k ms) refl grown;
                told = more_told (Ended v) w.sent k ms (told_then v (stamped k ms) refl grown) (all_apply (Ended v) ms (master_said (λ m. IsNotFull m.body → Causes (Ended v) m) (talks (Ended v)) w.master moment i choice) (step_tells w.master moment i choice));
              };
          opens = λ e moment choice.
              let v : WorldState = (after_master w moment (master_restart w.master moment choice)).world in
              let ms : List Message = (master_restart w.master moment choice).out.sent in
              let grown = grow.opens e moment choice in
              record {
                leases = leases_then v (stamped k ms) refl grown;
                told = more_told (Ended v) w.sent k ms (told_then v (stamped k ms) refl grown) (all_apply (Ended v) ms (restart_said (λ m. IsNotFull m.body → Causes (Ended v) m) (talks (Ended v)) w.master moment choice) (restart_tells w.master moment choice));
              };
          serves = λ e index moment s i choice at is up.
              let v : WorldState = (after_server w index moment (server_step s moment i choice)).world in
              let ms : List Message = (server_step s moment i choice).out.sent in
              let grown = grow.serves e index moment s i choice at is up in
              let left = served index moment s i choice at up (came_in w e (suc index) moment i is) grown in
              record {
                leases = one_server v (stamped k ms) refl grown index (server_step s moment i choice).state left.0;
                told = more_told (Ended v) w.sent k ms (told_then v (stamped k ms) refl grown) left.1;
              };
          restarts = λ e index moment s choice at.
              let v : WorldState = (after_server w index moment (server_restart s moment choice)).world in
              let ms : List Message = (server_restart s moment choice).out.sent in
              let grown = grow.restarts e index moment s choice at in
              let left = restart_leaves (Ended v) s moment choice in
              record {
                leases = one_server v (stamped k ms) refl grown index (server_restart s moment choice).state left.0;
                told = more_told (Ended v) w.sent k ms (told_then v (stamped k ms) refl grown) left.1;
              };
          steps = λ e index moment s i choice at is up.
              let v : WorldState = (after_client w index moment (client_step s moment i choice)).world in
              let ms : List Message = (client_step s moment i choice).out.sent in
              let grown = grow.steps e index moment s i choice at is up in
              record {
                leases = leases_then v (stamped k ms) refl grown;
                told = more_told (Ended v) w.sent k ms (told_then v (stamped k ms) refl grown)
                    (of_step (λ t xs. AllOf (Causes (Ended v)) xs) s moment i choice (numbered.each index s at).named (λ d step. client_causes (Ended v) (client_at s moment) d d.sent step refl) tt tt);
              };
          calls = λ e index moment s c choice at may.
              let v : WorldState = (after_client (with_call w index moment c) index moment (client_call s moment c choice)).world in
              let ms : List Message = (client_call s moment c choice).out.sent in
              let grown = grow.calls e index moment s c choice at may in
              record {
                leases = leases_then v (stamped k ms) refl grown;
                told = more_told (Ended v) w.sent k ms (told_then v (stamped k ms) refl grown)
                    (of_call (λ t xs. AllOf (Causes (Ended v)) xs) s moment c choice (numbered.each index s at).named (λ d step. client_causes (Ended v) (client_at s moment) d d.sent step refl) tt);
              };
          rots = λ e index handle s x place byte ending is_kept at there up.
              let v : WorldState = (with_rot w index s (rot_of handle place byte) ending is_kept).world in
              let grown : HaveGrown w v = λ n. same_follows IsAny (placed_in w.observer.orders n) in
              record {
                leases = one_server v [] (sym (append-none w.sent)) grown index (after_rot s (rot_of handle place byte) ending)
                    (rot_leases (λ ls. AreRight (Ended v) ls) s (rot_of handle place byte) ending (leases_then v [] (sym (append-none w.sent)) grown index s at) (none_right (Ended v)));
                told = told_then v [] (sym (append-none w.sent)) grown;
              };
        }
      where
        append-none : (ms : List Message) → ms ++ [] ≡ ms
        append-none [] = refl
        append-none (m ∷ ms) = ap (λ (xs : List Message). m ∷ xs) (append-none ms)

  sound_on : (w : WorldState) (steps : List (Event × Choice)) → IsReached config servers clients w → (IsTrue w.observer.are_clocks_kept → Sound w) → IsTrue (after_events w steps).observer.are_clocks_kept → Sound (after_events w steps)
  sound_on w [] r h kept = h kept
  sound_on w (step ∷ rest) r h kept =
      sound_on (happens w step.0 step.1).world rest (reached_later config servers clients w (step ∷ []) r)
      (λ now. let before = clocks_before w (step ∷ []) now in holds_after w (λ e x. Sound x.world) (each_sound w r before (h before)) step.0 step.1) kept

  new_servers : (F : DataId → Type 0) (ns : List ℕ) (index : ℕ) (s : ServerState) → element_at (map (λ n. started_server config n (new_server_disk config.chunk config.block config.slots) 0) ns) index ≡ Some s → AreRight F s.leases
  new_servers F [] index s is = none_some s is
  new_servers F (n ∷ ns) zero s is = subst (λ (x : ServerState). AreRight F x.leases) (same_some (started_server config n (new_server_disk config.chunk config.block config.slots) 0) s is) (none_right F)
  new_servers F (n ∷ ns) (suc index) s is = new_servers F ns index s is

  sound_reached : (w : WorldState) → IsReached config servers clients w → IsTrue w.observer.are_clocks_kept → Sound w
  sound_reached w r =
      subst (λ (v : WorldState). IsTrue v.observer.are_clocks_kept → Sound v) r.1
      (sound_on (new_world config servers clients) r.0 ([], refl) (λ _. record { leases = new_servers (Ended (new_world config servers clients)) (first_numbers servers); told = λ place m none. none_some m none }))

pub full_chunks_have_a_full_order : FullChunksHaveAFullOrder
full_chunks_have_a_full_order config servers clients w r kept some place client number m at receiver is =
    record {
      asked = one.asked;
      handle = one.handle;
      version = one.version;
      aim = one.aim;
      deadline = one.deadline;
      sent_is = one.sent_is;
      sender_is = subst (λ (b : Body). IsOwn (one.asked).sender b) one.body_is (mutates_are_own config servers clients w r (one.sent_is).0 one.asked (one.sent_is).1);
      body_is = one.body_is;
      size = one.size;
      granted = one.granted;
      full = subst (λ (n : ℕ). IsTrue (list_any (λ (q : Placed). end_of q.entry.mutation == n) (order_of w.observer one.handle.0))) (sym slot_is)
          (listed (min one.size config.chunk) (order_of w.observer one.handle.0) (one.ends).0 (one.ends).1 (one.ends).2 (one.ends).4);
      ends = subst (λ (n : ℕ). HasFullEnd n (order_of w.observer one.handle.0) one.version.0) (sym slot_is) one.ends;
    }
  where
    one : IsEnded config.chunk w (data_id client number)
    one =
        subst (λ (n : Node). IsCaused (IsEnded config.chunk w) (body.Refused number ChunkFull) n) receiver
        (subst (λ (b : Body). IsCaused (IsEnded config.chunk w) b m.receiver) is ((sound_reached config servers clients some w r kept).told place m at))

    slot_is : min one.size w.config.chunk ≡ min one.size config.chunk
    slot_is = ap (λ (c : Config). min one.size c.chunk) (settings_stay config servers clients w r)
