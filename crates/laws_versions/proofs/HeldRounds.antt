-- In each reached world each entry of the round of a lease that is held ends within the bytes of its server's replica.
use Rattle.std.proofs.Common.{◌≡◌, ℕ, suc, ◌+◌, ◌-◌, ◌≤◌, List, [], length, replicate, Option, Some, None, refl, sym, ap, subst, ◌∙◌, inl, inr, arith}
use Rattle.std.specs.Prelude.{unwrap_or}
use Rattle.std.specs.Ordering.{nat_cmp}
use Rattle.std.proofs.Math.Nat.{le-max_right}
use Rattle.std.specs.FinMap as table
use Rattle.gfs_types.specs.declared.config.Config.{Config}
use Rattle.gfs_types.specs.declared.ids.DataId.{DataId}
use Rattle.gfs_types.specs.declared.ids.Handle.{Handle}
use Rattle.gfs_types.specs.declared.ids.Version.{Version}
use Rattle.gfs_types.specs.declared.ids.Serial.{Serial}
use Rattle.gfs_types.specs.declared.mutation.Mutation.{Mutation}
use Rattle.gfs_types.specs.declared.mutation.Mutation.TheVariants.{Write, Append, Pad}
use Rattle.gfs_types.specs.Mutations.{end_of}
use Rattle.messages.specs.declared.event.Event.{Event}
use Rattle.messages.specs.declared.event.NodeInput.{NodeInput}
use Rattle.messages.specs.declared.event.NodeInput.TheVariants as input
use Rattle.laws_base.proofs.Rots.{rot_held, rot_disk, rotten_disk}
use Rattle.primary_order.specs.SerialOrder.{SerialOrder}
use Rattle.replica_store.specs.Replicas.{Replica, replica_of, rotten_replica, ServerDisk, disk_changed}
use Rattle.relaxed_file.specs.Run.{Visible}
use Rattle.protocol.specs.Tables.{Table, element_at, with_at}
use Rattle.protocol.specs.Sending.{the_server}
use Rattle.protocol.specs.Choice.{Choice, Ending, Goes, Lost, Stops}
use Rattle.protocol.specs.declared.seen.Seen.{Seen}
use Rattle.protocol.specs.declared.seen.Seen.TheVariants.{Numbered, BecameSettled, CopyStarted}
use Rattle.protocol.specs.Observer.{Placed, observed_moment, placed_in, orders_after_all}
use Rattle.protocol.specs.Server.{chunk_limit, ServerState}
use Rattle.protocol.specs.ServerStep.{server_step, server_restarts, server_restart}
use Rattle.protocol.specs.MasterStep.{master_step}
use Rattle.protocol.specs.ClientStep.{client_step, client_call}
use Rattle.protocol.specs.World.{WorldState, new_world, IsReached, after_rot}
use Rattle.laws_base.proofs.Steps.{none_some, same_some, put_cases}
use Rattle.laws_base.proofs.Entries.{AllOf}
use Rattle.laws_base.proofs.MembersRecorded.{all_at}
use Rattle.laws_base.proofs.SentReached.{sent_reached}
use Rattle.laws_base.proofs.ScenesReached.{IsSentTo}
use Rattle.laws_base.proofs.LeasesTold.{CameTo, came_in, versions_have_one_primary}
use Rattle.laws_base.proofs.Events.{IsGiven, HoldsAfter, rot_of}
use Rattle.laws_base.proofs.MasterTalks.{restart_shown}
use Rattle.laws_base.specs.ChunkOrders.{unsettled}
use Rattle.laws_base.proofs.Placing.{all_placed, Holds, AreAll, all_keep, same_orders}
use Rattle.laws_base.proofs.Numbering.{restarted_shown}
use Rattle.laws_base.specs.Replicas.{IsPlacedBehind, IsPlacedByReplica, applied, IsApplied}
use Rattle.laws_base.proofs.Lengths.{length-alike}
use Rattle.laws_base.proofs.HeldReplicas.{leases_have_their_replica}
use Rattle.laws_base.proofs.Placings.{mutations_are_placed_by_replicas}
use Rattle.laws_base.proofs.Applied.{primaries_apply_what_they_number}
use Rattle.laws_base.proofs.Changes.{replicas_change_in_serial_order}
use Rattle.laws_base.proofs.WaitsKept.{IsOfWaits, waits_kept}
use Rattle.laws_base.proofs.CopiesBegun.{step_shows}
use Rattle.laws_base.proofs.RoundsPassed.{IsOfServers, server_shown, unused_is_new}
use Rattle.laws_base.proofs.RisingRounds.{put_all, held_reached}
use Rattle.laws_base.proofs.CountedRounds.{set_split, comes_in}
use Rattle.laws_versions.specs.HeldRounds.{ComesBehind, HeldRoundsAreApplied, RecordsComeBehindTheirRound}
use Rattle.laws_versions.proofs.HadLeases.{step_known, no_new_grant}
use Rattle.leases.specs.LeaseHeld.{LeaseHeld}

-- what is written ends within the replica
applied_reach : (block serial : ℕ) (m : Mutation) (r : Replica) → end_of m ≤ (applied block serial m r).count
applied_reach block serial (Write offset bytes) r = le-max_right r.count (offset + length bytes)
applied_reach block serial (Append offset bytes) r = le-max_right r.count (offset + length bytes)
applied_reach block serial (Pad offset end) r =
    let reach = le-max_right r.count (offset + length {A = ℕ} (replicate (end - offset) 0)) in
    let alike = length-alike (end - offset) 0 in
    omega (arith, reach, alike)

-- The entry ends within the replica of each server that holds a lease of its round.
abbrev IsHeldBy : List ServerState → ℕ → Placed → Type 0
IsHeldBy servers handle e =
    (index : ℕ) (s : ServerState) → element_at servers index ≡ Some s → (p : SerialOrder) → table.get s.leases handle ≡ Some p → e.entry.round ≡ p.held.version
    → (r : Replica) → replica_of s.disk handle ≡ Some r → end_of e.entry.mutation ≤ r.count

-- what is delivered to a server was sent to it
sent_to : (w : WorldState) (e : Event) (server moment : ℕ) (i : NodeInput) → IsGiven w e (the_server server) moment i → IsSentTo w.sent (the_server server) i
sent_to w e server moment (input.Deliver m) given = comes_in w e server moment (input.Deliver m) given m refl
sent_to w e server moment input.Tick given = tt

module _ (config : Config) (servers clients : ℕ) (w : WorldState) (r : IsReached config servers clients w) where
  module _ (h : AreAll (IsHeldBy w.servers) w.observer.orders) where
    base : IsOfWaits w.sent w.master
    base = sent_reached IsOfWaits waits_kept config servers clients w r

    master_held : (trace : List Visible) (moment : ℕ) (i : NodeInput) (choice : Choice) → AreAll (IsHeldBy w.servers) (orders_after_all trace w.observer.orders (master_step w.master moment i choice).seen)
    master_held trace moment i choice =
        elim (step_shows w.master moment i choice base.base.logged base.waits) [
          | inl none ↦ subst (λ (xs : List Seen). AreAll (IsHeldBy w.servers) (orders_after_all trace w.observer.orders xs)) (sym none) h
          | inr shows ↦ subst (λ (xs : List Seen). AreAll (IsHeldBy w.servers) (orders_after_all trace w.observer.orders xs)) (sym shows.seen)
              (put_all (IsHeldBy w.servers) w.observer.orders shows.copy (placed_in w.observer.orders shows.source) h
              (all_placed (Holds (IsHeldBy w.servers) shows.copy) (placed_in w.observer.orders shows.source)
              (λ place e at index s there p is. none_some p (sym ((unused_is_new config servers clients w r shows.up shows.copy shows.new).leased index s there) ∙ is))))
        ]

    -- servers that changed, of entries that were there
    placed_on : (U : ℕ → Placed → Type 0) → ((handle place : ℕ) (e : Placed) → element_at (placed_in w.observer.orders handle) place ≡ Some e → IsHeldBy w.servers handle (unsettled e) → U handle (unsettled e)) → AreAll U w.observer.orders
    placed_on U go handle =
        all_placed (Holds U handle) (placed_in w.observer.orders handle)
        (λ place e at. go handle place e at (all_at (Holds (IsHeldBy w.servers) handle) (placed_in w.observer.orders handle) place e (h handle) at))

    one_server : (index : ℕ) (s t : ServerState) → element_at w.servers index ≡ Some s
        → ((handle place : ℕ) (e : Placed) → element_at (placed_in w.observer.orders handle) place ≡ Some e → (p : SerialOrder) → table.get t.leases handle ≡ Some p → e.entry.round ≡ p.held.version
        → (x : Replica) → replica_of t.disk handle ≡ Some x → IsHeldBy w.servers handle (unsettled e) → end_of e.entry.mutation ≤ x.count)
        → AreAll (IsHeldBy (with_at w.servers index t)) w.observer.orders
    one_server index s t at go =
        placed_on (IsHeldBy (with_at w.servers index t))
        (λ handle place e there was other u is p lease round x replica. elim (set_split w.servers index t other u is) [
          | inl both ↦ go handle place e there p (ap (λ (y : ServerState). table.get y.leases handle) (sym both.1) ∙ lease) round x (ap (λ (y : ServerState). replica_of y.disk handle) (sym both.1) ∙ replica) was
          | inr apart ↦ was other u apart.1 p lease round x replica
        ])

    module _ (e : Event) (index moment : ℕ) (s : ServerState) (i : NodeInput) (choice : Choice) (at : element_at w.servers index ≡ Some s) (given : IsGiven w e (the_server (suc index)) moment i) where
      abbrev t : ServerState
      t = (server_step s moment i choice).state

      old_held : AreAll (IsHeldBy (with_at w.servers index (server_step s moment i choice).state)) w.observer.orders
      old_held =
          one_server index s (server_step s moment i choice).state at
          (λ handle place x there p lease round now replica was.
          elim (step_known handle p.held.version (CameTo w.sent (suc index)) s moment i choice (came_in w.sent (suc index) i (sent_to w e (suc index) moment i given)) p lease refl) [
            | inl had ↦
                let before = leases_have_their_replica config servers clients w r index s at handle had.0 had.1 in
                let long = (replicas_change_in_serial_order s moment i choice handle before.0 now before.1 replica).0 in
                let low = was index s at had.0 had.1 (round ∙ sym had.2) before.0 before.1 in
                omega (arith, long, low)
            | inr came ↦ absurd (no_new_grant config servers clients w r index s at handle p.held.version place x there round came)
          ])

      -- what it numbers it applies, or it has no lease
      new_held : (place : ℕ) (handle : Handle) (version : Version) (serial : Serial) (id : DataId) (m : Mutation) → element_at (server_step s moment i choice).seen place ≡ Some (Numbered handle version serial id m)
          → (other : ℕ) (u : ServerState) → element_at (with_at w.servers index (server_step s moment i choice).state) other ≡ Some u → (p : SerialOrder) → table.get u.leases handle.0 ≡ Some p → version.0 ≡ p.held.version
          → (now : Replica) → replica_of u.disk handle.0 ≡ Some now → end_of m ≤ now.count
      new_held place handle version serial id m seen other u is p lease round now replica =
          elim (set_split w.servers index t other u is) [
            | inl both ↦ elim (primaries_apply_what_they_number s moment i choice place handle version serial id m seen) [
              | inl none ↦ none_some p (sym none ∙ (ap (λ (y : ServerState). table.get y.leases handle.0) (sym both.1) ∙ lease))
              | inr done ↦ reach done (ap (λ (y : ServerState). replica_of y.disk handle.0) (sym both.1) ∙ replica)
            ]
            | inr apart ↦ absurd (apart.0 (sym (versions_have_one_primary config servers clients w r index other s u at apart.1 handle.0 by.lease p by.lease_is lease (sym by.version_is ∙ round))))
          ]
        where
          by : IsPlacedByReplica s handle.0 version.0 serial.0 id m
          by = mutations_are_placed_by_replicas config servers clients w r index s at moment i choice place handle version serial id m seen

          reach : IsApplied s.disk (server_step s moment i choice).state.disk handle.0 serial.0 m → replica_of (server_step s moment i choice).state.disk handle.0 ≡ Some now → end_of m ≤ now.count
          reach done there =
              subst (λ (x : Replica). end_of m ≤ x.count) (same_some (applied s.disk.block serial.0 m done.0) now (sym done.2 ∙ there))
              (applied_reach s.disk.block serial.0 m done.0)

      abbrev IsSeenNow : Seen → Type 0
      IsSeenNow (Numbered handle version serial id m) =
          (other : ℕ) (u : ServerState) → element_at (with_at w.servers index (server_step s moment i choice).state) other ≡ Some u → (p : SerialOrder) → table.get u.leases handle.0 ≡ Some p → version.0 ≡ p.held.version
          → (now : Replica) → replica_of u.disk handle.0 ≡ Some now → end_of m ≤ now.count
      IsSeenNow (BecameSettled handle version serial) = Unit {0}
      IsSeenNow (CopyStarted handle copy) = ⊥

      server_held : (trace : List Visible) → AreAll (IsHeldBy (with_at w.servers index (server_step s moment i choice).state)) (orders_after_all trace w.observer.orders (server_step s moment i choice).seen)
      server_held trace =
          all_keep trace IsSeenNow (IsHeldBy (with_at w.servers index (server_step s moment i choice).state))
          (record { numbers = λ handle version serial id m now. now; copies = λ handle copy now p u. absurd now })
          w.observer.orders (server_step s moment i choice).seen
          (all_placed IsSeenNow (server_step s moment i choice).seen (λ place y there. one place y there (all_at IsOfServers (server_step s moment i choice).seen place y (server_shown s moment i choice) there))) old_held
        where
          one : (place : ℕ) (y : Seen) → element_at (server_step s moment i choice).seen place ≡ Some y → IsOfServers y → IsSeenNow y
          one place (Numbered handle version serial id m) there is = new_held place handle version serial id m there
          one place (BecameSettled handle version serial) there is = tt
          one place (CopyStarted handle copy) there is = absurd is

    restarted : (index moment : ℕ) (s : ServerState) (choice : Choice) (e : Ending) → element_at w.servers index ≡ Some s → AreAll (IsHeldBy (with_at w.servers index (server_restarts s moment choice e).state)) w.observer.orders
    restarted index moment s choice e at = one_server index s (server_restarts s moment choice e).state at (λ handle place x there p lease round now replica was. none_some p (sym (by_ending e handle) ∙ lease))
      where
        by_ending : (f : Ending) (handle : ℕ) → table.get (server_restarts s moment choice f).state.leases handle ≡ None
        by_ending Goes handle = table.get-empty nat_cmp handle
        by_ending Lost handle = table.get-empty nat_cmp handle
        by_ending (Stops made) handle = table.get-empty nat_cmp handle

    -- each replica of this handle reaches so far
    abbrev Reaches : ℕ → ℕ → ServerDisk → Type 0
    Reaches handle end d = (y : Replica) → replica_of d handle ≡ Some y → end ≤ y.count

    rotten_reach : (d : ServerDisk) (q : ℕ) (x : Replica) (place byte : ℕ) → replica_of d q ≡ Some x → (handle end : ℕ) → Reaches handle end d → Reaches handle end (disk_changed d (rot_of q place byte))
    rotten_reach d q x place byte there handle end reach =
        subst (Reaches handle end) (sym (rotten_disk d q x place byte there))
        (λ y is. elim (put_cases d.replicas q (rotten_replica x place byte) handle y is) [
          | inl same ↦ subst (λ (z : Replica). end ≤ z.count) same.1 (reach x (ap (λ (k : ℕ). replica_of d k) same.0 ∙ there))
          | inr before ↦ reach y before
        ])

    rotten : (index q : ℕ) (s : ServerState) (x : Replica) (place byte : ℕ) (ending : Ending) → element_at w.servers index ≡ Some s → replica_of s.disk q ≡ Some x
        → AreAll (IsHeldBy (with_at w.servers index (after_rot s (rot_of q place byte) ending))) w.observer.orders
    rotten index q s x place byte ending at there =
        one_server index s (after_rot s (rot_of q place byte) ending) at
        (λ handle n e here p lease round now replica was.
        let held = rot_held s (rot_of q place byte) ending handle p lease in
        let reach : Reaches handle (end_of e.entry.mutation) s.disk = was index s at held.0 held.1 (round ∙ ap (λ (l : LeaseHeld). l.version) (sym held.2)) in
        rot_disk (Reaches handle (end_of e.entry.mutation)) s (rot_of q place byte) ending reach (rotten_reach s.disk q x place byte there handle (end_of e.entry.mutation) reach) now replica)

    each_held : HoldsAfter w (λ e x. AreAll (IsHeldBy x.world.servers) x.world.observer.orders)
    each_held =
        record {
          nothing = λ e. h;
          masters = λ e moment i choice is up. master_held (observed_moment w.config.skew_ms w.observer moment).trace moment i choice;
          opens = λ e moment choice.
              subst (λ (xs : List Seen). AreAll (IsHeldBy w.servers) (orders_after_all (observed_moment w.config.skew_ms w.observer moment).trace w.observer.orders xs)) (sym (restart_shown w.master moment choice)) h;
          serves = λ e index moment s i choice at is up. server_held e index moment s i choice at is (observed_moment w.config.skew_ms w.observer moment).trace;
          restarts = λ e index moment s choice at.
              subst (λ (xs : List Seen). AreAll (IsHeldBy (with_at w.servers index (server_restart s moment choice).state)) (orders_after_all (observed_moment w.config.skew_ms w.observer moment).trace w.observer.orders xs))
              (sym (restarted_shown s moment choice choice.ending)) (restarted index moment s choice choice.ending at);
          steps = λ e index moment s i choice at is up. subst (λ (orders : Table (List Placed)). AreAll (IsHeldBy w.servers) orders) (sym (same_orders _ (suc index) (client_step s moment i choice).out.answer)) h;
          calls = λ e index moment s c choice at may. subst (λ (orders : Table (List Placed)). AreAll (IsHeldBy w.servers) orders) (sym (same_orders _ (suc index) (client_call s moment c choice).out.answer)) h;
          rots = λ e index q s x place byte ending is_kept at there up. rotten index q s x place byte ending at there;
        }

-- the laws

abbrev AreHeld : WorldState → Type 0
AreHeld w = AreAll (IsHeldBy w.servers) w.observer.orders

none_placed : (T : ℕ → Placed → Type 0) → AreAll T table.empty
none_placed T handle = subst (λ (o : Option (List Placed)). AllOf (Holds T handle) (unwrap_or o [])) (sym (table.get-empty nat_cmp handle)) tt

-- an entry of the round of a lease ends within the replica
ends_within : (config : Config) (servers clients : ℕ) (w : WorldState) → IsReached config servers clients w → (handle place : ℕ) (e : Placed) → element_at (placed_in w.observer.orders handle) place ≡ Some e → IsHeldBy w.servers handle (unsettled e)
ends_within config servers clients w r handle place e at =
    all_at (Holds (IsHeldBy w.servers) handle) (placed_in w.observer.orders handle) place e
    (held_reached AreHeld each_held config servers clients (none_placed (IsHeldBy (new_world config servers clients).servers)) w r handle) at

pub held_rounds_are_applied : HeldRoundsAreApplied
held_rounds_are_applied config servers clients w r index s at handle p is place e there round =
    let replica = leases_have_their_replica config servers clients w r index s at handle p is in
    (replica.0, replica.1, replica.2, ends_within config servers clients w r handle place e there index s at p is round replica.0 replica.1)

pub records_come_behind_their_round : RecordsComeBehindTheirRound
records_come_behind_their_round config servers clients w r index s at moment i choice shown handle version serial id m seen place e there round = behind m by.placed
  where
    by : IsPlacedByReplica s handle.0 version.0 serial.0 id m
    by = mutations_are_placed_by_replicas config servers clients w r index s at moment i choice shown handle version serial id m seen

    low : end_of e.entry.mutation ≤ (by.replica).count
    low = ends_within config servers clients w r handle.0 place e there index s at by.lease by.lease_is (round ∙ by.version_is) by.replica by.replica_is

    behind : (x : Mutation) → IsPlacedBehind (chunk_limit s (by.lease).chunk) (by.replica).count by.bytes x → ComesBehind (end_of e.entry.mutation) x
    behind (Write offset bytes) placed = tt
    behind (Append offset bytes) placed = let start = placed.1 in let bound = low in omega (arith, start, bound)
    behind (Pad offset end) placed = let start = placed.0 in let bound = low in omega (arith, start, bound)
