-- In each reached world, no mutation waits at a primary under the serial of a settled entry of the lease's round.
use Rattle.std.proofs.Common.{◌≡◌, ℕ, suc, ◌+◌, ◌≤◌, ◌<◌, Bool, true, false, List, [], Option, Some, None, refl, sym, ap, subst, ◌∙◌, inl, inr, arith}
use Rattle.std.specs.Prelude.{unwrap_or, IsTrue}
use Rattle.std.specs.Ordering.{nat_cmp}
use Rattle.std.specs.FinMap as table
use Rattle.gfs_types.specs.declared.config.Config.{Config}
use Rattle.gfs_types.specs.declared.ids.Handle.{Handle}
use Rattle.gfs_types.specs.declared.ids.Version.{Version}
use Rattle.gfs_types.specs.declared.ids.Moment.{Moment}
use Rattle.gfs_types.specs.declared.ids.OrderNo.{OrderNo}
use Rattle.gfs_types.specs.declared.refusal.Refusal.{Refusal}
use Rattle.messages.specs.declared.event.Event.{Event}
use Rattle.messages.specs.declared.event.NodeInput.{NodeInput}
use Rattle.messages.specs.declared.event.NodeInput.TheVariants as input
use Rattle.messages.specs.declared.message.Message.{Message}
use Rattle.laws_base.proofs.Rots.{rot_leases}
use Rattle.primary_order.specs.declared.waiting.Waiting.{Waiting}
use Rattle.primary_order.specs.PrimaryOrder.{is_last, less_member, waiting_by}
use Rattle.primary_order.specs.SerialOrder.{SerialOrder, refused_by}
use Rattle.relaxed_file.specs.Run.{Visible}
use Rattle.replica_store.specs.Replicas.{is_new_order}
use Rattle.protocol.specs.Tables.{Table, element_at, with_at}
use Rattle.protocol.specs.Sending.{the_server, handle_of, version_of, serial_of}
use Rattle.protocol.specs.Choice.{Choice, Ending, Goes, Lost, Stops}
use Rattle.protocol.specs.Seen.{Taken, no_step}
use Rattle.protocol.specs.declared.seen.Seen.{Seen}
use Rattle.protocol.specs.declared.seen.Seen.TheVariants.{Numbered, BecameSettled, CopyStarted}
use Rattle.protocol.specs.Observer.{Placed, observed_moment, placed_in, order_of, orders_after_all}
use Rattle.protocol.specs.Server.{ServerState, ServerDoing}
use Rattle.protocol.specs.ServerStep.{server_at, server_goes, server_ends, server_step, server_restarts, server_restart}
use Rattle.protocol.specs.MasterStep.{master_step, master_restart}
use Rattle.protocol.specs.ClientStep.{client_step, client_call}
use Rattle.protocol.specs.World.{WorldState, new_world, IsReached, after_rot}
use Rattle.laws_base.proofs.LeaseOrders.{SaysGrant, named_grant}
use Rattle.laws_base.specs.Laws.{is_grant, grants_of}
use Rattle.laws_base.proofs.Steps.{on_cond, none_some, same_some, put_cases, kept_cases}
use Rattle.laws_base.proofs.SentReached.{sent_reached}
use Rattle.laws_base.proofs.RevokesNumbered.{Agrees, IsOfRevokes, revokes_kept}
use Rattle.laws_base.proofs.ScenesReached.{scene_reached}
use Rattle.laws_base.proofs.LeasesTold.{AreTold, new_not_stale, IsToldServer, told_kept, granting, versions_have_one_primary}
use Rattle.laws_base.proofs.Events.{IsGiven, HoldsAfter, rot_of}
use Rattle.laws_base.proofs.MasterTalks.{restart_shown}
use Rattle.laws_base.proofs.KnownNumbers.{primary_there}
use Rattle.laws_base.proofs.Placing.{same_orders}
use Rattle.laws_base.proofs.Numbering.{restarted_shown}
use Rattle.laws_base.proofs.OrderWalk.{KeepsOrders, AreFit, does_fit}
use Rattle.laws_base.proofs.RoundSerials.{entry_counts}
use Rattle.laws_base.proofs.RoundsPassed.{server_shown}
use Rattle.laws_base.proofs.RisingRounds.{held_reached}
use Rattle.laws_base.proofs.SentGrants.{counted_one}
use Rattle.laws_base.proofs.CountedRounds.{set_split, comes_in, IsCounted, taken_stale, all_counted}
use Rattle.laws_versions.specs.WaitingMutations.{IsAcknowledgedByAll, WaitingMutationsAreNotSettled}
use Rattle.laws_versions.proofs.Acknowledging.{settled_mutations_were_acknowledged}
use Rattle.laws_versions.proofs.SettledNow.{IsSettling, settled_cases}
use Rattle.laws_versions.proofs.StillOrders.{used_still}

-- this serial was given, and no mutation waits under it
abbrev IsOff : ℕ → SerialOrder → Type 0
IsOff n p = (n ≤ p.serial) × ((x : Waiting) → table.get p.waiting n ≡ Some x → ⊥)

refused_off : (n : ℕ) (p : SerialOrder) (refusal : Refusal) (o : Option Waiting) → IsOff n p → IsOff n (refused_by p refusal o)
refused_off n p refusal None h = h
refused_off n p refusal (Some y) h = h

acknowledged_off : (n : ℕ) (waiting : Table Waiting) (server serial : ℕ) (o : Option Waiting) → table.get waiting serial ≡ o → ((x : Waiting) → table.get waiting n ≡ Some x → ⊥) → (x : Waiting) → table.get (waiting_by waiting serial server o) n ≡ Some x → ⊥
acknowledged_off n waiting server serial None is h = h
acknowledged_off n waiting server serial (Some y) is h =
    on_cond (λ (t : Table Waiting). (x : Waiting) → table.get t n ≡ Some x → ⊥) (is_last server y) (table.remove waiting serial) (table.insert waiting serial (less_member server y)) (λ _ x at. h x (kept_cases waiting serial n x at))
    (λ _ x at. elim (put_cases waiting serial (less_member server y) n x at) [
      | inl now ↦ h y (ap (λ (k : ℕ). table.get waiting k) now.0 ∙ is)
      | inr before ↦ h x before
    ])

off_keeps : (n : ℕ) → KeepsOrders (IsOff n)
off_keeps n =
    record {
      numbers = λ p id place new h. (
        let low = h.0 in omega (arith, low),
        λ x at. elim (put_cases p.waiting (p.serial + 1) (record { client = id.client; seq = id.seq; members = p.held.members; place = place }) n x at) [
          | inl now ↦ let one = now.0 in let low = h.0 in omega (arith, one, low)
          | inr before ↦ h.1 x before
        ],
      );
      denies = λ p id refusal new h. h;
      acknowledges = λ p server serial h. (h.0, acknowledged_off n p.waiting server serial (table.get p.waiting serial) refl h.1);
      refuses = λ p refusal o h. refused_off n p refusal o h;
      extends = λ p skew until now h. h;
      reports = λ p h. h;
    }

none_off : (n handle version : ℕ) → AreFit (IsOff n) handle version table.empty
none_off n handle version p is same = none_some p (sym (table.get-empty nat_cmp handle) ∙ is)

-- no lease of the round of a settled entry has a mutation that waits under its serial
abbrev AreUnsettled : List ServerState → Table (List Placed) → Type 0
AreUnsettled servers orders =
    (handle place : ℕ) (q : Placed) → element_at (placed_in orders handle) place ≡ Some q → q.entry.settled ≡ true → (index : ℕ) (s : ServerState) → element_at servers index ≡ Some s → AreFit (IsOff q.serial) handle q.entry.round s.leases

abbrev Unsettled : WorldState → Type 0
Unsettled w = AreUnsettled w.servers w.observer.orders

module _ (config : Config) (servers clients : ℕ) (w : WorldState) (r : IsReached config servers clients w) (h : Unsettled w) where
  -- the handle of a lease was used
  used : (index : ℕ) (s : ServerState) → element_at w.servers index ≡ Some s → (handle : ℕ) (p : SerialOrder) → table.get s.leases handle ≡ Some p → IsTrue w.master.up → handle < w.master.logged.next_handle
  used index s at handle p held up =
      let told : IsToldServer w.sent index s = scene_reached AreTold told_kept config servers clients w r index s at in
      let lease = told.told handle p held in
      let agrees : Agrees w.sent w.master.logged = (sent_reached IsOfRevokes revokes_kept config servers clients w r).revokes.up up in
      (agrees.used lease.grant (lease.place, lease.at)).0 lease.order (handle_of handle) (version_of p.held.version) lease.end_moment p.held.members lease.is

  same_unsettled : (orders : Table (List Placed)) → orders ≡ w.observer.orders → AreUnsettled w.servers orders
  same_unsettled orders same = subst (λ (t : Table (List Placed)). AreUnsettled w.servers t) (sym same) h

  -- one server that goes on with leases that are fit
  one_unsettled : (index : ℕ) (t : ServerState) → ((handle place : ℕ) (q : Placed) → element_at (order_of w.observer handle) place ≡ Some q → q.entry.settled ≡ true → AreFit (IsOff q.serial) handle q.entry.round t.leases)
      → AreUnsettled (with_at w.servers index t) w.observer.orders
  one_unsettled index t new handle place q there settled other u at =
      elim (set_split w.servers index t other u at) [
        | inl both ↦ subst (λ (x : ServerState). AreFit (IsOff q.serial) handle q.entry.round x.leases) (sym both.1) (new handle place q there settled)
        | inr apart ↦ h handle place q there settled other u apart.1
      ]

  master_unsettled : (trace : List Visible) (moment : ℕ) (i : NodeInput) (choice : Choice) → AreUnsettled w.servers (orders_after_all trace w.observer.orders (master_step w.master moment i choice).seen)
  master_unsettled trace moment i choice handle place q there settled index s at p held same =
      h handle place q (ap (λ (ps : List Placed). element_at ps place) (sym (used_still config servers clients w r trace moment i choice handle (used index s at handle p held))) ∙ there) settled index s at p held same

  -- a server's step

  module _ (e : Event) (index moment : ℕ) (s : ServerState) (i : NodeInput) (choice : Choice) (at : element_at w.servers index ≡ Some s) (given : IsGiven w e (the_server (suc index)) moment i) where
    abbrev t : ServerState
    t = (server_step s moment i choice).state

    came : (m : Message) → i ≡ input.Deliver m → (place : ℕ) × (element_at w.sent place ≡ Some m)
    came m is = let there = comes_in w e (suc index) moment i given m is in (there.0, there.1)

    module _ (handle version n : ℕ) where
      abbrev Fit : Table SerialOrder → Type 0
      Fit leases = AreFit (IsOff n) handle version leases

      -- a round that has an entry is granted to no server anew
      none_granted : (place : ℕ) (q : Placed) → element_at (order_of w.observer handle) place ≡ Some q → q.entry.round ≡ version
          → (m : Message) (order : OrderNo) (k : Handle) (v : Version) (end_moment : Moment) (members : List ℕ) → i ≡ input.Deliver m → SaysGrant order k v end_moment members m.body → is_new_order s.disk order.epoch order.count ≡ true → k.0 ≡ handle
          → v.0 ≡ version → ⊥
      none_granted place q there round m order k v end_moment members is asked new key number =
          let sent = comes_in w e (suc index) moment i given m is in
          let counted : IsCounted handle version w.sent w.servers (placed_in w.observer.orders handle) = all_counted config servers clients w r handle version in
          let body_is : SaysGrant order (handle_of handle) (version_of version) end_moment members m.body =
          named_grant asked key number in
          let granted : 1 ≤ grants_of handle version w.sent = counted_one (λ x. is_grant handle version x.body) w.sent m sent.0 sent.1 (granting order handle version end_moment members m.body body_is) in
          let some : 1 ≤ counted.count = entry_counts version (placed_in w.observer.orders handle) place q there round counted.count counted.serials in
          new_not_stale s.disk order new (taken_stale config servers clients w r handle version index s at order end_moment members m sent.0 sent.1 sent.2 body_is (counted.taken some granted))

      ends_off : (d : ServerDoing) (f : Ending) → Fit d.server.leases → Fit (server_ends s d choice f).state.leases
      ends_off d Goes g = g
      ends_off d Lost g = none_off n handle version
      ends_off d (Stops made) g = none_off n handle version

      -- of an entry that was settled before
      before_off : (place : ℕ) (q : Placed) → element_at (order_of w.observer handle) place ≡ Some q → q.entry.round ≡ version → ((other : ℕ) (u : ServerState) → element_at w.servers other ≡ Some u → Fit u.leases) → Fit (server_step s moment i choice).state.leases
      before_off place q there round all =
          on_cond (λ (x : Taken ServerState). Fit x.state.leases) s.up (server_ends s (server_goes s moment i) choice choice.ending) (no_step s)
          (λ _. ends_off (server_goes s moment i) choice.ending (does_fit (IsOff n) (off_keeps n) handle version (server_at s moment) i (none_granted place q there round) i refl (all index s at))) (λ _. all index s at)

      -- of an entry that became settled in the step
      now_off : (shown : ℕ) → element_at (server_step s moment i choice).seen shown ≡ Some (BecameSettled (handle_of handle) (version_of version) (serial_of n)) → (other : ℕ) (u : ServerState) → element_at (with_at w.servers index t) other ≡ Some u → Fit u.leases
      now_off shown seen other u there =
          elim (set_split w.servers index t other u there) [
            | inl both ↦ subst (λ (x : ServerState). Fit x.leases) (sym both.1) (λ p held same. subst (IsOff n) (same_some acked.later p (sym acked.held ∙ held)) (acked.given.1, λ x waits. none_some x (sym acked.gone ∙ waits)))
            | inr apart ↦ λ p held same. absurd (apart.0 (sym (versions_have_one_primary config servers clients w r index other s u at apart.1 handle acked.lease p lease.0 held (lease.1 ∙ sym same))))
          ]
        where
          acked : IsAcknowledgedByAll w.sent (suc index) (server_at s moment) (server_step s moment i choice).state handle version n
          acked = settled_mutations_were_acknowledged config servers clients w r index s at moment i choice came shown (handle_of handle) (version_of version) (serial_of n) seen

          lease : (table.get s.leases handle ≡ Some acked.lease) × (acked.lease.held.version ≡ version)
          lease = primary_there (server_at s moment) version (table.get s.leases handle) acked.lease acked.counts

      step_off : (place : ℕ) (q : Placed) → element_at (order_of w.observer handle) place ≡ Some q → q.entry.round ≡ version → ((other : ℕ) (u : ServerState) → element_at w.servers other ≡ Some u → Fit u.leases)
          → (other : ℕ) (u : ServerState) → element_at (with_at w.servers index t) other ≡ Some u → Fit u.leases
      step_off place q there round all other u at_u =
          elim (set_split w.servers index t other u at_u) [
            | inl both ↦ subst (λ (x : ServerState). Fit x.leases) (sym both.1) (before_off place q there round all)
            | inr apart ↦ all other u apart.1
          ]

    shown_as : (handle : ℕ) (q : Placed) (shown : ℕ) (x : Seen) → element_at (server_step s moment i choice).seen shown ≡ Some x → IsSettling handle q x
        → element_at (server_step s moment i choice).seen shown ≡ Some (BecameSettled (handle_of handle) (version_of q.entry.round) (serial_of q.serial))
    shown_as handle q shown (BecameSettled k v m) seen is =
        seen
        ∙ (ap (λ (x : ℕ). Some (BecameSettled (handle_of x) v m)) is.0
        ∙ (ap (λ (x : ℕ). Some (BecameSettled (handle_of handle) (version_of x) m)) is.1
        ∙ ap (λ (x : ℕ). Some (BecameSettled (handle_of handle) (version_of q.entry.round) (serial_of x))) is.2))
    shown_as handle q shown (Numbered k v m id c) seen is = absurd is
    shown_as handle q shown (CopyStarted k copy) seen is = absurd is

    server_unsettled : (trace : List Visible) → AreUnsettled (with_at w.servers index t) (orders_after_all trace w.observer.orders (server_step s moment i choice).seen)
    server_unsettled trace handle place q there settled =
        elim (settled_cases handle trace w.observer.orders (server_step s moment i choice).seen (server_shown s moment i choice) place q there settled) [
          | inl was ↦
              step_off handle q.entry.round q.serial was.0 was.1 was.2 was.4
              (λ other u at_u. subst (λ (k : ℕ). AreFit (IsOff k) handle q.entry.round u.leases) was.5 (subst (λ (k : ℕ). AreFit (IsOff (was.1).serial) handle k u.leases) was.4 (h handle was.0 was.1 was.2 was.3 other u at_u)))
          | inr now ↦ now_off handle q.entry.round q.serial now.0 (shown_as handle q now.0 now.1 now.2 now.3)
        ]

  restarted : (index moment : ℕ) (s : ServerState) (choice : Choice) (f : Ending) → AreUnsettled (with_at w.servers index (server_restarts s moment choice f).state) w.observer.orders
  restarted index moment s choice Goes = one_unsettled index _ (λ handle place q there settled. none_off q.serial handle q.entry.round)
  restarted index moment s choice Lost = one_unsettled index _ (λ handle place q there settled. none_off q.serial handle q.entry.round)
  restarted index moment s choice (Stops made) = one_unsettled index _ (λ handle place q there settled. none_off q.serial handle q.entry.round)

  each_unsettled : HoldsAfter w (λ e x. Unsettled x.world)
  each_unsettled =
      record {
        nothing = λ e. h;
        masters = λ e moment i choice is up. master_unsettled (observed_moment w.config.skew_ms w.observer moment).trace moment i choice;
        opens = λ e moment choice.
            same_unsettled (orders_after_all (observed_moment w.config.skew_ms w.observer moment).trace w.observer.orders (master_restart w.master moment choice).seen)
            (ap (λ (xs : List Seen). orders_after_all (observed_moment w.config.skew_ms w.observer moment).trace w.observer.orders xs) (restart_shown w.master moment choice));
        serves = λ e index moment s i choice at is up. server_unsettled e index moment s i choice at is (observed_moment w.config.skew_ms w.observer moment).trace;
        restarts = λ e index moment s choice at.
            subst (λ (xs : List Seen). AreUnsettled (with_at w.servers index (server_restart s moment choice).state) (orders_after_all (observed_moment w.config.skew_ms w.observer moment).trace w.observer.orders xs)) (sym (restarted_shown s moment choice choice.ending))
            (restarted index moment s choice choice.ending);
        steps = λ e index moment s i choice at is up. same_unsettled _ (same_orders _ (suc index) (client_step s moment i choice).out.answer);
        calls = λ e index moment s c choice at may. same_unsettled _ (same_orders _ (suc index) (client_call s moment c choice).out.answer);
        rots = λ e index k s x place byte ending is_kept at there up. one_unsettled index (after_rot s (rot_of k place byte) ending)
            (λ handle other q here settled. rot_leases (λ ls. AreFit (IsOff q.serial) handle q.entry.round ls) s (rot_of k place byte) ending (h handle other q here settled index s at) (none_off q.serial handle q.entry.round));
      }

new_unsettled : (config : Config) (servers clients : ℕ) → Unsettled (new_world config servers clients)
new_unsettled config servers clients handle place q there settled = none_some q (sym (ap (λ (o : Option (List Placed)). element_at (unwrap_or o []) place) (table.get-empty nat_cmp handle)) ∙ there)

unsettled_reached : (config : Config) (servers clients : ℕ) (w : WorldState) → IsReached config servers clients w → Unsettled w
unsettled_reached config servers clients w r = held_reached Unsettled each_unsettled config servers clients (new_unsettled config servers clients) w r

-- the law

off_false : (b : Bool) → (b ≡ true → ⊥) → b ≡ false
off_false true h = absurd (h refl)
off_false false h = refl

pub waiting_mutations_are_not_settled : WaitingMutationsAreNotSettled
waiting_mutations_are_not_settled config servers clients w r index s at handle p held serial x waits place q there round number =
    off_false q.entry.settled (λ settled. (unsettled_reached config servers clients w r handle place q there settled index s at p held (sym round)).1 x (ap (λ (k : ℕ). table.get p.waiting k) number ∙ waits))
