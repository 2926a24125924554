-- In each reached world the serials of a round are counted from 1 on, and a lease of the round has as many.
use Rattle.std.proofs.Common.{◌≡◌, ◌⊎◌, ℕ, zero, suc, ◌+◌, ◌-◌, ◌≤◌, true, List, [], ◌∷◌, ◌++◌, length, Option, Some, None, refl, sym, ap, subst, ◌∙◌, inl, inr, arith}
use Rattle.std.specs.Prelude.{unwrap_or}
use Rattle.std.specs.Ordering.{nat_cmp}
use Rattle.std.specs.FinMap as table
use Rattle.gfs_types.specs.declared.config.Config.{Config}
use Rattle.gfs_types.specs.declared.ids.Handle.{Handle}
use Rattle.gfs_types.specs.declared.ids.Version.{Version}
use Rattle.gfs_types.specs.declared.ids.Moment.{Moment}
use Rattle.gfs_types.specs.declared.ids.OrderNo.{OrderNo}
use Rattle.messages.specs.declared.event.Event.{Event}
use Rattle.messages.specs.declared.event.Event.TheVariants as event
use Rattle.messages.specs.declared.event.NodeInput.{NodeInput}
use Rattle.messages.specs.declared.event.NodeInput.TheVariants as input
use Rattle.messages.specs.declared.message.Message.{Message}
use Rattle.replica_store.specs.Replicas.{is_new_order}
use Rattle.relaxed_file.specs.Run.{Visible}
use Rattle.protocol.specs.Tables.{Table, element_at, with_at, first_numbers}
use Rattle.protocol.specs.Sending.{the_server, handle_of, version_of, order_number}
use Rattle.protocol.specs.Choice.{Choice, Ending, Goes, Lost, Stops}
use Rattle.protocol.specs.declared.seen.Seen.{Seen}
use Rattle.protocol.specs.Observer.{Placed, observed_moment, placed_in, orders_after_all}
use Rattle.protocol.specs.Server.{ServerState}
use Rattle.protocol.specs.ServerStep.{server_step, server_restarts, server_restart}
use Rattle.protocol.specs.MasterStep.{master_step, master_restart}
use Rattle.protocol.specs.ClientStep.{client_step, client_call}
use Rattle.protocol.specs.World.{WorldState, stamped, new_world, IsReached, after_rot}
use Rattle.laws_base.specs.Laws.{is_grant, grants_of}
use Rattle.laws_base.proofs.Steps.{none_some, same_some, same_or_not, put_there, put_other}
use Rattle.laws_base.proofs.Entries.{AllOf}
use Rattle.laws_base.proofs.MembersRecorded.{kept_place, all_at}
use Rattle.laws_base.proofs.MessagesSent.{sent_cases, numbered_sent}
use Rattle.laws_base.proofs.RisingOrders.{Later, element_numbered, step_goes_on, restarts_as, rot_goes_on}
use Rattle.laws_base.proofs.GrantsOnce.{versions_are_granted_once}
use Rattle.laws_base.proofs.ScenesReached.{scene_reached}
use Rattle.laws_base.proofs.SentReached.{server_quiet, server_restarts_quiet, sent_reached}
use Rattle.laws_base.proofs.ClientMoves.{quiet_orders, client_quiet, call_quiet}
use Rattle.laws_base.proofs.LeasesTold.{AreTold, IsStaleAt, stale_later, new_not_stale, IsToldLease, IsToldServer, told_kept, same_grant, granting, server_numbers, versions_have_one_primary, numbered_from}
use Rattle.protocol.specs.Server.{started_server}
use Rattle.laws_base.proofs.LeaseOrders.{SaysGrant, named_grant, grant_number}
use Rattle.replica_store.specs.Replicas.{new_server_disk}
use Rattle.laws_base.proofs.Events.{IsGiven, HoldsAfter, rot_of}
use Rattle.laws_base.proofs.MasterTalks.{restart_shown}
use Rattle.laws_base.proofs.Placing.{same_orders}
use Rattle.laws_base.proofs.Numbering.{restarted_shown}
use Rattle.laws_base.proofs.OnceShown.{step_once}
use Rattle.laws_base.specs.Replicas.{IsPlacedByReplica}
use Rattle.laws_base.proofs.Placings.{mutations_are_placed_by_replicas}
use Rattle.laws_base.proofs.WaitsKept.{IsOfWaits, waits_kept}
use Rattle.laws_base.proofs.GrantsFollow.{GrantsAbove, step_passed}
use Rattle.laws_base.proofs.CopiesBegun.{ShowsCopy, step_shows}
use Rattle.laws_base.proofs.RoundsPassed.{server_shown, rounds_passed, unused_is_new}
use Rattle.laws_base.proofs.SentGrants.{counted_one, some_counted, quiet_above, granted_above, above_counted}
use Rattle.laws_base.proofs.RisingRounds.{restart_silent, held_reached}
use Rattle.laws_base.proofs.CopiesBegin.{first_begun}
use Rattle.laws_base.specs.CountedSerials.{serials_of, SerialsOfRoundsAreCounted, LeasesCountTheirSerials, SerialsHaveOneEntry, NumberedSerialsFollow}
use Rattle.laws_base.proofs.LeaseSerials.{numbered_in, HaveSerial, step_counts}
use Rattle.laws_base.proofs.RoundSerials.{append-[], shown_serials, NoSerial, OneSerial, none_or_one, some_entry, one_place}
use Rattle.laws_base.proofs.Rots.{rot_leases}

-- the element that was put in, or another one
pub set_split : {X : Type 0} (xs : List X) (at : ℕ) (y : X) (n : ℕ) (x : X) → element_at (with_at xs at y) n ≡ Some x → ((n ≡ at) × (x ≡ y)) ⊎ ((n ≡ at → ⊥) × (element_at xs n ≡ Some x))
set_split [] at y n x h = none_some x h
set_split (z ∷ zs) zero y zero x h = inl (refl, sym (same_some y x h))
set_split (z ∷ zs) zero y (suc n) x h = inr (λ same. absurd (omega (arith, same)), h)
set_split (z ∷ zs) (suc at) y zero x h = inr (λ same. absurd (omega (arith, same)), h)
set_split (z ∷ zs) (suc at) y (suc n) x h =
    elim (set_split zs at y n x h) [
      | inl both ↦ inl (ap (λ (k : ℕ). suc k) both.0, both.1)
      | inr there ↦ inr (λ same. there.0 (omega (arith, same)), there.1)
    ]

abbrev message_in : NodeInput → Option Message
message_in (input.Deliver y) = Some y
message_in input.Tick = None

same_message : (y z : Message) → input.Deliver y ≡ input.Deliver z → y ≡ z
same_message y z h = same_some y z (ap message_in h)

-- what comes in to a server was sent to it
pub comes_in : (w : WorldState) (e : Event) (server moment : ℕ) (i : NodeInput) → IsGiven w e (the_server server) moment i → (m : Message) → i ≡ input.Deliver m → (place : ℕ) × (element_at w.sent place ≡ Some m) × (m.receiver ≡ the_server server)
comes_in w (event.Deliver number now) server moment (input.Deliver x) is m same =
    subst (λ (y : Message). (place : ℕ) × (element_at w.sent place ≡ Some y) × (y.receiver ≡ the_server server)) (same_message x m same) (number - 1, element_numbered w.sent number x is.0, is.1)
comes_in w (event.Call c asked now) server moment (input.Deliver x) is m same = absurd is
comes_in w (event.Tick to now) server moment (input.Deliver x) is m same = absurd is
comes_in w (event.Restart n now) server moment (input.Deliver x) is m same = absurd is
comes_in w (event.Rot n handle place byte) server moment (input.Deliver x) is m same = absurd is
comes_in w (event.Fuse n count torn) server moment (input.Deliver x) is m same = absurd is
comes_in w e server moment input.Tick is m same = absurd (cc)

module _ (handle version : ℕ) where
  -- The Grant of this version was taken by its server.
  pub record WasTaken (sent : List Message) (servers : List ServerState) : Type 0 where
    pub server : ℕ
    pub place : ℕ
    pub grant : Message
    pub order : OrderNo
    pub end_moment : Moment
    pub members : List ℕ
    pub at : element_at sent place ≡ Some grant
    pub receiver : grant.receiver ≡ the_server (suc server)
    pub is : SaysGrant order (handle_of handle) (version_of version) end_moment members grant.body
    pub taken : (s : ServerState) → element_at servers server ≡ Some s → IsStaleAt s.disk order

  -- The serials of the round are counted; its lease, if a server has it, has as many; and where there is one, its Grant was taken, if it was sent.
  pub record IsCounted (sent : List Message) (servers : List ServerState) (order : List Placed) : Type 0 where
    pub count : ℕ
    pub serials : serials_of version order ≡ first_numbers count
    pub leased : (index : ℕ) (s : ServerState) → element_at servers index ≡ Some s → HaveSerial handle version count s.leases
    pub taken : 1 ≤ count → 1 ≤ grants_of handle version sent → WasTaken sent servers

  taken_more : (sent more : List Message) (servers : List ServerState) → WasTaken sent servers → WasTaken (sent ++ more) servers
  taken_more sent more servers h =
      record {
        server = h.server;
        place = h.place;
        grant = h.grant;
        order = h.order;
        end_moment = h.end_moment;
        members = h.members;
        at = kept_place sent more h.place h.grant h.at;
        receiver = h.receiver;
        is = h.is;
        taken = h.taken;
      }

  taken_on : (sent : List Message) (servers : List ServerState) (index : ℕ) (s t : ServerState) → element_at servers index ≡ Some s → Later s.disk t.disk → WasTaken sent servers → WasTaken sent (with_at servers index t)
  taken_on sent servers index s t at later h =
      record {
        server = h.server;
        place = h.place;
        grant = h.grant;
        order = h.order;
        end_moment = h.end_moment;
        members = h.members;
        at = h.at;
        receiver = h.receiver;
        is = h.is;
        taken = λ x is. elim (set_split servers index t h.server x is) [
          | inl both ↦ subst (λ (y : ServerState). IsStaleAt y.disk h.order) (sym both.1) (stale_later s.disk t.disk h.order later (h.taken s (ap (λ (n : ℕ). element_at servers n) both.0 ∙ at)))
          | inr there ↦ h.taken x there.1
        ];
      }

  -- what is granted above was not granted just now
  granted_before : (k : ℕ) (sent ms : List Message) → AllOf (λ m. GrantsAbove handle version m.body) ms → 1 ≤ grants_of handle version (sent ++ stamped k ms) → 1 ≤ grants_of handle version sent
  granted_before k sent ms all some =
      let one = some_counted (λ m. is_grant handle version m.body) (sent ++ stamped k ms) some in
      elim (sent_cases sent (stamped k ms) one.0 one.1) [
        | inl before ↦ counted_one (λ m. is_grant handle version m.body) sent one.0 before.0 before.1 one.2
        | inr new ↦ absurd (
            let was = numbered_sent k ms new.0 one.0 new.1 in
            let less = granted_above handle version version (was.0).body (ap (is_grant handle version) was.2.2 ∙ one.2) (all_at (λ (x : Message). GrantsAbove handle version x.body) ms (was.1).0 was.0 all (was.1).1) in
            omega (arith, less))
      ]

  -- more is sent
  counted_sent : (k : ℕ) (sent ms : List Message) (servers : List ServerState) (order : List Placed) → (1 ≤ grants_of handle version (sent ++ stamped k ms) → (place : ℕ) (p : Placed) → element_at order place ≡ Some p → p.entry.round ≡ version → 1 ≤ grants_of handle version sent)
      → IsCounted sent servers order → IsCounted (sent ++ stamped k ms) servers order
  counted_sent k sent ms servers order before h =
      record {
        count = h.count;
        serials = h.serials;
        leased = h.leased;
        taken = λ some granted. let one = some_entry version order h.count h.serials some in taken_more sent (stamped k ms) servers (h.taken some (before granted one.0 one.1 one.2 one.3));
      }

  -- one server goes on
  counted_server : (sent : List Message) (servers : List ServerState) (order : List Placed) (index : ℕ) (s t : ServerState) → element_at servers index ≡ Some s → Later s.disk t.disk → (h : IsCounted sent servers order) → HaveSerial handle version h.count t.leases
      → IsCounted sent (with_at servers index t) order
  counted_server sent servers order index s t at later h new =
      record {
        count = h.count;
        serials = h.serials;
        leased = λ other u there. elim (set_split servers index t other u there) [
          | inl both ↦ subst (λ (x : ServerState). HaveSerial handle version h.count x.leases) (sym both.1) new
          | inr apart ↦ h.leased other u apart.1
        ];
        taken = λ some granted. taken_on sent servers index s t at later (h.taken some granted);
      }

  counted_order : (sent : List Message) (servers : List ServerState) (order other : List Placed) → serials_of version other ≡ serials_of version order → IsCounted sent servers order → IsCounted sent servers other
  counted_order sent servers order other same h = record { count = h.count; serials = same ∙ h.serials; leased = h.leased; taken = h.taken }

  none_have : (serial : ℕ) → HaveSerial handle version serial table.empty
  none_have serial p is same = none_some p (sym (table.get-empty nat_cmp handle) ∙ is)

-- a server that took the Grant of a version refuses it
pub taken_stale : (config : Config) (servers clients : ℕ) (w : WorldState) → IsReached config servers clients w → (handle version index : ℕ) (s : ServerState) → element_at w.servers index ≡ Some s
    → (order : OrderNo) (end_moment : Moment) (members : List ℕ) (m : Message) (place : ℕ) → element_at w.sent place ≡ Some m → m.receiver ≡ the_server (suc index) → SaysGrant order (handle_of handle) (version_of version) end_moment members m.body
    → WasTaken handle version w.sent w.servers → IsStaleAt s.disk order
taken_stale config servers clients w r handle version index s at order end_moment members m place there receiver is was =
    let one : was.grant ≡ m =
    same_grant handle version w.sent was.place place was.grant m (versions_are_granted_once config servers clients w r handle version) was.at there
    (granting was.order handle version was.end_moment was.members (was.grant).body was.is) (granting order handle version end_moment members m.body is) in
    let same_server : was.server ≡ index = server_numbers was.server index (sym was.receiver ∙ (ap (λ (x : Message). x.receiver) one ∙ receiver)) in
    let same_order : was.order ≡ order = same_some was.order order (sym (grant_number was.is) ∙ (ap (λ (x : Message). order_number x.body) one ∙ grant_number is)) in
    subst (λ (o : OrderNo). IsStaleAt s.disk o) same_order (was.taken s (ap (λ (n : ℕ). element_at w.servers n) same_server ∙ at))

abbrev AllCounted : WorldState → Type 0
AllCounted w = (handle version : ℕ) → IsCounted handle version w.sent w.servers (placed_in w.observer.orders handle)

module _ (config : Config) (servers clients : ℕ) (w : WorldState) (r : IsReached config servers clients w) (h : AllCounted w) where
  base : IsOfWaits w.sent w.master
  base = sent_reached IsOfWaits waits_kept config servers clients w r

  told_server : (index : ℕ) (s : ServerState) → element_at w.servers index ≡ Some s → IsToldServer w.sent index s
  told_server = scene_reached AreTold told_kept config servers clients w r

  -- messages that grant nothing
  quiet_counted : (handle version : ℕ) (orders : Table (List Placed)) (ms : List Message) → orders ≡ w.observer.orders → AllOf (λ m. GrantsAbove handle version m.body) ms
      → IsCounted handle version (w.sent ++ stamped (suc (length w.sent)) ms) w.servers (placed_in orders handle)
  quiet_counted handle version orders ms same all =
      subst (λ (t : Table (List Placed)). IsCounted handle version (w.sent ++ stamped (suc (length w.sent)) ms) w.servers (placed_in t handle)) (sym same)
      (counted_sent handle version (suc (length w.sent)) w.sent ms w.servers (placed_in w.observer.orders handle) (λ granted place p at round. granted_before handle version (suc (length w.sent)) w.sent ms all granted) (h handle version))

  -- the master

  stay_counted : (moment : ℕ) (i : NodeInput) (choice : Choice) (handle version : ℕ) → IsCounted handle version (w.sent ++ stamped (suc (length w.sent)) (master_step w.master moment i choice).out.sent) w.servers (placed_in w.observer.orders handle)
  stay_counted moment i choice handle version =
      let ms : List Message = (master_step w.master moment i choice).out.sent in
      counted_sent handle version (suc (length w.sent)) w.sent ms w.servers (placed_in w.observer.orders handle)
      (λ granted place p at round. granted_before handle version (suc (length w.sent)) w.sent ms
      (subst (λ (n : ℕ). AllOf (λ m. GrantsAbove handle n m.body) ms) round (step_passed handle p.entry.round w.master moment i choice base.base.logged base.waits (rounds_passed config servers clients w r handle place p at)).0) granted)
      (h handle version)

  -- a copy that just began: no server has a lease of it, and what is granted of it is above what was copied
  copy_counted : (moment : ℕ) (i : NodeInput) (choice : Choice) (shows : ShowsCopy w.master (master_step w.master moment i choice)) (version : ℕ)
      → IsCounted shows.copy version (w.sent ++ stamped (suc (length w.sent)) (master_step w.master moment i choice).out.sent) w.servers (placed_in w.observer.orders shows.source)
  copy_counted moment i choice shows version =
      let source : IsCounted shows.source version w.sent w.servers (placed_in w.observer.orders shows.source) = h shows.source version in
      let new = unused_is_new config servers clients w r shows.up shows.copy shows.new in
      record {
        count = source.count;
        serials = source.serials;
        leased = λ index s at p is same. none_some p (sym (new.leased index s at) ∙ is);
        taken = λ some granted. absurd (
            let one = some_entry version (placed_in w.observer.orders shows.source) source.count source.serials some in
            let begun = first_begun config servers clients w r moment i choice zero (handle_of shows.source) (handle_of shows.copy) (ap (λ (xs : List Seen). element_at xs zero) shows.seen) in
            let less = above_counted shows.copy (one.1).entry.round version (w.sent ++ stamped (suc (length w.sent)) (master_step w.master moment i choice).out.sent) (begun.above one.0 one.1 one.2) granted in
            let same = one.3 in
            omega (arith, less, same));
      }

  master_counted : (trace : List Visible) (moment : ℕ) (i : NodeInput) (choice : Choice) (handle version : ℕ)
      → IsCounted handle version (w.sent ++ stamped (suc (length w.sent)) (master_step w.master moment i choice).out.sent) w.servers (placed_in (orders_after_all trace w.observer.orders (master_step w.master moment i choice).seen) handle)
  master_counted trace moment i choice handle version =
      elim (step_shows w.master moment i choice base.base.logged base.waits) [
        | inl none ↦ subst Good (sym none) (stay_counted moment i choice handle version)
        | inr shows ↦ subst Good (sym shows.seen)
            (elim (same_or_not handle shows.copy) [
              | inl same ↦
                  subst (λ (o : Option (List Placed)). IsCounted handle version more w.servers (unwrap_or o [])) (sym (put_there w.observer.orders shows.copy (placed_in w.observer.orders shows.source) handle same))
                  (subst (λ (n : ℕ). IsCounted n version more w.servers (placed_in w.observer.orders shows.source)) (sym same) (copy_counted moment i choice shows version))
              | inr apart ↦
                  subst (λ (o : Option (List Placed)). IsCounted handle version more w.servers (unwrap_or o [])) (sym (put_other w.observer.orders shows.copy (placed_in w.observer.orders shows.source) handle apart))
                  (stay_counted moment i choice handle version)
            ])
      ]
    where
      more : List Message
      more = w.sent ++ stamped (suc (length w.sent)) (master_step w.master moment i choice).out.sent

      Good : List Seen → Type 0
      Good xs = IsCounted handle version (w.sent ++ stamped (suc (length w.sent)) (master_step w.master moment i choice).out.sent) w.servers (placed_in (orders_after_all trace w.observer.orders xs) handle)

  -- a server

  module _ (e : Event) (index moment : ℕ) (s : ServerState) (i : NodeInput) (choice : Choice) (at : element_at w.servers index ≡ Some s) (given : IsGiven w e (the_server (suc index)) moment i) (handle version : ℕ) where
    -- a Grant of this version that comes under a new number is the first word of it
    first_grant : (m : Message) (order : OrderNo) (q : Handle) (v : Version) (end_moment : Moment) (members : List ℕ) → i ≡ input.Deliver m → SaysGrant order q v end_moment members m.body → is_new_order s.disk order.epoch order.count ≡ true
        → q.0 ≡ handle → v.0 ≡ version → (h handle version).count ≡ 0
    first_grant m order q v end_moment members came is new key number = by_count (h handle version).count (h handle version).taken
      where
        there : (place : ℕ) × (element_at w.sent place ≡ Some m) × (m.receiver ≡ the_server (suc index))
        there = comes_in w e (suc index) moment i given m came

        body_is : SaysGrant order (handle_of handle) (version_of version) end_moment members m.body
        body_is = named_grant is key number

        granted : 1 ≤ grants_of handle version w.sent
        granted = counted_one (λ x. is_grant handle version x.body) w.sent m there.0 there.1 (granting order handle version end_moment members m.body body_is)

        refused : WasTaken handle version w.sent w.servers → ⊥
        refused was = new_not_stale s.disk order new (taken_stale config servers clients w r handle version index s at order end_moment members m there.0 there.1 there.2 body_is was)

        by_count : (count : ℕ) → (1 ≤ count → 1 ≤ grants_of handle version w.sent → WasTaken handle version w.sent w.servers) → count ≡ 0
        by_count zero taken = refl
        by_count (suc n) taken = absurd (refused (taken (omega arith) granted))

    abbrev t : ServerState
    t = (server_step s moment i choice).state

    later : Later s.disk (server_step s moment i choice).state.disk
    later = (step_goes_on s moment i choice (told_server index s at).sound).later

    leases : HaveSerial handle version ((h handle version).count + numbered_in handle version (server_step s moment i choice).seen) (server_step s moment i choice).state.leases
    leases = step_counts handle version (h handle version).count s moment i choice first_grant ((h handle version).leased index s at)

    serials_after : (trace : List Visible) (more : List ℕ) → serials_of version (placed_in (orders_after_all trace w.observer.orders (server_step s moment i choice).seen) handle) ≡ serials_of version (placed_in w.observer.orders handle) ++ more
        → serials_of version (placed_in (orders_after_all trace w.observer.orders (server_step s moment i choice).seen) handle) ≡ first_numbers (h handle version).count ++ more
    serials_after trace more is = is ∙ ap (λ (xs : List ℕ). xs ++ more) (h handle version).serials

    -- what it sends grants nothing
    said_counted : (order : List Placed) → IsCounted handle version w.sent (with_at w.servers index (server_step s moment i choice).state) order
        → IsCounted handle version (w.sent ++ stamped (suc (length w.sent)) (server_step s moment i choice).out.sent) (with_at w.servers index (server_step s moment i choice).state) order
    said_counted order g =
        counted_sent handle version (suc (length w.sent)) w.sent (server_step s moment i choice).out.sent (with_at w.servers index (server_step s moment i choice).state) order
        (λ granted place p there round. granted_before handle version (suc (length w.sent)) w.sent (server_step s moment i choice).out.sent (quiet_above handle version (server_step s moment i choice).out.sent (server_quiet s moment i choice)) granted) g

    unnumbered : (trace : List Visible) → NoSerial handle version (server_step s moment i choice).seen
        → IsCounted handle version w.sent (with_at w.servers index (server_step s moment i choice).state) (placed_in (orders_after_all trace w.observer.orders (server_step s moment i choice).seen) handle)
    unnumbered trace none =
        counted_order handle version w.sent (with_at w.servers index t) (placed_in w.observer.orders handle) (placed_in (orders_after_all trace w.observer.orders (server_step s moment i choice).seen) handle)
        (shown_serials handle version trace w.observer.orders (server_step s moment i choice).seen (server_shown s moment i choice) (step_once s moment i choice)
        ∙ (ap (λ (xs : List ℕ). serials_of version (placed_in w.observer.orders handle) ++ xs) none.1 ∙ sym (append-[] (serials_of version (placed_in w.observer.orders handle)))))
        (counted_server handle version w.sent w.servers (placed_in w.observer.orders handle) index s t at later (h handle version)
        (λ p is same. let all = leases p is same in let no = none.0 in omega (arith, all, no)))

    numbered : (trace : List Visible) → OneSerial handle version (server_step s moment i choice).seen
        → IsCounted handle version w.sent (with_at w.servers index (server_step s moment i choice).state) (placed_in (orders_after_all trace w.observer.orders (server_step s moment i choice).seen) handle)
    numbered trace one =
        record {
          count = suc (h handle version).count;
          serials =
              shown_serials handle version trace w.observer.orders (server_step s moment i choice).seen (server_shown s moment i choice) (step_once s moment i choice)
              ∙ (ap (λ (xs : List ℕ). serials_of version (placed_in w.observer.orders handle) ++ xs) (one.shown ∙ ap (λ (n : ℕ). n ∷ []) next)
              ∙ ap (λ (xs : List ℕ). xs ++ suc (h handle version).count ∷ []) (h handle version).serials);
          leased = λ other u there. elim (set_split w.servers index t other u there) [
            | inl both ↦ subst (λ (x : ServerState). HaveSerial handle version (suc (h handle version).count) x.leases) (sym both.1) (λ p is same. let all = leases p is same in let counted = one.counted in omega (arith, all, counted))
            | inr apart ↦ λ q is same. absurd (apart.0 (sym (versions_have_one_primary config servers clients w r index other s u at apart.1 handle by.lease q held is (number ∙ sym same))))
          ];
          taken = λ some granted. taken_on handle version w.sent w.servers index s t at later (record {
            server = index;
            place = lease.place;
            grant = lease.grant;
            order = lease.order;
            end_moment = lease.end_moment;
            members = (by.lease).held.members;
            at = lease.at;
            receiver = lease.receiver;
            is = named_grant lease.is refl number;
            taken = λ x is. subst (λ (y : ServerState). IsStaleAt y.disk lease.order) (same_some s x (sym at ∙ is)) lease.taken;
          });
        }
      where
        by : IsPlacedByReplica s (one.h).0 (one.v).0 (one.serial).0 one.id one.placed
        by = mutations_are_placed_by_replicas config servers clients w r index s at moment i choice zero one.h one.v one.serial one.id one.placed one.first

        held : table.get s.leases handle ≡ Some by.lease
        held = subst (λ (n : ℕ). table.get s.leases n ≡ Some by.lease) one.key by.lease_is

        number : (by.lease).held.version ≡ version
        number = sym by.version_is ∙ one.number

        lease : IsToldLease w.sent (suc index) s.disk handle (by.lease).chunk (by.lease).held
        lease = (told_server index s at).told handle by.lease held

        next : (one.serial).0 ≡ suc (h handle version).count
        next = let low = (h handle version).leased index s at by.lease held number in let serial = by.serial_is in omega (arith, low, serial)

    server_counted : (trace : List Visible) → IsCounted handle version (w.sent ++ stamped (suc (length w.sent)) (server_step s moment i choice).out.sent) (with_at w.servers index (server_step s moment i choice).state)
        (placed_in (orders_after_all trace w.observer.orders (server_step s moment i choice).seen) handle)
    server_counted trace =
        said_counted (placed_in (orders_after_all trace w.observer.orders (server_step s moment i choice).seen) handle)
        (elim (none_or_one handle version (server_step s moment i choice).seen (step_once s moment i choice)) [ inl none ↦ unnumbered trace none | inr one ↦ numbered trace one ])

  restarted : (index moment : ℕ) (s : ServerState) (choice : Choice) (e : Ending) → element_at w.servers index ≡ Some s → (handle version : ℕ)
      → IsCounted handle version w.sent (with_at w.servers index (server_restarts s moment choice e).state) (placed_in w.observer.orders handle)
  restarted index moment s choice e at handle version =
      counted_server handle version w.sent w.servers (placed_in w.observer.orders handle) index s (server_restarts s moment choice e).state at (restarts_as s moment choice e (told_server index s at).sound).later (h handle version) (by_ending e)
    where
      by_ending : (f : Ending) → HaveSerial handle version (h handle version).count (server_restarts s moment choice f).state.leases
      by_ending Goes = none_have handle version (h handle version).count
      by_ending Lost = none_have handle version (h handle version).count
      by_ending (Stops made) = none_have handle version (h handle version).count

  each_counted : HoldsAfter w (λ e x. AllCounted x.world)
  each_counted =
      record {
        nothing = λ e. h;
        masters = λ e moment i choice is up handle version. master_counted (observed_moment w.config.skew_ms w.observer moment).trace moment i choice handle version;
        opens = λ e moment choice handle version.
            subst (λ (xs : List Seen). IsCounted handle version (w.sent ++ stamped (suc (length w.sent)) (master_restart w.master moment choice).out.sent) w.servers (placed_in (orders_after_all (observed_moment w.config.skew_ms w.observer moment).trace w.observer.orders xs) handle))
            (sym (restart_shown w.master moment choice))
            (quiet_counted handle version w.observer.orders (master_restart w.master moment choice).out.sent refl (restart_silent (λ m. GrantsAbove handle version m.body) w.master moment choice));
        serves = λ e index moment s i choice at is up handle version. server_counted e index moment s i choice at is handle version (observed_moment w.config.skew_ms w.observer moment).trace;
        restarts = λ e index moment s choice at handle version.
            subst (λ (xs : List Seen). IsCounted handle version (w.sent ++ stamped (suc (length w.sent)) (server_restart s moment choice).out.sent) (with_at w.servers index (server_restart s moment choice).state)
            (placed_in (orders_after_all (observed_moment w.config.skew_ms w.observer moment).trace w.observer.orders xs) handle)) (sym (restarted_shown s moment choice choice.ending))
            (counted_sent handle version (suc (length w.sent)) w.sent (server_restart s moment choice).out.sent (with_at w.servers index (server_restart s moment choice).state) (placed_in w.observer.orders handle)
            (λ granted place p there round. granted_before handle version (suc (length w.sent)) w.sent (server_restart s moment choice).out.sent
            (quiet_above handle version (server_restart s moment choice).out.sent (server_restarts_quiet s moment choice choice.ending)) granted) (restarted index moment s choice choice.ending at handle version));
        steps = λ e index moment s i choice at is up handle version.
            quiet_counted handle version _ (client_step s moment i choice).out.sent (same_orders _ (suc index) (client_step s moment i choice).out.answer)
            (quiet_above handle version (client_step s moment i choice).out.sent (quiet_orders (client_step s moment i choice).out.sent (client_quiet s moment i choice)));
        calls = λ e index moment s c choice at may handle version.
            quiet_counted handle version _ (client_call s moment c choice).out.sent (same_orders _ (suc index) (client_call s moment c choice).out.answer)
            (quiet_above handle version (client_call s moment c choice).out.sent (quiet_orders (client_call s moment c choice).out.sent (call_quiet s moment c choice)));
        rots = λ e index q s x place byte ending is_kept at there up handle version.
            counted_server handle version w.sent w.servers (placed_in w.observer.orders handle) index s (after_rot s (rot_of q place byte) ending) at (rot_goes_on s (rot_of q place byte) ending tt (told_server index s at).sound up).later (h handle version)
            (rot_leases (λ ls. HaveSerial handle version (h handle version).count ls) s (rot_of q place byte) ending ((h handle version).leased index s at) (none_have handle version (h handle version).count));
      }

new_counted : (config : Config) (servers clients : ℕ) → AllCounted (new_world config servers clients)
new_counted config servers clients handle version =
    record {
      count = 0;
      serials = ap (λ (o : Option (List Placed)). serials_of version (unwrap_or o [])) (table.get-empty nat_cmp handle);
      leased = λ index s at.
          subst (λ (t : ServerState). HaveSerial handle version 0 t.leases) (sym (numbered_from (λ n. started_server config n (new_server_disk config.chunk config.block config.slots) 0) servers index s at)) (none_have handle version 0);
      taken = λ some granted. absurd (omega (arith, some));
    }

pub all_counted : (config : Config) (servers clients : ℕ) (w : WorldState) → IsReached config servers clients w → AllCounted w
all_counted config servers clients w r = held_reached AllCounted each_counted config servers clients (new_counted config servers clients) w r

-- the laws

pub serials_of_rounds_are_counted : SerialsOfRoundsAreCounted
serials_of_rounds_are_counted config servers clients w r handle round = let h = all_counted config servers clients w r handle round in (h.count, h.serials)

pub leases_count_their_serials : LeasesCountTheirSerials
leases_count_their_serials config servers clients w r index s at handle p is =
    let h = all_counted config servers clients w r handle p.held.version in h.serials ∙ ap first_numbers (sym (h.leased index s at p is refl))

pub serials_have_one_entry : SerialsHaveOneEntry
serials_have_one_entry config servers clients w r handle place other p q at there round serial =
    let h = all_counted config servers clients w r handle p.entry.round in one_place p.entry.round (placed_in w.observer.orders handle) h.count h.serials place other p q at there refl (sym round) serial

pub numbered_serials_follow : NumberedSerialsFollow
numbered_serials_follow config servers clients w r index s at moment i choice place handle version serial id m seen =
    let by = mutations_are_placed_by_replicas config servers clients w r index s at moment i choice place handle version serial id m seen in
    let h = all_counted config servers clients w r handle.0 version.0 in
    let low = h.leased index s at by.lease by.lease_is (sym by.version_is) in
    let next = by.serial_is in
    let one : serial.0 ≡ suc h.count = omega (arith, low, next) in
    ap (λ (n : ℕ). serials_of version.0 (placed_in w.observer.orders handle.0) ++ n ∷ []) one ∙ (ap (λ (xs : List ℕ). xs ++ suc h.count ∷ []) h.serials ∙ ap first_numbers (sym one))
