-- Each entry of the round of a lease that a server holds is among those that its replica has applied: what a server is ordered, numbers and shows keeps it.
use Rattle.std.proofs.Common.{◌≡◌, ◌⊎◌, ℕ, suc, true, List, [], ◌∷◌, ◌++◌, Some, refl, sym, ap, subst, ◌∙◌, inl, inr, arith}
use Rattle.std.specs.Ordering.{nat_cmp}
use Rattle.std.specs.FinMap as table
use Rattle.std.proofs.lemmas.Bool.{true≢false}
use Rattle.gfs_types.specs.declared.config.Config.{Config}
use Rattle.gfs_types.specs.declared.ids.DataId.{DataId}
use Rattle.gfs_types.specs.declared.ids.Handle.{Handle}
use Rattle.gfs_types.specs.declared.ids.Version.{Version}
use Rattle.gfs_types.specs.declared.ids.Serial.{Serial}
use Rattle.gfs_types.specs.declared.ids.OrderNo.{OrderNo}
use Rattle.gfs_types.specs.declared.mutation.Mutation.{Mutation}
use Rattle.gfs_types.specs.declared.mutation.Mutation.TheVariants.{Write, Append, Pad}
use Rattle.messages.specs.declared.event.Event.{Event}
use Rattle.messages.specs.declared.event.NodeInput.{NodeInput}
use Rattle.messages.specs.declared.event.NodeInput.TheVariants as input
use Rattle.messages.specs.declared.message.Message.{Message}
use Rattle.primary_order.specs.SerialOrder.{SerialOrder}
use Rattle.relaxed_file.specs.Run.{Visible}
use Rattle.replica_store.specs.declared.change.StoreChange.{StoreChange}
use Rattle.replica_store.specs.Replicas.{Replica, ServerDisk, replica_of, disk_changed_by_all, is_new_order}
use Rattle.protocol.specs.Tables.{Table, element_at, with_at}
use Rattle.protocol.specs.Sending.{the_server, order_number}
use Rattle.protocol.specs.Choice.{Choice, Ending, Goes, Lost, Stops, decided_changes}
use Rattle.protocol.specs.Seen.{Taken, no_step}
use Rattle.protocol.specs.declared.seen.Seen.{Seen}
use Rattle.protocol.specs.declared.seen.Seen.TheVariants.{Numbered, BecameSettled, CopyStarted}
use Rattle.protocol.specs.Observer.{Placed, placed_in, orders_after_all}
use Rattle.protocol.specs.Server.{ServerState}
use Rattle.protocol.specs.ServerStep.{server_goes, server_ends, server_step}
use Rattle.protocol.specs.MasterStep.{master_step}
use Rattle.protocol.specs.World.{WorldState, IsReached}
use Rattle.laws_base.proofs.Steps.{on_cond, none_some, same_some}
use Rattle.laws_base.proofs.Entries.{AllOf}
use Rattle.laws_base.proofs.MembersRecorded.{kept_place, all_at}
use Rattle.laws_base.proofs.MessagesSent.{IsSent, sent_before}
use Rattle.laws_base.proofs.SentReached.{sent_reached}
use Rattle.laws_base.proofs.ScenesReached.{IsSentTo}
use Rattle.laws_base.proofs.LeasesTold.{CameTo, came_in, versions_have_one_primary}
use Rattle.laws_base.proofs.Events.{IsGiven}
use Rattle.laws_base.specs.Given.{version_given}
use Rattle.laws_base.proofs.WaitsKept.{IsOfWaits, waits_kept}
use Rattle.laws_base.proofs.Placing.{all_placed, Holds, AreAll, all_keep}
use Rattle.laws_base.specs.Replicas.{IsPlacedByReplica, applied}
use Rattle.laws_base.proofs.HeldReplicas.{leases_have_their_replica}
use Rattle.laws_base.proofs.Placings.{mutations_are_placed_by_replicas}
use Rattle.laws_base.proofs.Applied.{primaries_apply_what_they_number}
use Rattle.laws_base.proofs.CopiesBegun.{step_shows}
use Rattle.laws_base.proofs.RoundsPassed.{IsOfServers, server_shown, unused_is_new}
use Rattle.laws_base.proofs.RisingRounds.{put_all}
use Rattle.laws_base.proofs.CountedRounds.{set_split, comes_in}
use Rattle.laws_versions.proofs.HadLeases.{step_known, no_new_grant}
use Rattle.laws_versions.specs.TakenOrders.{WasTaken}
use Rattle.laws_versions.proofs.TakenOrders.{replicas_are_of_taken_orders}
use Rattle.laws_versions.proofs.RefusedOrders.{taken_refused}
use Rattle.laws_versions.specs.ClonedVersions.{version_copied}
use Rattle.laws_versions.proofs.KeptDisks.{none_more, frame_kept}
use Rattle.laws_versions.specs.ReplicaImages.{HasEntry}
use Rattle.laws_versions.proofs.Images.{Carried, Carries}
use Rattle.laws_versions.proofs.ImagesReached.{Plain}
use Rattle.laws_versions.proofs.Acknowledged.{WasCopied}
use Rattle.laws_versions.specs.AcknowledgedEntries.{HasRound}
use Rattle.laws_versions.proofs.ImagesReached.{IsFound}

-- Each entry of the round of a lease of this version that the server holds is among these entries.
abbrev pub HasRounds : List ServerState → Table (List Placed) → ℕ → Carried
HasRounds servers orders index handle version ps =
    (s : ServerState) → element_at servers index ≡ Some s → (p : SerialOrder) → table.get s.leases handle ≡ Some p → p.held.version ≡ version → HasRound (placed_in orders handle) version ps

-- So it is, or a Clone, a CopyAsk or an Image of the version was sent.
abbrev pub HeldRound : List Message → List ServerState → Table (List Placed) → ℕ → Carried
HeldRound sent servers orders index handle version ps = WasCopied sent handle version ⊎ HasRounds servers orders index handle version ps

-- An order gave this server the version, or a Clone, a CopyAsk or an Image of it was sent.
abbrev pub WasGivenTo : List Message → ℕ → Carried
WasGivenTo sent index handle version ps = WasCopied sent handle version ⊎ ((m : Message) × IsSent sent m × (m.receiver ≡ the_server (suc index)) × (version_given m.body ≡ Some (handle, version)))

-- of an entry of a chunk's order: where it is of this chunk and this round, it is among these entries
abbrev IsIn : ℕ → ℕ → List Placed → ℕ → Placed → Type 0
IsIn handle version ps q e = q ≡ handle → e.entry.round ≡ version → HasEntry ps version e.serial

round_all : (handle version : ℕ) (ps : List Placed) (orders : Table (List Placed)) → HasRound (placed_in orders handle) version ps → AreAll (IsIn handle version ps) orders
round_all handle version ps orders has q =
    all_placed (Holds (IsIn handle version ps) q) (placed_in orders q) (λ place e at same round. has place e (ap (λ (n : ℕ). element_at (placed_in orders n) place) (sym same) ∙ at) round)

all_round : (handle version : ℕ) (ps : List Placed) (orders : Table (List Placed)) → AreAll (IsIn handle version ps) orders → HasRound (placed_in orders handle) version ps
all_round handle version ps orders all place e at round = all_at (Holds (IsIn handle version ps) handle) (placed_in orders handle) place e (all handle) at refl round

-- of what a server shows
abbrev IsSeenIn : ℕ → ℕ → List Placed → Seen → Type 0
IsSeenIn handle version ps (Numbered q v n id m) = q.0 ≡ handle → v.0 ≡ version → HasEntry ps version n.0
IsSeenIn handle version ps (BecameSettled q v n) = Unit {0}
IsSeenIn handle version ps (CopyStarted q copy) = ⊥

in_after : (trace : List Visible) (handle version : ℕ) (ps : List Placed) (orders : Table (List Placed)) (seen : List Seen) → AllOf IsOfServers seen
    → ((place : ℕ) (q : Handle) (v : Version) (n : Serial) (id : DataId) (m : Mutation) → element_at seen place ≡ Some (Numbered q v n id m) → q.0 ≡ handle → v.0 ≡ version → HasEntry ps version n.0)
    → AreAll (IsIn handle version ps) orders → AreAll (IsIn handle version ps) (orders_after_all trace orders seen)
in_after trace handle version ps orders seen of new old =
    all_keep trace (IsSeenIn handle version ps) (IsIn handle version ps) (record { numbers = λ q v n id m now. now; copies = λ q copy now e u. absurd now }) orders seen
    (all_placed (IsSeenIn handle version ps) seen (λ place y there. one place y there (all_at IsOfServers seen place y of there))) old
  where
    one : (place : ℕ) (y : Seen) → element_at seen place ≡ Some y → IsOfServers y → IsSeenIn handle version ps y
    one place (Numbered q v n id m) there is = new place q v n id m there
    one place (BecameSettled q v n) there is = tt
    one place (CopyStarted q copy) there is = absurd is

-- with one server put anew
pub rounds_at : (servers : List ServerState) (orders : Table (List Placed)) (index : ℕ) (t : ServerState) (other handle version : ℕ) (ps : List Placed)
    → (other ≡ index → (p : SerialOrder) → table.get t.leases handle ≡ Some p → p.held.version ≡ version → HasRound (placed_in orders handle) version ps)
    → ((other ≡ index → ⊥) → (u : ServerState) → element_at servers other ≡ Some u → (p : SerialOrder) → table.get u.leases handle ≡ Some p → p.held.version ≡ version → HasRound (placed_in orders handle) version ps)
    → HasRounds (with_at servers index t) orders other handle version ps
rounds_at servers orders index t other handle version ps here apart u there p held same =
    elim (set_split servers index t other u there) [
      | inl both ↦ here both.0 p (ap (λ (x : ServerState). table.get x.leases handle) (sym both.1) ∙ held) same
      | inr old ↦ apart old.0 u old.1 p held same
    ]

pub copied_on : (sent more : List Message) (handle version : ℕ) → WasCopied sent handle version → WasCopied (sent ++ more) handle version
copied_on sent more handle version c = (c.0, sent_before sent more c.0 c.1, c.2)

-- what was carried of what stays is carried on
pub held_on : (sent more : List Message) (servers others : List ServerState) (from to : Table (List Placed)) (index handle version : ℕ) (ps : List Placed)
    → (HasRounds servers from index handle version ps → HasRounds others to index handle version ps) → HeldRound sent servers from index handle version ps → HeldRound (sent ++ more) others to index handle version ps
held_on sent more servers others from to index handle version ps go (inl copied) = inl (copied_on sent more handle version copied)
held_on sent more servers others from to index handle version ps go (inr has) = inr (go has)

pub given_on : (sent more : List Message) (index handle version : ℕ) (ps : List Placed) → WasGivenTo sent index handle version ps → WasGivenTo (sent ++ more) index handle version ps
given_on sent more index handle version ps (inl copied) = inl (copied_on sent more handle version copied)
given_on sent more index handle version ps (inr m) = inr (m.0, sent_before sent more m.0 m.1, m.2, m.3)

applied_serial : (block serial : ℕ) (m : Mutation) (r : Replica) → (applied block serial m r).serial ≡ serial
applied_serial block serial (Write offset bytes) r = refl
applied_serial block serial (Append offset bytes) r = refl
applied_serial block serial (Pad offset end) r = refl

-- what is delivered to a server was sent to it
sent_to : (w : WorldState) (e : Event) (server moment : ℕ) (i : NodeInput) → IsGiven w e (the_server server) moment i → IsSentTo w.sent (the_server server) i
sent_to w e server moment (input.Deliver m) given = comes_in w e server moment (input.Deliver m) given m refl
sent_to w e server moment input.Tick given = tt

-- a server that has a lease after a step went through it
held_idle : (s : ServerState) (moment : ℕ) (i : NodeInput) (choice : Choice) → s.under_way ≡ [] → (handle : ℕ) (p : SerialOrder) → table.get (server_step s moment i choice).state.leases handle ≡ Some p → (server_step s moment i choice).state.under_way ≡ []
held_idle s moment i choice idle handle p =
    on_cond (λ (t : Taken ServerState). table.get t.state.leases handle ≡ Some p → t.state.under_way ≡ []) s.up (server_ends s (server_goes s moment i) choice choice.ending) (no_step s) (λ _. ends choice.ending) (λ _ held. idle)
  where
    ends : (e : Ending) → table.get (server_ends s (server_goes s moment i) choice e).state.leases handle ≡ Some p → (server_ends s (server_goes s moment i) choice e).state.under_way ≡ []
    ends Goes held = (frame_kept s moment i).1 ∙ idle
    ends Lost held = none_some p (sym (table.get-empty nat_cmp handle) ∙ held)
    ends (Stops made) held = none_some p (sym (table.get-empty nat_cmp handle) ∙ held)

module _ (config : Config) (servers clients : ℕ) (w : WorldState) (r : IsReached config servers clients w) where
  -- a step of the master
  module _ (index : ℕ) (u : ServerState) (there : element_at w.servers index ≡ Some u) (handle version : ℕ) (ps : List Placed) (has : HasRounds w.servers w.observer.orders index handle version ps) (p : SerialOrder) (held : table.get u.leases handle ≡ Some p)
      (same : p.held.version ≡ version) where
    was_in : AreAll (IsIn handle version ps) w.observer.orders
    was_in = round_all handle version ps w.observer.orders (has u there p held same)

    pub master_round : (trace : List Visible) (moment : ℕ) (i : NodeInput) (choice : Choice) → HasRound (placed_in (orders_after_all trace w.observer.orders (master_step w.master moment i choice).seen) handle) version ps
    master_round trace moment i choice =
        all_round handle version ps (orders_after_all trace w.observer.orders (master_step w.master moment i choice).seen)
        (elim (step_shows w.master moment i choice base.base.logged base.waits) [
          | inl none ↦ subst (λ (xs : List Seen). AreAll (IsIn handle version ps) (orders_after_all trace w.observer.orders xs)) (sym none) was_in
          | inr shows ↦ subst (λ (xs : List Seen). AreAll (IsIn handle version ps) (orders_after_all trace w.observer.orders xs)) (sym shows.seen)
              (put_all (IsIn handle version ps) w.observer.orders shows.copy (placed_in w.observer.orders shows.source) was_in
              (all_placed (Holds (IsIn handle version ps) shows.copy) (placed_in w.observer.orders shows.source)
              (λ place e at copy round. none_some p (sym ((unused_is_new config servers clients w r shows.up shows.copy shows.new).leased index u there) ∙ (ap (λ (n : ℕ). table.get u.leases n) copy ∙ held)))))
        ])
      where
        base : IsOfWaits w.sent w.master
        base = sent_reached IsOfWaits waits_kept config servers clients w r

  -- a step of a server
  module _ (index : ℕ) (s : ServerState) (at : element_at w.servers index ≡ Some s) (i : NodeInput) where
    module _ (came : (m : Message) → i ≡ input.Deliver m → (place : ℕ) × (element_at w.sent place ≡ Some m) × (m.receiver ≡ the_server (suc index))) where
      -- a new order gives no version of which a lease is held
      unheld : (m : Message) → i ≡ input.Deliver m → (handle version : ℕ) → version_given m.body ≡ Some (handle, version) → (order : OrderNo) → order_number m.body ≡ Some order → is_new_order s.disk order.epoch order.count ≡ true
          → (ps : List Placed) → HasRounds w.servers w.observer.orders index handle version ps
      unheld m is handle version given order number new ps u there p held same =
          let one : s ≡ u = same_some s u (sym at ∙ there) in
          let replica = leases_have_their_replica config servers clients w r index s at handle p (ap (λ (x : ServerState). table.get x.leases handle) one ∙ held) in
          let taken : WasTaken w.sent (suc index) s handle version = subst (λ (n : ℕ). WasTaken w.sent (suc index) s handle n) (replica.2 ∙ same) (replicas_are_of_taken_orders config servers clients w r index s at handle replica.0 replica.1) in
          let sent = came m is in
          absurd (true≢false (sym new ∙ taken_refused config servers clients w r index s handle version taken sent.0 m sent.1 sent.2 given order number order (inr (refl, omega arith))))

      pub held_carried : Carries s i Plain (HeldRound w.sent w.servers w.observer.orders index)
      held_carried =
          record {
            more = λ handle version ps p h. elim (h) [
              | inl copied ↦ inl copied
              | inr has ↦ inr (λ u there l held same place x x_at round. let e = has u there l held same place x x_at round in (e.0, e.1, kept_place ps (p ∷ []) e.0 e.1 e.2, e.3, e.4))
            ];
            created = λ m is order handle version body_is new. inr (unheld m is handle.0 version.0 (ap version_given body_is) order (ap order_number body_is) new []);
            imaged = λ m is handle version serial bytes body_is ps h. let sent = came m is in inl (m, (sent.0, sent.1), ap version_copied body_is);
            raised = λ m is order handle version base body_is new ps h. inr (unheld m is handle.0 version.0 (ap version_given body_is) order (ap order_number body_is) new ps);
            copied = λ m is order handle from copy version body_is new ps h. inr (unheld m is copy.0 version.0 (ap version_given body_is) order (ap order_number body_is) new ps);
          }

      given_to : (m : Message) → i ≡ input.Deliver m → (handle version : ℕ) → version_given m.body ≡ Some (handle, version) → (ps : List Placed) → WasGivenTo w.sent index handle version ps
      given_to m is handle version given ps = let sent = came m is in inr (m, (sent.0, sent.1), sent.2, given)

      pub given_carried : Carries s i Plain (WasGivenTo w.sent index)
      given_carried =
          record {
            more = λ handle version ps p h. h;
            created = λ m is order handle version body_is new. given_to m is handle.0 version.0 (ap version_given body_is) [];
            imaged = λ m is handle version serial bytes body_is ps h. let sent = came m is in inl (m, (sent.0, sent.1), ap version_copied body_is);
            raised = λ m is order handle version base body_is new ps h. given_to m is handle.0 version.0 (ap version_given body_is) ps;
            copied = λ m is order handle from copy version body_is new ps h. given_to m is copy.0 version.0 (ap version_given body_is) ps;
          }

    module _ (e : Event) (moment : ℕ) (choice : Choice) (given : IsGiven w e (the_server (suc index)) moment i) (trace : List Visible) where
      abbrev t : ServerState
      t = (server_step s moment i choice).state

      -- the orders after the step
      abbrev After : Table (List Placed)
      After = orders_after_all trace w.observer.orders (server_step s moment i choice).seen

      -- The server itself: what it numbers is the last entry that its replica has applied.
      module _ (idle : s.under_way ≡ []) (handle : ℕ) (x : Replica) (found : IsFound (server_step s moment i choice).state handle x) (ps : List Placed) (last : (x.serial ≡ 0) ⊎ HasEntry ps x.version x.serial)
          (has : HasRounds w.servers w.observer.orders index handle x.version ps) (p : SerialOrder) (held : table.get (server_step s moment i choice).state.leases handle ≡ Some p) (same : p.held.version ≡ x.version) where
        old_round : HasRound (placed_in w.observer.orders handle) x.version ps
        old_round place y there round =
            elim (step_known handle x.version (CameTo w.sent (suc index)) s moment i choice (came_in w.sent (suc index) i (sent_to w e (suc index) moment i given)) p held same) [
              | inl had ↦ has s at had.0 had.1 had.2 place y there round
              | inr grant ↦ absurd (no_new_grant config servers clients w r index s at handle x.version place y there round grant)
            ]

        there_now : replica_of t.disk handle ≡ Some x
        there_now =
            ap (λ (d : ServerDisk). replica_of d handle)
            (sym (ap (λ (xs : List StoreChange). disk_changed_by_all t.disk (decided_changes found.0 xs)) (held_idle s moment i choice idle handle p held) ∙ none_more t.disk found.0)) ∙ found.1

        numbered_in : (place : ℕ) (q : Handle) (v : Version) (n : Serial) (id : DataId) (m : Mutation) → element_at (server_step s moment i choice).seen place ≡ Some (Numbered q v n id m) → q.0 ≡ handle → v.0 ≡ x.version → HasEntry ps x.version n.0
        numbered_in place q v n id m seen key number =
            elim (primaries_apply_what_they_number s moment i choice place q v n id m seen) [
              | inl none ↦ none_some p (sym none ∙ (ap (λ (k : ℕ). table.get t.leases k) key ∙ held))
              | inr done ↦
                  let one : applied s.disk.block n.0 m done.0 ≡ x = same_some (applied s.disk.block n.0 m done.0) x (sym done.2 ∙ (ap (λ (k : ℕ). replica_of t.disk k) key ∙ there_now)) in
                  let serial : x.serial ≡ n.0 = ap (λ (y : Replica). y.serial) (sym one) ∙ applied_serial s.disk.block n.0 m done.0 in
                  let some = by.serial_is in
                  elim (last) [
                    | inl none ↦ absurd (omega (arith, none, serial, some))
                    | inr entry ↦ subst (λ (k : ℕ). HasEntry ps x.version k) serial entry
                  ]
            ]
          where
            by : IsPlacedByReplica s q.0 v.0 n.0 id m
            by = mutations_are_placed_by_replicas config servers clients w r index s at moment i choice place q v n id m seen

        pub own_round : HasRound (placed_in After handle) x.version ps
        own_round =
            all_round handle x.version ps After
            (in_after trace handle x.version ps w.observer.orders (server_step s moment i choice).seen (server_shown s moment i choice) numbered_in (round_all handle x.version ps w.observer.orders old_round))

      -- another one has no lease of what is numbered
      pub other_round : (other : ℕ) (u : ServerState) → (other ≡ index → ⊥) → element_at w.servers other ≡ Some u → (handle version : ℕ) (ps : List Placed) → HasRounds w.servers w.observer.orders other handle version ps
          → (p : SerialOrder) → table.get u.leases handle ≡ Some p → p.held.version ≡ version → HasRound (placed_in After handle) version ps
      other_round other u apart there handle version ps has p held same =
          all_round handle version ps After
          (in_after trace handle version ps w.observer.orders (server_step s moment i choice).seen (server_shown s moment i choice) numbered_apart (round_all handle version ps w.observer.orders (has u there p held same)))
        where
          numbered_apart : (place : ℕ) (q : Handle) (v : Version) (n : Serial) (id : DataId) (m : Mutation) → element_at (server_step s moment i choice).seen place ≡ Some (Numbered q v n id m) → q.0 ≡ handle → v.0 ≡ version → HasEntry ps version n.0
          numbered_apart place q v n id m seen key number =
              let by = mutations_are_placed_by_replicas config servers clients w r index s at moment i choice place q v n id m seen in
              absurd (apart (sym (versions_have_one_primary config servers clients w r index other s u at there q.0 by.lease p by.lease_is (ap (λ (k : ℕ). table.get u.leases k) key ∙ held) (sym by.version_is ∙ (number ∙ sym same)))))
