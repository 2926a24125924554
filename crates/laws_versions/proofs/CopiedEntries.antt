-- A CopyLocal is sent as its copy begins, which has its source's order; nothing is numbered under the version that is copied, nor under one before it.
use Rattle.std.proofs.Common.{◌≡◌, ◌⊎◌, ℕ, zero, suc, ◌≤◌, ◌<◌, List, [], ◌∷◌, ◌++◌, length, map, Option, Some, None, refl, sym, ap, subst, ◌∙◌, inl, inr, arith}
use Rattle.std.specs.Prelude.{unwrap_or, IsTrue}
use Rattle.std.specs.FinMap as table
use Rattle.std.proofs.lemmas.Bool.{cases_lt}
use Rattle.gfs_types.specs.declared.config.Config.{Config}
use Rattle.gfs_types.specs.declared.ids.Handle.{Handle}
use Rattle.gfs_types.specs.declared.ids.Version.{Version}
use Rattle.gfs_types.specs.declared.ids.OrderNo.{OrderNo}
use Rattle.relaxed_file.specs.Run.{Visible}
use Rattle.messages.specs.declared.event.Event.{Event}
use Rattle.messages.specs.declared.event.NodeInput.{NodeInput}
use Rattle.messages.specs.declared.event.NodeInput.TheVariants as input
use Rattle.messages.specs.declared.message.Body.{Body}
use Rattle.messages.specs.declared.message.Body.TheVariants as body
use Rattle.messages.specs.declared.message.Message.{Message}
use Rattle.chunk_table.specs.ChunkTable.{ChunkRow, chunk_of}
use Rattle.protocol.specs.Tables.{Table, element_at}
use Rattle.protocol.specs.Sending.{handle_of, order_number}
use Rattle.protocol.specs.Choice.{Choice, decided_changes}
use Rattle.protocol.specs.Logged.{Copy, log_changed_by_all}
use Rattle.protocol.specs.declared.seen.Seen.{Seen}
use Rattle.protocol.specs.declared.seen.Seen.TheVariants.{Numbered, BecameSettled, CopyStarted}
use Rattle.protocol.specs.Observer.{Placed, observed_moment, placed_in, order_of, settled_as, new_entry, orders_after, orders_after_all}
use Rattle.protocol.specs.Master.{version_held}
use Rattle.protocol.specs.Server.{ServerState, primary_of}
use Rattle.protocol.specs.ServerStep.{server_at, server_step, server_restart}
use Rattle.protocol.specs.MasterStep.{master_at, master_step, master_restart}
use Rattle.protocol.specs.ClientStep.{client_step, client_call}
use Rattle.protocol.specs.World.{WorldState, new_world, stamped, after_master, after_server, after_client, happens, after_events, IsReached}
use Rattle.laws_base.proofs.Steps.{none_some, same_some, same_or_not, put_there, put_other}
use Rattle.laws_base.proofs.Entries.{AllOf}
use Rattle.laws_base.proofs.OrderNumbers.{state_of, AllFound}
use Rattle.laws_base.proofs.Owners.{chunks_at, times_at_least, placed_stands}
use Rattle.laws_base.proofs.CountsLogged.{IsCountedLog, apart_here}
use Rattle.laws_base.proofs.MembersRecorded.{all_at}
use Rattle.laws_base.proofs.MessagesSent.{IsSent, sent_cases, none_sent, numbered_sent}
use Rattle.laws_base.proofs.ClientMoves.{HasNoOrder, quiet_orders, client_quiet, call_quiet}
use Rattle.laws_base.proofs.SentReached.{without_order, server_quiet, server_restarts_quiet, sent_reached}
use Rattle.laws_base.proofs.GrantedIssued.{granted_is_at_most_issued}
use Rattle.laws_base.proofs.EndedLeases.{over_leases_number_nothing}
use Rattle.laws_base.proofs.LeasesStayOver.{reached_later}
use Rattle.laws_base.specs.Entries.{IsAmong}
use Rattle.laws_base.proofs.Stemming.{came_in}
use Rattle.laws_base.proofs.IssuedNumbers.{IsPassed, IsLogPassed}
use Rattle.laws_base.proofs.WaitsKept.{IsOfWaits, waits_kept}
use Rattle.laws_base.proofs.Events.{with_call, HoldsAfter, holds_after}
use Rattle.laws_versions.proofs.ClosedVersions.{clocks_before}
use Rattle.laws_versions.proofs.SharedChunks.{shared_chunks_have_no_lease}
use Rattle.laws_versions.proofs.GivenVersions.{given_reached}
use Rattle.laws_versions.specs.ToldVersions.{WasOrdered}
use Rattle.laws_versions.proofs.ToldVersions.{holders_were_ordered}
use Rattle.laws_versions.proofs.ClonedVersions.{IsShutIn, sent_of_cloned, shut_later, clones_shut}
use Rattle.laws_base.proofs.MasterTalks.{restart_shown}
use Rattle.laws_base.specs.ChunkOrders.{unsettled}
use Rattle.laws_base.proofs.Placing.{all_placed, same_orders}
use Rattle.laws_base.proofs.Numbering.{restarted_shown}
use Rattle.laws_base.proofs.CopiesBegun.{passed_lower, step_shows}
use Rattle.laws_base.proofs.RoundsPassed.{IsOfServers, server_shown}
use Rattle.laws_base.proofs.OrderedOrders.{settled_same}
use Rattle.laws_base.proofs.RisingRounds.{restart_silent, IsUnderLease, under_lease}
use Rattle.laws_versions.specs.CopiedEntries.{Follows, IsUpTo, RaisesGoAboveTheirBase, CopiesGoAboveTheirSource, CopiesHaveTheirSourcesEntries}
use Rattle.laws_versions.proofs.OrdersGrow.{IsAny, same_follows, follows_both, any_follows, HaveGrown, orders_grow}
use Rattle.laws_versions.proofs.OrdersAbove.{AreOwn, IsHigher, step_higher}

-- what is seen puts no entry up to a version in a chunk's order

abbrev IsPast : ℕ → ℕ → Seen → Type 0
IsPast version handle (Numbered q v n id m) = q.0 ≡ handle → version < v.0
IsPast version handle (BecameSettled q v n) = Unit {0}
IsPast version handle (CopyStarted q copy) = copy.0 ≡ handle → ⊥

last_or_before : (ps : List Placed) (new : Placed) (place : ℕ) (p : Placed) → element_at (ps ++ new ∷ []) place ≡ Some p → (element_at ps place ≡ Some p) ⊎ (new ≡ p)
last_or_before [] new zero p at = inr (same_some new p at)
last_or_before [] new (suc place) p at = none_some p at
last_or_before (x ∷ ps) new zero p at = inl at
last_or_before (x ∷ ps) new (suc place) p at = last_or_before ps new place p at

mapped_from : (f : Placed → Placed) (ps : List Placed) (place : ℕ) (p : Placed) → element_at (map f ps) place ≡ Some p → (q : Placed) × (element_at ps place ≡ Some q) × (f q ≡ p)
mapped_from f [] place p at = none_some p at
mapped_from f (x ∷ ps) zero p at = (x, refl, same_some (f x) p at)
mapped_from f (x ∷ ps) (suc place) p at = mapped_from f ps place p at

module _ (version handle : ℕ) where
  abbrev Shrinks : List Placed → List Placed → Type 0
  Shrinks now before = Follows (IsUpTo version) now before

  put_shrinks : (orders : Table (List Placed)) (k : ℕ) (ps before : List Placed) → (handle ≡ k → Shrinks ps before) → Shrinks (placed_in orders handle) before → Shrinks (placed_in (table.insert orders k ps) handle) before
  put_shrinks orders k ps before new h =
      elim (same_or_not handle k) [
        | inl same ↦ subst (λ (o : Option (List Placed)). Shrinks (unwrap_or o []) before) (sym (put_there orders k ps handle same)) (new same)
        | inr apart ↦ subst (λ (o : Option (List Placed)). Shrinks (unwrap_or o []) before) (sym (put_other orders k ps handle apart)) h
      ]

  one_shrinks : (trace : List Visible) (orders : Table (List Placed)) (x : Seen) → IsPast version handle x → Shrinks (placed_in (orders_after trace orders x) handle) (placed_in orders handle)
  one_shrinks trace orders (Numbered q v n id m) past =
      let new : Placed = new_entry trace v.0 n.0 id m in
      put_shrinks orders q.0 (placed_in orders q.0 ++ new ∷ []) (placed_in orders handle)
      (λ same place p at low. elim (last_or_before (placed_in orders q.0) new place p at) [
        | inl there ↦ (p, ap (λ (k : ℕ). element_at (placed_in orders k) place) same ∙ there, refl)
        | inr is ↦ let high = past (sym same) in let round = ap (λ (y : Placed). y.entry.round) is in absurd (omega (arith, low, high, round))
      ])
      (same_follows (IsUpTo version) (placed_in orders handle))
  one_shrinks trace orders (BecameSettled q v n) past =
      put_shrinks orders q.0 (map (settled_as v.0 n.0) (placed_in orders q.0)) (placed_in orders handle)
      (λ same place p at low.
      let was = mapped_from (settled_as v.0 n.0) (placed_in orders q.0) place p at in
      (was.0, ap (λ (k : ℕ). element_at (placed_in orders k) place) same ∙ was.1, sym (settled_same v.0 n.0 was.0) ∙ ap unsettled was.2))
      (same_follows (IsUpTo version) (placed_in orders handle))
  one_shrinks trace orders (CopyStarted q copy) past =
      put_shrinks orders copy.0 (placed_in orders q.0) (placed_in orders handle) (λ same. absurd (past (sym same))) (same_follows (IsUpTo version) (placed_in orders handle))

  all_shrink : (trace : List Visible) (orders : Table (List Placed)) (xs : List Seen) → AllOf (IsPast version handle) xs → Shrinks (placed_in (orders_after_all trace orders xs) handle) (placed_in orders handle)
  all_shrink trace orders [] past = same_follows (IsUpTo version) (placed_in orders handle)
  all_shrink trace orders (x ∷ xs) past =
      follows_both (IsUpTo version) (placed_in (orders_after_all trace (orders_after trace orders x) xs) handle) (placed_in (orders_after trace orders x) handle) (placed_in orders handle)
      (all_shrink trace (orders_after trace orders x) xs past.1) (one_shrinks trace orders x past.0)

-- no version up to this one is granted, attempted, or held under a lease any more
abbrev AreShut : WorldState → ℕ → ℕ → Type 0
AreShut w handle version = (low : ℕ) → low ≤ version → IsShutIn w handle low

-- what an event brings

-- by an order that is new
abbrev IsBrought : WorldState → WorldState → Body → Type 0
IsBrought w v (body.SetVersion order handle version base) = base.0 < version.0
IsBrought w v (body.CopyLocal order handle version copy copy_version) =
    (version.0 < copy_version.0) × (IsTrue w.observer.are_clocks_kept → AreShut w handle.0 version.0) × Follows IsAny (order_of w.observer handle.0) (order_of v.observer copy.0)
IsBrought w v other = Unit {0}

abbrev AreBrought : WorldState → WorldState → Type 0
AreBrought w v = (m : Message) → IsSent v.sent m → IsSent w.sent m ⊎ IsBrought w v m.body

abbrev HaveShrunk : WorldState → WorldState → Type 0
HaveShrunk w v = IsTrue v.observer.are_clocks_kept → IsTrue w.observer.are_clocks_kept → (handle version : ℕ) → AreShut w handle version → Follows (IsUpTo version) (order_of v.observer handle) (order_of w.observer handle)

new_brought : (w v : WorldState) (k : ℕ) (ms : List Message) → AllOf (λ x. IsBrought w v x.body) ms → (m : Message) → IsSent (w.sent ++ stamped k ms) m → IsSent w.sent m ⊎ IsBrought w v m.body
new_brought w v k ms all m there =
    elim (sent_cases w.sent (stamped k ms) m there) [
      | inl old ↦ inl old
      | inr now ↦
          let was = numbered_sent k ms now.0 m now.1 in
          inr (subst (λ (b : Body). IsBrought w v b) (was.2).2 (all_at (λ (x : Message). IsBrought w v x.body) ms (was.1).0 was.0 all (was.1).1))
    ]

unordered_brought : (w v : WorldState) (b : Body) → order_number b ≡ None → IsBrought w v b
unordered_brought w v (body.SetVersion order handle version base) none = none_some order (sym none)
unordered_brought w v (body.CopyLocal order handle version copy copy_version) none = none_some order (sym none)
unordered_brought w v other none = tt

all_as : {X : Type 0} (S T : X → Type 0) → ((x : X) → S x → T x) → (xs : List X) → AllOf S xs → AllOf T xs
all_as S T f [] h = tt
all_as S T f (x ∷ xs) h = (f x h.0, all_as S T f xs h.1)

quiet_brought : (w v : WorldState) (k : ℕ) (ms : List Message) → HasNoOrder ms → (m : Message) → IsSent (w.sent ++ stamped k ms) m → IsSent w.sent m ⊎ IsBrought w v m.body
quiet_brought w v k ms quiet = new_brought w v k ms (all_as (λ x. order_number x.body ≡ None) (λ x. IsBrought w v x.body) (λ x none. unordered_brought w v x.body none) ms (without_order ms quiet))

module _ (config : Config) (servers clients : ℕ) (w : WorldState) (r : IsReached config servers clients w) where
  waiting : IsOfWaits w.sent w.master
  waiting = sent_reached IsOfWaits waits_kept config servers clients w r

  -- what a server holds of a chunk was issued
  held_found : IsTrue w.master.up → (handle server version : ℕ) → version_held w.master handle server ≡ Some version → AllFound (IsLogPassed handle version) w.master.disk w.master.under_way × IsPassed handle version w.master.logged
  held_found up handle server version held = by_order (holders_were_ordered config servers clients w r up server handle version held)
    where
      by_order : WasOrdered w.sent server handle version → AllFound (IsLogPassed handle version) w.master.disk w.master.under_way × IsPassed handle version w.master.logged
      by_order (inl given) = let words = (given_reached handle version config servers clients w r).words given.1 (given.0, given.2) (inl given.4) in (words.0, words.1 up)
      by_order (inr cloned) = let shut = clones_shut config servers clients w r handle version (sent_of_cloned w.sent server handle version cloned) in (shut.found, (shut.up up).0)

  -- a source is shut up to what a server holds of it
  source_shut : IsTrue w.master.up → IsTrue w.observer.are_clocks_kept → (handle server version : ℕ) → version_held w.master handle server ≡ Some version → (row : ChunkRow) → chunk_of w.master.logged.table handle ≡ Some row → 2 ≤ row.references
      → AreShut w handle version
  source_shut up clocks handle server version held row there shared low less =
      let alone = shared_chunks_have_no_lease config servers clients w r clocks up handle row there shared in
      let passed = held_found up handle server version held in
      record {
        found = λ decided. passed_lower handle low version (state_of (log_changed_by_all w.master.disk (decided_changes decided w.master.under_way))) less (passed.0 decided);
        up = λ on. (passed_lower handle low version w.master.logged less passed.1, λ a is same. none_some a (sym alone.0 ∙ is));
        over = λ kept. alone.1 low;
      }

  -- the master

  -- no chunk of a file is a copy under way
  own_chunks : IsTrue w.master.up → AreOwn w.master
  own_chunks up file index handle at = by_copy (table.get w.master.logged.copies handle) refl
    where
      tied : IsCountedLog w.master.logged (state_of w.master.disk)
      tied = ((waiting.base.logged.up up).tied).base

      by_copy : (o : Option Copy) → table.get w.master.logged.copies handle ≡ o → o ≡ None
      by_copy None is = refl
      by_copy (Some c) is =
          let none = apart_here w.master.logged (state_of w.master.disk) tied handle c is in
          let one = placed_stands (chunks_at w.master.logged.table.files file) index handle at in
          let least = times_at_least w.master.logged.table.files file handle in
          absurd (omega (arith, none, one, least))

  -- what a step of the master orders of versions
  pub says_higher : (moment : ℕ) (i : NodeInput) (choice : Choice) → IsTrue w.master.up → AllOf (λ x. IsHigher (master_at w.master moment) (master_step w.master moment i choice).seen x.body) (master_step w.master moment i choice).out.sent
  says_higher moment i choice up =
      step_higher w.master (λ handle server version held. (held_found up handle server version held).1) (own_chunks up) (granted_is_at_most_issued config servers clients w r) moment i choice

  higher_brought : (moment : ℕ) (i : NodeInput) (choice : Choice) → IsTrue w.master.up → (b : Body) → IsHigher (master_at w.master moment) (master_step w.master moment i choice).seen b → IsBrought w (after_master w moment (master_step w.master moment i choice)).world b
  higher_brought moment i choice up (body.SetVersion order handle version base) h = h.0
  higher_brought moment i choice up (body.CopyLocal order handle version copy copy_version) h = (
    h.below,
    λ clocks. source_shut up clocks handle.0 h.server version.0 h.held h.row h.there h.shared,
    subst (λ (xs : List Seen). Follows IsAny (placed_in w.observer.orders handle.0) (placed_in (orders_after_all (observed_moment w.config.skew_ms w.observer moment).trace w.observer.orders xs) copy.0)) (sym h.seen_is)
        (subst (λ (o : Option (List Placed)). Follows IsAny (placed_in w.observer.orders handle.0) (unwrap_or o [])) (sym (put_there w.observer.orders copy.0 (placed_in w.observer.orders handle.0) copy.0 refl))
        (same_follows IsAny (placed_in w.observer.orders handle.0))),
  )
  higher_brought moment i choice up other h = tt

  master_brings : (moment : ℕ) (i : NodeInput) (choice : Choice) → IsTrue w.master.up → AreBrought w (after_master w moment (master_step w.master moment i choice)).world
  master_brings moment i choice up =
      let v : WorldState = (after_master w moment (master_step w.master moment i choice)).world in
      new_brought w v (suc (length w.sent)) (master_step w.master moment i choice).out.sent
      (all_as (λ x. IsHigher (master_at w.master moment) (master_step w.master moment i choice).seen x.body) (λ x. IsBrought w v x.body) (λ x h. higher_brought moment i choice up x.body h) (master_step w.master moment i choice).out.sent
      (says_higher moment i choice up))

  master_shrinks : (moment : ℕ) (i : NodeInput) (choice : Choice) → HaveShrunk w (after_master w moment (master_step w.master moment i choice)).world
  master_shrinks moment i choice clocks before handle version shut =
      elim (step_shows w.master moment i choice waiting.base.logged waiting.waits) [
        | inl none ↦ subst (λ (xs : List Seen). Follows (IsUpTo version) (placed_in (orders_after_all trace w.observer.orders xs) handle) (placed_in w.observer.orders handle)) (sym none) (same_follows (IsUpTo version) (placed_in w.observer.orders handle))
        | inr shows ↦ subst (λ (xs : List Seen). Follows (IsUpTo version) (placed_in (orders_after_all trace w.observer.orders xs) handle) (placed_in w.observer.orders handle)) (sym shows.seen)
            (one_shrinks version handle trace w.observer.orders (CopyStarted (handle_of shows.source) (handle_of shows.copy))
            (λ same. let used = (((shut version (omega arith)).up shows.up).0).0 in let new = shows.new in absurd (omega (arith, used, new, same))))
      ]
    where
      trace : List Visible
      trace = (observed_moment w.config.skew_ms w.observer moment).trace

  -- a server

  server_past : (index moment : ℕ) (s : ServerState) (i : NodeInput) (choice : Choice) → element_at w.servers index ≡ Some s → ((m : Message) → i ≡ input.Deliver m → IsAmong w.sent m) → IsTrue (observed_moment w.config.skew_ms w.observer moment).are_clocks_kept
      → IsTrue w.observer.are_clocks_kept → (handle version : ℕ) → AreShut w handle version → AllOf (IsPast version handle) (server_step s moment i choice).seen
  server_past index moment s i choice there came clocks before handle version shut =
      all_placed (IsPast version handle) (server_step s moment i choice).seen
      (λ place x at. one place x at (all_at IsOfServers (server_step s moment i choice).seen place x (server_shown s moment i choice) at))
    where
      one : (place : ℕ) (x : Seen) → element_at (server_step s moment i choice).seen place ≡ Some x → IsOfServers x → IsPast version handle x
      one place (Numbered q v n id m) at of = λ same.
          elim (cases_lt version v.0) [
            | inl past ↦ past
            | inr low ↦
                let under : IsUnderLease w index moment s q.0 v.0 n.0 = under_lease config servers clients w r index moment s i choice there came place q v n id m at in
                let over = (shut v.0 low).over before in
                none_some under.lease (sym (over_leases_number_nothing config servers clients w r handle v.0 over moment clocks index s there) ∙ ap (λ (k : ℕ). primary_of (server_at s moment) k v.0) (sym same) ∙ under.counts)
          ]
      one place (BecameSettled q v n) at of = tt
      one place (CopyStarted q copy) at of = absurd of

  -- an event

  record Known (v : WorldState) : Type 0 where
    brought : AreBrought w v
    shrunk : HaveShrunk w v

  same_known : (v : WorldState) → v.observer.orders ≡ w.observer.orders → AreBrought w v → Known v
  same_known v same brought =
      record {
        brought = brought;
        shrunk = λ clocks before handle version shut.
            subst (λ (orders : Table (List Placed)). Follows (IsUpTo version) (placed_in orders handle) (placed_in w.observer.orders handle)) (sym same) (same_follows (IsUpTo version) (placed_in w.observer.orders handle));
      }

  each_known : HoldsAfter w (λ e x. Known x.world)
  each_known =
      let k : ℕ = suc (length w.sent) in
      record {
        nothing = λ e. same_known w refl (λ m there. inl there);
        masters = λ e moment i choice is up. record { brought = master_brings moment i choice up; shrunk = master_shrinks moment i choice };
        opens = λ e moment choice.
            let v : WorldState = (after_master w moment (master_restart w.master moment choice)).world in
            same_known v (ap (λ (xs : List Seen). orders_after_all (observed_moment w.config.skew_ms w.observer moment).trace w.observer.orders xs) (restart_shown w.master moment choice))
            (new_brought w v k (master_restart w.master moment choice).out.sent (restart_silent (λ m. IsBrought w v m.body) w.master moment choice));
        serves = λ e index moment s i choice at is up.
            let v : WorldState = (after_server w index moment (server_step s moment i choice)).world in
            record {
              brought = quiet_brought w v k (server_step s moment i choice).out.sent (server_quiet s moment i choice);
              shrunk = λ clocks before handle version shut.
                  all_shrink version handle (observed_moment w.config.skew_ms w.observer moment).trace w.observer.orders (server_step s moment i choice).seen
                  (server_past index moment s i choice at (came_in w e (suc index) moment i is) clocks before handle version shut);
            };
        restarts = λ e index moment s choice at.
            let v : WorldState = (after_server w index moment (server_restart s moment choice)).world in
            same_known v (ap (λ (xs : List Seen). orders_after_all (observed_moment w.config.skew_ms w.observer moment).trace w.observer.orders xs) (restarted_shown s moment choice choice.ending))
            (quiet_brought w v k (server_restart s moment choice).out.sent (server_restarts_quiet s moment choice choice.ending));
        steps = λ e index moment s i choice at is up.
            let v : WorldState = (after_client w index moment (client_step s moment i choice)).world in
            same_known v (same_orders _ (suc index) (client_step s moment i choice).out.answer)
            (quiet_brought w v k (client_step s moment i choice).out.sent (quiet_orders (client_step s moment i choice).out.sent (client_quiet s moment i choice)));
        calls = λ e index moment s c choice at may.
            let v : WorldState = (after_client (with_call w index moment c) index moment (client_call s moment c choice)).world in
            same_known v (same_orders _ (suc index) (client_call s moment c choice).out.answer)
            (quiet_brought w v k (client_call s moment c choice).out.sent (quiet_orders (client_call s moment c choice).out.sent (call_quiet s moment c choice)));
        rots = λ e index q s x place byte ending is_kept at there up. same_known _ refl (λ m there. inl there);
      }

-- what orders of versions say, from the moment they are sent

abbrev IsCopied : WorldState → Body → Type 0
IsCopied w (body.SetVersion order handle version base) = base.0 < version.0
IsCopied w (body.CopyLocal order handle version copy copy_version) =
    (version.0 < copy_version.0) × (IsTrue w.observer.are_clocks_kept → AreShut w handle.0 version.0 × Follows (IsUpTo version.0) (order_of w.observer handle.0) (order_of w.observer copy.0))
IsCopied w other = Unit {0}

abbrev AreCopied : WorldState → Type 0
AreCopied w = (m : Message) → IsSent w.sent m → IsCopied w m.body

module _ (config : Config) (servers clients : ℕ) (w : WorldState) (r : IsReached config servers clients w) (step : Event × Choice) where
  known : Known config servers clients w r (happens w step.0 step.1).world
  known = holds_after w (λ e x. Known config servers clients w r x.world) (each_known config servers clients w r) step.0 step.1

  grown : HaveGrown w (happens w step.0 step.1).world
  grown = holds_after w (λ e x. HaveGrown w x.world) (orders_grow config servers clients w r) step.0 step.1

  shut_on : (handle version : ℕ) → AreShut w handle version → AreShut (happens w step.0 step.1).world handle version
  shut_on handle version shut low less = shut_later config servers clients w r step handle low (shut low less)

  clocks_were : IsTrue (happens w step.0 step.1).world.observer.are_clocks_kept → IsTrue w.observer.are_clocks_kept
  clocks_were clocks = clocks_before w (step ∷ []) clocks

  -- a source that is shut has no more entries up to its version; the copy keeps those that it has
  source_on : IsTrue (happens w step.0 step.1).world.observer.are_clocks_kept → (handle version : ℕ) (to : List Placed) → AreShut w handle version → Follows (IsUpTo version) (order_of w.observer handle) to
      → Follows (IsUpTo version) (order_of (happens w step.0 step.1).world.observer handle) to
  source_on clocks handle version to shut follows =
      follows_both (IsUpTo version) (order_of (happens w step.0 step.1).world.observer handle) (order_of w.observer handle) to (known.shrunk clocks (clocks_were clocks) handle version shut) follows

  old_copied : (b : Body) → IsCopied w b → IsCopied (happens w step.0 step.1).world b
  old_copied (body.SetVersion order handle version base) h = h
  old_copied (body.CopyLocal order handle version copy copy_version) h = (
    h.0,
    λ clocks.
        let was = h.1 (clocks_were clocks) in (
          shut_on handle.0 version.0 was.0,
          source_on clocks handle.0 version.0 (order_of (happens w step.0 step.1).world.observer copy.0) was.0
              (follows_both (IsUpTo version.0) (order_of w.observer handle.0) (order_of w.observer copy.0) (order_of (happens w step.0 step.1).world.observer copy.0) was.1
              (any_follows (IsUpTo version.0) (order_of w.observer copy.0) (order_of (happens w step.0 step.1).world.observer copy.0) (grown copy.0))),
        ),
  )
  old_copied other h = tt

  new_copied : (b : Body) → IsBrought w (happens w step.0 step.1).world b → IsCopied (happens w step.0 step.1).world b
  new_copied (body.SetVersion order handle version base) h = h
  new_copied (body.CopyLocal order handle version copy copy_version) h = (
    h.0,
    λ clocks.
        let shut = h.1 (clocks_were clocks) in (
          shut_on handle.0 version.0 shut,
          source_on clocks handle.0 version.0 (order_of (happens w step.0 step.1).world.observer copy.0) shut
              (any_follows (IsUpTo version.0) (order_of w.observer handle.0) (order_of (happens w step.0 step.1).world.observer copy.0) h.2),
        ),
  )
  new_copied other h = tt

  copied_next : AreCopied w → AreCopied (happens w step.0 step.1).world
  copied_next h m there =
      elim (known.brought m there) [
        | inl old ↦ old_copied m.body (h m old)
        | inr new ↦ new_copied m.body new
      ]

copied_on : (config : Config) (servers clients : ℕ) (w : WorldState) (steps : List (Event × Choice)) → IsReached config servers clients w → AreCopied w → AreCopied (after_events w steps)
copied_on config servers clients w [] r h = h
copied_on config servers clients w (step ∷ rest) r h = copied_on config servers clients (happens w step.0 step.1).world rest (reached_later config servers clients w (step ∷ []) r) (copied_next config servers clients w r step h)

copied_reached : (config : Config) (servers clients : ℕ) (w : WorldState) → IsReached config servers clients w → AreCopied w
copied_reached config servers clients w r = subst (λ (v : WorldState). AreCopied v) r.1 (copied_on config servers clients (new_world config servers clients) r.0 ([], refl) (λ m there. none_sent m there))

pub raises_go_above_their_base : RaisesGoAboveTheirBase
raises_go_above_their_base config servers clients w r place m at order handle version base is = subst (λ (b : Body). IsCopied w b) is (copied_reached config servers clients w r m (place, at))

copy_said : (config : Config) (servers clients : ℕ) (w : WorldState) → IsReached config servers clients w → (place : ℕ) (m : Message) → element_at w.sent place ≡ Some m
    → (order : OrderNo) (handle : Handle) (version : Version) (copy : Handle) (copy_version : Version) → m.body ≡ body.CopyLocal order handle version copy copy_version → IsCopied w (body.CopyLocal order handle version copy copy_version)
copy_said config servers clients w r place m at order handle version copy copy_version is = subst (λ (b : Body). IsCopied w b) is (copied_reached config servers clients w r m (place, at))

pub copies_go_above_their_source : CopiesGoAboveTheirSource
copies_go_above_their_source config servers clients w r place m at order handle version copy copy_version is = (copy_said config servers clients w r place m at order handle version copy copy_version is).0

pub copies_have_their_sources_entries : CopiesHaveTheirSourcesEntries
copies_have_their_sources_entries config servers clients w r clocks place m at order handle version copy copy_version is = ((copy_said config servers clients w r place m at order handle version copy copy_version is).1 clocks).1
