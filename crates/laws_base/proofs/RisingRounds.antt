-- The round of each entry was granted, or lies below what was; so the rounds of an order never fall.
use Rattle.std.proofs.Common.{◌≡◌, ◌⊎◌, ℕ, suc, ◌+◌, ◌≤◌, ◌<◌, true, List, [], ◌∷◌, ◌++◌, length, Option, Some, None, refl, sym, ap, subst, ◌∙◌, inl, inr, arith}
use Rattle.std.specs.Prelude.{◌&&◌, nat_le, unwrap_or, IsTrue}
use Rattle.std.specs.Ordering.{nat_cmp}
use Rattle.std.specs.FinMap as table
use Rattle.std.proofs.lemmas.Bool.{and_parts, cases_lt}
use Rattle.gfs_types.specs.declared.config.Config.{Config}
use Rattle.gfs_types.specs.declared.answer.Answer.{Answer}
use Rattle.gfs_types.specs.declared.ids.DataId.{DataId}
use Rattle.gfs_types.specs.declared.ids.Handle.{Handle}
use Rattle.gfs_types.specs.declared.ids.Version.{Version}
use Rattle.gfs_types.specs.declared.ids.Serial.{Serial}
use Rattle.gfs_types.specs.declared.mutation.Mutation.{Mutation}
use Rattle.messages.specs.declared.event.Event.{Event}
use Rattle.messages.specs.declared.event.NodeInput.{NodeInput}
use Rattle.messages.specs.declared.event.NodeInput.TheVariants as input
use Rattle.messages.specs.declared.message.Message.{Message}
use Rattle.primary_order.specs.SerialOrder.{SerialOrder}
use Rattle.relaxed_file.specs.Run.{Visible}
use Rattle.protocol.specs.Tables.{Table, element_at}
use Rattle.protocol.specs.Choice.{Choice, Ending, Goes, Lost, Stops}
use Rattle.protocol.specs.Seen.{Taken}
use Rattle.protocol.specs.declared.seen.Seen.{Seen}
use Rattle.protocol.specs.declared.seen.Seen.TheVariants.{Numbered, BecameSettled, CopyStarted}
use Rattle.protocol.specs.Observer.{Placed, Observer, observed_moment, observed_answer, placed_in, new_entry, orders_after_all}
use Rattle.protocol.specs.Master.{MasterState}
use Rattle.protocol.specs.Server.{ServerState, primary_of}
use Rattle.protocol.specs.ServerStep.{server_at, server_step, server_restart}
use Rattle.protocol.specs.MasterStep.{master_step, master_restart, started_master, found_log, opening, opens_as, has_opened, is_within_limits}
use Rattle.protocol.specs.ClientStep.{client_step, client_call}
use Rattle.protocol.specs.World.{WorldState, new_world, stamped, happens, after_events, IsReached}
use Rattle.laws_base.specs.Laws.{is_grant, grants_of}
use Rattle.laws_base.proofs.Steps.{on_cond, none_some, same_or_not, put_there, put_other}
use Rattle.laws_base.proofs.Entries.{AllOf}
use Rattle.laws_base.proofs.MembersRecorded.{all_at}
use Rattle.laws_base.proofs.MessagesSent.{IsSent, sent_before}
use Rattle.laws_base.proofs.LeaseOrders.{lease_grant, grant_counts}
use Rattle.laws_base.proofs.LeasesTold.{leases_are_told}
use Rattle.laws_base.proofs.LeasesTimely.{IsOfTimes, times_kept}
use Rattle.laws_base.proofs.ScenesReached.{scene_of, scene_reached}
use Rattle.laws_base.proofs.SentReached.{server_quiet, server_restarts_quiet, sent_reached}
use Rattle.laws_base.proofs.ClientMoves.{HasNoOrder, quiet_orders, client_quiet, call_quiet}
use Rattle.laws_base.proofs.Events.{with_call, HoldsAfter, holds_after}
use Rattle.laws_base.specs.Versions.{IsLeaseOver}
use Rattle.laws_base.proofs.EndedLeases.{past_is_over, over_leases_number_nothing}
use Rattle.laws_base.proofs.Histories.{after_both}
use Rattle.laws_base.proofs.MasterTalks.{IsCopying, master_shown, restart_shown}
use Rattle.laws_base.specs.Entries.{IsAmong}
use Rattle.laws_base.proofs.Stemming.{came_in, numbered_mutations_were_asked_for}
use Rattle.laws_base.specs.ChunkOrders.{unsettled}
use Rattle.laws_base.proofs.Placing.{all_placed, Holds, AreAll, all_keep, same_orders}
use Rattle.laws_base.proofs.Numbering.{restarted_shown}
use Rattle.laws_base.proofs.OnceShown.{NumbersNone, step_once}
use Rattle.laws_base.proofs.WaitsKept.{IsOfWaits, waits_kept}
use Rattle.laws_base.proofs.GrantsFollow.{GrantsAbove, step_passed}
use Rattle.laws_base.proofs.CopiesBegun.{ShowsCopy, step_shows}
use Rattle.laws_base.proofs.RoundsPassed.{IsOfServers, server_shown, rounds_passed, unused_is_new, primary_there}
use Rattle.laws_base.specs.RisingRounds.{LowerLeasesAreOver, EntriesAreOfGrantedRounds, RoundsOfOrdersRise}
use Rattle.laws_base.proofs.SentGrants.{counted_one, some_counted, AreAbove, above_more, quiet_above, above_counted, none_granted}
use Rattle.laws_base.proofs.OrderedOrders.{ArePaired, AreAllOrdered, none_ordered, IsNext, none_keep, once_keep, two_places}

pub lower_leases_are_over : LowerLeasesAreOver
lower_leases_are_over config servers clients w r clocks handle low high first second less =
    let h : IsOfTimes (scene_of w) = scene_reached IsOfTimes times_kept config servers clients w r in
    past_is_over w h handle low (λ until told. (h.timely clocks).newer handle low until high told (some_counted (λ m. is_grant handle high m.body) w.sent second) less)

-- a restart of the master sends nothing
pub restart_silent : (P : Message → Type 0) (m : MasterState) (moment : ℕ) (choice : Choice) → AllOf P (master_restart m moment choice).out.sent
restart_silent P m moment choice = by_ending choice.ending
  where
    started : MasterState
    started = started_master m.config m.server_count (found_log m choice) moment

    by_ending : (e : Ending) → AllOf P (opens_as m started (opening started) choice e).out.sent
    by_ending Lost = tt
    by_ending (Stops made) = tt
    by_ending Goes = on_cond (λ (t : Taken MasterState). AllOf P t.out.sent) (has_opened started (opening started) && is_within_limits (opening started).master) _ _ (λ _. tt) (λ _. tt)

-- a lease of a server was granted
pub leased_granted : (config : Config) (servers clients : ℕ) (w : WorldState) → IsReached config servers clients w → (index : ℕ) (s : ServerState) → element_at w.servers index ≡ Some s → (handle : ℕ) (p : SerialOrder) → table.get s.leases handle ≡ Some p
    → (m : Message) × IsSent w.sent m × (is_grant handle p.held.version m.body ≡ true)
leased_granted config servers clients w r index s at handle p is =
    let told = (leases_are_told config servers clients w r index s at handle p is).0 in (
      told.1,
      (told.0, told.2),
      grant_counts (lease_grant w.sent (suc index) handle p.chunk p.held told),
    )

-- what a server numbers it numbers under a lease that it holds and that counts
pub record IsUnderLease (w : WorldState) (index moment : ℕ) (s : ServerState) (handle version serial : ℕ) : Type 0 where
  pub lease : SerialOrder
  pub there : table.get s.leases handle ≡ Some lease
  pub number : lease.held.version ≡ version
  pub counts : primary_of (server_at s moment) handle version ≡ Some lease
  pub next : serial ≡ lease.serial + 1

pub under_lease : (config : Config) (servers clients : ℕ) (w : WorldState) → IsReached config servers clients w → (index moment : ℕ) (s : ServerState) (i : NodeInput) (choice : Choice) → element_at w.servers index ≡ Some s
    → ((m : Message) → i ≡ input.Deliver m → IsAmong w.sent m) → (place : ℕ) (handle : Handle) (version : Version) (serial : Serial) (id : DataId) (m : Mutation)
    → element_at (server_step s moment i choice).seen place ≡ Some (Numbered handle version serial id m) → IsUnderLease w index moment s handle.0 version.0 serial.0
under_lease config servers clients w r index moment s i choice there came place handle version serial id m at =
    let law = numbered_mutations_were_asked_for config servers clients w r index s there moment i choice came place handle version serial id m at in
    let lease : SerialOrder = (law.2).lease in
    let held = primary_there (server_at s moment) version.0 (table.get s.leases handle.0) lease (law.2).lease_is in
    record { lease = lease; there = held.0; number = held.1; counts = (law.2).lease_is; next = (law.2).next }

-- rounds are granted, or lie below

abbrev pub WasGranted : List Message → ℕ → ℕ → Type 0
WasGranted sent handle version = (m : Message) × IsSent sent m × (is_grant handle version m.body ≡ true)

-- one chunk's order is put anew
pub put_all : (T : ℕ → Placed → Type 0) (orders : Table (List Placed)) (k : ℕ) (ps : List Placed) → AreAll T orders → AllOf (Holds T k) ps → AreAll T (table.insert orders k ps)
put_all T orders k ps h all handle =
    elim (same_or_not handle k) [
      | inl same ↦ subst (λ (o : Option (List Placed)). AllOf (Holds T handle) (unwrap_or o [])) (sym (put_there orders k ps handle same)) (subst (λ (n : ℕ). AllOf (Holds T n) ps) (sym same) all)
      | inr apart ↦ subst (λ (o : Option (List Placed)). AllOf (Holds T handle) (unwrap_or o [])) (sym (put_other orders k ps handle apart)) (h handle)
    ]

-- what each event keeps of reached worlds holds in each of them
module _ (Q : WorldState → Type 0) (each : (config : Config) (servers clients : ℕ) (w : WorldState) → IsReached config servers clients w → Q w → HoldsAfter w (λ e x. Q x.world)) (config : Config) (servers clients : ℕ) where
  pub held_after : (before rest : List (Event × Choice)) → Q (after_events (new_world config servers clients) before) → Q (after_events (after_events (new_world config servers clients) before) rest)
  held_after before [] h = h
  held_after before (step ∷ rest) h =
      subst (λ (u : WorldState). Q (after_events u rest)) path (held_after (before ++ step ∷ []) rest (subst (λ (u : WorldState). Q u) (sym path) one))
    where
      path : after_events (new_world config servers clients) (before ++ step ∷ []) ≡ (happens (after_events (new_world config servers clients) before) step.0 step.1).world
      path = after_both (new_world config servers clients) before (step ∷ [])

      one : Q (happens (after_events (new_world config servers clients) before) step.0 step.1).world
      one = holds_after (after_events (new_world config servers clients) before) (λ e x. Q x.world) (each config servers clients (after_events (new_world config servers clients) before) (before, refl) h) step.0 step.1

  pub held_reached : Q (new_world config servers clients) → (w : WorldState) → IsReached config servers clients w → Q w
  held_reached new w r = subst (λ (u : WorldState). Q u) r.1 (held_after [] r.0 new)

-- What is asked of a predicate on a chunk, a round and a message: it holds of what is sent where an entry of that round is placed, and of all that was sent to a copy that begins.
pub record RoundPremises (Above : ℕ → ℕ → Message → Type 0) (AreAllAbove : ℕ → ℕ → List Message → Type 0) : Type 0 where
  pub more : (handle round k : ℕ) (sent ms : List Message) → AllOf (Above handle round) ms → AreAllAbove handle round sent → AreAllAbove handle round (sent ++ stamped k ms)
  pub quiet : (handle round : ℕ) (ms : List Message) → HasNoOrder ms → AllOf (Above handle round) ms
  pub masters : (config : Config) (servers clients : ℕ) (w : WorldState) → IsReached config servers clients w → IsTrue w.master.up → (moment : ℕ) (i : NodeInput) (choice : Choice) (handle place : ℕ) (p : Placed)
      → element_at (placed_in w.observer.orders handle) place ≡ Some p → AllOf (Above handle p.entry.round) (master_step w.master moment i choice).out.sent
  pub copies : (config : Config) (servers clients : ℕ) (w : WorldState) → IsReached config servers clients w → IsTrue w.master.up → (moment : ℕ) (i : NodeInput) (choice : Choice) (shows : ShowsCopy w.master (master_step w.master moment i choice)) (place : ℕ) (p : Placed)
      → element_at (placed_in w.observer.orders shows.source) place ≡ Some p → AllOf (Above shows.copy p.entry.round) (master_step w.master moment i choice).out.sent × AreAllAbove shows.copy p.entry.round w.sent

module _ (Above : ℕ → ℕ → Message → Type 0) (AreAllAbove : ℕ → ℕ → List Message → Type 0) (premises : RoundPremises Above AreAllAbove) where
  abbrev pub IsOfRound : List Message → ℕ → Placed → Type 0
  IsOfRound sent handle p = WasGranted sent handle p.entry.round ⊎ AreAllAbove handle p.entry.round sent

  round_later : (k : ℕ) (sent ms : List Message) (handle : ℕ) (p : Placed) → AllOf (Above handle p.entry.round) ms → IsOfRound sent handle p → IsOfRound (sent ++ stamped k ms) handle p
  round_later k sent ms handle p all h =
      elim (h) [
        | inl was ↦ inl (was.0, sent_before sent (stamped k ms) was.0 was.1, was.2)
        | inr above ↦ inr (premises.more handle p.entry.round k sent ms all above)
      ]

  module _ (config : Config) (servers clients : ℕ) (w : WorldState) (r : IsReached config servers clients w) where
    base : IsOfWaits w.sent w.master
    base = sent_reached IsOfWaits waits_kept config servers clients w r

    -- of each entry with its place
    placed_on : (T U : ℕ → Placed → Type 0) → ((handle place : ℕ) (p : Placed) → element_at (placed_in w.observer.orders handle) place ≡ Some p → T handle (unsettled p) → U handle (unsettled p)) → AreAll T w.observer.orders → AreAll U w.observer.orders
    placed_on T U go h handle = all_placed (Holds U handle) (placed_in w.observer.orders handle) (λ place p at. go handle place p at (all_at (Holds T handle) (placed_in w.observer.orders handle) place p (h handle) at))

    module _ (h : AreAll (IsOfRound w.sent) w.observer.orders) where
      stays : (ms : List Message) → ((handle place : ℕ) (p : Placed) → element_at (placed_in w.observer.orders handle) place ≡ Some p → AllOf (Above handle p.entry.round) ms) → AreAll (IsOfRound (w.sent ++ stamped (suc (length w.sent)) ms)) w.observer.orders
      stays ms all = placed_on (IsOfRound w.sent) (IsOfRound (w.sent ++ stamped (suc (length w.sent)) ms)) (λ handle place p at was. round_later (suc (length w.sent)) w.sent ms handle (unsettled p) (all handle place p at) was) h

      master_rounds : (trace : List Visible) (moment : ℕ) (i : NodeInput) (choice : Choice) → IsTrue w.master.up
          → AreAll (IsOfRound (w.sent ++ stamped (suc (length w.sent)) (master_step w.master moment i choice).out.sent)) (orders_after_all trace w.observer.orders (master_step w.master moment i choice).seen)
      master_rounds trace moment i choice up =
          elim (step_shows w.master moment i choice base.base.logged base.waits) [
            | inl none ↦ subst (λ (xs : List Seen). AreAll T (orders_after_all trace w.observer.orders xs)) (sym none) stay
            | inr shows ↦ subst (λ (xs : List Seen). AreAll T (orders_after_all trace w.observer.orders xs)) (sym shows.seen)
                (put_all T w.observer.orders shows.copy (placed_in w.observer.orders shows.source) stay
                (all_placed (Holds T shows.copy) (placed_in w.observer.orders shows.source)
                (λ place p at.
                let both = premises.copies config servers clients w r up moment i choice shows place p at in
                inr (premises.more shows.copy p.entry.round (suc (length w.sent)) w.sent ms both.0 both.1))))
          ]
        where
          ms : List Message
          ms = (master_step w.master moment i choice).out.sent

          T : ℕ → Placed → Type 0
          T = IsOfRound (w.sent ++ stamped (suc (length w.sent)) (master_step w.master moment i choice).out.sent)

          stay : AreAll T w.observer.orders
          stay = stays ms (λ handle place p at. premises.masters config servers clients w r up moment i choice handle place p at)

      server_rounds : (trace : List Visible) (index moment : ℕ) (s : ServerState) (i : NodeInput) (choice : Choice) → element_at w.servers index ≡ Some s → ((m : Message) → i ≡ input.Deliver m → IsAmong w.sent m)
          → AreAll (IsOfRound (w.sent ++ stamped (suc (length w.sent)) (server_step s moment i choice).out.sent)) (orders_after_all trace w.observer.orders (server_step s moment i choice).seen)
      server_rounds trace index moment s i choice there came =
          all_keep trace V T
          (record { numbers = λ handle version serial id m now. inl now; copies = λ handle copy now p t. absurd now })
          w.observer.orders (server_step s moment i choice).seen
          (all_placed V (server_step s moment i choice).seen (λ place y at. one place y at (all_at IsOfServers (server_step s moment i choice).seen place y (server_shown s moment i choice) at)))
          (stays (server_step s moment i choice).out.sent (λ handle place p at. premises.quiet handle p.entry.round (server_step s moment i choice).out.sent (server_quiet s moment i choice)))
        where
          more : List Message
          more = w.sent ++ stamped (suc (length w.sent)) (server_step s moment i choice).out.sent

          T : ℕ → Placed → Type 0
          T = IsOfRound (w.sent ++ stamped (suc (length w.sent)) (server_step s moment i choice).out.sent)

          V : Seen → Type 0
          V (Numbered handle version serial id m) = WasGranted (w.sent ++ stamped (suc (length w.sent)) (server_step s moment i choice).out.sent) handle.0 version.0
          V (BecameSettled handle version serial) = Unit {0}
          V (CopyStarted handle copy) = ⊥

          one : (place : ℕ) (y : Seen) → element_at (server_step s moment i choice).seen place ≡ Some y → IsOfServers y → V y
          one place (Numbered handle version serial id m) at is =
              let under = under_lease config servers clients w r index moment s i choice there came place handle version serial id m at in
              let granted = leased_granted config servers clients w r index s there handle.0 under.lease under.there in
              (granted.0, sent_before w.sent (stamped (suc (length w.sent)) (server_step s moment i choice).out.sent) granted.0 granted.1, ap (λ (n : ℕ). is_grant handle.0 n (granted.0).body) (sym under.number) ∙ granted.2)
          one place (BecameSettled handle version serial) at is = tt
          one place (CopyStarted handle copy) at is = absurd is

      each_round : HoldsAfter w (λ e x. AreAll (IsOfRound x.world.sent) x.world.observer.orders)
      each_round =
          record {
            nothing = λ e. h;
            masters = λ e moment i choice is up. master_rounds (observed_moment w.config.skew_ms w.observer moment).trace moment i choice up;
            opens = λ e moment choice.
                subst (λ (xs : List Seen). AreAll (IsOfRound (w.sent ++ stamped (suc (length w.sent)) (master_restart w.master moment choice).out.sent)) (orders_after_all (observed_moment w.config.skew_ms w.observer moment).trace w.observer.orders xs))
                (sym (restart_shown w.master moment choice))
                (stays (master_restart w.master moment choice).out.sent (λ handle place p at. restart_silent (Above handle p.entry.round) w.master moment choice));
            serves = λ e index moment s i choice at is up. server_rounds (observed_moment w.config.skew_ms w.observer moment).trace index moment s i choice at (came_in w e (suc index) moment i is);
            restarts = λ e index moment s choice at.
                subst (λ (xs : List Seen). AreAll (IsOfRound (w.sent ++ stamped (suc (length w.sent)) (server_restart s moment choice).out.sent)) (orders_after_all (observed_moment w.config.skew_ms w.observer moment).trace w.observer.orders xs))
                (sym (restarted_shown s moment choice choice.ending))
                (stays (server_restart s moment choice).out.sent (λ handle place p at. premises.quiet handle p.entry.round (server_restart s moment choice).out.sent (server_restarts_quiet s moment choice choice.ending)));
            steps = λ e index moment s i choice at is up.
                subst (λ (orders : Table (List Placed)). AreAll (IsOfRound (w.sent ++ stamped (suc (length w.sent)) (client_step s moment i choice).out.sent)) orders) (sym (same_orders _ (suc index) (client_step s moment i choice).out.answer))
                (stays (client_step s moment i choice).out.sent (λ handle place p at. premises.quiet handle p.entry.round (client_step s moment i choice).out.sent (quiet_orders (client_step s moment i choice).out.sent (client_quiet s moment i choice))));
            calls = λ e index moment s c choice at may.
                subst (λ (orders : Table (List Placed)). AreAll (IsOfRound (w.sent ++ stamped (suc (length w.sent)) (client_call s moment c choice).out.sent)) orders) (sym (same_orders _ (suc index) (client_call s moment c choice).out.answer))
                (stays (client_call s moment c choice).out.sent (λ handle place p at. premises.quiet handle p.entry.round (client_call s moment c choice).out.sent (quiet_orders (client_call s moment c choice).out.sent (call_quiet s moment c choice))));
            rots = λ e index handle s x place byte ending is_kept at there up. h;
          }

  abbrev AreRound : WorldState → Type 0
  AreRound w = AreAll (IsOfRound w.sent) w.observer.orders

  none_placed : (T : ℕ → Placed → Type 0) → AreAll T table.empty
  none_placed T handle = subst (λ (o : Option (List Placed)). AllOf (Holds T handle) (unwrap_or o [])) (sym (table.get-empty nat_cmp handle)) tt

  pub round_of : (config : Config) (servers clients : ℕ) (w : WorldState) → IsReached config servers clients w → (handle place : ℕ) (p : Placed) → element_at (placed_in w.observer.orders handle) place ≡ Some p → IsOfRound w.sent handle (unsettled p)
  round_of config servers clients w r handle place p at =
      all_at (Holds (IsOfRound w.sent) handle) (placed_in w.observer.orders handle) place p (held_reached AreRound each_round config servers clients (none_placed (IsOfRound [])) w r handle) at

-- a round was granted, or lies below each that was granted to the chunk
granted_rounds : RoundPremises (λ handle round m. GrantsAbove handle round m.body) AreAbove
granted_rounds =
    record {
      more = above_more;
      quiet = quiet_above;
      masters = λ config servers clients w r up moment i choice handle place p at.
          let base : IsOfWaits w.sent w.master = sent_reached IsOfWaits waits_kept config servers clients w r in
          (step_passed handle p.entry.round w.master moment i choice base.base.logged base.waits (rounds_passed config servers clients w r handle place p at)).0;
      copies = λ config servers clients w r up moment i choice shows place p at. (
        (shows.follows p.entry.round (inr ((rounds_passed config servers clients w r shows.source place p at).up up).0)).0,
        none_granted shows.copy p.entry.round w.sent (unused_is_new config servers clients w r up shows.copy shows.new).granted,
      );
    }

pub entries_are_of_granted_rounds : EntriesAreOfGrantedRounds
entries_are_of_granted_rounds config servers clients w r handle place p at =
    elim (round_of (λ q round m. GrantsAbove q round m.body) AreAbove granted_rounds config servers clients w r handle place p at) [
      | inl was ↦ inl (counted_one (λ m. is_grant handle p.entry.round m.body) w.sent was.0 (was.1).0 (was.1).1 was.2)
      | inr above ↦ inr (λ version some. above_counted handle p.entry.round version w.sent above some)
    ]

-- rounds rise

abbrev IsNotAfter : Placed → Placed → Type 0
IsNotAfter p q = p.entry.round ≤ q.entry.round

abbrev AreRising : WorldState → Type 0
AreRising w = IsTrue w.observer.are_clocks_kept → AreAllOrdered IsNotAfter w.observer.orders

copies_none : (xs : List Seen) → AllOf IsCopying xs → AllOf NumbersNone xs
copies_none xs all = all_placed NumbersNone xs (λ place x at. one_none x (all_at IsCopying xs place x all at))
  where
    one_none : (x : Seen) → IsCopying x → NumbersNone x
    one_none (Numbered handle version serial id m) is = absurd is
    one_none (BecameSettled handle version serial) is = tt
    one_none (CopyStarted handle copy) is = tt

-- an answer that is seen changes no order
answered : (o : Observer) (n : ℕ) (a : Option Answer) → (IsTrue o.are_clocks_kept → AreAllOrdered IsNotAfter o.orders) → IsTrue (observed_answer o n a).are_clocks_kept → AreAllOrdered IsNotAfter (observed_answer o n a).orders
answered o n None h = h
answered o n (Some reply) h = h

module _ (config : Config) (servers clients : ℕ) (w : WorldState) (r : IsReached config servers clients w) where
  -- what a server numbers is of no lower round than the entries there
  comes_last : (trace : List Visible) (index moment : ℕ) (s : ServerState) (i : NodeInput) (choice : Choice) → IsTrue (observed_moment w.config.skew_ms w.observer moment).are_clocks_kept → element_at w.servers index ≡ Some s
      → ((m : Message) → i ≡ input.Deliver m → IsAmong w.sent m) → (place : ℕ) (x : Seen) → element_at (server_step s moment i choice).seen place ≡ Some x → IsNext IsNotAfter trace w.observer.orders x
  comes_last trace index moment s i choice clocks there came place (Numbered handle version serial id m) at =
      all_placed (λ p. ArePaired IsNotAfter p (new_entry trace version.0 serial.0 id m)) (placed_in w.observer.orders handle.0)
      (λ n p here. elim (cases_lt version.0 p.entry.round) [
        | inl above ↦ absurd (not_over (lower_leases_are_over config servers clients w r before handle.0 version.0 p.entry.round granted (later n p here above) above))
        | inr least ↦ least
      ])
    where
      under : IsUnderLease w index moment s handle.0 version.0 serial.0
      under = under_lease config servers clients w r index moment s i choice there came place handle version serial id m at

      before : IsTrue w.observer.are_clocks_kept
      before = (and_parts w.observer.are_clocks_kept (nat_le w.observer.greatest (moment + w.config.skew_ms)) clocks).0

      granted : 1 ≤ grants_of handle.0 version.0 w.sent
      granted =
          let was = leased_granted config servers clients w r index s there handle.0 under.lease under.there in
          counted_one (λ x. is_grant handle.0 version.0 x.body) w.sent was.0 (was.1).0 (was.1).1 (ap (λ (n : ℕ). is_grant handle.0 n (was.0).body) (sym under.number) ∙ was.2)

      later : (n : ℕ) (p : Placed) → element_at (placed_in w.observer.orders handle.0) n ≡ Some p → version.0 < p.entry.round → 1 ≤ grants_of handle.0 p.entry.round w.sent
      later n p here above =
          elim (entries_are_of_granted_rounds config servers clients w r handle.0 n p here) [
            | inl was ↦ was
            | inr below ↦ absurd (let less = below version.0 granted in omega (arith, less, above))
          ]

      not_over : IsLeaseOver w handle.0 version.0 → ⊥
      not_over over = none_some under.lease (sym (over_leases_number_nothing config servers clients w r handle.0 version.0 over moment clocks index s there) ∙ under.counts)
  comes_last trace index moment s i choice clocks there came place (BecameSettled handle version serial) at = tt
  comes_last trace index moment s i choice clocks there came place (CopyStarted handle copy) at = tt

  clocks_were : (moment : ℕ) → IsTrue (observed_moment w.config.skew_ms w.observer moment).are_clocks_kept → IsTrue w.observer.are_clocks_kept
  clocks_were moment clocks = (and_parts w.observer.are_clocks_kept (nat_le w.observer.greatest (moment + w.config.skew_ms)) clocks).0

  each_rising : AreRising w → HoldsAfter w (λ e x. AreRising x.world)
  each_rising h =
      record {
        nothing = λ e. h;
        masters = λ e moment i choice is up clocks.
            none_keep IsNotAfter (observed_moment w.config.skew_ms w.observer moment).trace w.observer.orders (master_step w.master moment i choice).seen
            (copies_none (master_step w.master moment i choice).seen (master_shown w.master moment i choice)) (h (clocks_were moment clocks));
        opens = λ e moment choice clocks.
            subst (λ (xs : List Seen). AreAllOrdered IsNotAfter (orders_after_all (observed_moment w.config.skew_ms w.observer moment).trace w.observer.orders xs)) (sym (restart_shown w.master moment choice)) (h (clocks_were moment clocks));
        serves = λ e index moment s i choice at is up clocks.
            let came : (m : Message) → i ≡ input.Deliver m → IsAmong w.sent m = came_in w e (suc index) moment i is in
            let trace : List Visible = (observed_moment w.config.skew_ms w.observer moment).trace in
            once_keep IsNotAfter trace w.observer.orders (server_step s moment i choice).seen (step_once s moment i choice)
            (all_placed (IsNext IsNotAfter trace w.observer.orders) (server_step s moment i choice).seen (comes_last trace index moment s i choice clocks at came)) (h (clocks_were moment clocks));
        restarts = λ e index moment s choice at clocks.
            subst (λ (xs : List Seen). AreAllOrdered IsNotAfter (orders_after_all (observed_moment w.config.skew_ms w.observer moment).trace w.observer.orders xs)) (sym (restarted_shown s moment choice choice.ending)) (h (clocks_were moment clocks));
        steps = λ e index moment s i choice at is up clocks. answered (observed_moment w.config.skew_ms w.observer moment) (suc index) (client_step s moment i choice).out.answer (λ c. h (clocks_were moment c)) clocks;
        calls = λ e index moment s c choice at may clocks.
            answered (observed_moment w.config.skew_ms (with_call w index moment c).observer moment) (suc index) (client_call s moment c choice).out.answer
            (λ both. h (clocks_were moment (and_parts (observed_moment w.config.skew_ms w.observer moment).are_clocks_kept (nat_le (observed_moment w.config.skew_ms w.observer moment).greatest (moment + w.config.skew_ms)) both).0)) clocks;
        rots = λ e index handle s x place byte ending is_kept at there up. h;
      }

pub rounds_of_orders_rise : RoundsOfOrdersRise
rounds_of_orders_rise config servers clients w r clocks handle place later p q at there less =
    two_places IsNotAfter (placed_in w.observer.orders handle) place later p q (held_reached AreRising each_rising config servers clients (λ _. none_ordered IsNotAfter) w r clocks handle) at there less
