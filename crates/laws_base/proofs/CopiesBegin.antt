-- From its beginning on a copy's order begins with its source's, and what is granted of it is above the rounds of these entries.
use Rattle.std.proofs.Common.{◌≡◌, ℕ, zero, suc, List, [], ◌∷◌, ◌++◌, length, map, Option, Some, None, refl, sym, ap, subst, ◌∙◌, inl, inr}
use Rattle.std.specs.Prelude.{unwrap_or}
use Rattle.std.specs.FinMap as table
use Rattle.gfs_types.specs.declared.config.Config.{Config}
use Rattle.gfs_types.specs.declared.ids.Handle.{Handle}
use Rattle.messages.specs.declared.event.Event.{Event}
use Rattle.messages.specs.declared.event.NodeInput.{NodeInput}
use Rattle.relaxed_file.specs.Run.{Visible}
use Rattle.protocol.specs.Tables.{Table, element_at}
use Rattle.protocol.specs.Sending.{handle_of}
use Rattle.protocol.specs.Choice.{Choice}
use Rattle.protocol.specs.declared.seen.Seen.{Seen}
use Rattle.protocol.specs.declared.seen.Seen.TheVariants.{Numbered, BecameSettled, CopyStarted}
use Rattle.protocol.specs.Observer.{Placed, observed_moment, placed_in, settled_as, new_entry, orders_after, orders_after_all}
use Rattle.protocol.specs.ServerStep.{server_step, server_restart}
use Rattle.protocol.specs.MasterStep.{master_step, master_restart}
use Rattle.protocol.specs.ClientStep.{client_step, client_call}
use Rattle.protocol.specs.World.{WorldState, Happened, after_master, happens, after_events, IsReached}
use Rattle.laws_base.proofs.Steps.{none_some, same_some, same_or_not, put_there, put_other}
use Rattle.laws_base.proofs.Entries.{AllOf}
use Rattle.laws_base.proofs.SentReached.{server_quiet, server_restarts_quiet, sent_reached}
use Rattle.laws_base.proofs.ClientMoves.{quiet_orders, client_quiet, call_quiet}
use Rattle.laws_base.proofs.Events.{HoldsAfter, holds_after}
use Rattle.laws_base.proofs.LeasesStayOver.{reached_later}
use Rattle.laws_base.proofs.MasterTalks.{restart_shown}
use Rattle.laws_base.specs.ChunkOrders.{unsettled}
use Rattle.laws_base.proofs.Placing.{same_orders}
use Rattle.laws_base.proofs.Numbering.{restarted_shown}
use Rattle.laws_base.proofs.WaitsKept.{IsOfWaits, waits_kept}
use Rattle.laws_base.proofs.GrantsFollow.{GrantsAbove, HasPassed, step_passed, restart_passed}
use Rattle.laws_base.proofs.CopiesBegun.{ShowsCopy, step_shows}
use Rattle.laws_base.proofs.RoundsPassed.{IsOfServers, server_shown, rounds_passed, unused_is_new}
use Rattle.laws_base.specs.RisingRounds.{BeginsWith, CopiesBeginWithTheirSource}
use Rattle.laws_base.proofs.SentGrants.{AreAbove, above_more, quiet_above, above_counted, none_granted}
use Rattle.laws_base.proofs.OrderedOrders.{settled_same}
use Rattle.laws_base.proofs.RisingRounds.{restart_silent}

-- lists

map-append : (xs ys : List Placed) → map unsettled (xs ++ ys) ≡ map unsettled xs ++ map unsettled ys
map-append [] ys = refl
map-append (x ∷ xs) ys = ap (λ (zs : List Placed). unsettled x ∷ zs) (map-append xs ys)

append-append : (xs ys zs : List Placed) → (xs ++ ys) ++ zs ≡ xs ++ (ys ++ zs)
append-append [] ys zs = refl
append-append (x ∷ xs) ys zs = ap (λ (vs : List Placed). x ∷ vs) (append-append xs ys zs)

append-[] : (xs : List Placed) → xs ≡ xs ++ []
append-[] [] = refl
append-[] (x ∷ xs) = ap (λ (vs : List Placed). x ∷ vs) (append-[] xs)

settled_unsettled : (version serial : ℕ) (ps : List Placed) → map unsettled (map (settled_as version serial) ps) ≡ map unsettled ps
settled_unsettled version serial [] = refl
settled_unsettled version serial (p ∷ ps) =
    ap (λ (q : Placed). q ∷ map unsettled (map (settled_as version serial) ps)) (settled_same version serial p) ∙ ap (λ (qs : List Placed). unsettled p ∷ qs) (settled_unsettled version serial ps)

same_begins : (first : List Placed) → BeginsWith first first
same_begins first = ([], append-[] (map unsettled first))

more_begins : (first all : List Placed) (new : Placed) → BeginsWith first all → BeginsWith first (all ++ new ∷ [])
more_begins first all new h =
    (h.0 ++ unsettled new ∷ [], map-append all (new ∷ []) ∙ ap (λ (qs : List Placed). qs ++ unsettled new ∷ []) h.1 ∙ append-append (map unsettled first) h.0 (unsettled new ∷ []))

settled_begins : (version serial : ℕ) (first all : List Placed) → BeginsWith first all → BeginsWith first (map (settled_as version serial) all)
settled_begins version serial first all h = (h.0, settled_unsettled version serial all ∙ h.1)

-- an empty order begins with nothing
none_begins : (first all other : List Placed) → all ≡ [] → BeginsWith first all → BeginsWith first other
none_begins [] all other none h = (map unsettled other, refl)
none_begins (p ∷ first) all other none h =
    none_some (unsettled p) (ap (λ (qs : List Placed). first_of qs) (ap (λ (qs : List Placed). map unsettled qs) (sym none) ∙ h.1))
  where
    first_of : List Placed → Option Placed
    first_of [] = None
    first_of (q ∷ qs) = Some q

-- what is seen keeps it

module _ (first : List Placed) (copy : ℕ) where
  abbrev Begins : Table (List Placed) → Type 0
  Begins orders = BeginsWith first (placed_in orders copy)

  put_begins : (orders : Table (List Placed)) (k : ℕ) (ps : List Placed) → (copy ≡ k → BeginsWith first ps) → Begins orders → Begins (table.insert orders k ps)
  put_begins orders k ps new h =
      elim (same_or_not copy k) [
        | inl same ↦ subst (λ (o : Option (List Placed)). BeginsWith first (unwrap_or o [])) (sym (put_there orders k ps copy same)) (new same)
        | inr apart ↦ subst (λ (o : Option (List Placed)). BeginsWith first (unwrap_or o [])) (sym (put_other orders k ps copy apart)) h
      ]

  one_begins : (trace : List Visible) (orders : Table (List Placed)) (x : Seen) → IsOfServers x → Begins orders → Begins (orders_after trace orders x)
  one_begins trace orders (Numbered handle version serial id m) of h =
      put_begins orders handle.0 (placed_in orders handle.0 ++ new_entry trace version.0 serial.0 id m ∷ [])
      (λ same. more_begins first (placed_in orders handle.0) (new_entry trace version.0 serial.0 id m) (subst (λ (n : ℕ). BeginsWith first (placed_in orders n)) same h)) h
  one_begins trace orders (BecameSettled handle version serial) of h =
      put_begins orders handle.0 (map (settled_as version.0 serial.0) (placed_in orders handle.0))
      (λ same. settled_begins version.0 serial.0 first (placed_in orders handle.0) (subst (λ (n : ℕ). BeginsWith first (placed_in orders n)) same h)) h
  one_begins trace orders (CopyStarted handle other) of h = absurd of

  all_begin : (trace : List Visible) (orders : Table (List Placed)) (xs : List Seen) → AllOf IsOfServers xs → Begins orders → Begins (orders_after_all trace orders xs)
  all_begin trace orders [] all h = h
  all_begin trace orders (x ∷ xs) all h = all_begin trace (orders_after trace orders x) xs all.1 (one_begins trace orders x all.0 h)

  -- a world in which the copy has begun so
  pub record HasBegun (w : WorldState) : Type 0 where
    pub begins : Begins w.observer.orders
    pub passed : (place : ℕ) (p : Placed) → element_at first place ≡ Some p → HasPassed copy p.entry.round w.master
    pub above : (place : ℕ) (p : Placed) → element_at first place ≡ Some p → AreAbove copy p.entry.round w.sent

  module _ (config : Config) (servers clients : ℕ) (w : WorldState) (r : IsReached config servers clients w) (h : HasBegun w) where
    base : IsOfWaits w.sent w.master
    base = sent_reached IsOfWaits waits_kept config servers clients w r

    master_begins : (trace : List Visible) (moment : ℕ) (i : NodeInput) (choice : Choice) → Begins (orders_after_all trace w.observer.orders (master_step w.master moment i choice).seen)
    master_begins trace moment i choice =
        elim (step_shows w.master moment i choice base.base.logged base.waits) [
          | inl none ↦ subst (λ (xs : List Seen). Begins (orders_after_all trace w.observer.orders xs)) (sym none) h.begins
          | inr shows ↦ subst (λ (xs : List Seen). Begins (orders_after_all trace w.observer.orders xs)) (sym shows.seen)
              (put_begins w.observer.orders shows.copy (placed_in w.observer.orders shows.source)
              (λ same. none_begins first (placed_in w.observer.orders copy) (placed_in w.observer.orders shows.source)
              (ap (λ (n : ℕ). placed_in w.observer.orders n) same ∙ (unused_is_new config servers clients w r shows.up shows.copy shows.new).empty) h.begins) h.begins)
        ]

    each_begun : HoldsAfter w (λ e x. HasBegun x.world)
    each_begun =
        record {
          nothing = λ e. h;
          masters = λ e moment i choice is up. record {
            begins = master_begins (observed_moment w.config.skew_ms w.observer moment).trace moment i choice;
            passed = λ place p at. (step_passed copy p.entry.round w.master moment i choice base.base.logged base.waits (h.passed place p at)).1;
            above = λ place p at. above_more copy p.entry.round (suc (length w.sent)) w.sent (master_step w.master moment i choice).out.sent
                (step_passed copy p.entry.round w.master moment i choice base.base.logged base.waits (h.passed place p at)).0 (h.above place p at);
          };
          opens = λ e moment choice. record {
            begins = subst (λ (xs : List Seen). Begins (orders_after_all (observed_moment w.config.skew_ms w.observer moment).trace w.observer.orders xs)) (sym (restart_shown w.master moment choice)) h.begins;
            passed = λ place p at. restart_passed copy p.entry.round w.master moment choice base.base.issued base.base.logged (h.passed place p at);
            above = λ place p at. above_more copy p.entry.round (suc (length w.sent)) w.sent (master_restart w.master moment choice).out.sent
                (restart_silent (λ m. GrantsAbove copy p.entry.round m.body) w.master moment choice) (h.above place p at);
          };
          serves = λ e index moment s i choice at is up. record {
            begins = all_begin (observed_moment w.config.skew_ms w.observer moment).trace w.observer.orders (server_step s moment i choice).seen (server_shown s moment i choice) h.begins;
            passed = h.passed;
            above = λ place p at. above_more copy p.entry.round (suc (length w.sent)) w.sent (server_step s moment i choice).out.sent
                (quiet_above copy p.entry.round (server_step s moment i choice).out.sent (server_quiet s moment i choice)) (h.above place p at);
          };
          restarts = λ e index moment s choice at. record {
            begins = subst (λ (xs : List Seen). Begins (orders_after_all (observed_moment w.config.skew_ms w.observer moment).trace w.observer.orders xs)) (sym (restarted_shown s moment choice choice.ending)) h.begins;
            passed = h.passed;
            above = λ place p at. above_more copy p.entry.round (suc (length w.sent)) w.sent (server_restart s moment choice).out.sent
                (quiet_above copy p.entry.round (server_restart s moment choice).out.sent (server_restarts_quiet s moment choice choice.ending)) (h.above place p at);
          };
          steps = λ e index moment s i choice at is up. record {
            begins = subst (λ (orders : Table (List Placed)). Begins orders) (sym (same_orders _ (suc index) (client_step s moment i choice).out.answer)) h.begins;
            passed = h.passed;
            above = λ place p at. above_more copy p.entry.round (suc (length w.sent)) w.sent (client_step s moment i choice).out.sent
                (quiet_above copy p.entry.round (client_step s moment i choice).out.sent (quiet_orders (client_step s moment i choice).out.sent (client_quiet s moment i choice))) (h.above place p at);
          };
          calls = λ e index moment s c choice at may. record {
            begins = subst (λ (orders : Table (List Placed)). Begins orders) (sym (same_orders _ (suc index) (client_call s moment c choice).out.answer)) h.begins;
            passed = h.passed;
            above = λ place p at. above_more copy p.entry.round (suc (length w.sent)) w.sent (client_call s moment c choice).out.sent
                (quiet_above copy p.entry.round (client_call s moment c choice).out.sent (quiet_orders (client_call s moment c choice).out.sent (call_quiet s moment c choice))) (h.above place p at);
          };
          rots = λ e index handle s x place byte ending is_kept at there up. record { begins = h.begins; passed = h.passed; above = h.above };
        }

  begun_on : (config : Config) (servers clients : ℕ) (w : WorldState) (steps : List (Event × Choice)) → IsReached config servers clients w → HasBegun w → HasBegun (after_events w steps)
  begun_on config servers clients w [] r h = h
  begun_on config servers clients w (step ∷ rest) r h =
      begun_on config servers clients (happens w step.0 step.1).world rest (reached_later config servers clients w (step ∷ []) r) (holds_after w (λ e x. HasBegun x.world) (each_begun config servers clients w r h) step.0 step.1)

-- the step in which the copy begins

abbrev handles_in : Seen → ℕ × ℕ
handles_in (CopyStarted source new) = (source.0, new.0)
handles_in other = (0, 0)

only : (x y : Seen) (n : ℕ) → element_at (x ∷ []) n ≡ Some y → x ≡ y
only x y zero is = same_some x y is
only x y (suc n) is = none_some y is

pub first_begun : (config : Config) (servers clients : ℕ) (w : WorldState) → IsReached config servers clients w → (moment : ℕ) (i : NodeInput) (taken : Choice) (place : ℕ) (handle copy : Handle)
    → element_at (master_step w.master moment i taken).seen place ≡ Some (CopyStarted handle copy) → HasBegun (placed_in w.observer.orders handle.0) copy.0 (after_master w moment (master_step w.master moment i taken)).world
first_begun config servers clients w r moment i taken place handle copy at =
    elim (step_shows w.master moment i taken base_here.base.logged base_here.waits) [
      | inl none ↦ none_some (CopyStarted handle copy) (sym (ap (λ (xs : List Seen). element_at xs place) none) ∙ at)
      | inr shows ↦
          let one : CopyStarted (handle_of shows.source) (handle_of shows.copy) ≡ CopyStarted handle copy = only (CopyStarted (handle_of shows.source) (handle_of shows.copy)) (CopyStarted handle copy) place (sym (ap (λ (xs : List Seen). element_at xs place) shows.seen) ∙ at) in
          subst (λ (h : ℕ × ℕ). HasBegun (placed_in w.observer.orders h.0) h.1 x.world) (ap handles_in one) (by_copy shows)
    ]
  where
    base_here : IsOfWaits w.sent w.master
    base_here = sent_reached IsOfWaits waits_kept config servers clients w r

    x : Happened
    x = after_master w moment (master_step w.master moment i taken)

    by_copy : (shows : ShowsCopy w.master (master_step w.master moment i taken)) → HasBegun (placed_in w.observer.orders shows.source) shows.copy (after_master w moment (master_step w.master moment i taken)).world
    by_copy shows =
        record {
          begins = subst (λ (xs : List Seen). Begins source shows.copy (orders_after_all trace w.observer.orders xs)) (sym shows.seen)
              (subst (λ (o : Option (List Placed)). BeginsWith source (unwrap_or o [])) (sym (put_there w.observer.orders shows.copy source shows.copy refl)) (same_begins source));
          passed = λ n p here. (follows n p here).1;
          above = λ n p here.
              above_more shows.copy p.entry.round (suc (length w.sent)) w.sent (master_step w.master moment i taken).out.sent (follows n p here).0
              (none_granted shows.copy p.entry.round w.sent (unused_is_new config servers clients w r shows.up shows.copy shows.new).granted);
        }
      where
        source : List Placed
        source = placed_in w.observer.orders shows.source

        trace : List Visible
        trace = (observed_moment w.config.skew_ms w.observer moment).trace

        follows : (n : ℕ) (p : Placed) → element_at (placed_in w.observer.orders shows.source) n ≡ Some p
            → AllOf (λ m. GrantsAbove shows.copy p.entry.round m.body) (master_step w.master moment i taken).out.sent × HasPassed shows.copy p.entry.round (master_step w.master moment i taken).state
        follows n p here = shows.follows p.entry.round (inr ((rounds_passed config servers clients w r shows.source n p here).up shows.up).0)

pub copies_begin_with_their_source : CopiesBeginWithTheirSource
copies_begin_with_their_source config servers clients w r e choice moment i taken step place handle copy at steps =
    (now.begins, λ other p here version some. above_counted copy.0 p.entry.round version (after_events (happens w e choice).world steps).sent (now.above other p here) some)
  where
    now : HasBegun (placed_in w.observer.orders handle.0) copy.0 (after_events (happens w e choice).world steps)
    now =
        begun_on (placed_in w.observer.orders handle.0) copy.0 config servers clients (happens w e choice).world steps (reached_later config servers clients w ((e, choice) ∷ []) r)
        (subst (λ (x : Happened). HasBegun (placed_in w.observer.orders handle.0) copy.0 x.world) (sym step) (first_begun config servers clients w r moment i taken place handle copy at))
