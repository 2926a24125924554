-- In each reached world whose clocks were kept, a copy that is under way at a master that is up was not granted, and its order is its source's.
use Rattle.std.proofs.Common.{◌≡◌, ◌⊎◌, ℕ, suc, ◌≤◌, ◌<◌, Bool, true, false, List, [], ◌∷◌, Option, Some, None, refl, sym, ap, subst, ◌∙◌, inl, inr, arith}
use Rattle.std.specs.Prelude.{◌+◌, ◌&&◌, max, nat_le, unwrap_or, IsTrue}
use Rattle.std.specs.Ordering.{nat_cmp}
use Rattle.std.specs.FinMap as table
use Rattle.std.proofs.Math.Nat.{le-max_left}
use Rattle.std.proofs.lemmas.Bool.{and_parts, cases_lt}
use Rattle.gfs_types.specs.declared.config.Config.{Config}
use Rattle.gfs_types.specs.declared.answer.Answer.{Answer}
use Rattle.messages.specs.declared.event.NodeInput.{NodeInput}
use Rattle.messages.specs.declared.event.NodeInput.TheVariants as input
use Rattle.messages.specs.declared.message.Body.{Body}
use Rattle.messages.specs.declared.message.Message.{Message}
use Rattle.log_records.specs.declared.record.Record.TheVariants as log
use Rattle.primary_order.specs.SerialOrder.{SerialOrder}
use Rattle.relaxed_file.specs.Run.{Visible}
use Rattle.chunk_table.specs.ChunkTable.{ChunkRow, chunk_of}
use Rattle.protocol.specs.Tables.{Table, element_at, removed_all}
use Rattle.protocol.specs.Sending.{handle_of}
use Rattle.protocol.specs.Choice.{Choice, Ending, Goes, Lost, Stops}
use Rattle.protocol.specs.Seen.{Taken, no_step}
use Rattle.protocol.specs.declared.seen.Seen.{Seen}
use Rattle.protocol.specs.declared.seen.Seen.TheVariants.{Numbered, BecameSettled, CopyStarted}
use Rattle.protocol.specs.Observer.{Placed, Observer, observed_moment, observed_answer, placed_in, orders_after, orders_after_all}
use Rattle.protocol.specs.Logged.{Copy, LogDisk}
use Rattle.protocol.specs.Master.{MasterState, MasterDoing, stopped_master, master_begins}
use Rattle.protocol.specs.MasterStep.{master_does, master_takes, master_at, master_goes, may_end, master_bounded, master_ends, master_step, is_within_limits, found_log, started_master, opening, has_opened, opens_as, master_restart}
use Rattle.protocol.specs.Server.{ServerState}
use Rattle.protocol.specs.ServerStep.{server_step}
use Rattle.protocol.specs.ClientStep.{client_step, client_call}
use Rattle.protocol.specs.World.{WorldState, new_world, IsReached}
use Rattle.laws_base.specs.Laws.{is_grant, grants_of, times_in}
use Rattle.laws_base.proofs.Steps.{on_cond, none_some, removed_cases, same_or_not, put_there, put_other}
use Rattle.laws_base.proofs.Entries.{AllOf}
use Rattle.laws_base.proofs.CopiesUnderWay.{no_copies}
use Rattle.laws_base.proofs.ChunkRows.{rows_of}
use Rattle.laws_base.proofs.CountsLogged.{apart_here}
use Rattle.laws_base.proofs.GrantsOnce.{row_below}
use Rattle.laws_base.proofs.MasterMoves.{logs_alone}
use Rattle.laws_base.proofs.NamesReached.{IsUpToLog, logged_here}
use Rattle.laws_base.proofs.OrderNumbers.{state_of}
use Rattle.laws_base.proofs.Owners.{chunks_at, placed_stands, times_at_least, chunk_row, references_of}
use Rattle.laws_base.proofs.RowsKept.{rows_kept}
use Rattle.laws_base.proofs.RowsLogged.{IsFoundRows, IsRowedLog}
use Rattle.laws_base.proofs.LeasesTimely.{IsOfTimes, times_kept}
use Rattle.laws_base.proofs.ScenesReached.{scene_of, scene_reached}
use Rattle.laws_base.specs.Versions.{AreLeasesOver}
use Rattle.laws_base.proofs.EndedLeases.{ended_leases_are_over}
use Rattle.laws_base.proofs.Events.{with_call, HoldsAfter}
use Rattle.laws_versions.proofs.UnaskedSteps.{ready, does_kept}
use Rattle.laws_versions.proofs.FreeSources.{AreFree}
use Rattle.laws_base.proofs.MasterPremises.{IsAsk}
use Rattle.laws_versions.proofs.CopiedSources.{asked_or_not, free_reached, copied_chunks_have_no_lease}
use Rattle.laws_versions.proofs.LeaseLaws.{told_ends_are_the_masters}
use Rattle.laws_base.specs.Entries.{IsAmong}
use Rattle.laws_base.proofs.Stemming.{came_in}
use Rattle.laws_base.proofs.Numbering.{restarted_shown}
use Rattle.laws_base.proofs.SentGrants.{counted_one, some_counted}
use Rattle.laws_base.proofs.RoundsPassed.{rounds_of_entries_were_issued}
use Rattle.laws_base.proofs.RisingRounds.{leased_granted, held_reached}
use Rattle.laws_versions.proofs.UpTo.{IsLater}
use Rattle.laws_versions.proofs.StillOrders.{used_still, server_later}
use Rattle.laws_base.proofs.LeaseOrders.{grant_parts, grant_ends}
use Rattle.laws_versions.proofs.CopiesBehind.{AreBehind, IsAlike, names_alike, IsAlikeAndFree, both_names, both_reports}
use Rattle.laws_versions.proofs.CopiesAsked.{ask_post, begun_plain}
use Rattle.laws_versions.specs.CopiedOrders.{CopiesUnderWayHaveTheirSourcesOrder, CopiesUnderWayAreNotGranted}

-- what is seen of other chunks

module _ (handle : ℕ) where
  abbrev IsElsewhere : Seen → Type 0
  IsElsewhere (Numbered q v n id m) = q.0 ≡ handle → ⊥
  IsElsewhere (BecameSettled q v n) = q.0 ≡ handle → ⊥
  IsElsewhere (CopyStarted q copy) = copy.0 ≡ handle → ⊥

  -- what is of later rounds than each one is of other chunks
  elsewhere : (x : Seen) → ((version : ℕ) → IsLater version handle x) → IsElsewhere x
  elsewhere (Numbered q v n id m) later = λ same. absurd (let less = later v.0 same in omega (arith, less))
  elsewhere (BecameSettled q v n) later = λ same. absurd (let less = later v.0 same in omega (arith, less))
  elsewhere (CopyStarted q copy) later = later 0

  all_elsewhere : (xs : List Seen) → ((version : ℕ) → AllOf (IsLater version handle) xs) → AllOf IsElsewhere xs
  all_elsewhere [] later = tt
  all_elsewhere (x ∷ xs) later = (elsewhere x (λ version. (later version).0), all_elsewhere xs (λ version. (later version).1))

  one_still : (trace : List Visible) (orders : Table (List Placed)) (x : Seen) → IsElsewhere x → placed_in (orders_after trace orders x) handle ≡ placed_in orders handle
  one_still trace orders (Numbered q v n id m) other = ap (λ (o : Option (List Placed)). unwrap_or o []) (put_other orders q.0 _ handle (λ same. other (sym same)))
  one_still trace orders (BecameSettled q v n) other = ap (λ (o : Option (List Placed)). unwrap_or o []) (put_other orders q.0 _ handle (λ same. other (sym same)))
  one_still trace orders (CopyStarted q copy) other = ap (λ (o : Option (List Placed)). unwrap_or o []) (put_other orders copy.0 _ handle (λ same. other (sym same)))

  all_still : (trace : List Visible) (orders : Table (List Placed)) (xs : List Seen) → AllOf IsElsewhere xs → placed_in (orders_after_all trace orders xs) handle ≡ placed_in orders handle
  all_still trace orders [] other = refl
  all_still trace orders (x ∷ xs) other = all_still trace (orders_after trace orders x) xs other.1 ∙ one_still trace orders x other.0

-- a copy that begins has its source's order

source_order : (orders : Table (List Placed)) (source copy : ℕ) → placed_in (table.insert orders copy (placed_in orders source)) source ≡ placed_in orders source
source_order orders source copy =
    elim (same_or_not source copy) [
      | inl same ↦ ap (λ (o : Option (List Placed)). unwrap_or o []) (put_there orders copy (placed_in orders source) source same)
      | inr other ↦ ap (λ (o : Option (List Placed)). unwrap_or o []) (put_other orders copy (placed_in orders source) source other)
    ]

begun_order : (trace : List Visible) (orders : Table (List Placed)) (source copy : ℕ)
    → (let after : Table (List Placed) = orders_after_all trace orders (CopyStarted (handle_of source) (handle_of copy) ∷ []) in placed_in after copy ≡ placed_in after source)
begun_order trace orders source copy = ap (λ (o : Option (List Placed)). unwrap_or o []) (put_there orders copy (placed_in orders source) copy refl) ∙ sym (source_order orders source copy)

-- each copy under way has its source's order
abbrev AreLike : MasterState → Table (List Placed) → Type 0
AreLike m orders = (copy : ℕ) (c : Copy) → table.get m.logged.copies copy ≡ Some c → placed_in orders copy ≡ placed_in orders c.source

abbrev AreGood : MasterState → Table (List Placed) → Type 0
AreGood m orders = IsTrue m.up → AreBehind m.logged × AreLike m orders

-- a master that has no copies
none_good : (m : MasterState) (orders : Table (List Placed)) → ((copy : ℕ) (c : Copy) → table.get m.logged.copies copy ≡ Some c → ⊥) → AreGood m orders
none_good m orders none = λ up. ((λ copy c is. absurd (none copy c is)), (λ copy c is. absurd (none copy c is)))

down_good : (m : MasterState) (orders : Table (List Placed)) → m.up ≡ false → AreGood m orders
down_good m orders down = λ up. absurd (let both : true ≡ false = sym up ∙ down in cc)

-- after a restart

opened_none : (config : Config) (count : ℕ) (found : LogDisk) (moment : ℕ) → (let d : MasterDoing = opening (started_master config count found moment) in (copy : ℕ) (c : Copy) → table.get d.master.logged.copies copy ≡ Some c → ⊥)
opened_none config count found moment =
    let started : MasterState = started_master config count found moment in
    let d : MasterDoing = master_begins started [] in
    let first : (copy : ℕ) (c : Copy) → table.get started.logged.copies copy ≡ Some c → ⊥ = λ copy c is. none_some c (sym (no_copies (state_of found).copies copy) ∙ is) in
    let less : (copy : ℕ) (c : Copy) → table.get (removed_all started.logged.copies (table.keys started.logged.copies)) copy ≡ Some c → ⊥ = λ copy c is. first copy c (removed_cases started.logged.copies (table.keys started.logged.copies) copy c is) in
    logs_alone (λ e. (copy : ℕ) (c : Copy) → table.get e.master.logged.copies copy ≡ Some c → ⊥) d (log.Epoch (suc started.logged.epoch)) first first less less

restart_good : (m : MasterState) (moment : ℕ) (choice : Choice) (orders : Table (List Placed)) → AreGood (master_restart m moment choice).state orders
restart_good m moment choice orders = by_ending choice.ending
  where
    started : MasterState
    started = started_master m.config m.server_count (found_log m choice) moment

    by_ending : (e : Ending) → AreGood (opens_as m started (opening started) choice e).state orders
    by_ending Goes =
        on_cond (λ (t : Taken MasterState). AreGood t.state orders) (has_opened started (opening started) && is_within_limits (opening started).master) _ _
        (λ _. none_good (opening started).master orders (opened_none m.config m.server_count (found_log m choice) moment)) (λ _. down_good (stopped_master m (opening started).master.disk []) orders refl)
    by_ending Lost = down_good (opens_as m started (opening started) choice Lost).state orders refl
    by_ending (Stops made) = down_good (opens_as m started (opening started) choice (Stops made)).state orders refl

-- an answer that is seen changes no order
answered : (P : Table (List Placed) → Type 0) (o : Observer) (n : ℕ) (a : Option Answer) → (IsTrue o.are_clocks_kept → P o.orders) → IsTrue (observed_answer o n a).are_clocks_kept → P (observed_answer o n a).orders
answered P o n None h = h
answered P o n (Some reply) h = h

-- a master that is up in a reached world

module _ (config : Config) (servers clients : ℕ) (w : WorldState) (r : IsReached config servers clients w) (up : IsTrue w.master.up) where
  abbrev m : MasterState
  m = w.master

  u : IsUpToLog IsFoundRows IsRowedLog rows_kept w.master
  u = (logged_here IsFoundRows IsRowedLog rows_kept config servers clients w r).1.up up

  below : (q : ℕ) (row : ChunkRow) → table.get (rows_of m.logged) q ≡ Some row → q < m.logged.next_handle
  below = row_below m.logged (state_of m.disk) u.same u.tied

  -- sources stand in their files, and copies in none

  source_stands : (copy : ℕ) (c : Copy) → table.get m.logged.copies copy ≡ Some c → 1 ≤ times_in m.logged.table.files c.source
  source_stands copy c is =
      let some = placed_stands (chunks_at m.logged.table.files c.file) c.index c.source (u.tied.base.placed copy c is) in
      let low = times_at_least m.logged.table.files c.file c.source in
      omega (arith, some, low)

  copy_stands : (copy : ℕ) (c : Copy) → table.get m.logged.copies copy ≡ Some c → times_in m.logged.table.files copy ≡ 0
  copy_stands copy c is = apart_here m.logged (state_of m.disk) u.tied.base copy c is

  pub source_row : (copy : ℕ) (c : Copy) → table.get m.logged.copies copy ≡ Some c → (row : ChunkRow) × (table.get (rows_of m.logged) c.source ≡ Some row)
  source_row copy c is = chunk_row m.logged.table c.file c.source u.tied.base.counted (placed_stands (chunks_at m.logged.table.files c.file) c.index c.source (u.tied.base.placed copy c is))

  pub copy_row : (copy : ℕ) (c : Copy) → table.get m.logged.copies copy ≡ Some c → (row : ChunkRow) × (table.get (rows_of m.logged) copy ≡ Some row)
  copy_row copy c is = u.tied.base.rows copy c is

  pub source_used : (copy : ℕ) (c : Copy) → table.get m.logged.copies copy ≡ Some c → c.source < m.logged.next_handle
  source_used copy c is = let row = source_row copy c is in below c.source row.0 row.1

  pub copy_used : (copy : ℕ) (c : Copy) → table.get m.logged.copies copy ≡ Some c → copy < m.logged.next_handle
  copy_used copy c is = let row = copy_row copy c is in below copy row.0 row.1

  apart : (copy other : ℕ) (c d : Copy) → table.get m.logged.copies copy ≡ Some c → table.get m.logged.copies other ≡ Some d → c.source ≡ other → ⊥
  apart copy other c d is also same =
      let more = source_stands copy c is in
      let none = ap (λ (n : ℕ). times_in m.logged.table.files n) same ∙ copy_stands other d also in
      omega (arith, more, none)

  -- no lease of a copy counts
  pub copy_over : IsTrue w.observer.are_clocks_kept → (copy : ℕ) (c : Copy) → table.get m.logged.copies copy ≡ Some c → AreLeasesOver w copy
  copy_over clocks copy c is version =
      let row = copy_row copy c is in
      let times : IsOfTimes (scene_of w) = scene_reached IsOfTimes times_kept config servers clients w r in
      ended_leases_are_over config servers clients w r clocks up copy row.0 row.1 version (λ _. let low = u.ready.copied copy c is row.0 row.1 in let now = (times.clock).1 in omega (arith, low, now))

  -- one step

  module _ (behind : AreBehind w.master.logged) where
    goes_asked : (moment : ℕ) (i : NodeInput) (refused : List Bool) (ask : IsAsk i) → IsAlike w.master.logged.copies (master_goes w.master moment i refused)
    goes_asked moment i refused ask =
        subst (λ (j : NodeInput). IsAlike m.logged.copies (master_goes m moment j refused)) (sym ask.taken)
        (ready (IsAlike m.logged.copies) (names_alike m.logged.copies) done done.master.snapshots
        (subst (λ (b : Body). IsAlike m.logged.copies (master_takes first x b)) (sym ask.is)
        (ask_post m.logged below source_used copy_used apart behind first x.sender ask.number (ask.file).0 ask.what (ask.deadline).0 ask.lost (begun_plain m.logged below source_used copy_used apart behind first refl refl))))
      where
        x : Message
        x = ask.message

        first : MasterDoing
        first = master_begins (master_at m moment) refused

        done : MasterDoing
        done = master_takes first x x.body

    goes_alike : AreFree w.master.logged w.master.attempts w.master.now → (moment : ℕ) (i : NodeInput) (refused : List Bool) → IsAlike w.master.logged.copies (master_goes w.master moment i refused)
    goes_alike free moment i refused =
        elim (asked_or_not i) [
          | inl none ↦
              (ready (IsAlikeAndFree m.logged.copies) (both_names m.logged.copies) done done.master.snapshots
              (does_kept (IsAlikeAndFree m.logged.copies) (both_names m.logged.copies) (both_reports m.logged.copies) first i none (record { free = later; sent = tt; changes = tt }, ((λ copy c is. inl is), behind)))).1
          | inr ask ↦ goes_asked moment i refused ask
        ]
      where
        first : MasterDoing
        first = master_begins (master_at m moment) refused

        done : MasterDoing
        done = master_does first i

        later : AreFree m.logged m.attempts (max m.now moment)
        later copy c is = let old = free copy c is in (old.0, λ row at. let low = old.1 row at in let more = le-max_left m.now moment in omega (arith, low, more))

-- one event

module _ (config : Config) (servers clients : ℕ) (w : WorldState) (r : IsReached config servers clients w) (h : IsTrue w.observer.are_clocks_kept → AreGood w.master w.observer.orders) where
  clocks_were : (moment : ℕ) → IsTrue (observed_moment w.config.skew_ms w.observer moment).are_clocks_kept → IsTrue w.observer.are_clocks_kept
  clocks_were moment clocks = (and_parts w.observer.are_clocks_kept (nat_le w.observer.greatest (moment + w.config.skew_ms)) clocks).0

  module _ (clocks : IsTrue w.observer.are_clocks_kept) where
    -- a copy under way after a step was so before, or is shown
    abbrev IsStepped : Taken MasterState → Type 0
    IsStepped t =
        IsTrue t.state.up → AreBehind t.state.logged
        × ((copy : ℕ) (c : Copy) → table.get t.state.logged.copies copy ≡ Some c → (table.get w.master.logged.copies copy ≡ Some c) ⊎ (t.seen ≡ CopyStarted (handle_of c.source) (handle_of copy) ∷ []))

    stepped : (moment : ℕ) (i : NodeInput) (choice : Choice) → IsStepped (master_step w.master moment i choice)
    stepped moment i choice =
        let d : MasterDoing = master_goes w.master moment i choice.refused in
        on_cond IsStepped w.master.up (master_bounded w.master i d choice) (no_step w.master)
        (λ up. on_cond IsStepped (may_end w.master i d choice.ending) (master_ends w.master d choice choice.ending) (no_step w.master) (λ _. by_ending up choice.ending) (λ _. still)) (λ _. still)
      where
        still : IsStepped (no_step w.master)
        still up = ((h clocks up).0, λ copy c is. inl is)

        by_ending : IsTrue w.master.up → (e : Ending) → IsStepped (master_ends w.master (master_goes w.master moment i choice.refused) choice e)
        by_ending up Goes = λ _. let alike = goes_alike config servers clients w r up (h clocks up).0 (free_reached config servers clients w r clocks up) moment i choice.refused in (alike.1, alike.0)
        by_ending up Lost = λ now. absurd (let both : false ≡ true = now in cc)
        by_ending up (Stops made) = λ now. absurd (let both : false ≡ true = now in cc)

    masters_good : (trace : List Visible) (moment : ℕ) (i : NodeInput) (choice : Choice) → IsTrue w.master.up
        → AreGood (master_step w.master moment i choice).state (orders_after_all trace w.observer.orders (master_step w.master moment i choice).seen)
    masters_good trace moment i choice up = λ now.
        let steps = stepped moment i choice now in (
          steps.0,
          λ copy c is.
              elim (steps.1 copy c is) [
                | inl was ↦
                    used_still config servers clients w r trace moment i choice copy (λ _. copy_used config servers clients w r up copy c was)
                    ∙ (h clocks up).1 copy c was
                    ∙ sym (used_still config servers clients w r trace moment i choice c.source (λ _. source_used config servers clients w r up copy c was))
                | inr shown ↦
                    subst (λ (xs : List Seen). placed_in (orders_after_all trace w.observer.orders xs) copy ≡ placed_in (orders_after_all trace w.observer.orders xs) c.source) (sym shown) (begun_order trace w.observer.orders c.source copy)
              ],
        )

  -- a server shows nothing of a chunk whose leases are over
  server_still : (q index moment : ℕ) (s : ServerState) (i : NodeInput) (choice : Choice) → AreLeasesOver w q → element_at w.servers index ≡ Some s → ((x : Message) → i ≡ input.Deliver x → IsAmong w.sent x) → IsTrue (observed_moment w.config.skew_ms w.observer moment).are_clocks_kept
      → placed_in (orders_after_all (observed_moment w.config.skew_ms w.observer moment).trace w.observer.orders (server_step s moment i choice).seen) q ≡ placed_in w.observer.orders q
  server_still q index moment s i choice over at came clocks =
      all_still q (observed_moment w.config.skew_ms w.observer moment).trace w.observer.orders (server_step s moment i choice).seen
      (all_elsewhere q (server_step s moment i choice).seen (λ version. server_later config servers clients w r q version (λ low most. over low) index moment s i choice at came clocks))

  each_good : HoldsAfter w (λ e x. IsTrue x.world.observer.are_clocks_kept → AreGood x.world.master x.world.observer.orders)
  each_good =
      record {
        nothing = λ e. h;
        masters = λ e moment i choice is up clocks. masters_good (clocks_were moment clocks) (observed_moment w.config.skew_ms w.observer moment).trace moment i choice up;
        opens = λ e moment choice clocks. restart_good w.master moment choice (orders_after_all (observed_moment w.config.skew_ms w.observer moment).trace w.observer.orders (master_restart w.master moment choice).seen);
        serves = λ e index moment s i choice at is up clocks now.
            let old = h (clocks_were moment clocks) now in
            let came = came_in w e (suc index) moment i is in (
              old.0,
              λ copy c there.
                  server_still copy index moment s i choice (copy_over config servers clients w r now (clocks_were moment clocks) copy c there) at came clocks
                  ∙ old.1 copy c there
                  ∙ sym (server_still c.source index moment s i choice (copied_chunks_have_no_lease config servers clients w r (clocks_were moment clocks) now copy c there).1 at came clocks),
            );
        restarts = λ e index moment s choice at clocks.
            subst (λ (xs : List Seen). AreGood w.master (orders_after_all (observed_moment w.config.skew_ms w.observer moment).trace w.observer.orders xs)) (sym (restarted_shown s moment choice choice.ending)) (h (clocks_were moment clocks));
        steps = λ e index moment s i choice at is up clocks. answered (AreGood w.master) (observed_moment w.config.skew_ms w.observer moment) (suc index) (client_step s moment i choice).out.answer (λ c. h (clocks_were moment c)) clocks;
        calls = λ e index moment s c choice at may clocks.
            answered (AreGood w.master) (observed_moment w.config.skew_ms (with_call w index moment c).observer moment) (suc index) (client_call s moment c choice).out.answer
            (λ both. h (clocks_were moment (and_parts (observed_moment w.config.skew_ms w.observer moment).are_clocks_kept (nat_le (observed_moment w.config.skew_ms w.observer moment).greatest (moment + w.config.skew_ms)) both).0)) clocks;
        rots = λ e index q s x place byte ending is_kept at there up. h;
      }

good_reached : (config : Config) (servers clients : ℕ) (w : WorldState) → IsReached config servers clients w → IsTrue w.observer.are_clocks_kept → AreGood w.master w.observer.orders
good_reached config servers clients w r =
    held_reached (λ x. IsTrue x.observer.are_clocks_kept → AreGood x.master x.observer.orders) each_good config servers clients
    (λ clocks. none_good (new_world config servers clients).master (new_world config servers clients).observer.orders (λ copy c is. none_some c (sym (table.get-empty nat_cmp copy) ∙ is))) w r

-- the laws

pub copies_under_way_have_their_sources_order : CopiesUnderWayHaveTheirSourcesOrder
copies_under_way_have_their_sources_order config servers clients w r clocks up copy c is = (good_reached config servers clients w r clocks up).1 copy c is

pub copies_under_way_are_not_granted : CopiesUnderWayAreNotGranted
copies_under_way_are_not_granted config servers clients w r clocks up copy c is =
    record {
      row = row.0;
      there = row.1;
      unowned = let counted = (u config servers clients w r up).tied.base.counted copy in let count = ap references_of row.1 in let none = copy_stands config servers clients w r up copy c is in omega (arith, counted, count, none);
      ungranted = behind.0;
      granted = granted;
      leased = λ index s at. no_lease (table.get s.leases copy)
          (λ p there. let was = leased_granted config servers clients w r index s at copy p there in
          let some = counted_one (λ x. is_grant copy p.held.version x.body) w.sent was.0 (was.1).0 (was.1).1 was.2 in
          let none = granted p.held.version in
          omega (arith, some, none));
      follows = behind.1;
      above = λ place p at.
          let source = source_row config servers clients w r up copy c is in
          let there = ap (λ (ps : List Placed). element_at ps place) (sym (copies_under_way_have_their_sources_order config servers clients w r clocks up copy c is)) ∙ at in
          let low = (rounds_of_entries_were_issued config servers clients w r up c.source place p there).issued source.0 source.1 in
          let less = behind.1 source.0 source.1 in
          omega (arith, low, less);
    }
  where
    row : (row : ChunkRow) × (table.get (rows_of w.master.logged) copy ≡ Some row)
    row = copy_row config servers clients w r up copy c is

    behind : ((row.0).granted ≡ 0) × ((other : ChunkRow) → chunk_of w.master.logged.table c.source ≡ Some other → other.issued < (row.0).issued)
    behind = (good_reached config servers clients w r clocks up).0 copy c is row.0 row.1

    -- a lease is granted of a version from 1 on, which is at most the granted one
    granted : (version : ℕ) → grants_of copy version w.sent ≡ 0
    granted version =
        elim (cases_lt (grants_of copy version w.sent) 1) [
          | inl less ↦ omega (arith, less)
          | inr some ↦
              let one = some_counted (λ x. is_grant copy version x.body) w.sent some in
              let grant = grant_parts copy version (one.0).body one.2 in
              let until : ℕ = (grant.1).0 in
              let known = told_ends_are_the_masters config servers clients w r clocks (one.1).0 one.0 (one.1).1 copy version until
              (grant_ends grant.3) in
              let from_one = known.numbered in
              let most = (known.counted up row.0 row.1).0 in
              let none = behind.0 in
              absurd (omega (arith, from_one, most, none))
        ]

    no_lease : (o : Option SerialOrder) → ((p : SerialOrder) → o ≡ Some p → ⊥) → o ≡ None
    no_lease None none = refl
    no_lease (Some p) none = absurd (none p refl)
