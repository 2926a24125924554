-- In each reached world the master has passed the round of each entry at the entry's chunk. So a copy's handle is new.
use Rattle.std.proofs.Common.{◌≡◌, ℕ, zero, suc, ◌≤◌, Bool, true, false, cond, List, [], ◌∷◌, ◌++◌, Option, Some, None, refl, sym, ap, subst, ◌∙◌, inl, inr, arith}
use Rattle.std.specs.Prelude.{◌==◌, ◌&&◌, unwrap_or, count_by, IsTrue}
use Rattle.std.specs.Ordering.{nat_cmp}
use Rattle.std.specs.FinMap as table
use Rattle.std.proofs.lemmas.Bool.{eqb-true, and_parts}
use Rattle.gfs_types.specs.declared.config.Config.{Config}
use Rattle.gfs_types.specs.declared.ids.DataId.{DataId}
use Rattle.messages.specs.declared.event.Event.{Event}
use Rattle.messages.specs.declared.event.NodeInput.{NodeInput}
use Rattle.messages.specs.declared.event.NodeInput.TheVariants as input
use Rattle.messages.specs.declared.message.Message.{Message}
use Rattle.leases.specs.LeaseHeld.{counts_at}
use Rattle.primary_order.specs.SerialOrder.{SerialOrder}
use Rattle.relaxed_file.specs.Run.{Visible}
use Rattle.protocol.specs.Tables.{Table, element_at}
use Rattle.protocol.specs.Sending.{handle_of, version_of}
use Rattle.protocol.specs.Choice.{Choice}
use Rattle.protocol.specs.declared.seen.Seen.{Seen}
use Rattle.protocol.specs.declared.seen.Seen.TheVariants.{Numbered, BecameSettled, CopyStarted}
use Rattle.protocol.specs.Observer.{Placed, observed_moment, placed_in, orders_after_all}
use Rattle.protocol.specs.Master.{MasterState}
use Rattle.protocol.specs.Server.{ServerState, counting_primary}
use Rattle.protocol.specs.ServerStep.{server_at, server_step}
use Rattle.protocol.specs.MasterStep.{master_step, master_restart}
use Rattle.protocol.specs.ClientStep.{client_step, client_call}
use Rattle.protocol.specs.World.{WorldState, new_world, happens, after_events, IsReached}
use Rattle.laws_base.proofs.LeaseOrders.{grant_parts, lease_grant}
use Rattle.laws_base.specs.Laws.{is_grant}
use Rattle.laws_base.proofs.Steps.{none_some, same_some, same_or_not, put_there, put_other, tally, count-cons}
use Rattle.laws_base.proofs.Entries.{AllOf}
use Rattle.laws_base.proofs.MembersRecorded.{all_at}
use Rattle.laws_base.proofs.MessagesSent.{IsSent}
use Rattle.laws_base.proofs.LeasesTold.{granting, leases_are_told}
use Rattle.laws_base.proofs.SentReached.{sent_reached}
use Rattle.laws_base.proofs.RevokesNumbered.{IsOfRevokes}
use Rattle.laws_base.proofs.Events.{HoldsAfter, holds_after}
use Rattle.laws_base.proofs.Histories.{after_both}
use Rattle.laws_base.proofs.MasterTalks.{restart_shown}
use Rattle.laws_base.proofs.ServerTalks.{step_said}
use Rattle.laws_base.specs.Entries.{IsAmong}
use Rattle.laws_base.proofs.Stemming.{came_in, numbered_mutations_were_asked_for}
use Rattle.laws_base.proofs.Placing.{all_placed, Holds, AreAll, all_go_on, Keeps, all_keep, same_orders}
use Rattle.laws_base.proofs.Numbering.{restarted_shown}
use Rattle.laws_base.proofs.WaitsKept.{IsOfWaits, waits_kept}
use Rattle.laws_base.specs.NewHandles.{IsNewHandle, CopiesHaveNewHandles, RoundsOfEntriesWereIssued}
use Rattle.laws_base.proofs.GrantsFollow.{HasPassed, step_passed, restart_passed}
use Rattle.laws_base.proofs.CopiesBegun.{step_shows}

-- what a server shows: no copy

abbrev pub IsOfServers : Seen → Type 0
IsOfServers (CopyStarted handle copy) = ⊥
IsOfServers other = Unit {0}

abbrev AnyData : DataId × List ℕ → Type 0
AnyData x = Unit {0}

any_data : (es : List (DataId × List ℕ)) → AllOf AnyData es
any_data [] = tt
any_data (e ∷ es) = (tt, any_data es)

pub server_shown : (s : ServerState) (moment : ℕ) (i : NodeInput) (choice : Choice) → AllOf IsOfServers (server_step s moment i choice).seen
server_shown s moment i choice = said.1
  where
    said : AllOf (λ (m : Message). Unit {0}) (server_step s moment i choice).out.sent × AllOf IsOfServers (server_step s moment i choice).seen × AllOf AnyData (server_step s moment i choice).state.pushed.entries
    said =
        step_said (λ receiver b. Unit {0}) IsOfServers AnyData s moment i choice
        (record {
          quiet = λ receiver b is. tt;
          reads = λ m number handle version offset count r bytes is asked row same there. tt;
          lengths = λ m number handle version r is asked row same. tt;
          pushes = λ m id bytes rest is asked. (tt, λ receiver hops. tt);
          settled = λ handle version serial. tt;
          numbers = λ m id handle version t deadline p bytes placed is asked primary new there fit. tt;
        })
        (any_data s.pushed.entries)

-- a lease that counts is there, and of that version
pub primary_there : (s : ServerState) (version : ℕ) (o : Option SerialOrder) (p : SerialOrder) → counting_primary s version o ≡ Some p → (o ≡ Some p) × (p.held.version ≡ version)
primary_there s version None p is = none_some p is
primary_there s version (Some q) p is = by_test ((q.held.version == version) && counts_at s.config.skew_ms q.held s.now) refl is
  where
    by_test : (b : Bool) → (q.held.version == version) && counts_at s.config.skew_ms q.held s.now ≡ b → cond b (Some q) None ≡ Some p → (Some q ≡ Some p) × (p.held.version ≡ version)
    by_test true at g = (
      g,
      sym (ap (λ (x : SerialOrder). x.held.version) (same_some q p g)) ∙ eqb-true q.held.version version (and_parts (q.held.version == version) (counts_at s.config.skew_ms q.held s.now) at).0,
    )
    by_test false at g = none_some p g

-- what was granted is passed

pub granted_passed : (sent : List Message) (m : MasterState) → IsOfRevokes sent m → (handle version : ℕ) (grant : Message) → IsSent sent grant → is_grant handle version grant.body ≡ true → HasPassed handle version m
granted_passed sent m h handle version grant is granted =
    let parts = grant_parts handle version grant.body granted in
    record {
      found = λ decided.
          let agrees = h.revokes.found decided in (
            (agrees.used grant is).0 parts.0 (handle_of handle) (version_of version) parts.1 parts.2 parts.3,
            λ row at.
                let low : version ≤ row.granted = ((agrees.rows handle row at grant is).0 parts.0 (version_of version) parts.1 parts.2 parts.3).0 in
                let high = h.issued.found decided handle row at in
                omega (arith, low, high),
          );
      up = λ up.
          let agrees = h.revokes.up up in
          let ready = (h.logged.up up).ready in (
            (
              (agrees.used grant is).0 parts.0 (handle_of handle) (version_of version) parts.1 parts.2 parts.3,
              λ row at.
                  let low : version ≤ row.granted = ((agrees.rows handle row at grant is).0 parts.0 (version_of version) parts.1 parts.2 parts.3).0 in
                  let high = ready.ahead.issued handle row at in
                  omega (arith, low, high),
            ),
            λ row at a there.
                let low : version ≤ row.granted = ((agrees.rows handle row at grant is).0 parts.0 (version_of version) parts.1 parts.2 parts.3).0 in
                let high = (ready.ahead.ahead handle a there).1 row at in
                omega (arith, low, high),
          );
    }

-- a lease of a server was granted
leased_passed : (config : Config) (servers clients : ℕ) (w : WorldState) → IsReached config servers clients w → (index : ℕ) (s : ServerState) → element_at w.servers index ≡ Some s → (handle : ℕ) (p : SerialOrder) → table.get s.leases handle ≡ Some p
    → HasPassed handle p.held.version w.master
leased_passed config servers clients w r index s at handle p is =
    let told = (leases_are_told config servers clients w r index s at handle p is).0 in
    let base : IsOfRevokes w.sent w.master = (sent_reached IsOfWaits waits_kept config servers clients w r).base in
    granted_passed w.sent w.master base handle p.held.version told.1 (told.0, told.2)
    (granting told.4 handle p.held.version told.5 p.held.members (told.1).body (lease_grant w.sent (suc index) handle p.chunk p.held told))

-- one event

abbrev IsRoundPassed : MasterState → ℕ → Placed → Type 0
IsRoundPassed m handle p = HasPassed handle p.entry.round m

-- one chunk's order is put anew
put_all : (T : ℕ → Placed → Type 0) (orders : Table (List Placed)) (k : ℕ) (ps : List Placed) → AreAll T orders → AllOf (Holds T k) ps → AreAll T (table.insert orders k ps)
put_all T orders k ps h all handle =
    elim (same_or_not handle k) [
      | inl same ↦ subst (λ (o : Option (List Placed)). AllOf (Holds T handle) (unwrap_or o [])) (sym (put_there orders k ps handle same)) (subst (λ (n : ℕ). AllOf (Holds T n) ps) (sym same) all)
      | inr apart ↦ subst (λ (o : Option (List Placed)). AllOf (Holds T handle) (unwrap_or o [])) (sym (put_other orders k ps handle apart)) (h handle)
    ]

module _ (config : Config) (servers clients : ℕ) (w : WorldState) (r : IsReached config servers clients w) (h : AreAll (IsRoundPassed w.master) w.observer.orders) where
  base : IsOfWaits w.sent w.master
  base = sent_reached IsOfWaits waits_kept config servers clients w r

  abbrev IsSeenNow : Seen → Type 0
  IsSeenNow (Numbered handle version serial id m) = HasPassed handle.0 version.0 w.master
  IsSeenNow (BecameSettled handle version serial) = Unit {0}
  IsSeenNow (CopyStarted handle copy) = ⊥

  keeps : (trace : List Visible) → Keeps trace IsSeenNow (IsRoundPassed w.master)
  keeps trace = record { numbers = λ handle version serial id m now. now; copies = λ handle copy now p t. absurd now }

  servers_see : (index moment : ℕ) (s : ServerState) (i : NodeInput) (choice : Choice) → element_at w.servers index ≡ Some s → ((m : Message) → i ≡ input.Deliver m → IsAmong w.sent m) → AllOf IsSeenNow (server_step s moment i choice).seen
  servers_see index moment s i choice there came =
      all_placed IsSeenNow (server_step s moment i choice).seen (λ place y at. one place y at (all_at IsOfServers (server_step s moment i choice).seen place y (server_shown s moment i choice) at))
    where
      one : (place : ℕ) (y : Seen) → element_at (server_step s moment i choice).seen place ≡ Some y → IsOfServers y → IsSeenNow y
      one place (Numbered handle version serial id m) at is =
          let law = numbered_mutations_were_asked_for config servers clients w r index s there moment i choice came place handle version serial id m at in
          let lease : SerialOrder = (law.2).lease in
          let held = primary_there (server_at s moment) version.0 (table.get s.leases handle.0) lease (law.2).lease_is in
          subst (λ (n : ℕ). HasPassed handle.0 n w.master) held.1 (leased_passed config servers clients w r index s there handle.0 lease held.0)
      one place (BecameSettled handle version serial) at is = tt
      one place (CopyStarted handle copy) at is = absurd is

  -- the orders after a step of the master
  master_orders : (trace : List Visible) (moment : ℕ) (i : NodeInput) (choice : Choice) → IsTrue w.master.up
      → AreAll (IsRoundPassed (master_step w.master moment i choice).state) (orders_after_all trace w.observer.orders (master_step w.master moment i choice).seen)
  master_orders trace moment i choice up =
      elim (step_shows w.master moment i choice base.base.logged base.waits) [
        | inl none ↦ subst (λ (xs : List Seen). AreAll T (orders_after_all trace w.observer.orders xs)) (sym none) stay
        | inr shows ↦ subst (λ (xs : List Seen). AreAll T (orders_after_all trace w.observer.orders xs)) (sym shows.seen)
            (put_all T w.observer.orders shows.copy (placed_in w.observer.orders shows.source) stay
            (all_placed (Holds T shows.copy) (placed_in w.observer.orders shows.source)
            (λ place p at. (shows.follows p.entry.round (inr ((all_at (Holds (IsRoundPassed w.master) shows.source) (placed_in w.observer.orders shows.source) place p (h shows.source) at).up up).0)).1)))
      ]
    where
      T : ℕ → Placed → Type 0
      T = IsRoundPassed (master_step w.master moment i choice).state

      stay : AreAll T w.observer.orders
      stay = all_go_on (IsRoundPassed w.master) T (λ handle p t. (step_passed handle p.entry.round w.master moment i choice base.base.logged base.waits t).1) w.observer.orders h

  each_passed : HoldsAfter w (λ e x. AreAll (IsRoundPassed x.world.master) x.world.observer.orders)
  each_passed =
      record {
        nothing = λ e. h;
        masters = λ e moment i choice is up. master_orders (observed_moment w.config.skew_ms w.observer moment).trace moment i choice up;
        opens = λ e moment choice.
            subst (λ (xs : List Seen). AreAll (IsRoundPassed (master_restart w.master moment choice).state) (orders_after_all (observed_moment w.config.skew_ms w.observer moment).trace w.observer.orders xs)) (sym (restart_shown w.master moment choice))
            (all_go_on (IsRoundPassed w.master) (IsRoundPassed (master_restart w.master moment choice).state) (λ handle p t. restart_passed handle p.entry.round w.master moment choice base.base.issued base.base.logged t) w.observer.orders h);
        serves = λ e index moment s i choice at is up.
            all_keep (observed_moment w.config.skew_ms w.observer moment).trace IsSeenNow (IsRoundPassed w.master) (keeps (observed_moment w.config.skew_ms w.observer moment).trace) w.observer.orders (server_step s moment i choice).seen
            (servers_see index moment s i choice at (came_in w e (suc index) moment i is)) h;
        restarts = λ e index moment s choice at.
            subst (λ (xs : List Seen). AreAll (IsRoundPassed w.master) (orders_after_all (observed_moment w.config.skew_ms w.observer moment).trace w.observer.orders xs)) (sym (restarted_shown s moment choice choice.ending)) h;
        steps = λ e index moment s i choice at is up. subst (λ (orders : Table (List Placed)). AreAll (IsRoundPassed w.master) orders) (sym (same_orders _ (suc index) (client_step s moment i choice).out.answer)) h;
        calls = λ e index moment s c choice at may. subst (λ (orders : Table (List Placed)). AreAll (IsRoundPassed w.master) orders) (sym (same_orders _ (suc index) (client_call s moment c choice).out.answer)) h;
        rots = λ e index handle s x place byte ending is_kept at there up. h;
      }

-- a list of events

passed_after_all : (config : Config) (servers clients : ℕ) (before rest : List (Event × Choice))
    → (let w : WorldState = after_events (new_world config servers clients) before in AreAll (IsRoundPassed w.master) w.observer.orders)
    → (let w : WorldState = after_events (after_events (new_world config servers clients) before) rest in AreAll (IsRoundPassed w.master) w.observer.orders)
passed_after_all config servers clients before [] h = h
passed_after_all config servers clients before (step ∷ rest) h =
    subst (λ (u : WorldState). AreAll (IsRoundPassed (after_events u rest).master) (after_events u rest).observer.orders) path
    (passed_after_all config servers clients (before ++ step ∷ []) rest (subst (λ (u : WorldState). AreAll (IsRoundPassed u.master) u.observer.orders) (sym path) one))
  where
    path : after_events (new_world config servers clients) (before ++ step ∷ []) ≡ (happens (after_events (new_world config servers clients) before) step.0 step.1).world
    path = after_both (new_world config servers clients) before (step ∷ [])

    one : AreAll (IsRoundPassed (happens (after_events (new_world config servers clients) before) step.0 step.1).world.master) (happens (after_events (new_world config servers clients) before) step.0 step.1).world.observer.orders
    one =
        holds_after (after_events (new_world config servers clients) before) (λ e x. AreAll (IsRoundPassed x.world.master) x.world.observer.orders)
        (each_passed config servers clients (after_events (new_world config servers clients) before) (before, refl) h) step.0 step.1

none_placed : (T : ℕ → Placed → Type 0) → AreAll T table.empty
none_placed T handle = subst (λ (o : Option (List Placed)). AllOf (Holds T handle) (unwrap_or o [])) (sym (table.get-empty nat_cmp handle)) tt

-- the master has passed the round of each entry
pub rounds_passed : (config : Config) (servers clients : ℕ) (w : WorldState) → IsReached config servers clients w → (handle place : ℕ) (p : Placed) → element_at (placed_in w.observer.orders handle) place ≡ Some p → HasPassed handle p.entry.round w.master
rounds_passed config servers clients w r handle place p at =
    all_at (Holds (IsRoundPassed w.master) handle) (placed_in w.observer.orders handle) place p
    (subst (λ (u : WorldState). AreAll (IsRoundPassed u.master) u.observer.orders) r.1 (passed_after_all config servers clients [] r.0 (none_placed (IsRoundPassed (new_world config servers clients).master))) handle) at

-- the laws

none_more : {X : Type 0} (f : X → Bool) (x : X) (xs : List X) (b : Bool) → f x ≡ b → (f x ≡ true → ⊥) → count_by f xs ≡ 0 → count_by f (x ∷ xs) ≡ 0
none_more f x xs true is none rest = absurd (none is)
none_more f x xs false is none rest = let whole = count-cons f x xs in let one = ap tally is in omega (arith, whole, one, rest)

none_counted : {X : Type 0} (f : X → Bool) (xs : List X) → ((place : ℕ) (x : X) → element_at xs place ≡ Some x → f x ≡ true → ⊥) → count_by f xs ≡ 0
none_counted f [] none = refl
none_counted f (x ∷ xs) none = none_more f x xs (f x) refl (none zero x refl) (none_counted f xs (λ place y at. none (suc place) y at))

-- a handle that the master has not used is new
pub unused_is_new : (config : Config) (servers clients : ℕ) (w : WorldState) → IsReached config servers clients w → IsTrue w.master.up → (handle : ℕ) → w.master.logged.next_handle ≤ handle → IsNewHandle w handle
unused_is_new config servers clients w r up handle new =
    record {
      granted = λ version. none_counted (λ m. is_grant handle version m.body) w.sent
          (λ place m at is. unused version (granted_passed w.sent w.master (sent_reached IsOfWaits waits_kept config servers clients w r).base handle version m (place, at) is));
      leased = λ index s at. no_lease (table.get s.leases handle) (λ p is. unused p.held.version (leased_passed config servers clients w r index s at handle p is));
      empty = no_entry (placed_in w.observer.orders handle) (λ p at. unused p.entry.round (rounds_passed config servers clients w r handle zero p at));
    }
  where
    unused : (version : ℕ) → HasPassed handle version w.master → ⊥
    unused version h = let used = (h.up up).0.0 in omega (arith, used, new)

    no_lease : (o : Option SerialOrder) → ((p : SerialOrder) → o ≡ Some p → ⊥) → o ≡ None
    no_lease None none = refl
    no_lease (Some p) none = absurd (none p refl)

    no_entry : (ps : List Placed) → ((p : Placed) → element_at ps zero ≡ Some p → ⊥) → ps ≡ []
    no_entry [] none = refl
    no_entry (p ∷ ps) none = absurd (none p refl)

pub copies_have_new_handles : CopiesHaveNewHandles
copies_have_new_handles config servers clients w r moment i choice place handle copy at =
    elim (step_shows w.master moment i choice base_here.base.logged base_here.waits) [
      | inl none ↦ none_some (CopyStarted handle copy) (sym (ap (λ (xs : List Seen). element_at xs place) none) ∙ at)
      | inr shows ↦
          let one : CopyStarted (handle_of shows.source) (handle_of shows.copy) ≡ CopyStarted handle copy = only (CopyStarted (handle_of shows.source) (handle_of shows.copy)) (CopyStarted handle copy) place (sym (ap (λ (xs : List Seen). element_at xs place) shows.seen) ∙ at) in
          subst (λ (n : ℕ). IsNewHandle w n) (ap copy_in one) (unused_is_new config servers clients w r shows.up shows.copy shows.new)
    ]
  where
    base_here : IsOfWaits w.sent w.master
    base_here = sent_reached IsOfWaits waits_kept config servers clients w r

    copy_in : Seen → ℕ
    copy_in (CopyStarted source new) = new.0
    copy_in other = 0

    only : (x y : Seen) (n : ℕ) → element_at (x ∷ []) n ≡ Some y → x ≡ y
    only x y zero is = same_some x y is
    only x y (suc n) is = none_some y is

pub rounds_of_entries_were_issued : RoundsOfEntriesWereIssued
rounds_of_entries_were_issued config servers clients w r up handle place p at =
    let h = (rounds_passed config servers clients w r handle place p at).up up in
    record { used = h.0.0; issued = h.0.1; passed = h.1 }
