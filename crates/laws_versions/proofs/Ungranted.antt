-- In each reached world the chunk of each entry was granted, or is a copy under way, while its row is there.
use Rattle.std.proofs.Common.{◌≡◌, ℕ, zero, suc, ◌≤◌, true, List, [], ◌∷◌, Option, Some, refl, sym, ap, subst, ◌∙◌, inl, inr, arith}
use Rattle.std.specs.Prelude.{unwrap_or}
use Rattle.std.specs.Ordering.{nat_cmp}
use Rattle.std.specs.FinMap as table
use Rattle.gfs_types.specs.declared.config.Config.{Config}
use Rattle.gfs_types.specs.declared.ids.OrderNo.{OrderNo}
use Rattle.messages.specs.declared.event.NodeInput.{NodeInput}
use Rattle.messages.specs.declared.event.NodeInput.TheVariants as input
use Rattle.messages.specs.declared.message.Body.{Body}
use Rattle.messages.specs.declared.message.Body.TheVariants as body
use Rattle.messages.specs.declared.message.Message.{Message}
use Rattle.primary_order.specs.SerialOrder.{SerialOrder}
use Rattle.relaxed_file.specs.Run.{Visible}
use Rattle.replica_store.specs.Replicas.{Replica, replica_of}
use Rattle.protocol.specs.Tables.{Table, element_at}
use Rattle.protocol.specs.Sending.{handle_of, version_of, order_number}
use Rattle.protocol.specs.Choice.{Choice}
use Rattle.protocol.specs.declared.seen.Seen.{Seen}
use Rattle.protocol.specs.declared.seen.Seen.TheVariants.{Numbered, BecameSettled, CopyStarted}
use Rattle.protocol.specs.Observer.{Placed, observed_moment, placed_in, orders_after_all}
use Rattle.protocol.specs.Master.{MasterState}
use Rattle.protocol.specs.Server.{ServerState}
use Rattle.protocol.specs.ServerStep.{server_step}
use Rattle.protocol.specs.MasterStep.{master_at, master_step, master_restart}
use Rattle.protocol.specs.ClientStep.{client_step, client_call}
use Rattle.protocol.specs.World.{WorldState, new_world, IsReached}
use Rattle.laws_base.proofs.LeaseOrders.{grant_parts}
use Rattle.laws_base.specs.Laws.{is_grant}
use Rattle.laws_base.proofs.Steps.{none_some, same_some, same_or_not, put_there, put_other}
use Rattle.laws_base.proofs.Entries.{AllOf}
use Rattle.laws_base.proofs.MembersRecorded.{all_at}
use Rattle.laws_base.proofs.MessagesSent.{IsSent}
use Rattle.laws_base.proofs.SentReached.{sent_reached}
use Rattle.laws_base.proofs.RevokesNumbered.{IsOfRevokes}
use Rattle.laws_base.proofs.Events.{HoldsAfter}
use Rattle.laws_base.specs.Given.{version_given}
use Rattle.laws_base.proofs.WaitsKept.{IsOfWaits, waits_kept}
use Rattle.laws_versions.proofs.HeldVersions.{replicas_were_ordered}
use Rattle.laws_base.proofs.MasterTalks.{restart_shown}
use Rattle.laws_base.specs.Entries.{IsAmong}
use Rattle.laws_base.proofs.Stemming.{came_in}
use Rattle.laws_base.proofs.Placing.{all_placed, Holds, AreAll, all_go_on, Keeps, all_keep, same_orders}
use Rattle.laws_base.proofs.Numbering.{restarted_shown}
use Rattle.laws_base.proofs.CopiesBegun.{step_shows}
use Rattle.laws_base.proofs.RoundsPassed.{IsOfServers, server_shown}
use Rattle.laws_base.proofs.RisingRounds.{leased_granted, under_lease, held_reached}
use Rattle.laws_base.proofs.HeldReplicas.{leases_have_their_replica}
use Rattle.laws_versions.proofs.OrderSteps.{IsOrderedNow, WasOrderedIn, was_ordered_in}
use Rattle.laws_versions.proofs.GivenOnce.{given_number}
use Rattle.laws_versions.specs.GivenClones.{IsGivenBySome}
use Rattle.laws_versions.proofs.GivenClones.{ordered_versions_were_given}
use Rattle.laws_versions.proofs.OrdersAbove.{IsHigher}
use Rattle.laws_versions.proofs.CopiedEntries.{says_higher}
use Rattle.laws_versions.specs.UngrantedChunks.{UngrantedChunksHaveNoEntry}
use Rattle.laws_versions.proofs.BegunSteps.{HasBegun, step_begun, restart_begun}
use Rattle.laws_versions.proofs.CopiesStarted.{step_starts}

-- versions count from 1

some_of : (x y handle version : ℕ) → 1 ≤ y → ◌≡◌ {A = Option (ℕ × ℕ)} (Some (x, y)) (Some (handle, version)) → 1 ≤ version
some_of x y handle version some is = let same : y ≡ version = ap (λ (p : ℕ × ℕ). p.1) (same_some (x, y) (handle, version) is) in omega (arith, some, same)

higher_some : (m : MasterState) (seen : List Seen) (b : Body) (handle version : ℕ) → IsHigher m seen b → version_given b ≡ Some (handle, version) → 1 ≤ version
higher_some m seen (body.Create order q v) handle version h is = some_of q.0 v.0 handle version h.0 is
higher_some m seen (body.SetVersion order q v base) handle version h is = let above = h.0 in some_of q.0 v.0 handle version (omega (arith, above)) is
higher_some m seen (body.CopyLocal order q v copy copy_version) handle version h is = let above = h.below in some_of copy.0 copy_version.0 handle version (omega (arith, above)) is
higher_some m seen other handle version h is = none_some (handle, version) is

given_some : (config : Config) (servers clients : ℕ) (w : WorldState) → IsReached config servers clients w → (handle version : ℕ) → IsGivenBySome w.sent handle version → 1 ≤ version
given_some config servers clients w r handle version g =
    higher_some (master_at h.before.master n.moment) (master_step h.before.master n.moment n.taken n.choice).seen n.word.body handle version
    (all_at (λ (x : Message). IsHigher (master_at h.before.master n.moment) (master_step h.before.master n.moment n.taken n.choice).seen x.body) (master_step h.before.master n.moment n.taken n.choice).out.sent (n.said).0 n.word
    (says_higher config servers clients h.before h.reached n.moment n.taken n.choice n.up) (n.said).1)
    (ap version_given (n.same).2 ∙ g.3)
  where
    number : (order : OrderNo) × (order_number (g.1).body ≡ Some order)
    number = given_number (g.1).body handle version g.3

    h : WasOrderedIn config servers clients w g.0 g.1
    h = was_ordered_in config servers clients w r g.0 g.1 g.2 number.0 number.1

    n : IsOrderedNow h.before h.next g.1
    n = h.now

-- what was granted has begun

granted_begun : (sent : List Message) (m : MasterState) → IsOfRevokes sent m → (handle version : ℕ) → 1 ≤ version → (grant : Message) → IsSent sent grant → is_grant handle version grant.body ≡ true → HasBegun handle m
granted_begun sent m h handle version some grant is granted =
    let parts = grant_parts handle version grant.body granted in
    record {
      found = λ decided.
          let agrees = h.revokes.found decided in (
            (agrees.used grant is).0 parts.0 (handle_of handle) (version_of version) parts.1 parts.2 parts.3,
            λ row at. let low : version ≤ row.granted = ((agrees.rows handle row at grant is).0 parts.0 (version_of version) parts.1 parts.2 parts.3).0 in inl (omega (arith, low, some)),
          );
      up = λ up.
          let agrees = h.revokes.up up in (
            (agrees.used grant is).0 parts.0 (handle_of handle) (version_of version) parts.1 parts.2 parts.3,
            λ row at. let low : version ≤ row.granted = ((agrees.rows handle row at grant is).0 parts.0 (version_of version) parts.1 parts.2 parts.3).0 in inl (omega (arith, low, some)),
          );
    }

-- so has the chunk of a lease
leased_begun : (config : Config) (servers clients : ℕ) (w : WorldState) → IsReached config servers clients w → (index : ℕ) (s : ServerState) → element_at w.servers index ≡ Some s → (handle : ℕ) (p : SerialOrder) → table.get s.leases handle ≡ Some p → HasBegun handle w.master
leased_begun config servers clients w r index s at handle p is =
    granted_begun w.sent w.master (sent_reached IsOfWaits waits_kept config servers clients w r).base handle p.held.version some granted.0 granted.1 granted.2
  where
    granted : (m : Message) × IsSent w.sent m × (is_grant handle p.held.version m.body ≡ true)
    granted = leased_granted config servers clients w r index s at handle p is

    held : (y : Replica) × (replica_of s.disk handle ≡ Some y) × (y.version ≡ p.held.version)
    held = leases_have_their_replica config servers clients w r index s at handle p is

    some : 1 ≤ p.held.version
    some =
        let given = given_some config servers clients w r handle (held.0).version (ordered_versions_were_given config servers clients w r (suc index) handle (held.0).version (replicas_were_ordered config servers clients w r index s at handle held.0 held.1)) in
        let same = held.2 in
        omega (arith, given, same)

-- one event

abbrev AreBegun : WorldState → Type 0
AreBegun w = AreAll (λ handle p. HasBegun handle w.master) w.observer.orders

-- one chunk's order is put anew
put_all : (T : ℕ → Placed → Type 0) (orders : Table (List Placed)) (k : ℕ) (ps : List Placed) → AreAll T orders → AllOf (Holds T k) ps → AreAll T (table.insert orders k ps)
put_all T orders k ps h all handle =
    elim (same_or_not handle k) [
      | inl same ↦ subst (λ (o : Option (List Placed)). AllOf (Holds T handle) (unwrap_or o [])) (sym (put_there orders k ps handle same)) (subst (λ (n : ℕ). AllOf (Holds T n) ps) (sym same) all)
      | inr apart ↦ subst (λ (o : Option (List Placed)). AllOf (Holds T handle) (unwrap_or o [])) (sym (put_other orders k ps handle apart)) (h handle)
    ]

module _ (config : Config) (servers clients : ℕ) (w : WorldState) (r : IsReached config servers clients w) (h : AreBegun w) where
  base : IsOfWaits w.sent w.master
  base = sent_reached IsOfWaits waits_kept config servers clients w r

  abbrev Was : ℕ → Placed → Type 0
  Was handle p = HasBegun handle w.master

  abbrev IsSeenNow : Seen → Type 0
  IsSeenNow (Numbered handle version serial id m) = HasBegun handle.0 w.master
  IsSeenNow (BecameSettled handle version serial) = Unit {0}
  IsSeenNow (CopyStarted handle copy) = ⊥

  keeps : (trace : List Visible) → Keeps trace IsSeenNow Was
  keeps trace = record { numbers = λ handle version serial id m now. now; copies = λ handle copy now p t. absurd now }

  servers_see : (index moment : ℕ) (s : ServerState) (i : NodeInput) (choice : Choice) → element_at w.servers index ≡ Some s → ((m : Message) → i ≡ input.Deliver m → IsAmong w.sent m) → AllOf IsSeenNow (server_step s moment i choice).seen
  servers_see index moment s i choice there came =
      all_placed IsSeenNow (server_step s moment i choice).seen (λ place y at. one place y at (all_at IsOfServers (server_step s moment i choice).seen place y (server_shown s moment i choice) at))
    where
      one : (place : ℕ) (y : Seen) → element_at (server_step s moment i choice).seen place ≡ Some y → IsOfServers y → IsSeenNow y
      one place (Numbered handle version serial id m) at is =
          let under = under_lease config servers clients w r index moment s i choice there came place handle version serial id m at in
          leased_begun config servers clients w r index s there handle.0 under.lease under.there
      one place (BecameSettled handle version serial) at is = tt
      one place (CopyStarted handle copy) at is = absurd is

  -- the orders after a step of the master
  master_orders : (trace : List Visible) (moment : ℕ) (i : NodeInput) (choice : Choice)
      → AreAll (λ handle p. HasBegun handle (master_step w.master moment i choice).state) (orders_after_all trace w.observer.orders (master_step w.master moment i choice).seen)
  master_orders trace moment i choice =
      elim (step_shows w.master moment i choice base.base.logged base.waits) [
        | inl none ↦ subst (λ (xs : List Seen). AreAll T (orders_after_all trace w.observer.orders xs)) (sym none) stay
        | inr shows ↦ subst (λ (xs : List Seen). AreAll T (orders_after_all trace w.observer.orders xs)) (sym shows.seen)
            (put_all T w.observer.orders shows.copy (placed_in w.observer.orders shows.source) stay
            (all_placed (Holds T shows.copy) (placed_in w.observer.orders shows.source) (λ place p at. step_starts w.master moment i choice base.base.logged base.waits shows.source shows.copy shows.seen)))
      ]
    where
      T : ℕ → Placed → Type 0
      T handle p = HasBegun handle (master_step w.master moment i choice).state

      stay : AreAll T w.observer.orders
      stay = all_go_on Was T (λ handle p t. step_begun handle w.master moment i choice base.base.logged base.waits t) w.observer.orders h

  each_begun : HoldsAfter w (λ e x. AreBegun x.world)
  each_begun =
      record {
        nothing = λ e. h;
        masters = λ e moment i choice is up. master_orders (observed_moment w.config.skew_ms w.observer moment).trace moment i choice;
        opens = λ e moment choice.
            subst (λ (xs : List Seen). AreAll (λ handle p. HasBegun handle (master_restart w.master moment choice).state) (orders_after_all (observed_moment w.config.skew_ms w.observer moment).trace w.observer.orders xs)) (sym (restart_shown w.master moment choice))
            (all_go_on Was (λ handle p. HasBegun handle (master_restart w.master moment choice).state) (λ handle p t. restart_begun handle w.master moment choice base.base.issued base.base.logged t) w.observer.orders h);
        serves = λ e index moment s i choice at is up.
            all_keep (observed_moment w.config.skew_ms w.observer moment).trace IsSeenNow Was (keeps (observed_moment w.config.skew_ms w.observer moment).trace) w.observer.orders (server_step s moment i choice).seen
            (servers_see index moment s i choice at (came_in w e (suc index) moment i is)) h;
        restarts = λ e index moment s choice at.
            subst (λ (xs : List Seen). AreAll Was (orders_after_all (observed_moment w.config.skew_ms w.observer moment).trace w.observer.orders xs)) (sym (restarted_shown s moment choice choice.ending)) h;
        steps = λ e index moment s i choice at is up. subst (λ (orders : Table (List Placed)). AreAll Was orders) (sym (same_orders _ (suc index) (client_step s moment i choice).out.answer)) h;
        calls = λ e index moment s c choice at may. subst (λ (orders : Table (List Placed)). AreAll Was orders) (sym (same_orders _ (suc index) (client_call s moment c choice).out.answer)) h;
        rots = λ e index handle s x place byte ending is_kept at there up. h;
      }

none_placed : (T : ℕ → Placed → Type 0) → AreAll T table.empty
none_placed T handle = subst (λ (o : Option (List Placed)). AllOf (Holds T handle) (unwrap_or o [])) (sym (table.get-empty nat_cmp handle)) tt

begun_of : (config : Config) (servers clients : ℕ) (w : WorldState) → IsReached config servers clients w → (handle place : ℕ) (p : Placed) → element_at (placed_in w.observer.orders handle) place ≡ Some p → HasBegun handle w.master
begun_of config servers clients w r handle place p at =
    all_at (Holds (λ q x. HasBegun q w.master) handle) (placed_in w.observer.orders handle) place p
    (held_reached AreBegun each_begun config servers clients (none_placed (λ q x. HasBegun q (new_world config servers clients).master)) w r handle) at

no_entry : (ps : List Placed) → ((p : Placed) → element_at ps zero ≡ Some p → ⊥) → ps ≡ []
no_entry [] none = refl
no_entry (p ∷ ps) none = absurd (none p refl)

pub ungranted_chunks_have_no_entry : UngrantedChunksHaveNoEntry
ungranted_chunks_have_no_entry config servers clients w r up handle row there none free =
    no_entry (placed_in w.observer.orders handle)
    (λ p at. elim (((begun_of config servers clients w r handle zero p at).up up).1 row there) [
      | inl some ↦ omega (arith, some, none)
      | inr copy ↦ none_some copy.0 (sym free ∙ copy.1)
    ])
