-- What a step shows, of a world that is reached: an entry that was placed, and entries of a serial that are settled; and it stays so.
use Rattle.std.proofs.Common.{◌≡◌, ℕ, suc, List, [], Some, refl, sym, subst}
use Rattle.gfs_types.specs.declared.config.Config.{Config}
use Rattle.gfs_types.specs.declared.ids.DataId.{DataId}
use Rattle.gfs_types.specs.declared.mutation.Mutation.{Mutation}
use Rattle.messages.specs.declared.event.Event.{Event}
use Rattle.messages.specs.declared.event.NodeInput.{NodeInput}
use Rattle.messages.specs.declared.event.NodeInput.TheVariants as input
use Rattle.messages.specs.declared.message.Message.{Message}
use Rattle.primary_order.specs.SerialOrder.{SerialOrder}
use Rattle.protocol.specs.Tables.{Table, element_at}
use Rattle.protocol.specs.Sending.{handle_of, version_of}
use Rattle.protocol.specs.Choice.{Choice}
use Rattle.protocol.specs.declared.seen.Seen.{Seen}
use Rattle.protocol.specs.declared.seen.Seen.TheVariants.{Numbered, BecameSettled, CopyStarted}
use Rattle.protocol.specs.Observer.{Placed, order_of, placed_in, observed_moment, orders_after_all}
use Rattle.protocol.specs.ClientStep.{client_step, client_call}
use Rattle.protocol.specs.Server.{ServerState}
use Rattle.protocol.specs.ServerStep.{server_at, server_step, server_restart}
use Rattle.protocol.specs.MasterStep.{master_step, master_restart}
use Rattle.protocol.specs.World.{WorldState, Happened, IsReached}
use Rattle.laws_base.proofs.LeaseOrders.{named_grant, stated_grant}
use Rattle.laws_base.proofs.Entries.{AllOf}
use Rattle.laws_base.proofs.MembersRecorded.{all_at}
use Rattle.laws_base.proofs.Events.{HoldsAfter}
use Rattle.laws_base.proofs.MasterTalks.{IsCopying, master_shown, restart_shown}
use Rattle.laws_base.specs.Entries.{IsAmong}
use Rattle.laws_base.proofs.Stemming.{came_in}
use Rattle.laws_base.proofs.Placing.{all_placed, same_orders}
use Rattle.laws_base.proofs.Numbering.{restarted_shown}
use Rattle.laws_base.proofs.Unleased.{new_copies_have_no_lease}
use Rattle.laws_base.proofs.SpentVersions.{IsSpent, each_spent}
use Rattle.laws_base.proofs.SerialsOnce.{HasGiven, given_keeps, given_no_more}
use Rattle.laws_base.proofs.Beside.{three_after, each_among}
use Rattle.laws_base.proofs.UsedNumbers.{Asks}
use Rattle.laws_base.proofs.SettledSerials.{IsDue, step_due}
use Rattle.laws_base.proofs.SettledOrders.{IsKept, all_good, IsNoCopyTo, HasEntry, entry_kept, AreSettled, GivesNot, settled_kept}

-- what a step shows, of a world: these data have an entry; all entries of this serial are settled, and it is given no more

pub record IsPlacedNow (w : WorldState) (handle version serial : ℕ) (id : DataId) (m : Mutation) : Type 0 where
  pub has : HasEntry version serial id m (order_of w.observer handle)
  pub spent : IsSpent (HasGiven serial) handle version w
  pub asks : Asks w.sent id (handle_of handle) (version_of version)

pub record IsSettledNow (w : WorldState) (handle version serial : ℕ) : Type 0 where
  pub all : AreSettled version serial (order_of w.observer handle)
  pub spent : IsSpent (HasGiven serial) handle version w

abbrev pub K : WorldState → Seen → Type 0
K w (Numbered handle version serial id m) = IsPlacedNow w handle.0 version.0 serial.0 id m
K w (BecameSettled handle version serial) = IsSettledNow w handle.0 version.0 serial.0
K w (CopyStarted handle copy) = Unit {0}

map_after : (w : WorldState) (Q R : Event → Happened → Type 0) → ((e : Event) (x : Happened) → Q e x → R e x) → HoldsAfter w Q → HoldsAfter w R
map_after w Q R go q =
    record {
      nothing = λ e. go e _ (q.nothing e);
      masters = λ e moment i choice is up. go e _ (q.masters e moment i choice is up);
      opens = λ e moment choice. go e _ (q.opens e moment choice);
      serves = λ e index moment s i choice at is up. go e _ (q.serves e index moment s i choice at is up);
      restarts = λ e index moment s choice at. go e _ (q.restarts e index moment s choice at);
      steps = λ e index moment s i choice at is up. go e _ (q.steps e index moment s i choice at is up);
      calls = λ e index moment s c choice at may. go e _ (q.calls e index moment s c choice at may);
      rots = λ e index handle s d place byte ending is_kept at there up. go e _ (q.rots e index handle s d place byte ending is_kept at there up);
    }

-- what holds of one chunk's order goes on to hold
each_good : (w : WorldState) (handle : ℕ) (Good : List Placed → Type 0) → Good (order_of w.observer handle)
    → ((moment : ℕ) (i : NodeInput) (choice : Choice) → AllOf (IsKept (observed_moment w.config.skew_ms w.observer moment).trace handle Good) (master_step w.master moment i choice).seen)
    → ((index moment : ℕ) (s : ServerState) (i : NodeInput) (choice : Choice) → element_at w.servers index ≡ Some s → ((m : Message) → i ≡ input.Deliver m → IsAmong w.sent m)
    → AllOf (IsKept (observed_moment w.config.skew_ms w.observer moment).trace handle Good) (server_step s moment i choice).seen)
    → HoldsAfter w (λ e x. Good (order_of x.world.observer handle))
each_good w handle Good h masters servers =
    record {
      nothing = λ e. h;
      masters = λ e moment i choice is up. shown moment (master_step w.master moment i choice).seen (masters moment i choice);
      opens = λ e moment choice. shown moment (master_restart w.master moment choice).seen (none moment (master_restart w.master moment choice).seen (restart_shown w.master moment choice));
      serves = λ e index moment s i choice at is up. shown moment (server_step s moment i choice).seen (servers index moment s i choice at (came_in w e (suc index) moment i is));
      restarts = λ e index moment s choice at. shown moment (server_restart s moment choice).seen (none moment (server_restart s moment choice).seen (restarted_shown s moment choice choice.ending));
      steps = λ e index moment s i choice at is up.
          subst (λ (orders : Table (List Placed)). Good (placed_in orders handle)) (sym (same_orders _ (suc index) (client_step s moment i choice).out.answer)) h;
      calls = λ e index moment s c choice at may.
          subst (λ (orders : Table (List Placed)). Good (placed_in orders handle)) (sym (same_orders _ (suc index) (client_call s moment c choice).out.answer)) h;
      rots = λ e index q s d place byte ending is_kept at there up. h;
    }
  where
    shown : (moment : ℕ) (seen : List Seen) → AllOf (IsKept (observed_moment w.config.skew_ms w.observer moment).trace handle Good) seen
        → Good (placed_in (orders_after_all (observed_moment w.config.skew_ms w.observer moment).trace w.observer.orders seen) handle)
    shown moment seen kept = all_good (observed_moment w.config.skew_ms w.observer moment).trace handle Good w.observer.orders seen kept h

    none : (moment : ℕ) (seen : List Seen) → seen ≡ [] → AllOf (IsKept (observed_moment w.config.skew_ms w.observer moment).trace handle Good) seen
    none moment seen is = subst (λ (xs : List Seen). AllOf (IsKept (observed_moment w.config.skew_ms w.observer moment).trace handle Good) xs) (sym is) tt

no_copies : (s : ServerState) (i : NodeInput) (handle : ℕ) (x : Seen) → IsDue s i x → IsNoCopyTo handle x
no_copies s i handle (CopyStarted q copy) due = absurd due
no_copies s i handle (Numbered q v n id m) due = tt
no_copies s i handle (BecameSettled q v n) due = tt

module _ (config : Config) (servers clients : ℕ) (w : WorldState) (r : IsReached config servers clients w) where
  -- a chunk with a lease is no new copy
  masters_copy : (P : SerialOrder → Type 0) (handle version : ℕ) → IsSpent P handle version w → (moment : ℕ) (i : NodeInput) (choice : Choice) (place : ℕ) (x : Seen) → element_at (master_step w.master moment i choice).seen place ≡ Some x → IsNoCopyTo handle x
  masters_copy P handle version spent moment i choice place (CopyStarted q copy) at = λ same.
      (new_copies_have_no_lease config servers clients w r moment i choice place q copy at).ungranted spent.place spent.grant spent.at spent.order (version_of version) spent.end_moment spent.members
      (stated_grant (named_grant {version = version} spent.is same refl))
  masters_copy P handle version spent moment i choice place (Numbered q v n id m) at = tt
  masters_copy P handle version spent moment i choice place (BecameSettled q v n) at = tt

  pub servers_copy : (handle : ℕ) (moment : ℕ) (s : ServerState) (i : NodeInput) (choice : Choice) (place : ℕ) (x : Seen) → element_at (server_step s moment i choice).seen place ≡ Some x → IsNoCopyTo handle x
  servers_copy handle moment s i choice place x at = no_copies (server_at s moment) i handle x (all_at (IsDue (server_at s moment) i) (server_step s moment i choice).seen place x (step_due s moment i choice) at)

  -- entries stay
  placed_on : (handle version serial : ℕ) (id : DataId) (m : Mutation) → IsPlacedNow w handle version serial id m → HoldsAfter w (λ e x. IsPlacedNow x.world handle version serial id m)
  placed_on handle version serial id m h =
      map_after w Parts (λ e x. IsPlacedNow x.world handle version serial id m)
      (λ e x parts. record {
        has = parts.0;
        spent = parts.1;
        asks = record { asked = h.asks.asked; aim = h.asks.aim; deadline = h.asks.deadline; sent_is = parts.2; sender_is = h.asks.sender_is; body_is = h.asks.body_is };
      })
      (three_after w (λ e x. HasEntry version serial id m (order_of x.world.observer handle)) (λ e x. IsSpent (HasGiven serial) handle version x.world) (λ e x. IsAmong x.world.sent h.asks.asked)
      (each_good w handle (HasEntry version serial id m) h.has
      (λ moment i choice. all_placed (IsKept (observed_moment w.config.skew_ms w.observer moment).trace handle (HasEntry version serial id m)) (master_step w.master moment i choice).seen
      (λ place x at. entry_kept version serial id m (observed_moment w.config.skew_ms w.observer moment).trace handle x (masters_copy (HasGiven serial) handle version h.spent moment i choice place x at)))
      (λ index moment s i choice at came. all_placed (IsKept (observed_moment w.config.skew_ms w.observer moment).trace handle (HasEntry version serial id m)) (server_step s moment i choice).seen
      (λ place x here. entry_kept version serial id m (observed_moment w.config.skew_ms w.observer moment).trace handle x (servers_copy handle moment s i choice place x here))))
      (each_spent (HasGiven serial) (given_keeps serial) config servers clients handle version w r h.spent) (each_among w h.asks.asked h.asks.sent_is))
    where
      Parts : Event → Happened → Type 0
      Parts e x = HasEntry version serial id m (order_of x.world.observer handle) × IsSpent (HasGiven serial) handle version x.world × IsAmong x.world.sent h.asks.asked

  masters_give : (handle version serial : ℕ) (x : Seen) → IsCopying x → GivesNot version serial handle x
  masters_give handle version serial (Numbered q v n id m) is = absurd is
  masters_give handle version serial (BecameSettled q v n) is = tt
  masters_give handle version serial (CopyStarted q copy) is = tt

  servers_give : (handle version serial : ℕ) → IsSpent (HasGiven serial) handle version w → (index moment : ℕ) (s : ServerState) (i : NodeInput) (choice : Choice) → element_at w.servers index ≡ Some s → ((m : Message) → i ≡ input.Deliver m → IsAmong w.sent m)
      → (place : ℕ) (x : Seen) → element_at (server_step s moment i choice).seen place ≡ Some x → GivesNot version serial handle x
  servers_give handle version serial spent index moment s i choice at came place (Numbered q v n id m) seen = λ same round number.
      given_no_more config servers clients w r q v n
      (subst (λ (k : ℕ). IsSpent (HasGiven k) q.0 v.0 w) (sym number) (subst (λ (k : ℕ). IsSpent (HasGiven serial) q.0 k w) (sym round) (subst (λ (k : ℕ). IsSpent (HasGiven serial) k version w) same spent)))
      index moment s i choice (record { is = at; came = came; place = place; id = id; placed = m; seen = seen })
  servers_give handle version serial spent index moment s i choice at came place (BecameSettled q v n) seen = tt
  servers_give handle version serial spent index moment s i choice at came place (CopyStarted q copy) seen = tt

  -- and stay settled
  settled_on : (handle version serial : ℕ) → IsSettledNow w handle version serial → HoldsAfter w (λ e x. IsSettledNow x.world handle version serial)
  settled_on handle version serial h =
      map_after w Parts (λ e x. IsSettledNow x.world handle version serial) (λ e x parts. record { all = parts.0; spent = parts.1 })
      (three_after w (λ e x. AreSettled version serial (order_of x.world.observer handle)) (λ e x. IsSpent (HasGiven serial) handle version x.world) (λ e x. IsAmong x.world.sent h.spent.grant)
      (each_good w handle (AreSettled version serial) h.all
      (λ moment i choice. all_placed (IsKept (observed_moment w.config.skew_ms w.observer moment).trace handle (AreSettled version serial)) (master_step w.master moment i choice).seen
      (λ place x at.
      settled_kept version serial (observed_moment w.config.skew_ms w.observer moment).trace handle x (masters_copy (HasGiven serial) handle version h.spent moment i choice place x at)
      (masters_give handle version serial x (all_at IsCopying (master_step w.master moment i choice).seen place x (master_shown w.master moment i choice) at))))
      (λ index moment s i choice at came. all_placed (IsKept (observed_moment w.config.skew_ms w.observer moment).trace handle (AreSettled version serial)) (server_step s moment i choice).seen
      (λ place x here.
      settled_kept version serial (observed_moment w.config.skew_ms w.observer moment).trace handle x (servers_copy handle moment s i choice place x here)
      (servers_give handle version serial h.spent index moment s i choice at came place x here))))
      (each_spent (HasGiven serial) (given_keeps serial) config servers clients handle version w r h.spent) (each_among w h.spent.grant (h.spent.place, h.spent.at)))
    where
      Parts : Event → Happened → Type 0
      Parts e x = AreSettled version serial (order_of x.world.observer handle) × IsSpent (HasGiven serial) handle version x.world × IsAmong x.world.sent h.spent.grant

  pub known_on : (y : Seen) → K w y → HoldsAfter w (λ e x. K x.world y)
  known_on (Numbered handle version serial id m) h = placed_on handle.0 version.0 serial.0 id m h
  known_on (BecameSettled handle version serial) h = settled_on handle.0 version.0 serial.0 h
  known_on (CopyStarted handle copy) h =
      record {
        nothing = λ e. tt;
        masters = λ e moment i choice is up. tt;
        opens = λ e moment choice. tt;
        serves = λ e index moment s i choice at is up. tt;
        restarts = λ e index moment s choice at. tt;
        steps = λ e index moment s i choice at is up. tt;
        calls = λ e index moment s c choice at may. tt;
        rots = λ e index handle s d place byte ending is_kept at there up. tt;
      }
