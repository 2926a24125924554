-- Nothing becomes of the entries up to a version whose lease is over, with all lower ones: none is added, and none becomes settled.
use Rattle.std.proofs.Common.{◌≡◌, ℕ, suc, ◌≤◌, ◌<◌, List, [], ◌∷◌, Option, Some, None, refl, sym, ap, ◌∙◌, inl, inr, arith}
use Rattle.std.specs.Prelude.{unwrap_or, IsTrue}
use Rattle.std.proofs.lemmas.Bool.{cases_lt}
use Rattle.gfs_types.specs.declared.config.Config.{Config}
use Rattle.messages.specs.declared.event.Event.{Event}
use Rattle.messages.specs.declared.event.NodeInput.{NodeInput}
use Rattle.messages.specs.declared.event.NodeInput.TheVariants as input
use Rattle.messages.specs.declared.message.Message.{Message}
use Rattle.primary_order.specs.SerialOrder.{SerialOrder}
use Rattle.relaxed_file.specs.Run.{Visible}
use Rattle.protocol.specs.Tables.{Table, element_at}
use Rattle.protocol.specs.Choice.{Choice}
use Rattle.protocol.specs.declared.seen.Seen.{Seen}
use Rattle.protocol.specs.declared.seen.Seen.TheVariants.{Numbered, BecameSettled, CopyStarted}
use Rattle.protocol.specs.Observer.{Placed, observed_moment, placed_in, orders_after_all}
use Rattle.protocol.specs.Server.{ServerState, primary_of}
use Rattle.protocol.specs.ServerStep.{server_at, server_step}
use Rattle.protocol.specs.MasterStep.{master_step}
use Rattle.protocol.specs.ClientStep.{client_step, client_call}
use Rattle.protocol.specs.World.{WorldState, happens, after_events, IsReached}
use Rattle.laws_base.proofs.Steps.{none_some, put_other}
use Rattle.laws_base.proofs.Entries.{AllOf}
use Rattle.laws_base.proofs.MembersRecorded.{all_at}
use Rattle.laws_base.proofs.SentReached.{sent_reached}
use Rattle.laws_base.specs.Versions.{IsLeaseOver}
use Rattle.laws_base.proofs.EndedLeases.{over_leases_number_nothing}
use Rattle.laws_base.proofs.LeasesStayOver.{reached_later}
use Rattle.laws_base.specs.Entries.{IsAmong}
use Rattle.laws_base.proofs.Stemming.{came_in}
use Rattle.laws_base.proofs.WaitsKept.{IsOfWaits, waits_kept}
use Rattle.laws_base.proofs.Events.{HoldsAfter, holds_after}
use Rattle.laws_versions.proofs.ClosedVersions.{clocks_before}
use Rattle.laws_base.proofs.MasterTalks.{restart_shown}
use Rattle.laws_base.proofs.Placing.{all_placed, same_orders}
use Rattle.laws_base.proofs.Numbering.{restarted_shown}
use Rattle.laws_base.proofs.CopiesBegun.{step_shows}
use Rattle.laws_base.proofs.RoundsPassed.{IsOfServers, server_shown}
use Rattle.laws_base.proofs.RisingRounds.{IsUnderLease, under_lease}
use Rattle.laws_versions.proofs.Acknowledging.{settled_mutations_were_acknowledged}
use Rattle.laws_versions.specs.SkippedRounds.{up_to}
use Rattle.laws_versions.proofs.UpTo.{IsLater, AreSame, all_same}

module _ (config : Config) (servers clients : ℕ) (w : WorldState) (r : IsReached config servers clients w) where
  waiting : IsOfWaits w.sent w.master
  waiting = sent_reached IsOfWaits waits_kept config servers clients w r

  -- a step of the master leaves the order of a chunk that it had used
  pub used_still : (trace : List Visible) (moment : ℕ) (i : NodeInput) (choice : Choice) (handle : ℕ) → (IsTrue w.master.up → handle < w.master.logged.next_handle)
      → placed_in (orders_after_all trace w.observer.orders (master_step w.master moment i choice).seen) handle ≡ placed_in w.observer.orders handle
  used_still trace moment i choice handle used =
      elim (step_shows w.master moment i choice waiting.base.logged waiting.waits) [
        | inl none ↦ ap (λ (xs : List Seen). placed_in (orders_after_all trace w.observer.orders xs) handle) none
        | inr shows ↦
            ap (λ (xs : List Seen). placed_in (orders_after_all trace w.observer.orders xs) handle) shows.seen
            ∙ ap (λ (o : Option (List Placed)). unwrap_or o []) (put_other w.observer.orders shows.copy (placed_in w.observer.orders shows.source) handle
            (λ same. let low = used shows.up in let new = shows.new in absurd (omega (arith, low, new, same))))
      ]

  module _ (handle version : ℕ) (over : (low : ℕ) → low ≤ version → IsLeaseOver w handle low) where
    -- a server shows nothing of these rounds
    pub server_later : (index moment : ℕ) (s : ServerState) (i : NodeInput) (choice : Choice) → element_at w.servers index ≡ Some s → ((m : Message) → i ≡ input.Deliver m → IsAmong w.sent m) → IsTrue (observed_moment w.config.skew_ms w.observer moment).are_clocks_kept
        → AllOf (IsLater version handle) (server_step s moment i choice).seen
    server_later index moment s i choice there came clocks =
        all_placed (IsLater version handle) (server_step s moment i choice).seen (λ place x at. one place x at (all_at IsOfServers (server_step s moment i choice).seen place x (server_shown s moment i choice) at))
      where
        -- no lease of these versions counts
        uncounted : (q v : ℕ) (o : Option SerialOrder) → q ≡ handle → v ≤ version → primary_of (server_at s moment) q v ≡ o → o ≡ None
        uncounted q v o same low is = sym is ∙ (ap (λ (k : ℕ). primary_of (server_at s moment) k v) same ∙ over_leases_number_nothing config servers clients w r handle v (over v low) moment clocks index s there)

        one : (place : ℕ) (x : Seen) → element_at (server_step s moment i choice).seen place ≡ Some x → IsOfServers x → IsLater version handle x
        one place (Numbered q v n id m) at of = λ same.
            elim (cases_lt version v.0) [
              | inl past ↦ past
              | inr low ↦
                  let under : IsUnderLease w index moment s q.0 v.0 n.0 = under_lease config servers clients w r index moment s i choice there came place q v n id m at in
                  none_some under.lease (sym (uncounted q.0 v.0 (Some under.lease) same low under.counts))
            ]
        one place (BecameSettled q v n) at of = λ same.
            elim (cases_lt version v.0) [
              | inl past ↦ past
              | inr low ↦
                  let under = settled_mutations_were_acknowledged config servers clients w r index s there moment i choice came place q v n at in
                  none_some under.lease (sym (uncounted q.0 v.0 (Some under.lease) same low under.counts))
            ]
        one place (CopyStarted q copy) at of = absurd of

    abbrev pub IsStill : WorldState → Type 0
    IsStill v = IsTrue v.observer.are_clocks_kept → AreSame version handle w.observer.orders v.observer.orders

    pub each_still : (IsTrue w.master.up → handle < w.master.logged.next_handle) → HoldsAfter w (λ e x. IsStill x.world)
    each_still used =
        record {
          nothing = λ e clocks. refl;
          masters = λ e moment i choice is up clocks. ap (λ (ps : List Placed). up_to version ps) (used_still (observed_moment w.config.skew_ms w.observer moment).trace moment i choice handle used);
          opens = λ e moment choice clocks.
              ap (λ (xs : List Seen). up_to version (placed_in (orders_after_all (observed_moment w.config.skew_ms w.observer moment).trace w.observer.orders xs) handle)) (restart_shown w.master moment choice);
          serves = λ e index moment s i choice at is up clocks.
              all_same version handle (observed_moment w.config.skew_ms w.observer moment).trace w.observer.orders (server_step s moment i choice).seen
              (server_later index moment s i choice at (came_in w e (suc index) moment i is) clocks);
          restarts = λ e index moment s choice at clocks.
              ap (λ (xs : List Seen). up_to version (placed_in (orders_after_all (observed_moment w.config.skew_ms w.observer moment).trace w.observer.orders xs) handle)) (restarted_shown s moment choice choice.ending);
          steps = λ e index moment s i choice at is up clocks. ap (λ (orders : Table (List Placed)). up_to version (placed_in orders handle)) (same_orders _ (suc index) (client_step s moment i choice).out.answer);
          calls = λ e index moment s c choice at may clocks. ap (λ (orders : Table (List Placed)). up_to version (placed_in orders handle)) (same_orders _ (suc index) (client_call s moment c choice).out.answer);
          rots = λ e index q s x place byte ending is_kept at there up clocks. refl;
        }

-- from a world on in which something holds that stays, and that has these leases over
pub still_on : (config : Config) (servers clients handle version : ℕ) (P : WorldState → Type 0) → ((x : WorldState) (step : Event × Choice) → P x → P (happens x step.0 step.1).world)
    → ((x : WorldState) → IsReached config servers clients x → P x → IsTrue x.observer.are_clocks_kept → (low : ℕ) → low ≤ version → IsLeaseOver x handle low)
    → ((x : WorldState) → IsReached config servers clients x → P x → IsTrue x.master.up → handle < x.master.logged.next_handle) → (w : WorldState) (steps : List (Event × Choice)) → IsReached config servers clients w → P w
    → IsTrue (after_events w steps).observer.are_clocks_kept → AreSame version handle w.observer.orders (after_events w steps).observer.orders
still_on config servers clients handle version P stays over used w [] r p clocks = refl
still_on config servers clients handle version P stays over used w (step ∷ rest) r p clocks =
    let v : WorldState = (happens w step.0 step.1).world in
    let then_ : IsTrue v.observer.are_clocks_kept = clocks_before v rest clocks in
    let before : IsTrue w.observer.are_clocks_kept = clocks_before w (step ∷ []) then_ in
    still_on config servers clients handle version P stays over used v rest (reached_later config servers clients w (step ∷ []) r) (stays w step p) clocks
    ∙ holds_after w (λ e x. IsStill config servers clients w r handle version (over w r p before) x.world) (each_still config servers clients w r handle version (over w r p before) (used w r p)) step.0 step.1 then_
