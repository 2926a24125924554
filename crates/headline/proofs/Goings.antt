-- Where a step of the master goes through, the whole machine is beside the master's state after it.
use Rattle.std.proofs.Common.{◌≡◌, ℕ, zero, suc, ◌+◌, ◌≤◌, true, max, List, [], ◌∷◌, ◌++◌, length, Option, Some, refl, sym, ap, subst, ◌∙◌, inl, inr, arith}
use Rattle.std.specs.Prelude.{IsTrue}
use Rattle.std.specs.List.{AllByRecursion}
use Rattle.std.specs.FinMap as table
use Rattle.gfs_types.specs.declared.config.Config.{Config}
use Rattle.gfs_types.specs.declared.ids.Handle.{Handle}
use Rattle.gfs_types.specs.declared.ids.Moment.{Moment}
use Rattle.gfs_types.specs.declared.ids.OrderNo.{OrderNo}
use Rattle.gfs_types.specs.declared.ids.Version.{Version}
use Rattle.messages.specs.declared.event.Event.{Event}
use Rattle.messages.specs.declared.event.NodeInput.{NodeInput}
use Rattle.messages.specs.declared.event.NodeInput.TheVariants as input
use Rattle.messages.specs.declared.message.Body.{Body}
use Rattle.messages.specs.declared.message.Body.TheVariants as body
use Rattle.messages.specs.declared.message.Message.{Message}
use Rattle.relaxed_file.specs.Machine.{Machine}
use Rattle.relaxed_file.specs.Run.{Visible}
use Rattle.protocol.specs.Tables.{Table, element_at}
use Rattle.machine_names.specs.UnseenRuns.{IsLeft}
use Rattle.protocol.specs.Choice.{Choice, Goes, in_order}
use Rattle.protocol.specs.Seen.{Taken}
use Rattle.protocol.specs.declared.seen.Seen.{Seen}
use Rattle.protocol.specs.declared.seen.Seen.TheVariants.{CopyStarted}
use Rattle.protocol.specs.Sending.{client_number, handle_of}
use Rattle.protocol.specs.Observer.{Placed, orders_after}
use Rattle.protocol.specs.Logged.{Logged, KeptCall, log_changed_by_all}
use Rattle.protocol.specs.Master.{MasterState, MasterDoing, PendingSnapshot}
use Rattle.protocol.specs.MasterStep.{master_goes, master_ends, master_step}
use Rattle.protocol.specs.World.{WorldState, IsReached, happens, stamped, after_master}
use Rattle.laws_base.proofs.LeaseOrders.{SaysGrant, says_grant, moved_grant, grant_counts}
use Rattle.laws_base.specs.Laws.{grants_of, is_grant}
use Rattle.laws_base.proofs.Steps.{none_some, same_some}
use Rattle.laws_base.proofs.MembersRecorded.{all_at}
use Rattle.laws_base.proofs.MessagesSent.{IsSent, IsSameMessage, ordered_sent}
use Rattle.laws_base.proofs.MasterMoves.{NoneEnded}
use Rattle.laws_base.proofs.MasterSteps.{no_input, goes_named}
use Rattle.laws_base.proofs.CountsLogged.{IsFoundCounts, IsCountedLog}
use Rattle.laws_base.proofs.CountsKept.{counts_kept}
use Rattle.laws_base.proofs.NamesReached.{IsNaming, naming_keeps, IsUpToLog, logged_here}
use Rattle.laws_base.proofs.SentReached.{sent_reached}
use Rattle.laws_base.proofs.LeasesStayOver.{reached_later}
use Rattle.laws_base.proofs.WaitsKept.{IsOfWaits, waits_kept}
use Rattle.laws_base.proofs.CopiesBegun.{ShowsCopy, ShowsLittle, step_shows}
use Rattle.laws_versions.proofs.CopiedOrders.{copies_under_way_are_not_granted}
use Rattle.laws_names.specs.Alike.{Requests, AreAlike}
use Rattle.laws_names.specs.Followed.{IsTold}
use Rattle.laws_names.specs.Beside as names
use Rattle.laws_names.specs.Beside.{lasts, lasting, IsKnown, IsNamesBeside}
use Rattle.laws_names.specs.NameTrails.{log_read}
use Rattle.laws_names.proofs.LocksAndFiles.{locks_go_back}
use Rattle.laws_names.proofs.NameWords.{IsUnasked, master_asks_nothing}
use Rattle.laws_names.proofs.BesideClientsBeside.{passed_trace, moved, says_more}
use Rattle.protocol_invariant.specs.Actions.{Spot}
use Rattle.laws_machine.specs.ChunksAlike.{ChunkSides, IsRoundOpen, KeepsChunks, NoneEnds}
use Rattle.laws_machine.proofs.Orders.{copies_begin_unseen}
use Rattle.laws_machine.specs.MasterSteps.{Comes, IsCopy, AreGoneBy, HaveSameFiles}
use Rattle.laws_machine.specs.WholeSteps.{EndsAlong, GoesAlong, AreRoundsOpened}
use Rattle.laws_machine.specs.OverRounds as over
use Rattle.laws_machine.specs.Rounds.{IsEnded}
use Rattle.laws_machine.specs.WholeWorlds.{IsBeside}
use Rattle.laws_machine.proofs.EndedRounds.{ended_before}
use Rattle.laws_machine.proofs.MasterKept.{copies_may_come_and_go}
use Rattle.laws_machine.proofs.MasterNames.{more_end}
use Rattle.laws_machine.proofs.OverRounds.{rounds_that_end_stay_over, open_at_end}
use Rattle.laws_machine.proofs.GrantsLast.{grants_are_last}
use Rattle.laws_machine.proofs.SentGrants.{sent_grants_are_logged}
use Rattle.laws_machine.proofs.WholeStops.{ends_are_reached}
use Rattle.laws_versions.proofs.ExtendLaws.{new_one}
use Rattle.laws_machine.proofs.WholeLogs.{states_have_their_logs_files}
use Rattle.laws_machine.specs.MastersEvents.{AreCopiesOver}
use Rattle.headline.proofs.BegunCopies.{copies_begin_nowhere, copies_begin_without_a_round}
use Rattle.headline.proofs.GoneHandles.{steps_let_go_what_stood}
use Rattle.headline.proofs.Arrivals.{passes, here, Arrives}
use Rattle.headline.proofs.Quiet as quiet
use Rattle.headline.proofs.Moves.{Moves, both_come, to_log, along}
use Rattle.headline.proofs.Stops.{last_stop}
use Rattle.headline.proofs.Steps as steps
use Rattle.headline.proofs.Steps.{still_up, IsTaken}
use Rattle.laws_machine.proofs.OpenRounds.{ungranted_is_over}
use Rattle.laws_base.proofs.SentGrants.{counted_one}

told_at : (m : Machine) (requests : Requests) (ms : List Message) (place : ℕ) (x : Message) → AllByRecursion (IsTold m requests) ms → element_at ms place ≡ Some x → IsTold m requests x
told_at m requests [] place x all at = none_some x at
told_at m requests (y ∷ ms) zero x all at = subst (λ (z : Message). IsTold m requests z) (same_some y x at) all.0
told_at m requests (y ∷ ms) (suc place) x all at = told_at m requests ms place x all.1 at

unasked_known : (kept : Table KeptCall) (m : Machine) (requests : Requests) (q : ℕ) (b : Body) → IsUnasked b → IsKnown kept m requests q b
unasked_known kept m requests q (body.Name number deadline c) is = absurd is
unasked_known kept m requests q (body.Look number c) is = absurd is
unasked_known kept m requests q other is = tt

module _ (config : Config) (servers clients : ℕ) (w : WorldState) (r : IsReached config servers clients w) (kept : IsTrue w.observer.are_clocks_kept) (e : Event) (choice : Choice) (clocks : IsTrue (happens w e choice).world.observer.are_clocks_kept)
    (k : ChunkSides) (h : IsBeside config w w.master.snapshots k) (is : k.log ≡ w.master.logged) (up : IsTrue w.master.up) (moment : ℕ) (timely : max w.observer.greatest moment ≤ moment + w.config.skew_ms)
    (i : NodeInput) (heard : (x : Message) → i ≡ input.Deliver x → names.WasSent w.sent x) (copies : AreCopiesOver w)
    (event : over.IsMastersEvent w e moment i) (was : over.WasSent w i) (long : 1 ≤ config.lease_ms)
    (taken : IsTaken config servers clients w r kept e choice clocks k h is up moment timely i heard copies)
    (ends : choice.ending ≡ Goes)
    (same : (happens w e choice).world ≡ (after_master w moment (master_ends w.master (master_goes w.master moment i choice.refused) choice Goes)).world)
    (step_is : master_step w.master moment i choice ≡ master_ends w.master (master_goes w.master moment i choice.refused) choice Goes)
  where
    abbrev ss : List PendingSnapshot
    ss = w.master.snapshots

    abbrev v : WorldState
    v = (happens w e choice).world

    abbrev d : MasterDoing
    d = master_goes w.master moment i choice.refused

    abbrev t : Taken MasterState
    t = master_ends w.master d choice Goes

    abbrev trace : List Visible
    trace = passed_trace w.observer.greatest moment w.observer.trace

    abbrev greatest : ℕ
    greatest = max w.observer.greatest moment

    abbrev start : ChunkSides
    start = here config servers clients w r e choice clocks ss k h moment

    abbrev n : Machine
    n = (passes config servers clients w r e choice clocks ss k h moment).names

    abbrev on_disk : ChunkSides
    on_disk = steps.on_disk config servers clients w r kept e choice clocks k h is up moment timely i heard copies

    abbrev to_disk : Moves (IsEnded w (happens w e choice).world) start on_disk n
    to_disk = steps.to_disk config servers clients w r kept e choice clocks k h is up moment timely i heard copies

    master_is : v.master ≡ d.master
    master_is = quiet.master_is config servers clients w r e choice clocks ss k h moment t same

    up_then : v.master.up ≡ true
    up_then = ap (λ (x : MasterState). x.up) master_is ∙ still_up w.master moment i choice.refused up

    reached_then : IsReached config servers clients v
    reached_then = reached_later config servers clients w ((e, choice) ∷ []) r

    passed_clocks : IsTrue (over.passed w moment).observer.are_clocks_kept
    passed_clocks = sym (ap (λ (x : WorldState). x.observer.are_clocks_kept) same) ∙ clocks

    abbrev E : ℕ → Type 0
    E = IsEnded w v

    -- along the changes of the step
    end : (j : ChunkSides) × (j.log ≡ log_read (log_changed_by_all w.master.disk d.changes)) × (j.orders ≡ on_disk.orders) × Comes (EndsAlong w.master.disk d.changes) on_disk j taken.later × AreRoundsOpened w.master.disk d.changes j
        × AreGoneBy (GoesAlong w.master.disk d.changes) on_disk j
    end = ends_are_reached h.requests n w.master.disk w.master.disk d.changes on_disk n taken.later to_disk.comes.whole refl taken.trail

    abbrev j : ChunkSides
    j = end.0

    numbered : (log_read w.master.disk).next_handle ≤ j.log.next_handle
    numbered = subst (λ (l : Logged). (log_read w.master.disk).next_handle ≤ l.next_handle) (sym end.1) (last_stop (λ l. (log_read w.master.disk).next_handle ≤ (log_read l).next_handle) w.master.disk d.changes taken.numbered)

    second : Moves E start j taken.later
    second =
        along E start j n taken.later (log_read w.master.disk) to_disk
        (more_end (EndsAlong w.master.disk d.changes) E on_disk j taken.later
        (λ handle ended. elim (rounds_that_end_stay_over config servers clients w r up e moment i event passed_clocks choice ends handle ended) [
          | inl before ↦ ended_before config servers clients w r e choice clocks handle before
          | inr after ↦ λ version granted. after version
        ]) end.3)
        numbered (steps_let_go_what_stood config servers clients w r kept up moment i choice.refused k j is end.5)

    -- back to the state

    known : IsUpToLog IsFoundCounts IsCountedLog counts_kept w.master
    known = (logged_here IsFoundCounts IsCountedLog counts_kept config servers clients w r).1.up up

    disk_is : log_changed_by_all w.master.disk d.changes ≡ d.master.disk
    disk_is =
        (goes_named NoneEnded (IsNaming IsFoundCounts IsCountedLog counts_kept w.master.disk) (naming_keeps IsFoundCounts IsCountedLog counts_kept w.master.disk NoneEnded) w.master moment i choice.refused (no_input i) known.bound known.names known.ready
        (record { none = known.idle; disk = refl; same = known.same; tied = known.tied; stops = (logged_here IsFoundCounts IsCountedLog counts_kept config servers clients w r).1.found [] })).0.disk

    same_files : HaveSameFiles (log_read d.master.disk) d.master.logged
    same_files = subst (λ (m : MasterState). HaveSameFiles (log_read m.disk) m.logged) master_is ((states_have_their_logs_files config servers clients v reached_then).0 up_then).1

    from_state : HaveSameFiles d.master.logged (log_read d.master.disk)
    from_state = subst (λ (m : MasterState). HaveSameFiles m.logged (log_read m.disk)) master_is ((states_have_their_logs_files config servers clients v reached_then).0 up_then).0

    not_granted : (handle : ℕ) → IsCopy d.master.logged handle → (version : ℕ) → grants_of handle version v.sent ≡ 0
    not_granted handle copy version =
        let there : table.get v.master.logged.copies handle ≡ Some copy.0 = ap (λ (m : MasterState). table.get m.logged.copies handle) master_is ∙ copy.1 in
        (copies_under_way_are_not_granted config servers clients v reached_then clocks up_then handle copy.0 there).granted version

    to_state : HaveSameFiles j.log d.master.logged
    to_state = subst (λ (l : Logged). HaveSameFiles l d.master.logged) (sym (end.1 ∙ ap log_read disk_is)) same_files

    back : Comes (IsCopy d.master.logged) j (record j { log = d.master.logged }) taken.later
    back = copies_may_come_and_go j taken.later d.master.logged end.3.whole to_state

    abbrev js : ChunkSides
    js = record j { log = d.master.logged }

    third : Moves E start js taken.later
    third = to_log E start j taken.later d.master.logged second to_state (λ handle copy version granted. ungranted_is_over config servers clients v reached_then handle version (not_granted handle copy version))

    -- what is granted is open
    module _ (place : ℕ) (m : Message) (order : OrderNo) (handle : Handle) (version : Version) (end_moment : Moment) (members : List ℕ) (from : length w.sent ≤ place) (at : element_at v.sent place ≡ Some m)
        (grants : SaysGrant order handle version end_moment members m.body) where
      new : (x : Message) × IsSent (in_order choice.order d.sent) x × IsSameMessage x m
      new = new_one w.sent (in_order choice.order d.sent) (suc (length w.sent)) place m from
          (ap (λ (ms : List Message). element_at ms place) (sym (quiet.sent_is config servers clients w r e choice clocks ss k h moment t same)) ∙ at)

      sent_there : IsSent d.sent new.0
      sent_there = ordered_sent choice.order d.sent new.0 new.1

      sent_now : 1 ≤ grants_of handle.0 version.0 d.sent
      sent_now = counted_one (λ (x : Message). is_grant handle.0 version.0 x.body) d.sent new.0 sent_there.0 sent_there.1 (grant_counts (moved_grant (new.2).2 grants))

      open_then : (s : Spot) × IsRoundOpen j handle.0 version.0 s
      open_then = open_at_end j handle.0 version.0 d.changes w.master.disk end.4 (grants_are_last config servers clients w r kept up long moment i was choice.refused)
          (sent_grants_are_logged config servers clients w r up moment i choice.refused handle.0 version.0 sent_now)

      no_copy : IsCopy d.master.logged handle.0 → ⊥
      no_copy copy =
          let none = not_granted handle.0 copy version.0 in
          let some = counted_one (λ (x : Message). is_grant handle.0 version.0 x.body) v.sent m place at (grant_counts grants) in
          omega (arith, none, some)

      open_back : (s : Spot) × IsRoundOpen js handle.0 version.0 s
      open_back = elim (back.rounds handle.0 version.0 open_then.0 open_then.1) [ inl copy ↦ absurd (no_copy copy) | inr still ↦ (open_then.0, still) ]

    -- the orders that are seen
    record IsShownAt : Type 0 where
      last : ChunkSides
      log : last.log ≡ d.master.logged
      orders : last.orders ≡ v.observer.orders
      gone : last.gone ≡ js.gone
      comes : Comes NoneEnds js last taken.later

    orders_before : js.orders ≡ w.observer.orders
    orders_before = end.2 ∙ h.chunks.orders

    shown_nothing : t.seen ≡ [] → IsShownAt
    shown_nothing none = record {
      last = js;
      log = refl;
      orders = orders_before ∙ sym (quiet.orders_are config servers clients w r e choice clocks ss k h moment t same [] none);
      gone = refl;
      comes = record { actions = []; lawful = tt; leads = refl; unseen = refl; places = refl; of_master = refl; rounds = λ handle version s was_open. inr was_open; whole = back.whole };
    }

    shown_copy : ShowsCopy w.master t → IsShownAt
    shown_copy s =
        let first : element_at d.seen 0 ≡ Some (CopyStarted (handle_of s.source) (handle_of s.copy)) = ap (λ (xs : List Seen). element_at xs 0) s.seen in
        let nowhere = (copies_begin_nowhere config servers clients w r up moment i choice.refused 0 (handle_of s.source) (handle_of s.copy) first).1 in
        let no_round : (version : ℕ) (spot : Spot) → IsRoundOpen js s.copy version spot → ⊥ = copies_begin_without_a_round config servers clients w r up moment i choice.refused 0 (handle_of s.source) (handle_of s.copy) first k js is h.below refl third.gone in
        let jo : ChunkSides = record js { orders = orders_after trace js.orders (CopyStarted (handle_of s.source) (handle_of s.copy)) } in
        let kept_chunks : KeepsChunks (λ ended. ended ≡ s.copy) js jo =
        copies_begin_unseen js trace (handle_of s.source) (handle_of s.copy) back.whole.chunks nowhere in
        record {
          last = jo;
          log = refl;
          orders = ap (λ (o : Table (List Placed)). orders_after trace o (CopyStarted (handle_of s.source) (handle_of s.copy))) orders_before
              ∙ sym (quiet.orders_are config servers clients w r e choice clocks ss k h moment t same (CopyStarted (handle_of s.source) (handle_of s.copy) ∷ []) s.seen);
          gone = refl;
          comes = record {
            actions = [];
            lawful = tt;
            leads = refl;
            unseen = refl;
            places = refl;
            of_master = refl;
            rounds = λ handle version spot was_open. elim (kept_chunks.rounds handle version spot was_open) [
              | inl it ↦ absurd (no_round version spot (subst (λ (q : ℕ). IsRoundOpen js q version spot) it was_open))
              | inr still ↦ inr still
            ];
            whole = record { names = back.whole.names; chunks = kept_chunks.alike; below = back.whole.below };
          };
        }

    shown : IsShownAt
    shown =
        let base : IsOfWaits w.sent w.master = sent_reached IsOfWaits waits_kept config servers clients w r in
        elim (subst (λ (x : Taken MasterState). ShowsLittle w.master x) step_is (step_shows w.master moment i choice base.base.logged base.waits)) [
          | inl none ↦ shown_nothing none
          | inr one ↦ shown_copy one
        ]

    -- names

    alike : AreAlike d.master.logged (lasting config.skew_ms greatest d.master.snapshots) taken.later h.requests
    alike = locks_go_back d.master.logged d.master.snapshots taken.later h.requests (lasts config.skew_ms greatest) taken.beside.alike

    after_it : IsNamesBeside config trace greatest w.sent d.master.logged d.master.snapshots taken.later h.requests × ((q : ℕ) → IsLeft (n.clients q) (taken.later.clients q))
    after_it = moved config trace greatest w.sent w.master.logged ss n h.requests (steps.named config servers clients w r kept e choice clocks k h is up moment timely i heard copies) d.master.logged d.master.snapshots taken.later
        taken.comes.run taken.comes.told alike taken.kept_on

    unasked : (x : Message) → IsSent (in_order choice.order d.sent) x → IsUnasked x.body
    unasked x sent =
        let there : IsSent (master_step w.master moment i choice).out.sent x = subst (λ (y : Taken MasterState). IsSent y.out.sent x) (sym step_is) sent in
        all_at (λ y. IsUnasked y.body) (master_step w.master moment i choice).out.sent there.0 x (master_asks_nothing w.master moment i choice) there.1

    named_after : IsNamesBeside config trace greatest (w.sent ++ stamped (suc (length w.sent)) (in_order choice.order d.sent)) d.master.logged d.master.snapshots taken.later h.requests
    named_after =
        says_more config trace greatest w.sent d.master.logged d.master.snapshots taken.later h.requests after_it.0 (suc (length w.sent)) (in_order choice.order d.sent)
        (λ x sent.
        let there = ordered_sent choice.order d.sent x sent in
        (told_at taken.later h.requests d.sent there.0 x taken.beside.told there.1, unasked_known d.master.logged.kept taken.later h.requests (client_number x.sender) x.body (unasked x sent)))

    pub went : Arrives config servers clients w r e choice clocks ss k h moment d.master.logged d.master.snapshots
    went = record {
      sides = shown.last;
      names = taken.later;
      log = shown.log;
      is_log = inl (up_then, sym (ap (λ (m : MasterState). m.logged) master_is));
      orders = shown.orders;
      moves = record {
        comes = both_come E start js shown.last taken.later taken.later third.comes (more_end NoneEnds E js shown.last taken.later (λ handle none. absurd none) shown.comes);
        next = subst (λ (l : Logged). start.log.next_handle ≤ l.next_handle) (sym shown.log) third.next;
        gone = λ handle s stood. third.gone handle s (ap (λ (f : ℕ → Option Spot). f handle) (sym shown.gone) ∙ stood);
      };
      granted = λ place m order handle version end_moment members from at grants.
          let was_open = open_back place m order handle version end_moment members from at (says_grant grants) in
          elim (shown.comes.rounds handle.0 version.0 was_open.0 was_open.1) [ inl none ↦ absurd none | inr still ↦ (was_open.0, still) ];
      named = quiet.named_there config servers clients w r e choice clocks ss k h moment t same d.master.logged d.master.snapshots taken.later named_after;
      left = after_it.1;
      clients_are = quiet.clients_are config servers clients w r e choice clocks ss k h moment t same;
      trace_is = quiet.trace_is config servers clients w r e choice clocks ss k h moment t same;
      greatest_is = quiet.greatest_is config servers clients w r e choice clocks ss k h moment t same;
      messages = stamped (suc (length w.sent)) t.out.sent;
      sent = quiet.sent_is config servers clients w r e choice clocks ss k h moment t same;
    }
