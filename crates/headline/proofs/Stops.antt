-- Where a step of the master stops, is lost, or changes nothing, the whole machine is beside each log that is left.
use Rattle.std.proofs.Common.{◌≡◌, ℕ, ◌+◌, ◌≤◌, Bool, false, max, List, [], ◌∷◌, refl, sym, ap, subst, ◌∙◌, inl, inr, arith}
use Rattle.std.specs.Prelude.{IsTrue}
use Rattle.gfs_types.specs.declared.config.Config.{Config}
use Rattle.messages.specs.declared.event.Event.{Event}
use Rattle.messages.specs.declared.event.NodeInput.{NodeInput}
use Rattle.messages.specs.declared.message.Message.{Message}
use Rattle.relaxed_file.specs.Machine.{Machine}
use Rattle.relaxed_file.specs.Run.{Visible}
use Rattle.protocol.specs.Tables.{element_at}
use Rattle.machine_names.specs.UnseenRuns.{IsLeft}
use Rattle.protocol.specs.Choice.{Choice, Lost, Stops, decided_changes}
use Rattle.protocol.specs.Seen.{Taken, no_step}
use Rattle.protocol.specs.Logged.{Logged, LogDisk, LogChange, log_changed, log_changed_by_all, replayed}
use Rattle.protocol.specs.Master.{MasterState, MasterDoing, PendingSnapshot, stopped_master}
use Rattle.protocol.specs.MasterStep.{master_goes, master_ends}
use Rattle.protocol.specs.World.{WorldState, IsReached, happens, after_master}
use Rattle.laws_base.proofs.Steps.{none_some}
use Rattle.laws_base.specs.Versions.{AreLeasesOver}
use Rattle.laws_base.proofs.LeasesStayOver.{reached_later}
use Rattle.laws_names.specs.Alike.{Requests, AreAlike}
use Rattle.laws_names.specs.Followed.{AreKeptOn}
use Rattle.laws_names.specs.Beside.{lasts, lasting, IsKnown, IsNamesBeside}
use Rattle.laws_names.specs.NameTrails.{log_read}
use Rattle.laws_names.proofs.BesideClientsBeside.{passed_trace, moved, relogged}
use Rattle.laws_machine.specs.ChunksAlike.{ChunkSides}
use Rattle.laws_machine.specs.MasterSteps.{IsCopy, HaveSameFiles}
use Rattle.laws_machine.specs.WholeSteps.{EndsAlong, GoesAlong, IsLeftAt}
use Rattle.laws_machine.specs.Rounds.{IsEnded, log_as}
use Rattle.laws_machine.specs.WholeWorlds.{IsBeside}
use Rattle.laws_machine.proofs.MasterNames.{more_end}
use Rattle.laws_machine.proofs.OverRounds.{over_later, rounds_that_end_are_over}
use Rattle.laws_machine.proofs.WholeStops.{stops_are_taken}
use Rattle.laws_machine.proofs.WholeLogs.{states_have_their_logs_files}
use Rattle.laws_machine.specs.MastersEvents.{AreCopiesOver}
use Rattle.headline.proofs.GoneHandles.{steps_let_go_what_stood}
use Rattle.headline.proofs.Arrivals.{passes, here, Arrives, whole_here}
use Rattle.headline.proofs.Moves.{Moves, moves_nowhere, to_log, along}
use Rattle.headline.proofs.Steps.{still_up, IsTaken}
use Rattle.laws_base.proofs.CopiesUnderWay.{no_copies}
use Rattle.laws_base.proofs.NamesLogged.{log_has_the_names, log_has_the_files}
use Rattle.laws_base.proofs.OrderNumbers.{AllStops, found_same, found_stopped}
use Rattle.laws_names.specs.FollowedSteps.{log_left}
use Rattle.machine_names.proofs.Seen.{left_same}
use Rattle.std.proofs.lemmas.List.{append-nil}
use Rattle.messages.specs.declared.event.NodeInput.TheVariants as input
use Rattle.laws_names.specs.Beside as names
use Rattle.laws_machine.specs.OverRounds as over
use Rattle.headline.proofs.Quiet as quiet
use Rattle.headline.proofs.Steps as steps
use Rattle.laws_base.proofs.ShapesTold.{log_has_the_shapes}

-- a log that gives up its copies has none
pub none_under_way : (d : LogDisk) (handle : ℕ) → IsCopy (replayed d) handle → ⊥
none_under_way d handle copy = none_some copy.0 (sym (no_copies (log_read d).copies handle) ∙ copy.1)

-- names stay as copies are given up
pub given_up_alike : (d : LogDisk) (n : Machine) (requests : Requests) → AreAlike (log_read d) [] n requests → AreAlike (replayed d) [] n requests
given_up_alike d n requests a = record { names = a.names; next = a.next; files = a.files; shapes = a.shapes; kept = a.kept; untaken = a.untaken; locks = a.locks }

-- the last of all stops
pub last_stop : (P : LogDisk → Type 0) (d : LogDisk) (xs : List LogChange) → AllStops P d xs → P (log_changed_by_all d xs)
last_stop P d [] h = h
last_stop P d (x ∷ xs) h = last_stop P (log_changed d x) xs h.1

module _ (config : Config) (servers clients : ℕ) (w : WorldState) (r : IsReached config servers clients w) (kept : IsTrue w.observer.are_clocks_kept) (e : Event) (choice : Choice) (clocks : IsTrue (happens w e choice).world.observer.are_clocks_kept)
    (k : ChunkSides) (h : IsBeside config w w.master.snapshots k) (is : k.log ≡ w.master.logged) (up : IsTrue w.master.up) (moment : ℕ) (timely : max w.observer.greatest moment ≤ moment + w.config.skew_ms)
    (i : NodeInput) (heard : (x : Message) → i ≡ input.Deliver x → names.WasSent w.sent x) (copies : AreCopiesOver w)
  where
    abbrev ss : List PendingSnapshot
    ss = w.master.snapshots

    abbrev v : WorldState
    v = (happens w e choice).world

    abbrev d : MasterDoing
    d = master_goes w.master moment i choice.refused

    abbrev trace : List Visible
    trace = passed_trace w.observer.greatest moment w.observer.trace

    abbrev greatest : ℕ
    greatest = max w.observer.greatest moment

    abbrev start : ChunkSides
    start = here config servers clients w r e choice clocks ss k h moment

    abbrev n : Machine
    n = (passes config servers clients w r e choice clocks ss k h moment).names

    abbrev on_disk : ChunkSides
    on_disk = steps.on_disk config servers clients w r kept e choice clocks k h is up moment timely i heard copies

    abbrev to_disk : Moves (IsEnded w (happens w e choice).world) start on_disk n
    to_disk = steps.to_disk config servers clients w r kept e choice clocks k h is up moment timely i heard copies

    abbrev named : IsNamesBeside config trace greatest w.sent w.master.logged ss n h.requests
    named = steps.named config servers clients w r kept e choice clocks k h is up moment timely i heard copies

    reached_then : IsReached config servers clients v
    reached_then = reached_later config servers clients w ((e, choice) ∷ []) r

    abbrev E : ℕ → Type 0
    E = IsEnded w v

    abbrev Here : Logged → List PendingSnapshot → Type 0
    Here l others = Arrives config servers clients w r e choice clocks ss k h moment l others

    -- a log that is left, without its copies
    gives_up : (x : ChunkSides) (m : Machine) (left : LogDisk) (decided : List Bool) → log_changed_by_all v.master.disk (decided_changes decided v.master.under_way) ≡ left → x.log ≡ log_read left → Moves E start x m
        → Moves E start (record x { log = replayed left }) m
    gives_up x m left decided is_left log moves =
        to_log E start x m (replayed left) moves
        (subst (λ (l : Logged). HaveSameFiles l (replayed left)) (sym log)
        (subst (λ (y : LogDisk). HaveSameFiles (log_read y) (replayed y)) is_left ((states_have_their_logs_files config servers clients v reached_then).1 (record choice { decided = decided })).0))
        (λ handle copy. absurd (none_under_way left handle copy))

    -- nothing is changed
    pub unchanged : (same : v ≡ (after_master w moment (no_step w.master)).world) → Here w.master.logged ss
    unchanged same =
        quiet.quiet config servers clients w r e choice clocks ss k h moment (no_step w.master) same refl refl w.master.logged ss start n is (inl (ap (λ (m : MasterState). m.up) (master_is same) ∙ up, sym (ap (λ (m : MasterState). m.logged) (master_is same)))) refl
        (moves_nowhere E start n (whole_here config servers clients w r e choice clocks ss k h moment)) named (λ q. left_same (n.clients q))
      where
        master_is : v ≡ (after_master w moment (no_step w.master)).world → v.master ≡ w.master
        master_is same = ap (λ (x : WorldState). x.master) same

    -- it is put down before it changed anything
    pub lost : (same : v ≡ (after_master w moment (master_ends w.master d choice Lost)).world) (decided : List Bool) → Here (log_as v.master decided) []
    lost same decided =
        let t : Taken MasterState = master_ends w.master d choice Lost in
        let master_is : v.master ≡ stopped_master w.master w.master.disk [] = ap (λ (x : WorldState). x.master) same in
        let left_is : log_changed_by_all v.master.disk (decided_changes decided v.master.under_way) ≡ w.master.disk =
        ap (λ (m : MasterState). log_changed_by_all m.disk (decided_changes decided m.under_way)) master_is ∙ found_same (λ (x : LogDisk). x ≡ w.master.disk) w.master.disk refl decided in
        let log_is : replayed w.master.disk ≡ log_as v.master decided = sym (ap replayed left_is) in
        let names = log_has_the_names config servers clients w r up in
        let down : v.master.up ≡ false = ap (λ (m : MasterState). m.up) master_is in
        let moves : Moves E start (record on_disk { log = replayed w.master.disk }) n = gives_up on_disk n w.master.disk decided left_is refl to_disk in
        subst (λ (l : Logged). Here l []) log_is
        (quiet.quiet config servers clients w r e choice clocks ss k h moment t same refl refl (replayed w.master.disk) [] (record on_disk { log = replayed w.master.disk }) n refl (inr (down, decided, log_is)) refl
        moves
        (relogged config trace greatest w.sent w.master.logged ss n h.requests named (replayed w.master.disk) names.0 names.1 (log_has_the_files config servers clients w r up) (λ file has. (log_has_the_shapes config servers clients w r up file has).0) names.4) (λ q. left_same (n.clients q)))

    -- it stops in the step

    module _ (event : over.IsMastersEvent w e moment i) (taken : IsTaken config servers clients w r kept e choice clocks k h is up moment timely i heard copies) (made : ℕ)
        (same : v ≡ (after_master w moment (master_ends w.master d choice (Stops made))).world) (decided : List Bool)
      where
        abbrev t : Taken MasterState
        t = master_ends w.master d choice (Stops made)

        abbrev left : LogDisk
        left = log_left w.master.disk d.changes made decided

        passed_clocks : IsTrue (over.passed w moment).observer.are_clocks_kept
        passed_clocks = sym (ap (λ (x : WorldState). x.observer.are_clocks_kept) same) ∙ clocks

        found : IsLeftAt h.requests n w.master.disk on_disk (EndsAlong w.master.disk d.changes) (GoesAlong w.master.disk d.changes) left
        found = stops_are_taken h.requests n w.master.disk w.master.disk d.changes on_disk n taken.later to_disk.comes.whole taken.first refl taken.trail made decided

        over_then : (handle : ℕ) → AreLeasesOver (over.passed w moment) handle → AreLeasesOver v handle
        over_then handle ended =
            let later : v.observer.greatest ≡ (over.passed w moment).observer.greatest = ap (λ (x : WorldState). x.observer.greatest) same in
            let sent : v.sent ≡ w.sent = ap (λ (x : WorldState). x.sent) same ∙ append-nil w.sent in
            over_later (over.passed w moment) v (ap (λ (x : WorldState). x.servers) same) (omega (arith, later)) (λ place m at. ap (λ (ms : List Message). element_at ms place) (sym sent) ∙ at) handle ended

        numbered : (log_read w.master.disk).next_handle ≤ found.sides.log.next_handle
        numbered = subst (λ (l : Logged). (log_read w.master.disk).next_handle ≤ l.next_handle) (sym found.log)
            (found_stopped (λ l. (log_read w.master.disk).next_handle ≤ (log_read l).next_handle) w.master.disk d.changes made taken.numbered decided)

        second : Moves E start found.sides found.names
        second =
            along E start found.sides n found.names (log_read w.master.disk) to_disk
            (more_end (EndsAlong w.master.disk d.changes) E on_disk found.sides found.names
            (λ handle ended version granted. over_then handle (rounds_that_end_are_over config servers clients w r up e moment i event passed_clocks choice handle ended) version) found.comes)
            numbered (steps_let_go_what_stood config servers clients w r kept up moment i choice.refused k found.sides is found.gone)

        master_is : v.master ≡ t.state
        master_is = ap (λ (x : WorldState). x.master) same

        left_is : log_changed_by_all v.master.disk (decided_changes decided v.master.under_way) ≡ left
        left_is = ap (λ (m : MasterState). log_changed_by_all m.disk (decided_changes decided m.under_way)) master_is

        third : Moves E start (record found.sides { log = replayed left }) found.names
        third = gives_up found.sides found.names left decided left_is found.log second

        kept_on : AreKeptOn h.requests w.master.logged.kept (replayed left).kept
        kept_on = subst (λ x. AreKeptOn h.requests x (replayed left).kept) (sym (log_has_the_names config servers clients w r up).4) found.beside.kept_on

        after_it : IsNamesBeside config trace greatest w.sent (replayed left) [] found.names h.requests × ((q : ℕ) → IsLeft (n.clients q) (found.names.clients q))
        after_it = moved config trace greatest w.sent w.master.logged ss n h.requests named (replayed left) [] found.names found.beside.comes.run found.beside.comes.told
            (given_up_alike left found.names h.requests found.beside.alike) kept_on

        pub stops : Here (log_as v.master decided) []
        stops =
            subst (λ (l : Logged). Here l []) (sym (ap replayed left_is))
            (quiet.quiet config servers clients w r e choice clocks ss k h moment t same refl refl (replayed left) [] (record found.sides { log = replayed left }) found.names refl
            (inr (ap (λ (m : MasterState). m.up) master_is, decided, sym (ap replayed left_is))) found.orders
            third after_it.0 after_it.1)
