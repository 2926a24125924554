-- A restart of the master: the whole machine is beside what it opens, and beside each log that it leaves.
use Rattle.std.proofs.Common.{◌≡◌, ℕ, Bool, false, max, List, [], ◌∷◌, refl, sym, ap, subst, ◌∙◌, inl, inr, arith, suc, ◌≤◌, true, length, take, drop}
use Rattle.std.specs.Prelude.{IsTrue}
use Rattle.gfs_types.specs.declared.config.Config.{Config}
use Rattle.messages.specs.declared.event.Event.{Event}
use Rattle.relaxed_file.specs.Machine.{Machine}
use Rattle.relaxed_file.specs.Run.{Visible}
use Rattle.protocol.specs.Choice.{Choice, decided_changes}
use Rattle.protocol.specs.Seen.{Taken}
use Rattle.protocol.specs.Logged.{Logged, LogDisk, log_changed_by_all, replayed, LogChange}
use Rattle.protocol.specs.Master.{MasterState, MasterDoing, PendingSnapshot, master_begins}
use Rattle.protocol.specs.MasterStep.{found_log, started_master}
use Rattle.protocol.specs.World.{WorldState, IsReached, happens, after_master}
use Rattle.laws_base.proofs.LeasesStayOver.{reached_later}
use Rattle.laws_names.specs.Beside.{lasts, IsNamesBeside}
use Rattle.laws_names.specs.NameTrails.{log_read, IsBesideLog, NameTrail}
use Rattle.laws_names.proofs.BesideClientsBeside.{passed_trace, moved, relogged}
use Rattle.laws_machine.specs.ChunksAlike.{ChunkSides}
use Rattle.laws_machine.specs.MasterSteps.{Comes, AreGoneBy, HaveSameFiles, WholeTrail}
use Rattle.laws_machine.specs.MastersEvents.{AreCopiesOver}
use Rattle.laws_machine.specs.WholeSteps.{EndsAlong, GoesAlong, IsLeftAt}
use Rattle.laws_machine.specs.Rounds.{IsEnded, log_as}
use Rattle.laws_machine.specs.WholeWorlds.{IsBeside}
use Rattle.laws_machine.proofs.EndedRounds.{ended_before}
use Rattle.laws_machine.proofs.MasterNames.{more_end}
use Rattle.laws_machine.proofs.WholeLogs.{states_have_their_logs_files, opening_dues, restarts_are_taken}
use Rattle.laws_machine.proofs.WholeSteps.{all_numbered}
use Rattle.headline.proofs.GoneHandles.{openings_let_nothing_go}
use Rattle.headline.proofs.Arrivals.{passes, here, Arrives, whole_here}
use Rattle.headline.proofs.Moves.{Moves, moves_nowhere, to_log, along}
use Rattle.laws_base.proofs.NamesLogged.{log_has_the_names, log_has_the_files}
use Rattle.laws_base.proofs.OrderNumbers.{AllStops, found_same, found_stopped}
use Rattle.laws_names.specs.FollowedSteps.{log_left, opened}
use Rattle.machine_names.proofs.Seen.{left_same}
use Rattle.std.proofs.lemmas.List.{take_all, drop_all}
use Rattle.laws_base.proofs.MasterMoves.{logs_alone}
use Rattle.laws_base.proofs.CountsLogged.{IsFoundCounts, IsCountedLog}
use Rattle.laws_base.proofs.CountsKept.{counts_kept}
use Rattle.laws_base.proofs.NamesReached.{logged_here, opening_naming}
use Rattle.laws_versions.proofs.CopiedOrders.{copies_under_way_are_not_granted}
use Rattle.laws_names.proofs.LocksAndFiles.{locks_go_back}
use Rattle.laws_names.proofs.Moves.{stays}
use Rattle.laws_names.proofs.Openings.{restarts_are_followed, restarts_go_by_records}
use Rattle.laws_machine.proofs.WholeStops.{stops_are_taken, ends_are_reached}
use Rattle.laws_machine.proofs.WholeRestarts.{openings_end_no_round}
use Rattle.headline.proofs.Stops.{none_under_way, given_up_alike, last_stop}
use Rattle.headline.proofs.Quiet as quiet
use Rattle.std.specs.FinMap as table
use Rattle.log_records.specs.declared.record.Record.TheVariants as log
use Rattle.laws_machine.proofs.OpenRounds.{ungranted_is_over}
use Rattle.laws_base.proofs.ShapesTold.{log_has_the_shapes}

module _ (config : Config) (servers clients : ℕ) (w : WorldState) (r : IsReached config servers clients w) (e : Event) (choice : Choice) (clocks : IsTrue (happens w e choice).world.observer.are_clocks_kept)
    (ss : List PendingSnapshot) (k : ChunkSides) (h : IsBeside config w ss k) (moment : ℕ) (copies : AreCopiesOver w) (decided0 : List Bool)
  where
    abbrev v : WorldState
    v = (happens w e choice).world

    abbrev trace : List Visible
    trace = passed_trace w.observer.greatest moment w.observer.trace

    abbrev greatest : ℕ
    greatest = max w.observer.greatest moment

    abbrev start : ChunkSides
    start = here config servers clients w r e choice clocks ss k h moment

    abbrev n : Machine
    n = (passes config servers clients w r e choice clocks ss k h moment).names

    abbrev E : ℕ → Type 0
    E = IsEnded w v

    abbrev found : LogDisk
    found = log_changed_by_all w.master.disk (decided_changes decided0 w.master.under_way)

    abbrev pub on_found : ChunkSides
    on_found = record start { log = log_read found }

    abbrev pub Named : LogDisk → Type 0
    Named d = IsNamesBeside config trace greatest w.sent (replayed d) [] n h.requests

    -- from the state of a master that is up
    module _ (up : IsTrue w.master.up) (is : k.log ≡ w.master.logged) where
      idle : w.master.under_way ≡ []
      idle = ((logged_here IsFoundCounts IsCountedLog counts_kept config servers clients w r).1.up up).idle

      found_is : found ≡ w.master.disk
      found_is = ap (λ (xs : List LogChange). log_changed_by_all w.master.disk (decided_changes decided0 xs)) idle ∙ found_same (λ (d : LogDisk). d ≡ w.master.disk) w.master.disk refl decided0

      pub up_found : HaveSameFiles k.log (log_read found)
      up_found =
          subst (λ (d : LogDisk). HaveSameFiles k.log (log_read d)) (sym found_is)
          (subst (λ (l : Logged). HaveSameFiles l (log_read w.master.disk)) (sym is) ((states_have_their_logs_files config servers clients w r).0 up).0)

      pub up_named : Named found
      up_named =
          let here_named : IsNamesBeside config trace greatest w.sent w.master.logged ss n h.requests =
          subst (λ (l : Logged). IsNamesBeside config trace greatest w.sent l ss n h.requests) is (passes config servers clients w r e choice clocks ss k h moment).named in
          let names = log_has_the_names config servers clients w r up in
          subst Named (sym found_is)
          (relogged config trace greatest w.sent w.master.logged ss n h.requests here_named (replayed w.master.disk) names.0 names.1 (log_has_the_files config servers clients w r up) (λ file has. (log_has_the_shapes config servers clients w r up file has).0) names.4)

    -- from a log of one that is down
    module _ (is : k.log ≡ replayed found) (none : ss ≡ []) where
      pub down_found : HaveSameFiles k.log (log_read found)
      down_found = subst (λ (l : Logged). HaveSameFiles l (log_read found)) (sym is) ((states_have_their_logs_files config servers clients w r).1 (record choice { decided = decided0 })).1

      pub down_named : Named found
      down_named =
          subst (λ (l : Logged). IsNamesBeside config trace greatest w.sent l [] n h.requests) is
          (subst (λ (xs : List PendingSnapshot). IsNamesBeside config trace greatest w.sent k.log xs n h.requests) none (passes config servers clients w r e choice clocks ss k h moment).named)

    -- on from there

    module _ (same_files : HaveSameFiles k.log (log_read found)) (named : Named found) where
      to_found : Moves E start on_found n
      to_found =
          to_log E start start n (log_read found) (moves_nowhere E start n (whole_here config servers clients w r e choice clocks ss k h moment)) same_files
          (λ handle copy. ended_before config servers clients w r e choice clocks handle (copies decided0 handle copy))

      reached_then : IsReached config servers clients v
      reached_then = reached_later config servers clients w ((e, choice) ∷ []) r

      abbrev Here : Logged → List PendingSnapshot → Type 0
      Here l others = Arrives config servers clients w r e choice clocks ss k h moment l others

      gives_up : (x : ChunkSides) (m : Machine) (left : LogDisk) (decided : List Bool) → log_changed_by_all v.master.disk (decided_changes decided v.master.under_way) ≡ left → x.log ≡ log_read left → Moves E start x m
          → Moves E start (record x { log = replayed left }) m
      gives_up x m left decided is_left log moves =
          to_log E start x m (replayed left) moves
          (subst (λ (l : Logged). HaveSameFiles l (replayed left)) (sym log)
          (subst (λ (y : LogDisk). HaveSameFiles (log_read y) (replayed y)) is_left ((states_have_their_logs_files config servers clients v reached_then).1 (record choice { decided = decided })).0))
          (λ handle copy. absurd (none_under_way left handle copy))

      -- down again, before it opened
      pub lost : (t : Taken MasterState) → v ≡ (after_master w moment t).world → t.out.sent ≡ [] → t.seen ≡ [] → v.master.up ≡ false → log_changed_by_all v.master.disk (decided_changes decided0 v.master.under_way) ≡ found → Here (log_as v.master decided0) []
      lost t same silent unseen down left_is =
          subst (λ (l : Logged). Here l []) (sym (ap replayed left_is))
          (quiet.quiet config servers clients w r e choice clocks ss k h moment t same silent unseen (replayed found) [] (record on_found { log = replayed found }) n refl (inr (down, decided0, sym (ap replayed left_is))) refl
          (gives_up on_found n found decided0 left_is refl to_found) named (λ q. left_same (n.clients q)))

      -- it opens

      module _ (decided_is : decided0 ≡ choice.decided) (t : Taken MasterState) (same : v ≡ (after_master w moment t).world) (silent : t.out.sent ≡ []) (unseen : t.seen ≡ []) where
        abbrev d : MasterDoing
        d = opened w.master moment choice

        same_found : found ≡ found_log w.master choice
        same_found = ap (λ (xs : List Bool). log_changed_by_all w.master.disk (decided_changes xs w.master.under_way)) decided_is

        abbrev log_found : LogDisk
        log_found = found_log w.master choice

        abbrev opening_at : ChunkSides
        opening_at = record start { log = log_read log_found }

        at_found : Moves E start opening_at n
        at_found = subst (λ (y : LogDisk). Moves E start (record start { log = log_read y }) n) same_found to_found

        named_found : Named log_found
        named_found = subst Named same_found named

        trail : WholeTrail h.requests n log_found log_found opening_at d.changes n
        trail = restarts_are_taken config servers clients w r moment choice n h.requests opening_at named_found.alike refl at_found.comes.whole

        by_records : IsBesideLog h.requests n log_found log_found n × NameTrail h.requests n log_found log_found n d.changes n
        by_records = restarts_go_by_records config servers clients w r moment choice n h.requests named_found.alike

        numbered : AllStops (λ l. (log_read log_found).next_handle ≤ (log_read l).next_handle) log_found d.changes
        numbered = all_numbered h.requests n log_found n d.changes log_found n (log_read log_found).next_handle (omega arith) by_records.1 (opening_dues config servers clients w r moment choice)

        -- on from what was found
        goes_on : (x : ChunkSides) (m : Machine) → Comes (EndsAlong log_found d.changes) opening_at x m → AreGoneBy (GoesAlong log_found d.changes) opening_at x → (log_read log_found).next_handle ≤ x.log.next_handle → Moves E start x m
        goes_on x m comes gone more =
            along E start x n m (log_read log_found) at_found
            (more_end (EndsAlong log_found d.changes) E opening_at x m (λ handle ended. absurd (openings_end_no_round w.master moment choice handle ended)) comes)
            more (openings_let_nothing_go w.master moment choice k x gone)

        abbrev started : MasterState
        started = started_master w.master.config w.master.server_count log_found moment

        disk_is : log_changed_by_all log_found d.changes ≡ d.master.disk
        disk_is =
            let known = logged_here IsFoundCounts IsCountedLog counts_kept config servers clients w r in
            (opening_naming IsFoundCounts IsCountedLog counts_kept w.master.config w.master.server_count log_found moment (known.1.found choice.decided) (known.0.found choice.decided)).0.disk

        -- each log that is left
        pub left_at : (made : ℕ) (decided : List Bool) → v.master.up ≡ false → log_changed_by_all v.master.disk (decided_changes decided v.master.under_way) ≡ log_left log_found d.changes made decided → Here (log_as v.master decided) []
        left_at made decided down left_is =
            let left : LogDisk = log_left log_found d.changes made decided in
            let found_left : IsLeftAt h.requests n log_found opening_at (EndsAlong log_found d.changes) (GoesAlong log_found d.changes) left =
            stops_are_taken h.requests n log_found log_found d.changes opening_at n n at_found.comes.whole by_records.0 refl trail made decided in
            let second : Moves E start found_left.sides found_left.names =
            goes_on found_left.sides found_left.names found_left.comes found_left.gone
            (subst (λ (l : Logged). (log_read log_found).next_handle ≤ l.next_handle) (sym found_left.log)
            (found_stopped (λ l. (log_read log_found).next_handle ≤ (log_read l).next_handle) log_found d.changes made numbered decided)) in
            let third : Moves E start (record found_left.sides { log = replayed left }) found_left.names = gives_up found_left.sides found_left.names left decided left_is found_left.log second in
            let after_it = moved config trace greatest w.sent (replayed log_found) [] n h.requests named_found (replayed left) [] found_left.names found_left.beside.comes.run found_left.beside.comes.told
            (given_up_alike left found_left.names h.requests found_left.beside.alike) found_left.beside.kept_on in
            subst (λ (l : Logged). Here l []) (sym (ap replayed left_is))
            (quiet.quiet config servers clients w r e choice clocks ss k h moment t same silent unseen (replayed left) [] (record found_left.sides { log = replayed left }) found_left.names refl
            (inr (down, decided, sym (ap replayed left_is))) found_left.orders
            third after_it.0 after_it.1)

        -- the whole opening is on the disk, and the master is put down
        pub shut : (decided : List Bool) → v.master.up ≡ false → v.master.disk ≡ d.master.disk → v.master.under_way ≡ [] → Here (log_as v.master decided) []
        shut decided down is_disk is_idle =
            left_at (length d.changes) decided down
            (ap (λ (y : LogDisk). log_changed_by_all y (decided_changes decided v.master.under_way)) (is_disk ∙ sym all_made)
            ∙ ap (λ (xs : List LogChange). log_changed_by_all (log_changed_by_all log_found (take (length d.changes) d.changes)) (decided_changes decided xs)) (is_idle ∙ sym none_left))
          where
            all_made : log_changed_by_all log_found (take (length d.changes) d.changes) ≡ d.master.disk
            all_made = ap (λ (ys : List LogChange). log_changed_by_all log_found ys) (take_all (length d.changes) d.changes (omega arith)) ∙ disk_is

            none_left : take 1 (drop (length d.changes) d.changes) ≡ []
            none_left = ap (λ (ys : List LogChange). take 1 ys) (drop_all (length d.changes) d.changes (omega arith))

        -- the master is up

        pub open_up : d.master.up ≡ true
        open_up = logs_alone (λ x. x.master.up ≡ true) (master_begins started []) (log.Epoch (suc started.logged.epoch)) refl refl refl refl

        pub running : v.master ≡ d.master → Here d.master.logged d.master.snapshots
        running master_is =
            let up_then : v.master.up ≡ true = ap (λ (m : MasterState). m.up) master_is ∙ open_up in
            let end = ends_are_reached h.requests n log_found log_found d.changes opening_at n n at_found.comes.whole refl trail in
            let j : ChunkSides = end.0 in
            let second : Moves E start j n =
            goes_on j n end.3 end.5 (subst (λ (l : Logged). (log_read log_found).next_handle ≤ l.next_handle) (sym end.1) (last_stop (λ l. (log_read log_found).next_handle ≤ (log_read l).next_handle) log_found d.changes numbered)) in
            let files : HaveSameFiles (log_read d.master.disk) d.master.logged = subst (λ (m : MasterState). HaveSameFiles (log_read m.disk) m.logged) master_is ((states_have_their_logs_files config servers clients v reached_then).0 up_then).1 in
            let third : Moves E start (record j { log = d.master.logged }) n =
            to_log E start j n d.master.logged second (subst (λ (l : Logged). HaveSameFiles l d.master.logged) (sym (end.1 ∙ ap log_read disk_is)) files)
            (λ handle copy version granted.
            ungranted_is_over config servers clients v reached_then handle version
            ((copies_under_way_are_not_granted config servers clients v reached_then clocks up_then handle copy.0 (ap (λ (m : MasterState). table.get m.logged.copies handle) master_is ∙ copy.1)).granted version)) in
            let f = restarts_are_followed config servers clients w r moment choice n h.requests named_found.alike in
            let alike = locks_go_back d.master.logged d.master.snapshots n h.requests (lasts config.skew_ms greatest) f.0 in
            let after_it = moved config trace greatest w.sent (replayed log_found) [] n h.requests named_found d.master.logged d.master.snapshots n (stays n) (λ x told. told) alike f.1 in
            quiet.quiet config servers clients w r e choice clocks ss k h moment t same silent unseen d.master.logged d.master.snapshots (record j { log = d.master.logged }) n refl
            (inl (up_then, sym (ap (λ (m : MasterState). m.logged) master_is))) end.2
            third after_it.0 after_it.1
