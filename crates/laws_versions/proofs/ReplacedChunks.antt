-- In each reached world whose clocks were kept, a chunk that was told with a granted round stands at its place still, or its file is gone, or the lease of the told round is over.
use Rattle.std.proofs.Common.{◌≡◌, ◌⊎◌, ℕ, suc, ◌≤◌, ◌<◌, Bool, true, false, List, [], ◌∷◌, ◌++◌, length, Option, Some, None, is_some, refl, sym, ap, subst, ◌∙◌, inl, inr, arith}
use Rattle.std.specs.Prelude.{nat_lt, unwrap_or, IsTrue}
use Rattle.std.specs.FinMap as table
use Rattle.std.proofs.lemmas.Bool.{ltb-true, ltb-false}
use Rattle.gfs_types.specs.declared.config.Config.{Config}
use Rattle.messages.specs.declared.event.Event.{Event}
use Rattle.messages.specs.declared.event.NodeInput.{NodeInput}
use Rattle.messages.specs.declared.message.Message.{Message}
use Rattle.messages.specs.declared.message.Location.{Location}
use Rattle.chunk_table.specs.ChunkTable.{ChunkRow}
use Rattle.protocol.specs.Tables.{element_at}
use Rattle.protocol.specs.Sending.{order_number}
use Rattle.protocol.specs.Choice.{Choice}
use Rattle.protocol.specs.Logged.{Logged, Copy, LogChange}
use Rattle.protocol.specs.MasterStep.{master_goes, master_step, master_restart}
use Rattle.protocol.specs.ServerStep.{server_step, server_restart}
use Rattle.protocol.specs.ClientStep.{client_step, client_call}
use Rattle.protocol.specs.World.{WorldState, Happened, new_world, stamped, happens, after_events, IsReached}
use Rattle.laws_base.specs.Laws.{is_grant, grants_of}
use Rattle.laws_base.proofs.Steps.{none_some, same_some, tally, count-cons}
use Rattle.laws_base.proofs.Entries.{AllOf}
use Rattle.laws_base.proofs.FilesNamed.{Files}
use Rattle.laws_base.proofs.Owners.{chunks_at}
use Rattle.laws_base.proofs.CountsLogged.{files_below}
use Rattle.laws_base.proofs.LoggedParts.{Parts}
use Rattle.laws_base.proofs.GrantsOnce.{row_below, no_order_grants}
use Rattle.laws_base.proofs.MembersRecorded.{place_below}
use Rattle.laws_base.proofs.ClientMoves.{HasNoOrder, quiet_orders, client_quiet, call_quiet}
use Rattle.laws_base.proofs.SentReached.{without_order, count-sent, server_quiet, server_restarts_quiet, sent_reached}
use Rattle.laws_base.proofs.OrderNumbers.{state_of, AllFound, found_same}
use Rattle.laws_base.proofs.NamesReached.{IsUpToLog}
use Rattle.laws_base.proofs.RowsLogged.{IsFoundRows, IsRowedLog}
use Rattle.laws_base.proofs.RowsKept.{rows_kept}
use Rattle.laws_base.proofs.Events.{HoldsAfter, holds_after}
use Rattle.laws_base.specs.Versions.{IsLeaseOver, AreLeasesOver}
use Rattle.laws_base.proofs.LeasesStayOver.{reached_later, over_later}
use Rattle.laws_base.proofs.WaitsKept.{IsOfWaits, waits_kept}
use Rattle.laws_base.proofs.IssuedNumbers.{IsPassed, IsLogPassed, passed_same}
use Rattle.laws_versions.proofs.ClosedVersions.{clocks_before}
use Rattle.laws_base.proofs.Histories.{IsGrown, steps_grown, SentIn, sent_in, stood_before, after_both}
use Rattle.laws_versions.proofs.ExtendLaws.{restart_silent}
use Rattle.laws_base.proofs.GrantsFollow.{GrantsAbove, HasPassed, step_passed, restart_passed}
use Rattle.laws_base.proofs.SentGrants.{above_grants}
use Rattle.laws_versions.proofs.AskedSteps.{StandsAt, IsToldOf, IsNoGrant}
use Rattle.laws_versions.proofs.CopiedSources.{IsNoStart, asked_or_not, unasked_step, asked_step, free_reached, copied_chunks_have_no_lease}
use Rattle.laws_versions.specs.ReplacedChunks.{IsToldAt, ToldChunksStandOrAreOver, ReplacedChunksHaveNoLease}
use Rattle.laws_versions.proofs.PlacesKept.{IsSourceOf, IsPlaceKept, IsLogKept, place_same, ArePlacesKept, step_places, restart_places}
use Rattle.laws_versions.proofs.ToldAnswers.{WasToldIn, told_now, was_told_in}

-- of a number that the master has passed no Grant is sent

module _ (handle version : ℕ) where
  none_granted : (P : Message → Type 0) → ((m : Message) → P m → is_grant handle version m.body ≡ false) → (ms : List Message) → AllOf P ms → grants_of handle version ms ≡ 0
  none_granted P go [] all = refl
  none_granted P go (m ∷ ms) all =
      let whole = count-cons (λ (x : Message). is_grant handle version x.body) m ms in
      let one = ap tally (go m all.0) in
      let rest = none_granted P go ms all.1 in
      omega (arith, whole, one, rest)

  no_more : (sent ms : List Message) (k : ℕ) → grants_of handle version ms ≡ 0 → grants_of handle version (sent ++ stamped k ms) ≤ grants_of handle version sent
  no_more sent ms k none = let whole = count-sent (λ b. is_grant handle version b) k sent [] ms in omega (arith, whole, none)

  quiet_more : (sent ms : List Message) (k : ℕ) → HasNoOrder ms → grants_of handle version (sent ++ stamped k ms) ≤ grants_of handle version sent
  quiet_more sent ms k quiet = no_more sent ms k (none_granted (λ m. order_number m.body ≡ None) (λ m none. no_order_grants handle version m.body none) ms (without_order ms quiet))

-- one event of a reached world

module _ (config : Config) (servers clients : ℕ) (w : WorldState) (r : IsReached config servers clients w) where
  base : IsOfWaits w.sent w.master
  base = sent_reached IsOfWaits waits_kept config servers clients w r

  module _ (handle version : ℕ) (passed : HasPassed handle version w.master) where
    pub each_passed : HoldsAfter w (λ e x. HasPassed handle version x.world.master × (grants_of handle version x.world.sent ≤ grants_of handle version w.sent))
    each_passed =
        let k : ℕ = suc (length w.sent) in
        record {
          nothing = λ e. (passed, omega arith);
          masters = λ e moment i choice is up.
              let after = step_passed handle version w.master moment i choice base.base.logged base.waits passed in
              (after.1, no_more handle version w.sent (master_step w.master moment i choice).out.sent k (none_granted handle version (λ m. GrantsAbove handle version m.body) (λ m above. above_grants handle version m.body above) (master_step w.master moment i choice).out.sent after.0));
          opens = λ e moment choice. (
            restart_passed handle version w.master moment choice base.base.issued base.base.logged passed,
            no_more handle version w.sent (master_restart w.master moment choice).out.sent k (ap (λ (ms : List Message). grants_of handle version ms) (restart_silent w.master moment choice)),
          );
          serves = λ e index moment s i choice at is up. (passed, quiet_more handle version w.sent (server_step s moment i choice).out.sent k (server_quiet s moment i choice));
          restarts = λ e index moment s choice at. (passed, quiet_more handle version w.sent (server_restart s moment choice).out.sent k (server_restarts_quiet s moment choice choice.ending));
          steps = λ e index moment s i choice at is up. (passed, quiet_more handle version w.sent (client_step s moment i choice).out.sent k (quiet_orders (client_step s moment i choice).out.sent (client_quiet s moment i choice)));
          calls = λ e index moment s c choice at may. (passed, quiet_more handle version w.sent (client_call s moment c choice).out.sent k (quiet_orders (client_call s moment c choice).out.sent (call_quiet s moment c choice)));
          rots = λ e index q s x place byte ending is_kept at there up. (passed, omega arith);
        }

  -- the place stays, or the chunk was being copied, so that its leases are over
  module _ (file index handle : ℕ) (clocks : IsTrue w.observer.are_clocks_kept) (places : ArePlacesKept file index handle w.master) where
    source_over : IsTrue w.master.up → IsSourceOf w.master.logged handle → AreLeasesOver w handle
    source_over up source version = subst (λ (n : ℕ). IsLeaseOver w n version) source.3 ((copied_chunks_have_no_lease config servers clients w r clocks up source.0 source.1 source.2).1 version)

    kind : (moment : ℕ) (i : NodeInput) (choice : Choice) → IsTrue w.master.up → AllOf IsNoGrant (master_goes w.master moment i choice.refused).changes ⊎ AllOf IsNoStart (master_goes w.master moment i choice.refused).changes
    kind moment i choice up =
        elim (asked_or_not i) [
          | inl none ↦ inr (unasked_step config servers clients w r clocks up (free_reached config servers clients w r clocks up) moment i choice.refused none).changes
          | inr ask ↦ inl (asked_step config servers clients w r clocks up (free_reached config servers clients w r clocks up) moment i choice.refused ask).changes
        ]

    each_placed : HoldsAfter w (λ e x. ArePlacesKept file index handle x.world.master ⊎ AreLeasesOver w handle)
    each_placed =
        record {
          nothing = λ e. inl places;
          masters = λ e moment i choice is up. elim (step_places file index handle w.master moment i choice base.base.logged base.waits up (kind moment i choice up) places) [
            | inl kept ↦ inl kept
            | inr source ↦ inr (source_over up source)
          ];
          opens = λ e moment choice. inl (restart_places file index handle w.master moment choice base.base.issued base.base.logged places);
          serves = λ e at moment s i choice there is up. inl places;
          restarts = λ e at moment s choice there. inl places;
          steps = λ e at moment s i choice there is up. inl places;
          calls = λ e at moment s c choice there may. inl places;
          rots = λ e at q s x place byte ending is_kept there held up. inl places;
        }

-- a chunk whose number the master has passed, at its place; or its lease is over
module _ (file index handle version : ℕ) where
  record IsTracked (w : WorldState) : Type 0 where
    passed : HasPassed handle version w.master
    kept : IsTrue w.observer.are_clocks_kept → IsLeaseOver w handle version ⊎ ArePlacesKept file index handle w.master

  tracked_next : (config : Config) (servers clients : ℕ) (w : WorldState) → IsReached config servers clients w → (step : Event × Choice) → IsTracked w → IsTracked (happens w step.0 step.1).world × (grants_of handle version (happens w step.0 step.1).world.sent ≤ grants_of handle version w.sent)
  tracked_next config servers clients w r step h =
      let x : Happened = happens w step.0 step.1 in
      let after = holds_after w (λ e y. HasPassed handle version y.world.master × (grants_of handle version y.world.sent ≤ grants_of handle version w.sent)) (each_passed config servers clients w r handle version h.passed) step.0 step.1 in (
        record {
          passed = after.0;
          kept = λ clocks.
              let before = clocks_before w (step ∷ []) clocks in
              elim (h.kept before) [
                | inl over ↦ inl (over_later config servers clients w r handle version over (step ∷ []) clocks after.1)
                | inr places ↦ elim (holds_after w (λ e y. ArePlacesKept file index handle y.world.master ⊎ AreLeasesOver w handle) (each_placed config servers clients w r file index handle before places) step.0 step.1) [
                  | inl stays ↦ inr stays
                  | inr over ↦ inl (over_later config servers clients w r handle version (over version) (step ∷ []) clocks after.1)
                ]
              ];
        },
        after.1,
      )

  tracked_on : (config : Config) (servers clients : ℕ) (w : WorldState) → IsReached config servers clients w → (steps : List (Event × Choice)) → IsTracked w → IsTracked (after_events w steps) × (grants_of handle version (after_events w steps).sent ≤ grants_of handle version w.sent)
  tracked_on config servers clients w r [] h = (h, omega arith)
  tracked_on config servers clients w r (step ∷ rest) h =
      let one = tracked_next config servers clients w r step h in
      let all = tracked_on config servers clients (happens w step.0 step.1).world (reached_later config servers clients w (step ∷ []) r) rest one.0 in
      (all.0, let low = one.1 in let less = all.1 in omega (arith, low, less))

-- where it was told, it is at its place

pub stood_file : (files : Files) (file index handle : ℕ) → StandsAt files file index handle → table.contains_key files file ≡ true
stood_file files file index handle stands = by_file (table.get files file) refl
  where
    by_file : (o : Option (List ℕ)) → table.get files file ≡ o → table.contains_key files file ≡ true
    by_file None is = none_some handle (sym (ap (λ (o : Option (List ℕ)). element_at (unwrap_or o []) index) is) ∙ stands)
    by_file (Some hs) is = ap is_some is

told_tracked : (config : Config) (servers clients : ℕ) (w : WorldState) → IsReached config servers clients w → IsTrue w.master.up → (file : ℕ) (l : Location) → IsToldOf w.master.logged file l → IsTracked file l.index l.handle.0 l.round.0 w
told_tracked config servers clients w r up file l told =
    record {
      passed = record {
        found = subst (λ (xs : List LogChange). AllFound (IsLogPassed handle version) w.master.disk xs) (sym u.idle) (found_same (IsLogPassed handle version) w.master.disk (passed_same handle version m k (u.tied.same handle (by_copies (table.get m.copies handle) refl (table.get k.copies handle) refl)) (ap (λ (p : Parts). p.next_handle) u.same) state));
        up = λ _. (state, λ row is a at. let low = (u.ready.ahead.ahead handle a at).1 row is in let same = ap (λ (x : ChunkRow). x.granted) (same_some row told.row (sym is ∙ told.at)) in let round = told.granted in omega (arith, low, same, round));
      };
      kept = λ _. inr (record {
        found = subst (λ (xs : List LogChange). AllFound (IsLogKept file l.index handle) w.master.disk xs) (sym u.idle) (found_same (IsLogKept file l.index handle) w.master.disk (place_same file l.index handle m k u.tied.base.base.files (ap (λ (p : Parts). p.next_file) u.same) place));
        up = λ _. place;
      });
    }
  where
    handle : ℕ
    handle = l.handle.0

    version : ℕ
    version = l.round.0

    m : Logged
    m = w.master.logged

    k : Logged
    k = state_of w.master.disk

    u : IsUpToLog IsFoundRows IsRowedLog rows_kept w.master
    u = (sent_reached IsOfWaits waits_kept config servers clients w r).base.logged.up up

    state : IsPassed handle version m
    state = (
      row_below m k u.same u.tied handle told.row told.at,
      λ row is.
          let same = same_some row told.row (sym is ∙ told.at) in
          let low = u.ready.ahead.issued handle row is in
          let granted = ap (λ (x : ChunkRow). x.granted) same in
          let round = told.granted in
          omega (arith, low, granted, round),
    )

    place : IsPlaceKept file l.index handle m
    place = (files_below m u.tied.base.base.here file (stood_file m.table.files file l.index handle told.stood), inl told.stood)

    by_copies : (o : Option Copy) → table.get m.copies handle ≡ o → (p : Option Copy) → table.get k.copies handle ≡ p → table.get m.copies handle ≡ table.get k.copies handle
    by_copies (Some c) is p also = is ∙ sym (u.tied.base.base.among handle c is)
    by_copies None is None also = is ∙ sym also
    by_copies None is (Some c) also = none_some told.row (sym (u.tied.base.base.alone handle c also is) ∙ told.at)

-- clocks were kept in each world before
pub kept_before : (w : WorldState) → IsTrue w.observer.are_clocks_kept → (v : WorldState) (steps : List (Event × Choice)) → after_events v steps ≡ w → IsTrue v.observer.are_clocks_kept
kept_before w clocks v steps path = clocks_before v steps (subst (λ (x : WorldState). IsTrue x.observer.are_clocks_kept) (sym path) clocks)

tracked_of : (config : Config) (servers clients : ℕ) (w : WorldState) → IsReached config servers clients w → IsTrue w.observer.are_clocks_kept → (v : WorldState) → IsReached config servers clients v → (more : List (Event × Choice)) → after_events v more ≡ w
    → (client file : ℕ) (l : Location) (place : ℕ) (t : IsToldAt w.sent client file l place) → element_at v.sent place ≡ Some t.told → IsTracked file l.index l.handle.0 l.round.0 v
tracked_of config servers clients w r clocks v there more to client file l place t at =
    let was : WasToldIn config servers clients v file l place = was_told_in config servers clients w r (kept_before w clocks) v there more to client file l place t at in
    subst (λ (x : WorldState). IsTracked file l.index l.handle.0 l.round.0 x) was.rest
    (tracked_on file l.index l.handle.0 l.round.0 config servers clients was.before was.reached was.steps (told_tracked config servers clients was.before was.reached was.up file l was.told)).0

pub told_chunks_stand_or_are_over : ToldChunksStandOrAreOver
told_chunks_stand_or_are_over config servers clients w r clocks client file l place t =
    elim ((tracked_of config servers clients w r clocks w r [] refl client file l place t t.sent_is).kept clocks) [
      | inl over ↦ inl over
      | inr places ↦ inr ((places.found []).1, λ up. (places.up up).1)
    ]

-- Two locations of one place in a file, in worlds that lead to this one: from the world on that the second was told in, the first one's lease is over.
module _ (config : Config) (servers clients : ℕ) (w : WorldState) (r : IsReached config servers clients w) (clocks : IsTrue w.observer.are_clocks_kept) (client other file : ℕ) (l k : Location) (place later : ℕ) (first : IsToldAt w.sent client file l place)
    (second : IsToldAt w.sent other file k later) (earlier : place < later) (same_index : l.index ≡ k.index) (apart : l.handle.0 ≡ k.handle.0 → ⊥) where
  pub replaced_from : (v : WorldState) → IsReached config servers clients v → (more : List (Event × Choice)) → after_events v more ≡ w → element_at v.sent later ≡ Some second.told
      → (steps rest : List (Event × Choice)) → after_events (after_events v steps) rest ≡ w → IsLeaseOver (after_events v steps) l.handle.0 l.round.0
  replaced_from v there more to at steps rest ends = by_place (nat_lt place (length u.sent)) refl
    where
      start : WorldState
      start = new_world config servers clients

      h : SentIn start there.0 later second.told
      h = sent_in start there.0 later second.told (omega arith) (ap (λ (x : WorldState). element_at x.sent later) there.1 ∙ at)

      u : WorldState
      u = after_events start h.before

      next : WorldState
      next = (happens u h.step.0 h.step.1).world

      reached : IsReached config servers clients u
      reached = (h.before, refl)

      path : after_events u (h.step ∷ h.after) ≡ v
      path = sym (ap (λ (xs : List (Event × Choice)). after_events start xs) h.steps_are ∙ after_both start h.before (h.step ∷ h.after)) ∙ there.1

      path_on : after_events u (h.step ∷ (h.after ++ more)) ≡ w
      path_on = after_both u (h.step ∷ h.after) more ∙ (ap (λ (x : WorldState). after_events x more) path ∙ to)

      path_to : after_events u (h.step ∷ (h.after ++ steps)) ≡ after_events v steps
      path_to = after_both u (h.step ∷ h.after) steps ∙ ap (λ (x : WorldState). after_events x steps) path

      clocks_then : IsTrue u.observer.are_clocks_kept
      clocks_then = kept_before w clocks u (h.step ∷ (h.after ++ more)) path_on

      clocks_there : IsTrue (after_events v steps).observer.are_clocks_kept
      clocks_there = kept_before w clocks (after_events v steps) rest ends

      now : IsTrue u.master.up × IsToldOf u.master.logged file k
      now = told_now config servers clients w r u reached clocks_then h.step (h.after ++ more) path_on other file k later second h.unsent h.sent_is

      -- both can't stand at one place
      not_both : StandsAt u.master.logged.table.files file l.index l.handle.0 → ⊥
      not_both stands = apart (same_some l.handle.0 k.handle.0 (sym stands ∙ (ap (λ (n : ℕ). element_at (chunks_at u.master.logged.table.files file) n) same_index ∙ (now.1).stood)))

      not_gone : table.get u.master.logged.table.files file ≡ None → ⊥
      not_gone none = none_some k.handle.0 (sym (ap (λ (o : Option (List ℕ)). element_at (unwrap_or o []) k.index) none) ∙ (now.1).stood)

      grown : IsGrown u.sent w.sent
      grown = subst (λ (x : WorldState). IsGrown u.sent x.sent) path_on (steps_grown u (h.step ∷ (h.after ++ more)))

      by_place : (b : Bool) → nat_lt place (length u.sent) ≡ b → IsLeaseOver (after_events v steps) l.handle.0 l.round.0
      by_place false late =
          let stands : element_at next.sent place ≡ Some first.told =
          stood_before next.sent w.sent place first.told (subst (λ (x : WorldState). IsGrown next.sent x.sent) path_on (steps_grown next (h.after ++ more))) (let below = place_below next.sent later second.told h.sent_is in omega (arith, earlier, below)) first.sent_is in
          absurd (not_both ((told_now config servers clients w r u reached clocks_then h.step (h.after ++ more) path_on client file l place first (ltb-false place (length u.sent) late) stands).1).stood)
      by_place true early =
          let stands : element_at u.sent place ≡ Some first.told = stood_before u.sent w.sent place first.told grown (ltb-true place (length u.sent) early) first.sent_is in
          let tracked = tracked_of config servers clients w r clocks u reached (h.step ∷ (h.after ++ more)) path_on client file l place first stands in
          let few = (tracked_on file l.index l.handle.0 l.round.0 config servers clients u reached (h.step ∷ (h.after ++ steps)) tracked).1 in
          let over : IsLeaseOver u l.handle.0 l.round.0 =
          elim (tracked.kept clocks_then) [
            | inl done ↦ done
            | inr places ↦ absurd (elim ((places.up now.0).1) [ inl stays ↦ not_both stays | inr none ↦ not_gone none ])
          ] in
          subst (λ (x : WorldState). IsLeaseOver x l.handle.0 l.round.0) path_to
          (over_later config servers clients u reached l.handle.0 l.round.0 over (h.step ∷ (h.after ++ steps)) (subst (λ (x : WorldState). IsTrue x.observer.are_clocks_kept) (sym path_to) clocks_there) few)

pub replaced_chunks_have_no_lease : ReplacedChunksHaveNoLease
replaced_chunks_have_no_lease config servers clients w r clocks client other file l k place later first second earlier same_index apart =
    replaced_from config servers clients w r clocks client other file l k place later first second earlier same_index (λ same. absurd (apart same)) w r [] refl second.sent_is [] [] refl
