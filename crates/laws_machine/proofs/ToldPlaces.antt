-- In each reached world whose clocks were kept, the order of a chunk that was told is, up to a holder's version, that of the chunk that stands at its place: it is the same chunk, or both orders are the same up to there and stay so, since no lease of these versions counts any more.
use Rattle.std.proofs.Common.{◌≡◌, ◌⊎◌, ℕ, ◌≤◌, ◌<◌, List, [], ◌∷◌, Option, Some, None, refl, sym, ap, subst, ◌∙◌, inl, inr, arith}
use Rattle.std.specs.Prelude.{unwrap_or, IsTrue}
use Rattle.std.specs.FinMap as table
use Rattle.gfs_types.specs.declared.config.Config.{Config}
use Rattle.messages.specs.declared.event.Event.{Event}
use Rattle.messages.specs.declared.event.NodeInput.{NodeInput}
use Rattle.messages.specs.declared.message.Body.{Body}
use Rattle.messages.specs.declared.message.Body.TheVariants as body
use Rattle.messages.specs.declared.message.Message.{Message}
use Rattle.messages.specs.declared.message.Location.{Location}
use Rattle.chunk_table.specs.ChunkTable.{ChunkRow, chunk_of, handles_of}
use Rattle.protocol.specs.Tables.{element_at}
use Rattle.protocol.specs.Choice.{Choice, decided_changes}
use Rattle.protocol.specs.Logged.{Logged, Copy, LogChange, log_changed_by_all}
use Rattle.protocol.specs.Master.{MasterState, VersionAttempt}
use Rattle.protocol.specs.MasterStep.{master_goes}
use Rattle.protocol.specs.Observer.{Placed, order_of}
use Rattle.protocol.specs.World.{WorldState, new_world, happens, after_events, IsReached}
use Rattle.laws_base.specs.Laws.{grants_of}
use Rattle.laws_base.proofs.Steps.{none_some, same_some}
use Rattle.laws_base.proofs.Entries.{AllOf}
use Rattle.laws_base.proofs.CountsLogged.{files_below}
use Rattle.laws_base.proofs.LoggedParts.{Parts}
use Rattle.laws_base.proofs.GrantsOnce.{row_below}
use Rattle.laws_base.proofs.SentReached.{sent_reached}
use Rattle.laws_base.proofs.OrderNumbers.{state_of, AllFound, found_same}
use Rattle.laws_base.proofs.NamesReached.{IsUpToLog}
use Rattle.laws_base.proofs.RowsLogged.{IsFoundRows, IsRowedLog}
use Rattle.laws_base.proofs.RowsKept.{rows_kept}
use Rattle.laws_base.specs.Versions.{IsLeaseOver}
use Rattle.laws_base.proofs.Events.{HoldsAfter, holds_after}
use Rattle.laws_base.proofs.LeasesStayOver.{reached_later, over_later}
use Rattle.laws_base.proofs.WaitsKept.{IsOfWaits, waits_kept}
use Rattle.laws_base.proofs.IssuedNumbers.{IsPassed, IsLogPassed, passed_same}
use Rattle.laws_base.proofs.Histories.{IsGrown, steps_grown, SentIn, sent_in, after_both}
use Rattle.laws_base.proofs.GrantsFollow.{HasPassed}
use Rattle.laws_versions.specs.HeldVersions.{version_cloned}
use Rattle.laws_versions.specs.ClonedVersions.{version_copied}
use Rattle.laws_versions.specs.ToldVersions.{WasOrdered}
use Rattle.laws_versions.specs.ReplacedChunks.{IsToldAt}
use Rattle.laws_versions.proofs.AttemptedNumbers.{attempts_are_of_the_last_version}
use Rattle.laws_versions.proofs.ClonedVersions.{ordered_versions_were_issued}
use Rattle.laws_versions.proofs.ClosedVersions.{clocks_before}
use Rattle.laws_versions.proofs.AskedSteps.{IsToldOf, IsNoGrant}
use Rattle.laws_versions.proofs.CopiedSources.{IsNoStart, asked_or_not, unasked_step, asked_step, free_reached, copied_chunks_have_no_lease}
use Rattle.laws_versions.proofs.PlacesKept.{IsPlaceKept}
use Rattle.laws_versions.proofs.PlacesTaken.{IsTaken, IsLogTaken, AreCopiesOf, ArePlacesTaken, taken_same, step_taken, restart_taken, places_on}
use Rattle.laws_versions.proofs.ReplacedChunks.{each_passed, stood_file, kept_before}
use Rattle.laws_versions.proofs.ToldAnswers.{told_now}
use Rattle.laws_versions.specs.SkippedRounds.{up_to}
use Rattle.laws_versions.specs.CopiedOrders.{IsUngrantedCopy}
use Rattle.laws_versions.proofs.StillOrders.{IsStill, each_still}
use Rattle.laws_versions.proofs.CopiedOrders.{source_row, copy_over, copies_under_way_have_their_sources_order, copies_under_way_are_not_granted}
use Rattle.laws_machine.specs.OrderedHolders.{StandsThere, ToldHoldersStandForTheChunk}
use Rattle.laws_machine.proofs.OrderedHolders.{AreHeld, each_held, ordered_later}

-- numbers that the master has passed

low_passed : (q version low : ℕ) → low ≤ version → (l : Logged) → IsPassed q version l → IsPassed q low l
low_passed q version low less l h = (h.0, λ row is. let most = h.1 row is in omega (arith, most, less))

passed_low : (q version low : ℕ) → low ≤ version → (m : MasterState) → HasPassed q version m → HasPassed q low m
passed_low q version low less m h =
    record {
      found = λ decided. low_passed q version low less (state_of (log_changed_by_all m.disk (decided_changes decided m.under_way))) (h.found decided);
      up = λ up. let now = h.up up in (low_passed q version low less m.logged now.0, λ row is a at. let above = now.1 row is a at in omega (arith, above, less));
    }

-- a version that a Clone copies
cloned_copied : (b : Body) (p : ℕ × ℕ) → version_cloned b ≡ Some p → version_copied b ≡ Some p
cloned_copied (body.Clone order handle version source) p is = is
cloned_copied other p is = none_some p is

-- at a master that is up
module _ (config : Config) (servers clients : ℕ) (w : WorldState) (r : IsReached config servers clients w) (up : IsTrue w.master.up) where
  abbrev m : Logged
  m = w.master.logged

  abbrev k : Logged
  k = state_of w.master.disk

  u : IsUpToLog IsFoundRows IsRowedLog rows_kept w.master
  u = (sent_reached IsOfWaits waits_kept config servers clients w r).base.logged.up up

  -- a number that was issued, and below which nothing is attempted
  passed_up : (q version : ℕ) (row : ChunkRow) → chunk_of w.master.logged.table q ≡ Some row → version ≤ row.issued → ((a : VersionAttempt) → table.get w.master.attempts q ≡ Some a → version < a.version) → HasPassed q version w.master
  passed_up q version row at issued above =
      record {
        found = subst (λ (xs : List LogChange). AllFound (IsLogPassed q version) w.master.disk xs) (sym u.idle)
            (found_same (IsLogPassed q version) w.master.disk (passed_same q version m k (u.tied.same q (by_copies (table.get m.copies q) refl (table.get k.copies q) refl)) (ap (λ (p : Parts). p.next_handle) u.same) state));
        up = λ _. (state, λ other is a tried. above a tried);
      }
    where
      state : IsPassed q version m
      state = (row_below m k u.same u.tied q row at, λ other is. let same = ap (λ (x : ChunkRow). x.issued) (same_some row other (sym at ∙ is)) in omega (arith, issued, same))

      by_copies : (o : Option Copy) → table.get m.copies q ≡ o → (p : Option Copy) → table.get k.copies q ≡ p → table.get m.copies q ≡ table.get k.copies q
      by_copies (Some c) is p also = is ∙ sym (u.tied.base.base.among q c is)
      by_copies None is None also = is ∙ sym also
      by_copies None is (Some c) also = none_some row (sym (u.tied.base.base.alone q c also is) ∙ at)

  -- what was ordered was issued
  ordered_issued : (server q version : ℕ) → WasOrdered w.sent server q version → (row : ChunkRow) → chunk_of w.master.logged.table q ≡ Some row → version ≤ row.issued
  ordered_issued server q version (inl given) row at = ordered_versions_were_issued config servers clients w r up given.0 given.1 given.2 q version (inl given.4) row at
  ordered_issued server q version (inr cloned) row at = ordered_versions_were_issued config servers clients w r up cloned.0 cloned.1 cloned.2 q version (inr (cloned_copied (cloned.1).body (q, version) cloned.4)) row at

-- of a chunk no entry up to this version comes or becomes settled any more
pub record IsFrozen (version : ℕ) (w : WorldState) (q : ℕ) : Type 0 where
  pub passed : HasPassed q version w.master
  pub over : (low : ℕ) → low ≤ version → IsLeaseOver w q low

-- two chunks are so, and have the same order up to this version
pub record IsAlike (first version : ℕ) (w : WorldState) (q : ℕ) : Type 0 where
  pub told : IsFrozen version w first
  pub stands : IsFrozen version w q
  pub same : up_to version (order_of w.observer first) ≡ up_to version (order_of w.observer q)

-- a chunk that stands for the first one, up to this version
abbrev pub IsFor : ℕ → ℕ → WorldState → ℕ → Type 0
IsFor first version w q = (q ≡ first) ⊎ IsAlike first version w q

-- one event

module _ (config : Config) (servers clients version : ℕ) (w : WorldState) (r : IsReached config servers clients w) (step : Event × Choice) (clocks : IsTrue (happens w step.0 step.1).world.observer.are_clocks_kept) where
  abbrev v : WorldState
  v = (happens w step.0 step.1).world

  abbrev IsPassedOn : ℕ → ℕ → WorldState → Type 0
  IsPassedOn q low x = HasPassed q low x.master × (grants_of q low x.sent ≤ grants_of q low w.sent)

  passed_on : (q low : ℕ) → HasPassed q low w.master → HasPassed q low (happens w step.0 step.1).world.master × (grants_of q low (happens w step.0 step.1).world.sent ≤ grants_of q low w.sent)
  passed_on q low passed =
      holds_after w (λ e x. HasPassed q low x.world.master × (grants_of q low x.world.sent ≤ grants_of q low w.sent)) (each_passed config servers clients w r q low passed) step.0 step.1

  frozen_on : (q : ℕ) → IsFrozen version w q → IsFrozen version (happens w step.0 step.1).world q
  frozen_on q h =
      record {
        passed = (passed_on q version h.passed).0;
        over = λ low less. over_later config servers clients w r q low (h.over low less) (step ∷ []) clocks (passed_on q low (passed_low q version low less w.master h.passed)).1;
      }

  still : (q : ℕ) → IsFrozen version w q → up_to version (order_of (happens w step.0 step.1).world.observer q) ≡ up_to version (order_of w.observer q)
  still q h =
      holds_after w (λ e x. IsStill config servers clients w r q version h.over x.world) (each_still config servers clients w r q version h.over (λ up. (h.passed.up up).0.0)) step.0 step.1 clocks

  for_on : (first q : ℕ) → IsFor first version w q → IsFor first version (happens w step.0 step.1).world q
  for_on first q (inl same) = inl same
  for_on first q (inr h) = inr (record { told = frozen_on first h.told; stands = frozen_on q h.stands; same = still first h.told ∙ (h.same ∙ sym (still q h.stands)) })

-- a copy that is under way stands for what its source stands for
module _ (config : Config) (servers clients first version : ℕ) (w : WorldState) (r : IsReached config servers clients w) (clocks : IsTrue w.observer.are_clocks_kept) (up : IsTrue w.master.up) (server : ℕ) (ordered : WasOrdered w.sent server first version) where
  module _ (copy : ℕ) (c : Copy) (is : table.get w.master.logged.copies copy ≡ Some c) where
    source : (row : ChunkRow) × (chunk_of w.master.logged.table c.source ≡ Some row)
    source = source_row config servers clients w r up copy c is

    begun : IsUngrantedCopy w copy c.source
    begun = copies_under_way_are_not_granted config servers clients w r clocks up copy c is

    order_is : order_of w.observer copy ≡ order_of w.observer c.source
    order_is = copies_under_way_have_their_sources_order config servers clients w r clocks up copy c is

    issued : IsFor first version w c.source → version ≤ (source.0).issued
    issued (inl same) = ordered_issued config servers clients w r up server c.source version (subst (λ (q : ℕ). WasOrdered w.sent server q version) (sym same) ordered) source.0 source.1
    issued (inr alike) = (alike.stands.passed.up up).0.1 source.0 source.1

    frozen_source : version ≤ (source.0).issued → IsFrozen version w c.source
    frozen_source most =
        record {
          passed = passed_up config servers clients w r up c.source version source.0 source.1 most (λ a there. none_some a (sym (copied_chunks_have_no_lease config servers clients w r clocks up copy c is).0 ∙ there));
          over = λ low _. (copied_chunks_have_no_lease config servers clients w r clocks up copy c is).1 low;
        }

    frozen_copy : version ≤ (source.0).issued → IsFrozen version w copy
    frozen_copy most =
        let above = begun.follows source.0 source.1 in
        record {
          passed = passed_up config servers clients w r up copy version begun.row begun.there (omega (arith, most, above))
              (λ a there. let last = (attempts_are_of_the_last_version config servers clients w r up copy a there).1 begun.row begun.there in omega (arith, most, above, last));
          over = λ low _. copy_over config servers clients w r up clocks copy c is low;
        }

    copy_for : IsFor first version w c.source → IsFor first version w copy
    copy_for h = inr (by_source h (issued h))
      where
        by_source : IsFor first version w c.source → version ≤ (source.0).issued → IsAlike first version w copy
        by_source (inl same) most =
            record {
              told = subst (λ (q : ℕ). IsFrozen version w q) same (frozen_source most);
              stands = frozen_copy most;
              same = ap (λ (q : ℕ). up_to version (order_of w.observer q)) (sym same) ∙ ap (λ (ps : List Placed). up_to version ps) (sym order_is);
            }
        by_source (inr alike) most = record { told = alike.told; stands = frozen_copy most; same = alike.same ∙ ap (λ (ps : List Placed). up_to version ps) (sym order_is) }

  copies_for : (file index : ℕ) → AreCopiesOf file index (IsFor first version w) w.master.logged
  copies_for file index copy c is h = copy_for copy c is h

-- a place of a file at which the first chunk was told

record IsStanding (file index first version : ℕ) (w : WorldState) : Type 0 where
  server : ℕ
  ordered : WasOrdered w.sent server first version
  kept : IsTrue w.observer.are_clocks_kept → ArePlacesTaken file index (IsFor first version w) w.master

module _ (config : Config) (servers clients file index first version : ℕ) where
  module _ (w : WorldState) (r : IsReached config servers clients w) (h : IsStanding file index first version w) (clocks : IsTrue w.observer.are_clocks_kept) where
    base : IsOfWaits w.sent w.master
    base = sent_reached IsOfWaits waits_kept config servers clients w r

    kind : (moment : ℕ) (i : NodeInput) (choice : Choice) → IsTrue w.master.up → AllOf IsNoGrant (master_goes w.master moment i choice.refused).changes ⊎ AllOf IsNoStart (master_goes w.master moment i choice.refused).changes
    kind moment i choice up =
        elim (asked_or_not i) [
          | inl none ↦ inr (unasked_step config servers clients w r clocks up (free_reached config servers clients w r clocks up) moment i choice.refused none).changes
          | inr ask ↦ inl (asked_step config servers clients w r clocks up (free_reached config servers clients w r clocks up) moment i choice.refused ask).changes
        ]

    each_taken : HoldsAfter w (λ e x. ArePlacesTaken file index (IsFor first version w) x.world.master)
    each_taken =
        let places : ArePlacesTaken file index (IsFor first version w) w.master = h.kept clocks in
        record {
          nothing = λ e. places;
          masters = λ e moment i choice is up.
              step_taken file index (IsFor first version w) w.master moment i choice base.base.logged base.waits up (kind moment i choice up) (copies_for config servers clients first version w r clocks up h.server h.ordered file index) places;
          opens = λ e moment choice. restart_taken file index (IsFor first version w) w.master moment choice base.base.issued base.base.logged places;
          serves = λ e at moment s i choice there is up. places;
          restarts = λ e at moment s choice there. places;
          steps = λ e at moment s i choice there is up. places;
          calls = λ e at moment s c choice there may. places;
          rots = λ e at q s x place byte ending is_kept there held up. places;
        }

  standing_next : (w : WorldState) → IsReached config servers clients w → (step : Event × Choice) → IsStanding file index first version w → IsStanding file index first version (happens w step.0 step.1).world
  standing_next w r step h =
      record {
        server = h.server;
        ordered = let grown : IsGrown w.sent (happens w step.0 step.1).world.sent = steps_grown w (step ∷ []) in
            subst (λ (ms : List Message). WasOrdered ms h.server first version) (sym grown.1) (ordered_later w.sent grown.0 h.server first version h.ordered);
        kept = λ clocks.
            let before = clocks_before w (step ∷ []) clocks in
            places_on file index (IsFor first version w) (IsFor first version (happens w step.0 step.1).world) (λ q. for_on config servers clients version w r step clocks first q) (happens w step.0 step.1).world.master
            (holds_after w (λ e x. ArePlacesTaken file index (IsFor first version w) x.world.master) (each_taken w r h before) step.0 step.1);
      }

  standing_on : (w : WorldState) → IsReached config servers clients w → (steps : List (Event × Choice)) → IsStanding file index first version w → IsStanding file index first version (after_events w steps)
  standing_on w r [] h = h
  standing_on w r (step ∷ rest) h = standing_on (happens w step.0 step.1).world (reached_later config servers clients w (step ∷ []) r) rest (standing_next w r step h)

-- where it was told
told_standing : (config : Config) (servers clients : ℕ) (w : WorldState) → IsReached config servers clients w → IsTrue w.master.up → (file : ℕ) (l : Location) → IsToldOf w.master.logged file l → (server version : ℕ) → WasOrdered w.sent server l.handle.0 version
    → IsStanding file l.index l.handle.0 version w
told_standing config servers clients w r up file l told server version ordered =
    record {
      server = server;
      ordered = ordered;
      kept = λ clocks. record {
        found = subst (λ (xs : List LogChange). AllFound (IsLogTaken file l.index IsForTold) w.master.disk xs) (sym now.idle)
            (found_same (IsLogTaken file l.index IsForTold) w.master.disk (taken_same file l.index IsForTold m k now.tied.base.base.files (ap (λ (p : Parts). p.next_file) now.same) taken));
        up = λ _. taken;
      };
    }
  where
    m : Logged
    m = w.master.logged

    k : Logged
    k = state_of w.master.disk

    IsForTold : ℕ → Type 0
    IsForTold q = IsFor l.handle.0 version w q

    now : IsUpToLog IsFoundRows IsRowedLog rows_kept w.master
    now = (sent_reached IsOfWaits waits_kept config servers clients w r).base.logged.up up

    place : IsPlaceKept file l.index l.handle.0 m
    place = (files_below m now.tied.base.base.here file (stood_file m.table.files file l.index l.handle.0 told.stood), inl told.stood)

    taken : IsTaken file l.index IsForTold m
    taken = (l.handle.0, place, inl refl)

-- what stands there now
stands_for : (file index first version : ℕ) (w : WorldState) (t : Logged) → IsTaken file index (IsFor first version w) t → (handle : ℕ) → element_at (handles_of t.table file) index ≡ Some handle → up_to version (order_of w.observer first) ≡ up_to version (order_of w.observer handle)
stands_for file index first version w t h handle at =
    elim ((h.1).1) [
      | inl stands ↦ by_chunk (same_some h.0 handle (sym stands ∙ at)) h.2
      | inr gone ↦ none_some handle (sym (ap (λ (o : Option (List ℕ)). element_at (unwrap_or o []) index) gone) ∙ at)
    ]
  where
    by_chunk : h.0 ≡ handle → IsFor first version w h.0 → up_to version (order_of w.observer first) ≡ up_to version (order_of w.observer handle)
    by_chunk same (inl first_is) = ap (λ (q : ℕ). up_to version (order_of w.observer q)) (sym first_is ∙ same)
    by_chunk same (inr alike) = alike.same ∙ ap (λ (q : ℕ). up_to version (order_of w.observer q)) same

pub told_holders_stand_for_the_chunk : ToldHoldersStandForTheChunk
told_holders_stand_for_the_chunk config servers clients w r clocks client file l place t n x there handle stands =
    elim (stands) [
      | inl in_log ↦ stands_for file l.index l.handle.0 x.version.0 w (state_of w.master.disk) (places.found []) handle in_log
      | inr at_master ↦ stands_for file l.index l.handle.0 x.version.0 w w.master.logged (places.up at_master.0) handle at_master.1
    ]
  where
    start : WorldState
    start = new_world config servers clients

    h : SentIn start r.0 place t.told
    h = sent_in start r.0 place t.told (omega arith) (ap (λ (v : WorldState). element_at v.sent place) r.1 ∙ t.sent_is)

    was : WorldState
    was = after_events start h.before

    reached : IsReached config servers clients was
    reached = (h.before, refl)

    path : after_events was (h.step ∷ h.after) ≡ w
    path = sym (ap (λ (steps : List (Event × Choice)). after_events start steps) h.steps_are ∙ after_both start h.before (h.step ∷ h.after)) ∙ r.1

    then_ : IsTrue was.observer.are_clocks_kept
    then_ = kept_before w clocks was (h.step ∷ h.after) path

    now : IsTrue was.master.up × IsToldOf was.master.logged file l
    now = told_now config servers clients w r was reached then_ h.step h.after path client file l place t h.unsent h.sent_is

    ordered : WasOrdered was.sent x.server.0 l.handle.0 x.version.0
    ordered = holds_after was (λ e v. AreHeld was v.world) (each_held config servers clients was reached) h.step.0 h.step.1 place t.told h.unsent h.sent_is t.number l t.body_is n x there

    standing : IsStanding file l.index l.handle.0 x.version.0 w
    standing =
        subst (λ (v : WorldState). IsStanding file l.index l.handle.0 x.version.0 v) path
        (standing_on config servers clients file l.index l.handle.0 x.version.0 was reached (h.step ∷ h.after) (told_standing config servers clients was reached now.0 file l now.1 x.server.0 x.version.0 ordered))

    places : ArePlacesTaken file l.index (IsFor l.handle.0 x.version.0 w) w.master
    places = standing.kept clocks
