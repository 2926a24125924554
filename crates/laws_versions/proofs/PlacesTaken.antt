-- A place in a file over a step of the master: what stands there stays of R, where each copy under way of a chunk of R is of R; or the file goes.
use Rattle.std.proofs.Common.{◌≡◌, ◌⊎◌, ℕ, zero, suc, true, false, List, [], ◌∷◌, ◌++◌, take, drop, Option, Some, None, refl, sym, ap, subst, ◌∙◌, inl, inr}
use Rattle.std.specs.Prelude.{◌&&◌, unwrap_or, IsTrue}
use Rattle.std.specs.FinMap as table
use Rattle.gfs_types.specs.declared.config.Config.{Config}
use Rattle.messages.specs.declared.event.NodeInput.{NodeInput}
use Rattle.log_records.specs.declared.record.Record.{Record}
use Rattle.log_records.specs.declared.record.Record.TheVariants as log
use Rattle.chunk_table.specs.ChunkTable.{handles_of, grant}
use Rattle.protocol.specs.Tables.{element_at, with_at}
use Rattle.protocol.specs.Choice.{Choice, Ending, Goes, Lost, Stops, decided_changes}
use Rattle.protocol.specs.Seen.{Taken, no_step}
use Rattle.protocol.specs.Logged.{Logged, Copy, LogDisk, LogChange, AppendRecord, WriteCheckpoint, log_changed, log_changed_by_all, after_record, checkpoint_of, swapped_in}
use Rattle.protocol.specs.Master.{MasterState, MasterDoing, stopped_master, master_begins, writes_checkpoint}
use Rattle.protocol.specs.MasterStep.{master_goes, master_ends, master_bounded, master_step, is_within_limits, may_end, found_log, started_master, opening, has_opened, opens_as, master_restart}
use Rattle.laws_base.proofs.Steps.{on_cond, none_some, same_some, same_or_not, put_there, removed_cases}
use Rattle.laws_base.proofs.Entries.{AllOf}
use Rattle.laws_base.proofs.Owners.{chunks_at}
use Rattle.laws_base.proofs.CountsLogged.{IsPlacedIn}
use Rattle.laws_base.proofs.LoggedParts.{Parts}
use Rattle.laws_base.proofs.GrantedIssued.{IsIssued}
use Rattle.laws_base.proofs.MasterMoves.{Core, core_of, NoneEnded, core_appended, core_granted, grant_record, IsDue, IsNoGrantRecord, logs_alone}
use Rattle.laws_base.proofs.OrderNumbers.{state_of, state-appended, AllStops, stops_push, AllFound, found_same, found_stopped}
use Rattle.laws_base.proofs.NamesReached.{IsGood, IsUpToLog, IsLogged, opening_first, opening_naming}
use Rattle.laws_base.proofs.RowsLogged.{IsFoundRows, IsRowedLog}
use Rattle.laws_base.proofs.RowsKept.{rows_kept}
use Rattle.laws_base.proofs.Awaited.{Attempts}
use Rattle.laws_base.proofs.MasterActs.{IsRowing, rowing_keeps, core_checkpointed, Waits, Acts}
use Rattle.laws_base.proofs.WaitsKept.{WaitsHere, any_input}
use Rattle.laws_base.proofs.ActsOfSteps.{goes_acts}
use Rattle.laws_versions.proofs.AskedSteps.{IsNoGrant}
use Rattle.laws_versions.proofs.CopiedSources.{IsNoStart}
use Rattle.laws_versions.proofs.PlacesKept.{IsPlaceKept, place_same, place_put, place_after, other_place, all_front, all_last, copies_before, copies_left}

-- what was put in a list is there
put_in : (xs : List ℕ) (i x y : ℕ) → element_at xs i ≡ Some x → element_at (with_at xs i y) i ≡ Some y
put_in [] i x y at = none_some x at
put_in (z ∷ zs) zero x y at = refl
put_in (z ∷ zs) (suc i) x y at = put_in zs i x y at

module _ (file index : ℕ) (R : ℕ → Type 0) where
  -- a chunk of R stands there, or the file is gone for good
  abbrev pub IsTaken : Logged → Type 0
  IsTaken l = (chunk : ℕ) × IsPlaceKept file index chunk l × R chunk

  abbrev pub IsLogTaken : LogDisk → Type 0
  IsLogTaken d = IsTaken (state_of d)

  -- each copy under way of a chunk of R is of R
  abbrev pub AreCopiesOf : Logged → Type 0
  AreCopiesOf l = (copy : ℕ) (c : Copy) → table.get l.copies copy ≡ Some c → R c.source → R copy

  pub taken_same : (l k : Logged) → l.table.files ≡ k.table.files → l.next_file ≡ k.next_file → IsTaken l → IsTaken k
  taken_same l k files next h = (h.0, place_same file index h.0 l k files next h.1, h.2)

  taken_after : (l : Logged) (r : Record) → IsDue (Unit {0}) l r → IsNoGrantRecord r → IsTaken l → IsTaken (after_record l r)
  taken_after l r due plain h = (h.0, place_after file index h.0 l r due plain h.1, h.2)

  -- a grant, at which a copy takes its source's place
  taken_granted : (l : Logged) (q version primary : ℕ) (members : List ℕ) → ((c : Copy) → table.get l.copies q ≡ Some c → IsPlacedIn l.table.files c) → ((c : Copy) → table.get l.copies q ≡ Some c → R c.source → R q) → IsTaken l
      → IsTaken (after_record l (grant_record q version primary members))
  taken_granted l q version primary members placed fits h = by_copy (table.get l.copies q) refl
    where
      one : Logged
      one = record l { table = grant l.table q version primary members }

      none_there : (c : Copy) → c.file ≡ file → table.get l.table.files file ≡ None → IsPlacedIn l.table.files c → ⊥
      none_there c same none at = none_some c.source (sym (ap (λ (o : Option (List ℕ)). element_at (unwrap_or o []) c.index) (ap (λ (n : ℕ). table.get l.table.files n) same ∙ none)) ∙ at)

      by_copy : (o : Option Copy) → table.get l.copies q ≡ o → IsTaken (swapped_in one q o)
      by_copy None is = h
      by_copy (Some c) is =
          elim (same_or_not c.file file) [
            | inr other ↦ (h.0, ((h.1).0, place_put file index h.0 l.table.files c.file (with_at (handles_of l.table c.file) c.index q) (λ same. absurd (other (sym same))) (h.1).1), h.2)
            | inl here ↦ elim ((h.1).1) [
              | inr none ↦ absurd (none_there c here none (placed c is))
              | inl stands ↦ elim (same_or_not index c.index) [
                | inl same ↦ (
                  q,
                  (
                    (h.1).0,
                    inl (ap (λ (o : Option (List ℕ)). element_at (unwrap_or o []) index) (put_there l.table.files c.file (with_at (handles_of l.table c.file) c.index q) file (sym here))
                        ∙ (ap (λ (n : ℕ). element_at (with_at (handles_of l.table c.file) c.index q) n) same ∙ put_in (handles_of l.table c.file) c.index c.source q (placed c is))),
                  ),
                  fits c is (subst R (sym (same_some c.source h.0 (sym (placed c is) ∙ (ap (λ (n : ℕ). element_at (chunks_at l.table.files n) c.index) here ∙ (ap (λ (n : ℕ). element_at (chunks_at l.table.files file) n) (sym same) ∙ stands))))) h.2),
                )
                | inr apart ↦ (
                  h.0,
                  (
                    (h.1).0,
                    place_put file index h.0 l.table.files c.file (with_at (handles_of l.table c.file) c.index q)
                        (λ at _. other_place (handles_of l.table c.file) c.index index q apart ∙ (ap (λ (n : ℕ). element_at (chunks_at l.table.files n) index) here ∙ stands)) (h.1).1,
                  ),
                  h.2,
                )
              ]
            ]
          ]

  -- the log has the state's files
  pub log_taken : (start : LogDisk) (c : Core) → IsRowing start c → IsTaken c.logged → IsLogTaken c.disk
  log_taken start c n h = taken_same c.logged (state_of c.disk) n.tied.base.base.files (ap (λ (p : Parts). p.next_file) n.same) h

  -- A step so far, which granted nothing, or began no copy: the place is so, in each log that a stop leaves too.
  record IsPlacing (start : LogDisk) (first : Logged) (c : Core) : Type 0 where
    copies : AllOf IsNoStart c.changes → (copy : ℕ) (d : Copy) → table.get c.logged.copies copy ≡ Some d → table.get first.copies copy ≡ Some d
    unstarted : AllOf IsNoStart c.changes → IsTaken c.logged × AllStops IsLogTaken start c.changes
    ungranted : AllOf IsNoGrant c.changes → IsTaken c.logged × AllStops IsLogTaken start c.changes

  module _ (start : LogDisk) (first : Logged) (fits : AreCopiesOf first) where
    -- one more stop
    stops_taken : (c : Core) (x : LogChange) → IsRowing start c → IsLogTaken (log_changed c.disk x) → AllStops IsLogTaken start c.changes → AllStops IsLogTaken start (c.changes ++ x ∷ [])
    stops_taken c x n new h = stops_push IsLogTaken start c.changes x h (subst (λ (d : LogDisk). IsLogTaken (log_changed d x)) (sym n.disk) new)

    appended : (c : Core) (r : Record) → IsDue (Unit {0}) c.logged r → IsNoGrantRecord r → IsRowing start c → IsRowing start (core_appended c r) → IsPlacing start first c → IsPlacing start first (core_appended c r)
    appended c r due plain n after h =
        record {
          copies = λ none copy d is. h.copies (all_front IsNoStart c.changes (x ∷ []) none) copy d (copies_before c.logged r (all_last IsNoStart c.changes x none) plain copy d is);
          unstarted = λ none. more (h.unstarted (all_front IsNoStart c.changes (x ∷ []) none));
          ungranted = λ none. more (h.ungranted (all_front IsNoGrant c.changes (x ∷ []) none));
        }
      where
        x : LogChange
        x = AppendRecord r

        more : IsTaken c.logged × AllStops IsLogTaken start c.changes → IsTaken (after_record c.logged r) × AllStops IsLogTaken start (c.changes ++ AppendRecord r ∷ [])
        more both =
            let kept : IsTaken (after_record c.logged r) = taken_after c.logged r due plain both.0 in
            (kept, stops_taken c (AppendRecord r) n (log_taken start (core_appended c r) after kept) both.1)

    checkpointed : (c : Core) → IsRowing start c → IsRowing start (core_checkpointed c) → IsPlacing start first c → IsPlacing start first (core_checkpointed c)
    checkpointed c n after h =
        record {
          copies = λ none copy d is. h.copies (all_front IsNoStart c.changes (x ∷ []) none) copy d (removed_cases c.logged.copies (table.keys c.logged.copies) copy d is);
          unstarted = λ none. more (h.unstarted (all_front IsNoStart c.changes (x ∷ []) none));
          ungranted = λ none. more (h.ungranted (all_front IsNoGrant c.changes (x ∷ []) none));
        }
      where
        x : LogChange
        x = WriteCheckpoint (checkpoint_of c.logged)

        more : IsTaken c.logged × AllStops IsLogTaken start c.changes → IsTaken (core_checkpointed c).logged × AllStops IsLogTaken start (c.changes ++ WriteCheckpoint (checkpoint_of c.logged) ∷ [])
        more both = (both.0, stops_taken c (WriteCheckpoint (checkpoint_of c.logged)) n (log_taken start (core_checkpointed c) after both.0) both.1)

    granted : (c : Core) (q version until primary : ℕ) (members : List ℕ) → IsRowing start c → IsRowing start (core_granted c q version until primary members) → IsPlacing start first c → IsPlacing start first (core_granted c q version until primary members)
    granted c q version until primary members n after h =
        record {
          copies = λ none copy d is. h.copies (all_front IsNoStart c.changes (x ∷ []) none) copy d (copies_left (record c.logged { table = grant c.logged.table q version primary members }) q (table.get c.logged.copies q) copy d is);
          unstarted = λ none.
              let before : AllOf IsNoStart c.changes = all_front IsNoStart c.changes (x ∷ []) none in
              let both = h.unstarted before in
              let kept : IsTaken (after_record c.logged (grant_record q version primary members)) = taken_granted c.logged q version primary members (λ d is. n.tied.base.placed q d is) (λ d is. fits q d (h.copies before q d is)) both.0 in
              (kept, stops_taken c x n (log_taken start (core_granted c q version until primary members) after kept) both.1);
          ungranted = λ none. absurd (all_last IsNoGrant c.changes x none);
        }
      where
        x : LogChange
        x = AppendRecord (grant_record q version primary members)

    abbrev Placing : Core → Attempts → Waits → Type 0
    Placing c attempts ss = IsPlacing start first c

    placing_acts : Acts start NoneEnded (IsRowing start) Placing
    placing_acts =
        record {
          tells = λ c attempts ss receiver b quiet h. record { copies = h.copies; unstarted = h.unstarted; ungranted = h.ungranted };
          orders = λ c attempts ss server b is plain none h. record { copies = h.copies; unstarted = h.unstarted; ungranted = h.ungranted };
          gives = λ c attempts ss server q a b at has plain given h. record { copies = h.copies; unstarted = h.unstarted; ungranted = h.ungranted };
          revokes = λ c attempts ss q row is h. record { copies = h.copies; unstarted = h.unstarted; ungranted = h.ungranted };
          appends = λ c attempts ss r due plain beside n after h. appended c r due plain n after h;
          checkpoint = λ c attempts ss tree n after h. checkpointed c n after h;
          less = λ c attempts ss handles copied n h. record { copies = λ none copy d is. h.copies none copy d (removed_cases c.logged.copies handles copy d is); unstarted = h.unstarted; ungranted = h.ungranted };
          fewer = λ c attempts left ss from h. h;
          waits = λ c attempts ss more h. h;
          issues = λ c attempts ss q row a is next alone n before h. h;
          copies = λ c attempts ss of_file at source copy a next n before h. h;
          records = λ c attempts ss q a b at same servers h. h;
          grants = λ c attempts ss q a until primary members at all due n after h. granted c q a.version until primary members n after h;
          ends = λ c attempts ss q row is word n h. record { copies = h.copies; unstarted = h.unstarted; ungranted = h.ungranted };
          extends = λ c attempts ss q until row is lasts n h. record { copies = h.copies; unstarted = h.unstarted; ungranted = h.ungranted };
        }

  -- between steps: in each log that a stop may leave, and at a master that is up
  pub record ArePlacesTaken (m : MasterState) : Type 0 where
    pub found : AllFound IsLogTaken m.disk m.under_way
    pub up : IsTrue m.up → IsTaken m.logged

  down_places : (m : MasterState) (disk : LogDisk) (under_way : List LogChange) → AllFound IsLogTaken disk under_way → ArePlacesTaken (stopped_master m disk under_way)
  down_places m disk under_way found = record { found = found; up = λ up. absurd (let both : false ≡ true = up in cc) }

  ends_places : (m : MasterState) (d : MasterDoing) (choice : Choice) (e : Ending) → ArePlacesTaken m → IsRowing m.disk (core_of d) → IsTaken d.master.logged → AllStops IsLogTaken m.disk d.changes → ArePlacesTaken (master_ends m d choice e).state
  ends_places m d choice Goes h n kept stops =
      record {
        found = subst (λ (xs : List LogChange). AllFound IsLogTaken d.master.disk xs) (sym n.none) (found_same IsLogTaken d.master.disk (log_taken m.disk (core_of d) n kept));
        up = λ _. kept;
      }
  ends_places m d choice Lost h n kept stops = down_places m m.disk [] (found_same IsLogTaken m.disk (h.found []))
  ends_places m d choice (Stops made) h n kept stops = down_places m (log_changed_by_all m.disk (take made d.changes)) (take 1 (drop made d.changes)) (found_stopped IsLogTaken m.disk d.changes made stops)

  -- a step that grants nothing, or begins no copy
  pub step_taken : (m : MasterState) (moment : ℕ) (i : NodeInput) (choice : Choice) → IsLogged IsFoundRows IsRowedLog rows_kept m → WaitsHere m → IsTrue m.up
      → AllOf IsNoGrant (master_goes m moment i choice.refused).changes ⊎ AllOf IsNoStart (master_goes m moment i choice.refused).changes → AreCopiesOf m.logged → ArePlacesTaken m → ArePlacesTaken (master_step m moment i choice).state
  step_taken m moment i choice logged waits up kind fits h =
      let d : MasterDoing = master_goes m moment i choice.refused in
      let good : Taken MasterState → Type 0 = λ t. ArePlacesTaken t.state in
      let u : IsUpToLog IsFoundRows IsRowedLog rows_kept m = logged.up up in
      let end =
      goes_acts NoneEnded (IsRowing m.disk) (Placing m.disk m.logged fits) m moment i choice.refused (rowing_keeps m.disk) (λ c n. n) (placing_acts m.disk m.logged fits) (any_input i) logged up waits
      (record { none = u.idle; disk = refl; same = u.same; tied = u.tied; stops = logged.found [] })
      (record { copies = λ none copy c is. is; unstarted = λ _. (h.up up, h.found []); ungranted = λ _. (h.up up, h.found []) }) in
      let kept : IsTaken d.master.logged × AllStops IsLogTaken m.disk d.changes = elim (kind) [ inl no_grants ↦ end.2.ungranted no_grants | inr no_starts ↦ end.2.unstarted no_starts ] in
      on_cond good m.up (master_bounded m i d choice) (no_step m)
      (λ _. on_cond good (may_end m i d choice.ending) (master_ends m d choice choice.ending) (no_step m) (λ _. ends_places m d choice choice.ending h end.0 kept.0 kept.1) (λ _. h))
      (λ _. h)

  -- a master that opens

  record IsOpening (start : LogDisk) (c : Core) : Type 0 where
    state : IsTaken c.logged
    disk : IsLogTaken c.disk
    stops : AllStops IsLogTaken start c.changes

  more_stops : (start : LogDisk) (c : Core) (x : LogChange) → IsRowing start c → IsLogTaken (log_changed c.disk x) → AllStops IsLogTaken start c.changes → AllStops IsLogTaken start (c.changes ++ x ∷ [])
  more_stops start c x n new h = stops_push IsLogTaken start c.changes x h (subst (λ (d : LogDisk). IsLogTaken (log_changed d x)) (sym n.disk) new)

  epoch_begun : (start : LogDisk) (c : Core) (epoch : ℕ) → IsRowing start c → IsOpening start c → IsOpening start (core_appended c (log.Epoch epoch))
  epoch_begun start c epoch n h =
      let written : IsLogTaken (log_changed c.disk (AppendRecord (log.Epoch epoch))) = subst (λ (k : Logged). IsTaken k) (sym (state-appended c.disk (log.Epoch epoch))) h.disk in
      record { state = h.state; disk = written; stops = more_stops start c (AppendRecord (log.Epoch epoch)) n written h.stops }

  opening_places : (config : Config) (count : ℕ) (found : LogDisk) (moment : ℕ) → IsGood IsFoundRows IsRowedLog rows_kept found → IsLogTaken found → IsOpening found (core_of (opening (started_master config count found moment)))
  opening_places config count found moment good h =
      let started : MasterState = started_master config count found moment in
      let d : MasterDoing = master_begins started [] in
      let b : MasterDoing = writes_checkpoint d in
      let epoch : ℕ = suc started.logged.epoch in
      let n : IsRowing found (core_of d) = opening_first IsFoundRows IsRowedLog rows_kept config count found moment good in
      let after : IsRowing found (core_of b) = (rowing_keeps found).checkpoint (core_of d) (λ _. good.0) n in
      let one : IsOpening found (core_of d) = record { state = h; disk = h; stops = h } in
      let written : IsLogTaken b.master.disk = log_taken found (core_of b) after h in
      let two : IsOpening found (core_of b) = record { state = h; disk = written; stops = more_stops found (core_of d) (WriteCheckpoint (checkpoint_of started.logged)) n written h } in
      logs_alone (λ e. IsOpening found (core_of e)) d (log.Epoch epoch) one (epoch_begun found (core_of d) epoch n one) two (epoch_begun found (core_of b) epoch after two)

  opens_places : (old : MasterState) (moment : ℕ) (choice : Choice) (e : Ending) → IsIssued old → IsLogged IsFoundRows IsRowedLog rows_kept old → ArePlacesTaken old
      → (let started : MasterState = started_master old.config old.server_count (found_log old choice) moment in ArePlacesTaken (opens_as old started (opening started) choice e).state)
  opens_places old moment choice Lost issued logged h = down_places old old.disk old.under_way h.found
  opens_places old moment choice (Stops made) issued logged h =
      let found : LogDisk = found_log old choice in
      let d : MasterDoing = opening (started_master old.config old.server_count found moment) in
      let g : IsOpening found (core_of d) = opening_places old.config old.server_count found moment (logged.found choice.decided) (h.found choice.decided) in
      down_places old (log_changed_by_all found (take made d.changes)) (take 1 (drop made d.changes)) (found_stopped IsLogTaken found d.changes made g.stops)
  opens_places old moment choice Goes issued logged h =
      let found : LogDisk = found_log old choice in
      let started : MasterState = started_master old.config old.server_count found moment in
      let d : MasterDoing = opening started in
      let n : IsRowing found (core_of d) = (opening_naming IsFoundRows IsRowedLog rows_kept old.config old.server_count found moment (logged.found choice.decided) (issued.found choice.decided)).0 in
      let g : IsOpening found (core_of d) = opening_places old.config old.server_count found moment (logged.found choice.decided) (h.found choice.decided) in
      on_cond (λ (t : Taken MasterState). ArePlacesTaken t.state) (has_opened started d && is_within_limits d.master) _ _
      (λ _. record { found = subst (λ (xs : List LogChange). AllFound IsLogTaken d.master.disk xs) (sym n.none) (found_same IsLogTaken d.master.disk g.disk); up = λ _. g.state })
      (λ _. down_places old d.master.disk [] (found_same IsLogTaken d.master.disk g.disk))

  pub restart_taken : (m : MasterState) (moment : ℕ) (choice : Choice) → IsIssued m → IsLogged IsFoundRows IsRowedLog rows_kept m → ArePlacesTaken m → ArePlacesTaken (master_restart m moment choice).state
  restart_taken m moment choice issued logged h = opens_places m moment choice choice.ending issued logged h

-- what holds of R holds of more
module _ (file index : ℕ) (R S : ℕ → Type 0) (go : (q : ℕ) → R q → S q) where
  taken_on : (l : Logged) → IsTaken file index R l → IsTaken file index S l
  taken_on l h = (h.0, h.1, go h.0 h.2)

  pub places_on : (m : MasterState) → ArePlacesTaken file index R m → ArePlacesTaken file index S m
  places_on m h = record { found = λ decided. taken_on (state_of (log_changed_by_all m.disk (decided_changes decided m.under_way))) (h.found decided); up = λ up. taken_on m.logged (h.up up) }
