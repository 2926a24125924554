-- A chunk's place in a file over a step of the master: it stays, or the file goes, or a copy that was under way takes it.
use Rattle.std.proofs.Common.{◌≡◌, ◌⊎◌, ℕ, zero, suc, ◌<◌, true, false, true≢false, List, [], ◌∷◌, ◌++◌, take, drop, Option, Some, None, is_some, refl, sym, ap, subst, ◌∙◌, inl, inr, arith}
use Rattle.std.specs.Prelude.{◌+◌, ◌&&◌, unwrap_or, IsTrue}
use Rattle.std.specs.FinMap as table
use Rattle.std.proofs.Math.Nat.{le-max_left}
use Rattle.gfs_types.specs.declared.config.Config.{Config}
use Rattle.gfs_types.specs.Paths.{Path}
use Rattle.messages.specs.declared.event.NodeInput.{NodeInput}
use Rattle.log_records.specs.declared.record.Record.{Record}
use Rattle.log_records.specs.declared.record.Record.TheVariants as log
use Rattle.relaxed_file.specs.Names.{Node, Dir, File, copied_entries, id_after}
use Rattle.relaxed_file.proofs.Known.{ids_rise}
use Rattle.chunk_table.specs.ChunkTable.{ChunkTable, handles_of, grant}
use Rattle.protocol.specs.Tables.{element_at, with_at}
use Rattle.protocol.specs.Choice.{Choice, Ending, Goes, Lost, Stops}
use Rattle.protocol.specs.Seen.{Taken, no_step}
use Rattle.protocol.specs.Logged.{Logged, Copy, LogDisk, LogChange, AppendRecord, WriteCheckpoint, log_changed, log_changed_by_all, after_record, checkpoint_of, copies_for_file, swapped_in, with_copied_node, with_copied_nodes}
use Rattle.protocol.specs.Master.{MasterState, MasterDoing, stopped_master, master_begins, writes_checkpoint}
use Rattle.protocol.specs.MasterStep.{master_goes, master_ends, master_bounded, master_step, is_within_limits, may_end, found_log, started_master, opening, has_opened, opens_as, master_restart}
use Rattle.laws_base.proofs.Steps.{on_cond, none_some, same_some, same_or_not, put_there, put_other, gone_there, gone_other, kept_cases, removed_cases}
use Rattle.laws_base.proofs.Entries.{AllOf}
use Rattle.laws_base.proofs.MembersRecorded.{kept_place}
use Rattle.laws_base.proofs.FilesNamed.{Files}
use Rattle.laws_base.proofs.Owners.{chunks_at}
use Rattle.laws_base.proofs.CountsLogged.{IsPlacedIn}
use Rattle.laws_base.proofs.LoggedParts.{Parts}
use Rattle.laws_base.proofs.GrantedIssued.{IsIssued}
use Rattle.laws_base.proofs.MasterMoves.{Core, core_of, NoneEnded, core_appended, core_granted, grant_record, IsDue, IsNoGrantRecord, logs_alone}
use Rattle.laws_base.proofs.OrderNumbers.{state_of, state-appended, AllStops, stops_push, AllFound, found_same, found_stopped}
use Rattle.laws_base.proofs.NamesReached.{IsGood, IsUpToLog, IsLogged, opening_first, opening_naming}
use Rattle.laws_base.proofs.RowsLogged.{IsFoundRows, IsRowedLog}
use Rattle.laws_base.proofs.RowsKept.{rows_kept}
use Rattle.laws_base.proofs.Awaited.{Attempts}
use Rattle.laws_base.proofs.MasterActs.{IsRowing, rowing_keeps, core_checkpointed, Waits, Acts}
use Rattle.laws_base.proofs.WaitsKept.{WaitsHere, any_input}
use Rattle.laws_base.proofs.ActsOfSteps.{goes_acts}
use Rattle.laws_versions.proofs.AskedSteps.{StandsAt, IsNoGrant}
use Rattle.laws_versions.proofs.CopiedSources.{IsNoStartRecord, IsNoStart}

-- lists

pub other_place : (xs : List ℕ) (i j y : ℕ) → (j ≡ i → ⊥) → element_at (with_at xs i y) j ≡ element_at xs j
other_place [] i j y other = refl
other_place (x ∷ xs) zero zero y other = absurd (other refl)
other_place (x ∷ xs) zero (suc j) y other = refl
other_place (x ∷ xs) (suc i) zero y other = refl
other_place (x ∷ xs) (suc i) (suc j) y other = other_place xs i j y (λ same. other (ap (λ (n : ℕ). suc n) same))

pub all_front : {X : Type 0} (P : X → Type 0) (xs ys : List X) → AllOf P (xs ++ ys) → AllOf P xs
all_front P [] ys h = tt
all_front P (x ∷ xs) ys h = (h.0, all_front P xs ys h.1)

pub all_last : {X : Type 0} (P : X → Type 0) (xs : List X) (y : X) → AllOf P (xs ++ y ∷ []) → P y
all_last P [] y h = h.0
all_last P (x ∷ xs) y h = all_last P xs y h.1

-- a copy of this chunk is under way
abbrev pub IsSourceOf : Logged → ℕ → Type 0
IsSourceOf l handle = (copy : ℕ) × (c : Copy) × (table.get l.copies copy ≡ Some c) × (c.source ≡ handle)

-- copies after a record that begins none
pub copies_before : (l : Logged) (r : Record) → IsNoStartRecord r → IsNoGrantRecord r → (copy : ℕ) (c : Copy) → table.get (after_record l r).copies copy ≡ Some c → table.get l.copies copy ≡ Some c
copies_before l (log.CopyStart file index source copy copy_version) start plain q c is = absurd start
copies_before l (log.Grant handle version primary members) start plain q c is = absurd plain
copies_before l (log.Expired file) start plain q c is = removed_cases l.copies (copies_for_file l file.0) q c is
copies_before l other start plain q c is = is

pub copies_left : (l : Logged) (handle : ℕ) (o : Option Copy) (copy : ℕ) (c : Copy) → table.get (swapped_in l handle o).copies copy ≡ Some c → table.get l.copies copy ≡ Some c
copies_left l handle None copy c is = is
copies_left l handle (Some x) copy c is = kept_cases l.copies handle copy c is

module _ (file index handle : ℕ) where
  -- the chunk stands there, or the file is gone for good
  abbrev pub Place : Files → Type 0
  Place files = StandsAt files file index handle ⊎ (table.get files file ≡ None)

  abbrev pub IsPlaceKept : Logged → Type 0
  IsPlaceKept l = (file < l.next_file) × (StandsAt l.table.files file index handle ⊎ (table.get l.table.files file ≡ None))

  abbrev pub IsLogKept : LogDisk → Type 0
  IsLogKept d = IsPlaceKept (state_of d)

  pub place_same : (l k : Logged) → l.table.files ≡ k.table.files → l.next_file ≡ k.next_file → IsPlaceKept l → IsPlaceKept k
  place_same l k files next h = (subst (λ (n : ℕ). file < n) next h.0, subst (λ (f : Files). Place f) files h.1)

  -- one file's list is put
  pub place_put : (files : Files) (g : ℕ) (hs : List ℕ) → (file ≡ g → Place files → element_at hs index ≡ Some handle) → Place files → Place (table.insert files g hs)
  place_put files g hs stays h =
      elim (same_or_not file g) [
        | inl same ↦ inl (ap (λ (o : Option (List ℕ)). element_at (unwrap_or o []) index) (put_there files g hs file same) ∙ stays same h)
        | inr other ↦ elim (h) [
          | inl stands ↦ inl (ap (λ (o : Option (List ℕ)). element_at (unwrap_or o []) index) (put_other files g hs file other) ∙ stands)
          | inr gone ↦ inr (put_other files g hs file other ∙ gone)
        ]
      ]

  copied_other : (t : ChunkTable) (next : ℕ) (es : List (Path × Node)) → file < next → Place t.files → Place (with_copied_nodes t next es).files
  copied_other t next [] low h = h
  copied_other t next (e ∷ es) low h = copied_other (with_copied_node t next e.1) (id_after next e.1) es (later e.1) (one e.1)
    where
      later : (n : Node) → file < id_after next n
      later Dir = low
      later (File id) = omega (arith, low)

      one : (n : Node) → Place (with_copied_node t next n).files
      one Dir = h
      one (File id) = place_put t.files next (handles_of t id) (λ same. absurd (omega (arith, low, same))) h

  pub place_after : (l : Logged) (r : Record) → IsDue (Unit {0}) l r → IsNoGrantRecord r → IsPlaceKept l → IsPlaceKept (after_record l r)
  place_after l (log.Create client n new shape path) due plain h =
      let low = h.0 in
      let high = le-max_left l.next_file (new.0 + 1) in
      let next = due in
      (omega (arith, low, high), place_put l.table.files new.0 [] (λ same. absurd (omega (arith, low, next, same))) h.1)
  place_after l (log.Snapshot client n from to) due plain h =
      let low = h.0 in
      let high = ids_rise l.next_file (copied_entries l.names from to) in
      (omega (arith, low, high), copied_other l.table l.next_file (copied_entries l.names from to) low h.1)
  place_after l (log.Expired gone) due plain h = (
    h.0,
    elim (same_or_not file gone.0) [
      | inl same ↦ inr (gone_there l.table.files gone.0 file same)
      | inr other ↦ elim (h.1) [
        | inl stands ↦ inl (ap (λ (o : Option (List ℕ)). element_at (unwrap_or o []) index) (gone_other l.table.files gone.0 file other) ∙ stands)
        | inr none ↦ inr (gone_other l.table.files gone.0 file other ∙ none)
      ]
    ],
  )
  place_after l (log.AddChunk of_file new) due plain h = (h.0, place_put l.table.files of_file.0 (handles_of l.table of_file.0 ++ new.0 ∷ []) stays h.1)
    where
      stays : file ≡ of_file.0 → Place l.table.files → element_at (handles_of l.table of_file.0 ++ new.0 ∷ []) index ≡ Some handle
      stays same (inl stands) = kept_place (handles_of l.table of_file.0) (new.0 ∷ []) index handle (subst (λ (n : ℕ). StandsAt l.table.files n index handle) same stands)
      stays same (inr none) = absurd (true≢false (sym due.1 ∙ ap is_some (ap (λ (n : ℕ). table.get l.table.files n) (sym same) ∙ none)))
  place_after l (log.CopyStart of_file at source copy copy_version) due plain h = h
  place_after l (log.Issue chunk version) due plain h = h
  place_after l (log.Mkdir client n path) due plain h = h
  place_after l (log.Rmdir client n path) due plain h = h
  place_after l (log.Delete client n moment path) due plain h = h
  place_after l (log.Rename client n from to) due plain h = h
  place_after l (log.Refused client n refusal) due plain h = h
  place_after l (log.Grant chunk version primary members) due plain h = absurd plain
  place_after l other due plain h = absurd due

  -- a grant, at which a copy takes its source's place
  place_granted : (l : Logged) (q version primary : ℕ) (members : List ℕ) → ((c : Copy) → table.get l.copies q ≡ Some c → IsPlacedIn l.table.files c) → IsPlaceKept l → IsPlaceKept (after_record l (grant_record q version primary members)) ⊎ IsSourceOf l handle
  place_granted l q version primary members placed h = by_copy (table.get l.copies q) refl
    where
      one : Logged
      one = record l { table = grant l.table q version primary members }

      none_there : (c : Copy) → c.file ≡ file → table.get l.table.files file ≡ None → IsPlacedIn l.table.files c → ⊥
      none_there c same none at = none_some c.source (sym (ap (λ (o : Option (List ℕ)). element_at (unwrap_or o []) c.index) (ap (λ (n : ℕ). table.get l.table.files n) same ∙ none)) ∙ at)

      by_copy : (o : Option Copy) → table.get l.copies q ≡ o → IsPlaceKept (swapped_in one q o) ⊎ IsSourceOf l handle
      by_copy None is = inl h
      by_copy (Some c) is =
          elim (same_or_not c.file file) [
            | inr other ↦ inl (h.0, place_put l.table.files c.file (with_at (handles_of l.table c.file) c.index q) (λ same. absurd (other (sym same))) h.1)
            | inl here ↦ elim (h.1) [
              | inr none ↦ absurd (none_there c here none (placed c is))
              | inl stands ↦ elim (same_or_not index c.index) [
                | inl same ↦ inr (q, c, is, same_some c.source handle (sym (placed c is) ∙ (ap (λ (n : ℕ). element_at (chunks_at l.table.files n) c.index) here ∙ (ap (λ (n : ℕ). element_at (chunks_at l.table.files file) n) (sym same) ∙ stands))))
                | inr apart ↦ inl (
                  h.0,
                  place_put l.table.files c.file (with_at (handles_of l.table c.file) c.index q)
                      (λ at _. other_place (handles_of l.table c.file) c.index index q apart ∙ (ap (λ (n : ℕ). element_at (chunks_at l.table.files n) index) here ∙ stands)) h.1,
                )
              ]
            ]
          ]

  -- the log has the state's files
  log_kept : (start : LogDisk) (c : Core) → IsRowing start c → IsPlaceKept c.logged → IsLogKept c.disk
  log_kept start c n h = place_same c.logged (state_of c.disk) n.tied.base.base.files (ap (λ (p : Parts). p.next_file) n.same) h

  -- A step so far: the place is kept, in each log that a stop leaves too, or a copy took it.
  record IsPlacing (start : LogDisk) (first : Logged) (c : Core) : Type 0 where
    copies : AllOf IsNoStart c.changes → (copy : ℕ) (d : Copy) → table.get c.logged.copies copy ≡ Some d → table.get first.copies copy ≡ Some d
    kept : (IsPlaceKept c.logged × AllStops IsLogKept start c.changes) ⊎ ((AllOf IsNoGrant c.changes → ⊥) × (AllOf IsNoStart c.changes → IsSourceOf first handle))

  module _ (start : LogDisk) (first : Logged) where
    -- one more stop
    stops_kept : (c : Core) (x : LogChange) → IsRowing start c → IsLogKept (log_changed c.disk x) → AllStops IsLogKept start c.changes → AllStops IsLogKept start (c.changes ++ x ∷ [])
    stops_kept c x n new h = stops_push IsLogKept start c.changes x h (subst (λ (d : LogDisk). IsLogKept (log_changed d x)) (sym n.disk) new)

    appended : (c : Core) (r : Record) → IsDue (Unit {0}) c.logged r → IsNoGrantRecord r → IsRowing start c → IsRowing start (core_appended c r) → IsPlacing start first c → IsPlacing start first (core_appended c r)
    appended c r due plain n after h =
        let x : LogChange = AppendRecord r in
        record {
          copies = λ none copy d is. h.copies (all_front IsNoStart c.changes (x ∷ []) none) copy d (copies_before c.logged r (all_last IsNoStart c.changes x none) plain copy d is);
          kept = elim (h.kept) [
            | inl both ↦
                let kept : IsPlaceKept (after_record c.logged r) = place_after c.logged r due plain both.0 in
                inl (kept, stops_kept c x n (log_kept start (core_appended c r) after kept) both.1)
            | inr taken ↦ inr ((λ none. taken.0 (all_front IsNoGrant c.changes (x ∷ []) none)), λ none. taken.1 (all_front IsNoStart c.changes (x ∷ []) none))
          ];
        }

    checkpointed : (c : Core) → IsRowing start c → IsRowing start (core_checkpointed c) → IsPlacing start first c → IsPlacing start first (core_checkpointed c)
    checkpointed c n after h =
        let x : LogChange = WriteCheckpoint (checkpoint_of c.logged) in
        record {
          copies = λ none copy d is. h.copies (all_front IsNoStart c.changes (x ∷ []) none) copy d (removed_cases c.logged.copies (table.keys c.logged.copies) copy d is);
          kept = elim (h.kept) [
            | inl both ↦ inl (both.0, stops_kept c x n (log_kept start (core_checkpointed c) after both.0) both.1)
            | inr taken ↦ inr ((λ none. taken.0 (all_front IsNoGrant c.changes (x ∷ []) none)), λ none. taken.1 (all_front IsNoStart c.changes (x ∷ []) none))
          ];
        }

    granted : (c : Core) (q version until primary : ℕ) (members : List ℕ) → IsRowing start c → IsRowing start (core_granted c q version until primary members) → IsPlacing start first c → IsPlacing start first (core_granted c q version until primary members)
    granted c q version until primary members n after h =
        let r : Record = grant_record q version primary members in
        let x : LogChange = AppendRecord r in
        record {
          copies = λ none copy d is. h.copies (all_front IsNoStart c.changes (x ∷ []) none) copy d (copies_left (record c.logged { table = grant c.logged.table q version primary members }) q (table.get c.logged.copies q) copy d is);
          kept = elim (h.kept) [
            | inl both ↦ elim (place_granted c.logged q version primary members (λ d is. n.tied.base.placed q d is) both.0) [
              | inl kept ↦ inl (kept, stops_kept c x n (log_kept start (core_granted c q version until primary members) after kept) both.1)
              | inr source ↦ inr (
                (λ none. all_last IsNoGrant c.changes x none),
                λ none. (source.0, source.1, h.copies (all_front IsNoStart c.changes (x ∷ []) none) source.0 source.1 source.2, source.3),
              )
            ]
            | inr taken ↦ inr ((λ none. taken.0 (all_front IsNoGrant c.changes (x ∷ []) none)), λ none. taken.1 (all_front IsNoStart c.changes (x ∷ []) none))
          ];
        }

    abbrev Placing : Core → Attempts → Waits → Type 0
    Placing c attempts ss = IsPlacing start first c

    placing_acts : Acts start NoneEnded (IsRowing start) Placing
    placing_acts =
        record {
          tells = λ c attempts ss receiver b quiet h. record { copies = h.copies; kept = h.kept };
          orders = λ c attempts ss server b is plain none h. record { copies = h.copies; kept = h.kept };
          gives = λ c attempts ss server q a b at has plain given h. record { copies = h.copies; kept = h.kept };
          revokes = λ c attempts ss q row is h. record { copies = h.copies; kept = h.kept };
          appends = λ c attempts ss r due plain beside n after h. appended c r due plain n after h;
          checkpoint = λ c attempts ss tree n after h. checkpointed c n after h;
          less = λ c attempts ss handles copied n h. record { copies = λ none copy d is. h.copies none copy d (removed_cases c.logged.copies handles copy d is); kept = h.kept };
          fewer = λ c attempts left ss from h. h;
          waits = λ c attempts ss more h. h;
          issues = λ c attempts ss q row a is next alone n before h. h;
          copies = λ c attempts ss of_file at source copy a next n before h. h;
          records = λ c attempts ss q a b at same servers h. h;
          grants = λ c attempts ss q a until primary members at all due n after h. granted c q a.version until primary members n after h;
          ends = λ c attempts ss q row is word n h. record { copies = h.copies; kept = h.kept };
          extends = λ c attempts ss q until row is lasts n h. record { copies = h.copies; kept = h.kept };
        }

  -- between steps: in each log that a stop may leave, and at a master that is up
  pub record ArePlacesKept (m : MasterState) : Type 0 where
    pub found : AllFound IsLogKept m.disk m.under_way
    pub up : IsTrue m.up → IsPlaceKept m.logged

  down_places : (m : MasterState) (disk : LogDisk) (under_way : List LogChange) → AllFound IsLogKept disk under_way → ArePlacesKept (stopped_master m disk under_way)
  down_places m disk under_way found = record { found = found; up = λ up. absurd (let both : false ≡ true = up in cc) }

  ends_places : (m : MasterState) (d : MasterDoing) (choice : Choice) (e : Ending) → ArePlacesKept m → IsRowing m.disk (core_of d) → IsPlaceKept d.master.logged → AllStops IsLogKept m.disk d.changes → ArePlacesKept (master_ends m d choice e).state
  ends_places m d choice Goes h n kept stops =
      record {
        found = subst (λ (xs : List LogChange). AllFound IsLogKept d.master.disk xs) (sym n.none) (found_same IsLogKept d.master.disk (log_kept m.disk (core_of d) n kept));
        up = λ _. kept;
      }
  ends_places m d choice Lost h n kept stops = down_places m m.disk [] (found_same IsLogKept m.disk (h.found []))
  ends_places m d choice (Stops made) h n kept stops = down_places m (log_changed_by_all m.disk (take made d.changes)) (take 1 (drop made d.changes)) (found_stopped IsLogKept m.disk d.changes made stops)

  -- a step that grants nothing, or begins no copy and issues nothing
  pub step_places : (m : MasterState) (moment : ℕ) (i : NodeInput) (choice : Choice) → IsLogged IsFoundRows IsRowedLog rows_kept m → WaitsHere m → IsTrue m.up
      → AllOf IsNoGrant (master_goes m moment i choice.refused).changes ⊎ AllOf IsNoStart (master_goes m moment i choice.refused).changes → ArePlacesKept m → ArePlacesKept (master_step m moment i choice).state ⊎ IsSourceOf m.logged handle
  step_places m moment i choice logged waits up kind h =
      let d : MasterDoing = master_goes m moment i choice.refused in
      let good : Taken MasterState → Type 0 = λ t. ArePlacesKept t.state ⊎ IsSourceOf m.logged handle in
      let u : IsUpToLog IsFoundRows IsRowedLog rows_kept m = logged.up up in
      let end =
      goes_acts NoneEnded (IsRowing m.disk) (Placing m.disk m.logged) m moment i choice.refused (rowing_keeps m.disk) (λ c n. n) (placing_acts m.disk m.logged) (any_input i) logged up waits
      (record { none = u.idle; disk = refl; same = u.same; tied = u.tied; stops = logged.found [] })
      (record { copies = λ none copy c is. is; kept = inl (h.up up, h.found []) }) in
      on_cond good m.up (master_bounded m i d choice) (no_step m)
      (λ _. on_cond good (may_end m i d choice.ending) (master_ends m d choice choice.ending) (no_step m)
      (λ _. elim (end.2.kept) [
        | inl both ↦ inl (ends_places m d choice choice.ending h end.0 both.0 both.1)
        | inr taken ↦ elim (kind) [ inl no_grants ↦ absurd (taken.0 no_grants) | inr no_starts ↦ inr (taken.1 no_starts) ]
      ])
      (λ _. inl h))
      (λ _. inl h)

  -- a master that opens

  record IsOpening (start : LogDisk) (c : Core) : Type 0 where
    state : IsPlaceKept c.logged
    disk : IsLogKept c.disk
    stops : AllStops IsLogKept start c.changes

  epoch_begun : (start : LogDisk) (c : Core) (epoch : ℕ) → IsRowing start c → IsOpening start c → IsOpening start (core_appended c (log.Epoch epoch))
  epoch_begun start c epoch n h =
      let written : IsLogKept (log_changed c.disk (AppendRecord (log.Epoch epoch))) = subst (λ (k : Logged). IsPlaceKept k) (sym (state-appended c.disk (log.Epoch epoch))) h.disk in
      record { state = h.state; disk = written; stops = stops_kept start c.logged c (AppendRecord (log.Epoch epoch)) n written h.stops }

  opening_places : (config : Config) (count : ℕ) (found : LogDisk) (moment : ℕ) → IsGood IsFoundRows IsRowedLog rows_kept found → IsLogKept found → IsOpening found (core_of (opening (started_master config count found moment)))
  opening_places config count found moment good h =
      let started : MasterState = started_master config count found moment in
      let d : MasterDoing = master_begins started [] in
      let b : MasterDoing = writes_checkpoint d in
      let epoch : ℕ = suc started.logged.epoch in
      let n : IsRowing found (core_of d) = opening_first IsFoundRows IsRowedLog rows_kept config count found moment good in
      let after : IsRowing found (core_of b) = (rowing_keeps found).checkpoint (core_of d) (λ _. good.0) n in
      let one : IsOpening found (core_of d) = record { state = h; disk = h; stops = h } in
      let written : IsLogKept b.master.disk = log_kept found (core_of b) after h in
      let two : IsOpening found (core_of b) = record { state = h; disk = written; stops = stops_kept found started.logged (core_of d) (WriteCheckpoint (checkpoint_of started.logged)) n written h } in
      logs_alone (λ e. IsOpening found (core_of e)) d (log.Epoch epoch) one (epoch_begun found (core_of d) epoch n one) two (epoch_begun found (core_of b) epoch after two)

  opens_places : (old : MasterState) (moment : ℕ) (choice : Choice) (e : Ending) → IsIssued old → IsLogged IsFoundRows IsRowedLog rows_kept old → ArePlacesKept old
      → (let started : MasterState = started_master old.config old.server_count (found_log old choice) moment in ArePlacesKept (opens_as old started (opening started) choice e).state)
  opens_places old moment choice Lost issued logged h = down_places old old.disk old.under_way h.found
  opens_places old moment choice (Stops made) issued logged h =
      let found : LogDisk = found_log old choice in
      let d : MasterDoing = opening (started_master old.config old.server_count found moment) in
      let g : IsOpening found (core_of d) = opening_places old.config old.server_count found moment (logged.found choice.decided) (h.found choice.decided) in
      down_places old (log_changed_by_all found (take made d.changes)) (take 1 (drop made d.changes)) (found_stopped IsLogKept found d.changes made g.stops)
  opens_places old moment choice Goes issued logged h =
      let found : LogDisk = found_log old choice in
      let started : MasterState = started_master old.config old.server_count found moment in
      let d : MasterDoing = opening started in
      let n : IsRowing found (core_of d) = (opening_naming IsFoundRows IsRowedLog rows_kept old.config old.server_count found moment (logged.found choice.decided) (issued.found choice.decided)).0 in
      let g : IsOpening found (core_of d) = opening_places old.config old.server_count found moment (logged.found choice.decided) (h.found choice.decided) in
      on_cond (λ (t : Taken MasterState). ArePlacesKept t.state) (has_opened started d && is_within_limits d.master) _ _
      (λ _. record { found = subst (λ (xs : List LogChange). AllFound IsLogKept d.master.disk xs) (sym n.none) (found_same IsLogKept d.master.disk g.disk); up = λ _. g.state })
      (λ _. down_places old d.master.disk [] (found_same IsLogKept d.master.disk g.disk))

  pub restart_places : (m : MasterState) (moment : ℕ) (choice : Choice) → IsIssued m → IsLogged IsFoundRows IsRowedLog rows_kept m → ArePlacesKept m → ArePlacesKept (master_restart m moment choice).state
  restart_places m moment choice issued logged h = opens_places m moment choice choice.ending issued logged h
