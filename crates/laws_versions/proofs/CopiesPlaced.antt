-- As a step of the master shows that it began a copy, the copy stands in no file after it: it is under way, of its source, or was given up again. So where its source stands at one index, it does.
use Rattle.std.proofs.Common.{◌≡◌, ◌⊎◌, ℕ, zero, suc, ◌≤◌, ◌<◌, Bool, List, [], ◌∷◌, ◌++◌, Option, Some, None, refl, sym, ap, subst, ◌∙◌, inl, inr, arith}
use Rattle.std.specs.Prelude.{◌+◌, max, unwrap_or, IsTrue}
use Rattle.std.specs.FinMap as table
use Rattle.std.proofs.Math.Nat.{le-max_left, le-max_right}
use Rattle.gfs_types.specs.declared.config.Config.{Config}
use Rattle.gfs_types.specs.declared.ids.FileId.{FileId}
use Rattle.gfs_types.specs.declared.ids.Handle.{Handle}
use Rattle.messages.specs.declared.event.NodeInput.{NodeInput}
use Rattle.messages.specs.declared.event.NodeInput.TheVariants as input
use Rattle.log_records.specs.declared.record.Record.{Record}
use Rattle.log_records.specs.declared.record.Record.TheVariants as log
use Rattle.relaxed_file.specs.Names.{copied_entries}
use Rattle.chunk_table.specs.ChunkTable.{ChunkRow, handles_of}
use Rattle.protocol.specs.Tables.{element_at}
use Rattle.protocol.specs.Sending.{file_id, handle_of, version_of}
use Rattle.protocol.specs.Choice.{Choice, Ending, Goes, Lost, Stops}
use Rattle.protocol.specs.Seen.{Taken, no_step}
use Rattle.protocol.specs.declared.seen.Seen.{Seen}
use Rattle.protocol.specs.declared.seen.Seen.TheVariants.{CopyStarted}
use Rattle.protocol.specs.Logged.{Logged, Copy, after_record, copies_given_up, copies_for_file}
use Rattle.protocol.specs.Master.{MasterState, MasterDoing, master_begins, orders, appends, with_attempt}
use Rattle.protocol.specs.MasterVersions.{Asker, VersionTarget, new_attempt, copy_order, sends_copies, sends_copy_started}
use Rattle.protocol.specs.MasterAsks.{takes_ask}
use Rattle.protocol.specs.MasterStep.{master_at, master_goes, may_end, master_bounded, master_ends, master_step}
use Rattle.protocol.specs.World.{WorldState, Happened, happens, after_events, IsReached}
use Rattle.laws_base.proofs.LeasesStayOver.{reached_later}
use Rattle.laws_base.proofs.Steps.{on_cond, none_some, same_some, same_or_not, put_split, put_there, put_other, removed_cases}
use Rattle.laws_base.proofs.Owners.{chunks_at}
use Rattle.laws_base.proofs.NamesReached.{IsUpToLog}
use Rattle.laws_base.proofs.RowsLogged.{IsFoundRows, IsRowedLog}
use Rattle.laws_base.proofs.RowsKept.{rows_kept}
use Rattle.laws_base.proofs.SentReached.{sent_reached}
use Rattle.laws_base.proofs.WaitsKept.{IsOfWaits, waits_kept}
use Rattle.laws_base.proofs.CopiesBegun.{step_shows}
use Rattle.laws_base.proofs.AskedCopies.{KeepsBeginning, step_begins}
use Rattle.laws_versions.proofs.UnaskedSteps as unasked
use Rattle.laws_versions.proofs.UnaskedSteps.{IsOfNames, KeepsNames}
use Rattle.laws_versions.specs.HandleIndexes.{CopiesStandAtTheirSourcesIndex}
use Rattle.laws_versions.proofs.HandleIndexes.{AreAt, at_put, at_gone, at_copied, last_cases, IsStateAt, IsLogAt, Filed, filed_on, filed_up, at_keeps, good_reached, stood_at, stands_at}

-- each handle in a file was used
abbrev pub Below : Logged → Type 0
Below l = (q file j : ℕ) → element_at (chunks_at l.table.files file) j ≡ Some q → q < l.next_handle

module _ (first : ℕ) where
  -- a copy that began: of a handle that no earlier step used, used now, in no file, and of this source while it is under way
  pub record Begun (seen : List Seen) (l : Logged) (up : Bool) : Type 0 where
    pub source : ℕ
    pub copy : ℕ
    pub seen_is : seen ≡ CopyStarted (handle_of source) (handle_of copy) ∷ []
    pub new : first ≤ copy
    pub used : copy < l.next_handle
    pub nowhere : AreAt copy (λ j. ⊥) l.table.files
    pub from : (c : Copy) → table.get l.copies copy ≡ Some c → c.source ≡ source
    pub on : IsTrue up

  abbrev pub HasBegun : MasterDoing → Type 0
  HasBegun d = Begun d.seen d.master.logged d.master.up

  abbrev IsPlain : MasterDoing → Type 0
  IsPlain d = (d.seen ≡ []) × Below d.master.logged × IsTrue d.master.up × (first ≤ d.master.logged.next_handle)

  -- records of names, and copies that are given up

  begun_less : (seen : List Seen) (l : Logged) (up : Bool) (handles : List ℕ) → Begun seen l up → Begun seen (copies_given_up l handles) up
  begun_less seen l up handles h =
      record { source = h.source; copy = h.copy; seen_is = h.seen_is; new = h.new; used = h.used; nowhere = h.nowhere; from = λ c is. h.from c (removed_cases l.copies handles h.copy c is); on = h.on }

  begun_names : (seen : List Seen) (l : Logged) (up : Bool) (r : Record) → IsOfNames r → Begun seen l up → Begun seen (after_record l r) up
  begun_names seen l up (log.Create client n new shape path) is h =
      record { source = h.source; copy = h.copy; seen_is = h.seen_is; new = h.new; used = h.used; nowhere = at_put h.copy (λ j. ⊥) l.table.files new.0 [] (λ j at. none_some h.copy at) h.nowhere; from = h.from; on = h.on }
  begun_names seen l up (log.Snapshot client n from to) is h =
      record { source = h.source; copy = h.copy; seen_is = h.seen_is; new = h.new; used = h.used; nowhere = at_copied h.copy (λ j. ⊥) l.table l.next_file (copied_entries l.names from to) h.nowhere; from = h.from; on = h.on }
  begun_names seen l up (log.Expired gone) is h =
      record { source = h.source; copy = h.copy; seen_is = h.seen_is; new = h.new; used = h.used; nowhere = at_gone h.copy (λ j. ⊥) l.table.files gone.0 h.nowhere; from = λ c at. h.from c (removed_cases l.copies (copies_for_file l gone.0) h.copy c at); on = h.on }
  begun_names seen l up (log.Mkdir client n path) is h = record { source = h.source; copy = h.copy; seen_is = h.seen_is; new = h.new; used = h.used; nowhere = h.nowhere; from = h.from; on = h.on }
  begun_names seen l up (log.Rmdir client n path) is h = record { source = h.source; copy = h.copy; seen_is = h.seen_is; new = h.new; used = h.used; nowhere = h.nowhere; from = h.from; on = h.on }
  begun_names seen l up (log.Delete client n moment path) is h = record { source = h.source; copy = h.copy; seen_is = h.seen_is; new = h.new; used = h.used; nowhere = h.nowhere; from = h.from; on = h.on }
  begun_names seen l up (log.Rename client n from to) is h = record { source = h.source; copy = h.copy; seen_is = h.seen_is; new = h.new; used = h.used; nowhere = h.nowhere; from = h.from; on = h.on }
  begun_names seen l up (log.Refused client n refusal) is h = record { source = h.source; copy = h.copy; seen_is = h.seen_is; new = h.new; used = h.used; nowhere = h.nowhere; from = h.from; on = h.on }
  begun_names seen l up other is h = absurd is

  names_begun : KeepsNames HasBegun
  names_begun =
      record {
        said = λ d receiver b none h. h;
        ordered = λ d server b none h. h;
        recorded = λ d r is h. begun_names d.seen d.master.logged d.master.up r is h;
        checkpointed = λ d h. begun_less d.seen d.master.logged d.master.up (table.keys d.master.logged.copies) h;
        less = λ d handles h. begun_less d.seen d.master.logged d.master.up handles h;
        fewer = λ d handles h. h;
        waiting = λ d ss h. h;
        refusing = λ d bs h. h;
      }

  -- an Ask

  added_plain : (d : MasterDoing) (file : FileId) → IsPlain d → IsPlain (appends d (log.AddChunk file (handle_of d.master.logged.next_handle)))
  added_plain d file h = (h.0, below, h.2, let low = h.3 in let grows = le-max_left d.master.logged.next_handle (d.master.logged.next_handle + 1) in omega (arith, low, grows))
    where
      l : Logged
      l = d.master.logged

      new : ℕ
      new = l.next_handle

      handles : List ℕ
      handles = handles_of l.table file.0 ++ new ∷ []

      below : (q at_file j : ℕ) → element_at (chunks_at (table.insert l.table.files file.0 handles) at_file) j ≡ Some q → q < max new (new + 1)
      below q at_file j at =
          let high = le-max_right new (new + 1) in
          elim (same_or_not at_file file.0) [
            | inl same ↦
                elim (last_cases (handles_of l.table file.0) new j q (sym (ap (λ (o : Option (List ℕ)). element_at (unwrap_or o []) j) (put_there l.table.files file.0 handles at_file same)) ∙ at)) [
                  | inl before ↦ let low = h.1 q file.0 j before in omega (arith, low, high)
                  | inr last ↦ let one = last.1 in omega (arith, one, high)
                ]
            | inr other ↦
                let low = h.1 q at_file j (sym (ap (λ (o : Option (List ℕ)). element_at (unwrap_or o []) j) (put_other l.table.files file.0 handles at_file other)) ∙ at) in
                omega (arith, low, high)
          ]

  copies_sent : (d : MasterDoing) (handle copy version : ℕ) (targets : List VersionTarget) → HasBegun d → HasBegun (sends_copies d handle copy version targets)
  copies_sent d handle copy version [] h = h
  copies_sent d handle copy version (t ∷ rest) h = copies_sent (orders d t.server (copy_order handle copy version t.base)) handle copy version rest h

  copy_begun : (e : MasterDoing) (a : Asker) (handle : ℕ) (row : ChunkRow) (copy : ℕ) (targets : List VersionTarget) → IsPlain e → e.master.logged.next_handle ≡ copy
      → (let r : Record = log.CopyStart (file_id a.file) a.index (handle_of handle) (handle_of copy) (version_of (suc row.issued)) in HasBegun (sends_copy_started (appends e r) a handle copy (suc row.issued) targets))
  copy_begun e a handle row copy targets plain next =
      let r : Record = log.CopyStart (file_id a.file) a.index (handle_of handle) (handle_of copy) (version_of (suc row.issued)) in
      let d : MasterDoing = appends e r in
      let shown : MasterDoing = record d { seen = d.seen ++ CopyStarted (handle_of handle) (handle_of copy) ∷ [] } in
      let tried : MasterDoing = with_attempt shown copy (new_attempt d.master (suc row.issued) targets) in
      let first : HasBegun tried =
      record {
        source = handle;
        copy = copy;
        seen_is = ap (λ (xs : List Seen). xs ++ CopyStarted (handle_of handle) (handle_of copy) ∷ []) plain.0;
        new = let low = plain.3 in omega (arith, low, next);
        used = let high = le-max_right e.master.logged.next_handle (copy + 1) in omega (arith, high);
        nowhere = λ file j at. let low = plain.1 copy file j at in absurd (omega (arith, low, next));
        from = λ c is. elim (put_split e.master.logged.copies copy (record { file = a.file; index = a.index; source = handle }) copy c is) [
          | inl same ↦ sym (ap (λ (x : Copy). x.source) same.1)
          | inr before ↦ absurd (before.0 refl)
        ];
        on = plain.2;
      } in
      copies_sent tried handle copy (suc row.issued) targets first

  begins : KeepsBeginning IsPlain HasBegun
  begins =
      record {
        silent = λ d h. h.0;
        checkpointed = λ d h. h;
        added = added_plain;
        given_up = λ d copy h. h;
        begun = λ d e a handle row targets at h plain same. copy_begun e a handle row d.master.logged.next_handle targets plain same;
      }

-- the step

-- nothing was shown, or a copy began of a handle that was not used before
abbrev pub Fine : MasterState → MasterDoing → Type 0
Fine m d = (d.seen ≡ []) ⊎ HasBegun m.logged.next_handle d

pub goes_fine : (m : MasterState) (moment : ℕ) (refused : List Bool) → Below m.logged → IsTrue m.up → (i : NodeInput) → Fine m (master_goes m moment i refused)
goes_fine m moment refused below up =
    let first : ℕ = m.logged.next_handle in
    step_begins (IsPlain first) (HasBegun first) (begins first) m moment refused (refl, below, up, omega arith)
    (λ client number file w deadline lost begun.
    let d : MasterDoing = takes_ask (master_begins (master_at m moment) refused) client number file w deadline lost in
    unasked.ready (HasBegun first) (names_begun first) d d.master.snapshots begun)

abbrev ShowsBegun : MasterState → Taken MasterState → Type 0
ShowsBegun m t = (t.seen ≡ []) ⊎ Begun m.logged.next_handle t.seen t.state.logged t.state.up

ends_begun : (m : MasterState) (d : MasterDoing) (choice : Choice) (e : Ending) → Fine m d → ShowsBegun m (master_ends m d choice e)
ends_begun m d choice Goes h = h
ends_begun m d choice Lost h = inl refl
ends_begun m d choice (Stops made) h = inl refl

pub step_begun : (m : MasterState) (moment : ℕ) (i : NodeInput) (choice : Choice) → (IsTrue m.up → Below m.logged) → ShowsBegun m (master_step m moment i choice)
step_begun m moment i choice below =
    let d : MasterDoing = master_goes m moment i choice.refused in
    on_cond (ShowsBegun m) m.up (master_bounded m i d choice) (no_step m)
    (λ up. on_cond (ShowsBegun m) (may_end m i d choice.ending) (master_ends m d choice choice.ending) (no_step m) (λ _. ends_begun m d choice choice.ending (goes_fine m moment choice.refused (below up) up i)) (λ _. inl refl))
    (λ _. inl refl)

-- in reached worlds

-- the handles of both chunks
abbrev pub handles_in : Seen → ℕ × ℕ
handles_in (CopyStarted source new) = (source.0, new.0)
handles_in other = (0, 0)

pub only : (x y : Seen) (n : ℕ) → element_at (x ∷ []) n ≡ Some y → x ≡ y
only x y zero is = same_some x y is
only x y (suc n) is = none_some y is

pub below_reached : (config : Config) (servers clients : ℕ) (w : WorldState) → IsReached config servers clients w → IsTrue w.master.up → Below w.master.logged
below_reached config servers clients w r up q file j at =
    elim ((good_reached config servers clients q w r).up up) [
      | inl new ↦ absurd ((new.0).1 file j at)
      | inr used ↦ ((used.1).0).0
    ]

-- The copy stands in no file: it is given up again, and is at whichever index, or it is under way, and its index is that of its source.
abbrev pub IsCopyPlaced : Config → ℕ → ℕ → ℕ → ℕ → WorldState → Type 0
IsCopyPlaced config servers clients source copy v =
    IsTrue v.master.up
    × (((index : ℕ) → Filed config servers clients copy index v)
    ⊎ ((file : ℕ) × (index : ℕ) × (element_at (chunks_at v.master.logged.table.files file) index ≡ Some source) × Filed config servers clients copy index v))

module _ (config : Config) (servers clients : ℕ) (w v : WorldState) (r : IsReached config servers clients w) (later : IsReached config servers clients v) (moment : ℕ) (i : NodeInput) (choice : Choice) (now : v.master ≡ (master_step w.master moment i choice).state) where
  by_begun : Begun w.master.logged.next_handle (master_step w.master moment i choice).seen v.master.logged v.master.up → (place : ℕ) (handle copy : Handle) → element_at (master_step w.master moment i choice).seen place ≡ Some (CopyStarted handle copy)
      → IsCopyPlaced config servers clients handle.0 copy.0 v
  by_begun b place handle copy at =
      subst (λ (q : ℕ). IsCopyPlaced config servers clients handle.0 q v) same_copy (b.on, by_copy (table.get v.master.logged.copies b.copy) refl)
    where
      one : CopyStarted (handle_of b.source) (handle_of b.copy) ≡ CopyStarted handle copy
      one = only (CopyStarted (handle_of b.source) (handle_of b.copy)) (CopyStarted handle copy) place (sym (ap (λ (xs : List Seen). element_at xs place) b.seen_is) ∙ at)

      same_source : b.source ≡ handle.0
      same_source = ap (λ (x : Seen). (handles_in x).0) one

      same_copy : b.copy ≡ copy.0
      same_copy = ap (λ (x : Seen). (handles_in x).1) one

      u : IsUpToLog IsFoundRows IsRowedLog rows_kept v.master
      u = (sent_reached IsOfWaits waits_kept config servers clients v later).base.logged.up b.on

      filed_as : (index : ℕ) → ((c : Copy) → table.get v.master.logged.copies b.copy ≡ Some c → c.index ≡ index) → Filed config servers clients b.copy index v
      filed_as index copies =
          filed_up (IsStateAt b.copy index) (IsLogAt b.copy index) (at_keeps b.copy index) config servers clients v later b.on ((b.used, λ file j there. absurd (b.nowhere file j there)), copies)

      by_copy : (o : Option Copy) → table.get v.master.logged.copies b.copy ≡ o
          → ((index : ℕ) → Filed config servers clients b.copy index v) ⊎ ((file : ℕ) × (index : ℕ) × (element_at (chunks_at v.master.logged.table.files file) index ≡ Some handle.0) × Filed config servers clients b.copy index v)
      by_copy None is = inl (λ index. filed_as index (λ c also. none_some c (sym is ∙ also)))
      by_copy (Some c) is =
          let placed : element_at (chunks_at v.master.logged.table.files c.file) c.index ≡ Some c.source = u.tied.base.placed b.copy c is in
          inr (c.file, c.index, placed ∙ ap (λ (q : ℕ). Some q) (b.from c is ∙ same_source), filed_as c.index (λ d also. ap (λ (y : Copy). y.index) (same_some d c (sym also ∙ is))))

  pub copy_placed : (place : ℕ) (handle copy : Handle) → element_at (master_step w.master moment i choice).seen place ≡ Some (CopyStarted handle copy) → IsCopyPlaced config servers clients handle.0 copy.0 v
  copy_placed place handle copy at =
      elim (step_begun w.master moment i choice (below_reached config servers clients w r)) [
        | inl none ↦ none_some (CopyStarted handle copy) (sym (ap (λ (xs : List Seen). element_at xs place) none) ∙ at)
        | inr begun ↦ by_begun (subst (λ (m : MasterState). Begun w.master.logged.next_handle (master_step w.master moment i choice).seen m.logged m.up) (sym now) begun) place handle copy at
      ]

-- a copy begins under a handle that was not used
pub copies_are_new : (config : Config) (servers clients : ℕ) (w : WorldState) → IsReached config servers clients w → (moment : ℕ) (i : NodeInput) (choice : Choice) (place : ℕ) (handle copy : Handle)
    → element_at (master_step w.master moment i choice).seen place ≡ Some (CopyStarted handle copy) → IsTrue w.master.up × (w.master.logged.next_handle ≤ copy.0)
copies_are_new config servers clients w r moment i choice place handle copy at =
    elim (step_shows w.master moment i choice base.base.logged base.waits) [
      | inl none ↦ none_some (CopyStarted handle copy) (sym (ap (λ (xs : List Seen). element_at xs place) none) ∙ at)
      | inr shows ↦
          let one : CopyStarted (handle_of shows.source) (handle_of shows.copy) ≡ CopyStarted handle copy =
          only (CopyStarted (handle_of shows.source) (handle_of shows.copy)) (CopyStarted handle copy) place (sym (ap (λ (xs : List Seen). element_at xs place) shows.seen) ∙ at) in
          (shows.up, subst (λ (q : ℕ). w.master.logged.next_handle ≤ q) (ap (λ (x : Seen). (handles_in x).1) one) shows.new)
    ]
  where
    base : IsOfWaits w.sent w.master
    base = sent_reached IsOfWaits waits_kept config servers clients w r

pub copies_stand_at_their_sources_index : CopiesStandAtTheirSourcesIndex
copies_stand_at_their_sources_index config servers clients w r up handle file index at before step copy c more other later stands =
    sym (stands_at config servers clients (after_events v more) copy index (filed_on (IsStateAt copy index) (IsLogAt copy index) (at_keeps copy index) config servers clients v more reached_v copied) other later stands)
  where
    u : WorldState
    u = after_events w before

    reached_u : IsReached config servers clients u
    reached_u = reached_later config servers clients w before r

    v : WorldState
    v = (happens u step.0 step.1).world

    reached_v : IsReached config servers clients v
    reached_v = reached_later config servers clients u (step ∷ []) reached_u

    source : Filed config servers clients handle index v
    source =
        filed_on (IsStateAt handle index) (IsLogAt handle index) (at_keeps handle index) config servers clients u (step ∷ []) reached_u
        (filed_on (IsStateAt handle index) (IsLogAt handle index) (at_keeps handle index) config servers clients w before r (stood_at config servers clients w r up handle file index at))

    placed : IsCopyPlaced config servers clients handle copy v
    placed = copy_placed config servers clients u v reached_u reached_v c.moment c.input c.choice (ap (λ (x : Happened). x.world.master) c.step_is) c.place (handle_of handle) (handle_of copy) c.seen

    copied : Filed config servers clients copy index v
    copied =
        elim (placed.1) [
          | inl all ↦ all index
          | inr there ↦ subst (λ (n : ℕ). Filed config servers clients copy n v) (((source.up placed.0).0).1 there.0 there.1 there.2) there.3
        ]
