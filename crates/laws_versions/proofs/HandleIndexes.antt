-- Where a handle stands in files, over a step of the master: at one index, once it was used.
use Rattle.std.proofs.Common.{◌≡◌, ◌⊎◌, ℕ, zero, suc, ◌≤◌, ◌<◌, true, false, List, [], ◌∷◌, ◌++◌, length, take, drop, Option, Some, None, refl, sym, ap, subst, ◌∙◌, inl, inr, arith}
use Rattle.std.specs.Prelude.{◌+◌, ◌&&◌, max, unwrap_or, IsTrue}
use Rattle.std.specs.Ordering.{nat_cmp}
use Rattle.std.proofs.lemmas.Bool.{cases_lt}
use Rattle.std.specs.FinMap as table
use Rattle.std.proofs.Math.Nat.{le-max_left, le-max_right, max-le}
use Rattle.gfs_types.specs.declared.config.Config.{Config}
use Rattle.gfs_types.specs.Paths.{Path}
use Rattle.messages.specs.declared.event.NodeInput.{NodeInput}
use Rattle.log_records.specs.declared.record.Record.{Record}
use Rattle.log_records.specs.declared.record.Record.TheVariants as log
use Rattle.relaxed_file.specs.Names.{Node, Dir, File, copied_entries, id_after}
use Rattle.chunk_table.specs.ChunkTable.{ChunkTable, ChunkRow, changed_by, handles_of, grant}
use Rattle.gfs_types.specs.Shapes.{usual_shape}
use Rattle.protocol.specs.Tables.{element_at, with_at, removed_all}
use Rattle.protocol.specs.Choice.{Choice, Ending, Goes, Lost, Stops}
use Rattle.protocol.specs.Seen.{Taken, no_step}
use Rattle.protocol.specs.Logged.{Logged, Copy, first_logged, copies_given_up, LogDisk, LogChange, AppendRecord, WriteCheckpoint, log_changed, log_changed_by_all, after_record, checkpoint_of, copies_for_file, swapped_in, with_copied_node, with_copied_nodes}
use Rattle.protocol.specs.Master.{MasterState, MasterDoing, stopped_master, master_begins, writes_checkpoint}
use Rattle.protocol.specs.MasterStep.{master_goes, master_ends, master_bounded, master_step, is_within_limits, may_end, found_log, row_after_restart, started_master, opening, has_opened, opens_as}
use Rattle.laws_base.proofs.Steps.{on_cond, none_some, same_some, same_or_not, put_split, put_there, put_other, gone_there, gone_other, kept_cases, removed_cases, stays_gone}
use Rattle.laws_base.proofs.FilesNamed.{Files}
use Rattle.laws_base.proofs.Owners.{chunks_at}
use Rattle.laws_base.proofs.CopiesUnderWay.{no_copies}
use Rattle.laws_base.proofs.LoggedParts.{Parts}
use Rattle.laws_base.proofs.GrantedIssued.{IsIssued}
use Rattle.laws_base.proofs.MasterMoves.{Core, core_of, Keeps, Nothing, NoneEnded, core_appended, core_granted, core_ended, core_extended, grant_record, IsDue, IsNoGrantRecord, logs_alone}
use Rattle.laws_base.proofs.OrderNumbers.{state_of, state-appended, AllStops, stops_push, AllFound, found_same, found_stopped}
use Rattle.laws_base.proofs.NamesReached.{IsGood, IsUpToLog, IsLogged, IsNaming, naming_keeps, logged_here, opening_first, opening_naming, known_stays}
use Rattle.laws_base.proofs.RowsLogged.{IsFoundRows, IsRowedLog}
use Rattle.laws_base.proofs.RowsKept.{rows_kept, free_of}
use Rattle.laws_base.proofs.ShapesKept.{KeepsShapes, same_keeps, changed_keeps, removed_keeps}
use Rattle.laws_base.proofs.ShapesTold.{IsFoundTold, IsToldLog, told_kept}
use Rattle.laws_base.proofs.ChunkRows.{Rows, rows_of}
use Rattle.laws_base.proofs.Entries.{mapped_cases}
use Rattle.laws_base.proofs.Awaited.{Attempts}
use Rattle.laws_base.proofs.MasterActs.{IsRowing, rowing_keeps, core_checkpointed, Waits, Acts}
use Rattle.laws_base.proofs.WaitsKept.{WaitsHere, any_input}
use Rattle.laws_base.proofs.ActsOfSteps.{goes_acts}
use Rattle.messages.specs.declared.event.Event.{Event}
use Rattle.protocol.specs.World.{WorldState, new_world, happens, after_events, IsReached}
use Rattle.laws_base.proofs.RisingOrders.{set_cases}
use Rattle.laws_base.proofs.SentReached.{sent_reached}
use Rattle.laws_base.proofs.Events.{HoldsAfter, holds_after}
use Rattle.laws_base.proofs.LeasesStayOver.{reached_later}
use Rattle.laws_base.proofs.WaitsKept.{IsOfWaits, waits_kept}
use Rattle.laws_versions.specs.HandleIndexes.{StandsAtIndex, HandlesStandAtOneIndex, HandlesKeepTheirIndex}

-- lists

pub last_cases : (xs : List ℕ) (y j x : ℕ) → element_at (xs ++ y ∷ []) j ≡ Some x → (element_at xs j ≡ Some x) ⊎ ((j ≡ length xs) × (y ≡ x))
last_cases [] y zero x at = inr (refl, same_some y x at)
last_cases [] y (suc j) x at = none_some x at
last_cases (z ∷ zs) y zero x at = inl at
last_cases (z ∷ zs) y (suc j) x at = elim (last_cases zs y j x at) [ inl before ↦ inl before | inr last ↦ inr (ap (λ (n : ℕ). suc n) last.0, last.1) ]

-- each place of this handle in a file is of Q
module _ (handle : ℕ) (Q : ℕ → Type 0) where
  abbrev pub AreAt : Files → Type 0
  AreAt files = (file j : ℕ) → element_at (chunks_at files file) j ≡ Some handle → Q j

  pub at_put : (files : Files) (g : ℕ) (hs : List ℕ) → ((j : ℕ) → element_at hs j ≡ Some handle → Q j) → AreAt files → AreAt (table.insert files g hs)
  at_put files g hs new h file j at =
      elim (same_or_not file g) [
        | inl same ↦ new j (sym (ap (λ (o : Option (List ℕ)). element_at (unwrap_or o []) j) (put_there files g hs file same)) ∙ at)
        | inr other ↦ h file j (sym (ap (λ (o : Option (List ℕ)). element_at (unwrap_or o []) j) (put_other files g hs file other)) ∙ at)
      ]

  pub at_gone : (files : Files) (g : ℕ) → AreAt files → AreAt (table.remove files g)
  at_gone files g h file j at =
      elim (same_or_not file g) [
        | inl same ↦ none_some handle (sym (ap (λ (o : Option (List ℕ)). element_at (unwrap_or o []) j) (gone_there files g file same)) ∙ at)
        | inr other ↦ h file j (sym (ap (λ (o : Option (List ℕ)). element_at (unwrap_or o []) j) (gone_other files g file other)) ∙ at)
      ]

  pub at_copied : (t : ChunkTable) (next : ℕ) (es : List (Path × Node)) → AreAt t.files → AreAt (with_copied_nodes t next es).files
  at_copied t next [] h = h
  at_copied t next (e ∷ es) h = at_copied (with_copied_node t next e.1) (id_after next e.1) es (one e.1)
    where
      one : (n : Node) → AreAt (with_copied_node t next n).files
      one Dir = h
      one (File id) = at_put t.files next (handles_of t id) (λ j at. h id j at) h

  -- what may be added
  abbrev pub MayBeAdded : Logged → Record → Type 0
  MayBeAdded l (log.AddChunk file new) = new.0 ≡ handle → Q (length (handles_of l.table file.0))
  MayBeAdded l other = Unit {0}

  at_after : (l : Logged) (r : Record) → IsDue (Unit {0}) l r → IsNoGrantRecord r → MayBeAdded l r → AreAt l.table.files → AreAt (after_record l r).table.files
  at_after l (log.Create client n new shape path) due plain may h = at_put l.table.files new.0 [] (λ j at. none_some handle at) h
  at_after l (log.Snapshot client n from to) due plain may h = at_copied l.table l.next_file (copied_entries l.names from to) h
  at_after l (log.Expired gone) due plain may h = at_gone l.table.files gone.0 h
  at_after l (log.AddChunk file new) due plain may h =
      at_put l.table.files file.0 (handles_of l.table file.0 ++ new.0 ∷ [])
      (λ j at. elim (last_cases (handles_of l.table file.0) new.0 j handle at) [ inl before ↦ h file.0 j before | inr last ↦ subst Q (sym last.0) (may last.1) ]) h
  at_after l (log.CopyStart file index source copy copy_version) due plain may h = h
  at_after l (log.Issue chunk version) due plain may h = h
  at_after l (log.Mkdir client n path) due plain may h = h
  at_after l (log.Rmdir client n path) due plain may h = h
  at_after l (log.Delete client n moment path) due plain may h = h
  at_after l (log.Rename client n from to) due plain may h = h
  at_after l (log.Refused client n refusal) due plain may h = h
  at_after l (log.Grant chunk version primary members) due plain may h = absurd plain
  at_after l other due plain may h = absurd due

  -- a copy takes its source's place
  at_swapped : (l : Logged) (q : ℕ) (o : Option Copy) → ((c : Copy) → o ≡ Some c → q ≡ handle → Q c.index) → AreAt l.table.files → AreAt (swapped_in l q o).table.files
  at_swapped l q None may h = h
  at_swapped l q (Some c) may h =
      at_put l.table.files c.file (with_at (handles_of l.table c.file) c.index q)
      (λ j at. elim (set_cases (handles_of l.table c.file) c.index q j handle at) [ inl both ↦ subst Q (sym both.0) (may c refl (sym both.1)) | inr there ↦ h c.file j there ]) h

-- a handle that was used

module _ (handle index : ℕ) where
  abbrev pub IsLogAt : Logged → Type 0
  IsLogAt l = (handle < l.next_handle) × AreAt handle (λ j. j ≡ index) l.table.files

  -- and the place of a copy under way
  abbrev pub IsStateAt : Logged → Type 0
  IsStateAt l = IsLogAt l × ((c : Copy) → table.get l.copies handle ≡ Some c → c.index ≡ index)

  at_next : (l : Logged) (r : Record) → IsDue (Unit {0}) l r → IsNoGrantRecord r → handle < l.next_handle → handle < (after_record l r).next_handle
  at_next l (log.AddChunk file new) due plain low = let high = le-max_left l.next_handle (new.0 + 1) in omega (arith, low, high)
  at_next l (log.CopyStart file at source copy copy_version) due plain low = let high = le-max_left l.next_handle (copy.0 + 1) in omega (arith, low, high)
  at_next l (log.Grant chunk version primary members) due plain low = absurd plain
  at_next l (log.Counters next_file next_handle epoch) due plain low = absurd due
  at_next l other due plain low = low

  at_may : (l : Logged) (r : Record) → IsDue (Unit {0}) l r → handle < l.next_handle → MayBeAdded handle (λ j. j ≡ index) l r
  at_may l (log.AddChunk file new) due low = λ same. let next = due.0 in absurd (omega (arith, low, next, same))
  at_may l other due low = tt

  at_copies : (l : Logged) (r : Record) → IsDue (Unit {0}) l r → IsNoGrantRecord r → IsStateAt l → (c : Copy) → table.get (after_record l r).copies handle ≡ Some c → c.index ≡ index
  at_copies l (log.CopyStart file at source copy copy_version) due plain h c is =
      elim (put_split l.copies copy.0 (record { file = file.0; index = at; source = source.0 }) handle c is) [
        | inl now ↦ absurd (let low = (h.0).0 in let next = due.0 in let same = now.0 in omega (arith, low, next, same))
        | inr before ↦ h.1 c before.1
      ]
  at_copies l (log.Expired gone) due plain h c is = h.1 c (removed_cases l.copies (copies_for_file l gone.0) handle c is)
  at_copies l (log.Grant chunk version primary members) due plain h c is = absurd plain
  at_copies l other due plain h c is = h.1 c is

  pub state_after : (l : Logged) (r : Record) → IsDue (Unit {0}) l r → IsNoGrantRecord r → IsStateAt l → IsStateAt (after_record l r)
  state_after l r due plain h = ((at_next l r due plain (h.0).0, at_after handle (λ j. j ≡ index) l r due plain (at_may l r due (h.0).0) (h.0).1), at_copies l r due plain h)

  pub state_granted : (l : Logged) (q version primary : ℕ) (members : List ℕ) → IsStateAt l → IsStateAt (after_record l (grant_record q version primary members))
  state_granted l q version primary members h = by_copy (table.get l.copies q) refl
    where
      one : Logged
      one = record l { table = grant l.table q version primary members }

      next : (o : Option Copy) → (swapped_in one q o).next_handle ≡ l.next_handle
      next None = refl
      next (Some c) = refl

      copies : (o : Option Copy) (c : Copy) → table.get (swapped_in one q o).copies handle ≡ Some c → c.index ≡ index
      copies None c is = h.1 c is
      copies (Some x) c is = h.1 c (kept_cases l.copies q handle c is)

      by_copy : (o : Option Copy) → table.get l.copies q ≡ o → IsStateAt (swapped_in one q o)
      by_copy o is = (
        (subst (λ (n : ℕ). handle < n) (sym (next o)) (h.0).0, at_swapped handle (λ j. j ≡ index) one q o (λ c now same. h.1 c (ap (λ (n : ℕ). table.get l.copies n) (sym same) ∙ (is ∙ now))) (h.0).1),
        copies o,
      )

-- a handle of the log that was not used yet, or stands at one index

module _ (handle : ℕ) where
  abbrev pub IsLogNew : Logged → Type 0
  IsLogNew l = (l.next_handle ≤ handle) × AreAt handle (λ j. ⊥) l.table.files

  abbrev pub IsLogGood : Logged → Type 0
  IsLogGood l = IsLogNew l ⊎ ((index : ℕ) × IsLogAt handle index l)

  abbrev pub IsStateGood : Logged → Type 0
  IsStateGood l = (IsLogNew l × (table.get l.copies handle ≡ None)) ⊎ ((index : ℕ) × IsStateAt handle index l)

  new_next : (l : Logged) (n : ℕ) → n ≡ l.next_handle → (handle ≡ n → ⊥) → l.next_handle ≤ handle → max l.next_handle (n + 1) ≤ handle
  new_next l n same other low =
      max-le low
      (elim (cases_lt n handle) [
        | inl less ↦ omega (arith, less)
        | inr least ↦ absurd (other (omega (arith, least, low, same)))
      ])

  new_after : (l : Logged) (r : Record) → IsDue (Unit {0}) l r → IsNoGrantRecord r → IsLogNew l → table.get l.copies handle ≡ None → IsStateGood (after_record l r)
  new_after l (log.AddChunk file new) due plain h none =
      elim (same_or_not handle new.0) [
        | inl same ↦ inr (
          length (handles_of l.table file.0),
          (
            (
              (let high = le-max_right l.next_handle (new.0 + 1) in omega (arith, same, high)),
              at_after handle (λ j. j ≡ length (handles_of l.table file.0)) l (log.AddChunk file new) due plain (λ _. refl) (λ of_file j at. absurd (h.1 of_file j at)),
            ),
            λ c is. none_some c (sym none ∙ is),
          ),
        )
        | inr other ↦ inl ((new_next l new.0 due.0 other h.0, at_after handle (λ j. ⊥) l (log.AddChunk file new) due plain (λ same. other (sym same)) h.1), none)
      ]
  new_after l (log.CopyStart file at source copy copy_version) due plain h none =
      elim (same_or_not handle copy.0) [
        | inl same ↦ inr (
          at,
          (
            ((let high = le-max_right l.next_handle (copy.0 + 1) in omega (arith, same, high)), λ of_file j there. absurd (h.1 of_file j there)),
            λ c is. ap (λ (x : Copy). x.index) (same_some c started (sym is ∙ put_there l.copies copy.0 started handle same)),
          ),
        )
        | inr other ↦ inl ((new_next l copy.0 due.0 other h.0, h.1), put_other l.copies copy.0 started handle other ∙ none)
      ]
    where
      started : Copy
      started = record { file = file.0; index = at; source = source.0 }
  new_after l (log.Expired gone) due plain h none = inl ((h.0, at_after handle (λ j. ⊥) l (log.Expired gone) due plain tt h.1), stays_gone l.copies (copies_for_file l gone.0) handle none)
  new_after l (log.Create client n new shape path) due plain h none = inl ((h.0, at_after handle (λ j. ⊥) l (log.Create client n new shape path) due plain tt h.1), none)
  new_after l (log.Snapshot client n from to) due plain h none = inl ((h.0, at_after handle (λ j. ⊥) l (log.Snapshot client n from to) due plain tt h.1), none)
  new_after l (log.Issue chunk version) due plain h none = inl (h, none)
  new_after l (log.Mkdir client n path) due plain h none = inl (h, none)
  new_after l (log.Rmdir client n path) due plain h none = inl (h, none)
  new_after l (log.Delete client n moment path) due plain h none = inl (h, none)
  new_after l (log.Rename client n from to) due plain h none = inl (h, none)
  new_after l (log.Refused client n refusal) due plain h none = inl (h, none)
  new_after l (log.Grant chunk version primary members) due plain h none = absurd plain
  new_after l other due plain h none = absurd due

  good_after : (l : Logged) (r : Record) → IsDue (Unit {0}) l r → IsNoGrantRecord r → IsStateGood l → IsStateGood (after_record l r)
  good_after l r due plain (inl new) = new_after l r due plain new.0 new.1
  good_after l r due plain (inr used) = inr (used.0, state_after handle used.0 l r due plain used.1)

  good_granted : (l : Logged) (q version primary : ℕ) (members : List ℕ) → IsStateGood l → IsStateGood (after_record l (grant_record q version primary members))
  good_granted l q version primary members (inr used) = inr (used.0, state_granted handle used.0 l q version primary members used.1)
  good_granted l q version primary members (inl new) = inl (by_copy (table.get l.copies q) refl)
    where
      one : Logged
      one = record l { table = grant l.table q version primary members }

      next : (o : Option Copy) → (swapped_in one q o).next_handle ≡ l.next_handle
      next None = refl
      next (Some c) = refl

      copies : (o : Option Copy) → table.get (swapped_in one q o).copies handle ≡ None
      copies None = new.1
      copies (Some x) = stays_less q
        where
          stays_less : (k : ℕ) → table.get (table.remove l.copies k) handle ≡ None
          stays_less k = elim (same_or_not handle k) [ inl same ↦ gone_there l.copies k handle same | inr other ↦ gone_other l.copies k handle other ∙ new.1 ]

      by_copy : (o : Option Copy) → table.get l.copies q ≡ o → IsLogNew (swapped_in one q o) × (table.get (swapped_in one q o).copies handle ≡ None)
      by_copy o is = (
        (subst (λ (n : ℕ). n ≤ handle) (sym (next o)) (new.0).0, at_swapped handle (λ j. ⊥) one q o (λ c now same. none_some c (sym new.1 ∙ (ap (λ (n : ℕ). table.get l.copies n) (sym same) ∙ (is ∙ now)))) (new.0).1),
        copies o,
      )

-- what is kept of the state and of the log

-- each row was there, of no copy, with its shape if that was known
abbrev pub AreRowsOpened : Logged → Logged → Type 0
AreRowsOpened l k = (q : ℕ) (row : ChunkRow) → table.get (rows_of k) q ≡ Some row
    → (old : ChunkRow) × (table.get (rows_of l) q ≡ Some old) × (table.get l.copies q ≡ None) × ((old.shape ≡ row.shape) ⊎ (old.shape.chunk ≡ 0))

pub record KeepsFiles (S L : Logged → Type 0) : Type 0 where
  pub logs : (l k : Logged) → l.table.files ≡ k.table.files → l.next_handle ≡ k.next_handle → IsToldLog l k → S l → L k
  pub log_same : (l k : Logged) → l.table.files ≡ k.table.files → l.table.shapes ≡ k.table.shapes → l.next_handle ≡ k.next_handle → L l → L k
  pub opens : (l k : Logged) → l.table.files ≡ k.table.files → l.next_handle ≡ k.next_handle → ((q : ℕ) → table.get k.copies q ≡ None) → IsFoundRows l → IsFoundTold l → AreRowsOpened l k → L l → S k
  pub less : (l k : Logged) → l.table.files ≡ k.table.files → l.next_handle ≡ k.next_handle → ((q : ℕ) (c : Copy) → table.get k.copies q ≡ Some c → table.get l.copies q ≡ Some c) → KeepsShapes (rows_of l) (rows_of k)
      → S l → S k
  pub after : (l : Logged) (r : Record) → IsDue (Unit {0}) l r → IsNoGrantRecord r → S l → S (after_record l r)
  pub granted : (l : Logged) (q version primary : ℕ) (members : List ℕ) → S l → S (after_record l (grant_record q version primary members))

same_at : (handle index : ℕ) (l k : Logged) → l.table.files ≡ k.table.files → l.next_handle ≡ k.next_handle → IsLogAt handle index l → IsLogAt handle index k
same_at handle index l k files next h = (subst (λ (n : ℕ). handle < n) next h.0, subst (λ (f : Files). AreAt handle (λ j. j ≡ index) f) files h.1)

same_new : (handle : ℕ) (l k : Logged) → l.table.files ≡ k.table.files → l.next_handle ≡ k.next_handle → IsLogNew handle l → IsLogNew handle k
same_new handle l k files next h = (subst (λ (n : ℕ). n ≤ handle) next h.0, subst (λ (f : Files). AreAt handle (λ j. ⊥) f) files h.1)

pub at_keeps : (handle index : ℕ) → KeepsFiles (IsStateAt handle index) (IsLogAt handle index)
at_keeps handle index =
    record {
      logs = λ l k files next told h. same_at handle index l k files next h.0;
      log_same = λ l k files shapes next h. same_at handle index l k files next h;
      opens = λ l k files next none rows told opened h. (same_at handle index l k files next h, λ c is. none_some c (sym (none handle) ∙ is));
      less = λ l k files next fewer keeps h. (same_at handle index l k files next h.0, λ c is. h.1 c (fewer handle c is));
      after = λ l r due plain h. state_after handle index l r due plain h;
      granted = λ l q version primary members h. state_granted handle index l q version primary members h;
    }

pub good_keeps : (handle : ℕ) → KeepsFiles (IsStateGood handle) (IsLogGood handle)
good_keeps handle =
    record {
      logs = λ l k files next told h. elim (h) [ inl new ↦ inl (same_new handle l k files next new.0) | inr used ↦ inr (used.0, same_at handle used.0 l k files next (used.1).0) ];
      log_same = λ l k files shapes next h. elim (h) [ inl new ↦ inl (same_new handle l k files next new) | inr used ↦ inr (used.0, same_at handle used.0 l k files next used.1) ];
      opens = λ l k files next none rows told opened h. elim (h) [
        | inl new ↦ inl (same_new handle l k files next new, none handle)
        | inr used ↦ inr (used.0, (same_at handle used.0 l k files next used.1, λ c is. none_some c (sym (none handle) ∙ is)))
      ];
      less = λ l k files next fewer keeps h. elim (h) [
        | inl new ↦ inl (same_new handle l k files next new.0, still_none l k (fewer handle) new.1)
        | inr used ↦ inr (used.0, (same_at handle used.0 l k files next (used.1).0, λ c is. (used.1).1 c (fewer handle c is)))
      ];
      after = λ l r due plain h. good_after handle l r due plain h;
      granted = λ l q version primary members h. good_granted handle l q version primary members h;
    }
  where
    still_none : (l k : Logged) → ((c : Copy) → table.get k.copies handle ≡ Some c → table.get l.copies handle ≡ Some c) → table.get l.copies handle ≡ None → table.get k.copies handle ≡ None
    still_none l k fewer none = by_copy (table.get k.copies handle) refl
      where
        by_copy : (o : Option Copy) → table.get k.copies handle ≡ o → o ≡ None
        by_copy None is = refl
        by_copy (Some c) is = none_some c (sym none ∙ fewer c is)

-- a step of the master, with what its log tells

abbrev IsKnowing : LogDisk → Core → Type 0
IsKnowing start c = IsRowing start c × IsNaming IsFoundTold IsToldLog told_kept start c

knowing_keeps : (start : LogDisk) → Keeps (Unit {0}) Nothing NoneEnded (IsKnowing start)
knowing_keeps start =
    let rows : Keeps (Unit {0}) Nothing NoneEnded (IsRowing start) = rowing_keeps start in
    let told : Keeps (Unit {0}) Nothing NoneEnded (IsNaming IsFoundTold IsToldLog told_kept start) = naming_keeps IsFoundTold IsToldLog told_kept start NoneEnded in
    record {
      sound = λ asks c h. rows.sound asks c h.0;
      tells = λ c receiver b quiet h. (rows.tells c receiver b quiet h.0, told.tells c receiver b quiet h.1);
      orders = λ c server b is plain h. (rows.orders c server b is plain h.0, told.orders c server b is plain h.1);
      revokes = λ c handle row is h. (rows.revokes c handle row is h.0, told.revokes c handle row is h.1);
      grants = λ c handle version until primary members said due names from ended h.
          (rows.grants c handle version until primary members said due names from ended h.0, told.grants c handle version until primary members said due names from ended h.1);
      appends = λ c r due plain names h. (rows.appends c r due plain names h.0, told.appends c r due plain names h.1);
      checkpoint = λ c tree h. (rows.checkpoint c tree h.0, told.checkpoint c tree h.1);
      less = λ c handles copied h. (rows.less c handles copied h.0, told.less c handles copied h.1);
      ends = λ c handle row is word h. (rows.ends c handle row is word h.0, told.ends c handle row is word h.1);
      extends = λ c handle until row is lasts later from h. (rows.extends c handle until row is lasts later from h.0, told.extends c handle until row is lasts later from h.1);
    }

-- the end of a lease leaves the shapes of rows
ended_shapes : (l : Logged) (handle moment : ℕ) → KeepsShapes (rows_of l) (changed_by (rows_of l) handle (λ row. record row { lease_end = moment }) (table.get (rows_of l) handle))
ended_shapes l handle moment = changed_keeps (rows_of l) handle (λ row. record row { lease_end = moment }) (λ row. refl)

module _ (S L : Logged → Type 0) (keeps : KeepsFiles S L) where
  abbrev IsLog : LogDisk → Type 0
  IsLog d = L (state_of d)

  log_kept : (start : LogDisk) (c : Core) → IsKnowing start c → S c.logged → IsLog c.disk
  log_kept start c n h = keeps.logs c.logged (state_of c.disk) n.0.tied.base.base.files (ap (λ (p : Parts). p.next_handle) n.0.same) n.1.tied h

  record IsFiling (start : LogDisk) (c : Core) : Type 0 where
    state : S c.logged
    stops : AllStops IsLog start c.changes

  module _ (start : LogDisk) where
    stops_kept : (c : Core) (x : LogChange) → IsKnowing start c → IsLog (log_changed c.disk x) → AllStops IsLog start c.changes → AllStops IsLog start (c.changes ++ x ∷ [])
    stops_kept c x n new h = stops_push IsLog start c.changes x h (subst (λ (d : LogDisk). IsLog (log_changed d x)) (sym n.0.disk) new)

    appended : (c : Core) (r : Record) → IsDue (Unit {0}) c.logged r → IsNoGrantRecord r → IsKnowing start c → IsKnowing start (core_appended c r) → IsFiling start c → IsFiling start (core_appended c r)
    appended c r due plain n after h =
        let kept : S (after_record c.logged r) = keeps.after c.logged r due plain h.state in
        record { state = kept; stops = stops_kept c (AppendRecord r) n (log_kept start (core_appended c r) after kept) h.stops }

    checkpointed : (c : Core) → IsKnowing start c → IsKnowing start (core_checkpointed c) → IsFiling start c → IsFiling start (core_checkpointed c)
    checkpointed c n after h =
        let kept : S (core_checkpointed c).logged = keeps.less c.logged (core_checkpointed c).logged refl refl (λ q d is. removed_cases c.logged.copies (table.keys c.logged.copies) q d is) (removed_keeps (rows_of c.logged) (table.keys c.logged.copies)) h.state in
        record { state = kept; stops = stops_kept c (WriteCheckpoint (checkpoint_of c.logged)) n (log_kept start (core_checkpointed c) after kept) h.stops }

    granted : (c : Core) (q version until primary : ℕ) (members : List ℕ) → IsKnowing start c → IsKnowing start (core_granted c q version until primary members) → IsFiling start c → IsFiling start (core_granted c q version until primary members)
    granted c q version until primary members n after h =
        let kept : S (core_granted c q version until primary members).logged =
        keeps.less (after_record c.logged (grant_record q version primary members)) (core_granted c q version until primary members).logged refl refl (λ k d is. is)
        (ended_shapes (after_record c.logged (grant_record q version primary members)) q until) (keeps.granted c.logged q version primary members h.state) in
        record { state = kept; stops = stops_kept c (AppendRecord (grant_record q version primary members)) n (log_kept start (core_granted c q version until primary members) after kept) h.stops }

    abbrev Filing : Core → Attempts → Waits → Type 0
    Filing c attempts ss = IsFiling start c

    filing_acts : Acts start NoneEnded (IsKnowing start) Filing
    filing_acts =
        record {
          tells = λ c attempts ss receiver b quiet h. record { state = h.state; stops = h.stops };
          orders = λ c attempts ss server b is plain none h. record { state = h.state; stops = h.stops };
          gives = λ c attempts ss server q a b at has plain given h. record { state = h.state; stops = h.stops };
          revokes = λ c attempts ss q row is h. record { state = h.state; stops = h.stops };
          appends = λ c attempts ss r due plain beside n after h. appended c r due plain n after h;
          checkpoint = λ c attempts ss tree n after h. checkpointed c n after h;
          less = λ c attempts ss handles copied n h. record { state = keeps.less c.logged (copies_given_up c.logged handles) refl refl (λ q d is. removed_cases c.logged.copies handles q d is) (removed_keeps (rows_of c.logged) handles) h.state; stops = h.stops };
          fewer = λ c attempts left ss from h. h;
          waits = λ c attempts ss more h. h;
          issues = λ c attempts ss q row a is next alone n before h. h;
          copies = λ c attempts ss of_file at source copy a next n before h. h;
          records = λ c attempts ss q a b at same servers h. h;
          grants = λ c attempts ss q a until primary members at all due n after h. granted c q a.version until primary members n after h;
          ends = λ c attempts ss q row is word n h. record { state = keeps.less c.logged (core_ended c q 0).logged refl refl (λ k d is_copy. is_copy) (ended_shapes c.logged q 0) h.state; stops = h.stops };
          extends = λ c attempts ss q until row is lasts n h. record { state = keeps.less c.logged (core_extended c q row.granted until row.primary).logged refl refl (λ k d is_copy. is_copy) (ended_shapes c.logged q until) h.state; stops = h.stops };
        }

  -- between steps: in each log that a stop may leave, and at a master that is up
  pub record AreFiled (m : MasterState) : Type 0 where
    pub found : AllFound IsLog m.disk m.under_way
    pub up : IsTrue m.up → S m.logged

  down_filed : (m : MasterState) (disk : LogDisk) (under_way : List LogChange) → AllFound IsLog disk under_way → AreFiled (stopped_master m disk under_way)
  down_filed m disk under_way found = record { found = found; up = λ up. absurd (let both : false ≡ true = up in cc) }

  ends_filed : (m : MasterState) (d : MasterDoing) (choice : Choice) (e : Ending) → AreFiled m → IsKnowing m.disk (core_of d) → S d.master.logged → AllStops IsLog m.disk d.changes → AreFiled (master_ends m d choice e).state
  ends_filed m d choice Goes h n kept stops =
      record {
        found = subst (λ (xs : List LogChange). AllFound IsLog d.master.disk xs) (sym n.0.none) (found_same IsLog d.master.disk (log_kept m.disk (core_of d) n kept));
        up = λ _. kept;
      }
  ends_filed m d choice Lost h n kept stops = down_filed m m.disk [] (found_same IsLog m.disk (h.found []))
  ends_filed m d choice (Stops made) h n kept stops = down_filed m (log_changed_by_all m.disk (take made d.changes)) (take 1 (drop made d.changes)) (found_stopped IsLog m.disk d.changes made stops)

  step_filed : (m : MasterState) (moment : ℕ) (i : NodeInput) (choice : Choice) → IsLogged IsFoundRows IsRowedLog rows_kept m → IsLogged IsFoundTold IsToldLog told_kept m → WaitsHere m → IsTrue m.up → AreFiled m → AreFiled (master_step m moment i choice).state
  step_filed m moment i choice logged told waits up h =
      let d : MasterDoing = master_goes m moment i choice.refused in
      let good : Taken MasterState → Type 0 = λ t. AreFiled t.state in
      let u : IsUpToLog IsFoundRows IsRowedLog rows_kept m = logged.up up in
      let t : IsUpToLog IsFoundTold IsToldLog told_kept m = told.up up in
      let end =
      goes_acts NoneEnded (IsKnowing m.disk) (Filing m.disk) m moment i choice.refused (knowing_keeps m.disk) (λ c n. n.0) (filing_acts m.disk) (any_input i) logged up waits
      (record { none = u.idle; disk = refl; same = u.same; tied = u.tied; stops = logged.found [] }, record { none = t.idle; disk = refl; same = t.same; tied = t.tied; stops = told.found [] })
      (record { state = h.up up; stops = h.found [] }) in
      on_cond good m.up (master_bounded m i d choice) (no_step m)
      (λ _. on_cond good (may_end m i d choice.ending) (master_ends m d choice choice.ending) (no_step m) (λ _. ends_filed m d choice choice.ending h end.0 end.2.state end.2.stops) (λ _. h))
      (λ _. h)

  -- a master that opens

  -- its rows are those of what it found that are of no copy
  rows_opened : (config : Config) (found : LogDisk) (moment : ℕ) → AreRowsOpened (state_of found) (started_master config 0 found moment).logged
  rows_opened config found moment q row is =
      let here : Rows = removed_all (rows_of (state_of found)) (table.keys (state_of found).copies) in
      let old = mapped_cases (row_after_restart config moment) here q row is in (
        old.0,
        removed_cases (rows_of (state_of found)) (table.keys (state_of found).copies) q old.0 old.1,
        free_of (state_of found).copies q old.0 (rows_of (state_of found)) old.1,
        elim (known_stays (usual_shape config) (old.0).shape) [ inl same ↦ inl (sym same ∙ ap (λ (x : ChunkRow). x.shape) old.2) | inr none ↦ inr none ],
      )

  record IsOpening (start : LogDisk) (c : Core) : Type 0 where
    state : S c.logged
    disk : IsLog c.disk
    stops : AllStops IsLog start c.changes

  epoch_begun : (start : LogDisk) (c : Core) (epoch : ℕ) → IsKnowing start c → IsOpening start c → IsOpening start (core_appended c (log.Epoch epoch))
  epoch_begun start c epoch n h =
      let written : IsLog (log_changed c.disk (AppendRecord (log.Epoch epoch))) =
      subst L (sym (state-appended c.disk (log.Epoch epoch))) (keeps.log_same (state_of c.disk) (after_record (state_of c.disk) (log.Epoch epoch)) refl refl refl h.disk) in
      record { state = keeps.less c.logged (after_record c.logged (log.Epoch epoch)) refl refl (λ q d is. is) (same_keeps (rows_of c.logged)) h.state; disk = written; stops = stops_kept start c (AppendRecord (log.Epoch epoch)) n written h.stops }

  opening_filed : (config : Config) (count : ℕ) (found : LogDisk) (moment : ℕ) → IsGood IsFoundRows IsRowedLog rows_kept found → IsGood IsFoundTold IsToldLog told_kept found → IsLog found → IsOpening found (core_of (opening (started_master config count found moment)))
  opening_filed config count found moment good known h =
      let started : MasterState = started_master config count found moment in
      let d : MasterDoing = master_begins started [] in
      let b : MasterDoing = writes_checkpoint d in
      let epoch : ℕ = suc started.logged.epoch in
      let n : IsKnowing found (core_of d) = (opening_first IsFoundRows IsRowedLog rows_kept config count found moment good, opening_first IsFoundTold IsToldLog told_kept config count found moment known) in
      let after : IsKnowing found (core_of b) = (knowing_keeps found).checkpoint (core_of d) (λ _. good.0) n in
      let first : S started.logged = keeps.opens (state_of found) started.logged refl refl (λ q. no_copies (state_of found).copies q) good.1 known.1 (rows_opened config found moment) h in
      let one : IsOpening found (core_of d) = record { state = first; disk = h; stops = h } in
      let fewer : S b.master.logged = keeps.less started.logged b.master.logged refl refl (λ q c is. removed_cases started.logged.copies (table.keys started.logged.copies) q c is) (removed_keeps (rows_of started.logged) (table.keys started.logged.copies)) first in
      let written : IsLog b.master.disk = log_kept found (core_of b) after fewer in
      let two : IsOpening found (core_of b) = record { state = fewer; disk = written; stops = stops_kept found (core_of d) (WriteCheckpoint (checkpoint_of started.logged)) n written h } in
      logs_alone (λ e. IsOpening found (core_of e)) d (log.Epoch epoch) one (epoch_begun found (core_of d) epoch n one) two (epoch_begun found (core_of b) epoch after two)

  opens_filed : (old : MasterState) (moment : ℕ) (choice : Choice) (e : Ending) → IsIssued old → IsLogged IsFoundRows IsRowedLog rows_kept old → IsLogged IsFoundTold IsToldLog told_kept old → AreFiled old
      → (let started : MasterState = started_master old.config old.server_count (found_log old choice) moment in AreFiled (opens_as old started (opening started) choice e).state)
  opens_filed old moment choice Lost issued logged told h = down_filed old old.disk old.under_way h.found
  opens_filed old moment choice (Stops made) issued logged told h =
      let found : LogDisk = found_log old choice in
      let d : MasterDoing = opening (started_master old.config old.server_count found moment) in
      let g : IsOpening found (core_of d) = opening_filed old.config old.server_count found moment (logged.found choice.decided) (told.found choice.decided) (h.found choice.decided) in
      down_filed old (log_changed_by_all found (take made d.changes)) (take 1 (drop made d.changes)) (found_stopped IsLog found d.changes made g.stops)
  opens_filed old moment choice Goes issued logged told h =
      let found : LogDisk = found_log old choice in
      let started : MasterState = started_master old.config old.server_count found moment in
      let d : MasterDoing = opening started in
      let n : IsRowing found (core_of d) =
      (opening_naming IsFoundRows IsRowedLog rows_kept old.config old.server_count found moment (logged.found choice.decided) (issued.found choice.decided)).0 in
      let g : IsOpening found (core_of d) = opening_filed old.config old.server_count found moment (logged.found choice.decided) (told.found choice.decided) (h.found choice.decided) in
      on_cond (λ (t : Taken MasterState). AreFiled t.state) (has_opened started d && is_within_limits d.master) _ _
      (λ _. record { found = subst (λ (xs : List LogChange). AllFound IsLog d.master.disk xs) (sym n.none) (found_same IsLog d.master.disk g.disk); up = λ _. g.state })
      (λ _. down_filed old d.master.disk [] (found_same IsLog d.master.disk g.disk))

  -- worlds

  each_filed : (config : Config) (servers clients : ℕ) (w : WorldState) → IsReached config servers clients w → AreFiled w.master → HoldsAfter w (λ e x. AreFiled x.world.master)
  each_filed config servers clients w r h =
      let base : IsOfWaits w.sent w.master = sent_reached IsOfWaits waits_kept config servers clients w r in
      let told : IsLogged IsFoundTold IsToldLog told_kept w.master = (logged_here IsFoundTold IsToldLog told_kept config servers clients w r).1 in
      record {
        nothing = λ e. h;
        masters = λ e moment i choice is up. step_filed w.master moment i choice base.base.logged told base.waits up h;
        opens = λ e moment choice. opens_filed w.master moment choice choice.ending base.base.issued base.base.logged told h;
        serves = λ e at moment s i choice there is up. h;
        restarts = λ e at moment s choice there. h;
        steps = λ e at moment s i choice there is up. h;
        calls = λ e at moment s c choice there may. h;
        rots = λ e at q s x place byte ending is_kept there held up. h;
      }

  pub filed_on : (config : Config) (servers clients : ℕ) (w : WorldState) (steps : List (Event × Choice)) → IsReached config servers clients w → AreFiled w.master → AreFiled (after_events w steps).master
  filed_on config servers clients w [] r h = h
  filed_on config servers clients w (step ∷ rest) r h =
      filed_on config servers clients (happens w step.0 step.1).world rest (reached_later config servers clients w (step ∷ []) r) (holds_after w (λ e x. AreFiled x.world.master) (each_filed config servers clients w r h) step.0 step.1)

  -- at a master that is up
  pub filed_up : (config : Config) (servers clients : ℕ) (w : WorldState) → IsReached config servers clients w → IsTrue w.master.up → S w.master.logged → AreFiled w.master
  filed_up config servers clients w r up h =
      let u : IsUpToLog IsFoundRows IsRowedLog rows_kept w.master = (sent_reached IsOfWaits waits_kept config servers clients w r).base.logged.up up in
      let t : IsUpToLog IsFoundTold IsToldLog told_kept w.master = (logged_here IsFoundTold IsToldLog told_kept config servers clients w r).1.up up in
      record {
        found = subst (λ (xs : List LogChange). AllFound IsLog w.master.disk xs) (sym u.idle) (found_same IsLog w.master.disk (keeps.logs w.master.logged (state_of w.master.disk) u.tied.base.base.files (ap (λ (p : Parts). p.next_handle) u.same) t.tied h));
        up = λ _. h;
      }

-- the laws

first_good : (handle : ℕ) → IsStateGood handle first_logged
first_good zero = inr (0, ((omega arith, λ file j at. none_some 0 (sym (ap (λ (o : Option (List ℕ)). element_at (unwrap_or o []) j) (table.get-empty nat_cmp file)) ∙ at)), λ c is. none_some c (sym (table.get-empty nat_cmp 0) ∙ is)))
first_good (suc n) = inl ((omega arith, λ file j at. none_some (suc n) (sym (ap (λ (o : Option (List ℕ)). element_at (unwrap_or o []) j) (table.get-empty nat_cmp file)) ∙ at)), table.get-empty nat_cmp (suc n))

module _ (config : Config) (servers clients : ℕ) where
  pub good_reached : (handle : ℕ) (w : WorldState) → IsReached config servers clients w → AreFiled (IsStateGood handle) (IsLogGood handle) (good_keeps handle) w.master
  good_reached handle w r =
      subst (λ (v : WorldState). AreFiled (IsStateGood handle) (IsLogGood handle) (good_keeps handle) v.master) r.1
      (filed_on (IsStateGood handle) (IsLogGood handle) (good_keeps handle) config servers clients start r.0 ([], refl)
      (filed_up (IsStateGood handle) (IsLogGood handle) (good_keeps handle) config servers clients start ([], refl) refl
      ((good_keeps handle).less first_logged start.master.logged refl refl (λ q c is. is) (same_keeps (rows_of first_logged)) (first_good handle))))
    where
      start : WorldState
      start = new_world config servers clients

  abbrev pub Filed : ℕ → ℕ → WorldState → Type 0
  Filed handle index w = AreFiled (IsStateAt handle index) (IsLogAt handle index) (at_keeps handle index) w.master

  -- where it stands at a master that is up, it is used, at that index
  pub stood_at : (w : WorldState) → IsReached config servers clients w → IsTrue w.master.up → (handle file index : ℕ) → element_at (handles_of w.master.logged.table file) index ≡ Some handle → Filed handle index w
  stood_at w r up handle file index at =
      elim ((good_reached handle w r).up up) [
        | inl new ↦ absurd ((new.0).1 file index at)
        | inr used ↦ filed_up (IsStateAt handle index) (IsLogAt handle index) (at_keeps handle index) config servers clients w r up (subst (λ (n : ℕ). IsStateAt handle n w.master.logged) (sym (((used.1).0).1 file index at)) used.1)
      ]

  pub stands_at : (w : WorldState) (handle index : ℕ) → Filed handle index w → (file other : ℕ) → StandsAtIndex w file other handle → other ≡ index
  stands_at w handle index h file other (inl in_log) = (h.found []).1 file other in_log
  stands_at w handle index h file other (inr at_master) = ((h.up at_master.0).0).1 file other at_master.1

  -- two places in one log
  log_once : (handle : ℕ) (t : Logged) → IsLogGood handle t → (file index other later : ℕ) → element_at (handles_of t.table file) index ≡ Some handle → element_at (handles_of t.table other) later ≡ Some handle → index ≡ later
  log_once handle t (inl new) file index other later at there = absurd (new.1 file index at)
  log_once handle t (inr used) file index other later at there = (used.1).1 file index at ∙ sym ((used.1).1 other later there)

pub handles_keep_their_index : HandlesKeepTheirIndex
handles_keep_their_index config servers clients w r up handle file index at steps other later stands =
    sym (stands_at config servers clients (after_events w steps) handle index
    (filed_on (IsStateAt handle index) (IsLogAt handle index) (at_keeps handle index) config servers clients w steps r (stood_at config servers clients w r up handle file index at)) other later stands)

pub handles_stand_at_one_index : HandlesStandAtOneIndex
handles_stand_at_one_index config servers clients w r handle file index other later (inl at) (inl there) = log_once config servers clients handle (state_of w.master.disk) ((good_reached config servers clients handle w r).found []) file index other later at there
handles_stand_at_one_index config servers clients w r handle file index other later (inr at) stands = handles_keep_their_index config servers clients w r at.0 handle file index at.1 [] other later stands
handles_stand_at_one_index config servers clients w r handle file index other later (inl at) (inr there) = sym (handles_keep_their_index config servers clients w r there.0 handle other later there.1 [] file index (inl at))
