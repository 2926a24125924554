-- A step of the master moves no chunk that is attempted: one whose attempt began before the step, or is of no number above a version, stands only where it stood.
use Rattle.std.proofs.Common.{◌≡◌, ◌⊎◌, ℕ, zero, suc, ◌<◌, Bool, List, [], ◌∷◌, ◌++◌, Option, Some, None, refl, sym, ap, subst, ◌∙◌, inl, inr, arith}
use Rattle.std.specs.Prelude.{unwrap_or, IsTrue}
use Rattle.std.specs.FinMap as table
use Rattle.gfs_types.specs.Paths.{Path}
use Rattle.gfs_types.specs.declared.config.Config.{Config}
use Rattle.messages.specs.declared.event.NodeInput.{NodeInput}
use Rattle.log_records.specs.declared.record.Record.{Record}
use Rattle.log_records.specs.declared.record.Record.TheVariants as log
use Rattle.chunk_table.specs.ChunkTable.{ChunkTable, handles_of, set_end}
use Rattle.relaxed_file.specs.Names.{Node, Dir, File, copied_entries, id_after}
use Rattle.relaxed_file.proofs.NamesTree.{HasAt, copied_of, entry_is}
use Rattle.protocol.specs.Tables.{element_at, with_at, removed_all}
use Rattle.protocol.specs.Sending.{handle_of, version_of}
use Rattle.protocol.specs.Logged.{Logged, Copy, LogDisk, after_record, copies_for_file, copies_given_up, all_copies_given_up, swapped_in, with_copied_node, with_copied_nodes}
use Rattle.protocol.specs.Master.{MasterState, MasterDoing, VersionAttempt}
use Rattle.protocol.specs.MasterStep.{master_goes}
use Rattle.protocol.specs.World.{WorldState, IsReached}
use Rattle.laws_base.proofs.Steps.{none_some, same_some, same_or_not, put_cases, put_there, put_other, gone_there, gone_other, gone_split, removed_cases}
use Rattle.laws_base.proofs.ChunkRows.{rows_of}
use Rattle.laws_base.proofs.FilesNamed.{Files}
use Rattle.laws_base.proofs.OneName.{HasOneName}
use Rattle.laws_base.proofs.Owners.{chunks_at, placed_stands}
use Rattle.laws_base.proofs.MasterMoves.{Core, core_of, grant_record, IsDue, IsNoGrantRecord, NoneEnded}
use Rattle.laws_base.proofs.RowsFit.{granted_logged}
use Rattle.laws_base.proofs.RowsLogged.{IsFoundRows, IsRowedLog}
use Rattle.laws_base.proofs.RowsKept.{rows_kept}
use Rattle.laws_base.proofs.NamesReached.{IsUpToLog, logged_here}
use Rattle.laws_base.proofs.Awaited.{Attempts, AreWaiting}
use Rattle.laws_base.proofs.MasterActs.{IsRowing, rowing_keeps, Waits, Acts}
use Rattle.laws_base.proofs.WaitsKept.{any_input, waits_here}
use Rattle.laws_base.proofs.ActsOfSteps.{goes_acts}
use Rattle.laws_base.proofs.IssuedNumbers.{IsPassed, passed_after, passed_grant, passed_ended, passed_less}
use Rattle.laws_versions.proofs.AskedSteps.{StandsAt}
use Rattle.laws_versions.proofs.PlacesKept.{copies_left}
use Rattle.laws_machine.proofs.Sides.{last_cases}
use Rattle.laws_machine.proofs.RecordTimes.{IsNotCopied}
use Rattle.laws_machine.proofs.RecordDues.{not_copied}

-- what stands in a list in which one place was set
with_cases : (xs : List ℕ) (i y j z : ℕ) → element_at (with_at xs i y) j ≡ Some z → (y ≡ z) ⊎ (element_at xs j ≡ Some z)
with_cases [] i y j z at = inr at
with_cases (x ∷ xs) zero y zero z at = inl (same_some y z at)
with_cases (x ∷ xs) zero y (suc j) z at = inr at
with_cases (x ∷ xs) (suc i) y zero z at = inr at
with_cases (x ∷ xs) (suc i) y (suc j) z at = with_cases xs i y j z at

-- one file's list is put
stood_put : (files : Files) (x : ℕ) (handles : List ℕ) (file index handle : ℕ) → (file ≡ x → element_at handles index ≡ Some handle → StandsAt files file index handle) → StandsAt (table.insert files x handles) file index handle → StandsAt files file index handle
stood_put files x handles file index handle was at = elim (same_or_not file x) [
  | inl same ↦ was same (ap (λ (o : Option (List ℕ)). element_at (unwrap_or o []) index) (sym (put_there files x handles file same)) ∙ at)
  | inr other ↦ ap (λ (o : Option (List ℕ)). element_at (unwrap_or o []) index) (sym (put_other files x handles file other)) ∙ at
]

-- no entry's file has the chunk
abbrev NoneHas : ChunkTable → List (Path × Node) → ℕ → Type 0
NoneHas t es handle = (x : Path) (id : ℕ) → HasAt es x (File id) → (index : ℕ) → StandsAt t.files id index handle → ⊥

abbrev AreKnown : List (Path × Node) → ℕ → Type 0
AreKnown es next = (x : Path) (id : ℕ) → HasAt es x (File id) → id < next

stood_copied : (es : List (Path × Node)) (t : ChunkTable) (next handle : ℕ) → AreKnown es next → NoneHas t es handle → (file index : ℕ) → StandsAt (with_copied_nodes t next es).files file index handle → StandsAt t.files file index handle
stood_copied [] t next handle known none file index at = at
stood_copied (e ∷ es) t next handle known none file index at = by_node (λ u n those still. stood_copied es u n handle those still file index) e.1 refl at
  where
    Rest : Type 0
    Rest = (u : ChunkTable) (n : ℕ) → AreKnown es n → NoneHas u es handle → StandsAt (with_copied_nodes u n es).files file index handle → StandsAt u.files file index handle

    by_node : Rest → (v : Node) → e.1 ≡ v → StandsAt (with_copied_nodes (with_copied_node t next v) (id_after next v) es).files file index handle → StandsAt t.files file index handle
    by_node rest Dir is there = rest t next (λ x id has. known x id (inr has)) (λ x id has i some. none x id (inr has) i some) there
    by_node rest (File id) is there =
        stood_put t.files next (handles_of t id) file index handle (λ _ one. absurd (none e.0 id (inl (refl, is)) index one))
        (rest (with_copied_node t next (File id)) (suc next) (λ x other has. let low = known x other (inr has) in omega (arith, low))
        (λ x other has i some. none x other (inr has) i
        (stood_put t.files next (handles_of t id) other i handle (λ same _. absurd (let low = known x other (inr has) in omega (arith, low, same))) some)) there)

module _ (handle version : ℕ) where
  -- what stands after a record stood before, but for a snapshot of it
  stood_before : (l : Logged) (r : Record) → handle < l.next_handle → HasOneName l → IsDue (Unit {0}) l r → IsNoGrantRecord r → IsNotCopied l r handle → (file index : ℕ) → StandsAt (after_record l r).table.files file index handle → StandsAt l.table.files file index handle
  stood_before l (log.AddChunk of_file new) used named due plain apart file index at =
      stood_put l.table.files of_file.0 (handles_of l.table of_file.0 ++ new.0 ∷ []) file index handle
      (λ same there. elim (last_cases (handles_of l.table of_file.0) new.0 index handle there) [
        | inl before ↦ subst (λ (n : ℕ). StandsAt l.table.files n index handle) (sym same) before
        | inr last ↦ absurd (let one = last.1 in let next = due.0 in omega (arith, used, one, next))
      ]) at
  stood_before l (log.Create client n new shape path) used named due plain apart file index at = stood_put l.table.files new.0 [] file index handle (λ same there. none_some handle there) at
  stood_before l (log.Expired gone) used named due plain apart file index at =
      elim (same_or_not file gone.0) [
        | inl same ↦ none_some handle (ap (λ (o : Option (List ℕ)). element_at (unwrap_or o []) index) (sym (gone_there l.table.files gone.0 file same)) ∙ at)
        | inr other ↦ ap (λ (o : Option (List ℕ)). element_at (unwrap_or o []) index) (sym (gone_other l.table.files gone.0 file other)) ∙ at
      ]
  stood_before l (log.Snapshot client n from to) used named due plain apart file index at =
      let es : List (Path × Node) = copied_entries l.names from to in
      let known : AreKnown es l.next_file =
      λ x id has. let of = copied_of from to (table.entries l.names) x (File id) has in named.named.numbered of.0 id (entry_is l.names of.0 (File id) of.1) in
      let none : NoneHas l.table es handle =
      λ x id has i some. let of = copied_of from to (table.entries l.names) x (File id) has in apart of.0 id of.2 (entry_is l.names of.0 (File id) of.1) (placed_stands (chunks_at l.table.files id) i handle some) in
      stood_copied es l.table l.next_file handle known none file index at
  stood_before l (log.Grant chunk number primary members) used named due plain apart file index at = absurd plain
  stood_before l (log.FileItem path of_file shape handles) used named due plain apart file index at = absurd due
  stood_before l other used named due plain apart file index at = at

  -- nor does it become a copy
  copy_before : (l : Logged) (r : Record) → handle < l.next_handle → IsDue (Unit {0}) l r → IsNoGrantRecord r → (x : Copy) → table.get (after_record l r).copies handle ≡ Some x → table.get l.copies handle ≡ Some x
  copy_before l (log.CopyStart of_file index source copy copy_version) used due plain x at = elim (put_cases l.copies copy.0 (record { file = of_file.0; index = index; source = source.0 }) handle x at) [
    | inl same ↦ absurd (let key = same.0 in let next = due.0 in omega (arith, used, key, next))
    | inr before ↦ before
  ]
  copy_before l (log.Expired file) used due plain x at = removed_cases l.copies (copies_for_file l file.0) handle x at
  copy_before l (log.Grant chunk number primary members) used due plain x at = absurd plain
  copy_before l other used due plain x at = at

  module _ (first : Logged) (tried : Attempts) where
    -- where it stood as the step began
    abbrev StandsFrom : Logged → Type 0
    StandsFrom l = (file index : ℕ) → StandsAt l.table.files file index handle → StandsAt first.table.files file index handle

    -- A step so far: the number was issued, the chunk is no copy, and its attempt is of a number above, or it was one before, and the chunk stands only where it stood.
    pub record IsTriedFrom (l : Logged) (attempts : Attempts) : Type 0 where
      pub passed : IsPassed handle version l
      pub plain : (x : Copy) → table.get l.copies handle ≡ Some x → ⊥
      pub from : (a : VersionAttempt) → table.get attempts handle ≡ Some a → (version < a.version) ⊎ ((b : VersionAttempt) × (table.get tried handle ≡ Some b) × (b.version ≡ a.version) × StandsFrom l)

    abbrev Tried : Core → Attempts → Waits → Type 0
    Tried c attempts ss = IsTriedFrom c.logged attempts

    -- another log, where the chunk stands only where it does in this one
    moved : (l k : Logged) (attempts left : Attempts) → IsPassed handle version k → ((x : Copy) → table.get k.copies handle ≡ Some x → table.get l.copies handle ≡ Some x)
        → ((a : VersionAttempt) → table.get left handle ≡ Some a → (table.get attempts handle ≡ Some a) × ((file index : ℕ) → StandsAt k.table.files file index handle → StandsAt l.table.files file index handle)) → IsTriedFrom l attempts → IsTriedFrom k left
    moved l k attempts left passed copies fewer h =
        record {
          passed = passed;
          plain = λ x at. h.plain x (copies x at);
          from = λ a at. let old = fewer a at in elim (h.from a old.0) [
            | inl above ↦ inl above
            | inr was ↦ inr (was.0, was.1, was.2, λ file index there. was.3 file index (old.1 file index there))
          ];
        }

    -- an attempt is put
    put : (l : Logged) (attempts : Attempts) (q : ℕ) (a : VersionAttempt) → (q ≡ handle → (version < a.version) ⊎ ((b : VersionAttempt) × (table.get tried handle ≡ Some b) × (b.version ≡ a.version) × StandsFrom l)) → IsTriedFrom l attempts → IsTriedFrom l (table.insert attempts q a)
    put l attempts q a new h =
        record {
          passed = h.passed;
          plain = h.plain;
          from = λ x at. elim (put_cases attempts q a handle x at) [
            | inl same ↦ subst (λ (y : VersionAttempt). (version < y.version) ⊎ ((b : VersionAttempt) × (table.get tried handle ≡ Some b) × (b.version ≡ y.version) × StandsFrom l)) same.1 (new (sym same.0))
            | inr before ↦ h.from x before
          ];
        }

    -- a copy takes its source's place
    swapped_stood : (l : Logged) (q : ℕ) (o : Option Copy) → (handle ≡ q → ⊥) → (file index : ℕ) → StandsAt (swapped_in l q o).table.files file index handle → StandsAt l.table.files file index handle
    swapped_stood l q None other file index at = at
    swapped_stood l q (Some c) other file index at =
        stood_put l.table.files c.file (with_at (handles_of l.table c.file) c.index q) file index handle
        (λ same there. elim (with_cases (handles_of l.table c.file) c.index q index handle there) [
          | inl new ↦ absurd (other (sym new))
          | inr before ↦ subst (λ (n : ℕ). StandsAt l.table.files n index handle) (sym same) before
        ]) at

    -- a grant of another chunk, or of this one, whose attempt is over then
    granted : (l : Logged) (attempts : Attempts) (q number until primary : ℕ) (members : List ℕ) → IsDue (Unit {0}) l (grant_record q number primary members) → IsTriedFrom l attempts
        → (let two : Logged = after_record l (grant_record q number primary members) in IsTriedFrom (record two { table = set_end two.table q until }) (table.remove attempts q))
    granted l attempts q number until primary members due h =
        let one : Logged = granted_logged l q number primary members in
        let two : Logged = after_record l (grant_record q number primary members) in
        moved l (record two { table = set_end two.table q until }) attempts (table.remove attempts q)
        (passed_ended handle version two q until (passed_grant handle version l l q number primary members due h.passed))
        (λ x at. copies_left one q (table.get l.copies q) handle x at)
        (λ a at. let old = gone_split attempts q handle a at in (old.1, λ file index there. swapped_stood one q (table.get l.copies q) old.0 file index there)) h

    -- the end of a lease is set
    ended : (l : Logged) (attempts : Attempts) (q moment : ℕ) → IsTriedFrom l attempts → IsTriedFrom (record l { table = set_end l.table q moment }) attempts
    ended l attempts q moment h = moved l (record l { table = set_end l.table q moment }) attempts attempts (passed_ended handle version l q moment h.passed) (λ x at. at) (λ a at. (at, λ file index there. there)) h

    tried_acts : (start : LogDisk) → Acts start NoneEnded (IsRowing start) Tried
    tried_acts start =
        record {
          tells = λ c attempts ss receiver b quiet h. h;
          orders = λ c attempts ss server b is plain none h. h;
          gives = λ c attempts ss server q a b at has plain given h. h;
          revokes = λ c attempts ss q row is h. h;
          appends = λ c attempts ss r due plain beside n after h.
              moved c.logged (after_record c.logged r) attempts attempts (passed_after handle version c.logged c.logged r due plain h.passed h.passed) (copy_before c.logged r h.passed.0 due plain)
              (λ a at. (at, stood_before c.logged r h.passed.0 n.tied.base.base.here due plain (not_copied start c.logged attempts ss c.now r handle a beside at))) h;
          checkpoint = λ c attempts ss tree n after h.
              let handles : List ℕ = table.keys c.logged.copies in
              moved c.logged (all_copies_given_up c.logged) attempts (removed_all attempts handles) (passed_less handle version c.logged handles h.passed) (λ x at. removed_cases c.logged.copies handles handle x at)
              (λ a at. (removed_cases attempts handles handle a at, λ file index there. there)) h;
          less = λ c attempts ss handles copied n h.
              moved c.logged (copies_given_up c.logged handles) attempts (removed_all attempts handles) (passed_less handle version c.logged handles h.passed) (λ x at. removed_cases c.logged.copies handles handle x at)
              (λ a at. (removed_cases attempts handles handle a at, λ file index there. there)) h;
          fewer = λ c attempts left ss were h. moved c.logged c.logged attempts left h.passed (λ x at. at) (λ a at. (were handle a at, λ file index there. there)) h;
          waits = λ c attempts ss more h. h;
          issues = λ c attempts ss q row a is next alone n before h.
              put (after_record c.logged (log.Issue (handle_of q) (version_of a.version))) attempts q a
              (λ same. inl (let low = before.passed.1 row (ap (λ (x : ℕ). table.get (rows_of c.logged) x) (sym same) ∙ is) in omega (arith, low, next))) h;
          copies = λ c attempts ss file index source copy a next n before h.
              put (after_record c.logged (log.CopyStart file index source (handle_of copy) (version_of a.version))) attempts copy a (λ same. absurd (let low = before.passed.0 in omega (arith, low, same, next))) h;
          records = λ c attempts ss q a b at same servers h.
              put c.logged attempts q b
              (λ key. elim (h.from a (ap (λ (x : ℕ). table.get attempts x) (sym key) ∙ at)) [
                | inl above ↦ inl (omega (arith, above, same))
                | inr was ↦ inr (was.0, was.1, was.2 ∙ sym same, was.3)
              ]) h;
          grants = λ c attempts ss q a until primary members at all due n after h. granted c.logged attempts q a.version until primary members due h;
          ends = λ c attempts ss q row is word n h. ended c.logged attempts q 0 h;
          extends = λ c attempts ss q until row is lasts n h. ended c.logged attempts q until h;
        }

  -- a step of a master that is up, where nothing hinders it
  pub step_tried : (config : Config) (servers clients : ℕ) (w : WorldState) → IsReached config servers clients w → IsTrue w.master.up → (moment : ℕ) (i : NodeInput) (refused : List Bool)
      → IsPassed handle version w.master.logged → ((x : Copy) → table.get w.master.logged.copies handle ≡ Some x → ⊥)
      → (let d : MasterDoing = master_goes w.master moment i refused in IsTriedFrom w.master.logged w.master.attempts d.master.logged d.master.attempts)
  step_tried config servers clients w r up moment i refused passed plain = end.2
    where
      m : MasterState
      m = w.master

      d : MasterDoing
      d = master_goes w.master moment i refused

      u : IsUpToLog IsFoundRows IsRowedLog rows_kept w.master
      u = (logged_here IsFoundRows IsRowedLog rows_kept config servers clients w r).1.up up

      end : IsRowing m.disk (core_of d) × AreWaiting d.master.logged d.master.attempts d.master.snapshots × IsTriedFrom m.logged m.attempts d.master.logged d.master.attempts
      end =
          goes_acts NoneEnded (IsRowing m.disk) (Tried m.logged m.attempts) m moment i refused (rowing_keeps m.disk) (λ c n. n) (tried_acts m.logged m.attempts m.disk)
          (any_input i) (logged_here IsFoundRows IsRowedLog rows_kept config servers clients w r).1 up (waits_here config servers clients w r)
          (record { none = u.idle; disk = refl; same = u.same; tied = u.tied; stops = (logged_here IsFoundRows IsRowedLog rows_kept config servers clients w r).1.found [] })
          (record { passed = passed; plain = plain; from = λ a at. inr (a, at, refl, λ file index there. there) })
