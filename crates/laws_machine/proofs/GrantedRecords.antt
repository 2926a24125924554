-- What a step of the master grants was attempted before it, by a walk over its acts: once a number is issued or a copy begins, nothing is granted in the step.
use Rattle.std.proofs.Common.{◌≡◌, ◌⊎◌, ℕ, ◌≤◌, ◌<◌, Bool, List, [], ◌∷◌, ◌++◌, Option, Some, None, refl, sym, ap, subst, ◌∙◌, inl, inr, arith}
use Rattle.std.specs.Prelude.{IsTrue}
use Rattle.std.specs.FinMap as table
use Rattle.gfs_types.specs.declared.config.Config.{Config}
use Rattle.messages.specs.declared.event.NodeInput.{NodeInput}
use Rattle.log_records.specs.declared.record.Record.{Record}
use Rattle.log_records.specs.declared.record.Record.TheVariants as log
use Rattle.chunk_table.specs.ChunkTable.{ChunkRow, chunk_of, changed_by, row_granted, added_row}
use Rattle.relaxed_file.specs.Names.{copied_entries}
use Rattle.protocol.specs.Sending.{handle_of, version_of}
use Rattle.protocol.specs.Logged.{Logged, Copy, LogDisk, LogChange, AppendRecord, WriteCheckpoint, log_changed, log_changed_by_all, after_record, checkpoint_of, copies_for_file, swapped_in}
use Rattle.protocol.specs.Master.{MasterState, VersionAttempt}
use Rattle.protocol.specs.MasterStep.{master_goes}
use Rattle.protocol.specs.World.{WorldState, IsReached}
use Rattle.laws_base.specs.Laws.{times_in}
use Rattle.laws_base.proofs.Steps.{none_some, put_cases, kept_cases, removed_cases}
use Rattle.laws_base.proofs.Entries.{AllOf}
use Rattle.laws_base.proofs.ChunkRows.{Rows, rows_of, OwnedFrom, all_copied_owned, expired_owned, swapped_owned}
use Rattle.laws_base.proofs.Owners.{chunks_at, times_at_least, placed_stands}
use Rattle.laws_base.proofs.FilesNamed.{Files}
use Rattle.laws_base.proofs.FilesLogged.{same_copy}
use Rattle.laws_base.proofs.LoggedParts.{Parts}
use Rattle.laws_base.proofs.VersionsAhead.{changed_cases}
use Rattle.laws_base.proofs.RowsFit.{granted_logged, same_row}
use Rattle.laws_base.proofs.CountsLogged.{next_grows}
use Rattle.laws_base.proofs.RowsLogged.{IsFoundRows, IsRowedLog}
use Rattle.laws_base.proofs.RowsKept.{rows_kept}
use Rattle.laws_base.proofs.NamesReached.{IsUpToLog, logged_here}
use Rattle.laws_base.proofs.OrderNumbers.{state_of}
use Rattle.laws_base.proofs.MasterMoves.{Core, grant_record, IsDue, IsNoGrantRecord, NoneEnded}
use Rattle.laws_base.proofs.MasterActs.{IsRowing, rowing_keeps, Waits, Acts}
use Rattle.laws_base.proofs.Awaited.{Attempts}
use Rattle.laws_base.proofs.WaitsKept.{any_input, waits_here}
use Rattle.laws_base.proofs.ActsOfSteps.{goes_acts}
use Rattle.laws_versions.proofs.AttemptedNumbers.{attempts_are_of_the_last_version}
use Rattle.laws_versions.proofs.AskedSteps.{IsNoGrant}
use Rattle.laws_versions.proofs.CopiedSources.{IsNoStart, asked_or_not, unasked_step, asked_step, free_reached, copied_chunks_have_no_lease}
use Rattle.laws_machine.specs.GrantedRecords.{IsGrantOfAttempt, IsGrantedFrom, AreGrantedFrom, StepsGrantWhatWasAttempted}

-- a number is issued, or a copy begins, among these changes
abbrev pub IsStart : LogChange → Type 0
IsStart (AppendRecord (log.Issue handle version)) = Unit {0}
IsStart (AppendRecord (log.CopyStart file index handle copy version)) = Unit {0}
IsStart other = ⊥

pub HasStart : List LogChange → Type 0
HasStart [] = ⊥
HasStart (x ∷ xs) = IsStart x ⊎ HasStart xs

pub start_stays : (xs ys : List LogChange) → HasStart xs → HasStart (xs ++ ys)
unfolding HasStart
start_stays [] ys h = absurd h
start_stays (x ∷ xs) ys (inl now) = inl now
start_stays (x ∷ xs) ys (inr later) = inr (start_stays xs ys later)

pub start_last : (xs : List LogChange) (x : LogChange) → IsStart x → HasStart (xs ++ x ∷ [])
unfolding HasStart
start_last [] x is = inl is
start_last (y ∷ ys) x is = inr (start_last ys x is)

pub no_start : (xs : List LogChange) → AllOf IsNoStart xs → HasStart xs → ⊥
unfolding HasStart
no_start [] none h = h
no_start (AppendRecord (log.Issue handle version) ∷ xs) none (inl now) = none.0
no_start (AppendRecord (log.CopyStart file index handle copy version) ∷ xs) none (inl now) = none.0
no_start (x ∷ xs) none (inl now) = absurd now
no_start (x ∷ xs) none (inr later) = no_start xs none.1 later

-- a grant of what was attempted, at a log
module _ (first : Logged) (tried : Attempts) where
  abbrev pub IsTried : ℕ → Type 0
  IsTried q = (b : VersionAttempt) × (table.get tried q ≡ Some b)

  -- the row was there as the step began, and as much was granted, or its chunk is attempted; or the chunk is new
  abbrev pub WasRow : ℕ → ChunkRow → Type 0
  WasRow q row = (first.next_handle ≤ q) ⊎ ((old : ChunkRow) × (chunk_of first.table q ≡ Some old) × ((old.granted ≡ row.granted) ⊎ IsTried q))

  abbrev pub AreRows : Rows → Type 0
  AreRows rows = (q : ℕ) (row : ChunkRow) → table.get rows q ≡ Some row → WasRow q row

  pub record IsGood (l : Logged) (handle version : ℕ) : Type 0 where
    attempt : VersionAttempt
    at : table.get tried handle ≡ Some attempt
    same : attempt.version ≡ version
    row : ChunkRow
    was : WasRow handle row
    copies : (c : Copy) → table.get l.copies handle ≡ Some c → table.get first.copies handle ≡ Some c
    sources : (c : Copy) → table.get l.copies handle ≡ Some c → (before : ChunkRow) → chunk_of l.table c.source ≡ Some before → WasRow c.source before

  abbrev pub IsGoodChange : LogDisk → LogChange → Type 0
  IsGoodChange d (AppendRecord (log.Grant handle version primary members)) = IsGood (state_of d) handle.0 version.0
  IsGoodChange d other = Unit {0}

  abbrev pub AreGood : LogDisk → List LogChange → Type 0
  AreGood d [] = Unit {0}
  AreGood d (x ∷ xs) = IsGoodChange d x × AreGood (log_changed d x) xs

  good_push : (d : LogDisk) (xs : List LogChange) (x : LogChange) → AreGood d xs → IsGoodChange (log_changed_by_all d xs) x → AreGood d (xs ++ x ∷ [])
  good_push d [] x h one = (one, tt)
  good_push d (y ∷ ys) x h one = (h.0, good_push (log_changed d y) ys x h.1 one)

  abbrev pub AreFromFirst : Logged → Attempts → Type 0
  AreFromFirst l attempts =
      (first.next_handle ≤ l.next_handle) × ((q : ℕ) (c : Copy) → table.get l.copies q ≡ Some c → table.get first.copies q ≡ Some c)
      × ((q : ℕ) (a : VersionAttempt) → table.get attempts q ≡ Some a → (b : VersionAttempt) × (table.get tried q ≡ Some b) × (b.version ≡ a.version)) × AreRows (rows_of l)

  abbrev pub Granting : LogDisk → Core → Attempts → Waits → Type 0
  Granting start c attempts ss = HasStart c.changes ⊎ (AreFromFirst c.logged attempts × AreGood start c.changes)

  rows_owned : (t u : Rows) → OwnedFrom t u → AreRows t → AreRows u
  rows_owned t u f h q row is =
      let was = f q row is in
      let same : (was.0).granted ≡ row.granted = ap (λ (r : ChunkRow). r.granted) was.2 in
      elim (h q was.0 was.1) [
        | inl new ↦ inl new
        | inr old ↦ inr (old.0, old.1, elim old.2 [ inl kept ↦ inl (kept ∙ same) | inr attempted ↦ inr attempted ])
      ]

  -- a change of rows that leaves what was granted
  rows_changed : (t : Rows) (handle : ℕ) (change : ChunkRow → ChunkRow) → ((row : ChunkRow) → row.granted ≡ (change row).granted) → AreRows t → AreRows (changed_by t handle change (table.get t handle))
  rows_changed t handle change same h q row is =
      elim (changed_cases t handle change (table.get t handle) q row refl is) [
        | inl now ↦
            let granted : (now.0).granted ≡ row.granted = same now.0 ∙ ap (λ (r : ChunkRow). r.granted) now.3 in
            elim (h q now.0 (ap (λ (n : ℕ). table.get t n) now.1 ∙ now.2)) [
              | inl new ↦ inl new
              | inr old ↦ inr (old.0, old.1, elim old.2 [ inl kept ↦ inl (kept ∙ granted) | inr attempted ↦ inr attempted ])
            ]
        | inr before ↦ h q row before.1
      ]

  -- a record that begins nothing and grants nothing
  rows_after : (l : Logged) (r : Record) → first.next_handle ≤ l.next_handle → IsDue (Unit {0}) l r → IsNoGrantRecord r → AreRows (rows_of l) → (IsStart (AppendRecord r)) ⊎ AreRows (rows_of (after_record l r))
  rows_after l (log.Issue handle version) low due plain h = inl tt
  rows_after l (log.CopyStart file index handle copy version) low due plain h = inl tt
  rows_after l (log.AddChunk file handle) low due plain h = inr (λ q row is.
      elim (put_cases (rows_of l) handle.0 (added_row l.table file.0) q row is) [ inl new ↦ inl (let at = new.0 in let next = due.0 in omega (arith, low, at, next)) | inr before ↦ h q row before ])
  rows_after l (log.Snapshot client n from to) low due plain h =
      inr (rows_owned (rows_of l) (rows_of (after_record l (log.Snapshot client n from to))) (all_copied_owned l.table l.next_file (copied_entries l.names from to)) h)
  rows_after l (log.Expired file) low due plain h = inr (rows_owned (rows_of l) (rows_of (after_record l (log.Expired file))) (expired_owned l file) h)
  rows_after l (log.Grant handle version primary members) low due plain h = absurd plain
  rows_after l (log.FileItem path file shape handles) low due plain h = absurd due
  rows_after l (log.ChunkItem handle granted issued primary members) low due plain h = absurd due
  rows_after l other low due plain h = inr h

  copies_after : (l : Logged) (r : Record) → IsDue (Unit {0}) l r → IsNoGrantRecord r → ((q : ℕ) (c : Copy) → table.get l.copies q ≡ Some c → table.get first.copies q ≡ Some c)
      → (IsStart (AppendRecord r)) ⊎ ((q : ℕ) (c : Copy) → table.get (after_record l r).copies q ≡ Some c → table.get first.copies q ≡ Some c)
  copies_after l (log.CopyStart file index handle copy version) due plain h = inl tt
  copies_after l (log.Expired file) due plain h = inr (λ q c is. h q c (removed_cases l.copies (copies_for_file l file.0) q c is))
  copies_after l (log.Grant handle version primary members) due plain h = absurd plain
  copies_after l other due plain h = inr h

  good_record : (d : LogDisk) (r : Record) → IsNoGrantRecord r → IsGoodChange d (AppendRecord r)
  good_record d (log.Grant handle version primary members) plain = absurd plain
  good_record d other plain = tt

  module _ (start : LogDisk) where
    pushed : (c : Core) (x : LogChange) → IsRowing start c → AreGood start c.changes → IsGoodChange c.disk x → AreGood start (c.changes ++ x ∷ [])
    pushed c x n h one = good_push start c.changes x h (subst (λ (d : LogDisk). IsGoodChange d x) (sym n.disk) one)

    appended : (c : Core) (attempts : Attempts) (r : Record) → IsDue (Unit {0}) c.logged r → IsNoGrantRecord r → IsRowing start c → HasStart c.changes ⊎ (AreFromFirst c.logged attempts × AreGood start c.changes)
        → HasStart (c.changes ++ AppendRecord r ∷ []) ⊎ (AreFromFirst (after_record c.logged r) attempts × AreGood start (c.changes ++ AppendRecord r ∷ []))
    appended c attempts r due plain n (inl begun) = inl (start_stays c.changes (AppendRecord r ∷ []) begun)
    appended c attempts r due plain n (inr h) =
        elim (rows_after c.logged r h.0.0 due plain h.0.3) [
          | inl begins ↦ inl (start_last c.changes (AppendRecord r) begins)
          | inr rows ↦ elim (copies_after c.logged r due plain h.0.1) [
            | inl begins ↦ inl (start_last c.changes (AppendRecord r) begins)
            | inr copies ↦ inr (
              (let low = h.0.0 in let more = next_grows c.logged c.logged r due in omega (arith, low, more), copies, h.0.2, rows),
              pushed c (AppendRecord r) n h.1 (good_record c.disk r plain),
            )
          ]
        ]

    -- a grant
    module _ (c : Core) (attempts : Attempts) (handle : ℕ) (a : VersionAttempt) (until primary : ℕ) (members : List ℕ) (at : table.get attempts handle ≡ Some a) (row : ChunkRow) (is : chunk_of c.logged.table handle ≡ Some row)
        (n : IsRowing start c) (h : AreFromFirst c.logged attempts) where
      abbrev log_now : Logged
      log_now = state_of c.disk

      same_copies : table.get c.logged.copies handle ≡ table.get log_now.copies handle
      same_copies = same_copy c.logged.copies log_now.copies (rows_of c.logged) handle row is n.tied.base.base.among n.tied.base.base.alone

      -- the source's row in the state
      source_was : (x : Copy) → table.get log_now.copies handle ≡ Some x → (before : ChunkRow) → chunk_of log_now.table x.source ≡ Some before → WasRow x.source before
      source_was x is_copy before there =
          let was = same_row (table.get (rows_of c.logged) x.source) (table.get (rows_of log_now) x.source) before (n.tied.same x.source (no_copies (table.get c.logged.copies x.source) (table.get log_now.copies x.source) refl refl)) there in
          let granted : (was.0).granted ≡ before.granted = ap (λ (r : ChunkRow). r.granted) was.2 in
          elim (h.3 x.source was.0 was.1) [
            | inl new ↦ inl new
            | inr old ↦ inr (old.0, old.1, elim old.2 [ inl kept ↦ inl (kept ∙ granted) | inr attempted ↦ inr attempted ])
          ]
        where
          stands : 1 ≤ times_in c.logged.table.files x.source
          stands =
              let one = placed_stands (chunks_at c.logged.table.files x.file) x.index x.source (n.tied.base.placed handle x (same_copies ∙ is_copy)) in
              let low = times_at_least c.logged.table.files x.file x.source in
              omega (arith, one, low)

          apart : (y : Copy) → table.get log_now.copies x.source ≡ Some y → ⊥
          apart y some =
              let none = n.tied.base.log.apart x.source y some in
              let same = ap (λ (files : Files). times_in files x.source) n.tied.base.base.files in
              let one = stands in
              omega (arith, none, same, one)

          no_copies : (o p : Option Copy) → table.get c.logged.copies x.source ≡ o → table.get log_now.copies x.source ≡ p → table.get c.logged.copies x.source ≡ table.get log_now.copies x.source
          no_copies (Some y) p here also = absurd (apart y (n.tied.base.base.among x.source y here))
          no_copies None (Some y) here also = absurd (apart y also)
          no_copies None None here also = here ∙ sym also

      good : IsGood log_now handle a.version
      good =
          let b = h.2 handle a at in
          record {
            attempt = b.0;
            at = b.1;
            same = b.2;
            row = row;
            was = h.3 handle row is;
            copies = λ x is_copy. h.1 handle x (same_copies ∙ is_copy);
            sources = source_was;
          }

      rows_granted : AreRows (rows_of (swapped_in (granted_logged c.logged handle a.version primary members) handle (table.get c.logged.copies handle)))
      rows_granted q new there =
          let first_row = swapped_owned (granted_logged c.logged handle a.version primary members) handle (table.get c.logged.copies handle) q new there in
          let granted : (first_row.0).granted ≡ new.granted = ap (λ (r : ChunkRow). r.granted) first_row.2 in
          elim (changed_cases (rows_of c.logged) handle (row_granted a.version primary members) (table.get (rows_of c.logged) handle) q first_row.0 refl first_row.1) [
            | inl now ↦
                elim (h.3 handle row is) [
                  | inl fresh ↦ inl (let same = now.1 in omega (arith, fresh, same))
                  | inr old ↦ let b = h.2 handle a at in inr (old.0, ap (λ (x : ℕ). chunk_of first.table x) now.1 ∙ old.1, inr (b.0, ap (λ (x : ℕ). table.get tried x) now.1 ∙ b.1))
                ]
            | inr before ↦ elim (h.3 q first_row.0 before.1) [
              | inl fresh ↦ inl fresh
              | inr old ↦ inr (old.0, old.1, elim old.2 [ inl kept ↦ inl (kept ∙ granted) | inr attempted ↦ inr attempted ])
            ]
          ]

      copies_granted : (o : Option Copy) → (q : ℕ) (x : Copy) → table.get (swapped_in (granted_logged c.logged handle a.version primary members) handle o).copies q ≡ Some x → table.get first.copies q ≡ Some x
      copies_granted None q x there = h.1 q x there
      copies_granted (Some y) q x there = h.1 q x (kept_cases c.logged.copies handle q x there)

      next_granted : (o : Option Copy) → first.next_handle ≤ (swapped_in (granted_logged c.logged handle a.version primary members) handle o).next_handle
      next_granted None = h.0
      next_granted (Some y) = h.0

    pub granting_acts : Acts start NoneEnded (IsRowing start) (Granting start)
    granting_acts =
        record {
          tells = λ c attempts ss receiver b quiet h. h;
          orders = λ c attempts ss server b is plain none h. h;
          gives = λ c attempts ss server handle a b at has plain given h. h;
          revokes = λ c attempts ss handle row is h. h;
          appends = λ c attempts ss r due plain beside n after h. appended c attempts r due plain n h;
          checkpoint = λ c attempts ss tree n after h. elim h [
            | inl begun ↦ inl (start_stays c.changes (WriteCheckpoint (checkpoint_of c.logged) ∷ []) begun)
            | inr from ↦ inr (
              (
                from.0.0,
                λ q x is. from.0.1 q x (removed_cases c.logged.copies (table.keys c.logged.copies) q x is),
                λ q a at. from.0.2 q a (removed_cases attempts (table.keys c.logged.copies) q a at),
                λ q row is. from.0.3 q row (removed_cases (rows_of c.logged) (table.keys c.logged.copies) q row is),
              ),
              pushed c (WriteCheckpoint (checkpoint_of c.logged)) n from.1 tt,
            )
          ];
          less = λ c attempts ss handles copied n h. elim h [
            | inl begun ↦ inl begun
            | inr from ↦ inr (
              (
                from.0.0,
                λ q x is. from.0.1 q x (removed_cases c.logged.copies handles q x is),
                λ q a at. from.0.2 q a (removed_cases attempts handles q a at),
                λ q row is. from.0.3 q row (removed_cases (rows_of c.logged) handles q row is),
              ),
              from.1,
            )
          ];
          fewer = λ c attempts left ss were h. elim h [ inl begun ↦ inl begun | inr from ↦ inr ((from.0.0, from.0.1, λ q a at. from.0.2 q a (were q a at), from.0.3), from.1) ];
          waits = λ c attempts ss more h. h;
          issues = λ c attempts ss handle row a is next alone n before h. inl (start_last c.changes (AppendRecord (log.Issue (handle_of handle) (version_of a.version))) tt);
          copies = λ c attempts ss file index source copy a next n before h. inl (start_last c.changes (AppendRecord (log.CopyStart file index source (handle_of copy) (version_of a.version))) tt);
          records = λ c attempts ss handle a b at same servers h. elim h [
            | inl begun ↦ inl begun
            | inr from ↦ inr (
              (
                from.0.0,
                from.0.1,
                λ q x is. elim (put_cases attempts handle b q x is) [
                  | inl here ↦
                      let was = from.0.2 handle a at in
                      (was.0, ap (λ (n : ℕ). table.get tried n) here.0 ∙ was.1, was.2 ∙ sym same ∙ ap (λ (v : VersionAttempt). v.version) here.1)
                  | inr old ↦ from.0.2 q x old
                ],
                from.0.3,
              ),
              from.1,
            )
          ];
          grants = λ c attempts ss handle a until primary members at all due n after h. elim h [
            | inl begun ↦ inl (start_stays c.changes (AppendRecord (grant_record handle a.version primary members) ∷ []) begun)
            | inr from ↦ inr (
              (
                next_granted c attempts handle a until primary members at due.0 due.1 n from.0 (table.get c.logged.copies handle),
                copies_granted c attempts handle a until primary members at due.0 due.1 n from.0 (table.get c.logged.copies handle),
                λ q x is. from.0.2 q x (kept_cases attempts handle q x is),
                rows_changed (rows_of (swapped_in (granted_logged c.logged handle a.version primary members) handle (table.get c.logged.copies handle))) handle (λ r. record r { lease_end = until }) (λ r. refl)
                    (rows_granted c attempts handle a until primary members at due.0 due.1 n from.0),
              ),
              pushed c (AppendRecord (grant_record handle a.version primary members)) n from.1 (good c attempts handle a until primary members at due.0 due.1 n from.0),
            )
          ];
          ends = λ c attempts ss handle row is word n h. elim h [
            | inl begun ↦ inl begun
            | inr from ↦ inr ((from.0.0, from.0.1, from.0.2, rows_changed (rows_of c.logged) handle (λ r. record r { lease_end = 0 }) (λ r. refl) from.0.3), from.1)
          ];
          extends = λ c attempts ss handle until row is lasts n h. elim h [
            | inl begun ↦ inl begun
            | inr from ↦ inr ((from.0.0, from.0.1, from.0.2, rows_changed (rows_of c.logged) handle (λ r. record r { lease_end = until }) (λ r. refl) from.0.3), from.1)
          ];
        }

-- steps that take an ask grant nothing
none_granted : (m : MasterState) (d : LogDisk) (xs : List LogChange) → AllOf IsNoGrant xs → AreGrantedFrom m d xs
none_granted m d [] none = tt
none_granted m d (WriteCheckpoint items ∷ xs) none = none_granted m (log_changed d (WriteCheckpoint items)) xs none.1
none_granted m d (AppendRecord r ∷ xs) none = (by_record r none.0, none_granted m (log_changed d (AppendRecord r)) xs none.1)
  where
    by_record : (r : Record) → IsNoGrantRecord r → IsGrantedFrom m (state_of d) r
    by_record (log.Grant handle version primary members) plain = absurd plain
    by_record other plain = tt

module _ (config : Config) (servers clients : ℕ) (w : WorldState) (r : IsReached config servers clients w) (clocks : IsTrue w.observer.are_clocks_kept) (up : IsTrue w.master.up) where
  -- a chunk that is attempted was used, and one of which a copy is under way isn't attempted
  of_attempt : (l : Logged) (handle version : ℕ) → IsGood w.master.logged w.master.attempts l handle version → IsGrantOfAttempt w.master l handle version
  of_attempt l handle version g =
      let row = by_row handle g.row g.attempt g.at g.was in
      record {
        attempted = record { attempt = g.attempt; at = g.at; same = g.same; row = row.0; row_is = row.1 };
        copies = g.copies;
        sources = λ c is before there. source c (g.copies c is) before (g.sources c is before there);
      }
    where
      by_row : (q : ℕ) (row : ChunkRow) (a : VersionAttempt) → table.get w.master.attempts q ≡ Some a → WasRow w.master.logged w.master.attempts q row → (old : ChunkRow) × (chunk_of w.master.logged.table q ≡ Some old)
      by_row q row a at (inl new) = let low = (attempts_are_of_the_last_version config servers clients w r up q a at).0 in absurd (omega (arith, low, new))
      by_row q row a at (inr old) = (old.0, old.1)

      source : (c : Copy) → table.get w.master.logged.copies handle ≡ Some c → (before : ChunkRow) → WasRow w.master.logged w.master.attempts c.source before → (old : ChunkRow) × (chunk_of w.master.logged.table c.source ≡ Some old) × (old.granted ≡ before.granted)
      source c is before (inl new) = absurd (let low = used c is in omega (arith, low, new))
        where
          used : (x : Copy) → table.get w.master.logged.copies handle ≡ Some x → x.source < w.master.logged.next_handle
          used x at =
              let u : IsUpToLog IsFoundRows IsRowedLog rows_kept w.master = (logged_here IsFoundRows IsRowedLog rows_kept config servers clients w r).1.up up in
              let one = placed_stands (chunks_at w.master.logged.table.files x.file) x.index x.source (u.tied.base.placed handle x at) in
              let some = times_at_least w.master.logged.table.files x.file x.source in
              let same = ap (λ (files : Files). times_in files x.source) u.tied.base.base.files in
              let low = u.tied.base.log.below x.source (omega (arith, one, some, same)) in
              let next = ap (λ (p : Parts). p.next_handle) u.same in
              omega (arith, low, next)
      source c is before (inr old) = (
        old.0,
        old.1,
        elim old.2 [
          | inl kept ↦ kept
          | inr attempted ↦ none_some attempted.0 (sym (copied_chunks_have_no_lease config servers clients w r clocks up handle c is).0 ∙ attempted.1)
        ],
      )

  all_of_attempts : (d : LogDisk) (xs : List LogChange) → AreGood w.master.logged w.master.attempts d xs → AreGrantedFrom w.master d xs
  all_of_attempts d [] h = tt
  all_of_attempts d (WriteCheckpoint items ∷ xs) h = all_of_attempts (log_changed d (WriteCheckpoint items)) xs h.1
  all_of_attempts d (AppendRecord q ∷ xs) h = (by_record q h.0, all_of_attempts (log_changed d (AppendRecord q)) xs h.1)
    where
      by_record : (q : Record) → IsGoodChange w.master.logged w.master.attempts d (AppendRecord q) → IsGrantedFrom w.master (state_of d) q
      by_record (log.Grant handle version primary members) one = of_attempt (state_of d) handle.0 version.0 one
      by_record other one = tt

  granted_from : (moment : ℕ) (i : NodeInput) (refused : List Bool) → AreGrantedFrom w.master w.master.disk (master_goes w.master moment i refused).changes
  granted_from moment i refused =
      let m : MasterState = w.master in
      let free = free_reached config servers clients w r clocks up in
      let logged = (logged_here IsFoundRows IsRowedLog rows_kept config servers clients w r).1 in
      let u : IsUpToLog IsFoundRows IsRowedLog rows_kept m = logged.up up in
      let end =
      goes_acts NoneEnded (IsRowing m.disk) (Granting m.logged m.attempts m.disk) m moment i refused (rowing_keeps m.disk) (λ c n. n) (granting_acts m.logged m.attempts m.disk) (any_input i) logged up (waits_here config servers clients w r)
      (record { none = u.idle; disk = refl; same = u.same; tied = u.tied; stops = logged.found [] })
      (inr ((omega arith, λ q c is. is, λ q a at. (a, at, refl), λ q row is. inr (row, is, inl refl)), tt)) in
      elim (asked_or_not i) [
        | inl none ↦ elim end.2 [
          | inl begun ↦ absurd (no_start (master_goes m moment i refused).changes (unasked_step config servers clients w r clocks up free moment i refused none).changes begun)
          | inr from ↦ all_of_attempts m.disk (master_goes m moment i refused).changes from.1
        ]
        | inr ask ↦ none_granted m m.disk (master_goes m moment i refused).changes (asked_step config servers clients w r clocks up free moment i refused ask).changes
      ]

pub steps_grant_what_was_attempted : StepsGrantWhatWasAttempted
steps_grant_what_was_attempted config servers clients w r clocks up moment i refused = granted_from config servers clients w r clocks up moment i refused
