-- Nothing that a step of the master grants ends in the same step: no attempt of it is left, it stands once, nothing is copied from it, and its lease was just set to last.
use Rattle.std.proofs.Common.{◌≡◌, ◌⊎◌, ℕ, zero, suc, ◌≤◌, ◌<◌, Bool, List, [], ◌∷◌, ◌++◌, Option, Some, None, refl, sym, ap, subst, ◌∙◌, inl, inr, arith}
use Rattle.std.specs.Prelude.{IsTrue}
use Rattle.std.specs.FinMap as table
use Rattle.gfs_types.specs.Paths.{Path}
use Rattle.gfs_types.specs.declared.config.Config.{Config}
use Rattle.messages.specs.declared.event.NodeInput.{NodeInput}
use Rattle.messages.specs.declared.event.NodeInput.TheVariants as input
use Rattle.messages.specs.declared.message.Message.{Message}
use Rattle.messages.specs.declared.message.Body.{Body}
use Rattle.messages.specs.declared.message.Body.TheVariants as body
use Rattle.log_records.specs.declared.record.Record.{Record}
use Rattle.log_records.specs.declared.record.Record.TheVariants as log
use Rattle.chunk_table.specs.ChunkTable.{ChunkRow, chunk_of, handles_of, grant, changed_by, row_granted, added_row, copied_row}
use Rattle.relaxed_file.specs.Names.{Node, File, node_at, copied_entries}
use Rattle.relaxed_file.proofs.NamesTree.{HasAt, copied_of, entry_is}
use Rattle.protocol.specs.Tables.{element_at, with_at, removed_all}
use Rattle.protocol.specs.Sending.{handle_of, version_of}
use Rattle.protocol.specs.Logged.{Logged, Copy, LogDisk, LogChange, AppendRecord, WriteCheckpoint, log_changed, log_changed_by_all, after_record, checkpoint_of, copies_given_up, all_copies_given_up, swapped_in}
use Rattle.protocol.specs.Master.{MasterState, VersionAttempt}
use Rattle.protocol.specs.MasterStep.{master_goes}
use Rattle.protocol.specs.World.{WorldState, IsReached, new_world, numbered_from_1}
use Rattle.laws_base.specs.Laws.{times_in}
use Rattle.laws_base.proofs.Steps.{none_some, same_some, same_or_not, put_cases, kept_cases, removed_cases, gone_there}
use Rattle.laws_base.proofs.Entries.{AllOf}
use Rattle.laws_base.proofs.ChunkRows.{Rows, rows_of, OwnedFrom, all_copied_owned, expired_owned, swapped_owned}
use Rattle.laws_base.proofs.Owners.{stands, chunks_at, times_put, tally_same, placed_stands, chunk_row}
use Rattle.laws_base.proofs.FilesNamed.{Files}
use Rattle.laws_base.proofs.FilesLogged.{same_copy}
use Rattle.laws_base.proofs.LoggedParts.{Parts}
use Rattle.laws_base.proofs.VersionsAhead.{changed_cases}
use Rattle.laws_base.proofs.LeasesEnded.{HasEnded, after_grant}
use Rattle.laws_base.proofs.LeaseEnds.{IsKeptRow}
use Rattle.laws_base.proofs.LeasesTimely.{IsOfTimes, times_kept}
use Rattle.laws_base.proofs.RevokedLeases.{WasRevoked}
use Rattle.laws_base.proofs.ScenesReached.{scene_of, scene_reached}
use Rattle.laws_base.proofs.RowsFit.{granted_logged}
use Rattle.laws_base.proofs.CountsLogged.{next_grows}
use Rattle.laws_base.proofs.GrantsOnce.{row_below}
use Rattle.laws_base.proofs.RowsLogged.{IsFoundRows, IsRowedLog}
use Rattle.laws_base.proofs.RowsKept.{rows_kept}
use Rattle.laws_base.proofs.NamesReached.{naming_keeps, IsUpToLog, logged_here}
use Rattle.laws_base.proofs.OrderNumbers.{state_of}
use Rattle.laws_base.proofs.MasterMoves.{Core, core_appended, core_granted, core_ended, grant_record, IsDue, IsNoGrantRecord, IsLeaseFrom, Nothing, NoneEnded, Keeps}
use Rattle.laws_base.proofs.MasterActs.{IsRowing, Waits, Acts}
use Rattle.laws_base.proofs.Awaited.{Attempts, EachFile}
use Rattle.laws_base.proofs.AwaitedRecords.{IsBeside}
use Rattle.laws_base.proofs.WaitsKept.{waits_here}
use Rattle.laws_base.proofs.ActsOfSteps.{IsWordSaid, IsInputSaid, goes_acts}
use Rattle.laws_base.proofs.EndedLeases.{attempted_chunks_have_no_lease}
use Rattle.laws_versions.proofs.AttemptedNumbers.{attempts_are_of_the_last_version}
use Rattle.laws_versions.proofs.AskedSteps.{IsNoGrant}
use Rattle.laws_versions.proofs.CopiedSources.{asked_or_not, unasked_step, asked_step, free_reached, copied_chunks_have_no_lease}
use Rattle.laws_machine.proofs.OpenEntries.{config_stays}
use Rattle.laws_machine.specs.ChunkRecords.{StandsIn}
use Rattle.laws_machine.specs.MasterSteps.{EndsAt, EndsAtChange}
use Rattle.laws_machine.specs.WholeSteps.{EndsAlong}
use Rattle.laws_machine.specs.OverRounds.{IsGrantLast, AreGrantsLast, WasSent, GrantsAreLast}
use Rattle.laws_machine.proofs.RecordTimes.{with_at_most, swapped_times, IsNotCopied, times_after}
use Rattle.laws_machine.proofs.RecordDues.{AreSingle, single_here, used, not_copied}
use Rattle.laws_machine.proofs.GrantedRecords.{HasStart, start_stays, start_last, no_start, AreFromFirst, Granting, granting_acts}

-- what was granted so far

abbrev IsGrantAt : LogChange → ℕ → Type 0
IsGrantAt (AppendRecord (log.Grant handle version primary members)) q = handle.0 ≡ q
IsGrantAt other q = ⊥

abbrev HasGrant : List LogChange → ℕ → Type 0
HasGrant [] q = ⊥
HasGrant (x ∷ xs) q = IsGrantAt x q ⊎ HasGrant xs q

grant_cases : (xs : List LogChange) (x : LogChange) (q : ℕ) → HasGrant (xs ++ x ∷ []) q → HasGrant xs q ⊎ IsGrantAt x q
grant_cases [] x q (inl now) = inr now
grant_cases [] x q (inr none) = absurd none
grant_cases (y ∷ ys) x q (inl now) = inl (inl now)
grant_cases (y ∷ ys) x q (inr later) = elim (grant_cases ys x q later) [ inl old ↦ inl (inr old) | inr new ↦ inr new ]

no_grant_at : (r : Record) (q : ℕ) → IsNoGrantRecord r → IsGrantAt (AppendRecord r) q → ⊥
no_grant_at (log.Grant handle version primary members) q plain now = plain
no_grant_at other q plain now = now

ends_push : (d : LogDisk) (xs : List LogChange) (x : LogChange) (q : ℕ) → EndsAlong d (xs ++ x ∷ []) q → EndsAlong d xs q ⊎ EndsAtChange (log_changed_by_all d xs) x q
ends_push d [] x q (inl now) = inr now
ends_push d [] x q (inr none) = absurd none
ends_push d (y ∷ ys) x q (inl now) = inl (inl now)
ends_push d (y ∷ ys) x q (inr later) = elim (ends_push (log_changed d y) ys x q later) [ inl old ↦ inl (inr old) | inr new ↦ inr new ]

last_one : (d : LogDisk) (x : LogChange) → IsGrantLast d [] x
last_one d (AppendRecord (log.Grant handle version primary members)) = λ none. none
last_one d other = tt

-- a change at which nothing ends that was granted before
last_push : (d : LogDisk) (xs : List LogChange) (x : LogChange) → AreGrantsLast d xs → ((q : ℕ) → HasGrant xs q → EndsAtChange (log_changed_by_all d xs) x q → ⊥) → AreGrantsLast d (xs ++ x ∷ [])
last_push d [] x h none = (last_one (log_changed d x) x, tt)
last_push d (y ∷ ys) x h none = (by_change y h.0 (λ q now. none q (inl now)), last_push (log_changed d y) ys x h.1 (λ q has. none q (inr has)))
  where
    by_change : (z : LogChange) → IsGrantLast (log_changed d y) ys z → ((q : ℕ) → IsGrantAt z q → EndsAtChange (log_changed_by_all (log_changed d y) ys) x q → ⊥) → IsGrantLast (log_changed d y) (ys ++ x ∷ []) z
    by_change (AppendRecord (log.Grant handle version primary members)) old new = λ over. elim (ends_push (log_changed d y) ys x handle.0 over) [ inl before ↦ old before | inr now ↦ new handle.0 refl now ]
    by_change other old new = tt

none_last : (d : LogDisk) (xs : List LogChange) → AllOf IsNoGrant xs → AreGrantsLast d xs
none_last d [] none = tt
none_last d (x ∷ xs) none = (by_change x none.0, none_last (log_changed d x) xs none.1)
  where
    by_change : (z : LogChange) → IsNoGrant z → IsGrantLast (log_changed d x) xs z
    by_change (AppendRecord (log.Grant handle version primary members)) plain = absurd plain
    by_change other plain = tt

-- rows after a record

kept_owned : (t u : Rows) → OwnedFrom t u → (handle : ℕ) (row : ChunkRow) → table.get u handle ≡ Some row → IsKeptRow t handle row
kept_owned t u f handle row is = let was = f handle row is in (was.0, was.1, ap (λ (r : ChunkRow). r.granted) was.2, ap (λ (r : ChunkRow). r.lease_end) was.2)

rows_after : (l : Logged) (r : Record) → IsDue (Unit {0}) l r → IsNoGrantRecord r → (q : ℕ) (row : ChunkRow) → table.get (rows_of (after_record l r)) q ≡ Some row → IsKeptRow (rows_of l) q row ⊎ (q ≡ l.next_handle)
rows_after l (log.AddChunk file handle) due plain q row is =
    elim (put_cases (rows_of l) handle.0 (added_row l.table file.0) q row is) [
      | inl same ↦ inr (same.0 ∙ due.0)
      | inr before ↦ inl (row, before, refl, refl)
    ]
rows_after l (log.CopyStart file index handle copy copy_version) due plain q row is =
    elim (put_cases (rows_of l) copy.0 (copied_row l.table handle.0 copy_version.0) q row is) [
      | inl same ↦ inr (same.0 ∙ due.0)
      | inr before ↦ inl (row, before, refl, refl)
    ]
rows_after l (log.Issue handle version) due plain q row is =
    elim (changed_cases (rows_of l) handle.0 (λ r. record r { issued = version.0 }) (table.get (rows_of l) handle.0) q row refl is) [
      | inl now ↦ inl (now.0, ap (λ (n : ℕ). table.get (rows_of l) n) now.1 ∙ now.2, ap (λ (r : ChunkRow). r.granted) now.3, ap (λ (r : ChunkRow). r.lease_end) now.3)
      | inr before ↦ inl (row, before.1, refl, refl)
    ]
rows_after l (log.Snapshot client n from to) due plain q row is =
    inl (kept_owned (rows_of l) (rows_of (after_record l (log.Snapshot client n from to))) (all_copied_owned l.table l.next_file (copied_entries l.names from to)) q row is)
rows_after l (log.Expired file) due plain q row is = inl (kept_owned (rows_of l) (rows_of (after_record l (log.Expired file))) (expired_owned l file) q row is)
rows_after l (log.Grant handle version primary members) due plain q row is = absurd plain
rows_after l (log.FileItem path file shape handles) due plain q row is = absurd due
rows_after l (log.ChunkItem handle granted issued primary members) due plain q row is = absurd due
rows_after l other due plain q row is = inl (row, is, refl, refl)

abbrev IsGrantedRow : Rows → ℕ → ℕ → ℕ → ℕ → ChunkRow → Type 0
IsGrantedRow before handle version until q row = ((q ≡ handle) × (row.granted ≡ version) × (row.lease_end ≡ until)) ⊎ ((q ≡ handle → ⊥) × IsKeptRow before q row)

rows_granted : (k : Logged) (handle version primary : ℕ) (members : List ℕ) (q : ℕ) (row : ChunkRow) → table.get (rows_of (after_record k (grant_record handle version primary members))) q ≡ Some row → IsGrantedRow (rows_of k) handle version 0 q row
rows_granted k handle version primary members q row is =
    let one : Logged = granted_logged k handle version primary members in
    let was = swapped_owned one handle (table.get k.copies handle) q row is in
    let granted : (was.0).granted ≡ row.granted = ap (λ (r : ChunkRow). r.granted) was.2 in
    let end : (was.0).lease_end ≡ row.lease_end = ap (λ (r : ChunkRow). r.lease_end) was.2 in
    elim (changed_cases (rows_of k) handle (row_granted version primary members) (table.get (rows_of k) handle) q was.0 refl was.1) [
      | inl now ↦ inl (now.1, sym granted ∙ sym (ap (λ (r : ChunkRow). r.granted) now.3), sym end ∙ sym (ap (λ (r : ChunkRow). r.lease_end) now.3))
      | inr before ↦ inr (before.0, (was.0, before.1, granted, end))
    ]

-- and after its lease's end is set
rows_after_grant : (l : Logged) (handle version until primary : ℕ) (members : List ℕ) (q : ℕ) (row : ChunkRow) → table.get (rows_of (after_grant l handle version until primary members)) q ≡ Some row → IsGrantedRow (rows_of l) handle version until q row
rows_after_grant l handle version until primary members q row is =
    let two : Logged = after_record l (grant_record handle version primary members) in
    elim (changed_cases (rows_of two) handle (λ r. record r { lease_end = until }) (table.get (rows_of two) handle) q row refl is) [
      | inl now ↦ elim (rows_granted l handle version primary members handle now.0 now.2) [
        | inl same ↦ inl (now.1, sym (ap (λ (r : ChunkRow). r.granted) now.3) ∙ same.1, sym (ap (λ (r : ChunkRow). r.lease_end) now.3))
        | inr other ↦ absurd (other.0 refl)
      ]
      | inr before ↦ elim (rows_granted l handle version primary members q row before.1) [
        | inl same ↦ absurd (before.0 same.0)
        | inr other ↦ inr other
      ]
    ]

-- a copy stands once where it takes its source's place
swapped_own : (l : Logged) (handle : ℕ) (o : Option Copy) → times_in l.table.files handle ≤ 1 → ((x : Copy) → o ≡ Some x → times_in l.table.files handle ≡ 0) → times_in (swapped_in l handle o).table.files handle ≤ 1
swapped_own l handle None once none = once
swapped_own l handle (Some x) once none =
    let put = times_put l.table.files x.file (with_at (chunks_at l.table.files x.file) x.index handle) handle in
    let low = with_at_most (chunks_at l.table.files x.file) x.index handle handle in
    let one = tally_same handle handle refl in
    let before = none x refl in
    omega (arith, put, low, one, before)

-- the file below a snapshot's source that has the chunk
has_file : (l : Logged) (es : List (Path × Node)) (q : ℕ) → StandsIn l es q → (x : Path) × (id : ℕ) × HasAt es x (File id) × (1 ≤ stands q (chunks_at l.table.files id))
has_file l [] q none = absurd none
has_file l (e ∷ es) q (inl one) = (e.0, one.0, inl (refl, one.1), placed_stands (handles_of l.table one.0) (one.2).0 q (one.2).1)
has_file l (e ∷ es) q (inr later) = let more = has_file l es q later in (more.0, more.1, inr more.2, more.3)

module _ (first : Logged) (tried : Attempts) where
  -- an earlier version than the one that was attempted
  abbrev IsEarlier : ℕ → ℕ → Type 0
  IsEarlier q version = (b : VersionAttempt) (old : ChunkRow) → table.get tried q ≡ Some b → chunk_of first.table q ≡ Some old → version < b.version

  abbrev Lasts : ℕ → ℕ → ChunkRow → Type 0
  Lasts now q row = (now < row.lease_end) ⊎ IsEarlier q row.granted

  -- each lease that was granted in the step lasts, or is of an earlier version
  abbrev IsLasting : Core → Type 0
  IsLasting c = (1 ≤ c.config.lease_ms) × ((q : ℕ) → HasGrant c.changes q → (q < c.logged.next_handle) × ((row : ChunkRow) → table.get (rows_of c.logged) q ≡ Some row → Lasts c.now q row))

  kept_lasts : (now : ℕ) (rows : Rows) (q : ℕ) (row : ChunkRow) → IsKeptRow rows q row → ((old : ChunkRow) → table.get rows q ≡ Some old → Lasts now q old) → Lasts now q row
  kept_lasts now rows q row was h = elim (h was.0 was.1) [
    | inl lasts ↦ inl (let same = was.3 in omega (arith, lasts, same))
    | inr early ↦ inr (subst (λ (v : ℕ). IsEarlier q v) was.2 early)
  ]

  appended_lasting : (c : Core) (r : Record) → IsDue (Unit {0}) c.logged r → IsNoGrantRecord r → IsLasting c → IsLasting (core_appended c r)
  appended_lasting c r due plain h = (
    h.0,
    λ q has. elim (grant_cases c.changes (AppendRecord r) q has) [
      | inl old ↦
          let was = h.1 q old in
          let low = was.0 in (
            let more = next_grows c.logged c.logged r due in omega (arith, low, more),
            λ row is. elim (rows_after c.logged r due plain q row is) [
              | inl kept ↦ kept_lasts c.now (rows_of c.logged) q row kept was.1
              | inr next ↦ absurd (omega (arith, low, next))
            ],
          )
      | inr now ↦ absurd (no_grant_at r q plain now)
    ],
  )

  granted_lasting : (start : LogDisk) (c : Core) (handle version until primary : ℕ) (members : List ℕ) → IsDue (Unit {0}) c.logged (grant_record handle version primary members) → IsLeaseFrom c until → IsRowing start c → IsLasting c
      → IsLasting (core_granted c handle version until primary members)
  granted_lasting start c handle version until primary members due from n h =
      (h.0, λ q has. (next q (grant_cases c.changes (AppendRecord r) q has), λ row is. rows q row (grant_cases c.changes (AppendRecord r) q has) (rows_after_grant c.logged handle version until primary members q row is)))
    where
      r : Record
      r = grant_record handle version primary members

      grown : c.logged.next_handle ≤ (after_record c.logged (grant_record handle version primary members)).next_handle
      grown = next_grows c.logged c.logged (grant_record handle version primary members) due

      next : (q : ℕ) → HasGrant c.changes q ⊎ IsGrantAt (AppendRecord (grant_record handle version primary members)) q → q < (after_record c.logged (grant_record handle version primary members)).next_handle
      next q (inl old) = let low = (h.1 q old).0 in let more = grown in omega (arith, low, more)
      next q (inr now) = let low = row_below c.logged (state_of c.disk) n.same n.tied handle due.0 due.1 in let more = grown in omega (arith, low, more, now)

      rows : (q : ℕ) (row : ChunkRow) → HasGrant c.changes q ⊎ IsGrantAt (AppendRecord (grant_record handle version primary members)) q → IsGrantedRow (rows_of c.logged) handle version until q row → Lasts c.now q row
      rows q row has (inl same) = inl (let long = h.0 in let end = same.2 in omega (arith, long, end, from))
      rows q row (inl old) (inr kept) = kept_lasts c.now (rows_of c.logged) q row kept.1 (h.1 q old).1
      rows q row (inr now) (inr kept) = absurd (kept.0 (sym now))

  ended_lasting : (c : Core) (handle : ℕ) (row : ChunkRow) → chunk_of c.logged.table handle ≡ Some row → IsEarlier handle row.granted → IsLasting c → IsLasting (core_ended c handle 0)
  ended_lasting c handle row is word h = (
    h.0,
    λ q has. let was = h.1 q has in (
      was.0,
      λ new at. elim (changed_cases (rows_of c.logged) handle (λ r. record r { lease_end = 0 }) (table.get (rows_of c.logged) handle) q new refl at) [
        | inl now ↦
            let granted : row.granted ≡ new.granted = ap (λ (r : ChunkRow). r.granted) (same_some row now.0 (sym is ∙ now.2)) ∙ ap (λ (r : ChunkRow). r.granted) now.3 in
            inr (subst (λ (x : ℕ). IsEarlier x new.granted) (sym now.1) (subst (λ (v : ℕ). IsEarlier handle v) granted word))
        | inr before ↦ was.1 new before.1
      ],
    ),
  )

  extended_lasting : (c : Core) (handle until : ℕ) → IsLeaseFrom c until → IsLasting c → IsLasting (core_ended c handle until)
  extended_lasting c handle until from h = (
    h.0,
    λ q has. let was = h.1 q has in (
      was.0,
      λ new at. elim (changed_cases (rows_of c.logged) handle (λ r. record r { lease_end = until }) (table.get (rows_of c.logged) handle) q new refl at) [
        | inl now ↦ let end : until ≡ new.lease_end = ap (λ (r : ChunkRow). r.lease_end) now.3 in let long = h.0 in inl (omega (arith, end, long, from))
        | inr before ↦ was.1 new before.1
      ],
    ),
  )

  lasting_keeps : (start : LogDisk) → Keeps (Unit {0}) Nothing IsEarlier (λ c. IsRowing start c × IsLasting c)
  lasting_keeps start =
      let base : Keeps (Unit {0}) Nothing IsEarlier (IsRowing start) = naming_keeps IsFoundRows IsRowedLog rows_kept start IsEarlier in
      record {
        sound = λ asks c h. base.sound asks c h.0;
        tells = λ c receiver b quiet h. (base.tells c receiver b quiet h.0, h.1);
        orders = λ c server b is plain h. (base.orders c server b is plain h.0, h.1);
        revokes = λ c handle row is h. (base.revokes c handle row is h.0, h.1);
        grants = λ c handle version until primary members told due names from idle h. (base.grants c handle version until primary members told due names from idle h.0, granted_lasting start c handle version until primary members due from h.0 h.1);
        appends = λ c r due plain names h. (base.appends c r due plain names h.0, appended_lasting c r due plain h.1);
        checkpoint = λ c tree h. (
          base.checkpoint c tree h.0,
          (
            h.1.0,
            λ q has. elim (grant_cases c.changes (WriteCheckpoint (checkpoint_of c.logged)) q has) [
              | inl old ↦ let was = h.1.1 q old in (was.0, λ row is. was.1 row (removed_cases (rows_of c.logged) (table.keys c.logged.copies) q row is))
              | inr none ↦ absurd none
            ],
          ),
        );
        less = λ c handles copied h. (base.less c handles copied h.0, (h.1.0, λ q has. let was = h.1.1 q has in (was.0, λ row is. was.1 row (removed_cases (rows_of c.logged) handles q row is))));
        ends = λ c handle row is word h. (base.ends c handle row is word h.0, ended_lasting c handle row is word h.1);
        extends = λ c handle until row is lasts later from h. (base.extends c handle until row is lasts later from h.0, extended_lasting c handle until from h.1);
      }

  -- what is known of what was granted so far
  record IsLast (l : Logged) (attempts : Attempts) (q : ℕ) : Type 0 where
    untried : (a : VersionAttempt) → table.get attempts q ≡ Some a → ⊥
    once : times_in l.table.files q ≤ 1
    attempt : VersionAttempt
    at : table.get tried q ≡ Some attempt
    old : ChunkRow
    old_is : chunk_of first.table q ≡ Some old
    granted : (row : ChunkRow) → table.get (rows_of l) q ≡ Some row → row.granted ≡ attempt.version

  still_last : (l k : Logged) (attempts left : Attempts) (q : ℕ) → k.table.files ≡ l.table.files → ((row : ChunkRow) → table.get (rows_of k) q ≡ Some row → (was : ChunkRow) × (table.get (rows_of l) q ≡ Some was) × (was.granted ≡ row.granted))
      → ((a : VersionAttempt) → table.get left q ≡ Some a → (b : VersionAttempt) × (table.get attempts q ≡ Some b)) → IsLast l attempts q → IsLast k left q
  still_last l k attempts left q files rows tries h =
      record {
        untried = λ a at. let was = tries a at in h.untried was.0 was.1;
        once = subst (λ (f : Files). times_in f q ≤ 1) (sym files) h.once;
        attempt = h.attempt;
        at = h.at;
        old = h.old;
        old_is = h.old_is;
        granted = λ row is. let was = rows row is in sym was.2 ∙ h.granted was.0 was.1;
      }

  set_rows : (rows : Rows) (handle until q : ℕ) (row : ChunkRow) → table.get (changed_by rows handle (λ r. record r { lease_end = until }) (table.get rows handle)) q ≡ Some row → (was : ChunkRow) × (table.get rows q ≡ Some was) × (was.granted ≡ row.granted)
  set_rows rows handle until q row is = elim (changed_cases rows handle (λ r. record r { lease_end = until }) (table.get rows handle) q row refl is) [
    | inl now ↦ (now.0, ap (λ (n : ℕ). table.get rows n) now.1 ∙ now.2, ap (λ (r : ChunkRow). r.granted) now.3)
    | inr before ↦ (row, before.1, refl)
  ]

  module _ (start : LogDisk) (no_source : (q : ℕ) (x : Copy) → table.get first.copies q ≡ Some x → (b : VersionAttempt) → table.get tried x.source ≡ Some b → ⊥) (below : (q : ℕ) (b : VersionAttempt) → table.get tried q ≡ Some b → q < first.next_handle) where
    abbrev AreLast : Core → Attempts → Type 0
    AreLast c attempts = AreSingle c.logged attempts × ((q : ℕ) → HasGrant c.changes q → IsLast c.logged attempts q) × AreGrantsLast start c.changes

    abbrev Lasting : Core → Attempts → Waits → Type 0
    Lasting c attempts ss = Granting first tried start c attempts ss × (HasStart c.changes ⊎ AreLast c attempts)

    lasts : (c : Core) (attempts : Attempts) (q : ℕ) → IsLasting c → HasGrant c.changes q → IsLast c.logged attempts q → (row : ChunkRow) → table.get (rows_of c.logged) q ≡ Some row → c.now < row.lease_end
    lasts c attempts q p has h row is = elim ((p.1 q has).1 row is) [
      | inl now ↦ now
      | inr early ↦ absurd (let low = early h.attempt h.old h.at h.old_is in let same = h.granted row is in omega (arith, low, same))
    ]

    -- no snapshot copies it
    not_below : (c : Core) (attempts : Attempts) (from : Path) (q : ℕ) → IsRowing start c → IsLasting c → HasGrant c.changes q → IsLast c.logged attempts q
        → EachFile c.logged.names from (λ id. (handle : ℕ) → 1 ≤ stands handle (chunks_at c.logged.table.files id) → HasEnded c.now (rows_of c.logged) handle)
        → EachFile c.logged.names from (λ id. 1 ≤ stands q (chunks_at c.logged.table.files id) → ⊥)
    not_below c attempts from q n p has h ended x id at is some =
        let row = chunk_row c.logged.table id q n.tied.base.counted some in
        let low = ended x id at is q some row.0 row.1 in
        let high = lasts c attempts q p has h row.0 row.1 in
        omega (arith, low, high)

    stays_single : (c : Core) (attempts : Attempts) (ss : Waits) (r : Record) (q : ℕ) → IsRowing start c → IsLasting c → HasGrant c.changes q → IsLast c.logged attempts q → IsBeside c.logged attempts ss c.now r → IsNotCopied c.logged r q
    stays_single c attempts ss (log.Snapshot client number from to) q n p has h beside = not_below c attempts from q n p has h beside.3
    stays_single c attempts ss other q n p has h beside = tt

    -- no record but a grant ends it
    record_ends : (c : Core) (attempts : Attempts) (ss : Waits) (r : Record) → IsRowing start c → IsLasting c → IsNoGrantRecord r → IsBeside c.logged attempts ss c.now r → (q : ℕ) → HasGrant c.changes q → IsLast c.logged attempts q
        → EndsAt (state_of c.disk) r q → ⊥
    record_ends c attempts ss (log.Snapshot client number from to) n p plain beside q has h over =
        let l : Logged = state_of c.disk in
        let here = has_file l (copied_entries l.names from to) q over in
        let of = copied_of from to (table.entries l.names) here.0 (File here.1) here.2 in
        not_below c attempts from q n p has h beside.3 of.0 here.1 of.2 (ap (λ (x : Parts). node_at x.names of.0) n.same ∙ entry_is l.names of.0 (File here.1) of.1)
        (subst (λ (files : Files). 1 ≤ stands q (chunks_at files here.1)) (sym n.tied.base.base.files) here.3)
    record_ends c attempts ss (log.Expired file) n p plain beside q has h over =
        let one = h.once in
        let same = ap (λ (files : Files). times_in files q) n.tied.base.base.files in
        omega (arith, one, same, over)
    record_ends c attempts ss (log.Grant handle version primary members) n p plain beside q has h over = plain
    record_ends c attempts ss other n p plain beside q has h over = over

    appended : (c : Core) (attempts : Attempts) (ss : Waits) (r : Record) → IsDue (Unit {0}) c.logged r → IsNoGrantRecord r → IsBeside c.logged attempts ss c.now r → IsRowing start c → IsLasting c → AreLast c attempts → AreLast (core_appended c r) attempts
    appended c attempts ss r due plain beside n p h = (
      λ handle a at. times_after c.logged r handle (used start c n) n.tied.base.base.here due plain (not_copied start c.logged attempts ss c.now r handle a beside at) (h.0 handle a at),
      λ q has. elim (grant_cases c.changes (AppendRecord r) q has) [
        | inl old ↦ after q old (h.1 q old)
        | inr now ↦ absurd (no_grant_at r q plain now)
      ],
      last_push start c.changes (AppendRecord r) h.2 (λ q has over. record_ends c attempts ss r n p plain beside q has (h.1 q has) (subst (λ (d : LogDisk). EndsAtChange d (AppendRecord r) q) n.disk over)),
    )
      where
        after : (q : ℕ) → HasGrant c.changes q → IsLast c.logged attempts q → IsLast (after_record c.logged r) attempts q
        after q has was =
            record {
              untried = was.untried;
              once = times_after c.logged r q (used start c n) n.tied.base.base.here due plain (stays_single c attempts ss r q n p has was beside) was.once;
              attempt = was.attempt;
              at = was.at;
              old = was.old;
              old_is = was.old_is;
              granted = λ row is. elim (rows_after c.logged r due plain q row is) [
                | inl kept ↦ sym kept.2 ∙ was.granted kept.0 kept.1
                | inr next ↦ absurd (let low = (p.1 q has).0 in omega (arith, low, next))
              ];
            }

    -- another grant
    module _ (c : Core) (attempts : Attempts) (handle : ℕ) (a : VersionAttempt) (until primary : ℕ) (members : List ℕ) (at : table.get attempts handle ≡ Some a) (row : ChunkRow) (is : chunk_of c.logged.table handle ≡ Some row)
        (n : IsRowing start c) (from : AreFromFirst first tried c.logged attempts) (h : AreLast c attempts) where
      abbrev log_now : Logged
      log_now = state_of c.disk

      abbrev granted_to : Logged
      granted_to = after_grant c.logged handle a.version until primary members

      same_copies : table.get c.logged.copies handle ≡ table.get log_now.copies handle
      same_copies = same_copy c.logged.copies log_now.copies (rows_of c.logged) handle row is n.tied.base.base.among n.tied.base.base.alone

      grant_ends : (q : ℕ) → HasGrant c.changes q → EndsAt log_now (grant_record handle a.version primary members) q → ⊥
      grant_ends q has (inl same) = (h.1 q has).untried a (ap (λ (k : ℕ). table.get attempts k) same ∙ at)
      grant_ends q has (inr source) = no_source handle source.0 (from.1 handle source.0 (same_copies ∙ source.1)) (h.1 q has).attempt (ap (λ (k : ℕ). table.get tried k) (sym source.2) ∙ (h.1 q has).at)

      fewer_times : (q : ℕ) → (q ≡ handle → ⊥) → times_in c.logged.table.files q ≤ 1 → times_in granted_to.table.files q ≤ 1
      fewer_times q other before =
          let low = swapped_times (record c.logged { table = grant c.logged.table handle a.version primary members }) handle q (table.get c.logged.copies handle) other in
          omega (arith, before, low)

      own_times : times_in granted_to.table.files handle ≤ 1
      own_times =
          swapped_own (record c.logged { table = grant c.logged.table handle a.version primary members }) handle (table.get c.logged.copies handle) (h.0 handle a at)
          (λ x copy. ap (λ (files : Files). times_in files handle) n.tied.base.base.files ∙ n.tied.base.log.apart handle x (n.tied.base.base.among handle x copy))

      was_tried : (b : VersionAttempt) × (table.get tried handle ≡ Some b) × (b.version ≡ a.version)
      was_tried = from.2 handle a at

      was_there : (old : ChunkRow) × (chunk_of first.table handle ≡ Some old)
      was_there = elim (from.3 handle row is) [
        | inl new ↦ absurd (let low = below handle was_tried.0 was_tried.1 in omega (arith, low, new))
        | inr old ↦ (old.0, old.1)
      ]

      new_last : IsLast granted_to (table.remove attempts handle) handle
      new_last =
          record {
            untried = λ b there. none_some b (sym (gone_there attempts handle handle refl) ∙ there);
            once = own_times;
            attempt = was_tried.0;
            at = was_tried.1;
            old = was_there.0;
            old_is = was_there.1;
            granted = λ new there. elim (rows_after_grant c.logged handle a.version until primary members handle new there) [
              | inl same ↦ same.1 ∙ sym was_tried.2
              | inr other ↦ absurd (other.0 refl)
            ];
          }

      old_last : (q : ℕ) → (q ≡ handle → ⊥) → IsLast c.logged attempts q → IsLast granted_to (table.remove attempts handle) q
      old_last q other was =
          record {
            untried = λ b there. was.untried b (kept_cases attempts handle q b there);
            once = fewer_times q other was.once;
            attempt = was.attempt;
            at = was.at;
            old = was.old;
            old_is = was.old_is;
            granted = λ new there. elim (rows_after_grant c.logged handle a.version until primary members q new there) [
              | inl same ↦ absurd (other same.0)
              | inr kept ↦ let same = kept.1 in sym same.2 ∙ was.granted same.0 same.1
            ];
          }

      granted : AreLast (core_granted c handle a.version until primary members) (table.remove attempts handle)
      granted = (
        λ q b there. elim (same_or_not q handle) [
          | inl same ↦ absurd (none_some b (sym (gone_there attempts handle q same) ∙ there))
          | inr other ↦ fewer_times q other (h.0 q b (kept_cases attempts handle q b there))
        ],
        λ q has. elim (grant_cases c.changes (AppendRecord (grant_record handle a.version primary members)) q has) [
          | inl old ↦ old_last q (λ same. (h.1 q old).untried a (ap (λ (k : ℕ). table.get attempts k) same ∙ at)) (h.1 q old)
          | inr now ↦ subst (λ (x : ℕ). IsLast granted_to (table.remove attempts handle) x) now new_last
        ],
        last_push start c.changes (AppendRecord (grant_record handle a.version primary members)) h.2
            (λ q has over. grant_ends q has (subst (λ (d : LogDisk). EndsAtChange d (AppendRecord (grant_record handle a.version primary members)) q) n.disk over)),
      )

    lasting_acts : Acts start IsEarlier (λ c. IsRowing start c × IsLasting c) Lasting
    lasting_acts =
        let base : Acts start NoneEnded (IsRowing start) (Granting first tried start) = granting_acts first tried start in
        record {
          tells = λ c attempts ss receiver b quiet h. h;
          orders = λ c attempts ss server b is plain none h. h;
          gives = λ c attempts ss server handle a b at has plain given h. h;
          revokes = λ c attempts ss handle row is h. h;
          appends = λ c attempts ss r due plain beside n after h. (
            base.appends c attempts ss r due plain beside n.0 after.0 h.0,
            elim h.1 [
              | inl begun ↦ inl (start_stays c.changes (AppendRecord r ∷ []) begun)
              | inr last ↦ inr (appended c attempts ss r due plain beside n.0 n.1 last)
            ],
          );
          checkpoint = λ c attempts ss tree n after h. (
            base.checkpoint c attempts ss tree n.0 after.0 h.0,
            elim h.1 [
              | inl begun ↦ inl (start_stays c.changes (WriteCheckpoint (checkpoint_of c.logged) ∷ []) begun)
              | inr last ↦ inr (
                λ handle a at. last.0 handle a (removed_cases attempts (table.keys c.logged.copies) handle a at),
                λ q has. elim (grant_cases c.changes (WriteCheckpoint (checkpoint_of c.logged)) q has) [
                  | inl old ↦
                      still_last c.logged (all_copies_given_up c.logged) attempts (removed_all attempts (table.keys c.logged.copies)) q refl (λ row is. (row, removed_cases (rows_of c.logged) (table.keys c.logged.copies) q row is, refl))
                      (λ a at. (a, removed_cases attempts (table.keys c.logged.copies) q a at)) (last.1 q old)
                  | inr none ↦ absurd none
                ],
                last_push start c.changes (WriteCheckpoint (checkpoint_of c.logged)) last.2 (λ q has over. over),
              )
            ],
          );
          less = λ c attempts ss handles copied n h. (
            base.less c attempts ss handles copied n.0 h.0,
            elim h.1 [
              | inl begun ↦ inl begun
              | inr last ↦ inr (
                λ handle a at. last.0 handle a (removed_cases attempts handles handle a at),
                λ q has.
                    still_last c.logged (copies_given_up c.logged handles) attempts (removed_all attempts handles) q refl (λ row is. (row, removed_cases (rows_of c.logged) handles q row is, refl))
                    (λ a at. (a, removed_cases attempts handles q a at)) (last.1 q has),
                last.2,
              )
            ],
          );
          fewer = λ c attempts left ss were h. (
            base.fewer c attempts left ss were h.0,
            elim h.1 [
              | inl begun ↦ inl begun
              | inr last ↦ inr (
                λ handle a at. last.0 handle a (were handle a at),
                λ q has. still_last c.logged c.logged attempts left q refl (λ row is. (row, is, refl)) (λ a at. (a, were q a at)) (last.1 q has),
                last.2,
              )
            ],
          );
          waits = λ c attempts ss more h. h;
          issues = λ c attempts ss handle row a is next alone n before h. (
            base.issues c attempts ss handle row a is next alone n.0 before.0 h.0,
            inl (start_last c.changes (AppendRecord (log.Issue (handle_of handle) (version_of a.version))) tt),
          );
          copies = λ c attempts ss file index source copy a next n before h. (
            base.copies c attempts ss file index source copy a next n.0 before.0 h.0,
            inl (start_last c.changes (AppendRecord (log.CopyStart file index source (handle_of copy) (version_of a.version))) tt),
          );
          records = λ c attempts ss handle a b at same servers h. (
            base.records c attempts ss handle a b at same servers h.0,
            elim h.1 [
              | inl begun ↦ inl begun
              | inr last ↦ inr (
                λ q x is. elim (put_cases attempts handle b q x is) [ inl here ↦ subst (λ (y : ℕ). times_in c.logged.table.files y ≤ 1) (sym here.0) (last.0 handle a at) | inr old ↦ last.0 q x old ],
                λ q has.
                    still_last c.logged c.logged attempts (table.insert attempts handle b) q refl (λ row is. (row, is, refl))
                    (λ x is. elim (put_cases attempts handle b q x is) [ inl here ↦ (a, ap (λ (k : ℕ). table.get attempts k) here.0 ∙ at) | inr old ↦ (x, old) ]) (last.1 q has),
                last.2,
              )
            ],
          );
          grants = λ c attempts ss handle a until primary members at all due n after h. (
            base.grants c attempts ss handle a until primary members at all due n.0 after.0 h.0,
            elim h.1 [
              | inl begun ↦ inl (start_stays c.changes (AppendRecord (grant_record handle a.version primary members) ∷ []) begun)
              | inr last ↦ elim h.0 [
                | inl begun ↦ inl (start_stays c.changes (AppendRecord (grant_record handle a.version primary members) ∷ []) begun)
                | inr from ↦ inr (granted c attempts handle a until primary members at due.0 due.1 n.0 from.0 last)
              ]
            ],
          );
          ends = λ c attempts ss handle row is word n h. (
            base.ends c attempts ss handle row is tt n.0 h.0,
            elim h.1 [
              | inl begun ↦ inl begun
              | inr last ↦ inr (
                last.0,
                λ q has. still_last c.logged (core_ended c handle 0).logged attempts attempts q refl (λ new there. set_rows (rows_of c.logged) handle 0 q new there) (λ a at. (a, at)) (last.1 q has),
                last.2,
              )
            ],
          );
          extends = λ c attempts ss handle until row is lasts_now n h. (
            base.extends c attempts ss handle until row is lasts_now n.0 h.0,
            elim h.1 [
              | inl begun ↦ inl begun
              | inr last ↦ inr (
                last.0,
                λ q has. still_last c.logged (core_ended c handle until).logged attempts attempts q refl (λ new there. set_rows (rows_of c.logged) handle until q new there) (λ a at. (a, at)) (last.1 q has),
                last.2,
              )
            ],
          );
        }

module _ (config : Config) (servers clients : ℕ) (w : WorldState) (r : IsReached config servers clients w) (clocks : IsTrue w.observer.are_clocks_kept) (up : IsTrue w.master.up) where
  timed : IsOfTimes (scene_of w)
  timed = scene_reached IsOfTimes times_kept config servers clients w r

  -- a lease that a server said to be over is of an earlier version than the one that is attempted
  word_said : (m : Message) (place : ℕ) → element_at w.sent place ≡ Some m → (b : Body) → m.body ≡ b → IsWordSaid (IsEarlier w.master.logged w.master.attempts) b
  word_said m place sent (body.Revoked handle version) same = λ b old at is.
      let was : WasRevoked w.sent w.servers handle.0 version.0 = timed.base.revoked m (place, sent) handle version same in
      let low = ((timed.base.sent.revokes.up up).rows handle.0 old is (was.word).revoke (was.word).is_sent).1 was.order (version_of version.0) (was.word).is in
      let high = (attempted_chunks_have_no_lease config servers clients w r clocks up handle.0 b at old is).0 in
      omega (arith, low, high)
  word_said m place sent other same = tt

  input_said : (i : NodeInput) → WasSent w i → IsInputSaid (IsEarlier w.master.logged w.master.attempts) i
  input_said input.Tick sent = tt
  input_said (input.Deliver m) sent = by_number sent.0 sent.1
    where
      by_number : (number : ℕ) → numbered_from_1 w.sent number ≡ Some m → IsWordSaid (IsEarlier w.master.logged w.master.attempts) m.body
      by_number zero none = none_some m none
      by_number (suc place) at = word_said m place at m.body refl

  config_is : w.master.config ≡ config
  config_is = timed.clock.0 ∙ ap (λ (v : WorldState). v.config) (sym r.1) ∙ config_stays config (new_world config servers clients) r.0 refl

  last_of : (moment : ℕ) (i : NodeInput) → WasSent w i → (refused : List Bool) → 1 ≤ config.lease_ms → AreGrantsLast w.master.disk (master_goes w.master moment i refused).changes
  last_of moment i sent refused long =
      let m : MasterState = w.master in
      let free = free_reached config servers clients w r clocks up in
      let logged = (logged_here IsFoundRows IsRowedLog rows_kept config servers clients w r).1 in
      let u : IsUpToLog IsFoundRows IsRowedLog rows_kept m = logged.up up in
      let no_source : (q : ℕ) (x : Copy) → table.get m.logged.copies q ≡ Some x → (b : VersionAttempt) → table.get m.attempts x.source ≡ Some b → ⊥ =
      λ q x is b at. none_some b (sym (copied_chunks_have_no_lease config servers clients w r clocks up q x is).0 ∙ at) in
      let below : (q : ℕ) (b : VersionAttempt) → table.get m.attempts q ≡ Some b → q < m.logged.next_handle = λ q b at. (attempts_are_of_the_last_version config servers clients w r up q b at).0 in
      let end =
      goes_acts (IsEarlier m.logged m.attempts) (λ c. IsRowing m.disk c × IsLasting m.logged m.attempts c) (Lasting m.logged m.attempts m.disk no_source below) m moment i refused (lasting_keeps m.logged m.attempts m.disk) (λ c p. p.0)
      (lasting_acts m.logged m.attempts m.disk no_source below) (input_said i sent) logged up (waits_here config servers clients w r)
      (record { none = u.idle; disk = refl; same = u.same; tied = u.tied; stops = logged.found [] }, (subst (λ (x : Config). 1 ≤ x.lease_ms) (sym config_is) long, λ q has. absurd has))
      (inr ((omega arith, λ q c is. is, λ q a at. (a, at, refl), λ q row is. inr (row, is, inl refl)), tt), inr (single_here config servers clients w r clocks up, λ q has. absurd has, tt)) in
      elim (asked_or_not i) [
        | inl none ↦ elim end.2.1 [
          | inl begun ↦ absurd (no_start (master_goes m moment i refused).changes (unasked_step config servers clients w r clocks up free moment i refused none).changes begun)
          | inr last ↦ last.2
        ]
        | inr ask ↦ none_last m.disk (master_goes m moment i refused).changes (asked_step config servers clients w r clocks up free moment i refused ask).changes
      ]

pub grants_are_last : GrantsAreLast
grants_are_last config servers clients w r clocks up long moment i sent refused = last_of config servers clients w r clocks up moment i sent refused long
