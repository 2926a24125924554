-- Each end of a lease that the master told is past, or its primary said that the lease is revoked, or the chunk's row has that version and an end that is not earlier.
use Rattle.std.proofs.Common.{◌≡◌, ◌⊎◌, ℕ, suc, ◌+◌, ◌≤◌, ◌<◌, true, false, List, [], ◌∷◌, ◌++◌, Option, Some, refl, sym, ap, subst, ◌∙◌, inl, inr, arith}
use Rattle.std.specs.Prelude.{◌==◌, ◌&&◌}
use Rattle.std.specs.FinMap as table
use Rattle.std.proofs.lemmas.Bool.{eqb-true, and_parts}
use Rattle.gfs_types.specs.declared.ids.Node.TheVariants as node
use Rattle.gfs_types.specs.declared.ids.OrderNo.{OrderNo}
use Rattle.messages.specs.declared.message.Body.{Body}
use Rattle.messages.specs.declared.message.Body.TheVariants as body
use Rattle.messages.specs.declared.message.Message.{Message}
use Rattle.log_records.specs.declared.record.Record.{Record}
use Rattle.log_records.specs.declared.record.Record.TheVariants as log
use Rattle.relaxed_file.specs.Names.{copied_entries}
use Rattle.relaxed_file.proofs.NamesTree.{Tree}
use Rattle.protocol.specs.Sending.{message, the_server, handle_of, version_of, moment_of, order_number}
use Rattle.chunk_table.specs.ChunkTable.{ChunkRow, chunk_of, row_granted, added_row, copied_row}
use Rattle.protocol.specs.Logged.{Logged, LogDisk, LogChange, AppendRecord, WriteCheckpoint, first_logged, log_changed, log_changed_by_all, after_record, after_records, checkpoint_of, copies_given_up, all_copies_given_up}
use Rattle.laws_base.specs.Laws.{is_grant, tells_end}
use Rattle.laws_base.proofs.Steps.{none_some, same_some, put_cases}
use Rattle.laws_base.proofs.Words.{is_of_lease, true_false, quiet_nothing}
use Rattle.laws_base.proofs.LeaseOrders.{grant_parts, grant_ends, ExtendsNothing, nothing_ends}
use Rattle.laws_base.proofs.ChunkRows.{Rows, rows_of, OwnedFrom, removed_owned, all_copied_owned, swapped_owned, expired_owned}
use Rattle.laws_base.proofs.VersionsAhead.{changed_cases}
use Rattle.laws_base.proofs.LeasesEnded.{HasEnded, after_grant}
use Rattle.laws_base.proofs.MasterMoves.{Core, IsDue, IsNoGrantRecord, IsPlainOrder, plain_nothing, IsLeft, IsLeaseFrom, core_changed, core_appended, core_ended, core_granted, core_extended, grant_record, granted_order}
use Rattle.laws_base.proofs.MessagesSent.{IsSent}
use Rattle.laws_base.proofs.OrderNumbers.{state_of, state-appended, AllStops, stops_push}
use Rattle.laws_base.proofs.LoggedParts.{Parts, checkpoint_parts}
use Rattle.laws_base.proofs.FilesLogged.{same_copy}
use Rattle.laws_base.proofs.CountsLogged.{next_grows}
use Rattle.laws_base.proofs.CountsKept.{counts_kept}
use Rattle.laws_base.proofs.RowsSame.{IsSameRow, AreSameAt}
use Rattle.laws_base.proofs.RowsFit.{granted_logged, same_row}
use Rattle.laws_base.proofs.RowsKept.{checkpoint_same}
use Rattle.laws_base.proofs.NamesReached.{without_end}
use Rattle.laws_base.proofs.GrantsOnce.{row_below}
use Rattle.laws_base.proofs.RevokesNumbered.{IsRowing, AreAmong, before_among, IsOneMore, one_more}

-- rows after a change

-- a row that was there, with the same granted version and end
abbrev pub IsKeptRow : Rows → ℕ → ChunkRow → Type 0
IsKeptRow before handle row = (old : ChunkRow) × (table.get before handle ≡ Some old) × (old.granted ≡ row.granted) × (old.lease_end ≡ row.lease_end)

kept_owned : (t u : Rows) → OwnedFrom t u → (handle : ℕ) (row : ChunkRow) → table.get u handle ≡ Some row → IsKeptRow t handle row
kept_owned t u f handle row is = let was = f handle row is in (was.0, was.1, ap (λ (r : ChunkRow). r.granted) was.2, ap (λ (r : ChunkRow). r.lease_end) was.2)

-- after a record that grants nothing, a row was there or is of the next handle
rows_after : (l k : Logged) (r : Record) → IsDue (Unit {0}) l r → IsNoGrantRecord r → (q : ℕ) (row : ChunkRow) → table.get (rows_of (after_record k r)) q ≡ Some row → IsKeptRow (rows_of k) q row ⊎ (q ≡ l.next_handle)
rows_after l k (log.AddChunk file handle) due plain q row is =
    elim (put_cases (rows_of k) handle.0 (added_row k.table file.0) q row is) [
      | inl same ↦ inr (same.0 ∙ due.0)
      | inr before ↦ inl (row, before, refl, refl)
    ]
rows_after l k (log.CopyStart file index handle copy copy_version) due plain q row is =
    elim (put_cases (rows_of k) copy.0 (copied_row k.table handle.0 copy_version.0) q row is) [
      | inl same ↦ inr (same.0 ∙ due.0)
      | inr before ↦ inl (row, before, refl, refl)
    ]
rows_after l k (log.Issue handle version) due plain q row is =
    elim (changed_cases (rows_of k) handle.0 (λ r. record r { issued = version.0 }) (table.get (rows_of k) handle.0) q row refl is) [
      | inl now ↦ inl (now.0, ap (λ (n : ℕ). table.get (rows_of k) n) now.1 ∙ now.2, ap (λ (r : ChunkRow). r.granted) now.3, ap (λ (r : ChunkRow). r.lease_end) now.3)
      | inr before ↦ inl (row, before.1, refl, refl)
    ]
rows_after l k (log.Snapshot client n from to) due plain q row is =
    inl (kept_owned (rows_of k) (rows_of (after_record k (log.Snapshot client n from to))) (all_copied_owned k.table k.next_file (copied_entries k.names from to)) q row is)
rows_after l k (log.Expired file) due plain q row is = inl (kept_owned (rows_of k) (rows_of (after_record k (log.Expired file))) (expired_owned k file) q row is)
rows_after l k (log.Grant handle version primary members) due plain q row is = absurd plain
rows_after l k (log.FileItem path file shape handles) due plain q row is = absurd due
rows_after l k (log.ChunkItem handle granted issued primary members) due plain q row is = absurd due
rows_after l k other due plain q row is = inl (row, is, refl, refl)

-- after a grant's record a row is the granted one's, or was there
abbrev IsGrantedRow : Rows → ℕ → ℕ → ℕ → ℕ → ChunkRow → Type 0
IsGrantedRow before handle version until q row = ((q ≡ handle) × (row.granted ≡ version) × (row.lease_end ≡ until)) ⊎ ((q ≡ handle → ⊥) × IsKeptRow before q row)

rows_granted : (k : Logged) (handle version primary : ℕ) (members : List ℕ) (q : ℕ) (row : ChunkRow) → table.get (rows_of (after_record k (grant_record handle version primary members))) q ≡ Some row → IsGrantedRow (rows_of k) handle version 0 q row
rows_granted k handle version primary members q row is =
    let one : Logged = granted_logged k handle version primary members in
    let was = swapped_owned one handle (table.get k.copies handle) q row is in
    let granted : (was.0).granted ≡ row.granted = ap (λ (r : ChunkRow). r.granted) was.2 in
    let end : (was.0).lease_end ≡ row.lease_end = ap (λ (r : ChunkRow). r.lease_end) was.2 in
    elim (changed_cases (rows_of k) handle (row_granted version primary members) (table.get (rows_of k) handle) q was.0 refl was.1) [
      | inl now ↦ inl (now.1, sym granted ∙ sym (ap (λ (r : ChunkRow). r.granted) now.3), sym end ∙ sym (ap (λ (r : ChunkRow). r.lease_end) now.3))
      | inr before ↦ inr (before.0, (was.0, before.1, granted, end))
    ]

-- and after its lease's end is set
rows_after_grant : (l : Logged) (handle version until primary : ℕ) (members : List ℕ) (q : ℕ) (row : ChunkRow) → table.get (rows_of (after_grant l handle version until primary members)) q ≡ Some row → IsGrantedRow (rows_of l) handle version until q row
rows_after_grant l handle version until primary members q row is =
    let two : Logged = after_record l (grant_record handle version primary members) in
    elim (changed_cases (rows_of two) handle (λ r. record r { lease_end = until }) (table.get (rows_of two) handle) q row refl is) [
      | inl now ↦ elim (rows_granted l handle version primary members handle now.0 now.2) [
        | inl same ↦ inl (now.1, sym (ap (λ (r : ChunkRow). r.granted) now.3) ∙ same.1, sym (ap (λ (r : ChunkRow). r.lease_end) now.3))
        | inr other ↦ absurd (other.0 refl)
      ]
      | inr before ↦ elim (rows_granted l handle version primary members q row before.1) [
        | inl same ↦ absurd (before.0 same.0)
        | inr other ↦ inr other
      ]
    ]

-- what was told

-- one of these messages tells that the lease of this version ends then
abbrev pub IsEndTold : List Message → ℕ → ℕ → ℕ → Type 0
IsEndTold ms handle version until = (m : Message) × IsSent ms m × (tells_end handle version until m.body ≡ true)

abbrev pub IsVersionGranted : List Message → ℕ → ℕ → Type 0
IsVersionGranted ms handle version = (m : Message) × IsSent ms m × (is_grant handle version m.body ≡ true)

-- a server said that it has no lease of this version
abbrev pub WasSaidOver : List Message → ℕ → ℕ → Type 0
WasSaidOver ms handle version = (m : Message) × IsSent ms m × (m.body ≡ body.Revoked (handle_of handle) (version_of version))

-- the lease does not count any more
abbrev pub IsPast : ℕ → List Message → ℕ → ℕ → ℕ → Type 0
IsPast greatest ms handle version until = (until ≤ greatest) ⊎ WasSaidOver ms handle version

-- what a row with this granted version and end says of it
abbrev pub HasEnd : ℕ → List Message → ℕ → ℕ → ℕ → ℕ → ℕ → Type 0
HasEnd greatest ms handle version until granted end = (version ≤ granted) × (IsPast greatest ms handle version until ⊎ ((granted ≤ version) × (until ≤ end)))

-- and a row of the log
abbrev pub HasVersion : ℕ → List Message → ℕ → ℕ → ℕ → ℕ → ℕ → Type 0
HasVersion greatest ms handle version until granted end = (version ≤ granted) × (IsPast greatest ms handle version until ⊎ (granted ≤ version))

-- each end that was told is of a used handle, and its chunk's row says this of it
abbrev pub AreEnds : (ℕ → ℕ → ℕ → ℕ → ℕ → Type 0) → List Message → Logged → Type 0
AreEnds D told l =
    (handle version until : ℕ) → IsEndTold told handle version until
    → (handle < l.next_handle) × ((row : ChunkRow) → table.get (rows_of l) handle ≡ Some row → D handle version until row.granted row.lease_end)

module _ (D : ℕ → ℕ → ℕ → ℕ → ℕ → Type 0) where
  kept_says : (rows : Rows) (handle version until : ℕ) (row : ChunkRow) → IsKeptRow rows handle row → ((old : ChunkRow) → table.get rows handle ≡ Some old → D handle version until old.granted old.lease_end)
      → D handle version until row.granted row.lease_end
  kept_says rows handle version until row was h =
      subst (λ (n : ℕ). D handle version until n row.lease_end) was.2 (subst (λ (n : ℕ). D handle version until (was.0).granted n) was.3 (h was.0 was.1))

  pub ends_among : (told less : List Message) (l : Logged) → AreAmong less told → AreEnds D told l → AreEnds D less l
  ends_among told less l among h handle version until is =
      let was = among is.0 is.1 in
      h handle version until (was.0, was.1, ap (tells_end handle version until) was.2.2 ∙ is.2)

  pub ends_owned : (told : List Message) (l k : Logged) → OwnedFrom (rows_of l) (rows_of k) → l.next_handle ≤ k.next_handle → AreEnds D told l → AreEnds D told k
  ends_owned told l k f more h handle version until is =
      let old = h handle version until is in
      let low = old.0 in
      (omega (arith, low, more), λ row at. kept_says (rows_of l) handle version until row (kept_owned (rows_of l) (rows_of k) f handle row at) old.1)

  pub ends_after : (told : List Message) (l k : Logged) (r : Record) → IsDue (Unit {0}) l r → IsNoGrantRecord r → l.next_handle ≡ k.next_handle → AreEnds D told k → AreEnds D told (after_record k r)
  ends_after told l k r due plain next h handle version until is =
      let old = h handle version until is in
      let low = old.0 in
      let grown = next_grows l k r due in (
        omega (arith, low, grown),
        λ row at. elim (rows_after l k r due plain handle row at) [
          | inl was ↦ kept_says (rows_of k) handle version until row was old.1
          | inr new ↦ absurd (omega (arith, low, new, next))
        ],
      )

  -- a grant, where this is so of the earlier ends of its chunk
  ends_granted_by : (told : List Message) (l k : Logged) (chunk number until : ℕ) → ((q : ℕ) (row : ChunkRow) → table.get (rows_of k) q ≡ Some row → IsGrantedRow (rows_of l) chunk number until q row) → l.next_handle ≤ k.next_handle
      → ((version end : ℕ) → IsEndTold told chunk version end → D chunk version end number until) → AreEnds D told l → AreEnds D told k
  ends_granted_by told l k chunk number until rows more new h handle version end is =
      let old = h handle version end is in
      let low = old.0 in (
        omega (arith, low, more),
        λ row at. elim (rows handle row at) [
          | inl same ↦
              let first : D chunk version end number until = new version end (subst (λ (q : ℕ). IsEndTold told q version end) same.0 is) in
              subst (λ (q : ℕ). D q version end row.granted row.lease_end) (sym same.0) (subst (λ (n : ℕ). D chunk version end n row.lease_end) (sym same.1) (subst (λ (n : ℕ). D chunk version end number n) (sym same.2) first))
          | inr other ↦ kept_says (rows_of l) handle version end row other.1 old.1
        ],
      )

  pub ends_granted : (told : List Message) (l : Logged) (chunk number until primary : ℕ) (members : List ℕ) → IsDue (Unit {0}) l (grant_record chunk number primary members)
      → ((version end : ℕ) → IsEndTold told chunk version end → D chunk version end number until) → AreEnds D told l → AreEnds D told (after_grant l chunk number until primary members)
  ends_granted told l chunk number until primary members due new h =
      ends_granted_by told l (after_grant l chunk number until primary members) chunk number until (rows_after_grant l chunk number until primary members) (next_grows l l (grant_record chunk number primary members) due) new h

  pub ends_logged : (told : List Message) (l k : Logged) (chunk number primary : ℕ) (members : List ℕ) → IsDue (Unit {0}) l (grant_record chunk number primary members)
      → ((version end : ℕ) → IsEndTold told chunk version end → D chunk version end number 0) → AreEnds D told k → AreEnds D told (after_record k (grant_record chunk number primary members))
  ends_logged told l k chunk number primary members due new h =
      ends_granted_by told k (after_record k (grant_record chunk number primary members)) chunk number 0 (rows_granted k chunk number primary members) (next_grows l k (grant_record chunk number primary members) due) new h

  -- one message more
  pub ends_more : (told more : List Message) (m : Message) (l : Logged) → IsOneMore told m more
      → ((handle version until : ℕ) → tells_end handle version until m.body ≡ true → (handle < l.next_handle) × ((row : ChunkRow) → table.get (rows_of l) handle ≡ Some row → D handle version until row.granted row.lease_end))
      → AreEnds D told l → AreEnds D more l
  ends_more told more m l one new h handle version until is =
      elim (one is.0 is.1) [
        | inl before ↦ h handle version until (is.0, before, is.2)
        | inr same ↦ new handle version until (ap (λ (x : Message). tells_end handle version until x.body) same ∙ is.2)
      ]

-- a log with the same rows but for ends
ends_same : (greatest : ℕ) (past told : List Message) (l k : Logged) → ((q : ℕ) → AreSameAt (rows_of l) (rows_of k) q) → l.next_handle ≡ k.next_handle → AreEnds (HasVersion greatest past) told l → AreEnds (HasVersion greatest past) told k
ends_same greatest past told l k same next h handle version until is =
    let old = h handle version until is in
    let low = old.0 in (
      omega (arith, low, next),
      λ row at.
          let was = same_row (table.get (rows_of l) handle) (table.get (rows_of k) handle) row (same handle) at in
          subst (λ (n : ℕ). HasVersion greatest past handle version until n row.lease_end) (ap (λ (r : ChunkRow). r.granted) was.2) (old.1 was.0 was.1),
    )

-- what a state says, its log says too
logged_end : (greatest : ℕ) (past : List Message) (handle version until granted end other : ℕ) → HasEnd greatest past handle version until granted end → HasVersion greatest past handle version until granted other
logged_end greatest past handle version until granted end other h = (h.0, elim (h.1) [ inl over ↦ inl over | inr last ↦ inr last.0 ])

ends_to_log : (greatest : ℕ) (past told : List Message) (l : Logged) → AreEnds (HasEnd greatest past) told l → AreEnds (HasVersion greatest past) told l
ends_to_log greatest past told l h handle version until is =
    let old = h handle version until is in
    (old.0, λ row at. logged_end greatest past handle version until row.granted row.lease_end row.lease_end (old.1 row at))

-- which messages tell ends

pub ordered_extends : (b : Body) (o : OrderNo) → order_number b ≡ Some o → ExtendsNothing b
ordered_extends (body.Extend h v end_moment) o is = none_some o is
ordered_extends other o is = tt

pub quiet_extends : (b : Body) → is_of_lease b ≡ false → ExtendsNothing b
quiet_extends (body.Extend h v end_moment) quiet = true_false quiet
quiet_extends other quiet = tt

pub plain_tells : (b : Body) (o : OrderNo) → order_number b ≡ Some o → IsPlainOrder b → (handle version until : ℕ) → tells_end handle version until b ≡ false
plain_tells b o is plain = nothing_ends b (plain_nothing b plain) (ordered_extends b o is)

pub quiet_tells : (b : Body) → is_of_lease b ≡ false → (handle version until : ℕ) → tells_end handle version until b ≡ false
quiet_tells b quiet = nothing_ends b (quiet_nothing b quiet) (quiet_extends b quiet)

-- the three numbers of an end
named_end : (chunk number moment handle version until : ℕ) → (chunk == handle) && (number == version) && (moment == until) ≡ true → (chunk ≡ handle) × (number ≡ version) × (moment ≡ until)
named_end chunk number moment handle version until is =
    let outer = and_parts ((chunk == handle) && (number == version)) (moment == until) is in
    let inner = and_parts (chunk == handle) (number == version) outer.0 in
    (eqb-true chunk handle inner.0, eqb-true number version inner.1, eqb-true moment until outer.1)

pub grant_tells : (b : Body) (handle version : ℕ) → is_grant handle version b ≡ true → (until : ℕ) × (tells_end handle version until b ≡ true)
grant_tells b handle version is = let parts = grant_parts handle version b is in ((parts.1).0, grant_ends parts.3)

-- a version that was granted has an end that was told
pub granted_told : (told : List Message) (handle version : ℕ) → IsVersionGranted told handle version → (until : ℕ) × IsEndTold told handle version until
granted_told told handle version g = let end = grant_tells (g.0).body handle version g.2 in (end.0, (g.0, g.1, end.1))

-- a step so far

module _ (before : List Message) (greatest lease_ms : ℕ) (start : LogDisk) where
  abbrev Past : ℕ → ℕ → ℕ → Type 0
  Past handle version until = IsPast greatest before handle version until

  abbrev IsLogEnds : LogDisk → Type 0
  IsLogEnds d = AreEnds (HasVersion greatest before) before (state_of d)

  pub record IsTelling (c : Core) : Type 0 where
    pub now : c.now ≤ greatest
    pub lease : c.config.lease_ms ≡ lease_ms
    pub bound : (handle version until : ℕ) → IsEndTold (before ++ c.sent) handle version until → (until ≤ greatest + lease_ms) × (1 ≤ version)
    -- of an earlier version than one that was granted the lease is past
    pub newer : (handle version until later : ℕ) → IsEndTold (before ++ c.sent) handle version until → IsVersionGranted (before ++ c.sent) handle later → version < later → Past handle version until
    pub state : AreEnds (HasEnd greatest before) (before ++ c.sent) c.logged
    pub disk : AreEnds (HasVersion greatest before) (before ++ c.sent) (state_of c.disk)
    pub stops : AllStops IsLogEnds start c.changes

  -- the disk and the state change together
  changed : (c : Core) (x : LogChange) (l : Logged) → log_changed_by_all start c.changes ≡ c.disk → AreEnds (HasEnd greatest before) (before ++ c.sent) l
      → AreEnds (HasVersion greatest before) (before ++ c.sent) (state_of (log_changed c.disk x)) → IsTelling c → IsTelling (record (core_changed c x) { logged = l })
  changed c x l disk state log h =
      record {
        now = h.now;
        lease = h.lease;
        bound = h.bound;
        newer = h.newer;
        state = state;
        disk = log;
        stops = stops_push IsLogEnds start c.changes x h.stops
            (subst (λ (d : LogDisk). IsLogEnds (log_changed d x)) (sym disk) (ends_among (HasVersion greatest before) (before ++ c.sent) before (state_of (log_changed c.disk x)) (before_among before c.sent) log));
      }

  pub appended : (c : Core) (r : Record) → IsDue (Unit {0}) c.logged r → IsNoGrantRecord r → IsRowing start c → IsTelling c → IsTelling (core_appended c r)
  appended c r due plain n h =
      let told : List Message = before ++ c.sent in
      let next : c.logged.next_handle ≡ (state_of c.disk).next_handle = ap (λ (p : Parts). p.next_handle) n.same in
      changed c (AppendRecord r) (after_record c.logged r) n.disk (ends_after (HasEnd greatest before) told c.logged c.logged r due plain refl h.state)
      (subst (λ (k : Logged). AreEnds (HasVersion greatest before) told k) (sym (state-appended c.disk r)) (ends_after (HasVersion greatest before) told c.logged (state_of c.disk) r due plain next h.disk)) h

  pub epoch_begun : (c : Core) (epoch : ℕ) → log_changed_by_all start c.changes ≡ c.disk → IsTelling c → IsTelling (core_appended c (log.Epoch epoch))
  epoch_begun c epoch disk h =
      changed c (AppendRecord (log.Epoch epoch)) (after_record c.logged (log.Epoch epoch)) disk h.state
      (subst (λ (k : Logged). AreEnds (HasVersion greatest before) (before ++ c.sent) k) (sym (state-appended c.disk (log.Epoch epoch))) h.disk) h

  pub checkpointed : (c : Core) → Tree c.logged.names → IsRowing start c → IsTelling c → IsTelling (record (core_changed c (WriteCheckpoint (checkpoint_of c.logged))) { logged = all_copies_given_up c.logged })
  checkpointed c tree n h =
      let told : List Message = before ++ c.sent in
      let l : Logged = c.logged in
      let less : AreEnds (HasEnd greatest before) told (all_copies_given_up l) = ends_owned (HasEnd greatest before) told l (all_copies_given_up l) (removed_owned (rows_of l) (table.keys l.copies)) (omega arith) h.state in
      let read : Logged = after_records first_logged (checkpoint_of l) in
      changed c (WriteCheckpoint (checkpoint_of l)) (all_copies_given_up l) n.disk less
      (ends_same greatest before told (all_copies_given_up l) read
      (λ q. checkpoint_same l (state_of c.disk) q n.tied (counts_kept.checkpoint l (state_of c.disk) n.same tree n.tied.base))
      (ap (λ (p : Parts). p.next_handle) (sym (checkpoint_parts l tree))) (ends_to_log greatest before told (all_copies_given_up l) less)) h

  -- the state's rows alone change
  with_state : (c : Core) (l : Logged) → AreEnds (HasEnd greatest before) (before ++ c.sent) l → IsTelling c → IsTelling (record c { logged = l })
  with_state c l state h = record { now = h.now; lease = h.lease; bound = h.bound; newer = h.newer; state = state; disk = h.disk; stops = h.stops }

  pub less_told : (c : Core) (handles : List ℕ) → IsTelling c → IsTelling (record c { logged = copies_given_up c.logged handles })
  less_told c handles h =
      with_state c (copies_given_up c.logged handles) (ends_owned (HasEnd greatest before) (before ++ c.sent) c.logged (copies_given_up c.logged handles) (removed_owned (rows_of c.logged) handles) (omega arith) h.state) h

  -- a row whose end is set says this of the ends that were told
  set_says : (c : Core) (chunk moment : ℕ) (row : ChunkRow) → chunk_of c.logged.table chunk ≡ Some row
      → ((version until : ℕ) → IsEndTold (before ++ c.sent) chunk version until → HasEnd greatest before chunk version until row.granted row.lease_end → HasEnd greatest before chunk version until row.granted moment)
      → IsTelling c → AreEnds (HasEnd greatest before) (before ++ c.sent) (core_ended c chunk moment).logged
  set_says c chunk moment row at new h handle version until is =
      let old = h.state handle version until is in (
        old.0,
        λ x there. elim (changed_cases (rows_of c.logged) chunk (λ r. record r { lease_end = moment }) (table.get (rows_of c.logged) chunk) handle x refl there) [
          | inr before_it ↦ old.1 x before_it.1
          | inl now ↦
              let same : row ≡ now.0 = same_some row now.0 (sym at ∙ now.2) in
              let key : handle ≡ chunk = now.1 in
              let told_of : IsEndTold (before ++ c.sent) chunk version until = subst (λ (q : ℕ). IsEndTold (before ++ c.sent) q version until) key is in
              let here : HasEnd greatest before chunk version until row.granted row.lease_end = (h.state chunk version until told_of).1 row at in
              let set : HasEnd greatest before chunk version until row.granted moment = new version until told_of here in
              subst (λ (r : ChunkRow). HasEnd greatest before handle version until r.granted r.lease_end) now.3
              (subst (λ (q : ℕ). HasEnd greatest before q version until (now.0).granted moment) (sym key) (subst (λ (r : ChunkRow). HasEnd greatest before chunk version until r.granted moment) same set))
        ],
      )

  -- the end of a lease that its primary doesn't have
  pub revoked_told : (c : Core) (chunk : ℕ) (row : ChunkRow) → chunk_of c.logged.table chunk ≡ Some row → WasSaidOver before chunk row.granted → IsTelling c → IsTelling (core_ended c chunk 0)
  revoked_told c chunk row at word h =
      with_state c (core_ended c chunk 0).logged
      (set_says c chunk 0 row at
      (λ version until is says.
      let low = says.0 in (
        low,
        inl (elim (says.1) [
          | inl past ↦ past
          | inr last ↦ let high = last.0 in inr (subst (λ (n : ℕ). WasSaidOver before chunk n) (omega (arith, low, high)) word)
        ]),
      ))
      h) h

  -- messages

  bound_more : (c : Core) (m : Message) → ((handle version until : ℕ) → tells_end handle version until m.body ≡ true → (until ≤ greatest + lease_ms) × (1 ≤ version)) → IsTelling c → (handle version until : ℕ)
      → IsEndTold (before ++ (c.sent ++ m ∷ [])) handle version until → (until ≤ greatest + lease_ms) × (1 ≤ version)
  bound_more c m new h handle version until is =
      elim (one_more before c.sent m is.0 is.1) [
        | inl old ↦ h.bound handle version until (is.0, old, is.2)
        | inr same ↦ new handle version until (ap (λ (x : Message). tells_end handle version until x.body) same ∙ is.2)
      ]

  newer_more : (c : Core) (m : Message) → ((handle version until later : ℕ) → tells_end handle version until m.body ≡ true → IsVersionGranted (before ++ c.sent) handle later → version < later → Past handle version until)
      → ((handle version until later : ℕ) → is_grant handle later m.body ≡ true → IsEndTold (before ++ c.sent) handle version until → version < later → Past handle version until)
      → ((handle version until later : ℕ) → tells_end handle version until m.body ≡ true → is_grant handle later m.body ≡ true → version < later → ⊥) → IsTelling c → (handle version until later : ℕ)
      → IsEndTold (before ++ (c.sent ++ m ∷ [])) handle version until → IsVersionGranted (before ++ (c.sent ++ m ∷ [])) handle later → version < later → Past handle version until
  newer_more c m as_end as_grant both h handle version until later is also less =
      elim (one_more before c.sent m is.0 is.1) [
        | inl old ↦ elim (one_more before c.sent m also.0 also.1) [
          | inl earlier ↦ h.newer handle version until later (is.0, old, is.2) (also.0, earlier, also.2) less
          | inr same ↦ as_grant handle version until later (ap (λ (x : Message). is_grant handle later x.body) same ∙ also.2) (is.0, old, is.2) less
        ]
        | inr new ↦
            let tells : tells_end handle version until m.body ≡ true = ap (λ (x : Message). tells_end handle version until x.body) new ∙ is.2 in
            elim (one_more before c.sent m also.0 also.1) [
              | inl earlier ↦ as_end handle version until later tells (also.0, earlier, also.2) less
              | inr same ↦ absurd (both handle version until later tells (ap (λ (x : Message). is_grant handle later x.body) same ∙ also.2) less)
            ]
      ]

  -- a message that tells no end
  pub sends : (c : Core) (m : Message) (count : ℕ) → ((handle version until : ℕ) → tells_end handle version until m.body ≡ false) → IsTelling c → IsTelling (record c { sent = c.sent ++ m ∷ []; order_count = count })
  sends c m count quiet h =
      let told : List Message = before ++ c.sent in
      let more : List Message = before ++ (c.sent ++ m ∷ []) in
      record {
        now = h.now;
        lease = h.lease;
        bound = bound_more c m (λ handle version until is. true_false (sym is ∙ quiet handle version until)) h;
        newer = newer_more c m (λ handle version until later is granted less. true_false (sym is ∙ quiet handle version until))
            (λ handle version until later is told_end less. let end = grant_tells m.body handle later is in true_false (sym end.1 ∙ quiet handle later end.0))
            (λ handle version until later is granted less. true_false (sym is ∙ quiet handle version until)) h;
        state = ends_more (HasEnd greatest before) told more m c.logged (one_more before c.sent m) (λ handle version until is. true_false (sym is ∙ quiet handle version until)) h.state;
        disk = ends_more (HasVersion greatest before) told more m (state_of c.disk) (one_more before c.sent m) (λ handle version until is. true_false (sym is ∙ quiet handle version until)) h.disk;
        stops = h.stops;
      }

  -- a later end of a lease that is left
  pub extended_told : (c : Core) (chunk until : ℕ) (row : ChunkRow) → chunk_of c.logged.table chunk ≡ Some row → IsLeft c.now row → row.lease_end < until → IsLeaseFrom c until → IsRowing start c → IsTelling c
      → IsTelling (core_extended c chunk row.granted until row.primary)
  extended_told c chunk until row at left later from n h =
      record {
        now = h.now;
        lease = h.lease;
        bound = bound_more c m (λ handle version end is. let same = named is in let end_is = same.2 in let version_is = same.1 in let early = h.now in let long = h.lease in let one = left.0 in (omega (arith, end_is, from, early, long), omega (arith, one, version_is))) h;
        newer = newer_more c m
            (λ handle version end other is granted less.
            let same = named is in
            let told_of = granted_told told chunk other (subst (λ (q : ℕ). IsVersionGranted told q other) (sym same.0) granted) in
            absurd (let high = ((h.state chunk other told_of.0 told_of.1).1 row at).0 in let version_is = same.1 in omega (arith, high, version_is, less)))
            (λ handle version end other is told_of less. true_false (sym is)) (λ handle version end other is granted less. true_false (sym granted)) h;
        state = ends_more (HasEnd greatest before) told more m (core_ended c chunk until).logged (one_more before c.sent m)
            (λ handle version end is. let same = named is in let key = same.0 in (omega (arith, low, key), λ x there. in_state handle version end x same there))
            (set_says c chunk until row at (λ version end is says. (says.0, elim (says.1) [ inl past ↦ inl past | inr last ↦ inr (last.0, let early = last.1 in omega (arith, early, later)) ])) h);
        disk = ends_more (HasVersion greatest before) told more m (state_of c.disk) (one_more before c.sent m)
            (λ handle version end is. let same = named is in let key = same.0 in (omega (arith, low, key, next), λ x there. in_log handle version end x same there)) h.disk;
        stops = h.stops;
      }
    where
      m : Message
      m = message node.Master (the_server row.primary) (body.Extend (handle_of chunk) (version_of row.granted) (moment_of until))

      told : List Message
      told = before ++ c.sent

      more : List Message
      more = before ++ (c.sent ++ m ∷ [])

      named : {handle version end : ℕ} → tells_end handle version end m.body ≡ true → (chunk ≡ handle) × (row.granted ≡ version) × (until ≡ end)
      named {handle} {version} {end} is = named_end chunk row.granted until handle version end is

      low : chunk < c.logged.next_handle
      low = row_below c.logged (state_of c.disk) n.same n.tied chunk row at

      next : c.logged.next_handle ≡ (state_of c.disk).next_handle
      next = ap (λ (p : Parts). p.next_handle) n.same

      in_state : (handle version end : ℕ) (x : ChunkRow) → (chunk ≡ handle) × (row.granted ≡ version) × (until ≡ end) → table.get (rows_of (core_ended c chunk until).logged) handle ≡ Some x → HasEnd greatest before handle version end x.granted x.lease_end
      in_state handle version end x same there =
          elim (changed_cases (rows_of c.logged) chunk (λ r. record r { lease_end = until }) (table.get (rows_of c.logged) chunk) handle x refl there) [
            | inr other ↦ absurd (other.0 (sym same.0))
            | inl set ↦
                let granted : row.granted ≡ x.granted = ap (λ (r : ChunkRow). r.granted) (same_some row set.0 (sym at ∙ set.2)) ∙ ap (λ (r : ChunkRow). r.granted) set.3 in
                let end_is : until ≡ x.lease_end = ap (λ (r : ChunkRow). r.lease_end) set.3 in
                let version_is = same.1 in
                let moment_is = same.2 in
                (omega (arith, granted, version_is), inr (omega (arith, granted, version_is), omega (arith, end_is, moment_is)))
          ]

      in_log : (handle version end : ℕ) (x : ChunkRow) → (chunk ≡ handle) × (row.granted ≡ version) × (until ≡ end) → table.get (rows_of (state_of c.disk)) handle ≡ Some x → HasVersion greatest before handle version end x.granted x.lease_end
      in_log handle version end x same there =
          let k : Logged = state_of c.disk in
          let at_log : table.get (rows_of k) chunk ≡ Some x = ap (λ (q : ℕ). table.get (rows_of k) q) same.0 ∙ there in
          let rows_same : IsSameRow (Some row) (Some x) =
          subst (λ (o : Option ChunkRow). IsSameRow (Some row) o) at_log
          (subst (λ (o : Option ChunkRow). IsSameRow o (table.get (rows_of k) chunk)) at (n.tied.same chunk (same_copy c.logged.copies k.copies (rows_of c.logged) chunk row at n.tied.base.base.among n.tied.base.base.alone))) in
          let granted : row.granted ≡ x.granted = ap (λ (r : ChunkRow). r.granted) (same_some (without_end row) (without_end x) rows_same) in
          let version_is = same.1 in
          (omega (arith, granted, version_is), inr (omega (arith, granted, version_is)))

  -- a Grant, of a chunk whose last lease has ended
  pub granted_told_step : (c : Core) (chunk number until primary : ℕ) (members : List ℕ) → IsDue (Unit {0}) c.logged (grant_record chunk number primary members) → IsLeaseFrom c until → HasEnded c.now (rows_of c.logged) chunk → IsRowing start c
      → IsTelling c → IsTelling (core_granted c chunk number until primary members)
  granted_told_step c chunk number until primary members due from ended n h =
      record {
        now = h.now;
        lease = h.lease;
        bound = bound_more c m (λ handle version end is. let same = named is in let end_is = same.2 in let version_is = same.1 in let early = h.now in let long = h.lease in let above = due.2 tt in (omega (arith, end_is, from, early, long), omega (arith, above, version_is))) h;
        newer = newer_more c m
            (λ handle version end other is granted less.
            let same = named is in
            let told_of = granted_told told chunk other (subst (λ (q : ℕ). IsVersionGranted told q other) (sym same.0) granted) in
            absurd (let high = ((h.state chunk other told_of.0 told_of.1).1 due.0 due.1).0 in let above = due.2 tt in let version_is = same.1 in omega (arith, high, above, version_is, less)))
            (λ handle version end other is told_of less. let key : chunk ≡ handle = eqb-true chunk handle (and_parts (chunk == handle) (number == other) is).0 in
            subst (λ (q : ℕ). Past q version end) key (past version end (subst (λ (q : ℕ). IsEndTold told q version end) (sym key) told_of)))
            (λ handle version end other is granted less. let same = named is in let later : number ≡ other = eqb-true number other (and_parts (chunk == handle) (number == other) granted).1 in let version_is = same.1 in omega (arith, later, version_is, less)) h;
        state = ends_more (HasEnd greatest before) told more m two.logged (one_more before c.sent m)
            (λ handle version end is. let same = named is in let key = same.0 in (omega (arith, low, key, grown), λ x there. in_state handle version end x same there))
            (ends_granted (HasEnd greatest before) told c.logged chunk number until primary members due (λ version end is. let low_version = version_low version end is in (omega (arith, low_version), inl (past version end is))) h.state);
        disk = ends_more (HasVersion greatest before) told more m (state_of two.disk) (one_more before c.sent m)
            (λ handle version end is. let same = named is in let key = same.0 in (omega (arith, low, key, next, log_grown, log_next), λ x there. in_log handle version end x same there)) log_ends;
        stops = stops_push IsLogEnds start c.changes (AppendRecord r) h.stops
            (subst (λ (d : LogDisk). IsLogEnds (log_changed d (AppendRecord r))) (sym n.disk) (ends_among (HasVersion greatest before) told before (state_of two.disk) (before_among before c.sent) log_ends));
      }
    where
      r : Record
      r = grant_record chunk number primary members

      two : Core
      two = core_ended (core_appended c r) chunk until

      m : Message
      m = message node.Master (the_server primary) (granted_order c chunk number until primary members (record { epoch = two.logged.epoch; count = suc two.order_count }))

      told : List Message
      told = before ++ c.sent

      more : List Message
      more = before ++ (c.sent ++ m ∷ [])

      named : {handle version end : ℕ} → tells_end handle version end m.body ≡ true → (chunk ≡ handle) × (number ≡ version) × (until ≡ end)
      named {handle} {version} {end} is = named_end chunk number until handle version end is

      low : chunk < c.logged.next_handle
      low = row_below c.logged (state_of c.disk) n.same n.tied chunk due.0 due.1

      grown : c.logged.next_handle ≤ two.logged.next_handle
      grown = next_grows c.logged c.logged r due

      next : c.logged.next_handle ≡ (state_of c.disk).next_handle
      next = ap (λ (p : Parts). p.next_handle) n.same

      log_grown : (state_of c.disk).next_handle ≤ (after_record (state_of c.disk) r).next_handle
      log_grown = next_grows c.logged (state_of c.disk) r due

      log_next : (state_of two.disk).next_handle ≡ (after_record (state_of c.disk) r).next_handle
      log_next = ap (λ (k : Logged). k.next_handle) (state-appended c.disk r)

      version_low : (version end : ℕ) → IsEndTold told chunk version end → version < number
      version_low version end is = let high = ((h.state chunk version end is).1 due.0 due.1).0 in let above = due.2 tt in omega (arith, high, above)

      -- earlier ends of the chunk are past
      past : (version end : ℕ) → IsEndTold told chunk version end → Past chunk version end
      past version end is = elim (((h.state chunk version end is).1 due.0 due.1).1) [
        | inl over ↦ over
        | inr last ↦ let early = last.1 in let gone = ended due.0 due.1 in let now = h.now in inl (omega (arith, early, gone, now))
      ]

      log_ends : AreEnds (HasVersion greatest before) told (state_of two.disk)
      log_ends =
          subst (λ (k : Logged). AreEnds (HasVersion greatest before) told k) (sym (state-appended c.disk r))
          (ends_logged (HasVersion greatest before) told c.logged (state_of c.disk) chunk number primary members due (λ version end is. let low_version = version_low version end is in (omega (arith, low_version), inl (past version end is))) h.disk)

      in_state : (handle version end : ℕ) (x : ChunkRow) → (chunk ≡ handle) × (number ≡ version) × (until ≡ end) → table.get (rows_of two.logged) handle ≡ Some x → HasEnd greatest before handle version end x.granted x.lease_end
      in_state handle version end x same there =
          elim (rows_after_grant c.logged chunk number until primary members handle x there) [
            | inl new ↦ let granted = new.1 in let end_is = new.2 in let version_is = same.1 in let moment_is = same.2 in (omega (arith, granted, version_is), inr (omega (arith, granted, version_is), omega (arith, end_is, moment_is)))
            | inr other ↦ absurd (other.0 (sym same.0))
          ]

      in_log : (handle version end : ℕ) (x : ChunkRow) → (chunk ≡ handle) × (number ≡ version) × (until ≡ end) → table.get (rows_of (state_of two.disk)) handle ≡ Some x → HasVersion greatest before handle version end x.granted x.lease_end
      in_log handle version end x same there =
          elim (rows_granted (state_of c.disk) chunk number primary members handle x (ap (λ (k : Logged). table.get (rows_of k) handle) (sym (state-appended c.disk r)) ∙ there)) [
            | inl new ↦ let granted = new.1 in let version_is = same.1 in (omega (arith, granted, version_is), inr (omega (arith, granted, version_is)))
            | inr other ↦ absurd (other.0 (sym same.0))
          ]
