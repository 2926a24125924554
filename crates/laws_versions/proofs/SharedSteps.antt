-- In a step of the master a chunk with several owners has no version attempt, and the lease of its granted version is over: it was over before, or it has ended as the chunk was shared.
use Rattle.std.proofs.Common.{◌≡◌, ◌⊎◌, ℕ, zero, suc, ◌+◌, ◌≤◌, ◌<◌, Bool, true, false, List, [], ◌∷◌, ◌++◌, Option, Some, None, refl, sym, ap, subst, ◌∙◌, inl, inr, arith}
use Rattle.std.specs.Prelude.{◌==◌, ◌&&◌, unwrap_or}
use Rattle.std.specs.FinMap as table
use Rattle.std.proofs.lemmas.Bool.{true≢false, eqb-true}
use Rattle.gfs_types.specs.Paths.{Path, is_at_or_below}
use Rattle.gfs_types.specs.declared.ids.Node.TheVariants as node
use Rattle.messages.specs.declared.message.Body.{Body}
use Rattle.messages.specs.declared.message.Body.TheVariants as body
use Rattle.messages.specs.declared.message.Message.{Message}
use Rattle.log_records.specs.declared.record.Record.{Record}
use Rattle.log_records.specs.declared.record.Record.TheVariants as log
use Rattle.relaxed_file.specs.Names.{Node, Dir, File, node_at, copied_entries, id_after}
use Rattle.relaxed_file.proofs.NamesTree.{HasAt, copied_of, entry_is}
use Rattle.protocol.specs.Tables.{removed_all, with_at}
use Rattle.protocol.specs.Sending.{message, the_server, handle_of, version_of, moment_of}
use Rattle.chunk_table.specs.ChunkTable.{ChunkRow, ChunkTable, chunk_of, handles_of, row_granted, added_row, copied_row}
use Rattle.protocol.specs.Logged.{Logged, Copy, LogDisk, LogChange, AppendRecord, WriteCheckpoint, log_changed, after_record, checkpoint_of, copies_given_up, all_copies_given_up, swapped_in, with_copied_node, with_copied_nodes}
use Rattle.protocol.specs.Master.{VersionAttempt}
use Rattle.laws_base.proofs.GrantsOnce.{no_order_grants, plain_grants}
use Rattle.laws_base.specs.Laws.{times_in, is_grant, grants_of, tells_end}
use Rattle.laws_base.proofs.Steps.{none_some, same_some, tally, count-cons, count-append, same_or_not, put_cases, put_other, kept_cases, removed_cases}
use Rattle.laws_base.proofs.ChunkRows.{Rows, rows_of, OwnedFrom, all_copied_owned, swapped_owned, expired_owned}
use Rattle.laws_base.proofs.FilesNamed.{Files}
use Rattle.laws_base.proofs.OneName.{HasOneName}
use Rattle.laws_base.proofs.Owners.{stands, chunks_at, times_put, times_gone, tally_same, tally_other}
use Rattle.laws_base.proofs.CountsLogged.{fresh, apart_here}
use Rattle.laws_base.proofs.VersionsAhead.{changed_cases}
use Rattle.laws_base.proofs.LoggedParts.{Parts}
use Rattle.laws_base.proofs.RowsFit.{granted_logged, same_row}
use Rattle.laws_base.proofs.OrderNumbers.{state_of, state-appended, AllStops, stops_push}
use Rattle.laws_base.proofs.MessagesSent.{sent_before}
use Rattle.laws_base.proofs.MasterMoves.{Core, core_changed, core_appended, core_ended, core_granted, core_extended, grant_record, IsDue, IsNoGrantRecord}
use Rattle.laws_base.proofs.RevokesNumbered.{one_more}
use Rattle.laws_base.proofs.LeaseEnds.{IsKeptRow, IsEndTold, WasSaidOver, IsPast, plain_tells, quiet_tells, IsTelling}
use Rattle.laws_base.proofs.Words.{no_order}
use Rattle.laws_base.specs.Given.{version_given}
use Rattle.laws_base.proofs.MasterActs.{IsRowing, core_checkpointed, Waits, Acts}
use Rattle.laws_base.proofs.Awaited.{Attempts}
use Rattle.laws_base.proofs.AwaitedRecords.{IsBeside}

-- the chunk stands in files more than once
abbrev pub IsShared : Logged → ℕ → Type 0
IsShared l handle = 2 ≤ times_in l.table.files handle

-- how often a handle stands in files after a change

with_at_most : (hs : List ℕ) (index to q : ℕ) → stands q (with_at hs index to) ≤ stands q hs + tally (to == q)
with_at_most [] index to q = omega arith
with_at_most (x ∷ xs) zero to q = let new = count-cons (λ h. h == q) to xs in let old = count-cons (λ h. h == q) x xs in omega (arith, new, old)
with_at_most (x ∷ xs) (suc index) to q =
    let rest = with_at_most xs index to q in
    let new = count-cons (λ h. h == q) x (with_at xs index to) in
    let old = count-cons (λ h. h == q) x xs in
    omega (arith, rest, new, old)

-- at most one place more, for the copy's handle alone
swapped_times : (l : Logged) (chunk q : ℕ) (o : Option Copy) → times_in (swapped_in l chunk o).table.files q ≤ times_in l.table.files q + tally (chunk == q)
swapped_times l chunk q None = omega arith
swapped_times l chunk q (Some c) =
    let put = times_put l.table.files c.file (with_at (chunks_at l.table.files c.file) c.index chunk) q in
    let low = with_at_most (chunks_at l.table.files c.file) c.index chunk q in
    omega (arith, put, low)

-- what a record's row was
owned_row : (t u : Rows) → OwnedFrom t u → (q : ℕ) (row : ChunkRow) → table.get u q ≡ Some row → IsKeptRow t q row
owned_row t u f q row is = let was = f q row is in (was.0, was.1, ap (λ (r : ChunkRow). r.granted) was.2, ap (λ (r : ChunkRow). r.lease_end) was.2)

module _ (l : Logged) (below : (q : ℕ) → 1 ≤ times_in l.table.files q → q < l.next_handle) where
  nowhere : (q : ℕ) → q ≡ l.next_handle → times_in l.table.files q ≡ 0
  nowhere q next = fresh (times_in l.table.files q) l.next_handle q (below q) next

  -- a record but a Snapshot shares nothing
  abbrev IsNoSnapshot : Record → Type 0
  IsNoSnapshot (log.Snapshot client n from to) = ⊥
  IsNoSnapshot other = Unit {0}

  shared_before : (r : Record) → IsDue (Unit {0}) l r → IsNoGrantRecord r → IsNoSnapshot r → (q : ℕ) (row : ChunkRow) → table.get (rows_of (after_record l r)) q ≡ Some row → IsShared (after_record l r) q
      → IsKeptRow (rows_of l) q row × IsShared l q
  shared_before (log.AddChunk file handle) due plain none q row is shared =
      let put = times_put l.table.files file.0 (handles_of l.table file.0 ++ handle.0 ∷ []) q in
      let more = count-append (λ x. x == q) (handles_of l.table file.0) (handle.0 ∷ []) in
      let last = count-cons (λ x. x == q) handle.0 [] in
      elim (same_or_not q handle.0) [
        | inl same ↦ absurd (let one = tally_same handle.0 q same in let zero_times = nowhere q (same ∙ due.0) in omega (arith, put, more, last, one, zero_times, shared))
        | inr other ↦ elim (put_cases (rows_of l) handle.0 (added_row l.table file.0) q row is) [
          | inl new ↦ absurd (other new.0)
          | inr before ↦ ((row, before, refl, refl), let no_one = tally_other handle.0 q other in omega (arith, put, more, last, no_one, shared))
        ]
      ]
  shared_before (log.CopyStart file index source copy copy_version) due plain none q row is shared =
      elim (put_cases (rows_of l) copy.0 (copied_row l.table source.0 copy_version.0) q row is) [
        | inl new ↦ absurd (let zero_times = nowhere q (new.0 ∙ due.0) in omega (arith, zero_times, shared))
        | inr before ↦ ((row, before, refl, refl), shared)
      ]
  shared_before (log.Issue handle version) due plain none q row is shared =
      elim (changed_cases (rows_of l) handle.0 (λ r. record r { issued = version.0 }) (table.get (rows_of l) handle.0) q row refl is) [
        | inl now ↦ ((now.0, ap (λ (n : ℕ). table.get (rows_of l) n) now.1 ∙ now.2, ap (λ (r : ChunkRow). r.granted) now.3, ap (λ (r : ChunkRow). r.lease_end) now.3), shared)
        | inr before ↦ ((row, before.1, refl, refl), shared)
      ]
  shared_before (log.Expired file) due plain none q row is shared =
      (owned_row (rows_of l) (rows_of (after_record l (log.Expired file))) (expired_owned l file) q row is, let gone = times_gone l.table.files file.0 q in omega (arith, gone, shared))
  shared_before (log.Create client n file shape path) due plain none q row is shared = ((row, is, refl, refl), let put = times_put l.table.files file.0 [] q in omega (arith, put, shared))
  shared_before (log.Grant handle version primary members) due plain none q row is shared = absurd plain
  shared_before (log.Snapshot client n from to) due plain none q row is shared = absurd none
  shared_before (log.FileItem path file shape handles) due plain none q row is shared = absurd due
  shared_before (log.ChunkItem handle granted issued primary members) due plain none q row is shared = absurd due
  shared_before other due plain none q row is shared = ((row, is, refl, refl), shared)

-- what a snapshot copies

-- an entry's file has the chunk
abbrev HasIn : ChunkTable → List (Path × Node) → ℕ → Type 0
HasIn t es q = (x : Path) × (id : ℕ) × HasAt es x (File id) × (1 ≤ stands q (chunks_at t.files id))

abbrev AreKnown : List (Path × Node) → ℕ → Type 0
AreKnown es next = (x : Path) (id : ℕ) → HasAt es x (File id) → id < next

shared_more : (t : ChunkTable) (next : ℕ) (es : List (Path × Node)) (q : ℕ) → AreKnown es next → (times_in (with_copied_nodes t next es).files q ≤ times_in t.files q) ⊎ HasIn t es q
shared_more t next [] q known = inl (omega arith)
shared_more t next (e ∷ es) q known = by_node (λ u n those. shared_more u n es q those) e.1 refl
  where
    -- of the entries that are left
    Rest : Type 0
    Rest = (u : ChunkTable) (n : ℕ) → AreKnown es n → (times_in (with_copied_nodes u n es).files q ≤ times_in u.files q) ⊎ HasIn u es q

    by_node : Rest → (v : Node) → e.1 ≡ v → (times_in (with_copied_nodes (with_copied_node t next v) (id_after next v) es).files q ≤ times_in t.files q) ⊎ HasIn t (e ∷ es) q
    by_node rest Dir is = elim (rest t next (λ x id has. known x id (inr has))) [
      | inl low ↦ inl low
      | inr there ↦ inr (there.0, there.1, inr there.2, there.3)
    ]
    by_node rest (File file) is = by_count (stands q (chunks_at t.files file)) refl
      where
        u : ChunkTable
        u = with_copied_node t next (File file)

        still : (id : ℕ) → id < next → 1 ≤ stands q (chunks_at u.files id) → 1 ≤ stands q (chunks_at t.files id)
        still id low some = let same = ap (λ (o : Option (List ℕ)). stands q (unwrap_or o [])) (put_other t.files next (handles_of t file) id (λ at. omega (arith, low, at))) in omega (arith, same, some)

        by_count : (n : ℕ) → stands q (chunks_at t.files file) ≡ n → (times_in (with_copied_nodes u (suc next) es).files q ≤ times_in t.files q) ⊎ HasIn t (e ∷ es) q
        by_count (suc n) some = inr (e.0, file, inl (refl, is), omega (arith, some))
        by_count zero none = elim (rest u (suc next) (λ x id has. let low = known x id (inr has) in omega (arith, low))) [
          | inl low ↦ inl (let put = times_put t.files next (handles_of t file) q in omega (arith, low, put, none))
          | inr there ↦ inr (there.0, there.1, inr there.2, still there.1 (known there.0 there.1 (inr there.2)) there.3)
        ]

-- a file below the path has the chunk
abbrev IsCopied : Logged → Path → ℕ → Type 0
IsCopied l from q = (x : Path) × (id : ℕ) × (is_at_or_below from x ≡ true) × (node_at l.names x ≡ Some (File id)) × (1 ≤ stands q (chunks_at l.table.files id))

-- a chunk that is shared after a snapshot was so before, or is copied
snapshot_shares : (l : Logged) (from to : Path) (q : ℕ) → HasOneName l → 2 ≤ times_in (with_copied_nodes l.table l.next_file (copied_entries l.names from to)).files q → IsShared l q ⊎ IsCopied l from q
snapshot_shares l from to q named shared =
    elim (shared_more l.table l.next_file (copied_entries l.names from to) q
    (λ x id has. let of = copied_of from to (table.entries l.names) x (File id) has in named.named.numbered of.0 id (entry_is l.names of.0 (File id) of.1))) [
      | inl low ↦ inl (omega (arith, low, shared))
      | inr there ↦ inr (
          let of = copied_of from to (table.entries l.names) there.0 (File there.1) there.2 in
          (of.0, there.1, of.2, entry_is l.names of.0 (File there.1) of.1, there.3))
    ]

-- messages

pub given_tells : (b : Body) (x : ℕ × ℕ) → version_given b ≡ Some x → (handle version until : ℕ) → tells_end handle version until b ≡ false
given_tells (body.Create order h v) x given handle version until = refl
given_tells (body.SetVersion order h v base) x given handle version until = refl
given_tells (body.CopyLocal order h v copy copy_version) x given handle version until = refl
given_tells other x given handle version until = none_some x given

-- tests of two numbers that are other
pub other_first : (a b : ℕ) (rest : Bool) → (a ≡ b → ⊥) → (a == b) && rest ≡ false
other_first a b rest other = by_test (a == b) refl
  where
    by_test : (t : Bool) → (a == b) ≡ t → t && rest ≡ false
    by_test true e = absurd (other (eqb-true a b e))
    by_test false e = refl

-- in a state as a log has it, the lease of the granted version of each shared chunk is over
abbrev pub IsStateDone : (ℕ → ℕ → Type 0) → Logged → Type 0
IsStateDone Over l = (handle : ℕ) (row : ChunkRow) → table.get (rows_of l) handle ≡ Some row → IsShared l handle → Over handle row.granted

abbrev pub IsLogDone : (ℕ → ℕ → Type 0) → LogDisk → Type 0
IsLogDone Over d = IsStateDone Over (state_of d)

-- the log has the rows of the state
pub log_done : (start : LogDisk) (Over : ℕ → ℕ → Type 0) (c : Core) → IsRowing start c → IsStateDone Over c.logged → IsLogDone Over c.disk
log_done start Over c n done handle row there shared =
    let k : Logged = state_of c.disk in
    let here : IsShared c.logged handle = subst (λ (f : Files). 2 ≤ times_in f handle) (sym n.tied.base.base.files) shared in
    let was = same_row (table.get (rows_of c.logged) handle) (table.get (rows_of k) handle) row (n.tied.same handle (by_copies (table.get c.logged.copies handle) refl (table.get k.copies handle) refl)) there in
    subst (λ (v : ℕ). Over handle v) (ap (λ (r : ChunkRow). r.granted) was.2) (done handle was.0 was.1 here)
  where
    no_copy : (x : Copy) → table.get (state_of c.disk).copies handle ≡ Some x → ⊥
    no_copy x is = let none = n.tied.base.log.apart handle x is in omega (arith, none, shared)

    by_copies : (o : Option Copy) → table.get c.logged.copies handle ≡ o → (p : Option Copy) → table.get (state_of c.disk).copies handle ≡ p → table.get c.logged.copies handle ≡ table.get (state_of c.disk).copies handle
    by_copies (Some x) is p also = absurd (no_copy x (n.tied.base.base.among handle x is))
    by_copies None is (Some x) also = absurd (no_copy x also)
    by_copies None is None also = is ∙ sym also

-- the step, after these messages, at this greatest moment; which leases were over

module _ (before : List Message) (greatest lease : ℕ) (Over : ℕ → ℕ → Type 0) (settle : (handle version : ℕ) → ((until : ℕ) → IsEndTold before handle version until → IsPast greatest before handle version until) → Over handle version)
    (start : LogDisk) where
  abbrev pub Stepping : Core → Type 0
  Stepping c = IsRowing start c × IsTelling before greatest lease start c

  -- each end that was told so far is past
  abbrev pub ArePast : List Message → ℕ → ℕ → Type 0
  ArePast sent handle version = (until : ℕ) → IsEndTold (before ++ sent) handle version until → IsPast greatest before handle version until

  -- The lease was over, and no Grant of it is sent in the step; or each end that was told is past, and it has ended at the master.
  abbrev pub IsDone : List Message → ℕ → ℕ → ℕ → ℕ → Type 0
  IsDone sent now handle version end = (Over handle version × (grants_of handle version sent ≡ 0)) ⊎ (ArePast sent handle version × (end ≤ now))

  -- so it is of the granted version of each shared chunk, of which no version is attempted
  abbrev pub AreDone : Core → Attempts → Type 0
  AreDone c attempts =
      (handle : ℕ) (row : ChunkRow) → table.get (rows_of c.logged) handle ≡ Some row → IsShared c.logged handle
      → ((a : VersionAttempt) → table.get attempts handle ≡ Some a → ⊥) × IsDone c.sent c.now handle row.granted row.lease_end

  pub record IsSharing (c : Core) (attempts : Attempts) (ss : Waits) : Type 0 where
    pub done : AreDone c attempts
    pub stops : AllStops (IsLogDone Over) start c.changes

  pub over_of_done : (sent : List Message) (now handle version end : ℕ) → IsDone sent now handle version end → Over handle version
  over_of_done sent now handle version end (inl over) = over.0
  over_of_done sent now handle version end (inr past) = settle handle version (λ until is. past.0 until (is.0, sent_before before sent is.0 is.1, is.2))

  -- what holds of the step says it of the state
  pub state_done : (c : Core) (attempts : Attempts) → AreDone c attempts → IsStateDone Over c.logged
  state_done c attempts done handle row there shared = over_of_done c.sent c.now handle row.granted row.lease_end (done handle row there shared).1

  -- a change of the disk
  changed : (c : Core) (x : LogChange) (l : Logged) (attempts left : Attempts) (ss : Waits) → IsRowing start c → IsRowing start (record (core_changed c x) { logged = l }) → AreDone (record (core_changed c x) { logged = l }) left → IsSharing c attempts ss
      → IsSharing (record (core_changed c x) { logged = l }) left ss
  changed c x l attempts left ss n after done h =
      record {
        done = done;
        stops = stops_push (IsLogDone Over) start c.changes x h.stops
            (subst (λ (d : LogDisk). IsLogDone Over (log_changed d x)) (sym n.disk) (log_done start Over (record (core_changed c x) { logged = l }) after (state_done (record (core_changed c x) { logged = l }) left done)));
      }

  -- a row that was there
  kept : (c : Core) (attempts : Attempts) → AreDone c attempts → (handle : ℕ) (row : ChunkRow) → IsKeptRow (rows_of c.logged) handle row → IsShared c.logged handle
      → ((a : VersionAttempt) → table.get attempts handle ≡ Some a → ⊥) × IsDone c.sent c.now handle row.granted row.lease_end
  kept c attempts h handle row was shared =
      let old = h handle was.0 was.1 shared in
      (old.0, subst (λ (v : ℕ). IsDone c.sent c.now handle v row.lease_end) was.2 (subst (λ (e : ℕ). IsDone c.sent c.now handle (was.0).granted e) was.3 old.1))

  -- a message that grants and tells nothing of the lease
  pub done_sends : (sent : List Message) (m : Message) (now handle version end : ℕ) → is_grant handle version m.body ≡ false → ((until : ℕ) → tells_end handle version until m.body ≡ false) → IsDone sent now handle version end
      → IsDone (sent ++ m ∷ []) now handle version end
  done_sends sent m now handle version end plain silent (inl over) =
      let none = over.1 in
      let whole = count-append (λ (x : Message). is_grant handle version x.body) sent (m ∷ []) in
      let one = count-cons (λ (x : Message). is_grant handle version x.body) m [] in
      let same = ap tally plain in
      inl (over.0, omega (arith, whole, one, same, none))
  done_sends sent m now handle version end plain silent (inr past) =
      inr (
        λ until is. elim (one_more before sent m is.0 is.1) [
          | inl old ↦ past.0 until (is.0, old, is.2)
          | inr same ↦ absurd (true≢false (sym is.2 ∙ sym (ap (λ (x : Message). tells_end handle version until x.body) same) ∙ silent until))
        ],
        past.1,
      )

  sends : (c : Core) (attempts : Attempts) (ss : Waits) (m : Message) (count : ℕ) → ((handle version : ℕ) → is_grant handle version m.body ≡ false) → ((handle version until : ℕ) → tells_end handle version until m.body ≡ false)
      → IsSharing c attempts ss → IsSharing (record c { sent = c.sent ++ m ∷ []; order_count = count }) attempts ss
  sends c attempts ss m count plain silent h =
      record {
        done = λ handle row there shared. let old = h.done handle row there shared in (old.0, done_sends c.sent m c.now handle row.granted row.lease_end (plain handle row.granted) (silent handle row.granted) old.1);
        stops = h.stops;
      }

  -- handles in files are below the next one
  used : (c : Core) → IsRowing start c → (q : ℕ) → 1 ≤ times_in c.logged.table.files q → q < c.logged.next_handle
  used c n q more =
      let low = n.tied.base.log.below q (let same = ap (λ (f : Files). times_in f q) n.tied.base.base.files in omega (arith, same, more)) in
      let next = ap (λ (p : Parts). p.next_handle) n.same in
      omega (arith, low, next)

  -- records

  done_after : (c : Core) (attempts : Attempts) (ss : Waits) (r : Record) → IsDue (Unit {0}) c.logged r → IsNoGrantRecord r → IsBeside c.logged attempts ss c.now r → Stepping c → AreDone c attempts → AreDone (core_appended c r) attempts
  done_after c attempts ss (log.Snapshot client n from to) due plain beside p h handle row there shared =
      let l : Logged = c.logged in
      let was : IsKeptRow (rows_of l) handle row = owned_row (rows_of l) (with_copied_nodes l.table l.next_file (copied_entries l.names from to)).chunks (all_copied_owned l.table l.next_file (copied_entries l.names from to)) handle row there in
      elim (snapshot_shares l from to handle p.0.tied.base.base.here shared) [
        | inl before ↦ kept c attempts h handle row was before
        | inr copied ↦ now_shared was copied.0 copied.1 copied.2 copied.3 copied.4
      ]
    where
      now_shared : IsKeptRow (rows_of c.logged) handle row → (x : Path) (id : ℕ) → is_at_or_below from x ≡ true → node_at c.logged.names x ≡ Some (File id) → 1 ≤ stands handle (chunks_at c.logged.table.files id)
          → ((a : VersionAttempt) → table.get attempts handle ≡ Some a → ⊥) × IsDone c.sent c.now handle row.granted row.lease_end
      now_shared was x id at is some =
          let early : (was.0).lease_end ≤ c.now = beside.3 x id at is handle some was.0 was.1 in
          let same = was.3 in
          let now = p.1.now in (
            (beside.2 x id at is).0 handle some,
            inr (
              λ until told. elim (((p.1.state handle row.granted until told).1 was.0 was.1).1) [
                | inl past ↦ past
                | inr last ↦ let end = last.1 in inl (omega (arith, end, early, now))
              ],
              omega (arith, early, same),
            ),
          )
  done_after c attempts ss (log.Mkdir client n path) due plain beside p h handle row there shared = h handle row there shared
  done_after c attempts ss (log.Rmdir client n path) due plain beside p h handle row there shared = h handle row there shared
  done_after c attempts ss (log.Create client n file shape path) due plain beside p h handle row there shared =
      let was = shared_before c.logged (used c p.0) (log.Create client n file shape path) due plain tt handle row there shared in kept c attempts h handle row was.0 was.1
  done_after c attempts ss (log.Delete client n moment path) due plain beside p h handle row there shared = h handle row there shared
  done_after c attempts ss (log.Rename client n from to) due plain beside p h handle row there shared = h handle row there shared
  done_after c attempts ss (log.Refused client n refusal) due plain beside p h handle row there shared = h handle row there shared
  done_after c attempts ss (log.Expired file) due plain beside p h handle row there shared =
      let was = shared_before c.logged (used c p.0) (log.Expired file) due plain tt handle row there shared in kept c attempts h handle row was.0 was.1
  done_after c attempts ss (log.AddChunk file chunk) due plain beside p h handle row there shared =
      let was = shared_before c.logged (used c p.0) (log.AddChunk file chunk) due plain tt handle row there shared in kept c attempts h handle row was.0 was.1
  done_after c attempts ss (log.Issue chunk version) due plain beside p h handle row there shared =
      let was = shared_before c.logged (used c p.0) (log.Issue chunk version) due plain tt handle row there shared in kept c attempts h handle row was.0 was.1
  done_after c attempts ss (log.CopyStart file index source copy copy_version) due plain beside p h handle row there shared =
      let was = shared_before c.logged (used c p.0) (log.CopyStart file index source copy copy_version) due plain tt handle row there shared in kept c attempts h handle row was.0 was.1
  done_after c attempts ss (log.Grant chunk version primary members) due plain beside p h handle row there shared = absurd plain
  done_after c attempts ss (log.Epoch epoch) due plain beside p h handle row there shared = absurd due
  done_after c attempts ss (log.Counters next_file next_handle epoch) due plain beside p h handle row there shared = absurd due
  done_after c attempts ss (log.DirItem path) due plain beside p h handle row there shared = absurd due
  done_after c attempts ss (log.FileItem path file shape handles) due plain beside p h handle row there shared = absurd due
  done_after c attempts ss (log.ChunkItem chunk granted issued primary members) due plain beside p h handle row there shared = absurd due
  done_after c attempts ss (log.ClientItem client n refusal) due plain beside p h handle row there shared = absurd due

  -- copies are given up
  done_less : (c : Core) (attempts : Attempts) (handles : List ℕ) → AreDone c attempts → AreDone (record c { logged = copies_given_up c.logged handles }) (removed_all attempts handles)
  done_less c attempts handles h handle row there shared =
      let old = h handle row (removed_cases (rows_of c.logged) handles handle row there) shared in (λ a is. old.0 a (removed_cases attempts handles handle a is), old.1)

  -- a checkpoint
  pub checkpoint_done : (c : Core) (attempts : Attempts) (ss : Waits) → IsRowing start c → IsRowing start (core_checkpointed c) → IsSharing c attempts ss → IsSharing (core_checkpointed c) (removed_all attempts (table.keys c.logged.copies)) ss
  checkpoint_done c attempts ss n after h =
      let handles : List ℕ = table.keys c.logged.copies in
      changed c (WriteCheckpoint (checkpoint_of c.logged)) (all_copies_given_up c.logged) attempts (removed_all attempts handles) ss n after (done_less c attempts handles h.done) h

  -- a new epoch
  pub epoch_done : (c : Core) (attempts : Attempts) (ss : Waits) (epoch : ℕ) → IsRowing start c → IsSharing c attempts ss → IsSharing (core_appended c (log.Epoch epoch)) attempts ss
  epoch_done c attempts ss epoch n h =
      let r : Record = log.Epoch epoch in
      record {
        done = h.done;
        stops = stops_push (IsLogDone Over) start c.changes (AppendRecord r) h.stops
            (subst (λ (d : LogDisk). IsLogDone Over (log_changed d (AppendRecord r))) (sym n.disk)
            (subst (λ (k : Logged). IsStateDone Over k) (sym (state-appended c.disk r)) (log_done start Over c n (state_done c attempts h.done))));
      }

  -- an attempt of a chunk that isn't shared
  done_tried : (c : Core) (attempts : Attempts) (chunk : ℕ) (a : VersionAttempt) → (IsShared c.logged chunk → ⊥) → AreDone c attempts → AreDone c (table.insert attempts chunk a)
  done_tried c attempts chunk a alone h handle row there shared =
      let old = h handle row there shared in (
        λ b is. elim (put_cases attempts chunk a handle b is) [
          | inl same ↦ alone (subst (λ (n : ℕ). IsShared c.logged n) same.0 shared)
          | inr before ↦ old.0 b before
        ],
        old.1,
      )

  -- the end of a lease
  done_ended : (c : Core) (attempts : Attempts) (chunk : ℕ) → AreDone c attempts → AreDone (core_ended c chunk 0) attempts
  done_ended c attempts chunk h handle row there shared =
      elim (changed_cases (rows_of c.logged) chunk (λ r. record r { lease_end = 0 }) (table.get (rows_of c.logged) chunk) handle row refl there) [
        | inr before ↦ h handle row before.1 shared
        | inl now ↦
            let old = h handle now.0 (ap (λ (n : ℕ). table.get (rows_of c.logged) n) now.1 ∙ now.2) shared in
            (old.0, subst (λ (r : ChunkRow). IsDone c.sent c.now handle r.granted r.lease_end) now.3 (ended_now (now.0).granted (now.0).lease_end old.1))
      ]
    where
      ended_now : (granted end : ℕ) → IsDone c.sent c.now handle granted end → IsDone c.sent c.now handle granted 0
      ended_now granted end (inl over) = inl over
      ended_now granted end (inr past) = inr (past.0, omega arith)

  -- a later end, of a lease that has not ended
  done_extended : (c : Core) (attempts : Attempts) (chunk until : ℕ) (old : ChunkRow) → chunk_of c.logged.table chunk ≡ Some old → c.now < old.lease_end → AreDone c attempts → AreDone (core_extended c chunk old.granted until old.primary) attempts
  done_extended c attempts chunk until old is lasts h handle row there shared =
      elim (changed_cases (rows_of c.logged) chunk (λ r. record r { lease_end = until }) (table.get (rows_of c.logged) chunk) handle row refl there) [
        | inr before ↦
            let was = h handle row before.1 shared in
            (was.0, done_sends c.sent word c.now handle row.granted row.lease_end refl (λ end. and_false _ _ (other_first chunk handle (old.granted == row.granted) (λ same. before.0 (sym same)))) was.1)
        | inl now ↦
            let was = h handle now.0 (ap (λ (n : ℕ). table.get (rows_of c.logged) n) now.1 ∙ now.2) shared in
            (was.0, subst (λ (r : ChunkRow). IsDone (core_extended c chunk old.granted until old.primary).sent c.now handle r.granted r.lease_end) now.3 (still now.0 (same_some old now.0 (sym is ∙ now.2)) was.1))
      ]
    where
      and_false : (a b : Bool) → a ≡ false → a && b ≡ false
      and_false false b e = refl
      and_false true b e = absurd (true≢false e)

      word : Message
      word = message node.Master (the_server old.primary) (body.Extend (handle_of chunk) (version_of old.granted) (moment_of until))

      still : (r : ChunkRow) → old ≡ r → IsDone c.sent c.now handle r.granted r.lease_end → IsDone (core_extended c chunk old.granted until old.primary).sent c.now handle r.granted until
      still r same (inl over) =
          let none = over.1 in
          let whole = count-append (λ (x : Message). is_grant handle r.granted x.body) c.sent (word ∷ []) in
          let last = count-cons (λ (x : Message). is_grant handle r.granted x.body) word [] in
          inl (over.0, omega (arith, none, whole, last))
      still r same (inr past) = absurd (let low = past.1 in let end = ap (λ (x : ChunkRow). x.lease_end) same in omega (arith, low, end, lasts))

  -- a grant of an attempt
  done_granted : (c : Core) (attempts : Attempts) (chunk : ℕ) (a : VersionAttempt) (until primary : ℕ) (members : List ℕ) → table.get attempts chunk ≡ Some a → IsDue (Unit {0}) c.logged (grant_record chunk a.version primary members)
      → IsRowing start c → AreDone c attempts → AreDone (core_granted c chunk a.version until primary members) (table.remove attempts chunk)
  done_granted c attempts chunk a until primary members at due n h handle row there shared = by_key (same_or_not handle chunk)
    where
      l : Logged
      l = c.logged

      one : Logged
      one = granted_logged l chunk a.version primary members

      o : Option Copy
      o = table.get l.copies chunk

      two : Logged
      two = swapped_in one chunk o

      -- the chunk itself isn't shared: it was attempted, or is a copy's
      not_it : (x : Option Copy) → table.get l.copies chunk ≡ x → 2 ≤ times_in (swapped_in one chunk x).table.files chunk → ⊥
      not_it None is both = (h chunk due.0 due.1 both).0 a at
      not_it (Some x) is both =
          let none = apart_here l (state_of c.disk) n.tied.base chunk x is in
          let more = swapped_times one chunk chunk (Some x) in
          let once = tally_same chunk chunk refl in
          omega (arith, none, more, once, both)

      was_there : (handle ≡ chunk → ⊥) → IsKeptRow (rows_of l) handle row
      was_there other =
          elim (changed_cases (rows_of two) chunk (λ r. record r { lease_end = until }) (table.get (rows_of two) chunk) handle row refl there) [
            | inl now ↦ absurd (other now.1)
            | inr before ↦
                let first = swapped_owned one chunk o handle row before.1 in
                elim (changed_cases (rows_of l) chunk (row_granted a.version primary members) (table.get (rows_of l) chunk) handle first.0 refl first.1) [
                  | inl now ↦ absurd (other now.1)
                  | inr old ↦ (first.0, old.1, ap (λ (r : ChunkRow). r.granted) first.2, ap (λ (r : ChunkRow). r.lease_end) first.2)
                ]
          ]

      and_false : (x y : Bool) → x ≡ false → x && y ≡ false
      and_false false y e = refl
      and_false true y e = absurd (true≢false e)

      by_key : (handle ≡ chunk) ⊎ (handle ≡ chunk → ⊥) → ((b : VersionAttempt) → table.get (table.remove attempts chunk) handle ≡ Some b → ⊥) × IsDone (core_granted c chunk a.version until primary members).sent c.now handle row.granted row.lease_end
      by_key (inl same) = absurd (not_it o refl (subst (λ (q : ℕ). 2 ≤ times_in two.table.files q) same shared))
      by_key (inr other) =
          let more = swapped_times one chunk handle o in
          let no_one = tally_other chunk handle other in
          let old = kept c attempts h handle row (was_there other) (omega (arith, more, no_one, shared)) in (
            λ b is. old.0 b (kept_cases attempts chunk handle b is),
            done_sends c.sent _ c.now handle row.granted row.lease_end (other_first chunk handle (a.version == row.granted) (λ same. other (sym same)))
                (λ end. and_false _ _ (other_first chunk handle (a.version == row.granted) (λ same. other (sym same)))) old.1,
          )

  alone_once : (n : ℕ) → n ≤ 1 → 2 ≤ n → ⊥
  alone_once n low high = omega (arith, low, high)

  pub sharing_acts : Acts start (WasSaidOver before) Stepping IsSharing
  sharing_acts =
      record {
        tells = λ c attempts ss receiver b quiet h. sends c attempts ss _ c.order_count (λ handle version. no_order_grants handle version b (no_order b quiet)) (quiet_tells b quiet) h;
        orders = λ c attempts ss server b is plain none h. sends c attempts ss _ (suc c.order_count) (λ handle version. plain_grants handle version (b _) (plain _)) (plain_tells (b _) _ (is _) (plain _)) h;
        gives = λ c attempts ss server handle a b at has plain given h. sends c attempts ss _ (suc c.order_count) (λ q version. plain_grants q version (b _) (plain _)) (given_tells (b _) _ (given _)) h;
        revokes = λ c attempts ss handle row is h. sends c attempts ss _ (suc c.order_count) (λ q version. refl) (λ q version until. refl) h;
        appends = λ c attempts ss r due plain beside p after h. changed c (AppendRecord r) (after_record c.logged r) attempts attempts ss p.0 after.0 (done_after c attempts ss r due plain beside p h.done) h;
        checkpoint = λ c attempts ss tree p after h. checkpoint_done c attempts ss p.0 after.0 h;
        less = λ c attempts ss handles copied p h. record { done = done_less c attempts handles h.done; stops = h.stops };
        fewer = λ c attempts left ss from h. record { done = λ handle row there shared. let old = h.done handle row there shared in (λ a is. old.0 a (from handle a is), old.1); stops = h.stops };
        waits = λ c attempts ss more h. record { done = h.done; stops = h.stops };
        issues = λ c attempts ss handle row a is next alone p before h. record { done = done_tried (core_appended c (log.Issue (handle_of handle) (version_of a.version))) attempts handle a (alone_once (times_in c.logged.table.files handle) alone) h.done; stops = h.stops };
        copies = λ c attempts ss file index source copy a next p before h.
            let none = fresh (times_in c.logged.table.files copy) c.logged.next_handle copy (used c p.0 copy) next in
            record { done = done_tried (core_appended c (log.CopyStart file index source (handle_of copy) (version_of a.version))) attempts copy a (λ shared. omega (arith, none, shared)) h.done; stops = h.stops };
        records = λ c attempts ss handle a b at same servers h. record { done = λ q row there shared. let old = h.done q row there shared in (λ x is. elim (put_cases attempts handle b q x is) [ inl now ↦ old.0 a (ap (λ (n : ℕ). table.get attempts n) now.0 ∙ at) | inr earlier ↦ old.0 x earlier ], old.1); stops = h.stops };
        grants = λ c attempts ss handle a until primary members at all due p after h.
            let done = done_granted c attempts handle a until primary members at due p.0 h.done in
            record {
              done = done;
              stops = stops_push (IsLogDone Over) start c.changes (AppendRecord (grant_record handle a.version primary members)) h.stops
                  (subst (λ (d : LogDisk). IsLogDone Over (log_changed d (AppendRecord (grant_record handle a.version primary members)))) (sym p.0.disk)
                  (log_done start Over (core_granted c handle a.version until primary members) after.0 (state_done (core_granted c handle a.version until primary members) (table.remove attempts handle) done)));
            };
        ends = λ c attempts ss handle row is word p h. record { done = done_ended c attempts handle h.done; stops = h.stops };
        extends = λ c attempts ss handle until row is lasts p h. record { done = done_extended c attempts handle until row is lasts.1 h.done; stops = h.stops };
      }
