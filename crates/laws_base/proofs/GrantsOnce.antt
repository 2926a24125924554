-- A version is granted at most once: each Grant that was sent is at most what its chunk's row says was granted, in the state and in the log.
use Rattle.std.proofs.Common.{◌≡◌, ℕ, suc, ◌+◌, ◌≤◌, ◌<◌, Bool, true, false, List, [], ◌∷◌, ◌++◌, take, drop, Option, Some, None, refl, sym, ap, subst, ◌∙◌, inl, inr, arith}
use Rattle.std.specs.Prelude.{◌==◌, ◌&&◌, IsTrue, option_map}
use Rattle.std.specs.FinMap as table
use Rattle.std.proofs.lemmas.Bool.{eqb-true, and_parts, cases_lt}
use Rattle.gfs_types.specs.declared.config.Config.{Config}
use Rattle.messages.specs.declared.message.Body.{Body}
use Rattle.messages.specs.declared.message.Message.{Message}
use Rattle.messages.specs.declared.event.NodeInput.{NodeInput}
use Rattle.log_records.specs.declared.record.Record.{Record}
use Rattle.log_records.specs.declared.record.Record.TheVariants as log
use Rattle.relaxed_file.specs.Names.{copied_entries}
use Rattle.relaxed_file.proofs.NamesTree.{Tree}
use Rattle.protocol.specs.Choice.{Choice, Ending, Goes, Lost, Stops, in_order, decided_changes}
use Rattle.protocol.specs.Seen.{Taken, no_step}
use Rattle.chunk_table.specs.ChunkTable.{ChunkRow, changed_by, row_granted, grant, added_row, copied_row}
use Rattle.protocol.specs.Logged.{Logged, Copy, LogDisk, LogChange, AppendRecord, WriteCheckpoint, first_logged, log_changed, log_changed_by_all, after_record, after_records, checkpoint_of, copies_given_up, all_copies_given_up, swapped_in}
use Rattle.protocol.specs.Master.{MasterState, MasterDoing, stopped_master, master_begins, writes_checkpoint}
use Rattle.protocol.specs.MasterStep.{master_at, master_goes, master_ends, master_bounded, master_step, is_within_limits, may_end, found_log, started_master, opening, has_opened, opens_as, new_master}
use Rattle.protocol.specs.World.{stamped}
use Rattle.protocol.specs.Sending.{order_number}
use Rattle.laws_base.specs.Laws.{times_in, is_grant, grants_of, VersionsAreGrantedOnce}
use Rattle.laws_base.proofs.Steps.{on_cond, none_some, same_some, tally, put_cases, count-cons, count-append}
use Rattle.laws_base.proofs.Entries.{AllOf}
use Rattle.laws_base.proofs.ChunkRows.{Rows, rows_of, From, removed_from, changed_from, all_copied_from, swapped_from, expired_from}
use Rattle.laws_base.proofs.VersionsAhead.{changed_cases}
use Rattle.laws_base.proofs.MasterMoves.{Core, core_of, IsDue, IsPlainOrder, plain_nothing, Nothing, NoneEnded, Keeps, core_changed, core_appended, core_ended, core_granted, grant_record, logs_alone}
use Rattle.laws_base.proofs.MasterSteps.{no_input, goes_named}
use Rattle.laws_base.proofs.ClientMoves.{HasNoOrder}
use Rattle.laws_base.proofs.Words.{no_order}
use Rattle.laws_base.proofs.LeaseOrders.{nothing_counts, unordered_nothing}
use Rattle.laws_base.proofs.SentReached.{no_orders, without_order, count-sent, sent_reached}
use Rattle.laws_base.proofs.OrderNumbers.{state_of, state-appended, AllStops, stops_push, AllFound, found_same, found_stopped}
use Rattle.laws_base.proofs.LoggedParts.{Parts, parts_of, checkpoint_parts}
use Rattle.laws_base.proofs.GrantedIssued.{IsIssued, started_from, step_issued, opens_issued, new_issued}
use Rattle.laws_base.proofs.NamesReached.{without_end, IsNaming, naming_keeps, opening_first, opening_naming, IsGood, IsUpToLog, IsLogged, step_logged, opens_logged, new_logged}
use Rattle.laws_base.proofs.Owners.{references_of}
use Rattle.laws_base.proofs.CountsLogged.{next_grows}
use Rattle.laws_base.proofs.CountsKept.{counts_kept}
use Rattle.laws_base.proofs.RowsSame.{IsSameRow, AreSameAt, IsOwned}
use Rattle.laws_base.proofs.RowsLogged.{IsFoundRows, IsRowedLog}
use Rattle.laws_base.proofs.RowsKept.{rows_kept, checkpoint_same}

-- of each version that was granted, by such a count: its handle was used, and what the chunk's row says was granted is no lower
abbrev AreWithin : (ℕ → ℕ → ℕ) → Logged → Type 0
AreWithin count l = (handle version : ℕ) → 1 ≤ count handle version → (handle < l.next_handle) × ((row : ChunkRow) → table.get (rows_of l) handle ≡ Some row → version ≤ row.granted)

within_from : (count : ℕ → ℕ → ℕ) (l k : Logged) → From (rows_of l) (rows_of k) → l.next_handle ≤ k.next_handle → AreWithin count l → AreWithin count k
within_from count l k f more h handle version some =
    let old = h handle version some in
    let low = old.0 in
    (omega (arith, low, more), λ row is. let was = f handle row is in let bound = old.1 was.old was.at in let same = was.granted in omega (arith, bound, same))

within_fewer : (count less : ℕ → ℕ → ℕ) (l : Logged) → ((handle version : ℕ) → 1 ≤ less handle version → 1 ≤ count handle version) → AreWithin count l → AreWithin less l
within_fewer count less l f h handle version some = h handle version (f handle version some)

same_granted : (o p : Option ChunkRow) (row : ChunkRow) → IsSameRow o p → p ≡ Some row → (old : ChunkRow) × (o ≡ Some old) × (old.granted ≡ row.granted)
same_granted None p row same is = none_some (without_end row) (same ∙ ap (λ (x : Option ChunkRow). option_map without_end x) is)
same_granted (Some old) p row same is = (old, refl, ap (λ (x : ChunkRow). x.granted) (same_some (without_end old) (without_end row) (same ∙ ap (λ (x : Option ChunkRow). option_map without_end x) is)))

within_same : (count : ℕ → ℕ → ℕ) (l k : Logged) → ((q : ℕ) → AreSameAt (rows_of l) (rows_of k) q) → l.next_handle ≡ k.next_handle → AreWithin count l → AreWithin count k
within_same count l k same next h handle version some =
    let old = h handle version some in
    let low = old.0 in (
      omega (arith, low, next),
      λ row is.
          let was = same_granted (table.get (rows_of l) handle) (table.get (rows_of k) handle) row (same handle) is in
          let bound = old.1 was.0 was.1 in
          let granted = was.2 in
          omega (arith, bound, granted),
    )

-- after a record

-- what is asked of a record: new handles are unused, and a grant is above those before
abbrev IsFresh : (ℕ → ℕ → ℕ) → Logged → Record → Type 0
IsFresh count k (log.AddChunk file handle) = handle.0 ≡ k.next_handle
IsFresh count k (log.CopyStart file index handle copy copy_version) = copy.0 ≡ k.next_handle
IsFresh count k (log.Grant handle version primary members) = (v : ℕ) → 1 ≤ count handle.0 v → v < version.0
IsFresh count k other = Unit {0}

fresh : (count : ℕ → ℕ → ℕ) (l k : Logged) (r : Record) → l.next_handle ≡ k.next_handle → IsDue (Unit {0}) l r → AreWithin count l → IsFresh count k r
fresh count l k (log.AddChunk file handle) next due h = due.0 ∙ next
fresh count l k (log.CopyStart file index handle copy copy_version) next due h = due.0 ∙ next
fresh count l k (log.Grant handle version primary members) next due h = λ v some. let bound = (h handle.0 v some).1 due.0 due.1 in let above = due.2 tt in omega (arith, bound, above)
fresh count l k other next due h = tt

put_within : (count : ℕ → ℕ → ℕ) (k n : Logged) (at : ℕ) (new : ChunkRow) → rows_of n ≡ table.insert (rows_of k) at new → at ≡ k.next_handle → k.next_handle ≤ n.next_handle → AreWithin count k → AreWithin count n
put_within count k n at new put next more h handle version some =
    let old = h handle version some in
    let low = old.0 in (
      omega (arith, low, more),
      λ row is. elim (put_cases (rows_of k) at new handle row (sym (ap (λ (rows : Rows). table.get rows handle) put) ∙ is)) [
        | inl same ↦ absurd (let there = same.0 in omega (arith, low, there, next))
        | inr before ↦ old.1 row before
      ],
    )

issued_within : (count : ℕ → ℕ → ℕ) (k : Logged) (chunk number : ℕ) → AreWithin count k
    → AreWithin count (record k { table = record k.table { chunks = changed_by (rows_of k) chunk (λ row. record row { issued = number }) (table.get (rows_of k) chunk) } })
issued_within count k chunk number h handle version some =
    let old = h handle version some in (
      old.0,
      λ row is. elim (changed_cases (rows_of k) chunk (λ row. record row { issued = number }) (table.get (rows_of k) chunk) handle row refl is) [
        | inl now ↦
            let bound = old.1 now.0 (ap (λ (n : ℕ). table.get (rows_of k) n) now.1 ∙ now.2) in
            let granted = ap (λ (x : ChunkRow). x.granted) now.3 in
            omega (arith, bound, granted)
        | inr before ↦ old.1 row before.1
      ],
    )

abbrev with_grant : Logged → ℕ → ℕ → ℕ → List ℕ → Logged
with_grant k chunk number primary members = record k { table = grant k.table chunk number primary members }

granted_within : (count : ℕ → ℕ → ℕ) (k : Logged) (chunk number primary : ℕ) (members : List ℕ) → ((v : ℕ) → 1 ≤ count chunk v → v < number) → AreWithin count k → AreWithin count (with_grant k chunk number primary members)
granted_within count k chunk number primary members above h handle version some =
    let old = h handle version some in (
      old.0,
      λ row is. elim (changed_cases (rows_of k) chunk (row_granted number primary members) (table.get (rows_of k) chunk) handle row refl is) [
        | inl now ↦
            let less = above version (subst (λ (q : ℕ). 1 ≤ count q version) now.1 some) in
            let granted = ap (λ (x : ChunkRow). x.granted) now.3 in
            omega (arith, less, granted)
        | inr before ↦ old.1 row before.1
      ],
    )

within_after : (count : ℕ → ℕ → ℕ) (l k : Logged) (r : Record) → IsDue (Unit {0}) l r → IsFresh count k r → AreWithin count k → AreWithin count (after_record k r)
within_after count l k (log.AddChunk file handle) due new h =
    put_within count k (after_record k (log.AddChunk file handle)) handle.0 (added_row k.table file.0) refl new (next_grows l k (log.AddChunk file handle) due) h
within_after count l k (log.CopyStart file index handle copy copy_version) due new h =
    let r : Record = log.CopyStart file index handle copy copy_version in
    put_within count k (after_record k r) copy.0 (copied_row k.table handle.0 copy_version.0) refl new (next_grows l k r due) h
within_after count l k (log.Issue handle version) due new h = issued_within count k handle.0 version.0 h
within_after count l k (log.Grant handle version primary members) due new h =
    let one : Logged = with_grant k handle.0 version.0 primary.0 members in
    within_from count one (swapped_in one handle.0 (table.get k.copies handle.0)) (swapped_from one handle.0 (table.get k.copies handle.0)) (next_grows l k (log.Grant handle version primary members) due)
    (granted_within count k handle.0 version.0 primary.0 members new h)
within_after count l k (log.Snapshot client n from to) due new h =
    within_from count k (after_record k (log.Snapshot client n from to)) (all_copied_from k.table k.next_file (copied_entries k.names from to)) (omega arith) h
within_after count l k (log.Expired file) due new h = within_from count k (after_record k (log.Expired file)) (expired_from k file) (omega arith) h
within_after count l k (log.Counters next_file next_handle epoch) due new h = absurd due
within_after count l k (log.FileItem path file shape handles) due new h = absurd due
within_after count l k (log.ChunkItem handle granted issued primary members) due new h = absurd due
within_after count l k other due new h = h

-- the row of a chunk that was just granted says so
abbrev IsGrantedAt : Logged → ℕ → ℕ → Type 0
IsGrantedAt k handle version = (row : ChunkRow) → table.get (rows_of k) handle ≡ Some row → row.granted ≡ version

granted_from : (k n : Logged) (handle version : ℕ) → From (rows_of k) (rows_of n) → IsGrantedAt k handle version → IsGrantedAt n handle version
granted_from k n handle version f h row is = let was = f handle row is in sym was.granted ∙ h was.old was.at

granted_after : (k : Logged) (handle version primary : ℕ) (members : List ℕ) → IsGrantedAt (after_record k (grant_record handle version primary members)) handle version
granted_after k handle version primary members =
    let one : Logged = with_grant k handle version primary members in
    granted_from one (swapped_in one handle (table.get k.copies handle)) handle version (swapped_from one handle (table.get k.copies handle))
    (λ row is. elim (changed_cases (rows_of k) handle (row_granted version primary members) (table.get (rows_of k) handle) handle row refl is) [
      | inl now ↦ sym (ap (λ (x : ChunkRow). x.granted) now.3)
      | inr before ↦ absurd (before.0 refl)
    ])

-- handles of rows were used

pub row_below : (l k : Logged) → parts_of l ≡ parts_of k → IsRowedLog l k → (q : ℕ) (row : ChunkRow) → table.get (rows_of l) q ≡ Some row → q < l.next_handle
row_below l k parts h q row is = by_copy (table.get l.copies q) refl
  where
    next : l.next_handle ≡ k.next_handle
    next = ap (λ (p : Parts). p.next_handle) parts

    by_copy : (o : Option Copy) → table.get l.copies q ≡ o → q < l.next_handle
    by_copy None none =
        let owned : 1 ≤ row.references = subst IsOwned is (h.owned q none) in
        let count = ap references_of is in
        let stands = h.base.counted q in
        let files = ap (λ f. times_in f q) h.base.base.files in
        let low = h.base.log.below q (omega (arith, owned, count, stands, files)) in
        omega (arith, low, next)
    by_copy (Some c) some = let low = h.base.base.log.numbered q c (h.base.base.among q c some) in omega (arith, low, next)

-- a step so far

abbrev IsRowing : LogDisk → Core → Type 0
IsRowing start c = IsNaming IsFoundRows IsRowedLog rows_kept start c

abbrev granted_by : List Message → List Message → ℕ → ℕ → ℕ
granted_by before sent handle version = grants_of handle version before + grants_of handle version sent

abbrev granted_before : List Message → ℕ → ℕ → ℕ
granted_before before handle version = grants_of handle version before

abbrev IsLogWithin : List Message → LogDisk → Type 0
IsLogWithin before d = AreWithin (granted_before before) (state_of d)

record IsGranting (before : List Message) (start : LogDisk) (c : Core) : Type 0 where
  once : (handle version : ℕ) → granted_by before c.sent handle version ≤ 1
  state : AreWithin (granted_by before c.sent) c.logged
  disk : AreWithin (granted_by before c.sent) (state_of c.disk)
  stops : AllStops (IsLogWithin before) start c.changes

fewer_before : (before sent : List Message) (handle version : ℕ) → 1 ≤ granted_before before handle version → 1 ≤ granted_by before sent handle version
fewer_before before sent handle version some = omega (arith, some)

-- the disk and the state change together
changed : (before : List Message) (start : LogDisk) (c : Core) (x : LogChange) (l : Logged) → log_changed_by_all start c.changes ≡ c.disk → AreWithin (granted_by before c.sent) l
    → AreWithin (granted_by before c.sent) (state_of (log_changed c.disk x)) → IsGranting before start c → IsGranting before start (record (core_changed c x) { logged = l })
changed before start c x l disk state log h =
    record {
      once = h.once;
      state = state;
      disk = log;
      stops = stops_push (IsLogWithin before) start c.changes x h.stops
          (subst (λ (d : LogDisk). IsLogWithin before (log_changed d x)) (sym disk) (within_fewer (granted_by before c.sent) (granted_before before) (state_of (log_changed c.disk x)) (fewer_before before c.sent) log));
    }

appended : (before : List Message) (start : LogDisk) (c : Core) (r : Record) → IsDue (Unit {0}) c.logged r → IsRowing start c → IsGranting before start c → IsGranting before start (core_appended c r)
appended before start c r due n h =
    let count : ℕ → ℕ → ℕ = granted_by before c.sent in
    let next : c.logged.next_handle ≡ (state_of c.disk).next_handle = ap (λ (p : Parts). p.next_handle) n.same in
    changed before start c (AppendRecord r) (after_record c.logged r) n.disk
    (within_after count c.logged c.logged r due (fresh count c.logged c.logged r refl due h.state) h.state)
    (subst (λ (k : Logged). AreWithin count k) (sym (state-appended c.disk r)) (within_after count c.logged (state_of c.disk) r due (fresh count c.logged (state_of c.disk) r next due h.state) h.disk)) h

epoch_begun : (before : List Message) (start : LogDisk) (c : Core) (epoch : ℕ) → log_changed_by_all start c.changes ≡ c.disk → IsGranting before start c → IsGranting before start (core_appended c (log.Epoch epoch))
epoch_begun before start c epoch disk h =
    changed before start c (AppendRecord (log.Epoch epoch)) (after_record c.logged (log.Epoch epoch)) disk h.state
    (subst (λ (k : Logged). AreWithin (granted_by before c.sent) k) (sym (state-appended c.disk (log.Epoch epoch))) h.disk) h

checkpointed : (before : List Message) (start : LogDisk) (c : Core) → Tree c.logged.names → IsRowing start c → IsGranting before start c
    → IsGranting before start (record (core_changed c (WriteCheckpoint (checkpoint_of c.logged))) { logged = all_copies_given_up c.logged })
checkpointed before start c tree n h =
    let count : ℕ → ℕ → ℕ = granted_by before c.sent in
    let l : Logged = c.logged in
    let less : AreWithin count (all_copies_given_up l) = within_from count l (all_copies_given_up l) (removed_from (rows_of l) (table.keys l.copies)) (omega arith) h.state in
    let read : Logged = after_records first_logged (checkpoint_of l) in
    changed before start c (WriteCheckpoint (checkpoint_of l)) (all_copies_given_up l) n.disk less
    (within_same count (all_copies_given_up l) read
    (λ q. checkpoint_same l (state_of c.disk) q n.tied (counts_kept.checkpoint l (state_of c.disk) n.same tree n.tied.base))
    (ap (λ (p : Parts). p.next_handle) (sym (checkpoint_parts l tree))) less) h

-- the state's rows alone change, and no version
quieter : (before : List Message) (start : LogDisk) (c : Core) (l : Logged) → From (rows_of c.logged) (rows_of l) → c.logged.next_handle ≤ l.next_handle → IsGranting before start c → IsGranting before start (record c { logged = l })
quieter before start c l f more h = record { once = h.once; state = within_from (granted_by before c.sent) c.logged l f more h.state; disk = h.disk; stops = h.stops }

ended : (before : List Message) (start : LogDisk) (c : Core) (handle moment : ℕ) → IsGranting before start c → IsGranting before start (core_ended c handle moment)
ended before start c handle moment h =
    let rows : Rows = rows_of c.logged in
    quieter before start c (core_ended c handle moment).logged (changed_from rows handle (λ row. record row { lease_end = moment }) (table.get rows handle) refl (λ row. (refl, refl, refl))) (omega arith) h

-- messages

pub no_order_grants : (handle version : ℕ) (b : Body) → order_number b ≡ None → is_grant handle version b ≡ false
no_order_grants handle version b none = nothing_counts handle version b (unordered_nothing b none)

pub plain_grants : (handle version : ℕ) (b : Body) → IsPlainOrder b → is_grant handle version b ≡ false
plain_grants handle version b plain = nothing_counts handle version b (plain_nothing b plain)

one_sent : (before sent : List Message) (m : Message) (handle version : ℕ) → granted_by before (sent ++ m ∷ []) handle version ≡ granted_by before sent handle version + tally (is_grant handle version m.body)
one_sent before sent m handle version =
    let f : Message → Bool = λ x. is_grant handle version x.body in
    let whole = count-append f sent (m ∷ []) in
    let one = count-cons f m [] in
    omega (arith, whole, one)

-- a message that grants nothing
sends : (before : List Message) (start : LogDisk) (c : Core) (m : Message) (count : ℕ) → ((handle version : ℕ) → is_grant handle version m.body ≡ false) → IsGranting before start c
    → IsGranting before start (record c { sent = c.sent ++ m ∷ []; order_count = count })
sends before start c m count plain h =
    record {
      once = λ handle version. let same = still handle version in let old = h.once handle version in omega (arith, same, old);
      state = within_fewer (granted_by before c.sent) (granted_by before (c.sent ++ m ∷ [])) c.logged fewer h.state;
      disk = within_fewer (granted_by before c.sent) (granted_by before (c.sent ++ m ∷ [])) (state_of c.disk) fewer h.disk;
      stops = h.stops;
    }
  where
    still : (handle version : ℕ) → granted_by before (c.sent ++ m ∷ []) handle version ≡ granted_by before c.sent handle version
    still handle version = let whole = one_sent before c.sent m handle version in let none = ap tally (plain handle version) in omega (arith, whole, none)

    fewer : (handle version : ℕ) → 1 ≤ granted_by before (c.sent ++ m ∷ []) handle version → 1 ≤ granted_by before c.sent handle version
    fewer handle version some = let same = still handle version in omega (arith, same, some)

-- a message that grants one version, which was not granted before
grant_sent : (before : List Message) (start : LogDisk) (c : Core) (m : Message) (count chunk number : ℕ) → ((handle version : ℕ) → is_grant handle version m.body ≡ (chunk == handle) && (number == version))
    → granted_by before c.sent chunk number ≡ 0 → chunk < c.logged.next_handle → chunk < (state_of c.disk).next_handle → IsGrantedAt c.logged chunk number → IsGrantedAt (state_of c.disk) chunk number
    → IsGranting before start c → IsGranting before start (record c { sent = c.sent ++ m ∷ []; order_count = count })
grant_sent before start c m count chunk number is none low log_low at log_at h =
    record {
      once = λ handle version. once handle version (is_grant handle version m.body) refl;
      state = within c.logged low at h.state;
      disk = within (state_of c.disk) log_low log_at h.disk;
      stops = h.stops;
    }
  where
    named : (handle version : ℕ) → is_grant handle version m.body ≡ true → (chunk ≡ handle) × (number ≡ version)
    named handle version so = let parts = and_parts (chunk == handle) (number == version) (sym (is handle version) ∙ so) in (eqb-true chunk handle parts.0, eqb-true number version parts.1)

    zero : (handle version : ℕ) → (chunk ≡ handle) × (number ≡ version) → granted_by before c.sent handle version ≡ 0
    zero handle version same = subst (λ (v : ℕ). granted_by before c.sent handle v ≡ 0) same.1 (subst (λ (q : ℕ). granted_by before c.sent q number ≡ 0) same.0 none)

    once : (handle version : ℕ) (b : Bool) → is_grant handle version m.body ≡ b → granted_by before (c.sent ++ m ∷ []) handle version ≤ 1
    once handle version true so =
        let whole = one_sent before c.sent m handle version in
        let one = ap tally so in
        let old = zero handle version (named handle version so) in
        omega (arith, whole, one, old)
    once handle version false other =
        let whole = one_sent before c.sent m handle version in
        let one = ap tally other in
        let old = h.once handle version in
        omega (arith, whole, one, old)

    within : (l : Logged) → chunk < l.next_handle → IsGrantedAt l chunk number → AreWithin (granted_by before c.sent) l → AreWithin (granted_by before (c.sent ++ m ∷ [])) l
    within l below there old handle version some = by_message (is_grant handle version m.body) refl
      where
        by_message : (b : Bool) → is_grant handle version m.body ≡ b → (handle < l.next_handle) × ((row : ChunkRow) → table.get (rows_of l) handle ≡ Some row → version ≤ row.granted)
        by_message true so =
            let same = named handle version so in
            let key = same.0 in
            let number_is = same.1 in
            (omega (arith, key, below), λ row at_row. let granted = there row (ap (λ (q : ℕ). table.get (rows_of l) q) key ∙ at_row) in omega (arith, granted, number_is))
        by_message false other =
            let whole = one_sent before c.sent m handle version in
            let one = ap tally other in
            old handle version (omega (arith, whole, one, some))

-- what each move keeps

granted : (before : List Message) (start : LogDisk) (c : Core) (handle version until primary : ℕ) (members : List ℕ) → IsDue (Unit {0}) c.logged (grant_record handle version primary members) → IsRowing start c
    → IsGranting before start c → IsGranting before start (core_granted c handle version until primary members)
granted before start c handle version until primary members due n h =
    let r : Record = grant_record handle version primary members in
    let one : Core = core_appended c r in
    let two : Core = core_ended one handle until in
    let low : handle < c.logged.next_handle = row_below c.logged (state_of c.disk) n.same n.tied handle due.0 due.1 in
    let grown = next_grows c.logged c.logged r due in
    let log_grown = next_grows c.logged (state_of c.disk) r due in
    let next = ap (λ (p : Parts). p.next_handle) n.same in
    let log_next = ap (λ (k : Logged). k.next_handle) (state-appended c.disk r) in
    let rows : Rows = rows_of one.logged in
    let none : granted_by before c.sent handle version ≡ 0 =
    elim (cases_lt (granted_by before c.sent handle version) 1) [
      | inl less ↦ omega (arith, less)
      | inr some ↦ absurd (let bound = (h.state handle version some).1 due.0 due.1 in let above = due.2 tt in omega (arith, bound, above))
    ] in
    grant_sent before start two _ _ handle version (λ q v. refl) none (omega (arith, low, grown)) (omega (arith, low, log_grown, next, log_next))
    (granted_from one.logged two.logged handle version (changed_from rows handle (λ row. record row { lease_end = until }) (table.get rows handle) refl (λ row. (refl, refl, refl))) (granted_after c.logged handle version primary members))
    (subst (λ (k : Logged). IsGrantedAt k handle version) (sym (state-appended c.disk r)) (granted_after (state_of c.disk) handle version primary members))
    (ended before start one handle until (appended before start c r due n h))

granting_keeps : (before : List Message) (start : LogDisk) → Keeps (Unit {0}) Nothing NoneEnded (λ c. IsRowing start c × IsGranting before start c)
granting_keeps before start =
    let base : Keeps (Unit {0}) Nothing NoneEnded (IsRowing start) = naming_keeps IsFoundRows IsRowedLog rows_kept start NoneEnded in
    record {
      tells = λ c receiver b quiet h. (base.tells c receiver b quiet h.0, sends before start c _ c.order_count (λ q v. no_order_grants q v b (no_order b quiet)) h.1);
      orders = λ c server b is plain h. (base.orders c server b is plain h.0, sends before start c _ (suc c.order_count) (λ q v. plain_grants q v (b _) (plain _)) h.1);
      revokes = λ c handle row is h. (base.revokes c handle row is h.0, sends before start c _ (suc c.order_count) (λ q v. refl) h.1);
      grants = λ c handle version until primary members told due names from idle h. (base.grants c handle version until primary members told due names from idle h.0, granted before start c handle version until primary members due h.0 h.1);
      appends = λ c r due plain names h. (base.appends c r due plain names h.0, appended before start c r due h.0 h.1);
      checkpoint = λ c tree h. (base.checkpoint c tree h.0, checkpointed before start c (tree tt) h.0 h.1);
      sound = λ asks c h. base.sound asks c h.0;
      less = λ c handles copied h. (base.less c handles copied h.0, quieter before start c (copies_given_up c.logged handles) (removed_from (rows_of c.logged) handles) (omega arith) h.1);
      ends = λ c handle row is word h. (base.ends c handle row is word h.0, ended before start c handle 0 h.1);
      extends = λ c handle until row is lasts later from h. (base.extends c handle until row is lasts later from h.0, sends before start (core_ended c handle until) _ c.order_count (λ q v. refl) (ended before start c handle until h.1));
    }

-- of what was sent, and the master between its steps
record AreGrants (sent : List Message) (m : MasterState) : Type 0 where
  once : (handle version : ℕ) → grants_of handle version sent ≤ 1
  found : AllFound (IsLogWithin sent) m.disk m.under_way
  up : IsTrue m.up → AreWithin (granted_before sent) m.logged

abbrev HaveSameGrants : List Message → List Message → Type 0
HaveSameGrants sent more = (handle version : ℕ) → grants_of handle version more ≡ grants_of handle version sent

fewer_grants : (sent more : List Message) → HaveSameGrants sent more → (handle version : ℕ) → 1 ≤ granted_before more handle version → 1 ≤ granted_before sent handle version
fewer_grants sent more same handle version some = let is = same handle version in omega (arith, is, some)

once_more : (sent more : List Message) → HaveSameGrants sent more → ((handle version : ℕ) → grants_of handle version sent ≤ 1) → (handle version : ℕ) → grants_of handle version more ≤ 1
once_more sent more same once handle version = let is = same handle version in let old = once handle version in omega (arith, is, old)

-- messages that grant nothing
still_granted : (sent more : List Message) (m : MasterState) → HaveSameGrants sent more → AreGrants sent m → AreGrants more m
still_granted sent more m same h =
    record {
      once = once_more sent more same h.once;
      found = λ decided. within_fewer (granted_before sent) (granted_before more) (state_of (log_changed_by_all m.disk (decided_changes decided m.under_way))) (fewer_grants sent more same) (h.found decided);
      up = λ up. within_fewer (granted_before sent) (granted_before more) m.logged (fewer_grants sent more same) (h.up up);
    }

none_granted : (handle version : ℕ) (ms : List Message) → AllOf (λ m. order_number m.body ≡ None) ms → grants_of handle version ms ≡ 0
none_granted handle version [] all = refl
none_granted handle version (m ∷ ms) all =
    let whole = count-cons (λ (x : Message). is_grant handle version x.body) m ms in
    let none = ap tally (no_order_grants handle version m.body all.0) in
    let rest = none_granted handle version ms all.1 in
    omega (arith, whole, none, rest)

silent : (sent ms : List Message) (k : ℕ) → HasNoOrder ms → HaveSameGrants sent (sent ++ stamped k ms)
silent sent ms k quiet handle version =
    let whole = count-sent (λ b. is_grant handle version b) k sent [] ms in
    let none = none_granted handle version ms (without_order ms quiet) in
    omega (arith, whole, none)

-- a master that is put down
down_granted : (sent : List Message) (k : ℕ) (m : MasterState) (disk : LogDisk) (under_way : List LogChange) → AreGrants sent m → AllFound (IsLogWithin sent) disk under_way
    → AreGrants (sent ++ stamped k []) (stopped_master m disk under_way)
down_granted sent k m disk under_way h found =
    still_granted sent (sent ++ stamped k []) (stopped_master m disk under_way) (silent sent [] k no_orders)
    (record { once = h.once; found = found; up = λ up. absurd (let both : false ≡ true = up in cc) })

-- a master that goes on after a step
running : (sent : List Message) (start : LogDisk) (k : ℕ) (d : MasterDoing) (order : List ℕ) → IsRowing start (core_of d) → IsGranting sent start (core_of d) → AreGrants (sent ++ stamped k (in_order order d.sent)) d.master
running sent start k d order n g =
    record {
      once = λ handle version. let same = whole handle version in let one = g.once handle version in omega (arith, same, one);
      found = subst (λ (xs : List LogChange). AllFound (IsLogWithin more) d.master.disk xs) (sym n.none)
          (found_same (IsLogWithin more) d.master.disk (within_fewer (granted_by sent d.sent) (granted_before more) (state_of d.master.disk) fewer g.disk));
      up = λ _. within_fewer (granted_by sent d.sent) (granted_before more) d.master.logged fewer g.state;
    }
  where
    more : List Message
    more = sent ++ stamped k (in_order order d.sent)

    whole : (handle version : ℕ) → grants_of handle version more ≡ granted_by sent d.sent handle version
    whole handle version = count-sent (λ b. is_grant handle version b) k sent order d.sent

    fewer : (handle version : ℕ) → 1 ≤ granted_before more handle version → 1 ≤ granted_by sent d.sent handle version
    fewer handle version some = let same = whole handle version in omega (arith, same, some)

ends_granted : (sent : List Message) (k : ℕ) (m : MasterState) (d : MasterDoing) (choice : Choice) (e : Ending) → AreGrants sent m → IsRowing m.disk (core_of d) → IsGranting sent m.disk (core_of d)
    → AreGrants (sent ++ stamped k (master_ends m d choice e).out.sent) (master_ends m d choice e).state
ends_granted sent k m d choice Goes h n g = running sent m.disk k d choice.order n g
ends_granted sent k m d choice Lost h n g = down_granted sent k m m.disk [] h (found_same (IsLogWithin sent) m.disk (h.found []))
ends_granted sent k m d choice (Stops made) h n g =
    down_granted sent k m (log_changed_by_all m.disk (take made d.changes)) (take 1 (drop made d.changes)) h (found_stopped (IsLogWithin sent) m.disk d.changes made g.stops)

step_granted : (sent : List Message) (k : ℕ) (m : MasterState) (moment : ℕ) (i : NodeInput) (choice : Choice) → IsLogged IsFoundRows IsRowedLog rows_kept m → AreGrants sent m
    → AreGrants (sent ++ stamped k (master_step m moment i choice).out.sent) (master_step m moment i choice).state
step_granted sent k m moment i choice logged h =
    let d : MasterDoing = master_goes m moment i choice.refused in
    let good : Taken MasterState → Type 0 = λ t. AreGrants (sent ++ stamped k t.out.sent) t.state in
    let same : AreGrants (sent ++ stamped k []) m = still_granted sent (sent ++ stamped k []) m (silent sent [] k no_orders) h in
    on_cond good m.up (master_bounded m i d choice) (no_step m)
    (λ up. on_cond good (may_end m i d choice.ending) (master_ends m d choice choice.ending) (no_step m)
    (λ _.
    let u : IsUpToLog IsFoundRows IsRowedLog rows_kept m = logged.up up in
    let some : (handle version : ℕ) → 1 ≤ granted_by sent [] handle version → 1 ≤ granted_before sent handle version = λ handle version one. omega (arith, one) in
    let begun : IsGranting sent m.disk (core_of (master_begins (master_at m moment) choice.refused)) =
    record {
      once = λ handle version. let one = h.once handle version in omega (arith, one);
      state = within_fewer (granted_before sent) (granted_by sent []) m.logged some (h.up up);
      disk = within_fewer (granted_before sent) (granted_by sent []) (state_of m.disk) some (h.found []);
      stops = h.found [];
    } in
    let end = goes_named NoneEnded (λ c. IsRowing m.disk c × IsGranting sent m.disk c) (granting_keeps sent m.disk) m moment i choice.refused (no_input i) u.bound u.names u.ready
    (record { none = u.idle; disk = refl; same = u.same; tied = u.tied; stops = logged.found [] }, begun) in
    ends_granted sent k m d choice choice.ending h end.0.0 end.0.1)
    (λ _. same))
    (λ _. same)

-- a master that opens
opening_granting : (sent : List Message) (config : Config) (count : ℕ) (found : LogDisk) (moment : ℕ) → IsGood IsFoundRows IsRowedLog rows_kept found → IsLogWithin sent found
    → ((handle version : ℕ) → grants_of handle version sent ≤ 1)
    → (let d : MasterDoing = opening (started_master config count found moment) in IsRowing found (core_of d) → IsGranting sent found (core_of d))
opening_granting sent config count found moment good within once n =
    let started : MasterState = started_master config count found moment in
    let d : MasterDoing = master_begins started [] in
    let epoch : ℕ = suc started.logged.epoch in
    let some : (handle version : ℕ) → 1 ≤ granted_by sent [] handle version → 1 ≤ granted_before sent handle version = λ handle version one. omega (arith, one) in
    let read : AreWithin (granted_by sent []) (state_of found) = within_fewer (granted_before sent) (granted_by sent []) (state_of found) some within in
    let row : IsRowing found (core_of d) = opening_first IsFoundRows IsRowedLog rows_kept config count found moment good in
    let base : Keeps (Unit {0}) Nothing NoneEnded (IsRowing found) = naming_keeps IsFoundRows IsRowedLog rows_kept found NoneEnded in
    let first : IsGranting sent found (core_of d) =
    record {
      once = λ handle version. let one = once handle version in omega (arith, one);
      state = within_from (granted_by sent []) (state_of found) started.logged (started_from config found moment) (omega arith) read;
      disk = read;
      stops = within;
    } in
    let less : IsGranting sent found (core_of (writes_checkpoint d)) = checkpointed sent found (core_of d) good.0 row first in
    logs_alone (λ e. IsGranting sent found (core_of e)) d (log.Epoch epoch) first (epoch_begun sent found (core_of d) epoch refl first) less
    (epoch_begun sent found (core_of (writes_checkpoint d)) epoch (base.checkpoint (core_of d) (λ _. good.0) row).disk less)

opens_granted : (sent : List Message) (k : ℕ) (old : MasterState) (moment : ℕ) (choice : Choice) (e : Ending) → IsIssued old → IsLogged IsFoundRows IsRowedLog rows_kept old → AreGrants sent old
    → (let started : MasterState = started_master old.config old.server_count (found_log old choice) moment in
    AreGrants (sent ++ stamped k (opens_as old started (opening started) choice e).out.sent) (opens_as old started (opening started) choice e).state)
opens_granted sent k old moment choice Lost issued logged h = down_granted sent k old old.disk old.under_way h h.found
opens_granted sent k old moment choice (Stops made) issued logged h =
    let found : LogDisk = found_log old choice in
    let d : MasterDoing = opening (started_master old.config old.server_count found moment) in
    let n : IsRowing found (core_of d) = (opening_naming IsFoundRows IsRowedLog rows_kept old.config old.server_count found moment (logged.found choice.decided) (issued.found choice.decided)).0 in
    let g : IsGranting sent found (core_of d) = opening_granting sent old.config old.server_count found moment (logged.found choice.decided) (h.found choice.decided) h.once n in
    down_granted sent k old (log_changed_by_all found (take made d.changes)) (take 1 (drop made d.changes)) h (found_stopped (IsLogWithin sent) found d.changes made g.stops)
opens_granted sent k old moment choice Goes issued logged h =
    let found : LogDisk = found_log old choice in
    let started : MasterState = started_master old.config old.server_count found moment in
    let d : MasterDoing = opening started in
    let n : IsRowing found (core_of d) = (opening_naming IsFoundRows IsRowedLog rows_kept old.config old.server_count found moment (logged.found choice.decided) (issued.found choice.decided)).0 in
    let g : IsGranting sent found (core_of d) = opening_granting sent old.config old.server_count found moment (logged.found choice.decided) (h.found choice.decided) h.once n in
    let good : IsLogWithin sent d.master.disk = within_fewer (granted_by sent d.sent) (granted_before sent) (state_of d.master.disk) (fewer_before sent d.sent) g.disk in
    on_cond (λ (t : Taken MasterState). AreGrants (sent ++ stamped k t.out.sent) t.state) (has_opened started d && is_within_limits d.master) _ _
    (λ _. still_granted sent (sent ++ stamped k []) d.master (silent sent [] k no_orders)
    (record {
      once = h.once;
      found = subst (λ (xs : List LogChange). AllFound (IsLogWithin sent) d.master.disk xs) (sym n.none) (found_same (IsLogWithin sent) d.master.disk good);
      up = λ _. within_fewer (granted_by sent d.sent) (granted_before sent) d.master.logged (fewer_before sent d.sent) g.state;
    }))
    (λ _. down_granted sent k old d.master.disk [] h (found_same (IsLogWithin sent) d.master.disk good))

new_grants : (config : Config) (servers : ℕ) → AreGrants [] (new_master config servers)
new_grants config servers = record { once = λ handle version. omega arith; found = λ decided handle version some. absurd (nothing handle version some); up = λ _ handle version some. absurd (nothing handle version some) }
  where
    nothing : (handle version : ℕ) → 1 ≤ granted_before [] handle version → ⊥
    nothing handle version some = let none : 1 ≤ 0 = some in omega (arith, none)

record IsOnceGranted (sent : List Message) (m : MasterState) : Type 0 where
  issued : IsIssued m
  logged : IsLogged IsFoundRows IsRowedLog rows_kept m
  grants : AreGrants sent m

pub versions_are_granted_once : VersionsAreGrantedOnce
versions_are_granted_once config servers clients w r handle version =
    (sent_reached IsOnceGranted
    (record {
      new = λ c n. record { issued = new_issued c n; logged = new_logged IsFoundRows IsRowedLog rows_kept c n; grants = new_grants c n };
      quiet = λ sent ms k m quiet h. record { issued = h.issued; logged = h.logged; grants = still_granted sent (sent ++ stamped k ms) m (silent sent ms k quiet) h.grants };
      steps = λ sent k m moment i choice was h.
          record {
            issued = step_issued m moment i choice h.issued;
            logged = step_logged IsFoundRows IsRowedLog rows_kept m moment i choice h.logged;
            grants = step_granted sent k m moment i choice h.logged h.grants;
          };
      restarts = λ sent k m moment choice h.
          record {
            issued = opens_issued m moment choice choice.ending h.issued;
            logged = opens_logged IsFoundRows IsRowedLog rows_kept m moment choice choice.ending h.issued h.logged;
            grants = opens_granted sent k m moment choice choice.ending h.issued h.logged h.grants;
          };
    })
    config servers clients w r).grants.once handle version
