-- What an ask of a client and a word of a server lead to at the master keeps what each act keeps.
use Rattle.std.proofs.Common.{◌≡◌, ℕ, zero, suc, ◌+◌, ◌≤◌, ◌<◌, arith, Bool, true, false, cond, List, [], ◌∷◌, ◌++◌, length, map, Option, Some, None, refl, sym, subst, inl, inr, ap, is_some, ◌∙◌}
use Rattle.std.specs.Prelude.{nat_le, nat_lt, ◌==◌, ◌&&◌, not, unwrap_or}
use Rattle.std.proofs.lemmas.Bool.{eqb-true, leb-true, leb-false, ltb-true, ltb-false, true≢false, or_left, or_right}
use Rattle.std.proofs.Math.Nat.{le-max_right}
use Rattle.std.specs.FinMap as table
use Rattle.gfs_types.specs.declared.ids.Node.{Node}
use Rattle.gfs_types.specs.declared.ids.OrderNo.{OrderNo}
use Rattle.gfs_types.specs.declared.refusal.Refusal.TheVariants.{TooLong, Collected}
use Rattle.messages.specs.declared.message.Body.TheVariants as body
use Rattle.messages.specs.declared.message.Holder.{Holder}
use Rattle.messages.specs.declared.message.Wanted.{Wanted}
use Rattle.messages.specs.declared.message.Wanted.TheVariants as wanted
use Rattle.messages.specs.declared.message.ReplicaLine.{ReplicaLine}
use Rattle.messages.specs.declared.message.LeaseLine.{LeaseLine}
use Rattle.log_records.specs.declared.record.Record.{Record}
use Rattle.log_records.specs.declared.record.Record.TheVariants as log
use Rattle.protocol.specs.Tables.{Table, removed_all, element_at, rising, has_number, with_number}
use Rattle.protocol.specs.Sending.{the_server, file_id, handle_of, version_of, moment_of, order_number}
use Rattle.protocol.specs.Logged.{Logged, LogDisk, checkpoint_of, after_record, swapped_in}
use Rattle.chunk_table.specs.ChunkTable.{ChunkRow, changed_by, chunk_of, file_of, handles_of, grant, copied_row}
use Rattle.protocol.specs.Master.{MasterDoing, VersionAttempt, PendingSnapshot, HeldAt, tells, orders, ends_at, with_attempt, gives_up_copy, appends, writes_checkpoint, fits, is_of_copy, logs_after_checkpoint, holders_where, current_holders}
use Rattle.leases.specs.LeaseEnds.{has_ended}
use Rattle.protocol.specs.MasterSnapshots.{revokes, waits_for}
use Rattle.protocol.specs.MasterVersions.{Asker, VersionTarget, target_servers, holder_line, group_of, tells_location, tells_holders, tells_none, tells_to_wait, version_order, sends_versions, new_attempt, sends_issued, issues_to, targets_by, recorded_holders, issues_own, is_attempted, copy_order, sends_copies, copy_targets, sends_copy_started, copies_to, begins_copy, copy_for, is_copied, wants_own, wants_own_of, issues_copy, wants_copy, wants_by, wants_primary, holder_target, sends_grant, grants_to, is_complete, with_recorded, learns_attempt, learns}
use Rattle.protocol.specs.MasterAsks.{looks_at_row, looks_at, mutates_row, mutates_at, adds_chunk, with_index, asks_to_write, asks_to_append, asks_for_last, asks_for, asks_of, takes_ask}
use Rattle.protocol.specs.MasterReports.{holds_now, takes_recorded, revoked_row, takes_revoked, is_useless, drops_useless, learns_all, may_extend, extends_row, extends_all, hears, takes_report}
use Rattle.protocol.specs.declared.seen.Seen.TheVariants.{CopyStarted}
use Rattle.laws_base.proofs.Steps.{on_cond, none_some, same_some, put_there, removed_cases}
use Rattle.laws_base.proofs.CopiesUnderWay.{IsUncopied, IsFoundCopy, found_for, none_for, given_up_free, one_copied}
use Rattle.laws_base.proofs.ChunkRows.{Rows, rows_of, changed_from, swapped_from}
use Rattle.laws_base.proofs.VersionsAhead.{IsAhead, ahead_from, issued_is_ahead, grant_ahead}
use Rattle.laws_base.proofs.LeasesEnded.{HasEnded, ended_issued, ended_removed, ended_new, one_ready, grant_ready}
use Rattle.laws_base.proofs.Namespace.{IsNamed, IsAmong}
use Rattle.laws_base.specs.Laws.{times_in}
use Rattle.laws_base.proofs.GrantsOnce.{row_below}
use Rattle.laws_base.proofs.OrderNumbers.{state_of}
use Rattle.laws_base.proofs.LoggedParts.{Parts}
use Rattle.laws_base.proofs.CountsLogged.{fresh, apart_here}
use Rattle.laws_base.proofs.Owners.{chunks_at, times_at_least, placed_stands, references_of}
use Rattle.laws_base.proofs.VersionAttempts.{IsTold, fewer_told, one_told, both_of, AreTargets, holder_targets, holders_servers, targets_servers, copy_servers}
use Rattle.laws_base.proofs.MasterMoves.{Core, core_of, grant_record, Nothing, IsDue, due_later, removed_other, IsPlainOrder, Keeps, IsAfter, record_names, names_later}
use Rattle.laws_base.proofs.Entries.{AllOf, same_number}
use Rattle.laws_base.specs.Given.{version_given}
use Rattle.laws_base.proofs.MasterActs.{Waits, Acts, Base, Waiting, Here, IsFrom, has_one_name, tells_here, orders_here, gives_here, less_here, ends_here, extends_here, checkpoint_here, logs_here, IsRowing, both_false}
use Rattle.laws_base.proofs.Awaited.{Attempts, EachFile, IsUnawaited, unawaited}
use Rattle.laws_base.proofs.AwaitedRecords.{IsUntried, waiting_tried, waiting_granted, tried_unawaited}
use Rattle.laws_base.proofs.ActsOfNames.{revokes_acts}
use Rattle.gfs_types.specs.declared.ids.FileId.{FileId}
use Rattle.gfs_types.specs.declared.ids.Handle.{Handle}
use Rattle.protocol.specs.LogSizes.{checkpoint_fits}

numbered_version : (handle version : ℕ) (base : Option ℕ) (o : OrderNo) → order_number (version_order handle version base o) ≡ Some o
numbered_version handle version None o = refl
numbered_version handle version (Some base) o = refl

numbered_copy : (handle copy version : ℕ) (base : Option ℕ) (o : OrderNo) → order_number (copy_order handle copy version base o) ≡ Some o
numbered_copy handle copy version None o = refl
numbered_copy handle copy version (Some base) o = refl

plain_version : (handle version : ℕ) (base : Option ℕ) (o : OrderNo) → IsPlainOrder (version_order handle version base o)
plain_version handle version None o = tt
plain_version handle version (Some base) o = tt

plain_copy : (handle copy version : ℕ) (base : Option ℕ) (o : OrderNo) → IsPlainOrder (copy_order handle copy version base o)
plain_copy handle copy version None o = tt
plain_copy handle copy version (Some base) o = tt

given_version : (handle version : ℕ) (base : Option ℕ) (o : OrderNo) → version_given (version_order handle version base o) ≡ Some (handle, version)
given_version handle version None o = refl
given_version handle version (Some base) o = refl

given_copy : (handle copy version : ℕ) (base : Option ℕ) (o : OrderNo) → version_given (copy_order handle copy version base o) ≡ Some (copy, version)
given_copy handle copy version None o = refl
given_copy handle copy version (Some base) o = refl

-- these are servers of the attempt
abbrev AreServersOf : VersionAttempt → List VersionTarget → Type 0
AreServersOf a targets = AllOf (λ t. has_number a.servers t.server ≡ true) targets

targets_in : (ns : List ℕ) (targets : List VersionTarget) → ((n : ℕ) → has_number (target_servers targets) n ≡ true → has_number ns n ≡ true) → AllOf (λ t. has_number ns t.server ≡ true) targets
targets_in ns [] f = tt
targets_in ns (t ∷ rest) f = (
  f t.server (or_left (t.server == t.server) (has_number (target_servers rest) t.server) (same_number t.server)),
  targets_in ns rest (λ n h. f n (or_right (t.server == n) (has_number (target_servers rest) n) h)),
)

servers_in : (targets : List VersionTarget) → AllOf (λ t. has_number (target_servers targets) t.server ≡ true) targets
servers_in targets = targets_in (target_servers targets) targets (λ n h. h)

-- the file that is asked for is there
abbrev pub IsThere : MasterDoing → Asker → Type 0
IsThere d a = table.contains_key d.master.logged.table.files a.file ≡ true

-- the handle stands at the place that is asked for
abbrev pub IsPlaced : MasterDoing → Asker → ℕ → Type 0
IsPlaced d a handle = IsThere d a × (element_at (handles_of d.master.logged.table a.file) a.index ≡ Some handle)

last_element : (xs : List ℕ) (x : ℕ) → element_at (xs ++ x ∷ []) (length xs) ≡ Some x
last_element [] x = refl
last_element (y ∷ ys) x = last_element ys x

added_placed : (d : MasterDoing) (a : Asker) (handle : ℕ) (e : MasterDoing) → a.index ≡ length (handles_of d.master.logged.table a.file) → IsAfter d (log.AddChunk (file_id a.file) (handle_of handle)) e → IsPlaced e a handle
added_placed d a handle e last after = by_case after
  where
    files : Table (List ℕ)
    files = d.master.logged.table.files

    hs : List ℕ
    hs = handles_of d.master.logged.table a.file

    there : table.get (table.insert files a.file (hs ++ handle ∷ [])) a.file ≡ Some (hs ++ handle ∷ [])
    there = put_there files a.file (hs ++ handle ∷ []) a.file refl

    placed : (table.contains_key (table.insert files a.file (hs ++ handle ∷ [])) a.file ≡ true) × (element_at (unwrap_or (table.get (table.insert files a.file (hs ++ handle ∷ [])) a.file) []) a.index ≡ Some handle)
    placed = (ap is_some there, ap (λ (o : Option (List ℕ)). element_at (unwrap_or o []) a.index) there ∙ ap (λ (n : ℕ). element_at (hs ++ handle ∷ []) n) last ∙ last_element hs handle)

    by_case : IsAfter d (log.AddChunk (file_id a.file) (handle_of handle)) e → IsPlaced e a handle
    by_case (inl same) = subst (λ (x : MasterDoing). IsPlaced x a handle) (sym same) placed
    by_case (inr same) = subst (λ (x : MasterDoing). IsPlaced x a handle) (sym same) placed

-- nothing is asked of words
nothing_told : (handle : ℕ) (a : VersionAttempt) → IsTold Nothing handle a
nothing_told handle a = record { servers = λ n there. inr (λ h v. tt); recorded = λ n there. tt }

-- an element of the file's handles is placed
placed_at : (d : MasterDoing) (a : Asker) (handles : List ℕ) → file_of d.master.logged.table a.file ≡ Some handles → (handle : ℕ) → element_at handles a.index ≡ Some handle → IsPlaced d a handle
placed_at d a handles is handle at = (ap is_some is, ap (λ (o : Option (List ℕ)). element_at (unwrap_or o []) a.index) is ∙ at)

module _ (start : LogDisk) (Ended : ℕ → ℕ → Type 0) (P : Core → Type 0) (keeps : Keeps (Unit {0}) Nothing Ended P) (rowing : (c : Core) → P c → IsRowing start c) (Q : Core → Attempts → Waits → Type 0) (acts : Acts start Ended P Q) where
  -- what holds of a step so far
  abbrev Now : MasterDoing → Type 0
  Now d = Here start Ended P keeps rowing Q acts d

  -- where leases are asked for, the chunk's last one has ended
  abbrev IsIdle : MasterDoing → ℕ → Type 0
  IsIdle d handle = Unit {0} → HasEnded d.master.now (rows_of d.master.logged) handle

  -- where versions are asked for, this one is above what was granted of the chunk, whose last lease has ended
  abbrev pub IsReady : MasterDoing → ℕ → ℕ → Type 0
  IsReady d handle version = IsAhead (rows_of d.master.logged) handle version × HasEnded d.master.now (rows_of d.master.logged) handle

  abbrev IsAbove : MasterDoing → ℕ → ℕ → Type 0
  IsAbove d handle version = Unit {0} → IsReady d handle version

  location_acts : (d : MasterDoing) (a : Asker) (handle : ℕ) (row : ChunkRow) (holders : List Holder) → Now d → Now (tells_location d a handle row holders)
  location_acts d a handle row holders h =
      tells_here start Ended P keeps rowing Q acts d a.client (body.Told a.number (Some (record { index = a.index; handle = handle_of handle; round = version_of row.granted; shape = row.shape; holders = holders; group = group_of d.master row }))) refl h

  holders_acts : (d : MasterDoing) (a : Asker) (handle : ℕ) (row : ChunkRow) → Now d → Now (tells_holders d a handle row)
  holders_acts d a handle row h = location_acts d a handle row (map holder_line (current_holders d.master handle row)) h

  none_acts : (d : MasterDoing) (a : Asker) → Now d → Now (tells_none d a)
  none_acts d a h = tells_here start Ended P keeps rowing Q acts d a.client (body.Told a.number None) refl h

  wait_acts : (d : MasterDoing) (a : Asker) → Now d → Now (tells_to_wait d a)
  wait_acts d a h = tells_here start Ended P keeps rowing Q acts d a.client (body.Wait a.number) refl h

  versions_acts : (d : MasterDoing) (handle version : ℕ) (a : VersionAttempt) (targets : List VersionTarget) → table.get d.master.attempts handle ≡ Some a → a.version ≡ version → AreServersOf a targets → Now d
      → Now (sends_versions d handle version targets)
  versions_acts d handle version a [] at same in_it h = h
  versions_acts d handle version a (t ∷ rest) at same in_it h =
      versions_acts (orders d t.server (version_order handle version t.base)) handle version a rest at same in_it.1
      (gives_here start Ended P keeps rowing Q acts d t.server handle a (version_order handle version t.base) at in_it.0 (numbered_version handle version t.base) (plain_version handle version t.base)
      (λ o. given_version handle version t.base o ∙ ap (λ (v : ℕ). Some (handle, v)) (sym same)) h)

  -- a new attempt, which nobody recorded yet
  attempt_base : (d : MasterDoing) (handle : ℕ) (a : VersionAttempt) → IsAbove d handle a.version → Base start Ended P keeps rowing Q acts d → Base start Ended P keeps rowing Q acts (with_attempt d handle a)
  attempt_base d handle a above h = (
    h.0,
    one_told Nothing d.master.attempts handle a (nothing_told handle a) h.1,
    h.2,
    λ asks. one_ready d.master.now d.master.attempts handle a d.master.logged (above asks).0 (above asks).1 (h.3 asks),
  )

  -- of the number that was just logged
  abbrev issue_record : ℕ → ℕ → Record
  issue_record handle version = log.Issue (handle_of handle) (version_of version)

  -- a handle that stands in a file was used
  handle_used : (d : MasterDoing) → Base start Ended P keeps rowing Q acts d → (q : ℕ) → 1 ≤ times_in d.master.logged.table.files q → q < d.master.logged.next_handle
  handle_used d h q more =
      let n = rowing (core_of d) h.0 in
      let low = n.tied.base.log.below q (let same = ap (λ (f : Table (List ℕ)). times_in f q) n.tied.base.base.files in omega (arith, same, more)) in
      let next = ap (λ (p : Parts). p.next_handle) n.same in
      omega (arith, low, next)

  -- what stands in no file is awaited by no snapshot
  nowhere_unawaited : (d : MasterDoing) (q : ℕ) → times_in d.master.logged.table.files q ≡ 0 → IsUnawaited d.master.logged d.master.snapshots q
  nowhere_unawaited d q none s among x id at is some = let low = times_at_least d.master.logged.table.files id q in omega (arith, low, none, some)

  -- of a handle, that no snapshot waits for it and that it has one owner at most
  abbrev IsAlone : MasterDoing → ℕ → Type 0
  IsAlone d handle = IsUnawaited d.master.logged d.master.snapshots handle × (times_in d.master.logged.table.files handle ≤ 1)

  tried_waits : (d : MasterDoing) (handle : ℕ) (a : VersionAttempt) → handle < d.master.logged.next_handle → IsUnawaited d.master.logged d.master.snapshots handle → Now d → Waiting start Ended P keeps rowing Q acts (with_attempt d handle a)
  tried_waits d handle a used none h = waiting_tried d.master.logged d.master.attempts d.master.snapshots d.master.now (h.0.2 tt) (has_one_name start Ended P keeps rowing Q acts d h.0) h.1 handle a used none

  attempt_acts : (d : MasterDoing) (handle version : ℕ) (targets : List VersionTarget) → IsFrom start Ended P keeps rowing Q acts (issue_record handle version) d → IsAbove d handle version → Now d
      → Now (with_attempt d handle (new_attempt d.master version targets))
  attempt_acts d handle version targets from above h =
      let b : MasterDoing = from.before in
      let tried : MasterDoing → Attempts = λ e. table.insert e.master.attempts handle (new_attempt e.master version targets) in
      let n = rowing (core_of b) from.here.0.0 in
      let used : handle < b.master.logged.next_handle = row_below b.master.logged (state_of b.master.disk) n.same n.tied handle from.due.0 from.due.1 in (
        attempt_base d handle (new_attempt d.master version targets) above h.0,
        tried_waits d handle (new_attempt d.master version targets) (subst (λ (e : MasterDoing). handle < e.master.logged.next_handle) (sym from.is) used)
            (subst (λ (e : MasterDoing). IsUnawaited e.master.logged e.master.snapshots handle) (sym from.is) from.beside.0) h,
        subst (λ (e : MasterDoing). Q (core_of e) e.master.attempts e.master.snapshots → Q (core_of e) (tried e) e.master.snapshots) (sym from.is)
            (acts.issues (core_of b) b.master.attempts b.master.snapshots handle from.due.0 (new_attempt (appends b (issue_record handle version)).master version targets) from.due.1 from.due.2 from.beside.1 from.here.0.0 from.here.2) h.2,
      )

  copy_acts : (d : MasterDoing) (file : FileId) (index : ℕ) (source : Handle) (copy version : ℕ) (targets : List VersionTarget) → IsFrom start Ended P keeps rowing Q acts (log.CopyStart file index source (handle_of copy) (version_of version)) d
      → IsAbove d copy version → Now d → Now (with_attempt d copy (new_attempt d.master version targets))
  copy_acts d file index source copy version targets from above h =
      let b : MasterDoing = from.before in
      let tried : MasterDoing → Attempts = λ e. table.insert e.master.attempts copy (new_attempt e.master version targets) in
      let next : copy ≡ b.master.logged.next_handle = from.due.0 in
      let nowhere : times_in b.master.logged.table.files copy ≡ 0 = fresh (times_in b.master.logged.table.files copy) b.master.logged.next_handle copy (handle_used b from.here.0 copy) next in
      let grown = le-max_right b.master.logged.next_handle (copy + 1) in (
        attempt_base d copy (new_attempt d.master version targets) above h.0,
        tried_waits d copy (new_attempt d.master version targets) (subst (λ (e : MasterDoing). copy < e.master.logged.next_handle) (sym from.is) (omega (arith, grown)))
            (subst (λ (e : MasterDoing). IsUnawaited e.master.logged e.master.snapshots copy) (sym from.is) (nowhere_unawaited b copy nowhere)) h,
        subst (λ (e : MasterDoing). Q (core_of e) e.master.attempts e.master.snapshots → Q (core_of e) (tried e) e.master.snapshots) (sym from.is)
            (acts.copies (core_of b) b.master.attempts b.master.snapshots file index source copy (new_attempt (appends b (log.CopyStart file index source (handle_of copy) (version_of version))).master version targets) next from.here.0.0 from.here.2) h.2,
      )

  issued_acts : (a : Asker) (handle version : ℕ) (targets : List VersionTarget) (d : MasterDoing) → IsFrom start Ended P keeps rowing Q acts (issue_record handle version) d → IsAbove d handle version → Now d
      → Now (sends_issued d a handle version targets)
  issued_acts a handle version targets d from above h =
      let tried : MasterDoing = with_attempt d handle (new_attempt d.master version targets) in
      wait_acts (sends_versions tried handle version targets) a (versions_acts tried handle version (new_attempt d.master version targets) targets (put_there d.master.attempts handle (new_attempt d.master version targets) handle refl) refl (servers_in targets) (attempt_acts d handle version targets from above h))

  -- as a lookup tells
  untried : (attempts : Attempts) (handle : ℕ) → table.contains_key attempts handle ≡ false → IsUntried attempts handle
  untried attempts handle none a at = true≢false (sym (ap is_some at) ∙ none)

  -- the next number is above what was granted, once it is logged
  next_above : (d : MasterDoing) (handle : ℕ) (row : ChunkRow) → chunk_of d.master.logged.table handle ≡ Some row → IsIdle d handle → Now d → (e : MasterDoing)
      → IsAfter d (log.Issue (handle_of handle) (version_of (suc row.issued))) e → IsAbove e handle (suc row.issued)
  next_above d handle row is idle h e after asks = by_case after
    where
      low : (old : ChunkRow) → table.get (rows_of d.master.logged) handle ≡ Some old → old.granted < suc row.issued
      low old at = let same = ap (λ (x : ChunkRow). x.granted) (same_some old row (sym at ∙ is)) in let bound = ((h.0.3 asks).ahead).issued handle row is in omega (arith, same, bound)

      by_case : IsAfter d (log.Issue (handle_of handle) (version_of (suc row.issued))) e → IsReady e handle (suc row.issued)
      by_case (inl same) =
          subst (λ (x : MasterDoing). IsReady x handle (suc row.issued)) (sym same)
          (issued_is_ahead (rows_of d.master.logged) handle (suc row.issued) low (omega arith), ended_issued d.master.now (rows_of d.master.logged) handle (suc row.issued) handle (idle asks))
      by_case (inr same) =
          let left : Rows = removed_all (rows_of d.master.logged) (table.keys d.master.logged.copies) in
          subst (λ (x : MasterDoing). IsReady x handle (suc row.issued)) (sym same) (
            issued_is_ahead left handle (suc row.issued) (λ old at. low old (removed_cases (rows_of d.master.logged) (table.keys d.master.logged.copies) handle old at)) (omega arith),
            ended_issued d.master.now left handle (suc row.issued) handle (ended_removed d.master.now (rows_of d.master.logged) (table.keys d.master.logged.copies) handle (idle asks)),
          )

  issues_acts : (d : MasterDoing) (a : Asker) (own : ℕ) (own_row : ChunkRow) (handle : ℕ) (row : ChunkRow) (targets : List VersionTarget)
      → chunk_of d.master.logged.table handle ≡ Some row → IsIdle d handle → IsAlone d handle → IsUntried d.master.attempts handle → AreTargets targets → Now d → Now (issues_to d a own own_row handle row targets)
  issues_acts d a own own_row handle row [] is idle alone free servers h = location_acts d a own own_row [] h
  issues_acts d a own own_row handle row (t ∷ rest) is idle alone free servers h =
      logs_here start Ended P keeps rowing Q acts d (log.Issue (handle_of handle) (version_of (suc row.issued))) (λ e. sends_issued e a handle (suc row.issued) (t ∷ rest)) (row, is, refl) tt (λ asks. record { due = tt; after = h.0.2 asks }) (alone.0, alone.1, idle tt, free)
      (λ e after from. issued_acts a handle (suc row.issued) (t ∷ rest) e from (next_above d handle row is idle h e after)) h

  own_acts : (d : MasterDoing) (a : Asker) (handle : ℕ) (row : ChunkRow) (b : Bool) → is_attempted d.master handle ≡ b → chunk_of d.master.logged.table handle ≡ Some row → IsIdle d handle → IsAlone d handle → Now d → Now (issues_own d a handle row b)
  own_acts d a handle row true tried is idle alone h = wait_acts d a h
  own_acts d a handle row false tried is idle alone h = issues_acts d a handle row handle row (targets_by d.master handle row (recorded_holders d.master handle row)) is idle alone (untried d.master.attempts handle tried) (targets_servers d.master handle row) h

  sends_copies_acts : (d : MasterDoing) (handle copy version : ℕ) (a : VersionAttempt) (targets : List VersionTarget) → table.get d.master.attempts copy ≡ Some a → a.version ≡ version → AreServersOf a targets → Now d
      → Now (sends_copies d handle copy version targets)
  sends_copies_acts d handle copy version a [] at same in_it h = h
  sends_copies_acts d handle copy version a (t ∷ rest) at same in_it h =
      sends_copies_acts (orders d t.server (copy_order handle copy version t.base)) handle copy version a rest at same in_it.1
      (gives_here start Ended P keeps rowing Q acts d t.server copy a (copy_order handle copy version t.base) at in_it.0 (numbered_copy handle copy version t.base) (plain_copy handle copy version t.base)
      (λ o. given_copy handle copy version t.base o ∙ ap (λ (v : ℕ). Some (copy, v)) (sym same)) h)

  started_acts : (a : Asker) (file : FileId) (index handle copy version : ℕ) (targets : List VersionTarget) (d : MasterDoing) → IsFrom start Ended P keeps rowing Q acts (log.CopyStart file index (handle_of handle) (handle_of copy) (version_of version)) d
      → IsAbove d copy version → Now d → Now (sends_copy_started d a handle copy version targets)
  started_acts a file index handle copy version targets d from above h =
      let seen : MasterDoing = record d { seen = d.seen ++ CopyStarted (handle_of handle) (handle_of copy) ∷ [] } in
      let tried : MasterDoing = with_attempt seen copy (new_attempt d.master version targets) in
      wait_acts (sends_copies tried handle copy version targets) a (sends_copies_acts tried handle copy version (new_attempt d.master version targets) targets (put_there d.master.attempts copy (new_attempt d.master version targets) copy refl) refl (servers_in targets) (copy_acts d file index (handle_of handle) copy version targets from above h))

  -- of a copy that is begun nothing was granted
  copy_above : (d : MasterDoing) (r : Record) (copy version : ℕ) (new : Logged → ChunkRow) → ((l : Logged) → (new l).granted ≡ 0) → ((l : Logged) → (new l).lease_end ≡ 0) → ((l : Logged) → rows_of (after_record l r) ≡ table.insert (rows_of l) copy (new l)) → 1 ≤ version → (e : MasterDoing)
      → IsAfter d r e → IsAbove e copy version
  copy_above d r copy version new none end put one e after asks = by_case after
    where
      ended : (now : ℕ) (l : Logged) → HasEnded now (rows_of (after_record l r)) copy
      ended now l = subst (λ (rows : Rows). HasEnded now rows copy) (sym (put l)) (ended_new now (rows_of l) copy (new l) (end l))

      at : (l : Logged) → IsAhead (rows_of (after_record l r)) copy version
      at l = (
        one,
        λ row there.
            let same = ap (λ (x : ChunkRow). x.granted) (same_some (new l) row (sym (put_there (rows_of l) copy (new l) copy refl) ∙ ap (λ (rows : Rows). table.get rows copy) (sym (put l)) ∙ there)) in
            let zero = none l in omega (arith, same, zero, one),
      )

      by_case : IsAfter d r e → IsReady e copy version
      by_case (inl same) = subst (λ (x : MasterDoing). IsReady x copy version) (sym same) (at d.master.logged, ended d.master.now d.master.logged)
      by_case (inr same) = subst (λ (x : MasterDoing). IsReady x copy version) (sym same) (at (writes_checkpoint d).master.logged, ended d.master.now (writes_checkpoint d).master.logged)

  -- where copies are asked for, none is under way for the place
  abbrev pub IsFree : MasterDoing → Asker → Type 0
  IsFree d a = Unit {0} → IsUncopied d.master.logged a.file a.index

  abbrev IsUnawaitedHere : MasterDoing → ℕ → Type 0
  IsUnawaitedHere d handle = IsUnawaited d.master.logged d.master.snapshots handle

  -- a file whose chunk no snapshot waits for is none that one copies
  file_unawaited : (d : MasterDoing) (a : Asker) (handle : ℕ) → IsPlaced d a handle → IsUnawaitedHere d handle → (s : PendingSnapshot) → IsAmong d.master.snapshots s → EachFile d.master.logged.names s.from (λ id. id ≡ a.file → ⊥)
  file_unawaited d a handle there none s among x id at is same =
      none s among x id at is
      (placed_stands (chunks_at d.master.logged.table.files id) a.index handle (ap (λ (n : ℕ). element_at (chunks_at d.master.logged.table.files n) a.index) same ∙ there.1))

  copies_to_acts : (d : MasterDoing) (a : Asker) (handle : ℕ) (row : ChunkRow) (targets : List VersionTarget) → AreTargets targets → IsPlaced d a handle → IsFree d a → IsUnawaitedHere d handle → Now d
      → Now (copies_to d a handle row targets)
  copies_to_acts d a handle row [] servers there free none h = location_acts d a handle row [] h
  copies_to_acts d a handle row (t ∷ rest) servers there free none h =
      let copy : ℕ = d.master.logged.next_handle in
      let r : Record = log.CopyStart (file_id a.file) a.index (handle_of handle) (handle_of copy) (version_of (suc row.issued)) in
      logs_here start Ended P keeps rowing Q acts d r (λ e. sends_copy_started e a handle copy (suc row.issued) (t ∷ rest)) (refl, there.0, there.1, free) tt (λ asks. record { due = tt; after = h.0.2 asks }) (file_unawaited d a handle there none)
      (λ e after from. started_acts a (file_id a.file) a.index handle copy (suc row.issued) (t ∷ rest) e from (copy_above d r copy (suc row.issued) (λ l. copied_row l.table handle (suc row.issued)) (λ l. refl) (λ l. refl) (λ l. refl) (omega arith) e after)) h

  wants_own_acts : (d : MasterDoing) (a : Asker) (handle : ℕ) (row : ChunkRow) → chunk_of d.master.logged.table handle ≡ Some row → IsIdle d handle → IsPlaced d a handle → IsFree d a → IsUnawaitedHere d handle → Now d
      → Now (wants_own d a handle row)
  wants_own_acts d a handle row is idle there free none h =
      on_cond Now (nat_lt 1 row.references) (begins_copy d a handle row) _ (λ _. copies_to_acts d a handle row (copy_targets d.master handle row) (copy_servers d.master handle row) there free none h)
      (λ few. on_cond Now (is_copied d.master.logged handle) (tells_to_wait d a) (issues_own d a handle row (is_attempted d.master handle)) (λ _. wait_acts d a h)
      (λ _. own_acts d a handle row (is_attempted d.master handle) refl is idle (none, one_owner few) h))
    where
      one_owner : nat_lt 1 row.references ≡ false → times_in d.master.logged.table.files handle ≤ 1
      one_owner few =
          let low = ltb-false 1 row.references few in
          let counted = (rowing (core_of d) h.0.0).tied.base.counted handle in
          let here = ap references_of is in
          omega (arith, low, counted, here)

  wants_own_of_acts : (d : MasterDoing) (a : Asker) (handle : ℕ) (o : Option ChunkRow) → chunk_of d.master.logged.table handle ≡ o → IsIdle d handle → IsPlaced d a handle → IsFree d a → IsUnawaitedHere d handle → Now d
      → Now (wants_own_of d a handle o)
  wants_own_of_acts d a handle None is idle there free none h = h
  wants_own_of_acts d a handle (Some row) is idle there free none h = wants_own_acts d a handle row is idle there free none h

  issues_copy_acts : (d : MasterDoing) (a : Asker) (handle : ℕ) (row : ChunkRow) (copy : ℕ) (copy_row : ChunkRow) (holders : List HeldAt)
      → chunk_of d.master.logged.table copy ≡ Some copy_row → IsIdle d handle → IsIdle d copy → IsUntried d.master.attempts copy → AreTargets (map holder_target holders) → IsPlaced d a handle → IsFoundCopy d.master.logged a.file a.index copy → IsUnawaitedHere d handle → Now d → Now (issues_copy d a handle row copy copy_row holders)
  issues_copy_acts d a handle row copy copy_row [] is idle copy_idle free servers there found none h =
      let given_up : MasterDoing = gives_up_copy d copy in
      wants_own_of_acts given_up a handle (chunk_of given_up.master.logged.table handle) refl (λ asks. ended_removed d.master.now (rows_of d.master.logged) (copy ∷ []) handle (idle asks)) there (λ asks. given_up_free d.master.logged a.file a.index copy found (keeps.sound asks (core_of d) h.0.0)) none
      (less_here start Ended P keeps rowing Q acts d (copy ∷ []) (one_copied d.master.logged a.file a.index copy found) h)
  issues_copy_acts d a handle row copy copy_row (t ∷ rest) is idle copy_idle free servers there found none h =
      let n = rowing (core_of d) h.0.0 in
      let nowhere : times_in d.master.logged.table.files copy ≡ 0 = apart_here d.master.logged (state_of d.master.disk) n.tied.base copy found.copy found.at in
      issues_acts d a handle row copy copy_row (map holder_target (t ∷ rest)) is copy_idle (nowhere_unawaited d copy nowhere, omega (arith, nowhere)) free servers h

  wants_copy_acts : (d : MasterDoing) (a : Asker) (handle : ℕ) (row : ChunkRow) (copy : ℕ) (o : Option ChunkRow)
      → chunk_of d.master.logged.table handle ≡ Some row → chunk_of d.master.logged.table copy ≡ o → IsIdle d handle → IsPlaced d a handle → IsFoundCopy d.master.logged a.file a.index copy → IsUnawaitedHere d handle → Now d → Now (wants_copy d a handle row copy o)
  wants_copy_acts d a handle row copy None is copy_is idle there found none h =
      wants_own_acts d a handle row is idle there (λ asks. let has = (keeps.sound asks (core_of d) h.0.0).rows copy found.copy found.at in none_some has.0 (sym copy_is ∙ has.1)) none h
  wants_copy_acts d a handle row copy (Some copy_row) is copy_is idle there found none h =
      on_cond (Now) (is_attempted d.master copy) (tells_to_wait d a) (issues_copy d a handle row copy copy_row (holders_where d.master copy (λ v. v == copy_row.issued))) (λ _. wait_acts d a h)
      (λ none_tried. let holders : List HeldAt = holders_where d.master copy (λ v. v == copy_row.issued) in
      issues_copy_acts d a handle row copy copy_row holders copy_is idle (λ asks. (h.0.3 asks).copied copy found.copy found.at) (untried d.master.attempts copy none_tried) (holder_targets holders (holders_servers d.master copy (λ v. v == copy_row.issued))) there found none h)

  wants_by_acts : (d : MasterDoing) (a : Asker) (handle : ℕ) (row : ChunkRow) (o : Option ℕ) → chunk_of d.master.logged.table handle ≡ Some row → copy_for d.master.logged a.file a.index ≡ o → IsIdle d handle → IsPlaced d a handle
      → IsUnawaitedHere d handle → Now d → Now (wants_by d a handle row o)
  wants_by_acts d a handle row None is for_it idle there none h = wants_own_acts d a handle row is idle there (λ asks. none_for d.master.logged a.file a.index for_it) none h
  wants_by_acts d a handle row (Some copy) is for_it idle there none h = wants_copy_acts d a handle row copy (chunk_of d.master.logged.table copy) is refl idle there (found_for d.master.logged a.file a.index copy for_it) none h

  wants_primary_acts : (d : MasterDoing) (a : Asker) (handle : ℕ) (row : ChunkRow) → chunk_of d.master.logged.table handle ≡ Some row → IsIdle d handle → IsPlaced d a handle → Now d → Now (wants_primary d a handle row)
  wants_primary_acts d a handle row is idle there h =
      on_cond (Now) (waits_for d.master handle) (tells_to_wait d a) (wants_by d a handle row (copy_for d.master.logged a.file a.index)) (λ _. wait_acts d a h)
      (λ free. wants_by_acts d a handle row (copy_for d.master.logged a.file a.index) is refl idle there (unawaited d.master handle free) h)

  mutates_row_acts : (d : MasterDoing) (a : Asker) (lost : Bool) (handle : ℕ) (o : Option ChunkRow) → chunk_of d.master.logged.table handle ≡ o → IsPlaced d a handle → Now d → Now (mutates_row d a lost handle o)
  mutates_row_acts d a lost handle None is there h = h
  mutates_row_acts d a lost handle (Some row) is there h =
      on_cond (Now) (has_ended row d.master.now) (wants_primary d a handle row) (tells_holders (cond lost (revokes d handle) d) a handle row)
      (λ ended. wants_primary_acts d a handle row is (λ asks other at. subst (λ (x : ChunkRow). x.lease_end ≤ d.master.now) (same_some row other (sym is ∙ at)) (leb-true row.lease_end d.master.now ended)) there h)
      (λ _. holders_acts (cond lost (revokes d handle) d) a handle row (on_cond (Now) lost (revokes d handle) d (λ _. revokes_acts start Ended P keeps rowing Q acts d handle h) (λ _. h)))

  mutates_at_acts : (d : MasterDoing) (a : Asker) (lost : Bool) (o : Option ℕ) → ((handle : ℕ) → o ≡ Some handle → IsPlaced d a handle) → Now d → Now (mutates_at d a lost o)
  mutates_at_acts d a lost None there h = h
  mutates_at_acts d a lost (Some handle) there h = mutates_row_acts d a lost handle (chunk_of d.master.logged.table handle) refl (there handle refl) h

  adds_acts : (d : MasterDoing) (a : Asker) (lost : Bool) → IsThere d a → a.index ≡ length (handles_of d.master.logged.table a.file) → Now d → Now (adds_chunk d a lost)
  adds_acts d a lost there last h =
      let handle : ℕ = d.master.logged.next_handle in
      logs_here start Ended P keeps rowing Q acts d (log.AddChunk (file_id a.file) (handle_of handle)) (λ e. mutates_at e a lost (Some handle)) (refl, there) tt (λ asks. record { due = tt; after = h.0.2 asks }) tt
      (λ e after from. mutates_at_acts e a lost (Some handle) (λ other same. subst (λ (n : ℕ). IsPlaced e a n) (same_some handle other same) (added_placed d a handle e last after))) h

  looks_row_acts : (d : MasterDoing) (a : Asker) (handle : ℕ) (o : Option ChunkRow) → Now d → Now (looks_at_row d a handle o)
  looks_row_acts d a handle None h = h
  looks_row_acts d a handle (Some row) h = holders_acts d a handle row h

  looks_acts : (d : MasterDoing) (a : Asker) (o : Option ℕ) → Now d → Now (looks_at d a o)
  looks_acts d a None h = none_acts d a h
  looks_acts d a (Some handle) h = looks_row_acts d a handle (chunk_of d.master.logged.table handle) h

  write_acts : (d : MasterDoing) (a : Asker) (lost : Bool) (handles : List ℕ) (index : ℕ) → file_of d.master.logged.table a.file ≡ Some handles → Now d → Now (asks_to_write d a lost handles index)
  write_acts d a lost handles index is h =
      on_cond (Now) (nat_lt (length handles) index) (tells d a.client (body.Refused a.number TooLong)) _ (λ _. tells_here start Ended P keeps rowing Q acts d a.client (body.Refused a.number TooLong) refl h)
      (λ _. on_cond (Now) (index == length handles) (adds_chunk d (with_index a index) lost) (mutates_at d (with_index a index) lost (element_at handles index))
      (λ last. adds_acts d (with_index a index) lost (ap is_some is) (eqb-true index (length handles) last ∙ sym (ap (λ (o : Option (List ℕ)). length (unwrap_or o [])) is)) h)
      (λ _. mutates_at_acts d (with_index a index) lost (element_at handles index) (placed_at d (with_index a index) handles is) h))

  append_acts : (d : MasterDoing) (a : Asker) (lost : Bool) (handles : List ℕ) (after count : ℕ) → file_of d.master.logged.table a.file ≡ Some handles → count ≡ length handles → Now d
      → Now (asks_to_append d a lost handles after count)
  append_acts d a lost handles after zero is all h = adds_acts d (with_index a 0) lost (ap is_some is) (all ∙ sym (ap (λ (o : Option (List ℕ)). length (unwrap_or o [])) is)) h
  append_acts d a lost handles after (suc last) is all h =
      on_cond (Now) (nat_lt last after) (adds_chunk d (with_index a (suc last)) lost) (mutates_at d (with_index a last) lost (element_at handles last))
      (λ _. adds_acts d (with_index a (suc last)) lost (ap is_some is) (all ∙ sym (ap (λ (o : Option (List ℕ)). length (unwrap_or o [])) is)) h)
      (λ _. mutates_at_acts d (with_index a last) lost (element_at handles last) (placed_at d (with_index a last) handles is) h)

  last_acts : (d : MasterDoing) (a : Asker) (handles : List ℕ) (count : ℕ) → Now d → Now (asks_for_last d a handles count)
  last_acts d a handles zero h = none_acts d a h
  last_acts d a handles (suc last) h = looks_acts d (with_index a last) (element_at handles last) h

  asks_for_acts : (d : MasterDoing) (a : Asker) (lost : Bool) (w : Wanted) (handles : List ℕ) → file_of d.master.logged.table a.file ≡ Some handles → Now d → Now (asks_for d a lost w handles)
  asks_for_acts d a lost (wanted.Read index) handles is h = looks_acts d (with_index a index) (element_at handles index) h
  asks_for_acts d a lost (wanted.Write index) handles is h = write_acts d a lost handles index is h
  asks_for_acts d a lost (wanted.Append after) handles is h = append_acts d a lost handles after (length handles) is refl h
  asks_for_acts d a lost wanted.Last handles is h = last_acts d a handles (length handles) h

  asks_of_acts : (d : MasterDoing) (a : Asker) (lost : Bool) (w : Wanted) (o : Option (List ℕ)) → file_of d.master.logged.table a.file ≡ o → Now d → Now (asks_of d a lost w o)
  asks_of_acts d a lost w None is h = tells_here start Ended P keeps rowing Q acts d a.client (body.Refused a.number Collected) refl h
  asks_of_acts d a lost w (Some handles) is h = asks_for_acts d a lost w handles is h

  pub ask_acts : (d : MasterDoing) (client : Node) (number file : ℕ) (w : Wanted) (deadline : ℕ) (lost : Bool) → Now d → Now (takes_ask d client number file w deadline lost)
  ask_acts d client number file w deadline lost h =
      let a : Asker = record { client = client; number = number; file = file; index = 0 } in
      on_cond (Now) (nat_le deadline d.master.now) d (asks_of d a lost w (file_of d.master.logged.table file)) (λ _. h)
      (λ _. asks_of_acts d a lost w (file_of d.master.logged.table file) refl h)

  -- grants

  grant_acts : (d : MasterDoing) (handle : ℕ) (a : VersionAttempt) (primary : ℕ) (members : List ℕ) → table.get d.master.attempts handle ≡ Some a → rising a.servers ≡ members → IsDue (Unit {0}) d.master.logged (grant_record handle a.version primary members)
      → IsIdle d handle → Now d → Now (sends_grant (appends d (grant_record handle a.version primary members)) handle a.version primary members)
  grant_acts d handle a primary members at all_of due idle h =
      let version : ℕ = a.version in
      let until : ℕ = d.master.now + d.master.config.lease_ms in
      let r : Record = grant_record handle version primary members in
      let l : Logged = d.master.logged in
      let one : Logged = record l { table = grant l.table handle version primary members } in
      let two : Logged = swapped_in one handle (table.get l.copies handle) in
      let left : Table VersionAttempt = table.remove d.master.attempts handle in
      let named : Unit {0} → IsNamed l.names l.next_file r d.master.snapshots = λ asks. record { due = tt; after = h.0.2 asks } in
      let base : Base start Ended P keeps rowing Q acts (sends_grant (appends d r) handle version primary members) = (
        keeps.grants (core_of d) handle version until primary members (λ n there. tt) due (record_names (Unit {0}) Nothing Ended P keeps d r named h.0.2) refl idle h.0.0,
        fewer_told Nothing d.master.attempts (handle ∷ []) h.0.1,
        names_later (Unit {0}) Nothing Ended P keeps d r named,
        λ asks. grant_ready d.master.now d.master.attempts l handle version until primary members (ahead_from left (rows_of two) (changed_by (rows_of two) handle (λ row. record row { lease_end = until }) (table.get (rows_of two) handle))
            (changed_from (rows_of two) handle (λ row. record row { lease_end = until }) (table.get (rows_of two) handle) refl (λ row. (refl, refl, refl)))
            (ahead_from left (rows_of one) (rows_of two) (swapped_from one handle (table.get l.copies handle)) (grant_ahead d.master.attempts (rows_of l) handle version primary members (h.0.3 asks).ahead))) (h.0.3 asks),
      ) in (
        base,
        waiting_granted l d.master.attempts d.master.snapshots d.master.now (h.0.2 tt) (has_one_name start Ended P keeps rowing Q acts d h.0) h.1 handle version primary members due,
        acts.grants (core_of d) d.master.attempts d.master.snapshots handle a until primary members at all_of due h.0.0 base.0 h.2,
      )

  grants_to_acts : (d : MasterDoing) (handle : ℕ) (row : ChunkRow) (a : VersionAttempt) (servers : List ℕ) → chunk_of d.master.logged.table handle ≡ Some row → table.get d.master.attempts handle ≡ Some a → rising a.servers ≡ servers
      → IsAbove d handle a.version → Now d → Now (grants_to d handle a servers)
  grants_to_acts d handle row a [] is at all_of above h = h
  grants_to_acts d handle row a (primary ∷ rest) is at all_of above h =
      let members : List ℕ = primary ∷ rest in
      let r : Record = grant_record handle a.version primary members in
      let due : IsDue (Unit {0}) d.master.logged r = (row, is, λ asks. ((above asks).0).1 row is) in
      let then_ : MasterDoing → MasterDoing = λ e. sends_grant e handle a.version primary members in
      let was : Bool = is_of_copy d.master.logged r in
      let handles : List ℕ = table.keys d.master.logged.copies in
      let b : MasterDoing = writes_checkpoint d in
      on_cond (Now) (fits d r) (then_ (appends d r)) _ (λ _. grant_acts d handle a primary members at all_of due (λ asks. (above asks).1) h)
      (λ _. on_cond (Now) (checkpoint_fits d.master.config.log_bytes (checkpoint_of d.master.logged)) (logs_after_checkpoint b r was then_) d
      (λ _. on_cond (Now) (fits b r && not was) (then_ (appends b r)) b
      (λ t. let free : was ≡ false = both_false (fits b r) was t in
      grant_acts b handle a primary members (removed_other d.master.attempts handles handle (sym (table.contains_key-keys d.master.logged.copies handle) ∙ free) ∙ at) all_of (due_later (Unit {0}) d.master.logged r free due)
      (λ asks. ended_removed d.master.now (rows_of d.master.logged) handles handle (above asks).1) (checkpoint_here start Ended P keeps rowing Q acts d h))
      (λ _. checkpoint_here start Ended P keeps rowing Q acts d h))
      (λ _. h))

  recorded_acts : (d : MasterDoing) (handle : ℕ) (row : ChunkRow) (old a : VersionAttempt) → chunk_of d.master.logged.table handle ≡ Some row → table.get d.master.attempts handle ≡ Some old → a.version ≡ old.version → a.servers ≡ old.servers
      → IsAbove d handle a.version → Now d → Now (with_recorded d handle a)
  recorded_acts d handle row old a is at same servers above h =
      let now : Now (with_attempt d handle a) = (
        attempt_base d handle a above h.0,
        tried_waits d handle a (h.1.0 handle old at) (tried_unawaited d.master.logged d.master.attempts d.master.snapshots d.master.now (h.0.2 tt) (has_one_name start Ended P keeps rowing Q acts d h.0) h.1 handle old at) h,
        acts.records (core_of d) d.master.attempts d.master.snapshots handle old a at same servers h.2,
      ) in
      on_cond (Now) (is_complete d.master a) (grants_to (with_attempt d handle a) handle a (rising a.servers)) (with_attempt d handle a)
      (λ all. grants_to_acts (with_attempt d handle a) handle row a (rising a.servers) is (put_there d.master.attempts handle a handle refl) refl above now)
      (λ _. now)

  learns_attempt_acts : (d : MasterDoing) (server handle version : ℕ) (o : Option ChunkRow) (p : Option VersionAttempt) → chunk_of d.master.logged.table handle ≡ o
      → table.get d.master.attempts handle ≡ p → Now d → Now (learns_attempt d server handle version o p)
  learns_attempt_acts d server handle version None p row_is is h = h
  learns_attempt_acts d server handle version (Some row) None row_is is h = h
  learns_attempt_acts d server handle version (Some row) (Some a) row_is is h =
      let more : VersionAttempt = record a { recorded = with_number a.recorded server } in
      on_cond (Now) ((a.version == version) && has_number a.servers server) (with_recorded d handle more) d
      (λ fits. recorded_acts d handle row a more row_is is refl refl (λ asks. (((h.0.3 asks).ahead).ahead handle a is, (h.0.3 asks).attempted handle a is)) h) (λ _. h)

  learns_acts : (d : MasterDoing) (server handle version : ℕ) → Now d → Now (learns d server handle version)
  learns_acts d server handle version h = learns_attempt_acts d server handle version (chunk_of d.master.logged.table handle) (table.get d.master.attempts handle) refl refl h

  pub takes_recorded_acts : (d : MasterDoing) (server handle version : ℕ) → Now d → Now (takes_recorded d server handle version)
  takes_recorded_acts d server handle version h = learns_acts (holds_now d server handle version) server handle version h

  -- what a server says that holds no such lease
  abbrev pub IsSaidOver : ℕ → ℕ → Type 0
  IsSaidOver handle version = Ended handle version

  revoked_row_acts : (d : MasterDoing) (server handle version : ℕ) (o : Option ChunkRow) → chunk_of d.master.logged.table handle ≡ o → IsSaidOver handle version → Now d → Now (revoked_row d server handle version o)
  revoked_row_acts d server handle version None is said h = h
  revoked_row_acts d server handle version (Some row) is said h =
      on_cond Now ((row.granted == version) && (row.primary == server)) (ends_at d handle 0) d
      (λ same. ends_here start Ended P keeps rowing Q acts d handle row is (subst (λ (v : ℕ). Ended handle v) (sym (eqb-true row.granted version (both_of (row.granted == version) (row.primary == server) same).0)) said) h) (λ _. h)

  pub takes_revoked_acts : (d : MasterDoing) (server handle version : ℕ) → IsSaidOver handle version → Now d → Now (takes_revoked d server handle version)
  takes_revoked_acts d server handle version said h = revoked_row_acts d server handle version (chunk_of d.master.logged.table handle) refl said h

  drops_acts : (d : MasterDoing) (server : ℕ) (lines : List ReplicaLine) → Now d → Now (drops_useless d server lines)
  drops_acts d server [] h = h
  drops_acts d server (line ∷ rest) h =
      let dropped : MasterDoing = orders d server (λ order. body.Drop order line.handle line.version) in
      on_cond (λ (e : MasterDoing). Now (drops_useless e server rest)) (is_useless line.version.0 (chunk_of d.master.logged.table line.handle.0)) dropped d
      (λ _. drops_acts dropped server rest (orders_here start Ended P keeps rowing Q acts d server (λ order. body.Drop order line.handle line.version) (λ o. refl) (λ o. tt) (λ o. refl) h))
      (λ _. drops_acts d server rest h)

  learns_all_acts : (d : MasterDoing) (server : ℕ) (lines : List ReplicaLine) → Now d → Now (learns_all d server lines)
  learns_all_acts d server [] h = h
  learns_all_acts d server (line ∷ rest) h = learns_all_acts (learns d server line.handle.0 line.version.0) server rest (learns_acts d server line.handle.0 line.version.0 h)

  -- what is asked of a lease that gets a later end
  may_extend_parts : (now granted version primary server end_moment : ℕ) (wants free : Bool) → wants && (granted == version) && (primary == server) && (nat_lt 0 granted && not (nat_le end_moment now)) && free ≡ true
      → (granted ≡ version) × (primary ≡ server) × (1 ≤ granted) × (now < end_moment)
  may_extend_parts now granted version primary server end_moment wants free h =
      let four = both_of _ free h in
      let three = both_of _ (nat_lt 0 granted && not (nat_le end_moment now)) four.0 in
      let two = both_of _ (primary == server) three.0 in
      let one = both_of wants (granted == version) two.0 in
      let left = both_of (nat_lt 0 granted) (not (nat_le end_moment now)) three.1 in
      (eqb-true granted version one.1, eqb-true primary server two.1, ltb-true 0 granted left.0, late (nat_le end_moment now) refl left.1)
    where
      late : (b : Bool) → nat_le end_moment now ≡ b → not b ≡ true → now < end_moment
      late true ended lasts = absurd (let both : false ≡ true = lasts in cc)
      late false ended lasts = leb-false end_moment now ended

  row_extends_acts : (d : MasterDoing) (server : ℕ) (line : LeaseLine) (o : Option ChunkRow) → chunk_of d.master.logged.table line.handle.0 ≡ o → Now d → Now (extends_row d server line o)
  row_extends_acts d server line None is h = h
  row_extends_acts d server line (Some row) is h =
      let until : ℕ = d.master.now + d.master.config.lease_ms in
      on_cond (Now) (may_extend d.master server line row && nat_lt row.lease_end until)
      (tells (ends_at d line.handle.0 until) (the_server server) (body.Extend line.handle line.version (moment_of until))) d
      (λ may. let parts = both_of (may_extend d.master server line row) (nat_lt row.lease_end until) may in
      let fits = may_extend_parts d.master.now row.granted line.version.0 row.primary server row.lease_end line.was_used_since_report (not (waits_for d.master line.handle.0)) parts.0 in
      extends_here start Ended P keeps rowing Q acts d line.handle.0 row line.version.0 server is fits.0 fits.1 (fits.2, fits.3) (ltb-true row.lease_end until parts.1) h)
      (λ _. h)

  extends_all_acts : (d : MasterDoing) (server : ℕ) (lines : List LeaseLine) → Now d → Now (extends_all d server lines)
  extends_all_acts d server [] h = h
  extends_all_acts d server (line ∷ rest) h =
      extends_all_acts (extends_row d server line (chunk_of d.master.logged.table line.handle.0)) server rest (row_extends_acts d server line (chunk_of d.master.logged.table line.handle.0) refl h)

  pub report_acts : (d : MasterDoing) (server : ℕ) (replicas : List ReplicaLine) (leases : List LeaseLine) → Now d
      → Now (takes_report d server replicas leases)
  report_acts d server replicas leases h =
      let heard : MasterDoing = hears d server replicas in
      let dropped : MasterDoing = drops_useless heard server replicas in
      extends_all_acts (learns_all dropped server replicas) server leases (learns_all_acts dropped server replicas (drops_acts heard server replicas h))
