-- What the master gives at an Ask: a version of a chunk whose last lease has ended, or of a new chunk; where it begins a copy, the first version of the copy, which follows what was issued of the source.
use Rattle.std.proofs.Common.{◌≡◌, ◌⊎◌, ℕ, zero, suc, ◌+◌, ◌≤◌, Bool, true, false, List, [], ◌∷◌, ◌++◌, length, map, Option, Some, None, refl, ap, subst, inl, inr, arith, sym, ◌∙◌}
use Rattle.std.specs.Prelude.{◌==◌, nat_lt, nat_le, max}
use Rattle.std.specs.FinMap as table
use Rattle.std.proofs.lemmas.Bool.{leb-true}
use Rattle.std.proofs.Math.Nat.{le-max_left}
use Rattle.protocol.specs.declared.seen.Seen.{Seen}
use Rattle.gfs_types.specs.declared.ids.Node.{Node}
use Rattle.gfs_types.specs.declared.ids.Node.TheVariants as node
use Rattle.gfs_types.specs.declared.ids.OrderNo.{OrderNo}
use Rattle.gfs_types.specs.declared.ids.FileId.{FileId}
use Rattle.gfs_types.specs.declared.ids.Moment.{Moment}
use Rattle.gfs_types.specs.declared.refusal.Refusal.TheVariants.{TooLong, Collected}
use Rattle.messages.specs.declared.message.NameReply.TheVariants.{Answered}
use Rattle.messages.specs.declared.message.Body.{Body}
use Rattle.messages.specs.declared.message.Body.TheVariants as body
use Rattle.messages.specs.declared.message.Message.{Message}
use Rattle.messages.specs.declared.message.Holder.{Holder}
use Rattle.messages.specs.declared.message.Wanted.{Wanted}
use Rattle.messages.specs.declared.message.Wanted.TheVariants as wanted
use Rattle.messages.specs.declared.event.NodeInput.{NodeInput}
use Rattle.messages.specs.declared.event.NodeInput.TheVariants as input
use Rattle.log_records.specs.declared.record.Record.{Record}
use Rattle.log_records.specs.declared.record.Record.TheVariants as log
use Rattle.chunk_table.specs.ChunkTable.{ChunkRow, chunk_of, file_of, added_row}
use Rattle.leases.specs.LeaseEnds.{has_ended}
use Rattle.protocol.specs.Tables.{element_at}
use Rattle.protocol.specs.LogSizes.{checkpoint_fits}
use Rattle.protocol.specs.Sending.{message, file_id, handle_of, version_of, the_server}
use Rattle.protocol.specs.Choice.{Choice, Ending, Goes, Lost, Stops}
use Rattle.protocol.specs.Seen.{Taken, no_step}
use Rattle.protocol.specs.declared.seen.Seen.TheVariants.{CopyStarted}
use Rattle.protocol.specs.Logged.{Logged, Copy, checkpoint_of}
use Rattle.protocol.specs.Master.{MasterState, MasterDoing, PendingSnapshot, HeldAt, master_begins, tells, orders, logs, logs_after_checkpoint, appends, fits, writes_checkpoint, is_of_copy, with_attempt, gives_up_copy, gives_up_copies, holders_where, current_holders, has_lease}
use Rattle.protocol.specs.MasterSnapshots.{revokes_row, revokes, takes_ready, waits_for}
use Rattle.protocol.specs.MasterVersions.{Asker, VersionTarget, holder_line, group_of, tells_location, tells_holders, tells_none, tells_to_wait, version_order, sends_versions, new_attempt, sends_issued, issues_to, targets_by, recorded_holders, issues_own, is_attempted, copy_order, sends_copies, copy_targets, sends_copy_started, copies_to, begins_copy, copy_for, is_copied, wants_own, wants_own_of, issues_copy, wants_copy, wants_by, wants_primary, holder_target}
use Rattle.protocol.specs.MasterAsks.{looks_at_row, looks_at, mutates_row, mutates_at, adds_chunk, with_index, asks_to_write, asks_to_append, asks_for_last, asks_for, asks_of, takes_ask}
use Rattle.protocol.specs.MasterStep.{master_takes, master_at, master_goes, may_end, master_bounded, master_ends, master_step}
use Rattle.laws_base.proofs.LeaseOrders.{revoke_order}
use Rattle.laws_base.proofs.Steps.{on_cond, none_some, same_some, put_cases, removed_cases}
use Rattle.laws_base.proofs.ChunkRows.{rows_of}
use Rattle.laws_base.proofs.CopiesUnderWay.{found_for}
use Rattle.laws_base.proofs.LeasesEnded.{HasEnded}
use Rattle.laws_base.proofs.MembersRecorded.{all_in_order}
use Rattle.laws_base.proofs.Entries.{AllOf, all_joined}
use Rattle.laws_base.specs.Given.{version_given}
use Rattle.laws_base.proofs.MasterPremises.{IsAsk, IsOfCalls, StepEffects, NameKeeps}
use Rattle.laws_base.proofs.MasterWalk.{ready_here}

-- what each message of a step so far is, and what the step shows

module _ (X : Message → Type 0) (quiet : (receiver : Node) (b : Body) → version_given b ≡ None → X (message node.Master receiver b)) (shown : List Seen) where
  abbrev pub Fine : MasterDoing → Type 0
  Fine d = AllOf X d.sent × (d.seen ≡ shown)

  said : (d : MasterDoing) (receiver : Node) (b : Body) → version_given b ≡ None → Fine d → Fine (tells d receiver b)
  said d receiver b none h = (all_joined X d.sent (message node.Master receiver b ∷ []) h.0 (quiet receiver b none, tt), h.1)

  ordered : (d : MasterDoing) (to : ℕ) (b : OrderNo → Body) → ((o : OrderNo) → version_given (b o) ≡ None) → Fine d → Fine (orders d to b)
  ordered d to b none h =
      let o : OrderNo = record { epoch = d.master.logged.epoch; count = suc d.master.order_count } in
      (all_joined X d.sent (message node.Master (the_server to) (b o) ∷ []) h.0 (quiet (the_server to) (b o) (none o), tt), h.1)

  logged : (d : MasterDoing) (r : Record) (then_ : MasterDoing → MasterDoing) → ((e : MasterDoing) → Fine e → Fine (then_ e)) → Fine d → Fine (logs d r then_)
  logged d r then_ go h =
      on_cond Fine (fits d r) (then_ (appends d r)) _ (λ _. go (appends d r) h)
      (λ _. on_cond Fine (checkpoint_fits d.master.config.log_bytes (checkpoint_of d.master.logged)) (logs_after_checkpoint (writes_checkpoint d) r (is_of_copy d.master.logged r) then_) d
      (λ _. on_cond Fine _ (then_ (appends (writes_checkpoint d) r)) (writes_checkpoint d) (λ _. go (appends (writes_checkpoint d) r) h) (λ _. h)) (λ _. h))

  abbrev AreSaid : StepEffects → Type 0
  AreSaid g = AllOf X g.sent × (g.seen ≡ shown)

  names : NameKeeps IsOfCalls AreSaid
  names =
      record {
        named = λ g receiver number reply h. (all_joined X g.sent (message node.Master receiver (body.Named number (Answered reply)) ∷ []) h.0 (quiet receiver (body.Named number (Answered reply)) refl, tt), h.1);
        recorded = λ g r is h. h;
        checkpointed = λ g items h. h;
      }

  snapshots_said : (d : MasterDoing) (ss : List PendingSnapshot) → Fine d → Fine (takes_ready d ss)
  snapshots_said d ss h = ready_here IsOfCalls (λ r is. is) AreSaid names d ss h

  -- what is said of locations

  location_said : (d : MasterDoing) (a : Asker) (handle : ℕ) (row : ChunkRow) (holders : List Holder) → Fine d → Fine (tells_location d a handle row holders)
  location_said d a handle row holders h =
      said d a.client (body.Told a.number (Some (record { index = a.index; handle = handle_of handle; round = version_of row.granted; shape = row.shape; holders = holders; group = group_of d.master row }))) refl h

  holders_said : (d : MasterDoing) (a : Asker) (handle : ℕ) (row : ChunkRow) → Fine d → Fine (tells_holders d a handle row)
  holders_said d a handle row h = location_said d a handle row (map holder_line (current_holders d.master handle row)) h

  none_said : (d : MasterDoing) (a : Asker) → Fine d → Fine (tells_none d a)
  none_said d a h = said d a.client (body.Told a.number None) refl h

  wait_said : (d : MasterDoing) (a : Asker) → Fine d → Fine (tells_to_wait d a)
  wait_said d a h = said d a.client (body.Wait a.number) refl h

  revoked_of : (d : MasterDoing) (handle : ℕ) (o : Option ChunkRow) → Fine d → Fine (revokes_row d handle o)
  revoked_of d handle None h = h
  revoked_of d handle (Some row) h =
      on_cond Fine (has_lease d.master row) (orders d row.primary (revoke_order handle row)) d
      (λ _. ordered d row.primary (revoke_order handle row) (λ o. refl) h) (λ _. h)

  -- a version is sent to each target

  one_sent : (d : MasterDoing) (to : ℕ) (b : OrderNo → Body) → ((o : OrderNo) → X (message node.Master (the_server to) (b o))) → Fine d → Fine (orders d to b)
  one_sent d to b is h =
      let o : OrderNo = record { epoch = d.master.logged.epoch; count = suc d.master.order_count } in
      (all_joined X d.sent (message node.Master (the_server to) (b o) ∷ []) h.0 (is o, tt), h.1)

  versions_sent : (d : MasterDoing) (handle version : ℕ) (targets : List VersionTarget) → ((to : ℕ) (base : Option ℕ) (o : OrderNo) → X (message node.Master (the_server to) (version_order handle version base o))) → Fine d → Fine (sends_versions d handle version targets)
  versions_sent d handle version [] is h = h
  versions_sent d handle version (t ∷ rest) is h =
      versions_sent (orders d t.server (version_order handle version t.base)) handle version rest is (one_sent d t.server (version_order handle version t.base) (is t.server t.base) h)

  copies_sent : (d : MasterDoing) (handle copy version : ℕ) (targets : List VersionTarget) → ((to : ℕ) (base : Option ℕ) (o : OrderNo) → X (message node.Master (the_server to) (copy_order handle copy version base o))) → Fine d
      → Fine (sends_copies d handle copy version targets)
  copies_sent d handle copy version [] is h = h
  copies_sent d handle copy version (t ∷ rest) is h =
      copies_sent (orders d t.server (copy_order handle copy version t.base)) handle copy version rest is (one_sent d t.server (copy_order handle copy version t.base) (is t.server t.base) h)

  issued_said : (a : Asker) (handle version : ℕ) (targets : List VersionTarget) → ((to : ℕ) (base : Option ℕ) (o : OrderNo) → X (message node.Master (the_server to) (version_order handle version base o))) → (d : MasterDoing) → Fine d
      → Fine (sends_issued d a handle version targets)
  issued_said a handle version targets is d h =
      let held : MasterDoing = with_attempt d handle (new_attempt d.master version targets) in
      wait_said (sends_versions held handle version targets) a (versions_sent held handle version targets is h)

-- no message gives a version

abbrev IsPlain : Message → Type 0
IsPlain m = version_given m.body ≡ None

abbrev Quiet : MasterDoing → Type 0
Quiet d = Fine IsPlain (λ receiver b none. none) [] d

version_is : (handle version : ℕ) (base : Option ℕ) (o : OrderNo) → version_given (version_order handle version base o) ≡ Some (handle, version)
version_is handle version None o = refl
version_is handle version (Some base) o = refl

copy_is : (handle copy version : ℕ) (base : Option ℕ) (o : OrderNo) → version_given (copy_order handle copy version base o) ≡ Some (copy, version)
copy_is handle copy version None o = refl
copy_is handle copy version (Some held) o = refl

module _ (l : Logged) (now : ℕ) (ready : (handle : ℕ) (c : Copy) → table.get l.copies handle ≡ Some c → HasEnded now (rows_of l) handle) where
  -- the chunk is a new one, or its last lease has ended
  abbrev pub IsFree : ℕ → Type 0
  IsFree handle = (l.next_handle ≤ handle) ⊎ HasEnded now (rows_of l) handle

  abbrev pub GivesFree : Message → Type 0
  GivesFree m = (handle version : ℕ) → version_given m.body ≡ Some (handle, version) → IsFree handle

  plain_free : (receiver : Node) (b : Body) → version_given b ≡ None → GivesFree (message node.Master receiver b)
  plain_free receiver b none handle version is = none_some (handle, version) (sym none ∙ is)

  -- the first version of the copy alone is given, and follows this number
  abbrev pub GivesFirst : ℕ → ℕ → Message → Type 0
  GivesFirst copy issued m = (handle version : ℕ) → version_given m.body ≡ Some (handle, version) → (handle ≡ copy) × (version ≡ suc issued)

  plain_first : (copy issued : ℕ) (receiver : Node) (b : Body) → version_given b ≡ None → GivesFirst copy issued (message node.Master receiver b)
  plain_first copy issued receiver b none handle version is = none_some (handle, version) (sym none ∙ is)

  -- so much was issued of the chunk, or it is a new one
  abbrev pub WasIssuedOf : ℕ → ℕ → Type 0
  WasIssuedOf source issued = ((row : ChunkRow) × (chunk_of l.table source ≡ Some row) × (row.issued ≡ issued)) ⊎ (l.next_handle ≤ source)

  -- a copy is begun
  record IsStart (d : MasterDoing) : Type 0 where
    source : ℕ
    copy : ℕ
    issued : ℕ
    known : WasIssuedOf source issued
    new : l.next_handle ≤ copy
    fine : Fine (GivesFirst copy issued) (plain_first copy issued) (CopyStarted (handle_of source) (handle_of copy) ∷ []) d

  abbrev IsUsual : MasterDoing → Type 0
  IsUsual d = Fine GivesFree plain_free [] d

  abbrev Post : MasterDoing → Type 0
  Post d = IsUsual d ⊎ IsStart d

  all_free : (ms : List Message) → AllOf IsPlain ms → AllOf GivesFree ms
  all_free [] all = tt
  all_free (m ∷ ms) all = ((λ handle version is. none_some (handle, version) (sym all.0 ∙ is)), all_free ms all.1)

  all_first : (copy issued : ℕ) (ms : List Message) → AllOf IsPlain ms → AllOf (GivesFirst copy issued) ms
  all_first copy issued [] all = tt
  all_first copy issued (m ∷ ms) all = ((λ handle version is. none_some (handle, version) (sym all.0 ∙ is)), all_first copy issued ms all.1)

  usual : (d : MasterDoing) → Quiet d → IsUsual d
  usual d h = (all_free d.sent h.0, h.1)

  -- the step so far, before it gives anything
  record IsKept (d : MasterDoing) : Type 0 where
    next : l.next_handle ≤ d.master.logged.next_handle
    rows : (handle : ℕ) (row : ChunkRow) → chunk_of d.master.logged.table handle ≡ Some row
        → ((old : ChunkRow) × (chunk_of l.table handle ≡ Some old) × (old.issued ≡ row.issued) × (old.lease_end ≡ row.lease_end)) ⊎ (l.next_handle ≤ handle)
    copies : (handle : ℕ) (c : Copy) → table.get d.master.logged.copies handle ≡ Some c → table.get l.copies handle ≡ Some c
    now_is : d.master.now ≡ now
    quiet : Quiet d

  less_kept : (d : MasterDoing) (handles : List ℕ) → IsKept d → IsKept (gives_up_copies d handles)
  less_kept d handles h =
      record {
        next = h.next;
        rows = λ handle row is. h.rows handle row (removed_cases d.master.logged.table.chunks handles handle row is);
        copies = λ handle c is. h.copies handle c (removed_cases d.master.logged.copies handles handle c is);
        now_is = h.now_is;
        quiet = h.quiet;
      }

  checkpoint_kept : (d : MasterDoing) → IsKept d → IsKept (writes_checkpoint d)
  checkpoint_kept d h = let less = less_kept d (table.keys d.master.logged.copies) h in record { next = less.next; rows = less.rows; copies = less.copies; now_is = less.now_is; quiet = less.quiet }

  added_kept : (d : MasterDoing) (file handle : ℕ) → l.next_handle ≤ handle → IsKept d → IsKept (appends d (log.AddChunk (file_id file) (handle_of handle)))
  added_kept d file handle new h =
      record {
        next = let low = h.next in let high = le-max_left d.master.logged.next_handle (handle + 1) in omega (arith, low, high);
        rows = λ q row is. elim (put_cases d.master.logged.table.chunks handle (added_row d.master.logged.table file) q row is) [
          | inl same ↦ inr (let key = same.0 in omega (arith, new, key))
          | inr before ↦ h.rows q row before
        ];
        copies = h.copies;
        now_is = h.now_is;
        quiet = h.quiet;
      }

  -- a record, and then something else
  logs_post : (d : MasterDoing) (r : Record) (then_ : MasterDoing → MasterDoing) → ((e : MasterDoing) → Quiet e → Post (then_ e)) → Quiet d → Post (logs d r then_)
  logs_post d r then_ go h =
      on_cond Post (fits d r) (then_ (appends d r)) _ (λ _. go (appends d r) h)
      (λ _. on_cond Post (checkpoint_fits d.master.config.log_bytes (checkpoint_of d.master.logged)) (logs_after_checkpoint (writes_checkpoint d) r (is_of_copy d.master.logged r) then_) d
      (λ _. on_cond Post _ (then_ (appends (writes_checkpoint d) r)) (writes_checkpoint d) (λ _. go (appends (writes_checkpoint d) r) h) (λ _. inl (usual (writes_checkpoint d) h))) (λ _. inl (usual d h)))

  logs_added : (d : MasterDoing) (file handle : ℕ) (then_ : MasterDoing → MasterDoing) → l.next_handle ≤ handle → ((e : MasterDoing) → IsKept e → Post (then_ e)) → IsKept d → Post (logs d (log.AddChunk (file_id file) (handle_of handle)) then_)
  logs_added d file handle then_ new go h =
      let r : Record = log.AddChunk (file_id file) (handle_of handle) in
      let b : MasterDoing = writes_checkpoint d in
      on_cond Post (fits d r) (then_ (appends d r)) _ (λ _. go (appends d r) (added_kept d file handle new h))
      (λ _. on_cond Post (checkpoint_fits d.master.config.log_bytes (checkpoint_of d.master.logged)) (logs_after_checkpoint b r (is_of_copy d.master.logged r) then_) d
      (λ _. on_cond Post _ (then_ (appends b r)) b (λ _. go (appends b r) (added_kept b file handle new (checkpoint_kept d h))) (λ _. inl (usual b h.quiet))) (λ _. inl (usual d h.quiet)))

  wait_post : (d : MasterDoing) (a : Asker) → IsKept d → Post (tells_to_wait d a)
  wait_post d a h = inl (wait_said GivesFree plain_free [] d a (usual d h.quiet))

  issues_post : (d : MasterDoing) (a : Asker) (own : ℕ) (own_row : ChunkRow) (handle : ℕ) (row : ChunkRow) (targets : List VersionTarget) → IsFree handle → IsKept d → Post (issues_to d a own own_row handle row targets)
  issues_post d a own own_row handle row [] free h = inl (location_said GivesFree plain_free [] d a own own_row [] (usual d h.quiet))
  issues_post d a own own_row handle row (t ∷ rest) free h =
      inl (logged GivesFree plain_free [] d (log.Issue (handle_of handle) (version_of (suc row.issued))) (λ e. sends_issued e a handle (suc row.issued) (t ∷ rest))
      (issued_said GivesFree plain_free [] a handle (suc row.issued) (t ∷ rest)
      (λ to base o q v is. subst IsFree (ap (λ (p : ℕ × ℕ). p.0) (same_some (handle, suc row.issued) (q, v) (sym (version_is handle (suc row.issued) base o) ∙ is))) free)) (usual d h.quiet))

  own_post : (d : MasterDoing) (a : Asker) (handle : ℕ) (row : ChunkRow) (b : Bool) → IsFree handle → IsKept d → Post (issues_own d a handle row b)
  own_post d a handle row true free h = wait_post d a h
  own_post d a handle row false free h = issues_post d a handle row handle row (targets_by d.master handle row (recorded_holders d.master handle row)) free h

  started_post : (a : Asker) (handle copy issued : ℕ) (targets : List VersionTarget) → WasIssuedOf handle issued → l.next_handle ≤ copy → (d : MasterDoing) → Quiet d → Post (sends_copy_started d a handle copy (suc issued) targets)
  started_post a handle copy issued targets known new d h =
      let seen : MasterDoing = record d { seen = d.seen ++ CopyStarted (handle_of handle) (handle_of copy) ∷ [] } in
      let held : MasterDoing = with_attempt seen copy (new_attempt d.master (suc issued) targets) in
      let shown : List Seen = CopyStarted (handle_of handle) (handle_of copy) ∷ [] in
      inr (record {
        source = handle;
        copy = copy;
        issued = issued;
        known = known;
        new = new;
        fine = wait_said (GivesFirst copy issued) (plain_first copy issued) shown (sends_copies held handle copy (suc issued) targets) a
            (copies_sent (GivesFirst copy issued) (plain_first copy issued) shown held handle copy (suc issued) targets
            (λ to base o q v is.
            let same = same_some (copy, suc issued) (q, v) (sym (copy_is handle copy (suc issued) base o) ∙ is) in
            (sym (ap (λ (p : ℕ × ℕ). p.0) same), sym (ap (λ (p : ℕ × ℕ). p.1) same)))
            (all_first copy issued d.sent h.0, ap (λ (xs : List Seen). xs ++ CopyStarted (handle_of handle) (handle_of copy) ∷ []) h.1));
      })

  copies_post : (d : MasterDoing) (a : Asker) (handle : ℕ) (row : ChunkRow) (targets : List VersionTarget) → chunk_of d.master.logged.table handle ≡ Some row → IsKept d → Post (copies_to d a handle row targets)
  copies_post d a handle row [] at h = inl (location_said GivesFree plain_free [] d a handle row [] (usual d h.quiet))
  copies_post d a handle row (t ∷ rest) at h =
      let copy : ℕ = d.master.logged.next_handle in
      logs_post d (log.CopyStart (file_id a.file) a.index (handle_of handle) (handle_of copy) (version_of (suc row.issued))) (λ e. sends_copy_started e a handle copy (suc row.issued) (t ∷ rest))
      (started_post a handle copy row.issued (t ∷ rest) (elim (h.rows handle row at) [ inl old ↦ inl (old.0, old.1, old.2) | inr new ↦ inr new ]) h.next) h.quiet

  wants_post : (d : MasterDoing) (a : Asker) (handle : ℕ) (row : ChunkRow) → chunk_of d.master.logged.table handle ≡ Some row → IsFree handle → IsKept d → Post (wants_own d a handle row)
  wants_post d a handle row at free h =
      on_cond Post (nat_lt 1 row.references) (begins_copy d a handle row) _ (λ _. copies_post d a handle row (copy_targets d.master handle row) at h)
      (λ _. on_cond Post (is_copied d.master.logged handle) (tells_to_wait d a) (issues_own d a handle row (is_attempted d.master handle)) (λ _. wait_post d a h)
      (λ _. own_post d a handle row (is_attempted d.master handle) free h))

  wants_of_post : (d : MasterDoing) (a : Asker) (handle : ℕ) (o : Option ChunkRow) → chunk_of d.master.logged.table handle ≡ o → IsFree handle → IsKept d → Post (wants_own_of d a handle o)
  wants_of_post d a handle None at free h = inl (usual d h.quiet)
  wants_of_post d a handle (Some row) at free h = wants_post d a handle row at free h

  issues_copy_post : (d : MasterDoing) (a : Asker) (handle : ℕ) (row : ChunkRow) (copy : ℕ) (copy_row : ChunkRow) (holders : List HeldAt) → IsFree handle → IsFree copy → IsKept d → Post (issues_copy d a handle row copy copy_row holders)
  issues_copy_post d a handle row copy copy_row [] free copy_free h =
      let given_up : MasterDoing = gives_up_copy d copy in wants_of_post given_up a handle (chunk_of given_up.master.logged.table handle) refl free (less_kept d (copy ∷ []) h)
  issues_copy_post d a handle row copy copy_row (x ∷ rest) free copy_free h = issues_post d a handle row copy copy_row (map holder_target (x ∷ rest)) copy_free h

  wants_copy_post : (d : MasterDoing) (a : Asker) (handle : ℕ) (row : ChunkRow) (copy : ℕ) (o : Option ChunkRow) → chunk_of d.master.logged.table handle ≡ Some row → IsFree handle → IsFree copy → IsKept d → Post (wants_copy d a handle row copy o)
  wants_copy_post d a handle row copy None at free copy_free h = wants_post d a handle row at free h
  wants_copy_post d a handle row copy (Some copy_row) at free copy_free h =
      on_cond Post (is_attempted d.master copy) (tells_to_wait d a) (issues_copy d a handle row copy copy_row (holders_where d.master copy (λ v. v == copy_row.issued))) (λ _. wait_post d a h)
      (λ _. issues_copy_post d a handle row copy copy_row (holders_where d.master copy (λ v. v == copy_row.issued)) free copy_free h)

  by_post : (d : MasterDoing) (a : Asker) (handle : ℕ) (row : ChunkRow) (o : Option ℕ) → copy_for d.master.logged a.file a.index ≡ o → chunk_of d.master.logged.table handle ≡ Some row → IsFree handle → IsKept d → Post (wants_by d a handle row o)
  by_post d a handle row None found at free h = wants_post d a handle row at free h
  by_post d a handle row (Some copy) found at free h =
      let c = found_for d.master.logged a.file a.index copy found in
      wants_copy_post d a handle row copy (chunk_of d.master.logged.table copy) at free (inr (ready copy c.copy (h.copies copy c.copy c.at))) h

  primary_post : (d : MasterDoing) (a : Asker) (handle : ℕ) (row : ChunkRow) → chunk_of d.master.logged.table handle ≡ Some row → IsFree handle → IsKept d → Post (wants_primary d a handle row)
  primary_post d a handle row at free h =
      on_cond Post (waits_for d.master handle) (tells_to_wait d a) (wants_by d a handle row (copy_for d.master.logged a.file a.index)) (λ _. wait_post d a h)
      (λ _. by_post d a handle row (copy_for d.master.logged a.file a.index) refl at free h)

  -- where the lease has ended at the master
  ended_free : (d : MasterDoing) (handle : ℕ) (row : ChunkRow) → chunk_of d.master.logged.table handle ≡ Some row → has_ended row d.master.now ≡ true → IsKept d → IsFree handle
  ended_free d handle row at ended h =
      elim (h.rows handle row at) [
        | inl old ↦ inr (λ other is.
            let same : other.lease_end ≡ row.lease_end = ap (λ (r : ChunkRow). r.lease_end) (same_some other old.0 (sym is ∙ old.1)) ∙ old.3 in
            let low = leb-true row.lease_end d.master.now ended in
            let time = h.now_is in
            omega (arith, same, low, time))
        | inr new ↦ inl new
      ]

  row_post : (d : MasterDoing) (a : Asker) (lost : Bool) (handle : ℕ) (o : Option ChunkRow) → chunk_of d.master.logged.table handle ≡ o → IsKept d → Post (mutates_row d a lost handle o)
  row_post d a lost handle None at h = inl (usual d h.quiet)
  row_post d a lost handle (Some row) at h =
      on_cond Post (has_ended row d.master.now) (wants_primary d a handle row) _ (λ ended. primary_post d a handle row at (ended_free d handle row at ended h) h)
      (λ _. inl (on_cond (λ (e : MasterDoing). IsUsual (tells_holders e a handle row)) lost (revokes d handle) d
      (λ _. holders_said GivesFree plain_free [] (revokes d handle) a handle row (revoked_of GivesFree plain_free [] d handle (chunk_of d.master.logged.table handle) (usual d h.quiet)))
      (λ _. holders_said GivesFree plain_free [] d a handle row (usual d h.quiet))))

  at_post : (d : MasterDoing) (a : Asker) (lost : Bool) (o : Option ℕ) → IsKept d → Post (mutates_at d a lost o)
  at_post d a lost None h = inl (usual d h.quiet)
  at_post d a lost (Some handle) h = row_post d a lost handle (chunk_of d.master.logged.table handle) refl h

  adds_post : (d : MasterDoing) (a : Asker) (lost : Bool) → IsKept d → Post (adds_chunk d a lost)
  adds_post d a lost h = let handle : ℕ = d.master.logged.next_handle in logs_added d a.file handle (λ e. mutates_at e a lost (Some handle)) h.next (λ e g. at_post e a lost (Some handle) g) h

  looks_row_post : (d : MasterDoing) (a : Asker) (handle : ℕ) (o : Option ChunkRow) → IsKept d → Post (looks_at_row d a handle o)
  looks_row_post d a handle None h = inl (usual d h.quiet)
  looks_row_post d a handle (Some row) h = inl (holders_said GivesFree plain_free [] d a handle row (usual d h.quiet))

  looks_post : (d : MasterDoing) (a : Asker) (o : Option ℕ) → IsKept d → Post (looks_at d a o)
  looks_post d a None h = inl (none_said GivesFree plain_free [] d a (usual d h.quiet))
  looks_post d a (Some handle) h = looks_row_post d a handle (chunk_of d.master.logged.table handle) h

  write_post : (d : MasterDoing) (a : Asker) (lost : Bool) (handles : List ℕ) (index : ℕ) → IsKept d → Post (asks_to_write d a lost handles index)
  write_post d a lost handles index h =
      on_cond Post (nat_lt (length handles) index) (tells d a.client (body.Refused a.number TooLong)) _ (λ _. inl (said GivesFree plain_free [] d a.client (body.Refused a.number TooLong) refl (usual d h.quiet)))
      (λ _. on_cond Post (index == length handles) (adds_chunk d (with_index a index) lost) (mutates_at d (with_index a index) lost (element_at handles index)) (λ _. adds_post d (with_index a index) lost h)
      (λ _. at_post d (with_index a index) lost (element_at handles index) h))

  append_post : (d : MasterDoing) (a : Asker) (lost : Bool) (handles : List ℕ) (after count : ℕ) → IsKept d → Post (asks_to_append d a lost handles after count)
  append_post d a lost handles after zero h = adds_post d (with_index a 0) lost h
  append_post d a lost handles after (suc last) h =
      on_cond Post (nat_lt last after) (adds_chunk d (with_index a (suc last)) lost) (mutates_at d (with_index a last) lost (element_at handles last)) (λ _. adds_post d (with_index a (suc last)) lost h)
      (λ _. at_post d (with_index a last) lost (element_at handles last) h)

  last_post : (d : MasterDoing) (a : Asker) (handles : List ℕ) (count : ℕ) → IsKept d → Post (asks_for_last d a handles count)
  last_post d a handles zero h = inl (none_said GivesFree plain_free [] d a (usual d h.quiet))
  last_post d a handles (suc last) h = looks_post d (with_index a last) (element_at handles last) h

  asks_for_post : (d : MasterDoing) (a : Asker) (lost : Bool) (w : Wanted) (handles : List ℕ) → IsKept d → Post (asks_for d a lost w handles)
  asks_for_post d a lost (wanted.Read index) handles h = looks_post d (with_index a index) (element_at handles index) h
  asks_for_post d a lost (wanted.Write index) handles h = write_post d a lost handles index h
  asks_for_post d a lost (wanted.Append after) handles h = append_post d a lost handles after (length handles) h
  asks_for_post d a lost wanted.Last handles h = last_post d a handles (length handles) h

  asks_of_post : (d : MasterDoing) (a : Asker) (lost : Bool) (w : Wanted) (o : Option (List ℕ)) → IsKept d → Post (asks_of d a lost w o)
  asks_of_post d a lost w None h = inl (said GivesFree plain_free [] d a.client (body.Refused a.number Collected) refl (usual d h.quiet))
  asks_of_post d a lost w (Some handles) h = asks_for_post d a lost w handles h

  ask_post : (d : MasterDoing) (client : Node) (number file : ℕ) (w : Wanted) (deadline : ℕ) (lost : Bool) → IsKept d → Post (takes_ask d client number file w deadline lost)
  ask_post d client number file w deadline lost h =
      let a : Asker = record { client = client; number = number; file = file; index = 0 } in
      on_cond Post (nat_le deadline d.master.now) d (asks_of d a lost w (file_of d.master.logged.table file)) (λ _. inl (usual d h.quiet)) (λ _. asks_of_post d a lost w (file_of d.master.logged.table file) h)

  ready_post : (d : MasterDoing) (ss : List PendingSnapshot) → Post d → Post (takes_ready d ss)
  ready_post d ss (inl h) = inl (snapshots_said GivesFree plain_free [] d ss h)
  ready_post d ss (inr s) =
      inr (record {
        source = s.source;
        copy = s.copy;
        issued = s.issued;
        known = s.known;
        new = s.new;
        fine = snapshots_said (GivesFirst s.copy s.issued) (plain_first s.copy s.issued) (CopyStarted (handle_of s.source) (handle_of s.copy) ∷ []) d ss s.fine;
      })

  -- what a step gives and shows: it begins no copy and gives versions of free chunks, or it begins a copy and gives its first version
  pub record IsBegun (t : Taken MasterState) : Type 0 where
    pub source : ℕ
    pub copy : ℕ
    pub issued : ℕ
    pub known : WasIssuedOf source issued
    pub new : l.next_handle ≤ copy
    pub given : AllOf (GivesFirst copy issued) t.out.sent
    pub seen : t.seen ≡ CopyStarted (handle_of source) (handle_of copy) ∷ []

  abbrev pub IsAskedStep : Taken MasterState → Type 0
  IsAskedStep t = (AllOf GivesFree t.out.sent × (t.seen ≡ [])) ⊎ IsBegun t

  ends_asked : (m : MasterState) (d : MasterDoing) (choice : Choice) (e : Ending) → Post d → IsAskedStep (master_ends m d choice e)
  ends_asked m d choice Goes (inl h) = inl (all_in_order GivesFree choice.order d.sent h.0, h.1)
  ends_asked m d choice Goes (inr s) =
      inr (record { source = s.source; copy = s.copy; issued = s.issued; known = s.known; new = s.new; given = all_in_order (GivesFirst s.copy s.issued) choice.order d.sent (s.fine).0; seen = (s.fine).1 })
  ends_asked m d choice Lost h = inl (tt, refl)
  ends_asked m d choice (Stops made) h = inl (tt, refl)

  asked_step : (m : MasterState) (moment : ℕ) (x : Message) (choice : Choice) → m.logged ≡ l → max m.now moment ≡ now → (number : ℕ) (file : FileId) (w : Wanted) (deadline : Moment) (lost : Bool) → x.body ≡ body.Ask number file w deadline lost
      → IsAskedStep (master_step m moment (input.Deliver x) choice)
  asked_step m moment x choice same time number file w deadline lost is =
      on_cond IsAskedStep m.up (master_bounded m (input.Deliver x) (master_goes m moment (input.Deliver x) choice.refused) choice) (no_step m)
      (λ _. on_cond IsAskedStep (may_end m (input.Deliver x) (master_goes m moment (input.Deliver x) choice.refused) choice.ending) (master_ends m (master_goes m moment (input.Deliver x) choice.refused) choice choice.ending) (no_step m)
      (λ _. ends_asked m (master_goes m moment (input.Deliver x) choice.refused) choice choice.ending goes) (λ _. inl (tt, refl))) (λ _. inl (tt, refl))
    where
      begun : IsKept (master_begins (master_at m moment) choice.refused)
      begun =
          record {
            next = subst (λ (k : Logged). k.next_handle ≤ m.logged.next_handle) same (omega arith);
            rows = λ handle row at. inl (row, ap (λ (k : Logged). chunk_of k.table handle) (sym same) ∙ at, refl, refl);
            copies = λ handle c at. ap (λ (k : Logged). table.get k.copies handle) (sym same) ∙ at;
            now_is = time;
            quiet = (tt, refl);
          }

      goes : Post (master_goes m moment (input.Deliver x) choice.refused)
      goes =
          let start : MasterDoing = master_begins (master_at m moment) choice.refused in
          let done : MasterDoing = master_takes start x x.body in
          ready_post done done.master.snapshots (subst (λ (b : Body). Post (master_takes start x b)) (sym is) (ask_post start x.sender number file.0 w deadline.0 lost begun))

pub ready_later : (m : MasterState) (moment : ℕ) → ((handle : ℕ) (c : Copy) → table.get m.logged.copies handle ≡ Some c → HasEnded m.now (rows_of m.logged) handle)
    → (handle : ℕ) (c : Copy) → table.get m.logged.copies handle ≡ Some c → HasEnded (max m.now moment) (rows_of m.logged) handle
ready_later m moment ready handle c at row is = let low = ready handle c at row is in let later = le-max_left m.now moment in omega (arith, low, later)

-- the step on an Ask
pub step_asked : (m : MasterState) (moment : ℕ) (i : NodeInput) (choice : Choice) (ready : (handle : ℕ) (c : Copy) → table.get m.logged.copies handle ≡ Some c → HasEnded m.now (rows_of m.logged) handle) → IsAsk i
    → IsAskedStep m.logged (max m.now moment) (ready_later m moment ready) (master_step m moment i choice)
step_asked m moment i choice ready ask =
    subst (λ (j : NodeInput). IsAskedStep m.logged (max m.now moment) (ready_later m moment ready) (master_step m moment j choice)) (sym ask.taken)
    (asked_step m.logged (max m.now moment) (ready_later m moment ready) m moment ask.message choice refl refl ask.number ask.file ask.what ask.deadline ask.lost ask.is)
