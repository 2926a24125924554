-- A message about chunks in a step of the master: whatever is kept by messages that answer no name call, records about chunks, checkpoints, copies given up and ends of leases.
use Rattle.std.proofs.Common.{◌≡◌, ℕ, zero, suc, ◌+◌, Bool, true, false, cond, List, [], ◌∷◌, ◌++◌, map, length, Option, Some, None, is_some, refl, ap, ◌∙◌}
use Rattle.std.specs.Prelude.{◌==◌, ◌&&◌, not, nat_lt, nat_le}
use Rattle.std.specs.FinMap as table
use Rattle.gfs_types.specs.declared.ids.Node.{Node}
use Rattle.gfs_types.specs.declared.ids.Node.TheVariants as node
use Rattle.gfs_types.specs.declared.ids.OrderNo.{OrderNo}
use Rattle.gfs_types.specs.declared.refusal.Refusal.TheVariants.{TooLong, Collected}
use Rattle.messages.specs.declared.message.Body.{Body}
use Rattle.messages.specs.declared.message.Body.TheVariants as body
use Rattle.messages.specs.declared.message.Message.{Message}
use Rattle.messages.specs.declared.message.Holder.{Holder}
use Rattle.messages.specs.declared.message.Wanted.{Wanted}
use Rattle.messages.specs.declared.message.Wanted.TheVariants as wanted
use Rattle.messages.specs.declared.message.ReplicaLine.{ReplicaLine}
use Rattle.messages.specs.declared.message.LeaseLine.{LeaseLine}
use Rattle.log_records.specs.declared.record.Record.{Record}
use Rattle.log_records.specs.declared.record.Record.TheVariants as log
use Rattle.protocol.specs.Tables.{element_at, has_number, with_number, rising}
use Rattle.protocol.specs.Sending.{message, the_server, server_number, server_id, file_id, handle_of, version_of, moment_of}
use Rattle.chunk_table.specs.ChunkTable.{ChunkRow, file_of, chunk_of, set_end}
use Rattle.leases.specs.LeaseEnds.{has_ended}
use Rattle.protocol.specs.LogSizes.{checkpoint_fits}
use Rattle.protocol.specs.Logged.{Logged, LogDisk, LogChange, AppendRecord, WriteCheckpoint, log_changed, after_record, checkpoint_of, copies_given_up, all_copies_given_up}
use Rattle.protocol.specs.Master.{MasterDoing, VersionAttempt, PendingSnapshot, HeldAt, tells, orders, ends_at, with_attempt, without_attempt, gives_up_copies, gives_up_copy, fits, appends, writes_checkpoint, logs, logs_after_checkpoint, is_of_copy, has_lease, holders_where, current_holders}
use Rattle.protocol.specs.MasterSnapshots.{waits_for, revokes, revokes_row}
use Rattle.protocol.specs.MasterVersions.{Asker, VersionTarget, holder_line, group_of, tells_location, tells_holders, tells_none, tells_to_wait, version_order, sends_versions, new_attempt, sends_issued, issues_to, targets_by, recorded_holders, issues_own, is_attempted, copy_order, sends_copies, copy_targets, sends_copy_started, copies_to, begins_copy, copy_for, is_copied, wants_own, wants_own_of, issues_copy, wants_copy, wants_by, wants_primary, holder_target, sends_grant, grants_to, is_complete, with_recorded, learns_attempt, learns, chunk_size_of}
use Rattle.protocol.specs.declared.seen.Seen.TheVariants.{CopyStarted}
use Rattle.protocol.specs.MasterAsks.{looks_at_row, looks_at, mutates_row, mutates_at, adds_chunk, with_index, asks_to_write, asks_to_append, asks_for_last, asks_for, asks_of, takes_ask}
use Rattle.protocol.specs.MasterReports.{revoked_row, is_useless, drops_useless, learns_all, may_extend, extends_row, extends_all, hears, takes_report}
use Rattle.protocol.specs.MasterStep.{master_takes}
use Rattle.laws_base.proofs.LeaseOrders.{revoke_order, grant_order}
use Rattle.laws_names.specs.NameSteps.{IsOfChunks}
use Rattle.laws_names.specs.ChunkSteps.{AreCopiesOfFiles, IsAboutChunks}
use Rattle.laws_names.proofs.ChunkRecords.{HasFile, AreSameFiles, Leaves, less_copied, adds, issues, starts, grants}

on_test : {A : Type 0} (P : A → Type 0) (b : Bool) (x y : A) → P x → P y → P (cond b x y)
on_test P true x y f g = f
on_test P false x y f g = g

-- a body that answers no name call
abbrev pub IsUnnamed : Body → Type 0
IsUnnamed (body.Named number reply) = ⊥
IsUnnamed other = Unit {0}

-- what is kept, of the master's state, its disk, and the changes and messages of the step
pub record KeepsChunks (P : List PendingSnapshot → Logged → LogDisk → List LogChange → List Message → Type 0) : Type 0 where
  pub tells : (ss : List PendingSnapshot) (l : Logged) (k : LogDisk) (cs : List LogChange) (sent : List Message) (x : Message) → IsUnnamed x.body → P ss l k cs sent → P ss l k cs (sent ++ x ∷ [])
  pub records : (ss : List PendingSnapshot) (l : Logged) (k : LogDisk) (cs : List LogChange) (sent : List Message) (r : Record) → IsOfChunks l r → P ss l k cs sent → P ss (after_record l r) (log_changed k (AppendRecord r)) (cs ++ AppendRecord r ∷ []) sent
  pub checkpoint : (ss : List PendingSnapshot) (l : Logged) (k : LogDisk) (cs : List LogChange) (sent : List Message) → P ss l k cs sent
      → P ss (all_copies_given_up l) (log_changed k (WriteCheckpoint (checkpoint_of l))) (cs ++ WriteCheckpoint (checkpoint_of l) ∷ []) sent
  pub less : (ss : List PendingSnapshot) (l : Logged) (k : LogDisk) (cs : List LogChange) (sent : List Message) (handles : List ℕ) → P ss l k cs sent → P ss (copies_given_up l handles) k cs sent
  pub ends : (ss : List PendingSnapshot) (l : Logged) (k : LogDisk) (cs : List LogChange) (sent : List Message) (handle moment : ℕ) → P ss l k cs sent → P ss (record l { table = set_end l.table handle moment }) k cs sent

module _ (P : List PendingSnapshot → Logged → LogDisk → List LogChange → List Message → Type 0) (keeps : KeepsChunks P) where
  abbrev pub Here : MasterDoing → Type 0
  Here d = P d.master.snapshots d.master.logged d.master.disk d.changes d.sent × AreCopiesOfFiles d.master.logged

  abbrev IsThere : MasterDoing → Asker → Type 0
  IsThere d a = HasFile d.master.logged a.file

  tells_here : (d : MasterDoing) (receiver : Node) (b : Body) → IsUnnamed b → Here d → Here (tells d receiver b)
  tells_here d receiver b is h = (keeps.tells d.master.snapshots d.master.logged d.master.disk d.changes d.sent (message node.Master receiver b) is h.0, h.1)

  pub orders_here : (d : MasterDoing) (server : ℕ) (b : OrderNo → Body) → ((o : OrderNo) → IsUnnamed (b o)) → Here d → Here (orders d server b)
  orders_here d server b is h = (keeps.tells d.master.snapshots d.master.logged d.master.disk d.changes d.sent (message node.Master (the_server server) (b _)) (is _) h.0, h.1)

  pub less_here : (d : MasterDoing) (handles : List ℕ) → Here d → Here (gives_up_copies d handles)
  less_here d handles h = (keeps.less d.master.snapshots d.master.logged d.master.disk d.changes d.sent handles h.0, less_copied d.master.logged handles h.1)

  ends_here : (d : MasterDoing) (handle moment : ℕ) → Here d → Here (ends_at d handle moment)
  ends_here d handle moment h = (keeps.ends d.master.snapshots d.master.logged d.master.disk d.changes d.sent handle moment h.0, h.1)

  -- a record about chunks, and what follows it
  logs_here : (d : MasterDoing) (r : Record) (then_ : MasterDoing → MasterDoing)
      → ((l : Logged) → AreSameFiles d.master.logged l → AreCopiesOfFiles l → Leaves l r) → ((e : MasterDoing) → AreSameFiles d.master.logged e.master.logged → Here e → Here (then_ e)) → Here d → Here (logs d r then_)
  logs_here d r then_ leaves go h =
      let was : Bool = is_of_copy d.master.logged r in
      let e : MasterDoing = writes_checkpoint d in
      let at : Here e = (keeps.checkpoint d.master.snapshots d.master.logged d.master.disk d.changes d.sent h.0, less_copied d.master.logged (table.keys d.master.logged.copies) h.1) in
      let one : Leaves d.master.logged r = leaves d.master.logged (λ q. refl) h.1 in
      let two : Leaves e.master.logged r = leaves e.master.logged (λ q. refl) at.1 in
      on_test Here (fits d r) (then_ (appends d r)) _
      (go (appends d r) one.files (keeps.records d.master.snapshots d.master.logged d.master.disk d.changes d.sent r one.due h.0, one.copied))
      (on_test Here (checkpoint_fits d.master.config.log_bytes (checkpoint_of d.master.logged)) (logs_after_checkpoint e r was then_) d
      (on_test Here (fits e r && not was) (then_ (appends e r)) e
      (go (appends e r) two.files (keeps.records e.master.snapshots e.master.logged e.master.disk e.changes e.sent r two.due at.0, two.copied)) at) h)

  location_here : (d : MasterDoing) (a : Asker) (handle : ℕ) (row : ChunkRow) (holders : List Holder) → Here d → Here (tells_location d a handle row holders)
  location_here d a handle row holders h =
      tells_here d a.client (body.Told a.number (Some (record { index = a.index; handle = handle_of handle; round = version_of row.granted; shape = row.shape; holders = holders; group = group_of d.master row }))) tt h

  holders_here : (d : MasterDoing) (a : Asker) (handle : ℕ) (row : ChunkRow) → Here d → Here (tells_holders d a handle row)
  holders_here d a handle row h = location_here d a handle row (map holder_line (current_holders d.master handle row)) h

  none_here : (d : MasterDoing) (a : Asker) → Here d → Here (tells_none d a)
  none_here d a h = tells_here d a.client (body.Told a.number None) tt h

  wait_here : (d : MasterDoing) (a : Asker) → Here d → Here (tells_to_wait d a)
  wait_here d a h = tells_here d a.client (body.Wait a.number) tt h

  version_unnamed : (handle version : ℕ) (base : Option ℕ) (o : OrderNo) → IsUnnamed (version_order handle version base o)
  version_unnamed handle version None o = tt
  version_unnamed handle version (Some base) o = tt

  copy_unnamed : (handle copy version : ℕ) (base : Option ℕ) (o : OrderNo) → IsUnnamed (copy_order handle copy version base o)
  copy_unnamed handle copy version None o = tt
  copy_unnamed handle copy version (Some base) o = tt

  versions_here : (d : MasterDoing) (handle version : ℕ) (targets : List VersionTarget) → Here d → Here (sends_versions d handle version targets)
  versions_here d handle version [] h = h
  versions_here d handle version (t ∷ rest) h =
      versions_here (orders d t.server (version_order handle version t.base)) handle version rest (orders_here d t.server (version_order handle version t.base) (version_unnamed handle version t.base) h)

  issued_here : (d : MasterDoing) (a : Asker) (handle version : ℕ) (targets : List VersionTarget) → Here d → Here (sends_issued d a handle version targets)
  issued_here d a handle version targets h =
      let tried : MasterDoing = with_attempt d handle (new_attempt d.master version targets) in
      wait_here (sends_versions tried handle version targets) a (versions_here tried handle version targets h)

  issues_here : (d : MasterDoing) (a : Asker) (own : ℕ) (own_row : ChunkRow) (handle : ℕ) (row : ChunkRow) (targets : List VersionTarget) → Here d → Here (issues_to d a own own_row handle row targets)
  issues_here d a own own_row handle row [] h = location_here d a own own_row [] h
  issues_here d a own own_row handle row (t ∷ rest) h =
      logs_here d (log.Issue (handle_of handle) (version_of (suc row.issued))) (λ e. sends_issued e a handle (suc row.issued) (t ∷ rest))
      (λ l same copied. issues l (handle_of handle) (version_of (suc row.issued)) copied) (λ e same g. issued_here e a handle (suc row.issued) (t ∷ rest) g) h

  own_here : (d : MasterDoing) (a : Asker) (handle : ℕ) (row : ChunkRow) (b : Bool) → Here d → Here (issues_own d a handle row b)
  own_here d a handle row true h = wait_here d a h
  own_here d a handle row false h = issues_here d a handle row handle row (targets_by d.master handle row (recorded_holders d.master handle row)) h

  copies_here : (d : MasterDoing) (handle copy version : ℕ) (targets : List VersionTarget) → Here d → Here (sends_copies d handle copy version targets)
  copies_here d handle copy version [] h = h
  copies_here d handle copy version (t ∷ rest) h =
      copies_here (orders d t.server (copy_order handle copy version t.base)) handle copy version rest (orders_here d t.server (copy_order handle copy version t.base) (copy_unnamed handle copy version t.base) h)

  started_here : (d : MasterDoing) (a : Asker) (handle copy version : ℕ) (targets : List VersionTarget) → Here d → Here (sends_copy_started d a handle copy version targets)
  started_here d a handle copy version targets h =
      let seen : MasterDoing = record d { seen = d.seen ++ CopyStarted (handle_of handle) (handle_of copy) ∷ [] } in
      let tried : MasterDoing = with_attempt seen copy (new_attempt d.master version targets) in
      wait_here (sends_copies tried handle copy version targets) a (copies_here tried handle copy version targets h)

  copies_to_here : (d : MasterDoing) (a : Asker) (handle : ℕ) (row : ChunkRow) (targets : List VersionTarget) → IsThere d a → Here d → Here (copies_to d a handle row targets)
  copies_to_here d a handle row [] there h = location_here d a handle row [] h
  copies_to_here d a handle row (t ∷ rest) there h =
      let copy : ℕ = d.master.logged.next_handle in
      logs_here d (log.CopyStart (file_id a.file) a.index (handle_of handle) (handle_of copy) (version_of (suc row.issued))) (λ e. sends_copy_started e a handle copy (suc row.issued) (t ∷ rest))
      (λ l same copied. starts l (file_id a.file) a.index (handle_of handle) (handle_of copy) (version_of (suc row.issued)) (same a.file ∙ there) copied)
      (λ e same g. started_here e a handle copy (suc row.issued) (t ∷ rest) g) h

  wants_own_here : (d : MasterDoing) (a : Asker) (handle : ℕ) (row : ChunkRow) → IsThere d a → Here d → Here (wants_own d a handle row)
  wants_own_here d a handle row there h =
      on_test Here (nat_lt 1 row.references) (begins_copy d a handle row) _ (copies_to_here d a handle row (copy_targets d.master handle row) there h)
      (on_test Here (is_copied d.master.logged handle) (tells_to_wait d a) (issues_own d a handle row (is_attempted d.master handle)) (wait_here d a h) (own_here d a handle row (is_attempted d.master handle) h))

  wants_own_of_here : (d : MasterDoing) (a : Asker) (handle : ℕ) (o : Option ChunkRow) → IsThere d a → Here d → Here (wants_own_of d a handle o)
  wants_own_of_here d a handle None there h = h
  wants_own_of_here d a handle (Some row) there h = wants_own_here d a handle row there h

  issues_copy_here : (d : MasterDoing) (a : Asker) (handle : ℕ) (row : ChunkRow) (copy : ℕ) (copy_row : ChunkRow) (holders : List HeldAt) → IsThere d a → Here d → Here (issues_copy d a handle row copy copy_row holders)
  issues_copy_here d a handle row copy copy_row [] there h =
      let given_up : MasterDoing = gives_up_copy d copy in
      wants_own_of_here given_up a handle (chunk_of given_up.master.logged.table handle) there (less_here d (copy ∷ []) h)
  issues_copy_here d a handle row copy copy_row (t ∷ rest) there h = issues_here d a handle row copy copy_row (map holder_target (t ∷ rest)) h

  wants_copy_here : (d : MasterDoing) (a : Asker) (handle : ℕ) (row : ChunkRow) (copy : ℕ) (o : Option ChunkRow) → IsThere d a → Here d → Here (wants_copy d a handle row copy o)
  wants_copy_here d a handle row copy None there h = wants_own_here d a handle row there h
  wants_copy_here d a handle row copy (Some copy_row) there h =
      on_test Here (is_attempted d.master copy) (tells_to_wait d a) (issues_copy d a handle row copy copy_row (holders_where d.master copy (λ v. v == copy_row.issued))) (wait_here d a h)
      (issues_copy_here d a handle row copy copy_row (holders_where d.master copy (λ v. v == copy_row.issued)) there h)

  wants_by_here : (d : MasterDoing) (a : Asker) (handle : ℕ) (row : ChunkRow) (o : Option ℕ) → IsThere d a → Here d → Here (wants_by d a handle row o)
  wants_by_here d a handle row None there h = wants_own_here d a handle row there h
  wants_by_here d a handle row (Some copy) there h = wants_copy_here d a handle row copy (chunk_of d.master.logged.table copy) there h

  wants_primary_here : (d : MasterDoing) (a : Asker) (handle : ℕ) (row : ChunkRow) → IsThere d a → Here d → Here (wants_primary d a handle row)
  wants_primary_here d a handle row there h =
      on_test Here (waits_for d.master handle) (tells_to_wait d a) (wants_by d a handle row (copy_for d.master.logged a.file a.index)) (wait_here d a h)
      (wants_by_here d a handle row (copy_for d.master.logged a.file a.index) there h)

  revokes_row_here : (d : MasterDoing) (handle : ℕ) (o : Option ChunkRow) → Here d → Here (revokes_row d handle o)
  revokes_row_here d handle None h = h
  revokes_row_here d handle (Some row) h =
      on_test Here (has_lease d.master row) (orders d row.primary (revoke_order handle row)) d
      (orders_here d row.primary (revoke_order handle row) (λ o. tt) h) h

  revoked_for : (d : MasterDoing) (lost : Bool) (handle : ℕ) → Here d → Here (cond lost (revokes d handle) d)
  revoked_for d lost handle h = on_test Here lost (revokes d handle) d (revokes_row_here d handle (chunk_of d.master.logged.table handle) h) h

  mutates_row_here : (d : MasterDoing) (a : Asker) (lost : Bool) (handle : ℕ) (o : Option ChunkRow) → IsThere d a → Here d → Here (mutates_row d a lost handle o)
  mutates_row_here d a lost handle None there h = h
  mutates_row_here d a lost handle (Some row) there h =
      on_test Here (has_ended row d.master.now) (wants_primary d a handle row) (tells_holders (cond lost (revokes d handle) d) a handle row) (wants_primary_here d a handle row there h)
      (holders_here (cond lost (revokes d handle) d) a handle row (revoked_for d lost handle h))

  mutates_at_here : (d : MasterDoing) (a : Asker) (lost : Bool) (o : Option ℕ) → IsThere d a → Here d → Here (mutates_at d a lost o)
  mutates_at_here d a lost None there h = h
  mutates_at_here d a lost (Some handle) there h = mutates_row_here d a lost handle (chunk_of d.master.logged.table handle) there h

  adds_here : (d : MasterDoing) (a : Asker) (lost : Bool) → IsThere d a → Here d → Here (adds_chunk d a lost)
  adds_here d a lost there h =
      let handle : ℕ = d.master.logged.next_handle in
      logs_here d (log.AddChunk (file_id a.file) (handle_of handle)) (λ e. mutates_at e a lost (Some handle)) (λ l same copied. adds l (file_id a.file) (handle_of handle) (same a.file ∙ there) copied)
      (λ e same g. mutates_at_here e a lost (Some handle) (same a.file ∙ there) g) h

  looks_row_here : (d : MasterDoing) (a : Asker) (handle : ℕ) (o : Option ChunkRow) → Here d → Here (looks_at_row d a handle o)
  looks_row_here d a handle None h = h
  looks_row_here d a handle (Some row) h = holders_here d a handle row h

  looks_here : (d : MasterDoing) (a : Asker) (o : Option ℕ) → Here d → Here (looks_at d a o)
  looks_here d a None h = none_here d a h
  looks_here d a (Some handle) h = looks_row_here d a handle (chunk_of d.master.logged.table handle) h

  write_here : (d : MasterDoing) (a : Asker) (lost : Bool) (handles : List ℕ) (index : ℕ) → IsThere d a → Here d → Here (asks_to_write d a lost handles index)
  write_here d a lost handles index there h =
      on_test Here (nat_lt (length handles) index) (tells d a.client (body.Refused a.number TooLong)) _ (tells_here d a.client (body.Refused a.number TooLong) tt h)
      (on_test Here (index == length handles) (adds_chunk d (with_index a index) lost) (mutates_at d (with_index a index) lost (element_at handles index)) (adds_here d (with_index a index) lost there h)
      (mutates_at_here d (with_index a index) lost (element_at handles index) there h))

  append_here : (d : MasterDoing) (a : Asker) (lost : Bool) (handles : List ℕ) (after count : ℕ) → IsThere d a → Here d → Here (asks_to_append d a lost handles after count)
  append_here d a lost handles after zero there h = adds_here d (with_index a 0) lost there h
  append_here d a lost handles after (suc last) there h =
      on_test Here (nat_lt last after) (adds_chunk d (with_index a (suc last)) lost) (mutates_at d (with_index a last) lost (element_at handles last)) (adds_here d (with_index a (suc last)) lost there h)
      (mutates_at_here d (with_index a last) lost (element_at handles last) there h)

  last_here : (d : MasterDoing) (a : Asker) (handles : List ℕ) (count : ℕ) → Here d → Here (asks_for_last d a handles count)
  last_here d a handles zero h = none_here d a h
  last_here d a handles (suc last) h = looks_here d (with_index a last) (element_at handles last) h

  asks_for_here : (d : MasterDoing) (a : Asker) (lost : Bool) (w : Wanted) (handles : List ℕ) → IsThere d a → Here d → Here (asks_for d a lost w handles)
  asks_for_here d a lost (wanted.Read index) handles there h = looks_here d (with_index a index) (element_at handles index) h
  asks_for_here d a lost (wanted.Write index) handles there h = write_here d a lost handles index there h
  asks_for_here d a lost (wanted.Append after) handles there h = append_here d a lost handles after (length handles) there h
  asks_for_here d a lost wanted.Last handles there h = last_here d a handles (length handles) h

  asks_of_here : (d : MasterDoing) (a : Asker) (lost : Bool) (w : Wanted) (o : Option (List ℕ)) → file_of d.master.logged.table a.file ≡ o → Here d → Here (asks_of d a lost w o)
  asks_of_here d a lost w None is h = tells_here d a.client (body.Refused a.number Collected) tt h
  asks_of_here d a lost w (Some handles) is h = asks_for_here d a lost w handles (ap is_some is) h

  ask_here : (d : MasterDoing) (client : Node) (number file : ℕ) (w : Wanted) (deadline : ℕ) (lost : Bool) → Here d → Here (takes_ask d client number file w deadline lost)
  ask_here d client number file w deadline lost h =
      let a : Asker = record { client = client; number = number; file = file; index = 0 } in
      on_test Here (nat_le deadline d.master.now) d (asks_of d a lost w (file_of d.master.logged.table file)) h (asks_of_here d a lost w (file_of d.master.logged.table file) refl h)

  -- what servers tell

  sends_grant_here : (d : MasterDoing) (handle version primary : ℕ) (members : List ℕ) → Here d → Here (sends_grant d handle version primary members)
  sends_grant_here d handle version primary members h =
      let until : ℕ = d.master.now + d.master.config.lease_ms in
      orders_here (ends_at (without_attempt d handle) handle until) primary (grant_order handle version until (chunk_size_of d.master.logged.table handle) members) (λ o. tt) (ends_here (without_attempt d handle) handle until h)

  grants_here : (d : MasterDoing) (handle : ℕ) (a : VersionAttempt) (servers : List ℕ) → Here d → Here (grants_to d handle a servers)
  grants_here d handle a [] h = h
  grants_here d handle a (primary ∷ rest) h =
      logs_here d (log.Grant (handle_of handle) (version_of a.version) (server_id primary) (primary ∷ rest)) (λ e. sends_grant e handle a.version primary (primary ∷ rest))
      (λ l same copied. grants l (handle_of handle) (version_of a.version) (server_id primary) (primary ∷ rest) copied) (λ e same g. sends_grant_here e handle a.version primary (primary ∷ rest) g) h

  recorded_here : (d : MasterDoing) (handle : ℕ) (a : VersionAttempt) → Here d → Here (with_recorded d handle a)
  recorded_here d handle a h = on_test Here (is_complete d.master a) (grants_to (with_attempt d handle a) handle a (rising a.servers)) (with_attempt d handle a) (grants_here (with_attempt d handle a) handle a (rising a.servers) h) h

  learns_attempt_here : (d : MasterDoing) (server handle version : ℕ) (row : Option ChunkRow) (a : Option VersionAttempt) → Here d → Here (learns_attempt d server handle version row a)
  learns_attempt_here d server handle version None a h = h
  learns_attempt_here d server handle version (Some row) None h = h
  learns_attempt_here d server handle version (Some row) (Some a) h =
      on_test Here ((a.version == version) && has_number a.servers server) (with_recorded d handle (record a { recorded = with_number a.recorded server })) d
      (recorded_here d handle (record a { recorded = with_number a.recorded server }) h) h

  learns_here : (d : MasterDoing) (server handle version : ℕ) → Here d → Here (learns d server handle version)
  learns_here d server handle version h = learns_attempt_here d server handle version (chunk_of d.master.logged.table handle) (table.get d.master.attempts handle) h

  revoked_here : (d : MasterDoing) (server handle version : ℕ) (o : Option ChunkRow) → Here d → Here (revoked_row d server handle version o)
  revoked_here d server handle version None h = h
  revoked_here d server handle version (Some row) h = on_test Here ((row.granted == version) && (row.primary == server)) (ends_at d handle 0) d (ends_here d handle 0 h) h

  drops_here : (d : MasterDoing) (server : ℕ) (lines : List ReplicaLine) → Here d → Here (drops_useless d server lines)
  drops_here d server [] h = h
  drops_here d server (line ∷ rest) h =
      let e : MasterDoing = cond (is_useless line.version.0 (chunk_of d.master.logged.table line.handle.0)) (orders d server (λ order. body.Drop order line.handle line.version)) d in
      drops_here e server rest
      (on_test Here (is_useless line.version.0 (chunk_of d.master.logged.table line.handle.0)) (orders d server (λ order. body.Drop order line.handle line.version)) d
      (orders_here d server (λ order. body.Drop order line.handle line.version) (λ o. tt) h) h)

  learns_all_here : (d : MasterDoing) (server : ℕ) (lines : List ReplicaLine) → Here d → Here (learns_all d server lines)
  learns_all_here d server [] h = h
  learns_all_here d server (line ∷ rest) h = learns_all_here (learns d server line.handle.0 line.version.0) server rest (learns_here d server line.handle.0 line.version.0 h)

  extends_row_here : (d : MasterDoing) (server : ℕ) (line : LeaseLine) (o : Option ChunkRow) → Here d → Here (extends_row d server line o)
  extends_row_here d server line None h = h
  extends_row_here d server line (Some row) h =
      let until : ℕ = d.master.now + d.master.config.lease_ms in
      on_test Here (may_extend d.master server line row && nat_lt row.lease_end until) (tells (ends_at d line.handle.0 until) (the_server server) (body.Extend line.handle line.version (moment_of until))) d
      (tells_here (ends_at d line.handle.0 until) (the_server server) (body.Extend line.handle line.version (moment_of until)) tt (ends_here d line.handle.0 until h)) h

  extends_all_here : (d : MasterDoing) (server : ℕ) (lines : List LeaseLine) → Here d → Here (extends_all d server lines)
  extends_all_here d server [] h = h
  extends_all_here d server (line ∷ rest) h = extends_all_here (extends_row d server line (chunk_of d.master.logged.table line.handle.0)) server rest (extends_row_here d server line (chunk_of d.master.logged.table line.handle.0) h)

  report_here : (d : MasterDoing) (server : ℕ) (replicas : List ReplicaLine) (leases : List LeaseLine) → Here d → Here (takes_report d server replicas leases)
  report_here d server replicas leases h =
      let a : MasterDoing = drops_useless (hears d server replicas) server replicas in
      extends_all_here (learns_all a server replicas) server leases (learns_all_here a server replicas (drops_here (hears d server replicas) server replicas h))

  pub takes_here : (d : MasterDoing) (x : Message) (b : Body) → IsAboutChunks b → Here d → Here (master_takes d x b)
  takes_here d x (body.Name number deadline c) is h = absurd is
  takes_here d x (body.Look number c) is h = absurd is
  takes_here d x (body.Ask number file w deadline lost) is h = ask_here d x.sender number file.0 w deadline.0 lost h
  takes_here d x (body.Recorded handle version) is h = learns_here _ (server_number x.sender) handle.0 version.0 h
  takes_here d x (body.Revoked handle version) is h = revoked_here d (server_number x.sender) handle.0 version.0 (chunk_of d.master.logged.table handle.0) h
  takes_here d x (body.Cloned handle version) is h = h
  takes_here d x (body.Report replicas leases) is h = report_here d (server_number x.sender) replicas leases h
  takes_here d x other is h = h
