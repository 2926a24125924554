-- A step of the master changes the list of chunks of a file that was there before only where a change of its log is of that file.
use Rattle.std.specs.Prelude.{◌&&◌, ◌+◌, not, ⊤}
use Rattle.std.proofs.Common.{◌≡◌, ◌==◌, ℕ, zero, suc, Bool, true, false, cond, ◌<◌, List, [], ◌∷◌, ◌++◌, map, Option, Some, None, length, refl, sym, ap, ◌∙◌, arith}
use Rattle.std.specs.Prelude.{◌||◌, option_map}
use Rattle.std.specs.List.{cons_option}
use Rattle.std.proofs.lemmas.Bool.{eqb-false}
use Rattle.std.specs.FinMap as table
use Rattle.gfs_types.specs.declared.ids.Node.{Node}
use Rattle.messages.specs.declared.message.Body.{Body}
use Rattle.messages.specs.declared.message.Body.TheVariants as body
use Rattle.messages.specs.declared.message.Message.{Message}
use Rattle.messages.specs.declared.message.Wanted.{Wanted}
use Rattle.messages.specs.declared.message.Wanted.TheVariants as wanted
use Rattle.messages.specs.declared.message.ReplicaLine.{ReplicaLine}
use Rattle.messages.specs.declared.message.LeaseLine.{LeaseLine}
use Rattle.log_records.specs.declared.record.Record.{Record}
use Rattle.log_records.specs.declared.record.Record.TheVariants as log
use Rattle.protocol.specs.declared.seen.Seen.TheVariants.{CopyStarted}
use Rattle.protocol.specs.Sending.{server_number, server_id, file_id, handle_of, version_of, client_number, client_id, moment_of}
use Rattle.chunk_table.specs.ChunkTable.{ChunkRow, chunk_of, file_of}
use Rattle.protocol.specs.Tables.{has_number, Table, rising, with_number, element_at}
use Rattle.protocol.specs.LogSizes.{checkpoint_fits}
use Rattle.protocol.specs.Logged.{Logged, Copy, checkpoint_of, KeptCall}
use Rattle.leases.specs.LeaseEnds.{has_ended}
use Rattle.protocol.specs.Master.{MasterDoing, VersionAttempt, HeldAt, appends, fits, is_of_copy, writes_checkpoint, logs, logs_after_checkpoint, holders_where, with_attempt, gives_up_copy, orders, MasterState, PendingSnapshot, master_begins, without_attempts, gives_up_copies, has_lease}
use Rattle.protocol.specs.MasterSnapshots.{waits_for, revokes, revokes_row, answers_name, revokes_all, takes_locks, snapshot_handles, snapshot_files, copies_for_files, begins_snapshot, settles_name, first_is_true, all_but_first, changes_names, is_ready, lets_go, takes_snapshot, takes_ready}
use Rattle.protocol.specs.MasterVersions.{Asker, VersionTarget, holder_target, tells_holders, tells_to_wait, sends_versions, version_order, new_attempt, sends_issued, issues_to, targets_by, recorded_holders, issues_own, is_attempted, copy_order, sends_copies, sends_copy_started, copy_targets, copies_to, copy_for, is_copied, wants_own, wants_own_of, issues_copy, wants_copy, wants_by, wants_primary, sends_grant, grants_to, is_complete, learns_attempt, learns}
use Rattle.protocol.specs.MasterAsks.{looks_at_row, looks_at, mutates_row, mutates_at, adds_chunk, with_index, asks_to_write, asks_to_append, asks_for_last, asks_for, asks_of, takes_ask}
use Rattle.protocol.specs.MasterReports.{is_useless, may_extend, holds_now, takes_recorded, revoked_row, takes_revoked, drops_useless, learns_all, extends_row, extends_all, hears, takes_report}
use Rattle.protocol.specs.MasterClones.{CloneOrder, best_clone, orders_clone, clones_next}
use Rattle.protocol.specs.MasterStep.{gives_up_attempts, gives_up_lost_copies, lost_copies, expires_all, expired_files, master_ticks, master_takes, master_does, master_at, master_goes}
use Rattle.gfs_types.specs.declared.call.Call.{Call}
use Rattle.gfs_types.specs.declared.call.Call.TheVariants as call
use Rattle.gfs_types.specs.declared.refusal.Refusal.{Refusal}
use Rattle.messages.specs.declared.event.NodeInput.{NodeInput}
use Rattle.messages.specs.declared.event.NodeInput.TheVariants as input
use Rattle.gfs_types.specs.declared.refusal.Refusal.TheVariants.{NamesFull}
use Rattle.relaxed_file.specs.NameStep.{needs_room}
use Rattle.std.specs.Prelude.{◌==◌, nat_lt, nat_le}
use Rattle.protocol.specs.MasterNames.{master_refusal, performs, names_by, is_waiting_call, names_anew, names_kept, told_shape}
use Rattle.protocol.specs.Logged.{LogChange, AppendRecord, WriteCheckpoint}
use Rattle.master_cell.specs.ChangedFiles.{file_changed_by, files_changed}
use Rattle.master_cell.proofs.FileRecords.{IsOfStep, Agrees, given_up, recorded}

-- none of these changes is of the file
abbrev pub Spares : Table ℕ → ℕ → List LogChange → Type 0
Spares copied q [] = ⊤
Spares copied q (c ∷ rest) = (file_changed_by copied c ≡ Some q → ⊥) × Spares copied q rest

-- the changes of the log so far, and what the log keeps
abbrev pub seen_of : MasterDoing → List LogChange × Logged
seen_of d = (d.changes, d.master.logged)

-- Where no change up to here is of the file, none before was, and its list stays.
pub record LeavesFile (before : Logged) (copied : Table ℕ) (q : ℕ) (s : List LogChange × Logged) (y : MasterDoing) : Type 0 where
  pub back : Spares copied q y.changes → Spares copied q s.0
  pub goes : Spares copied q y.changes → Agrees before copied q s.1 → Agrees before copied q y.master.logged

module _ (before : Logged) (copied : Table ℕ) (q : ℕ) (older : q < before.next_file) where
  abbrev pub Leaves : List LogChange × Logged → MasterDoing → Type 0
  Leaves s y = LeavesFile before copied q s y

  chosen : {s : List LogChange × Logged} (b : Bool) {x y : MasterDoing} → Leaves s x → Leaves s y → Leaves s (cond b x y)
  chosen true p q = p
  chosen false p q = q

  first_then : {s : List LogChange × Logged} (x : MasterDoing) {y : MasterDoing} → Leaves s x → Leaves (seen_of x) y → Leaves s y
  first_then x p q = record { back = λ h. p.back (q.back h); goes = λ h a. q.goes h (p.goes (q.back h) a) }

  after : {s : List LogChange × Logged} (g : MasterDoing → MasterDoing) → ((e : MasterDoing) → Leaves (seen_of e) (g e)) → {y : MasterDoing} → Leaves s y → Leaves s (g y)
  after g leaves {y = y} p = first_then y p (leaves y)

  spared_before : (changes : List LogChange) (c : LogChange) → Spares copied q (changes ++ c ∷ []) → Spares copied q changes
  spared_before [] c h = tt
  spared_before (x ∷ rest) c h = (h.0, spared_before rest c h.1)

  spared_last : (changes : List LogChange) (c : LogChange) → Spares copied q (changes ++ c ∷ []) → file_changed_by copied c ≡ Some q → ⊥
  spared_last [] c h = h.0
  spared_last (x ∷ rest) c h = spared_last rest c h.1

  -- one change more
  was_changed : (changes : List LogChange) (c : LogChange) (l later : Logged) {y : MasterDoing} → ((file_changed_by copied c ≡ Some q → ⊥) → Agrees before copied q l → Agrees before copied q later)
      → Leaves (changes ++ c ∷ [], later) y → Leaves (changes, l) y
  was_changed changes c l later step p = record { back = λ h. spared_before changes c (p.back h); goes = λ h a. p.goes h (step (spared_last changes c (p.back h)) a) }

  after_checkpoint : (d : MasterDoing) (e : Record) (b : Bool) → IsOfStep d.master.logged.next_file e → (then_ : MasterDoing → MasterDoing) → ((x : MasterDoing) → Leaves (seen_of x) (then_ x))
      → Leaves (seen_of d) (logs_after_checkpoint d e b then_)
  after_checkpoint d e b step then_ keeps =
      chosen (fits d e && not b) {y = d} (was_changed d.changes (AppendRecord e) d.master.logged (appends d e).master.logged (recorded before copied q older d.master.logged e step) (keeps (appends d e)))
      (record { back = λ h. h; goes = λ h a. a })

  logs_keep : (d : MasterDoing) (e : Record) → IsOfStep d.master.logged.next_file e → (then_ : MasterDoing → MasterDoing) → ((x : MasterDoing) → Leaves (seen_of x) (then_ x)) → Leaves (seen_of d) (logs d e then_)
  logs_keep d e step then_ keeps =
      chosen (fits d e) (was_changed d.changes (AppendRecord e) d.master.logged (appends d e).master.logged (recorded before copied q older d.master.logged e step) (keeps (appends d e)))
      (chosen (checkpoint_fits d.master.config.log_bytes (checkpoint_of d.master.logged)) {y = d}
      (was_changed d.changes (WriteCheckpoint (checkpoint_of d.master.logged)) d.master.logged (writes_checkpoint d).master.logged (λ _ a. given_up before copied q d.master.logged (table.keys d.master.logged.copies) a)
      (after_checkpoint (writes_checkpoint d) e (is_of_copy d.master.logged e) step then_ keeps))
      (record { back = λ h. h; goes = λ h a. a }))

  gives_up : (d : MasterDoing) (handles : List ℕ) → Leaves (seen_of d) (gives_up_copies d handles)
  gives_up d handles = record { back = λ h. h; goes = λ h a. given_up before copied q d.master.logged handles a }

  sends_versions_keep : (d : MasterDoing) (handle version : ℕ) (targets : List VersionTarget) → Leaves (seen_of d) (sends_versions d handle version targets)
  sends_versions_keep d handle version [] = (record { back = λ h. h; goes = λ h a. a })
  sends_versions_keep d handle version (t ∷ rest) = sends_versions_keep (orders d t.server (version_order handle version t.base)) handle version rest

  sends_issued_keep : (d : MasterDoing) (a : Asker) (handle version : ℕ) (targets : List VersionTarget) → Leaves (seen_of d) (sends_issued d a handle version targets)
  sends_issued_keep d a handle version targets =
      after (λ x. tells_to_wait x a) (λ _. (record { back = λ h. h; goes = λ h a. a })) (sends_versions_keep (with_attempt d handle (new_attempt d.master version targets)) handle version targets)

  issues_to_keep : (d : MasterDoing) (a : Asker) (own : ℕ) (own_row : ChunkRow) (handle : ℕ) (row : ChunkRow) (targets : List VersionTarget)
      → Leaves (seen_of d) (issues_to d a own own_row handle row targets)
  issues_to_keep d a own own_row handle row [] = (record { back = λ h. h; goes = λ h a. a })
  issues_to_keep d a own own_row handle row (t ∷ ts) = logs_keep d (log.Issue (handle_of handle) (version_of (suc row.issued))) tt (λ e. sends_issued e a handle (suc row.issued) (t ∷ ts)) (λ e. sends_issued_keep e a handle (suc row.issued) (t ∷ ts))

  issues_own_keep : (d : MasterDoing) (a : Asker) (handle : ℕ) (row : ChunkRow) (b : Bool) → Leaves (seen_of d) (issues_own d a handle row b)
  issues_own_keep d a handle row true = (record { back = λ h. h; goes = λ h a. a })
  issues_own_keep d a handle row false = issues_to_keep d a handle row handle row (targets_by d.master handle row (recorded_holders d.master handle row))

  sends_copies_keep : (d : MasterDoing) (handle copy version : ℕ) (targets : List VersionTarget) → Leaves (seen_of d) (sends_copies d handle copy version targets)
  sends_copies_keep d handle copy version [] = (record { back = λ h. h; goes = λ h a. a })
  sends_copies_keep d handle copy version (t ∷ rest) = sends_copies_keep (orders d t.server (copy_order handle copy version t.base)) handle copy version rest

  sends_copy_started_keep : (d : MasterDoing) (a : Asker) (handle copy version : ℕ) (targets : List VersionTarget)
      → Leaves (seen_of d) (sends_copy_started d a handle copy version targets)
  sends_copy_started_keep d a handle copy version targets = after (λ x. tells_to_wait x a) (λ _. (record { back = λ h. h; goes = λ h a. a })) (sends_copies_keep (with_attempt (record d { seen = d.seen ++ CopyStarted (handle_of handle) (handle_of copy) ∷ [] }) copy (new_attempt d.master version targets)) handle copy version targets)

  copies_to_keep : (d : MasterDoing) (a : Asker) (handle : ℕ) (row : ChunkRow) (targets : List VersionTarget) → Leaves (seen_of d) (copies_to d a handle row targets)
  copies_to_keep d a handle row [] = (record { back = λ h. h; goes = λ h a. a })
  copies_to_keep d a handle row (t ∷ ts) =
      logs_keep d (log.CopyStart (file_id a.file) a.index (handle_of handle) (handle_of d.master.logged.next_handle) (version_of (suc row.issued))) tt
      (λ e. sends_copy_started e a handle d.master.logged.next_handle (suc row.issued) (t ∷ ts)) (λ e. sends_copy_started_keep e a handle d.master.logged.next_handle (suc row.issued) (t ∷ ts))

  wants_own_keep : (d : MasterDoing) (a : Asker) (handle : ℕ) (row : ChunkRow) → Leaves (seen_of d) (wants_own d a handle row)
  wants_own_keep d a handle row =
      chosen _ (copies_to_keep d a handle row (copy_targets d.master handle row))
      (chosen (is_copied d.master.logged handle) (record { back = λ h. h; goes = λ h a. a }) (issues_own_keep d a handle row (is_attempted d.master handle)))

  wants_own_of_keep : (d : MasterDoing) (a : Asker) (handle : ℕ) (row : Option ChunkRow) → Leaves (seen_of d) (wants_own_of d a handle row)
  wants_own_of_keep d a handle None = (record { back = λ h. h; goes = λ h a. a })
  wants_own_of_keep d a handle (Some row) = wants_own_keep d a handle row

  issues_copy_keep : (d : MasterDoing) (a : Asker) (handle : ℕ) (row : ChunkRow) (copy : ℕ) (copy_row : ChunkRow) (holders : List HeldAt)
      → Leaves (seen_of d) (issues_copy d a handle row copy copy_row holders)
  issues_copy_keep d a handle row copy copy_row [] = first_then (gives_up_copy d copy) (gives_up d (copy ∷ [])) (wants_own_of_keep (gives_up_copy d copy) a handle (chunk_of (gives_up_copy d copy).master.logged.table handle))
  issues_copy_keep d a handle row copy copy_row (h ∷ hs) = issues_to_keep d a handle row copy copy_row (map holder_target (h ∷ hs))

  wants_copy_keep : (d : MasterDoing) (a : Asker) (handle : ℕ) (row : ChunkRow) (copy : ℕ) (copy_row : Option ChunkRow)
      → Leaves (seen_of d) (wants_copy d a handle row copy copy_row)
  wants_copy_keep d a handle row copy None = wants_own_keep d a handle row
  wants_copy_keep d a handle row copy (Some copy_row) = chosen (is_attempted d.master copy) (record { back = λ h. h; goes = λ h a. a }) (issues_copy_keep d a handle row copy copy_row (holders_where d.master copy (λ v. v == copy_row.issued)))

  wants_by_keep : (d : MasterDoing) (a : Asker) (handle : ℕ) (row : ChunkRow) (copy : Option ℕ) → Leaves (seen_of d) (wants_by d a handle row copy)
  wants_by_keep d a handle row None = wants_own_keep d a handle row
  wants_by_keep d a handle row (Some copy) = wants_copy_keep d a handle row copy (chunk_of d.master.logged.table copy)

  wants_primary_keep : (d : MasterDoing) (a : Asker) (handle : ℕ) (row : ChunkRow) → Leaves (seen_of d) (wants_primary d a handle row)
  wants_primary_keep d a handle row = chosen (waits_for d.master handle) (record { back = λ h. h; goes = λ h a. a }) (wants_by_keep d a handle row (copy_for d.master.logged a.file a.index))

  looks_at_row_keep : (d : MasterDoing) (a : Asker) (handle : ℕ) (row : Option ChunkRow) → Leaves (seen_of d) (looks_at_row d a handle row)
  looks_at_row_keep d a handle None = (record { back = λ h. h; goes = λ h a. a })
  looks_at_row_keep d a handle (Some row) = (record { back = λ h. h; goes = λ h a. a })

  looks_at_keep : (d : MasterDoing) (a : Asker) (handle : Option ℕ) → Leaves (seen_of d) (looks_at d a handle)
  looks_at_keep d a None = (record { back = λ h. h; goes = λ h a. a })
  looks_at_keep d a (Some handle) = looks_at_row_keep d a handle (chunk_of d.master.logged.table handle)

  revokes_row_keep : (d : MasterDoing) (handle : ℕ) (row : Option ChunkRow) → Leaves (seen_of d) (revokes_row d handle row)
  revokes_row_keep d handle None = (record { back = λ h. h; goes = λ h a. a })
  revokes_row_keep d handle (Some row) = chosen (has_lease d.master row) {y = d} (record { back = λ h. h; goes = λ h a. a }) (record { back = λ h. h; goes = λ h a. a })

  mutates_row_keep : (d : MasterDoing) (a : Asker) (lost : Bool) (handle : ℕ) (row : Option ChunkRow) → Leaves (seen_of d) (mutates_row d a lost handle row)
  mutates_row_keep d a lost handle None = (record { back = λ h. h; goes = λ h a. a })
  mutates_row_keep d a lost handle (Some row) =
      chosen (has_ended row d.master.now) (wants_primary_keep d a handle row)
      (after (λ x. tells_holders x a handle row) (λ _. (record { back = λ h. h; goes = λ h a. a })) (chosen lost (revokes_row_keep d handle (chunk_of d.master.logged.table handle)) (record { back = λ h. h; goes = λ h a. a })))

  mutates_at_keep : (d : MasterDoing) (a : Asker) (lost : Bool) (handle : Option ℕ) → Leaves (seen_of d) (mutates_at d a lost handle)
  mutates_at_keep d a lost None = (record { back = λ h. h; goes = λ h a. a })
  mutates_at_keep d a lost (Some handle) = mutates_row_keep d a lost handle (chunk_of d.master.logged.table handle)

  adds_chunk_keep : (d : MasterDoing) (a : Asker) (lost : Bool) → Leaves (seen_of d) (adds_chunk d a lost)
  adds_chunk_keep d a lost =
      logs_keep d (log.AddChunk (file_id a.file) (handle_of d.master.logged.next_handle)) tt (λ e. mutates_at e a lost (Some d.master.logged.next_handle)) (λ e. mutates_at_keep e a lost (Some d.master.logged.next_handle))

  asks_to_write_keep : (d : MasterDoing) (a : Asker) (lost : Bool) (handles : List ℕ) (index : ℕ) → Leaves (seen_of d) (asks_to_write d a lost handles index)
  asks_to_write_keep d a lost handles index =
      chosen (nat_lt (length handles) index) (record { back = λ h. h; goes = λ h a. a }) (chosen _ (adds_chunk_keep d (with_index a index) lost) (mutates_at_keep d (with_index a index) lost (element_at handles index)))

  asks_to_append_keep : (d : MasterDoing) (a : Asker) (lost : Bool) (handles : List ℕ) (least count : ℕ)
      → Leaves (seen_of d) (asks_to_append d a lost handles least count)
  asks_to_append_keep d a lost handles least zero = adds_chunk_keep d (with_index a 0) lost
  asks_to_append_keep d a lost handles least (suc last) =
      chosen _ (adds_chunk_keep d (with_index a (suc last)) lost) (mutates_at_keep d (with_index a last) lost (element_at handles last))

  asks_for_last_keep : (d : MasterDoing) (a : Asker) (handles : List ℕ) (count : ℕ) → Leaves (seen_of d) (asks_for_last d a handles count)
  asks_for_last_keep d a handles zero = (record { back = λ h. h; goes = λ h a. a })
  asks_for_last_keep d a handles (suc last) = looks_at_keep d (with_index a last) (element_at handles last)

  asks_for_keep : (d : MasterDoing) (a : Asker) (lost : Bool) (w : Wanted) (handles : List ℕ) → Leaves (seen_of d) (asks_for d a lost w handles)
  asks_for_keep d a lost (wanted.Read index) handles = looks_at_keep d (with_index a index) (element_at handles index)
  asks_for_keep d a lost (wanted.Write index) handles = asks_to_write_keep d a lost handles index
  asks_for_keep d a lost (wanted.Append least) handles = asks_to_append_keep d a lost handles least (length handles)
  asks_for_keep d a lost wanted.Last handles = asks_for_last_keep d a handles (length handles)

  asks_of_keep : (d : MasterDoing) (a : Asker) (lost : Bool) (w : Wanted) (handles : Option (List ℕ)) → Leaves (seen_of d) (asks_of d a lost w handles)
  asks_of_keep d a lost w None = (record { back = λ h. h; goes = λ h a. a })
  asks_of_keep d a lost w (Some handles) = asks_for_keep d a lost w handles

  asks_keep : (d : MasterDoing) (client : Node) (number file : ℕ) (w : Wanted) (deadline : ℕ) (lost : Bool)
      → Leaves (seen_of d) (takes_ask d client number file w deadline lost)
  asks_keep d client number file w deadline lost = chosen (nat_le deadline d.master.now) {x = d} (record { back = λ h. h; goes = λ h a. a }) (asks_of_keep d (record { client = client; number = number; file = file; index = 0 }) lost w (file_of d.master.logged.table file))

  grants_to_keep : (d : MasterDoing) (handle : ℕ) (a : VersionAttempt) (servers : List ℕ) → Leaves (seen_of d) (grants_to d handle a servers)
  grants_to_keep d handle a [] = (record { back = λ h. h; goes = λ h a. a })
  grants_to_keep d handle a (primary ∷ rest) =
      logs_keep d (log.Grant (handle_of handle) (version_of a.version) (server_id primary) (primary ∷ rest)) tt (λ e. sends_grant e handle a.version primary (primary ∷ rest)) (λ e. (record { back = λ h. h; goes = λ h a. a }))

  learns_attempt_keep : (d : MasterDoing) (server handle version : ℕ) (row : Option ChunkRow) (a : Option VersionAttempt)
      → Leaves (seen_of d) (learns_attempt d server handle version row a)
  learns_attempt_keep d server handle version None a = (record { back = λ h. h; goes = λ h a. a })
  learns_attempt_keep d server handle version (Some row) None = (record { back = λ h. h; goes = λ h a. a })
  learns_attempt_keep d server handle version (Some row) (Some a) =
      let told : VersionAttempt = record a { recorded = with_number a.recorded server } in
      chosen ((a.version == version) && has_number a.servers server) {y = d}
      (chosen (is_complete d.master told) {y = with_attempt d handle told} (grants_to_keep (with_attempt d handle told) handle told (rising a.servers)) (record { back = λ h. h; goes = λ h a. a }))
      (record { back = λ h. h; goes = λ h a. a })

  learns_keep : (d : MasterDoing) (server handle version : ℕ) → Leaves (seen_of d) (learns d server handle version)
  learns_keep d server handle version = learns_attempt_keep d server handle version (chunk_of d.master.logged.table handle) (table.get d.master.attempts handle)

  recorded_keep : (d : MasterDoing) (server handle version : ℕ) → Leaves (seen_of d) (takes_recorded d server handle version)
  recorded_keep d server handle version = learns_keep (holds_now d server handle version) server handle version

  revoked_row_keep : (d : MasterDoing) (server handle version : ℕ) (row : Option ChunkRow) → Leaves (seen_of d) (revoked_row d server handle version row)
  revoked_row_keep d server handle version None = (record { back = λ h. h; goes = λ h a. a })
  revoked_row_keep d server handle version (Some row) = chosen ((row.granted == version) && (row.primary == server)) {y = d} (record { back = λ h. h; goes = λ h a. a }) (record { back = λ h. h; goes = λ h a. a })

  revoked_keep : (d : MasterDoing) (server handle version : ℕ) → Leaves (seen_of d) (takes_revoked d server handle version)
  revoked_keep d server handle version = revoked_row_keep d server handle version (chunk_of d.master.logged.table handle)

  drops_useless_keep : (d : MasterDoing) (server : ℕ) (lines : List ReplicaLine) → Leaves (seen_of d) (drops_useless d server lines)
  drops_useless_keep d server [] = (record { back = λ h. h; goes = λ h a. a })
  drops_useless_keep d server (line ∷ rest) = after (λ x. drops_useless x server rest) (λ x. drops_useless_keep x server rest) (chosen (is_useless line.version.0 (chunk_of d.master.logged.table line.handle.0)) {y = d} (record { back = λ h. h; goes = λ h a. a }) (record { back = λ h. h; goes = λ h a. a }))

  learns_all_keep : (d : MasterDoing) (server : ℕ) (lines : List ReplicaLine) → Leaves (seen_of d) (learns_all d server lines)
  learns_all_keep d server [] = (record { back = λ h. h; goes = λ h a. a })
  learns_all_keep d server (line ∷ rest) = after (λ x. learns_all x server rest) (λ x. learns_all_keep x server rest) (learns_keep d server line.handle.0 line.version.0)

  extends_row_keep : (d : MasterDoing) (server : ℕ) (line : LeaseLine) (row : Option ChunkRow) → Leaves (seen_of d) (extends_row d server line row)
  extends_row_keep d server line None = (record { back = λ h. h; goes = λ h a. a })
  extends_row_keep d server line (Some row) = chosen (may_extend d.master server line row && nat_lt row.lease_end (d.master.now + d.master.config.lease_ms)) {y = d} (record { back = λ h. h; goes = λ h a. a }) (record { back = λ h. h; goes = λ h a. a })

  extends_all_keep : (d : MasterDoing) (server : ℕ) (lines : List LeaseLine) → Leaves (seen_of d) (extends_all d server lines)
  extends_all_keep d server [] = (record { back = λ h. h; goes = λ h a. a })
  extends_all_keep d server (line ∷ rest) =
      after (λ x. extends_all x server rest) (λ x. extends_all_keep x server rest) (extends_row_keep d server line (chunk_of d.master.logged.table line.handle.0))

  report_keep : (d : MasterDoing) (server : ℕ) (replicas : List ReplicaLine) (leases : List LeaseLine) → Leaves (seen_of d) (takes_report d server replicas leases)
  report_keep d server replicas leases =
      after (λ x. extends_all x server leases) (λ x. extends_all_keep x server leases)
      (after (λ x. learns_all x server replicas) (λ x. learns_all_keep x server replicas) (drops_useless_keep (hears d server replicas) server replicas))

  expires_all_keep : (d : MasterDoing) (files : List ℕ) → Leaves (seen_of d) (expires_all d files)
  expires_all_keep d [] = (record { back = λ h. h; goes = λ h a. a })
  expires_all_keep d (file ∷ rest) = after (λ x. expires_all x rest) (λ x. expires_all_keep x rest) (logs_keep d (log.Expired (file_id file)) tt (λ e. e) (λ e. (record { back = λ h. h; goes = λ h a. a })))

  orders_clone_keep : (d : MasterDoing) (c : Option CloneOrder) → Leaves (seen_of d) (orders_clone d c)
  orders_clone_keep d None = (record { back = λ h. h; goes = λ h a. a })
  orders_clone_keep d (Some c) = (record { back = λ h. h; goes = λ h a. a })

  ticks_keep : (d : MasterDoing) → Leaves (seen_of d) (master_ticks d)
  ticks_keep d =
      after clones_next (λ x. orders_clone_keep x (best_clone x.master (table.entries x.master.logged.table.chunks)))
      (first_then (gives_up_lost_copies (gives_up_attempts d)) (gives_up (gives_up_attempts d) (lost_copies (gives_up_attempts d).master)) (expires_all_keep (gives_up_lost_copies (gives_up_attempts d)) (expired_files (gives_up_lost_copies (gives_up_attempts d)).master)))

  settles_stay : (d : MasterDoing) (client number : ℕ) (entry : Record) (refusal : Option Refusal) → IsOfStep d.master.logged.next_file entry → Leaves (seen_of d) (settles_name d client number entry refusal)
  settles_stay d client number entry refusal step = logs_keep d entry step (λ e. answers_name e client number refusal) (λ _. (record { back = λ h. h; goes = λ h a. a }))

  changes_stay : (d : MasterDoing) (client number : ℕ) (c : Call) (entry : Record) → IsOfStep d.master.logged.next_file entry → Leaves (seen_of d) (changes_names d client number c entry)
  changes_stay d client number c entry step =
      chosen (needs_room c)
      (chosen (first_is_true d.refused)
      (settles_stay (record d { refused = all_but_first d.refused }) client number (log.Refused (client_id client) number NamesFull) (Some NamesFull) tt)
      (settles_stay (record d { refused = all_but_first d.refused }) client number entry None step))
      (settles_stay d client number entry None step)

  revokes_row_stay : (d : MasterDoing) (handle : ℕ) (row : Option ChunkRow) → Leaves (seen_of d) (revokes_row d handle row)
  revokes_row_stay d handle None = (record { back = λ h. h; goes = λ h a. a })
  revokes_row_stay d handle (Some row) = chosen (has_lease d.master row) (record { back = λ h. h; goes = λ h a. a }) (record { back = λ h. h; goes = λ h a. a })

  revokes_all_stay : (d : MasterDoing) (handles : List ℕ) → Leaves (seen_of d) (revokes_all d handles)
  revokes_all_stay d [] = (record { back = λ h. h; goes = λ h a. a })
  revokes_all_stay d (handle ∷ rest) = first_then (revokes d handle) (revokes_row_stay d handle (chunk_of d.master.logged.table handle)) (revokes_all_stay (revokes d handle) rest)

  begins_stay : (d : MasterDoing) (s : PendingSnapshot) → Leaves (seen_of d) (begins_snapshot d s)
  begins_stay d s =
      let given_up : MasterDoing = gives_up_copies (without_attempts (takes_locks d s) (snapshot_handles d.master s)) (copies_for_files d.master.logged (snapshot_files d.master s)) in
      first_then given_up (gives_up (without_attempts (takes_locks d s) (snapshot_handles d.master s)) (copies_for_files d.master.logged (snapshot_files d.master s))) (revokes_all_stay given_up (snapshot_handles d.master s))

  performs_stay : (d : MasterDoing) (client number deadline : ℕ) (c : Call) → Leaves (seen_of d) (performs d client number deadline c)
  performs_stay d client number deadline (call.Mkdir p) = changes_stay d client number (call.Mkdir p) (log.Mkdir (client_id client) number p) tt
  performs_stay d client number deadline (call.Rmdir p) = changes_stay d client number (call.Rmdir p) (log.Rmdir (client_id client) number p) tt
  performs_stay d client number deadline (call.Create p shape) = changes_stay d client number (call.Create p shape) (log.Create (client_id client) number (file_id d.master.logged.next_file) (told_shape d.master.config shape) p) (omega arith)
  performs_stay d client number deadline (call.Delete p) = changes_stay d client number (call.Delete p) (log.Delete (client_id client) number (moment_of d.master.now) p) tt
  performs_stay d client number deadline (call.Rename p q) = changes_stay d client number (call.Rename p q) (log.Rename (client_id client) number p q) tt
  performs_stay d client number deadline (call.Snapshot p q) = begins_stay d (record { client = client; number = number; deadline = deadline; from = p; to = q })
  performs_stay d client number deadline other = (record { back = λ h. h; goes = λ h a. a })

  names_by_stay : (d : MasterDoing) (client number deadline : ℕ) (c : Call) (refusal : Option Refusal) → Leaves (seen_of d) (names_by d client number deadline c refusal)
  names_by_stay d client number deadline c None = performs_stay d client number deadline c
  names_by_stay d client number deadline c (Some refusal) = settles_stay d client number (log.Refused (client_id client) number refusal) (Some refusal) tt

  names_anew_stay : (d : MasterDoing) (client number deadline : ℕ) (c : Call) → Leaves (seen_of d) (names_anew d client number deadline c)
  names_anew_stay d client number deadline c = chosen (nat_le deadline d.master.now) {x = d} (record { back = λ h. h; goes = λ h a. a }) (chosen (is_waiting_call d.master client number) {x = d} (record { back = λ h. h; goes = λ h a. a }) (names_by_stay d client number deadline c (master_refusal d.master c)))

  names_kept_stay : (d : MasterDoing) (client number deadline : ℕ) (c : Call) (k : Option KeptCall) → Leaves (seen_of d) (names_kept d client number deadline c k)
  names_kept_stay d client number deadline c None = names_anew_stay d client number deadline c
  names_kept_stay d client number deadline c (Some k) =
      chosen (k.number == number) {x = answers_name d client number k.refusal} (record { back = λ h. h; goes = λ h a. a }) (chosen (nat_lt number k.number) {x = d} (record { back = λ h. h; goes = λ h a. a }) (names_anew_stay d client number deadline c))

  takes_ready_stay : (d : MasterDoing) (snapshots : List PendingSnapshot) → Leaves (seen_of d) (takes_ready d snapshots)
  takes_ready_stay d [] = (record { back = λ h. h; goes = λ h a. a })
  takes_ready_stay d (s ∷ rest) =
      first_then (cond (is_ready d.master s) (takes_snapshot d s) d)
      (chosen (is_ready d.master s) (changes_stay (lets_go d s) s.client s.number (call.Snapshot s.from s.to) (log.Snapshot (client_id s.client) s.number s.from s.to) tt) (record { back = λ h. h; goes = λ h a. a }))
      (takes_ready_stay (cond (is_ready d.master s) (takes_snapshot d s) d) rest)

  takes_stay : (d : MasterDoing) (m : Message) (b : Body) → Leaves (seen_of d) (master_takes d m b)
  takes_stay d m (body.Name number deadline c) = names_kept_stay d (client_number m.sender) number deadline.0 c (table.get d.master.logged.kept (client_number m.sender))
  takes_stay d m (body.Look number c) = (record { back = λ h. h; goes = λ h a. a })
  takes_stay d m (body.Ask number file w deadline lost) = asks_keep d m.sender number file.0 w deadline.0 lost
  takes_stay d m (body.Recorded handle version) = recorded_keep d (server_number m.sender) handle.0 version.0
  takes_stay d m (body.Revoked handle version) = revoked_keep d (server_number m.sender) handle.0 version.0
  takes_stay d m (body.Cloned handle version) = (record { back = λ h. h; goes = λ h a. a })
  takes_stay d m (body.Report replicas leases) = report_keep d (server_number m.sender) replicas leases
  takes_stay d m other = (record { back = λ h. h; goes = λ h a. a })

  does_stay : (d : MasterDoing) (i : NodeInput) → Leaves (seen_of d) (master_does d i)
  does_stay d (input.Deliver m) = takes_stay d m m.body
  does_stay d input.Tick = ticks_keep d

  does_all : (m : MasterState) (moment : ℕ) (i : NodeInput) (refused : List Bool) → Leaves ([], m.logged) (master_goes m moment i refused)
  does_all m moment i refused =
      let begun : MasterDoing = master_begins (master_at m moment) refused in
      first_then (master_does begun i) (does_stay begun i) (takes_ready_stay (master_does begun i) (master_does begun i).master.snapshots)

spared_of : (copied : Table ℕ) (q : ℕ) (c : LogChange) (rest : List ℕ) (o : Option ℕ) → file_changed_by copied c ≡ o → has_number (cons_option o rest) q ≡ false
    → (file_changed_by copied c ≡ Some q → ⊥) × (has_number rest q ≡ false)
spared_of copied q c rest None is g = (λ other. absurd (let none : None ≡ Some q = sym is ∙ other in cc), g)
spared_of copied q c rest (Some file) is g = by_test (file == q) refl g
  where
    by_test : (b : Bool) → (file == q) ≡ b → b || has_number rest q ≡ false → (file_changed_by copied c ≡ Some q → ⊥) × (has_number rest q ≡ false)
    by_test true e g = absurd cc
    by_test false e g = (λ other. eqb-false file q e (let some : Some file ≡ Some q = sym is ∙ other in cc), g)

spares : (copied : Table ℕ) (q : ℕ) (changes : List LogChange) → has_number (files_changed copied changes) q ≡ false → Spares copied q changes
spares copied q [] h = tt
spares copied q (c ∷ rest) h =
    let both : (file_changed_by copied c ≡ Some q → ⊥) × (has_number (files_changed copied rest) q ≡ false) = spared_of copied q c (files_changed copied rest) (file_changed_by copied c) refl h in
    (both.0, spares copied q rest both.1)

-- A step leaves the list of a file that was there before, where none of its changes is of that file. The files of the copies under way are known by their handles.
pub files_stay : (m : MasterState) (moment : ℕ) (i : NodeInput) (refused : List Bool) (copied : Table ℕ) (q : ℕ) → ((handle : ℕ) → table.get copied handle ≡ option_map (λ (c : Copy). c.file) (table.get m.logged.copies handle))
    → q < m.logged.next_file → has_number (files_changed copied (master_goes m moment i refused).changes) q ≡ false → table.get (master_goes m moment i refused).master.logged.table.files q ≡ table.get m.logged.table.files q
files_stay m moment i refused copied q known older h =
    ((does_all m.logged copied q older m moment i refused).goes (spares copied q (master_goes m moment i refused).changes h)
    (refl, omega arith, λ handle c is at. known handle ∙ ap (option_map (λ (x : Copy). x.file)) is ∙ ap Some at)).0
