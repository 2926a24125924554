-- What a step does but for name calls neither reads nor uses up the answers to growths of the names.
use Rattle.std.proofs.Common.{◌≡◌, ◌==◌, ℕ, zero, suc, Bool, true, false, cond, List, [], ◌∷◌, ◌++◌, map, Option, Some, None, length, refl, ap, ◌∙◌}
use Rattle.std.specs.FinMap as table
use Rattle.gfs_types.specs.declared.config.Config.{Config}
use Rattle.gfs_types.specs.declared.ids.Node.{Node}
use Rattle.messages.specs.declared.message.Body.{Body}
use Rattle.messages.specs.declared.message.Body.TheVariants as body
use Rattle.messages.specs.declared.message.Message.{Message}
use Rattle.messages.specs.declared.message.Wanted.{Wanted}
use Rattle.messages.specs.declared.message.Wanted.TheVariants as wanted
use Rattle.messages.specs.declared.message.ReplicaLine.{ReplicaLine}
use Rattle.messages.specs.declared.message.LeaseLine.{LeaseLine}
use Rattle.log_records.specs.declared.record.Record.{Record}
use Rattle.log_records.specs.declared.record.Record.TheVariants as log
use Rattle.protocol.specs.declared.seen.Seen.TheVariants.{CopyStarted}
use Rattle.protocol.specs.Sending.{server_number, server_id, file_id, handle_of, version_of}
use Rattle.chunk_table.specs.ChunkTable.{ChunkRow, chunk_of, file_of}
use Rattle.protocol.specs.Tables.{rising, with_number, element_at}
use Rattle.protocol.specs.LogSizes.{checkpoint_fits}
use Rattle.protocol.specs.Logged.{checkpoint_of}
use Rattle.leases.specs.LeaseEnds.{has_ended}
use Rattle.protocol.specs.Master.{MasterDoing, VersionAttempt, HeldAt, appends, fits, writes_checkpoint, logs, holders_where, with_attempt, gives_up_copy, orders}
use Rattle.protocol.specs.MasterSnapshots.{revokes_row}
use Rattle.protocol.specs.MasterVersions.{Asker, VersionTarget, holder_target, tells_holders, tells_to_wait, sends_versions, version_order, new_attempt, sends_issued, issues_to, targets_by, recorded_holders, issues_own, is_attempted, copy_order, sends_copies, sends_copy_started, copy_targets, copies_to, copy_for, wants_own, wants_own_of, issues_copy, wants_copy, wants_by, wants_primary, sends_grant, grants_to, learns_attempt, learns}
use Rattle.protocol.specs.MasterAsks.{looks_at_row, looks_at, mutates_row, mutates_at, adds_chunk, with_index, asks_to_write, asks_to_append, asks_for_last, asks_for, asks_of, takes_ask}
use Rattle.protocol.specs.MasterReports.{holds_now, takes_recorded, revoked_row, takes_revoked, drops_useless, learns_all, extends_row, extends_all, hears, takes_report}
use Rattle.master_cell.specs.Kinds.{is_name}
use Rattle.protocol.specs.MasterClones.{CloneOrder, best_clone, orders_clone, clones_next}
use Rattle.protocol.specs.MasterStep.{master_takes, gives_up_attempts, gives_up_lost_copies, expires_all, expired_files, master_ticks}

-- the settings, and the number of servers
abbrev pub settings_of : MasterDoing → Config × ℕ
settings_of d = (d.master.config, d.master.server_count)

abbrev pub with_refused : MasterDoing → List Bool → MasterDoing
with_refused d r = record d { refused = r }

module _ (r : List Bool) where
  abbrev with_ : MasterDoing → MasterDoing
  with_ d = with_refused d r

  -- the same but for these answers, and the settings of the step that it came from
  pub record Kept (s : Config × ℕ) (x y : MasterDoing) : Type 0 where
    pub same : x ≡ with_ y
    pub settings : settings_of y ≡ s

  chosen : {s : Config × ℕ} (b : Bool) {x y x2 y2 : MasterDoing} → Kept s x x2 → Kept s y y2 → Kept s (cond b x y) (cond b x2 y2)
  chosen true p q = p
  chosen false p q = q

  after : {s : Config × ℕ} (g : MasterDoing → MasterDoing) → ((e : MasterDoing) → Kept (settings_of e) (g (with_ e)) (g e)) → {x y : MasterDoing} → Kept s x y → Kept s (g x) (g y)
  after g keeps {y = y} p = record { same = ap g p.same ∙ (keeps y).same; settings = (keeps y).settings ∙ p.settings }

  logs_keep : (d : MasterDoing) (e : Record) (then_ : MasterDoing → MasterDoing) → ((x : MasterDoing) → Kept (settings_of x) (then_ (with_ x)) (then_ x)) → Kept (settings_of d) (logs (with_ d) e then_) (logs d e then_)
  logs_keep d e then_ keeps =
      chosen (fits d e) (keeps (appends d e))
      (chosen (checkpoint_fits d.master.config.log_bytes (checkpoint_of d.master.logged))
      (chosen _ (keeps (appends (writes_checkpoint d) e)) (record { same = refl; settings = refl }))
      (record { same = refl; settings = refl }))

  sends_versions_keep : (d : MasterDoing) (handle version : ℕ) (targets : List VersionTarget) → Kept (settings_of d) (sends_versions (with_ d) handle version targets) (sends_versions d handle version targets)
  sends_versions_keep d handle version [] = (record { same = refl; settings = refl })
  sends_versions_keep d handle version (t ∷ rest) = sends_versions_keep (orders d t.server (version_order handle version t.base)) handle version rest

  sends_issued_keep : (d : MasterDoing) (a : Asker) (handle version : ℕ) (targets : List VersionTarget) → Kept (settings_of d) (sends_issued (with_ d) a handle version targets) (sends_issued d a handle version targets)
  sends_issued_keep d a handle version targets =
      after (λ x. tells_to_wait x a) (λ _. (record { same = refl; settings = refl })) (sends_versions_keep (with_attempt d handle (new_attempt d.master version targets)) handle version targets)

  issues_to_keep : (d : MasterDoing) (a : Asker) (own : ℕ) (own_row : ChunkRow) (handle : ℕ) (row : ChunkRow) (targets : List VersionTarget)
      → Kept (settings_of d) (issues_to (with_ d) a own own_row handle row targets) (issues_to d a own own_row handle row targets)
  issues_to_keep d a own own_row handle row [] = (record { same = refl; settings = refl })
  issues_to_keep d a own own_row handle row (t ∷ ts) = logs_keep d (log.Issue (handle_of handle) (version_of (suc row.issued))) (λ e. sends_issued e a handle (suc row.issued) (t ∷ ts)) (λ e. sends_issued_keep e a handle (suc row.issued) (t ∷ ts))

  issues_own_keep : (d : MasterDoing) (a : Asker) (handle : ℕ) (row : ChunkRow) (b : Bool) → Kept (settings_of d) (issues_own (with_ d) a handle row b) (issues_own d a handle row b)
  issues_own_keep d a handle row true = (record { same = refl; settings = refl })
  issues_own_keep d a handle row false = issues_to_keep d a handle row handle row (targets_by d.master handle row (recorded_holders d.master handle row))

  sends_copies_keep : (d : MasterDoing) (handle copy version : ℕ) (targets : List VersionTarget) → Kept (settings_of d) (sends_copies (with_ d) handle copy version targets) (sends_copies d handle copy version targets)
  sends_copies_keep d handle copy version [] = (record { same = refl; settings = refl })
  sends_copies_keep d handle copy version (t ∷ rest) = sends_copies_keep (orders d t.server (copy_order handle copy version t.base)) handle copy version rest

  sends_copy_started_keep : (d : MasterDoing) (a : Asker) (handle copy version : ℕ) (targets : List VersionTarget)
      → Kept (settings_of d) (sends_copy_started (with_ d) a handle copy version targets) (sends_copy_started d a handle copy version targets)
  sends_copy_started_keep d a handle copy version targets = after (λ x. tells_to_wait x a) (λ _. (record { same = refl; settings = refl })) (sends_copies_keep (with_attempt (record d { seen = d.seen ++ CopyStarted (handle_of handle) (handle_of copy) ∷ [] }) copy (new_attempt d.master version targets)) handle copy version targets)

  copies_to_keep : (d : MasterDoing) (a : Asker) (handle : ℕ) (row : ChunkRow) (targets : List VersionTarget) → Kept (settings_of d) (copies_to (with_ d) a handle row targets) (copies_to d a handle row targets)
  copies_to_keep d a handle row [] = (record { same = refl; settings = refl })
  copies_to_keep d a handle row (t ∷ ts) =
      logs_keep d (log.CopyStart (file_id a.file) a.index (handle_of handle) (handle_of d.master.logged.next_handle) (version_of (suc row.issued)))
      (λ e. sends_copy_started e a handle d.master.logged.next_handle (suc row.issued) (t ∷ ts)) (λ e. sends_copy_started_keep e a handle d.master.logged.next_handle (suc row.issued) (t ∷ ts))

  wants_own_keep : (d : MasterDoing) (a : Asker) (handle : ℕ) (row : ChunkRow) → Kept (settings_of d) (wants_own (with_ d) a handle row) (wants_own d a handle row)
  wants_own_keep d a handle row =
      chosen _ (copies_to_keep d a handle row (copy_targets d.master handle row))
      (chosen _ (record { same = refl; settings = refl }) (issues_own_keep d a handle row (is_attempted d.master handle)))

  wants_own_of_keep : (d : MasterDoing) (a : Asker) (handle : ℕ) (row : Option ChunkRow) → Kept (settings_of d) (wants_own_of (with_ d) a handle row) (wants_own_of d a handle row)
  wants_own_of_keep d a handle None = (record { same = refl; settings = refl })
  wants_own_of_keep d a handle (Some row) = wants_own_keep d a handle row

  issues_copy_keep : (d : MasterDoing) (a : Asker) (handle : ℕ) (row : ChunkRow) (copy : ℕ) (copy_row : ChunkRow) (holders : List HeldAt)
      → Kept (settings_of d) (issues_copy (with_ d) a handle row copy copy_row holders) (issues_copy d a handle row copy copy_row holders)
  issues_copy_keep d a handle row copy copy_row [] = wants_own_of_keep (gives_up_copy d copy) a handle (chunk_of (gives_up_copy d copy).master.logged.table handle)
  issues_copy_keep d a handle row copy copy_row (h ∷ hs) = issues_to_keep d a handle row copy copy_row (map holder_target (h ∷ hs))

  wants_copy_keep : (d : MasterDoing) (a : Asker) (handle : ℕ) (row : ChunkRow) (copy : ℕ) (copy_row : Option ChunkRow)
      → Kept (settings_of d) (wants_copy (with_ d) a handle row copy copy_row) (wants_copy d a handle row copy copy_row)
  wants_copy_keep d a handle row copy None = wants_own_keep d a handle row
  wants_copy_keep d a handle row copy (Some copy_row) = chosen _ (record { same = refl; settings = refl }) (issues_copy_keep d a handle row copy copy_row (holders_where d.master copy (λ v. v == copy_row.issued)))

  wants_by_keep : (d : MasterDoing) (a : Asker) (handle : ℕ) (row : ChunkRow) (copy : Option ℕ) → Kept (settings_of d) (wants_by (with_ d) a handle row copy) (wants_by d a handle row copy)
  wants_by_keep d a handle row None = wants_own_keep d a handle row
  wants_by_keep d a handle row (Some copy) = wants_copy_keep d a handle row copy (chunk_of d.master.logged.table copy)

  wants_primary_keep : (d : MasterDoing) (a : Asker) (handle : ℕ) (row : ChunkRow) → Kept (settings_of d) (wants_primary (with_ d) a handle row) (wants_primary d a handle row)
  wants_primary_keep d a handle row = chosen _ (record { same = refl; settings = refl }) (wants_by_keep d a handle row (copy_for d.master.logged a.file a.index))

  looks_at_row_keep : (d : MasterDoing) (a : Asker) (handle : ℕ) (row : Option ChunkRow) → Kept (settings_of d) (looks_at_row (with_ d) a handle row) (looks_at_row d a handle row)
  looks_at_row_keep d a handle None = (record { same = refl; settings = refl })
  looks_at_row_keep d a handle (Some row) = (record { same = refl; settings = refl })

  looks_at_keep : (d : MasterDoing) (a : Asker) (handle : Option ℕ) → Kept (settings_of d) (looks_at (with_ d) a handle) (looks_at d a handle)
  looks_at_keep d a None = (record { same = refl; settings = refl })
  looks_at_keep d a (Some handle) = looks_at_row_keep d a handle (chunk_of d.master.logged.table handle)

  revokes_row_keep : (d : MasterDoing) (handle : ℕ) (row : Option ChunkRow) → Kept (settings_of d) (revokes_row (with_ d) handle row) (revokes_row d handle row)
  revokes_row_keep d handle None = (record { same = refl; settings = refl })
  revokes_row_keep d handle (Some row) = chosen _ (record { same = refl; settings = refl }) (record { same = refl; settings = refl })

  mutates_row_keep : (d : MasterDoing) (a : Asker) (lost : Bool) (handle : ℕ) (row : Option ChunkRow) → Kept (settings_of d) (mutates_row (with_ d) a lost handle row) (mutates_row d a lost handle row)
  mutates_row_keep d a lost handle None = (record { same = refl; settings = refl })
  mutates_row_keep d a lost handle (Some row) =
      chosen (has_ended row d.master.now) (wants_primary_keep d a handle row)
      (after (λ x. tells_holders x a handle row) (λ _. (record { same = refl; settings = refl })) (chosen lost (revokes_row_keep d handle (chunk_of d.master.logged.table handle)) (record { same = refl; settings = refl })))

  mutates_at_keep : (d : MasterDoing) (a : Asker) (lost : Bool) (handle : Option ℕ) → Kept (settings_of d) (mutates_at (with_ d) a lost handle) (mutates_at d a lost handle)
  mutates_at_keep d a lost None = (record { same = refl; settings = refl })
  mutates_at_keep d a lost (Some handle) = mutates_row_keep d a lost handle (chunk_of d.master.logged.table handle)

  adds_chunk_keep : (d : MasterDoing) (a : Asker) (lost : Bool) → Kept (settings_of d) (adds_chunk (with_ d) a lost) (adds_chunk d a lost)
  adds_chunk_keep d a lost =
      logs_keep d (log.AddChunk (file_id a.file) (handle_of d.master.logged.next_handle)) (λ e. mutates_at e a lost (Some d.master.logged.next_handle)) (λ e. mutates_at_keep e a lost (Some d.master.logged.next_handle))

  asks_to_write_keep : (d : MasterDoing) (a : Asker) (lost : Bool) (handles : List ℕ) (index : ℕ) → Kept (settings_of d) (asks_to_write (with_ d) a lost handles index) (asks_to_write d a lost handles index)
  asks_to_write_keep d a lost handles index =
      chosen _ (record { same = refl; settings = refl }) (chosen _ (adds_chunk_keep d (with_index a index) lost) (mutates_at_keep d (with_index a index) lost (element_at handles index)))

  asks_to_append_keep : (d : MasterDoing) (a : Asker) (lost : Bool) (handles : List ℕ) (least count : ℕ)
      → Kept (settings_of d) (asks_to_append (with_ d) a lost handles least count) (asks_to_append d a lost handles least count)
  asks_to_append_keep d a lost handles least zero = adds_chunk_keep d (with_index a 0) lost
  asks_to_append_keep d a lost handles least (suc last) =
      chosen _ (adds_chunk_keep d (with_index a (suc last)) lost) (mutates_at_keep d (with_index a last) lost (element_at handles last))

  asks_for_last_keep : (d : MasterDoing) (a : Asker) (handles : List ℕ) (count : ℕ) → Kept (settings_of d) (asks_for_last (with_ d) a handles count) (asks_for_last d a handles count)
  asks_for_last_keep d a handles zero = (record { same = refl; settings = refl })
  asks_for_last_keep d a handles (suc last) = looks_at_keep d (with_index a last) (element_at handles last)

  asks_for_keep : (d : MasterDoing) (a : Asker) (lost : Bool) (w : Wanted) (handles : List ℕ) → Kept (settings_of d) (asks_for (with_ d) a lost w handles) (asks_for d a lost w handles)
  asks_for_keep d a lost (wanted.Read index) handles = looks_at_keep d (with_index a index) (element_at handles index)
  asks_for_keep d a lost (wanted.Write index) handles = asks_to_write_keep d a lost handles index
  asks_for_keep d a lost (wanted.Append least) handles = asks_to_append_keep d a lost handles least (length handles)
  asks_for_keep d a lost wanted.Last handles = asks_for_last_keep d a handles (length handles)

  asks_of_keep : (d : MasterDoing) (a : Asker) (lost : Bool) (w : Wanted) (handles : Option (List ℕ)) → Kept (settings_of d) (asks_of (with_ d) a lost w handles) (asks_of d a lost w handles)
  asks_of_keep d a lost w None = (record { same = refl; settings = refl })
  asks_of_keep d a lost w (Some handles) = asks_for_keep d a lost w handles

  pub asks_keep : (d : MasterDoing) (client : Node) (number file : ℕ) (w : Wanted) (deadline : ℕ) (lost : Bool)
      → Kept (settings_of d) (takes_ask (with_ d) client number file w deadline lost) (takes_ask d client number file w deadline lost)
  asks_keep d client number file w deadline lost = chosen _ (record { same = refl; settings = refl }) (asks_of_keep d (record { client = client; number = number; file = file; index = 0 }) lost w (file_of d.master.logged.table file))

  grants_to_keep : (d : MasterDoing) (handle : ℕ) (a : VersionAttempt) (servers : List ℕ) → Kept (settings_of d) (grants_to (with_ d) handle a servers) (grants_to d handle a servers)
  grants_to_keep d handle a [] = (record { same = refl; settings = refl })
  grants_to_keep d handle a (primary ∷ rest) =
      logs_keep d (log.Grant (handle_of handle) (version_of a.version) (server_id primary) (primary ∷ rest)) (λ e. sends_grant e handle a.version primary (primary ∷ rest)) (λ e. (record { same = refl; settings = refl }))

  learns_attempt_keep : (d : MasterDoing) (server handle version : ℕ) (row : Option ChunkRow) (a : Option VersionAttempt)
      → Kept (settings_of d) (learns_attempt (with_ d) server handle version row a) (learns_attempt d server handle version row a)
  learns_attempt_keep d server handle version None a = (record { same = refl; settings = refl })
  learns_attempt_keep d server handle version (Some row) None = (record { same = refl; settings = refl })
  learns_attempt_keep d server handle version (Some row) (Some a) = chosen _ (chosen _ (grants_to_keep (with_attempt d handle (record a { recorded = with_number a.recorded server })) handle (record a { recorded = with_number a.recorded server }) (rising a.servers)) (record { same = refl; settings = refl })) (record { same = refl; settings = refl })

  learns_keep : (d : MasterDoing) (server handle version : ℕ) → Kept (settings_of d) (learns (with_ d) server handle version) (learns d server handle version)
  learns_keep d server handle version = learns_attempt_keep d server handle version (chunk_of d.master.logged.table handle) (table.get d.master.attempts handle)

  pub recorded_keep : (d : MasterDoing) (server handle version : ℕ) → Kept (settings_of d) (takes_recorded (with_ d) server handle version) (takes_recorded d server handle version)
  recorded_keep d server handle version = learns_keep (holds_now d server handle version) server handle version

  revoked_row_keep : (d : MasterDoing) (server handle version : ℕ) (row : Option ChunkRow) → Kept (settings_of d) (revoked_row (with_ d) server handle version row) (revoked_row d server handle version row)
  revoked_row_keep d server handle version None = (record { same = refl; settings = refl })
  revoked_row_keep d server handle version (Some row) = chosen _ (record { same = refl; settings = refl }) (record { same = refl; settings = refl })

  pub revoked_keep : (d : MasterDoing) (server handle version : ℕ) → Kept (settings_of d) (takes_revoked (with_ d) server handle version) (takes_revoked d server handle version)
  revoked_keep d server handle version = revoked_row_keep d server handle version (chunk_of d.master.logged.table handle)

  drops_useless_keep : (d : MasterDoing) (server : ℕ) (lines : List ReplicaLine) → Kept (settings_of d) (drops_useless (with_ d) server lines) (drops_useless d server lines)
  drops_useless_keep d server [] = (record { same = refl; settings = refl })
  drops_useless_keep d server (line ∷ rest) = after (λ x. drops_useless x server rest) (λ x. drops_useless_keep x server rest) (chosen _ (record { same = refl; settings = refl }) (record { same = refl; settings = refl }))

  learns_all_keep : (d : MasterDoing) (server : ℕ) (lines : List ReplicaLine) → Kept (settings_of d) (learns_all (with_ d) server lines) (learns_all d server lines)
  learns_all_keep d server [] = (record { same = refl; settings = refl })
  learns_all_keep d server (line ∷ rest) = after (λ x. learns_all x server rest) (λ x. learns_all_keep x server rest) (learns_keep d server line.handle.0 line.version.0)

  extends_row_keep : (d : MasterDoing) (server : ℕ) (line : LeaseLine) (row : Option ChunkRow) → Kept (settings_of d) (extends_row (with_ d) server line row) (extends_row d server line row)
  extends_row_keep d server line None = (record { same = refl; settings = refl })
  extends_row_keep d server line (Some row) = chosen _ (record { same = refl; settings = refl }) (record { same = refl; settings = refl })

  extends_all_keep : (d : MasterDoing) (server : ℕ) (lines : List LeaseLine) → Kept (settings_of d) (extends_all (with_ d) server lines) (extends_all d server lines)
  extends_all_keep d server [] = (record { same = refl; settings = refl })
  extends_all_keep d server (line ∷ rest) =
      after (λ x. extends_all x server rest) (λ x. extends_all_keep x server rest) (extends_row_keep d server line (chunk_of d.master.logged.table line.handle.0))

  pub report_keep : (d : MasterDoing) (server : ℕ) (replicas : List ReplicaLine) (leases : List LeaseLine) → Kept (settings_of d) (takes_report (with_ d) server replicas leases) (takes_report d server replicas leases)
  report_keep d server replicas leases =
      after (λ x. extends_all x server leases) (λ x. extends_all_keep x server leases)
      (after (λ x. learns_all x server replicas) (λ x. learns_all_keep x server replicas) (drops_useless_keep (hears d server replicas) server replicas))

  expires_all_keep : (d : MasterDoing) (files : List ℕ) → Kept (settings_of d) (expires_all (with_ d) files) (expires_all d files)
  expires_all_keep d [] = (record { same = refl; settings = refl })
  expires_all_keep d (file ∷ rest) = after (λ x. expires_all x rest) (λ x. expires_all_keep x rest) (logs_keep d (log.Expired (file_id file)) (λ e. e) (λ e. (record { same = refl; settings = refl })))

  orders_clone_keep : (d : MasterDoing) (c : Option CloneOrder) → Kept (settings_of d) (orders_clone (with_ d) c) (orders_clone d c)
  orders_clone_keep d None = (record { same = refl; settings = refl })
  orders_clone_keep d (Some c) = (record { same = refl; settings = refl })

  pub ticks_keep : (d : MasterDoing) → Kept (settings_of d) (master_ticks (with_ d)) (master_ticks d)
  ticks_keep d =
      after clones_next (λ x. orders_clone_keep x (best_clone x.master (table.entries x.master.logged.table.chunks)))
      (expires_all_keep (gives_up_lost_copies (gives_up_attempts d)) (expired_files (gives_up_lost_copies (gives_up_attempts d)).master))

  pub unnamed_keep : (d : MasterDoing) (m : Message) (b : Body) → is_name b ≡ false → Kept (settings_of d) (master_takes (with_ d) m b) (master_takes d m b)
  unnamed_keep d m (body.Name number deadline c) h = absurd cc
  unnamed_keep d m (body.Look number c) h = record { same = refl; settings = refl }
  unnamed_keep d m (body.Ask number file w deadline lost) h = asks_keep d m.sender number file.0 w deadline.0 lost
  unnamed_keep d m (body.Recorded handle version) h = recorded_keep d (server_number m.sender) handle.0 version.0
  unnamed_keep d m (body.Revoked handle version) h = revoked_keep d (server_number m.sender) handle.0 version.0
  unnamed_keep d m (body.Cloned handle version) h = record { same = refl; settings = refl }
  unnamed_keep d m (body.Report replicas leases) h = report_keep d (server_number m.sender) replicas leases
  unnamed_keep d m other h = record { same = refl; settings = refl }
