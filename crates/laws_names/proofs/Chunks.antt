-- What a message about chunks leaves of the names and of the snapshots that wait: all.
use Rattle.laws_base.proofs.LeaseOrders.{revoke_order}
use Rattle.std.proofs.Common.{◌≡◌, ℕ, zero, suc, ◌+◌, Bool, true, false, cond, List, [], ◌∷◌, length, map, Option, Some, None, refl, sym, subst, ◌∙◌, ◌++◌}
use Rattle.std.specs.Prelude.{◌==◌, ◌&&◌, not, nat_lt, nat_le}
use Rattle.std.specs.FinMap as table
use Rattle.gfs_types.specs.declared.ids.Node.{Node}
use Rattle.gfs_types.specs.declared.refusal.Refusal.TheVariants.{TooLong}
use Rattle.messages.specs.declared.message.Body.TheVariants as body
use Rattle.messages.specs.declared.message.Wanted.{Wanted}
use Rattle.messages.specs.declared.message.Wanted.TheVariants as wanted
use Rattle.messages.specs.declared.message.ReplicaLine.{ReplicaLine}
use Rattle.messages.specs.declared.message.LeaseLine.{LeaseLine}
use Rattle.log_records.specs.declared.record.Record.{Record}
use Rattle.log_records.specs.declared.record.Record.TheVariants as log
use Rattle.relaxed_file.specs.Names.{Names}
use Rattle.protocol.specs.Tables.{element_at, has_number, with_number, rising}
use Rattle.protocol.specs.Sending.{the_server, server_id, file_id, handle_of, version_of, moment_of}
use Rattle.chunk_table.specs.ChunkTable.{ChunkRow, file_of, chunk_of}
use Rattle.leases.specs.LeaseEnds.{has_ended}
use Rattle.protocol.specs.LogSizes.{checkpoint_fits}
use Rattle.protocol.specs.Logged.{Logged, Copy, after_record, checkpoint_of, swapped_in}
use Rattle.protocol.specs.Master.{MasterDoing, VersionAttempt, PendingSnapshot, HeldAt, tells, orders, ends_at, with_attempt, gives_up_copy, fits, appends, writes_checkpoint, logs, logs_after_checkpoint, is_of_copy, has_lease, holders_where}
use Rattle.protocol.specs.MasterClones.{CloneOrder, orders_clone}
use Rattle.protocol.specs.MasterSnapshots.{waits_for, revokes, revokes_row, revokes_all}
use Rattle.protocol.specs.MasterVersions.{Asker, VersionTarget, tells_holders, tells_to_wait, version_order, sends_versions, new_attempt, sends_issued, issues_to, targets_by, recorded_holders, issues_own, is_attempted, copy_order, sends_copies, copy_targets, sends_copy_started, copies_to, begins_copy, copy_for, is_copied, wants_own, wants_own_of, issues_copy, wants_copy, wants_by, wants_primary, holder_target, sends_grant, grants_to, is_complete, with_recorded, learns_attempt, learns}
use Rattle.protocol.specs.declared.seen.Seen.TheVariants.{CopyStarted}
use Rattle.protocol.specs.MasterAsks.{looks_at_row, looks_at, mutates_row, mutates_at, adds_chunk, with_index, asks_to_write, asks_to_append, asks_for_last, asks_for, asks_of, takes_ask}
use Rattle.protocol.specs.MasterReports.{revoked_row, is_useless, drops_useless, learns_all, may_extend, extends_row, extends_all, hears, takes_report}
use Rattle.laws_names.proofs.Waiting.{on_test}

swapped_names : (l : Logged) (handle : ℕ) (o : Option Copy) → (swapped_in l handle o).names ≡ l.names
swapped_names l handle None = refl
swapped_names l handle (Some c) = refl

module _ (G : Names → List PendingSnapshot → Type 0) where
  -- what is kept, of the names and the snapshots that wait
  abbrev pub Holds : MasterDoing → Type 0
  Holds d = G d.master.logged.names d.master.snapshots

  either : (b : Bool) (x y : MasterDoing) → Holds x → Holds y → Holds (cond b x y)
  either b x y f g = on_test Holds b x y (λ _. f) (λ _. g)

  -- a record is logged, also after a checkpoint, which leaves the names
  pub logs_holds : (d : MasterDoing) (r : Record) (then_ : MasterDoing → MasterDoing) → ((e : MasterDoing) → Holds e → Holds (then_ e)) → Holds d → Holds (appends d r) → Holds (appends (writes_checkpoint d) r)
      → Holds (logs d r then_)
  logs_holds d r then_ go h logged later =
      either (fits d r) (then_ (appends d r)) _ (go (appends d r) logged)
      (either (checkpoint_fits d.master.config.log_bytes (checkpoint_of d.master.logged)) (logs_after_checkpoint (writes_checkpoint d) r (is_of_copy d.master.logged r) then_) d
      (either (fits (writes_checkpoint d) r && not (is_of_copy d.master.logged r)) (then_ (appends (writes_checkpoint d) r)) (writes_checkpoint d) (go (appends (writes_checkpoint d) r) later) h)
      h)

  revokes_row_holds : (d : MasterDoing) (handle : ℕ) (o : Option ChunkRow) → Holds d → Holds (revokes_row d handle o)
  revokes_row_holds d handle None h = h
  revokes_row_holds d handle (Some row) h = either (has_lease d.master row) (orders d row.primary (revoke_order handle row)) d h h

  revokes_holds : (d : MasterDoing) (handle : ℕ) → Holds d → Holds (revokes d handle)
  revokes_holds d handle h = revokes_row_holds d handle (chunk_of d.master.logged.table handle) h

  pub revokes_all_holds : (d : MasterDoing) (handles : List ℕ) → Holds d → Holds (revokes_all d handles)
  revokes_all_holds d [] h = h
  revokes_all_holds d (handle ∷ rest) h = revokes_all_holds (revokes d handle) rest (revokes_holds d handle h)

  pub clone_holds : (d : MasterDoing) (o : Option CloneOrder) → Holds d → Holds (orders_clone d o)
  clone_holds d None h = h
  clone_holds d (Some c) h = h

  -- version numbers

  versions_hold : (d : MasterDoing) (handle version : ℕ) (targets : List VersionTarget) → Holds d → Holds (sends_versions d handle version targets)
  versions_hold d handle version [] h = h
  versions_hold d handle version (t ∷ rest) h = versions_hold (orders d t.server (version_order handle version t.base)) handle version rest h

  issued_holds : (d : MasterDoing) (a : Asker) (handle version : ℕ) (targets : List VersionTarget) → Holds d → Holds (sends_issued d a handle version targets)
  issued_holds d a handle version targets h = versions_hold (with_attempt d handle (new_attempt d.master version targets)) handle version targets h

  issues_hold : (d : MasterDoing) (a : Asker) (own : ℕ) (own_row : ChunkRow) (handle : ℕ) (row : ChunkRow) (targets : List VersionTarget) → Holds d → Holds (issues_to d a own own_row handle row targets)
  issues_hold d a own own_row handle row [] h = h
  issues_hold d a own own_row handle row (t ∷ rest) h =
      logs_holds d (log.Issue (handle_of handle) (version_of (suc row.issued))) (λ e. sends_issued e a handle (suc row.issued) (t ∷ rest)) (λ e g. issued_holds e a handle (suc row.issued) (t ∷ rest) g) h h h

  own_holds : (d : MasterDoing) (a : Asker) (handle : ℕ) (row : ChunkRow) (b : Bool) → Holds d → Holds (issues_own d a handle row b)
  own_holds d a handle row true h = h
  own_holds d a handle row false h = issues_hold d a handle row handle row (targets_by d.master handle row (recorded_holders d.master handle row)) h

  copies_hold : (d : MasterDoing) (handle copy version : ℕ) (targets : List VersionTarget) → Holds d → Holds (sends_copies d handle copy version targets)
  copies_hold d handle copy version [] h = h
  copies_hold d handle copy version (t ∷ rest) h = copies_hold (orders d t.server (copy_order handle copy version t.base)) handle copy version rest h

  started_holds : (d : MasterDoing) (a : Asker) (handle copy version : ℕ) (targets : List VersionTarget) → Holds d → Holds (sends_copy_started d a handle copy version targets)
  started_holds d a handle copy version targets h =
      let seen : MasterDoing = record d { seen = d.seen ++ CopyStarted (handle_of handle) (handle_of copy) ∷ [] } in
      copies_hold (with_attempt seen copy (new_attempt d.master version targets)) handle copy version targets h

  copies_to_hold : (d : MasterDoing) (a : Asker) (handle : ℕ) (row : ChunkRow) (targets : List VersionTarget) → Holds d → Holds (copies_to d a handle row targets)
  copies_to_hold d a handle row [] h = h
  copies_to_hold d a handle row (t ∷ rest) h =
      let copy : ℕ = d.master.logged.next_handle in
      logs_holds d (log.CopyStart (file_id a.file) a.index (handle_of handle) (handle_of copy) (version_of (suc row.issued))) (λ e. sends_copy_started e a handle copy (suc row.issued) (t ∷ rest))
      (λ e g. started_holds e a handle copy (suc row.issued) (t ∷ rest) g) h h h

  wants_own_holds : (d : MasterDoing) (a : Asker) (handle : ℕ) (row : ChunkRow) → Holds d → Holds (wants_own d a handle row)
  wants_own_holds d a handle row h =
      either (nat_lt 1 row.references) (begins_copy d a handle row) _ (copies_to_hold d a handle row (copy_targets d.master handle row) h)
      (either (is_copied d.master.logged handle) (tells_to_wait d a) (issues_own d a handle row (is_attempted d.master handle)) h (own_holds d a handle row (is_attempted d.master handle) h))

  wants_own_of_holds : (d : MasterDoing) (a : Asker) (handle : ℕ) (o : Option ChunkRow) → Holds d → Holds (wants_own_of d a handle o)
  wants_own_of_holds d a handle None h = h
  wants_own_of_holds d a handle (Some row) h = wants_own_holds d a handle row h

  issues_copy_holds : (d : MasterDoing) (a : Asker) (handle : ℕ) (row : ChunkRow) (copy : ℕ) (copy_row : ChunkRow) (holders : List HeldAt) → Holds d → Holds (issues_copy d a handle row copy copy_row holders)
  issues_copy_holds d a handle row copy copy_row [] h =
      let given_up : MasterDoing = gives_up_copy d copy in
      wants_own_of_holds given_up a handle (chunk_of given_up.master.logged.table handle) h
  issues_copy_holds d a handle row copy copy_row (t ∷ rest) h = issues_hold d a handle row copy copy_row (map holder_target (t ∷ rest)) h

  wants_copy_holds : (d : MasterDoing) (a : Asker) (handle : ℕ) (row : ChunkRow) (copy : ℕ) (o : Option ChunkRow) → Holds d → Holds (wants_copy d a handle row copy o)
  wants_copy_holds d a handle row copy None h = wants_own_holds d a handle row h
  wants_copy_holds d a handle row copy (Some copy_row) h =
      either (is_attempted d.master copy) (tells_to_wait d a) (issues_copy d a handle row copy copy_row (holders_where d.master copy (λ v. v == copy_row.issued))) h
      (issues_copy_holds d a handle row copy copy_row (holders_where d.master copy (λ v. v == copy_row.issued)) h)

  wants_by_holds : (d : MasterDoing) (a : Asker) (handle : ℕ) (row : ChunkRow) (o : Option ℕ) → Holds d → Holds (wants_by d a handle row o)
  wants_by_holds d a handle row None h = wants_own_holds d a handle row h
  wants_by_holds d a handle row (Some copy) h = wants_copy_holds d a handle row copy (chunk_of d.master.logged.table copy) h

  wants_primary_holds : (d : MasterDoing) (a : Asker) (handle : ℕ) (row : ChunkRow) → Holds d → Holds (wants_primary d a handle row)
  wants_primary_holds d a handle row h =
      either (waits_for d.master handle) (tells_to_wait d a) (wants_by d a handle row (copy_for d.master.logged a.file a.index)) h (wants_by_holds d a handle row (copy_for d.master.logged a.file a.index) h)

  -- an Ask

  mutates_row_holds : (d : MasterDoing) (a : Asker) (lost : Bool) (handle : ℕ) (o : Option ChunkRow) → Holds d → Holds (mutates_row d a lost handle o)
  mutates_row_holds d a lost handle None h = h
  mutates_row_holds d a lost handle (Some row) h =
      either (has_ended row d.master.now) (wants_primary d a handle row) (tells_holders (cond lost (revokes d handle) d) a handle row) (wants_primary_holds d a handle row h)
      (either lost (revokes d handle) d (revokes_holds d handle h) h)

  mutates_at_holds : (d : MasterDoing) (a : Asker) (lost : Bool) (o : Option ℕ) → Holds d → Holds (mutates_at d a lost o)
  mutates_at_holds d a lost None h = h
  mutates_at_holds d a lost (Some handle) h = mutates_row_holds d a lost handle (chunk_of d.master.logged.table handle) h

  adds_holds : (d : MasterDoing) (a : Asker) (lost : Bool) → Holds d → Holds (adds_chunk d a lost)
  adds_holds d a lost h =
      let handle : ℕ = d.master.logged.next_handle in
      logs_holds d (log.AddChunk (file_id a.file) (handle_of handle)) (λ e. mutates_at e a lost (Some handle)) (λ e g. mutates_at_holds e a lost (Some handle) g) h h h

  looks_row_holds : (d : MasterDoing) (a : Asker) (handle : ℕ) (o : Option ChunkRow) → Holds d → Holds (looks_at_row d a handle o)
  looks_row_holds d a handle None h = h
  looks_row_holds d a handle (Some row) h = h

  looks_hold : (d : MasterDoing) (a : Asker) (o : Option ℕ) → Holds d → Holds (looks_at d a o)
  looks_hold d a None h = h
  looks_hold d a (Some handle) h = looks_row_holds d a handle (chunk_of d.master.logged.table handle) h

  write_holds : (d : MasterDoing) (a : Asker) (lost : Bool) (handles : List ℕ) (index : ℕ) → Holds d → Holds (asks_to_write d a lost handles index)
  write_holds d a lost handles index h =
      either (nat_lt (length handles) index) (tells d a.client (body.Refused a.number TooLong)) _ h
      (either (index == length handles) (adds_chunk d (with_index a index) lost) (mutates_at d (with_index a index) lost (element_at handles index)) (adds_holds d (with_index a index) lost h)
      (mutates_at_holds d (with_index a index) lost (element_at handles index) h))

  append_holds : (d : MasterDoing) (a : Asker) (lost : Bool) (handles : List ℕ) (after count : ℕ) → Holds d → Holds (asks_to_append d a lost handles after count)
  append_holds d a lost handles after zero h = adds_holds d (with_index a 0) lost h
  append_holds d a lost handles after (suc last) h =
      either (nat_lt last after) (adds_chunk d (with_index a (suc last)) lost) (mutates_at d (with_index a last) lost (element_at handles last)) (adds_holds d (with_index a (suc last)) lost h)
      (mutates_at_holds d (with_index a last) lost (element_at handles last) h)

  last_holds : (d : MasterDoing) (a : Asker) (handles : List ℕ) (count : ℕ) → Holds d → Holds (asks_for_last d a handles count)
  last_holds d a handles zero h = h
  last_holds d a handles (suc last) h = looks_hold d (with_index a last) (element_at handles last) h

  asks_for_hold : (d : MasterDoing) (a : Asker) (lost : Bool) (w : Wanted) (handles : List ℕ) → Holds d → Holds (asks_for d a lost w handles)
  asks_for_hold d a lost (wanted.Read index) handles h = looks_hold d (with_index a index) (element_at handles index) h
  asks_for_hold d a lost (wanted.Write index) handles h = write_holds d a lost handles index h
  asks_for_hold d a lost (wanted.Append after) handles h = append_holds d a lost handles after (length handles) h
  asks_for_hold d a lost wanted.Last handles h = last_holds d a handles (length handles) h

  asks_of_hold : (d : MasterDoing) (a : Asker) (lost : Bool) (w : Wanted) (o : Option (List ℕ)) → Holds d → Holds (asks_of d a lost w o)
  asks_of_hold d a lost w None h = h
  asks_of_hold d a lost w (Some handles) h = asks_for_hold d a lost w handles h

  pub ask_holds : (d : MasterDoing) (client : Node) (number file : ℕ) (w : Wanted) (deadline : ℕ) (lost : Bool) → Holds d → Holds (takes_ask d client number file w deadline lost)
  ask_holds d client number file w deadline lost h =
      let a : Asker = record { client = client; number = number; file = file; index = 0 } in
      either (nat_le deadline d.master.now) d (asks_of d a lost w (file_of d.master.logged.table file)) h (asks_of_hold d a lost w (file_of d.master.logged.table file) h)

  -- what servers tell

  grants_hold : (d : MasterDoing) (handle : ℕ) (a : VersionAttempt) (servers : List ℕ) → Holds d → Holds (grants_to d handle a servers)
  grants_hold d handle a [] h = h
  grants_hold d handle a (primary ∷ rest) h =
      let r : Record = log.Grant (handle_of handle) (version_of a.version) (server_id primary) (primary ∷ rest) in
      logs_holds d r (λ e. sends_grant e handle a.version primary (primary ∷ rest)) (λ e g. g) h (granted d d.master.logged refl h) (granted d (writes_checkpoint d).master.logged refl h)
    where
      granted : (d : MasterDoing) (l : Logged) → l.names ≡ d.master.logged.names → Holds d → G (after_record l (log.Grant (handle_of handle) (version_of a.version) (server_id primary) (primary ∷ rest))).names d.master.snapshots
      granted d l same g = subst (λ (ns : Names). G ns d.master.snapshots) (sym (swapped_names _ handle (table.get l.copies handle) ∙ same)) g

  recorded_holds : (d : MasterDoing) (handle : ℕ) (a : VersionAttempt) → Holds d → Holds (with_recorded d handle a)
  recorded_holds d handle a h = either (is_complete d.master a) (grants_to (with_attempt d handle a) handle a (rising a.servers)) (with_attempt d handle a) (grants_hold (with_attempt d handle a) handle a (rising a.servers) h) h

  learns_attempt_holds : (d : MasterDoing) (server handle version : ℕ) (row : Option ChunkRow) (a : Option VersionAttempt) → Holds d → Holds (learns_attempt d server handle version row a)
  learns_attempt_holds d server handle version None a h = h
  learns_attempt_holds d server handle version (Some row) None h = h
  learns_attempt_holds d server handle version (Some row) (Some a) h =
      let one : VersionAttempt = record a { recorded = with_number a.recorded server } in
      either ((a.version == version) && has_number a.servers server) (with_recorded d handle one) d (recorded_holds d handle one h) h

  pub learns_holds : (d : MasterDoing) (server handle version : ℕ) → Holds d → Holds (learns d server handle version)
  learns_holds d server handle version h = learns_attempt_holds d server handle version (chunk_of d.master.logged.table handle) (table.get d.master.attempts handle) h

  pub revoked_holds : (d : MasterDoing) (server handle version : ℕ) (o : Option ChunkRow) → Holds d → Holds (revoked_row d server handle version o)
  revoked_holds d server handle version None h = h
  revoked_holds d server handle version (Some row) h = either ((row.granted == version) && (row.primary == server)) (ends_at d handle 0) d h h

  drops_hold : (d : MasterDoing) (server : ℕ) (lines : List ReplicaLine) → Holds d → Holds (drops_useless d server lines)
  drops_hold d server [] h = h
  drops_hold d server (line ∷ rest) h =
      let useless : Bool = is_useless line.version.0 (chunk_of d.master.logged.table line.handle.0) in
      let dropped : MasterDoing = orders d server (λ order. body.Drop order line.handle line.version) in
      drops_hold (cond useless dropped d) server rest (either useless dropped d h h)

  learns_all_hold : (d : MasterDoing) (server : ℕ) (lines : List ReplicaLine) → Holds d → Holds (learns_all d server lines)
  learns_all_hold d server [] h = h
  learns_all_hold d server (line ∷ rest) h = learns_all_hold (learns d server line.handle.0 line.version.0) server rest (learns_holds d server line.handle.0 line.version.0 h)

  extends_row_holds : (d : MasterDoing) (server : ℕ) (line : LeaseLine) (o : Option ChunkRow) → Holds d → Holds (extends_row d server line o)
  extends_row_holds d server line None h = h
  extends_row_holds d server line (Some row) h =
      let until : ℕ = d.master.now + d.master.config.lease_ms in
      either (may_extend d.master server line row && nat_lt row.lease_end until) (tells (ends_at d line.handle.0 until) (the_server server) (body.Extend line.handle line.version (moment_of until))) d h h

  extends_all_hold : (d : MasterDoing) (server : ℕ) (lines : List LeaseLine) → Holds d → Holds (extends_all d server lines)
  extends_all_hold d server [] h = h
  extends_all_hold d server (line ∷ rest) h =
      extends_all_hold (extends_row d server line (chunk_of d.master.logged.table line.handle.0)) server rest (extends_row_holds d server line (chunk_of d.master.logged.table line.handle.0) h)

  pub report_holds : (d : MasterDoing) (server : ℕ) (replicas : List ReplicaLine) (leases : List LeaseLine) → Holds d → Holds (takes_report d server replicas leases)
  report_holds d server replicas leases h =
      let heard : MasterDoing = drops_useless (hears d server replicas) server replicas in
      extends_all_hold (learns_all heard server replicas) server leases (learns_all_hold heard server replicas (drops_hold (hears d server replicas) server replicas h))
