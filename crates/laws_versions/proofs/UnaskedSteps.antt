-- What is kept by a step of the master that takes no Ask, with its version attempts and its records: it issues no number, begins no copy and tells no location.
use Rattle.std.proofs.Common.{◌≡◌, ℕ, ◌<◌, Bool, true, false, List, [], ◌∷◌, ◌++◌, Option, Some, None, refl, sym, ◌∙◌}
use Rattle.std.specs.Prelude.{◌+◌, ◌==◌, ◌&&◌, not, nat_lt, nat_le}
use Rattle.std.specs.FinMap as table
use Rattle.std.proofs.lemmas.Bool.{leb-false}
use Rattle.gfs_types.specs.declared.ids.Node.{Node}
use Rattle.gfs_types.specs.declared.ids.OrderNo.{OrderNo}
use Rattle.gfs_types.specs.declared.call.Call.{Call}
use Rattle.gfs_types.specs.declared.call.Call.TheVariants as call
use Rattle.gfs_types.specs.declared.refusal.Refusal.{Refusal}
use Rattle.gfs_types.specs.declared.refusal.Refusal.TheVariants.{NamesFull}
use Rattle.messages.specs.declared.message.Body.{Body}
use Rattle.messages.specs.declared.message.Body.TheVariants as body
use Rattle.messages.specs.declared.message.Message.{Message}
use Rattle.messages.specs.declared.message.NameReply.TheVariants.{Answered}
use Rattle.messages.specs.declared.message.ReplicaLine.{ReplicaLine}
use Rattle.messages.specs.declared.message.LeaseLine.{LeaseLine}
use Rattle.messages.specs.declared.event.NodeInput.{NodeInput}
use Rattle.messages.specs.declared.event.NodeInput.TheVariants as input
use Rattle.log_records.specs.declared.record.Record.{Record}
use Rattle.log_records.specs.declared.record.Record.TheVariants as log
use Rattle.relaxed_file.specs.NameStep.{outcome_by, needs_room}
use Rattle.chunk_table.specs.ChunkTable.{ChunkRow, chunk_of}
use Rattle.protocol.specs.Tables.{rising, has_number, with_number}
use Rattle.protocol.specs.LogSizes.{checkpoint_fits}
use Rattle.protocol.specs.Sending.{client_id, file_id, server_id, handle_of, version_of, moment_of, the_server, the_client, client_number, server_number}
use Rattle.protocol.specs.Logged.{KeptCall, checkpoint_of}
use Rattle.protocol.specs.Master.{MasterDoing, PendingSnapshot, VersionAttempt, tells, orders, logs, logs_after_checkpoint, appends, fits, writes_checkpoint, is_of_copy, ends_at, with_attempt, without_attempts, gives_up_copies, has_lease}
use Rattle.protocol.specs.MasterSnapshots.{revokes_row, revokes, revokes_all, takes_locks, begins_snapshot, snapshot_handles, snapshot_files, copies_for_files, reply_of, answers_name, settles_name, refuses_name, changes_names, first_is_true, all_but_first, lets_go, takes_snapshot, takes_ready, is_ready, waits_for}
use Rattle.protocol.specs.MasterNames.{master_refusal, reply_by, performs, names_by, is_waiting_call, names_anew, names_kept, told_shape}
use Rattle.protocol.specs.MasterVersions.{sends_grant, grants_to, is_complete, with_recorded, learns_attempt, learns}
use Rattle.protocol.specs.MasterReports.{holds_now, revoked_row, is_useless, drops_useless, learns_all, may_extend, extends_row, extends_all, hears, takes_report}
use Rattle.protocol.specs.MasterClones.{CloneOrder, orders_clone, best_clone}
use Rattle.protocol.specs.MasterStep.{master_ticks, gives_up_attempts, gives_up_lost_copies, lost_copies, expires_all, expires_old, expired_files, master_takes, master_does, finishes}
use Rattle.laws_base.proofs.LeaseOrders.{revoke_order}
use Rattle.laws_base.proofs.Steps.{on_cond, put_there}
use Rattle.laws_base.proofs.MasterMoves.{removed_other}
use Rattle.laws_base.proofs.VersionAttempts.{both_of}
use Rattle.laws_base.proofs.MasterActs.{both_false}
use Rattle.laws_base.proofs.MasterPremises.{IsOfCalls}

-- a message that tells a location
abbrev pub is_location : Body → Bool
is_location (body.Told number (Some l)) = true
is_location other = false

-- a record of a name call
abbrev pub IsOfNames : Record → Type 0
IsOfNames (log.Mkdir client n path) = Unit {0}
IsOfNames (log.Rmdir client n path) = Unit {0}
IsOfNames (log.Create client n file shape path) = Unit {0}
IsOfNames (log.Delete client n moment path) = Unit {0}
IsOfNames (log.Rename client n from to) = Unit {0}
IsOfNames (log.Snapshot client n from to) = Unit {0}
IsOfNames (log.Refused client n refusal) = Unit {0}
IsOfNames (log.Expired file) = Unit {0}
IsOfNames other = ⊥

pub calls_are_of_names : (r : Record) → IsOfCalls r → IsOfNames r
calls_are_of_names (log.Mkdir client n path) is = tt
calls_are_of_names (log.Rmdir client n path) is = tt
calls_are_of_names (log.Create client n file shape path) is = tt
calls_are_of_names (log.Delete client n moment path) is = tt
calls_are_of_names (log.Rename client n from to) is = tt
calls_are_of_names (log.Snapshot client n from to) is = tt
calls_are_of_names (log.Refused client n refusal) is = tt
calls_are_of_names other is = absurd is

-- What is kept by a step with these records, and by all else that name calls, snapshots and files that expire do.
pub record KeepsThese (Of : Record → Type 0) (P : MasterDoing → Type 0) : Type 0 where
  pub said : (d : MasterDoing) (receiver : Node) (b : Body) → is_location b ≡ false → P d → P (tells d receiver b)
  pub ordered : (d : MasterDoing) (server : ℕ) (b : OrderNo → Body) → ((o : OrderNo) → is_location (b o) ≡ false) → P d → P (orders d server b)
  pub recorded : (d : MasterDoing) (r : Record) → Of r → P d → P (appends d r)
  pub checkpointed : (d : MasterDoing) → P d → P (writes_checkpoint d)
  pub less : (d : MasterDoing) (handles : List ℕ) → P d → P (gives_up_copies d handles)
  pub fewer : (d : MasterDoing) (handles : List ℕ) → P d → P (without_attempts d handles)
  pub waiting : (d : MasterDoing) (ss : List PendingSnapshot) → P d → P (record d { master = record d.master { snapshots = ss } })
  pub refusing : (d : MasterDoing) (bs : List Bool) → P d → P (record d { refused = bs })

-- What name calls, snapshots and files that expire keep.
abbrev pub KeepsNames : (MasterDoing → Type 0) → Type 0
KeepsNames P = KeepsThese IsOfNames P

module _ (Of : Record → Type 0) (calls : (r : Record) → IsOfCalls r → Of r) (P : MasterDoing → Type 0) (k : KeepsThese Of P) where
  logged : (d : MasterDoing) (r : Record) (then_ : MasterDoing → MasterDoing) → Of r → ((e : MasterDoing) → P e → P (then_ e)) → P d → P (logs d r then_)
  logged d r then_ names go h =
      on_cond P (fits d r) (then_ (appends d r)) _ (λ _. go (appends d r) (k.recorded d r names h))
      (λ _. on_cond P (checkpoint_fits d.master.config.log_bytes (checkpoint_of d.master.logged)) (logs_after_checkpoint (writes_checkpoint d) r (is_of_copy d.master.logged r) then_) d
      (λ _. on_cond P _ (then_ (appends (writes_checkpoint d) r)) (writes_checkpoint d) (λ _. go (appends (writes_checkpoint d) r) (k.recorded (writes_checkpoint d) r names (k.checkpointed d h))) (λ _. k.checkpointed d h)) (λ _. h))

  answered : (client number : ℕ) (o : Option Refusal) (d : MasterDoing) → P d → P (answers_name d client number o)
  answered client number o d h = k.said d (the_client client) (body.Named number (Answered (reply_of o))) refl h

  settled : (d : MasterDoing) (client number : ℕ) (r : Record) (o : Option Refusal) → Of r → P d → P (settles_name d client number r o)
  settled d client number r o names h = logged d r (λ e. answers_name e client number o) names (answered client number o) h

  refused : (d : MasterDoing) (client number : ℕ) (refusal : Refusal) → P d → P (refuses_name d client number refusal)
  refused d client number refusal h = settled d client number (log.Refused (client_id client) number refusal) (Some refusal) (calls (log.Refused (client_id client) number refusal) tt) h

  changed : (d : MasterDoing) (client number : ℕ) (c : Call) (r : Record) → Of r → P d → P (changes_names d client number c r)
  changed d client number c r names h =
      let tried : MasterDoing = record d { refused = all_but_first d.refused } in
      let less : P tried = k.refusing d (all_but_first d.refused) h in
      on_cond P (needs_room c) _ (settles_name d client number r None)
      (λ _. on_cond P (first_is_true d.refused) (refuses_name tried client number NamesFull) (settles_name tried client number r None) (λ _. refused tried client number NamesFull less) (λ _. settled tried client number r None names less))
      (λ _. settled d client number r None names h)

  revoked_of : (d : MasterDoing) (handle : ℕ) (o : Option ChunkRow) → P d → P (revokes_row d handle o)
  revoked_of d handle None h = h
  revoked_of d handle (Some row) h =
      on_cond P (has_lease d.master row) (orders d row.primary (revoke_order handle row)) d
      (λ _. k.ordered d row.primary (revoke_order handle row) (λ o. refl) h) (λ _. h)

  revoked_all : (d : MasterDoing) (handles : List ℕ) → P d → P (revokes_all d handles)
  revoked_all d [] h = h
  revoked_all d (handle ∷ rest) h = revoked_all (revokes d handle) rest (revoked_of d handle (chunk_of d.master.logged.table handle) h)

  begun : (d : MasterDoing) (s : PendingSnapshot) → P d → P (begins_snapshot d s)
  begun d s h =
      let handles : List ℕ = snapshot_handles d.master s in
      let locked : MasterDoing = takes_locks d s in
      let files : List ℕ = copies_for_files d.master.logged (snapshot_files d.master s) in
      revoked_all (gives_up_copies (without_attempts locked handles) files) handles (k.less (without_attempts locked handles) files (k.fewer locked handles (k.waiting d (d.master.snapshots ++ s ∷ []) h)))

  ready_kept : (d : MasterDoing) (ss : List PendingSnapshot) → P d → P (takes_ready d ss)
  ready_kept d [] h = h
  ready_kept d (s ∷ ss) h =
      on_cond (λ (e : MasterDoing). P (takes_ready e ss)) (is_ready d.master s) (takes_snapshot d s) d
      (λ _. ready_kept (takes_snapshot d s) ss (changed (lets_go d s) s.client s.number (call.Snapshot s.from s.to) (log.Snapshot (client_id s.client) s.number s.from s.to) (calls (log.Snapshot (client_id s.client) s.number s.from s.to) tt) (k.waiting d (lets_go d s).master.snapshots h))) (λ _. ready_kept d ss h)

  performed : (d : MasterDoing) (client number deadline : ℕ) (c : Call) → P d → P (performs d client number deadline c)
  performed d client number deadline (call.Mkdir p) h = changed d client number (call.Mkdir p) (log.Mkdir (client_id client) number p) (calls (log.Mkdir (client_id client) number p) tt) h
  performed d client number deadline (call.Rmdir p) h = changed d client number (call.Rmdir p) (log.Rmdir (client_id client) number p) (calls (log.Rmdir (client_id client) number p) tt) h
  performed d client number deadline (call.Create p shape) h = changed d client number (call.Create p shape) (log.Create (client_id client) number (file_id d.master.logged.next_file) (told_shape d.master.config shape) p) (calls (log.Create (client_id client) number (file_id d.master.logged.next_file) (told_shape d.master.config shape) p) tt) h
  performed d client number deadline (call.Delete p) h = changed d client number (call.Delete p) (log.Delete (client_id client) number (moment_of d.master.now) p) (calls (log.Delete (client_id client) number (moment_of d.master.now) p) tt) h
  performed d client number deadline (call.Rename p q) h = changed d client number (call.Rename p q) (log.Rename (client_id client) number p q) (calls (log.Rename (client_id client) number p q) tt) h
  performed d client number deadline (call.Snapshot p q) h = begun d (record { client = client; number = number; deadline = deadline; from = p; to = q }) h
  performed d client number deadline other h = h

  named_by : (d : MasterDoing) (client number deadline : ℕ) (c : Call) (o : Option Refusal) → P d → P (names_by d client number deadline c o)
  named_by d client number deadline c (Some refusal) h = refused d client number refusal h
  named_by d client number deadline c None h = performed d client number deadline c h

  anew : (d : MasterDoing) (client number deadline : ℕ) (c : Call) → P d → P (names_anew d client number deadline c)
  anew d client number deadline c h =
      on_cond P (nat_le deadline d.master.now) d _ (λ _. h)
      (λ _. on_cond P (is_waiting_call d.master client number) d (names_by d client number deadline c (master_refusal d.master c)) (λ _. h) (λ _. named_by d client number deadline c (master_refusal d.master c) h))

  kept_said : (d : MasterDoing) (client number deadline : ℕ) (c : Call) (o : Option KeptCall) → P d → P (names_kept d client number deadline c o)
  kept_said d client number deadline c None h = anew d client number deadline c h
  kept_said d client number deadline c (Some kept) h =
      on_cond P (kept.number == number) (answers_name d client number kept.refusal) _ (λ _. answered client number kept.refusal d h)
      (λ _. on_cond P (nat_lt number kept.number) d (names_anew d client number deadline c) (λ _. h) (λ _. anew d client number deadline c h))

  expires_kept : ((file : ℕ) → Of (log.Expired (file_id file))) → (d : MasterDoing) (files : List ℕ) → P d → P (expires_all d files)
  expires_kept expired d [] h = h
  expires_kept expired d (file ∷ rest) h = expires_kept expired (logs d (log.Expired (file_id file)) (λ e. e)) rest (logged d (log.Expired (file_id file)) (λ e. e) (expired file) (λ e g. g) h)

-- snapshots that are ready
pub ready : (P : MasterDoing → Type 0) → KeepsNames P → (d : MasterDoing) (ss : List PendingSnapshot) → P d → P (takes_ready d ss)
ready P k d ss h = ready_kept IsOfNames calls_are_of_names P k d ss h

-- a message that is no Ask
abbrev pub IsNoAsk : Body → Type 0
IsNoAsk (body.Ask number file w deadline lost) = ⊥
IsNoAsk other = Unit {0}

abbrev pub IsUnasked : NodeInput → Type 0
IsUnasked (input.Deliver m) = IsNoAsk m.body
IsUnasked input.Tick = Unit {0}

-- What words of servers and ticks keep.
pub record KeepsReports (P : MasterDoing → Type 0) : Type 0 where
  pub held : (d : MasterDoing) (server handle version : ℕ) → P d → P (holds_now d server handle version)
  pub heard : (d : MasterDoing) (server : ℕ) (lines : List ReplicaLine) → P d → P (hears d server lines)
  pub in_time : (d : MasterDoing) → P d → P (gives_up_attempts d)
  -- one more server recorded an attempt
  pub noted : (d : MasterDoing) (handle : ℕ) (a b : VersionAttempt) → table.get d.master.attempts handle ≡ Some a → b.version ≡ a.version → P d → P (with_attempt d handle b)
  pub granted : (d : MasterDoing) (handle : ℕ) (a : VersionAttempt) (primary : ℕ) (members : List ℕ) → table.get d.master.attempts handle ≡ Some a → P d
      → P (sends_grant (appends d (log.Grant (handle_of handle) (version_of a.version) (server_id primary) members)) handle a.version primary members)
  pub ended : (d : MasterDoing) (handle : ℕ) → P d → P (ends_at d handle 0)
  pub lengthened : (d : MasterDoing) (handle until : ℕ) (row : ChunkRow) → chunk_of d.master.logged.table handle ≡ Some row → d.master.now < row.lease_end → P d → P (ends_at d handle until)

module _ (Of : Record → Type 0) (calls : (r : Record) → IsOfCalls r → Of r) (P : MasterDoing → Type 0) (k : KeepsThese Of P) (more : KeepsReports P) where
  grants_kept : (d : MasterDoing) (handle : ℕ) (a : VersionAttempt) (servers : List ℕ) → table.get d.master.attempts handle ≡ Some a → P d → P (grants_to d handle a servers)
  grants_kept d handle a [] at h = h
  grants_kept d handle a (primary ∷ rest) at h =
      let r : Record = log.Grant (handle_of handle) (version_of a.version) (server_id primary) (primary ∷ rest) in
      let then_ : MasterDoing → MasterDoing = λ e. sends_grant e handle a.version primary (primary ∷ rest) in
      let b : MasterDoing = writes_checkpoint d in
      on_cond P (fits d r) (then_ (appends d r)) _ (λ _. more.granted d handle a primary (primary ∷ rest) at h)
      (λ _. on_cond P (checkpoint_fits d.master.config.log_bytes (checkpoint_of d.master.logged)) (logs_after_checkpoint b r (is_of_copy d.master.logged r) then_) d
      (λ _. on_cond P (fits b r && not (is_of_copy d.master.logged r)) (then_ (appends b r)) b
      (λ t. more.granted b handle a primary (primary ∷ rest) (removed_other d.master.attempts (table.keys d.master.logged.copies) handle (sym (table.contains_key-keys d.master.logged.copies handle) ∙ both_false (fits b r) (is_of_copy d.master.logged r) t) ∙ at) (k.checkpointed d h))
      (λ _. k.checkpointed d h)) (λ _. h))

  recorded_kept : (d : MasterDoing) (handle : ℕ) (a b : VersionAttempt) → table.get d.master.attempts handle ≡ Some a → b.version ≡ a.version → P d → P (with_recorded d handle b)
  recorded_kept d handle a b at same h =
      let noted : P (with_attempt d handle b) = more.noted d handle a b at same h in
      on_cond P (is_complete d.master b) (grants_to (with_attempt d handle b) handle b (rising b.servers)) (with_attempt d handle b)
      (λ _. grants_kept (with_attempt d handle b) handle b (rising b.servers) (put_there d.master.attempts handle b handle refl) noted) (λ _. noted)

  learns_kept : (d : MasterDoing) (server handle version : ℕ) (o : Option ChunkRow) (p : Option VersionAttempt) → table.get d.master.attempts handle ≡ p → P d → P (learns_attempt d server handle version o p)
  learns_kept d server handle version None p at h = h
  learns_kept d server handle version (Some row) None at h = h
  learns_kept d server handle version (Some row) (Some a) at h =
      let one : VersionAttempt = record a { recorded = with_number a.recorded server } in
      on_cond P ((a.version == version) && has_number a.servers server) (with_recorded d handle one) d (λ _. recorded_kept d handle a one at refl h) (λ _. h)

  learns_all_kept : (d : MasterDoing) (server : ℕ) (lines : List ReplicaLine) → P d → P (learns_all d server lines)
  learns_all_kept d server [] h = h
  learns_all_kept d server (line ∷ rest) h =
      learns_all_kept (learns d server line.handle.0 line.version.0) server rest
      (learns_kept d server line.handle.0 line.version.0 (chunk_of d.master.logged.table line.handle.0) (table.get d.master.attempts line.handle.0) refl h)

  revoked_row_kept : (d : MasterDoing) (server handle version : ℕ) (o : Option ChunkRow) → P d → P (revoked_row d server handle version o)
  revoked_row_kept d server handle version None h = h
  revoked_row_kept d server handle version (Some row) h = on_cond P ((row.granted == version) && (row.primary == server)) (ends_at d handle 0) d (λ _. more.ended d handle h) (λ _. h)

  drops_kept : (d : MasterDoing) (server : ℕ) (lines : List ReplicaLine) → P d → P (drops_useless d server lines)
  drops_kept d server [] h = h
  drops_kept d server (line ∷ rest) h =
      let dropped : MasterDoing = orders d server (λ order. body.Drop order line.handle line.version) in
      on_cond (λ (e : MasterDoing). P (drops_useless e server rest)) (is_useless line.version.0 (chunk_of d.master.logged.table line.handle.0)) dropped d
      (λ _. drops_kept dropped server rest (k.ordered d server (λ order. body.Drop order line.handle line.version) (λ o. refl) h)) (λ _. drops_kept d server rest h)

  -- a lease that may be extended has not ended
  lasting : (now granted version primary server end_moment : ℕ) (wants free : Bool) → wants && (granted == version) && (primary == server) && (nat_lt 0 granted && not (nat_le end_moment now)) && free ≡ true → now < end_moment
  lasting now granted version primary server end_moment wants free h =
      let four = both_of _ free h in
      let three = both_of _ (nat_lt 0 granted && not (nat_le end_moment now)) four.0 in
      let left = both_of (nat_lt 0 granted) (not (nat_le end_moment now)) three.1 in
      late (nat_le end_moment now) refl left.1
    where
      late : (b : Bool) → nat_le end_moment now ≡ b → not b ≡ true → now < end_moment
      late true ended lasts = absurd (let both : false ≡ true = lasts in cc)
      late false ended lasts = leb-false end_moment now ended

  extends_kept : (d : MasterDoing) (server : ℕ) (line : LeaseLine) (o : Option ChunkRow) → chunk_of d.master.logged.table line.handle.0 ≡ o → P d → P (extends_row d server line o)
  extends_kept d server line None is h = h
  extends_kept d server line (Some row) is h =
      let until : ℕ = d.master.now + d.master.config.lease_ms in
      on_cond P (may_extend d.master server line row && nat_lt row.lease_end until) (tells (ends_at d line.handle.0 until) (the_server server) (body.Extend line.handle line.version (moment_of until))) d
      (λ may. let parts = both_of (may_extend d.master server line row) (nat_lt row.lease_end until) may in
      let late = lasting d.master.now row.granted line.version.0 row.primary server row.lease_end line.was_used_since_report (not (waits_for d.master line.handle.0)) parts.0 in
      k.said (ends_at d line.handle.0 until) (the_server server) (body.Extend line.handle line.version (moment_of until)) refl (more.lengthened d line.handle.0 until row is late h)) (λ _. h)

  extends_all_kept : (d : MasterDoing) (server : ℕ) (lines : List LeaseLine) → P d → P (extends_all d server lines)
  extends_all_kept d server [] h = h
  extends_all_kept d server (line ∷ rest) h =
      let row : Option ChunkRow = chunk_of d.master.logged.table line.handle.0 in
      extends_all_kept (extends_row d server line row) server rest (extends_kept d server line row refl h)

  report_kept : (d : MasterDoing) (server : ℕ) (replicas : List ReplicaLine) (leases : List LeaseLine) → P d → P (takes_report d server replicas leases)
  report_kept d server replicas leases h =
      let heard : MasterDoing = hears d server replicas in
      let dropped : MasterDoing = drops_useless heard server replicas in
      extends_all_kept (learns_all dropped server replicas) server leases (learns_all_kept dropped server replicas (drops_kept heard server replicas (more.heard d server replicas h)))

  clone_kept : (d : MasterDoing) (o : Option CloneOrder) → P d → P (orders_clone d o)
  clone_kept d None h = h
  clone_kept d (Some c) h = k.ordered d c.target (λ order. body.Clone order (handle_of c.handle) (version_of c.version) (server_id c.source)) (λ o. refl) h

  ticks_kept : ((file : ℕ) → Of (log.Expired (file_id file))) → (d : MasterDoing) → P d → P (master_ticks d)
  ticks_kept expired d h =
      let a : MasterDoing = gives_up_attempts d in
      let b : MasterDoing = gives_up_lost_copies a in
      let c : MasterDoing = expires_old b in
      clone_kept c (best_clone c.master (table.entries c.master.logged.table.chunks)) (expires_kept Of calls P k expired b (expired_files b.master) (k.less a (lost_copies a.master) (more.in_time d h)))

  takes_kept : (d : MasterDoing) (m : Message) (b : Body) → IsNoAsk b → P d → P (master_takes d m b)
  takes_kept d m (body.Name number deadline c) none h = kept_said Of calls P k d (client_number m.sender) number deadline.0 c (table.get d.master.logged.kept (client_number m.sender)) h
  takes_kept d m (body.Look number c) none h = k.said d m.sender (body.Named number (reply_by d.master.logged.table (outcome_by d.master.logged.names c (master_refusal d.master c)))) refl h
  takes_kept d m (body.Ask number file w deadline lost) none h = absurd none
  takes_kept d m (body.Recorded handle version) none h =
      let there : MasterDoing = holds_now d (server_number m.sender) handle.0 version.0 in
      learns_kept there (server_number m.sender) handle.0 version.0 (chunk_of there.master.logged.table handle.0) (table.get there.master.attempts handle.0) refl (more.held d (server_number m.sender) handle.0 version.0 h)
  takes_kept d m (body.Revoked handle version) none h = revoked_row_kept d (server_number m.sender) handle.0 version.0 (chunk_of d.master.logged.table handle.0) h
  takes_kept d m (body.Cloned handle version) none h = more.held d (server_number m.sender) handle.0 version.0 h
  takes_kept d m (body.Report replicas leases) none h = report_kept d (server_number m.sender) replicas leases h
  takes_kept d m other none h = h

  -- a message, at which no file expires, and the snapshots that are ready then
  pub taken_kept : (d : MasterDoing) (m : Message) → IsNoAsk m.body → P d → P (finishes (master_does d (input.Deliver m)))
  taken_kept d m none h = let e : MasterDoing = master_does d (input.Deliver m) in ready_kept Of calls P k e e.master.snapshots (takes_kept d m m.body none h)

pub does_kept : (P : MasterDoing → Type 0) → KeepsNames P → KeepsReports P → (d : MasterDoing) (i : NodeInput) → IsUnasked i → P d → P (master_does d i)
does_kept P k more d (input.Deliver m) none h = takes_kept IsOfNames calls_are_of_names P k more d m m.body none h
does_kept P k more d input.Tick none h = ticks_kept IsOfNames calls_are_of_names P k more (λ file. tt) d h

-- a tick, which grants nothing, and the snapshots that are ready then
pub ticked_kept : (P : MasterDoing → Type 0) → KeepsNames P → ((d : MasterDoing) → P d → P (gives_up_attempts d)) → (d : MasterDoing) → P d → P (finishes (master_does d input.Tick))
ticked_kept P k in_time d h = ready P k c c.master.snapshots (clone_kept (best_clone e.master (table.entries e.master.logged.table.chunks)) (expires_kept IsOfNames calls_are_of_names P k (λ file. tt) b (expired_files b.master) (k.less a (lost_copies a.master) (in_time d h))))
  where
    a : MasterDoing
    a = gives_up_attempts d

    b : MasterDoing
    b = gives_up_lost_copies a

    e : MasterDoing
    e = expires_old b

    c : MasterDoing
    c = master_does d input.Tick

    clone_kept : (o : Option CloneOrder) → P e → P (orders_clone e o)
    clone_kept None g = g
    clone_kept (Some o) g = k.ordered e o.target (λ order. body.Clone order (handle_of o.handle) (version_of o.version) (server_id o.source)) (λ o. refl) g
