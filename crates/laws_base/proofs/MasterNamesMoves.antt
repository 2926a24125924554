-- What a name call, a snapshot and an order of the master are made of.
use Rattle.std.proofs.Common.{◌≡◌, ℕ, List, [], ◌∷◌, Option, Some, None, ◌++◌, ◌≤◌, false, refl, sym, subst}
use Rattle.std.specs.Prelude.{nat_le, nat_lt, ◌==◌, not}
use Rattle.std.specs.FinMap as table
use Rattle.gfs_types.specs.declared.ids.Node.{Node}
use Rattle.gfs_types.specs.declared.ids.OrderNo.{OrderNo}
use Rattle.gfs_types.specs.declared.call.Call.{Call}
use Rattle.gfs_types.specs.declared.call.Call.TheVariants as call
use Rattle.gfs_types.specs.declared.refusal.Refusal.{Refusal}
use Rattle.gfs_types.specs.declared.refusal.Refusal.TheVariants.{NamesFull}
use Rattle.messages.specs.declared.message.NameReply.TheVariants.{Answered}
use Rattle.messages.specs.declared.message.Body.{Body}
use Rattle.messages.specs.declared.message.Body.TheVariants as body
use Rattle.log_records.specs.declared.record.Record.{Record}
use Rattle.log_records.specs.declared.record.Record.TheVariants as log
use Rattle.relaxed_file.specs.NameStep.{needs_room, outcome_by}
use Rattle.gfs_types.specs.Counters.{counter_limit}
use Rattle.protocol.specs.Tables.{has_number}
use Rattle.protocol.specs.Sending.{the_client, client_id, file_id, moment_of, order_number}
use Rattle.chunk_table.specs.ChunkTable.{ChunkRow, chunk_of}
use Rattle.protocol.specs.Logged.{KeptCall}
use Rattle.protocol.specs.Master.{MasterDoing, PendingSnapshot, tells, orders, has_lease, gives_up_copies, without_attempts}
use Rattle.protocol.specs.MasterSnapshots.{revokes_row, revokes, revokes_all, takes_locks, begins_snapshot, snapshot_handles, snapshot_files, copies_for_files, reply_of, answers_name, settles_name, refuses_name, changes_names, first_is_true, all_but_first, lets_go, is_same_snapshot, takes_snapshot, takes_ready, is_ready}
use Rattle.protocol.specs.MasterNames.{master_refusal, reply_by, takes_look, performs, names_by, is_waiting_call, names_anew, names_kept, takes_name, told_shape}
use Rattle.laws_base.proofs.LeaseOrders.{revoke_order}
use Rattle.laws_base.proofs.Steps.{on_cond}
use Rattle.laws_base.proofs.Entries.{AllOf}
use Rattle.laws_base.proofs.Words.{is_of_lease}
use Rattle.laws_base.proofs.VersionAttempts.{fewer_told}
use Rattle.laws_base.proofs.LeasesEnded.{fewer_ready, less_ready}
use Rattle.laws_base.proofs.Namespace.{IsNamespace, IsNamed, IsAmong, AreAllApart, without_snapshot, filtered_namespace, all_among, all_still_among, mkdir_named, rmdir_named, create_named, delete_named, rename_named, waits_named, taken_named}
use Rattle.laws_base.proofs.CopiesUnderWay.{AreCopied, listed_copied}
use Rattle.laws_base.proofs.MasterMoves.{Core, core_of, IsDue, IsPlainOrder, IsNoGrantRecord, Keeps, logs_snapshots, At, logs_keeps}

settled_snapshots : (d : MasterDoing) (client number : ℕ) (r : Record) (o : Option Refusal) (ss : List PendingSnapshot) → d.master.snapshots ≡ ss → (settles_name d client number r o).master.snapshots ≡ ss
settled_snapshots d client number r o ss h = logs_snapshots d r (λ e. answers_name e client number o) ss (λ e is. is) h

-- a snapshot that is taken waits no more
taken_snapshots : (d : MasterDoing) (s : PendingSnapshot) → (takes_snapshot d s).master.snapshots ≡ without_snapshot s d.master.snapshots
taken_snapshots d s =
    let gone : MasterDoing = lets_go d s in
    let tried : MasterDoing = record gone { refused = all_but_first gone.refused } in
    let entry : Record = log.Snapshot (client_id s.client) s.number s.from s.to in
    let left : List PendingSnapshot = without_snapshot s d.master.snapshots in
    on_cond (λ (e : MasterDoing). e.master.snapshots ≡ left) (first_is_true gone.refused) (refuses_name tried s.client s.number NamesFull) (settles_name tried s.client s.number entry None)
    (λ _. settled_snapshots tried s.client s.number (log.Refused (client_id s.client) s.number NamesFull) (Some NamesFull) left refl)
    (λ _. settled_snapshots tried s.client s.number entry None left refl)

module _ (Asks : Type 0) (Told : ℕ → ℕ → ℕ → Type 0) (Ended : ℕ → ℕ → Type 0) (P : Core → Type 0) (k : Keeps Asks Told Ended P) where
  -- a record that fits the names
  abbrev pub Named : MasterDoing → Record → Type 0
  Named d r = Asks → IsNamed d.master.logged.names d.master.logged.next_file r d.master.snapshots

  pub tells_keeps : (d : MasterDoing) (receiver : Node) (b : Body) → is_of_lease b ≡ false → At Asks Told Ended P k d → At Asks Told Ended P k (tells d receiver b)
  tells_keeps d receiver b e h = (k.tells (core_of d) receiver b e h.0, h.1, h.2, h.3)

  pub orders_keeps : (d : MasterDoing) (server : ℕ) (b : OrderNo → Body) → ((o : OrderNo) → order_number (b o) ≡ Some o) → ((o : OrderNo) → IsPlainOrder (b o)) → At Asks Told Ended P k d → At Asks Told Ended P k (orders d server b)
  orders_keeps d server b e plain h = (k.orders (core_of d) server b e plain h.0, h.1, h.2, h.3)

  pub copies_keeps : (d : MasterDoing) (handles : List ℕ) → AreCopied d.master.logged handles → At Asks Told Ended P k d → At Asks Told Ended P k (gives_up_copies d handles)
  copies_keeps d handles copied h = (k.less (core_of d) handles copied h.0, fewer_told Told d.master.attempts handles h.1, h.2, λ asks. less_ready d.master.now d.master.attempts d.master.logged handles (h.3 asks))

  revoked_keeps : (d : MasterDoing) (handle : ℕ) (o : Option ChunkRow) → chunk_of d.master.logged.table handle ≡ o → At Asks Told Ended P k d → At Asks Told Ended P k (revokes_row d handle o)
  revoked_keeps d handle None is h = h
  revoked_keeps d handle (Some row) is h =
      on_cond (At Asks Told Ended P k) (has_lease d.master row) (orders d row.primary (revoke_order handle row)) d
      (λ _. (k.revokes (core_of d) handle row is h.0, h.1, h.2, h.3)) (λ _. h)

  pub revokes_keeps : (d : MasterDoing) (handle : ℕ) → At Asks Told Ended P k d → At Asks Told Ended P k (revokes d handle)
  revokes_keeps d handle h = revoked_keeps d handle (chunk_of d.master.logged.table handle) refl h

  revokes_all_keeps : (d : MasterDoing) (handles : List ℕ) → At Asks Told Ended P k d → At Asks Told Ended P k (revokes_all d handles)
  revokes_all_keeps d [] h = h
  revokes_all_keeps d (handle ∷ rest) h = revokes_all_keeps (revokes d handle) rest (revokes_keeps d handle h)

  begins_keeps : (d : MasterDoing) (s : PendingSnapshot) → (Asks → IsNamespace d.master.logged.names (d.master.snapshots ++ s ∷ [])) → At Asks Told Ended P k d → At Asks Told Ended P k (begins_snapshot d s)
  begins_keeps d s waits h =
      let handles : List ℕ = snapshot_handles d.master s in
      let held : MasterDoing = without_attempts (takes_locks d s) handles in
      let files : List ℕ = copies_for_files d.master.logged (snapshot_files d.master s) in
      revokes_all_keeps (gives_up_copies held files) handles (copies_keeps held files (listed_copied d.master.logged (λ c. has_number (snapshot_files d.master s) c.file)) (h.0, fewer_told Told d.master.attempts handles h.1, waits, λ asks. fewer_ready d.master.now d.master.attempts handles d.master.logged (h.3 asks)))

  answers_keeps : (client number : ℕ) (o : Option Refusal) (d : MasterDoing) → At Asks Told Ended P k d → At Asks Told Ended P k (answers_name d client number o)
  answers_keeps client number o d h = tells_keeps d (the_client client) (body.Named number (Answered (reply_of o))) refl h

  settles_keeps : (d : MasterDoing) (client number : ℕ) (r : Record) (o : Option Refusal) → IsDue Asks d.master.logged r → IsNoGrantRecord r → Named d r → At Asks Told Ended P k d → At Asks Told Ended P k (settles_name d client number r o)
  settles_keeps d client number r o due plain named h = logs_keeps Asks Told Ended P k d r (λ e. answers_name e client number o) due plain named (answers_keeps client number o) h

  refuses_keeps : (d : MasterDoing) (client number : ℕ) (refusal : Refusal) → At Asks Told Ended P k d → At Asks Told Ended P k (refuses_name d client number refusal)
  refuses_keeps d client number refusal h = settles_keeps d client number (log.Refused (client_id client) number refusal) (Some refusal) tt tt (λ asks. record { due = tt; after = h.2 asks }) h

  changes_keeps : (d : MasterDoing) (client number : ℕ) (c : Call) (r : Record) → IsDue Asks d.master.logged r → IsNoGrantRecord r → Named d r → At Asks Told Ended P k d → At Asks Told Ended P k (changes_names d client number c r)
  changes_keeps d client number c r due plain named h =
      let tried : MasterDoing = record d { refused = all_but_first d.refused } in
      on_cond (At Asks Told Ended P k) (needs_room c) _ (settles_name d client number r None)
      (λ _. on_cond (At Asks Told Ended P k) (first_is_true d.refused) (refuses_name tried client number NamesFull) (settles_name tried client number r None)
      (λ _. refuses_keeps tried client number NamesFull h)
      (λ _. settles_keeps tried client number r None due plain named h))
      (λ _. settles_keeps d client number r None due plain named h)

  snapshot_keeps : (d : MasterDoing) (s : PendingSnapshot) → (Asks → IsAmong d.master.snapshots s) → At Asks Told Ended P k d → At Asks Told Ended P k (takes_snapshot d s)
  snapshot_keeps d s among h =
      changes_keeps (lets_go d s) s.client s.number (call.Snapshot s.from s.to) (log.Snapshot (client_id s.client) s.number s.from s.to) tt tt
      (λ asks. taken_named d.master.logged.names d.master.snapshots (client_id s.client) s.number s d.master.logged.next_file (among asks) (h.2 asks))
      (h.0, h.1, λ asks. filtered_namespace d.master.logged.names (λ t. not (is_same_snapshot s t)) d.master.snapshots (h.2 asks), h.3)

  -- the snapshots that are left to look at wait still
  ready_in : (d : MasterDoing) (ss : List PendingSnapshot) → (Asks → AllOf (IsAmong d.master.snapshots) ss) → (Asks → AreAllApart ss) → At Asks Told Ended P k d → At Asks Told Ended P k (takes_ready d ss)
  ready_in d [] among apart h = h
  ready_in d (s ∷ ss) among apart h =
      on_cond (λ (e : MasterDoing). At Asks Told Ended P k (takes_ready e ss)) (is_ready d.master s) (takes_snapshot d s) d
      (λ _. ready_in (takes_snapshot d s) ss
      (λ asks. subst (λ (ts : List PendingSnapshot). AllOf (IsAmong ts) ss) (sym (taken_snapshots d s)) (all_still_among d.master.snapshots s ss (apart asks).0 (among asks).1))
      (λ asks. (apart asks).1) (snapshot_keeps d s (λ asks. (among asks).0) h))
      (λ _. ready_in d ss (λ asks. (among asks).1) (λ asks. (apart asks).1) h)

  pub ready_keeps : (d : MasterDoing) → At Asks Told Ended P k d → At Asks Told Ended P k (takes_ready d d.master.snapshots)
  ready_keeps d h = ready_in d d.master.snapshots (λ asks. all_among d.master.snapshots) (λ asks. (h.2 asks).apart) h

  pub look_keeps : (d : MasterDoing) (client : Node) (number : ℕ) (c : Call) → At Asks Told Ended P k d → At Asks Told Ended P k (takes_look d client number c)
  look_keeps d client number c h = tells_keeps d client (body.Named number (reply_by d.master.logged.table (outcome_by d.master.logged.names c (master_refusal d.master c)))) refl h

  -- what a call finds that meets no refusal: its refusal, that it doesn't wait already, and room for ids
  performs_keeps : (d : MasterDoing) (client number deadline : ℕ) (c : Call) → master_refusal d.master c ≡ None → is_waiting_call d.master client number ≡ false → (Asks → d.master.logged.next_file ≤ counter_limit)
      → At Asks Told Ended P k d → At Asks Told Ended P k (performs d client number deadline c)
  performs_keeps d client number deadline (call.Mkdir p) may new bound h =
      changes_keeps d client number (call.Mkdir p) (log.Mkdir (client_id client) number p) tt tt (λ asks. mkdir_named d.master (client_id client) number p d.master.logged.next_file may (h.2 asks)) h
  performs_keeps d client number deadline (call.Rmdir p) may new bound h =
      changes_keeps d client number (call.Rmdir p) (log.Rmdir (client_id client) number p) tt tt (λ asks. rmdir_named d.master (client_id client) number p d.master.logged.next_file may (h.2 asks)) h
  performs_keeps d client number deadline (call.Create p shape) may new bound h =
      changes_keeps d client number (call.Create p shape) (log.Create (client_id client) number (file_id d.master.logged.next_file) (told_shape d.master.config shape) p) refl tt
      (λ asks. create_named d.master (client_id client) number (file_id d.master.logged.next_file) shape p d.master.logged.next_file may (h.2 asks)) h
  performs_keeps d client number deadline (call.Delete p) may new bound h =
      changes_keeps d client number (call.Delete p) (log.Delete (client_id client) number (moment_of d.master.now) p) tt tt
      (λ asks. delete_named d.master (client_id client) number (moment_of d.master.now) p d.master.logged.next_file (bound asks) may (h.2 asks)) h
  performs_keeps d client number deadline (call.Rename p q) may new bound h =
      changes_keeps d client number (call.Rename p q) (log.Rename (client_id client) number p q) tt tt (λ asks. rename_named d.master (client_id client) number p q d.master.logged.next_file may (h.2 asks)) h
  performs_keeps d client number deadline (call.Snapshot p q) may new bound h =
      let s : PendingSnapshot = record { client = client; number = number; deadline = deadline; from = p; to = q } in
      begins_keeps d s (λ asks. waits_named d.master s may new (h.2 asks)) h
  performs_keeps d client number deadline other may new bound h = h

  by_keeps : (d : MasterDoing) (client number deadline : ℕ) (c : Call) (o : Option Refusal) → master_refusal d.master c ≡ o → is_waiting_call d.master client number ≡ false
      → (Asks → d.master.logged.next_file ≤ counter_limit) → At Asks Told Ended P k d → At Asks Told Ended P k (names_by d client number deadline c o)
  by_keeps d client number deadline c (Some refusal) may new bound h = refuses_keeps d client number refusal h
  by_keeps d client number deadline c None may new bound h = performs_keeps d client number deadline c may new bound h

  anew_keeps : (d : MasterDoing) (client number deadline : ℕ) (c : Call) → (Asks → d.master.logged.next_file ≤ counter_limit) → At Asks Told Ended P k d → At Asks Told Ended P k (names_anew d client number deadline c)
  anew_keeps d client number deadline c bound h =
      on_cond (At Asks Told Ended P k) (nat_le deadline d.master.now) d _ (λ _. h)
      (λ _. on_cond (At Asks Told Ended P k) (is_waiting_call d.master client number) d (names_by d client number deadline c (master_refusal d.master c)) (λ _. h)
      (λ new. by_keeps d client number deadline c (master_refusal d.master c) refl new bound h))

  kept_keeps : (d : MasterDoing) (client number deadline : ℕ) (c : Call) (o : Option KeptCall) → (Asks → d.master.logged.next_file ≤ counter_limit) → At Asks Told Ended P k d → At Asks Told Ended P k (names_kept d client number deadline c o)
  kept_keeps d client number deadline c None bound h = anew_keeps d client number deadline c bound h
  kept_keeps d client number deadline c (Some kept) bound h =
      on_cond (At Asks Told Ended P k) (kept.number == number) (answers_name d client number kept.refusal) _ (λ _. answers_keeps client number kept.refusal d h)
      (λ _. on_cond (At Asks Told Ended P k) (nat_lt number kept.number) d (names_anew d client number deadline c) (λ _. h) (λ _. anew_keeps d client number deadline c bound h))

  pub name_keeps : (d : MasterDoing) (client number deadline : ℕ) (c : Call) → (Asks → d.master.logged.next_file ≤ counter_limit) → At Asks Told Ended P k d → At Asks Told Ended P k (takes_name d client number deadline c)
  name_keeps d client number deadline c bound h = kept_keeps d client number deadline c (table.get d.master.logged.kept client) bound h
