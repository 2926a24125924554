-- A name call and a snapshot keep what each act keeps.
use Rattle.std.proofs.Common.{◌≡◌, ℕ, Bool, List, [], ◌∷◌, Option, Some, None, ◌++◌, ◌≤◌, true, false, refl, sym, subst}
use Rattle.std.specs.Prelude.{nat_le, nat_lt, ◌==◌, ◌||◌, not}
use Rattle.std.specs.List.{list_all}
use Rattle.std.proofs.lemmas.Bool.{true≢false, and_parts, eqb-true, leb-true}
use Rattle.std.specs.FinMap as table
use Rattle.gfs_types.specs.declared.ids.Node.{Node}
use Rattle.gfs_types.specs.declared.call.Call.{Call}
use Rattle.gfs_types.specs.declared.call.Call.TheVariants as call
use Rattle.gfs_types.specs.declared.refusal.Refusal.{Refusal}
use Rattle.gfs_types.specs.declared.refusal.Refusal.TheVariants.{NamesFull}
use Rattle.messages.specs.declared.message.NameReply.TheVariants.{Answered}
use Rattle.messages.specs.declared.message.Body.TheVariants as body
use Rattle.log_records.specs.declared.record.Record.{Record}
use Rattle.log_records.specs.declared.record.Record.TheVariants as log
use Rattle.relaxed_file.specs.NameStep.{needs_room, outcome_by}
use Rattle.gfs_types.specs.Counters.{counter_limit}
use Rattle.protocol.specs.Tables.{has_number, removed_all}
use Rattle.protocol.specs.Sending.{the_client, client_id, file_id, moment_of}
use Rattle.chunk_table.specs.ChunkTable.{ChunkRow, chunk_of}
use Rattle.protocol.specs.Logged.{KeptCall, LogDisk}
use Rattle.protocol.specs.Master.{MasterDoing, PendingSnapshot, orders, has_lease, gives_up_copies, without_attempts}
use Rattle.protocol.specs.MasterSnapshots.{revokes_row, revokes, revokes_all, takes_locks, begins_snapshot, snapshot_handles, snapshot_files, copies_for_files, reply_of, answers_name, settles_name, refuses_name, changes_names, first_is_true, all_but_first, lets_go, is_same_snapshot, takes_snapshot, takes_ready, is_ready, row_has_ended}
use Rattle.protocol.specs.MasterNames.{master_refusal, reply_by, takes_look, performs, names_by, is_waiting_call, names_anew, names_kept, takes_name, told_shape}
use Rattle.laws_base.proofs.LeaseOrders.{revoke_order}
use Rattle.laws_base.proofs.Steps.{on_cond, none_some, same_some, removed_cases}
use Rattle.laws_base.proofs.Entries.{AllOf}
use Rattle.laws_base.proofs.VersionAttempts.{fewer_told}
use Rattle.laws_base.proofs.LeasesEnded.{fewer_ready}
use Rattle.laws_base.proofs.Namespace.{IsNamespace, IsNamed, IsAmong, among_free, not_refused, AreAllApart, without_snapshot, filtered_namespace, all_among, all_still_among, mkdir_named, rmdir_named, create_named, delete_named, rename_named, waits_named, taken_named}
use Rattle.laws_base.proofs.CopiesUnderWay.{AreCopied, listed_copied}
use Rattle.laws_base.proofs.MasterMoves.{Core, core_of, Nothing, Keeps, IsDue, IsNoGrantRecord, logs_snapshots}
use Rattle.laws_base.proofs.MasterNamesMoves.{copies_keeps}
use Rattle.laws_base.proofs.MasterActs.{Waits, Acts, Base, Here, tells_here, logs_all, IsRowing}
use Rattle.laws_base.proofs.ApartPaths.{AreLocksApart, create_apart, rename_apart, snapshot_apart}
use Rattle.laws_base.proofs.Awaited.{Attempts, handle_in}
use Rattle.laws_base.proofs.AwaitedRecords.{IsBeside, waiting_more, waiting_filtered, still_waits, among_filtered}

settled_snapshots : (d : MasterDoing) (client number : ℕ) (r : Record) (o : Option Refusal) (ss : List PendingSnapshot) → d.master.snapshots ≡ ss → (settles_name d client number r o).master.snapshots ≡ ss
settled_snapshots d client number r o ss h = logs_snapshots d r (λ e. answers_name e client number o) ss (λ e is. is) h

-- a snapshot that is taken waits no more
taken_snapshots : (d : MasterDoing) (s : PendingSnapshot) → (takes_snapshot d s).master.snapshots ≡ without_snapshot s d.master.snapshots
taken_snapshots d s =
    let gone : MasterDoing = lets_go d s in
    let tried : MasterDoing = record gone { refused = all_but_first gone.refused } in
    let entry : Record = log.Snapshot (client_id s.client) s.number s.from s.to in
    let left : List PendingSnapshot = without_snapshot s d.master.snapshots in
    on_cond (λ (e : MasterDoing). e.master.snapshots ≡ left) (first_is_true gone.refused) (refuses_name tried s.client s.number NamesFull) (settles_name tried s.client s.number entry None)
    (λ _. settled_snapshots tried s.client s.number (log.Refused (client_id s.client) s.number NamesFull) (Some NamesFull) left refl)
    (λ _. settled_snapshots tried s.client s.number entry None left refl)

module _ (start : LogDisk) (Ended : ℕ → ℕ → Type 0) (P : Core → Type 0) (keeps : Keeps (Unit {0}) Nothing Ended P) (rowing : (c : Core) → P c → IsRowing start c) (Q : Core → Attempts → Waits → Type 0) (acts : Acts start Ended P Q) where
  -- what holds of a step so far
  abbrev Now : MasterDoing → Type 0
  Now d = Here start Ended P keeps rowing Q acts d

  -- a record that fits the names
  abbrev pub Named : MasterDoing → Record → Type 0
  Named d r = Unit {0} → IsNamed d.master.logged.names d.master.logged.next_file r d.master.snapshots

  abbrev IsBesideIt : MasterDoing → Record → Type 0
  IsBesideIt d r = IsBeside d.master.logged d.master.attempts d.master.snapshots d.master.now r

  revoked_acts : (d : MasterDoing) (handle : ℕ) (o : Option ChunkRow) → chunk_of d.master.logged.table handle ≡ o → Now d → Now (revokes_row d handle o)
  revoked_acts d handle None is h = h
  revoked_acts d handle (Some row) is h =
      on_cond (Now) (has_lease d.master row) (orders d row.primary (revoke_order handle row)) d
      (λ _. ((keeps.revokes (core_of d) handle row is h.0.0, h.0.1, h.0.2, h.0.3), h.1, acts.revokes (core_of d) d.master.attempts d.master.snapshots handle row is h.2)) (λ _. h)

  pub revokes_acts : (d : MasterDoing) (handle : ℕ) → Now d → Now (revokes d handle)
  revokes_acts d handle h = revoked_acts d handle (chunk_of d.master.logged.table handle) refl h

  revokes_all_acts : (d : MasterDoing) (handles : List ℕ) → Now d → Now (revokes_all d handles)
  revokes_all_acts d [] h = h
  revokes_all_acts d (handle ∷ rest) h = revokes_all_acts (revokes d handle) rest (revokes_acts d handle h)

  begins_acts : (d : MasterDoing) (s : PendingSnapshot) → (Unit {0} → IsNamespace d.master.logged.names (d.master.snapshots ++ s ∷ [])) → ((t : PendingSnapshot) → IsAmong d.master.snapshots t → AreLocksApart s.from t × AreLocksApart s.to t)
      → Now d → Now (begins_snapshot d s)
  begins_acts d s waits apart h =
      let handles : List ℕ = snapshot_handles d.master s in
      let files : List ℕ = copies_for_files d.master.logged (snapshot_files d.master s) in
      let less : Attempts = removed_all d.master.attempts handles in
      let more : List PendingSnapshot = d.master.snapshots ++ s ∷ [] in
      let held : MasterDoing = without_attempts (takes_locks d s) handles in
      let copied : AreCopied d.master.logged files = listed_copied d.master.logged (λ c. has_number (snapshot_files d.master s) c.file) in
      let base : Base start Ended P keeps rowing Q acts held = (h.0.0, fewer_told Nothing d.master.attempts handles h.0.1, waits, λ asks. fewer_ready d.master.now d.master.attempts handles d.master.logged (h.0.3 asks)) in
      revokes_all_acts (gives_up_copies held files) handles (
        copies_keeps (Unit {0}) Nothing Ended P keeps held files copied base,
        waiting_more d.master s apart h.1,
        acts.less (core_of d) less more files copied h.0.0
            (acts.waits (core_of d) less d.master.snapshots more (acts.fewer (core_of d) d.master.attempts less d.master.snapshots (λ q a is. removed_cases d.master.attempts handles q a is) h.2)),
      )

  answers_acts : (client number : ℕ) (o : Option Refusal) (d : MasterDoing) → Now d → Now (answers_name d client number o)
  answers_acts client number o d h = tells_here start Ended P keeps rowing Q acts d (the_client client) (body.Named number (Answered (reply_of o))) refl h

  settles_acts : (d : MasterDoing) (client number : ℕ) (r : Record) (o : Option Refusal) → IsDue (Unit {0}) d.master.logged r → IsNoGrantRecord r → Named d r → IsBesideIt d r → Now d → Now (settles_name d client number r o)
  settles_acts d client number r o due plain named beside h = logs_all start Ended P keeps rowing Q acts d r (λ e. answers_name e client number o) due plain named beside (answers_acts client number o) h

  refuses_acts : (d : MasterDoing) (client number : ℕ) (refusal : Refusal) → Now d → Now (refuses_name d client number refusal)
  refuses_acts d client number refusal h = settles_acts d client number (log.Refused (client_id client) number refusal) (Some refusal) tt tt (λ asks. record { due = tt; after = h.0.2 asks }) tt h

  changes_acts : (d : MasterDoing) (client number : ℕ) (c : Call) (r : Record) → IsDue (Unit {0}) d.master.logged r → IsNoGrantRecord r → Named d r → IsBesideIt d r → Now d → Now (changes_names d client number c r)
  changes_acts d client number c r due plain named beside h =
      let tried : MasterDoing = record d { refused = all_but_first d.refused } in
      on_cond (Now) (needs_room c) _ (settles_name d client number r None)
      (λ _. on_cond (Now) (first_is_true d.refused) (refuses_name tried client number NamesFull) (settles_name tried client number r None)
      (λ _. refuses_acts tried client number NamesFull h)
      (λ _. settles_acts tried client number r None due plain named beside h))
      (λ _. settles_acts d client number r None due plain named beside h)

  -- no lease of a snapshot that is ready is left to end
  row_ended : (now : ℕ) (o : Option ChunkRow) (row : ChunkRow) → row_has_ended now o ≡ true → o ≡ Some row → row.lease_end ≤ now
  row_ended now None row ready is = none_some row is
  row_ended now (Some x) row ready is = subst (λ (y : ChunkRow). y.lease_end ≤ now) (same_some x row is) (leb-true x.lease_end now ready)

  all_ready : (f : ℕ → Bool) (ns : List ℕ) (n : ℕ) → list_all f ns ≡ true → has_number ns n ≡ true → f n ≡ true
  all_ready f [] n all h = absurd (true≢false (sym h))
  all_ready f (x ∷ ns) n all h = by_test (x == n) refl (λ g. all_ready f ns n parts.1 g) h
    where
      parts : (f x ≡ true) × (list_all f ns ≡ true)
      parts = and_parts (f x) (list_all f ns) all

      by_test : (b : Bool) → (x == n) ≡ b → (has_number ns n ≡ true → f n ≡ true) → b || has_number ns n ≡ true → f n ≡ true
      by_test true e rest g = subst (λ (k : ℕ). f k ≡ true) (eqb-true x n e) parts.0
      by_test false e rest g = rest g

  ready_beside : (d : MasterDoing) (s : PendingSnapshot) → IsAmong d.master.snapshots s → is_ready d.master s ≡ true → Now d → IsBesideIt (lets_go d s) (log.Snapshot (client_id s.client) s.number s.from s.to)
  ready_beside d s among ready h = (
    among_free d.master.logged.names d.master.snapshots s (h.0.2 tt).free among,
    λ t other. let left = still_waits s d.master.snapshots t other in h.1.2 s t among left.0 left.1,
    h.1.1 s among,
    λ x id at is handle some row there.
        row_ended d.master.now (chunk_of d.master.logged.table handle) row
        (all_ready (λ q. row_has_ended d.master.now (chunk_of d.master.logged.table q)) (snapshot_handles d.master s) handle ready (handle_in d.master s x id handle at is some)) there,
  )

  snapshot_acts : (d : MasterDoing) (s : PendingSnapshot) → (Unit {0} → IsAmong d.master.snapshots s) → is_ready d.master s ≡ true → Now d → Now (takes_snapshot d s)
  snapshot_acts d s among ready h =
      changes_acts (lets_go d s) s.client s.number (call.Snapshot s.from s.to) (log.Snapshot (client_id s.client) s.number s.from s.to) tt tt
      (λ asks. taken_named d.master.logged.names d.master.snapshots (client_id s.client) s.number s d.master.logged.next_file (among asks) (h.0.2 asks))
      (ready_beside d s (among tt) ready h) (
        (h.0.0, h.0.1, λ asks. filtered_namespace d.master.logged.names (λ t. not (is_same_snapshot s t)) d.master.snapshots (h.0.2 asks), h.0.3),
        waiting_filtered d.master.logged d.master.attempts d.master.snapshots (lets_go d s).master.snapshots (λ t left. among_filtered (λ u. not (is_same_snapshot s u)) d.master.snapshots t left) h.1,
        acts.waits (core_of d) d.master.attempts d.master.snapshots (lets_go d s).master.snapshots h.2,
      )

  -- the snapshots that are left to look at wait still
  ready_in : (d : MasterDoing) (ss : List PendingSnapshot) → (Unit {0} → AllOf (IsAmong d.master.snapshots) ss) → (Unit {0} → AreAllApart ss) → Now d → Now (takes_ready d ss)
  ready_in d [] among apart h = h
  ready_in d (s ∷ ss) among apart h =
      on_cond (λ (e : MasterDoing). Now (takes_ready e ss)) (is_ready d.master s) (takes_snapshot d s) d
      (λ ready. ready_in (takes_snapshot d s) ss
      (λ asks. subst (λ (ts : List PendingSnapshot). AllOf (IsAmong ts) ss) (sym (taken_snapshots d s)) (all_still_among d.master.snapshots s ss (apart asks).0 (among asks).1))
      (λ asks. (apart asks).1) (snapshot_acts d s (λ asks. (among asks).0) ready h))
      (λ _. ready_in d ss (λ asks. (among asks).1) (λ asks. (apart asks).1) h)

  pub ready_acts : (d : MasterDoing) → Now d → Now (takes_ready d d.master.snapshots)
  ready_acts d h = ready_in d d.master.snapshots (λ asks. all_among d.master.snapshots) (λ asks. (h.0.2 asks).apart) h

  pub look_acts : (d : MasterDoing) (client : Node) (number : ℕ) (c : Call) → Now d → Now (takes_look d client number c)
  look_acts d client number c h = tells_here start Ended P keeps rowing Q acts d client (body.Named number (reply_by d.master.logged.table (outcome_by d.master.logged.names c (master_refusal d.master c)))) refl h

  -- what a call finds that meets no refusal: its refusal, that it doesn't wait already, and room for ids
  performs_acts : (d : MasterDoing) (client number deadline : ℕ) (c : Call) → master_refusal d.master c ≡ None → is_waiting_call d.master client number ≡ false → (Unit {0} → d.master.logged.next_file ≤ counter_limit)
      → Now d → Now (performs d client number deadline c)
  performs_acts d client number deadline (call.Mkdir p) may new bound h =
      changes_acts d client number (call.Mkdir p) (log.Mkdir (client_id client) number p) tt tt (λ asks. mkdir_named d.master (client_id client) number p d.master.logged.next_file may (h.0.2 asks)) tt h
  performs_acts d client number deadline (call.Rmdir p) may new bound h =
      changes_acts d client number (call.Rmdir p) (log.Rmdir (client_id client) number p) tt tt (λ asks. rmdir_named d.master (client_id client) number p d.master.logged.next_file may (h.0.2 asks)) tt h
  performs_acts d client number deadline (call.Create p shape) may new bound h =
      changes_acts d client number (call.Create p shape) (log.Create (client_id client) number (file_id d.master.logged.next_file) (told_shape d.master.config shape) p) refl tt
      (λ asks. create_named d.master (client_id client) number (file_id d.master.logged.next_file) shape p d.master.logged.next_file may (h.0.2 asks))
      (λ s among. (create_apart p shape d.master.snapshots (not_refused d.master (call.Create p shape) may).0 s among).0) h
  performs_acts d client number deadline (call.Delete p) may new bound h =
      changes_acts d client number (call.Delete p) (log.Delete (client_id client) number (moment_of d.master.now) p) tt tt
      (λ asks. delete_named d.master (client_id client) number (moment_of d.master.now) p d.master.logged.next_file (bound asks) may (h.0.2 asks)) tt h
  performs_acts d client number deadline (call.Rename p q) may new bound h =
      changes_acts d client number (call.Rename p q) (log.Rename (client_id client) number p q) tt tt (λ asks. rename_named d.master (client_id client) number p q d.master.logged.next_file may (h.0.2 asks))
      (λ s among. (rename_apart p q d.master.snapshots (not_refused d.master (call.Rename p q) may).0 s among).1.0) h
  performs_acts d client number deadline (call.Snapshot p q) may new bound h =
      let s : PendingSnapshot = record { client = client; number = number; deadline = deadline; from = p; to = q } in
      begins_acts d s (λ asks. waits_named d.master s may new (h.0.2 asks)) (λ t among. snapshot_apart p q d.master.snapshots (not_refused d.master (call.Snapshot p q) may).0 t among) h
  performs_acts d client number deadline other may new bound h = h

  by_acts : (d : MasterDoing) (client number deadline : ℕ) (c : Call) (o : Option Refusal) → master_refusal d.master c ≡ o → is_waiting_call d.master client number ≡ false
      → (Unit {0} → d.master.logged.next_file ≤ counter_limit) → Now d → Now (names_by d client number deadline c o)
  by_acts d client number deadline c (Some refusal) may new bound h = refuses_acts d client number refusal h
  by_acts d client number deadline c None may new bound h = performs_acts d client number deadline c may new bound h

  anew_acts : (d : MasterDoing) (client number deadline : ℕ) (c : Call) → (Unit {0} → d.master.logged.next_file ≤ counter_limit) → Now d → Now (names_anew d client number deadline c)
  anew_acts d client number deadline c bound h =
      on_cond (Now) (nat_le deadline d.master.now) d _ (λ _. h)
      (λ _. on_cond (Now) (is_waiting_call d.master client number) d (names_by d client number deadline c (master_refusal d.master c)) (λ _. h)
      (λ new. by_acts d client number deadline c (master_refusal d.master c) refl new bound h))

  kept_acts : (d : MasterDoing) (client number deadline : ℕ) (c : Call) (o : Option KeptCall) → (Unit {0} → d.master.logged.next_file ≤ counter_limit) → Now d → Now (names_kept d client number deadline c o)
  kept_acts d client number deadline c None bound h = anew_acts d client number deadline c bound h
  kept_acts d client number deadline c (Some kept) bound h =
      on_cond (Now) (kept.number == number) (answers_name d client number kept.refusal) _ (λ _. answers_acts client number kept.refusal d h)
      (λ _. on_cond (Now) (nat_lt number kept.number) d (names_anew d client number deadline c) (λ _. h) (λ _. anew_acts d client number deadline c bound h))

  pub name_acts : (d : MasterDoing) (client number deadline : ℕ) (c : Call) → (Unit {0} → d.master.logged.next_file ≤ counter_limit) → Now d → Now (takes_name d client number deadline c)
  name_acts d client number deadline c bound h = kept_acts d client number deadline c (table.get d.master.logged.kept client) bound h
