-- The walk through a step of the master: what is kept by all that it tells, logs and shows is kept by the step.
use Rattle.std.proofs.Common.{◌≡◌, ℕ, zero, suc, ◌+◌, ◌≤◌, Bool, true, false, List, [], ◌∷◌, ◌++◌, length, map, Option, Some, None, refl, sym, ap, subst, inl, inr, arith}
use Rattle.std.specs.Prelude.{◌==◌, ◌&&◌, not, nat_lt, nat_le, cond, unwrap_or, is_some}
use Rattle.std.specs.List.{filter_map, cons_option}
use Rattle.std.specs.FinMap as table
use Rattle.std.proofs.lemmas.Bool.{eqb-true, leb-true, ltb-true, ltb-false, or_left}
use Rattle.gfs_types.specs.declared.ids.Node.{Node}
use Rattle.gfs_types.specs.declared.ids.OrderNo.{OrderNo}
use Rattle.gfs_types.specs.declared.call.Call.{Call}
use Rattle.gfs_types.specs.declared.call.Call.TheVariants as call
use Rattle.gfs_types.specs.declared.refusal.Refusal.{Refusal}
use Rattle.gfs_types.specs.declared.refusal.Refusal.TheVariants.{TooLong, Collected, NamesFull}
use Rattle.messages.specs.declared.message.Body.{Body}
use Rattle.messages.specs.declared.message.Body.TheVariants as body
use Rattle.messages.specs.declared.message.Message.{Message}
use Rattle.messages.specs.declared.message.Holder.{Holder}
use Rattle.messages.specs.declared.message.Location.{Location}
use Rattle.messages.specs.declared.message.Wanted.{Wanted}
use Rattle.messages.specs.declared.message.Wanted.TheVariants as wanted
use Rattle.messages.specs.declared.message.ReplicaLine.{ReplicaLine}
use Rattle.messages.specs.declared.message.LeaseLine.{LeaseLine}
use Rattle.messages.specs.declared.event.NodeInput.{NodeInput}
use Rattle.messages.specs.declared.event.NodeInput.TheVariants as input
use Rattle.log_records.specs.declared.record.Record.{Record}
use Rattle.log_records.specs.declared.record.Record.TheVariants as log
use Rattle.gfs_types.specs.Paths.{Path}
use Rattle.relaxed_file.specs.Machine.{Outcome}
use Rattle.relaxed_file.specs.Names.{Node as NameNode, Dir, File, node_at}
use Rattle.relaxed_file.specs.NameStep.{outcome_by, opened, needs_room}
use Rattle.chunk_table.specs.ChunkTable.{ChunkRow, chunk_of, file_of}
use Rattle.leases.specs.LeaseEnds.{has_ended}
use Rattle.protocol.specs.Tables.{element_at, rising, has_number, with_number}
use Rattle.protocol.specs.LogSizes.{checkpoint_fits}
use Rattle.protocol.specs.Sending.{client_id, file_id, server_id, handle_of, version_of, moment_of, the_server, the_client, client_number, server_number}
use Rattle.protocol.specs.Choice.{Choice, Ending, Goes, Lost, Stops}
use Rattle.protocol.specs.Seen.{Taken, no_step}
use Rattle.protocol.specs.declared.seen.Seen.{Seen}
use Rattle.protocol.specs.declared.seen.Seen.TheVariants.{CopyStarted}
use Rattle.protocol.specs.Logged.{Logged, KeptCall, checkpoint_of}
use Rattle.protocol.specs.Master.{MasterState, MasterDoing, PendingSnapshot, VersionAttempt, HeldAt, master_begins, tells, orders, logs, logs_after_checkpoint, appends}
use Rattle.protocol.specs.Master.{fits, writes_checkpoint, is_of_copy, ends_at, with_attempt, without_attempt, without_attempts, gives_up_copy, gives_up_copies, has_lease}
use Rattle.protocol.specs.Master.{held_where, version_held, holders_where, current_holders, present_current_holders, servers_of, is_present}
use Rattle.protocol.specs.MasterSnapshots.{revokes_row, revokes, revokes_all, takes_locks, begins_snapshot, snapshot_handles, snapshot_files, copies_for_files}
use Rattle.protocol.specs.MasterSnapshots.{reply_of, answers_name, settles_name, refuses_name, changes_names, first_is_true, all_but_first}
use Rattle.protocol.specs.MasterSnapshots.{lets_go, takes_snapshot, takes_ready, is_ready, waits_for}
use Rattle.protocol.specs.MasterNames.{master_refusal, reply_by, performs, names_by, is_waiting_call, names_anew, names_kept, told_shape}
use Rattle.protocol.specs.MasterVersions.{Asker, VersionTarget, holder_line, group_of, tells_location, tells_holders, tells_none, tells_to_wait}
use Rattle.protocol.specs.MasterVersions.{version_order, sends_versions, new_attempt, sends_issued, issues_to, targets_by, recorded_holders, placement, placed_targets}
use Rattle.protocol.specs.MasterVersions.{issues_own, is_attempted, copy_order, sends_copies, copy_targets, sends_copy_started, copies_to, begins_copy, copy_for, is_copied}
use Rattle.protocol.specs.MasterVersions.{wants_own, wants_own_of, issues_copy, wants_copy, wants_by, wants_primary, holder_target}
use Rattle.protocol.specs.MasterVersions.{chunk_size_of, sends_grant, grants_to, is_complete, with_recorded, learns_attempt, learns}
use Rattle.protocol.specs.MasterAsks.{looks_at_row, looks_at, mutates_row, mutates_at, adds_chunk, with_index, asks_to_write, asks_to_append, asks_for_last, asks_for, asks_of, takes_ask}
use Rattle.protocol.specs.MasterReports.{holds_now, revoked_row, is_useless, drops_useless, learns_all, may_extend, extends_row, extends_all, hears, takes_report}
use Rattle.protocol.specs.MasterClones.{CloneOrder, orders_clone, best_clone}
use Rattle.protocol.specs.MasterStep.{master_ticks, gives_up_attempts, gives_up_lost_copies, expires_all, expires_old, expired_files, master_takes, master_does, finishes}
use Rattle.protocol.specs.MasterStep.{master_at, master_goes, may_end, master_bounded, master_ends, master_step}
use Rattle.protocol.specs.MasterStep.{started_master, found_log, opening, opens_as, has_opened, is_within_limits, master_restart}
use Rattle.laws_base.proofs.Words.{true_false}
use Rattle.laws_base.proofs.LeaseOrders.{revoke_order, grant_order}
use Rattle.laws_base.proofs.Steps.{on_cond}
use Rattle.laws_base.proofs.Entries.{AllOf, all_filtered, same_number}
use Rattle.laws_base.proofs.MembersRecorded.{all_in_order}
use Rattle.laws_base.proofs.MasterPremises.{IsTakenAsk, IsIndexFor, IsTakenAskOf, IsAsk, is_told, IsTold, IsLineTaken, IsReplicaTaken, IsTick, AreHeld, IsRefusedFor, IsShapeOf, IsAnswer, IsOver}
use Rattle.laws_base.proofs.MasterPremises.{IsIssued, IsUnused, IsCopySource, IsOrder, IsOfCalls, IsOfStep, calls_are_of_steps, AskKeeps, StepEffects, effects_of}
use Rattle.laws_base.proofs.MasterPremises.{NameKeeps, MasterKeeps, MasterSays, names_kept_by, keeps_said, keeps_shown}

all_placed : {X : Type 0} (P : X → Type 0) (xs : List X) → ((place : ℕ) (x : X) → element_at xs place ≡ Some x → P x) → AllOf P xs
all_placed P [] f = tt
all_placed P (x ∷ xs) f = (f 0 x refl, all_placed P xs (λ place y is. f (suc place) y is))

-- no attempt
unattempted : (o : Option VersionAttempt) → is_some o ≡ false → o ≡ None
unattempted None is = refl
unattempted (Some a) is = true_false is

-- holders of a chunk

-- it is known with its version, which passes
abbrev pub IsHolder : MasterState → ℕ → (ℕ → Bool) → HeldAt → Type 0
IsHolder m handle test x = (version_held m handle x.server ≡ Some x.version) × (test x.version ≡ true)

pub all_hold : (m : MasterState) (handle : ℕ) (test : ℕ → Bool) (servers : List ℕ)
    → AllOf (IsHolder m handle test) (filter_map (λ s. held_where test s (version_held m handle s)) servers)
all_hold m handle test [] = tt
all_hold m handle test (s ∷ rest) = first (version_held m handle s) refl (all_hold m handle test rest)
  where
    others : List HeldAt
    others = filter_map (λ t. held_where test t (version_held m handle t)) rest

    first : (o : Option ℕ) → version_held m handle s ≡ o → AllOf (IsHolder m handle test) others → AllOf (IsHolder m handle test) (cons_option (held_where test s o) others)
    first None is all = all
    first (Some version) is all =
        on_cond (λ (o : Option HeldAt). AllOf (IsHolder m handle test) (cons_option o others)) (test version) (Some (record { server = s; version = version })) None
        (λ passes. ((is, passes), all)) (λ _. all)

module _ (m : MasterState) (handle : ℕ) where
  lines_held : (granted : ℕ) (holders : List HeldAt) → AllOf (IsHolder m handle (λ v. nat_le granted v)) holders → AreHeld m handle granted (map holder_line holders)
  lines_held granted [] all = tt
  lines_held granted (x ∷ rest) all = (((all.0).0, leb-true granted x.version (all.0).1), lines_held granted rest all.1)

  -- what a copy is of is known
  abbrev HasBase : Option ℕ → Type 0
  HasBase None = Unit {0}
  HasBase (Some version) = (server : ℕ) × (version_held m handle server ≡ Some version)

  bases_held : (test : ℕ → Bool) (holders : List HeldAt) → AllOf (IsHolder m handle test) holders → AllOf (λ (t : VersionTarget). HasBase t.base) (map holder_target holders)
  bases_held test [] all = tt
  bases_held test (x ∷ rest) all = ((x.server, (all.0).0), bases_held test rest all.1)

  no_bases : (servers : List ℕ) → AllOf (λ (t : VersionTarget). HasBase t.base) (map (λ s. record { server = s; base = None }) servers)
  no_bases [] = tt
  no_bases (s ∷ rest) = (tt, no_bases rest)

  copies_based : (row : ChunkRow) → AllOf (λ (t : VersionTarget). HasBase t.base) (copy_targets m handle row)
  copies_based row =
      let test : ℕ → Bool = λ v. nat_le row.granted v in
      on_cond (AllOf (λ (t : VersionTarget). HasBase t.base)) (nat_lt 0 row.granted) (map holder_target (current_holders m handle row)) _
      (λ _. bases_held test (current_holders m handle row) (all_hold m handle test (servers_of m))) (λ _. no_bases (placement m row))

-- targets of a version: each has one that it may replace

abbrev IsTarget : ChunkRow → VersionTarget → Type 0
IsTarget row t = IsOver row (unwrap_or t.base 0)

abbrev AreOver : ChunkRow → List HeldAt → Type 0
AreOver row holders = AllOf (λ (x : HeldAt). IsOver row x.version) holders

held_targets : (row : ChunkRow) (holders : List HeldAt) → AreOver row holders → AllOf (IsTarget row) (map holder_target holders)
held_targets row [] all = tt
held_targets row (x ∷ rest) all = (all.0, held_targets row rest all.1)

module _ (m : MasterState) (handle : ℕ) (row : ChunkRow) where
  current_over : (holders : List HeldAt) → AllOf (IsHolder m handle (λ v. nat_le row.granted v)) holders → AreOver row holders
  current_over [] all = tt
  current_over (x ∷ rest) all = (inl (leb-true row.granted x.version (all.0).1), current_over rest all.1)

  issued_over : (holders : List HeldAt) → AllOf (IsHolder m handle (λ v. v == row.issued)) holders → AreOver row holders
  issued_over [] all = tt
  issued_over (x ∷ rest) all = (inr (eqb-true x.version row.issued (all.0).1), issued_over rest all.1)

  last_over : AreOver row (holders_where m handle (λ v. v == row.issued))
  last_over = issued_over (holders_where m handle (λ v. v == row.issued)) (all_hold m handle (λ v. v == row.issued) (servers_of m))

  placed_over : (servers : List ℕ) → row.granted ≤ 0 → AllOf (IsTarget row) (map (λ s. record { server = s; base = version_held m handle s }) servers)
  placed_over [] none = tt
  placed_over (s ∷ rest) none = (inl (omega (arith, none)), placed_over rest none)

  by_holders : (holders : List HeldAt) → AreOver row holders → AllOf (IsTarget row) (targets_by m handle row holders)
  by_holders [] all =
      let test : ℕ → Bool = λ v. nat_le row.granted v in
      let present : List HeldAt = present_current_holders m handle row in
      on_cond (AllOf (IsTarget row)) (nat_lt 0 row.granted) (map holder_target present) (placed_targets m handle row)
      (λ _. held_targets row present
      (current_over present (all_filtered (IsHolder m handle test) (λ x. is_present m x.server) (current_holders m handle row) (all_hold m handle test (servers_of m)))))
      (λ none. placed_over (placement m row) (ltb-false 0 row.granted none))
  by_holders (x ∷ rest) all = held_targets row (x ∷ rest) all

  targets_over : AllOf (IsTarget row) (targets_by m handle row (recorded_holders m handle row))
  targets_over =
      by_holders (recorded_holders m handle row)
      (on_cond (AreOver row) (nat_lt row.granted row.issued) (holders_where m handle (λ v. v == row.issued)) [] (λ _. last_over) (λ _. tt))

-- answers to name calls, snapshots that are ready, and files that expire

module _ (Of : Record → Type 0) (calls : (r : Record) → IsOfCalls r → Of r) (P : StepEffects → Type 0) (k : NameKeeps Of P) where
  abbrev Named : MasterDoing → Type 0
  Named d = P (effects_of d)

  -- a record, and then the rest of the step, at once or after a checkpoint
  logs_here : (d : MasterDoing) (r : Record) (then_ : MasterDoing → MasterDoing) → Of r → (Named (appends d r) → Named (then_ (appends d r)))
      → (Named (appends (writes_checkpoint d) r) → Named (then_ (appends (writes_checkpoint d) r))) → Named d → Named (logs d r then_)
  logs_here d r then_ is now later h =
      let was : Bool = is_of_copy d.master.logged r in
      let less : MasterDoing = writes_checkpoint d in
      let stored : Named less = k.checkpointed (effects_of d) (checkpoint_of d.master.logged) h in
      on_cond Named (fits d r) (then_ (appends d r)) _ (λ _. now (k.recorded (effects_of d) r is h))
      (λ _. on_cond Named (checkpoint_fits d.master.config.log_bytes (checkpoint_of d.master.logged)) (logs_after_checkpoint less r was then_) d
      (λ _. on_cond Named (fits less r && not was) (then_ (appends less r)) less (λ _. later (k.recorded (effects_of less) r is stored)) (λ _. stored))
      (λ _. h))

  pub logged_here : (d : MasterDoing) (r : Record) (then_ : MasterDoing → MasterDoing) → Of r → ((e : MasterDoing) → Named e → Named (then_ e)) → Named d → Named (logs d r then_)
  logged_here d r then_ is go h = logs_here d r then_ is (go (appends d r)) (go (appends (writes_checkpoint d) r)) h

  answered_here : (client number : ℕ) (o : Option Refusal) (d : MasterDoing) → Named d → Named (answers_name d client number o)
  answered_here client number o d h = k.named (effects_of d) (the_client client) number (reply_of o) h

  settled_here : (d : MasterDoing) (client number : ℕ) (r : Record) (o : Option Refusal) → Of r → Named d → Named (settles_name d client number r o)
  settled_here d client number r o is h = logged_here d r (λ e. answers_name e client number o) is (answered_here client number o) h

  refused_here : (d : MasterDoing) (client number : ℕ) (refusal : Refusal) → Named d → Named (refuses_name d client number refusal)
  refused_here d client number refusal h =
      let r : Record = log.Refused (client_id client) number refusal in
      settled_here d client number r (Some refusal) (calls r tt) h

  changed_here : (d : MasterDoing) (client number : ℕ) (c : Call) (r : Record) → Of r → Named d → Named (changes_names d client number c r)
  changed_here d client number c r is h =
      let tried : MasterDoing = record d { refused = all_but_first d.refused } in
      on_cond Named (needs_room c) _ (settles_name d client number r None)
      (λ _. on_cond Named (first_is_true d.refused) (refuses_name tried client number NamesFull) (settles_name tried client number r None)
      (λ _. refused_here tried client number NamesFull h) (λ _. settled_here tried client number r None is h))
      (λ _. settled_here d client number r None is h)

  pub ready_here : (d : MasterDoing) (ps : List PendingSnapshot) → Named d → Named (takes_ready d ps)
  ready_here d [] h = h
  ready_here d (p ∷ ps) h =
      let r : Record = log.Snapshot (client_id p.client) p.number p.from p.to in
      on_cond (λ (e : MasterDoing). Named (takes_ready e ps)) (is_ready d.master p) (takes_snapshot d p) d
      (λ _. ready_here (takes_snapshot d p) ps (changed_here (lets_go d p) p.client p.number (call.Snapshot p.from p.to) r (calls r tt) h)) (λ _. ready_here d ps h)

  pub expires_here : ((file : ℕ) → Of (log.Expired (file_id file))) → (d : MasterDoing) (files : List ℕ) → Named d → Named (expires_all d files)
  expires_here expired d [] h = h
  expires_here expired d (file ∷ rest) h =
      expires_here expired (logs d (log.Expired (file_id file)) (λ e. e)) rest (logged_here d (log.Expired (file_id file)) (λ e. e) (expired file) (λ e g. g) h)

module _ (l : Logged) (i : NodeInput) (A : MasterDoing → Type 0) (P : StepEffects → Type 0) (k : MasterKeeps l i A P) where
  abbrev pub Here : MasterDoing → Type 0
  Here d = P (effects_of d)

  names : NameKeeps (IsOfStep i) P
  names = names_kept_by l i A P k

  said : (d : MasterDoing) (receiver : Node) (b : Body) → IsAnswer l i A receiver b → Here d → Here (tells d receiver b)
  said d receiver b is h = k.answered (effects_of d) receiver b is h

  ordered : (d : MasterDoing) (server : ℕ) (b : OrderNo → Body) → ((o : OrderNo) → IsOrder i A server (b o)) → Here d → Here (orders d server b)
  ordered d server b is h =
      let o : OrderNo = record { epoch = d.master.logged.epoch; count = suc d.master.order_count } in
      k.ordered (effects_of d) server (b o) (is o) h

  logged : (d : MasterDoing) (r : Record) (then_ : MasterDoing → MasterDoing) → IsOfStep i r → ((e : MasterDoing) → Here e → Here (then_ e)) → Here d → Here (logs d r then_)
  logged d r then_ is go h = logged_here (IsOfStep i) (calls_are_of_steps i) P names d r then_ is go h

  -- names

  answered : (client number : ℕ) (o : Option Refusal) (d : MasterDoing) → Here d → Here (answers_name d client number o)
  answered client number o d h = answered_here (IsOfStep i) (calls_are_of_steps i) P names client number o d h

  refused : (d : MasterDoing) (client number : ℕ) (refusal : Refusal) → Here d → Here (refuses_name d client number refusal)
  refused d client number refusal h = refused_here (IsOfStep i) (calls_are_of_steps i) P names d client number refusal h

  changed : (d : MasterDoing) (client number : ℕ) (c : Call) (r : Record) → IsOfStep i r → Here d → Here (changes_names d client number c r)
  changed d client number c r is h = changed_here (IsOfStep i) (calls_are_of_steps i) P names d client number c r is h

  revoked_of : (d : MasterDoing) (handle : ℕ) (o : Option ChunkRow) → Here d → Here (revokes_row d handle o)
  revoked_of d handle None h = h
  revoked_of d handle (Some row) h =
      on_cond Here (has_lease d.master row) (orders d row.primary (revoke_order handle row)) d
      (λ _. ordered d row.primary (revoke_order handle row) (λ o. tt) h) (λ _. h)

  pub revoked_here : (d : MasterDoing) (handle : ℕ) → Here d → Here (revokes d handle)
  revoked_here d handle h = revoked_of d handle (chunk_of d.master.logged.table handle) h

  revoked_all : (d : MasterDoing) (handles : List ℕ) → Here d → Here (revokes_all d handles)
  revoked_all d [] h = h
  revoked_all d (handle ∷ rest) h = revoked_all (revokes d handle) rest (revoked_here d handle h)

  begun : (d : MasterDoing) (p : PendingSnapshot) → Here d → Here (begins_snapshot d p)
  begun d p h =
      let handles : List ℕ = snapshot_handles d.master p in
      revoked_all (gives_up_copies (without_attempts (takes_locks d p) handles) (copies_for_files d.master.logged (snapshot_files d.master p))) handles h

  performed : (d : MasterDoing) (client number deadline : ℕ) (c : Call) → Here d → Here (performs d client number deadline c)
  performed d client number deadline (call.Mkdir p) h = changed d client number (call.Mkdir p) (log.Mkdir (client_id client) number p) tt h
  performed d client number deadline (call.Rmdir p) h = changed d client number (call.Rmdir p) (log.Rmdir (client_id client) number p) tt h
  performed d client number deadline (call.Create p shape) h =
      changed d client number (call.Create p shape) (log.Create (client_id client) number (file_id d.master.logged.next_file) (told_shape d.master.config shape) p) tt h
  performed d client number deadline (call.Delete p) h = changed d client number (call.Delete p) (log.Delete (client_id client) number (moment_of d.master.now) p) tt h
  performed d client number deadline (call.Rename p q) h = changed d client number (call.Rename p q) (log.Rename (client_id client) number p q) tt h
  performed d client number deadline (call.Snapshot p q) h = begun d (record { client = client; number = number; deadline = deadline; from = p; to = q }) h
  performed d client number deadline other h = h

  named_by : (d : MasterDoing) (client number deadline : ℕ) (c : Call) (o : Option Refusal) → Here d → Here (names_by d client number deadline c o)
  named_by d client number deadline c (Some refusal) h = refused d client number refusal h
  named_by d client number deadline c None h = performed d client number deadline c h

  anew : (d : MasterDoing) (client number deadline : ℕ) (c : Call) → Here d → Here (names_anew d client number deadline c)
  anew d client number deadline c h =
      let refusal : Option Refusal = master_refusal d.master c in
      on_cond Here (nat_le deadline d.master.now) d _ (λ _. h)
      (λ _. on_cond Here (is_waiting_call d.master client number) d (names_by d client number deadline c refusal) (λ _. h)
      (λ _. named_by d client number deadline c refusal h))

  kept_said : (d : MasterDoing) (client number deadline : ℕ) (c : Call) (o : Option KeptCall) → Here d → Here (names_kept d client number deadline c o)
  kept_said d client number deadline c None h = anew d client number deadline c h
  kept_said d client number deadline c (Some kept) h =
      on_cond Here (kept.number == number) (answers_name d client number kept.refusal) _ (λ _. answered client number kept.refusal d h)
      (λ _. on_cond Here (nat_lt number kept.number) d (names_anew d client number deadline c) (λ _. h) (λ _. anew d client number deadline c h))

  -- what a server says that it has

  module _ (told : IsTold i) where
    grant_sent : (handle version primary : ℕ) (members : List ℕ) → has_number members primary ≡ true → (d : MasterDoing) → Here d
        → Here (sends_grant d handle version primary members)
    grant_sent handle version primary members has d h =
        let until : ℕ = d.master.now + d.master.config.lease_ms in
        let ended : MasterDoing = ends_at (without_attempt d handle) handle until in
        ordered ended primary (grant_order handle version until (chunk_size_of d.master.logged.table handle) members) (λ o. (told, has)) h

    grants_said : (d : MasterDoing) (handle : ℕ) (a : VersionAttempt) (servers : List ℕ) → Here d → Here (grants_to d handle a servers)
    grants_said d handle a [] h = h
    grants_said d handle a (primary ∷ rest) h =
        logged d (log.Grant (handle_of handle) (version_of a.version) (server_id primary) (primary ∷ rest)) (λ e. sends_grant e handle a.version primary (primary ∷ rest)) tt
        (grant_sent handle a.version primary (primary ∷ rest) (or_left (primary == primary) (has_number rest primary) (same_number primary))) h

    recorded_said : (d : MasterDoing) (handle : ℕ) (a : VersionAttempt) → Here d → Here (with_recorded d handle a)
    recorded_said d handle a h =
        let noted : MasterDoing = with_attempt d handle a in
        on_cond Here (is_complete d.master a) (grants_to noted handle a (rising a.servers)) noted (λ _. grants_said noted handle a (rising a.servers) h) (λ _. h)

    learns_said : (d : MasterDoing) (server handle version : ℕ) (o : Option ChunkRow) (p : Option VersionAttempt) → Here d → Here (learns_attempt d server handle version o p)
    learns_said d server handle version None p h = h
    learns_said d server handle version (Some row) None h = h
    learns_said d server handle version (Some row) (Some a) h =
        let more : VersionAttempt = record a { recorded = with_number a.recorded server } in
        on_cond Here ((a.version == version) && has_number a.servers server) (with_recorded d handle more) d (λ _. recorded_said d handle more h) (λ _. h)

    learns_here : (d : MasterDoing) (server handle version : ℕ) → Here d → Here (learns d server handle version)
    learns_here d server handle version h = learns_said d server handle version (chunk_of d.master.logged.table handle) (table.get d.master.attempts handle) h

    learns_all_said : (d : MasterDoing) (server : ℕ) (lines : List ReplicaLine) → Here d → Here (learns_all d server lines)
    learns_all_said d server [] h = h
    learns_all_said d server (line ∷ rest) h = learns_all_said (learns d server line.handle.0 line.version.0) server rest (learns_here d server line.handle.0 line.version.0 h)

  revoked_row_said : (d : MasterDoing) (server handle version : ℕ) (o : Option ChunkRow) → Here d → Here (revoked_row d server handle version o)
  revoked_row_said d server handle version None h = h
  revoked_row_said d server handle version (Some row) h = on_cond Here ((row.granted == version) && (row.primary == server)) (ends_at d handle 0) d (λ _. h) (λ _. h)

  drops_said : (d : MasterDoing) (server : ℕ) (lines : List ReplicaLine) → d.master.logged ≡ l → AllOf (IsReplicaTaken i server) lines → Here d
      → Here (drops_useless d server lines)
  drops_said d server [] same due h = h
  drops_said d server (line ∷ rest) same due h =
      let dropped : MasterDoing = orders d server (λ order. body.Drop order line.handle line.version) in
      let o : OrderNo = record { epoch = d.master.logged.epoch; count = suc d.master.order_count } in
      on_cond (λ (e : MasterDoing). Here (drops_useless e server rest)) (is_useless line.version.0 (chunk_of d.master.logged.table line.handle.0)) dropped d
      (λ useless. drops_said dropped server rest same due.1
      (k.dropped (effects_of d) server o line due.0 (subst (λ (x : Logged). is_useless line.version.0 (chunk_of x.table line.handle.0) ≡ true) same useless) h))
      (λ _. drops_said d server rest same due.1 h)

  extends_said : (d : MasterDoing) (server : ℕ) (line : LeaseLine) (o : Option ChunkRow) → IsLineTaken i server line → Here d → Here (extends_row d server line o)
  extends_said d server line None due h = h
  extends_said d server line (Some row) due h =
      let until : ℕ = d.master.now + d.master.config.lease_ms in
      on_cond Here (may_extend d.master server line row && nat_lt row.lease_end until)
      (tells (ends_at d line.handle.0 until) (the_server server) (body.Extend line.handle line.version (moment_of until))) d
      (λ _. k.extended (effects_of d) server line until due h) (λ _. h)

  extends_all_said : (d : MasterDoing) (server : ℕ) (lines : List LeaseLine) → AllOf (IsLineTaken i server) lines → Here d → Here (extends_all d server lines)
  extends_all_said d server [] due h = h
  extends_all_said d server (line ∷ rest) due h =
      let row : Option ChunkRow = chunk_of d.master.logged.table line.handle.0 in
      extends_all_said (extends_row d server line row) server rest due.1 (extends_said d server line row due.0 h)

  report_said : (d : MasterDoing) (x : Message) (replicas : List ReplicaLine) (leases : List LeaseLine) → d.master.logged ≡ l → i ≡ input.Deliver x
      → x.body ≡ body.Report replicas leases → Here d → Here (takes_report d (server_number x.sender) replicas leases)
  report_said d x replicas leases same came is h =
      extends_all_said (learns_all dropped server replicas) server leases lines
      (learns_all_said (record { message = x; taken = came; is = ap is_told is }) dropped server replicas
      (drops_said heard server replicas same stored (k.heard (effects_of d) x replicas leases came is h)))
    where
      server : ℕ
      server = server_number x.sender

      heard : MasterDoing
      heard = hears d server replicas

      dropped : MasterDoing
      dropped = drops_useless heard server replicas

      stored : AllOf (IsReplicaTaken i server) replicas
      stored =
          all_placed (IsReplicaTaken i server) replicas
          (λ place line at. record { report = x; replicas = replicas; leases = leases; taken = came; is = is; sender = refl; place = place; at = at })

      lines : AllOf (IsLineTaken i server) leases
      lines =
          all_placed (IsLineTaken i server) leases
          (λ place line at. record { report = x; replicas = replicas; leases = leases; taken = came; is = is; sender = refl; place = place; at = at })

  -- a tick

  clone_said : (d : MasterDoing) (o : Option CloneOrder) → IsTick i → Here d → Here (orders_clone d o)
  clone_said d None tick h = h
  clone_said d (Some c) tick h = ordered d c.target (λ order. body.Clone order (handle_of c.handle) (version_of c.version) (server_id c.source)) (λ o. tick) h

  pub ticks_here : (d : MasterDoing) → IsTick i → Here d → Here (master_ticks d)
  ticks_here d tick h =
      let b : MasterDoing = gives_up_lost_copies (gives_up_attempts d) in
      let c : MasterDoing = expires_old b in
      clone_said c (best_clone c.master (table.entries c.master.logged.table.chunks)) tick
      (expires_here (IsOfStep i) (calls_are_of_steps i) P names (λ file. tick) b (expired_files b.master) h)

  module _ (f : AskKeeps A) where
    -- what an Ask is told

    abbrev IsAsked : Asker → Type 0
    IsAsked a = IsTakenAsk i a.client a.number

    abbrev IsAskedAt : Asker → Type 0
    IsAskedAt a = IsTakenAskOf i a.client a.number a.index

    ask_of : (a : Asker) → IsAskedAt a → IsAsk i
    ask_of a asked =
        let t : IsAsked a = asked.taken in
        record { message = t.ask; number = a.number; file = t.file; what = t.what; deadline = t.deadline; lost = t.lost; taken = t.came; is = t.body_is }

    location_said : (d : MasterDoing) (a : Asker) (handle : ℕ) (row : ChunkRow) (holders : List Holder) → IsAskedAt a → A d → chunk_of d.master.logged.table handle ≡ Some row
        → AreHeld d.master handle row.granted holders → Here d
        → Here (tells_location d a handle row holders)
    location_said d a handle row holders asked found at held h =
        let place : Location = record { index = a.index; handle = handle_of handle; round = version_of row.granted; shape = row.shape; holders = holders; group = group_of d.master row } in
        said d a.client (body.Told a.number (Some place)) (record { asked = asked; doing = d; found = found; row = row; at = at; shape_is = refl; held = held }) h

    holders_said : (d : MasterDoing) (a : Asker) (handle : ℕ) (row : ChunkRow) → IsAskedAt a → A d → chunk_of d.master.logged.table handle ≡ Some row → Here d → Here (tells_holders d a handle row)
    holders_said d a handle row asked found at h =
        location_said d a handle row (map holder_line (current_holders d.master handle row)) asked found at
        (lines_held d.master handle row.granted (current_holders d.master handle row) (all_hold d.master handle (λ v. nat_le row.granted v) (servers_of d.master))) h

    none_said : (d : MasterDoing) (a : Asker) → IsAsked a → Here d → Here (tells_none d a)
    none_said d a asked h = said d a.client (body.Told a.number None) asked h

    wait_said : (d : MasterDoing) (a : Asker) → Here d → Here (tells_to_wait d a)
    wait_said d a h = said d a.client (body.Wait a.number) tt h

    -- the next number of a chunk

    version_due : (server handle version : ℕ) (base : Option ℕ) (o : OrderNo) → IsAsk i → IsIssued A handle version (unwrap_or base 0)
        → IsOrder i A server (version_order handle version base o)
    version_due server handle version None o ask due = (ask, inl due)
    version_due server handle version (Some base) o ask due = (ask, due)

    versions_sent : (d : MasterDoing) (handle version : ℕ) (row : ChunkRow) (targets : List VersionTarget) → IsAsk i → ((base : ℕ) → IsOver row base → IsIssued A handle version base)
        → AllOf (IsTarget row) targets → Here d → Here (sends_versions d handle version targets)
    versions_sent d handle version row [] ask due all h = h
    versions_sent d handle version row (t ∷ rest) ask due all h =
        versions_sent (orders d t.server (version_order handle version t.base)) handle version row rest ask due all.1
        (ordered d t.server (version_order handle version t.base) (λ o. version_due t.server handle version t.base o ask (due (unwrap_or t.base 0) all.0)) h)

    issued_said : (a : Asker) (handle version : ℕ) (row : ChunkRow) (targets : List VersionTarget) → IsAsk i → ((base : ℕ) → IsOver row base → IsIssued A handle version base)
        → AllOf (IsTarget row) targets → (d : MasterDoing) → Here d → Here (sends_issued d a handle version targets)
    issued_said a handle version row targets ask due all d h =
        let held : MasterDoing = with_attempt d handle (new_attempt d.master version targets) in
        wait_said (sends_versions held handle version targets) a (versions_sent held handle version row targets ask due all h)

    issues_said : (d : MasterDoing) (a : Asker) (own : ℕ) (own_row : ChunkRow) (handle : ℕ) (row : ChunkRow) (targets : List VersionTarget) → IsAskedAt a → A d
        → chunk_of d.master.logged.table own ≡ Some own_row → chunk_of d.master.logged.table handle ≡ Some row → table.get d.master.attempts handle ≡ None → AllOf (IsTarget row) targets → Here d
        → Here (issues_to d a own own_row handle row targets)
    issues_said d a own own_row handle row [] asked found own_at at none all h = location_said d a own own_row [] asked found own_at tt h
    issues_said d a own own_row handle row (t ∷ rest) asked found own_at at none all h =
        logged d (log.Issue (handle_of handle) (version_of (suc row.issued))) (λ e. sends_issued e a handle (suc row.issued) (t ∷ rest)) tt
        (issued_said a handle (suc row.issued) row (t ∷ rest) (ask_of a asked)
        (λ base over. record { doing = d; found = found; row = row; at = at; none = none; next = refl; over = over }) all) h

    own_said : (d : MasterDoing) (a : Asker) (handle : ℕ) (row : ChunkRow) (b : Bool) → IsAskedAt a → A d → chunk_of d.master.logged.table handle ≡ Some row
        → is_attempted d.master handle ≡ b → Here d → Here (issues_own d a handle row b)
    own_said d a handle row true asked found at is h = wait_said d a h
    own_said d a handle row false asked found at is h =
        issues_said d a handle row handle row (targets_by d.master handle row (recorded_holders d.master handle row)) asked found at at
        (unattempted (table.get d.master.attempts handle) is) (targets_over d.master handle row) h

    -- a copy of a shared chunk

    -- each version of it that is known may be copied
    abbrev AreSources : MasterState → ℕ → ℕ → Type 0
    AreSources m handle copy = (version : ℕ) → HasBase m handle (Some version) → IsCopySource A handle version copy

    copy_due : (m : MasterState) (server handle copy version : ℕ) (held : Option ℕ) (o : OrderNo) → IsAsk i → IsUnused A copy → AreSources m handle copy → HasBase m handle held
        → IsOrder i A server (copy_order handle copy version held o)
    copy_due m server handle copy version None o ask new sources base = (ask, inr new)
    copy_due m server handle copy version (Some held) o ask new sources base = (ask, sources held base)

    copies_sent : (m : MasterState) (d : MasterDoing) (handle copy version : ℕ) (targets : List VersionTarget) → IsAsk i → IsUnused A copy → AreSources m handle copy
        → AllOf (λ (t : VersionTarget). HasBase m handle t.base) targets → Here d → Here (sends_copies d handle copy version targets)
    copies_sent m d handle copy version [] ask new sources all h = h
    copies_sent m d handle copy version (t ∷ rest) ask new sources all h =
        copies_sent m (orders d t.server (copy_order handle copy version t.base)) handle copy version rest ask new sources all.1
        (ordered d t.server (copy_order handle copy version t.base) (λ o. copy_due m t.server handle copy version t.base o ask new sources all.0) h)

    started_said : (m : MasterState) (a : Asker) (handle copy version : ℕ) (targets : List VersionTarget) → IsAsk i → IsUnused A copy → AreSources m handle copy
        → AllOf (λ (t : VersionTarget). HasBase m handle t.base) targets → (d : MasterDoing) → Here d → Here (sends_copy_started d a handle copy version targets)
    started_said m a handle copy version targets ask new sources all d h =
        let seen : MasterDoing = record d { seen = d.seen ++ CopyStarted (handle_of handle) (handle_of copy) ∷ [] } in
        let held : MasterDoing = with_attempt seen copy (new_attempt d.master version targets) in
        wait_said (sends_copies held handle copy version targets) a
        (copies_sent m held handle copy version targets ask new sources all (k.shown (effects_of d) handle copy ask new h))

    copies_said : (d : MasterDoing) (a : Asker) (handle : ℕ) (row : ChunkRow) (targets : List VersionTarget) → IsAskedAt a → A d → chunk_of d.master.logged.table handle ≡ Some row
        → nat_lt 1 row.references ≡ true → AllOf (λ (t : VersionTarget). HasBase d.master handle t.base) targets → Here d → Here (copies_to d a handle row targets)
    copies_said d a handle row [] asked found at shared all h = location_said d a handle row [] asked found at tt h
    copies_said d a handle row (t ∷ rest) asked found at shared all h =
        let copy : ℕ = d.master.logged.next_handle in
        let sources : AreSources d.master handle copy =
        λ version base. record { doing = d; found = found; row = row; at = at; shared = shared; server = base.0; held = base.1; next = refl } in
        logged d (log.CopyStart (file_id a.file) a.index (handle_of handle) (handle_of copy) (version_of (suc row.issued)))
        (λ e. sends_copy_started e a handle copy (suc row.issued) (t ∷ rest)) tt
        (started_said d.master a handle copy (suc row.issued) (t ∷ rest) (ask_of a asked) (record { doing = d; found = found; next = refl }) sources all) h

    wants_said : (d : MasterDoing) (a : Asker) (handle : ℕ) (row : ChunkRow) → IsAskedAt a → A d → chunk_of d.master.logged.table handle ≡ Some row → Here d
        → Here (wants_own d a handle row)
    wants_said d a handle row asked found at h =
        on_cond Here (nat_lt 1 row.references) (begins_copy d a handle row) _
        (λ shared. copies_said d a handle row (copy_targets d.master handle row) asked found at shared (copies_based d.master handle row) h)
        (λ _. on_cond Here (is_copied d.master.logged handle) (tells_to_wait d a) (issues_own d a handle row (is_attempted d.master handle)) (λ _. wait_said d a h)
        (λ _. own_said d a handle row (is_attempted d.master handle) asked found at refl h))

    wants_of_said : (d : MasterDoing) (a : Asker) (handle : ℕ) (o : Option ChunkRow) → IsAskedAt a → A d → chunk_of d.master.logged.table handle ≡ o → Here d
        → Here (wants_own_of d a handle o)
    wants_of_said d a handle None asked found at h = h
    wants_of_said d a handle (Some row) asked found at h = wants_said d a handle row asked found at h

    issues_copy_said : (d : MasterDoing) (a : Asker) (handle : ℕ) (row : ChunkRow) (copy : ℕ) (copy_row : ChunkRow) (holders : List HeldAt) → IsAskedAt a → A d
        → chunk_of d.master.logged.table handle ≡ Some row → chunk_of d.master.logged.table copy ≡ Some copy_row → table.get d.master.attempts copy ≡ None → AreOver copy_row holders → Here d
        → Here (issues_copy d a handle row copy copy_row holders)
    issues_copy_said d a handle row copy copy_row [] asked found own_at at none all h =
        let given_up : MasterDoing = gives_up_copy d copy in
        wants_of_said given_up a handle (chunk_of given_up.master.logged.table handle) asked (f.less d copy found) refl h
    issues_copy_said d a handle row copy copy_row (x ∷ rest) asked found own_at at none all h =
        issues_said d a handle row copy copy_row (map holder_target (x ∷ rest)) asked found own_at at none (held_targets copy_row (x ∷ rest) all) h

    wants_copy_said : (d : MasterDoing) (a : Asker) (handle : ℕ) (row : ChunkRow) (copy : ℕ) (o : Option ChunkRow) → IsAskedAt a → A d → chunk_of d.master.logged.table handle ≡ Some row
        → chunk_of d.master.logged.table copy ≡ o → Here d → Here (wants_copy d a handle row copy o)
    wants_copy_said d a handle row copy None asked found at copy_at h = wants_said d a handle row asked found at h
    wants_copy_said d a handle row copy (Some copy_row) asked found at copy_at h =
        let holders : List HeldAt = holders_where d.master copy (λ v. v == copy_row.issued) in
        on_cond Here (is_attempted d.master copy) (tells_to_wait d a) (issues_copy d a handle row copy copy_row holders) (λ _. wait_said d a h)
        (λ no. issues_copy_said d a handle row copy copy_row holders asked found at copy_at (unattempted (table.get d.master.attempts copy) no) (last_over d.master copy copy_row) h)

    by_said : (d : MasterDoing) (a : Asker) (handle : ℕ) (row : ChunkRow) (o : Option ℕ) → IsAskedAt a → A d → chunk_of d.master.logged.table handle ≡ Some row → Here d
        → Here (wants_by d a handle row o)
    by_said d a handle row None asked found at h = wants_said d a handle row asked found at h
    by_said d a handle row (Some copy) asked found at h = wants_copy_said d a handle row copy (chunk_of d.master.logged.table copy) asked found at refl h

    primary_said : (d : MasterDoing) (a : Asker) (handle : ℕ) (row : ChunkRow) → IsAskedAt a → A d → chunk_of d.master.logged.table handle ≡ Some row → Here d
        → Here (wants_primary d a handle row)
    primary_said d a handle row asked found at h =
        let copy : Option ℕ = copy_for d.master.logged a.file a.index in
        on_cond Here (waits_for d.master handle) (tells_to_wait d a) (wants_by d a handle row copy) (λ _. wait_said d a h) (λ _. by_said d a handle row copy asked found at h)

    -- what an Ask asks for

    looks_row_said : (d : MasterDoing) (a : Asker) (handle : ℕ) (o : Option ChunkRow) → IsAskedAt a → A d → chunk_of d.master.logged.table handle ≡ o → Here d → Here (looks_at_row d a handle o)
    looks_row_said d a handle None asked found at h = h
    looks_row_said d a handle (Some row) asked found at h = holders_said d a handle row asked found at h

    looks_said : (d : MasterDoing) (a : Asker) (o : Option ℕ) → IsAskedAt a → A d → Here d → Here (looks_at d a o)
    looks_said d a None asked found h = none_said d a asked.taken h
    looks_said d a (Some handle) asked found h = looks_row_said d a handle (chunk_of d.master.logged.table handle) asked found refl h

    revoked_found : (d : MasterDoing) (handle : ℕ) (o : Option ChunkRow) → A d → A (revokes_row d handle o)
    revoked_found d handle None found = found
    revoked_found d handle (Some row) found =
        on_cond A (has_lease d.master row) (orders d row.primary (revoke_order handle row)) d
        (λ _. f.ordered d row.primary (revoke_order handle row) found) (λ _. found)

    revoked_there : (d : MasterDoing) (handle q : ℕ) (row : ChunkRow) (o : Option ChunkRow) → chunk_of d.master.logged.table q ≡ Some row → chunk_of (revokes_row d handle o).master.logged.table q ≡ Some row
    revoked_there d handle q row None at = at
    revoked_there d handle q row (Some r) at =
        on_cond (λ (e : MasterDoing). chunk_of e.master.logged.table q ≡ Some row) (has_lease d.master r) (orders d r.primary (revoke_order handle r)) d (λ _. at) (λ _. at)

    row_said : (d : MasterDoing) (a : Asker) (lost : Bool) (handle : ℕ) (o : Option ChunkRow) → IsAskedAt a → A d → chunk_of d.master.logged.table handle ≡ o → Here d
        → Here (mutates_row d a lost handle o)
    row_said d a lost handle None asked found at h = h
    row_said d a lost handle (Some row) asked found at h =
        on_cond Here (has_ended row d.master.now) (wants_primary d a handle row) (tells_holders (cond lost (revokes d handle) d) a handle row)
        (λ _. primary_said d a handle row asked found at h)
        (λ _. holders_said (cond lost (revokes d handle) d) a handle row asked
        (on_cond A lost (revokes d handle) d (λ _. revoked_found d handle (chunk_of d.master.logged.table handle) found) (λ _. found))
        (on_cond (λ (e : MasterDoing). chunk_of e.master.logged.table handle ≡ Some row) lost (revokes d handle) d (λ _. revoked_there d handle handle row (chunk_of d.master.logged.table handle) at) (λ _. at))
        (on_cond Here lost (revokes d handle) d (λ _. revoked_here d handle h) (λ _. h)))

    at_said : (d : MasterDoing) (a : Asker) (lost : Bool) (o : Option ℕ) → IsAskedAt a → A d → Here d → Here (mutates_at d a lost o)
    at_said d a lost None asked found h = h
    at_said d a lost (Some handle) asked found h = row_said d a lost handle (chunk_of d.master.logged.table handle) asked found refl h

    adds_said : (d : MasterDoing) (a : Asker) (lost : Bool) → IsAskedAt a → A d → Here d → Here (adds_chunk d a lost)
    adds_said d a lost asked found h =
        let handle : ℕ = d.master.logged.next_handle in
        let r : Record = log.AddChunk (file_id a.file) (handle_of handle) in
        let less : MasterDoing = writes_checkpoint d in
        logs_here (IsOfStep i) (calls_are_of_steps i) P names d r (λ e. mutates_at e a lost (Some handle)) tt
        (λ g. at_said (appends d r) a lost (Some handle) asked (f.added d a.file found) g)
        (λ g. at_said (appends less r) a lost (Some handle) asked (f.added less a.file (f.checkpointed d found)) g) h

    write_said : (d : MasterDoing) (a : Asker) (lost : Bool) (handles : List ℕ) (index : ℕ) (asked : IsAsked a)
        → (nat_lt (length handles) index ≡ true → IsRefusedFor l asked.file.0 asked.what TooLong) → IsAskedAt (with_index a index) → A d → Here d
        → Here (asks_to_write d a lost handles index)
    write_said d a lost handles index asked short there found h =
        let b : Asker = with_index a index in
        on_cond Here (nat_lt (length handles) index) (tells d a.client (body.Refused a.number TooLong)) _
        (λ low. said d a.client (body.Refused a.number TooLong) (asked, short low) h)
        (λ _. on_cond Here (index == length handles) (adds_chunk d b lost) (mutates_at d b lost (element_at handles index)) (λ _. adds_said d b lost there found h)
        (λ _. at_said d b lost (element_at handles index) there found h))

    append_said : (d : MasterDoing) (a : Asker) (lost : Bool) (handles : List ℕ) (after count : ℕ) → ((index : ℕ) → IsAskedAt (with_index a index)) → A d → Here d
        → Here (asks_to_append d a lost handles after count)
    append_said d a lost handles after zero there found h = adds_said d (with_index a 0) lost (there 0) found h
    append_said d a lost handles after (suc last) there found h =
        on_cond Here (nat_lt last after) (adds_chunk d (with_index a (suc last)) lost) (mutates_at d (with_index a last) lost (element_at handles last))
        (λ _. adds_said d (with_index a (suc last)) lost (there (suc last)) found h) (λ _. at_said d (with_index a last) lost (element_at handles last) (there last) found h)

    last_said : (d : MasterDoing) (a : Asker) (handles : List ℕ) (count : ℕ) → ((index : ℕ) → IsAskedAt (with_index a index)) → A d → Here d → Here (asks_for_last d a handles count)
    last_said d a handles zero there found h = none_said d a (there 0).taken h
    last_said d a handles (suc last) there found h = looks_said d (with_index a last) (element_at handles last) (there last) found h

    -- an index that answers what was asked for
    at_index : (a : Asker) (asked : IsAsked a) (w : Wanted) → asked.what ≡ w → (index : ℕ) → IsIndexFor w index → IsAskedAt (with_index a index)
    at_index a asked w same index is = record { taken = asked; index_is = subst (λ (y : Wanted). IsIndexFor y index) (sym same) is }

    asks_for_said : (d : MasterDoing) (a : Asker) (lost : Bool) (w : Wanted) (handles : List ℕ) (asked : IsAsked a) → asked.what ≡ w → file_of l.table asked.file.0 ≡ Some handles
        → A d → Here d → Here (asks_for d a lost w handles)
    asks_for_said d a lost (wanted.Read index) handles asked same here found h =
        looks_said d (with_index a index) (element_at handles index) (at_index a asked (wanted.Read index) same index refl) found h
    asks_for_said d a lost (wanted.Write index) handles asked same here found h =
        write_said d a lost handles index asked (λ low. (index, handles, same, here, ltb-true (length handles) index low)) (at_index a asked (wanted.Write index) same index refl) found h
    asks_for_said d a lost (wanted.Append after) handles asked same here found h =
        append_said d a lost handles after (length handles) (λ index. at_index a asked (wanted.Append after) same index tt) found h
    asks_for_said d a lost wanted.Last handles asked same here found h = last_said d a handles (length handles) (λ index. at_index a asked wanted.Last same index tt) found h

    asks_of_said : (d : MasterDoing) (a : Asker) (lost : Bool) (w : Wanted) (o : Option (List ℕ)) (asked : IsAsked a) → asked.what ≡ w → file_of l.table asked.file.0 ≡ o → A d → Here d
        → Here (asks_of d a lost w o)
    asks_of_said d a lost w None asked same here found h = said d a.client (body.Refused a.number Collected) (asked, here) h
    asks_of_said d a lost w (Some handles) asked same here found h = asks_for_said d a lost w handles asked same here found h

    ask_said : (d : MasterDoing) (client : Node) (number file : ℕ) (w : Wanted) (deadline : ℕ) (lost : Bool) (asked : IsTakenAsk i client number) → asked.what ≡ w
        → file_of l.table asked.file.0 ≡ file_of d.master.logged.table file → A d → Here d → Here (takes_ask d client number file w deadline lost)
    ask_said d client number file w deadline lost asked same here found h =
        let a : Asker = record { client = client; number = number; file = file; index = 0 } in
        let handles : Option (List ℕ) = file_of d.master.logged.table file in
        on_cond Here (nat_le deadline d.master.now) d (asks_of d a lost w handles) (λ _. h) (λ _. asks_of_said d a lost w handles asked same here found h)

    -- a file that was found has a name, and goes with its shape
    found_shaped : (path : Path) (o : Option NameNode) → node_at l.names path ≡ o → IsShapeOf l (reply_by l.table (opened o))
    found_shaped path None is = tt
    found_shaped path (Some Dir) is = tt
    found_shaped path (Some (File file)) is = (refl, path, is)

    outcome_shaped : (refusal : Option Refusal) (c : Call) → IsShapeOf l (reply_by l.table (outcome_by l.names c refusal))
    outcome_shaped (Some refusal) c = tt
    outcome_shaped None (call.Open path) = found_shaped path (node_at l.names path) refl
    outcome_shaped None other = tt

    shape_told : (k : Logged) (c : Call) (refusal : Option Refusal) → k ≡ l → IsShapeOf l (reply_by k.table (outcome_by k.names c refusal))
    shape_told k c refusal same = subst (λ (x : Logged). IsShapeOf l (reply_by x.table (outcome_by x.names c refusal))) (sym same) (outcome_shaped refusal c)

    -- the step

    pub takes_here : (d : MasterDoing) (x : Message) (b : Body) → d.master.logged ≡ l → i ≡ input.Deliver x → x.body ≡ b → A d → Here d → Here (master_takes d x b)
    takes_here d x (body.Name number deadline c) same came is found h =
        kept_said d (client_number x.sender) number deadline.0 c (table.get d.master.logged.kept (client_number x.sender)) h
    takes_here d x (body.Look number c) same came is found h =
        let outcome : Outcome = outcome_by d.master.logged.names c (master_refusal d.master c) in
        said d x.sender (body.Named number (reply_by d.master.logged.table outcome)) (shape_told d.master.logged c (master_refusal d.master c) same) h
    takes_here d x (body.Ask number file w deadline lost) same came is found h =
        let asked : IsTakenAsk i x.sender number = record { ask = x; file = file; what = w; deadline = deadline; lost = lost; came = came; sender_is = refl; body_is = is } in
        ask_said d x.sender number file.0 w deadline.0 lost asked refl (ap (λ (y : Logged). file_of y.table file.0) (sym same)) found h
    takes_here d x (body.Recorded handle version) same came is found h =
        learns_here (record { message = x; taken = came; is = ap is_told is }) (holds_now d (server_number x.sender) handle.0 version.0) (server_number x.sender) handle.0 version.0
        (k.held (effects_of d) x handle version came (inl is) h)
    takes_here d x (body.Cloned handle version) same came is found h = k.held (effects_of d) x handle version came (inr is) h
    takes_here d x (body.Revoked handle version) same came is found h =
        revoked_row_said d (server_number x.sender) handle.0 version.0 (chunk_of d.master.logged.table handle.0) h
    takes_here d x (body.Report replicas leases) same came is found h = report_said d x replicas leases same came is h
    takes_here d x other same came is found h = h

    does_here : (d : MasterDoing) (j : NodeInput) → d.master.logged ≡ l → i ≡ j → A d → Here d → Here (master_does d j)
    does_here d (input.Deliver x) same came found h = takes_here d x x.body same came refl found h
    does_here d input.Tick same came found h = ticks_here d (subst IsTick (sym came) tt) h

    pub goes_here : (d : MasterDoing) → d.master.logged ≡ l → A d → Here d → Here (finishes (master_does d i))
    goes_here d same found h = let e : MasterDoing = master_does d i in ready_here (IsOfStep i) (calls_are_of_steps i) P names e e.master.snapshots (does_here d i same refl found h)

-- the end of a step

ends_said : (W : Message → Type 0) (m : MasterState) (d : MasterDoing) (choice : Choice) (e : Ending) → AllOf W d.sent → AllOf W (master_ends m d choice e).out.sent
ends_said W m d choice Goes h = all_in_order W choice.order d.sent h
ends_said W m d choice Lost h = tt
ends_said W m d choice (Stops made) h = tt

ends_shown : (V : Seen → Type 0) (m : MasterState) (d : MasterDoing) (choice : Choice) (e : Ending) → AllOf V d.seen → AllOf V (master_ends m d choice e).seen
ends_shown V m d choice Goes h = h
ends_shown V m d choice Lost h = tt
ends_shown V m d choice (Stops made) h = tt

module _ (m : MasterState) (moment : ℕ) (i : NodeInput) (choice : Choice) (A : MasterDoing → Type 0) (f : AskKeeps A) (found : A (master_begins (master_at m moment) choice.refused)) where
  from_end : (Q : Taken MasterState → Type 0) → Q (no_step m) → Q (master_ends m (master_goes m moment i choice.refused) choice choice.ending)
      → Q (master_step m moment i choice)
  from_end Q none some =
      let d : MasterDoing = master_goes m moment i choice.refused in
      on_cond Q m.up (master_bounded m i d choice) (no_step m)
      (λ _. on_cond Q (may_end m i d choice.ending) (master_ends m d choice choice.ending) (no_step m) (λ _. some) (λ _. none)) (λ _. none)

  -- each message of a step
  pub step_says : (W : Message → Type 0) → MasterSays m.logged i A W → AllOf W (master_step m moment i choice).out.sent
  step_says W k =
      from_end (λ t. AllOf W t.out.sent) tt
      (ends_said W m (master_goes m moment i choice.refused) choice choice.ending
      (goes_here m.logged i A (λ g. AllOf W g.sent) (keeps_said m.logged i A W k) f (master_begins (master_at m moment) choice.refused) refl found tt))

  -- all that a step shows
  pub step_shows : (V : Seen → Type 0) → ((handle copy : ℕ) → IsAsk i → IsUnused A copy → V (CopyStarted (handle_of handle) (handle_of copy)))
      → AllOf V (master_step m moment i choice).seen
  step_shows V k =
      from_end (λ t. AllOf V t.seen) tt
      (ends_shown V m (master_goes m moment i choice.refused) choice choice.ending
      (goes_here m.logged i A (λ g. AllOf V g.seen) (keeps_shown m.logged i A V k) f (master_begins (master_at m moment) choice.refused) refl found tt))

-- a restart tells and shows nothing

opens_nothing : (m started : MasterState) (d : MasterDoing) (choice : Choice) (e : Ending) → ((opens_as m started d choice e).out.sent ≡ []) × ((opens_as m started d choice e).seen ≡ [])
opens_nothing m started d choice Goes =
    on_cond (λ (t : Taken MasterState). (t.out.sent ≡ []) × (t.seen ≡ [])) (has_opened started d && is_within_limits d.master) _ _ (λ _. (refl, refl)) (λ _. (refl, refl))
opens_nothing m started d choice Lost = (refl, refl)
opens_nothing m started d choice (Stops made) = (refl, refl)

both_nothing : (m : MasterState) (moment : ℕ) (choice : Choice) → ((master_restart m moment choice).out.sent ≡ []) × ((master_restart m moment choice).seen ≡ [])
both_nothing m moment choice =
    let started : MasterState = started_master m.config m.server_count (found_log m choice) moment in
    opens_nothing m started (opening started) choice choice.ending

pub restart_tells_nothing : (m : MasterState) (moment : ℕ) (choice : Choice) → (master_restart m moment choice).out.sent ≡ []
restart_tells_nothing m moment choice = (both_nothing m moment choice).0

pub restart_shows_nothing : (m : MasterState) (moment : ℕ) (choice : Choice) → (master_restart m moment choice).seen ≡ []
restart_shows_nothing m moment choice = (both_nothing m moment choice).1
