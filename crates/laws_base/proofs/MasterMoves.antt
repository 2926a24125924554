-- What a step of the master is made of. Whatever each of these moves keeps is kept by every step.
use Rattle.std.proofs.Common.{◌≡◌, ℕ, suc, ◌+◌, ◌≤◌, ◌<◌, Bool, true, false, cond, List, [], ◌∷◌, ◌++◌, Some, None, refl, sym, ap, subst, ◌∙◌, ◌⊎◌, inl, inr, arith}
use Rattle.std.specs.Prelude.{◌&&◌, ◌||◌, not}
use Rattle.std.specs.List.{list_any}
use Rattle.std.specs.Ordering.{nat_cmp, eq_by_cmp}
use Rattle.std.specs.Cmp.{nat_cmp_total}
use Rattle.std.specs.FinMap as table
use Rattle.gfs_types.specs.declared.config.Config.{Config}
use Rattle.gfs_types.specs.declared.ids.Node.{Node}
use Rattle.gfs_types.specs.declared.ids.Node.TheVariants as node
use Rattle.gfs_types.specs.declared.ids.OrderNo.{OrderNo}
use Rattle.messages.specs.declared.message.Body.{Body}
use Rattle.messages.specs.declared.message.Body.TheVariants as body
use Rattle.messages.specs.declared.message.Message.{Message}
use Rattle.log_records.specs.declared.record.Record.{Record}
use Rattle.log_records.specs.declared.record.Record.TheVariants as log
use Rattle.protocol.specs.Tables.{Table, removed_all, element_at, has_number}
use Rattle.protocol.specs.Sending.{message, the_server, server_id, handle_of, version_of, moment_of, order_number}
use Rattle.chunk_table.specs.ChunkTable.{ChunkRow, chunk_of, handles_of, set_end, added_row, copied_row}
use Rattle.protocol.specs.LogSizes.{checkpoint_fits}
use Rattle.protocol.specs.Logged.{Logged, Copy, LogDisk, LogChange, AppendRecord, WriteCheckpoint, log_changed, after_record, checkpoint_of, copies_for_file, copies_given_up}
use Rattle.protocol.specs.Master.{MasterDoing, VersionAttempt, PendingSnapshot, tells, ends_at, fits, appends, writes_checkpoint, logs, logs_after_checkpoint, is_of_copy}
use Rattle.laws_base.proofs.Steps.{on_cond, none_some, put_cases, removed_cases}
use Rattle.laws_base.proofs.Words.{is_of_lease, no_order}
use Rattle.protocol.specs.MasterVersions.{chunk_size_of}
use Rattle.laws_base.proofs.LeaseOrders.{revoke_body, revoke_order, grant_body, grant_order, GrantsNothing}
use Rattle.laws_base.proofs.CopiesUnderWay.{IsUncopied, AreCopied, AreSoundCopies}
use Rattle.relaxed_file.specs.Names.{Names, copied_entries}
use Rattle.relaxed_file.proofs.NamesTree.{Tree}
use Rattle.laws_base.proofs.ChunkRows.{Rows, rows_of, changed_from, all_copied_from, expired_from, all_copied_owned, expired_owned}
use Rattle.laws_base.proofs.VersionAttempts.{AreTold, fewer_told}
use Rattle.laws_base.proofs.VersionsAhead.{AreAhead, ahead_from, new_ahead, issue_ahead}
use Rattle.laws_base.proofs.LeasesEnded.{HasEnded, AreReady, IsLasting, ended_owned, ended_issued, ended_put, ended_new, less_ready, set_ready}
use Rattle.laws_base.proofs.Namespace.{IsNamespace, IsNamed, IsNameDue, names_after, names_are_after}

-- the part of a step of the master that the laws speak of
pub record Core : Type 0 where
  pub up : Bool
  pub under_way : List LogChange
  pub logged : Logged
  pub disk : LogDisk
  pub changes : List LogChange
  pub sent : List Message
  pub order_count : ℕ
  pub now : ℕ
  pub config : Config

abbrev pub core_of : MasterDoing → Core
core_of d =
    record {
      up = d.master.up;
      under_way = d.master.under_way;
      logged = d.master.logged;
      disk = d.master.disk;
      changes = d.changes;
      sent = d.sent;
      order_count = d.master.order_count;
      now = d.master.now;
      config = d.master.config;
    }

-- what is known of a record that is logged in a step, where it is asked for that copies are sound and versions above what was granted
abbrev pub IsDue : Type 0 → Logged → Record → Type 0
IsDue Asks l (log.Epoch epoch) = ⊥
IsDue Asks l (log.Create client n file shape path) = file.0 ≡ l.next_file
IsDue Asks l (log.AddChunk file handle) = (handle.0 ≡ l.next_handle) × (table.contains_key l.table.files file.0 ≡ true)
IsDue Asks l (log.Issue handle version) = (row : ChunkRow) × (chunk_of l.table handle.0 ≡ Some row) × (version.0 ≡ suc row.issued)
IsDue Asks l (log.Grant handle version primary members) = (row : ChunkRow) × (chunk_of l.table handle.0 ≡ Some row) × (Asks → row.granted < version.0)
IsDue Asks l (log.CopyStart file index handle copy copy_version) =
    (copy.0 ≡ l.next_handle) × (table.contains_key l.table.files file.0 ≡ true) × (element_at (handles_of l.table file.0) index ≡ Some handle.0) × (Asks → IsUncopied l file.0 index)
IsDue Asks l (log.Counters next_file next_handle epoch) = ⊥
IsDue Asks l (log.DirItem path) = ⊥
IsDue Asks l (log.FileItem path file shape handles) = ⊥
IsDue Asks l (log.ChunkItem handle granted issued primary members) = ⊥
IsDue Asks l (log.ClientItem client n refusal) = ⊥
IsDue Asks l other = Unit {0}

-- a record that grants nothing
abbrev pub IsNoGrantRecord : Record → Type 0
IsNoGrantRecord (log.Grant handle version primary members) = ⊥
IsNoGrantRecord other = Unit {0}

abbrev pub core_changed : Core → LogChange → Core
core_changed c change = record c { disk = log_changed c.disk change; changes = c.changes ++ change ∷ [] }

abbrev pub core_appended : Core → Record → Core
core_appended c r = record (core_changed c (AppendRecord r)) { logged = after_record c.logged r }

abbrev pub core_ended : Core → ℕ → ℕ → Core
core_ended c handle moment = record c { logged = record c.logged { table = set_end c.logged.table handle moment } }

-- no Grant and no Revoke
abbrev pub IsPlainOrder : Body → Type 0
IsPlainOrder (grant_body order handle version end_moment chunk members) = ⊥
IsPlainOrder (revoke_body order handle version) = ⊥
IsPlainOrder other = Unit {0}

pub plain_nothing : (b : Body) → IsPlainOrder b → GrantsNothing b
plain_nothing (grant_body order handle version end_moment chunk members) plain = plain
plain_nothing other plain = tt

pub unordered_plain : (b : Body) → order_number b ≡ None → IsPlainOrder b
unordered_plain (grant_body order handle version end_moment chunk members) none = none_some order (sym none)
unordered_plain (revoke_body order handle version) none = none_some order (sym none)
unordered_plain other none = tt

pub quiet_plain : (b : Body) → is_of_lease b ≡ false → IsPlainOrder b
quiet_plain b quiet = unordered_plain b (no_order b quiet)

abbrev pub core_ordered : Core → ℕ → (OrderNo → Body) → Core
core_ordered c server b =
    record c { sent = c.sent ++ message node.Master (the_server server) (b (record { epoch = c.logged.epoch; count = suc c.order_count })) ∷ []; order_count = suc c.order_count }

abbrev pub grant_record : ℕ → ℕ → ℕ → List ℕ → Record
grant_record handle version primary members = log.Grant (handle_of handle) (version_of version) (server_id primary) members

-- the order of a grant whose record is logged, with the size of the chunk
abbrev pub granted_order : Core → ℕ → ℕ → ℕ → ℕ → List ℕ → OrderNo → Body
granted_order c handle version until primary members =
    grant_order handle version until (chunk_size_of (core_appended c (grant_record handle version primary members)).logged.table handle) members

-- a grant: its record, then the end of its lease, then the order
abbrev pub core_granted : Core → ℕ → ℕ → ℕ → ℕ → List ℕ → Core
core_granted c handle version until primary members =
    core_ordered (core_ended (core_appended c (grant_record handle version primary members)) handle until) primary (granted_order c handle version until primary members)

-- a lease that the master lets last longer: its end, and the word to its primary
abbrev pub core_extended : Core → ℕ → ℕ → ℕ → ℕ → Core
core_extended c handle version until primary =
    record (core_ended c handle until) { sent = c.sent ++ message node.Master (the_server primary) (body.Extend (handle_of handle) (version_of version) (moment_of until)) ∷ [] }

abbrev pub core_revoked : Core → ℕ → ChunkRow → Core
core_revoked c handle row = core_ordered c row.primary (revoke_order handle row)

-- the chunk was granted, and its lease has not ended
abbrev pub IsLeft : ℕ → ChunkRow → Type 0
IsLeft now row = (1 ≤ row.granted) × (now < row.lease_end)

-- a lease's time from now
abbrev pub IsLeaseFrom : Core → ℕ → Type 0
IsLeaseFrom c until = until ≡ c.now + c.config.lease_ms

-- where nothing is asked of what servers say
abbrev pub Nothing : ℕ → ℕ → ℕ → Type 0
Nothing n handle version = Unit {0}

abbrev pub NoneEnded : ℕ → ℕ → Type 0
NoneEnded handle version = Unit {0}

-- the names before a record and after it, where names are asked for
pub record AreNames (l : Logged) (r : Record) : Type 0 where
  pub due : IsNameDue l.names l.next_file r
  pub before : Tree l.names
  pub after : Tree (names_after l.names l.next_file r)

-- What each move keeps. Told n handle version: that server said that it has this version of the chunk. Ended handle version: a server said that it has no such lease. Asks: whether names and copies are asked for.
pub record Keeps (Asks : Type 0) (Told : ℕ → ℕ → ℕ → Type 0) (Ended : ℕ → ℕ → Type 0) (P : Core → Type 0) : Type 0 where
  -- where copies are asked for, they are sound
  pub sound : Asks → (c : Core) → P c → AreSoundCopies c.logged
  -- a message that doesn't speak of leases
  pub tells : (c : Core) (receiver : Node) (b : Body) → is_of_lease b ≡ false → P c → P (record c { sent = c.sent ++ message node.Master receiver b ∷ [] })
  -- an order that begins and ends no lease, under the next number
  pub orders : (c : Core) (server : ℕ) (b : OrderNo → Body) → ((o : OrderNo) → order_number (b o) ≡ Some o) → ((o : OrderNo) → IsPlainOrder (b o)) → P c → P (core_ordered c server b)
  -- the primary of the granted version is to end its lease
  pub revokes : (c : Core) (handle : ℕ) (row : ChunkRow) → chunk_of c.logged.table handle ≡ Some row → P c → P (core_revoked c handle row)
  -- a grant, whose members all said that they have the version
  pub grants : (c : Core) (handle version until primary : ℕ) (members : List ℕ) → ((n : ℕ) → has_number members n ≡ true → Told n handle version) → IsDue Asks c.logged (grant_record handle version primary members)
      → (Asks → AreNames c.logged (grant_record handle version primary members)) → IsLeaseFrom c until → (Asks → HasEnded c.now (rows_of c.logged) handle) → P c → P (core_granted c handle version until primary members)
  -- a record that grants nothing
  pub appends : (c : Core) (r : Record) → IsDue Asks c.logged r → IsNoGrantRecord r → (Asks → AreNames c.logged r) → P c → P (core_appended c r)
  -- a checkpoint, which gives up all copies
  pub checkpoint : (c : Core) → (Asks → Tree c.logged.names) → P c → P (record (core_changed c (WriteCheckpoint (checkpoint_of c.logged))) { logged = copies_given_up c.logged (table.keys c.logged.copies) })
  -- copies that are given up
  pub less : (c : Core) (handles : List ℕ) → AreCopied c.logged handles → P c → P (record c { logged = copies_given_up c.logged handles })
  -- the end of a lease that its primary doesn't have
  pub ends : (c : Core) (handle : ℕ) (row : ChunkRow) → chunk_of c.logged.table handle ≡ Some row → Ended handle row.granted → P c → P (core_ended c handle 0)
  -- a later end of a lease that has not ended
  pub extends : (c : Core) (handle until : ℕ) (row : ChunkRow) → chunk_of c.logged.table handle ≡ Some row → IsLeft c.now row → row.lease_end < until → IsLeaseFrom c until → P c
      → P (core_extended c handle row.granted until row.primary)

either_false : (a b : Bool) → a || b ≡ false → (a ≡ false) × (b ≡ false)
either_false true b h = absurd (cc)
either_false false b h = (refl, h)

-- what stays in a table without these numbers
pub removed_other : {X : Type 0} (t : Table X) (ns : List ℕ) (q : ℕ) → list_any (eq_by_cmp nat_cmp q) ns ≡ false → table.get (removed_all t ns) q ≡ table.get t q
removed_other t [] q h = refl
removed_other t (n ∷ ns) q h =
    let parts = either_false (eq_by_cmp nat_cmp q n) (list_any (eq_by_cmp nat_cmp q) ns) h in
    removed_other (table.remove t n) ns q parts.1 ∙ table.get-remove nat_cmp_total t n q ∙ ap (λ b. cond b None (table.get t q)) parts.0

-- a record that is no copy's is still due after a checkpoint
pub due_later : (Asks : Type 0) (l : Logged) (r : Record) → is_of_copy l r ≡ false → IsDue Asks l r → IsDue Asks (copies_given_up l (table.keys l.copies)) r
due_later Asks l (log.Epoch epoch) h due = due
due_later Asks l (log.Create client n file shape path) h due = due
due_later Asks l (log.AddChunk file handle) h due = due
due_later Asks l (log.Issue handle version) h due =
    (due.0, removed_other l.table.chunks (table.keys l.copies) handle.0 (sym (table.contains_key-keys l.copies handle.0) ∙ h) ∙ due.1, due.2)
due_later Asks l (log.CopyStart file index handle copy copy_version) h due = (due.0, due.1, due.2, λ asks other c is. due.3 asks other c (removed_cases l.copies (table.keys l.copies) other c is))
due_later Asks l (log.Counters next_file next_handle epoch) h due = due
due_later Asks l (log.DirItem path) h due = due
due_later Asks l (log.FileItem path file shape handles) h due = due
due_later Asks l (log.ChunkItem handle granted issued primary members) h due = due
due_later Asks l (log.ClientItem client n refusal) h due = due
due_later Asks l (log.Mkdir client n path) h due = tt
due_later Asks l (log.Rmdir client n path) h due = tt
due_later Asks l (log.Delete client n moment path) h due = tt
due_later Asks l (log.Rename client n from to) h due = tt
due_later Asks l (log.Snapshot client n from to) h due = tt
due_later Asks l (log.Refused client n refusal) h due = tt
due_later Asks l (log.Expired file) h due = tt
due_later Asks l (log.Grant handle version primary members) h due = (due.0, removed_other l.table.chunks (table.keys l.copies) handle.0 (sym (table.contains_key-keys l.copies handle.0) ∙ h) ∙ due.1, due.2)

neither : (a b : Bool) → a && not b ≡ true → b ≡ false
neither true true h = absurd (let both : false ≡ true = h in cc)
neither true false h = refl
neither false b h = absurd (let both : false ≡ true = h in cc)

-- snapshots that wait are no part of the log
pub logs_snapshots : (d : MasterDoing) (r : Record) (then_ : MasterDoing → MasterDoing) (ss : List PendingSnapshot) → ((e : MasterDoing) → e.master.snapshots ≡ ss → (then_ e).master.snapshots ≡ ss)
    → d.master.snapshots ≡ ss → (logs d r then_).master.snapshots ≡ ss
logs_snapshots d r then_ ss go h =
    let was : Bool = is_of_copy d.master.logged r in
    let good : MasterDoing → Type 0 = λ e. e.master.snapshots ≡ ss in
    on_cond good (fits d r) (then_ (appends d r)) _ (λ _. go (appends d r) h)
    (λ _. on_cond good (checkpoint_fits d.master.config.log_bytes (checkpoint_of d.master.logged)) (logs_after_checkpoint (writes_checkpoint d) r was then_) d
    (λ _. on_cond good (fits (writes_checkpoint d) r && not was) (then_ (appends (writes_checkpoint d) r)) (writes_checkpoint d) (λ _. go (appends (writes_checkpoint d) r) h) (λ _. h))
    (λ _. h))

-- to log, where the step ends there
pub logs_alone : (good : MasterDoing → Type 0) (d : MasterDoing) (r : Record) → good d → good (appends d r) → good (writes_checkpoint d) → good (appends (writes_checkpoint d) r) → good (logs d r (λ e. e))
logs_alone good d r as_is logged less logged_less =
    let was : Bool = is_of_copy d.master.logged r in
    on_cond good (fits d r) (appends d r) _ (λ _. logged)
    (λ _. on_cond good (checkpoint_fits d.master.config.log_bytes (checkpoint_of d.master.logged)) (logs_after_checkpoint (writes_checkpoint d) r was (λ e. e)) d
    (λ _. on_cond good (fits (writes_checkpoint d) r && not was) (appends (writes_checkpoint d) r) (writes_checkpoint d) (λ _. logged_less) (λ _. less))
    (λ _. as_is))

-- a step just after a record, which a checkpoint may have made room for
abbrev pub IsAfter : MasterDoing → Record → MasterDoing → Type 0
IsAfter d r e = (e ≡ appends d r) ⊎ (e ≡ appends (writes_checkpoint d) r)

ahead_after : (Asks : Type 0) (attempts : Table VersionAttempt) (l : Logged) (r : Record) → IsDue Asks l r → IsNoGrantRecord r → AreAhead attempts (rows_of l) → AreAhead attempts (rows_of (after_record l r))
ahead_after Asks attempts l (log.AddChunk file handle) due plain h = new_ahead attempts (rows_of l) handle.0 (added_row l.table file.0) refl h
ahead_after Asks attempts l (log.CopyStart file index handle copy copy_version) due plain h = new_ahead attempts (rows_of l) copy.0 (copied_row l.table handle.0 copy_version.0) refl h
ahead_after Asks attempts l (log.Issue handle version) due plain h = issue_ahead attempts (rows_of l) handle.0 version.0 due.0 due.1 due.2 h
ahead_after Asks attempts l (log.Snapshot client n from to) due plain h =
    ahead_from attempts (rows_of l) (rows_of (after_record l (log.Snapshot client n from to))) (all_copied_from l.table l.next_file (copied_entries l.names from to)) h
ahead_after Asks attempts l (log.Expired file) due plain h = ahead_from attempts (rows_of l) (rows_of (after_record l (log.Expired file))) (expired_from l file) h
ahead_after Asks attempts l (log.Grant handle version primary members) due plain h = absurd plain
ahead_after Asks attempts l (log.FileItem path file shape handles) due plain h = absurd due
ahead_after Asks attempts l (log.ChunkItem handle granted issued primary members) due plain h = absurd due
ahead_after Asks attempts l other due plain h = h

ended_after : (Asks : Type 0) (now : ℕ) (l : Logged) (r : Record) → IsDue Asks l r → IsNoGrantRecord r → (q : ℕ) → HasEnded now (rows_of l) q → HasEnded now (rows_of (after_record l r)) q
ended_after Asks now l (log.AddChunk file handle) due plain q h = ended_put now (rows_of l) handle.0 (added_row l.table file.0) q refl h
ended_after Asks now l (log.CopyStart file index handle copy copy_version) due plain q h = ended_put now (rows_of l) copy.0 (copied_row l.table handle.0 copy_version.0) q refl h
ended_after Asks now l (log.Issue handle version) due plain q h = ended_issued now (rows_of l) handle.0 version.0 q h
ended_after Asks now l (log.Snapshot client n from to) due plain q h =
    ended_owned now (rows_of l) (rows_of (after_record l (log.Snapshot client n from to))) q (all_copied_owned l.table l.next_file (copied_entries l.names from to)) h
ended_after Asks now l (log.Expired file) due plain q h = ended_owned now (rows_of l) (rows_of (after_record l (log.Expired file))) q (expired_owned l file) h
ended_after Asks now l (log.Grant handle version primary members) due plain q h = absurd plain
ended_after Asks now l (log.FileItem path file shape handles) due plain q h = absurd due
ended_after Asks now l (log.ChunkItem handle granted issued primary members) due plain q h = absurd due
ended_after Asks now l other due plain q h = h

copied_after : (Asks : Type 0) (now : ℕ) (l : Logged) (r : Record) → IsDue Asks l r → IsNoGrantRecord r → ((q : ℕ) (c : Copy) → table.get l.copies q ≡ Some c → HasEnded now (rows_of l) q) → (q : ℕ) (c : Copy)
    → table.get (after_record l r).copies q ≡ Some c → HasEnded now (rows_of (after_record l r)) q
copied_after Asks now l (log.CopyStart file index handle copy copy_version) due plain h q c is =
    let new : ChunkRow = copied_row l.table handle.0 copy_version.0 in
    elim (put_cases l.copies copy.0 (record { file = file.0; index = index; source = handle.0 }) q c is) [
      | inl same ↦ subst (λ (n : ℕ). HasEnded now (table.insert (rows_of l) copy.0 new) n) (sym same.0) (ended_new now (rows_of l) copy.0 new refl)
      | inr before ↦ ended_put now (rows_of l) copy.0 new q refl (h q c before)
    ]
copied_after Asks now l (log.Expired file) due plain h q c is = ended_after Asks now l (log.Expired file) due plain q (h q c (removed_cases l.copies (copies_for_file l file.0) q c is))
copied_after Asks now l (log.AddChunk file handle) due plain h q c is = ended_after Asks now l (log.AddChunk file handle) due plain q (h q c is)
copied_after Asks now l (log.Issue handle version) due plain h q c is = ended_after Asks now l (log.Issue handle version) due plain q (h q c is)
copied_after Asks now l (log.Snapshot client n from to) due plain h q c is = ended_after Asks now l (log.Snapshot client n from to) due plain q (h q c is)
copied_after Asks now l (log.Grant handle version primary members) due plain h q c is = absurd plain
copied_after Asks now l (log.FileItem path file shape handles) due plain h q c is = absurd due
copied_after Asks now l (log.ChunkItem handle granted issued primary members) due plain h q c is = absurd due
copied_after Asks now l other due plain h q c is = h q c is

ready_after : (Asks : Type 0) (now : ℕ) (attempts : Table VersionAttempt) (l : Logged) (r : Record) → IsDue Asks l r → IsNoGrantRecord r → AreReady now attempts l → AreReady now attempts (after_record l r)
ready_after Asks now attempts l r due plain h =
    record {
      ahead = ahead_after Asks attempts l r due plain h.ahead;
      attempted = λ q a is. ended_after Asks now l r due plain q (h.attempted q a is);
      copied = copied_after Asks now l r due plain h.copied;
    }

module _ (Asks : Type 0) (Told : ℕ → ℕ → ℕ → Type 0) (Ended : ℕ → ℕ → Type 0) (P : Core → Type 0) (k : Keeps Asks Told Ended P) where
  -- beside it, of whom an attempt says that it recorded it said so, the names are a tree with free targets, each attempt is above what was granted, and its chunk's last lease has ended
  abbrev pub At : MasterDoing → Type 0
  At d =
      P (core_of d) × AreTold Told d.master.attempts × (Asks → IsNamespace d.master.logged.names d.master.snapshots) × (Asks → AreReady d.master.now d.master.attempts d.master.logged)

  checkpoint_keeps : (d : MasterDoing) → At d → At (writes_checkpoint d)
  checkpoint_keeps d h =
      let handles : List ℕ = table.keys d.master.logged.copies in
      (k.checkpoint (core_of d) (λ asks. (h.2 asks).tree) h.0, fewer_told Told d.master.attempts handles h.1, h.2, λ asks. less_ready d.master.now d.master.attempts d.master.logged handles (h.3 asks))

  ended_ready : (d : MasterDoing) (handle moment : ℕ) → (moment ≤ d.master.now) ⊎ IsLasting d.master.now (rows_of d.master.logged) handle → AreReady d.master.now d.master.attempts d.master.logged
      → AreReady d.master.now d.master.attempts (ends_at d handle moment).master.logged
  ended_ready d handle moment may h =
      let rows : Rows = rows_of d.master.logged in
      set_ready d.master.now d.master.attempts d.master.logged handle moment may
      (ahead_from d.master.attempts rows (rows_of (ends_at d handle moment).master.logged) (changed_from rows handle (λ row. record row { lease_end = moment }) (table.get rows handle) refl (λ row. (refl, refl, refl))) h.ahead) h

  pub ends_keeps : (d : MasterDoing) (handle : ℕ) (row : ChunkRow) → chunk_of d.master.logged.table handle ≡ Some row → Ended handle row.granted → At d → At (ends_at d handle 0)
  ends_keeps d handle row is word h = (k.ends (core_of d) handle row is word h.0, h.1, h.2, λ asks. ended_ready d handle 0 (inl (omega arith)) (h.3 asks))

  pub extends_keeps : (d : MasterDoing) (handle : ℕ) (row : ChunkRow) (version server : ℕ) → chunk_of d.master.logged.table handle ≡ Some row → row.granted ≡ version → row.primary ≡ server → IsLeft d.master.now row
      → (let until : ℕ = d.master.now + d.master.config.lease_ms in
      row.lease_end < until → At d → At (tells (ends_at d handle until) (the_server server) (body.Extend (handle_of handle) (version_of version) (moment_of until))))
  extends_keeps d handle row version server is same primary lasts later h =
      let until : ℕ = d.master.now + d.master.config.lease_ms in (
        subst (λ (n : ℕ). P (core_extended (core_of d) handle n until server)) same
            (subst (λ (n : ℕ). P (core_extended (core_of d) handle row.granted until n)) primary (k.extends (core_of d) handle until row is lasts later refl h.0)),
        h.1,
        h.2,
        λ asks. ended_ready d handle until (inr (row, is, lasts.1)) (h.3 asks),
      )

  -- to log, from what the record and the rest of the step keep, at once or after a checkpoint
  pub logs_from : (d : MasterDoing) (r : Record) (then_ : MasterDoing → MasterDoing) → (At d → At (then_ (appends d r)))
      → (is_of_copy d.master.logged r ≡ false → At (writes_checkpoint d) → At (then_ (appends (writes_checkpoint d) r))) → At d → At (logs d r then_)
  logs_from d r then_ now later h =
      let was : Bool = is_of_copy d.master.logged r in
      on_cond At (fits d r) (then_ (appends d r)) _ (λ _. now h)
      (λ _. on_cond At (checkpoint_fits d.master.config.log_bytes (checkpoint_of d.master.logged)) (logs_after_checkpoint (writes_checkpoint d) r was then_) d
      (λ _. on_cond At (fits (writes_checkpoint d) r && not was) (then_ (appends (writes_checkpoint d) r)) (writes_checkpoint d)
      (λ t. later (neither (fits (writes_checkpoint d) r) was t) (checkpoint_keeps d h)) (λ _. checkpoint_keeps d h))
      (λ _. h))

  -- the names before a record and after it
  pub record_names : (d : MasterDoing) (r : Record) → (Asks → IsNamed d.master.logged.names d.master.logged.next_file r d.master.snapshots) → (Asks → IsNamespace d.master.logged.names d.master.snapshots)
      → Asks → AreNames d.master.logged r
  record_names d r named before asks = record { due = (named asks).due; before = (before asks).tree; after = (named asks).after.tree }

  pub names_later : (d : MasterDoing) (r : Record) → (Asks → IsNamed d.master.logged.names d.master.logged.next_file r d.master.snapshots) → Asks → IsNamespace (after_record d.master.logged r).names d.master.snapshots
  names_later d r named asks = subst (λ (n : Names). IsNamespace n d.master.snapshots) (sym (names_are_after d.master.logged r)) (named asks).after

  -- to log what is no grant, from what the rest of the step keeps after it
  pub logs_keeps_after : (d : MasterDoing) (r : Record) (then_ : MasterDoing → MasterDoing) → IsDue Asks d.master.logged r → IsNoGrantRecord r
      → (Asks → IsNamed d.master.logged.names d.master.logged.next_file r d.master.snapshots) → ((e : MasterDoing) → IsAfter d r e → At e → At (then_ e)) → At d → At (logs d r then_)
  logs_keeps_after d r then_ due plain named go h =
      let less : MasterDoing = writes_checkpoint d in
      logs_from d r then_
      (λ g. go (appends d r) (inl refl)
      (k.appends (core_of d) r due plain (record_names d r named g.2) g.0, g.1, names_later d r named, λ asks. ready_after Asks d.master.now d.master.attempts d.master.logged r due plain (g.3 asks)))
      (λ free g. let still = due_later Asks d.master.logged r free due in
      go (appends less r) (inr refl)
      (k.appends (core_of less) r still plain (record_names less r named g.2) g.0, g.1, names_later less r named, λ asks. ready_after Asks less.master.now less.master.attempts less.master.logged r still plain (g.3 asks)))
      h

  pub logs_keeps : (d : MasterDoing) (r : Record) (then_ : MasterDoing → MasterDoing) → IsDue Asks d.master.logged r → IsNoGrantRecord r
      → (Asks → IsNamed d.master.logged.names d.master.logged.next_file r d.master.snapshots) → ((e : MasterDoing) → At e → At (then_ e)) → At d → At (logs d r then_)
  logs_keeps d r then_ due plain named go h = logs_keeps_after d r then_ due plain named (λ e after. go e) h
