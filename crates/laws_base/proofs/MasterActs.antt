-- What a step of the master does, with its version attempts and the snapshots that wait. For what a snapshot waits there is no attempt and no copy, and whatever each of these acts keeps is kept by every step.
use Rattle.std.proofs.Common.{◌≡◌, ℕ, suc, ◌+◌, ◌≤◌, ◌<◌, Bool, true, false, cond, List, [], ◌∷◌, ◌++◌, Some, None, refl, subst, inl, inr}
use Rattle.std.specs.Prelude.{◌&&◌, not}
use Rattle.std.specs.FinMap as table
use Rattle.gfs_types.specs.declared.ids.Node.{Node}
use Rattle.gfs_types.specs.declared.ids.Node.TheVariants as node
use Rattle.gfs_types.specs.declared.ids.Handle.{Handle}
use Rattle.gfs_types.specs.declared.ids.FileId.{FileId}
use Rattle.gfs_types.specs.declared.ids.OrderNo.{OrderNo}
use Rattle.messages.specs.declared.message.Body.{Body}
use Rattle.messages.specs.declared.message.Body.TheVariants as body
use Rattle.log_records.specs.declared.record.Record.{Record}
use Rattle.log_records.specs.declared.record.Record.TheVariants as log
use Rattle.relaxed_file.proofs.NamesTree.{Tree}
use Rattle.protocol.specs.Tables.{removed_all, has_number, rising}
use Rattle.protocol.specs.Sending.{message, the_server, handle_of, version_of, moment_of, order_number}
use Rattle.chunk_table.specs.ChunkTable.{ChunkRow, chunk_of}
use Rattle.protocol.specs.LogSizes.{checkpoint_fits}
use Rattle.protocol.specs.Logged.{LogDisk, WriteCheckpoint, checkpoint_of, copies_given_up, all_copies_given_up}
use Rattle.protocol.specs.Master.{MasterDoing, VersionAttempt, PendingSnapshot, tells, orders, ends_at, fits, appends, writes_checkpoint, gives_up_copies, logs, logs_after_checkpoint, is_of_copy}
use Rattle.laws_base.proofs.Steps.{on_cond}
use Rattle.laws_base.specs.Given.{version_given}
use Rattle.laws_base.proofs.Words.{is_of_lease}
use Rattle.laws_base.proofs.CopiesUnderWay.{AreCopied}
use Rattle.laws_base.proofs.LeasesEnded.{less_ready}
use Rattle.laws_base.proofs.VersionAttempts.{fewer_told}
use Rattle.laws_base.proofs.Namespace.{IsNamed}
use Rattle.laws_base.proofs.OneName.{HasOneName}
use Rattle.laws_base.proofs.MasterMoves.{Core, core_of, core_changed, core_appended, core_ended, core_ordered, core_granted, core_extended, core_revoked, grant_record, IsDue, IsNoGrantRecord, IsPlainOrder, IsLeft, Nothing, NoneEnded, Keeps, At, IsAfter, due_later, logs_keeps, ends_keeps, extends_keeps}
use Rattle.laws_base.proofs.MasterNamesMoves.{tells_keeps, orders_keeps, copies_keeps}
use Rattle.laws_base.proofs.NamesReached.{IsNaming, naming_keeps}
use Rattle.laws_base.proofs.RowsLogged.{IsFoundRows, IsRowedLog}
use Rattle.laws_base.proofs.RowsKept.{rows_kept}
use Rattle.laws_base.proofs.Awaited.{Attempts, AreWaiting}
use Rattle.laws_base.proofs.AwaitedRecords.{IsBeside, waiting_less, waiting_after, beside_less}
use Rattle.laws_base.specs.Laws.{times_in}

abbrev pub IsRowing : LogDisk → Core → Type 0
IsRowing start c = IsNaming IsFoundRows IsRowedLog rows_kept start c

abbrev pub rowing_keeps : (start : LogDisk) → Keeps (Unit {0}) Nothing NoneEnded (IsRowing start)
rowing_keeps start = naming_keeps IsFoundRows IsRowedLog rows_kept start NoneEnded

-- each attempt was there
abbrev pub AreAttemptedFrom : Attempts → Attempts → Type 0
AreAttemptedFrom before after = (handle : ℕ) (a : VersionAttempt) → table.get after handle ≡ Some a → table.get before handle ≡ Some a

-- the step with a checkpoint written
abbrev pub core_checkpointed : Core → Core
core_checkpointed c = record (core_changed c (WriteCheckpoint (checkpoint_of c.logged))) { logged = all_copies_given_up c.logged }

pub both_false : (a b : Bool) → a && not b ≡ true → b ≡ false
both_false true true h = absurd (let both : false ≡ true = h in cc)
both_false true false h = refl
both_false false b h = absurd (let both : false ≡ true = h in cc)

abbrev pub Waits : Type 0
Waits = List PendingSnapshot

-- What each act keeps, of the step so far, of the version attempts and of the snapshots that wait. P is kept of the step by its moves.
pub record Acts (start : LogDisk) (Ended : ℕ → ℕ → Type 0) (P : Core → Type 0) (Q : Core → Attempts → Waits → Type 0) : Type 0 where
  -- a message that doesn't speak of leases
  pub tells : (c : Core) (attempts : Attempts) (ss : Waits) (receiver : Node) (b : Body) → is_of_lease b ≡ false → Q c attempts ss → Q (record c { sent = c.sent ++ message node.Master receiver b ∷ [] }) attempts ss
  -- an order that begins and ends no lease, and gives no version
  pub orders : (c : Core) (attempts : Attempts) (ss : Waits) (server : ℕ) (b : OrderNo → Body) → ((o : OrderNo) → order_number (b o) ≡ Some o) → ((o : OrderNo) → IsPlainOrder (b o)) → ((o : OrderNo) → version_given (b o) ≡ None) → Q c attempts ss
      → Q (core_ordered c server b) attempts ss
  -- an order that gives a server of an attempt its version
  pub gives : (c : Core) (attempts : Attempts) (ss : Waits) (server handle : ℕ) (a : VersionAttempt) (b : OrderNo → Body) → table.get attempts handle ≡ Some a → has_number a.servers server ≡ true
      → ((o : OrderNo) → IsPlainOrder (b o)) → ((o : OrderNo) → version_given (b o) ≡ Some (handle, a.version)) → Q c attempts ss → Q (core_ordered c server b) attempts ss
  pub revokes : (c : Core) (attempts : Attempts) (ss : Waits) (handle : ℕ) (row : ChunkRow) → chunk_of c.logged.table handle ≡ Some row → Q c attempts ss → Q (core_revoked c handle row) attempts ss
  -- a record that grants nothing
  pub appends : (c : Core) (attempts : Attempts) (ss : Waits) (r : Record) → IsDue (Unit {0}) c.logged r → IsNoGrantRecord r → IsBeside c.logged attempts ss c.now r → P c → P (core_appended c r) → Q c attempts ss → Q (core_appended c r) attempts ss
  -- a checkpoint, which gives up all copies
  pub checkpoint : (c : Core) (attempts : Attempts) (ss : Waits) → Tree c.logged.names → P c → P (core_checkpointed c) → Q c attempts ss → Q (core_checkpointed c) (removed_all attempts (table.keys c.logged.copies)) ss
  -- copies that are given up
  pub less : (c : Core) (attempts : Attempts) (ss : Waits) (handles : List ℕ) → AreCopied c.logged handles → P c → Q c attempts ss → Q (record c { logged = copies_given_up c.logged handles }) (removed_all attempts handles) ss
  -- attempts that are given up
  pub fewer : (c : Core) (attempts left : Attempts) (ss : Waits) → AreAttemptedFrom attempts left → Q c attempts ss → Q c left ss
  -- snapshots that begin or end to wait
  pub waits : (c : Core) (attempts : Attempts) (ss more : Waits) → Q c attempts ss → Q c attempts more
  -- an attempt begins, of the number that was just logged: the next one of a chunk, or the first one of a copy under the next handle
  pub issues : (c : Core) (attempts : Attempts) (ss : Waits) (handle : ℕ) (row : ChunkRow) (a : VersionAttempt) → chunk_of c.logged.table handle ≡ Some row → a.version ≡ suc row.issued → times_in c.logged.table.files handle ≤ 1 → P c → Q c attempts ss
      → Q (core_appended c (log.Issue (handle_of handle) (version_of a.version))) attempts ss → Q (core_appended c (log.Issue (handle_of handle) (version_of a.version))) (table.insert attempts handle a) ss
  pub copies : (c : Core) (attempts : Attempts) (ss : Waits) (file : FileId) (index : ℕ) (source : Handle) (copy : ℕ) (a : VersionAttempt) → copy ≡ c.logged.next_handle → P c → Q c attempts ss
      → Q (core_appended c (log.CopyStart file index source (handle_of copy) (version_of a.version))) attempts ss → Q (core_appended c (log.CopyStart file index source (handle_of copy) (version_of a.version))) (table.insert attempts copy a) ss
  -- one more server recorded it
  pub records : (c : Core) (attempts : Attempts) (ss : Waits) (handle : ℕ) (a b : VersionAttempt) → table.get attempts handle ≡ Some a → b.version ≡ a.version → b.servers ≡ a.servers → Q c attempts ss → Q c (table.insert attempts handle b) ss
  -- an attempt is granted, with its servers as members
  pub grants : (c : Core) (attempts : Attempts) (ss : Waits) (handle : ℕ) (a : VersionAttempt) (until primary : ℕ) (members : List ℕ) → table.get attempts handle ≡ Some a → rising a.servers ≡ members → IsDue (Unit {0}) c.logged (grant_record handle a.version primary members)
      → P c → P (core_granted c handle a.version until primary members) → Q c attempts ss → Q (core_granted c handle a.version until primary members) (table.remove attempts handle) ss
  -- the end of a lease that its primary doesn't have, and a later end of one that has not ended
  pub ends : (c : Core) (attempts : Attempts) (ss : Waits) (handle : ℕ) (row : ChunkRow) → chunk_of c.logged.table handle ≡ Some row → Ended handle row.granted → P c → Q c attempts ss → Q (core_ended c handle 0) attempts ss
  pub extends : (c : Core) (attempts : Attempts) (ss : Waits) (handle until : ℕ) (row : ChunkRow) → chunk_of c.logged.table handle ≡ Some row → IsLeft c.now row → P c → Q c attempts ss → Q (core_extended c handle row.granted until row.primary) attempts ss

module _ (start : LogDisk) (Ended : ℕ → ℕ → Type 0) (P : Core → Type 0) (keeps : Keeps (Unit {0}) Nothing Ended P) (rowing : (c : Core) → P c → IsRowing start c) (Q : Core → Attempts → Waits → Type 0) (acts : Acts start Ended P Q) where
  abbrev pub Base : MasterDoing → Type 0
  Base d = At (Unit {0}) Nothing Ended P keeps d

  abbrev pub Waiting : MasterDoing → Type 0
  Waiting d = AreWaiting d.master.logged d.master.attempts d.master.snapshots

  -- what holds of a step so far
  abbrev pub Here : MasterDoing → Type 0
  Here d = Base d × Waiting d × Q (core_of d) d.master.attempts d.master.snapshots

  abbrev pub Beside : MasterDoing → Record → Type 0
  Beside d r = IsBeside d.master.logged d.master.attempts d.master.snapshots d.master.now r

  -- a step just after a record, from where it was due
  pub record IsFrom (r : Record) (e : MasterDoing) : Type 0 where
    pub before : MasterDoing
    pub is : e ≡ appends before r
    pub due : IsDue (Unit {0}) before.master.logged r
    pub beside : Beside before r
    pub here : Here before

  pub has_one_name : (d : MasterDoing) → Base d → HasOneName d.master.logged
  has_one_name d h = (rowing (core_of d) h.0).tied.base.base.here

  pub tells_here : (d : MasterDoing) (receiver : Node) (b : Body) → is_of_lease b ≡ false → Here d → Here (tells d receiver b)
  tells_here d receiver b e h = (tells_keeps (Unit {0}) Nothing Ended P keeps d receiver b e h.0, h.1, acts.tells (core_of d) d.master.attempts d.master.snapshots receiver b e h.2)

  pub orders_here : (d : MasterDoing) (server : ℕ) (b : OrderNo → Body) → ((o : OrderNo) → order_number (b o) ≡ Some o) → ((o : OrderNo) → IsPlainOrder (b o)) → ((o : OrderNo) → version_given (b o) ≡ None) → Here d → Here (orders d server b)
  orders_here d server b e plain none h = (orders_keeps (Unit {0}) Nothing Ended P keeps d server b e plain h.0, h.1, acts.orders (core_of d) d.master.attempts d.master.snapshots server b e plain none h.2)

  pub gives_here : (d : MasterDoing) (server handle : ℕ) (a : VersionAttempt) (b : OrderNo → Body) → table.get d.master.attempts handle ≡ Some a → has_number a.servers server ≡ true → ((o : OrderNo) → order_number (b o) ≡ Some o)
      → ((o : OrderNo) → IsPlainOrder (b o)) → ((o : OrderNo) → version_given (b o) ≡ Some (handle, a.version)) → Here d → Here (orders d server b)
  gives_here d server handle a b at has e plain given h =
      (orders_keeps (Unit {0}) Nothing Ended P keeps d server b e plain h.0, h.1, acts.gives (core_of d) d.master.attempts d.master.snapshots server handle a b at has plain given h.2)

  pub less_here : (d : MasterDoing) (handles : List ℕ) → AreCopied d.master.logged handles → Here d → Here (gives_up_copies d handles)
  less_here d handles copied h = (
    copies_keeps (Unit {0}) Nothing Ended P keeps d handles copied h.0,
    waiting_less d.master.logged d.master.attempts d.master.snapshots handles h.1,
    acts.less (core_of d) d.master.attempts d.master.snapshots handles copied h.0.0 h.2,
  )

  pub ends_here : (d : MasterDoing) (handle : ℕ) (row : ChunkRow) → chunk_of d.master.logged.table handle ≡ Some row → Ended handle row.granted → Here d → Here (ends_at d handle 0)
  ends_here d handle row is word h = (ends_keeps (Unit {0}) Nothing Ended P keeps d handle row is word h.0, h.1, acts.ends (core_of d) d.master.attempts d.master.snapshots handle row is word h.0.0 h.2)

  pub extends_here : (d : MasterDoing) (handle : ℕ) (row : ChunkRow) (version server : ℕ) → chunk_of d.master.logged.table handle ≡ Some row → row.granted ≡ version → row.primary ≡ server → IsLeft d.master.now row
      → (let until : ℕ = d.master.now + d.master.config.lease_ms in
      row.lease_end < until → Here d → Here (tells (ends_at d handle until) (the_server server) (body.Extend (handle_of handle) (version_of version) (moment_of until))))
  extends_here d handle row version server is same primary lasts later h =
      let until : ℕ = d.master.now + d.master.config.lease_ms in (
        extends_keeps (Unit {0}) Nothing Ended P keeps d handle row version server is same primary lasts later h.0,
        h.1,
        subst (λ (n : ℕ). Q (core_extended (core_of d) handle n until server) d.master.attempts d.master.snapshots) same
            (subst (λ (n : ℕ). Q (core_extended (core_of d) handle row.granted until n) d.master.attempts d.master.snapshots) primary
            (acts.extends (core_of d) d.master.attempts d.master.snapshots handle until row is lasts h.0.0 h.2)),
      )

  -- a record, and then the rest of the step, as one decides
  logged_base : (d : MasterDoing) (r : Record) → IsDue (Unit {0}) d.master.logged r → IsNoGrantRecord r → (Unit {0} → IsNamed d.master.logged.names d.master.logged.next_file r d.master.snapshots) → Base d → Base (logs d r (λ e. e))
  logged_base d r due plain named h = logs_keeps (Unit {0}) Nothing Ended P keeps d r (λ e. e) due plain named (λ e g. g) h

  pub checkpoint_here : (d : MasterDoing) → Here d → Here (writes_checkpoint d)
  checkpoint_here d h =
      let handles : List ℕ = table.keys d.master.logged.copies in
      let tree : Tree d.master.logged.names = (h.0.2 tt).tree in
      let base : Base (writes_checkpoint d) = (
        keeps.checkpoint (core_of d) (λ asks. tree) h.0.0,
        fewer_told Nothing d.master.attempts handles h.0.1,
        h.0.2,
        λ asks. less_ready d.master.now d.master.attempts d.master.logged handles (h.0.3 asks),
      ) in (
        base,
        waiting_less d.master.logged d.master.attempts d.master.snapshots handles h.1,
        acts.checkpoint (core_of d) d.master.attempts d.master.snapshots tree h.0.0 base.0 h.2,
      )

  -- a record is on the disk
  appended_here : (d : MasterDoing) (r : Record) → IsDue (Unit {0}) d.master.logged r → IsNoGrantRecord r → Beside d r → Base (appends d r) → Here d → Here (appends d r)
  appended_here d r due plain beside base h = (
    base,
    waiting_after d.master.logged d.master.attempts d.master.snapshots d.master.now (h.0.2 tt) (has_one_name d h.0) h.1 r due plain beside,
    acts.appends (core_of d) d.master.attempts d.master.snapshots r due plain beside h.0.0 base.0 h.2,
  )

  pub logs_here : (d : MasterDoing) (r : Record) (then_ : MasterDoing → MasterDoing) → IsDue (Unit {0}) d.master.logged r → IsNoGrantRecord r → (Unit {0} → IsNamed d.master.logged.names d.master.logged.next_file r d.master.snapshots)
      → Beside d r → ((e : MasterDoing) → IsAfter d r e → IsFrom r e → Here e → Here (then_ e)) → Here d → Here (logs d r then_)
  logs_here d r then_ due plain named beside go h =
      let was : Bool = is_of_copy d.master.logged r in
      let b : MasterDoing = writes_checkpoint d in
      let room : Bool = checkpoint_fits d.master.config.log_bytes (checkpoint_of d.master.logged) in
      let all : Base (logs d r (λ e. e)) = logged_base d r due plain named h.0 in
      on_cond Here (fits d r) (then_ (appends d r)) _
      (λ now. let base : Base (appends d r) = subst (λ (x : Bool). Base (cond x (appends d r) (cond room (logs_after_checkpoint b r was (λ e. e)) d))) now all in
      go (appends d r) (inl refl) (record { before = d; is = refl; due = due; beside = beside; here = h }) (appended_here d r due plain beside base h))
      (λ full. on_cond Here room (logs_after_checkpoint b r was then_) d
      (λ may. on_cond Here (fits b r && not was) (then_ (appends b r)) b
      (λ t. let free : was ≡ false = both_false (fits b r) was t in
      let still : IsDue (Unit {0}) b.master.logged r = due_later (Unit {0}) d.master.logged r free due in
      let base : Base (appends b r) = subst (λ (x : Bool). Base (cond x (appends b r) b)) t
      (subst (λ (x : Bool). Base (cond x (logs_after_checkpoint b r was (λ e. e)) d)) may (subst (λ (x : Bool). Base (cond x (appends d r) (cond room (logs_after_checkpoint b r was (λ e. e)) d))) full all)) in
      let less : Here b = checkpoint_here d h in
      let still_beside : Beside b r = beside_less d.master.logged d.master.attempts d.master.snapshots d.master.now (table.keys d.master.logged.copies) r beside in
      go (appends b r) (inr refl) (record { before = b; is = refl; due = still; beside = still_beside; here = less }) (appended_here b r still plain still_beside base less))
      (λ _. checkpoint_here d h))
      (λ _. h))

  pub logs_all : (d : MasterDoing) (r : Record) (then_ : MasterDoing → MasterDoing) → IsDue (Unit {0}) d.master.logged r → IsNoGrantRecord r → (Unit {0} → IsNamed d.master.logged.names d.master.logged.next_file r d.master.snapshots)
      → Beside d r → ((e : MasterDoing) → Here e → Here (then_ e)) → Here d → Here (logs d r then_)
  logs_all d r then_ due plain named beside go h = logs_here d r then_ due plain named beside (λ e after from. go e) h
