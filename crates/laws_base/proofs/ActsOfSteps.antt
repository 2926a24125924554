-- Every step of the master keeps what each act keeps.
use Rattle.std.proofs.Common.{◌≡◌, ◌≤◌, ℕ, Bool, true, List, [], ◌∷◌, Option, Some, None, refl, inr}
use Rattle.std.specs.Prelude.{nat_lt, max}
use Rattle.std.specs.FinMap as table
use Rattle.std.proofs.Math.Nat.{le-max_left}
use Rattle.messages.specs.declared.event.NodeInput.{NodeInput}
use Rattle.messages.specs.declared.event.NodeInput.TheVariants as input
use Rattle.messages.specs.declared.message.Message.{Message}
use Rattle.messages.specs.declared.message.Body.{Body}
use Rattle.messages.specs.declared.message.Body.TheVariants as body
use Rattle.log_records.specs.declared.record.Record.TheVariants as log
use Rattle.protocol.specs.Sending.{client_number, server_number, server_id, file_id, handle_of, version_of}
use Rattle.gfs_types.specs.Counters.{counter_limit}
use Rattle.protocol.specs.MasterSnapshots.{live_snapshots}
use Rattle.protocol.specs.Master.{MasterState, MasterDoing, master_begins, logs}
use Rattle.protocol.specs.MasterClones.{CloneOrder, orders_clone, best_clone}
use Rattle.protocol.specs.MasterStep.{master_ticks, is_in_time, gives_up_attempts, gives_up_lost_copies, is_lost_copy, lost_copies, expires_all, expires_old, expired_files, master_takes, master_does, master_at, master_goes}
use Rattle.protocol.specs.Logged.{LogDisk}
use Rattle.laws_base.proofs.Entries.{kept_where_cases}
use Rattle.laws_base.proofs.VersionAttempts.{kept_told}
use Rattle.laws_base.proofs.LeasesEnded.{kept_ready, later_ready}
use Rattle.laws_base.proofs.Namespace.{IsNamespace, filtered_namespace, expired_names}
use Rattle.laws_base.proofs.CopiesUnderWay.{keys_copied}
use Rattle.laws_base.proofs.MasterMoves.{Core, core_of, Nothing, Keeps}
use Rattle.laws_base.proofs.NamesReached.{IsUpToLog, IsLogged}
use Rattle.laws_base.proofs.RowsLogged.{IsFoundRows, IsRowedLog}
use Rattle.laws_base.proofs.RowsKept.{rows_kept}
use Rattle.laws_base.proofs.MasterActs.{Waits, Acts, Here, orders_here, less_here, logs_all, IsRowing}
use Rattle.laws_base.proofs.Awaited.{Attempts, AreWaiting}
use Rattle.laws_base.proofs.AwaitedRecords.{waiting_fewer, waiting_filtered, among_filtered}
use Rattle.laws_base.proofs.ActsOfNames.{name_acts, look_acts, ready_acts}
use Rattle.laws_base.proofs.ActsOfChunks.{ask_acts, takes_recorded_acts, takes_revoked_acts, report_acts}

-- a Revoked says that a lease is over
abbrev pub IsWordSaid : (ℕ → ℕ → Type 0) → Body → Type 0
IsWordSaid Ended (body.Revoked handle version) = Ended handle.0 version.0
IsWordSaid Ended other = Unit {0}

abbrev pub IsInputSaid : (ℕ → ℕ → Type 0) → NodeInput → Type 0
IsInputSaid Ended (input.Deliver m) = IsWordSaid Ended m.body
IsInputSaid Ended input.Tick = Unit {0}

module _ (start : LogDisk) (Ended : ℕ → ℕ → Type 0) (P : Core → Type 0) (keeps : Keeps (Unit {0}) Nothing Ended P) (rowing : (c : Core) → P c → IsRowing start c) (Q : Core → Attempts → Waits → Type 0) (acts : Acts start Ended P Q) where
  -- what holds of a step so far
  abbrev Now : MasterDoing → Type 0
  Now d = Here start Ended P keeps rowing Q acts d

  expires_acts : (d : MasterDoing) (files : List ℕ) → Now d → Now (expires_all d files)
  expires_acts d [] h = h
  expires_acts d (file ∷ rest) h =
      expires_acts (logs d (log.Expired (file_id file)) (λ e. e)) rest (logs_all start Ended P keeps rowing Q acts d (log.Expired (file_id file)) (λ e. e) tt tt (λ asks. record { due = tt; after = expired_names d.master.logged.names file d.master.snapshots (h.0.2 asks) }) tt (λ e. λ g. g) h)

  clone_acts : (d : MasterDoing) (o : Option CloneOrder) → Now d → Now (orders_clone d o)
  clone_acts d None h = h
  clone_acts d (Some c) h = orders_here start Ended P keeps rowing Q acts d c.target (λ order. body.Clone order (handle_of c.handle) (version_of c.version) (server_id c.source)) (λ o. refl) (λ o. tt) (λ o. refl) h

  tick_acts : (d : MasterDoing) → Now d → Now (master_ticks d)
  tick_acts d h =
      let a : MasterDoing = gives_up_attempts d in
      let b : MasterDoing = gives_up_lost_copies a in
      let c : MasterDoing = expires_old b in
      clone_acts c (best_clone c.master (table.entries c.master.logged.table.chunks)) (expires_acts b (expired_files b.master) (less_here start Ended P keeps rowing Q acts a (lost_copies a.master) (keys_copied a.master.logged (is_lost_copy a.master)) ((h.0.0, kept_told Nothing (is_in_time d.master) d.master.attempts h.0.1, h.0.2, λ asks. kept_ready d.master.now (is_in_time d.master) d.master.attempts d.master.logged (h.0.3 asks)), waiting_fewer d.master.logged d.master.attempts a.master.attempts d.master.snapshots (λ q x is. kept_where_cases (is_in_time d.master) d.master.attempts q x is) h.1, acts.fewer (core_of d) d.master.attempts a.master.attempts d.master.snapshots (λ q x is. kept_where_cases (is_in_time d.master) d.master.attempts q x is) h.2)))

  takes_acts : (d : MasterDoing) (m : Message) (b : Body) → IsWordSaid Ended b → (Unit {0} → d.master.logged.next_file ≤ counter_limit) → Now d → Now (master_takes d m b)
  takes_acts d m (body.Name number deadline c) said bound h = name_acts start Ended P keeps rowing Q acts d (client_number m.sender) number deadline.0 c bound h
  takes_acts d m (body.Look number c) said bound h = look_acts start Ended P keeps rowing Q acts d m.sender number c h
  takes_acts d m (body.Ask number file wanted deadline lost) said bound h = ask_acts start Ended P keeps rowing Q acts d m.sender number file.0 wanted deadline.0 lost h
  takes_acts d m (body.Recorded handle version) said bound h = takes_recorded_acts start Ended P keeps rowing Q acts d (server_number m.sender) handle.0 version.0 h
  takes_acts d m (body.Revoked handle version) said bound h = takes_revoked_acts start Ended P keeps rowing Q acts d (server_number m.sender) handle.0 version.0 said h
  takes_acts d m (body.Report replicas leases) said bound h = report_acts start Ended P keeps rowing Q acts d (server_number m.sender) replicas leases h
  takes_acts d m other said bound h = h

  does_acts : (d : MasterDoing) (i : NodeInput) → IsInputSaid Ended i → (Unit {0} → d.master.logged.next_file ≤ counter_limit) → Now d → Now (master_does d i)
  does_acts d (input.Deliver m) said bound h = takes_acts d m m.body said bound h
  does_acts d input.Tick said bound h = tick_acts d h

  -- the step of a master that is up, where nothing hinders it
  pub goes_here : (m : MasterState) (moment : ℕ) (i : NodeInput) (refused : List Bool) → IsInputSaid Ended i → (Unit {0} → m.logged.next_file ≤ counter_limit) → Now (master_begins (master_at m moment) refused)
      → Now (master_goes m moment i refused)
  goes_here m moment i refused said bound h =
      let d : MasterDoing = master_does (master_begins (master_at m moment) refused) i in
      ready_acts start Ended P keeps rowing Q acts d (does_acts (master_begins (master_at m moment) refused) i said bound h)

-- the step of a master that is up and has what its log has
pub goes_acts : (Ended : ℕ → ℕ → Type 0) (P : Core → Type 0) (Q : Core → Attempts → Waits → Type 0) (m : MasterState) (moment : ℕ) (i : NodeInput) (refused : List Bool) (keeps : Keeps (Unit {0}) Nothing Ended P)
    (rowing : (c : Core) → P c → IsRowing m.disk c) (acts : Acts m.disk Ended P Q) → IsInputSaid Ended i → IsLogged IsFoundRows IsRowedLog rows_kept m → m.up ≡ true → AreWaiting m.logged m.attempts m.snapshots
    → P (core_of (master_begins (master_at m moment) refused)) → Q (core_of (master_begins (master_at m moment) refused)) m.attempts (master_at m moment).snapshots
    → (let d : MasterDoing = master_goes m moment i refused in
    P (core_of d) × AreWaiting d.master.logged d.master.attempts d.master.snapshots × Q (core_of d) d.master.attempts d.master.snapshots)
goes_acts Ended P Q m moment i refused keeps rowing acts said logged up wait first h =
    let u : IsUpToLog IsFoundRows IsRowedLog rows_kept m = logged.up up in
    let later : ℕ = max m.now moment in
    let live : IsNamespace m.logged.names (live_snapshots later m.snapshots) = filtered_namespace m.logged.names (λ s. nat_lt later s.deadline) m.snapshots u.names in
    let end = goes_here m.disk Ended P keeps rowing Q acts m moment i refused said (λ asks. u.bound) (
      (
        first,
        λ handle a is. record { servers = λ n there. inr (λ q v. tt); recorded = λ n there. tt },
        λ asks. live,
        λ asks. later_ready m.now later m.attempts m.logged (le-max_left m.now moment) u.ready,
      ),
      waiting_filtered m.logged m.attempts m.snapshots (live_snapshots later m.snapshots) (λ s among. among_filtered (λ t. nat_lt later t.deadline) m.snapshots s among) wait,
      h,
    ) in
    (end.0.0, end.1, end.2)
