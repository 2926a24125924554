-- A snapshot begins to wait for the Name that asks for it, with its number and deadline.
use Rattle.std.proofs.Common.{◌≡◌, ℕ, suc, Bool, cond, max, List, [], ◌∷◌, ◌++◌, Option, Some, None, refl, sym, subst}
use Rattle.std.specs.Prelude.{◌==◌, ◌&&◌, nat_lt, nat_le, not, filter, IsTrue}
use Rattle.std.specs.List.{AllByRecursion}
use Rattle.std.proofs.lemmas.Bool.{true≢false}
use Rattle.std.specs.FinMap as table
use Rattle.gfs_types.specs.declared.call.Call.{Call}
use Rattle.gfs_types.specs.declared.call.Call.TheVariants as call
use Rattle.gfs_types.specs.declared.refusal.Refusal.{Refusal}
use Rattle.gfs_types.specs.Paths.{Path}
use Rattle.messages.specs.declared.event.NodeInput.{NodeInput}
use Rattle.messages.specs.declared.event.NodeInput.TheVariants as input
use Rattle.messages.specs.declared.message.Body.{Body}
use Rattle.messages.specs.declared.message.Body.TheVariants as body
use Rattle.messages.specs.declared.message.Message.{Message}
use Rattle.log_records.specs.declared.record.Record.{Record}
use Rattle.log_records.specs.declared.record.Record.TheVariants as log
use Rattle.relaxed_file.specs.Names.{Names}
use Rattle.chunk_table.specs.ChunkTable.{chunk_of}
use Rattle.protocol.specs.Tables.{element_at}
use Rattle.protocol.specs.Choice.{Choice, Ending, Goes, Lost, Stops}
use Rattle.protocol.specs.Seen.{Taken, no_step}
use Rattle.protocol.specs.Sending.{client_id, client_number, server_number, file_id, moment_of}
use Rattle.protocol.specs.Logged.{KeptCall}
use Rattle.protocol.specs.Master.{MasterState, MasterDoing, PendingSnapshot, master_begins, without_attempts, gives_up_copies, logs}
use Rattle.protocol.specs.MasterNames.{master_refusal, performs, names_by, is_waiting_call, names_anew, names_kept, told_shape}
use Rattle.protocol.specs.MasterSnapshots.{answers_name, refuses_name, changes_names, takes_locks, begins_snapshot, snapshot_handles, snapshot_files, copies_for_files, is_same_snapshot, lets_go, takes_snapshot, takes_ready, is_ready}
use Rattle.protocol.specs.MasterClones.{best_clone}
use Rattle.protocol.specs.MasterReports.{holds_now}
use Rattle.protocol.specs.MasterStep.{master_takes, master_does, master_at, master_goes, master_ends, master_bounded, master_step, master_restart, may_end, is_within_limits, gives_up_attempts, gives_up_lost_copies, expired_files, expires_all, expires_old, found_log, started_master, opening, has_opened, opens_as}
use Rattle.protocol.specs.World.{stamped}
use Rattle.laws_base.proofs.Steps.{on_cond}
use Rattle.laws_base.proofs.MembersRecorded.{kept_place}
use Rattle.laws_base.proofs.SentReached.{IsInputSent, sent_reached}
use Rattle.laws_names.proofs.Chunks.{logs_holds, revokes_all_holds, clone_holds, ask_holds, learns_holds, revoked_holds, report_holds}
use Rattle.laws_names.proofs.WaitingSnapshotsWalk.{changes_holds}
use Rattle.laws_names.specs.NameWords.{IsNameBy, HasItsRequest, SnapshotsWaitForTheirRequest}

all_some : {X : Type 0} (P : X → Type 0) (test : X → Bool) (xs : List X) → AllByRecursion P xs → AllByRecursion P (filter test xs)
all_some P test [] all = tt
all_some P test (x ∷ xs) all = on_cond (AllByRecursion P) (test x) (x ∷ filter test xs) (filter test xs) (λ _. (all.0, all_some P test xs all.1)) (λ _. all_some P test xs all.1)

all_one_more : {X : Type 0} (P : X → Type 0) (xs : List X) (y : X) → AllByRecursion P xs → P y → AllByRecursion P (xs ++ y ∷ [])
all_one_more P [] y all one = (one, tt)
all_one_more P (x ∷ xs) y all one = (all.0, all_one_more P xs y all.1 one)

module _ (P : PendingSnapshot → Type 0) where
  abbrev G : Names → List PendingSnapshot → Type 0
  G names ss = AllByRecursion P ss

  abbrev At : MasterDoing → Type 0
  At d = AllByRecursion P d.master.snapshots

  either : (b : Bool) (x y : MasterDoing) → At x → At y → At (cond b x y)
  either b x y f g = on_cond At b x y (λ _. f) (λ _. g)

  refuses_at : (d : MasterDoing) (client number : ℕ) (refusal : Refusal) → At d → At (refuses_name d client number refusal)
  refuses_at d client number refusal h = logs_holds G d (log.Refused (client_id client) number refusal) (λ e. answers_name e client number (Some refusal)) (λ e g. g) h h h

  changes_at : (d : MasterDoing) (client number : ℕ) (c : Call) (r : Record) → At d → At (changes_names d client number c r)
  changes_at d client number c r h = changes_holds G d client number c r h h h

  begins_at : (d : MasterDoing) (s : PendingSnapshot) → P s → At d → At (begins_snapshot d s)
  begins_at d s asked h =
      let handles : List ℕ = snapshot_handles d.master s in
      let left : MasterDoing = gives_up_copies (without_attempts (takes_locks d s) handles) (copies_for_files d.master.logged (snapshot_files d.master s)) in
      revokes_all_holds G left handles (all_one_more P d.master.snapshots s h asked)

  -- a snapshot that this request would begin
  abbrev MayBegin : ℕ → ℕ → ℕ → Type 0
  MayBegin client number deadline = (p q : Path) → P (record { client = client; number = number; deadline = deadline; from = p; to = q })

  performs_at : (d : MasterDoing) (client number deadline : ℕ) (c : Call) → MayBegin client number deadline → At d → At (performs d client number deadline c)
  performs_at d client number deadline (call.Mkdir p) may h = changes_at d client number (call.Mkdir p) (log.Mkdir (client_id client) number p) h
  performs_at d client number deadline (call.Rmdir p) may h = changes_at d client number (call.Rmdir p) (log.Rmdir (client_id client) number p) h
  performs_at d client number deadline (call.Create p shape) may h = changes_at d client number (call.Create p shape) (log.Create (client_id client) number (file_id d.master.logged.next_file) (told_shape d.master.config shape) p) h
  performs_at d client number deadline (call.Delete p) may h = changes_at d client number (call.Delete p) (log.Delete (client_id client) number (moment_of d.master.now) p) h
  performs_at d client number deadline (call.Rename p q) may h = changes_at d client number (call.Rename p q) (log.Rename (client_id client) number p q) h
  performs_at d client number deadline (call.Snapshot p q) may h = begins_at d (record { client = client; number = number; deadline = deadline; from = p; to = q }) (may p q) h
  performs_at d client number deadline other may h = h

  by_at : (d : MasterDoing) (client number deadline : ℕ) (c : Call) (o : Option Refusal) → MayBegin client number deadline → At d → At (names_by d client number deadline c o)
  by_at d client number deadline c (Some refusal) may h = refuses_at d client number refusal h
  by_at d client number deadline c None may h = performs_at d client number deadline c may h

  anew_at : (d : MasterDoing) (client number deadline : ℕ) (c : Call) → MayBegin client number deadline → At d → At (names_anew d client number deadline c)
  anew_at d client number deadline c may h =
      either (nat_le deadline d.master.now) d _ h
      (either (is_waiting_call d.master client number) d (names_by d client number deadline c (master_refusal d.master c)) h (by_at d client number deadline c (master_refusal d.master c) may h))

  kept_at : (d : MasterDoing) (client number deadline : ℕ) (c : Call) (o : Option KeptCall) → MayBegin client number deadline → At d → At (names_kept d client number deadline c o)
  kept_at d client number deadline c None may h = anew_at d client number deadline c may h
  kept_at d client number deadline c (Some k) may h =
      either (k.number == number) (answers_name d client number k.refusal) _ h (either (nat_lt number k.number) d (names_anew d client number deadline c) h (anew_at d client number deadline c may h))

  abbrev IsAsking : ℕ → Body → Type 0
  IsAsking client (body.Name number deadline c) = MayBegin client number deadline.0
  IsAsking client other = Unit {0}

  abbrev IsInputAsking : NodeInput → Type 0
  IsInputAsking (input.Deliver x) = IsAsking (client_number x.sender) x.body
  IsInputAsking input.Tick = Unit {0}

  takes_at : (d : MasterDoing) (x : Message) (b : Body) → IsAsking (client_number x.sender) b → At d → At (master_takes d x b)
  takes_at d x (body.Name number deadline c) may h = kept_at d (client_number x.sender) number deadline.0 c (table.get d.master.logged.kept (client_number x.sender)) may h
  takes_at d x (body.Ask number file w deadline lost) may h = ask_holds G d x.sender number file.0 w deadline.0 lost h
  takes_at d x (body.Recorded handle version) may h = learns_holds G (holds_now d (server_number x.sender) handle.0 version.0) (server_number x.sender) handle.0 version.0 h
  takes_at d x (body.Revoked handle version) may h = revoked_holds G d (server_number x.sender) handle.0 version.0 (chunk_of d.master.logged.table handle.0) h
  takes_at d x (body.Report replicas leases) may h = report_holds G d (server_number x.sender) replicas leases h
  takes_at d x other may h = h

  expires_at : (d : MasterDoing) (files : List ℕ) → At d → At (expires_all d files)
  expires_at d [] h = h
  expires_at d (file ∷ rest) h = expires_at (logs d (log.Expired (file_id file)) (λ e. e)) rest (logs_holds G d (log.Expired (file_id file)) (λ e. e) (λ e g. g) h h h)

  does_at : (d : MasterDoing) (i : NodeInput) → IsInputAsking i → At d → At (master_does d i)
  does_at d (input.Deliver x) may h = takes_at d x x.body may h
  does_at d input.Tick may h =
      let a : MasterDoing = gives_up_lost_copies (gives_up_attempts d) in
      let b : MasterDoing = expires_old a in
      clone_holds G b (best_clone b.master (table.entries b.master.logged.table.chunks)) (expires_at a (expired_files a.master) h)

  ready_at : (d : MasterDoing) (rest : List PendingSnapshot) → At d → At (takes_ready d rest)
  ready_at d [] h = h
  ready_at d (s ∷ rest) h =
      on_cond (λ (e : MasterDoing). At (takes_ready e rest)) (is_ready d.master s) (takes_snapshot d s) d
      (λ _. ready_at (takes_snapshot d s) rest
      (changes_at (lets_go d s) s.client s.number (call.Snapshot s.from s.to) (log.Snapshot (client_id s.client) s.number s.from s.to) (all_some P (λ t. not (is_same_snapshot s t)) d.master.snapshots h)))
      (λ _. ready_at d rest h)

  abbrev IsUp : Taken MasterState → Type 0
  IsUp t = IsTrue t.state.up → AllByRecursion P t.state.snapshots

  ends_at : (m : MasterState) (d : MasterDoing) (choice : Choice) (e : Ending) → At d → IsUp (master_ends m d choice e)
  ends_at m d choice Goes h = λ _. h
  ends_at m d choice Lost h = λ up. absurd (true≢false (sym up))
  ends_at m d choice (Stops made) h = λ up. absurd (true≢false (sym up))

  step_at : (m : MasterState) (moment : ℕ) (i : NodeInput) (choice : Choice) → IsInputAsking i → (IsTrue m.up → AllByRecursion P m.snapshots) → IsUp (master_step m moment i choice)
  step_at m moment i choice may h =
      let d : MasterDoing = master_does (master_begins (master_at m moment) choice.refused) i in
      on_cond IsUp m.up (master_bounded m i (master_goes m moment i choice.refused) choice) (no_step m)
      (λ up. on_cond IsUp (may_end m i (master_goes m moment i choice.refused) choice.ending) (master_ends m (master_goes m moment i choice.refused) choice choice.ending) (no_step m)
      (λ _. ends_at m (master_goes m moment i choice.refused) choice choice.ending
      (ready_at d d.master.snapshots (does_at (master_begins (master_at m moment) choice.refused) i may (all_some P (λ s. nat_lt (max m.now moment) s.deadline) m.snapshots (h up)))))
      (λ _. h))
      (λ _. h)

  opens_at : (m started : MasterState) (choice : Choice) (e : Ending) → started.snapshots ≡ [] → IsUp (opens_as m started (opening started) choice e)
  opens_at m started choice Lost none = λ up. absurd (true≢false (sym up))
  opens_at m started choice (Stops made) none = λ up. absurd (true≢false (sym up))
  opens_at m started choice Goes none =
      let first : At (master_begins started []) = subst (λ (ss : List PendingSnapshot). AllByRecursion P ss) (sym none) tt in
      on_cond IsUp (has_opened started (opening started) && is_within_limits (opening started).master) _ _
      (λ _ up. logs_holds G (master_begins started []) (log.Epoch (suc started.logged.epoch)) (λ e. e) (λ e g. g) first first first) (λ _ up. absurd (true≢false (sym up)))

more_asked : (sent ms : List Message) (ss : List PendingSnapshot) → AllByRecursion (HasItsRequest sent) ss → AllByRecursion (HasItsRequest (sent ++ ms)) ss
more_asked sent ms [] h = tt
more_asked sent ms (s ∷ ss) h = (((h.0).0, (h.0).1, kept_place sent ms (h.0).0 (h.0).1 (h.0).2, (h.0).3, (h.0).4), more_asked sent ms ss h.1)

body_asks : (sent : List Message) (x : Message) (place : ℕ) → element_at sent place ≡ Some x → (b : Body) → x.body ≡ b → IsAsking (HasItsRequest sent) (client_number x.sender) b
body_asks sent x place at (body.Name number deadline c) is = λ p q. (place, x, at, refl, subst (λ (b : Body). IsNameBy number deadline.0 b) (sym is) (refl, refl))
body_asks sent x place at other is = tt

input_asks : (sent : List Message) (i : NodeInput) → IsInputSent sent i → IsInputAsking (HasItsRequest sent) i
input_asks sent (input.Deliver x) there = body_asks sent x there.0 there.1 x.body refl
input_asks sent input.Tick there = tt

pub snapshots_wait_for_their_request : SnapshotsWaitForTheirRequest
snapshots_wait_for_their_request config servers clients w r =
    sent_reached (λ sent m. IsTrue m.up → AllByRecursion (HasItsRequest sent) m.snapshots)
    (record {
      new = λ c n up. tt;
      quiet = λ sent ms k m none h up. more_asked sent (stamped k ms) m.snapshots (h up);
      steps = λ sent k m moment i choice there h up.
          more_asked sent (stamped k (master_step m moment i choice).out.sent) (master_step m moment i choice).state.snapshots (step_at (HasItsRequest sent) m moment i choice (input_asks sent i there) h up);
      restarts = λ sent k m moment choice h up.
          more_asked sent (stamped k (master_restart m moment choice).out.sent) (master_restart m moment choice).state.snapshots
          (opens_at (HasItsRequest sent) m (started_master m.config m.server_count (found_log m choice) moment) choice choice.ending refl up);
    }) config servers clients w r
