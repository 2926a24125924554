-- A step of the master leaves its settings and the number of servers as they were.
use Rattle.std.proofs.Common.{◌≡◌, ℕ, suc, Bool, true, false, cond, List, [], ◌∷◌, Option, Some, None, refl, ◌∙◌}
use Rattle.gfs_types.specs.declared.config.Config.{Config}
use Rattle.gfs_types.specs.declared.call.Call.{Call}
use Rattle.gfs_types.specs.declared.call.Call.TheVariants as call
use Rattle.gfs_types.specs.declared.refusal.Refusal.{Refusal}
use Rattle.messages.specs.declared.message.Body.{Body}
use Rattle.messages.specs.declared.message.Body.TheVariants as body
use Rattle.messages.specs.declared.message.Message.{Message}
use Rattle.messages.specs.declared.event.NodeInput.{NodeInput}
use Rattle.messages.specs.declared.event.NodeInput.TheVariants as input
use Rattle.log_records.specs.declared.record.Record.{Record}
use Rattle.log_records.specs.declared.record.Record.TheVariants as log
use Rattle.gfs_types.specs.declared.refusal.Refusal.TheVariants.{NamesFull}
use Rattle.relaxed_file.specs.NameStep.{needs_room}
use Rattle.std.specs.Prelude.{◌&&◌, ◌==◌, not, nat_lt, nat_le}
use Rattle.std.specs.FinMap as table
use Rattle.chunk_table.specs.ChunkTable.{ChunkRow, chunk_of}
use Rattle.protocol.specs.Sending.{client_number, server_number, client_id, file_id, moment_of}
use Rattle.protocol.specs.LogSizes.{checkpoint_fits}
use Rattle.protocol.specs.Logged.{KeptCall, checkpoint_of}
use Rattle.protocol.specs.Master.{MasterState, MasterDoing, PendingSnapshot, master_begins, appends, fits, is_of_copy, writes_checkpoint, logs, without_attempts, gives_up_copies, has_lease}
use Rattle.protocol.specs.MasterSnapshots.{answers_name, revokes_row, revokes, revokes_all, takes_locks, snapshot_handles, snapshot_files, copies_for_files, begins_snapshot, settles_name, first_is_true, all_but_first, changes_names, is_ready, lets_go, takes_snapshot, takes_ready}
use Rattle.protocol.specs.MasterNames.{master_refusal, performs, names_by, is_waiting_call, names_anew, names_kept, told_shape}
use Rattle.protocol.specs.MasterStep.{master_takes, master_does, master_at, master_goes, opening}
use Rattle.master_cell.proofs.Steady.{settings_of, asks_keep, recorded_keep, revoked_keep, report_keep, ticks_keep}

-- a part of a step leaves the settings as they were
record Stays (s : Config × ℕ) (x : MasterDoing) : Type 0 where
  same : settings_of x ≡ s

one_of : {s : Config × ℕ} (b : Bool) {x y : MasterDoing} → Stays s x → Stays s y → Stays s (cond b x y)
one_of true p q = p
one_of false p q = q

first_then : {s : Config × ℕ} (x : MasterDoing) {y : MasterDoing} → Stays s x → Stays (settings_of x) y → Stays s y
first_then x p q = record { same = q.same ∙ p.same }

logs_stay : (d : MasterDoing) (e : Record) (then_ : MasterDoing → MasterDoing) → ((x : MasterDoing) → Stays (settings_of x) (then_ x)) → Stays (settings_of d) (logs d e then_)
logs_stay d e then_ stays =
    one_of (fits d e) (stays (appends d e))
    (one_of (checkpoint_fits d.master.config.log_bytes (checkpoint_of d.master.logged))
    (one_of _ (stays (appends (writes_checkpoint d) e)) (record { same = refl }))
    (record { same = refl }))

settles_stay : (d : MasterDoing) (client number : ℕ) (entry : Record) (refusal : Option Refusal) → Stays (settings_of d) (settles_name d client number entry refusal)
settles_stay d client number entry refusal = logs_stay d entry (λ e. answers_name e client number refusal) (λ _. (record { same = refl }))

changes_stay : (d : MasterDoing) (client number : ℕ) (c : Call) (entry : Record) → Stays (settings_of d) (changes_names d client number c entry)
changes_stay d client number c entry =
    one_of (needs_room c)
    (one_of (first_is_true d.refused)
    (settles_stay (record d { refused = all_but_first d.refused }) client number (log.Refused (client_id client) number NamesFull) (Some NamesFull))
    (settles_stay (record d { refused = all_but_first d.refused }) client number entry None))
    (settles_stay d client number entry None)

revokes_row_stay : (d : MasterDoing) (handle : ℕ) (row : Option ChunkRow) → Stays (settings_of d) (revokes_row d handle row)
revokes_row_stay d handle None = (record { same = refl })
revokes_row_stay d handle (Some row) = one_of (has_lease d.master row) (record { same = refl }) (record { same = refl })

revokes_all_stay : (d : MasterDoing) (handles : List ℕ) → Stays (settings_of d) (revokes_all d handles)
revokes_all_stay d [] = (record { same = refl })
revokes_all_stay d (handle ∷ rest) = first_then (revokes d handle) (revokes_row_stay d handle (chunk_of d.master.logged.table handle)) (revokes_all_stay (revokes d handle) rest)

begins_stay : (d : MasterDoing) (s : PendingSnapshot) → Stays (settings_of d) (begins_snapshot d s)
begins_stay d s =
    let given_up : MasterDoing = gives_up_copies (without_attempts (takes_locks d s) (snapshot_handles d.master s)) (copies_for_files d.master.logged (snapshot_files d.master s)) in
    revokes_all_stay given_up (snapshot_handles d.master s)

performs_stay : (d : MasterDoing) (client number deadline : ℕ) (c : Call) → Stays (settings_of d) (performs d client number deadline c)
performs_stay d client number deadline (call.Mkdir p) = changes_stay d client number (call.Mkdir p) (log.Mkdir (client_id client) number p)
performs_stay d client number deadline (call.Rmdir p) = changes_stay d client number (call.Rmdir p) (log.Rmdir (client_id client) number p)
performs_stay d client number deadline (call.Create p shape) = changes_stay d client number (call.Create p shape) (log.Create (client_id client) number (file_id d.master.logged.next_file) (told_shape d.master.config shape) p)
performs_stay d client number deadline (call.Delete p) = changes_stay d client number (call.Delete p) (log.Delete (client_id client) number (moment_of d.master.now) p)
performs_stay d client number deadline (call.Rename p q) = changes_stay d client number (call.Rename p q) (log.Rename (client_id client) number p q)
performs_stay d client number deadline (call.Snapshot p q) = begins_stay d (record { client = client; number = number; deadline = deadline; from = p; to = q })
performs_stay d client number deadline other = (record { same = refl })

names_by_stay : (d : MasterDoing) (client number deadline : ℕ) (c : Call) (refusal : Option Refusal) → Stays (settings_of d) (names_by d client number deadline c refusal)
names_by_stay d client number deadline c None = performs_stay d client number deadline c
names_by_stay d client number deadline c (Some refusal) = settles_stay d client number (log.Refused (client_id client) number refusal) (Some refusal)

names_anew_stay : (d : MasterDoing) (client number deadline : ℕ) (c : Call) → Stays (settings_of d) (names_anew d client number deadline c)
names_anew_stay d client number deadline c = one_of (nat_le deadline d.master.now) {x = d} (record { same = refl }) (one_of (is_waiting_call d.master client number) {x = d} (record { same = refl }) (names_by_stay d client number deadline c (master_refusal d.master c)))

names_kept_stay : (d : MasterDoing) (client number deadline : ℕ) (c : Call) (k : Option KeptCall) → Stays (settings_of d) (names_kept d client number deadline c k)
names_kept_stay d client number deadline c None = names_anew_stay d client number deadline c
names_kept_stay d client number deadline c (Some k) =
    one_of (k.number == number) {x = answers_name d client number k.refusal} (record { same = refl }) (one_of (nat_lt number k.number) {x = d} (record { same = refl }) (names_anew_stay d client number deadline c))

takes_ready_stay : (d : MasterDoing) (snapshots : List PendingSnapshot) → Stays (settings_of d) (takes_ready d snapshots)
takes_ready_stay d [] = (record { same = refl })
takes_ready_stay d (s ∷ rest) =
    first_then (cond (is_ready d.master s) (takes_snapshot d s) d)
    (one_of (is_ready d.master s) (changes_stay (lets_go d s) s.client s.number (call.Snapshot s.from s.to) (log.Snapshot (client_id s.client) s.number s.from s.to)) (record { same = refl }))
    (takes_ready_stay (cond (is_ready d.master s) (takes_snapshot d s) d) rest)

takes_stay : (d : MasterDoing) (m : Message) (b : Body) → Stays (settings_of d) (master_takes d m b)
takes_stay d m (body.Name number deadline c) = names_kept_stay d (client_number m.sender) number deadline.0 c (table.get d.master.logged.kept (client_number m.sender))
takes_stay d m (body.Look number c) = (record { same = refl })
takes_stay d m (body.Ask number file wanted deadline lost) = record { same = (asks_keep [] d m.sender number file.0 wanted deadline.0 lost).settings }
takes_stay d m (body.Recorded handle version) = record { same = (recorded_keep [] d (server_number m.sender) handle.0 version.0).settings }
takes_stay d m (body.Revoked handle version) = record { same = (revoked_keep [] d (server_number m.sender) handle.0 version.0).settings }
takes_stay d m (body.Cloned handle version) = (record { same = refl })
takes_stay d m (body.Report replicas leases) = record { same = (report_keep [] d (server_number m.sender) replicas leases).settings }
takes_stay d m other = (record { same = refl })

does_stay : (d : MasterDoing) (i : NodeInput) → Stays (settings_of d) (master_does d i)
does_stay d (input.Deliver m) = takes_stay d m m.body
does_stay d input.Tick = record { same = (ticks_keep [] d).settings }

pub settings_stay : (m : MasterState) (moment : ℕ) (i : NodeInput) (refused : List Bool) → settings_of (master_goes m moment i refused) ≡ (m.config, m.server_count)
settings_stay m moment i refused =
    let begun : MasterDoing = master_begins (master_at m moment) refused in
    (first_then (master_does begun i) (does_stay begun i) (takes_ready_stay (master_does begun i) (master_does begun i).master.snapshots)).same

-- so does its opening
pub opening_stays : (m : MasterState) → settings_of (opening m) ≡ (m.config, m.server_count)
opening_stays m = (logs_stay (master_begins m []) (log.Epoch (suc m.logged.epoch)) (λ e. e) (λ _. record { same = refl })).same

up_of : (b : Bool) (x y : MasterDoing) (up : Bool) → x.master.up ≡ up → y.master.up ≡ up → (cond b x y).master.up ≡ up
up_of true x y up p q = p
up_of false x y up p q = q

-- which doesn't put it down
pub opening_up : (m : MasterState) → (opening m).master.up ≡ m.up
opening_up m =
    let d : MasterDoing = master_begins m [] in
    let e : Record = log.Epoch (suc m.logged.epoch) in
    let after : MasterDoing = writes_checkpoint d in
    let has_place : Bool = checkpoint_fits d.master.config.log_bytes (checkpoint_of d.master.logged) in
    let fits_then : Bool = fits after e && not (is_of_copy d.master.logged e) in
    up_of (fits d e) (appends d e) (cond has_place (cond fits_then (appends after e) after) d) m.up refl
    (up_of has_place (cond fits_then (appends after e) after) d m.up (up_of fits_then (appends after e) after m.up refl refl) refl)
