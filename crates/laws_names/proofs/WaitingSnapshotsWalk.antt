-- A step of the master leaves the snapshots that wait unrefused, in each of its parts.
use Rattle.std.proofs.Common.{◌≡◌, ⊎_elim, ℕ, Bool, true, false, cond, max, List, [], ◌∷◌, ◌++◌, Option, Some, None, refl, sym, ap, subst, ◌∙◌, inl, inr}
use Rattle.std.specs.Prelude.{◌==◌, ◌&&◌, nat_lt, nat_le, not, filter, map}
use Rattle.std.specs.List.{AllByRecursion, list_any}
use Rattle.std.proofs.lemmas.Bool.{true≢false, or_right, and_parts}
use Rattle.std.specs.FinMap as table
use Rattle.gfs_types.specs.declared.call.Call.{Call}
use Rattle.gfs_types.specs.declared.call.Call.TheVariants as call
use Rattle.gfs_types.specs.declared.refusal.Refusal.{Refusal}
use Rattle.gfs_types.specs.declared.refusal.Refusal.TheVariants.{Busy, NamesFull}
use Rattle.gfs_types.specs.Paths.{Path, trash, is_below, is_child}
use Rattle.messages.specs.declared.event.NodeInput.{NodeInput}
use Rattle.messages.specs.declared.event.NodeInput.TheVariants as input
use Rattle.messages.specs.declared.message.Body.{Body}
use Rattle.messages.specs.declared.message.Body.TheVariants as body
use Rattle.messages.specs.declared.message.Message.{Message}
use Rattle.log_records.specs.declared.record.Record.{Record}
use Rattle.log_records.specs.declared.record.Record.TheVariants as log
use Rattle.relaxed_file.specs.Names.{Names, Node, Dir, File, node_at, copied_entries, with_copies}
use Rattle.relaxed_file.specs.NameStep.{first_refusal, path_tests, name_tests, needs_room, refusal_of, is_in_trash}
use Rattle.relaxed_file.proofs.NamesTree.{HasAt, entry_is, passed}
use Rattle.std.specs.Str.{bytes_eq}
use Rattle.chunk_table.specs.ChunkTable.{ChunkRow, chunk_of}
use Rattle.protocol.specs.Sending.{client_id, client_number, file_id, handle_of, version_of, moment_of, server_number}
use Rattle.protocol.specs.LogSizes.{checkpoint_fits}
use Rattle.protocol.specs.Logged.{Logged, LogDisk, LogChange, KeptCall, Copy, after_record, checkpoint_of, without_file, swapped_in}
use Rattle.protocol.specs.Master.{MasterState, MasterDoing, PendingSnapshot, master_begins, tells, orders, without_attempts, gives_up_copies, fits, appends, writes_checkpoint, logs, logs_after_checkpoint, is_of_copy, has_lease}
use Rattle.protocol.specs.MasterNames.{snapshot_call, is_busy, master_refusal, takes_look, performs, names_by, is_waiting_call, names_anew, names_kept, takes_name, told_shape}
use Rattle.protocol.specs.MasterSnapshots.{answers_name, settles_name, refuses_name, first_is_true, all_but_first, changes_names, takes_locks, begins_snapshot, snapshot_handles, snapshot_files, copies_for_files, revokes_row, revokes, revokes_all, is_same_snapshot, lets_go, takes_snapshot, takes_ready, is_ready, live_snapshots}
use Rattle.protocol.specs.MasterClones.{CloneOrder, best_clone, orders_clone, clones_next}
use Rattle.protocol.specs.MasterReports.{holds_now}
use Rattle.protocol.specs.MasterStep.{master_takes, master_does, master_at, master_goes, master_ticks, gives_up_attempts, gives_up_lost_copies, hidden_names, is_old, old_file, before_none, expired_files, expires_all, expires_old}
use Rattle.machine_names.proofs.Unrefused.{names_done}
use Rattle.laws_names.specs.WaitingSnapshots.{PassEachOther, AllPassEachOther, AreUnrefused, HasNoSecondName, StepsLeaveSnapshotsUnrefused}
use Rattle.laws_names.proofs.Chunks.{Holds, logs_holds, revokes_all_holds, clone_holds, ask_holds, learns_holds, revoked_holds, report_holds}
use Rattle.laws_names.proofs.Waiting.{AreQuiet, AllRefusedNone, IsSelfOrQuiet, IsHidden, on_test, all_more, quiet_back, quiet_from, fewer_wait, one_more_waits, calls_pass, copies_pass, each_passes, without_snapshot, others_quiet, still_passes, expired_passes}

module _ (G : Names → List PendingSnapshot → Type 0) where
  settles_holds : (d : MasterDoing) (client number : ℕ) (r : Record) (o : Option Refusal) → Holds G d → Holds G (appends d r) → Holds G (appends (writes_checkpoint d) r) → Holds G (settles_name d client number r o)
  settles_holds d client number r o h logged later = logs_holds G d r (λ e. answers_name e client number o) (λ e g. g) h logged later

  refuses_holds : (d : MasterDoing) (client number : ℕ) (refusal : Refusal) → Holds G d → Holds G (refuses_name d client number refusal)
  refuses_holds d client number refusal h = settles_holds d client number (log.Refused (client_id client) number refusal) (Some refusal) h h h

  pub changes_holds : (d : MasterDoing) (client number : ℕ) (c : Call) (r : Record) → Holds G d → Holds G (appends d r) → Holds G (appends (writes_checkpoint d) r) → Holds G (changes_names d client number c r)
  changes_holds d client number c r h logged later =
      let tried : MasterDoing = record d { refused = all_but_first d.refused } in
      on_test (Holds G) (needs_room c) (cond (first_is_true d.refused) (refuses_name tried client number NamesFull) (settles_name tried client number r None)) (settles_name d client number r None)
      (λ _. on_test (Holds G) (first_is_true d.refused) (refuses_name tried client number NamesFull) (settles_name tried client number r None)
      (λ _. refuses_holds tried client number NamesFull h) (λ _. settles_holds tried client number r None h logged later))
      (λ _. settles_holds d client number r None h logged later)

-- a request on names

abbrev pub Waits : MasterDoing → Type 0
Waits d = Holds AreUnrefused d

tests_of : (a : List (Bool × Refusal)) (b : Bool) (r : Refusal) (c : List (Bool × Refusal)) → first_refusal (a ++ (b, r) ∷ c) ≡ None → (b ≡ false) × (first_refusal (a ++ c) ≡ None)
tests_of [] b r c h = passed b r (first_refusal c) h
tests_of (t ∷ a) b r c h =
    let one : (t.0 ≡ false) × (first_refusal (a ++ (b, r) ∷ c) ≡ None) = passed t.0 t.1 (first_refusal (a ++ (b, r) ∷ c)) h in
    let rest : (b ≡ false) × (first_refusal (a ++ c) ≡ None) = tests_of a b r c one.1 in
    (rest.0, ap (λ (x : Bool). cond x (Some t.1) (first_refusal (a ++ c))) one.0 ∙ rest.1)

-- what meets no refusal meets no lock, and none of the names
pub not_refused : (m : MasterState) (c : Call) → master_refusal m c ≡ None → (is_busy m c ≡ false) × (refusal_of m.config m.logged.names c ≡ None)
not_refused m c h = tests_of (path_tests m.config c) (is_busy m c) Busy (name_tests m.logged.names c) h

begins_waits : (d : MasterDoing) (s : PendingSnapshot) → master_refusal d.master (snapshot_call s) ≡ None → is_waiting_call d.master s.client s.number ≡ false → Waits d → Waits (begins_snapshot d s)
begins_waits d s may new h =
    let clear = not_refused d.master (snapshot_call s) may in
    let handles : List ℕ = snapshot_handles d.master s in
    let left : MasterDoing = gives_up_copies (without_attempts (takes_locks d s) handles) (copies_for_files d.master.logged (snapshot_files d.master s)) in
    revokes_all_holds AreUnrefused left handles (one_more_waits d.master.logged.names d.master.snapshots s clear.1 clear.0 new h)

-- the record of a call that takes effect
effect_waits : (d : MasterDoing) (client number moment : ℕ) (c : Call) (r : Record) → master_refusal d.master c ≡ None → (after_record d.master.logged r).names ≡ names_done d.master.logged.names c moment d.master.logged.next_file
    → (after_record (writes_checkpoint d).master.logged r).names ≡ names_done d.master.logged.names c moment d.master.logged.next_file → Waits d → Waits (changes_names d client number c r)
effect_waits d client number moment c r may one two h =
    let clear = not_refused d.master c may in
    let after : AreUnrefused (names_done d.master.logged.names c moment d.master.logged.next_file) d.master.snapshots = calls_pass d.master.config d.master.logged.names c moment d.master.logged.next_file d.master.snapshots clear.1 clear.0 h in
    changes_holds AreUnrefused d client number c r h (subst (λ (ns : Names). AreUnrefused ns d.master.snapshots) (sym one) after) (subst (λ (ns : Names). AreUnrefused ns d.master.snapshots) (sym two) after)

performs_waits : (d : MasterDoing) (client number deadline : ℕ) (c : Call) → master_refusal d.master c ≡ None → is_waiting_call d.master client number ≡ false → Waits d → Waits (performs d client number deadline c)
performs_waits d client number deadline (call.Mkdir p) may new h = effect_waits d client number d.master.now (call.Mkdir p) (log.Mkdir (client_id client) number p) may refl refl h
performs_waits d client number deadline (call.Rmdir p) may new h = effect_waits d client number d.master.now (call.Rmdir p) (log.Rmdir (client_id client) number p) may refl refl h
performs_waits d client number deadline (call.Create p shape) may new h = effect_waits d client number d.master.now (call.Create p shape) (log.Create (client_id client) number (file_id d.master.logged.next_file) (told_shape d.master.config shape) p) may refl refl h
performs_waits d client number deadline (call.Delete p) may new h = effect_waits d client number d.master.now (call.Delete p) (log.Delete (client_id client) number (moment_of d.master.now) p) may refl refl h
performs_waits d client number deadline (call.Rename p q) may new h = effect_waits d client number d.master.now (call.Rename p q) (log.Rename (client_id client) number p q) may refl refl h
performs_waits d client number deadline (call.Snapshot p q) may new h = begins_waits d (record { client = client; number = number; deadline = deadline; from = p; to = q }) may new h
performs_waits d client number deadline other may new h = h

by_waits : (d : MasterDoing) (client number deadline : ℕ) (c : Call) (o : Option Refusal) → master_refusal d.master c ≡ o → is_waiting_call d.master client number ≡ false → Waits d → Waits (names_by d client number deadline c o)
by_waits d client number deadline c (Some refusal) may new h = refuses_holds AreUnrefused d client number refusal h
by_waits d client number deadline c None may new h = performs_waits d client number deadline c may new h

anew_waits : (d : MasterDoing) (client number deadline : ℕ) (c : Call) → Waits d → Waits (names_anew d client number deadline c)
anew_waits d client number deadline c h =
    on_test Waits (nat_le deadline d.master.now) d _ (λ _. h)
    (λ _. on_test Waits (is_waiting_call d.master client number) d (names_by d client number deadline c (master_refusal d.master c)) (λ _. h)
    (λ new. by_waits d client number deadline c (master_refusal d.master c) refl new h))

kept_waits : (d : MasterDoing) (client number deadline : ℕ) (c : Call) (o : Option KeptCall) → Waits d → Waits (names_kept d client number deadline c o)
kept_waits d client number deadline c None h = anew_waits d client number deadline c h
kept_waits d client number deadline c (Some k) h =
    on_test Waits (k.number == number) (answers_name d client number k.refusal) _ (λ _. h)
    (λ _. on_test Waits (nat_lt number k.number) d (names_anew d client number deadline c) (λ _. h) (λ _. anew_waits d client number deadline c h))

pub name_waits : (d : MasterDoing) (client number deadline : ℕ) (c : Call) → Waits d → Waits (takes_name d client number deadline c)
name_waits d client number deadline c h = kept_waits d client number deadline c (table.get d.master.logged.kept client) h

-- snapshots that are taken

-- those that wait, and those of them that are still to be looked at
pub record AreLookedAt (names : Names) (waiting : List PendingSnapshot) (rest : List PendingSnapshot) : Type 0 where
  pub waits : AreUnrefused names waiting
  pub unrefused : AllRefusedNone names rest
  pub pass : AllPassEachOther rest
  pub among : AllByRecursion (λ s. AllByRecursion (IsSelfOrQuiet s) waiting) rest

pub first_looked : (names : Names) (ss : List PendingSnapshot) → AreUnrefused names ss → AreLookedAt names ss ss
first_looked names ss h = record { waits = h; unrefused = h.unrefused; pass = h.apart; among = each_passes ss h.apart }

later_quiet : (s : PendingSnapshot) (rest : List PendingSnapshot) → AllByRecursion (PassEachOther s) rest → AllByRecursion (AreQuiet s) rest
later_quiet s rest all = all_more (PassEachOther s) (AreQuiet s) rest (λ t p. quiet_back t s (quiet_from t s p.quiet)) all

-- one is taken, and waits no more
pub taken_looked : (d : MasterDoing) (s : PendingSnapshot) (rest : List PendingSnapshot) → AreLookedAt d.master.logged.names d.master.snapshots (s ∷ rest)
    → AreLookedAt (takes_snapshot d s).master.logged.names (takes_snapshot d s).master.snapshots rest
taken_looked d s rest h =
    let names : Names = d.master.logged.names in
    let ss : List PendingSnapshot = d.master.snapshots in
    let left : AreUnrefused names (without_snapshot s ss) = fewer_wait names (λ t. not (is_same_snapshot s t)) ss h.waits in
    let others : AllByRecursion (AreQuiet s) (without_snapshot s ss) = others_quiet s ss h.among.0 in
    let plain : AreLookedAt names (without_snapshot s ss) rest = record { waits = left; unrefused = h.unrefused.1; pass = h.pass.1; among = still_passes ss s rest h.among.1 } in
    let quiet : AllByRecursion (AreQuiet s) rest = later_quiet s rest h.pass.0 in
    let more : AreLookedAt (with_copies names d.master.logged.next_file (copied_entries names s.from s.to)) (without_snapshot s ss) rest = record {
      waits = record { unrefused = copies_pass names s d.master.logged.next_file (without_snapshot s ss) h.unrefused.0 others left.unrefused; apart = left.apart };
      unrefused = copies_pass names s d.master.logged.next_file rest h.unrefused.0 quiet h.unrefused.1;
      pass = h.pass.1;
      among = plain.among;
    } in
    changes_holds (λ ns ts. AreLookedAt ns ts rest) (lets_go d s) s.client s.number (call.Snapshot s.from s.to) (log.Snapshot (client_id s.client) s.number s.from s.to) plain more more

pub ready_waits : (d : MasterDoing) (rest : List PendingSnapshot) → AreLookedAt d.master.logged.names d.master.snapshots rest → Waits (takes_ready d rest)
ready_waits d [] h = h.waits
ready_waits d (s ∷ rest) h =
    on_test (λ (e : MasterDoing). Waits (takes_ready e rest)) (is_ready d.master s) (takes_snapshot d s) d
    (λ _. ready_waits (takes_snapshot d s) rest (taken_looked d s rest h))
    (λ _. ready_waits d rest (record { waits = h.waits; unrefused = h.unrefused.1; pass = h.pass.1; among = h.among.1 }))

-- a tick

-- those that wait, and files that are still to expire
abbrev pub AreExpiring : List ℕ → Names → List PendingSnapshot → Type 0
AreExpiring files names ss = AreUnrefused names ss × AllByRecursion (IsHidden names) files

pub expires_waits : (d : MasterDoing) (files : List ℕ) → Holds (AreExpiring files) d → Waits (expires_all d files)
expires_waits d [] h = h.0
expires_waits d (file ∷ rest) h =
    let next : AreExpiring rest (without_file d.master.logged.names file) d.master.snapshots = expired_passes d.master.logged.names file d.master.snapshots rest h.1.0 h.1.1 h.0 in
    expires_waits (logs d (log.Expired (file_id file)) (λ e. e)) rest (logs_holds (AreExpiring rest) d (log.Expired (file_id file)) (λ e. e) (λ e g. g) (h.0, h.1.1) next next)

-- the files that expire stand in the trash
hidden_here : (m : MasterState) (P : ℕ → Type 0) (es : List (Path × Node)) → ((path : Path) (file : ℕ) → HasAt es path (File file) → is_child trash path ≡ true → P file)
    → AllByRecursion P (before_none (map (λ e. old_file m e.0 e.1) (filter (λ e. is_child trash e.0) es)))
hidden_here m P [] f = tt
hidden_here m P (e ∷ es) f = by_child (is_child trash e.0) refl (hidden_here m P es (λ path file there is. f path file (inr there) is))
  where
    by_node : (n : Node) → e.1 ≡ n → is_child trash e.0 ≡ true → AllByRecursion P (before_none (map (λ x. old_file m x.0 x.1) (filter (λ x. is_child trash x.0) es)))
        → AllByRecursion P (before_none (old_file m e.0 n ∷ map (λ x. old_file m x.0 x.1) (filter (λ x. is_child trash x.0) es)))
    by_node Dir same is more = tt
    by_node (File id) same is more =
        on_test (λ (o : Option ℕ). AllByRecursion P (before_none (o ∷ map (λ x. old_file m x.0 x.1) (filter (λ x. is_child trash x.0) es)))) (is_old m e.0) (Some id) None
        (λ _. (f e.0 id (inl (refl, same)) is, more)) (λ _. tt)

    by_child : (b : Bool) → is_child trash e.0 ≡ b → AllByRecursion P (before_none (map (λ x. old_file m x.0 x.1) (filter (λ x. is_child trash x.0) es)))
        → AllByRecursion P (before_none (map (λ x. old_file m x.0 x.1) (cond b (e ∷ filter (λ x. is_child trash x.0) es) (filter (λ x. is_child trash x.0) es))))
    by_child true is more = by_node e.1 refl is more
    by_child false is more = more

child_there : (path : Path) → is_child trash path ≡ true → is_in_trash path ≡ true
child_there path is = or_right (bytes_eq path trash) (is_below trash path) (and_parts (is_below trash path) _ is).0

pub old_are_hidden : (m : MasterState) → HasNoSecondName m.logged.names → AllByRecursion (IsHidden m.logged.names) (expired_files m)
old_are_hidden m one =
    hidden_here m (IsHidden m.logged.names) (table.entries m.logged.names)
    (λ path file there is other at. ap is_in_trash (one file other path at (entry_is m.logged.names path (File file) there)) ∙ child_there path is)

pub ticks_waits : (d : MasterDoing) → HasNoSecondName d.master.logged.names → Waits d → Waits (master_ticks d)
ticks_waits d one h =
    let a : MasterDoing = gives_up_lost_copies (gives_up_attempts d) in
    let b : MasterDoing = expires_old a in
    clone_holds AreUnrefused b (best_clone b.master (table.entries b.master.logged.table.chunks)) (expires_waits a (expired_files a.master) (h, old_are_hidden a.master one))

-- a message

pub takes_waits : (d : MasterDoing) (x : Message) (b : Body) → Waits d → Waits (master_takes d x b)
takes_waits d x (body.Name number deadline c) h = name_waits d (client_number x.sender) number deadline.0 c h
takes_waits d x (body.Ask number file w deadline lost) h = ask_holds AreUnrefused d x.sender number file.0 w deadline.0 lost h
takes_waits d x (body.Recorded handle version) h = learns_holds AreUnrefused (holds_now d (server_number x.sender) handle.0 version.0) (server_number x.sender) handle.0 version.0 h
takes_waits d x (body.Revoked handle version) h = revoked_holds AreUnrefused d (server_number x.sender) handle.0 version.0 (chunk_of d.master.logged.table handle.0) h
takes_waits d x (body.Report replicas leases) h = report_holds AreUnrefused d (server_number x.sender) replicas leases h
takes_waits d x other h = h

pub does_waits : (d : MasterDoing) (i : NodeInput) → HasNoSecondName d.master.logged.names → Waits d → Waits (master_does d i)
does_waits d (input.Deliver x) one h = takes_waits d x x.body h
does_waits d input.Tick one h = ticks_waits d one h

-- those that are live as a step begins
pub begins_live : (m : MasterState) (moment : ℕ) (refused : List Bool) → AreUnrefused m.logged.names m.snapshots → Waits (master_begins (master_at m moment) refused)
begins_live m moment refused h = fewer_wait m.logged.names (λ s. nat_lt (max m.now moment) s.deadline) m.snapshots h

pub steps_leave_snapshots_unrefused : StepsLeaveSnapshotsUnrefused
steps_leave_snapshots_unrefused m moment i refused one h =
    let d : MasterDoing = master_does (master_begins (master_at m moment) refused) i in
    let done : Waits d = does_waits (master_begins (master_at m moment) refused) i one (begins_live m moment refused h) in
    ready_waits d d.master.snapshots (first_looked d.master.logged.names d.master.snapshots done)
