-- A whole step of the master, walked beside the machine: what it takes, and the snapshots that are ready.
use Rattle.std.proofs.Common.{◌≡◌, ◌⊎◌, ℕ, suc, ◌≤◌, Bool, true, cond, List, [], ◌∷◌, Option, Some, None, refl, sym, ap, subst, ◌∙◌, inl, inr, arith}
use Rattle.std.specs.Prelude.{◌&&◌, nat_lt, nat_le, not, filter, Contains}
use Rattle.std.specs.List.{AllByRecursion}
use Rattle.std.proofs.lemmas.Bool.{and_from, lt-ltb, le-leb}
use Rattle.std.specs.FinMap as table
use Rattle.gfs_types.specs.declared.config.Config.{Config}
use Rattle.gfs_types.specs.declared.call.Call.TheVariants as call
use Rattle.messages.specs.declared.event.NodeInput.{NodeInput}
use Rattle.messages.specs.declared.event.NodeInput.TheVariants as input
use Rattle.messages.specs.declared.message.Body.{Body}
use Rattle.messages.specs.declared.message.Body.TheVariants as body
use Rattle.messages.specs.declared.message.Message.{Message}
use Rattle.log_records.specs.declared.record.Record.TheVariants as log
use Rattle.relaxed_file.specs.Names.{Names, node_at}
use Rattle.relaxed_file.specs.Machine.{Machine}
use Rattle.machine_names.proofs.Named.{named_files_are_there}
use Rattle.machine_names.proofs.Runs.{name_runs_close_all_rounds}
use Rattle.protocol.specs.Sending.{client_id, client_number}
use Rattle.protocol.specs.Logged.{LogDisk}
use Rattle.protocol.specs.Master.{MasterState, MasterDoing, PendingSnapshot}
use Rattle.protocol.specs.MasterClones.{CloneOrder, best_clone, orders_clone}
use Rattle.protocol.specs.MasterSnapshots.{is_same_snapshot, is_ready, lets_go, takes_snapshot, takes_ready}
use Rattle.protocol.specs.MasterStep.{master_takes, master_does, master_ticks, gives_up_attempts, gives_up_lost_copies, lost_copies, expired_files, expires_old}
use Rattle.laws_names.specs.Alike.{Requests}
use Rattle.laws_names.specs.NameSteps.{AreNamedFilesThere}
use Rattle.laws_names.specs.Followed.{IsTimely}
use Rattle.laws_names.proofs.Moves.{Reaches, here, join}
use Rattle.laws_names.proofs.NameWalk.{name_at, look_at}
use Rattle.laws_names.specs.ChunkSteps.{AreCopiesOfFiles}
use Rattle.laws_names.proofs.ChunkWalk.{takes_here}
use Rattle.laws_names.specs.UnaskedSteps.{AreOldFiles}
use Rattle.laws_names.proofs.Unasked.{old_here, expires_at, snapshot_at}
use Rattle.laws_names.specs.WaitingSnapshots.{PassEachOther, AreUnrefused, HasNoSecondName}
use Rattle.laws_names.proofs.Waiting.{on_test}
use Rattle.laws_names.proofs.WaitingSnapshotsWalk.{AreLookedAt, changes_holds, first_looked, taken_looked, does_waits}
use Rattle.laws_names.specs.NamesDue.{AreDue}
use Rattle.laws_names.specs.FollowedSteps.{IsOfOpenCall, IsInputOfOpenCall}
use Rattle.laws_names.proofs.Following.{IsFollowing, IsFollowingHere, following_keeps, following_chunks, one_told, fewer}

-- snapshots that are still among those that wait

IsAmong : PendingSnapshot → List PendingSnapshot → Type 0
IsAmong s [] = ⊥
IsAmong s (t ∷ rest) = (t ≡ s) ⊎ IsAmong s rest

among_contained : (s : PendingSnapshot) (ss : List PendingSnapshot) → IsAmong s ss → Contains ss s
unfolding IsAmong
among_contained s [] h = absurd h
among_contained s (t ∷ rest) (inl same) = (0, omega arith, same)
among_contained s (t ∷ rest) (inr later) =
    let found = among_contained s rest later in
    let low = found.1 in
    (suc found.0, omega (arith, low), found.2)

still_among : (test : PendingSnapshot → Bool) (s : PendingSnapshot) (ss : List PendingSnapshot) → test s ≡ true → IsAmong s ss → IsAmong s (filter test ss)
unfolding IsAmong
still_among test s [] is h = absurd h
still_among test s (t ∷ rest) is (inl same) =
    subst (λ (b : Bool). IsAmong s (cond b (t ∷ filter test rest) (filter test rest))) (sym (ap test same ∙ is)) (inl same)
still_among test s (t ∷ rest) is (inr later) =
    let more : IsAmong s (filter test rest) = still_among test s rest is later in
    on_test (λ (xs : List PendingSnapshot). IsAmong s xs) (test t) (t ∷ filter test rest) (filter test rest) (λ _. inr more) (λ _. more)

abbrev AreAmong : List PendingSnapshot → List PendingSnapshot → Type 0
AreAmong rest ss = AllByRecursion (λ t. IsAmong t ss) rest

all_later : (t : PendingSnapshot) (rest ss : List PendingSnapshot) → AreAmong rest ss → AreAmong rest (t ∷ ss)
unfolding IsAmong
all_later t [] ss h = tt
all_later t (s ∷ rest) ss h = (inr h.0, all_later t rest ss h.1)

all_among : (ss : List PendingSnapshot) → AreAmong ss ss
unfolding IsAmong
all_among [] = tt
all_among (s ∷ rest) = (inl refl, all_later s rest rest (all_among rest))

others_among : (s : PendingSnapshot) (rest ss : List PendingSnapshot) → AllByRecursion (PassEachOther s) rest → AreAmong rest ss → AreAmong rest (filter (λ t. not (is_same_snapshot s t)) ss)
others_among s [] ss pass h = tt
others_among s (t ∷ rest) ss pass h = (still_among (λ x. not (is_same_snapshot s x)) t ss (ap not pass.0.others) h.0, others_among s rest ss pass.1 h.1)

-- files that are due at the master are old at the machine
due_old : (m : MasterState) (n : Machine) → n.config ≡ m.config → m.now ≤ n.clock → (files : List ℕ) → AreDue m files → AreOldFiles m.logged n files
due_old m n settings before [] h = tt
due_old m n settings before (file ∷ rest) h =
    let keep : n.config.keep_ms ≡ m.config.keep_ms = ap (λ (c : Config). c.keep_ms) settings in
    let long = (h.0).3 in
    (((h.0).0, (h.0).1, (h.0).2, omega (arith, keep, long, before)), h.1, due_old m n settings before rest h.2)

module _ (config : Config) (requests : Requests) (first : Machine) (start : LogDisk) where
  abbrev pub Beside : Machine → MasterDoing → Type 0
  Beside n d = IsFollowing config requests first start n d.master.logged d.master.disk d.changes d.sent d.master.snapshots

  abbrev pub Comes : Machine → MasterDoing → Type 0
  Comes n d = Reaches requests (IsFollowing config requests first start) (following_keeps config requests first start) n d

  named_there : (n : Machine) (d : MasterDoing) → Beside n d → AreNamedFilesThere d.master.logged
  named_there n d h path file is =
      let there = named_files_are_there config n h.run path file (ap (λ (names : Names). node_at names path) (sym (h.alike).names) ∙ is) in
      (h.alike).files file ∙ and_from (nat_lt 0 file && nat_le file n.file_count) (not (n.files file).is_collected) (and_from (nat_lt 0 file) (nat_le file n.file_count) (lt-ltb 0 file there.0) (le-leb file n.file_count there.1)) (ap not there.2)

  -- a message
  takes_at : (n : Machine) (d : MasterDoing) (x : Message) (b : Body) → IsOfOpenCall d n requests x b → n.config ≡ d.master.config → IsTimely n d.master.now → AreCopiesOfFiles d.master.logged → Beside n d → Comes n (master_takes d x b)
  takes_at n d x (body.Name number deadline c) of settings timely copied h =
      name_at requests (IsFollowing config requests first start) (following_keeps config requests first start) n d (client_number x.sender) number deadline.0 c (named_there n d h) settings timely of h
  takes_at n d x (body.Look number c) of settings timely copied h = look_at requests (IsFollowing config requests first start) (following_keeps config requests first start) n d x.sender number c settings of.0 of.1 h
  takes_at n d x other of settings timely copied h =
      here requests (IsFollowing config requests first start) (following_keeps config requests first start) n (master_takes d x other)
      (takes_here (IsFollowingHere config requests first start n) (following_chunks config requests first start n) d x other tt (h, copied)).0

  -- a tick
  clone_at : (n : Machine) (d : MasterDoing) (o : Option CloneOrder) → Beside n d → Beside n (orders_clone d o)
  clone_at n d None h = h
  clone_at n d (Some c) h = one_told config requests first start n d.master.logged d.master.disk d.changes d.sent d.master.snapshots _ tt h

  ticks_at : (n : Machine) (d : MasterDoing) → n.config ≡ d.master.config → IsTimely n d.master.now → AreDue d.master (expired_files d.master) → Beside n d → Comes n (master_ticks d)
  ticks_at n d settings timely due h =
      let a : MasterDoing = gives_up_lost_copies (gives_up_attempts d) in
      let less : Beside n a = fewer config requests first start n d.master.logged d.master.disk d.changes d.sent d.master.snapshots (lost_copies (gives_up_attempts d).master) h in
      let old : AreOldFiles d.master.logged n (expired_files d.master) = due_old d.master n settings timely.1 (expired_files d.master) due in
      let expired : Comes n (expires_old a) =
      expires_at requests (IsFollowing config requests first start) (following_keeps config requests first start) n a (expired_files a.master)
      (old_here d.master.logged d.master.snapshots n requests (expired_files d.master) h.alike old) less in
      let b : MasterDoing = expires_old a in
      (expired.0, expired.1, clone_at expired.0 b (best_clone b.master (table.entries b.master.logged.table.chunks)) expired.2)

  does_at : (n : Machine) (d : MasterDoing) (i : NodeInput) → IsInputOfOpenCall d n requests i → n.config ≡ d.master.config → IsTimely n d.master.now → AreCopiesOfFiles d.master.logged → AreDue d.master (expired_files d.master) → Beside n d
      → Comes n (master_does d i)
  does_at n d (input.Deliver x) of settings timely copied due h = takes_at n d x x.body of settings timely copied h
  does_at n d input.Tick of settings timely copied due h = ticks_at n d settings timely due h

  -- snapshots that are ready
  ready_at : (n : Machine) (d : MasterDoing) (rest : List PendingSnapshot) → AreLookedAt d.master.logged.names d.master.snapshots rest → AreAmong rest d.master.snapshots → Beside n d → Comes n (takes_ready d rest)
  ready_at n d [] looked among h = here requests (IsFollowing config requests first start) (following_keeps config requests first start) n d h
  ready_at n d (s ∷ rest) looked among h =
      on_test (λ (e : MasterDoing). Comes n (takes_ready e rest)) (is_ready d.master s) (takes_snapshot d s) d
      (λ _.
      let taken : Comes n (takes_snapshot d s) =
      snapshot_at requests (IsFollowing config requests first start) (following_keeps config requests first start) n d s (named_there n d h) (among_contained s d.master.snapshots among.0) looked.unrefused.0
      (name_runs_close_all_rounds config n h.run s.from s.to) h in
      let kept : List PendingSnapshot = filter (λ t. not (is_same_snapshot s t)) d.master.snapshots in
      let left : AreAmong rest kept = others_among s rest d.master.snapshots looked.pass.0 among.1 in
      let later : AreAmong rest (takes_snapshot d s).master.snapshots =
      changes_holds (λ names ss. AreAmong rest ss) (lets_go d s) s.client s.number (call.Snapshot s.from s.to) (log.Snapshot (client_id s.client) s.number s.from s.to) left left left in
      let more : Comes taken.0 (takes_ready (takes_snapshot d s) rest) = ready_at taken.0 (takes_snapshot d s) rest (taken_looked d s rest looked) later taken.2 in
      (more.0, join n taken.0 more.0 taken.1 more.1, more.2))
      (λ _. ready_at n d rest (record { waits = looked.waits; unrefused = looked.unrefused.1; pass = looked.pass.1; among = looked.among.1 }) among.1 h)

  pub goes_at : (n : Machine) (d : MasterDoing) (i : NodeInput) → IsInputOfOpenCall d n requests i → n.config ≡ d.master.config → IsTimely n d.master.now → AreCopiesOfFiles d.master.logged → AreDue d.master (expired_files d.master)
      → HasNoSecondName d.master.logged.names → AreUnrefused d.master.logged.names d.master.snapshots → Beside n d → Comes n (takes_ready (master_does d i) (master_does d i).master.snapshots)
  goes_at n d i of settings timely copied due one unrefused h =
      let e : MasterDoing = master_does d i in
      let done : Comes n e = does_at n d i of settings timely copied due h in
      let looked : AreLookedAt e.master.logged.names e.master.snapshots e.master.snapshots = first_looked e.master.logged.names e.master.snapshots (does_waits d i one unrefused) in
      let more : Comes done.0 (takes_ready e e.master.snapshots) = ready_at done.0 e e.master.snapshots looked (all_among e.master.snapshots) done.2 in
      (more.0, join n done.0 more.0 done.1 more.1, more.2)
