-- A step of the master answers name calls only where this is known of the client and the number: of the request that came, and of each snapshot that waits.
use Rattle.laws_base.proofs.LeaseOrders.{revoke_order}
use Rattle.std.proofs.Common.{ℕ, Bool, true, false, cond, List, [], ◌∷◌, ◌++◌, Option, Some, None}
use Rattle.std.specs.Prelude.{◌==◌, ◌&&◌, nat_lt, nat_le, not, filter}
use Rattle.std.specs.List.{AllByRecursion}
use Rattle.std.specs.FinMap as table
use Rattle.gfs_types.specs.declared.ids.Node.TheVariants as node
use Rattle.gfs_types.specs.declared.ids.Node.{Node}
use Rattle.gfs_types.specs.declared.call.Call.{Call}
use Rattle.gfs_types.specs.declared.call.Call.TheVariants as call
use Rattle.gfs_types.specs.declared.refusal.Refusal.{Refusal}
use Rattle.gfs_types.specs.declared.refusal.Refusal.TheVariants.{NamesFull}
use Rattle.messages.specs.declared.event.NodeInput.{NodeInput}
use Rattle.messages.specs.declared.event.NodeInput.TheVariants as input
use Rattle.messages.specs.declared.message.Body.{Body}
use Rattle.messages.specs.declared.message.Body.TheVariants as body
use Rattle.messages.specs.declared.message.Message.{Message}
use Rattle.messages.specs.declared.message.NameReply.TheVariants.{Answered}
use Rattle.log_records.specs.declared.record.Record.{Record}
use Rattle.log_records.specs.declared.record.Record.TheVariants as log
use Rattle.relaxed_file.specs.NameStep.{needs_room, outcome_by}
use Rattle.chunk_table.specs.ChunkTable.{ChunkRow, chunk_of}
use Rattle.protocol.specs.LogSizes.{checkpoint_fits}
use Rattle.protocol.specs.Sending.{message, the_server, the_client, client_id, client_number, file_id, moment_of}
use Rattle.protocol.specs.Logged.{Logged, KeptCall, LogDisk, LogChange, checkpoint_of}
use Rattle.protocol.specs.Master.{MasterDoing, PendingSnapshot, orders, without_attempts, gives_up_copies, fits, appends, writes_checkpoint, logs, logs_after_checkpoint, is_of_copy, has_lease}
use Rattle.protocol.specs.MasterNames.{master_refusal, reply_by, performs, names_by, is_waiting_call, names_anew, names_kept, told_shape}
use Rattle.protocol.specs.MasterSnapshots.{reply_of, answers_name, settles_name, refuses_name, first_is_true, all_but_first, changes_names, takes_locks, begins_snapshot, snapshot_handles, snapshot_files, copies_for_files, revokes_row, revokes, revokes_all, is_same_snapshot, lets_go, takes_snapshot, takes_ready, is_ready}
use Rattle.protocol.specs.MasterClones.{CloneOrder, best_clone, orders_clone}
use Rattle.protocol.specs.MasterStep.{master_takes, master_does, gives_up_attempts, gives_up_lost_copies, expired_files, expires_all, expires_old}
use Rattle.laws_names.specs.ChunkSteps.{AreCopiesOfFiles}
use Rattle.laws_names.proofs.ChunkWalk.{IsUnnamed, KeepsChunks, takes_here}

on_test : {A : Type 0} (P : A → Type 0) (b : Bool) (x y : A) → P x → P y → P (cond b x y)
on_test P true x y f g = f
on_test P false x y f g = g

all_some : {X : Type 0} (P : X → Type 0) (test : X → Bool) (xs : List X) → AllByRecursion P xs → AllByRecursion P (filter test xs)
all_some P test [] all = tt
all_some P test (x ∷ xs) all = on_test (AllByRecursion P) (test x) (x ∷ filter test xs) (filter test xs) (all.0, all_some P test xs all.1) (all_some P test xs all.1)

all_one_more : {X : Type 0} (P : X → Type 0) (xs : List X) (y : X) → AllByRecursion P xs → P y → AllByRecursion P (xs ++ y ∷ [])
all_one_more P [] y all one = (one, tt)
all_one_more P (x ∷ xs) y all one = (all.0, all_one_more P xs y all.1 one)

module _ (Asked : ℕ → ℕ → Type 0) where
  abbrev pub IsAnswer : ℕ → Body → Type 0
  IsAnswer client (body.Named number reply) = Asked client number
  IsAnswer client other = Unit {0}

  abbrev pub IsAnswered : Message → Type 0
  IsAnswered x = IsAnswer (client_number x.receiver) x.body

  abbrev pub AreWaiting : List PendingSnapshot → Type 0
  AreWaiting ss = AllByRecursion (λ s. Asked s.client s.number) ss

  -- a step so far
  abbrev OfStep : List PendingSnapshot → Logged → LogDisk → List LogChange → List Message → Type 0
  OfStep ss l k cs sent = AllByRecursion IsAnswered sent × AreWaiting ss

  abbrev pub At : MasterDoing → Type 0
  At d = AllByRecursion IsAnswered d.sent × AreWaiting d.master.snapshots

  says_at : (d : MasterDoing) (receiver : Node) (b : Body) → IsAnswer (client_number receiver) b → At d → AllByRecursion IsAnswered (d.sent ++ message node.Master receiver b ∷ [])
  says_at d receiver b is h = all_one_more IsAnswered d.sent (message node.Master receiver b) h.0 is

  unnamed : (client : ℕ) (b : Body) → IsUnnamed b → IsAnswer client b
  unnamed client (body.Named number reply) is = absurd is
  unnamed client b is = tt

  chunks_keep : KeepsChunks OfStep
  chunks_keep =
      record {
        tells = λ ss l k cs sent x is h. (all_one_more IsAnswered sent x h.0 (unnamed (client_number x.receiver) x.body is), h.1);
        records = λ ss l k cs sent r is h. h;
        checkpoint = λ ss l k cs sent h. h;
        less = λ ss l k cs sent handles h. h;
        ends = λ ss l k cs sent handle moment h. h;
      }

  logs_at : (d : MasterDoing) (r : Record) (then_ : MasterDoing → MasterDoing) → ((e : MasterDoing) → At e → At (then_ e)) → At d → At (logs d r then_)
  logs_at d r then_ go h =
      let e : MasterDoing = writes_checkpoint d in
      on_test At (fits d r) (then_ (appends d r)) _ (go (appends d r) h)
      (on_test At (checkpoint_fits d.master.config.log_bytes (checkpoint_of d.master.logged)) (logs_after_checkpoint e r (is_of_copy d.master.logged r) then_) d
      (on_test At (fits e r && not (is_of_copy d.master.logged r)) (then_ (appends e r)) e (go (appends e r) h) h)
      h)

  answers_at : (d : MasterDoing) (client number : ℕ) (refusal : Option Refusal) → Asked client number → At d → At (answers_name d client number refusal)
  answers_at d client number refusal asked h = (says_at d (the_client client) (body.Named number (Answered (reply_of refusal))) asked h, h.1)

  settles_at : (d : MasterDoing) (client number : ℕ) (r : Record) (refusal : Option Refusal) → Asked client number → At d → At (settles_name d client number r refusal)
  settles_at d client number r refusal asked h = logs_at d r (λ e. answers_name e client number refusal) (λ e g. answers_at e client number refusal asked g) h

  refuses_at : (d : MasterDoing) (client number : ℕ) (refusal : Refusal) → Asked client number → At d → At (refuses_name d client number refusal)
  refuses_at d client number refusal asked h = settles_at d client number (log.Refused (client_id client) number refusal) (Some refusal) asked h

  changes_at : (d : MasterDoing) (client number : ℕ) (c : Call) (r : Record) → Asked client number → At d → At (changes_names d client number c r)
  changes_at d client number c r asked h =
      let tried : MasterDoing = record d { refused = all_but_first d.refused } in
      on_test At (needs_room c) (cond (first_is_true d.refused) (refuses_name tried client number NamesFull) (settles_name tried client number r None)) (settles_name d client number r None)
      (on_test At (first_is_true d.refused) (refuses_name tried client number NamesFull) (settles_name tried client number r None) (refuses_at tried client number NamesFull asked h) (settles_at tried client number r None asked h))
      (settles_at d client number r None asked h)

  revokes_row_at : (d : MasterDoing) (handle : ℕ) (o : Option ChunkRow) → At d → At (revokes_row d handle o)
  revokes_row_at d handle None h = h
  revokes_row_at d handle (Some row) h =
      on_test At (has_lease d.master row) (orders d row.primary (revoke_order handle row)) d (says_at d (the_server row.primary) (revoke_order handle row _) tt h, h.1) h

  revokes_all_at : (d : MasterDoing) (handles : List ℕ) → At d → At (revokes_all d handles)
  revokes_all_at d [] h = h
  revokes_all_at d (handle ∷ rest) h = revokes_all_at (revokes d handle) rest (revokes_row_at d handle (chunk_of d.master.logged.table handle) h)

  begins_at : (d : MasterDoing) (s : PendingSnapshot) → Asked s.client s.number → At d → At (begins_snapshot d s)
  begins_at d s asked h =
      let handles : List ℕ = snapshot_handles d.master s in
      let left : MasterDoing = gives_up_copies (without_attempts (takes_locks d s) handles) (copies_for_files d.master.logged (snapshot_files d.master s)) in
      revokes_all_at left handles (h.0, all_one_more (λ t. Asked t.client t.number) d.master.snapshots s h.1 asked)

  performs_at : (d : MasterDoing) (client number deadline : ℕ) (c : Call) → Asked client number → At d → At (performs d client number deadline c)
  performs_at d client number deadline (call.Mkdir p) asked h = changes_at d client number (call.Mkdir p) (log.Mkdir (client_id client) number p) asked h
  performs_at d client number deadline (call.Rmdir p) asked h = changes_at d client number (call.Rmdir p) (log.Rmdir (client_id client) number p) asked h
  performs_at d client number deadline (call.Create p shape) asked h = changes_at d client number (call.Create p shape) (log.Create (client_id client) number (file_id d.master.logged.next_file) (told_shape d.master.config shape) p) asked h
  performs_at d client number deadline (call.Delete p) asked h = changes_at d client number (call.Delete p) (log.Delete (client_id client) number (moment_of d.master.now) p) asked h
  performs_at d client number deadline (call.Rename p q) asked h = changes_at d client number (call.Rename p q) (log.Rename (client_id client) number p q) asked h
  performs_at d client number deadline (call.Snapshot p q) asked h = begins_at d (record { client = client; number = number; deadline = deadline; from = p; to = q }) asked h
  performs_at d client number deadline other asked h = h

  by_at : (d : MasterDoing) (client number deadline : ℕ) (c : Call) (o : Option Refusal) → Asked client number → At d → At (names_by d client number deadline c o)
  by_at d client number deadline c (Some refusal) asked h = refuses_at d client number refusal asked h
  by_at d client number deadline c None asked h = performs_at d client number deadline c asked h

  anew_at : (d : MasterDoing) (client number deadline : ℕ) (c : Call) → Asked client number → At d → At (names_anew d client number deadline c)
  anew_at d client number deadline c asked h =
      on_test At (nat_le deadline d.master.now) d _ h
      (on_test At (is_waiting_call d.master client number) d (names_by d client number deadline c (master_refusal d.master c)) h (by_at d client number deadline c (master_refusal d.master c) asked h))

  kept_at : (d : MasterDoing) (client number deadline : ℕ) (c : Call) (o : Option KeptCall) → Asked client number → At d → At (names_kept d client number deadline c o)
  kept_at d client number deadline c None asked h = anew_at d client number deadline c asked h
  kept_at d client number deadline c (Some k) asked h =
      on_test At (k.number == number) (answers_name d client number k.refusal) _ (answers_at d client number k.refusal asked h)
      (on_test At (nat_lt number k.number) d (names_anew d client number deadline c) h (anew_at d client number deadline c asked h))

  -- a message that asks under this number
  abbrev pub IsAsking : ℕ → Body → Type 0
  IsAsking client (body.Name number deadline c) = Asked client number
  IsAsking client (body.Look number c) = Asked client number
  IsAsking client other = Unit {0}

  abbrev pub IsInputAsking : NodeInput → Type 0
  IsInputAsking (input.Deliver x) = IsAsking (client_number x.sender) x.body
  IsInputAsking input.Tick = Unit {0}

  takes_at : (d : MasterDoing) (x : Message) (b : Body) → IsAsking (client_number x.sender) b → AreCopiesOfFiles d.master.logged → At d → At (master_takes d x b)
  takes_at d x (body.Name number deadline c) asked copied h = kept_at d (client_number x.sender) number deadline.0 c (table.get d.master.logged.kept (client_number x.sender)) asked h
  takes_at d x (body.Look number c) asked copied h = (says_at d x.sender (body.Named number (reply_by d.master.logged.table (outcome_by d.master.logged.names c (master_refusal d.master c)))) asked h, h.1)
  takes_at d x other asked copied h = (takes_here OfStep chunks_keep d x other tt (h, copied)).0

  expires_at : (d : MasterDoing) (files : List ℕ) → At d → At (expires_all d files)
  expires_at d [] h = h
  expires_at d (file ∷ rest) h = expires_at (logs d (log.Expired (file_id file)) (λ e. e)) rest (logs_at d (log.Expired (file_id file)) (λ e. e) (λ e g. g) h)

  clone_at : (d : MasterDoing) (o : Option CloneOrder) → At d → At (orders_clone d o)
  clone_at d None h = h
  clone_at d (Some c) h = (all_one_more IsAnswered d.sent _ h.0 tt, h.1)

  does_at : (d : MasterDoing) (i : NodeInput) → AreCopiesOfFiles d.master.logged → IsInputAsking i → At d → At (master_does d i)
  does_at d (input.Deliver x) copied asked h = takes_at d x x.body asked copied h
  does_at d input.Tick copied asked h =
      let a : MasterDoing = gives_up_lost_copies (gives_up_attempts d) in
      let b : MasterDoing = expires_old a in
      clone_at b (best_clone b.master (table.entries b.master.logged.table.chunks)) (expires_at a (expired_files a.master) h)

  ready_at : (d : MasterDoing) (rest : List PendingSnapshot) → AreWaiting rest → At d → At (takes_ready d rest)
  ready_at d [] asked h = h
  ready_at d (s ∷ rest) asked h =
      let left : At (lets_go d s) = (h.0, all_some (λ t. Asked t.client t.number) (λ t. not (is_same_snapshot s t)) d.master.snapshots h.1) in
      on_test (λ (e : MasterDoing). At (takes_ready e rest)) (is_ready d.master s) (takes_snapshot d s) d
      (ready_at (takes_snapshot d s) rest asked.1 (changes_at (lets_go d s) s.client s.number (call.Snapshot s.from s.to) (log.Snapshot (client_id s.client) s.number s.from s.to) asked.0 left))
      (ready_at d rest asked.1 h)

  pub goes_at : (d : MasterDoing) (i : NodeInput) → AreCopiesOfFiles d.master.logged → IsInputAsking i → At d → At (takes_ready (master_does d i) (master_does d i).master.snapshots)
  goes_at d i copied asked h =
      let done : At (master_does d i) = does_at d i copied asked h in
      ready_at (master_does d i) (master_does d i).master.snapshots done.1 done
