-- A step of the master keeps answers only to requests of which this is known: in the state, in the log, and in each log that a stop may leave.
use Rattle.std.proofs.Common.{◌≡◌, ℕ, Bool, true, false, cond, List, [], ◌∷◌, ◌++◌, Option, Some, None, refl, sym, ap, subst, ◌∙◌}
use Rattle.std.specs.Prelude.{◌==◌, ◌&&◌, nat_lt, nat_le, not, filter}
use Rattle.std.specs.List.{AllByRecursion}
use Rattle.std.specs.Cmp.{nat_cmp_total, unsigned_tied}
use Rattle.std.proofs.lemmas.Bool.{eqb-true}
use Rattle.std.specs.FinMap as table
use Rattle.gfs_types.specs.declared.call.Call.{Call}
use Rattle.gfs_types.specs.declared.call.Call.TheVariants as call
use Rattle.gfs_types.specs.declared.refusal.Refusal.{Refusal}
use Rattle.gfs_types.specs.declared.refusal.Refusal.TheVariants.{NamesFull}
use Rattle.messages.specs.declared.event.NodeInput.{NodeInput}
use Rattle.messages.specs.declared.event.NodeInput.TheVariants as input
use Rattle.messages.specs.declared.message.Body.{Body}
use Rattle.messages.specs.declared.message.Body.TheVariants as body
use Rattle.messages.specs.declared.message.Message.{Message}
use Rattle.log_records.specs.declared.record.Record.{Record}
use Rattle.log_records.specs.declared.record.Record.TheVariants as log
use Rattle.relaxed_file.specs.Names.{Names}
use Rattle.relaxed_file.specs.NameStep.{needs_room}
use Rattle.relaxed_file.proofs.NamesTree.{Tree}
use Rattle.relaxed_file.proofs.Tables.{from_some}
use Rattle.chunk_table.specs.ChunkTable.{ChunkRow, chunk_of}
use Rattle.protocol.specs.Tables.{Table}
use Rattle.protocol.specs.LogSizes.{checkpoint_fits}
use Rattle.protocol.specs.Sending.{client_id, client_number, file_id, moment_of}
use Rattle.protocol.specs.Logged.{Logged, KeptCall, LogDisk, LogChange, AppendRecord, WriteCheckpoint, log_changed, log_changed_by_all, after_record, checkpoint_of, copies_given_up, all_copies_given_up}
use Rattle.protocol.specs.Master.{MasterDoing, PendingSnapshot, orders, without_attempts, gives_up_copies, fits, appends, writes_checkpoint, logs, logs_after_checkpoint, is_of_copy, has_lease}
use Rattle.protocol.specs.MasterNames.{master_refusal, performs, names_by, is_waiting_call, names_anew, names_kept, told_shape}
use Rattle.protocol.specs.MasterSnapshots.{answers_name, settles_name, refuses_name, first_is_true, all_but_first, changes_names, takes_locks, begins_snapshot, snapshot_handles, snapshot_files, copies_for_files, revokes_row, revokes, revokes_all, is_same_snapshot, lets_go, takes_snapshot, takes_ready, is_ready}
use Rattle.protocol.specs.MasterClones.{CloneOrder, best_clone, orders_clone}
use Rattle.protocol.specs.MasterStep.{master_takes, master_does, gives_up_attempts, gives_up_lost_copies, lost_copies, expired_files, expires_all, expires_old}
use Rattle.laws_base.proofs.LeaseOrders.{revoke_order}
use Rattle.laws_base.proofs.OrderNumbers.{state_of, state-appended, AllStops, stops_push, changed-push}
use Rattle.laws_base.proofs.LoggedParts.{Parts, parts_of, parts_are_after, same_after, checkpoint_parts}
use Rattle.laws_base.proofs.CountsLogged.{IsFoundCounts, IsCountedLog}
use Rattle.laws_base.proofs.CountsKept.{counts_kept}
use Rattle.laws_base.proofs.NamesReached.{IsGood}
use Rattle.laws_names.specs.NameSteps.{IsOfChunks}
use Rattle.laws_names.specs.ChunkSteps.{AreCopiesOfFiles}
use Rattle.laws_names.proofs.ChunkWalk.{KeepsChunks, takes_here}

on_test : {A : Type 0} (P : A → Type 0) (b : Bool) (x y : A) → P x → P y → P (cond b x y)
on_test P true x y f g = f
on_test P false x y f g = g

abbrev pub IsGoodLog : LogDisk → Type 0
IsGoodLog k = IsGood IsFoundCounts IsCountedLog counts_kept k

stops_split : (P : LogDisk → Type 0) (d : LogDisk) (xs : List LogChange) (x : LogChange) → AllStops P d (xs ++ x ∷ []) → AllStops P d xs × P (log_changed (log_changed_by_all d xs) x)
stops_split P d [] x h = (h.0, h.1)
stops_split P d (y ∷ ys) x h =
    let rest = stops_split P (log_changed d y) ys x h.1 in
    ((h.0, rest.0), rest.1)

last_stop : (P : LogDisk → Type 0) (d : LogDisk) (xs : List LogChange) → AllStops P d xs → P (log_changed_by_all d xs)
last_stop P d [] h = h
last_stop P d (x ∷ xs) h = last_stop P (log_changed d x) xs h.1

chunk_kept : (l : Logged) (r : Record) → IsOfChunks l r → (after_record l r).kept ≡ l.kept
chunk_kept l (log.Epoch epoch) is = refl
chunk_kept l (log.AddChunk file handle) is = refl
chunk_kept l (log.Issue handle version) is = refl
chunk_kept l (log.Grant handle version primary members) is = ap (λ (p : Parts). p.kept) (parts_are_after l (log.Grant handle version primary members))
chunk_kept l (log.CopyStart file index handle copy copy_version) is = refl
chunk_kept l other is = absurd is

all_some : {X : Type 0} (P : X → Type 0) (test : X → Bool) (xs : List X) → AllByRecursion P xs → AllByRecursion P (filter test xs)
all_some P test [] all = tt
all_some P test (x ∷ xs) all = on_test (AllByRecursion P) (test x) (x ∷ filter test xs) (filter test xs) (all.0, all_some P test xs all.1) (all_some P test xs all.1)

all_one_more : {X : Type 0} (P : X → Type 0) (xs : List X) (y : X) → AllByRecursion P xs → P y → AllByRecursion P (xs ++ y ∷ [])
all_one_more P [] y all one = (one, tt)
all_one_more P (x ∷ xs) y all one = (all.0, all_one_more P xs y all.1 one)

-- the record answers this request
abbrev IsAnswer : Record → ℕ → ℕ → Option Refusal → Type 0
IsAnswer r client number refusal = (l : Logged) → (after_record l r).kept ≡ table.insert l.kept client (record { number = number; refusal = refusal })

module _ (Asked : ℕ → ℕ → Type 0) where
  abbrev pub AreKept : Table KeptCall → Type 0
  AreKept kept = (client : ℕ) (x : KeptCall) → table.get kept client ≡ Some x → Asked client x.number

  abbrev pub AreWaiting : List PendingSnapshot → Type 0
  AreWaiting ss = AllByRecursion (λ s. Asked s.client s.number) ss

  abbrev pub IsLogAsked : LogDisk → Type 0
  IsLogAsked k = AreKept (state_of k).kept

  one_more_kept : (kept : Table KeptCall) (client number : ℕ) (refusal : Option Refusal) → Asked client number → AreKept kept → AreKept (table.insert kept client (record { number = number; refusal = refusal }))
  one_more_kept kept client number refusal asked h q x is =
      by_key (q == client) refl (sym (table.get-insert nat_cmp_total kept client (record { number = number; refusal = refusal }) q ∙ ap (λ (b : Bool). cond b (Some (record { number = number; refusal = refusal })) (table.get kept q)) (unsigned_tied q client)) ∙ is)
    where
      by_key : (b : Bool) → (q == client) ≡ b → cond b (Some (record { number = number; refusal = refusal })) (table.get kept q) ≡ Some x → Asked q x.number
      by_key true same at = subst (λ (n : ℕ). Asked q n) (ap (λ (k : KeptCall). k.number) (from_some at)) (subst (λ (c : ℕ). Asked c number) (sym (eqb-true q client same)) asked)
      by_key false other at = h q x at

  module _ (start : LogDisk) where
    pub record HasLog (l : Logged) (k : LogDisk) (cs : List LogChange) : Type 0 where
      pub disk : log_changed_by_all start cs ≡ k
      pub same : parts_of l ≡ parts_of (state_of k)
      pub stops : AllStops IsLogAsked start cs

    -- the log's side is known where each log that a stop may leave is sound
    pub record AreAsked (ss : List PendingSnapshot) (l : Logged) (k : LogDisk) (cs : List LogChange) : Type 0 where
      pub kept : AreKept l.kept
      pub waits : AreWaiting ss
      pub log : AllStops IsGoodLog start cs → HasLog l k cs

    grown : (l more : Logged) (k : LogDisk) (cs : List LogChange) (x : LogChange) → parts_of more ≡ parts_of (state_of (log_changed k x)) → AreKept more.kept → HasLog l k cs → HasLog more (log_changed k x) (cs ++ x ∷ [])
    grown l more k cs x same kept h =
        record {
          disk = changed-push start cs x ∙ ap (λ (d : LogDisk). log_changed d x) h.disk;
          same = same;
          stops = stops_push IsLogAsked start cs x h.stops (subst (λ (d : LogDisk). IsLogAsked (log_changed d x)) (sym h.disk) (subst (λ (p : Parts). AreKept p.kept) same kept));
        }

    recorded : (ss : List PendingSnapshot) (l : Logged) (k : LogDisk) (cs : List LogChange) (r : Record) → AreKept (after_record l r).kept → AreAsked ss l k cs
        → AreAsked ss (after_record l r) (log_changed k (AppendRecord r)) (cs ++ AppendRecord r ∷ [])
    recorded ss l k cs r kept h =
        record {
          kept = kept;
          waits = h.waits;
          log = λ good.
              let g = h.log (stops_split IsGoodLog start cs (AppendRecord r) good).0 in
              grown l (after_record l r) k cs (AppendRecord r) (same_after l (state_of k) r g.same ∙ sym (ap (λ (x : Logged). parts_of x) (state-appended k r))) kept g;
        }

    checkpointed : (ss : List PendingSnapshot) (l : Logged) (k : LogDisk) (cs : List LogChange) → AreAsked ss l k cs
        → AreAsked ss (all_copies_given_up l) (log_changed k (WriteCheckpoint (checkpoint_of l))) (cs ++ WriteCheckpoint (checkpoint_of l) ∷ [])
    checkpointed ss l k cs h =
        record {
          kept = h.kept;
          waits = h.waits;
          log = λ good.
              let x : LogChange = WriteCheckpoint (checkpoint_of l) in
              let before = (stops_split IsGoodLog start cs x good).0 in
              let g = h.log before in
              let here : IsGoodLog k = subst (λ (d : LogDisk). IsGoodLog d) g.disk (last_stop IsGoodLog start cs before) in
              let tree : Tree l.names = subst (λ (names : Names). Tree names) (sym (ap (λ (p : Parts). p.names) g.same)) here.0 in
              grown l (all_copies_given_up l) k cs x (sym (checkpoint_parts l tree)) h.kept g;
        }

    fewer : (ss : List PendingSnapshot) (l : Logged) (k : LogDisk) (cs : List LogChange) (handles : List ℕ) → AreAsked ss l k cs → AreAsked ss (copies_given_up l handles) k cs
    fewer ss l k cs handles h = record { kept = h.kept; waits = h.waits; log = λ good. let g = h.log good in record { disk = g.disk; same = g.same; stops = g.stops } }

    abbrev OfStep : List PendingSnapshot → Logged → LogDisk → List LogChange → List Message → Type 0
    OfStep ss l k cs sent = AreAsked ss l k cs

    chunks_keep : KeepsChunks OfStep
    chunks_keep =
        record {
          tells = λ ss l k cs sent x is h. h;
          records = λ ss l k cs sent r is h. recorded ss l k cs r (subst (λ (t : Table KeptCall). AreKept t) (sym (chunk_kept l r is)) h.kept) h;
          checkpoint = λ ss l k cs sent h. checkpointed ss l k cs h;
          less = λ ss l k cs sent handles h. fewer ss l k cs handles h;
          ends = λ ss l k cs sent handle moment h. record { kept = h.kept; waits = h.waits; log = λ good. let g = h.log good in record { disk = g.disk; same = g.same; stops = g.stops } };
        }

    pub log_here : (l : Logged) (k : LogDisk) (cs : List LogChange) → HasLog l k cs → IsLogAsked k
    log_here l k cs h = subst (λ (d : LogDisk). IsLogAsked d) h.disk (last_stop IsLogAsked start cs h.stops)

    -- a step so far
    abbrev pub At : MasterDoing → Type 0
    At d = AreAsked d.master.snapshots d.master.logged d.master.disk d.changes

    checkpoint_at : (d : MasterDoing) → At d → At (writes_checkpoint d)
    checkpoint_at d h = checkpointed d.master.snapshots d.master.logged d.master.disk d.changes h

    logs_at : (d : MasterDoing) (r : Record) (then_ : MasterDoing → MasterDoing) → ((e : MasterDoing) → At e → At (then_ e)) → ((e : MasterDoing) → At e → At (appends e r)) → At d → At (logs d r then_)
    logs_at d r then_ go logged h =
        let e : MasterDoing = writes_checkpoint d in
        on_test At (fits d r) (then_ (appends d r)) _ (go (appends d r) (logged d h))
        (on_test At (checkpoint_fits d.master.config.log_bytes (checkpoint_of d.master.logged)) (logs_after_checkpoint e r (is_of_copy d.master.logged r) then_) d
        (on_test At (fits e r && not (is_of_copy d.master.logged r)) (then_ (appends e r)) e (go (appends e r) (logged e (checkpoint_at d h))) (checkpoint_at d h))
        h)

    answers_at : (d : MasterDoing) (client number : ℕ) (r : Record) (refusal : Option Refusal) → IsAnswer r client number refusal → Asked client number → At d → At (appends d r)
    answers_at d client number r refusal is asked h =
        recorded d.master.snapshots d.master.logged d.master.disk d.changes r
        (subst (λ (t : Table KeptCall). AreKept t) (sym (is d.master.logged)) (one_more_kept d.master.logged.kept client number refusal asked h.kept)) h

    settles_at : (d : MasterDoing) (client number : ℕ) (r : Record) (refusal : Option Refusal) → IsAnswer r client number refusal → Asked client number → At d → At (settles_name d client number r refusal)
    settles_at d client number r refusal is asked h = logs_at d r (λ e. answers_name e client number refusal) (λ e g. g) (λ e g. answers_at e client number r refusal is asked g) h

    refuses_at : (d : MasterDoing) (client number : ℕ) (refusal : Refusal) → Asked client number → At d → At (refuses_name d client number refusal)
    refuses_at d client number refusal asked h = settles_at d client number (log.Refused (client_id client) number refusal) (Some refusal) (λ l. refl) asked h

    changes_at : (d : MasterDoing) (client number : ℕ) (c : Call) (r : Record) → IsAnswer r client number None → Asked client number → At d → At (changes_names d client number c r)
    changes_at d client number c r is asked h =
        let tried : MasterDoing = record d { refused = all_but_first d.refused } in
        on_test At (needs_room c) (cond (first_is_true d.refused) (refuses_name tried client number NamesFull) (settles_name tried client number r None)) (settles_name d client number r None)
        (on_test At (first_is_true d.refused) (refuses_name tried client number NamesFull) (settles_name tried client number r None) (refuses_at tried client number NamesFull asked h) (settles_at tried client number r None is asked h))
        (settles_at d client number r None is asked h)

    revokes_row_at : (d : MasterDoing) (handle : ℕ) (o : Option ChunkRow) → At d → At (revokes_row d handle o)
    revokes_row_at d handle None h = h
    revokes_row_at d handle (Some row) h = on_test At (has_lease d.master row) (orders d row.primary (revoke_order handle row)) d h h

    revokes_all_at : (d : MasterDoing) (handles : List ℕ) → At d → At (revokes_all d handles)
    revokes_all_at d [] h = h
    revokes_all_at d (handle ∷ rest) h = revokes_all_at (revokes d handle) rest (revokes_row_at d handle (chunk_of d.master.logged.table handle) h)

    begins_at : (d : MasterDoing) (s : PendingSnapshot) → Asked s.client s.number → At d → At (begins_snapshot d s)
    begins_at d s asked h =
        let handles : List ℕ = snapshot_handles d.master s in
        let copies : List ℕ = copies_for_files d.master.logged (snapshot_files d.master s) in
        let left : MasterDoing = gives_up_copies (without_attempts (takes_locks d s) handles) copies in
        let locked : AreAsked (d.master.snapshots ++ s ∷ []) d.master.logged d.master.disk d.changes =
        record { kept = h.kept; waits = all_one_more (λ t. Asked t.client t.number) d.master.snapshots s h.waits asked; log = h.log } in
        revokes_all_at left handles (fewer (d.master.snapshots ++ s ∷ []) d.master.logged d.master.disk d.changes copies locked)

    performs_at : (d : MasterDoing) (client number deadline : ℕ) (c : Call) → Asked client number → At d → At (performs d client number deadline c)
    performs_at d client number deadline (call.Mkdir p) asked h = changes_at d client number (call.Mkdir p) (log.Mkdir (client_id client) number p) (λ l. refl) asked h
    performs_at d client number deadline (call.Rmdir p) asked h = changes_at d client number (call.Rmdir p) (log.Rmdir (client_id client) number p) (λ l. refl) asked h
    performs_at d client number deadline (call.Create p shape) asked h = changes_at d client number (call.Create p shape) (log.Create (client_id client) number (file_id d.master.logged.next_file) (told_shape d.master.config shape) p) (λ l. refl) asked h
    performs_at d client number deadline (call.Delete p) asked h = changes_at d client number (call.Delete p) (log.Delete (client_id client) number (moment_of d.master.now) p) (λ l. refl) asked h
    performs_at d client number deadline (call.Rename p q) asked h = changes_at d client number (call.Rename p q) (log.Rename (client_id client) number p q) (λ l. refl) asked h
    performs_at d client number deadline (call.Snapshot p q) asked h = begins_at d (record { client = client; number = number; deadline = deadline; from = p; to = q }) asked h
    performs_at d client number deadline other asked h = h

    by_at : (d : MasterDoing) (client number deadline : ℕ) (c : Call) (o : Option Refusal) → Asked client number → At d → At (names_by d client number deadline c o)
    by_at d client number deadline c (Some refusal) asked h = refuses_at d client number refusal asked h
    by_at d client number deadline c None asked h = performs_at d client number deadline c asked h

    anew_at : (d : MasterDoing) (client number deadline : ℕ) (c : Call) → Asked client number → At d → At (names_anew d client number deadline c)
    anew_at d client number deadline c asked h =
        on_test At (nat_le deadline d.master.now) d _ h
        (on_test At (is_waiting_call d.master client number) d (names_by d client number deadline c (master_refusal d.master c)) h (by_at d client number deadline c (master_refusal d.master c) asked h))

    kept_at : (d : MasterDoing) (client number deadline : ℕ) (c : Call) (o : Option KeptCall) → Asked client number → At d → At (names_kept d client number deadline c o)
    kept_at d client number deadline c None asked h = anew_at d client number deadline c asked h
    kept_at d client number deadline c (Some k) asked h =
        on_test At (k.number == number) (answers_name d client number k.refusal) _ h (on_test At (nat_lt number k.number) d (names_anew d client number deadline c) h (anew_at d client number deadline c asked h))

    -- a message that asks under this number
    abbrev pub IsAsking : ℕ → Body → Type 0
    IsAsking client (body.Name number deadline c) = Asked client number
    IsAsking client other = Unit {0}

    takes_at : (d : MasterDoing) (x : Message) (b : Body) → IsAsking (client_number x.sender) b → AreCopiesOfFiles d.master.logged → At d → At (master_takes d x b)
    takes_at d x (body.Name number deadline c) asked copied h = kept_at d (client_number x.sender) number deadline.0 c (table.get d.master.logged.kept (client_number x.sender)) asked h
    takes_at d x (body.Look number c) asked copied h = h
    takes_at d x other asked copied h = (takes_here OfStep chunks_keep d x other tt (h, copied)).0

    expires_at : (d : MasterDoing) (files : List ℕ) → At d → At (expires_all d files)
    expires_at d [] h = h
    expires_at d (file ∷ rest) h =
        let r : Record = log.Expired (file_id file) in
        expires_at (logs d r (λ e. e)) rest (logs_at d r (λ e. e) (λ e g. g) (λ e g. recorded e.master.snapshots e.master.logged e.master.disk e.changes r g.kept g) h)

    clone_at : (d : MasterDoing) (o : Option CloneOrder) → At d → At (orders_clone d o)
    clone_at d None h = h
    clone_at d (Some c) h = h

    abbrev pub IsInputAsking : NodeInput → Type 0
    IsInputAsking (input.Deliver x) = IsAsking (client_number x.sender) x.body
    IsInputAsking input.Tick = Unit {0}

    does_at : (d : MasterDoing) (i : NodeInput) → AreCopiesOfFiles d.master.logged → IsInputAsking i → At d → At (master_does d i)
    does_at d (input.Deliver x) copied asked h = takes_at d x x.body asked copied h
    does_at d input.Tick copied asked h =
        let a : MasterDoing = gives_up_lost_copies (gives_up_attempts d) in
        let b : MasterDoing = expires_old a in
        clone_at b (best_clone b.master (table.entries b.master.logged.table.chunks))
        (expires_at a (expired_files a.master) (fewer d.master.snapshots d.master.logged d.master.disk d.changes (lost_copies (gives_up_attempts d).master) h))

    ready_at : (d : MasterDoing) (rest : List PendingSnapshot) → AreWaiting rest → At d → At (takes_ready d rest)
    ready_at d [] asked h = h
    ready_at d (s ∷ rest) asked h =
        let left : AreWaiting (lets_go d s).master.snapshots = all_some (λ t. Asked t.client t.number) (λ t. not (is_same_snapshot s t)) d.master.snapshots h.waits in
        let less : At (lets_go d s) = record { kept = h.kept; waits = left; log = h.log } in
        on_test (λ (e : MasterDoing). At (takes_ready e rest)) (is_ready d.master s) (takes_snapshot d s) d
        (ready_at (takes_snapshot d s) rest asked.1 (changes_at (lets_go d s) s.client s.number (call.Snapshot s.from s.to) (log.Snapshot (client_id s.client) s.number s.from s.to) (λ l. refl) asked.0 less))
        (ready_at d rest asked.1 h)

    pub goes_at : (d : MasterDoing) (i : NodeInput) → AreCopiesOfFiles d.master.logged → IsInputAsking i → At d → At (takes_ready (master_does d i) (master_does d i).master.snapshots)
    goes_at d i copied asked h =
        let done : At (master_does d i) = does_at d i copied asked h in
        ready_at (master_does d i) (master_does d i).master.snapshots done.waits done

    -- a master that opens
    pub opens_at : (d : MasterDoing) (epoch : ℕ) → At d → At (logs d (log.Epoch epoch) (λ e. e))
    opens_at d epoch h = logs_at d (log.Epoch epoch) (λ e. e) (λ e g. g) (λ e g. recorded e.master.snapshots e.master.logged e.master.disk e.changes (log.Epoch epoch) g.kept g) h
