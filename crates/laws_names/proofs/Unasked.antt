-- A snapshot that is taken, and files that expire.
use Rattle.std.proofs.Common.{◌≡◌, ℕ, ◌+◌, ◌≤◌, Bool, true, false, cond, List, [], ◌∷◌, ◌++◌, Some, None, refl, sym, ap, subst, ◌∙◌, inl, inr}
use Rattle.std.specs.Prelude.{◌==◌, ◌&&◌, ◌||◌, not, filter, nat_lt, nat_le, Contains, IsFalse}
use Rattle.std.specs.List.{AllByRecursion}
use Rattle.std.proofs.lemmas.Bool.{true≢false, eq-eqb, eqb-true, and_parts, or_parts}
use Rattle.std.proofs.lemmas.Option.{none-some}
use Rattle.std.specs.FinMap as table
use Rattle.gfs_types.specs.Paths.{Path, hidden_name}
use Rattle.log_records.specs.declared.record.Record.{Record}
use Rattle.log_records.specs.declared.record.Record.TheVariants as log
use Rattle.relaxed_file.specs.Names.{Names, Node, Dir, File, node_at}
use Rattle.relaxed_file.specs.Machine.{Machine, FileState}
use Rattle.relaxed_file.specs.NameStep.{AllRoundsClosed}
use Rattle.relaxed_file.specs.Names.{copied_entries}
use Rattle.relaxed_file.specs.Run.{Expire, after}
use Rattle.relaxed_file.proofs.Tables.{from_some, contained, put_other as put_apart}
use Rattle.relaxed_file.proofs.NamesTree.{removed_other, removed_there, same_or_other}
use Rattle.protocol.specs.Tables.{has_number}
use Rattle.protocol.specs.Sending.{client_id, client_number, file_id}
use Rattle.protocol.specs.Logged.{Logged, LogDisk, LogChange, AppendRecord, after_record, checkpoint_of}
use Rattle.protocol.specs.LogSizes.{checkpoint_fits}
use Rattle.protocol.specs.Master.{MasterDoing, PendingSnapshot, fits, appends, writes_checkpoint, logs, logs_after_checkpoint, is_of_copy}
use Rattle.protocol.specs.MasterNames.{snapshot_call}
use Rattle.gfs_types.specs.declared.call.Call.TheVariants as call
use Rattle.protocol.specs.MasterSnapshots.{is_same_snapshot, lets_go, takes_snapshot}
use Rattle.protocol.specs.MasterStep.{expires_all}
use Rattle.messages.specs.declared.message.Body.{Body}
use Rattle.messages.specs.declared.message.Body.TheVariants as body
use Rattle.messages.specs.declared.message.Message.{Message}
use Rattle.laws_names.specs.Alike.{Requests, is_there, HoldsLocks, AreAlike, IsNew, waits_among}
use Rattle.laws_names.specs.NameSteps.{AreNamedFilesThere, IsOnlyName}
use Rattle.laws_names.proofs.OpenCalls.{waits_still}
use Rattle.laws_names.proofs.LocksAndFiles.{locks_go_back, chunks_change_no_names, expired_files_are_collected}
use Rattle.laws_names.specs.NameTrails.{IsChangeOf}
use Rattle.laws_names.specs.Followed.{RunsTo, IsTold, IsToldTo, IsFollowed}
use Rattle.laws_names.proofs.Moves.{IsMove, Keeps, At, Reaches, here, alike_at, appends_at, checkpoint_at, stays, join, one_action, kept_same}
use Rattle.laws_names.proofs.NameWalk.{changes_at}
use Rattle.laws_names.specs.UnaskedSteps.{SnapshotsAreFollowed, IsOldFile, AreOldFiles, ExpirationsAreFollowed}
use Rattle.laws_names.specs.Names.{snapshot_refusal}

on_test : {A : Type 0} (P : A → Type 0) (b : Bool) (x y : A) → (b ≡ true → P x) → (b ≡ false → P y) → P (cond b x y)
on_test P true x y f g = f refl
on_test P false x y f g = g refl

-- the snapshot that is let go waits no more

both_true : (a b c d : ℕ) → a ≡ b → c ≡ d → (a == b) && (c == d) ≡ true
both_true a b c d e f = ap (λ x. x && (c == d)) (eq-eqb a b e) ∙ eq-eqb c d f

kept_other : (s t : PendingSnapshot) → not (is_same_snapshot s t) ≡ true → (t.client == s.client) && (t.number == s.number) ≡ false
kept_other s t other = by_test ((t.client == s.client) && (t.number == s.number)) refl
  where
    by_test : (b : Bool) → (t.client == s.client) && (t.number == s.number) ≡ b → b ≡ false
    by_test false is = refl
    by_test true is =
        let parts = and_parts (t.client == s.client) (t.number == s.number) is in
        let same : is_same_snapshot s t ≡ true = both_true s.client t.client s.number t.number (sym (eqb-true t.client s.client parts.0)) (sym (eqb-true t.number s.number parts.1)) in
        absurd (true≢false (sym other ∙ ap not same))

gone : (s : PendingSnapshot) (snapshots : List PendingSnapshot) → waits_among (filter (λ t. not (is_same_snapshot s t)) snapshots) s.client s.number ≡ false
gone s [] = refl
gone s (t ∷ rest) =
    let more : waits_among (filter (λ u. not (is_same_snapshot s u)) rest) s.client s.number ≡ false = gone s rest in
    on_test (λ (ss : List PendingSnapshot). waits_among ss s.client s.number ≡ false) (not (is_same_snapshot s t)) (t ∷ filter (λ u. not (is_same_snapshot s u)) rest) (filter (λ u. not (is_same_snapshot s u)) rest)
    (λ other. ap (λ (b : Bool). b || waits_among (filter (λ u. not (is_same_snapshot s u)) rest) s.client s.number) (kept_other s t other) ∙ more) (λ _. more)

-- old files at the machine

abbrev pub IsOldAt : Machine → ℕ → Type 0
IsOldAt m file = (moment : ℕ) × IsOnlyName m.names (hidden_name moment file) file × (is_there m file ≡ true) × (moment + m.config.keep_ms ≤ m.clock)

abbrev pub AreOldAt : Machine → List ℕ → Type 0
AreOldAt m [] = Unit {0}
AreOldAt m (file ∷ rest) = IsOldAt m file × IsFalse (has_number rest file) × AreOldAt m rest

-- at names that both have
pub old_here : (l : Logged) (snapshots : List PendingSnapshot) (m : Machine) (requests : Requests) (files : List ℕ) → AreAlike l snapshots m requests → AreOldFiles l m files → AreOldAt m files
old_here l snapshots m requests [] h all = tt
old_here l snapshots m requests (file ∷ rest) h all =
    let one : IsOldFile l m file = all.0 in (
      (one.0, subst (λ (names : Names). IsOnlyName names (hidden_name one.0 file) file) h.names one.1, sym (h.files file) ∙ one.2, one.3),
      all.1,
      old_here l snapshots m requests rest h all.2,
    )

id_of : Node → ℕ
id_of Dir = 0
id_of (File id) = id

same_id : (one two : ℕ) → File one ≡ File two → one ≡ two
unfolding id_of
same_id one two same = ap id_of same

-- one file goes, and another one stays old
still_old : (m : Machine) (file moment other : ℕ) → node_at m.names (hidden_name moment file) ≡ Some (File file) → (other ≡ file → ⊥) → IsOldAt m other → IsOldAt (after m (Expire file moment)) other
still_old m file moment other at apart old =
    let path : Path = hidden_name old.0 other in
    let apart_paths : path ≡ hidden_name moment file → ⊥ =
    λ same. apart (same_id other file (from_some (sym (old.1).0 ∙ ap (λ (p : Path). node_at m.names p) same ∙ at))) in
    let before : (q : Path) → node_at (table.remove m.names (hidden_name moment file)) q ≡ Some (File other) → node_at m.names q ≡ Some (File other) =
    λ q is. elim (same_or_other q (hidden_name moment file)) [
      | inl same ↦ absurd (none-some (File other) (sym (removed_there m.names (hidden_name moment file) q same) ∙ is))
      | inr differ ↦ sym (removed_other m.names (hidden_name moment file) q differ) ∙ is
    ] in (
      old.0,
      (removed_other m.names (hidden_name moment file) path apart_paths ∙ (old.1).0, λ q is. (old.1).1 q (before q is)),
      ap (λ (f : FileState). nat_lt 0 other && nat_le other m.file_count && not f.is_collected) (put_apart file _ m.files other apart) ∙ old.2,
      old.3,
    )

all_still_old : (m : Machine) (file moment : ℕ) (files : List ℕ) → node_at m.names (hidden_name moment file) ≡ Some (File file) → has_number files file ≡ false → AreOldAt m files → AreOldAt (after m (Expire file moment)) files
all_still_old m file moment [] at apart all = tt
all_still_old m file moment (other ∷ rest) at apart all =
    let parts = or_parts (other == file) (has_number rest file) apart in
    (still_old m file moment other at (λ same. true≢false (sym (eq-eqb other file same) ∙ parts.0)) all.0, all.1, all_still_old m file moment rest at parts.1 all.2)

told_still : (m n : Machine) (requests : Requests) (client : ℕ) (b : Body) → n.clients ≡ m.clients → IsToldTo m requests client b → IsToldTo n requests client b
told_still m n requests client (body.Named number reply) same told = λ c w. told c (waits_still m n requests client number c same w)
told_still m n requests client other same told = tt

-- the record of a file that expires
expire_move : (l : Logged) (m : Machine) (requests : Requests) (snapshots : List PendingSnapshot) (file : ℕ) (old : IsOldAt m file) → AreAlike l snapshots m requests
    → IsMove m (after m (Expire file old.0)) requests snapshots snapshots (λ x. after_record x (log.Expired (file_id file)))
expire_move l m requests snapshots file old h =
    let n : Machine = after m (Expire file old.0) in
    record {
      run = one_action m (Expire file old.0) ((old.1).0, old.3) refl refl;
      alike = λ x a. collected x snapshots a;
      alone = λ x a. collected x [] a;
      told = λ x t. told_still m n requests (client_number x.receiver) x.body refl t;
      kept_on = λ x ss a. kept_same requests x.kept;
    }
  where
    collected : (x : Logged) (ss : List PendingSnapshot) → AreAlike x ss m requests → AreAlike (after_record x (log.Expired (file_id file))) ss (after m (Expire file old.0)) requests
    collected x ss a =
        (expired_files_are_collected x ss m requests file old.0 a (subst (λ (names : Names). IsOnlyName names (hidden_name old.0 file) file) (sym a.names) old.1) (a.files file ∙ old.2) old.3).1

module _ (requests : Requests) (P : Machine → Logged → LogDisk → List LogChange → List Message → List PendingSnapshot → Type 0) (k : Keeps requests P) where
  -- so far the machine followed, and these are still old
  abbrev Left : Machine → List ℕ → MasterDoing → Type 0
  Left m files d = (n : Machine) × RunsTo m n × At requests P k n d × AreOldAt n files

  one_at : (m : Machine) (d : MasterDoing) (file : ℕ) (rest : List ℕ) → AreOldAt m (file ∷ rest) → At requests P k m d → Left m rest (logs d (log.Expired (file_id file)) (λ e. e))
  one_at m d file rest all h =
      let r : Record = log.Expired (file_id file) in
      let e : MasterDoing = writes_checkpoint d in
      let was : Bool = is_of_copy d.master.logged r in
      let old : IsOldAt m file = all.0 in
      let n : Machine = after m (Expire file old.0) in
      let left : AreOldAt n rest = all_still_old m file old.0 rest (old.1).0 all.1 all.2 in
      let less : At requests P k m e = checkpoint_at requests P k m d h in
      let move = expire_move d.master.logged m requests d.master.snapshots file old (alike_at requests P k m d h) in
      let change : IsChangeOf m n (AppendRecord r) = inr (Expire file old.0, ((old.1).0, old.3), refl, refl) in
      on_test (λ (x : MasterDoing). Left m rest x) (fits d r) (appends d r) _ (λ _. (n, move.run, appends_at requests P k m n d r move change h, left))
      (λ _. on_test (λ (x : MasterDoing). Left m rest x) (checkpoint_fits d.master.config.log_bytes (checkpoint_of d.master.logged)) (logs_after_checkpoint e r was (λ x. x)) d
      (λ _. on_test (λ (x : MasterDoing). Left m rest x) (fits e r && not was) (appends e r) e (λ _. (n, move.run, appends_at requests P k m n e r move change less, left)) (λ _. (m, stays m, less, all.2)))
      (λ _. (m, stays m, h, all.2)))

  pub expires_at : (m : Machine) (d : MasterDoing) (files : List ℕ) → AreOldAt m files → At requests P k m d → Reaches requests P k m (expires_all d files)
  expires_at m d [] all h = here requests P k m d h
  expires_at m d (file ∷ rest) all h =
      let one : Left m rest (logs d (log.Expired (file_id file)) (λ e. e)) = one_at m d file rest all h in
      let more : Reaches requests P k one.0 (expires_all (logs d (log.Expired (file_id file)) (λ e. e)) rest) = expires_at one.0 (logs d (log.Expired (file_id file)) (λ e. e)) rest one.3 one.2 in
      (more.0, join m one.0 more.0 one.1 more.1, more.2)

  pub snapshot_at : (m : Machine) (d : MasterDoing) (s : PendingSnapshot) → AreNamedFilesThere d.master.logged → Contains d.master.snapshots s → snapshot_refusal d.master.logged.names s ≡ None
      → AllRoundsClosed m (copied_entries m.names s.from s.to) → At requests P k m d → Reaches requests P k m (takes_snapshot d s)
  snapshot_at m d s there among free closed h =
      let a : AreAlike d.master.logged d.master.snapshots m requests = alike_at requests P k m d h in
      let held : HoldsLocks m requests s = contained (HoldsLocks m requests) d.master.snapshots s a.locks among in
      let stay : PendingSnapshot → Bool = λ t. not (is_same_snapshot s t) in
      let move : IsMove m m requests d.master.snapshots (filter stay d.master.snapshots) (λ x. x) =
      record { run = stays m; alike = λ l b. locks_go_back l d.master.snapshots m requests stay b; alone = λ l b. b; told = λ x t. t; kept_on = λ l ss b. kept_same requests l.kept } in
      let e : MasterDoing = lets_go d s in
      let left : At requests P k m e = k.moves m m d.master.logged d.master.disk d.changes d.sent d.master.snapshots (filter stay d.master.snapshots) move ([], refl) h in
      let new : IsNew e.master.snapshots m requests s.client s.number (snapshot_call s) =
      record { current = held.current; waiting = held.waiting; call_is = held.call_is; untaken = held.untaken; alone = gone s d.master.snapshots } in
      changes_at requests P k m e s.client s.number 0 (call.Snapshot s.from s.to) (log.Snapshot (client_id s.client) s.number s.from s.to) there new refl free closed left

-- the names alike, and what clients are told

abbrev AreTold : Machine → Requests → List Message → Type 0
AreTold m requests sent = AllByRecursion (IsTold m requests) sent

all_told : (m n : Machine) (requests : Requests) (sent : List Message) → ((x : Message) → IsTold m requests x → IsTold n requests x) → AreTold m requests sent → AreTold n requests sent
all_told m n requests [] more all = tt
all_told m n requests (x ∷ rest) more all = (more x all.0, all_told m n requests rest more all.1)

one_more_told : (m : Machine) (requests : Requests) (sent : List Message) (x : Message) → IsTold m requests x → AreTold m requests sent → AreTold m requests (sent ++ x ∷ [])
one_more_told m requests [] x told all = (told, tt)
one_more_told m requests (y ∷ rest) x told all = (all.0, one_more_told m requests rest x told all.1)

abbrev Beside : Requests → Machine → Logged → LogDisk → List LogChange → List Message → List PendingSnapshot → Type 0
Beside requests m l k cs sent ss = AreAlike l ss m requests × AreTold m requests sent

beside_keeps : (requests : Requests) → Keeps requests (Beside requests)
beside_keeps requests =
    record {
      alike = λ m l k cs sent ss h. h.0;
      moves = λ m n l k cs sent ss later move quiet h. (move.alike l h.0, all_told m n requests sent move.told h.1);
      records = λ m n l k cs sent ss r move change h. (move.alike l h.0, all_told m n requests sent move.told h.1);
      tells = λ m l k cs sent ss x told h. (h.0, one_more_told m requests sent x told h.1);
      checkpoint = λ m l k cs sent ss h. ((chunks_change_no_names l ss m requests h.0).1 (table.keys l.copies), h.1);
      less = λ m l k cs sent ss handles h. ((chunks_change_no_names l ss m requests h.0).1 handles, h.1);
    }

followed : (m : Machine) (d : MasterDoing) (requests : Requests) → Reaches requests (Beside requests) (beside_keeps requests) m d → IsFollowed m d requests
followed m d requests r = (r.0, r.1, record { alike = (r.2).0; told = (r.2).1 })

pub snapshots_are_followed : SnapshotsAreFollowed
snapshots_are_followed d m requests s h there among free closed =
    followed m (takes_snapshot d s) requests (snapshot_at requests (Beside requests) (beside_keeps requests) m d s there among free closed (h.alike, h.told))

pub expirations_are_followed : ExpirationsAreFollowed
expirations_are_followed d m requests files h all =
    followed m (expires_all d files) requests
    (expires_at requests (Beside requests) (beside_keeps requests) m d files (old_here d.master.logged d.master.snapshots m requests files h.alike all) (h.alike, h.told))
