-- Locks that are taken and go back, files that are collected, and records about chunks.
use Rattle.std.proofs.Common.{◌≡◌, ⊎_elim, ℕ, suc, Bool, true, false, cond, List, [], ◌∷◌, Option, Some, None, refl, sym, ap, subst, ◌∙◌, inl, inr}
use Rattle.std.specs.Prelude.{IsTrue, IfSome, find, unwrap_or}
use Rattle.std.specs.List.{AllByRecursion}
use Rattle.std.proofs.lemmas.Option.{none-some}
use Rattle.std.proofs.lemmas.Bool.{true≢false, eqb-true, eq-eqb}
use Rattle.std.specs.FinMap as table
use Rattle.gfs_types.specs.declared.call.Call.{Call}
use Rattle.gfs_types.specs.Paths.{Path, hidden_name}
use Rattle.log_records.specs.declared.record.Record.{Record}
use Rattle.log_records.specs.declared.record.Record.TheVariants as log
use Rattle.relaxed_file.specs.Names.{Names, Node, Dir, File, node_at}
use Rattle.relaxed_file.specs.Machine.{Machine, FileState, OpenCall, put}
use Rattle.relaxed_file.specs.NameStep.{refusal_of}
use Rattle.relaxed_file.specs.Locks.{is_snapshot}
use Rattle.chunk_table.specs.ChunkTable.{grant, no_shape}
use Rattle.relaxed_file.specs.Run.{Lock, after, expired}
use Rattle.relaxed_file.proofs.Tables.{from_some}
use Rattle.relaxed_file.proofs.NamesTree.{HasAt, found_at, entry_is}
use Rattle.protocol.specs.Logged.{Logged, Copy, after_record, copies_given_up, is_this_file, name_removed, without_file, swapped_in}
use Rattle.protocol.specs.Master.{PendingSnapshot}
use Rattle.laws_names.specs.Alike.{Requests, AreUntaken, HoldsLocks, AreAlike}
use Rattle.laws_names.specs.NameSteps.{LocksAreTaken, LocksGoBack, ExpiredFilesAreCollected, IsOnlyName, IsOfChunks, ChunksChangeNoNames}
use Rattle.laws_names.proofs.OpenCalls.{GoesOn, step_goes_on, kept_stays, untaken_stays, all_hold_still, none_of_client, some_hold, one_more_holds, waits_still, all_still}
use Rattle.laws_names.proofs.FilesThere.{AreIn, files_in, files_alike, file_out, put_again}
use Rattle.laws_names.specs.Names.{snapshot_refusal}
use Rattle.laws_names.proofs.ShapesThere.{shape_gone}
use Rattle.laws_base.proofs.ShapesTold.{swapped_shapes}
use Rattle.gfs_types.specs.declared.shape.Shape.{Shape}
use Rattle.protocol.specs.Tables.{Table}

pub locks_are_taken : LocksAreTaken
locks_are_taken l snapshots m requests s h new free =
    let n : Machine = after m (Lock s.client) in
    let later : OpenCall = record new.current { has_locks = true; has_begun = true } in
    let g : GoesOn m n s.client new.current later = step_goes_on m m s.client new.current (λ c. record c { has_locks = true }) refl new.waiting.is_open (λ o has. has) in
    let still : AllByRecursion (HoldsLocks n requests) snapshots =
    all_hold_still m n requests s.client new.current later g snapshots (none_of_client m requests s.client s.number snapshots new.waiting.number_is new.alone h.locks) h.locks in
    let one : HoldsLocks n requests s =
    record { current = later; waiting = record { is_open = g.after; number_is = new.waiting.number_is }; call_is = new.call_is; has_locks = refl; untaken = new.untaken } in (
      (
        new.current,
        new.waiting.is_open,
        (
          ap is_snapshot new.call_is,
          new.untaken,
          ap (λ (c : Call). refusal_of m.config m.names c) new.call_is ∙ ap (λ (names : Names). snapshot_refusal names s) (sym h.names) ∙ free,
        ),
      ),
      record {
        names = h.names;
        next = h.next;
        files = h.files;
        shapes = h.shapes;
        kept = λ q k is. kept_stays m n requests s.client new.current later g q k (h.kept q k is);
        untaken = untaken_stays m n requests s.client new.current later g l.kept h.untaken (λ number plain. inl new.untaken);
        locks = one_more_holds n requests snapshots s still one;
      },
    )

pub locks_go_back : LocksGoBack
locks_go_back l snapshots m requests stays h = record { names = h.names; next = h.next; files = h.files; shapes = h.shapes; kept = h.kept; untaken = h.untaken; locks = some_hold m requests stays snapshots h.locks }

-- files that are collected

found_file : (file : ℕ) (es : List (Path × Node)) (e : Path × Node) → find (λ x. is_this_file file x.1) es ≡ Some e → HasAt es e.0 e.1 × (e.1 ≡ File file)
found_file file [] e h = absurd (none-some e h)
found_file file (x ∷ es) e h = by_test (is_this_file file x.1) refl (λ g. found_file file es e g) h
  where
    file_is : (v : Node) → is_this_file file v ≡ true → v ≡ File file
    file_is Dir is = absurd (true≢false (sym is))
    file_is (File id) is = ap File (eqb-true id file is)

    by_test : (b : Bool) → is_this_file file x.1 ≡ b → (find (λ y. is_this_file file y.1) es ≡ Some e → HasAt es e.0 e.1 × (e.1 ≡ File file)) → cond b (Some x) (find (λ y. is_this_file file y.1) es) ≡ Some e
        → HasAt (x ∷ es) e.0 e.1 × (e.1 ≡ File file)
    by_test true is rest g =
        let same : x ≡ e = from_some g in
        (inl (ap (λ (y : Path × Node). y.0) same, ap (λ (y : Path × Node). y.1) same), ap (λ (y : Path × Node). y.1) (sym same) ∙ file_is x.1 is)
    by_test false is rest g = let r = rest g in (inr r.0, r.1)

none_found : (file : ℕ) (es : List (Path × Node)) (p : Path) → find (λ x. is_this_file file x.1) es ≡ None → HasAt es p (File file) → ⊥
none_found file [] p none has = has
none_found file (x ∷ es) p none has = by_test (is_this_file file x.1) refl (λ g h. none_found file es p g h) none
  where
    by_test : (b : Bool) → is_this_file file x.1 ≡ b → (find (λ y. is_this_file file y.1) es ≡ None → HasAt es p (File file) → ⊥) → cond b (Some x) (find (λ y. is_this_file file y.1) es) ≡ None → ⊥
    by_test true is rest g = none-some x (sym g)
    by_test false is rest g =
        ⊎_elim (λ here. true≢false (sym (ap (λ (v : Node). is_this_file file v) here.1 ∙ eq-eqb file file refl) ∙ is)) (λ later. rest g later) has

-- the only name of a file is the one that goes
name_goes : (names : Names) (path : Path) (file : ℕ) → IsOnlyName names path file → without_file names file ≡ table.remove names path
name_goes names path file only = by_found (find (λ e. is_this_file file e.1) (table.entries names)) refl
  where
    by_found : (o : Option (Path × Node)) → find (λ e. is_this_file file e.1) (table.entries names) ≡ o → name_removed names o ≡ table.remove names path
    by_found None is = absurd (none_found file (table.entries names) path is (found_at path (table.entries names) (File file) (sym (table.get-entries names path) ∙ only.0)))
    by_found (Some e) is =
        let found = found_file file (table.entries names) e is in
        ap (λ (p : Path). table.remove names p) (only.1 e.0 (entry_is names e.0 (File file) (subst (λ (v : Node). HasAt (table.entries names) e.0 v) found.1 found.0)))

pub expired_files_are_collected : ExpiredFilesAreCollected
expired_files_are_collected l snapshots m requests file moment h only has kept_long =
    let n : Machine = expired m file moment in
    let gone : FileState = record (m.files file) { is_collected = true } in
    let out : AreIn (table.remove l.table.files file) (put file gone m.files) (suc m.file_count) = file_out l.table.files m.files (suc m.file_count) file gone refl (files_in l.table.files m h.files) in (
      (ap (λ (names : Names). node_at names (hidden_name moment file)) (sym h.names) ∙ only.0, kept_long),
      record {
        names = name_goes l.names (hidden_name moment file) file only ∙ ap (λ (names : Names). table.remove names (hidden_name moment file)) h.names;
        next = h.next;
        files = files_alike (table.remove l.table.files file) n out;
        shapes = shape_gone l.table.files l.table.shapes m.files file gone h.shapes;
        kept = λ client k is c w. h.kept client k is c (waits_still m n requests client k.number c refl w);
        untaken = λ client number c w plain. h.untaken client number c (waits_still m n requests client number c refl w) plain;
        locks = all_still m n requests snapshots refl h.locks;
      },
    )

-- chunks

same_but_chunks : (l k : Logged) (snapshots : List PendingSnapshot) (m : Machine) (requests : Requests) → l.names ≡ k.names → l.next_file ≡ k.next_file
    → ((file : ℕ) → table.contains_key k.table.files file ≡ table.contains_key l.table.files file) → k.table.shapes ≡ l.table.shapes → l.kept ≡ k.kept → AreAlike l snapshots m requests → AreAlike k snapshots m requests
same_but_chunks l k snapshots m requests names next files shapes kept h =
    record {
      names = sym names ∙ h.names;
      next = sym next ∙ h.next;
      files = λ file. files file ∙ h.files file;
      shapes = λ file has. ap (λ (t : Table Shape). unwrap_or (table.get t file) no_shape) shapes ∙ h.shapes file (sym (files file) ∙ has);
      kept = λ client c is. h.kept client c (ap (λ t. table.get t client) kept ∙ is);
      untaken = subst (λ t. AreUntaken t m requests) kept h.untaken;
      locks = h.locks;
    }

swapped : (l : Logged) (handle : ℕ) (o : Option Copy) → IfSome o (λ copy. IsTrue (table.contains_key l.table.files copy.file)) → (file : ℕ) → table.contains_key (swapped_in l handle o).table.files file ≡ table.contains_key l.table.files file
swapped l handle None there file = refl
swapped l handle (Some copy) there file = put_again l.table.files copy.file _ file there

swapped_same : (l : Logged) (handle : ℕ) (o : Option Copy) → ((swapped_in l handle o).names ≡ l.names) × ((swapped_in l handle o).next_file ≡ l.next_file) × ((swapped_in l handle o).kept ≡ l.kept)
swapped_same l handle None = (refl, refl, refl)
swapped_same l handle (Some copy) = (refl, refl, refl)

chunk_record : (l : Logged) (snapshots : List PendingSnapshot) (m : Machine) (requests : Requests) → AreAlike l snapshots m requests → (entry : Record) → IsOfChunks l entry → AreAlike (after_record l entry) snapshots m requests
chunk_record l snapshots m requests h (log.Epoch epoch) is = same_but_chunks l (after_record l (log.Epoch epoch)) snapshots m requests refl refl (λ file. refl) refl refl h
chunk_record l snapshots m requests h (log.AddChunk file handle) is =
    same_but_chunks l (after_record l (log.AddChunk file handle)) snapshots m requests refl refl (λ q. put_again l.table.files file.0 _ q is) refl refl h
chunk_record l snapshots m requests h (log.Issue handle version) is = same_but_chunks l (after_record l (log.Issue handle version)) snapshots m requests refl refl (λ file. refl) refl refl h
chunk_record l snapshots m requests h (log.Grant handle version primary members) is =
    let granted : Logged = record l { table = grant l.table handle.0 version.0 primary.0 members } in
    let o : Option Copy = table.get l.copies handle.0 in
    let same = swapped_same granted handle.0 o in
    same_but_chunks l (after_record l (log.Grant handle version primary members)) snapshots m requests (sym same.0) (sym same.1) (swapped granted handle.0 o is) (swapped_shapes granted handle.0 o) (sym same.2) h
chunk_record l snapshots m requests h (log.CopyStart file index handle copy copy_version) is =
    same_but_chunks l (after_record l (log.CopyStart file index handle copy copy_version)) snapshots m requests refl refl (λ q. refl) refl refl h
chunk_record l snapshots m requests h other is = absurd is

pub chunks_change_no_names : ChunksChangeNoNames
chunks_change_no_names l snapshots m requests h = (
  chunk_record l snapshots m requests h,
  λ handles. same_but_chunks l (copies_given_up l handles) snapshots m requests refl refl (λ file. refl) refl refl h,
)
