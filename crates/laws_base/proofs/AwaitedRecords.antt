-- What snapshots wait for stays quiet over records, checkpoints, attempts and copies.
use Rattle.std.proofs.Common.{◌≡◌, ◌⊎◌, ℕ, ◌≤◌, ◌<◌, Bool, true, false, cond, List, [], ◌∷◌, ◌++◌, Option, Some, None, refl, sym, ap, subst, ◌∙◌, inl, inr, arith}
use Rattle.std.specs.Prelude.{◌==◌, not, filter, find, unwrap_or}
use Rattle.std.specs.FinMap as table
use Rattle.std.proofs.lemmas.Bool.{true≢false, and_from}
use Rattle.gfs_types.specs.Paths.{Path, is_at_or_below, hidden_name}
use Rattle.log_records.specs.declared.record.Record.{Record}
use Rattle.log_records.specs.declared.record.Record.TheVariants as log
use Rattle.relaxed_file.specs.Names.{Names, Node, Dir, File, node_at, copied_entries, with_copies, id_after}
use Rattle.relaxed_file.specs.NameStep.{with_node, hidden}
use Rattle.relaxed_file.proofs.NamesTree.{Tree, same_or_other, inserted_there, inserted_other, removed_there, removed_other, copies_other, copies_are_new}
use Rattle.protocol.specs.Tables.{removed_all, has_number}
use Rattle.chunk_table.specs.ChunkTable.{ChunkTable, handles_of, grant}
use Rattle.protocol.specs.Logged.{Logged, Copy, after_record, copies_for_file, copies_given_up, swapped_in, is_this_file, name_removed, with_copied_node, with_copied_nodes}
use Rattle.protocol.specs.Master.{MasterState, VersionAttempt, PendingSnapshot}
use Rattle.protocol.specs.MasterSnapshots.{snapshot_handles, snapshot_files, copies_for_files, is_same_snapshot}
use Rattle.laws_base.proofs.Steps.{none_some, same_or_not, put_cases, put_there, put_other, gone_there, gone_other, kept_cases, removed_cases, count-cons, count-append}
use Rattle.laws_base.proofs.Entries.{same_number}
use Rattle.laws_base.proofs.ChunkRows.{rows_of}
use Rattle.laws_base.proofs.LeasesEnded.{HasEnded, ended_removed}
use Rattle.laws_base.proofs.FilesNamed.{Files}
use Rattle.laws_base.proofs.Owners.{stands, chunks_at, tally_other}
use Rattle.laws_base.specs.Laws.{times_in}
use Rattle.laws_base.proofs.CountsLogged.{next_grows}
use Rattle.laws_base.proofs.Namespace.{IsFree, IsNamespace, AreApart, IsAmong, among_free}
use Rattle.laws_base.proofs.MasterMoves.{IsDue, IsNoGrantRecord, grant_record}
use Rattle.laws_base.proofs.OneName.{HasOneName}
use Rattle.laws_base.proofs.ApartPaths.{turned, apart_not_below, none_below_both, none_hidden_below, AreLocksApart}
use Rattle.laws_base.proofs.Awaited.{Attempts, EachFile, IsQuietFile, IsQuiet, AreWaiting, IsUnawaited, handle_in, file_in, taken_out, copy_passes}

-- no version of the chunk is attempted
abbrev pub IsUntried : Attempts → ℕ → Type 0
IsUntried attempts handle = (a : VersionAttempt) → table.get attempts handle ≡ Some a → ⊥

-- What is known of a record beside what is due, where these snapshots wait: names that they copy from get no file, a number is issued and a copy begins only for what none waits for; as a number is issued, its chunk has no attempt and its lease has ended; what a Snapshot copies is quiet, and its leases have ended.
abbrev pub IsBeside : Logged → Attempts → List PendingSnapshot → ℕ → Record → Type 0
IsBeside l attempts ss now (log.Create client n file shape path) = (s : PendingSnapshot) → IsAmong ss s → AreApart path s.from
IsBeside l attempts ss now (log.Rename client n from to) = (s : PendingSnapshot) → IsAmong ss s → AreApart to s.from
IsBeside l attempts ss now (log.Snapshot client n from to) =
    IsFree l.names from to × ((s : PendingSnapshot) → IsAmong ss s → AreApart to s.from) × IsQuiet l attempts from
    × EachFile l.names from (λ id. (handle : ℕ) → 1 ≤ stands handle (chunks_at l.table.files id) → HasEnded now (rows_of l) handle)
IsBeside l attempts ss now (log.Issue handle version) = IsUnawaited l ss handle.0 × (times_in l.table.files handle.0 ≤ 1) × HasEnded now (rows_of l) handle.0 × IsUntried attempts handle.0
IsBeside l attempts ss now (log.CopyStart file index source copy copy_version) = (s : PendingSnapshot) → IsAmong ss s → EachFile l.names s.from (λ id. id ≡ file.0 → ⊥)
IsBeside l attempts ss now other = Unit {0}

-- fewer attempts and copies

quiet_less : (l : Logged) (attempts : Attempts) (handles : List ℕ) (from : Path) → IsQuiet l attempts from → IsQuiet (copies_given_up l handles) (removed_all attempts handles) from
quiet_less l attempts handles from h x id at is =
    let old = h x id at is in
    (λ handle some a there. old.0 handle some a (removed_cases attempts handles handle a there), λ copy c there. old.1 copy c (removed_cases l.copies handles copy c there))

pub waiting_less : (l : Logged) (attempts : Attempts) (ss : List PendingSnapshot) (handles : List ℕ) → AreWaiting l attempts ss → AreWaiting (copies_given_up l handles) (removed_all attempts handles) ss
waiting_less l attempts ss handles h = (λ handle a is. h.0 handle a (removed_cases attempts handles handle a is), λ s among. quiet_less l attempts handles s.from (h.1 s among), h.2)

pub waiting_fewer : (l : Logged) (attempts left : Attempts) (ss : List PendingSnapshot) → ((handle : ℕ) (a : VersionAttempt) → table.get left handle ≡ Some a → table.get attempts handle ≡ Some a) → AreWaiting l attempts ss
    → AreWaiting l left ss
waiting_fewer l attempts left ss from h = (
  λ handle a is. h.0 handle a (from handle a is),
  λ s among x id at is. let old = h.1 s among x id at is in (λ handle some a there. old.0 handle some a (from handle a there), old.1),
  h.2,
)

-- fewer snapshots
pub waiting_filtered : (l : Logged) (attempts : Attempts) (ss left : List PendingSnapshot) → ((s : PendingSnapshot) → IsAmong left s → IsAmong ss s) → AreWaiting l attempts ss → AreWaiting l attempts left
waiting_filtered l attempts ss left from h = (h.0, λ s among. h.1 s (from s among), λ s t one two other. h.2 s t (from s one) (from t two) other)

-- a record that is no copy's is still beside it after a checkpoint
pub beside_less : (l : Logged) (attempts : Attempts) (ss : List PendingSnapshot) (now : ℕ) (handles : List ℕ) (r : Record) → IsBeside l attempts ss now r → IsBeside (copies_given_up l handles) (removed_all attempts handles) ss now r
beside_less l attempts ss now handles (log.Create client n file shape path) h = h
beside_less l attempts ss now handles (log.Rename client n from to) h = h
beside_less l attempts ss now handles (log.Snapshot client n from to) h =
    (h.0, h.1, quiet_less l attempts handles from h.2, λ x id at is handle some. ended_removed now (rows_of l) handles handle (h.3 x id at is handle some))
beside_less l attempts ss now handles (log.Issue handle version) h = (h.0, h.1, ended_removed now (rows_of l) handles handle.0 h.2, λ a at. h.3 a (removed_cases attempts handles handle.0 a at))
beside_less l attempts ss now handles (log.CopyStart file index source copy copy_version) h = h
beside_less l attempts ss now handles other h = tt

-- names after a record

-- a file that has a name there had it before
abbrev IsNoNewName : Names → Names → Path → Type 0
IsNoNewName names more from = (x : Path) (id : ℕ) → is_at_or_below from x ≡ true → node_at more x ≡ Some (File id) → node_at names x ≡ Some (File id)

no_dir_file : {A : Type 0} (id : ℕ) → Some Dir ≡ Some (File id) → A
no_dir_file id h = absurd (cc)

dir_put : (names : Names) (p from : Path) → IsNoNewName names (table.insert names p Dir) from
dir_put names p from x id at is = elim (same_or_other x p) [
  | inl same ↦ no_dir_file id (sym (inserted_there names p Dir x same) ∙ is)
  | inr other ↦ sym (inserted_other names p Dir x other) ∙ is
]

name_gone : (names : Names) (p from : Path) → IsNoNewName names (table.remove names p) from
name_gone names p from x id at is = elim (same_or_other x p) [
  | inl same ↦ none_some (File id) (sym (removed_there names p x same) ∙ is)
  | inr other ↦ sym (removed_other names p x other) ∙ is
]

-- a name that isn't at or below it
name_put : (names : Names) (p : Path) (v : Node) (from : Path) → (is_at_or_below from p ≡ true → ⊥) → IsNoNewName names (table.insert names p v) from
name_put names p v from outside x id at is = elim (same_or_other x p) [
  | inl same ↦ absurd (outside (subst (λ (y : Path). is_at_or_below from y ≡ true) same at))
  | inr other ↦ sym (inserted_other names p v x other) ∙ is
]

apart_outside : (p from : Path) → AreApart p from → is_at_or_below from p ≡ true → ⊥
apart_outside p from apart at = apart_not_below from p (turned p from apart) at

name_hidden : (names : Names) (p : Path) (moment : ℕ) (from : Path) → ((id : ℕ) → is_at_or_below from (hidden_name moment id) ≡ true → ⊥) → (o : Option Node) → IsNoNewName names (hidden names p moment o) from
name_hidden names p moment from outside None x id at is = is
name_hidden names p moment from outside (Some Dir) x id at is = is
name_hidden names p moment from outside (Some (File file)) x id at is =
    name_gone names p from x id at (name_put (table.remove names p) (hidden_name moment file) (File file) from (outside file) x id at is)

name_moved : (names : Names) (p q : Path) (from : Path) → AreApart q from → (o : Option Node) → IsNoNewName names (with_node (table.remove names p) q o) from
name_moved names p q from apart None x id at is = name_gone names p from x id at is
name_moved names p q from apart (Some v) x id at is = name_gone names p from x id at (name_put (table.remove names p) q v from (apart_outside q from apart) x id at is)

file_gone : (names : Names) (o : Option (Path × Node)) (from : Path) → IsNoNewName names (name_removed names o) from
file_gone names None from x id at is = is
file_gone names (Some e) from x id at is = name_gone names e.0 from x id at is

names_copied : (names : Names) (p q : Path) (next : ℕ) (from to : Path) → Tree names → IsFree names p q → IsFree names from to → AreApart q from → IsNoNewName names (with_copies names next (copied_entries names p q)) from
names_copied names p q next from to tree free other apart x id at is =
    sym (copies_other (copied_entries names p q) names next x
    (λ v there. none_below_both q from x free.open_to other.open_from apart (copies_are_new names p q tree free.path_from free.path_to free.open_from free.open_to free.above free.free x v there).0 at))
    ∙ is

-- files after a record

abbrev IsNoNewHandle : Files → Files → ℕ → Type 0
IsNoNewHandle files more id = (handle : ℕ) → 1 ≤ stands handle (chunks_at more id) → 1 ≤ stands handle (chunks_at files id)

same_handles : (files more : Files) (id : ℕ) → table.get more id ≡ table.get files id → IsNoNewHandle files more id
same_handles files more id same handle some = subst (λ (o : Option (List ℕ)). 1 ≤ stands handle (unwrap_or o [])) same some

no_handles : (files more : Files) (id : ℕ) → chunks_at more id ≡ [] → IsNoNewHandle files more id
no_handles files more id none handle some = absurd (let count = ap (λ (l : List ℕ). stands handle l) none in omega (arith, count, some))

empty_file : (files : Files) (file id : ℕ) → IsNoNewHandle files (table.insert files file []) id
empty_file files file id = elim (same_or_not id file) [
  | inl same ↦ no_handles files (table.insert files file []) id (ap (λ (o : Option (List ℕ)). unwrap_or o []) (put_there files file [] id same))
  | inr other ↦ same_handles files (table.insert files file []) id (put_other files file [] id other)
]

gone_file : (files : Files) (file id : ℕ) → IsNoNewHandle files (table.remove files file) id
gone_file files file id = elim (same_or_not id file) [
  | inl same ↦ no_handles files (table.remove files file) id (ap (λ (o : Option (List ℕ)). unwrap_or o []) (gone_there files file id same))
  | inr other ↦ same_handles files (table.remove files file) id (gone_other files file id other)
]

pub copied_other : (t : ChunkTable) (next : ℕ) (es : List (Path × Node)) (id : ℕ) → id < next → table.get (with_copied_nodes t next es).files id ≡ table.get t.files id
copied_other t next [] id low = refl
copied_other t next (e ∷ es) id low = copied_other (with_copied_node t next e.1) (id_after next e.1) es id (later e.1) ∙ one e.1
  where
    later : (v : Node) → id < id_after next v
    later Dir = low
    later (File file) = omega (arith, low)

    one : (v : Node) → table.get (with_copied_node t next v).files id ≡ table.get t.files id
    one Dir = refl
    one (File file) = put_other t.files next (handles_of t file) id (λ same. omega (arith, low, same))

-- a file's new chunk is of a handle that no attempt has
added_quiet : (l : Logged) (attempts : Attempts) (file handle id : ℕ) → ((q : ℕ) (a : VersionAttempt) → table.get attempts q ≡ Some a → q < l.next_handle) → handle ≡ l.next_handle → IsQuietFile l.table.files l.copies attempts id
    → IsQuietFile (table.insert l.table.files file (handles_of l.table file ++ handle ∷ [])) l.copies attempts id
added_quiet l attempts file handle id numbered next h = (λ q some a there. by_key q some a there (same_or_not id file) (same_or_not q handle), h.1)
  where
    files : Files
    files = l.table.files

    more : List ℕ
    more = handles_of l.table file ++ handle ∷ []

    by_key : (q : ℕ) → 1 ≤ stands q (chunks_at (table.insert files file more) id) → (a : VersionAttempt) → table.get attempts q ≡ Some a → (id ≡ file) ⊎ (id ≡ file → ⊥) → (q ≡ handle) ⊎ (q ≡ handle → ⊥) → ⊥
    by_key q some a there (inr other) key = h.0 q (same_handles files (table.insert files file more) id (put_other files file more id other) q some) a there
    by_key q some a there (inl same) (inl new) = let low = numbered q a there in omega (arith, low, new, next)
    by_key q some a there (inl same) (inr old) =
        let all = ap (λ (o : Option (List ℕ)). stands q (unwrap_or o [])) (put_there files file more id same) in
        let parts = count-append (λ x. x == q) (handles_of l.table file) (handle ∷ []) in
        let last = count-cons (λ x. x == q) handle [] in
        let none = tally_other handle q old in
        let here = ap (λ (n : ℕ). stands q (chunks_at files n)) same in
        h.0 q (omega (arith, all, parts, last, none, here, some)) a there

-- a snapshot's file is quiet after a record

module _ (l : Logged) (attempts : Attempts) (ss : List PendingSnapshot) (now : ℕ) (named : IsNamespace l.names ss) (one_name : HasOneName l) (wait : AreWaiting l attempts ss) where
  free_of : (s : PendingSnapshot) → IsAmong ss s → IsFree l.names s.from s.to
  free_of s among = among_free l.names ss s named.free among

  abbrev IsStill : Logged → PendingSnapshot → Type 0
  IsStill k s = IsQuiet k attempts s.from

  -- where names and handles are none that are new, and copies none that are new
  still : (k : Logged) (s : PendingSnapshot) → IsAmong ss s → IsNoNewName l.names k.names s.from → ((x : Path) (id : ℕ) → node_at l.names x ≡ Some (File id) → IsNoNewHandle l.table.files k.table.files id)
      → ((copy : ℕ) (c : Copy) → table.get k.copies copy ≡ Some c → table.get l.copies copy ≡ Some c) → IsStill k s
  still k s among names handles copies x id at is =
      let was = names x id at is in
      let old = wait.1 s among x id at was in
      (λ handle some a there. old.0 handle (handles x id was handle some) a there, λ copy c there. old.1 copy c (copies copy c there))

  same_files : (x : Path) (id : ℕ) → node_at l.names x ≡ Some (File id) → IsNoNewHandle l.table.files l.table.files id
  same_files x id is handle some = some

  quiet_after : (s : PendingSnapshot) → IsAmong ss s → (r : Record) → IsDue (Unit {0}) l r → IsNoGrantRecord r → IsBeside l attempts ss now r → IsStill (after_record l r) s
  quiet_after s among (log.Mkdir client n path) due plain beside = still (after_record l (log.Mkdir client n path)) s among (dir_put l.names path s.from) same_files (λ copy c there. there)
  quiet_after s among (log.Rmdir client n path) due plain beside = still (after_record l (log.Rmdir client n path)) s among (name_gone l.names path s.from) same_files (λ copy c there. there)
  quiet_after s among (log.Create client n file shape path) due plain beside =
      still (after_record l (log.Create client n file shape path)) s among (name_put l.names path (File file.0) s.from (apart_outside path s.from (beside s among))) (λ x id is. empty_file l.table.files file.0 id) (λ copy c there. there)
  quiet_after s among (log.Delete client n moment path) due plain beside =
      let free = free_of s among in
      still (after_record l (log.Delete client n moment path)) s among (name_hidden l.names path moment.0 s.from (λ id. none_hidden_below s.from free.path_from free.open_from moment.0 id) (node_at l.names path)) same_files (λ copy c there. there)
  quiet_after s among (log.Rename client n from to) due plain beside =
      still (after_record l (log.Rename client n from to)) s among (name_moved l.names from to s.from (beside s among) (node_at l.names from)) same_files (λ copy c there. there)
  quiet_after s among (log.Snapshot client n from to) due plain beside =
      still (after_record l (log.Snapshot client n from to)) s among (names_copied l.names from to l.next_file s.from s.to named.tree beside.0 (free_of s among) (beside.1 s among))
      (λ x id is. same_handles l.table.files (with_copied_nodes l.table l.next_file (copied_entries l.names from to)).files id (copied_other l.table l.next_file (copied_entries l.names from to) id (one_name.named.numbered x id is)))
      (λ copy c there. there)
  quiet_after s among (log.Expired file) due plain beside =
      still (after_record l (log.Expired file)) s among (file_gone l.names (find (λ e. is_this_file file.0 e.1) (table.entries l.names)) s.from) (λ x id is. gone_file l.table.files file.0 id)
      (λ copy c there. removed_cases l.copies (copies_for_file l file.0) copy c there)
  quiet_after s among (log.AddChunk file handle) due plain beside = λ x id at is. added_quiet l attempts file.0 handle.0 id wait.0 due.0 (wait.1 s among x id at is)
  quiet_after s among (log.CopyStart file index source copy copy_version) due plain beside = λ x id at is.
      let old = wait.1 s among x id at is in (
        old.0,
        λ q c there same. elim (put_cases l.copies copy.0 (record { file = file.0; index = index; source = source.0 }) q c there) [
          | inl new ↦ beside s among x id at is (sym same ∙ sym (ap (λ (y : Copy). y.file) new.1))
          | inr before ↦ old.1 q c before same
        ],
      )
  quiet_after s among (log.Grant handle version primary members) due plain beside = absurd plain
  quiet_after s among (log.FileItem path file shape handles) due plain beside = absurd due
  quiet_after s among (log.ChunkItem handle granted issued primary members) due plain beside = absurd due
  quiet_after s among (log.DirItem path) due plain beside = absurd due
  quiet_after s among other due plain beside = wait.1 s among

  pub waiting_after : (r : Record) → IsDue (Unit {0}) l r → IsNoGrantRecord r → IsBeside l attempts ss now r → AreWaiting (after_record l r) attempts ss
  waiting_after r due plain beside = (
    λ handle a is. let low = wait.0 handle a is in let more = next_grows l l r due in omega (arith, low, more),
    λ s among. quiet_after s among r due plain beside,
    wait.2,
  )

  -- a grant of an attempt: a copy takes a place only in a file that no snapshot copies
  granted_files : (chunk version primary : ℕ) (members : List ℕ) (o : Option Copy) → table.get l.copies chunk ≡ o → (s : PendingSnapshot) → IsAmong ss s
      → EachFile l.names s.from (λ id. (handle : ℕ) → 1 ≤ stands handle (chunks_at (swapped_in (record l { table = grant l.table chunk version primary members }) chunk o).table.files id) → 1 ≤ stands handle (chunks_at l.table.files id))
  granted_files chunk version primary members None there s among x id at is handle some = some
  granted_files chunk version primary members (Some c) there s among x id at is handle some =
      same_handles l.table.files _ id (put_other l.table.files c.file _ id (λ same. (wait.1 s among x id at is).1 chunk c there (sym same))) handle some

  granted_names : (chunk version primary : ℕ) (members : List ℕ) (o : Option Copy) → (swapped_in (record l { table = grant l.table chunk version primary members }) chunk o).names ≡ l.names
  granted_names chunk version primary members None = refl
  granted_names chunk version primary members (Some c) = refl

  granted_copies : (chunk version primary : ℕ) (members : List ℕ) (o : Option Copy) (copy : ℕ) (c : Copy) → table.get (swapped_in (record l { table = grant l.table chunk version primary members }) chunk o).copies copy ≡ Some c → table.get l.copies copy ≡ Some c
  granted_copies chunk version primary members None copy c is = is
  granted_copies chunk version primary members (Some x) copy c is = kept_cases l.copies chunk copy c is

  pub waiting_granted : (chunk version primary : ℕ) (members : List ℕ) → IsDue (Unit {0}) l (grant_record chunk version primary members) → AreWaiting (after_record l (grant_record chunk version primary members)) (table.remove attempts chunk) ss
  waiting_granted chunk version primary members due = (
    λ handle a is. let low = wait.0 handle a (kept_cases attempts chunk handle a is) in let more = next_grows l l (grant_record chunk version primary members) due in omega (arith, low, more),
    λ s among x id at is.
        let was = subst (λ (names : Names). node_at names x ≡ Some (File id)) (granted_names chunk version primary members (table.get l.copies chunk)) is in
        let old = wait.1 s among x id at was in (
          λ handle some a there. old.0 handle (granted_files chunk version primary members (table.get l.copies chunk) refl s among x id at was handle some) a (kept_cases attempts chunk handle a there),
          λ copy c there. old.1 copy c (granted_copies chunk version primary members (table.get l.copies chunk) copy c there),
        ),
    wait.2,
  )

  -- an attempt of a used handle, for which no snapshot waits
  pub waiting_tried : (handle : ℕ) (a : VersionAttempt) → handle < l.next_handle → IsUnawaited l ss handle → AreWaiting l (table.insert attempts handle a) ss
  waiting_tried handle a used none = (
    λ q b is. elim (put_cases attempts handle a q b is) [
      | inl same ↦ subst (λ (n : ℕ). n < l.next_handle) (sym same.0) used
      | inr before ↦ wait.0 q b before
    ],
    λ s among x id at is.
        let old = wait.1 s among x id at is in (
          λ q some b there. elim (put_cases attempts handle a q b there) [
            | inl same ↦ none s among x id at is (subst (λ (n : ℕ). 1 ≤ stands n (chunks_at l.table.files id)) same.0 some)
            | inr before ↦ old.0 q some b before
          ],
          old.1,
        ),
    wait.2,
  )

  -- for what is attempted no snapshot waits
  pub tried_unawaited : (handle : ℕ) (a : VersionAttempt) → table.get attempts handle ≡ Some a → IsUnawaited l ss handle
  tried_unawaited handle a there s among x id at is some = (wait.1 s among x id at is).0 handle some a there

among_more : (ss : List PendingSnapshot) (s t : PendingSnapshot) → IsAmong (ss ++ s ∷ []) t → IsAmong ss t ⊎ (s ≡ t)
among_more [] s t (inl same) = inr same
among_more [] s t (inr none) = absurd none
among_more (x ∷ ss) s t (inl same) = inl (inl same)
among_more (x ∷ ss) s t (inr later) = elim (among_more ss s t later) [ inl before ↦ inl (inr before) | inr same ↦ inr same ]

same_itself : (s : PendingSnapshot) → is_same_snapshot s s ≡ true
same_itself s = and_from (s.client == s.client) (s.number == s.number) (same_number s.client) (same_number s.number)

-- One more snapshot waits: attempts of its chunks and copies for its files are given up.
pub waiting_more : (m : MasterState) (s : PendingSnapshot) → ((t : PendingSnapshot) → IsAmong m.snapshots t → AreLocksApart s.from t × AreLocksApart s.to t) → AreWaiting m.logged m.attempts m.snapshots
    → (let files : List ℕ = copies_for_files m.logged (snapshot_files m s) in
    AreWaiting (copies_given_up m.logged files) (removed_all (removed_all m.attempts (snapshot_handles m s)) files) (m.snapshots ++ s ∷ []))
waiting_more m s apart h =
    let handles : List ℕ = snapshot_handles m s in
    let files : List ℕ = copies_for_files m.logged (snapshot_files m s) in
    let less = waiting_less m.logged (removed_all m.attempts handles) m.snapshots files (waiting_fewer m.logged m.attempts (removed_all m.attempts handles) m.snapshots (λ q a is. removed_cases m.attempts handles q a is) h) in (
      less.0,
      λ t among. elim (among_more m.snapshots s t among) [
        | inl before ↦ less.1 t before
        | inr same ↦ subst (λ (u : PendingSnapshot). IsQuiet (copies_given_up m.logged files) (removed_all (removed_all m.attempts handles) files) u.from) same new
      ],
      λ t u one two other. elim (among_more m.snapshots s t one) [
        | inl t_before ↦ elim (among_more m.snapshots s u two) [
          | inl u_before ↦ less.2 t u t_before u_before other
          | inr u_new ↦ subst (λ (v : PendingSnapshot). AreApart t.to v.from) u_new (turned s.from t.to (apart t t_before).0.1)
        ]
        | inr t_new ↦ elim (among_more m.snapshots s u two) [
          | inl u_before ↦ subst (λ (v : PendingSnapshot). AreApart v.to u.from) t_new (apart u u_before).1.0
          | inr u_new ↦ absurd (true≢false (sym (same_itself s) ∙ subst (λ (v : PendingSnapshot). is_same_snapshot s v ≡ false) (sym u_new) (subst (λ (v : PendingSnapshot). is_same_snapshot v u ≡ false) (sym t_new) other)))
        ]
      ],
    )
  where
    new : IsQuiet (copies_given_up m.logged (copies_for_files m.logged (snapshot_files m s))) (removed_all (removed_all m.attempts (snapshot_handles m s)) (copies_for_files m.logged (snapshot_files m s))) s.from
    new x id at is = (
      λ handle some a there. taken_out m.attempts (snapshot_handles m s) handle a (handle_in m s x id handle at is some) (removed_cases (removed_all m.attempts (snapshot_handles m s)) (copies_for_files m.logged (snapshot_files m s)) handle a there),
      λ copy c there same.
          taken_out m.logged.copies (copies_for_files m.logged (snapshot_files m s)) copy c
          (copy_passes m.logged (λ x. has_number (snapshot_files m s) x.file) copy c (removed_cases m.logged.copies (copies_for_files m.logged (snapshot_files m s)) copy c there)
          (subst (λ (n : ℕ). has_number (snapshot_files m s) n ≡ true) (sym same) (file_in m s x id at is))) there,
    )

-- those that are left after one is taken
pub still_waits : (s : PendingSnapshot) (ss : List PendingSnapshot) (t : PendingSnapshot) → IsAmong (filter (λ u. not (is_same_snapshot s u)) ss) t → IsAmong ss t × (is_same_snapshot s t ≡ false)
still_waits s [] t among = absurd among
still_waits s (x ∷ ss) t among = by_test (is_same_snapshot s x) refl (λ g. still_waits s ss t g) among
  where
    by_test : (b : Bool) → is_same_snapshot s x ≡ b → (IsAmong (filter (λ u. not (is_same_snapshot s u)) ss) t → IsAmong ss t × (is_same_snapshot s t ≡ false)) → IsAmong (cond (not b) (x ∷ filter (λ u. not (is_same_snapshot s u)) ss) (filter (λ u. not (is_same_snapshot s u)) ss)) t → IsAmong (x ∷ ss) t × (is_same_snapshot s t ≡ false)
    by_test true e rest g = let more = rest g in (inr more.0, more.1)
    by_test false e rest (inl same) = (inl same, subst (λ (u : PendingSnapshot). is_same_snapshot s u ≡ false) same e)
    by_test false e rest (inr g) = let more = rest g in (inr more.0, more.1)

pub among_filtered : (test : PendingSnapshot → Bool) (ss : List PendingSnapshot) (t : PendingSnapshot) → IsAmong (filter test ss) t → IsAmong ss t
among_filtered test [] t among = among
among_filtered test (x ∷ ss) t among = by_test (test x) (λ g. among_filtered test ss t g) among
  where
    by_test : (b : Bool) → (IsAmong (filter test ss) t → IsAmong ss t) → IsAmong (cond b (x ∷ filter test ss) (filter test ss)) t → IsAmong (x ∷ ss) t
    by_test true rest (inl same) = inl same
    by_test true rest (inr g) = inr (rest g)
    by_test false rest g = inr (rest g)
