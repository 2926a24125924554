-- The names at the master: a tree, in which the target of each snapshot that waits stays free, apart from those of the others.
use Rattle.std.proofs.Common.{◌≡◌, ◌⊎◌, ⊎_elim, ℕ, ◌≤◌, Bool, true, false, not, cond, List, [], ◌∷◌, ◌++◌, Option, Some, None, is_some, refl, sym, ap, subst, ◌∙◌, inl, inr}
use Rattle.std.specs.Prelude.{◌==◌, ◌&&◌, ◌||◌, nat_le, filter, find}
use Rattle.std.specs.List.{list_any}
use Rattle.std.specs.Str.{bytes_eq}
use Rattle.std.proofs.lemmas.Bool.{true≢false, or_parts, and_parts, and_from, leb-true, eqb-true}
use Rattle.std.specs.FinMap as table
use Rattle.gfs_types.specs.declared.ids.ClientId.{ClientId}
use Rattle.gfs_types.specs.declared.ids.FileId.{FileId}
use Rattle.gfs_types.specs.declared.ids.Moment.{Moment}
use Rattle.gfs_types.specs.declared.call.Call.{Call}
use Rattle.gfs_types.specs.declared.call.Call.TheVariants as call
use Rattle.gfs_types.specs.declared.refusal.Refusal.{Refusal}
use Rattle.gfs_types.specs.declared.refusal.Refusal.TheVariants.{Busy}
use Rattle.log_records.specs.declared.record.Record.{Record}
use Rattle.log_records.specs.declared.record.Record.TheVariants as log
use Rattle.gfs_types.specs.Paths.{Path, root, is_path, parent, is_below, is_at_or_below, is_child, hidden_name}
use Rattle.relaxed_file.specs.Names.{Names, Node, Dir, File, node_at, is_dir_node, is_taken, is_dir, copied_entries, with_copies}
use Rattle.relaxed_file.specs.NameStep.{first_refusal, path_tests, name_tests, refusal_of, is_in_trash, is_reserved, with_node, hidden}
use Rattle.relaxed_file.specs.Locks.{conflict, conflict_at, paths_of, writes}
use Rattle.relaxed_file.proofs.PathParts.{equal_paths, same_paths, child_of_parent}
use Rattle.relaxed_file.proofs.NamesTree.{Tree, HasAt, inserted_other, removed_other, removed_there, same_or_other, dir_taken, dir_kept, added, file_removed, file_added, not_hidden, passed, true_from, not_taken_no_dir, rmdir_tree, delete_tree, rename_tree, copies_taken, copies_dir, snapshot_names, copies_are_new, tests_passed, entry_is}
use Rattle.gfs_types.specs.Counters.{counter_limit}
use Rattle.protocol.specs.Logged.{Logged, Copy, after_record, swapped_in, is_this_file, name_removed, without_file}
use Rattle.protocol.specs.Master.{MasterState, PendingSnapshot}
use Rattle.protocol.specs.MasterSnapshots.{is_same_snapshot}
use Rattle.protocol.specs.MasterNames.{snapshot_call, is_busy, master_refusal, told_shape}
use Rattle.laws_base.proofs.Steps.{on_cond, none_some, same_some}
use Rattle.laws_base.proofs.Entries.{AllOf, all_filtered, all_joined, same_number}
use Rattle.gfs_types.specs.declared.config.Config.{Config}
use Rattle.gfs_types.specs.declared.shape.Shape.{Shape}
use Rattle.gfs_types.specs.Shapes.{usual_shape, fits, shape_or, may_have}
use Rattle.chunk_table.specs.ChunkTable.{no_shape}

-- a snapshot's paths, and its target, which is free
pub record IsFree (names : Names) (from to : Path) : Type 0 where
  pub path_from : is_path from ≡ true
  pub path_to : is_path to ≡ true
  pub open_from : is_reserved from ≡ false
  pub open_to : is_reserved to ≡ false
  pub above : is_dir names (parent to) ≡ true
  pub free : is_taken names to ≡ false

-- neither path is at, below or above the other
pub record AreApart (p q : Path) : Type 0 where
  pub other : bytes_eq p q ≡ false
  pub below : is_below p q ≡ false
  pub above : is_below q p ≡ false

other_way : (p q : Path) → AreApart p q → AreApart q p
other_way p q h = record { other = same_test (bytes_eq q p) refl; below = h.above; above = h.below }
  where
    same_test : (b : Bool) → bytes_eq q p ≡ b → bytes_eq q p ≡ false
    same_test false e = e
    same_test true e = absurd (true≢false (sym (same_paths p q (sym (equal_paths q p e))) ∙ h.other))

-- two calls with targets that are apart
pub record AreOthers (s t : PendingSnapshot) : Type 0 where
  pub apart : AreApart s.to t.to
  pub other : is_same_snapshot s t ≡ false

abbrev pub AreAllApart : List PendingSnapshot → Type 0
AreAllApart [] = Unit {0}
AreAllApart (s ∷ ss) = AllOf (AreOthers s) ss × AreAllApart ss

abbrev pub AreFree : Names → List PendingSnapshot → Type 0
AreFree names ss = AllOf (λ s. IsFree names s.from s.to) ss

-- the names, and the snapshots that wait
pub record IsNamespace (names : Names) (ss : List PendingSnapshot) : Type 0 where
  pub tree : Tree names
  pub free : AreFree names ss
  pub apart : AreAllApart ss

-- what meets no refusal

tests_of : (a : List (Bool × Refusal)) (b : Bool) (r : Refusal) (c : List (Bool × Refusal)) → first_refusal (a ++ (b, r) ∷ c) ≡ None → (b ≡ false) × (first_refusal (a ++ c) ≡ None)
tests_of [] b r c h = passed b r (first_refusal c) h
tests_of (t ∷ a) b r c h =
    let one : (t.0 ≡ false) × (first_refusal (a ++ (b, r) ∷ c) ≡ None) = passed t.0 t.1 (first_refusal (a ++ (b, r) ∷ c)) h in
    let rest : (b ≡ false) × (first_refusal (a ++ c) ≡ None) = tests_of a b r c one.1 in
    (rest.0, ap (λ (x : Bool). cond x (Some t.1) (first_refusal (a ++ c))) one.0 ∙ rest.1)

pub not_refused : (m : MasterState) (c : Call) → master_refusal m c ≡ None → (is_busy m c ≡ false) × (refusal_of m.config m.logged.names c ≡ None)
not_refused m c h = tests_of (path_tests m.config c) (is_busy m c) Busy (name_tests m.logged.names c) h

-- a snapshot that meets no refusal
pub snapshot_is_free : (config : Config) (names : Names) (from to : Path) → refusal_of config names (call.Snapshot from to) ≡ None → IsFree names from to
snapshot_is_free config names from to h =
    let all = tests_passed (path_tests config (call.Snapshot from to) ++ name_tests names (call.Snapshot from to)) h in
    record {
      path_from = true_from (is_path from) all.0;
      path_to = true_from (is_path to) all.1.0;
      open_from = all.1.1.0;
      open_to = all.1.1.1.0;
      above = true_from (is_dir names (parent to)) all.1.1.1.1.1.1.0;
      free = all.1.1.1.1.1.1.1.0;
    }

-- no lock conflicts

apart_at : (p q : Path) → conflict_at true p true q ≡ false → AreApart p q
apart_at p q h =
    let last = or_parts ((bytes_eq p q && true) || is_below p q) (is_below q p) h in
    let more = or_parts (bytes_eq p q && true) (is_below p q) last.0 in
    record { other = first_false (bytes_eq p q) more.0; below = more.1; above = last.1 }
  where
    first_false : (b : Bool) → b && true ≡ false → b ≡ false
    first_false false e = refl
    first_false true e = e

-- a path that a writer locks is apart from the target
abbrev AreLocksApart : List Path → Path → Type 0
AreLocksApart ps to = AllOf (λ p. AreApart p to) ps

locks_apart : (ps : List Path) (from to : Path) → list_any (λ p. list_any (λ q. conflict_at true p true q) (from ∷ to ∷ [])) ps ≡ false → AreLocksApart ps to
locks_apart [] from to h = tt
locks_apart (p ∷ ps) from to h =
    let parts = or_parts (list_any (λ q. conflict_at true p true q) (from ∷ to ∷ [])) (list_any (λ p. list_any (λ q. conflict_at true p true q) (from ∷ to ∷ [])) ps) h in
    let one = or_parts (conflict_at true p true from) (conflict_at true p true to || false) parts.0 in
    let two = or_parts (conflict_at true p true to) false one.1 in
    (apart_at p to two.0, locks_apart ps from to parts.1)

abbrev pub AreQuiet : List Path → List PendingSnapshot → Type 0
AreQuiet ps ss = AllOf (λ s. AreLocksApart ps s.to) ss

pub not_busy : (c : Call) → writes c ≡ true → (ss : List PendingSnapshot) → list_any (λ s. conflict c (snapshot_call s)) ss ≡ false → AreQuiet (paths_of c) ss
not_busy c writer [] h = tt
not_busy c writer (s ∷ ss) h =
    let parts = or_parts (conflict c (snapshot_call s)) (list_any (λ t. conflict c (snapshot_call t)) ss) h in
    (locks_apart (paths_of c) s.from s.to (sym (ap (λ (b : Bool). list_any (λ p. list_any (λ q. conflict_at b p true q) (s.from ∷ s.to ∷ [])) (paths_of c)) writer) ∙ parts.0), not_busy c writer ss parts.1)

-- lists of snapshots

pub filtered_apart : (test : PendingSnapshot → Bool) (ss : List PendingSnapshot) → AreAllApart ss → AreAllApart (filter test ss)
filtered_apart test [] h = tt
filtered_apart test (s ∷ ss) h =
    on_cond AreAllApart (test s) (s ∷ filter test ss) (filter test ss)
    (λ _. (all_filtered (AreOthers s) test ss h.0, filtered_apart test ss h.1)) (λ _. filtered_apart test ss h.1)

pub filtered_namespace : (names : Names) (test : PendingSnapshot → Bool) (ss : List PendingSnapshot) → IsNamespace names ss → IsNamespace names (filter test ss)
filtered_namespace names test ss h = record { tree = h.tree; free = all_filtered (λ s. IsFree names s.from s.to) test ss h.free; apart = filtered_apart test ss h.apart }

-- the last one is another than all before it
one_apart : (ss : List PendingSnapshot) (s : PendingSnapshot) → AllOf (λ t. AreOthers t s) ss → AreAllApart ss → AreAllApart (ss ++ s ∷ [])
one_apart [] s all h = (tt, tt)
one_apart (t ∷ ss) s all h = (all_joined (AreOthers t) ss (s ∷ []) h.0 (all.0, tt), one_apart ss s all.1 h.1)

all_others : (s : PendingSnapshot) (ss : List PendingSnapshot) → AreQuiet (s.from ∷ s.to ∷ []) ss → list_any (λ t. (t.client == s.client) && (t.number == s.number)) ss ≡ false → AllOf (λ t. AreOthers t s) ss
all_others s [] h new = tt
all_others s (t ∷ ss) h new =
    let parts = or_parts ((t.client == s.client) && (t.number == s.number)) (list_any (λ x. (x.client == s.client) && (x.number == s.number)) ss) new in
    (record { apart = other_way s.to t.to h.0.1.0; other = parts.0 }, all_others s ss h.1 parts.1)

pub one_more_waits : (names : Names) (ss : List PendingSnapshot) (s : PendingSnapshot) → AreQuiet (s.from ∷ s.to ∷ []) ss → list_any (λ t. (t.client == s.client) && (t.number == s.number)) ss ≡ false
    → IsFree names s.from s.to → IsNamespace names ss → IsNamespace names (ss ++ s ∷ [])
one_more_waits names ss s quiet new is h =
    record {
      tree = h.tree;
      free = all_joined (λ t. IsFree names t.from t.to) ss (s ∷ []) h.free (is, tt);
      apart = one_apart ss s (all_others s ss quiet new) h.apart;
    }

abbrev pub IsAmong : List PendingSnapshot → PendingSnapshot → Type 0
IsAmong [] s = ⊥
IsAmong (x ∷ ss) s = (x ≡ s) ⊎ IsAmong ss s

among_passes : (P : PendingSnapshot → Type 0) (ss : List PendingSnapshot) (s : PendingSnapshot) → AllOf P ss → IsAmong ss s → P s
among_passes P [] s all is = absurd is
among_passes P (x ∷ ss) s all is = elim (is) [ inl same ↦ subst P same all.0 | inr later ↦ among_passes P ss s all.1 later ]

pub among_free : (names : Names) (ss : List PendingSnapshot) (s : PendingSnapshot) → AreFree names ss → IsAmong ss s → IsFree names s.from s.to
among_free names ss s all is = among_passes (λ t. IsFree names t.from t.to) ss s all is

abbrev pub without_snapshot : PendingSnapshot → List PendingSnapshot → List PendingSnapshot
without_snapshot s ss = filter (λ t. not (is_same_snapshot s t)) ss

-- the others are apart from one of them
pub others_apart : (ss : List PendingSnapshot) (s : PendingSnapshot) → AreAllApart ss → IsAmong ss s → AllOf (λ t. AreApart s.to t.to) (without_snapshot s ss)
others_apart [] s h is = tt
others_apart (x ∷ ss) s h (inl same) =
    on_cond (AllOf (λ t. AreApart s.to t.to)) (not (is_same_snapshot s x)) (x ∷ without_snapshot s ss) (without_snapshot s ss)
    (λ other. absurd (true≢false (sym other ∙ ap not (subst (λ (y : PendingSnapshot). is_same_snapshot s y ≡ true) (sym same) (and_from (s.client == s.client) (s.number == s.number) (same_number s.client) (same_number s.number))))))
    (λ _. all_filtered (λ t. AreApart s.to t.to) (λ t. not (is_same_snapshot s t)) ss (each ss (subst (λ (y : PendingSnapshot). AllOf (AreOthers y) ss) same h.0)))
  where
    each : (ts : List PendingSnapshot) → AllOf (AreOthers s) ts → AllOf (λ t. AreApart s.to t.to) ts
    each [] all = tt
    each (t ∷ ts) all = (all.0.apart, each ts all.1)
others_apart (x ∷ ss) s h (inr later) =
    on_cond (AllOf (λ t. AreApart s.to t.to)) (not (is_same_snapshot s x)) (x ∷ without_snapshot s ss) (without_snapshot s ss)
    (λ _. (other_way x.to s.to (among_passes (AreOthers x) ss s h.0 later).apart, others_apart ss s h.1 later)) (λ _. others_apart ss s h.1 later)

-- another one stays
still_among : (ss : List PendingSnapshot) (s t : PendingSnapshot) → is_same_snapshot s t ≡ false → IsAmong ss t → IsAmong (without_snapshot s ss) t
still_among [] s t other is = is
still_among (x ∷ ss) s t other (inl same) =
    on_cond (λ (ts : List PendingSnapshot). IsAmong ts t) (not (is_same_snapshot s x)) (x ∷ without_snapshot s ss) (without_snapshot s ss) (λ _. inl same)
    (λ none. absurd (true≢false (ap not (sym other) ∙ ap (λ (y : PendingSnapshot). not (is_same_snapshot s y)) (sym same) ∙ none)))
still_among (x ∷ ss) s t other (inr later) =
    on_cond (λ (ts : List PendingSnapshot). IsAmong ts t) (not (is_same_snapshot s x)) (x ∷ without_snapshot s ss) (without_snapshot s ss) (λ _. inr (still_among ss s t other later))
    (λ _. still_among ss s t other later)

pub all_still_among : (ss : List PendingSnapshot) (s : PendingSnapshot) (ts : List PendingSnapshot) → AllOf (AreOthers s) ts → AllOf (IsAmong ss) ts → AllOf (IsAmong (without_snapshot s ss)) ts
all_still_among ss s [] others all = tt
all_still_among ss s (t ∷ ts) others all = (still_among ss s t others.0.other all.0, all_still_among ss s ts others.1 all.1)

behind_one : (x : PendingSnapshot) (ss ts : List PendingSnapshot) → AllOf (IsAmong ss) ts → AllOf (IsAmong (x ∷ ss)) ts
behind_one x ss [] all = tt
behind_one x ss (t ∷ ts) all = (inr all.0, behind_one x ss ts all.1)

pub all_among : (ss : List PendingSnapshot) → AllOf (IsAmong ss) ss
all_among [] = tt
all_among (s ∷ ss) = (inl refl, behind_one s ss ss (all_among ss))

-- a target stays free where it is not taken, and the directory above it stays
stays_free : (names more : Names) (from to : Path) → is_taken more to ≡ false → is_dir more (parent to) ≡ true → IsFree names from to → IsFree more from to
stays_free names more from to free above h =
    record { path_from = h.path_from; path_to = h.path_to; open_from = h.open_from; open_to = h.open_to; above = above; free = free }

abbrev StaysFree : Names → Names → PendingSnapshot → Type 0
StaysFree names more s = IsFree names s.from s.to → IsFree more s.from s.to

all_free : (names more : Names) (ss : List PendingSnapshot) → AllOf (StaysFree names more) ss → AreFree names ss → AreFree more ss
all_free names more [] stays h = tt
all_free names more (s ∷ ss) stays h = (stays.0 h.0, all_free names more ss stays.1 h.1)

each_quiet : (names more : Names) (ps : List Path) (ss : List PendingSnapshot) → ((s : PendingSnapshot) → AreLocksApart ps s.to → StaysFree names more s) → AreQuiet ps ss → AllOf (StaysFree names more) ss
each_quiet names more ps [] f h = tt
each_quiet names more ps (s ∷ ss) f h = (f s h.0, each_quiet names more ps ss f h.1)

pub next_names : (names more : Names) (ps : List Path) (ss : List PendingSnapshot) → Tree more → ((s : PendingSnapshot) → AreLocksApart ps s.to → StaysFree names more s) → AreQuiet ps ss
    → IsNamespace names ss → IsNamespace more ss
next_names names more ps ss tree f quiet h = record { tree = tree; free = all_free names more ss (each_quiet names more ps ss f quiet) h.free; apart = h.apart }

-- changes

unequal : (p q : Path) → bytes_eq p q ≡ false → p ≡ q → ⊥
unequal p q h same = true≢false (sym (same_paths p q same) ∙ h)

outside_of : (p : Path) → is_reserved p ≡ false → (p ≡ root → ⊥) × (is_in_trash p ≡ false)
outside_of p h = let parts : (bytes_eq p root ≡ false) × (is_in_trash p ≡ false) = or_parts _ _ h in (unequal p root parts.0, parts.1)

-- a name that is put in apart from the target
put_free : (names : Names) (p : Path) (v : Node) (to : Path) → AreApart p to → is_taken names to ≡ false → is_taken (table.insert names p v) to ≡ false
put_free names p v to apart free = ap is_some (inserted_other names p v to (λ same. unequal p to apart.other (sym same))) ∙ free

gone_free : (names : Names) (p to : Path) → is_taken names to ≡ false → is_taken (table.remove names p) to ≡ false
gone_free names p to free = ⊎_elim (λ same. ap is_some (removed_there names p to same)) (λ other. ap is_some (removed_other names p to other) ∙ free) (same_or_other to p)

-- a directory that is another one than what is put in, or taken away
other_dir : (names : Names) (p q : Path) → is_dir names p ≡ false → is_dir names q ≡ true → q ≡ p → ⊥
other_dir names p q plain dir same = true≢false (sym dir ∙ ap (is_dir names) same ∙ plain)

dir_stays : (names : Names) (p : Path) (v : Node) (q : Path) → (q ≡ p → ⊥) → is_dir names q ≡ true → is_dir (table.insert names p v) q ≡ true
dir_stays names p v q other dir = ap is_dir_node (inserted_other names p v q other) ∙ dir

dir_left : (names : Names) (p q : Path) → (q ≡ p → ⊥) → is_dir names q ≡ true → is_dir (table.remove names p) q ≡ true
dir_left names p q other dir = ap is_dir_node (removed_other names p q other) ∙ dir

-- the call meets no refusal, in a cell with some settings
abbrev pub TestsOf : Names → Call → Type 0
TestsOf names c = (config : Config) × (refusal_of config names c ≡ None)

pub mkdir_names : (names : Names) (p : Path) (ss : List PendingSnapshot) → TestsOf names (call.Mkdir p) → AreQuiet (p ∷ []) ss → IsNamespace names ss → IsNamespace (table.insert names p Dir) ss
mkdir_names names p ss h quiet is =
    let all = tests_passed (path_tests h.0 (call.Mkdir p) ++ name_tests names (call.Mkdir p)) h.1 in
    next_names names (table.insert names p Dir) (p ∷ []) ss
    (added names p Dir is.tree (true_from (is_dir names (parent p)) all.1.1.0) (λ q dir same. refl) (λ moment id same. absurd (not_hidden p all.1.0 moment id same)))
    (λ s apart f. stays_free names (table.insert names p Dir) s.from s.to (put_free names p Dir s.to apart.0 f.free) (dir_kept names p Dir (parent s.to) (λ same. refl) f.above) f)
    quiet is

pub rmdir_names : (names : Names) (p : Path) (ss : List PendingSnapshot) → TestsOf names (call.Rmdir p) → AreQuiet (p ∷ []) ss → IsNamespace names ss → IsNamespace (table.remove names p) ss
rmdir_names names p ss h quiet is =
    let all = tests_passed (path_tests h.0 (call.Rmdir p) ++ name_tests names (call.Rmdir p)) h.1 in
    let out = outside_of p all.1.0 in
    next_names names (table.remove names p) (p ∷ []) ss (rmdir_tree names p is.tree all.1.0 all.1.1.1.1.0)
    (λ s apart f. stays_free names (table.remove names p) s.from s.to (gone_free names p s.to f.free)
    (dir_left names p (parent s.to) (λ same. true≢false (sym (child_below p s.to (child_of_parent p s.to out.0 same)) ∙ apart.0.below)) f.above) f)
    quiet is
  where
    child_below : (d q : Path) → is_child d q ≡ true → is_below d q ≡ true
    child_below d q e = by_both (is_below d q) (bytes_eq (parent q) d) e
      where
        by_both : (a b : Bool) → a && b ≡ true → a ≡ true
        by_both true b g = refl
        by_both false b g = absurd (true≢false (sym g))

pub create_names : (names : Names) (p : Path) (shape : Option Shape) (id : ℕ) (ss : List PendingSnapshot) → TestsOf names (call.Create p shape) → AreQuiet (p ∷ []) ss → IsNamespace names ss → IsNamespace (table.insert names p (File id)) ss
create_names names p shape id ss h quiet is =
    let all = tests_passed (path_tests h.0 (call.Create p shape) ++ name_tests names (call.Create p shape)) h.1 in
    let plain : is_dir names p ≡ false = not_taken_no_dir (node_at names p) all.1.1.1.1.0 in
    next_names names (table.insert names p (File id)) (p ∷ []) ss (file_added names p id is.tree (true_from (is_dir names (parent p)) all.1.1.1.0) plain)
    (λ s apart f. stays_free names (table.insert names p (File id)) s.from s.to (put_free names p (File id) s.to apart.0 f.free)
    (dir_stays names p (File id) (parent s.to) (other_dir names p (parent s.to) plain f.above) f.above) f)
    quiet is

pub delete_names : (names : Names) (p : Path) (moment : ℕ) (ss : List PendingSnapshot) → (o : Option Node) → node_at names p ≡ o → AreQuiet (p ∷ []) ss → IsNamespace names ss → IsNamespace (hidden names p moment o) ss
delete_names names p moment ss None at quiet is = is
delete_names names p moment ss (Some Dir) at quiet is = is
delete_names names p moment ss (Some (File id)) at quiet is =
    let plain : is_dir names p ≡ false = ap is_dir_node at in
    let less : Names = table.remove names p in
    let hide : Path = hidden_name moment id in
    next_names names (table.insert less hide (File id)) (p ∷ []) ss (delete_tree names p moment (Some (File id)) at is.tree)
    (λ s apart f.
    let out = outside_of s.to f.open_to in
    let above : is_dir less (parent s.to) ≡ true = dir_left names p (parent s.to) (other_dir names p (parent s.to) plain f.above) f.above in
    let hide_plain : is_dir less hide ≡ false = (file_removed names p is.tree plain).hidden_are_files moment id in
    stays_free names (table.insert less hide (File id)) s.from s.to
    (ap is_some (inserted_other less hide (File id) s.to (λ same. not_hidden s.to out.1 moment id (sym same))) ∙ gone_free names p s.to f.free)
    (dir_stays less hide (File id) (parent s.to) (other_dir less hide (parent s.to) hide_plain above) above) f)
    quiet is

pub rename_names : (names : Names) (p q : Path) (ss : List PendingSnapshot) → (o : Option Node) → node_at names p ≡ o → TestsOf names (call.Rename p q) → AreQuiet (p ∷ q ∷ []) ss → IsNamespace names ss
    → IsNamespace (with_node (table.remove names p) q o) ss
rename_names names p q ss o at h quiet is =
    let all = tests_passed (path_tests h.0 (call.Rename p q) ++ name_tests names (call.Rename p q)) h.1 in
    let plain : is_dir names p ≡ false = all.1.1.1.1.0 in
    let free : is_taken names q ≡ false = all.1.1.1.1.1.1.0 in
    next_names names (with_node (table.remove names p) q o) (p ∷ q ∷ []) ss (rename_tree names p q o at is.tree plain (true_from (is_dir names (parent q)) all.1.1.1.1.1.0) free)
    (λ s apart f. moved s o apart plain (not_taken_no_dir (node_at names q) free) f) quiet is
  where
    moved : (s : PendingSnapshot) (o : Option Node) → AreLocksApart (p ∷ q ∷ []) s.to → is_dir names p ≡ false → is_dir names q ≡ false → IsFree names s.from s.to
        → IsFree (with_node (table.remove names p) q o) s.from s.to
    moved s None apart plain no_dir f =
        stays_free names (table.remove names p) s.from s.to (gone_free names p s.to f.free) (dir_left names p (parent s.to) (other_dir names p (parent s.to) plain f.above) f.above) f
    moved s (Some v) apart plain no_dir f =
        let less : Names = table.remove names p in
        stays_free names (table.insert less q v) s.from s.to (put_free less q v s.to apart.1.0 (gone_free names p s.to f.free))
        (dir_stays less q v (parent s.to) (other_dir names q (parent s.to) no_dir f.above) (dir_left names p (parent s.to) (other_dir names p (parent s.to) plain f.above) f.above)) f

module _ (names : Names) (from to : Path) (next : ℕ) (tree : Tree names) (free : IsFree names from to) where
  abbrev new_names : Names
  new_names = with_copies names next (copied_entries names from to)

  new_there : (x : Path) (v : Node) → HasAt (copied_entries names from to) x v
      → (is_at_or_below to x ≡ true) × (is_taken names x ≡ true → ⊥) × ((moment id : ℕ) → hidden_name moment id ≡ x → ⊥)
  new_there x v there = copies_are_new names from to tree free.path_from free.path_to free.open_from free.open_to free.above free.free x v there

  at_or_below_apart : (x : Path) → AreApart to x → is_at_or_below to x ≡ true → ⊥
  at_or_below_apart x apart at = by_either (bytes_eq x to) refl
    where
      by_either : (b : Bool) → bytes_eq x to ≡ b → ⊥
      by_either true e = unequal to x apart.other (sym (equal_paths x to e))
      by_either false e = true≢false (sym at ∙ ap (λ (b : Bool). b || is_below to x) e ∙ apart.below)

  not_copied : (t : PendingSnapshot) → AreApart to t.to → IsFree names t.from t.to → is_taken new_names t.to ≡ true → ⊥
  not_copied t apart f taken =
      ⊎_elim (λ before. true≢false (sym before ∙ f.free)) (λ copied. at_or_below_apart t.to apart (new_there t.to copied.0 copied.1).0) (copies_taken (copied_entries names from to) names next t.to taken)

  copied_stays : (t : PendingSnapshot) → AreApart to t.to → StaysFree names new_names t
  copied_stays t apart f =
      stays_free names new_names t.from t.to (untaken (is_taken new_names t.to) refl)
      (copies_dir (copied_entries names from to) names next (parent t.to) (λ v there. absurd ((new_there (parent t.to) v there).1 (dir_taken (node_at names (parent t.to)) f.above))) (inl f.above)) f
    where
      untaken : (b : Bool) → is_taken new_names t.to ≡ b → is_taken new_names t.to ≡ false
      untaken false e = e
      untaken true e = absurd (not_copied t apart f (e))

  copied_each : (ts : List PendingSnapshot) → AllOf (λ t. AreApart to t.to) ts → AllOf (StaysFree names new_names) ts
  copied_each [] all = tt
  copied_each (t ∷ ts) all = (copied_stays t all.0, copied_each ts all.1)

  pub snapshot_taken_names : (ss : List PendingSnapshot) → AllOf (λ t. AreApart to t.to) ss → IsNamespace names ss → IsNamespace new_names ss
  snapshot_taken_names ss apart is =
      record {
        tree = snapshot_names names from to next tree free.path_from free.path_to free.open_from free.open_to free.above free.free;
        free = all_free names new_names ss (copied_each ss apart) is.free;
        apart = is.apart;
      }

-- a collected file's name goes

this_file : (file : ℕ) (n : Node) → is_this_file file n ≡ true → n ≡ File file
this_file file Dir h = absurd (true≢false (sym h))
this_file file (File id) h = ap File (eqb-true id file h)

pub found_file : (file : ℕ) (es : List (Path × Node)) (e : Path × Node) → find (λ x. is_this_file file x.1) es ≡ Some e → HasAt es e.0 e.1 × (e.1 ≡ File file)
found_file file [] e h = none_some e h
found_file file (x ∷ es) e h = by_test (is_this_file file x.1) refl (found_file file es e) h
  where
    by_test : (b : Bool) → is_this_file file x.1 ≡ b → (find (λ y. is_this_file file y.1) es ≡ Some e → HasAt es e.0 e.1 × (e.1 ≡ File file)) → cond b (Some x) (find (λ y. is_this_file file y.1) es) ≡ Some e
        → HasAt (x ∷ es) e.0 e.1 × (e.1 ≡ File file)
    by_test true is rest g = let same : x ≡ e = same_some x e g in subst (λ (y : Path × Node). HasAt (x ∷ es) y.0 y.1 × (y.1 ≡ File file)) same (inl (refl, refl), this_file file x.1 is)
    by_test false is rest g = let more = rest g in (inr more.0, more.1)

left_free : (names : Names) (p : Path) → is_dir names p ≡ false → (ts : List PendingSnapshot) → AllOf (StaysFree names (table.remove names p)) ts
left_free names p plain [] = tt
left_free names p plain (t ∷ ts) = (
  λ f. stays_free names (table.remove names p) t.from t.to (gone_free names p t.to f.free) (dir_left names p (parent t.to) (other_dir names p (parent t.to) plain f.above) f.above) f,
  left_free names p plain ts,
)

pub expired_names : (names : Names) (file : ℕ) (ss : List PendingSnapshot) → IsNamespace names ss → IsNamespace (without_file names file) ss
expired_names names file ss is = by_name (find (λ e. is_this_file file e.1) (table.entries names)) refl
  where
    by_name : (o : Option (Path × Node)) → find (λ e. is_this_file file e.1) (table.entries names) ≡ o → IsNamespace (name_removed names o) ss
    by_name None h = is
    by_name (Some e) h =
        let there = found_file file (table.entries names) e h in
        let plain : is_dir names e.0 ≡ false = ap is_dir_node (entry_is names e.0 e.1 there.0 ∙ ap (λ (n : Node). Some n) there.1) in
        record {
          tree = file_removed names e.0 is.tree plain;
          free = all_free names (table.remove names e.0) ss (left_free names e.0 plain ss) is.free;
          apart = is.apart;
        }

-- the names after a record

abbrev pub names_after : Names → ℕ → Record → Names
names_after names next (log.Mkdir client n path) = table.insert names path Dir
names_after names next (log.Rmdir client n path) = table.remove names path
names_after names next (log.Create client n file shape path) = table.insert names path (File file.0)
names_after names next (log.Delete client n moment path) = hidden names path moment.0 (node_at names path)
names_after names next (log.Rename client n from to) = with_node (table.remove names from) to (node_at names from)
names_after names next (log.Snapshot client n from to) = with_copies names next (copied_entries names from to)
names_after names next (log.Expired file) = without_file names file.0
names_after names next (log.DirItem path) = table.insert names path Dir
names_after names next (log.FileItem path file shape handles) = table.insert names path (File file.0)
names_after names next other = names

swapped_names : (l : Logged) (handle : ℕ) (o : Option Copy) → (swapped_in l handle o).names ≡ l.names
swapped_names l handle None = refl
swapped_names l handle (Some c) = refl

pub names_are_after : (l : Logged) (r : Record) → (after_record l r).names ≡ names_after l.names l.next_file r
names_are_after l (log.Grant handle version primary members) = swapped_names _ handle.0 (table.get l.copies handle.0)
names_are_after l other = refl

-- what is known of the names at a record of a step
abbrev pub IsNameDue : Names → ℕ → Record → Type 0
IsNameDue names next (log.Mkdir client n path) = TestsOf names (call.Mkdir path)
IsNameDue names next (log.Rmdir client n path) = TestsOf names (call.Rmdir path)
IsNameDue names next (log.Create client n file shape path) = (asked : Option Shape) × (tests : TestsOf names (call.Create path asked)) × (shape ≡ told_shape tests.0 asked)
IsNameDue names next (log.Delete client n moment path) = TestsOf names (call.Delete path) × (next ≤ counter_limit)
IsNameDue names next (log.Rename client n from to) = TestsOf names (call.Rename from to)
IsNameDue names next (log.Snapshot client n from to) = IsFree names from to
IsNameDue names next other = Unit {0}

-- a chunk of a file that fits has 64 bytes at least
fits_least : (config : Config) (s : Shape) → fits config s ≡ true → 64 ≤ s.chunk
fits_least config s h =
    let chunks = (and_parts _ _ (and_parts _ _ h).0).0 in
    leb-true 64 s.chunk (and_parts (nat_le 64 s.chunk) (nat_le s.chunk config.chunk) chunks).0

-- a file that is made has such a shape, which its record tells
pub told_least : (names : Names) (client : ClientId) (n next : ℕ) (file : FileId) (shape : Option Shape) (path : Path) → IsNameDue names next (log.Create client n file shape path)
    → 64 ≤ (shape_or no_shape shape).chunk
told_least names client n next file shape path due =
    let config : Config = (due.1).0 in
    let all = tests_passed (path_tests config (call.Create path due.0) ++ name_tests names (call.Create path due.0)) (due.1).1 in
    subst (λ (o : Option Shape). 64 ≤ (shape_or no_shape o).chunk) (sym due.2) (fits_least config (shape_or (usual_shape config) due.0) (true_from (may_have config due.0) all.1.0))

-- a record that fits the names, and leaves the targets of snapshots that wait
pub record IsNamed (names : Names) (next : ℕ) (r : Record) (ss : List PendingSnapshot) : Type 0 where
  pub due : IsNameDue names next r
  pub after : IsNamespace (names_after names next r) ss

pub mkdir_named : (m : MasterState) (client : ClientId) (n : ℕ) (p : Path) (next : ℕ) → master_refusal m (call.Mkdir p) ≡ None → IsNamespace m.logged.names m.snapshots
    → IsNamed m.logged.names next (log.Mkdir client n p) m.snapshots
mkdir_named m client n p next h is =
    let may = not_refused m (call.Mkdir p) h in
    record { due = (m.config, may.1); after = mkdir_names m.logged.names p m.snapshots (m.config, may.1) (not_busy (call.Mkdir p) refl m.snapshots may.0) is }

pub rmdir_named : (m : MasterState) (client : ClientId) (n : ℕ) (p : Path) (next : ℕ) → master_refusal m (call.Rmdir p) ≡ None → IsNamespace m.logged.names m.snapshots
    → IsNamed m.logged.names next (log.Rmdir client n p) m.snapshots
rmdir_named m client n p next h is =
    let may = not_refused m (call.Rmdir p) h in
    record { due = (m.config, may.1); after = rmdir_names m.logged.names p m.snapshots (m.config, may.1) (not_busy (call.Rmdir p) refl m.snapshots may.0) is }

pub create_named : (m : MasterState) (client : ClientId) (n : ℕ) (file : FileId) (shape : Option Shape) (p : Path) (next : ℕ) → master_refusal m (call.Create p shape) ≡ None
    → IsNamespace m.logged.names m.snapshots → IsNamed m.logged.names next (log.Create client n file (told_shape m.config shape) p) m.snapshots
create_named m client n file shape p next h is =
    let may = not_refused m (call.Create p shape) h in
    record { due = (shape, (m.config, may.1), refl); after = create_names m.logged.names p shape file.0 m.snapshots (m.config, may.1) (not_busy (call.Create p shape) refl m.snapshots may.0) is }

pub delete_named : (m : MasterState) (client : ClientId) (n : ℕ) (moment : Moment) (p : Path) (next : ℕ) → next ≤ counter_limit → master_refusal m (call.Delete p) ≡ None → IsNamespace m.logged.names m.snapshots
    → IsNamed m.logged.names next (log.Delete client n moment p) m.snapshots
delete_named m client n moment p next bound h is =
    let may = not_refused m (call.Delete p) h in
    record { due = ((m.config, may.1), bound); after = delete_names m.logged.names p moment.0 m.snapshots (node_at m.logged.names p) refl (not_busy (call.Delete p) refl m.snapshots may.0) is }

pub rename_named : (m : MasterState) (client : ClientId) (n : ℕ) (p q : Path) (next : ℕ) → master_refusal m (call.Rename p q) ≡ None → IsNamespace m.logged.names m.snapshots
    → IsNamed m.logged.names next (log.Rename client n p q) m.snapshots
rename_named m client n p q next h is =
    let may = not_refused m (call.Rename p q) h in
    record { due = (m.config, may.1); after = rename_names m.logged.names p q m.snapshots (node_at m.logged.names p) refl (m.config, may.1) (not_busy (call.Rename p q) refl m.snapshots may.0) is }

-- a snapshot that begins to wait
pub waits_named : (m : MasterState) (s : PendingSnapshot) → master_refusal m (call.Snapshot s.from s.to) ≡ None → list_any (λ t. (t.client == s.client) && (t.number == s.number)) m.snapshots ≡ false
    → IsNamespace m.logged.names m.snapshots → IsNamespace m.logged.names (m.snapshots ++ s ∷ [])
waits_named m s h new is =
    let may = not_refused m (call.Snapshot s.from s.to) h in
    one_more_waits m.logged.names m.snapshots s (not_busy (call.Snapshot s.from s.to) refl m.snapshots may.0) new (snapshot_is_free m.config m.logged.names s.from s.to may.1) is

-- one that is taken
pub taken_named : (names : Names) (ss : List PendingSnapshot) (client : ClientId) (n : ℕ) (s : PendingSnapshot) (next : ℕ) → IsAmong ss s → IsNamespace names ss
    → IsNamed names next (log.Snapshot client n s.from s.to) (without_snapshot s ss)
taken_named names ss client n s next among is =
    let free : IsFree names s.from s.to = among_free names ss s is.free among in
    record {
      due = free;
      after = snapshot_taken_names names s.from s.to next is.tree free (without_snapshot s ss) (others_apart ss s is.apart among)
          (filtered_namespace names (λ t. not (is_same_snapshot s t)) ss is);
    }
