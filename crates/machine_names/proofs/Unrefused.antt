-- What the names say of a snapshot that they don't refuse, and what keeps it.
use Rattle.std.proofs.Common.{◌≡◌, ⊎_elim, ℕ, suc, Bool, true, false, cond, not, List, [], ◌∷◌, ◌++◌, length, drop, Option, Some, None, is_some, refl, sym, ap, subst, ◌∙◌, inl, inr}
use Rattle.std.specs.Prelude.{◌&&◌, ◌||◌, nat_lt, filter, map as list_map}
use Rattle.std.specs.List.{AllByRecursion, list_any}
use Rattle.std.specs.Str.{bytes_eq}
use Rattle.std.proofs.lemmas.Bool.{true≢false, or_parts}
use Rattle.std.specs.FinMap as table
use Rattle.gfs_types.specs.declared.call.Call.{Call}
use Rattle.gfs_types.specs.declared.call.Call.TheVariants as call
use Rattle.gfs_types.specs.declared.refusal.Refusal.{Refusal}
use Rattle.gfs_types.specs.Paths.{Path, root, is_path, parent, is_below, is_at_or_below, hidden_name}
use Rattle.relaxed_file.specs.Names.{Names, Node, Dir, File, node_at, is_taken, is_dir, is_dir_node, copied_entries, with_copies}
use Rattle.relaxed_file.specs.Machine.{Machine}
use Rattle.relaxed_file.specs.NameStep.{first_refusal, path_tests, name_tests, refusal_of, is_in_trash, is_reserved, with_node, hidden, performed}
use Rattle.relaxed_file.specs.Locks.{conflict, conflict_at}
use Rattle.relaxed_file.specs.Run.{Expire, after}
use Rattle.relaxed_file.proofs.PathParts.{child_of_parent, at_or_below_from, at_or_below_is}
use Rattle.relaxed_file.proofs.NamesTree.{inserted_there, inserted_other, removed_there, removed_other, same_or_other, dir_kept, taken_there, taken_before, hidden_in_trash, true_from, not_taken_no_dir, HasAt, found_at, entry_is, copied_of, copies_taken, copies_dir, tests_passed}
use Rattle.machine_names.specs.SnapshotLocks.{CallsLeaveSnapshotsUnrefused, CollectionsLeaveSnapshotsUnrefused}
use Rattle.machine_names.proofs.PathsApart.{IsApart, nothing_in_both, apart_differ, at_itself, passes_lock, open_path, not_in_trash, parent_at, parent_in_trash}
use Rattle.gfs_types.specs.declared.config.Config.{Config}

-- whether the copy of this name would be too long
abbrev is_long : Path → Path → Path → Bool
is_long from to k = nat_lt 4096 (length (to ++ drop (length from) k))

-- the names don't refuse the snapshot
pub record IsAllowed (names : Names) (from to : Path) : Type 0 where
  pub path_from : is_path from ≡ true
  pub path_to : is_path to ≡ true
  pub open_from : is_reserved from ≡ false
  pub open_to : is_reserved to ≡ false
  pub outside : is_at_or_below from to ≡ false
  pub there : is_taken names from ≡ true
  pub above : is_dir names (parent to) ≡ true
  pub free : is_taken names to ≡ false
  pub short : (k : Path) → is_taken names k ≡ true → is_at_or_below from k ≡ true → is_long from to k ≡ false

-- the tests, and what they say

abbrev is_long_name : Path × Node → Bool
is_long_name e = nat_lt 4096 (length e.0)

abbrev copies_of : Path → Path → List (Path × Node) → List (Path × Node)
copies_of from to es = list_map (λ e. (to ++ drop (length from) e.0, e.1)) (filter (λ e. is_at_or_below from e.0) es)

none_long : (from to : Path) (es : List (Path × Node)) (k : Path) (v : Node) → HasAt es k v → is_at_or_below from k ≡ true → list_any is_long_name (copies_of from to es) ≡ false → is_long from to k ≡ false
none_long from to [] k v there at none = absurd there
none_long from to (e ∷ es) k v there at none = by_test (is_at_or_below from e.0) refl none (λ later more. none_long from to es k v later at more)
  where
    by_test : (b : Bool) → is_at_or_below from e.0 ≡ b → list_any is_long_name (list_map (λ x. (to ++ drop (length from) x.0, x.1)) (cond b (e ∷ filter (λ x. is_at_or_below from x.0) es) (filter (λ x. is_at_or_below from x.0) es))) ≡ false
        → (HasAt es k v → list_any is_long_name (copies_of from to es) ≡ false → is_long from to k ≡ false) → is_long from to k ≡ false
    by_test true is g go =
        let parts = or_parts (is_long from to e.0) (list_any is_long_name (copies_of from to es)) g in
        ⊎_elim (λ here. ap (λ (x : Path). is_long from to x) (sym here.0) ∙ parts.0) (λ later. go later parts.1) there
    by_test false is g go =
        ⊎_elim (λ here. absurd (true≢false (sym at ∙ ap (λ (x : Path). is_at_or_below from x) (sym here.0) ∙ is))) (λ later. go later g) there

all_short : (from to : Path) (es : List (Path × Node)) → ((k : Path) (v : Node) → HasAt es k v → is_at_or_below from k ≡ true → is_long from to k ≡ false) → list_any is_long_name (copies_of from to es) ≡ false
all_short from to [] f = refl
all_short from to (e ∷ es) f = by_test (is_at_or_below from e.0) refl (all_short from to es (λ k v there at. f k v (inr there) at))
  where
    by_test : (b : Bool) → is_at_or_below from e.0 ≡ b → list_any is_long_name (copies_of from to es) ≡ false
        → list_any is_long_name (list_map (λ x. (to ++ drop (length from) x.0, x.1)) (cond b (e ∷ filter (λ x. is_at_or_below from x.0) es) (filter (λ x. is_at_or_below from x.0) es))) ≡ false
    by_test true is more = ap (λ (b : Bool). b || list_any is_long_name (copies_of from to es)) (f e.0 e.1 (inl (refl, refl)) is) ∙ more
    by_test false is more = more

pub allowed_from : (config : Config) (names : Names) (from to : Path) → refusal_of config names (call.Snapshot from to) ≡ None → IsAllowed names from to
allowed_from config names from to h =
    let all = tests_passed (path_tests config (call.Snapshot from to) ++ name_tests names (call.Snapshot from to)) h in
    record {
      path_from = true_from (is_path from) all.0;
      path_to = true_from (is_path to) all.1.0;
      open_from = all.1.1.0;
      open_to = all.1.1.1.0;
      outside = all.1.1.1.1.0;
      there = true_from (is_taken names from) all.1.1.1.1.1.0;
      above = true_from (is_dir names (parent to)) all.1.1.1.1.1.1.0;
      free = all.1.1.1.1.1.1.1.0;
      short = λ k taken at.
          let node = taken_there (node_at names k) taken in
          none_long from to (table.entries names) k node.0 (found_at k (table.entries names) node.0 (sym (table.get-entries names k) ∙ node.1)) at all.1.1.1.1.1.1.1.1.0;
    }

none_refused : (tests : List (Bool × Refusal)) → AllByRecursion (λ t. t.0 ≡ false) tests → first_refusal tests ≡ None
none_refused [] all = refl
none_refused (t ∷ rest) all = ap (λ (b : Bool). cond b (Some t.1) (first_refusal rest)) all.0 ∙ none_refused rest all.1

pub unrefused_from : (config : Config) (names : Names) (from to : Path) → IsAllowed names from to → refusal_of config names (call.Snapshot from to) ≡ None
unrefused_from config names from to h =
    let short : list_any is_long_name (copied_entries names from to) ≡ false = all_short from to (table.entries names) (λ k v there at. h.short k (ap is_some (entry_is names k v there)) at) in
    none_refused (path_tests config (call.Snapshot from to) ++ name_tests names (call.Snapshot from to))
    (ap not h.path_from, (ap not h.path_to, (h.open_from, (h.open_to, (h.outside, (ap not h.there, (ap not h.above, (h.free, (short, tt)))))))))

-- names that change

stays : (names more : Names) (from to : Path) → IsAllowed names from to → is_taken more from ≡ true → is_dir more (parent to) ≡ true → is_taken more to ≡ false
    → ((k : Path) → is_taken more k ≡ true → is_at_or_below from k ≡ true → is_taken names k ≡ true) → IsAllowed more from to
stays names more from to h there above free fewer =
    record {
      path_from = h.path_from;
      path_to = h.path_to;
      open_from = h.open_from;
      open_to = h.open_to;
      outside = h.outside;
      there = there;
      above = above;
      free = free;
      short = λ k taken at. h.short k (fewer k taken at) at;
    }

-- a path that is apart from both of the snapshot's
pub record PassesLocks (p from to : Path) : Type 0 where
  pub source : IsApart p from
  pub target : IsApart p to

put_stays : (names : Names) (p : Path) (v : Node) (from to : Path) → (p ≡ from → ⊥) → (p ≡ to → ⊥) → is_at_or_below from p ≡ false → (parent to ≡ p → v ≡ Dir) → IsAllowed names from to
    → IsAllowed (table.insert names p v) from to
put_stays names p v from to no_from no_to outside dirs h =
    stays names (table.insert names p v) from to h (ap is_some (inserted_other names p v from (λ same. no_from (sym same))) ∙ h.there)
    (dir_kept names p v (parent to) dirs h.above) (ap is_some (inserted_other names p v to (λ same. no_to (sym same))) ∙ h.free)
    (λ k taken at. ⊎_elim (λ same. absurd (true≢false (sym at ∙ ap (λ (x : Path). is_at_or_below from x) same ∙ outside))) (λ before. before) (taken_before names p v k taken))

pub put_passes : (names : Names) (p : Path) (v : Node) (from to : Path) → PassesLocks p from to → (parent to ≡ p → v ≡ Dir) → IsAllowed names from to → IsAllowed (table.insert names p v) from to
put_passes names p v from to apart dirs h = put_stays names p v from to (apart_differ p from apart.source) (apart_differ p to apart.target) apart.source.above dirs h

gone_stays : (names : Names) (p from to : Path) → (p ≡ from → ⊥) → (parent to ≡ p → ⊥) → IsAllowed names from to → IsAllowed (table.remove names p) from to
gone_stays names p from to no_from no_parent h =
    stays names (table.remove names p) from to h (ap is_some (removed_other names p from (λ same. no_from (sym same))) ∙ h.there)
    (ap is_dir_node (removed_other names p (parent to) no_parent) ∙ h.above)
    (⊎_elim (λ same. ap is_some (removed_there names p to same)) (λ other. ap is_some (removed_other names p to other) ∙ h.free) (same_or_other to p))
    (λ k taken at. ⊎_elim (λ same. absurd (true≢false (sym taken ∙ ap is_some (removed_there names p k same)))) (λ other. sym (ap is_some (removed_other names p k other)) ∙ taken) (same_or_other k p))

-- a name that is no directory is not the one above the target
no_dir_above : (names : Names) (p from to : Path) → is_dir names p ≡ false → IsAllowed names from to → parent to ≡ p → ⊥
no_dir_above names p from to plain h same = true≢false (sym h.above ∙ ap (is_dir names) same ∙ plain)

pub plain_gone : (names : Names) (p from to : Path) → (p ≡ from → ⊥) → is_dir names p ≡ false → IsAllowed names from to → IsAllowed (table.remove names p) from to
plain_gone names p from to no_from plain h = gone_stays names p from to no_from (no_dir_above names p from to plain h) h

-- a name of the trash is none of these
in_trash_other : (names : Names) (p from to : Path) → is_in_trash p ≡ true → IsAllowed names from to → (p ≡ from → ⊥) × (p ≡ to → ⊥) × (is_at_or_below from p ≡ false)
in_trash_other names p from to in_trash h = (
  λ same. not_in_trash from p h.path_from h.open_from in_trash (ap (λ (x : Path). is_at_or_below from x) same ∙ at_itself from),
  λ same. not_in_trash to p h.path_to h.open_to in_trash (ap (λ (x : Path). is_at_or_below to x) same ∙ at_itself to),
  by_test (is_at_or_below from p) refl,
)
  where
    by_test : (b : Bool) → is_at_or_below from p ≡ b → is_at_or_below from p ≡ false
    by_test false e = e
    by_test true e = absurd (not_in_trash from p h.path_from h.open_from in_trash e)

-- a file that is hidden, at names where it stands no more
hidden_stays : (names : Names) (moment id : ℕ) (from to : Path) → IsAllowed names from to → IsAllowed (table.insert names (hidden_name moment id) (File id)) from to
hidden_stays names moment id from to h =
    let p : Path = hidden_name moment id in
    let other = in_trash_other names p from to (hidden_in_trash moment id) h in
    put_stays names p (File id) from to other.0 other.1 other.2
    (λ same. absurd (parent_in_trash to h.open_to (ap (λ (x : Path). is_in_trash x) same ∙ hidden_in_trash moment id))) h

-- a file of the trash that is collected
pub collected_stays : (names : Names) (p : Path) (file : ℕ) (from to : Path) → node_at names p ≡ Some (File file) → is_in_trash p ≡ true → IsAllowed names from to → IsAllowed (table.remove names p) from to
collected_stays names p file from to is in_trash h = plain_gone names p from to (in_trash_other names p from to in_trash h).0 (ap is_dir_node is) h

-- the calls

deleted_stays : (names : Names) (p : Path) (moment : ℕ) (from to : Path) (o : Option Node) → node_at names p ≡ o → (p ≡ from → ⊥) → IsAllowed names from to → IsAllowed (hidden names p moment o) from to
deleted_stays names p moment from to None at no_from h = h
deleted_stays names p moment from to (Some Dir) at no_from h = h
deleted_stays names p moment from to (Some (File id)) at no_from h =
    hidden_stays (table.remove names p) moment id from to (plain_gone names p from to no_from (ap is_dir_node at) h)

renamed_stays : (names : Names) (p q from to : Path) (o : Option Node) → is_dir names p ≡ false → is_taken names q ≡ false → PassesLocks p from to → PassesLocks q from to → IsAllowed names from to
    → IsAllowed (with_node (table.remove names p) q o) from to
renamed_stays names p q from to None plain free one two h = plain_gone names p from to (apart_differ p from one.source) plain h
renamed_stays names p q from to (Some v) plain free one two h =
    put_passes (table.remove names p) q v from to two (λ same. absurd (no_dir_above names q from to (not_taken_no_dir (node_at names q) free) h same))
    (plain_gone names p from to (apart_differ p from one.source) plain h)

-- what another snapshot copies stands at or below its target
pub copied_below : (names : Names) (p q x : Path) (v : Node) → (p ≡ root → ⊥) → (q ≡ root → ⊥) → HasAt (copied_entries names p q) x v → is_at_or_below q x ≡ true
copied_below names p q x v p_other q_other there =
    let found = copied_of p q (table.entries names) x v there in
    let rest = at_or_below_is p found.0 p_other found.2 in
    let place : x ≡ q ++ rest.0 = found.3 ∙ ap (λ (k : Path). q ++ drop (length p) k) rest.1 ∙ ap (λ (t : List ℕ). q ++ t) (dropped p rest.0) in
    subst (λ (y : Path). is_at_or_below q y ≡ true) (sym place) (at_or_below_from q rest.0 q_other rest.2)
  where
    dropped : (a b : List ℕ) → drop (length a) (a ++ b) ≡ b
    dropped [] b = refl
    dropped (c ∷ a) b = dropped a b

pub copies_stay : (config : Config) (names : Names) (p q : Path) (next : ℕ) (from to : Path) → refusal_of config names (call.Snapshot p q) ≡ None → PassesLocks q from to → IsAllowed names from to
    → IsAllowed (with_copies names next (copied_entries names p q)) from to
copies_stay config names p q next from to may apart h =
    let mine : IsAllowed names p q = allowed_from config names p q may in
    let p_other = (open_path p mine.open_from).0 in
    let q_other = (open_path q mine.open_to).0 in
    let from_other = (open_path from h.open_from).0 in
    let to_other = (open_path to h.open_to).0 in
    let more : Names = with_copies names next (copied_entries names p q) in
    stays names more from to h (still_taken (copied_entries names p q) names next from h.there)
    (copies_dir (copied_entries names p q) names next (parent to) (λ v there. absurd (no_parent q_other (copied_below names p q (parent to) v p_other q_other there))) (inl h.above))
    (untaken (is_taken more to) refl (λ taken. ⊎_elim (λ before. true≢false (sym before ∙ h.free))
    (λ copied. true≢false (sym (copied_below names p q to copied.0 p_other q_other copied.1) ∙ apart.target.below)) (copies_taken (copied_entries names p q) names next to taken)))
    (λ k taken at. ⊎_elim (λ before. before)
    (λ copied. absurd (nothing_in_both q from k q_other from_other apart.source (copied_below names p q k copied.0 p_other q_other copied.1) at)) (copies_taken (copied_entries names p q) names next k taken))
  where
    still_taken : (es : List (Path × Node)) (ns : Names) (n : ℕ) (x : Path) → is_taken ns x ≡ true → is_taken (with_copies ns n es) x ≡ true
    still_taken [] ns n x is = is
    still_taken (e ∷ es) ns n x is =
        still_taken es _ _ x (⊎_elim (λ same. ap is_some (inserted_there ns e.0 _ x same)) (λ other. ap is_some (inserted_other ns e.0 _ x other) ∙ is) (same_or_other x e.0))

    untaken : (b : Bool) → is_taken (with_copies names next (copied_entries names p q)) to ≡ b → (is_taken (with_copies names next (copied_entries names p q)) to ≡ true → ⊥)
        → is_taken (with_copies names next (copied_entries names p q)) to ≡ false
    untaken false e none = e
    untaken true e none = absurd (none e)

    no_parent : (q ≡ root → ⊥) → is_at_or_below q (parent to) ≡ true → ⊥
    no_parent q_other at = true≢false (sym (parent_at q to (allowed_from config names p q may).path_to q_other at) ∙ apart.target.below)

-- no lock conflicts

pub locks_passed : (p from to : Path) (rest : Bool) → list_any (λ q. conflict_at true p true q) (from ∷ to ∷ []) || rest ≡ false → PassesLocks p from to × (rest ≡ false)
locks_passed p from to rest h =
    let parts = or_parts (list_any (λ q. conflict_at true p true q) (from ∷ to ∷ [])) rest h in
    let one = or_parts (conflict_at true p true from) (conflict_at true p true to || false) parts.0 in
    let two = or_parts (conflict_at true p true to) false one.1 in
    (record { source = passes_lock p from one.0; target = passes_lock p to two.0 }, parts.1)

-- the removal of a directory that is empty
rmdir_stays : (names : Names) (p from to : Path) → is_reserved p ≡ false → PassesLocks p from to → IsAllowed names from to → IsAllowed (table.remove names p) from to
rmdir_stays names p from to plain apart h =
    gone_stays names p from to (apart_differ p from apart.source)
    (λ same. true≢false (sym (first_of (is_below p to) _ (child_of_parent p to (open_path p plain).0 same)) ∙ (or_parts (bytes_eq to p) (is_below p to) apart.target.below).1)) h
  where
    first_of : (a b : Bool) → a && b ≡ true → a ≡ true
    first_of true b e = refl
    first_of false b e = absurd (true≢false (sym e))

-- the names after a call that takes effect
abbrev pub names_done : Names → Call → ℕ → ℕ → Names
names_done names (call.Mkdir p) moment next = table.insert names p Dir
names_done names (call.Rmdir p) moment next = table.remove names p
names_done names (call.Create p shape) moment next = table.insert names p (File next)
names_done names (call.Delete p) moment next = hidden names p moment (node_at names p)
names_done names (call.Rename p q) moment next = with_node (table.remove names p) q (node_at names p)
names_done names (call.Snapshot p q) moment next = with_copies names next (copied_entries names p q)
names_done names other moment next = names

-- a call without conflict
pub call_leaves : (config : Config) (names : Names) (c : Call) (moment next : ℕ) (from to : Path) → refusal_of config names c ≡ None → conflict c (call.Snapshot from to) ≡ false → IsAllowed names from to
    → IsAllowed (names_done names c moment next) from to
call_leaves config names (call.Mkdir p) moment next from to may quiet h =
    put_passes names p Dir from to (locks_passed p from to false quiet).0 (λ same. refl) h
call_leaves config names (call.Rmdir p) moment next from to may quiet h =
    let all = tests_passed (path_tests config (call.Rmdir p) ++ name_tests names (call.Rmdir p)) may in
    rmdir_stays names p from to all.1.0 (locks_passed p from to false quiet).0 h
call_leaves config names (call.Create p shape) moment next from to may quiet h =
    let all = tests_passed (path_tests config (call.Create p shape) ++ name_tests names (call.Create p shape)) may in
    put_passes names p (File next) from to (locks_passed p from to false quiet).0 (λ same. absurd (no_dir_above names p from to (not_taken_no_dir (node_at names p) all.1.1.1.1.0) h same)) h
call_leaves config names (call.Delete p) moment next from to may quiet h =
    deleted_stays names p moment from to (node_at names p) refl (apart_differ p from (locks_passed p from to false quiet).0.source) h
call_leaves config names (call.Rename p q) moment next from to may quiet h =
    let all = tests_passed (path_tests config (call.Rename p q) ++ name_tests names (call.Rename p q)) may in
    let one = locks_passed p from to _ quiet in
    let two = locks_passed q from to false one.1 in
    renamed_stays names p q from to (node_at names p) all.1.1.1.1.0 all.1.1.1.1.1.1.0 one.0 two.0 h
call_leaves config names (call.Snapshot p q) moment next from to may quiet h =
    let one = locks_passed p from to _ quiet in
    let two = locks_passed q from to false one.1 in
    copies_stay config names p q next from to may two.0 h
call_leaves config names (call.Open p) moment next from to may quiet h = h
call_leaves config names (call.List p) moment next from to may quiet h = h
call_leaves config names (call.Close fd) moment next from to may quiet h = h
call_leaves config names (call.Length fd) moment next from to may quiet h = h
call_leaves config names (call.Write fd offset bytes) moment next from to may quiet h = h
call_leaves config names (call.Append fd bytes) moment next from to may quiet h = h
call_leaves config names (call.Read fd offset count) moment next from to may quiet h = h

performed_names : (m : Machine) (c : Call) (moment : ℕ) → (performed m c moment).names ≡ names_done m.names c moment (suc m.file_count)
performed_names m (call.Mkdir p) moment = refl
performed_names m (call.Rmdir p) moment = refl
performed_names m (call.Create p shape) moment = refl
performed_names m (call.Delete p) moment = refl
performed_names m (call.Rename p q) moment = refl
performed_names m (call.Snapshot p q) moment = refl
performed_names m other moment = refl

pub calls_leave_snapshots_unrefused : CallsLeaveSnapshotsUnrefused
calls_leave_snapshots_unrefused m c moment from to may quiet h =
    unrefused_from m.config (performed m c moment).names from to
    (subst (λ (ns : Names). IsAllowed ns from to) (sym (performed_names m c moment)) (call_leaves m.config m.names c moment (suc m.file_count) from to may quiet (allowed_from m.config m.names from to h)))

pub collections_leave_snapshots_unrefused : CollectionsLeaveSnapshotsUnrefused
collections_leave_snapshots_unrefused m file moment from to allowed h =
    unrefused_from m.config (after m (Expire file moment)).names from to
    (collected_stays m.names (hidden_name moment file) file from to allowed.0 (hidden_in_trash moment file) (allowed_from m.config m.names from to h))
