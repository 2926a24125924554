-- In every run the names are a tree.
use Rattle.std.proofs.Common.{◌≡◌, ℕ, zero, suc, ◌+◌, ◌-◌, ◌/◌, ◌%◌, ◌≤◌, ◌⊎◌, Bool, true, false, not, T, ◌&&◌, cond, List, [], ◌∷◌, ◌++◌, length, drop, Option, Some, None, is_some, refl, sym, ◌∙◌, ap, subst, inl, inr, ⊎_elim, arith, append_assoc, append-nil, length-append, codes}
use Rattle.std.specs.Prelude.{filter, nat_lt, map as list_map}
use Rattle.std.specs.List.{AllByRecursion, list_any}
use Rattle.std.specs.Str.{bytes_eq}
use Rattle.std.specs.Ordering.{nat_cmp, is_eq, is_lt}
use Rattle.std.specs.declared.cmp.Ordering.TheVariants.{Less, Equal, Greater}
use Rattle.std.specs.Cmp.Lexicographic.{slice_cmp, nat_list_cmp_total}
use Rattle.std.specs.FinMap as map
use Rattle.std.specs.FinMap.Entries.{find, is_sorted, below_all}
use Rattle.std.proofs.lemmas.Map.Text.{is_eq-slice_cmp}
use Rattle.std.proofs.lemmas.Bool.{true≢false, false≢true, or_parts, ne_eqb}
use Rattle.std.proofs.lemmas.Option.{none-some}
use Rattle.std.proofs.lemmas.List.{drop_at, append_cancel_left}
use Rattle.gfs_types.specs.declared.call.Call.{Call}
use Rattle.gfs_types.specs.declared.call.Call.TheVariants as call
use Rattle.gfs_types.specs.declared.refusal.Refusal.{Refusal}
use Rattle.gfs_types.specs.Paths.{Path, root, trash, is_slash, is_path, parent, is_at_or_below, is_child, digit, last_digits, hidden_name}
use Rattle.relaxed_file.specs.Names.{Node, Dir, File, Names, node_at, is_dir_node, is_taken, is_dir, IsTree, first_names, has_children, copied_entries, with_copies, id_after, copy_of_node}
use Rattle.relaxed_file.specs.Machine.{Machine, new_machine, Outcome}
use Rattle.relaxed_file.specs.NameStep.{first_refusal, is_in_trash, is_reserved, path_tests, name_tests, refusal_of, outcome_by, outcome_of, performed, is_refused, stepped, with_outcome, with_node, hidden}
use Rattle.relaxed_file.specs.Chunks.{chunk_added, placed}
use Rattle.relaxed_file.specs.Answers.{returned}
use Rattle.relaxed_file.specs.Reads.{looked}
use Rattle.relaxed_file.specs.Run.{Action, Return, Step, Expire, Add, Place, Look, Allows, after, asked_file}
use Rattle.relaxed_file.specs.RunLaws.{NamesStayATree}
use Rattle.relaxed_file.proofs.Tables.{at_some, from_some}
use Rattle.relaxed_file.proofs.Known.{asked_is}
use Rattle.relaxed_file.proofs.Reached.{kept_to}
use Rattle.relaxed_file.proofs.AskedFor.{all_pushed}
use Rattle.relaxed_file.proofs.PathParts.{HasNoSlash, equal_paths, same_paths, other_paths, Parted, at_slash, whole, parted, parent_of, child_of_parent, IsTail, at_or_below_from, at_or_below_is}
use Rattle.gfs_types.specs.declared.config.Config.{Config}

-- look-ups after a change, by the bytes of the paths
pub get_inserted : (names : Names) (p : Path) (v : Node) (q : Path) → node_at (map.insert names p v) q ≡ cond (bytes_eq q p) (Some v) (node_at names q)
get_inserted names p v q = map.get-insert nat_list_cmp_total names p v q ∙ ap (λ b. cond b (Some v) (node_at names q)) (is_eq-slice_cmp q p)

pub get_removed : (names : Names) (p q : Path) → node_at (map.remove names p) q ≡ cond (bytes_eq q p) None (node_at names q)
get_removed names p q = map.get-remove nat_list_cmp_total names p q ∙ ap (λ b. cond b None (node_at names q)) (is_eq-slice_cmp q p)

pub inserted_there : (names : Names) (p : Path) (v : Node) (q : Path) → q ≡ p → node_at (map.insert names p v) q ≡ Some v
inserted_there names p v q same = get_inserted names p v q ∙ ap (λ b. cond b (Some v) (node_at names q)) (same_paths q p same)

pub inserted_other : (names : Names) (p : Path) (v : Node) (q : Path) → (q ≡ p → ⊥) → node_at (map.insert names p v) q ≡ node_at names q
inserted_other names p v q other = get_inserted names p v q ∙ ap (λ b. cond b (Some v) (node_at names q)) (other_paths q p other)

pub removed_other : (names : Names) (p q : Path) → (q ≡ p → ⊥) → node_at (map.remove names p) q ≡ node_at names q
removed_other names p q other = get_removed names p q ∙ ap (λ b. cond b None (node_at names q)) (other_paths q p other)

pub removed_there : (names : Names) (p q : Path) → q ≡ p → node_at (map.remove names p) q ≡ None
removed_there names p q same = get_removed names p q ∙ ap (λ b. cond b None (node_at names q)) (same_paths q p same)

pub same_or_other : (q p : Path) → (q ≡ p) ⊎ (q ≡ p → ⊥)
same_or_other q p = elim (bytes_eq q p) as (λ b. bytes_eq q p ≡ b → (q ≡ p) ⊎ (q ≡ p → ⊥)) [
  | true ↦ λ e. inl (equal_paths q p e)
  | false ↦ λ e. inr (λ same. true≢false (sym (same_paths q p same) ∙ e))
] refl

-- what is a directory is taken
pub dir_taken : (o : Option Node) → is_dir_node o ≡ true → is_some o ≡ true
dir_taken None h = absurd (false≢true h)
dir_taken (Some v) h = refl

pub dir_there : (o : Option Node) → is_dir_node o ≡ true → o ≡ Some Dir
dir_there None h = absurd (false≢true h)
dir_there (Some Dir) h = refl
dir_there (Some (File id)) h = absurd (false≢true h)

pub taken_there : (o : Option Node) → is_some o ≡ true → (v : Node) × (o ≡ Some v)
taken_there None h = absurd (false≢true h)
taken_there (Some v) h = (v, refl)

-- a tree whose hidden names are files
pub record Tree (names : Names) : Type 0 where
  pub is : IsTree names
  pub hidden_are_files : (moment id : ℕ) → is_dir names (hidden_name moment id) ≡ false

-- the two are apart where one is a directory and the other isn't
apart : (names : Names) (p q : Path) → is_dir names p ≡ false → is_dir names q ≡ true → q ≡ p → ⊥
apart names p q plain dir same = true≢false (sym dir ∙ ap (is_dir names) same ∙ plain)

pub dir_kept : (names : Names) (p : Path) (v : Node) (q : Path) → (q ≡ p → v ≡ Dir) → is_dir names q ≡ true → is_dir (map.insert names p v) q ≡ true
dir_kept names p v q dir h = ⊎_elim
    (λ same. ap is_dir_node (inserted_there names p v q same) ∙ ap (λ w. is_dir_node (Some w)) (dir same))
    (λ other. ap is_dir_node (inserted_other names p v q other) ∙ h)
    (same_or_other q p)

pub taken_before : (names : Names) (p : Path) (v : Node) (q : Path) → is_taken (map.insert names p v) q ≡ true → (q ≡ p) ⊎ (is_taken names q ≡ true)
taken_before names p v q h = ⊎_elim (λ same. inl same) (λ other. inr (sym (ap is_some (inserted_other names p v q other)) ∙ h)) (same_or_other q p)

pub added : (names : Names) (p : Path) (v : Node) → Tree names → is_dir names (parent p) ≡ true → ((q : Path) → is_dir names q ≡ true → q ≡ p → v ≡ Dir)
    → ((moment id : ℕ) → hidden_name moment id ≡ p → is_dir_node (Some v) ≡ false) → Tree (map.insert names p v)
added names p v tree above dirs hides = record {
  is = record {
    root_is_dir = dir_kept names p v root (dirs root (tree.is).root_is_dir) (tree.is).root_is_dir;
    trash_is_dir = dir_kept names p v trash (dirs trash (tree.is).trash_is_dir) (tree.is).trash_is_dir;
    parents_are_dirs = λ q taken. ⊎_elim
        (λ same. let here : is_dir names (parent q) ≡ true = ap (λ r. is_dir names (parent r)) same ∙ above in dir_kept names p v (parent q) (dirs (parent q) here) here)
        (λ before. let here : is_dir names (parent q) ≡ true = (tree.is).parents_are_dirs q before in dir_kept names p v (parent q) (dirs (parent q) here) here)
        (taken_before names p v q taken);
  };
  hidden_are_files = λ moment id. ⊎_elim
      (λ same. ap is_dir_node (inserted_there names p v (hidden_name moment id) same) ∙ hides moment id same)
      (λ other. ap is_dir_node (inserted_other names p v (hidden_name moment id) other) ∙ tree.hidden_are_files moment id)
      (same_or_other (hidden_name moment id) p);
}

pub removed : (names : Names) (p : Path) → Tree names → (root ≡ p → ⊥) → (trash ≡ p → ⊥) → ((q : Path) → is_taken names q ≡ true → parent q ≡ p → ⊥) → Tree (map.remove names p)
removed names p tree no_root no_trash childless = record {
  is = record {
    root_is_dir = ap is_dir_node (removed_other names p root no_root) ∙ (tree.is).root_is_dir;
    trash_is_dir = ap is_dir_node (removed_other names p trash no_trash) ∙ (tree.is).trash_is_dir;
    parents_are_dirs = λ q taken. ⊎_elim
        (λ same. absurd (false≢true (sym (ap is_some (removed_there names p q same)) ∙ taken)))
        (λ other. let before : is_taken names q ≡ true = sym (ap is_some (removed_other names p q other)) ∙ taken in
        ap is_dir_node (removed_other names p (parent q) (childless q before)) ∙ (tree.is).parents_are_dirs q before)
        (same_or_other q p);
  };
  hidden_are_files = λ moment id. ⊎_elim
      (λ same. ap is_dir_node (removed_there names p (hidden_name moment id) same))
      (λ other. ap is_dir_node (removed_other names p (hidden_name moment id) other) ∙ tree.hidden_are_files moment id)
      (same_or_other (hidden_name moment id) p);
}

pub file_removed : (names : Names) (p : Path) → Tree names → is_dir names p ≡ false → Tree (map.remove names p)
file_removed names p tree plain = removed names p tree (apart names p root plain (tree.is).root_is_dir) (apart names p trash plain (tree.is).trash_is_dir)
    (λ q taken. apart names p (parent q) plain ((tree.is).parents_are_dirs q taken))

pub file_added : (names : Names) (p : Path) (id : ℕ) → Tree names → is_dir names (parent p) ≡ true → is_dir names p ≡ false → Tree (map.insert names p (File id))
file_added names p id tree above plain = added names p (File id) tree above (λ q dir same. absurd (apart names p q plain dir same)) (λ moment i same. refl)

-- hidden names lie right below the directory of deleted files
no_slash_digit : (d : ℕ) → is_slash (digit d) ≡ false
no_slash_digit d = elim (nat_lt d 10) as (λ b. is_slash (cond b (48 + d) (97 + (d - 10))) ≡ false) [
  | true ↦ ne_eqb (48 + d) 47 (λ e. absurd (omega arith))
  | false ↦ ne_eqb (97 + (d - 10)) 47 (λ e. absurd (omega arith))
]

no_slash_digits : (base count n : ℕ) → HasNoSlash (last_digits base count n)
no_slash_digits base zero n = tt
no_slash_digits base (suc count) n = all_pushed (λ c. is_slash c ≡ false) (last_digits base count (n / base)) (digit (n % base)) (no_slash_digits base count (n / base)) (no_slash_digit (n % base))

no_slash_both : (a b : List ℕ) → HasNoSlash a → HasNoSlash b → HasNoSlash (a ++ b)
no_slash_both [] b h g = g
no_slash_both (c ∷ a) b h g = (h.0, no_slash_both a b h.1 g)

pub hidden_parent : (moment id : ℕ) → parent (hidden_name moment id) ≡ trash
hidden_parent moment id = parent_of 47 (codes ".gone") (last_digits 10 20 moment ++ codes "-" ++ last_digits 16 16 id)
    (no_slash_both (last_digits 10 20 moment) (codes "-" ++ last_digits 16 16 id) (no_slash_digits 10 20 moment) (no_slash_both (codes "-") (last_digits 16 16 id) (refl, tt) (no_slash_digits 16 16 id)))

pub hidden_in_trash : (moment id : ℕ) → is_in_trash (hidden_name moment id) ≡ true
hidden_in_trash moment id = refl

-- what is not in the trash is no hidden name
pub not_hidden : (p : Path) → is_in_trash p ≡ false → (moment id : ℕ) → hidden_name moment id ≡ p → ⊥
not_hidden p outside moment id same = true≢false (sym (hidden_in_trash moment id) ∙ ap is_in_trash same ∙ outside)

pub hidden_added : (names : Names) (moment id : ℕ) → Tree names → Tree (map.insert names (hidden_name moment id) (File id))
hidden_added names moment id tree = file_added names (hidden_name moment id) id tree (ap (is_dir names) (hidden_parent moment id) ∙ (tree.is).trash_is_dir) (tree.hidden_are_files moment id)

-- tests that are passed
pub passed : (b : Bool) (r : Refusal) (rest : Option Refusal) → cond b (Some r) rest ≡ None → (b ≡ false) × (rest ≡ None)
passed true r rest h = absurd (none-some r (sym h))
passed false r rest h = (refl, h)

pub true_from : (b : Bool) → not b ≡ false → b ≡ true
true_from true h = refl
true_from false h = absurd (true≢false h)

by_refusal : (names : Names) (c : Call) (o : Option Refusal) → is_refused (outcome_by names c o) ≡ false → o ≡ None
by_refusal names c None h = refl
by_refusal names c (Some r) h = absurd (true≢false h)

pub unrefused : (config : Config) (names : Names) (c : Call) (outcome : Outcome) → outcome ≡ outcome_of config names c → is_refused outcome ≡ false → refusal_of config names c ≡ None
unrefused config names c outcome is h = by_refusal names c (refusal_of config names c) (ap is_refused (sym is) ∙ h)

pub not_taken_no_dir : (o : Option Node) → is_some o ≡ false → is_dir_node o ≡ false
not_taken_no_dir None h = refl
not_taken_no_dir (Some v) h = absurd (true≢false h)

-- the children of a directory are among its entries
found_child : (p q : Path) (es : List (Path × Node)) (v : Node) → find (slice_cmp nat_cmp) q es ≡ Some v → list_any (λ e. is_child p e.0) es ≡ false → is_child p q ≡ false
found_child p q [] v h none = absurd (none-some v h)
found_child p q (e ∷ es) v h none =
    let parts : (is_child p e.0 ≡ false) × (list_any (λ f. is_child p f.0) es ≡ false) = or_parts _ _ none in
    elim (bytes_eq q e.0) as (λ b. bytes_eq q e.0 ≡ b → cond b (Some e.1) (find (slice_cmp nat_cmp) q es) ≡ Some v → is_child p q ≡ false) [
      | true ↦ λ same is. ap (is_child p) (equal_paths q e.0 same) ∙ parts.0
      | false ↦ λ other is. found_child p q es v is parts.1
    ] refl (ap (λ b. cond b (Some e.1) (find (slice_cmp nat_cmp) q es)) (sym (is_eq-slice_cmp q e.0)) ∙ h)

no_child : (names : Names) (p q : Path) → has_children names p ≡ false → is_taken names q ≡ true → is_child p q ≡ false
no_child names p q none taken =
    let there : (v : Node) × (node_at names q ≡ Some v) = taken_there (node_at names q) taken in
    found_child p q (map.entries names) there.0 (sym (map.get-entries names q) ∙ there.1) none

pub rmdir_tree : (names : Names) (p : Path) → Tree names → is_reserved p ≡ false → has_children names p ≡ false → Tree (map.remove names p)
rmdir_tree names p tree reserved none =
    let outside : (bytes_eq p root ≡ false) × (is_in_trash p ≡ false) = or_parts _ _ reserved in
    let no_root : p ≡ root → ⊥ = λ same. true≢false (sym (same_paths p root same) ∙ outside.0) in
    let no_trash : bytes_eq p trash ≡ false = (or_parts _ _ outside.1).0 in
    removed names p tree (λ same. no_root (sym same)) (λ same. true≢false (sym (same_paths p trash (sym same)) ∙ no_trash))
    (λ q taken is. true≢false (sym (child_of_parent p q no_root is) ∙ no_child names p q none taken))

pub delete_tree : (names : Names) (p : Path) (moment : ℕ) (o : Option Node) → node_at names p ≡ o → Tree names → Tree (hidden names p moment o)
delete_tree names p moment None is tree = tree
delete_tree names p moment (Some Dir) is tree = tree
delete_tree names p moment (Some (File id)) is tree = hidden_added (map.remove names p) moment id (file_removed names p tree (ap is_dir_node is))

pub rename_tree : (names : Names) (p q : Path) (o : Option Node) → node_at names p ≡ o → Tree names → is_dir names p ≡ false → is_dir names (parent q) ≡ true → is_taken names q ≡ false
    → Tree (with_node (map.remove names p) q o)
rename_tree names p q None is tree plain above free = file_removed names p tree plain
rename_tree names p q (Some Dir) is tree plain above free = absurd (true≢false (sym (ap is_dir_node is) ∙ plain))
rename_tree names p q (Some (File id)) is tree plain above free =
    file_added (map.remove names p) q id (file_removed names p tree plain)
    (ap is_dir_node (removed_other names p (parent q) (apart names p (parent q) plain above)) ∙ above)
    (⊎_elim (λ same. ap is_dir_node (removed_there names p q same)) (λ other. ap is_dir_node (removed_other names p q other) ∙ not_taken_no_dir (node_at names q) free) (same_or_other q p))

-- entries, and what a snapshot copies of them
abbrev pub HasAt : List (Path × Node) → Path → Node → Type 0
HasAt [] k v = ⊥
HasAt (e ∷ rest) k v = ((e.0 ≡ k) × (e.1 ≡ v)) ⊎ HasAt rest k v

pub found_at : (q : Path) (es : List (Path × Node)) (v : Node) → find (slice_cmp nat_cmp) q es ≡ Some v → HasAt es q v
found_at q [] v h = absurd (none-some v h)
found_at q (e ∷ es) v h =
    elim (bytes_eq q e.0) as (λ b. bytes_eq q e.0 ≡ b → cond b (Some e.1) (find (slice_cmp nat_cmp) q es) ≡ Some v → HasAt (e ∷ es) q v) [
      | true ↦ λ same is. inl (sym (equal_paths q e.0 same), from_some is)
      | false ↦ λ other is. inr (found_at q es v is)
    ] refl (ap (λ b. cond b (Some e.1) (find (slice_cmp nat_cmp) q es)) (sym (is_eq-slice_cmp q e.0)) ∙ h)

not_below_itself : (k : Path) → T (is_lt (slice_cmp nat_cmp k k)) → ⊥
not_below_itself k h = elim (slice_cmp nat_cmp k k) as (λ r. is_eq r ≡ true → T (is_lt r) → ⊥) [
  | Less ↦ λ e l. false≢true e
  | Equal ↦ λ e l. l
  | Greater ↦ λ e l. l
] (is_eq-slice_cmp k k ∙ same_paths k k refl) h

T_parts : (a b : Bool) → T (a && b) → T a × T b
T_parts true b h = (tt, h)
T_parts false b h = absurd h

below_each : (k : Path) (es : List (Path × Node)) (q : Path) (v : Node) → T (below_all (slice_cmp nat_cmp) k es) → HasAt es q v → q ≡ k → ⊥
below_each k [] q v below h same = h
below_each k (e ∷ es) q v below h same = ⊎_elim
    (λ here. not_below_itself k (subst (λ r. T (is_lt (slice_cmp nat_cmp k r))) (here.0 ∙ same) (T_parts _ _ below).0))
    (λ later. below_each k es q v (T_parts _ _ below).1 later same) h

-- an entry is what its name stands for
pub entry_found : (es : List (Path × Node)) (q : Path) (v : Node) → T (is_sorted (slice_cmp nat_cmp) es) → HasAt es q v → find (slice_cmp nat_cmp) q es ≡ Some v
entry_found [] q v sorted h = absurd h
entry_found (e ∷ es) q v sorted h =
    ap (λ b. cond b (Some e.1) (find (slice_cmp nat_cmp) q es)) (is_eq-slice_cmp q e.0)
    ∙ ⊎_elim
    (λ here. ap (λ b. cond b (Some e.1) (find (slice_cmp nat_cmp) q es)) (same_paths q e.0 (sym here.0)) ∙ ap Some here.1)
    (λ later. ap (λ b. cond b (Some e.1) (find (slice_cmp nat_cmp) q es)) (other_paths q e.0 (below_each e.0 es q v (T_parts _ _ sorted).0 later)) ∙ entry_found es q v (T_parts _ _ sorted).1 later)
    h

pub entry_is : (names : Names) (q : Path) (v : Node) → HasAt (map.entries names) q v → node_at names q ≡ Some v
entry_is names q v h = map.get-entries names q ∙ entry_found (map.entries names) q v (map.entries_sorted names) h

-- copies
module _ (from to : Path) where
  abbrev pub copy : Path × Node → Path × Node
  copy e = (to ++ drop (length from) e.0, e.1)

  abbrev pub copies : List (Path × Node) → List (Path × Node)
  copies es = list_map copy (filter (λ e. is_at_or_below from e.0) es)

  copy_there : (es : List (Path × Node)) (k : Path) (v : Node) → HasAt es k v → is_at_or_below from k ≡ true → HasAt (copies es) (to ++ drop (length from) k) v
  copy_there [] k v h in_it = absurd h
  copy_there (e ∷ es) k v h in_it =
      elim (is_at_or_below from e.0) as (λ b. is_at_or_below from e.0 ≡ b → HasAt (list_map copy (cond b (e ∷ filter (λ f. is_at_or_below from f.0) es) (filter (λ f. is_at_or_below from f.0) es))) (to ++ drop (length from) k) v) [
        | true ↦ λ is. ⊎_elim (λ here. inl (ap (λ p. to ++ drop (length from) p) here.0, here.1)) (λ later. inr (copy_there es k v later in_it)) h
        | false ↦ λ is. ⊎_elim (λ here. absurd (true≢false (sym in_it ∙ ap (is_at_or_below from) (sym here.0) ∙ is))) (λ later. copy_there es k v later in_it) h
      ] refl

  pub copied_of : (es : List (Path × Node)) (x : Path) (v : Node) → HasAt (copies es) x v → (k : Path) × HasAt es k v × (is_at_or_below from k ≡ true) × (x ≡ to ++ drop (length from) k)
  copied_of [] x v h = absurd h
  copied_of (e ∷ es) x v h =
      elim (is_at_or_below from e.0) as (λ b. is_at_or_below from e.0 ≡ b → HasAt (list_map copy (cond b (e ∷ filter (λ f. is_at_or_below from f.0) es) (filter (λ f. is_at_or_below from f.0) es))) x v
      → (k : Path) × HasAt (e ∷ es) k v × (is_at_or_below from k ≡ true) × (x ≡ to ++ drop (length from) k)) [
        | true ↦ λ is there. ⊎_elim
            (λ here. (e.0, inl (refl, here.1), is, sym here.0))
            (λ later. let more : (k : Path) × HasAt es k v × (is_at_or_below from k ≡ true) × (x ≡ to ++ drop (length from) k) = copied_of es x v later in (more.0, inr more.1, more.2, more.3)) there
        | false ↦ λ is there. let more : (k : Path) × HasAt es k v × (is_at_or_below from k ≡ true) × (x ≡ to ++ drop (length from) k) = copied_of es x v there in (more.0, inr more.1, more.2, more.3)
      ] refl h

-- names with copies of these
pub copies_taken : (es : List (Path × Node)) (names : Names) (next : ℕ) (x : Path) → is_taken (with_copies names next es) x ≡ true → (is_taken names x ≡ true) ⊎ ((v : Node) × HasAt es x v)
copies_taken [] names next x h = inl h
copies_taken (e ∷ es) names next x h = ⊎_elim
    (λ before. ⊎_elim (λ same. inr (e.1, inl (sym same, refl))) (λ there. inl there) (taken_before names e.0 (copy_of_node next e.1) x before))
    (λ later. inr (later.0, inr later.1))
    (copies_taken es (map.insert names e.0 (copy_of_node next e.1)) (id_after next e.1) x h)

copy_dir : (next : ℕ) (v : Node) → v ≡ Dir → copy_of_node next v ≡ Dir
copy_dir next v is = ap (copy_of_node next) is

pub copies_dir : (es : List (Path × Node)) (names : Names) (next : ℕ) (x : Path) → ((v : Node) → HasAt es x v → v ≡ Dir) → (is_dir names x ≡ true) ⊎ HasAt es x Dir → is_dir (with_copies names next es) x ≡ true
copies_dir [] names next x dirs (inl h) = h
copies_dir [] names next x dirs (inr h) = absurd h
copies_dir (e ∷ es) names next x dirs (inl h) =
    copies_dir es (map.insert names e.0 (copy_of_node next e.1)) (id_after next e.1) x (λ v there. dirs v (inr there))
    (inl (dir_kept names e.0 (copy_of_node next e.1) x (λ same. copy_dir next e.1 (dirs e.1 (inl (sym same, refl)))) h))
copies_dir (e ∷ es) names next x dirs (inr (inl here)) =
    copies_dir es (map.insert names e.0 (copy_of_node next e.1)) (id_after next e.1) x (λ v there. dirs v (inr there))
    (inl (ap is_dir_node (inserted_there names e.0 (copy_of_node next e.1) x (sym here.0)) ∙ ap (λ w. is_dir_node (Some w)) (copy_dir next e.1 here.1)))
copies_dir (e ∷ es) names next x dirs (inr (inr later)) =
    copies_dir es (map.insert names e.0 (copy_of_node next e.1)) (id_after next e.1) x (λ v there. dirs v (inr there)) (inr later)

pub copies_other : (es : List (Path × Node)) (names : Names) (next : ℕ) (x : Path) → ((v : Node) → HasAt es x v → ⊥) → node_at (with_copies names next es) x ≡ node_at names x
copies_other [] names next x none = refl
copies_other (e ∷ es) names next x none =
    copies_other es (map.insert names e.0 (copy_of_node next e.1)) (id_after next e.1) x (λ v there. none v (inr there))
    ∙ inserted_other names e.0 (copy_of_node next e.1) x (λ same. none e.1 (inl (sym same, refl)))

-- a tail is nothing, or ends behind its last slash
tail_parts : (s : List ℕ) → Parted s → IsTail s → (s ≡ []) ⊎ ((front : List ℕ) × (part : List ℕ) × HasNoSlash part × IsTail front × (s ≡ front ++ 47 ∷ part))
tail_parts s (whole [] h) tail = inl refl
tail_parts s (whole (c ∷ rest) h) tail = absurd (true≢false (sym (ap is_slash tail) ∙ h.0))
tail_parts s (at_slash [] part h) tail = inr ([], part, h, tt, refl)
tail_parts s (at_slash (c ∷ front) part h) tail = inr (c ∷ front, part, h, tail, refl)

parent_joined : (c : ℕ) (d front part : List ℕ) → HasNoSlash part → parent ((c ∷ d) ++ (front ++ 47 ∷ part)) ≡ (c ∷ d) ++ front
parent_joined c d front part h = ap parent (sym (append_assoc (c ∷ d) front (47 ∷ part))) ∙ parent_of c (d ++ front) part h

no_more : (xs ys : List ℕ) → xs ++ ys ≡ [] → xs ≡ []
no_more [] ys h = refl
no_more (x ∷ xs) ys h = let l : length ((x ∷ xs) ++ ys) ≡ 0 = ap (λ (k : List ℕ). length k) h in absurd (omega arith)

rest_of : (x y : ℕ) (xs ys : List ℕ) → x ∷ xs ≡ y ∷ ys → (x ≡ y) × (xs ≡ ys)
rest_of x y xs ys h = (
  ap (λ (t : List ℕ). elim t as (λ s. ℕ) [ [] ↦ x | z ∷ zs ↦ z ]) h,
  ap (λ (t : List ℕ). elim t as (λ s. List ℕ) [ [] ↦ xs | z ∷ zs ↦ zs ]) h,
)

-- the names after a snapshot of p at q
module _ (names : Names) (c : ℕ) (p' : List ℕ) (d : ℕ) (q' : List ℕ) (next : ℕ) (tree : Tree names)
    (p_no_root : (c ∷ p') ≡ root → ⊥) (q_no_root : (d ∷ q') ≡ root → ⊥) (outside : is_in_trash (d ∷ q') ≡ false)
    (above : is_dir names (parent (d ∷ q')) ≡ true) (free : is_taken names (d ∷ q') ≡ false) where
  abbrev p : Path
  p = c ∷ p'

  abbrev q : Path
  q = d ∷ q'

  abbrev es : List (Path × Node)
  es = map.entries names

  abbrev added_copies : List (Path × Node)
  added_copies = copies p q es

  abbrev after_copies : Names
  after_copies = with_copies names next added_copies

  -- nothing at or below q is taken
  nothing_there : (n : ℕ) (s : List ℕ) → length s ≤ n → IsTail s → is_taken names (q ++ s) ≡ true → ⊥
  nothing_there zero s l tail taken = elim (tail_parts s (parted s) tail) [
    | inl none ↦ true≢false (sym taken ∙ ap (is_taken names) (ap (λ t. q ++ t) none ∙ append-nil q) ∙ free)
    | inr parts ↦ let whole_length : length s ≡ length (parts.0 ++ 47 ∷ parts.1) = ap (λ (t : List ℕ). length t) parts.4 in omega (arith, whole_length, length-append parts.0 (47 ∷ parts.1), l)
  ]
  nothing_there (suc n) s l tail taken = elim (tail_parts s (parted s) tail) [
    | inl none ↦ true≢false (sym taken ∙ ap (is_taken names) (ap (λ t. q ++ t) none ∙ append-nil q) ∙ free)
    | inr parts ↦
        let whole_length : length s ≡ length (parts.0 ++ 47 ∷ parts.1) = ap (λ (t : List ℕ). length t) parts.4 in
        let up : parent (q ++ s) ≡ q ++ parts.0 = ap (λ t. parent (q ++ t)) parts.4 ∙ parent_joined d q' parts.0 parts.1 parts.2 in
        let dir : is_dir names (q ++ parts.0) ≡ true = sym (ap (is_dir names) up) ∙ (tree.is).parents_are_dirs (q ++ s) taken in
        nothing_there n parts.0 (omega (arith, whole_length, length-append parts.0 (47 ∷ parts.1), l)) parts.3 (dir_taken (node_at names (q ++ parts.0)) dir)
  ]

  -- a copy, with what it is a copy of
  abbrev IsCopy : Path → Node → Type 0
  IsCopy x v = (s : List ℕ) × IsTail s × (x ≡ q ++ s) × (node_at names (p ++ s) ≡ Some v)

  copy_is : (x : Path) (v : Node) → HasAt added_copies x v → IsCopy x v
  copy_is x v there =
      let from : (k : Path) × HasAt es k v × (is_at_or_below p k ≡ true) × (x ≡ q ++ drop (length p) k) = copied_of p q es x v there in
      let below : (s : List ℕ) × (from.0 ≡ p ++ s) × IsTail s = at_or_below_is p from.0 p_no_root from.2 in (
        below.0,
        below.2,
        from.3 ∙ ap (λ k. q ++ drop (length p) k) below.1 ∙ ap (λ t. q ++ t) (drop_at p below.0 (length p) refl),
        subst (λ k. node_at names k ≡ Some v) below.1 (entry_is names from.0 v from.1),
      )

  not_taken_copy : (x : Path) (v : Node) → HasAt added_copies x v → is_taken names x ≡ true → ⊥
  not_taken_copy x v there taken =
      let is : IsCopy x v = copy_is x v there in
      nothing_there (length is.0) is.0 (omega arith) is.1 (sym (ap (is_taken names) is.2) ∙ taken)

  dirs_kept : (x : Path) → is_dir names x ≡ true → is_dir after_copies x ≡ true
  dirs_kept x h = copies_dir added_copies names next x (λ v there. absurd (not_taken_copy x v there (dir_taken (node_at names x) h))) (inl h)

  -- the parent of a copy is there, or is a copy
  copy_parent : (x : Path) (v : Node) → IsCopy x v → is_dir after_copies (parent x) ≡ true
  copy_parent x v is = elim (tail_parts is.0 (parted is.0) is.1) [
    | inl none ↦ ap (λ k. is_dir after_copies (parent k)) (is.2 ∙ ap (λ t. q ++ t) none ∙ append-nil q) ∙ dirs_kept (parent q) above
    | inr parts ↦
        let source_parent : parent (p ++ is.0) ≡ p ++ parts.0 = ap (λ t. parent (p ++ t)) parts.4 ∙ parent_joined c p' parts.0 parts.1 parts.2 in
        let source_dir : is_dir names (p ++ parts.0) ≡ true = sym (ap (is_dir names) source_parent) ∙ (tree.is).parents_are_dirs (p ++ is.0) (ap is_some is.3) in
        let source : node_at names (p ++ parts.0) ≡ Some Dir = dir_there (node_at names (p ++ parts.0)) source_dir in
        let entry : HasAt es (p ++ parts.0) Dir = found_at (p ++ parts.0) es Dir (sym (map.get-entries names (p ++ parts.0)) ∙ source) in
        let copy_of : HasAt added_copies (q ++ parts.0) Dir = subst (λ t. HasAt added_copies (q ++ t) Dir) (drop_at p parts.0 (length p) refl)
        (copy_there p q es (p ++ parts.0) Dir entry (at_or_below_from p parts.0 p_no_root parts.3)) in
        let copied_parent : parent x ≡ q ++ parts.0 = ap parent is.2 ∙ ap (λ t. parent (q ++ t)) parts.4 ∙ parent_joined d q' parts.0 parts.1 parts.2 in
        ap (is_dir after_copies) copied_parent ∙ copies_dir added_copies names next (q ++ parts.0)
        (λ w there. let other : IsCopy (q ++ parts.0) w = copy_is (q ++ parts.0) w there in
        let same : parts.0 ≡ other.0 = append_cancel_left q parts.0 other.0 other.2 in
        from_some (sym other.3 ∙ ap (λ t. node_at names (p ++ t)) (sym same) ∙ source))
        (inr copy_of)
  ]

  -- no copy has a hidden name
  no_hidden_copy : (moment id : ℕ) (s : List ℕ) → IsTail s → hidden_name moment id ≡ q ++ s → ⊥
  no_hidden_copy moment id s tail same = elim (tail_parts s (parted s) tail) [
    | inl none ↦ not_hidden q outside moment id (same ∙ ap (λ t. q ++ t) none ∙ append-nil q)
    | inr parts ↦
        let up : trash ≡ q ++ parts.0 = sym (hidden_parent moment id) ∙ ap parent same ∙ ap (λ t. parent (q ++ t)) parts.4 ∙ parent_joined d q' parts.0 parts.1 parts.2 in
        elim (tail_parts parts.0 (parted parts.0) parts.3) [
          | inl none ↦ true≢false (ap is_in_trash (up ∙ ap (λ t. q ++ t) none ∙ append-nil q) ∙ outside)
          | inr more ↦
              let top : root ≡ q ++ more.0 = ap parent up ∙ ap (λ t. parent (q ++ t)) more.4 ∙ parent_joined d q' more.0 more.1 more.2 in
              let ends : (47 ≡ d) × ([] ≡ q' ++ more.0) = rest_of 47 d [] (q' ++ more.0) top in
              q_no_root (ap (λ x. x ∷ q') (sym ends.0) ∙ ap (λ t. 47 ∷ t) (no_more q' more.0 (sym ends.1)))
        ]
  ]

  snapshot_tree : Tree after_copies
  snapshot_tree = record {
    is = record {
      root_is_dir = dirs_kept root (tree.is).root_is_dir;
      trash_is_dir = dirs_kept trash (tree.is).trash_is_dir;
      parents_are_dirs = λ x taken. ⊎_elim
          (λ before. dirs_kept (parent x) ((tree.is).parents_are_dirs x before))
          (λ copied. copy_parent x copied.0 (copy_is x copied.0 copied.1))
          (copies_taken added_copies names next x taken);
    };
    hidden_are_files = λ moment id.
        ap is_dir_node (copies_other added_copies names next (hidden_name moment id) (λ v there. let is : IsCopy (hidden_name moment id) v = copy_is (hidden_name moment id) v there in no_hidden_copy moment id is.0 is.1 is.2))
        ∙ tree.hidden_are_files moment id;
  }

pub snapshot_names : (names : Names) (p q : Path) (next : ℕ) → Tree names → is_path p ≡ true → is_path q ≡ true → is_reserved p ≡ false → is_reserved q ≡ false
    → is_dir names (parent q) ≡ true → is_taken names q ≡ false → Tree (with_copies names next (copied_entries names p q))
snapshot_names names [] q next tree path_p path_q res_p res_q above free = absurd (false≢true path_p)
snapshot_names names (c ∷ p') [] next tree path_p path_q res_p res_q above free = absurd (false≢true path_q)
snapshot_names names (c ∷ p') (d ∷ q') next tree path_p path_q res_p res_q above free =
    let p_out : (bytes_eq (c ∷ p') root ≡ false) × (is_in_trash (c ∷ p') ≡ false) = or_parts _ _ res_p in
    let q_out : (bytes_eq (d ∷ q') root ≡ false) × (is_in_trash (d ∷ q') ≡ false) = or_parts _ _ res_q in
    snapshot_tree names c p' d q' next tree
    (λ same. true≢false (sym (same_paths (c ∷ p') root same) ∙ p_out.0)) (λ same. true≢false (sym (same_paths (d ∷ q') root same) ∙ q_out.0))
    q_out.1 above free

-- what a snapshot copies lies at or below its target, where nothing was taken, and has no hidden name
pub copies_are_new : (names : Names) (p q : Path) → Tree names → is_path p ≡ true → is_path q ≡ true → is_reserved p ≡ false → is_reserved q ≡ false
    → is_dir names (parent q) ≡ true → is_taken names q ≡ false → (x : Path) (v : Node) → HasAt (copied_entries names p q) x v
    → (is_at_or_below q x ≡ true) × (is_taken names x ≡ true → ⊥) × ((moment id : ℕ) → hidden_name moment id ≡ x → ⊥)
copies_are_new names [] q tree path_p path_q res_p res_q above free x v there = absurd (false≢true path_p)
copies_are_new names (c ∷ p') [] tree path_p path_q res_p res_q above free x v there = absurd (false≢true path_q)
copies_are_new names (c ∷ p') (d ∷ q') tree path_p path_q res_p res_q above free x v there =
    let p_out : (bytes_eq (c ∷ p') root ≡ false) × (is_in_trash (c ∷ p') ≡ false) = or_parts _ _ res_p in
    let q_out : (bytes_eq (d ∷ q') root ≡ false) × (is_in_trash (d ∷ q') ≡ false) = or_parts _ _ res_q in
    let p_top : (c ∷ p') ≡ root → ⊥ = λ same. true≢false (sym (same_paths (c ∷ p') root same) ∙ p_out.0) in
    let q_top : (d ∷ q') ≡ root → ⊥ = λ same. true≢false (sym (same_paths (d ∷ q') root same) ∙ q_out.0) in
    let is = copy_is names c p' d q' 0 tree p_top q_top q_out.1 above free x v there in (
      subst (λ (y : Path). is_at_or_below (d ∷ q') y ≡ true) (sym is.2) (at_or_below_from (d ∷ q') is.0 q_top is.1),
      not_taken_copy names c p' d q' 0 tree p_top q_top q_out.1 above free x v there,
      λ moment id same. no_hidden_copy names c p' d q' 0 tree p_top q_top q_out.1 above free moment id is.0 is.1 (same ∙ is.2),
    )

-- all tests of a call that meets no refusal
pub tests_passed : (tests : List (Bool × Refusal)) → first_refusal tests ≡ None → AllByRecursion (λ t. t.0 ≡ false) tests
tests_passed [] h = tt
tests_passed (t ∷ rest) h = let one : (t.0 ≡ false) × (first_refusal rest ≡ None) = passed t.0 t.1 (first_refusal rest) h in (one.0, tests_passed rest one.1)

performed_tree : (m : Machine) (k : Call) (moment : ℕ) → Tree m.names → refusal_of m.config m.names k ≡ None → Tree (performed m k moment).names
performed_tree m (call.Mkdir p) moment tree h =
    let all = tests_passed (path_tests m.config (call.Mkdir p) ++ name_tests m.names (call.Mkdir p)) h in
    added m.names p Dir tree (true_from (is_dir m.names (parent p)) all.1.1.0) (λ q dir same. refl) (λ moment id same. absurd (not_hidden p all.1.0 moment id same))
performed_tree m (call.Rmdir p) moment tree h =
    let all = tests_passed (path_tests m.config (call.Rmdir p) ++ name_tests m.names (call.Rmdir p)) h in
    rmdir_tree m.names p tree all.1.0 all.1.1.1.1.0
performed_tree m (call.Create p shape) moment tree h =
    let all = tests_passed (path_tests m.config (call.Create p shape) ++ name_tests m.names (call.Create p shape)) h in
    file_added m.names p (suc m.file_count) tree (true_from (is_dir m.names (parent p)) all.1.1.1.0) (not_taken_no_dir (node_at m.names p) all.1.1.1.1.0)
performed_tree m (call.Delete p) moment tree h = delete_tree m.names p moment (node_at m.names p) refl tree
performed_tree m (call.Rename p q) moment tree h =
    let all = tests_passed (path_tests m.config (call.Rename p q) ++ name_tests m.names (call.Rename p q)) h in
    rename_tree m.names p q (node_at m.names p) refl tree all.1.1.1.1.0 (true_from (is_dir m.names (parent q)) all.1.1.1.1.1.0) all.1.1.1.1.1.1.0
performed_tree m (call.Snapshot p q) moment tree h =
    let all = tests_passed (path_tests m.config (call.Snapshot p q) ++ name_tests m.names (call.Snapshot p q)) h in
    snapshot_names m.names p q (suc m.file_count) tree (true_from (is_path p) all.0) (true_from (is_path q) all.1.0) all.1.1.0 all.1.1.1.0
    (true_from (is_dir m.names (parent q)) all.1.1.1.1.1.1.0) all.1.1.1.1.1.1.1.0
performed_tree m other moment tree h = tree

pub tree_step : (m : Machine) (action : Action) → Allows m action → Tree m.names → Tree (after m action).names
tree_step m (Return client reply) a tree = at_some (λ k. Tree k.names) (λ current. returned m client current reply) m _ a.0 a.1 tree
tree_step m (Step client moment outcome) a tree = at_some (λ k. Tree k.names) (λ current. stepped m client moment outcome current) m _ a.0 a.1
    (elim (is_refused outcome) as (λ b. is_refused outcome ≡ b → Tree (with_outcome (cond b m (performed m (a.0).asked.call moment)) client outcome).names) [
      | true ↦ λ e. tree
      | false ↦ λ e. performed_tree m (a.0).asked.call moment tree (unrefused m.config m.names (a.0).asked.call outcome (a.2).2 e)
    ] refl)
tree_step m (Expire file moment) a tree = file_removed m.names (hidden_name moment file) tree (tree.hidden_are_files moment file)
tree_step m (Add id) a tree = at_some (λ k. Tree k.names) (chunk_added m id) m (asked_file m id) a.1 (asked_is m id a.0 a.1 a.2.0 a.2.1) tree
tree_step m (Place client file index mutation) a tree = at_some (λ k. Tree k.names) (λ current. placed m client current file index mutation) m _ a.0 a.1 tree
tree_step m (Look client file index least last chosen) a tree = at_some (λ k. Tree k.names) (λ current. looked m client current file index least chosen) m _ a.0 a.1 tree
tree_step m other a tree = tree

-- the first names
pub first_look : (q : Path) → node_at first_names q ≡ cond (bytes_eq q root) (Some Dir) (cond (bytes_eq q trash) (Some Dir) None)
first_look q = get_inserted (map.insert (map.empty {X = Node} {R = slice_cmp nat_cmp}) trash Dir) root Dir q ∙ ap (cond (bytes_eq q root) (Some Dir)) (get_inserted (map.empty {X = Node} {R = slice_cmp nat_cmp}) trash Dir q ∙ ap (cond (bytes_eq q trash) (Some Dir)) (map.get-empty (slice_cmp nat_cmp) q))

first_parent : (q : Path) → is_some (cond (bytes_eq q root) (Some Dir) (cond (bytes_eq q trash) (Some Dir) None)) ≡ true → parent q ≡ root
first_parent q h =
    elim (bytes_eq q root) as (λ b. bytes_eq q root ≡ b → is_some (cond b (Some Dir) (cond (bytes_eq q trash) (Some Dir) None)) ≡ true → parent q ≡ root) [
      | true ↦ λ e taken. ap parent (equal_paths q root e)
      | false ↦ λ e. elim (bytes_eq q trash) as (λ b. bytes_eq q trash ≡ b → is_some (cond b (Some Dir) None) ≡ true → parent q ≡ root) [
        | true ↦ λ f taken. ap parent (equal_paths q trash f)
        | false ↦ λ f taken. absurd (false≢true taken)
      ] refl
    ] refl h

pub first_tree : Tree first_names
first_tree = record {
  is = record {
    root_is_dir = ap is_dir_node (first_look root);
    trash_is_dir = ap is_dir_node (first_look trash);
    parents_are_dirs = λ q taken. ap (is_dir first_names) (first_parent q (sym (ap is_some (first_look q)) ∙ taken)) ∙ ap is_dir_node (first_look root);
  };
  hidden_are_files = λ moment id. ap is_dir_node (first_look (hidden_name moment id));
}

pub names_stay_a_tree : NamesStayATree
names_stay_a_tree config m way = (kept_to (λ k. Tree k.names) tree_step (new_machine config) m way first_tree).is
