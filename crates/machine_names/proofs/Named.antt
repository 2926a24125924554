-- Each action of a run by names keeps one name for each file.
use Rattle.std.proofs.Common.{◌≡◌, ◌⊎◌, ⊎_elim, ℕ, suc, ◌-◌, ◌≤◌, ◌<◌, Bool, true, false, cond, List, [], ◌∷◌, ◌++◌, Option, Some, None, refl, sym, ap, subst, ◌∙◌, inl, inr, arith}
use Rattle.std.specs.List.{AllByRecursion, list_all}
use Rattle.std.specs.Str.{bytes_eq}
use Rattle.std.proofs.lemmas.Option.{none-some}
use Rattle.std.proofs.lemmas.Bool.{true≢false, and_parts, or_right}
use Rattle.std.specs.FinMap as table
use Rattle.gfs_types.specs.declared.config.Config.{Config}
use Rattle.gfs_types.specs.declared.call.Call.{Call}
use Rattle.gfs_types.specs.declared.call.Call.TheVariants as call
use Rattle.gfs_types.specs.Paths.{Path, root, trash, is_below, is_at_or_below, is_child, hidden_name}
use Rattle.relaxed_file.specs.Names.{Names, Node, Dir, File, node_at, first_names, copied_entries, with_copies, id_after, id_after_all, copy_of_node}
use Rattle.relaxed_file.specs.Machine.{Machine, FileState, OpenCall, Outcome, new_machine, new_file, put}
use Rattle.relaxed_file.specs.NameStep.{path_tests, name_tests, refusal_of, is_refused, is_in_trash, performed, stepped, with_outcome, with_node, hidden, with_copied_file, with_copied_files, made_file}
use Rattle.relaxed_file.specs.Answers.{returned}
use Rattle.relaxed_file.specs.Run.{Action, Invoke, Return, ReturnFd, Step, FindBusy, FindFull, Lock, Expire, Pass, Allows, IsLawful, after, after_all}
use Rattle.relaxed_file.proofs.Tables.{at_some, from_some, put_is, put_other}
use Rattle.relaxed_file.proofs.NamesTree.{HasAt, inserted_there, inserted_other, removed_there, removed_other, same_or_other, entry_is, copied_of, unrefused, tests_passed, first_look}
use Rattle.machine_names.proofs.PathsApart.{open_path, not_in_trash}
use Rattle.machine_names.proofs.Unrefused.{IsAllowed, allowed_from, copied_below}
use Rattle.machine_names.specs.NameRuns.{is_name_action, LeadsByNames}
use Rattle.machine_names.specs.NamedFiles.{NamedFilesAreThere, FilesHaveOneName, HiddenFilesTellAMoment}
use Rattle.gfs_types.specs.Shapes.{usual_shape}

abbrev IsAt : Names → Path → ℕ → Type 0
IsAt names path id = node_at names path ≡ Some (File id)

-- a file that was made before the next one, and not collected
abbrev IsIn : (ℕ → FileState) → ℕ → ℕ → Type 0
IsIn files next id = (0 < id) × (id < next) × ((files id).is_collected ≡ false)

record AreNamed (names : Names) (files : ℕ → FileState) (next : ℕ) : Type 0 where
  there : (path : Path) (id : ℕ) → IsAt names path id → IsIn files next id
  one : (path other : Path) (id : ℕ) → IsAt names path id → IsAt names other id → path ≡ other
  hides : (path : Path) (id : ℕ) → IsAt names path id → is_child trash path ≡ true → (moment : ℕ) × (hidden_name moment id ≡ path)

id_of : Node → ℕ
id_of Dir = 0
id_of (File id) = id

same_id : (one two : ℕ) → File one ≡ File two → one ≡ two
unfolding id_of
same_id one two same = ap id_of same

is_dir_here : Node → Bool
is_dir_here Dir = true
is_dir_here (File id) = false

no_dir : (id : ℕ) → Dir ≡ File id → ⊥
unfolding is_dir_here
no_dir id same = true≢false (ap is_dir_here same)

child_there : (path : Path) → is_child trash path ≡ true → is_in_trash path ≡ true
child_there path is = or_right (bytes_eq path trash) (is_below trash path) (and_parts (is_below trash path) _ is).0

-- where a name stands after a change
put_cases : (names : Names) (p : Path) (v : Node) (q : Path) (id : ℕ) → IsAt (table.insert names p v) q id → ((q ≡ p) × (v ≡ File id)) ⊎ ((q ≡ p → ⊥) × IsAt names q id)
put_cases names p v q id h =
    ⊎_elim (λ same. inl (same, from_some (sym (inserted_there names p v q same) ∙ h))) (λ other. inr (other, sym (inserted_other names p v q other) ∙ h)) (same_or_other q p)

left_cases : (names : Names) (p q : Path) (id : ℕ) → IsAt (table.remove names p) q id → (q ≡ p → ⊥) × IsAt names q id
left_cases names p q id h =
    ⊎_elim (λ same. absurd (none-some (File id) (sym (removed_there names p q same) ∙ h))) (λ other. (other, sym (removed_other names p q other) ∙ h)) (same_or_other q p)

-- a directory that is made
dir_named : (names : Names) (files : ℕ → FileState) (next : ℕ) (p : Path) → AreNamed names files next → AreNamed (table.insert names p Dir) files next
dir_named names files next p h =
    record { there = λ q id at. h.there q id (old q id at); one = λ q r id at other. h.one q r id (old q id at) (old r id other); hides = λ q id at child. h.hides q id (old q id at) child }
  where
    old : (q : Path) (id : ℕ) → IsAt (table.insert names p Dir) q id → IsAt names q id
    old q id at = ⊎_elim (λ new. absurd (no_dir id new.1)) (λ before. before.1) (put_cases names p Dir q id at)

-- a name that goes
less_named : (names : Names) (files : ℕ → FileState) (next : ℕ) (p : Path) → AreNamed names files next → AreNamed (table.remove names p) files next
less_named names files next p h =
    record {
      there = λ q id at. h.there q id (left_cases names p q id at).1;
      one = λ q r id at other. h.one q r id (left_cases names p q id at).1 (left_cases names p r id other).1;
      hides = λ q id at child. h.hides q id (left_cases names p q id at).1 child;
    }

later_in : (files : ℕ → FileState) (next id : ℕ) (state : FileState) → IsIn files next id → IsIn (put next state files) (suc next) id
later_in files next id state h =
    let low = h.1 in
    (h.0, omega (arith, low), ap (λ (s : FileState). s.is_collected) (put_other next state files id (λ same. absurd (omega (arith, low, same)))) ∙ h.2)

-- a file that is made
new_named : (names : Names) (files : ℕ → FileState) (next : ℕ) (p : Path) (state : FileState) → 0 < next → state.is_collected ≡ false → is_in_trash p ≡ false → AreNamed names files next
    → AreNamed (table.insert names p (File next)) (put next state files) (suc next)
new_named names files next p state low plain outside h =
    record {
      there = λ q id at. ⊎_elim
          (λ new. let same : next ≡ id = same_id next id new.1 in
          (subst (λ (k : ℕ). 0 < k) same low, omega (arith, same), ap (λ (s : FileState). s.is_collected) (put_is next state files id (sym same)) ∙ plain))
          (λ before. later_in files next id state (h.there q id before.1)) (put_cases names p (File next) q id at);
      one = λ q r id at other. ⊎_elim
          (λ new. ⊎_elim (λ too. new.0 ∙ sym too.0) (λ before. absurd (not_new r id (same_id next id new.1) before.1)) (put_cases names p (File next) r id other))
          (λ before. ⊎_elim (λ new. absurd (not_new q id (same_id next id new.1) before.1)) (λ too. h.one q r id before.1 too.1) (put_cases names p (File next) r id other))
          (put_cases names p (File next) q id at);
      hides = λ q id at child. ⊎_elim (λ new. absurd (true≢false (sym (child_there q child) ∙ ap is_in_trash new.0 ∙ outside))) (λ before. h.hides q id before.1 child) (put_cases names p (File next) q id at);
    }
  where
    not_new : (q : Path) (id : ℕ) → next ≡ id → IsAt names q id → ⊥
    not_new q id same at = let low = (h.there q id at).1 in absurd (omega (arith, same, low))

-- a file that moves
moved_named : (names : Names) (files : ℕ → FileState) (next : ℕ) (p q : Path) (id : ℕ) → IsAt names p id → (is_child trash q ≡ true → (moment : ℕ) × (hidden_name moment id ≡ q)) → AreNamed names files next
    → AreNamed (table.insert (table.remove names p) q (File id)) files next
moved_named names files next p q id from hides h =
    record {
      there = λ r other at. ⊎_elim (λ new. subst (λ (k : ℕ). IsIn files next k) (same_id id other new.1) (h.there p id from)) (λ before. h.there r other (left_cases names p r other before.1).1) (cases r other at);
      one = λ r s other at too. ⊎_elim
          (λ new. ⊎_elim (λ both. new.0 ∙ sym both.0) (λ before. absurd (not_left s other (same_id id other new.1) before.1)) (cases s other too))
          (λ before. ⊎_elim (λ new. absurd (not_left r other (same_id id other new.1) before.1)) (λ both. h.one r s other (left_cases names p r other before.1).1 (left_cases names p s other both.1).1) (cases s other too))
          (cases r other at);
      hides = λ r other at child. ⊎_elim
          (λ new.
          let told = hides (sym (ap (λ (x : Path). is_child trash x) new.0) ∙ child) in
          (told.0, ap (λ (k : ℕ). hidden_name told.0 k) (sym (same_id id other new.1)) ∙ told.1 ∙ sym new.0))
          (λ before. h.hides r other (left_cases names p r other before.1).1 child) (cases r other at);
    }
  where
    cases : (r : Path) (other : ℕ) → IsAt (table.insert (table.remove names p) q (File id)) r other → ((r ≡ q) × (File id ≡ File other)) ⊎ ((r ≡ q → ⊥) × IsAt (table.remove names p) r other)
    cases r other at = put_cases (table.remove names p) q (File id) r other at

    not_left : (r : Path) (other : ℕ) → id ≡ other → IsAt (table.remove names p) r other → ⊥
    not_left r other same at =
        let left = left_cases names p r other at in
        left.0 (h.one r p other left.1 (subst (λ (k : ℕ). IsAt names p k) same from))

-- a file that is collected
collected_named : (names : Names) (files : ℕ → FileState) (next : ℕ) (p : Path) (file : ℕ) (state : FileState) → IsAt names p file → AreNamed names files next → AreNamed (table.remove names p) (put file state files) next
collected_named names files next p file state at h =
    record {
      there = λ q id is.
          let left = left_cases names p q id is in
          let in_it = h.there q id left.1 in
          (in_it.0, in_it.1, ap (λ (s : FileState). s.is_collected) (put_other file state files id (λ same. left.0 (h.one q p id left.1 (subst (λ (k : ℕ). IsAt names p k) (sym same) at)))) ∙ in_it.2);
      one = λ q r id is other. h.one q r id (left_cases names p q id is).1 (left_cases names p r id other).1;
      hides = λ q id is child. h.hides q id (left_cases names p q id is).1 child;
    }

-- copies

-- what is copied is no file that isn't there, and goes to a place outside the trash
abbrev IsCopied : (ℕ → FileState) → ℕ → Path × Node → Type 0
IsCopied files next e = ((id : ℕ) → e.1 ≡ File id → IsIn files next id) × (is_in_trash e.0 ≡ false)

still_copied : (files : ℕ → FileState) (next : ℕ) (state : FileState) (es : List (Path × Node)) → AllByRecursion (IsCopied files next) es → AllByRecursion (IsCopied (put next state files) (suc next)) es
still_copied files next state [] all = tt
still_copied files next state (e ∷ es) all = ((λ id is. later_in files next id state ((all.0).0 id is), (all.0).1), still_copied files next state es all.1)

copies_named : (es : List (Path × Node)) (names : Names) (files : ℕ → FileState) (next : ℕ) → 0 < next → AllByRecursion (IsCopied files next) es → AreNamed names files next
    → AreNamed (with_copies names next es) (with_copied_files files next es) (id_after_all next es)
copies_named [] names files next low all h = h
copies_named (e ∷ es) names files next low all h = by_node e.1 refl (λ ns fs more above rest good. copies_named es ns fs more above rest good)
  where
    by_node : (n : Node) → e.1 ≡ n
        → ((ns : Names) (fs : ℕ → FileState) (more : ℕ) → 0 < more → AllByRecursion (IsCopied fs more) es → AreNamed ns fs more → AreNamed (with_copies ns more es) (with_copied_files fs more es) (id_after_all more es))
        → AreNamed (with_copies (table.insert names e.0 (copy_of_node next n)) (id_after next n) es) (with_copied_files (with_copied_file files next n) (id_after next n) es) (id_after_all (id_after next n) es)
    by_node Dir is go = go (table.insert names e.0 Dir) files next low all.1 (dir_named names files next e.0 h)
    by_node (File id) is go =
        go (table.insert names e.0 (File next)) (put next (files id) files) (suc next) (omega arith) (still_copied files next (files id) es all.1)
        (new_named names files next e.0 (files id) low ((all.0).0 id is).2 (all.0).1 h)

all_at_entries : (P : Path × Node → Type 0) (es : List (Path × Node)) → ((p : Path) (v : Node) → HasAt es p v → P (p, v)) → AllByRecursion P es
all_at_entries P [] f = tt
all_at_entries P (e ∷ es) f = (f e.0 e.1 (inl (refl, refl)), all_at_entries P es (λ p v there. f p v (inr there)))

grows : (es : List (Path × Node)) (next : ℕ) → next ≤ id_after_all next es
grows [] next = omega arith
grows (e ∷ es) next = by_node e.1 (λ more. grows es more)
  where
    by_node : (n : Node) → ((more : ℕ) → more ≤ id_after_all more es) → next ≤ id_after_all (id_after next n) es
    by_node Dir go = go next
    by_node (File id) go = let more = go (suc next) in omega (arith, more)

-- calls that take effect

abbrev Good : Machine → Type 0
Good m = AreNamed m.names m.files (suc m.file_count)

deleted_named : (m : Machine) (p : Path) (moment : ℕ) (o : Option Node) → node_at m.names p ≡ o → Good m → AreNamed (hidden m.names p moment o) m.files (suc m.file_count)
deleted_named m p moment None at h = h
deleted_named m p moment (Some Dir) at h = h
deleted_named m p moment (Some (File id)) at h = moved_named m.names m.files (suc m.file_count) p (hidden_name moment id) id at (λ child. (moment, refl)) h

renamed_named : (m : Machine) (p q : Path) (o : Option Node) → node_at m.names p ≡ o → is_in_trash q ≡ false → Good m → AreNamed (with_node (table.remove m.names p) q o) m.files (suc m.file_count)
renamed_named m p q None at outside h = less_named m.names m.files (suc m.file_count) p h
renamed_named m p q (Some Dir) at outside h = dir_named (table.remove m.names p) m.files (suc m.file_count) q (less_named m.names m.files (suc m.file_count) p h)
renamed_named m p q (Some (File id)) at outside h =
    moved_named m.names m.files (suc m.file_count) p q id at (λ child. absurd (true≢false (sym (child_there q child) ∙ outside))) h

-- each copy goes outside the trash
copied_here : (m : Machine) (p q : Path) → IsAllowed m.names p q → Good m → AllByRecursion (IsCopied m.files (suc m.file_count)) (copied_entries m.names p q)
copied_here m p q may h =
    all_at_entries (IsCopied m.files (suc m.file_count)) (copied_entries m.names p q) (λ x v there. (
      λ id is. let found = copied_of p q (table.entries m.names) x v there in h.there found.0 id (entry_is m.names found.0 v found.1 ∙ ap Some is),
      untouched x (is_in_trash x) refl (copied_below m.names p q x v (open_path p may.open_from).0 (open_path q may.open_to).0 there),
    ))
  where
    untouched : (x : Path) (b : Bool) → is_in_trash x ≡ b → is_at_or_below q x ≡ true → is_in_trash x ≡ false
    untouched x false e below = e
    untouched x true e below = absurd (not_in_trash q x may.path_to may.open_to e below)

snapshot_named : (m : Machine) (p q : Path) → refusal_of m.config m.names (call.Snapshot p q) ≡ None → Good m → Good (performed m (call.Snapshot p q) 0)
snapshot_named m p q free h =
    let next : ℕ = suc m.file_count in
    let es : List (Path × Node) = copied_entries m.names p q in
    let more = grows es next in
    let count : id_after_all next es ≡ suc (id_after_all next es - 1) = omega (arith, more) in
    subst (λ (k : ℕ). AreNamed (with_copies m.names next es) (with_copied_files m.files next es) k) count
    (copies_named es m.names m.files next (omega arith) (copied_here m p q (allowed_from m.config m.names p q free) h) h)

performed_named : (m : Machine) (c : Call) (moment : ℕ) → refusal_of m.config m.names c ≡ None → Good m → Good (performed m c moment)
performed_named m (call.Mkdir p) moment free h = dir_named m.names m.files (suc m.file_count) p h
performed_named m (call.Rmdir p) moment free h = less_named m.names m.files (suc m.file_count) p h
performed_named m (call.Create p shape) moment free h =
    let all = tests_passed (path_tests m.config (call.Create p shape) ++ name_tests m.names (call.Create p shape)) free in
    new_named m.names m.files (suc m.file_count) p (made_file m shape) (omega arith) refl all.1.1.0 h
performed_named m (call.Delete p) moment free h = deleted_named m p moment (node_at m.names p) refl h
performed_named m (call.Rename p q) moment free h =
    let all = tests_passed (path_tests m.config (call.Rename p q) ++ name_tests m.names (call.Rename p q)) free in
    renamed_named m p q (node_at m.names p) refl all.1.1.0 h
performed_named m (call.Snapshot p q) moment free h = snapshot_named m p q free h
performed_named m other moment free h = h

stepped_named : (m : Machine) (client moment : ℕ) (outcome : Outcome) (current : OpenCall) → (is_refused outcome ≡ false → refusal_of m.config m.names current.asked.call ≡ None) → Good m → Good (stepped m client moment outcome current)
stepped_named m client moment outcome current free h = by_test (is_refused outcome) refl
  where
    by_test : (b : Bool) → is_refused outcome ≡ b → Good (with_outcome (cond b m (performed m current.asked.call moment)) client outcome)
    by_test true e = h
    by_test false e = performed_named m current.asked.call moment (free e) h

action_named : (m : Machine) (action : Action) → is_name_action action ≡ true → Allows m action → Good m → Good (after m action)
action_named m (Invoke client asked) is a h = h
action_named m (Return client reply) is a h = at_some (λ (k : Machine). Good k) (λ current. returned m client current reply) m (m.clients client).open_call a.0 a.1 h
action_named m (ReturnFd client fd file) is a h = h
action_named m (Step client moment outcome) is a h =
    at_some (λ (k : Machine). Good k) (λ current. stepped m client moment outcome current) m (m.clients client).open_call a.0 a.1
    (stepped_named m client moment outcome a.0 (λ plain. unrefused m.config m.names (a.0).asked.call outcome (a.2).2 plain) h)
action_named m (FindBusy client holder) is a h = h
action_named m (FindFull client) is a h = h
action_named m (Lock client) is a h = h
action_named m (Expire file moment) is a h = collected_named m.names m.files (suc m.file_count) (hidden_name moment file) file _ a.0 h
action_named m (Pass moment) is a h = h
action_named m other is a h = absurd (true≢false (sym is))

actions_named : (m : Machine) (actions : List Action) → list_all is_name_action actions ≡ true → IsLawful m actions → Good m → Good (after_all m actions)
actions_named m [] all lawful h = h
actions_named m (action ∷ rest) all lawful h =
    let parts = and_parts (is_name_action action) (list_all is_name_action rest) all in
    actions_named (after m action) rest parts.1 lawful.1 (action_named m action parts.0 lawful.0 h)

none_at_first : (path : Path) (id : ℕ) → IsAt first_names path id → ⊥
none_at_first path id at = by_look (bytes_eq path root) (bytes_eq path trash) (sym (first_look path) ∙ at)
  where
    by_look : (a b : Bool) → cond a (Some Dir) (cond b (Some Dir) None) ≡ Some (File id) → ⊥
    by_look true b e = no_dir id (from_some e)
    by_look false true e = no_dir id (from_some e)
    by_look false false e = none-some (File id) e

first_good : (config : Config) → AreNamed first_names (λ file. new_file (usual_shape config)) 1
first_good config =
    record {
      there = λ path id at. absurd (none_at_first path id at);
      one = λ path other id at too. absurd (none_at_first path id at);
      hides = λ path id at child. absurd (none_at_first path id at);
    }

good_here : (config : Config) (m : Machine) → LeadsByNames (new_machine config) m → Good m
good_here config m run = subst (λ (k : Machine). Good k) run.3 (actions_named (new_machine config) run.0 run.2 run.1 (first_good config))

pub named_files_are_there : NamedFilesAreThere
named_files_are_there config m run path file at =
    let in_it = (good_here config m run).there path file at in
    let low = in_it.1 in
    (in_it.0, omega (arith, low), in_it.2)

pub files_have_one_name : FilesHaveOneName
files_have_one_name config m run file one other at too = (good_here config m run).one one other file at too

pub hidden_files_tell_a_moment : HiddenFilesTellAMoment
hidden_files_tell_a_moment config m run path file at child = (good_here config m run).hides path file at child
