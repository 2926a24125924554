-- Names go only by the calls that take them away and by collection; each copy of a file has its source's chunks.
use Rattle.std.proofs.Common.{◌≡◌, ℕ, suc, ◌<◌, ◌≤◌, ⊎_elim, true, false, cond, List, [], ◌∷◌, ◌++◌, length, drop, Option, Some, None, refl, sym, ◌∙◌, ap, subst, inl, inr, arith}
use Rattle.std.specs.Prelude.{◌⊎◌, Contains}
use Rattle.std.specs.List.{AllByRecursion}
use Rattle.std.specs.FinMap as map
use Rattle.std.proofs.lemmas.Bool.{true≢false, or_parts}
use Rattle.std.proofs.lemmas.Option.{none-some}
use Rattle.std.proofs.lemmas.List.{drop_at, append_cancel_left}
use Rattle.gfs_types.specs.declared.call.Call.{Call}
use Rattle.gfs_types.specs.declared.call.Call.TheVariants as call
use Rattle.gfs_types.specs.Paths.{Path, root, hidden_name, is_at_or_below}
use Rattle.relaxed_file.specs.Names.{Node, Dir, File, Names, node_at, copied_entries, with_copies, id_after, copy_of_node}
use Rattle.relaxed_file.specs.Machine.{Machine, FileState, OpenCall}
use Rattle.relaxed_file.specs.NameStep.{path_tests, name_tests, refusal_of, performed, is_refused, stepped, with_outcome, with_node, hidden, with_copied_file, with_copied_files}
use Rattle.relaxed_file.specs.Chunks.{chunk_added, placed}
use Rattle.relaxed_file.specs.Answers.{returned}
use Rattle.relaxed_file.specs.Reads.{looked}
use Rattle.relaxed_file.specs.Run.{Action, Return, Step, Expire, Add, Place, Look, Allows, after, asked_file}
use Rattle.relaxed_file.specs.NameLaws.{TakesAway, IsEndOfName, NamesGoByCalls, HasChunksOf, SnapshotsCopyChunks}
use Rattle.relaxed_file.proofs.Tables.{at_some, from_some, put_same, all_more, contained}
use Rattle.relaxed_file.proofs.Known.{Known, NodeBelow, asked_is, id_after_rises}
use Rattle.relaxed_file.proofs.Grows.{known_when_reached}
use Rattle.relaxed_file.proofs.PathParts.{IsTail, at_or_below_is, same_paths}
use Rattle.relaxed_file.proofs.CopiedFiles.{copies_other}
use Rattle.relaxed_file.proofs.NamesTree.{HasAt, copied_of, entry_is, inserted_there, inserted_other, removed_other, same_or_other, unrefused, tests_passed}

-- a name that is gone after another was added was not there before
none_before : (names : Names) (p : Path) (v : Node) (x : Path) → node_at (map.insert names p v) x ≡ None → node_at names x ≡ None
none_before names p v x none = ⊎_elim
    (λ same. absurd (none-some v (sym none ∙ inserted_there names p v x same)))
    (λ other. sym (inserted_other names p v x other) ∙ none)
    (same_or_other x p)

none_before_copies : (es : List (Path × Node)) (names : Names) (next : ℕ) (x : Path) → node_at (with_copies names next es) x ≡ None → node_at names x ≡ None
none_before_copies [] names next x none = none
none_before_copies (e ∷ es) names next x none =
    none_before names e.0 (copy_of_node next e.1) x (none_before_copies es (map.insert names e.0 (copy_of_node next e.1)) (id_after next e.1) x none)

module _ (m : Machine) (path : Path) (node : Node) (there : node_at m.names path ≡ Some node) where
  clash : node_at m.names path ≡ None → ⊥
  clash none = none-some node (sym none ∙ there)

  -- it went by being taken out
  taken_out : (p : Path) → node_at (map.remove m.names p) path ≡ None → p ≡ path
  taken_out p none = ⊎_elim (λ same. sym same) (λ other. absurd (clash (sym (removed_other m.names p path other) ∙ none))) (same_or_other path p)

  by_deletion : (p : Path) (moment : ℕ) (o : Option Node) → node_at (hidden m.names p moment o) path ≡ None → p ≡ path
  by_deletion p moment None none = absurd (clash none)
  by_deletion p moment (Some Dir) none = absurd (clash none)
  by_deletion p moment (Some (File id)) none = taken_out p (none_before (map.remove m.names p) (hidden_name moment id) (File id) path none)

  by_rename : (p q : Path) (o : Option Node) → node_at (with_node (map.remove m.names p) q o) path ≡ None → p ≡ path
  by_rename p q None none = taken_out p none
  by_rename p q (Some v) none = taken_out p (none_before (map.remove m.names p) q v path none)

  gone_by : (c : Call) (moment : ℕ) → node_at (performed m c moment).names path ≡ None → TakesAway path c
  gone_by (call.Mkdir p) moment none = absurd (clash (none_before m.names p Dir path none))
  gone_by (call.Rmdir p) moment none = taken_out p none
  gone_by (call.Create p shape) moment none = absurd (clash (none_before m.names p (File (suc m.file_count)) path none))
  gone_by (call.Delete p) moment none = by_deletion p moment (node_at m.names p) none
  gone_by (call.Rename p q) moment none = by_rename p q (node_at m.names p) none
  gone_by (call.Snapshot p q) moment none = absurd (clash (none_before_copies (copied_entries m.names p q) m.names (suc m.file_count) path none))
  gone_by other moment none = absurd (clash none)

  gone_step : (action : Action) → Allows m action → node_at (after m action).names path ≡ None → IsEndOfName m path action
  gone_step (Return client reply) a = at_some (λ k. node_at k.names path ≡ None → ⊥) (λ current. returned m client current reply) m _ a.0 a.1 clash
  gone_step (Step client moment outcome) a = at_some (λ k. node_at k.names path ≡ None → IsEndOfName m path (Step client moment outcome)) (λ current. stepped m client moment outcome current) m _ a.0 a.1
      (elim (is_refused outcome) as (λ b. is_refused outcome ≡ b → node_at (with_outcome (cond b m (performed m (a.0).asked.call moment)) client outcome).names path ≡ None → IsEndOfName m path (Step client moment outcome)) [
        | true ↦ λ e none. absurd (clash none)
        | false ↦ λ e none. (e, (a.0, a.1, gone_by (a.0).asked.call moment none))
      ] refl)
  gone_step (Expire file moment) a = λ none. sym (taken_out (hidden_name moment file) none)
  gone_step (Add id) a = at_some (λ k. node_at k.names path ≡ None → ⊥) (chunk_added m id) m (asked_file m id) a.1 (asked_is m id a.0 a.1 a.2.0 a.2.1) clash
  gone_step (Place client f i mutation) a = at_some (λ k. node_at k.names path ≡ None → ⊥) (λ current. placed m client current f i mutation) m _ a.0 a.1 clash
  gone_step (Look client f i least last chosen) a = at_some (λ k. node_at k.names path ≡ None → ⊥) (λ current. looked m client current f i least chosen) m _ a.0 a.1 clash
  gone_step other a = clash

pub names_go_by_calls : NamesGoByCalls
names_go_by_calls m action path node allowed there none = gone_step m path node there action allowed none

-- one name of a copy comes from one name of its source
copies_agree : (names : Names) (c : ℕ) (p' : List ℕ) (q x : Path) (v w : Node) → ((c ∷ p') ≡ root → ⊥)
    → HasAt (copied_entries names (c ∷ p') q) x v → HasAt (copied_entries names (c ∷ p') q) x w → v ≡ w
copies_agree names c p' q x v w no_root one two =
    let p : Path = c ∷ p' in
    let first : (k : Path) × HasAt (map.entries names) k v × (is_at_or_below p k ≡ true) × (x ≡ q ++ drop (length p) k) = copied_of p q (map.entries names) x v one in
    let second : (k : Path) × HasAt (map.entries names) k w × (is_at_or_below p k ≡ true) × (x ≡ q ++ drop (length p) k) = copied_of p q (map.entries names) x w two in
    let a : (s : List ℕ) × (first.0 ≡ p ++ s) × IsTail s = at_or_below_is p first.0 no_root first.2 in
    let b : (s : List ℕ) × (second.0 ≡ p ++ s) × IsTail s = at_or_below_is p second.0 no_root second.2 in
    let at_a : x ≡ q ++ a.0 = first.3 ∙ ap (λ k. q ++ drop (length p) k) a.1 ∙ ap (λ t. q ++ t) (drop_at p a.0 (length p) refl) in
    let at_b : x ≡ q ++ b.0 = second.3 ∙ ap (λ k. q ++ drop (length p) k) b.1 ∙ ap (λ t. q ++ t) (drop_at p b.0 (length p) refl) in
    let same : a.0 ≡ b.0 = append_cancel_left q a.0 b.0 (sym at_a ∙ at_b) in
    let same_key : first.0 ≡ second.0 = a.1 ∙ ap (λ t. p ++ t) same ∙ sym b.1 in
    from_some (sym (entry_is names first.0 v first.1) ∙ ap (λ k. node_at names k) same_key ∙ entry_is names second.0 w second.1)

has_all : (es : List (Path × Node)) → AllByRecursion (λ e. HasAt es e.0 e.1) es
has_all [] = tt
has_all (e ∷ es) = (inl (refl, refl), all_more es (λ f h. inr h) (has_all es))

copy_other : (files : ℕ → FileState) (next : ℕ) (node : Node) (k : ℕ) → k < next → with_copied_file files next node k ≡ files k
copy_other files next node k l = copies_other (([], node) ∷ []) files next k l

module _ (source : FileState) (id base : ℕ) (path : Path) where
  -- the name stands for a new file like the source
  abbrev IsCopied : Names → (ℕ → FileState) → ℕ → Type 0
  IsCopied names files next = (k : ℕ) × (node_at names path ≡ Some (File k)) × (base < k) × (k < next) × (files k ≡ source)

  copied_here : (names : Names) (files : ℕ → FileState) (next : ℕ) (e : Path × Node) → base < next → files id ≡ source → path ≡ e.0 → e.1 ≡ File id
      → IsCopied (map.insert names e.0 (copy_of_node next e.1)) (with_copied_file files next e.1) (id_after next e.1)
  copied_here names files next e b same here is =
      subst (λ (w : Node). IsCopied (map.insert names e.0 (copy_of_node next w)) (with_copied_file files next w) (id_after next w)) (sym is)
      (next, inserted_there names e.0 (File next) path here, b, omega arith, put_same next (files id) files ∙ same)

  copied_stays : (names : Names) (files : ℕ → FileState) (next : ℕ) (e : Path × Node) → (path ≡ e.0 → ⊥) → IsCopied names files next
      → IsCopied (map.insert names e.0 (copy_of_node next e.1)) (with_copied_file files next e.1) (id_after next e.1)
  copied_stays names files next e other c =
      let more : next ≤ id_after next e.1 = id_after_rises next e.1 in
      (c.0, inserted_other names e.0 (copy_of_node next e.1) path other ∙ c.1, c.2, omega (arith, c.3, more), copy_other files next e.1 c.0 c.3 ∙ c.4)

  copied : (es : List (Path × Node)) (names : Names) (files : ℕ → FileState) (next : ℕ) → id < next → base < next → files id ≡ source
      → ((v : Node) → HasAt es path v → v ≡ File id) → IsCopied names files next ⊎ HasAt es path (File id)
      → (k : ℕ) × (node_at (with_copies names next es) path ≡ Some (File k)) × (base < k) × (with_copied_files files next es k ≡ source)
  copied [] names files next l b same all (inl c) = (c.0, c.1, c.2, c.4)
  copied [] names files next l b same all (inr none) = absurd none
  copied (e ∷ es) names files next l b same all h =
      let more : next ≤ id_after next e.1 = id_after_rises next e.1 in
      copied es (map.insert names e.0 (copy_of_node next e.1)) (with_copied_file files next e.1) (id_after next e.1) (omega (arith, l, more)) (omega (arith, b, more))
      (copy_other files next e.1 id l ∙ same) (λ v there. all v (inr there))
      (⊎_elim
      (λ here. inl (copied_here names files next e b same here (all e.1 (inl (sym here, refl)))))
      (λ other. ⊎_elim (λ c. inl (copied_stays names files next e other c)) (λ there. ⊎_elim (λ here. absurd (other (sym here.0))) (λ later. inr later) there) h)
      (same_or_other path e.0))

-- the names and files after a snapshot that met no refusal
abbrev CopiesChunks : Machine → ℕ → Path → ℕ → Machine → Type 0
CopiesChunks m base path file n = (copy : ℕ) × (node_at n.names path ≡ Some (File copy)) × (base < copy) × HasChunksOf n copy m file × HasChunksOf n file m file

same_chunks : (m n : Machine) (copy file : ℕ) → n.files copy ≡ m.files file → HasChunksOf n copy m file
same_chunks m n copy file same = (ap (λ (f : FileState). f.chunk_count) same, λ index. ap (λ (f : FileState). f.chunks index) same, ap (λ (f : FileState). f.shape) same)

by_snapshot : (m : Machine) (p q path : Path) (file moment : ℕ) → Known m → refusal_of m.config m.names (call.Snapshot p q) ≡ None
    → Contains (copied_entries m.names p q) (path, File file) → CopiesChunks m m.file_count path file (performed m (call.Snapshot p q) moment)
by_snapshot m [] q path file moment known unrefused contains =
    let all = tests_passed (path_tests m.config (call.Snapshot [] q) ++ name_tests m.names (call.Snapshot [] q)) unrefused in absurd (true≢false all.0)
by_snapshot m (c ∷ p') q path file moment known unrefused contains =
    let p : Path = c ∷ p' in
    let es : List (Path × Node) = copied_entries m.names p q in
    let all = tests_passed (path_tests m.config (call.Snapshot p q) ++ name_tests m.names (call.Snapshot p q)) unrefused in
    let no_root : p ≡ root → ⊥ = λ same. true≢false (sym (same_paths p root same) ∙ (or_parts _ _ all.1.1.0).0) in
    let here : HasAt es path (File file) = contained (λ (e : Path × Node). HasAt es e.0 e.1) es (path, File file) (has_all es) contains in
    let from : (k : Path) × HasAt (map.entries m.names) k (File file) × (is_at_or_below p k ≡ true) × (path ≡ q ++ drop (length p) k) = copied_of p q (map.entries m.names) path (File file) here in
    let made : file < suc m.file_count = subst (λ o. NodeBelow (suc m.file_count) o) (entry_is m.names from.0 (File file) from.1) (known.names from.0) in
    let c' = copied (m.files file) file m.file_count path es m.names m.files (suc m.file_count) made (omega arith) refl (λ v there. copies_agree m.names c p' q path v (File file) no_root there here) (inr here) in
    (c'.0, c'.1, c'.2, same_chunks m (performed m (call.Snapshot p q) moment) c'.0 file c'.3, same_chunks m (performed m (call.Snapshot p q) moment) file file (copies_other es m.files (suc m.file_count) file made))

pub snapshots_copy_chunks : SnapshotsCopyChunks
snapshots_copy_chunks config m client moment outcome p q path file reached a unrefused_outcome on_open contains =
    at_some (CopiesChunks m m.file_count path file) (λ current. stepped m client moment outcome current) m _ a.0 a.1
    (subst (λ b. CopiesChunks m m.file_count path file (with_outcome (cond b m (performed m (a.0).asked.call moment)) client outcome)) (sym unrefused_outcome)
    (let same_call : (a.0).asked.call ≡ call.Snapshot p q = ap (λ (k : OpenCall). k.asked.call) (from_some (sym a.1 ∙ on_open.1)) ∙ on_open.2 in
    subst (λ k. CopiesChunks m m.file_count path file (with_outcome (performed m k moment) client outcome)) (sym same_call)
    (by_snapshot m p q path file moment (known_when_reached config m reached) (subst (λ k. refusal_of m.config m.names k ≡ None) same_call (unrefused m.config m.names (a.0).asked.call outcome (a.2).2 unrefused_outcome)) contains)))
