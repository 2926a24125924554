-- A file comes to stand under a hidden name only by a deletion, whose moment the name tells.
use Rattle.std.proofs.Common.{◌≡◌, ℕ, suc, ◌-◌, ◌≤◌, ⊎_elim, true, false, cond, ◌++◌, Option, Some, None, refl, sym, ◌∙◌, ap}
use Rattle.std.specs.FinMap as map
use Rattle.std.proofs.lemmas.Option.{none-some}
use Rattle.gfs_types.specs.declared.call.Call.{Call}
use Rattle.gfs_types.specs.declared.call.Call.TheVariants as call
use Rattle.gfs_types.specs.Paths.{Path, is_path, parent, hidden_name}
use Rattle.relaxed_file.specs.Names.{Node, Dir, File, Names, node_at, is_dir, copied_entries}
use Rattle.relaxed_file.specs.Machine.{Machine, new_machine}
use Rattle.relaxed_file.specs.NameStep.{is_in_trash, path_tests, name_tests, refusal_of, performed, is_refused, stepped, with_outcome, with_node, hidden, MayTakeEffect}
use Rattle.relaxed_file.specs.Chunks.{chunk_added, placed}
use Rattle.relaxed_file.specs.Answers.{returned}
use Rattle.relaxed_file.specs.Reads.{looked}
use Rattle.relaxed_file.specs.Run.{Action, Return, Step, Expire, Add, Place, Look, Allows, after, asked_file}
use Rattle.relaxed_file.specs.RunLaws.{HiddenNamesTellTheirMoment}
use Rattle.relaxed_file.proofs.Tables.{at_some, from_some}
use Rattle.relaxed_file.proofs.Reached.{kept_to}
use Rattle.relaxed_file.proofs.Known.{asked_is}
use Rattle.relaxed_file.proofs.NamesTree.{Tree, inserted_there, inserted_other, removed_there, removed_other, same_or_other, not_hidden, true_from, unrefused, tests_passed, copies_other, copies_are_new, tree_step, first_tree}

id_of : Node → ℕ
id_of Dir = 0
id_of (File id) = id

same_id : (one two : ℕ) → File one ≡ File two → one ≡ two
unfolding id_of
same_id one two same = ap id_of same

module _ (m : Machine) (told file : ℕ) (free : node_at m.names (hidden_name told file) ≡ None) where
  -- where the file now stands under this name, its moment is right
  abbrev IsToldRight : Names → Type 0
  IsToldRight names = node_at names (hidden_name told file) ≡ Some (File file)
      → (moment : ℕ) × (hidden_name moment file ≡ hidden_name told file) × (m.clock - m.config.skew_ms ≤ moment) × (moment ≤ m.clock)

  still_free : (names : Names) → node_at names (hidden_name told file) ≡ None → IsToldRight names
  still_free names none now = absurd (none-some (File file) (sym none ∙ now))

  taken_away : (p : Path) → node_at (map.remove m.names p) (hidden_name told file) ≡ None
  taken_away p = ⊎_elim (λ same. removed_there m.names p (hidden_name told file) same) (λ other. removed_other m.names p (hidden_name told file) other ∙ free) (same_or_other (hidden_name told file) p)

  by_deletion : (p : Path) (moment : ℕ) (o : Option Node) → m.clock - m.config.skew_ms ≤ moment → moment ≤ m.clock → IsToldRight (hidden m.names p moment o)
  by_deletion p moment None from to = still_free m.names free
  by_deletion p moment (Some Dir) from to = still_free m.names free
  by_deletion p moment (Some (File id)) from to = λ now. ⊎_elim
      (λ same. let ids : id ≡ file = same_id id file (from_some (sym (inserted_there (map.remove m.names p) (hidden_name moment id) (File id) (hidden_name told file) same) ∙ now)) in
      (moment, ap (hidden_name moment) (sym ids) ∙ sym same, from, to))
      (λ other. still_free (map.insert (map.remove m.names p) (hidden_name moment id) (File id)) (inserted_other (map.remove m.names p) (hidden_name moment id) (File id) (hidden_name told file) other ∙ taken_away p) now)
      (same_or_other (hidden_name told file) (hidden_name moment id))

  by_rename : (p q : Path) (o : Option Node) → is_in_trash q ≡ false → IsToldRight (with_node (map.remove m.names p) q o)
  by_rename p q None outside = still_free (map.remove m.names p) (taken_away p)
  by_rename p q (Some node) outside = still_free (map.insert (map.remove m.names p) q node) (inserted_other (map.remove m.names p) q node (hidden_name told file) (not_hidden q outside told file) ∙ taken_away p)

  performed_told : (k : Call) (moment : ℕ) → Tree m.names → refusal_of m.config m.names k ≡ None → MayTakeEffect m k moment → IsToldRight (performed m k moment).names
  performed_told (call.Mkdir p) moment tree h may =
      let all = tests_passed (path_tests m.config (call.Mkdir p) ++ name_tests m.names (call.Mkdir p)) h in
      still_free _ (inserted_other m.names p Dir (hidden_name told file) (not_hidden p all.1.0 told file) ∙ free)
  performed_told (call.Rmdir p) moment tree h may = still_free _ (taken_away p)
  performed_told (call.Create p shape) moment tree h may =
      let all = tests_passed (path_tests m.config (call.Create p shape) ++ name_tests m.names (call.Create p shape)) h in
      still_free _ (inserted_other m.names p (File (suc m.file_count)) (hidden_name told file) (not_hidden p all.1.1.0 told file) ∙ free)
  performed_told (call.Delete p) moment tree h may = by_deletion p moment (node_at m.names p) may.0 may.1
  performed_told (call.Rename p q) moment tree h may =
      let all = tests_passed (path_tests m.config (call.Rename p q) ++ name_tests m.names (call.Rename p q)) h in
      by_rename p q (node_at m.names p) all.1.1.0
  performed_told (call.Snapshot p q) moment tree h may =
      let all = tests_passed (path_tests m.config (call.Snapshot p q) ++ name_tests m.names (call.Snapshot p q)) h in
      still_free _ (copies_other (copied_entries m.names p q) m.names (suc m.file_count) (hidden_name told file)
      (λ v there. (copies_are_new m.names p q tree (true_from (is_path p) all.0) (true_from (is_path q) all.1.0) all.1.1.0 all.1.1.1.0
      (true_from (is_dir m.names (parent q)) all.1.1.1.1.1.1.0) all.1.1.1.1.1.1.1.0 (hidden_name told file) v there).2 told file refl) ∙ free)
  performed_told other moment tree h may = still_free m.names free

  told_step : (action : Action) → Allows m action → Tree m.names → IsToldRight (after m action).names
  told_step (Return client reply) a tree = at_some (λ k. IsToldRight k.names) (λ current. returned m client current reply) m _ a.0 a.1 (still_free m.names free)
  told_step (Step client moment outcome) a tree = at_some (λ k. IsToldRight k.names) (λ current. stepped m client moment outcome current) m _ a.0 a.1
      (elim (is_refused outcome) as (λ b. is_refused outcome ≡ b → IsToldRight (with_outcome (cond b m (performed m (a.0).asked.call moment)) client outcome).names) [
        | true ↦ λ e. still_free m.names free
        | false ↦ λ e. performed_told (a.0).asked.call moment tree (unrefused m.config m.names (a.0).asked.call outcome (a.2).2 e) ((a.2).3 e)
      ] refl)
  told_step (Expire f moment) a tree = still_free _ (taken_away (hidden_name moment f))
  told_step (Add id) a tree = at_some (λ k. IsToldRight k.names) (chunk_added m id) m (asked_file m id) a.1 (asked_is m id a.0 a.1 a.2.0 a.2.1) (still_free m.names free)
  told_step (Place client f i mutation) a tree = at_some (λ k. IsToldRight k.names) (λ current. placed m client current f i mutation) m _ a.0 a.1 (still_free m.names free)
  told_step (Look client f i least last chosen) a tree = at_some (λ k. IsToldRight k.names) (λ current. looked m client current f i least chosen) m _ a.0 a.1 (still_free m.names free)
  told_step other a tree = still_free m.names free

pub hidden_names_tell_their_moment : HiddenNamesTellTheirMoment
hidden_names_tell_their_moment config m action told file reached allowed free now =
    told_step m told file free action allowed (kept_to (λ k. Tree k.names) tree_step (new_machine config) m reached first_tree) now
