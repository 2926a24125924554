-- While a name outside the directory of deleted files stands for something, no action makes it stand for something else.
use Rattle.std.proofs.Common.{◌≡◌, ℕ, suc, ⊎_elim, true, false, cond, ◌++◌, Option, Some, None, refl, sym, ◌∙◌, ap}
use Rattle.std.specs.Prelude.{IsFalse, is_some}
use Rattle.std.specs.FinMap as map
use Rattle.std.proofs.lemmas.Bool.{true≢false}
use Rattle.std.proofs.lemmas.Option.{none-some}
use Rattle.gfs_types.specs.declared.call.Call.{Call}
use Rattle.gfs_types.specs.declared.call.Call.TheVariants as call
use Rattle.gfs_types.specs.Paths.{Path, is_path, parent, hidden_name}
use Rattle.relaxed_file.specs.Names.{Node, Dir, File, Names, node_at, is_taken, is_dir, copied_entries}
use Rattle.relaxed_file.specs.Machine.{Machine, new_machine}
use Rattle.relaxed_file.specs.NameStep.{is_in_trash, path_tests, name_tests, refusal_of, performed, is_refused, stepped, with_outcome, with_node, hidden}
use Rattle.relaxed_file.specs.Chunks.{chunk_added, placed}
use Rattle.relaxed_file.specs.Answers.{returned}
use Rattle.relaxed_file.specs.Reads.{looked}
use Rattle.relaxed_file.specs.Run.{Action, Return, Step, Expire, Add, Place, Look, Allows, after, asked_file}
use Rattle.relaxed_file.specs.RunLaws.{NamesAreNotTakenOver}
use Rattle.relaxed_file.proofs.Tables.{at_some, from_some}
use Rattle.relaxed_file.proofs.Reached.{kept_to}
use Rattle.relaxed_file.proofs.Known.{asked_is}
use Rattle.relaxed_file.proofs.NamesTree.{Tree, inserted_other, removed_there, removed_other, same_or_other, not_hidden, true_from, unrefused, tests_passed, copies_other, copies_are_new, tree_step, first_tree}

module _ (m : Machine) (path : Path) (old : Node) (there : node_at m.names path ≡ Some old) (outside : IsFalse (is_in_trash path)) where
  -- the name stands for nothing else
  abbrev IsKept : Names → Type 0
  IsKept names = (new : Node) → node_at names path ≡ Some new → new ≡ old

  still : (names : Names) → node_at names path ≡ Some old → IsKept names
  still names is new now = from_some (sym now ∙ is)

  gone : (names : Names) → node_at names path ≡ None → IsKept names
  gone names none new now = absurd (none-some new (sym none ∙ now))

  taken_away : (p : Path) → IsKept (map.remove m.names p)
  taken_away p = ⊎_elim (λ same. gone (map.remove m.names p) (removed_there m.names p path same)) (λ other. still (map.remove m.names p) (removed_other m.names p path other ∙ there)) (same_or_other path p)

  -- another name is added
  one_more : (names : Names) (p : Path) (node : Node) → (path ≡ p → ⊥) → IsKept names → IsKept (map.insert names p node)
  one_more names p node other h new now = h new (sym (inserted_other names p node path other) ∙ now)

  -- the name is none that is free
  not_free : (p : Path) → is_taken m.names p ≡ false → path ≡ p → ⊥
  not_free p free same =
      let taken : is_taken m.names path ≡ true = ap is_some there in
      true≢false (sym taken ∙ ap (λ k. is_taken m.names k) same ∙ free)

  by_deletion : (p : Path) (moment : ℕ) (o : Option Node) → IsKept (hidden m.names p moment o)
  by_deletion p moment None = still m.names there
  by_deletion p moment (Some Dir) = still m.names there
  by_deletion p moment (Some (File id)) = one_more (map.remove m.names p) (hidden_name moment id) (File id) (λ same. not_hidden path outside moment id (sym same)) (taken_away p)

  by_rename : (p q : Path) (o : Option Node) → is_taken m.names q ≡ false → IsKept (with_node (map.remove m.names p) q o)
  by_rename p q None free = taken_away p
  by_rename p q (Some node) free = one_more (map.remove m.names p) q node (not_free q free) (taken_away p)

  performed_kept : (k : Call) (moment : ℕ) → Tree m.names → refusal_of m.config m.names k ≡ None → IsKept (performed m k moment).names
  performed_kept (call.Mkdir p) moment tree h =
      let all = tests_passed (path_tests m.config (call.Mkdir p) ++ name_tests m.names (call.Mkdir p)) h in
      one_more m.names p Dir (not_free p all.1.1.1.0) (still m.names there)
  performed_kept (call.Rmdir p) moment tree h = taken_away p
  performed_kept (call.Create p shape) moment tree h =
      let all = tests_passed (path_tests m.config (call.Create p shape) ++ name_tests m.names (call.Create p shape)) h in
      one_more m.names p (File (suc m.file_count)) (not_free p all.1.1.1.1.0) (still m.names there)
  performed_kept (call.Delete p) moment tree h = by_deletion p moment (node_at m.names p)
  performed_kept (call.Rename p q) moment tree h =
      let all = tests_passed (path_tests m.config (call.Rename p q) ++ name_tests m.names (call.Rename p q)) h in
      by_rename p q (node_at m.names p) all.1.1.1.1.1.1.0
  performed_kept (call.Snapshot p q) moment tree h =
      let all = tests_passed (path_tests m.config (call.Snapshot p q) ++ name_tests m.names (call.Snapshot p q)) h in
      still _ (copies_other (copied_entries m.names p q) m.names (suc m.file_count) path
      (λ v copied. (copies_are_new m.names p q tree (true_from (is_path p) all.0) (true_from (is_path q) all.1.0) all.1.1.0 all.1.1.1.0
      (true_from (is_dir m.names (parent q)) all.1.1.1.1.1.1.0) all.1.1.1.1.1.1.1.0 path v copied).1 (ap is_some there)) ∙ there)
  performed_kept other moment tree h = still m.names there

  kept_step : (action : Action) → Allows m action → Tree m.names → IsKept (after m action).names
  kept_step (Return client reply) a tree = at_some (λ k. IsKept k.names) (λ current. returned m client current reply) m _ a.0 a.1 (still m.names there)
  kept_step (Step client moment outcome) a tree = at_some (λ k. IsKept k.names) (λ current. stepped m client moment outcome current) m _ a.0 a.1
      (elim (is_refused outcome) as (λ b. is_refused outcome ≡ b → IsKept (with_outcome (cond b m (performed m (a.0).asked.call moment)) client outcome).names) [
        | true ↦ λ e. still m.names there
        | false ↦ λ e. performed_kept (a.0).asked.call moment tree (unrefused m.config m.names (a.0).asked.call outcome (a.2).2 e)
      ] refl)
  kept_step (Expire f moment) a tree = taken_away (hidden_name moment f)
  kept_step (Add id) a tree = at_some (λ k. IsKept k.names) (chunk_added m id) m (asked_file m id) a.1 (asked_is m id a.0 a.1 a.2.0 a.2.1) (still m.names there)
  kept_step (Place client f i mutation) a tree = at_some (λ k. IsKept k.names) (λ current. placed m client current f i mutation) m _ a.0 a.1 (still m.names there)
  kept_step (Look client f i least last chosen) a tree = at_some (λ k. IsKept k.names) (λ current. looked m client current f i least chosen) m _ a.0 a.1 (still m.names there)
  kept_step other a tree = still m.names there

pub names_are_not_taken_over : NamesAreNotTakenOver
names_are_not_taken_over config m action path old new reached allowed outside there now =
    kept_step m path old there outside action allowed (kept_to (λ k. Tree k.names) tree_step (new_machine config) m reached first_tree) new now
