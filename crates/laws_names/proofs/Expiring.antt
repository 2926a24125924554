-- The files that expire at a moment: each stands under a hidden name alone, which tells that it was kept long enough.
use Rattle.std.proofs.Common.{◌≡◌, ℕ, ◌-◌, Bool, true, false, cond, List, [], ◌∷◌, Some, None, refl, sym, ap, ◌∙◌, inl, inr, arith}
use Rattle.std.specs.Prelude.{◌==◌, ◌||◌, nat_le, filter, map}
use Rattle.std.proofs.lemmas.Bool.{and_parts, leb-true, eqb-true}
use Rattle.std.specs.FinMap as table
use Rattle.gfs_types.specs.Paths.{Path, trash, is_child, hidden_name}
use Rattle.relaxed_file.specs.Names.{Node, Dir, File, node_at}
use Rattle.relaxed_file.proofs.NamesTree.{HasAt, entry_is}
use Rattle.protocol.specs.Tables.{has_number}
use Rattle.protocol.specs.Master.{MasterState}
use Rattle.protocol.specs.MasterStep.{hidden_moment, is_old, old_file, before_none, master_at, expired_files}
use Rattle.laws_base.proofs.Entries.{AllOf}
use Rattle.laws_base.proofs.FilesNamed.{AreNamed, AreDistinct}
use Rattle.laws_base.proofs.OneName.{sorted_distinct}
use Rattle.laws_base.proofs.NamesReached.{logged_reached}
use Rattle.laws_names.specs.NamesDue.{IsDue, AreDue, ExpiringFilesAreOld}
use Rattle.laws_names.proofs.HiddenRight.{HidesRight, IsFoundRight, IsRightLog, right_kept}

both_false : (a b : Bool) → (a ≡ true → ⊥) → b ≡ false → a || b ≡ false
both_false true b f e = absurd (f refl)
both_false false b f e = e

module _ (m : MasterState) (named : AreNamed m.logged.names m.logged.next_file m.logged.table.files) (right : HidesRight m.logged.names) where
  abbrev old_of : List (Path × Node) → List ℕ
  old_of es = before_none (map (λ e. old_file m e.0 e.1) (filter (λ e. is_child trash e.0) es))

  -- an old file of the trash
  due : (path : Path) (file : ℕ) → node_at m.logged.names path ≡ Some (File file) → is_child trash path ≡ true → is_old m path ≡ true → IsDue m file
  due path file at child old =
      let name : hidden_name (hidden_moment path) file ≡ path = right path file at child in
      let parts = and_parts (nat_le (hidden_moment path) m.now) (nat_le m.config.keep_ms (m.now - hidden_moment path)) old in
      let before = leb-true (hidden_moment path) m.now parts.0 in
      let long = leb-true m.config.keep_ms (m.now - hidden_moment path) parts.1 in (
        hidden_moment path,
        (ap (λ (p : Path). node_at m.logged.names p) name ∙ at, λ other is. named.one other path file is at ∙ sym name),
        named.there path file at,
        omega (arith, before, long),
      )

  -- another name's file is another one
  apart : (path : Path) (file : ℕ) (es : List (Path × Node)) → node_at m.logged.names path ≡ Some (File file) → ((p : Path) (v : Node) → HasAt es p v → node_at m.logged.names p ≡ Some v) → AllOf (λ (x : Path × Node). x.0 ≡ path → ⊥) es
      → has_number (old_of es) file ≡ false
  apart path file [] at there others = refl
  apart path file (e ∷ es) at there others = by_child (is_child trash e.0) (apart path file es at (λ p v has. there p v (inr has)) others.1)
    where
      by_node : (n : Node) → e.1 ≡ n → has_number (old_of es) file ≡ false → has_number (before_none (old_file m e.0 n ∷ map (λ x. old_file m x.0 x.1) (filter (λ x. is_child trash x.0) es))) file ≡ false
      by_node Dir same rest = refl
      by_node (File id) same rest = by_age (is_old m e.0)
        where
          by_age : (b : Bool) → has_number (before_none (cond b (Some id) None ∷ map (λ x. old_file m x.0 x.1) (filter (λ x. is_child trash x.0) es))) file ≡ false
          by_age true = both_false (id == file) (has_number (old_of es) file) (λ is. others.0 (named.one e.0 path file (there e.0 (File file) (inl (refl, same ∙ ap File (eqb-true id file is)))) at)) rest
          by_age false = refl

      by_child : (b : Bool) → has_number (old_of es) file ≡ false → has_number (before_none (map (λ x. old_file m x.0 x.1) (cond b (e ∷ filter (λ x. is_child trash x.0) es) (filter (λ x. is_child trash x.0) es)))) file ≡ false
      by_child true rest = by_node e.1 refl rest
      by_child false rest = rest

  all_due : (es : List (Path × Node)) → ((p : Path) (v : Node) → HasAt es p v → node_at m.logged.names p ≡ Some v) → AreDistinct es → AreDue m (old_of es)
  all_due [] there distinct = tt
  all_due (e ∷ es) there distinct = by_child (is_child trash e.0) refl (all_due es (λ p v has. there p v (inr has)) distinct.1)
    where
      by_node : (n : Node) → e.1 ≡ n → is_child trash e.0 ≡ true → AreDue m (old_of es) → AreDue m (before_none (old_file m e.0 n ∷ map (λ x. old_file m x.0 x.1) (filter (λ x. is_child trash x.0) es)))
      by_node Dir same child rest = tt
      by_node (File id) same child rest = by_age (is_old m e.0) refl
        where
          at : node_at m.logged.names e.0 ≡ Some (File id)
          at = there e.0 (File id) (inl (refl, same))

          by_age : (b : Bool) → is_old m e.0 ≡ b → AreDue m (before_none (cond b (Some id) None ∷ map (λ x. old_file m x.0 x.1) (filter (λ x. is_child trash x.0) es)))
          by_age true old = (due e.0 id at child old, apart e.0 id es at (λ p v has. there p v (inr has)) distinct.0, rest)
          by_age false old = tt

      by_child : (b : Bool) → is_child trash e.0 ≡ b → AreDue m (old_of es) → AreDue m (before_none (map (λ x. old_file m x.0 x.1) (cond b (e ∷ filter (λ x. is_child trash x.0) es) (filter (λ x. is_child trash x.0) es))))
      by_child true child rest = by_node e.1 refl child rest
      by_child false child rest = rest

  pub expiring : AreDue m (expired_files m)
  expiring = all_due (table.entries m.logged.names) (λ p v has. entry_is m.logged.names p v has) (sorted_distinct (table.entries m.logged.names) (table.entries_sorted m.logged.names))

pub expiring_files_are_old : ExpiringFilesAreOld
expiring_files_are_old config servers clients w r up moment =
    let log = (logged_reached IsFoundRight IsRightLog right_kept config servers clients w r up).tied in
    expiring (master_at w.master moment) log.0.base.here.named log.1
