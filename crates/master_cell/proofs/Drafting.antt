-- A planned step, and the lists that are copied for it.
use Rattle.std.proofs.Common.{◌≡◌, ℕ, List, [], sym, ap, ◌∙◌, subst}
use Rattle.messages.specs.declared.event.NodeInput.{NodeInput}
use Rattle.chunk_table.specs.Owners.{IsSound}
use Rattle.protocol.specs.Logged.{Logged, LogDisk, LogChange}
use Rattle.protocol.specs.Tables.{Table}
use Rattle.master_plan.specs.Plans.{PlanState, master_of, doing, resting}
use Rattle.master_state.specs.Follows.{table_of}
use Rattle.master_cell.specs.declared.copy.FileCopy.{FileCopy}
use Rattle.master_cell.specs.Copies.{with_lists, copies_of}
use Rattle.master_cell.specs.Files.{AreFilesOf, files_after}
use Rattle.master_cell.proofs.Showing.{shown_after}
use Rattle.master_cell.specs.Ends.{Goes}
use Rattle.master_cell.specs.Drafts.{Drafts}

module _ (disk : LogDisk) (old p new : PlanState) (moment : ℕ) (i : NodeInput) (changes : List LogChange) (goes : Goes disk old moment i p) (changes_are : changes ≡ p.changes) (rest : new ≡ record p { changes = [] }) where
  pub drafted : Drafts disk old moment i changes new
  drafted = record { planned = p; goes = goes; changes_are = changes_are; rest = rest }

  pub lists_copied : (first : ℕ) (copies : Table ℕ) → AreFilesOf old.logged first copies → IsSound (table_of new.logged) → (shown : Table (List ℕ)) → shown ≡ old.logged.table.files → (lists : List FileCopy)
      → lists ≡ copies_of new.logged.table (files_after first copies new.logged.next_file changes) → with_lists shown lists ≡ new.logged.table.files
  lists_copied first copies noted sound shown same lists are =
      let logged : new.logged ≡ p.logged = ap (λ (x : PlanState). x.logged) rest in
      ap (with_lists shown) are
      ∙ ap (λ (cs : List LogChange). with_lists shown (copies_of new.logged.table (files_after first copies new.logged.next_file cs))) changes_are
      ∙ ap (λ (l : Logged). with_lists shown (copies_of l.table (files_after first copies l.next_file p.changes))) logged
      ∙ shown_after (master_of disk (resting old)) moment i goes.used (doing disk p) goes.leads first copies noted (subst (λ (l : Logged). IsSound (table_of l)) logged sound) shown same
      ∙ ap (λ (l : Logged). l.table.files) (sym logged)

  -- the same, from states that the plan's are known to be
  pub lists_shown : (before after : Logged) → before ≡ old.logged → after ≡ new.logged → (first : ℕ) (copies : Table ℕ) → AreFilesOf before first copies → IsSound (table_of after) → (shown : Table (List ℕ)) → shown ≡ old.logged.table.files
      → (lists : List FileCopy) → lists ≡ copies_of after.table (files_after first copies after.next_file changes) → with_lists shown lists ≡ new.logged.table.files
  lists_shown before after before_is after_is first copies noted sound shown same lists are =
      lists_copied first copies (subst (λ (l : Logged). AreFilesOf l first copies) before_is noted) (subst (λ (l : Logged). IsSound (table_of l)) after_is sound) shown same lists
      (are ∙ ap (λ (l : Logged). copies_of l.table (files_after first copies l.next_file changes)) after_is)
