-- How a checkpoint is written, and changes are made in order.
use Rattle.std.proofs.Common.{◌≡◌, ℕ, zero, suc, ◌+◌, ◌<◌, Bool, true, false, List, [], ◌∷◌, ◌++◌, take, length, get_or, refl, sym, ap, ◌∙◌, arith}
use Rattle.std.specs.Prelude.{◌⊎◌}
use Rattle.std.proofs.Common.{inl, inr}
use Rattle.std.proofs.lemmas.List.{map-append, take_more}
use Rattle.protocol.specs.Choice.{made_changes, change_under_way}
use Rattle.protocol.specs.Logged.{LogDisk, LogChange, log_changed, log_changed_by_all}
use Rattle.operation_log.specs.Logs.{MayBeUnderWay}
use Rattle.master_plan.specs.declared.change.PlannedChange.{PlannedChange}
use Rattle.master_plan.specs.Changes.{change_of, changes_of}
use Rattle.master_cell.specs.Commits.{IsStopped}

-- what is not false
pub true_if : (x : Bool) → (x ≡ false → ⊥) → x ≡ true
true_if true h = refl
true_if false h = absurd (h refl)

changed_last : (d : LogDisk) (cs : List LogChange) (c : LogChange) → log_changed_by_all d (cs ++ c ∷ []) ≡ log_changed (log_changed_by_all d cs) c
changed_last d [] c = refl
changed_last d (x ∷ xs) c = changed_last (log_changed d x) xs c

-- one change more
pub changes_more : (disk : LogDisk) (changes : List PlannedChange) (i : ℕ) (item : PlannedChange) (before after : LogDisk) → i < length changes → item ≡ get_or changes i item
    → before ≡ log_changed_by_all disk (changes_of (take i changes)) → after ≡ log_changed before (change_of item) → after ≡ log_changed_by_all disk (changes_of (take (i + 1) changes))
changes_more disk changes i item before after within is so_far made =
    made
    ∙ ap (λ (d : LogDisk). log_changed d (change_of item)) so_far
    ∙ ap (λ (x : PlannedChange). log_changed (log_changed_by_all disk (changes_of (take i changes))) (change_of x)) is
    ∙ sym (changed_last disk (changes_of (take i changes)) (change_of (get_or changes i item)))
    ∙ ap (log_changed_by_all disk) (sym (ap changes_of (take_more changes i item within) ∙ map-append change_of (take i changes) (get_or changes i item ∷ [])))

take_mapped : (changes : List PlannedChange) (i : ℕ) → made_changes i (changes_of changes) ≡ changes_of (take i changes)
take_mapped changes zero = refl
take_mapped [] (suc i) = refl
take_mapped (x ∷ xs) (suc i) = ap (λ l. change_of x ∷ l) (take_mapped xs i)

next_mapped : (changes : List PlannedChange) (i : ℕ) (item : PlannedChange) → i < length changes → change_under_way i (changes_of changes) ≡ change_of (get_or changes i item) ∷ []
next_mapped [] i item h = absurd (omega arith)
next_mapped (x ∷ xs) zero item h = refl
next_mapped (x ∷ xs) (suc i) item h = next_mapped xs i item (omega arith)

-- a change failed
pub stopped_at : (disk : LogDisk) (changes : List PlannedChange) (i : ℕ) (item : PlannedChange) (before after : LogDisk) (under_way : List LogChange) → i < length changes → item ≡ get_or changes i item
    → before ≡ log_changed_by_all disk (changes_of (take i changes)) → after ≡ before → MayBeUnderWay (change_of item) under_way → IsStopped disk (changes_of changes) after under_way
stopped_at disk changes i item before after under_way within is so_far same begun =
    record {
      made = i;
      disk_is = same ∙ so_far ∙ ap (log_changed_by_all disk) (sym (take_mapped changes i));
      begun = by_cases begun;
    }
  where
    by_cases : MayBeUnderWay (change_of item) under_way → (under_way ≡ change_under_way i (changes_of changes)) ⊎ (under_way ≡ [])
    by_cases (inl none) = inr none
    by_cases (inr one) = inl (one ∙ ap (λ (x : PlannedChange). change_of x ∷ []) is ∙ sym (next_mapped changes i item within))
