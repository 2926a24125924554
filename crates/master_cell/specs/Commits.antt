-- What is left of a log's changes where one failed.
use Rattle.std.specs.Prelude.{◌≡◌, ◌⊎◌, ℕ, List, []}
use Rattle.protocol.specs.Choice.{made_changes, change_under_way}
use Rattle.protocol.specs.Logged.{LogDisk, LogChange, log_changed_by_all}

-- so many changes were made, and the next one may have been begun
pub record IsStopped (old : LogDisk) (changes : List LogChange) (new : LogDisk) (under_way : List LogChange) : Type 0 where
  pub made : ℕ
  pub disk_is : new ≡ log_changed_by_all old (made_changes made changes)
  pub begun : (under_way ≡ change_under_way made changes) ⊎ (under_way ≡ [])
