-- What a disk stands for during a run.
use Rattle.std.proofs.Common.{◌≡◌, ℕ, Bool, List}
use Rattle.disk.specs.Device.{Only}
use Rattle.disk_redo.specs.Moments.{ChangesBut, KeepsAt}
use Rattle.disk_redo.specs.Redo.{StandsOnly, stands_for}
use Rattle.disk_redo.specs.declared.range.RedoArea.{RedoArea}
use Rattle.disk_redo.proofs.Moments.{joined, weaker}
use Rattle.disk_redo.proofs.Runs.{held}

module _ {D : Type 0} (seen : D → List ℕ) (may_leave : D → List ℕ → Type 0) (moment : D → ℕ) (left_since : D → ℕ → List ℕ → Type 0) (area : RedoArea) where
  pub stands_after : (kept : ℕ → Bool) (P : List ℕ → Type 0) (old new : D) → Only (seen old) (may_leave old) → ((c : List ℕ) → KeepsAt kept (seen old) c → P (stands_for area c)) → ChangesBut seen may_leave moment left_since kept old new
      → StandsOnly seen moment left_since area old new P
  stands_after kept P old new only so run = record {
    read = so (seen new) run.read;
    stop = held seen may_leave moment left_since kept (λ c. P (stands_for area c)) old new only so run;
  }

  pub stands_then : (P : List ℕ → Type 0) (old mid new : D) → StandsOnly seen moment left_since area old mid P → StandsOnly seen moment left_since area mid new P → StandsOnly seen moment left_since area old new P
  stands_then P old mid new first second = record {
    read = second.read;
    stop = joined moment left_since old mid new (λ c. P (stands_for area c)) (λ c. P (stands_for area c)) (λ c. P (stands_for area c)) first.stop second.stop (λ c p. p) (λ c p. p);
  }

  pub stands_as : (P Q : List ℕ → Type 0) (old new : D) → ((bytes : List ℕ) → P bytes → Q bytes) → StandsOnly seen moment left_since area old new P → StandsOnly seen moment left_since area old new Q
  stands_as P Q old new so run = record {
    read = so (stands_for area (seen new)) run.read;
    stop = weaker moment left_since old new (λ c. P (stands_for area c)) (λ c. Q (stands_for area c)) run.stop (λ c p. so (stands_for area c) p);
  }
