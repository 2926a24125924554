-- What a stop leaves, at any moment of a run of a disk's calls.
use Rattle.std.specs.Prelude.{◌≡◌, ◌⊎◌, ℕ, ◌≤◌, List}
use Rattle.disk.specs.Device.{NoMore}

-- A stop at any moment since old leaves bytes that have P.
pub record LeavesOnly {D : Type 0} (moment : D → ℕ) (left_since : D → ℕ → List ℕ → Type 0) (old new : D) (P : List ℕ → Type 0) : Type 0 where
  pub later : moment old ≤ moment new
  pub each : (c : List ℕ) → left_since new (moment old) c → P c
  -- for a run that began earlier
  pub before : (t : ℕ) (c : List ℕ) → t ≤ moment old → left_since new t c → left_since old t c ⊎ P c

-- Reads and syncs alone: no byte changes, and a stop leaves what a stop before might have left.
pub record OnlyReads {D : Type 0} (seen : D → List ℕ) (may_leave : D → List ℕ → Type 0) (moment : D → ℕ) (left_since : D → ℕ → List ℕ → Type 0) (old new : D) : Type 0 where
  pub seen_same : seen new ≡ seen old
  pub crash : NoMore (may_leave old) (may_leave new)
  pub any_moment : LeavesOnly moment left_since old new (may_leave old)
