-- What a run of calls of a disk does to what a read gives, and to what a stop at each of its moments leaves.
use Rattle.std.specs.Prelude.{◌≡◌, ℕ, ◌+◌, Bool, true, ◌||◌, nat_lt, nat_le, List, length, slice_index}
use Rattle.disk.specs.Device.{Follows}
use Rattle.disk_redo.specs.GateMoments.{LeavesOnly}

-- Each place that is kept has the byte that it had, and the size stays.
pub record KeepsAt (kept : ℕ → Bool) (old new : List ℕ) : Type 0 where
  pub size : length new ≡ length old
  pub same : (place : ℕ) → kept place ≡ true → slice_index new place ≡ slice_index old place

-- the place lies outside of the n bytes from `first` on
abbrev pub is_outside : ℕ → ℕ → ℕ → Bool
is_outside first n place = nat_lt place first || nat_le (first + n) place

-- the places that are kept lie outside of the n bytes from `first` on
abbrev pub Misses : (ℕ → Bool) → ℕ → ℕ → Type 0
Misses kept first n = (place : ℕ) → kept place ≡ true → is_outside first n place ≡ true

-- What is read, and what a stop at each moment leaves, keeps those places.
pub record ChangesBut {D : Type 0} (seen : D → List ℕ) (may_leave : D → List ℕ → Type 0) (moment : D → ℕ) (left_since : D → ℕ → List ℕ → Type 0) (kept : ℕ → Bool) (old new : D) : Type 0 where
  pub read : KeepsAt kept (seen old) (seen new)
  pub stop : Follows (KeepsAt kept) (may_leave old) (may_leave new)
  pub moments : LeavesOnly moment left_since old new (λ c. (d : List ℕ) × may_leave old d × KeepsAt kept d c)
