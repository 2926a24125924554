-- The front of a block, hashed.
use Rattle.std.specs.Prelude.{ℕ, ◌≤◌, List, length, take}
use Rattle.sha2.specs.Hashers.{Holds256}
use Rattle.store_disk.specs.declared.hashed_front.HashedFront.{HashedFront}

-- The block has so many bytes at least, and the hasher holds them.
pub record IsFrontOf (block : List ℕ) (front : HashedFront) : Type 0 where
  pub within : front.count ≤ length block
  pub holds : Holds256 front.hasher (take front.count block)
