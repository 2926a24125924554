-- Changes that a disk can take, in chunks of so many bytes.
use Rattle.std.specs.Prelude.{◌≡◌, ⊤, ℕ, ◌+◌, ◌<◌, ◌≤◌, true, length}
use Rattle.replica_store.specs.Replicas.{ServerDisk, is_writable_at}
use Rattle.replica_store.specs.declared.change.StoreChange.{StoreChange}
use Rattle.replica_store.specs.declared.change.StoreChange.TheVariants.{SetOrder, Put, Write, Zero, Raise, Copy, Remove, Rot}

-- A change that ends in the chunk, and writes over no part of a block that doesn't match.
abbrev pub IsCareful : ℕ → ServerDisk → StoreChange → Type 0
IsCareful chunk d (SetOrder order) = ⊤
IsCareful chunk d (Put handle version serial bytes) = length bytes ≤ chunk
IsCareful chunk d (Write handle serial offset bytes) = (offset + length bytes ≤ chunk) × (is_writable_at d handle.0 offset (offset + length bytes) ≡ true)
IsCareful chunk d (Zero handle serial offset count) = (offset + count ≤ chunk) × (is_writable_at d handle.0 offset (offset + count) ≡ true)
IsCareful chunk d (Raise handle version) = ⊤
IsCareful chunk d (Copy handle copy version) = ⊤
IsCareful chunk d (Remove handle) = ⊤
IsCareful chunk d (Rot handle place byte) = place < chunk
