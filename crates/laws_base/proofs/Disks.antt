-- The sizes of a disk's chunks and blocks stay, whatever changes on it.
use Rattle.std.proofs.Common.{◌≡◌, ℕ, List, [], ◌∷◌, Option, Some, None, refl, ◌∙◌}
use Rattle.replica_store.specs.declared.change.StoreChange.{StoreChange}
use Rattle.replica_store.specs.declared.change.StoreChange.TheVariants.{SetOrder, Put, Write, Zero, Raise, Copy, Remove, Rot}
use Rattle.replica_store.specs.Replicas.{Replica, ServerDisk, replica_of, replica_becomes, disk_changed, disk_changed_by_all}

becomes_block : (f : Replica → Replica) (d : ServerDisk) (k : ℕ) (o : Option Replica) → (replica_becomes f d k o).block ≡ d.block
becomes_block f d k None = refl
becomes_block f d k (Some r) = refl

pub one_block : (d : ServerDisk) (x : StoreChange) → (disk_changed d x).block ≡ d.block
one_block d (SetOrder order) = refl
one_block d (Put handle version serial bytes) = refl
one_block d (Write handle serial offset bytes) = becomes_block _ d handle.0 (replica_of d handle.0)
one_block d (Zero handle serial offset count) = becomes_block _ d handle.0 (replica_of d handle.0)
one_block d (Raise handle version) = becomes_block _ d handle.0 (replica_of d handle.0)
one_block d (Copy handle copy version) = becomes_block _ d copy.0 (replica_of d handle.0)
one_block d (Remove handle) = refl
one_block d (Rot handle place byte) = becomes_block _ d handle.0 (replica_of d handle.0)

pub all_block : (d : ServerDisk) (xs : List StoreChange) → (disk_changed_by_all d xs).block ≡ d.block
all_block d [] = refl
all_block d (x ∷ xs) = all_block (disk_changed d x) xs ∙ one_block d x

becomes_chunk : (f : Replica → Replica) (d : ServerDisk) (k : ℕ) (o : Option Replica) → (replica_becomes f d k o).chunk ≡ d.chunk
becomes_chunk f d k None = refl
becomes_chunk f d k (Some r) = refl

pub one_chunk : (d : ServerDisk) (x : StoreChange) → (disk_changed d x).chunk ≡ d.chunk
one_chunk d (SetOrder order) = refl
one_chunk d (Put handle version serial bytes) = refl
one_chunk d (Write handle serial offset bytes) = becomes_chunk _ d handle.0 (replica_of d handle.0)
one_chunk d (Zero handle serial offset count) = becomes_chunk _ d handle.0 (replica_of d handle.0)
one_chunk d (Raise handle version) = becomes_chunk _ d handle.0 (replica_of d handle.0)
one_chunk d (Copy handle copy version) = becomes_chunk _ d copy.0 (replica_of d handle.0)
one_chunk d (Remove handle) = refl
one_chunk d (Rot handle place byte) = becomes_chunk _ d handle.0 (replica_of d handle.0)

pub all_chunk : (d : ServerDisk) (xs : List StoreChange) → (disk_changed_by_all d xs).chunk ≡ d.chunk
all_chunk d [] = refl
all_chunk d (x ∷ xs) = all_chunk (disk_changed d x) xs ∙ one_chunk d x
