-- A disk with one replica.
use Rattle.std.specs.Prelude.{ℕ, List}
use Rattle.replica_store.specs.declared.change.StoreChange.TheVariants.{Put}
use Rattle.replica_store.specs.Replicas.{ServerDisk, disk_changed, new_server_disk}

-- a new disk on which these bytes were stored, under handle 5 and version 1
abbrev pub with_one : (chunk block slots : ℕ) → List ℕ → ServerDisk
with_one chunk block slots bytes = disk_changed (new_server_disk chunk block slots) (Put (record { 0 = 5 }) (record { 0 = 1 }) (record { 0 = 0 }) bytes)
