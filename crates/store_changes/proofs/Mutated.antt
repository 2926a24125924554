-- A mutation is a change.
use Rattle.std.proofs.Common.{◌≡◌, refl}
use Rattle.gfs_types.specs.declared.ids.Handle.{Handle}
use Rattle.gfs_types.specs.declared.ids.Serial.{Serial}
use Rattle.gfs_types.specs.declared.mutation.Mutation.{Mutation}
use Rattle.gfs_types.specs.declared.mutation.Mutation.TheVariants as mutations
use Rattle.replica_store.specs.declared.change.StoreChange.TheVariants.{Write}
use Rattle.replica_store.specs.Replicas.{ServerDisk, disk_changed}
use Rattle.store_changes.specs.Mutations.{bytes_of, change_of, place_of}

pub change_same : (h : Handle) (s : Serial) (m : Mutation) (d : ServerDisk) → disk_changed d (Write h s (place_of m) (bytes_of m)) ≡ disk_changed d (change_of h s m)
change_same h s (mutations.Write offset bytes) d = refl
change_same h s (mutations.Append offset bytes) d = refl
change_same h s (mutations.Pad offset end) d = refl
