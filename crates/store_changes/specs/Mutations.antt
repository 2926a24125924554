-- What a mutation does to a replica.
use Rattle.std.specs.Prelude.{ℕ, ◌-◌, List, replicate}
use Rattle.gfs_types.specs.declared.ids.Handle.{Handle}
use Rattle.gfs_types.specs.declared.ids.Serial.{Serial}
use Rattle.gfs_types.specs.declared.mutation.Mutation.{Mutation}
use Rattle.gfs_types.specs.declared.mutation.Mutation.TheVariants as mutations
use Rattle.replica_store.specs.declared.change.StoreChange.{StoreChange}
use Rattle.replica_store.specs.declared.change.StoreChange.TheVariants as changes

abbrev pub place_of : Mutation → ℕ
place_of (mutations.Write offset bytes) = offset
place_of (mutations.Append offset bytes) = offset
place_of (mutations.Pad offset end) = offset

-- a pad has zeros up to its end
abbrev pub bytes_of : Mutation → List ℕ
bytes_of (mutations.Write offset bytes) = bytes
bytes_of (mutations.Append offset bytes) = bytes
bytes_of (mutations.Pad offset end) = replicate (end - offset) 0

abbrev pub change_of : Handle → Serial → Mutation → StoreChange
change_of handle serial (mutations.Write offset bytes) = changes.Write handle serial offset bytes
change_of handle serial (mutations.Append offset bytes) = changes.Write handle serial offset bytes
change_of handle serial (mutations.Pad offset end) = changes.Zero handle serial offset (end - offset)
