-- What a disk's replicas are listed as.
use Rattle.std.specs.Prelude.{ℕ, List, map as mapped}
use Rattle.std.specs.FinMap as map
use Rattle.gfs_types.specs.declared.ids.Handle.{Handle}
use Rattle.replica_store.specs.declared.row.Row.{Row}
use Rattle.replica_store.specs.Replicas.{Replica, ServerDisk}

abbrev pub known_row : Replica → Row
known_row r = record { version = record { 0 = r.version }; serial = record { 0 = r.serial }; count = r.count }

abbrev pub listed_as : ℕ × Replica → Handle × Row
listed_as e = (record { 0 = e.0 }, known_row e.1)

-- each replica's handle, and what is known of it without a look at its bytes, in rising handle
abbrev pub rows_of : ServerDisk → List (Handle × Row)
rows_of d = mapped listed_as (map.entries d.replicas)
