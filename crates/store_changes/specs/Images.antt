-- All bytes of a replica.
use Rattle.std.specs.Prelude.{ℕ, if◌then◌else◌, List, Option, None, Some}
use Rattle.replica_store.specs.Replicas.{Replica, ServerDisk, is_readable, own_bytes, replica_of}

abbrev pub image_of : ℕ → Option Replica → Option (List ℕ)
image_of block None = None
image_of block (Some r) = if is_readable block r 0 r.count then Some (own_bytes r) else None

-- all bytes of a replica as they are on the disk; nothing where one of its blocks doesn't match its digest
abbrev pub image_at : ServerDisk → ℕ → Option (List ℕ)
image_at d handle = image_of d.block (replica_of d handle)
