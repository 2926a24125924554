-- What is read of a replica's chunk, in blocks of so many bytes.
use Rattle.std.specs.Prelude.{ℕ, ◌-◌, if◌then◌else◌, List, Option, None, Some}
use Rattle.disk.specs.Bytes.{range_at}
use Rattle.replica_store.specs.Replicas.{Replica, blocks_match}

-- From one place to before another, as it is on the disk; nothing where a block that this touches doesn't match.
abbrev pub checked_part : ℕ → Replica → ℕ → ℕ → Option (List ℕ)
checked_part block r offset end_place = if blocks_match block r offset end_place then Some (range_at r.bytes offset (end_place - offset)) else None
