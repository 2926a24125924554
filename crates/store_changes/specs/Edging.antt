-- What stays of the first and the last block of a range that is written over, in blocks of so many bytes.
use Rattle.std.specs.Prelude.{◌≡◌, ℕ, ◌+◌, ◌-◌, ◌*◌, ◌/◌, ◌%◌, if◌then◌else◌, length, Option, None, Some, drop, take}
use Rattle.replica_store.specs.Replicas.{Replica, block_in, is_writable}
use Rattle.store_changes.specs.declared.edges.Edges.{Edges}

abbrev pub edges_around : ℕ → Replica → ℕ → ℕ → Edges
edges_around block r offset end_place = record {
  before = take (offset % block) (block_in block (offset / block) r.bytes);
  after = drop (end_place - (end_place - 1) / block * block) (block_in block ((end_place - 1) / block) r.bytes);
}

-- nothing where the range can't be written over
abbrev pub checked_edges : ℕ → Replica → ℕ → ℕ → Option Edges
checked_edges block r offset end_place = if is_writable block r offset end_place then Some (edges_around block r offset end_place) else None

-- what stays of these blocks begins and ends with them
pub record AreLong (block offset end_place : ℕ) (edges : Edges) : Type 0 where
  pub before : length edges.before ≡ offset % block
  pub after : length edges.after ≡ (end_place - 1) / block * block + block - end_place
