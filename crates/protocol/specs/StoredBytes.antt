-- What was stored in a replica, whatever rotted of it since. An observer alone knows it, by what was stored there as a byte of it rotted.
use Rattle.std.specs.Prelude.{ℕ, ◌*◌, ◌/◌, Bool, not, ◌&&◌, nat_lt, if◌then◌else◌, List, ◌∷◌, map, length, take, slice_index_or as get_or}
use Rattle.std.specs.List.{range_with_len}
use Rattle.std.specs.Str.{bytes_eq}
use Rattle.replica_store.specs.Replicas.{Replica, ServerDisk, block_matches}
use Rattle.protocol.specs.Observer.{Observer, intact_bytes}

-- whether the block has a digest, and it is another one than that of its bytes
abbrev pub is_lost : ℕ → Replica → ℕ → Bool
is_lost block r n = nat_lt (32 * n) (length r.digests) && not (block_matches block r n)

-- What was stored at a place of a chunk, on the disk of the server at an index: what stands there, but in a block that is lost what was stored as a byte rotted.
abbrev pub stored_byte : Observer → ℕ → ℕ → ℕ → Replica → ℕ → ℕ
stored_byte o index handle block r place = if is_lost block r (place / block) then get_or (intact_bytes o.intact index handle) place 0 else get_or r.bytes place 0

-- all that was stored in the chunk
abbrev pub stored_chunk : Observer → ℕ → ℕ → ℕ → Replica → List ℕ
stored_chunk o index handle block r = map (λ place. stored_byte o index handle block r place) (range_with_len 0 (length r.bytes))

-- the replica's own bytes as they were stored
abbrev pub stored_bytes : Observer → ℕ → ℕ → ServerDisk → Replica → List ℕ
stored_bytes o index handle d r = take r.count (stored_chunk o index handle d.block r)

-- with what is stored in a replica, of which a byte rots
abbrev pub with_intact : Observer → ℕ → ℕ → ℕ → Replica → Observer
with_intact o index handle block r = record o { intact = record { index = index; handle = handle; bytes = stored_chunk o index handle block r } ∷ o.intact }

-- A byte of a replica rots, or may be found to have rotted once a server that it put down restarts. Disks are kept where no block has its digest then that isn't what was stored in it.
abbrev pub observed_rot : Observer → ℕ → ℕ → ℕ → Replica → Replica → Observer
observed_rot o index handle block r rotten =
    record o {
      intact = (with_intact o index handle block r).intact;
      are_disks_kept = o.are_disks_kept && bytes_eq (stored_chunk (with_intact o index handle block r) index handle block rotten) (stored_chunk o index handle block r);
    }
