-- The replicas on a server's disk. Version, last serial and bytes are stored together. Each block has the SHA-256 digest of what was stored in it; bytes that changed past it are answered only where the digest is the same (section 5.2).
use Rattle.std.specs.Prelude.{ℕ, zero, suc, ◌+◌, ◌-◌, ◌*◌, ◌/◌, ◌%◌, max, Bool, true, false, not, ◌&&◌, ◌||◌, ◌==◌, nat_lt, nat_le, if◌then◌else◌, List, [], ◌∷◌, ◌++◌, length, take, drop, min, Option, Some, None, replicate, slice_set}
use Rattle.std.specs.List.{list_any, range_with_len}
use Rattle.std.specs.Str.{bytes_eq}
use Rattle.std.specs.Ordering.{nat_cmp}
use Rattle.std.specs.FinMap as map
use Rattle.sha2.specs.Sha256.{sha256}
use Rattle.replica_store.specs.declared.row.Row.{Row}
use Rattle.replica_store.specs.declared.change.StoreChange.{StoreChange}
use Rattle.replica_store.specs.declared.change.StoreChange.TheVariants.{SetOrder, Put, Write, Zero, Raise, Copy, Remove, Rot}

abbrev pub Table : Type 0 → Type 0
Table X = map.FinMap nat_cmp X

-- One replica as it lies on the disk: how many bytes it has, all bytes of its chunk, and the digests of the chunk's blocks, one after another. Bytes of the chunk past its own are zero, unless they rotted.
pub record Replica : Type 0 where
  pub version : ℕ
  pub serial : ℕ
  pub count : ℕ
  pub bytes : List ℕ
  pub digests : List ℕ

-- What a server keeps over a restart: the size of a chunk and of a block, how many replicas there may be, the number of the last order that it took (epoch and count), and its replicas by handle.
pub record ServerDisk : Type 0 where
  pub chunk : ℕ
  pub block : ℕ
  pub slots : ℕ
  pub epoch : ℕ
  pub count : ℕ
  pub replicas : Table Replica

abbrev pub new_server_disk : ℕ → ℕ → ℕ → ServerDisk
new_server_disk chunk block slots = record { chunk = chunk; block = block; slots = slots; epoch = 0; count = 0; replicas = map.empty }

abbrev pub replica_of : ServerDisk → ℕ → Option Replica
replica_of d handle = map.get d.replicas handle

-- blocks and their digests

-- the bytes, with zeros up to a place
abbrev pub filled_to : ℕ → List ℕ → List ℕ
filled_to end_place bytes = bytes ++ replicate (end_place - length bytes) 0

-- the block with this number
abbrev pub block_in : ℕ → ℕ → List ℕ → List ℕ
block_in block n bytes = take block (drop (n * block) bytes)

-- the digests of the first n blocks, one after another
abbrev pub digests_of : ℕ → ℕ → List ℕ → List ℕ
digests_of block zero bytes = []
digests_of block (suc n) bytes = sha256 (take block bytes) ++ digests_of block n (drop block bytes)

-- a digest has 32 bytes
abbrev pub digest_in : ℕ → List ℕ → List ℕ
digest_in n digests = block_in 32 n digests

-- whether the block has its digest
abbrev pub block_matches : ℕ → Replica → ℕ → Bool
block_matches block r n = bytes_eq (sha256 (block_in block n r.bytes)) (digest_in n r.digests)

-- how many blocks hold a place of this range, which is not empty
abbrev pub touched : ℕ → ℕ → ℕ → ℕ
touched block first end_place = (end_place - 1) / block + 1 - first / block

-- whether each block that holds a place of this range has its digest; the range is not empty
abbrev pub blocks_match : ℕ → Replica → ℕ → ℕ → Bool
blocks_match block r first end_place = not (list_any (λ n. not (block_matches block r n)) (range_with_len (first / block) (touched block first end_place)))

-- reads

-- where a read of a range ends
abbrev pub read_end : Replica → ℕ → ℕ → ℕ
read_end r offset count = min (offset + count) r.count

-- each block that the read touches matches
abbrev pub is_readable : ℕ → Replica → ℕ → ℕ → Bool
is_readable block r offset count = nat_le (read_end r offset count) offset || blocks_match block r offset (read_end r offset count)

-- the replica's bytes on the disk
abbrev pub own_bytes : Replica → List ℕ
own_bytes r = take r.count r.bytes

-- what a read gives: what is on the disk
abbrev pub read_bytes : Replica → ℕ → ℕ → List ℕ
read_bytes r offset count = take count (drop offset (own_bytes r))

-- changes

-- Before a change that touches part of a block, the first and the last block of its range are checked.
abbrev pub is_writable : ℕ → Replica → ℕ → ℕ → Bool
is_writable block r offset end_place =
    nat_le end_place offset
    || (((offset % block) == 0) && ((end_place % block) == 0))
    || (block_matches block r (offset / block) && block_matches block r ((end_place - 1) / block))

-- the bytes with others in their place
abbrev pub written_over : List ℕ → ℕ → List ℕ → List ℕ
written_over old offset new = take offset old ++ new ++ drop (offset + length new) old

-- A new replica with these bytes, in a chunk of so many, in blocks of so many.
abbrev pub stored_replica : ℕ → ℕ → ℕ → ℕ → List ℕ → Replica
stored_replica chunk block version serial bytes =
    record {
      version = version;
      serial = serial;
      count = length bytes;
      bytes = filled_to chunk bytes;
      digests = digests_of block (chunk / block) (filled_to chunk bytes);
    }

-- the digests, with those of the blocks that hold a place of this range made anew
abbrev pub renewed_digests : ℕ → List ℕ → List ℕ → ℕ → ℕ → List ℕ
renewed_digests block digests bytes offset end_place =
    if nat_le end_place offset then digests
    else written_over digests (32 * (offset / block)) (digests_of block (touched block offset end_place) (drop (offset / block * block) bytes))

-- The replica after a mutation that puts these bytes there.
abbrev pub written_replica : ℕ → Replica → ℕ → ℕ → List ℕ → Replica
written_replica block r serial offset content =
    record r {
      serial = serial;
      count = max r.count (offset + length content);
      bytes = written_over r.bytes offset content;
      digests = renewed_digests block r.digests (written_over r.bytes offset content) offset (offset + length content);
    }

-- under a new version the serials begin anew
abbrev pub raised_replica : Replica → ℕ → Replica
raised_replica r version = record r { version = version; serial = 0 }

-- a byte on the disk becomes another, past its digest
abbrev pub rotten_replica : Replica → ℕ → ℕ → Replica
rotten_replica r place byte = record r { bytes = slice_set r.bytes place byte }

-- a disk with another replica under a handle
abbrev pub with_replica : ServerDisk → ℕ → Replica → ServerDisk
with_replica d handle r = record d { replicas = map.insert d.replicas handle r }

-- the replica of a handle, where there is one, becomes another
abbrev pub replica_becomes : (Replica → Replica) → ServerDisk → ℕ → Option Replica → ServerDisk
replica_becomes change d handle None = d
replica_becomes change d handle (Some r) = with_replica d handle (change r)

-- what a change does; a stop leaves the disk before it or after it
abbrev pub disk_changed : ServerDisk → StoreChange → ServerDisk
disk_changed d (SetOrder order) = record d { epoch = order.epoch; count = order.count }
disk_changed d (Put handle version serial bytes) = with_replica d handle.0 (stored_replica d.chunk d.block version.0 serial.0 bytes)
disk_changed d (Write handle serial offset bytes) = replica_becomes (λ r. written_replica d.block r serial.0 offset bytes) d handle.0 (replica_of d handle.0)
disk_changed d (Zero handle serial offset count) = replica_becomes (λ r. written_replica d.block r serial.0 offset (replicate count 0)) d handle.0 (replica_of d handle.0)
disk_changed d (Raise handle version) = replica_becomes (λ r. raised_replica r version.0) d handle.0 (replica_of d handle.0)
disk_changed d (Copy handle copy version) = replica_becomes (λ r. stored_replica d.chunk d.block version.0 0 (own_bytes r)) d copy.0 (replica_of d handle.0)
disk_changed d (Remove handle) = record d { replicas = map.remove d.replicas handle.0 }
disk_changed d (Rot handle place byte) = replica_becomes (λ r. rotten_replica r place byte) d handle.0 (replica_of d handle.0)

abbrev pub disk_changed_by_all : ServerDisk → List StoreChange → ServerDisk
disk_changed_by_all d [] = d
disk_changed_by_all d (change ∷ rest) = disk_changed_by_all (disk_changed d change) rest

-- what a server asks its disk

-- an order is taken only where its number is greater than the last one
abbrev pub is_new_order : ServerDisk → ℕ → ℕ → Bool
is_new_order d epoch count = nat_lt d.epoch epoch || ((d.epoch == epoch) && nat_lt d.count count)

-- whether every slot is used
abbrev pub is_disk_full : ℕ → ServerDisk → Bool
is_disk_full slots d = nat_le slots (map.len d.replicas)

abbrev pub row_of : Option Replica → Option Row
row_of None = None
row_of (Some r) = Some (record { version = record { 0 = r.version }; serial = record { 0 = r.serial }; count = r.count })

-- what is known of the replica of a handle
abbrev pub row_at : ServerDisk → ℕ → Option Row
row_at d handle = row_of (replica_of d handle)

abbrev pub read_from : ℕ → ℕ → ℕ → Option Replica → Option (List ℕ)
read_from block offset count None = None
read_from block offset count (Some r) = if is_readable block r offset count then Some (read_bytes r offset count) else None

-- What a read of a replica gives, and nothing where a block that it touches doesn't match.
abbrev pub read_at : ServerDisk → ℕ → ℕ → ℕ → Option (List ℕ)
read_at d handle offset count = read_from d.block offset count (replica_of d handle)

-- the whole of a replica can be copied
abbrev pub copyable_in : ℕ → Option Replica → Bool
copyable_in block None = false
copyable_in block (Some r) = is_readable block r 0 r.count

abbrev pub is_copyable_at : ServerDisk → ℕ → Bool
is_copyable_at d handle = copyable_in d.block (replica_of d handle)

abbrev pub writable_in : ℕ → ℕ → ℕ → Option Replica → Bool
writable_in block offset end_place None = true
writable_in block offset end_place (Some r) = is_writable block r offset end_place

-- whether a range of a replica can be written over
abbrev pub is_writable_at : ServerDisk → ℕ → ℕ → ℕ → Bool
is_writable_at d handle offset end_place = writable_in d.block offset end_place (replica_of d handle)
