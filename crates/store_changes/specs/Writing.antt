-- A replica that is written over, for chunks of so many bytes in blocks of so many, in so many slots.
use Rattle.std.specs.Prelude.{ℕ, ◌+◌, ◌*◌, ◌/◌, if◌then◌else◌, nat_le, List, [], ◌∷◌, ◌++◌, length, max, Option, Some, None}
use Rattle.disk_redo.specs.declared.range.RedoRange.{RedoRange}
use Rattle.replica_store.specs.Replicas.{Replica, digests_of, is_writable, touched}
use Rattle.replica_store.specs.declared.row.Row.{Row}
use Rattle.store_disk.specs.Fields.{header_bytes}
use Rattle.store_disk.specs.Places.{data_place, digests_place, slot_place}
use Rattle.store_changes.specs.Edging.{edges_around}
use Rattle.store_changes.specs.declared.edges.Edges.{Edges}
use Rattle.store_disk.specs.Stored.{header_of}

-- what is known of a replica once these bytes were put at a place
abbrev pub written_row : Row → ℕ → ℕ → List ℕ → Row
written_row row serial offset content = record { version = row.version; serial = record { 0 = serial }; count = max row.count (offset + length content) }

abbrev pub header_range_of : ℕ → ℕ → ℕ → ℕ → Row → RedoRange
header_range_of chunk block slot handle row = record { place = slot_place chunk block slot; bytes = header_bytes (header_of handle row) }

-- what is written: the header, the digests of the blocks that the bytes touch, and the bytes
abbrev pub written_ranges : ℕ → ℕ → ℕ → ℕ → Row → Edges → ℕ → List ℕ → List RedoRange
written_ranges chunk block slot handle row edges offset content =
    header_range_of chunk block slot handle row
    ∷ record {
      place = digests_place chunk block slot + 32 * (offset / block);
      bytes = digests_of block (touched block offset (offset + length content)) (edges.before ++ content ++ edges.after);
    }
    ∷ record { place = data_place chunk block slot + offset; bytes = content }
    ∷ []

-- the header alone, where there are no bytes
abbrev pub ranges_of : ℕ → ℕ → Replica → ℕ → ℕ → Row → ℕ → List ℕ → List RedoRange
ranges_of chunk block r slot handle row offset content =
    if nat_le (offset + length content) offset
    then header_range_of chunk block slot handle row ∷ []
    else written_ranges chunk block slot handle row (edges_around block r offset (offset + length content)) offset content

-- nothing where the range can't be written over
abbrev pub checked_ranges : ℕ → ℕ → Replica → ℕ → ℕ → Row → ℕ → List ℕ → Option (List RedoRange)
checked_ranges chunk block r slot handle row offset content =
    if is_writable block r offset (offset + length content) then Some (ranges_of chunk block r slot handle row offset content) else None
