-- All bytes of a replica are a read of it from its start.
use Rattle.std.proofs.Common.{◌≡◌, ℕ, ◌≤◌, Bool, true, false, if◌then◌else◌, List, length, refl, sym, ap, ◌∙◌, arith, Option, Some, None}
use Rattle.std.specs.Prelude.{unwrap_or}
use Rattle.std.specs.Option.{option_map}
use Rattle.std.proofs.lemmas.List.{length-take, length-take-le, take_all}
use Rattle.gfs_types.specs.declared.ids.Handle.{Handle}
use Rattle.gfs_types.specs.declared.ids.Version.{Version}
use Rattle.replica_store.specs.declared.change.StoreChange.TheVariants.{Copy, Put}
use Rattle.replica_store.specs.declared.row.Row.{Row}
use Rattle.replica_store.specs.Replicas.{Replica, ServerDisk, disk_changed, is_readable, own_bytes, read_at, read_from, replica_becomes, replica_of, row_of, stored_replica}
use Rattle.store_changes.specs.Images.{image_at, image_of}

whole_read : (block count : ℕ) (o : Option Replica) → count ≡ unwrap_or (option_map (λ row. row.count) (row_of o)) 0 → read_from block 0 count o ≡ image_of block o
whole_read block count None is = refl
whole_read block count (Some r) is =
    let same : count ≡ r.count = is in
    let short : length (own_bytes r) ≤ r.count = omega (arith, length-take r.count r.bytes) in
    ap (λ (n : ℕ). read_from block 0 n (Some r)) same
    ∙ ap (λ (l : List ℕ). if is_readable block r 0 r.count then Some l else None) (take_all r.count (own_bytes r) (omega (arith, short)))

pub image_read : (d : ServerDisk) (h count : ℕ) → count ≡ unwrap_or (option_map (λ row. row.count) (row_of (replica_of d h))) 0 → read_at d h 0 count ≡ image_at d h
image_read d h count is = whole_read d.block count (replica_of d h) is

-- what was read are the bytes of the replica on the disk
pub image_bytes : (block : ℕ) (o : Option Replica) (bytes : List ℕ) → Some bytes ≡ image_of block o → (r : Replica) × (o ≡ Some r) × (bytes ≡ own_bytes r)
image_bytes block None bytes e = absurd cc
image_bytes block (Some r) bytes e = by (is_readable block r 0 r.count) e
  where
    by : (b : Bool) → Some bytes ≡ (if b then Some (own_bytes r) else None) → (q : Replica) × (Some r ≡ Some q) × (bytes ≡ own_bytes q)
    by true is = (let same : bytes ≡ own_bytes r = cc in (r, refl, same))
    by false is = absurd cc

-- as many as its row says
pub image_length : (block : ℕ) (o : Option Replica) (bytes : List ℕ) (row : Row) → Some bytes ≡ image_of block o → row_of o ≡ Some row → ((r : Replica) → o ≡ Some r → r.count ≤ length r.bytes) → length bytes ≡ row.count
image_length block o bytes row e is enough =
    let its = image_bytes block o bytes e in
    let same : row_of (Some its.0) ≡ Some row = sym (ap row_of its.1) ∙ is in
    let count : its.0.count ≡ row.count = cc in
    ap length its.2 ∙ length-take-le its.0.count its.0.bytes (enough its.0 its.1) ∙ count

-- Putting the bytes that were read under the other handle is the copy.
pub put_copies : (d : ServerDisk) (h copy : Handle) (version : Version) (bytes : List ℕ) → Some bytes ≡ image_at d h.0 → disk_changed d (Put copy version (record { 0 = 0 }) bytes) ≡ disk_changed d (Copy h copy version)
put_copies d h copy version bytes read =
    let its = image_bytes d.block (replica_of d h.0) bytes read in
    ap (λ (l : List ℕ). disk_changed d (Put copy version (record { 0 = 0 }) l)) its.2
    ∙ sym (ap (λ (o : Option Replica). replica_becomes (λ r. stored_replica d.chunk d.block version.0 0 (own_bytes r)) d copy.0 o) its.1)
