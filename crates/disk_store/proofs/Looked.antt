-- What the blocks that were read tell.
use Rattle.std.proofs.Common.{◌≡◌, ℕ, true, false, List, refl, sym, ap, ◌∙◌, Option, None, Some}
use Rattle.std.specs.Prelude.{is_some}
use Rattle.replica_store.specs.Replicas.{Replica, ServerDisk, copyable_in, is_copyable_at, is_readable, read_at, read_from, replica_of, row_at, row_of}
use Rattle.store_changes.specs.Images.{image_at, image_of}
use Rattle.chunk_store.proofs.Looked.{some_if}

copy_told : (block : ℕ) (o : Option Replica) → copyable_in block o ≡ is_some (image_of block o)
copy_told block None = refl
copy_told block (Some r) = sym (some_if (is_readable block r 0 r.count) _)

pub image_there : (d : ServerDisk) (h : ℕ) (bytes : List ℕ) → Some bytes ≡ image_at d h → true ≡ is_copyable_at d h
image_there d h bytes e = ap is_some e ∙ sym (copy_told d.block (replica_of d h))

pub image_lacks : (d : ServerDisk) (h : ℕ) → image_at d h ≡ None → false ≡ is_copyable_at d h
image_lacks d h e = sym (copy_told d.block (replica_of d h) ∙ ap is_some e)

-- nothing is read of a replica that isn't there
copy_lacks : (block : ℕ) (o : Option Replica) → row_of o ≡ None → false ≡ copyable_in block o
copy_lacks block None e = refl
copy_lacks block (Some r) e = absurd cc

pub none_copyable : (d : ServerDisk) (h : ℕ) → row_at d h ≡ None → false ≡ is_copyable_at d h
none_copyable d h e = copy_lacks d.block (replica_of d h) e

read_lacks : (block offset count : ℕ) (o : Option Replica) → row_of o ≡ None → None ≡ read_from block offset count o
read_lacks block offset count None e = refl
read_lacks block offset count (Some r) e = absurd cc

pub none_readable : (d : ServerDisk) (h offset count : ℕ) → row_at d h ≡ None → None ≡ read_at d h offset count
none_readable d h offset count e = read_lacks d.block offset count (replica_of d h) e
