-- Where the replicas lie, and which slots are free.
use Rattle.std.specs.Prelude.{ℕ, List, [], ◌∷◌, Option, None, Some}
use Rattle.std.specs.BTreeSet.{insert_key}
use Rattle.std.specs.FinMap as map
use Rattle.std.specs.Ordering.{nat_cmp}
use Rattle.gfs_types.specs.declared.ids.Handle.{Handle}
use Rattle.replica_store.specs.declared.row.Row.{Row}
use Rattle.store_disk.specs.declared.held.HeldReplica.{HeldReplica}

-- what is known of each replica, by handle, and the free slots, the lowest first
pub record IndexState : Type 0 where
  pub held : map.FinMap nat_cmp HeldReplica
  pub free : List ℕ

-- with a new replica in the first of the free slots, where there is one
abbrev pub index_with : IndexState → ℕ → Row → List ℕ → IndexState
index_with x handle row [] = x
index_with x handle row (slot ∷ rest) = record { held = map.insert x.held handle (record { slot = slot; row = row }); free = rest }

-- without the replica of a handle, whose slot is free again
abbrev pub index_without : IndexState → ℕ → Option HeldReplica → IndexState
index_without x handle None = x
index_without x handle (Some found) = record { held = map.remove x.held handle; free = insert_key nat_cmp x.free found.slot }

-- a replica that is listed
abbrev pub row_in : ℕ × HeldReplica → Handle × Row
row_in e = (record { 0 = e.0 }, e.1.row)
