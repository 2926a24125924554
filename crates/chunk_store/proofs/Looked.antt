-- What the blocks of a range tell.
use Rattle.std.proofs.Common.{◌≡◌, ℕ, ◌-◌, ◌/◌, ◌%◌, ◌≤◌, ◌<◌, Bool, true, false, ◌&&◌, ◌||◌, ◌==◌, if◌then◌else◌, List, refl, sym, ap, ◌∙◌, arith, Option, None, Some}
use Rattle.std.specs.Prelude.{is_some, nat_le}
use Rattle.std.specs.FinMap as map
use Rattle.std.proofs.lemmas.Bool.Decides.{nat_tests}
use Rattle.disk_redo.specs.Redo.{stands_for}
use Rattle.replica_store.specs.Replicas.{Replica, ServerDisk, block_matches, is_writable, is_writable_at, replica_of, writable_in}
use Rattle.store_disk.specs.declared.held.HeldReplica.{HeldReplica}
use Rattle.store_changes.specs.Areas.{area_of}
use Rattle.store_changes.specs.Edging.{checked_edges, edges_around}
use Rattle.store_changes.specs.declared.edges.Edges.{Edges}
use Rattle.store_changes.proofs.Rested.{holds_at_rest}
use Rattle.store_changes.proofs.Planning.{writable_at}
use Rattle.store_disk.proofs.Replicas.{its_replica, no_replica}
use Rattle.store_disk.specs.Stored.{Holds}
use Rattle.chunk_store.specs.Volumes.{IsOpen}
use Rattle.chunk_store.specs.declared.volume.StoreVolume.{StoreVolume}

pub some_if : {X : Type 0} (b : Bool) (x : X) → is_some (if b then Some x else None) ≡ b
some_if true x = refl
some_if false x = refl

none_over : (block offset end_place : ℕ) (o : Option Replica) → end_place ≤ offset → true ≡ writable_in block offset end_place o
none_over block offset end_place None le = refl
none_over block offset end_place (Some r) le = sym (ap (λ b. b || (((offset % block) == 0) && ((end_place % block) == 0)) || (block_matches block r (offset / block) && block_matches block r ((end_place - 1) / block))) (tested le))
  where
    tested : end_place ≤ offset → nat_le end_place offset ≡ true
    tested le = grind (arith, nat_tests, le)

pub nothing_over : (d : ServerDisk) (h offset end_place : ℕ) → end_place ≤ offset → true ≡ is_writable_at d h offset end_place
nothing_over d h offset end_place = none_over d.block offset end_place (replica_of d h)

module _ {D : Type 0} (seen : D → List ℕ) (may_leave : D → List ℕ → Type 0) (store : StoreVolume D) (d : ServerDisk) (is : IsOpen seen may_leave store d) (h : ℕ) where
  pub none_writable : (offset end_place : ℕ) → map.get store.index.held h ≡ None → true ≡ is_writable_at d h offset end_place
  none_writable offset end_place none =
      let l = store.layout in
      sym (ap (writable_in d.block offset end_place) (no_replica l.chunk l.block l.slots store.index (stands_for (area_of l.chunk l.block) (seen store.disk)) d is.says h none))

  module _ (found : HeldReplica) (there : map.get store.index.held h ≡ Some found) where
    -- the replica, as it is read
    pub its_slot : (r : Replica) × (replica_of d h ≡ Some r) × (found.slot < store.layout.slots) × Holds store.layout.chunk store.layout.block (seen store.disk) found.slot h r
    its_slot =
        let l = store.layout in
        let its = its_replica l.chunk l.block l.slots store.index (stands_for (area_of l.chunk l.block) (seen store.disk)) d is.says h found there in
        (its.0, its.1, its.2.there, holds_at_rest l.chunk l.block l.slots (seen store.disk) is.large is.rest.closed found.slot h its.0 its.2.there its.2.holds)

    pub edges_tell : (offset end_place : ℕ) (o : Option Edges) → ((handle : ℕ) (r : Replica) → Holds store.layout.chunk store.layout.block (seen store.disk) found.slot handle r → o ≡ checked_edges store.layout.block r offset end_place)
        → is_some o ≡ is_writable_at d h offset end_place
    edges_tell offset end_place o edges =
        let l = store.layout in
        let its = its_slot in
        ap is_some (edges h its.0 its.3) ∙ some_if (is_writable l.block its.0 offset end_place) (edges_around l.block its.0 offset end_place)
        ∙ sym (writable_at d l.block h its.0 offset end_place its.1 is.says.block_is)
