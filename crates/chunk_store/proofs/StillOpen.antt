-- A store that is open, before a change and after it.
use Rattle.std.proofs.Common.{◌≡◌, ◌≢◌, ℕ, ◌<◌, ◌≤◌, true, List, [], ◌∷◌, drop, length, slice_get, sym, ap, ◌∙◌, subst, arith, None, Some}
use Rattle.std.specs.Prelude.{◌↔◌}
use Rattle.std.specs.FinMap as map
use Rattle.disk_redo.specs.GateMoments.{OnlyReads}
use Rattle.gfs_types.specs.declared.ids.OrderNo.{OrderNo}
use Rattle.gfs_types.specs.declared.ids.Version.{Version}
use Rattle.disk_redo.specs.Redo.{IsAtRest, is_open, stands_for}
use Rattle.replica_store.specs.declared.change.StoreChange.{StoreChange}
use Rattle.replica_store.specs.declared.row.Row.{Row}
use Rattle.replica_store.specs.Replicas.{Replica, ServerDisk, is_disk_full, replica_of, row_at}
use Rattle.store_disk.specs.Index.{IndexState}
use Rattle.store_disk.specs.declared.held.HeldReplica.{HeldReplica}
use Rattle.store_changes.specs.Areas.{area_of}
use Rattle.store_changes.specs.Changing.{Says}
use Rattle.store_changes.proofs.Areas.{rest_size}
use Rattle.store_changes.proofs.Made.{nothing_made}
use Rattle.store_disk.specs.Places.{disk_size}
use Rattle.store_disk.proofs.Changing.{within}
use Rattle.store_disk.proofs.Looked.{first_free, no_row, one_row, order_of}
use Rattle.store_disk.proofs.Counted.{full_known}
use Rattle.store_disk.proofs.Listed.{row_found, row_known}
use Rattle.store_disk.proofs.FormatSlots.{slot_before}
use Rattle.store_disk.proofs.Replicas.{its_replica}
use Rattle.store_disk.proofs.Slots.{bytes_long}
use Rattle.chunk_store.specs.Volumes.{IsOpen, LeavesChange}
use Rattle.chunk_store.specs.declared.volume.StoreVolume.{StoreVolume}

module _ {D : Type 0} (seen : D → List ℕ) (may_leave : D → List ℕ → Type 0) (store : StoreVolume D) (d : ServerDisk) (is : IsOpen seen may_leave store d) where
  abbrev stands : List ℕ
  stands = stands_for (area_of store.layout.chunk store.layout.block) (seen store.disk)

  -- what is known of a replica is its row
  pub its_row : (h : ℕ) → row_at d h ≡ row_found (map.get store.index.held h)
  its_row h = row_known store.layout.chunk store.layout.block store.layout.slots store.index stands d is.says h

  pub row_held : (h : ℕ) (found : HeldReplica) → map.get store.index.held h ≡ Some found → row_at d h ≡ Some found.row
  row_held h found there = its_row h ∙ ap row_found there

  pub none_held : (h : ℕ) → map.get store.index.held h ≡ None → row_at d h ≡ None
  none_held h none = its_row h ∙ ap row_found none

  -- a replica that was found isn't refused as one that isn't there
  pub chunk_there : {E : Type 0} (h : ℕ) (found : HeldReplica) → map.get store.index.held h ≡ Some found → (E → ⊥) → E ↔ row_at d h ≡ None
  chunk_there h found there other = (λ e. absurd (other e), λ none. absurd (no_row (row_at d h) found.row none (row_held h found there)))

  -- nor as one of another version
  pub version_there : {E : Type 0} (h : ℕ) (found : HeldReplica) (version : Version) → map.get store.index.held h ≡ Some found → found.row.version ≡ version → (E → ⊥) → E ↔ (row : Row) × (row_at d h ≡ Some row) × (row.version ≢ version)
  version_there h found version there wanted other =
      (λ e. absurd (other e), λ p. absurd (p.2 (ap (λ (r : Row). r.version) (one_row (row_at d h) p.0 found.row p.1 (row_held h found there)) ∙ wanted)))

  -- what is known of a replica lies within the disk
  pub held_within : (h : ℕ) (found : HeldReplica) → map.get store.index.held h ≡ Some found → (found.slot < store.layout.slots) × (found.row.count ≤ store.layout.chunk)
  held_within h found there =
      let its = its_replica store.layout.chunk store.layout.block store.layout.slots store.index stands d is.says h found there in
      let same : its.0.count ≡ found.row.count = (let e = its.2.row in cc) in
      (its.2.there, omega (arith, its.2.holds.fits, same))

  -- a replica has no more bytes than its chunk
  pub enough_bytes : (h : ℕ) (r : Replica) → replica_of d h ≡ Some r → r.count ≤ length r.bytes
  enough_bytes h r own =
      let l = store.layout in
      let k = is.says.held h r own in
      let before = slot_before l.chunk l.block k.0.slot l.slots k.2.there in
      let rested = rest_size l.chunk l.block l.slots (seen store.disk) is.large is.rest.closed in
      let long = bytes_long l.chunk l.block stands k.0.slot h r (omega (arith, before, rested)) k.2.holds in
      omega (arith, long, k.2.holds.fits)

  -- a free slot is one of the slots
  pub free_within : (h slot : ℕ) → map.get store.index.held h ≡ None → slice_get store.index.free 0 ≡ Some slot → slot < store.layout.slots
  free_within h slot none first =
      let l = store.layout in
      within l.chunk l.block l.slots store.index stands d is.says h stands (rest_size l.chunk l.block l.slots (seen store.disk) is.large is.rest.closed) slot (drop 1 store.index.free) none (first_free store.index.free slot first)

  -- no slot is free just where every slot is used
  pub full_open : store.index.free ≡ [] ↔ is_disk_full store.layout.slots d ≡ true
  full_open = full_known store.layout.chunk store.layout.block store.layout.slots store.index stands d is.says

  -- where a slot is free, want of room isn't answered
  pub room_there : {E : Type 0} (h slot : ℕ) → slice_get store.index.free 0 ≡ Some slot → (E → ⊥) → E ↔ (row_at d h ≡ None) × (is_disk_full store.layout.slots d ≡ true)
  room_there h slot first other = (λ e. absurd (other e), λ p. (let f : [] ≡ slot ∷ drop 1 store.index.free = sym (full_open.1 p.1) ∙ first_free store.index.free slot first in absurd cc))

  -- a change was made
  pub still_open : (disk : D) (index : IndexState) (order : OrderNo) (after : ServerDisk) → length (seen disk) ≡ length (seen store.disk) → order ≡ order_of after → IsAtRest seen may_leave (area_of store.layout.chunk store.layout.block) disk
      → Says store.layout.chunk store.layout.block store.layout.slots index (seen disk) after → IsOpen seen may_leave (record { disk = disk; layout = store.layout; order = order; index = index; hashed = tt }) after
  still_open disk index order after size ordered rest says = record {
    says = says;
    order = ordered;
    large = subst (λ (n : ℕ). disk_size store.layout.chunk store.layout.block store.layout.slots ≤ n) (sym size) is.large;
    whole = is.whole;
    rest = rest;
  }

  module _ (moment : D → ℕ) (left_since : D → ℕ → List ℕ → Type 0) where
    -- no call of the disk was made
    pub leaves_all : ((c : List ℕ) → left_since store.disk (moment store.disk) c → may_leave store.disk c) → (change : StoreChange) → LeavesChange seen moment left_since store store change
    leaves_all only_now change = nothing_made seen may_leave moment left_since store.layout.chunk store.layout.block store.layout.slots store.index change store.disk is.rest.durable only_now

    -- the disk was read
    pub read_open : (disk : D) → OnlyReads seen may_leave moment left_since store.disk disk → IsOpen seen may_leave (record { disk = disk; layout = store.layout; order = store.order; index = store.index; hashed = tt }) d
    read_open disk reads =
        let l = store.layout in
        still_open disk store.index store.order d (ap length reads.seen_same) is.order (record {
          closed = ap (is_open (area_of l.chunk l.block)) reads.seen_same ∙ is.rest.closed;
          durable = λ c left. is.rest.durable c (reads.crash c left) ∙ sym reads.seen_same;
        }) (subst (λ (bytes : List ℕ). Says l.chunk l.block l.slots store.index bytes d) (sym reads.seen_same) is.says)
