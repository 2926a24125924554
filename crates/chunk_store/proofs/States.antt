-- A store as its callers see it, over its volume.
use Rattle.std.proofs.Common.{◌≡◌, ℕ, ◌<◌, ◌≤◌, ◌%◌, Bool, true, List, length, refl, sym, ap, ◌∙◌, subst, None, Some, Result, Ok, Err}
use Rattle.std.specs.Prelude.{OnOk}
use Rattle.std.specs.FinMap as map
use Rattle.disk.specs.Device.{NoMore}
use Rattle.disk_redo.specs.GateMoments.{OnlyReads}
use Rattle.disk_redo.specs.Redo.{IsAtRest, is_open as is_open_gate}
use Rattle.gfs_types.specs.declared.ids.OrderNo.{OrderNo}
use Rattle.replica_store.specs.declared.change.StoreChange.{StoreChange}
use Rattle.replica_store.specs.Replicas.{Replica, ServerDisk, is_writable_at, replica_of, row_at}
use Rattle.store_disk.specs.Index.{IndexState}
use Rattle.store_disk.specs.Stored.{Holds}
use Rattle.store_disk.specs.declared.held.HeldReplica.{HeldReplica}
use Rattle.store_disk.proofs.Looked.{order_of}
use Rattle.store_changes.specs.Changing.{Says}
use Rattle.store_disk.specs.declared.places.Layout.{Layout}
use Rattle.store_changes.specs.Areas.{area_of}
use Rattle.store_changes.specs.Faults.{IsRefused}
use Rattle.store_changes.specs.declared.fault.StoreFault.{StoreFault}
use Rattle.chunk_store.specs.Faults.{stays_open}
use Rattle.chunk_store.specs.Stores.{IsOpen, LeavesChange, StoreState}
use Rattle.chunk_store.specs.Volumes.{IsOpen as IsVolumeOpen, IsReady, IsSound, store_of, volume_of}
use Rattle.chunk_store.proofs.Ready.{ready_after}
use Rattle.chunk_store.proofs.Looked.{its_slot as volume_its_slot, none_writable as volume_none_writable}
use Rattle.chunk_store.proofs.StillOpen.{enough_bytes as volume_enough_bytes, leaves_all as volume_leaves_all, none_held as volume_none_held, read_open as volume_read_open, row_held as volume_row_held, still_open as volume_still_open}
use Rattle.chunk_store.specs.declared.volume.StoreVolume.{StoreVolume}

module _ {D : Type 0} (seen : D → List ℕ) (may_leave : D → List ℕ → Type 0) where
  -- what an open store says its volume says
  pub volume_open : (store : StoreState D) (d : ServerDisk) → IsOpen seen may_leave store d → IsVolumeOpen seen may_leave (volume_of store) d
  volume_open store d is = record { says = is.says; order = is.order; large = is.large; whole = is.whole; rest = is.rest }

  pub as_store : (volume : StoreVolume D) (is_open : Bool) (d : ServerDisk) → is_open ≡ true → IsVolumeOpen seen may_leave volume d → IsOpen seen may_leave (store_of volume is_open) d
  as_store volume is_open d opened is = record { is_open = opened; says = is.says; order = is.order; large = is.large; whole = is.whole; rest = is.rest }

  module _ (volume : StoreVolume D) (is_open : Bool) (store : StoreState D) (view : store_of volume is_open ≡ store) where
    pub was_open : store.is_open ≡ true → is_open ≡ true
    was_open opened = subst (λ (s : StoreState D). s.is_open ≡ true) (sym view) opened

    pub as_volume : (d : ServerDisk) → IsOpen seen may_leave store d → IsVolumeOpen seen may_leave volume d
    as_volume d is = volume_open (store_of volume is_open) d (subst (λ (s : StoreState D). IsOpen seen may_leave s d) (sym view) is)

    pub is_ready : IsSound seen may_leave volume is_open → store.is_open ≡ true → IsReady seen may_leave volume
    is_ready sound opened = sound.ready (was_open opened)

    -- the disk was read
    pub read_open : (new : StoreVolume D) (d : ServerDisk) → IsOpen seen may_leave store d → IsVolumeOpen seen may_leave new d → IsOpen seen may_leave (store_of new is_open) d
    read_open new d is now = as_store new is_open d (was_open is.is_open) now

    pub read_unchanged : (new : StoreVolume D) → new ≡ record volume { disk = new.disk } → store_of new is_open ≡ record store { disk = new.disk }
    read_unchanged new same = ap (λ (v : StoreVolume D). store_of v is_open) same ∙ ap (λ (s : StoreState D). record s { disk = new.disk }) view

  pub still_whole : (old new : StoreVolume D) → new.layout ≡ old.layout → old.layout.chunk % old.layout.block ≡ 0 → new.layout.chunk % new.layout.block ≡ 0
  still_whole old new same whole = subst (λ (l : Layout). l.chunk % l.block ≡ 0) (sym same) whole

  pub read_sound : (old new : StoreVolume D) (is_open : Bool) → new ≡ record old { disk = new.disk } → (is_open ≡ true → IsReady seen may_leave new)
      → IsSound seen may_leave old is_open → IsSound seen may_leave new is_open
  read_sound old new is_open same ready sound = record { whole = still_whole old new (ap (λ (v : StoreVolume D). v.layout) same) sound.whole; ready = ready }

  -- the disk was told when to stop
  pub quiet_sound : (old new : StoreVolume D) (is_open : Bool) → new ≡ record old { disk = new.disk } → seen new.disk ≡ seen old.disk → NoMore (may_leave old.disk) (may_leave new.disk)
      → IsSound seen may_leave old is_open → IsSound seen may_leave new is_open
  quiet_sound old new is_open same seen_same less sound = read_sound old new is_open same (λ opened. subst (IsReady seen may_leave) (sym same) (quiet (sound.ready opened))) sound
    where
      quiet : IsReady seen may_leave old → IsReady seen may_leave (record old { disk = new.disk })
      quiet ready = ready_after seen may_leave old ready new.disk old.index old.order (ap length seen_same) (record {
        closed = ap (is_open_gate (area_of old.layout.chunk old.layout.block)) seen_same ∙ ready.rest.closed;
        durable = λ c left. ready.rest.durable c (less c left) ∙ sym seen_same;
      })

  -- a change was made, refused, or failed
  module _ {T : Type 0} (new : StoreVolume D) (is_open : Bool) where
    pub changed_sound : (old : StoreVolume D) (result : Result T StoreFault) → is_open ≡ stays_open result → new.layout ≡ old.layout → OnOk result (IsReady seen may_leave new)
        → (IsRefused result → IsReady seen may_leave new) → old.layout.chunk % old.layout.block ≡ 0 → IsSound seen may_leave new is_open
    changed_sound old (Ok value) is same done kept whole = record { whole = still_whole old new same whole; ready = λ _. done }
    changed_sound old (Err fault) is same done kept whole = record { whole = still_whole old new same whole; ready = λ opened. kept (sym is ∙ opened) }

    pub made_open : (result : Result T StoreFault) (d : ServerDisk) → is_open ≡ stays_open result → OnOk result (IsVolumeOpen seen may_leave new d)
        → OnOk result (IsOpen seen may_leave (store_of new is_open) d)
    made_open (Ok value) d is done = as_store new is_open d is done
    made_open (Err fault) d is done = tt

    pub refused_open : (result : Result T StoreFault) (d : ServerDisk) → is_open ≡ stays_open result → (IsRefused result → IsVolumeOpen seen may_leave new d)
        → IsRefused result → IsOpen seen may_leave (store_of new is_open) d
    refused_open (Ok value) d is kept refused = absurd refused
    refused_open (Err fault) d is kept refused = as_store new is_open d (is ∙ refused) (kept refused)

-- what is known of a store that says something
module _ {D : Type 0} (seen : D → List ℕ) (may_leave : D → List ℕ → Type 0) (store : StoreState D) (d : ServerDisk) (is : IsOpen seen may_leave store d) where
  volume : IsVolumeOpen seen may_leave (volume_of store) d
  volume = volume_open seen may_leave store d is

  pub row_held : (h : ℕ) (found : HeldReplica) → map.get store.index.held h ≡ Some found → row_at d h ≡ Some found.row
  row_held = volume_row_held seen may_leave (volume_of store) d volume

  pub enough_bytes : (h : ℕ) (r : Replica) → replica_of d h ≡ Some r → r.count ≤ length r.bytes
  enough_bytes = volume_enough_bytes seen may_leave (volume_of store) d volume

  pub none_held : (h : ℕ) → map.get store.index.held h ≡ None → row_at d h ≡ None
  none_held = volume_none_held seen may_leave (volume_of store) d volume

  pub none_writable : (h offset end_place : ℕ) → map.get store.index.held h ≡ None → true ≡ is_writable_at d h offset end_place
  none_writable h = volume_none_writable seen may_leave (volume_of store) d volume h

  pub its_slot : (h : ℕ) (found : HeldReplica) → map.get store.index.held h ≡ Some found
      → (r : Replica) × (replica_of d h ≡ Some r) × (found.slot < store.layout.slots) × Holds store.layout.chunk store.layout.block (seen store.disk) found.slot h r
  its_slot h found there = volume_its_slot seen may_leave (volume_of store) d volume h found there

  pub still_open : (disk : D) (index : IndexState) (order : OrderNo) (after : ServerDisk) → length (seen disk) ≡ length (seen store.disk) → order ≡ order_of after
      → IsAtRest seen may_leave (area_of store.layout.chunk store.layout.block) disk → Says store.layout.chunk store.layout.block store.layout.slots index (seen disk) after
      → IsOpen seen may_leave (record { disk = disk; layout = store.layout; order = order; index = index; is_open = store.is_open }) after
  still_open disk index order after size ordered rest says =
      as_store seen may_leave (record { disk = disk; layout = store.layout; order = order; index = index; hashed = tt }) store.is_open after is.is_open
      (volume_still_open seen may_leave (volume_of store) d volume disk index order after size ordered rest says)

  module _ (moment : D → ℕ) (left_since : D → ℕ → List ℕ → Type 0) where
    pub leaves_all : ((c : List ℕ) → left_since store.disk (moment store.disk) c → may_leave store.disk c) → (change : StoreChange) → LeavesChange seen moment left_since store store change
    leaves_all only_now change = volume_leaves_all seen may_leave (volume_of store) d volume moment left_since only_now change

    pub looked_open : (disk : D) → OnlyReads seen may_leave moment left_since store.disk disk
        → IsOpen seen may_leave (record { disk = disk; layout = store.layout; order = store.order; index = store.index; is_open = store.is_open }) d
    looked_open disk reads =
        as_store seen may_leave (record { disk = disk; layout = store.layout; order = store.order; index = store.index; hashed = tt }) store.is_open d is.is_open
        (volume_read_open seen may_leave (volume_of store) d volume moment left_since disk reads)
