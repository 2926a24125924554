-- A mutation of a store.
use Rattle.std.proofs.Common.{◌≡◌, ◌⊎◌, ℕ, ◌+◌, ◌<◌, ◌≤◌, List, length, sym, ap, ◌∙◌, subst, arith, Some}
use Rattle.std.specs.Prelude.{◌↔◌}
use Rattle.std.specs.FinMap as map
use Rattle.gfs_types.specs.declared.ids.Handle.{Handle}
use Rattle.gfs_types.specs.declared.ids.Serial.{Serial}
use Rattle.gfs_types.specs.declared.ids.Version.{Version}
use Rattle.gfs_types.specs.declared.mutation.Mutation.{Mutation}
use Rattle.disk_redo.specs.Redo.{IsAtRest, StandsOnly}
use Rattle.replica_store.specs.declared.change.StoreChange.TheVariants.{Write}
use Rattle.replica_store.specs.declared.row.Row.{Row}
use Rattle.replica_store.specs.Replicas.{ServerDisk, disk_changed, is_writable_at, replica_of, row_at, written_replica}
use Rattle.store_disk.specs.Index.{IndexState}
use Rattle.store_disk.specs.declared.held.HeldReplica.{HeldReplica}
use Rattle.store_changes.specs.Areas.{area_of}
use Rattle.store_changes.specs.Changing.{LeavesEither, Says}
use Rattle.store_changes.proofs.Mutated.{change_same}
use Rattle.store_disk.specs.Stored.{IsStored}
use Rattle.store_changes.specs.Mutations.{bytes_of, change_of, place_of}
use Rattle.chunk_store.specs.Volumes.{IsOpen}
use Rattle.chunk_store.specs.declared.volume.StoreVolume.{StoreVolume}
use Rattle.store_disk.proofs.Looked.{one_row, order_of, order_stays}
use Rattle.chunk_store.proofs.StillOpen.{row_held, still_open}

module _ {D : Type 0} (seen : D → List ℕ) (may_leave : D → List ℕ → Type 0) (moment : D → ℕ) (left_since : D → ℕ → List ℕ → Type 0) (store : StoreVolume D) (disk : D) (index : IndexState) where
  -- what the store knows, with another disk and index
  abbrev then_store : StoreVolume D
  then_store = record { disk = disk; layout = store.layout; order = store.order; index = index; hashed = tt }

  -- nothing has changed
  pub refused_open : (d : ServerDisk) → IsOpen seen may_leave store d → index ≡ store.index → seen disk ≡ seen store.disk → IsAtRest seen may_leave (area_of store.layout.chunk store.layout.block) disk → IsOpen seen may_leave then_store d
  refused_open d is same read rest =
      let l = store.layout in
      still_open seen may_leave store d is disk index store.order d (ap length read) is.order rest
      (subst (λ (x : IndexState). Says l.chunk l.block l.slots x (seen disk) d) (sym same) (subst (λ (bytes : List ℕ). Says l.chunk l.block l.slots store.index bytes d) (sym read) is.says))

  module _ (h : Handle) (s : Serial) (m : Mutation) (place : ℕ) (bytes : List ℕ) (at : place ≡ place_of m) (is_bytes : bytes ≡ bytes_of m) where
    same : (d : ServerDisk) → disk_changed d (Write h s place bytes) ≡ disk_changed d (change_of h s m)
    same d =
        ap (λ (p : ℕ). disk_changed d (Write h s p bytes)) at ∙ ap (λ (b : List ℕ). disk_changed d (Write h s (place_of m) b)) is_bytes
        ∙ change_same h s m d

    -- the range is the mutation's
    pub writable_same : (d : ServerDisk) → is_writable_at d h.0 place (place + length bytes) ≡ is_writable_at d h.0 (place_of m) (place_of m + length (bytes_of m))
    writable_same d =
        ap (λ (p : ℕ). is_writable_at d h.0 p (p + length bytes)) at ∙ ap (λ (b : List ℕ). is_writable_at d h.0 (place_of m) (place_of m + length b)) is_bytes

    -- the mutation was made
    pub applied_open : (d : ServerDisk) → IsOpen seen may_leave store d → length (seen disk) ≡ length (seen store.disk) → IsAtRest seen may_leave (area_of store.layout.chunk store.layout.block) disk
        → Says store.layout.chunk store.layout.block store.layout.slots index (seen disk) (disk_changed d (Write h s place bytes)) → IsOpen seen may_leave then_store (disk_changed d (change_of h s m))
    applied_open d is size rest says =
        let l = store.layout in
        still_open seen may_leave store d is disk index store.order (disk_changed d (change_of h s m)) size (is.order ∙ order_stays (λ r. written_replica d.block r s.0 place bytes) d h.0 (replica_of d h.0) ∙ ap order_of (same d)) rest
        (subst (λ (e : ServerDisk). Says l.chunk l.block l.slots index (seen disk) e) (same d) says)

    pub leaves_same : LeavesEither seen moment left_since store.layout.chunk store.layout.block store.layout.slots store.disk disk store.index (Write h s place bytes)
        → LeavesEither seen moment left_since store.layout.chunk store.layout.block store.layout.slots store.disk disk store.index (change_of h s m)
    leaves_same written d says =
        let l = store.layout in
        subst (λ (e : ServerDisk). StandsOnly seen moment left_since (area_of l.chunk l.block) store.disk disk (λ bs. IsStored l.chunk l.block l.slots bs d ⊎ IsStored l.chunk l.block l.slots bs e)) (same d) (written d says)

-- the serial is a new one
pub serial_there : {D : Type 0} (seen : D → List ℕ) (may_leave : D → List ℕ → Type 0) (store : StoreVolume D) (d : ServerDisk) → IsOpen seen may_leave store d → {E : Type 0} (h : ℕ) (found : HeldReplica) (version : Version) (serial : ℕ)
    → map.get store.index.held h ≡ Some found → found.row.serial.0 < serial → (E → ⊥) → E ↔ (row : Row) × (row_at d h ≡ Some row) × (row.version ≡ version) × (serial ≤ row.serial.0)
serial_there seen may_leave store d is h found version serial there new other =
    (λ e. absurd (other e), λ p. (let one = ap (λ (r : Row). r.serial.0) (one_row (row_at d h) p.0 found.row p.1 (row_held seen may_leave store d is h found there)) in absurd (omega (arith, one, p.3, new))))
