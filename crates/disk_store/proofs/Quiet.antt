-- A store that was opened, and one whose disk is told when to stop.
use Rattle.std.proofs.Common.{◌≡◌, ℕ, List, [], ◌∷◌, length, refl, sym, ap, ◌∙◌, subst}
use Rattle.disk.specs.Device.{NoMore}
use Rattle.gfs_types.specs.declared.ids.OrderNo.{OrderNo}
use Rattle.disk_redo.specs.Redo.{is_open, stands_for}
use Rattle.replica_store.specs.Replicas.{ServerDisk, disk_changed}
use Rattle.store_changes.specs.Areas.{area_of}
use Rattle.store_changes.specs.Changing.{Says}
use Rattle.chunk_store.specs.Stores.{IsOpen, StoreState}
use Rattle.chunk_store.proofs.States.{still_open}
use Rattle.disk_store.specs.Known.{IsKnownOf, Rows}
use Rattle.disk_store.specs.Standing.{IsKept, Leaves, before_or, disk_said}
use Rattle.disk_store.specs.Views.{disk_in, disk_of}
use Rattle.disk_store.specs.declared.standing.DiskStoreState.{DiskStoreState}
use Rattle.disk_store.specs.declared.standing.DiskStoreState.TheVariants.{Open, Unread, Changing}
use Rattle.disk_store.proofs.Keeping.{in_layout}

module _ {D : Type 0} (seen : D → List ℕ) (may_leave : D → List ℕ → Type 0) (store : StoreState D) (order : OrderNo) (rows : Rows) (d : ServerDisk) (disk : D) (same : seen disk ≡ seen store.disk) (less : NoMore (may_leave store.disk) (may_leave disk)) where
  quiet_leaves : (e f : ServerDisk) → Leaves may_leave store e f → Leaves may_leave (record store { disk = disk }) e f
  quiet_leaves e f leaves c left = leaves c (less c left)

  quiet_open : IsOpen seen may_leave store d → IsOpen seen may_leave (record store { disk = disk }) d
  quiet_open is =
      let l = store.layout in
      still_open seen may_leave store d is disk store.index store.order d (ap length same) is.order (record {
        closed = ap (is_open (area_of l.chunk l.block)) same ∙ is.rest.closed;
        durable = λ c left. is.rest.durable c (less c left) ∙ sym same;
      }) (subst (λ (bytes : List ℕ). Says l.chunk l.block l.slots store.index bytes d) (sym same) is.says)

  -- the disk was told when to stop
  pub quiet_kept : (standing : DiskStoreState) → IsKept seen may_leave store order rows d standing → IsKept seen may_leave (record store { disk = disk }) order rows d standing
  quiet_kept Open kept = in_layout seen may_leave store order rows d Open Open (record store { disk = disk }) refl kept (quiet_open kept.stands)
  quiet_kept (Unread change) kept = in_layout seen may_leave store order rows d (Unread change) (Unread change) (record store { disk = disk }) refl kept (quiet_leaves d d kept.stands)
  quiet_kept (Changing change) kept = in_layout seen may_leave store order rows d (Changing change) (Changing change) (record store { disk = disk }) refl kept (quiet_leaves d (disk_changed d change) kept.stands)

  -- and says what it said
  quiet_of : disk_of seen (record store { disk = disk }) ≡ disk_of seen store
  quiet_of = ap (λ (bytes : List ℕ). disk_in store.layout store.order store.index (stands_for (area_of store.layout.chunk store.layout.block) bytes)) same

  quiet_before : (before : List (StoreState D)) → disk_of seen (before_or (record store { disk = disk }) before) ≡ disk_of seen (before_or store before)
  quiet_before [] = quiet_of
  quiet_before (x ∷ rest) = refl

  pub quiet_said : (before : List (StoreState D)) (standing : DiskStoreState) → disk_said seen (record store { disk = disk }) before standing ≡ disk_said seen store before standing
  quiet_said before Open = quiet_of
  quiet_said before (Unread change) = quiet_before before
  quiet_said before (Changing change) = quiet_before before

-- a store that was opened
pub opened_kept : {D : Type 0} (seen : D → List ℕ) (may_leave : D → List ℕ → Type 0) (store : StoreState D) (order : OrderNo) (rows : Rows) (d : ServerDisk) → IsKnownOf order rows d → IsOpen seen may_leave store d → IsKept seen may_leave store order rows d Open
opened_kept seen may_leave store order rows d known is = record {
  chunk_is = is.says.chunk_is;
  block_is = is.says.block_is;
  slots_is = is.says.slots_is;
  whole = is.whole;
  known = known;
  stands = is;
}
