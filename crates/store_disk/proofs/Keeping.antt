-- What a change before the slots keeps.
use Rattle.std.proofs.Common.{ℕ, ◌≤◌, not, List, [], length, sym, ap, ◌∙◌, arith}
use Rattle.std.proofs.lemmas.List.{append-nil}
use Rattle.disk.specs.Bytes.{put_at}
use Rattle.disk_redo.proofs.Ranges.{range_put}
use Rattle.gfs_types.specs.declared.ids.OrderNo.{OrderNo}
use Rattle.disk_redo.specs.Moments.{is_outside}
use Rattle.disk_redo.proofs.Places.{is_after, is_before, put_keeps}
use Rattle.replica_store.specs.declared.change.StoreChange.TheVariants.{SetOrder}
use Rattle.replica_store.specs.Replicas.{ServerDisk, disk_changed}
use Rattle.store_disk.specs.Index.{IndexState}
use Rattle.store_disk.proofs.FormatSlots.{slot_before, slots_behind}
use Rattle.store_disk.specs.Fields.{FitsOrder, order_bytes, order_in}
use Rattle.store_disk.proofs.Fields.{order_back}
use Rattle.store_disk.specs.Places.{disk_size}
use Rattle.store_disk.specs.Stored.{IsDiskOf, is_used}
use Rattle.store_disk.proofs.Free.{filter_same}
use Rattle.store_disk.proofs.OpenHeads.{head_kept}
use Rattle.store_disk.proofs.Slots.{KeepsSlot, holds_same, used_same}

pub order_stored : (chunk block slots : ℕ) (index : IndexState) (disk : List ℕ) (d : ServerDisk) (order : OrderNo) → FitsOrder order → disk_size chunk block slots ≤ length disk → IsDiskOf chunk block slots index disk d
    → IsDiskOf chunk block slots index (put_at disk 32 (order_bytes order)) (disk_changed d (SetOrder order))
order_stored chunk block slots index disk d order small fits is =
    let new = put_at disk 32 (order_bytes order) in
    let room : 48 ≤ length disk = omega (arith, fits, slots_behind chunk block slots) in
    let keeps = put_keeps disk (order_bytes order) 32 room in
    let kept : (slot : ℕ) → KeepsSlot chunk block (is_outside 32 16) slot = λ slot place le lt. is_after 32 16 place (omega (arith, le, slots_behind chunk block slot)) in
    record {
      chunk_is = is.chunk_is;
      block_is = is.block_is;
      slots_is = is.slots_is;
      head = head_kept chunk block slots (is_outside 32 16) disk new keeps (λ place lt. is_before 32 16 place lt) is.head;
      order_is = ap order_in (range_put disk (order_bytes order) 32 room) ∙ sym (ap order_in (append-nil (order_bytes order))) ∙ order_back order [] small;
      held = λ handle r there.
          let h = is.held handle r there in
          let within = slot_before chunk block h.0.slot slots h.2.there in
          (h.0, h.1, record { there = h.2.there; row = h.2.row; holds = holds_same chunk block (is_outside 32 16) disk new h.0.slot keeps (omega (arith, within, fits)) (kept h.0.slot) handle r h.2.holds });
      no_other = is.no_other;
      apart = is.apart;
      each = λ slot lt used.
          let within = slot_before chunk block slot slots lt in
          is.each slot lt (sym (used_same chunk block (is_outside 32 16) disk new slot keeps (omega (arith, within, fits)) (kept slot)) ∙ used);
      free = is.free ∙ sym (filter_same (λ slot. not (is_used chunk block disk slot)) (λ slot. not (is_used chunk block new slot)) 0 slots (λ slot le lt.
          let within = slot_before chunk block slot slots (omega (arith, lt)) in
          ap not (used_same chunk block (is_outside 32 16) disk new slot keeps (omega (arith, within, fits)) (kept slot))));
    }
