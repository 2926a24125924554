-- What a disk at rest says, with zeros in its redo area or without.
use Rattle.std.proofs.Common.{◌≡◌, ℕ, ◌≤◌, false, not, ◌==◌, List, length, replicate, sym, ap, ◌∙◌, subst, arith, if◌then◌else◌}
use Rattle.std.specs.FinMap as map
use Rattle.std.specs.List.{range_with_len}
use Rattle.std.proofs.lemmas.List.{length-replicate}
use Rattle.disk.specs.Bytes.{put_at}
use Rattle.disk_redo.specs.Moments.{KeepsAt, is_outside}
use Rattle.disk_redo.specs.Redo.{blanked, is_open, redo_in, redone, stands_for}
use Rattle.disk_redo.proofs.Places.{is_after, is_before, keeps_back, put_keeps}
use Rattle.replica_store.specs.Replicas.{ServerDisk, new_server_disk}
use Rattle.store_disk.specs.Index.{IndexState}
use Rattle.store_changes.specs.Areas.{area_of}
use Rattle.store_changes.proofs.Areas.{rest_size}
use Rattle.store_disk.specs.Formats.{IsFormatted}
use Rattle.store_disk.proofs.FormatSlots.{slot_before}
use Rattle.store_disk.specs.Fields.{order_in}
use Rattle.store_disk.specs.Places.{disk_size, redo_size}
use Rattle.chunk_store.specs.Opening.{IsFound}
use Rattle.chunk_store.specs.declared.found.FoundReplicas.{FoundReplicas}
use Rattle.store_disk.specs.Stored.{IsDiskOf, IsStored, is_used}
use Rattle.store_disk.proofs.Blank.{formatted_is_empty}
use Rattle.store_disk.proofs.Free.{filter_same}
use Rattle.store_disk.proofs.OpenHeads.{head_kept}
use Rattle.store_disk.proofs.Slots.{KeepsSlot, holds_same, range_same, used_same}

module _ (chunk block slots : ℕ) where
  -- what stands in the redo area says nothing of the replicas
  disk_kept : (index : IndexState) (disk new : List ℕ) (d : ServerDisk) → disk_size chunk block slots ≤ length disk → KeepsAt (is_outside 48 (redo_size chunk block)) disk new
      → IsDiskOf chunk block slots index disk d → IsDiskOf chunk block slots index new d
  disk_kept index disk new d fits keeps is =
      let n = redo_size chunk block in
      let room : 48 ≤ length disk = omega (arith, fits) in
      let kept : (slot : ℕ) → KeepsSlot chunk block (is_outside 48 n) slot = λ slot place le lt. is_after 48 n place (omega (arith, le)) in
      record {
        chunk_is = is.chunk_is;
        block_is = is.block_is;
        slots_is = is.slots_is;
        head = head_kept chunk block slots (is_outside 48 n) disk new keeps (λ place lt. is_before 48 n place (omega (arith, lt))) is.head;
        order_is = ap order_in (range_same (is_outside 48 n) disk new 32 16 keeps room (λ place le lt. is_before 48 n place lt)) ∙ is.order_is;
        held = λ handle r there.
            let h = is.held handle r there in
            let within = slot_before chunk block h.0.slot slots h.2.there in
            (h.0, h.1, record { there = h.2.there; row = h.2.row; holds = holds_same chunk block (is_outside 48 n) disk new h.0.slot keeps (omega (arith, within, fits)) (kept h.0.slot) handle r h.2.holds });
        no_other = is.no_other;
        apart = is.apart;
        each = λ slot lt used.
            let within = slot_before chunk block slot slots lt in
            is.each slot lt (sym (used_same chunk block (is_outside 48 n) disk new slot keeps (omega (arith, within, fits)) (kept slot)) ∙ used);
        free = is.free ∙ sym (filter_same (λ slot. not (is_used chunk block disk slot)) (λ slot. not (is_used chunk block new slot)) 0 slots (λ slot le lt.
            let within = slot_before chunk block slot slots (omega (arith, lt)) in
            ap not (used_same chunk block (is_outside 48 n) disk new slot keeps (omega (arith, within, fits)) (kept slot))));
      }

  zeroed : (c : List ℕ) → disk_size chunk block slots ≤ length c → KeepsAt (is_outside 48 (redo_size chunk block)) c (blanked (area_of chunk block) c)
  zeroed c fits =
      let n = redo_size chunk block in
      let zeros : List ℕ = replicate n 0 in
      let count : length zeros ≡ n = length-replicate {A = ℕ} n 0 in
      subst (λ (k : ℕ). KeepsAt (is_outside 48 k) c (put_at c 48 zeros)) count (put_keeps c zeros 48 (omega (arith, count, fits)))

  module _ (c : List ℕ) (fits : disk_size chunk block slots ≤ length c) (closed : is_open (area_of chunk block) c ≡ false) where
    rest_kept : KeepsAt (is_outside 48 (redo_size chunk block)) c (stands_for (area_of chunk block) c)
    rest_kept =
        let area = area_of chunk block in
        subst (λ (l : List ℕ). KeepsAt (is_outside 48 (redo_size chunk block)) c l)
        (sym (ap (λ b. if b then redone (redo_in area c) (blanked area c) else blanked area c) closed))
        (zeroed c fits)

    -- what is read of a disk at rest is what it stands for
    pub says_at_rest : (index : IndexState) (d : ServerDisk) → IsDiskOf chunk block slots index (stands_for (area_of chunk block) c) d → IsDiskOf chunk block slots index c d
    says_at_rest index d is =
        let there = stands_for (area_of chunk block) c in
        disk_kept index there c d (rest_size chunk block slots c fits closed) (keeps_back (is_outside 48 (redo_size chunk block)) c there rest_kept) is

    stands_at_rest : (index : IndexState) (d : ServerDisk) → IsDiskOf chunk block slots index c d → IsDiskOf chunk block slots index (stands_for (area_of chunk block) c) d
    stands_at_rest index d is = disk_kept index c (stands_for (area_of chunk block) c) d fits rest_kept is

    pub found_at_rest : (found : FoundReplicas) (d : ServerDisk) → IsFound chunk block slots found c d → IsFound chunk block slots found (stands_for (area_of chunk block) c) d
    found_at_rest found d is = record { says = stands_at_rest found.index d is.says; order = is.order }

  -- a disk that was formatted holds no replicas
  pub formatted_holds : (c : List ℕ) → IsFormatted chunk block slots c → IsStored chunk block slots (stands_for (area_of chunk block) c) (new_server_disk chunk block slots)
  formatted_holds c formed =
      let closed : is_open (area_of chunk block) c ≡ false = ap (λ (n : ℕ). n == 1) (formed.blank.order 48 (omega arith) (omega arith)) in
      let index : IndexState = record { held = map.empty; free = range_with_len 0 slots } in
      (index, stands_at_rest c formed.head.large closed index (new_server_disk chunk block slots) (formatted_is_empty chunk block slots c formed))
