-- A slot of a disk at rest.
use Rattle.std.proofs.Common.{◌≡◌, ℕ, ◌<◌, ◌≤◌, false, if◌then◌else◌, List, length, replicate, sym, ap, subst, arith}
use Rattle.std.proofs.lemmas.List.{length-replicate}
use Rattle.disk.specs.Bytes.{put_at}
use Rattle.disk_redo.specs.Moments.{KeepsAt, is_outside}
use Rattle.disk_redo.specs.Redo.{blanked, is_open, redo_in, redone, stands_for}
use Rattle.disk_redo.proofs.Places.{is_after, keeps_back, put_keeps}
use Rattle.replica_store.specs.Replicas.{Replica}
use Rattle.store_changes.specs.Areas.{area_of}
use Rattle.store_changes.proofs.Areas.{rest_size}
use Rattle.store_disk.proofs.FormatSlots.{slot_before}
use Rattle.store_disk.specs.Places.{disk_size, redo_size}
use Rattle.store_disk.specs.Stored.{Holds}
use Rattle.store_disk.proofs.Slots.{KeepsSlot, holds_same}

module _ (chunk block slots : ℕ) (c : List ℕ) (fits : disk_size chunk block slots ≤ length c) (closed : is_open (area_of chunk block) c ≡ false) where
  rest_kept : KeepsAt (is_outside 48 (redo_size chunk block)) c (stands_for (area_of chunk block) c)
  rest_kept =
      let area = area_of chunk block in
      let n = redo_size chunk block in
      let zeros : List ℕ = replicate n 0 in
      let count : length zeros ≡ n = length-replicate {A = ℕ} n 0 in
      let zeroed : KeepsAt (is_outside 48 n) c (blanked area c) = subst (λ (k : ℕ). KeepsAt (is_outside 48 k) c (put_at c 48 zeros)) count (put_keeps c zeros 48 (omega (arith, count, fits))) in
      subst (λ (l : List ℕ). KeepsAt (is_outside 48 n) c l) (sym (ap (λ b. if b then redone (redo_in area c) (blanked area c) else blanked area c) closed)) zeroed

  -- what is read of a slot is what it stands for
  pub holds_at_rest : (slot handle : ℕ) (r : Replica) → slot < slots → Holds chunk block (stands_for (area_of chunk block) c) slot handle r → Holds chunk block c slot handle r
  holds_at_rest slot handle r lt h =
      let n = redo_size chunk block in
      let there = stands_for (area_of chunk block) c in
      let before = slot_before chunk block slot slots lt in
      let rested = rest_size chunk block slots c fits closed in
      let kept : KeepsSlot chunk block (is_outside 48 n) slot = λ place le low. is_after 48 n place (omega (arith, le)) in
      holds_same chunk block (is_outside 48 n) there c slot (keeps_back (is_outside 48 n) c there rest_kept) (omega (arith, before, rested)) kept handle r h
