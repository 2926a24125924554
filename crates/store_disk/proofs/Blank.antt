-- A disk without replicas.
use Rattle.std.proofs.Common.{false, true, ◌≡◌, ℕ, ◌+◌, ◌<◌, ◌≤◌, not, ◌==◌, List, length, replicate, refl, sym, ap, ◌∙◌, arith, None, Some}
use Rattle.std.specs.FinMap as map
use Rattle.std.specs.List.{range_with_len}
use Rattle.std.specs.Ordering.{nat_cmp}
use Rattle.std.proofs.lemmas.List.{ext_get_or, get_or-replicate, length-replicate}
use Rattle.disk.specs.Bytes.{range_at}
use Rattle.disk_redo.proofs.Ranges.{get_range, length_range}
use Rattle.replica_store.specs.Replicas.{new_server_disk}
use Rattle.store_disk.specs.Formats.{IsFormatted}
use Rattle.store_disk.proofs.FormatSlots.{slots_behind}
use Rattle.store_disk.specs.Fields.{order_in}
use Rattle.store_disk.specs.Stored.{IsDiskOf, is_used}
use Rattle.store_disk.proofs.Free.{filter_all}

pub formatted_is_empty : (chunk block slots : ℕ) (disk : List ℕ) → IsFormatted chunk block slots disk
    → IsDiskOf chunk block slots (record { held = map.empty; free = range_with_len 0 slots }) disk (new_server_disk chunk block slots)
formatted_is_empty chunk block slots disk formatted =
    let blank = formatted.blank in
    let large = formatted.head.large in
    let room : 48 ≤ length disk = omega (arith, large, slots_behind chunk block slots) in
    let size = length_range disk 32 16 room in
    let none : List ℕ = replicate 16 0 in
    let zeros : range_at disk 32 16 ≡ none = ext_get_or 0 (range_at disk 32 16) none (size ∙ sym (length-replicate {A = ℕ} 16 0)) (λ i lt.
    let few : i < 16 = omega (arith, lt, size) in
    get_range disk 32 16 i few ∙ blank.order (32 + i) (omega arith) (omega (arith, few)) ∙ sym (get_or-replicate {A = ℕ} 16 i 0 0 few)) in
    record {
      chunk_is = refl;
      block_is = refl;
      slots_is = refl;
      head = formatted.head;
      order_is = ap order_in zeros;
      held = λ handle r there. let e : None ≡ Some r = sym (map.get-empty nat_cmp handle) ∙ there in absurd cc;
      no_other = λ handle none. map.get-empty nat_cmp handle;
      apart = λ a b x y p q e. let f : None ≡ Some x = sym (map.get-empty nat_cmp a) ∙ p in absurd cc;
      each = λ slot lt used. let e : false ≡ true = sym (ap (λ (k : ℕ). k == 1) (blank.free slot lt)) ∙ used in absurd cc;
      free = sym (filter_all (λ slot. not (is_used chunk block disk slot)) 0 slots (λ slot le lt. ap (λ (k : ℕ). not (k == 1)) (blank.free slot (omega (arith, lt)))));
    }
