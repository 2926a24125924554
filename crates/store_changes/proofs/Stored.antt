-- A replica that was written over, on a disk at rest.
use Rattle.std.proofs.Common.{◌≡◌, ℕ, ◌+◌, ◌*◌, ◌/◌, ◌%◌, ◌≤◌, Bool, true, false, if◌then◌else◌, List, [], ◌∷◌, ◌++◌, length, drop, refl, sym, ap, ◌∙◌, subst, arith, Option, Some}
use Rattle.std.specs.Prelude.{max, nat_le}
use Rattle.std.specs.FinMap as map
use Rattle.std.proofs.lemmas.Bool.Decides.{nat_tests}
use Rattle.disk.specs.Bytes.{put_at}
use Rattle.disk_redo.specs.Moments.{KeepsAt, is_outside}
use Rattle.disk_redo.specs.Changes.{applied}
use Rattle.store_disk.proofs.BlockDigests.{length_digests}
use Rattle.replica_store.specs.Replicas.{Replica, ServerDisk, digests_of, disk_changed, renewed_digests, replica_becomes, replica_of, row_of, touched, written_over, written_replica}
use Rattle.replica_store.specs.declared.change.StoreChange.TheVariants.{Write}
use Rattle.replica_store.specs.declared.row.Row.{Row}
use Rattle.store_disk.specs.Index.{IndexState}
use Rattle.store_disk.specs.declared.held.HeldReplica.{HeldReplica}
use Rattle.store_disk.proofs.FormatSlots.{slot_before}
use Rattle.store_disk.specs.Fields.{FitsHeader, header_bytes}
use Rattle.store_disk.specs.Places.{blocks_of, disk_size, slot_place, slot_size}
use Rattle.store_disk.specs.Stored.{Holds, IsDiskOf, IsKnown, header_of}
use Rattle.store_disk.proofs.Replicas.{replica_replaced}
use Rattle.store_disk.proofs.Slots.{bytes_long}
use Rattle.store_changes.specs.Edging.{edges_around}
use Rattle.store_changes.specs.Writing.{header_range_of, ranges_of, written_ranges, written_row}
use Rattle.store_changes.proofs.Ends.{new_digests, run_within}
use Rattle.store_changes.proofs.Holding.{longer_holds, longer_keeps, written_holds, written_keeps}

module _ (chunk block slots : ℕ) (index : IndexState) (disk : List ℕ) (d : ServerDisk) (size : disk_size chunk block slots ≤ length disk) (is : IsDiskOf chunk block slots index disk d)
    (h : ℕ) (found : HeldReplica) (there : map.get index.held h ≡ Some found) (r : Replica) (own : replica_of d h ≡ Some r) (known : IsKnown chunk block slots disk h r found)
    (serial offset : ℕ) (content : List ℕ) (fits : offset + length content ≤ chunk) (small : FitsHeader (header_of h (written_row found.row serial offset content))) where
  abbrev now : Row
  now = written_row found.row serial offset content

  abbrev place : ℕ
  place = slot_place chunk block found.slot

  room : place + slot_size chunk block ≤ length disk
  room = let before = slot_before chunk block found.slot slots known.there in omega (arith, before, size)

  was : record { version = record { 0 = r.version }; serial = record { 0 = r.serial }; count = r.count } ≡ found.row
  was = let e = known.row in cc

  count_is : max r.count (offset + length content) ≡ max found.row.count (offset + length content)
  count_is = ap (λ (row : Row). max row.count (offset + length content)) was

  row_is : row_of (Some (written_replica block r serial offset content)) ≡ Some now
  row_is =
      ap (λ (n : ℕ). Some (record { version = record { 0 = r.version }; serial = record { 0 = serial }; count = n })) count_is
      ∙ ap (λ (row : Row). Some (record { version = row.version; serial = record { 0 = serial }; count = max found.row.count (offset + length content) })) was

  header_is : header_of h now ≡ record { handle = record { 0 = h }; version = record { 0 = r.version }; serial = record { 0 = serial }; count = max r.count (offset + length content) }
  header_is =
      sym (ap (λ (n : ℕ). record { handle = record { 0 = h }; version = record { 0 = r.version }; serial = record { 0 = serial }; count = n }) count_is
      ∙ ap (λ (row : Row). record { handle = record { 0 = h }; version = row.version; serial = record { 0 = serial }; count = max found.row.count (offset + length content) }) was)

  abbrev index_now : IndexState
  index_now = record index { held = map.insert index.held h (record found { row = now }) }

  -- the slot holds the replica as it is then
  stored_as : (new : List ℕ) → KeepsAt (is_outside place (slot_size chunk block)) disk new → Holds chunk block new found.slot h (written_replica block r serial offset content)
      → IsDiskOf chunk block slots index_now new (disk_changed d (Write (record { 0 = h }) (record { 0 = serial }) offset content))
  stored_as new keeps holds =
      subst (λ (b : ℕ). IsDiskOf chunk block slots index_now new (replica_becomes (λ q. written_replica b q serial offset content) d h (replica_of d h))) (sym is.block_is)
      (subst (λ (o : Option Replica). IsDiskOf chunk block slots index_now new (replica_becomes (λ q. written_replica block q serial offset content) d h o)) (sym own)
      (replica_replaced chunk block slots index disk d is h found there new (written_replica block r serial offset content) now size keeps holds row_is))

  longer_stored : content ≡ [] → IsDiskOf chunk block slots index_now (put_at disk place (header_bytes (header_of h now))) (disk_changed d (Write (record { 0 = h }) (record { 0 = serial }) offset content))
  longer_stored none =
      stored_as (put_at disk place (header_bytes (header_of h now)))
      (longer_keeps chunk block disk found.slot h r room known.holds (header_of h now) small serial offset content fits header_is)
      (longer_holds chunk block disk found.slot h r room known.holds (header_of h now) small serial offset content fits header_is none)

  module _ (positive : 1 ≤ block) (even : chunk % block ≡ 0) (some : 1 ≤ length content) where
    abbrev first : ℕ
    first = offset / block

    abbrev blocks : ℕ
    blocks = blocks_of chunk block

    abbrev run : ℕ
    run = touched block offset (offset + length content)

    abbrev digests : List ℕ
    digests = (let edges = edges_around block r offset (offset + length content) in digests_of block run (edges.before ++ content ++ edges.after))

    long : length r.bytes ≡ chunk
    long = bytes_long chunk block disk found.slot h r room known.holds

    within : first + run ≤ blocks
    within = run_within chunk block r offset content positive even long some fits

    digests_now : written_over r.digests (32 * first) digests ≡ renewed_digests block r.digests (written_over r.bytes offset content) offset (offset + length content)
    digests_now =
        let new = written_over r.bytes offset content in
        let later : nat_le (offset + length content) offset ≡ false = grind (arith, nat_tests, some) in
        ap (λ (l : List ℕ). written_over r.digests (32 * first) l) (new_digests chunk block r offset content positive even long some fits)
        ∙ sym (ap (λ b. if b then r.digests else written_over r.digests (32 * first) (digests_of block run (drop (first * block) new))) later)

    digests_long : length digests ≡ 32 * run
    digests_long = let edges = edges_around block r offset (offset + length content) in length_digests block run (edges.before ++ content ++ edges.after)

    bytes_stored : IsDiskOf chunk block slots index_now (applied (written_ranges chunk block found.slot h now (edges_around block r offset (offset + length content)) offset content) disk)
        (disk_changed d (Write (record { 0 = h }) (record { 0 = serial }) offset content))
    bytes_stored =
        stored_as (applied (written_ranges chunk block found.slot h now (edges_around block r offset (offset + length content)) offset content) disk)
        (written_keeps chunk block disk found.slot h r room known.holds (header_of h now) small serial offset content fits header_is first run digests within digests_long digests_now)
        (written_holds chunk block disk found.slot h r room known.holds (header_of h now) small serial offset content fits header_is first run digests within digests_long digests_now)

  -- The ranges are the mutation.
  pub write_stored : 1 ≤ block → chunk % block ≡ 0
      → IsDiskOf chunk block slots index_now (applied (ranges_of chunk block r found.slot h now offset content) disk) (disk_changed d (Write (record { 0 = h }) (record { 0 = serial }) offset content))
  write_stored positive even = by (nat_le (offset + length content) offset) refl
    where
      no_bytes : (xs : List ℕ) → length xs ≡ 0 → xs ≡ []
      no_bytes [] e = refl
      no_bytes (x ∷ xs) e = absurd (omega (arith, e))

      by : (b : Bool) → nat_le (offset + length content) offset ≡ b
          → IsDiskOf chunk block slots index_now
          (applied (if b then header_range_of chunk block found.slot h now ∷ [] else written_ranges chunk block found.slot h now (edges_around block r offset (offset + length content)) offset content) disk)
          (disk_changed d (Write (record { 0 = h }) (record { 0 = serial }) offset content))
      by true none = longer_stored (no_bytes content (grind (arith, nat_tests, none)))
      by false is = bytes_stored positive even (grind (arith, nat_tests, is))
