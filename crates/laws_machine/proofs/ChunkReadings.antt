-- What servers read of their replicas is of each order that has the same entries up to the replica's version.
use Rattle.std.proofs.Common.{◌≡◌, ℕ, zero, suc, ◌+◌, ◌-◌, ◌≤◌, Bool, true, false, cond, min, List, [], ◌∷◌, length, take, drop, Option, Some, None, refl, sym, ap, subst, ◌∙◌, arith}
use Rattle.std.specs.Prelude.{nat_le, filter}
use Rattle.std.proofs.lemmas.Bool.{and_parts, leb-false}
use Rattle.gfs_types.specs.declared.mutation.Mutation.{Mutation}
use Rattle.gfs_types.specs.Image.{byte_at, bytes_from, image, image_length, image_slice}
use Rattle.relaxed_file.specs.Order.{Entry, IsSelection, empty, takes, leaves, mutations_of}
use Rattle.replica_store.specs.declared.row.Row.{Row}
use Rattle.replica_store.specs.Replicas.{Replica, replica_of, row_of}
use Rattle.protocol.specs.Observer.{entries_of}
use Rattle.laws_base.proofs.Steps.{on_cond, none_some, same_some}
use Rattle.laws_versions.proofs.Selections.{replicas_are_selections}
use Rattle.laws_versions.proofs.KeptDisks.{reads_are_as_stored, stored_as_long}
use Rattle.laws_machine.specs.ChunkReadings.{SelectionsGoByRounds, IsReadAs, ReadingsAreOfTheChunk}

-- selections

abbrev within : ℕ → List Entry → List Entry
within version order = filter (λ e. nat_le e.round version) order

low_within : (version : ℕ) (e : Entry) → e.round ≤ version → nat_le e.round version ≡ false → ⊥
low_within version e low not = let high = leb-false e.round version not in omega (arith, low, high)

down : (version : ℕ) {order chosen : List Entry} → IsSelection version order chosen → IsSelection version (within version order) chosen
down version empty = empty
down version (takes {e} {order} {chosen} low rest) =
    on_cond (λ (es : List Entry). IsSelection version es (e ∷ chosen)) (nat_le e.round version) (e ∷ within version order) (within version order) (λ _. takes low (down version rest)) (λ not. absurd (low_within version e low not))
down version (leaves {e} {order} {chosen} late rest) =
    on_cond (λ (es : List Entry). IsSelection version es chosen) (nat_le e.round version) (e ∷ within version order) (within version order) (λ _. leaves late (down version rest)) (λ _. down version rest)

one_up : (version : ℕ) (e : Entry) (order : List Entry) {c : List Entry} → ((d : List Entry) → IsSelection version (within version order) d → IsSelection version order d) → (b : Bool) → nat_le e.round version ≡ b
    → IsSelection version (cond b (e ∷ within version order) (within version order)) c → IsSelection version (e ∷ order) c
one_up version e order rest true is (takes low g) = takes low (rest _ g)
one_up version e order rest true is (leaves late g) = leaves late (rest _ g)
one_up version e order rest false is g = leaves (λ _. leb-false e.round version is) (rest _ g)

up : (version : ℕ) (order : List Entry) {chosen : List Entry} → IsSelection version (within version order) chosen → IsSelection version order chosen
up version [] h = h
up version (e ∷ order) h = one_up version e order (λ d g. up version order g) (nat_le e.round version) refl h

pub selections_go_by_rounds : SelectionsGoByRounds
selections_go_by_rounds version order other chosen same h = up version other (subst (λ (es : List Entry). IsSelection version es chosen) same (down version h))

-- parts of an image

module _ (ms : List Mutation) where
  as_far : (place other count more : ℕ) → place ≡ other → count ≡ more → bytes_from ms place count ≡ bytes_from ms other more
  as_far place other count more same much = ap (λ (p : ℕ). bytes_from ms p count) same ∙ ap (λ (n : ℕ). bytes_from ms other n) much

  dropped_from : (k place count : ℕ) → drop k (bytes_from ms place count) ≡ bytes_from ms (place + k) (count - k)
  dropped_from zero place count = as_far place (place + 0) count (count - 0) (omega arith) (omega arith)
  dropped_from (suc k) place zero = as_far (place + suc k) (place + suc k) 0 (0 - suc k) refl (omega arith)
  dropped_from (suc k) place (suc count) = dropped_from k (suc place) count ∙ as_far (suc place + k) (place + suc k) (count - k) (suc count - suc k) (omega arith) (omega arith)

  taken_from : (k place count : ℕ) → take k (bytes_from ms place count) ≡ bytes_from ms place (min k count)
  taken_from zero place count = as_far place place 0 (min 0 count) refl (omega arith)
  taken_from (suc k) place zero = as_far place place 0 (min (suc k) 0) refl (omega arith)
  taken_from (suc k) place (suc count) =
      ap (λ (bs : List ℕ). byte_at ms place ∷ bs) (taken_from k (suc place) count) ∙ as_far place place (suc (min k count)) (min (suc k) (suc count)) refl (omega arith)

  length_from : (place count : ℕ) → length (bytes_from ms place count) ≡ count
  length_from place zero = refl
  length_from place (suc count) = ap (λ (n : ℕ). suc n) (length_from (suc place) count)

  pub slice_of : (offset count : ℕ) → take count (drop offset (image ms)) ≡ image_slice ms offset count
  slice_of offset count =
      ap (λ (bs : List ℕ). take count bs) (dropped_from offset 0 (image_length ms)) ∙ taken_from count (0 + offset) (image_length ms - offset)
      ∙ as_far (0 + offset) offset (min count (image_length ms - offset)) (min count (image_length ms - offset)) (omega arith) refl

  pub length_of : length (image ms) ≡ image_length ms
  length_of = length_from 0 (image_length ms)

pub readings_are_of_the_chunk : ReadingsAreOfTheChunk
readings_are_of_the_chunk config servers clients w reached kept index s at handle row row_is order agree = by_replica (replica_of s.disk handle) refl row_is
  where
    of_replica : (r : Replica) → replica_of s.disk handle ≡ Some r → record { version = record { 0 = r.version }; serial = record { 0 = r.serial }; count = r.count } ≡ row
        → (chosen : List Entry) × IsReadAs s handle row order chosen
    of_replica r is same =
        let selected = (replicas_are_selections config servers clients w reached kept index s at).0 handle r is in
        let version_is : r.version ≡ row.version.0 = ap (λ (x : Row). x.version.0) same in
        let count_is : r.count ≡ row.count = ap (λ (x : Row). x.count) same in
        let disks = (and_parts w.observer.are_clocks_kept w.observer.are_disks_kept kept).1 in (
          selected.0,
          record {
            selection = selections_go_by_rounds row.version.0 (entries_of w.observer handle) order selected.0 agree (subst (λ (v : ℕ). IsSelection v (entries_of w.observer handle) selected.0) version_is selected.1);
            bytes = λ offset count found read.
                reads_are_as_stored config servers clients w reached disks index s at handle r is offset count found read ∙ ap (λ (bs : List ℕ). take count (drop offset bs)) selected.2
                ∙ slice_of (mutations_of selected.0) offset count;
            length = sym count_is ∙ sym (stored_as_long config servers clients w reached disks index s at handle r is) ∙ ap (λ (bs : List ℕ). length bs) selected.2 ∙ length_of (mutations_of selected.0);
          },
        )

    by_replica : (o : Option Replica) → replica_of s.disk handle ≡ o → row_of o ≡ Some row → (chosen : List Entry) × IsReadAs s handle row order chosen
    by_replica None is at_row = none_some row at_row
    by_replica (Some r) is at_row = of_replica r is (same_some (record { version = record { 0 = r.version }; serial = record { 0 = r.serial }; count = r.count }) row at_row)
