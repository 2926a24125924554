-- Laws of orders and their selections: what is determined, and what stands (sections 2.7.1 and 3.3).
use Rattle.std.specs.Prelude.{◌≡◌, ℕ, ◌+◌, ◌<◌, ◌≤◌, List, ◌∷◌, ◌++◌, length, Some, None, IsTrue, IsFalse}
use Rattle.gfs_types.specs.declared.mutation.Mutation.TheVariants.{Append}
use Rattle.gfs_types.specs.Mutations.{byte_of}
use Rattle.gfs_types.specs.Image.{byte_at, image_length, image_slice}
use Rattle.relaxed_file.specs.Order.{Entry, mutations_of, IsSelection, last_cover, order_length, is_undetermined}
use Rattle.relaxed_file.specs.Regions.{AreRegions, regions_of}

-- Where the last entry that covers a place is settled, all selections up to its round or later have one byte there (section 2.7.1).
abbrev pub DeterminedBytesAgree : Type 0
DeterminedBytesAgree =
    (place last : ℕ) (order chosen : List Entry) (e : Entry)
    → last_cover order place ≡ Some e → IsTrue e.settled → e.round ≤ last → IsSelection last order chosen
    → (byte_at (mutations_of chosen) place ≡ byte_of place e.mutation) × (place < image_length (mutations_of chosen))

-- Where no entry covers a place, each selection has zero there, or is shorter.
abbrev pub HolesAreZero : Type 0
HolesAreZero =
    (place last : ℕ) (order chosen : List Entry)
    → last_cover order place ≡ None → IsSelection last order chosen → byte_at (mutations_of chosen) place ≡ 0

-- A place is undetermined only where an entry that isn't settled is the last that covers it.
abbrev pub OnlyUnsettledIsUndetermined : Type 0
OnlyUnsettledIsUndetermined =
    (place : ℕ) (order : List Entry) → IsTrue (is_undetermined order place)
    → (e : Entry) × (last_cover order place ≡ Some e) × IsFalse e.settled

-- The regions of an order are its maximal ranges of one kind, from its beginning to its greatest end.
abbrev pub RegionsAreMaximal : Type 0
RegionsAreMaximal = (order : List Entry) → AreRegions order 0 (order_length order) (regions_of order)

-- no entry of these covers a place of the range
abbrev pub LeaveAlone : ℕ → ℕ → List Entry → Type 0
LeaveAlone offset count later = (place : ℕ) → offset ≤ place → place < offset + count → last_cover later place ≡ None

-- A record that was appended and settled stands whole in each selection up to its round or later, until a later entry covers some of it (section 3.3).
abbrev pub RecordsStand : Type 0
RecordsStand =
    (last offset : ℕ) (before later chosen : List Entry) (e : Entry) (record_bytes : List ℕ)
    → e.mutation ≡ Append offset record_bytes → IsTrue e.settled → e.round ≤ last → LeaveAlone offset (length record_bytes) later
    → IsSelection last (before ++ e ∷ later) chosen
    → image_slice (mutations_of chosen) offset (length record_bytes) ≡ record_bytes
