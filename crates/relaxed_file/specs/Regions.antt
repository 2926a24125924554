-- A chunk's regions: the maximal ranges of places that are all determined or all undetermined, below the greatest end of its entries (section 2.7.1).
use Rattle.std.specs.Prelude.{◌≡◌, ℕ, zero, suc, ◌<◌, ◌≤◌, Bool, true, false, not, if◌then◌else◌, List, [], ◌∷◌}
use Rattle.relaxed_file.specs.declared.region.Region.{Region}
use Rattle.relaxed_file.specs.Order.{Entry, is_undetermined, order_length}

abbrev pub is_determined : List Entry → ℕ → Bool
is_determined order place = not (is_undetermined order place)

abbrev pub one_place : ℕ → Bool → Region
one_place place determined = record { from = place; to = suc place; determined = determined }

-- a place before the regions of those behind it
abbrev pub joined_before : ℕ → Bool → List Region → List Region
joined_before place determined [] = one_place place determined ∷ []
joined_before place true (r ∷ rest) = if r.determined then record r { from = place } ∷ rest else one_place place true ∷ r ∷ rest
joined_before place false (r ∷ rest) = if r.determined then one_place place false ∷ r ∷ rest else record r { from = place } ∷ rest

-- the regions of so many places, from one on
abbrev pub regions_from : List Entry → ℕ → ℕ → List Region
regions_from order place zero = []
regions_from order place (suc count) = joined_before place (is_determined order place) (regions_from order (suc place) count)

abbrev pub regions_of : List Entry → List Region
regions_of order = regions_from order 0 (order_length order)

-- every place of the range is of the kind that it says
abbrev pub IsOfOneKind : List Entry → Region → Type 0
IsOfOneKind order r = (place : ℕ) → r.from ≤ place → place < r.to → is_determined order place ≡ r.determined

-- the next range, if any, is of the other kind
abbrev pub NextDiffers : Bool → List Region → Type 0
NextDiffers determined [] = Unit {0}
NextDiffers determined (r ∷ rest) = r.determined ≡ not determined

-- Ranges one after another from a place up to an end, none of them empty, each of one kind and its neighbour of the other: so each is maximal.
abbrev pub AreRegions : List Entry → ℕ → ℕ → List Region → Type 0
AreRegions order place end [] = place ≡ end
AreRegions order place end (r ∷ rest) =
    (r.from ≡ place) × (place < r.to) × IsOfOneKind order r × NextDiffers r.determined rest × AreRegions order r.to end rest
