-- Two orders are the same or not.
use Rattle.std.specs.Prelude.{◌≡◌, ◌⊎◌, List}
use Rattle.relaxed_file.specs.Order.{Entry}

abbrev pub EntriesAreSameOrNot : Type 0
EntriesAreSameOrNot = (xs ys : List Entry) → (xs ≡ ys) ⊎ (xs ≡ ys → ⊥)
