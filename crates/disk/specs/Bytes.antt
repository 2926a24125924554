-- Ranges of a disk's bytes.
use Rattle.std.specs.Prelude.{ℕ, ◌+◌, List, ◌++◌, length, take, drop}

-- old with these bytes at this place
abbrev pub put_at : List ℕ → ℕ → List ℕ → List ℕ
put_at old at bytes = take at old ++ bytes ++ drop (at + length bytes) old

-- the n bytes at this place
abbrev pub range_at : List ℕ → ℕ → ℕ → List ℕ
range_at all at n = take n (drop at all)
