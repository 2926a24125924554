-- Records that a reader knows by themselves.
use Rattle.std.specs.Prelude.{◌≡◌, ℕ, Bool, ◌&&◌, ◌==◌, List, [], ◌∷◌, length, take, drop, slice_index, bytes_eq, IsTrue}
use Rattle.std.specs.Int.{w32, from_be_bytes}
use Rattle.sha2.specs.Sha256.{sha256}

-- whether what stands behind the first five bytes are the first four of their digest
abbrev pub is_sealed : List ℕ → Bool
is_sealed bytes = bytes_eq (take 4 (sha256 (take 5 bytes))) (drop 5 bytes)

-- whether these bytes are a record: a mark, four bytes of an id, and their seal
abbrev pub is_record : List ℕ → Bool
is_record bytes = (length bytes == 9) && ((slice_index bytes 0 == 245) && is_sealed bytes)

abbrev pub id_of : List ℕ → ℕ
id_of bytes = from_be_bytes w32 (slice_index bytes 1 ∷ slice_index bytes 2 ∷ slice_index bytes 3 ∷ slice_index bytes 4 ∷ [])

-- the record stands whole at a place of these bytes
abbrev pub StandsAt : List ℕ → ℕ → List ℕ → Type 0
StandsAt bytes place one = IsTrue (is_record one) × (take (length one) (drop place bytes) ≡ one)
