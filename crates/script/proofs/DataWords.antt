-- Data that are not empty.
use Rattle.std.proofs.Common.{◌≡◌, ℕ, true, false, List, [], ◌∷◌, length, refl}
use Rattle.std.specs.Prelude.{◌==◌}
use Rattle.std.specs.List.{flat_map}
use Rattle.script.specs.Answers.{hex_of, hexadecimal_of}

pub digits_of : (bytes : List ℕ) → (length bytes == 0) ≡ false → hexadecimal_of bytes ≡ flat_map hex_of bytes
digits_of [] is = absurd (let both : true ≡ false = is in cc)
digits_of (b ∷ bytes) is = refl
