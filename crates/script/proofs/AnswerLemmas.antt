-- What one more byte prints.
use Rattle.std.proofs.Common.{◌≡◌, ℕ, ◌+◌, ◌<◌, List, [], ◌∷◌, ◌++◌, length, take, get_or, ap, sym, ◌∙◌, add-one}
use Rattle.std.specs.List.{flat_map}
use Rattle.std.proofs.Math.Seq.{take-suc}
use Rattle.std.proofs.lemmas.Grind.{flat_map-append}
use Rattle.script.specs.Answers.{hex_of}

hex_of_more : (bytes : List ℕ) (i : ℕ) → i < length bytes
    → flat_map hex_of (take (i + 1) bytes) ≡ flat_map hex_of (take i bytes) ++ hex_of (get_or bytes i 0)
hex_of_more bytes i below =
    let more : take (i + 1) bytes ≡ take i bytes ++ (get_or bytes i 0 ∷ []) = rw add-one (take-suc bytes i 0 below) in
    ap (flat_map hex_of) more ∙ flat_map-append hex_of (take i bytes) (get_or bytes i 0 ∷ [])

pub one_more_byte : (bytes : List ℕ) (i : ℕ) → i < length bytes
    → flat_map hex_of (take i bytes) ++ hex_of (get_or bytes i 0) ≡ flat_map hex_of (take (i + 1) bytes)
one_more_byte bytes i below = sym (hex_of_more bytes i below)
