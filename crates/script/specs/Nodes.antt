-- The names of nodes: a letter and a number from 1 on, without leading zeros.
use Rattle.std.specs.Prelude.{ℕ, ◌==◌, if◌then◌else◌, List, [], ◌∷◌, Option, None, option_map}
use Rattle.std.specs.Str.{byte}
use Rattle.gfs_types.specs.declared.ids.ClientId.{ClientId}
use Rattle.script.specs.Numbers.{number_of}

-- a number that does not begin with a zero
abbrev pub counted_of : List ℕ → Option ℕ
counted_of [] = None
counted_of (c ∷ cs) = if c == byte "0" then None else number_of (c ∷ cs)

abbrev pub client_of : List ℕ → Option ClientId
client_of [] = None
client_of (c ∷ cs) = if c == byte "c" then option_map (λ n. record { 0 = n }) (counted_of cs) else None
