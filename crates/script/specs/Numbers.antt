-- Decimal numbers without sign.
use Rattle.std.specs.Prelude.{ℕ, ◌+◌, ◌-◌, ◌*◌, ◌^◌, Bool, ◌&&◌, nat_lt, if◌then◌else◌, List, [], ◌∷◌, length, Option, Some, None}
use Rattle.std.specs.Char.{is_ascii_digit}
use Rattle.std.specs.List.{list_all}

abbrev pub digit_of : ℕ → Option ℕ
digit_of c = if is_ascii_digit c then Some (c - 48) else None

abbrev pub all_digits : List ℕ → Bool
all_digits word = list_all is_ascii_digit word

-- the number that digits say, behind a number that stands before them
abbrev pub value_after : ℕ → List ℕ → ℕ
value_after n [] = n
value_after n (c ∷ cs) = value_after (10 * n + (c - 48)) cs

-- one digit or more
abbrev pub is_numeral : List ℕ → Bool
is_numeral word = nat_lt 0 (length word) && all_digits word

-- a numeral's value where it is below 2^64
abbrev pub number_of : List ℕ → Option ℕ
number_of word = if is_numeral word && nat_lt (value_after 0 word) (2 ^ 64) then Some (value_after 0 word) else None
