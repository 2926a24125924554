-- Words that stand for a path or for data.
use Rattle.std.specs.Prelude.{◌≡◌, ⊤, ℕ, Bool, not, ◌&&◌, ◌==◌, nat_lt, nat_le, if◌then◌else◌, List, length, drop, slice_index, replicate, Option, Some, None, option_and_then, Result, Ok, Err}
use Rattle.std.specs.List.{list_all, list_any}
use Rattle.std.specs.Str.{byte, is_utf8}
use Rattle.gfs_types.specs.declared.path.PathFault.{PathFault}
use Rattle.gfs_types.specs.declared.path.PathFault.TheVariants as path_faults
use Rattle.gfs_types.specs.Paths.{Path, is_path}
use Rattle.script.specs.declared.fault.LineFault.{LineFault}
use Rattle.script.specs.declared.fault.LineFault.TheVariants.{Bad, NoMemory}
use Rattle.script.specs.declared.words.Data.{Data}
use Rattle.script.specs.declared.words.Data.TheVariants.{Bytes, TooLong}
use Rattle.script.specs.Numbers.{is_numeral, number_of}

-- what was read is what is expected; a bad word or line is one of which nothing is expected; and memory may be refused
abbrev pub Reads : {A : Type 0} → Result A LineFault → Option A → Type 0
Reads (Ok value) expected = expected ≡ Some value
Reads (Err Bad) expected = expected ≡ None
Reads (Err NoMemory) expected = ⊤

abbrev pub text_of : List ℕ → Option (List ℕ)
text_of word = if is_utf8 word then Some word else None

-- a text that is not empty and has no carriage return
abbrev pub path_of : List ℕ → Option (List ℕ)
path_of word = if nat_lt 0 (length word) && not (list_any (λ c. c == 13) word) then text_of word else None

abbrev pub full_path_for : List ℕ → Option Path
full_path_for text = if is_path text then Some text else None

-- such a text that is a full path
abbrev pub full_path_of : List ℕ → Option Path
full_path_of word = option_and_then full_path_for (path_of word)

abbrev pub path_fault : PathFault → LineFault
path_fault path_faults.BadPath = Bad
path_fault path_faults.NoMemory = NoMemory

abbrev pub is_printable : ℕ → Bool
is_printable c = nat_le 33 c && nat_le c 126

abbrev pub all_printable : List ℕ → Bool
all_printable word = list_all is_printable word

abbrev pub repeated_of : ℕ → ℕ → Data
repeated_of c count = if nat_lt 67108864 count then TooLong else Bytes (replicate count c)

abbrev pub if_number : ℕ → Option ℕ → Option Data
if_number c None = None
if_number c (Some count) = Some (repeated_of c count)

-- a byte, a star and a numeral
abbrev pub is_repeated : List ℕ → Bool
is_repeated word = nat_lt 2 (length word) && slice_index word 1 == byte "*" && is_numeral (drop 2 word)

-- such a word stands for its byte so often, and each other word for itself
abbrev pub data_for : List ℕ → Option Data
data_for word = if is_repeated word then if_number (slice_index word 0) (number_of (drop 2 word)) else Some (Bytes word)

abbrev pub data_of : List ℕ → Option Data
data_of word = if nat_lt 0 (length word) && all_printable word then data_for word else None
