-- The lines that are printed.
use Rattle.std.specs.Prelude.{ℕ, ◌/◌, ◌%◌, false, List, [], ◌∷◌, ◌++◌, length, codes}
use Rattle.std.specs.List.{flat_map}
use Rattle.std.specs.Fmt.{decimal, digit_glyph}
use Rattle.std.specs.Str.{byte}
use Rattle.gfs_types.specs.declared.answer.Answer.{Answer}
use Rattle.gfs_types.specs.declared.answer.Answer.TheVariants as answers
use Rattle.gfs_types.specs.Refusals.{number_of, name_of}

-- a byte as two hexadecimal digits
abbrev pub hex_of : ℕ → List ℕ
hex_of c = digit_glyph false (c / 16) ∷ digit_glyph false (c % 16) ∷ []

abbrev pub hexadecimal_of : List ℕ → List ℕ
hexadecimal_of [] = codes "-"
hexadecimal_of (c ∷ cs) = flat_map hex_of (c ∷ cs)

abbrev pub with_comma : ℕ → List ℕ
with_comma round = byte "," ∷ decimal round

abbrev pub rounds_of : List ℕ → List ℕ
rounds_of [] = codes "-"
rounds_of (round ∷ rounds) = decimal round ++ flat_map with_comma rounds

abbrev pub with_space : List ℕ → List ℕ
with_space name = byte " " ∷ name

abbrev pub names_of : List (List ℕ) → List ℕ
names_of names = decimal (length names) ++ flat_map with_space names

abbrev pub answer_of : Answer → List ℕ
answer_of answers.Done = codes "done"
answer_of (answers.Fd fd) = codes "fd " ++ decimal fd.0
answer_of (answers.Names names) = codes "names " ++ names_of names
answer_of (answers.Length count) = codes "length " ++ decimal count
answer_of (answers.At offset) = codes "at " ++ decimal offset
answer_of (answers.Bytes bytes rounds) = codes "bytes " ++ decimal (length bytes) ++ codes " " ++ hexadecimal_of bytes ++ codes " rounds " ++ rounds_of rounds
answer_of (answers.Refused refusal) = codes "refused " ++ decimal (number_of refusal) ++ codes " " ++ name_of refusal

-- what is printed of a client's answer, without a line feed
abbrev pub answer_line : ℕ → Answer → List ℕ
answer_line client answer = codes "c" ++ decimal client ++ codes " " ++ answer_of answer
