-- What a line of a script for a running cell asks for.
use Rattle.std.specs.Prelude.{ℕ, ◌+◌, Bool, true, false, ◌==◌, nat_lt, nat_le, if◌then◌else◌, List, length, take, drop, Option, Some, None, option_map, option_and_then, codes}
use Rattle.std.specs.List.{position}
use Rattle.std.specs.Str.{byte, bytes_eq}
use Rattle.script.specs.declared.cell_lines.CellLine.{CellLine}
use Rattle.script.specs.declared.cell_lines.CellLine.TheVariants as lines
use Rattle.script.specs.CellLines.{line_of}
use Rattle.script.specs.Numbers.{number_of}
use Rattle.script.specs.declared.live_lines.LiveLine.{LiveLine}
use Rattle.script.specs.declared.live_lines.LiveLine.TheVariants.{Nothing, Barrier, Reopen, Calls}

-- a call, so many times in a row
abbrev pub calls_of : ℕ → CellLine → Option LiveLine
calls_of times (lines.Call asked) = Some (Calls times asked)
calls_of times other = None

abbrev pub calls_in : ℕ → List ℕ → Option LiveLine
calls_in times text = option_and_then (calls_of times) (line_of text)

-- a line that a simulator's script may have too: a call, a comment or an empty line
abbrev pub plain_of : CellLine → Option LiveLine
plain_of lines.Nothing = Some Nothing
plain_of other = calls_of 1 other

abbrev pub plain_line : List ℕ → Option LiveLine
plain_line text = option_and_then plain_of (line_of text)

abbrev pub repeat_at : List ℕ → ℕ → Option (ℕ × List ℕ)
repeat_at text space = option_map (λ times. (times, drop (space + 1) text)) (number_of (take space text))

-- the number that a line begins with, and what stands behind the space after it
abbrev pub repeat_in : List ℕ → Option (ℕ × List ℕ)
repeat_in text = option_and_then (repeat_at text) (position (λ c. c == byte " ") text)

abbrev pub repeated_or_plain : List ℕ → Option (ℕ × List ℕ) → Option LiveLine
repeated_or_plain text (Some (times, asked)) = calls_in times asked
repeated_or_plain text None = plain_line text

abbrev pub live_line_of : List ℕ → Option LiveLine
live_line_of text =
    if nat_lt 8192 (length text) then None
    else if bytes_eq text (codes "barrier") then Some Barrier
    else if bytes_eq text (codes "reopen") then Some Reopen
    else repeated_or_plain text (repeat_in text)

-- it names no client but the first so many
abbrev pub is_for : ℕ → LiveLine → Bool
is_for clients (Calls times asked) = nat_le asked.client.0 clients
is_for clients other = true

-- what follows begins only when all before was answered
abbrev pub is_barrier : LiveLine → Bool
is_barrier Barrier = true
is_barrier Reopen = true
is_barrier other = false

-- and before that the cell is parked and goes on
abbrev pub is_reopen : LiveLine → Bool
is_reopen Reopen = true
is_reopen other = false
