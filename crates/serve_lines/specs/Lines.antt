-- What a line that is served asks for.
use Rattle.std.specs.Prelude.{ℕ, Bool, ◌&&◌, ◌==◌, nat_le, nat_lt, if◌then◌else◌, List, [], ◌∷◌, length, drop, slice_index, Option, Some, None, option_map, option_and_then, Result, Ok, Err, codes}
use Rattle.std.specs.Str.{byte, bytes_eq}
use Rattle.hex.specs.Hex.{decode_of}
use Rattle.hex.specs.declared.error.FromHexError.{FromHexError}
use Rattle.gfs_types.specs.declared.call.Call.{Call}
use Rattle.gfs_types.specs.declared.call.Call.TheVariants as calls
use Rattle.script.specs.Numbers.{number_of}
use Rattle.script.specs.Nodes.{client_of}
use Rattle.script.specs.Lines.{is_skipped, words_of}
use Rattle.script.specs.CellLines.{line_of}
use Rattle.script.specs.declared.cell_lines.CellLine.{CellLine}
use Rattle.script.specs.declared.cell_lines.CellLine.TheVariants as cell
use Rattle.serve_lines.specs.declared.lines.ServedLine.{ServedLine}
use Rattle.serve_lines.specs.declared.lines.ServedLine.TheVariants.{Nothing, Room, Restart, Net, Call as Asked}

abbrev pub if_decoded : Result (List ℕ) FromHexError → Option (List ℕ)
if_decoded (Ok bytes) = Some bytes
if_decoded (Err fault) = None

-- the bytes that hexadecimal digits stand for, two digits for each
abbrev pub bytes_of : List ℕ → Option (List ℕ)
bytes_of digits = if_decoded (decode_of digits)

-- a call by the client of this name
abbrev pub call_line : List ℕ → Option Call → Option ServedLine
call_line name call = option_and_then (λ c. option_map (λ made. Asked (record { client = c; call = made })) call) (client_of name)

-- a client's append of the bytes that these digits stand for
abbrev pub append_line : List ℕ → List ℕ → List ℕ → Option ServedLine
append_line name fd digits = call_line name (option_and_then (λ f. option_map (calls.Append (record { 0 = f })) (bytes_of digits)) (number_of fd))

-- a client's write of the bytes that these digits stand for
abbrev pub write_line : List ℕ → List ℕ → List ℕ → List ℕ → Option ServedLine
write_line name fd offset digits =
    call_line name (option_and_then (λ f. option_and_then (λ o. option_map (calls.Write (record { 0 = f }) o) (bytes_of digits)) (number_of offset)) (number_of fd))

-- which of so many messages the network loses, repeats and holds up from now on
abbrev pub net_line : List ℕ → List ℕ → List ℕ → Option ServedLine
net_line lose repeat hold = option_and_then (λ l. option_and_then (λ r. option_map (λ h. Net l r h) (number_of hold)) (number_of repeat)) (number_of lose)

-- the lines of a script that are served too
abbrev pub served_of : CellLine → Option ServedLine
served_of cell.Nothing = Some Nothing
served_of (cell.Restart node) = Some (Restart node)
served_of (cell.Call asked) = Some (Asked asked)
served_of other = None

-- a line whose data, if it has some, are as in scripts
abbrev pub plain_line : List ℕ → Option ServedLine
plain_line text = option_and_then served_of (line_of text)

-- it begins with `0x`
abbrev pub has_digits : List ℕ → Bool
has_digits word = nat_le 2 (length word) && slice_index word 0 == byte "0" && slice_index word 1 == byte "x"

abbrev pub short_line : List ℕ → List ℕ → List ℕ → List ℕ → List ℕ → Option ServedLine
short_line text client name fd last =
    if bytes_eq name (codes "append") && has_digits last then append_line client fd (drop 2 last)
    else if bytes_eq client (codes "net") then net_line name fd last
    else plain_line text

abbrev pub long_line : List ℕ → List ℕ → List ℕ → List ℕ → List ℕ → List ℕ → Option ServedLine
long_line text client name fd offset last = if bytes_eq name (codes "write") && has_digits last then write_line client fd offset (drop 2 last) else plain_line text

-- a line of these words: an append or a write may have digits for its data, and one speaks of the network
abbrev pub line_for : List ℕ → List (List ℕ) → Option ServedLine
line_for text (client ∷ name ∷ fd ∷ last ∷ []) = short_line text client name fd last
line_for text (client ∷ name ∷ fd ∷ offset ∷ last ∷ []) = long_line text client name fd offset last
line_for text other = plain_line text

abbrev pub served_line_of : List ℕ → Option ServedLine
served_line_of text =
    if nat_lt 8192 (length text) then None
    else if bytes_eq text (codes "room") then Some Room
    else if is_skipped text then Some Nothing
    else line_for text (words_of text)
