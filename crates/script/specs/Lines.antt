-- What a line of a script asks for.
use Rattle.std.specs.Prelude.{ℕ, ◌^◌, ◌-◌, min, Bool, true, ◌==◌, nat_lt, if◌then◌else◌, List, [], ◌∷◌, length, Option, Some, None, option_map, option_and_then, codes}
use Rattle.std.specs.List.{slice_split}
use Rattle.std.specs.Str.{byte, bytes_eq}
use Rattle.gfs_types.specs.declared.ids.Fd.{Fd}
use Rattle.gfs_types.specs.declared.call.Call.{Call}
use Rattle.gfs_types.specs.declared.call.Call.TheVariants as calls
use Rattle.script.specs.declared.words.Data.{Data}
use Rattle.script.specs.declared.words.Data.TheVariants.{Bytes, TooLong}
use Rattle.script.specs.declared.lines.FileChunk.{FileChunk}
use Rattle.script.specs.declared.lines.CallLine.{CallLine}
use Rattle.script.specs.declared.lines.CallLine.TheVariants as lines
use Rattle.script.specs.Numbers.{number_of}
use Rattle.script.specs.Nodes.{client_of}
use Rattle.script.specs.Words.{path_of, full_path_of, data_of}

abbrev pub name_call_for : List ℕ → List ℕ → Option Call
name_call_for name path =
    if bytes_eq name (codes "mkdir") then Some (calls.Mkdir path)
    else if bytes_eq name (codes "create") then Some (calls.Create path None)
    else if bytes_eq name (codes "open") then Some (calls.Open path)
    else if bytes_eq name (codes "list") then Some (calls.List path)
    else None

-- a call on a name
abbrev pub name_call_of : List ℕ → List ℕ → Option Call
name_call_of name word = option_and_then (name_call_for name) (path_of word)

abbrev pub length_call : ℕ → Call
length_call fd = calls.Length (record { 0 = fd })

-- a call with one word: on an open file, or on a name
abbrev pub short_call_of : List ℕ → List ℕ → Option Call
short_call_of name word = if bytes_eq name (codes "length") then option_map length_call (number_of word) else name_call_of name word

-- data that are too long to be built become an empty write that ends past each file
abbrev pub write_call : Fd → ℕ → Data → Call
write_call fd offset (Bytes bytes) = calls.Write fd offset bytes
write_call fd offset TooLong = calls.Write fd (2 ^ 64 - 1) []

-- data that are too long to be built become what a write of such data becomes
abbrev pub append_call : Fd → Data → Call
append_call fd (Bytes bytes) = calls.Append fd bytes
append_call fd TooLong = write_call fd 0 TooLong

-- a call that appends to an open file
abbrev pub append_call_of : List ℕ → List ℕ → List ℕ → Option Call
append_call_of name fd last =
    if bytes_eq name (codes "append") then option_and_then (λ f. option_map (append_call (record { 0 = f })) (data_of last)) (number_of fd)
    else None

abbrev pub range_call_for : List ℕ → Fd → ℕ → List ℕ → Option Call
range_call_for name fd offset last =
    if bytes_eq name (codes "write") then option_map (write_call fd offset) (data_of last)
    else if bytes_eq name (codes "read") then option_map (calls.Read fd offset) (number_of last)
    else None

-- a call on a range of an open file
abbrev pub range_call_of : List ℕ → List ℕ → List ℕ → List ℕ → Option Call
range_call_of name fd offset last =
    option_and_then (λ f. option_and_then (λ o. range_call_for name (record { 0 = f }) o last) (number_of offset)) (number_of fd)

-- numbers that are too great for a shape become the greatest that it may have, which fits no settings
abbrev pub create_call : List ℕ → ℕ → ℕ → Call
create_call path chunk goal = calls.Create path (Some (record { chunk = min chunk 4294967295; goal = min goal 255 }))

-- a file with a shape of its own
abbrev pub create_call_of : List ℕ → List ℕ → List ℕ → Option Call
create_call_of path chunk goal =
    option_and_then (λ p. option_and_then (λ c. option_map (create_call p c) (number_of goal)) (number_of chunk)) (path_of path)

-- a call with three words
abbrev pub long_call_of : List ℕ → List ℕ → List ℕ → List ℕ → Option Call
long_call_of name first second last =
    if bytes_eq name (codes "create") then create_call_of first second last else range_call_of name first second last

abbrev pub call_of : List (List ℕ) → Option Call
call_of (name ∷ word ∷ []) = short_call_of name word
call_of (name ∷ fd ∷ last ∷ []) = append_call_of name fd last
call_of (name ∷ first ∷ second ∷ last ∷ []) = long_call_of name first second last
call_of _ = None

abbrev pub client_line : List ℕ → List (List ℕ) → Option CallLine
client_line client call = option_and_then (λ c. option_map (lines.Call c) (call_of call)) (client_of client)

-- a chunk, by the full path of its file and its index
abbrev pub chunk_of : List (List ℕ) → Option FileChunk
chunk_of (path ∷ index ∷ []) = option_and_then (λ p. option_map (λ i. record { path = p; index = i }) (number_of index)) (full_path_of path)
chunk_of _ = None

-- a look at a chunk's regions or replicas, or a client's call
abbrev pub line_for : List (List ℕ) → Option CallLine
line_for [] = None
line_for (first ∷ rest) =
    if bytes_eq first (codes "regions") then option_map lines.Regions (chunk_of rest)
    else if bytes_eq first (codes "replicas") then option_map lines.Replicas (chunk_of rest)
    else client_line first rest

-- what stands between spaces
abbrev pub words_of : List ℕ → List (List ℕ)
words_of line = slice_split (λ c. c == byte " ") line

-- an empty line or a comment
abbrev pub is_skipped : List ℕ → Bool
is_skipped [] = true
is_skipped (c ∷ cs) = c == byte "#"

abbrev pub line_of : List ℕ → Option CallLine
line_of line = if nat_lt 8192 (length line) then None else if is_skipped line then Some lines.Nothing else line_for (words_of line)
