-- What a line of a script asks for.
use Rattle.std.specs.Prelude.{ℕ, nat_lt, if◌then◌else◌, List, [], ◌∷◌, length, Option, Some, None, option_map, option_and_then, codes, bytes_eq}
use Rattle.gfs_types.specs.declared.call.Call.{Call}
use Rattle.gfs_types.specs.declared.call.Call.TheVariants as calls
use Rattle.gfs_types.specs.declared.ids.Node.{Node}
use Rattle.gfs_types.specs.declared.torn.Torn.{Torn}
use Rattle.gfs_types.specs.declared.torn.Torn.TheVariants as torn
use Rattle.script.specs.Numbers.{number_of}
use Rattle.script.specs.Nodes.{client_of}
use Rattle.script.specs.Words.{path_of}
use Rattle.script.specs.Lines.{short_call_of, append_call_of, long_call_of, chunk_of, words_of, is_skipped}
use Rattle.script.specs.Kinds.{kind_named}
use Rattle.script.specs.CellNodes.{server_of, node_of}
use Rattle.script.specs.declared.cell_lines.ClientCall.{ClientCall}
use Rattle.script.specs.declared.cell_lines.Matter.{Matter}
use Rattle.script.specs.declared.cell_lines.CellLine.{CellLine}
use Rattle.script.specs.declared.cell_lines.CellLine.TheVariants as lines

abbrev pub close_call : ℕ → Call
close_call fd = calls.Close (record { 0 = fd })

-- a call with one word
abbrev pub word_call_of : List ℕ → List ℕ → Option Call
word_call_of name word =
    if bytes_eq name (codes "rmdir") then option_map calls.Rmdir (path_of word)
    else if bytes_eq name (codes "delete") then option_map calls.Delete (path_of word)
    else if bytes_eq name (codes "close") then option_map close_call (number_of word)
    else short_call_of name word

-- a call on two paths
abbrev pub on_paths : (List ℕ → List ℕ → Call) → List ℕ → List ℕ → Option Call
on_paths make first last = option_and_then (λ p. option_map (make p) (path_of last)) (path_of first)

-- a call with two words
abbrev pub pair_call_of : List ℕ → List ℕ → List ℕ → Option Call
pair_call_of name first last =
    if bytes_eq name (codes "rename") then on_paths calls.Rename first last
    else if bytes_eq name (codes "snapshot") then on_paths calls.Snapshot first last
    else append_call_of name first last

abbrev pub call_of : List (List ℕ) → Option Call
call_of (name ∷ word ∷ []) = word_call_of name word
call_of (name ∷ first ∷ last ∷ []) = pair_call_of name first last
call_of (name ∷ first ∷ second ∷ last ∷ []) = long_call_of name first second last
call_of _ = None

abbrev pub client_call_of : List ℕ → List (List ℕ) → Option ClientCall
client_call_of client words = option_and_then (λ c. option_map (λ call. record { client = c; call = call }) (call_of words)) (client_of client)

-- a client and its call
abbrev pub started_call_of : List (List ℕ) → Option ClientCall
started_call_of [] = None
started_call_of (client ∷ words) = client_call_of client words

-- no further word
abbrev pub alone : List (List ℕ) → CellLine → Option CellLine
alone [] line = Some line
alone _ line = None

abbrev pub moments_of : List (List ℕ) → Option ℕ
moments_of (word ∷ []) = number_of word
moments_of _ = None

abbrev pub node_in : List (List ℕ) → Option Node
node_in (word ∷ []) = node_of word
node_in _ = None

-- a kind of messages and their receiver
abbrev pub matter_of : List (List ℕ) → Option Matter
matter_of (kind ∷ receiver ∷ []) = option_and_then (λ k. option_map (λ n. record { kind = k; receiver = n }) (node_of receiver)) (kind_named kind)
matter_of _ = None

abbrev pub small_number : ℕ → Option ℕ
small_number n = if nat_lt n 256 then Some n else None

abbrev pub byte_of : List ℕ → Option ℕ
byte_of word = option_and_then small_number (number_of word)

abbrev pub torn_of : List ℕ → Option Torn
torn_of word =
    if bytes_eq word (codes "old") then Some torn.Old
    else if bytes_eq word (codes "new") then Some torn.New
    else option_map torn.Byte (byte_of word)

-- a node, how many calls of its disk pass, and what a restart finds
abbrev pub fuse_of : List (List ℕ) → Option CellLine
fuse_of (node ∷ calls ∷ left ∷ []) = option_and_then (λ n. option_and_then (λ k. option_map (lines.Fuse n k) (torn_of left)) (number_of calls)) (node_of node)
fuse_of _ = None

-- a chunkserver, a chunk, a place in it and its new byte
abbrev pub rot_of : List (List ℕ) → Option CellLine
rot_of (server ∷ path ∷ index ∷ place ∷ value ∷ []) =
    option_and_then (λ s. option_and_then (λ c. option_and_then (λ p. option_map (lines.Rot s c p) (byte_of value)) (number_of place)) (chunk_of (path ∷ index ∷ []))) (server_of server)
rot_of _ = None

-- a line on a chunk, or a call
abbrev pub chunk_line : List ℕ → List (List ℕ) → Option CellLine
chunk_line first rest =
    if bytes_eq first (codes "rot") then rot_of rest
    else if bytes_eq first (codes "regions") then option_map lines.Regions (chunk_of rest)
    else if bytes_eq first (codes "replicas") then option_map lines.Replicas (chunk_of rest)
    else option_map lines.Call (client_call_of first rest)

-- a line on one node, or one on a chunk, or a call
abbrev pub node_line : List ℕ → List (List ℕ) → Option CellLine
node_line first rest =
    if bytes_eq first (codes "cut") then option_map lines.Cut (node_in rest)
    else if bytes_eq first (codes "join") then option_map lines.Join (node_in rest)
    else if bytes_eq first (codes "restart") then option_map lines.Restart (node_in rest)
    else if bytes_eq first (codes "fuse") then fuse_of rest
    else chunk_line first rest

abbrev pub line_for : List (List ℕ) → Option CellLine
line_for [] = None
line_for (first ∷ rest) =
    if bytes_eq first (codes "start") then option_map lines.Start (started_call_of rest)
    else if bytes_eq first (codes "finish") then alone rest lines.Finish
    else if bytes_eq first (codes "wait") then option_map lines.Wait (moments_of rest)
    else if bytes_eq first (codes "hold") then option_map lines.Hold (matter_of rest)
    else if bytes_eq first (codes "free") then alone rest lines.Free
    else if bytes_eq first (codes "rebase") then alone rest lines.Rebase
    else if bytes_eq first (codes "twice") then option_map lines.Twice (matter_of rest)
    else node_line first rest

abbrev pub line_of : List ℕ → Option CellLine
line_of line = if nat_lt 8192 (length line) then None else if is_skipped line then Some lines.Nothing else line_for (words_of line)
