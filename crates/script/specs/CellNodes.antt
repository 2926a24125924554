-- The names of nodes.
use Rattle.std.specs.Prelude.{ℕ, ◌^◌, ◌==◌, nat_lt, if◌then◌else◌, List, [], ◌∷◌, Option, Some, None, option_map, option_and_then, codes, bytes_eq}
use Rattle.std.specs.Str.{byte}
use Rattle.gfs_types.specs.declared.ids.Node.{Node}
use Rattle.gfs_types.specs.declared.ids.Node.TheVariants as nodes
use Rattle.gfs_types.specs.declared.ids.ServerId.{ServerId}
use Rattle.script.specs.Nodes.{counted_of, client_of}

-- a number of two bytes
abbrev pub server_numbered : ℕ → Option ServerId
server_numbered n = if nat_lt n (2 ^ 16) then Some (record { 0 = n }) else None

abbrev pub server_of : List ℕ → Option ServerId
server_of [] = None
server_of (c ∷ cs) = if c == byte "s" then option_and_then server_numbered (counted_of cs) else None

abbrev pub client_or : Option ServerId → List ℕ → Option Node
client_or (Some server) word = Some (nodes.Server server)
client_or None word = option_map nodes.Client (client_of word)

-- the master, a chunkserver or a client
abbrev pub node_of : List ℕ → Option Node
node_of word = if bytes_eq word (codes "master") then Some nodes.Master else client_or (server_of word) word
