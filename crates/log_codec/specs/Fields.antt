-- The bytes of a record's fields, and what a field may be. Numbers have their lowest byte first.
use Rattle.std.specs.Prelude.{ℕ, ◌<◌, ◌^◌, List, [], ◌∷◌, ◌++◌, length, Option, None, Some, IsTrue, ◌&&◌}
use Rattle.std.specs.List.{flat_map, AllByRecursion}
use Rattle.std.specs.Int.{w16, w32, w64, to_le_bytes}
use Rattle.std.specs.Str.{is_utf8}
use Rattle.gfs_types.specs.Paths.{is_path}
use Rattle.gfs_types.specs.Refusals.{number_of}
use Rattle.gfs_types.specs.declared.refusal.Refusal.{Refusal}
use Rattle.gfs_types.specs.declared.shape.Shape.{Shape}

-- a client, a call's number, a file, a handle, a version, a moment, an epoch: 8 bytes
unfoldable pub number : ℕ → List ℕ
number n = to_le_bytes w64 n

-- a chunk's index in its file, and a length: 4 bytes
unfoldable pub index : ℕ → List ℕ
index n = to_le_bytes w32 n

-- a chunkserver: 2 bytes
unfoldable pub server : ℕ → List ℕ
server n = to_le_bytes w16 n

-- a path: 2 bytes of length, and its text
unfoldable pub path : List ℕ → List ℕ
path text = to_le_bytes w16 (length text) ++ text

-- chunkservers: a byte that says how many, and each
unfoldable pub members : List ℕ → List ℕ
members servers = length servers ∷ flat_map server servers

-- a file's chunks: how many, and each one's handle
unfoldable pub handles : List ℕ → List ℕ
handles all = index (length all) ++ flat_map number all

-- a file's shape: the bytes of its chunks in 4 bytes, and its goal in one
unfoldable pub shape : Shape → List ℕ
shape s = index s.chunk ++ s.goal ∷ []

-- a byte: 0 for done, or the refusal's number
abbrev pub outcome : Option Refusal → List ℕ
outcome None = 0 ∷ []
outcome (Some refusal) = number_of refusal ∷ []

abbrev pub IsNumber : ℕ → Type 0
IsNumber n = n < 2 ^ 64

abbrev pub IsIndex : ℕ → Type 0
IsIndex n = n < 2 ^ 32

abbrev pub IsServer : ℕ → Type 0
IsServer n = n < 2 ^ 16

abbrev pub IsShape : Shape → Type 0
IsShape s = IsIndex s.chunk × (s.goal < 256)

-- a full path, in UTF-8
abbrev pub IsPath : List ℕ → Type 0
IsPath text = IsTrue (is_path text && is_utf8 text)

abbrev pub AreMembers : List ℕ → Type 0
AreMembers servers = (length servers < 256) × AllByRecursion IsServer servers

abbrev pub AreHandles : List ℕ → Type 0
AreHandles all = (length all < 2 ^ 32) × AllByRecursion IsNumber all
