-- What is known of the cell's servers, and what they hold of a chunk (sections 2.6.2 and 4.3).
use Rattle.std.specs.Prelude.{ℕ, zero, suc, Bool, not, ◌&&◌, nat_le, if◌then◌else◌, List, [], ◌∷◌, ◌++◌, filter, Option, Some, None, is_none}
use Rattle.std.specs.List.{filter_map}
use Rattle.gfs_types.specs.declared.ids.ServerId.{ServerId}
use Rattle.gfs_types.specs.declared.ids.Version.{Version}
use Rattle.chunk_table.specs.ChunkTable.{ChunkRow}
use Rattle.rereplicate.specs.declared.servers.HeldVersion.{HeldVersion}

-- The servers, which count from 1: whether one is present, the version of its replica of a chunk, how many chunks it holds, and whether the attempt at a version of a chunk is under way.
pub record Servers : Type 0 where
  pub count : ℕ
  pub is_present : ℕ → Bool
  pub version_held : ℕ → ℕ → Option ℕ
  pub chunks_held : ℕ → ℕ
  pub is_under_way : ℕ → ℕ → Bool

-- A server with the version of its replica of a chunk.
pub record HeldAt : Type 0 where
  pub server : ℕ
  pub version : ℕ

abbrev pub server_id : ℕ → ServerId
server_id n = record { 0 = n }

abbrev pub version_id : ℕ → Version
version_id n = record { 0 = n }

abbrev pub held_at : ℕ → Version → HeldAt
held_at server version = record { server = server; version = version.0 }

abbrev pub held_version : HeldAt → HeldVersion
held_version h = record { server = server_id h.server; version = version_id h.version }

-- 1 and so on, so many numbers
abbrev pub first_numbers : ℕ → List ℕ
first_numbers zero = []
first_numbers (suc n) = first_numbers n ++ suc n ∷ []

abbrev pub first_of : {X : Type 0} → List X → Option X
first_of [] = None
first_of (x ∷ xs) = Some x

-- the one of lesser rank; the first where both have one rank
abbrev pub lesser : (ℕ → ℕ) → Option ℕ → ℕ → ℕ
lesser rank None other = other
lesser rank (Some first) other = if nat_le (rank first) (rank other) then first else other

abbrev pub lesser_before : (ℕ → ℕ) → ℕ → Option ℕ → ℕ
lesser_before rank first None = first
lesser_before rank first (Some other) = lesser rank (Some first) other

-- the one of least rank, the first of those that have it
abbrev pub least : (ℕ → ℕ) → List ℕ → Option ℕ
least rank [] = None
least rank (x ∷ xs) = Some (lesser_before rank x (least rank xs))

abbrev pub held_from : ℕ → ℕ → Option ℕ → Option HeldAt
held_from granted server None = None
held_from granted server (Some version) = if nat_le granted version then Some (record { server = server; version = version }) else None

-- a server as a present holder of the granted version or a newer one
abbrev pub current_at : Servers → ℕ → ChunkRow → ℕ → Option HeldAt
current_at s handle row server = if s.is_present server then held_from row.granted server (s.version_held handle server) else None

-- the present current holders of a chunk, in rising number
abbrev pub current_holders : Servers → ℕ → ChunkRow → List HeldAt
current_holders s handle row = filter_map (current_at s handle row) (first_numbers s.count)

-- a version is closed where no attempt at it is under way
abbrev pub is_closed : Servers → ℕ → HeldAt → Bool
is_closed s handle h = not (s.is_under_way handle h.version)

abbrev pub if_closed : Servers → ℕ → Option HeldAt → Option HeldAt
if_closed s handle None = None
if_closed s handle (Some h) = if is_closed s handle h then Some h else None

-- a present current holder whose version is closed
abbrev pub closed_at : Servers → ℕ → ChunkRow → ℕ → Option HeldAt
closed_at s handle row server = if_closed s handle (current_at s handle row server)

-- the lowest of them
abbrev pub source : Servers → ℕ → ChunkRow → Option HeldAt
source s handle row = first_of (filter (is_closed s handle) (current_holders s handle row))

-- a present server without a replica
abbrev pub is_free : Servers → ℕ → ℕ → Bool
is_free s handle server = s.is_present server && is_none (s.version_held handle server)

-- the one of them that has the fewest chunks, then the lowest number
abbrev pub target : Servers → ℕ → Option ℕ
target s handle = least s.chunks_held (filter (is_free s handle) (first_numbers s.count))
