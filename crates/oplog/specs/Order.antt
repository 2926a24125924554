-- The order of a checkpoint's items: counters, names by path bytes, chunks by handle, clients.
use Rattle.std.specs.Prelude.{ℕ, Bool, true, ◌&&◌, ◌||◌, ◌==◌, nat_lt, List, [], ◌∷◌, Option, None, Some}
use Rattle.std.specs.Ordering.{nat_cmp, is_lt}
use Rattle.std.specs.Cmp.Lexicographic.{slice_cmp}
use Rattle.log_records.specs.declared.record.Record.{Record}
use Rattle.log_records.specs.declared.record.Record.TheVariants as log
use Rattle.log_codec.specs.Payloads.{is_item}

-- which kind of item comes first
abbrev pub rank : Record → ℕ
rank (log.Counters next_file next_handle epoch) = 0
rank (log.DirItem path) = 1
rank (log.FileItem path file shape handles) = 1
rank (log.ChunkItem handle granted issued primary members) = 2
rank entry = 3

-- a name's path
abbrev pub path_of : Record → List ℕ
path_of (log.DirItem path) = path
path_of (log.FileItem path file shape handles) = path
path_of entry = []

-- a chunk's handle, or the client
abbrev pub number_of : Record → ℕ
number_of (log.ChunkItem handle granted issued primary members) = handle.0
number_of (log.ClientItem client call refusal) = client.0
number_of entry = 0

abbrev pub comes_before : Record → Record → Bool
comes_before a b = nat_lt (rank a) (rank b) || ((rank a == rank b) && (is_lt (slice_cmp nat_cmp (path_of a) (path_of b)) || nat_lt (number_of a) (number_of b)))

abbrev pub comes_before_next : Record → List Record → Bool
comes_before_next a [] = true
comes_before_next a (b ∷ rest) = comes_before a b

-- items alone, each before the next
abbrev pub is_in_order : List Record → Bool
is_in_order [] = true
is_in_order (a ∷ rest) = is_item a && comes_before_next a rest && is_in_order rest

-- nothing, or the counters and then what follows them
abbrev pub is_checkpoint : List Record → Bool
is_checkpoint [] = true
is_checkpoint (a ∷ rest) = (rank a == 0) && is_in_order (a ∷ rest)

-- behind the last item, or first where there is none
abbrev pub comes_next : Option Record → Record → Bool
comes_next None a = is_item a && (rank a == 0)
comes_next (Some last) a = is_item a && comes_before last a
