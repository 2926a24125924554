-- Why a change of the table is refused: the first cause that holds.
use Rattle.std.specs.Prelude.{◌≡◌, ℕ, ◌+◌, Bool, ◌&&◌, ◌==◌, nat_lt, nat_le, if◌then◌else◌, List, length, Option, Some, None, unwrap_or, Result, MatchResult}
use Rattle.std.specs.List.{list_all}
use Rattle.chunk_table.specs.declared.fault.TableFault.{TableFault}
use Rattle.chunk_table.specs.declared.fault.TableFault.TheVariants.{NoFile, NoChunk, NoIndex, NotIssued, Owned, Exists, NotGiven, Limit, NoMemory}
use Rattle.gfs_types.specs.Counters.{counter_limit}
use Rattle.chunk_table.specs.ChunkTable.{ChunkRow, TableState, file_of, chunk_of}
use Rattle.chunk_table.specs.Owners.{all_owners}

-- a call that takes memory: done only where nothing refuses it, and refused for that cause or, where there is none, for want of memory
abbrev pub RefusedFor : {A : Type 0} → Result A TableFault → Option TableFault → Type 0
RefusedFor r refusal = MatchResult r (λ _. refusal ≡ None) (λ e. e ≡ unwrap_or refusal NoMemory)

-- a call that takes no memory
abbrev pub RefusedExactly : {A : Type 0} → Result A TableFault → Option TableFault → Type 0
RefusedExactly r refusal = MatchResult r (λ _. refusal ≡ None) (λ e. refusal ≡ Some e)

abbrev pub limit_unless : Bool → Option TableFault
limit_unless fits = if fits then None else Some Limit

abbrev pub add_file_refusal : TableState → Option TableFault
add_file_refusal s = limit_unless (nat_lt s.next_file counter_limit)

abbrev pub add_chunk_refusal_of : TableState → Option (List ℕ) → Option TableFault
add_chunk_refusal_of s None = Some NoFile
add_chunk_refusal_of s (Some handles) = limit_unless (nat_lt s.next_handle counter_limit && nat_lt (all_owners s.table.files) counter_limit)

abbrev pub add_chunk_refusal : TableState → ℕ → Option TableFault
add_chunk_refusal s file = add_chunk_refusal_of s (file_of s.table file)

abbrev pub issue_refusal_of : Option ChunkRow → Option TableFault
issue_refusal_of None = Some NoChunk
issue_refusal_of (Some row) = limit_unless (nat_lt row.issued counter_limit)

abbrev pub issue_refusal : TableState → ℕ → Option TableFault
issue_refusal s handle = issue_refusal_of (chunk_of s.table handle)

abbrev pub grant_refusal_of : ℕ → Option ChunkRow → Option TableFault
grant_refusal_of version None = Some NoChunk
grant_refusal_of version (Some row) = if (row.issued == version) && nat_lt row.granted version then None else Some NotIssued

-- only the version that was issued last is granted, and only once
abbrev pub grant_refusal : TableState → ℕ → ℕ → Option TableFault
grant_refusal s handle version = grant_refusal_of version (chunk_of s.table handle)

abbrev pub put_row_refusal_of : ℕ → ℕ → Option ChunkRow → Option TableFault
put_row_refusal_of granted issued None = Some NoChunk
put_row_refusal_of granted issued (Some row) = if nat_lt issued granted then Some NotIssued else limit_unless (nat_le issued counter_limit)

-- a granted version was issued
abbrev pub put_row_refusal : TableState → ℕ → ℕ → ℕ → Option TableFault
put_row_refusal s handle granted issued = put_row_refusal_of granted issued (chunk_of s.table handle)

-- no counter falls
abbrev pub counters_refusal : TableState → ℕ → ℕ → Option TableFault
counters_refusal s next_file next_handle =
    limit_unless (nat_le s.next_file next_file && nat_le next_file counter_limit && nat_le s.next_handle next_handle && nat_le next_handle counter_limit)

-- numbers are given out from 1
abbrev pub is_given : ℕ → ℕ → Bool
is_given next number = nat_le 1 number && nat_lt number next

abbrev pub put_file_refusal_of : TableState → ℕ → List ℕ → Option (List ℕ) → Option TableFault
put_file_refusal_of s file handles (Some old) = Some Exists
put_file_refusal_of s file handles None =
    if is_given s.next_file file && list_all (is_given s.next_handle) handles
    then limit_unless (nat_le (all_owners s.table.files + length handles) counter_limit) else Some NotGiven

-- a file that the table does not have; its number and its chunks' handles were given out
abbrev pub put_file_refusal : TableState → ℕ → List ℕ → Option TableFault
put_file_refusal s file handles = put_file_refusal_of s file handles (file_of s.table file)

abbrev pub share_refusal_of : TableState → Option (List ℕ) → Option TableFault
share_refusal_of s None = Some NoFile
share_refusal_of s (Some handles) = limit_unless (nat_lt s.next_file counter_limit && nat_le (all_owners s.table.files + length handles) counter_limit)

abbrev pub share_refusal : TableState → ℕ → Option TableFault
share_refusal s file = share_refusal_of s (file_of s.table file)

abbrev pub unowned_refusal : Option ChunkRow → Option TableFault
unowned_refusal None = Some NoChunk
unowned_refusal (Some row) = if row.references == 0 then None else Some Owned

abbrev pub swap_refusal_of : TableState → ℕ → ℕ → Option (List ℕ) → Option TableFault
swap_refusal_of s index to None = Some NoFile
swap_refusal_of s index to (Some handles) = if nat_lt index (length handles) then unowned_refusal (chunk_of s.table to) else Some NoIndex

abbrev pub swap_refusal : TableState → ℕ → ℕ → ℕ → Option TableFault
swap_refusal s file index to = swap_refusal_of s index to (file_of s.table file)

abbrev pub drop_refusal_of : Option (List ℕ) → Option TableFault
drop_refusal_of None = Some NoFile
drop_refusal_of (Some handles) = None

abbrev pub drop_refusal : TableState → ℕ → Option TableFault
drop_refusal s file = drop_refusal_of (file_of s.table file)

abbrev pub start_copy_refusal_of : TableState → Option ChunkRow → Option TableFault
start_copy_refusal_of s None = Some NoChunk
start_copy_refusal_of s (Some row) = limit_unless (nat_lt row.issued counter_limit && nat_lt s.next_handle counter_limit)

abbrev pub start_copy_refusal : TableState → ℕ → Option TableFault
start_copy_refusal s handle = start_copy_refusal_of s (chunk_of s.table handle)

abbrev pub give_up_copy_refusal : TableState → ℕ → Option TableFault
give_up_copy_refusal s handle = unowned_refusal (chunk_of s.table handle)

-- the version that follows the source's issued one
abbrev pub version_after : Option ChunkRow → ℕ
version_after None = 0
version_after (Some row) = row.issued + 1
