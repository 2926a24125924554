-- Which steps the master takes near a counter's limit: one that might raise a counter past it changes nothing.
use Rattle.std.specs.Prelude.{ℕ, ◌+◌, ◌-◌, ◌*◌, Bool, true, ◌&&◌, ◌||◌, nat_lt, nat_le, if◌then◌else◌, List, length, Option, Some, None}
use Rattle.gfs_types.specs.Counters.{counter_limit}
use Rattle.gfs_types.specs.declared.config.Config.{Config}
use Rattle.messages.specs.declared.event.NodeInput.{NodeInput}
use Rattle.messages.specs.declared.event.NodeInput.TheVariants as input
use Rattle.messages.specs.declared.message.Body.{Body}
use Rattle.messages.specs.declared.message.Body.TheVariants as body
use Rattle.messages.specs.declared.message.Wanted.{Wanted}
use Rattle.messages.specs.declared.message.Wanted.TheVariants as wanted
use Rattle.chunk_table.specs.ChunkTable.{ChunkRow, chunk_of, file_of}
use Rattle.protocol.specs.Tables.{element_at}
use Rattle.protocol.specs.Logged.{Logged}
use Rattle.protocol.specs.Master.{MasterState}
use Rattle.protocol.specs.MasterVersions.{copy_for}

-- more orders, and more files, than there are of one step in any memory
abbrev pub step_counts : ℕ
step_counts = 281_474_976_710_656

-- no step raises such a counter past its limit
abbrev pub is_far : ℕ → Bool
is_far counter = nat_le (counter + step_counts) counter_limit

-- the next chunk takes a handle and its places
abbrev pub has_handle : Config → Logged → Bool
has_handle config l = nat_le (l.next_handle * config.chunk + config.chunk) counter_limit

-- the chunk has a next version number
abbrev pub has_version : ChunkRow → Bool
has_version row = nat_lt row.issued counter_limit

-- A chunk that there isn't yet takes a handle, a shared one a number and a handle for its copy, and any other a number.
abbrev pub counts_for : Config → Logged → Option ChunkRow → Bool
counts_for config l None = has_handle config l
counts_for config l (Some row) = has_version row && (nat_le row.references 1 || has_handle config l)

-- a copy under way takes a number
abbrev pub counts_for_copy : Option ChunkRow → Bool
counts_for_copy None = true
counts_for_copy (Some row) = has_version row

abbrev pub row_under : Logged → Option ℕ → Option ChunkRow
row_under l None = None
row_under l (Some handle) = chunk_of l.table handle

-- what an Ask for this chunk of a file may raise has room
abbrev pub counts_at : Config → Logged → ℕ → List ℕ → ℕ → Bool
counts_at config l file handles index = counts_for config l (row_under l (element_at handles index)) && counts_for_copy (row_under l (copy_for l file index))

-- the index that an append is for: the last chunk's, or the next where that is below the one asked for
abbrev pub append_index : List ℕ → ℕ → ℕ
append_index handles after = if nat_lt after (length handles) then length handles - 1 else length handles

abbrev pub counts_wanted : Config → Logged → ℕ → List ℕ → Wanted → Bool
counts_wanted config l file handles (wanted.Write index) = counts_at config l file handles index
counts_wanted config l file handles (wanted.Append after) = counts_at config l file handles (append_index handles after)
counts_wanted config l file handles other = true

abbrev pub counts_in : Config → Logged → ℕ → Wanted → Option (List ℕ) → Bool
counts_in config l file w None = true
counts_in config l file w (Some handles) = counts_wanted config l file handles w

abbrev pub counts_of : Config → Logged → Body → Bool
counts_of config l (body.Ask number file w deadline lost) = counts_in config l file.0 w (file_of l.table file.0)
counts_of config l other = true

abbrev pub counts_on : Config → Logged → NodeInput → Bool
counts_on config l (input.Deliver x) = counts_of config l x.body
counts_on config l input.Tick = true

-- Each counter that a step on this input may raise has room for it.
abbrev pub can_count : MasterState → NodeInput → Bool
can_count m i = (is_far m.logged.next_file && is_far m.order_count) && counts_on m.config m.logged i
