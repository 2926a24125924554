-- A snapshot waits under its locks until the leases of all chunks concerned have ended; then it is logged, and the chunks are shared (section 3.4).
use Rattle.std.specs.Prelude.{ℕ, Bool, true, false, not, ◌==◌, ◌&&◌, nat_lt, if◌then◌else◌, List, [], ◌∷◌, ◌++◌, filter, flat_map, Option, Some, None}
use Rattle.std.specs.List.{list_any, list_all}
use Rattle.gfs_types.specs.declared.call.Call.{Call}
use Rattle.gfs_types.specs.declared.call.Call.TheVariants as call
use Rattle.gfs_types.specs.declared.answer.Answer.{Answer}
use Rattle.gfs_types.specs.declared.answer.Answer.TheVariants as answer
use Rattle.gfs_types.specs.declared.refusal.Refusal.{Refusal}
use Rattle.gfs_types.specs.declared.refusal.Refusal.TheVariants.{NamesFull}
use Rattle.messages.specs.declared.message.NameReply.TheVariants.{Answered}
use Rattle.messages.specs.declared.message.Body.TheVariants as body
use Rattle.log_records.specs.declared.record.Record.{Record}
use Rattle.log_records.specs.declared.record.Record.TheVariants as log
use Rattle.relaxed_file.specs.Names.{Node, Dir, File, copied_entries}
use Rattle.relaxed_file.specs.NameStep.{needs_room}
use Rattle.protocol.specs.Tables.{has_number, rising}
use Rattle.protocol.specs.Sending.{the_client, client_id, handle_of, version_of}
use Rattle.chunk_table.specs.ChunkTable.{ChunkRow, ChunkTable, handles_of, chunk_of}
use Rattle.protocol.specs.Logged.{Logged, copies_that}
use Rattle.protocol.specs.Master.{MasterState, MasterDoing, PendingSnapshot, tells, orders, logs, without_attempts, gives_up_copies, has_lease}
use Rattle.leases.specs.LeaseEnds.{has_ended}

abbrev pub node_handles : ChunkTable → Node → List ℕ
node_handles t Dir = []
node_handles t (File id) = handles_of t id

-- the chunks concerned, also those that were added meanwhile
abbrev pub snapshot_handles : MasterState → PendingSnapshot → List ℕ
snapshot_handles m s = rising (flat_map (λ e. node_handles m.logged.table e.1) (copied_entries m.logged.names s.from s.to))

abbrev pub node_files : Node → List ℕ
node_files Dir = []
node_files (File id) = id ∷ []

-- the files that it copies
abbrev pub snapshot_files : MasterState → PendingSnapshot → List ℕ
snapshot_files m s = flat_map (λ e. node_files e.1) (copied_entries m.logged.names s.from s.to)

-- whether a snapshot waits for this chunk
abbrev pub waits_for : MasterState → ℕ → Bool
waits_for m handle = list_any (λ s. has_number (snapshot_handles m s) handle) m.snapshots

abbrev pub revokes_row : MasterDoing → ℕ → Option ChunkRow → MasterDoing
revokes_row d handle None = d
revokes_row d handle (Some row) = if has_lease d.master row then orders d row.primary (λ order. body.Revoke order (handle_of handle) (version_of row.granted)) else d

-- the primary is to end its lease
abbrev pub revokes : MasterDoing → ℕ → MasterDoing
revokes d handle = revokes_row d handle (chunk_of d.master.logged.table handle)

abbrev pub revokes_all : MasterDoing → List ℕ → MasterDoing
revokes_all d [] = d
revokes_all d (handle ∷ rest) = revokes_all (revokes d handle) rest

-- the copies under way for chunks of these files; another owner's copy of the same chunk goes on
abbrev pub copies_for_files : Logged → List ℕ → List ℕ
copies_for_files l files = copies_that l (λ c. has_number files c.file)

-- the locks are taken
abbrev pub takes_locks : MasterDoing → PendingSnapshot → MasterDoing
takes_locks d s = record d { master = record d.master { snapshots = d.master.snapshots ++ s ∷ [] } }

-- The locks are taken; version attempts of the chunks and copies for the files are given up, and leases are revoked.
abbrev pub begins_snapshot : MasterDoing → PendingSnapshot → MasterDoing
begins_snapshot d s =
    let handles : List ℕ = snapshot_handles d.master s in
    let given_up : MasterDoing = gives_up_copies (without_attempts (takes_locks d s) handles) (copies_for_files d.master.logged (snapshot_files d.master s)) in
    revokes_all given_up handles

abbrev pub reply_of : Option Refusal → Answer
reply_of None = answer.Done
reply_of (Some refusal) = answer.Refused refusal

-- the answer to a changing name call
abbrev pub answers_name : MasterDoing → ℕ → ℕ → Option Refusal → MasterDoing
answers_name d client number refusal = tells d (the_client client) (body.Named number (Answered (reply_of refusal)))

-- A record of a name call is logged, and then the call is answered.
abbrev pub settles_name : MasterDoing → ℕ → ℕ → Record → Option Refusal → MasterDoing
settles_name d client number entry refusal = logs d entry (λ e. answers_name e client number refusal)

abbrev pub refuses_name : MasterDoing → ℕ → ℕ → Refusal → MasterDoing
refuses_name d client number refusal = settles_name d client number (log.Refused (client_id client) number refusal) (Some refusal)

abbrev pub first_is_true : List Bool → Bool
first_is_true [] = false
first_is_true (b ∷ rest) = b

abbrev pub all_but_first : List Bool → List Bool
all_but_first [] = []
all_but_first (b ∷ rest) = rest

-- A call that needs room for names is refused where an allocator refused it.
abbrev pub changes_names : MasterDoing → ℕ → ℕ → Call → Record → MasterDoing
changes_names d client number c entry =
    if needs_room c then (
    let tried : MasterDoing = record d { refused = all_but_first d.refused } in
    if first_is_true d.refused then refuses_name tried client number NamesFull else settles_name tried client number entry None)
    else settles_name d client number entry None

abbrev pub row_has_ended : ℕ → Option ChunkRow → Bool
row_has_ended now None = true
row_has_ended now (Some row) = has_ended row now

-- no lease of the chunks concerned is left to end
abbrev pub is_ready : MasterState → PendingSnapshot → Bool
is_ready m s = list_all (λ handle. row_has_ended m.now (chunk_of m.logged.table handle)) (snapshot_handles m s)

abbrev pub is_same_snapshot : PendingSnapshot → PendingSnapshot → Bool
is_same_snapshot a b = (a.client == b.client) && (a.number == b.number)

-- the locks go back
abbrev pub lets_go : MasterDoing → PendingSnapshot → MasterDoing
lets_go d s = record d { master = record d.master { snapshots = filter (λ other. not (is_same_snapshot s other)) d.master.snapshots } }

abbrev pub takes_snapshot : MasterDoing → PendingSnapshot → MasterDoing
takes_snapshot d s = changes_names (lets_go d s) s.client s.number (call.Snapshot s.from s.to) (log.Snapshot (client_id s.client) s.number s.from s.to)

-- each snapshot that is ready is taken
abbrev pub takes_ready : MasterDoing → List PendingSnapshot → MasterDoing
takes_ready d [] = d
takes_ready d (s ∷ rest) = takes_ready (if is_ready d.master s then takes_snapshot d s else d) rest

-- at its request's deadline a snapshot is given up
abbrev pub live_snapshots : ℕ → List PendingSnapshot → List PendingSnapshot
live_snapshots now snapshots = filter (λ s. nat_lt now s.deadline) snapshots
