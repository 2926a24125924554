-- How the master issues version numbers, copies shared chunks and grants leases (sections 3.1, 3.4 and 4.5).
use Rattle.std.specs.Prelude.{ℕ, suc, ◌+◌, ◌-◌, Bool, true, false, ◌==◌, ◌&&◌, nat_lt, if◌then◌else◌, List, [], ◌∷◌, ◌++◌, map, filter, take, Option, Some, None, is_some}
use Rattle.std.specs.FinMap as table
use Rattle.gfs_types.specs.declared.ids.Node.{Node}
use Rattle.gfs_types.specs.declared.ids.OrderNo.{OrderNo}
use Rattle.messages.specs.declared.message.Body.{Body}
use Rattle.messages.specs.declared.message.Body.TheVariants as body
use Rattle.messages.specs.declared.message.Holder.{Holder}
use Rattle.messages.specs.declared.message.Group.{Group}
use Rattle.log_records.specs.declared.record.Record.TheVariants as log
use Rattle.protocol.specs.Tables.{ranked, rising, first_of_list, same_numbers, with_number, has_number}
use Rattle.protocol.specs.Sending.{server_id, file_id, handle_of, version_of, moment_of}
use Rattle.chunk_table.specs.ChunkTable.{ChunkRow, ChunkTable, chunk_of, shape_in}
use Rattle.protocol.specs.Logged.{Logged, copies_that}
use Rattle.protocol.specs.declared.seen.Seen.TheVariants.{CopyStarted}
use Rattle.protocol.specs.Master.{MasterState, MasterDoing, VersionAttempt, HeldAt, tells, orders, logs, with_attempt, without_attempt, gives_up_copy, ends_at, servers_of, version_held, is_present, chunks_held, holders_where, current_holders, present_current_holders, has_lease}
use Rattle.protocol.specs.MasterSnapshots.{waits_for}

-- Who asked, for which chunk of which file.
pub record Asker : Type 0 where
  pub client : Node
  pub number : ℕ
  pub file : ℕ
  pub index : ℕ

abbrev pub holder_line : HeldAt → Holder
holder_line h = record { server = server_id h.server; version = version_of h.version }

-- the primary with its members, where there is one
abbrev pub group_of : MasterState → ChunkRow → Option Group
group_of m row = if has_lease m row then Some (record { primary = server_id row.primary; members = row.members }) else None

abbrev pub tells_location : MasterDoing → Asker → ℕ → ChunkRow → List Holder → MasterDoing
tells_location d a handle row holders =
    tells d a.client (body.Told a.number (Some (record { index = a.index; handle = handle_of handle; round = version_of row.granted; shape = row.shape; holders = holders; group = group_of d.master row })))

-- the chunk's current holders, and its primary
abbrev pub tells_holders : MasterDoing → Asker → ℕ → ChunkRow → MasterDoing
tells_holders d a handle row = tells_location d a handle row (map holder_line (current_holders d.master handle row))

-- there is no such chunk
abbrev pub tells_none : MasterDoing → Asker → MasterDoing
tells_none d a = tells d a.client (body.Told a.number None)

abbrev pub tells_to_wait : MasterDoing → Asker → MasterDoing
tells_to_wait d a = tells d a.client (body.Wait a.number)

-- A server that is to get a version number, with the version that it must hold; without one it makes a new replica.
pub record VersionTarget : Type 0 where
  pub server : ℕ
  pub base : Option ℕ

abbrev pub holder_target : HeldAt → VersionTarget
holder_target h = record { server = h.server; base = Some h.version }

abbrev pub target_servers : List VersionTarget → List ℕ
target_servers targets = map (λ t. t.server) targets

-- the present servers with the fewest chunks, then the lowest numbers, up to the chunk's goal
abbrev pub placement : MasterState → ChunkRow → List ℕ
placement m row = rising (take row.shape.goal (ranked (chunks_held m) (filter (is_present m) (servers_of m))))

-- a chunk that was never granted is placed anew
abbrev pub placed_targets : MasterState → ℕ → ChunkRow → List VersionTarget
placed_targets m handle row = map (λ s. record { server = s; base = version_held m handle s }) (placement m row)

-- the order that gives a server its number
abbrev pub version_order : ℕ → ℕ → Option ℕ → OrderNo → Body
version_order handle version None order = body.Create order (handle_of handle) (version_of version)
version_order handle version (Some base) order = body.SetVersion order (handle_of handle) (version_of version) (version_of base)

abbrev pub sends_versions : MasterDoing → ℕ → ℕ → List VersionTarget → MasterDoing
sends_versions d handle version [] = d
sends_versions d handle version (t ∷ rest) = sends_versions (orders d t.server (version_order handle version t.base)) handle version rest

abbrev pub new_attempt : MasterState → ℕ → List VersionTarget → VersionAttempt
new_attempt m version targets = record { version = version; servers = target_servers targets; recorded = []; begun = m.now }

-- a number that is on the disk is sent to its set, and the client waits
abbrev pub sends_issued : MasterDoing → Asker → ℕ → ℕ → List VersionTarget → MasterDoing
sends_issued d a handle version targets = tells_to_wait (sends_versions (with_attempt d handle (new_attempt d.master version targets)) handle version targets) a

-- The next number is logged, then sent to one set of servers; while the set would be empty, none is issued.
abbrev pub issues_to : MasterDoing → Asker → ℕ → ChunkRow → ℕ → ChunkRow → List VersionTarget → MasterDoing
issues_to d a own own_row handle row [] = tells_location d a own own_row []
issues_to d a own own_row handle row targets =
    logs d (log.Issue (handle_of handle) (version_of (suc row.issued))) (λ e. sends_issued e a handle (suc row.issued) targets)

-- those that hold the last number, where it isn't granted
abbrev pub recorded_holders : MasterState → ℕ → ChunkRow → List HeldAt
recorded_holders m handle row = if nat_lt row.granted row.issued then holders_where m handle (λ v. v == row.issued) else []

-- where none did: the present current holders of a chunk that was granted, else a new placement
abbrev pub targets_by : MasterState → ℕ → ChunkRow → List HeldAt → List VersionTarget
targets_by m handle row [] = if nat_lt 0 row.granted then map holder_target (present_current_holders m handle row) else placed_targets m handle row
targets_by m handle row holders = map holder_target holders

abbrev pub issues_own : MasterDoing → Asker → ℕ → ChunkRow → Bool → MasterDoing
issues_own d a handle row true = tells_to_wait d a
issues_own d a handle row false = issues_to d a handle row handle row (targets_by d.master handle row (recorded_holders d.master handle row))

abbrev pub is_attempted : MasterState → ℕ → Bool
is_attempted m handle = table.contains_key m.attempts handle

abbrev pub copy_order : ℕ → ℕ → ℕ → Option ℕ → OrderNo → Body
copy_order handle copy version None order = body.Create order (handle_of copy) (version_of version)
copy_order handle copy version (Some held) order = body.CopyLocal order (handle_of handle) (version_of held) (handle_of copy) (version_of version)

abbrev pub sends_copies : MasterDoing → ℕ → ℕ → ℕ → List VersionTarget → MasterDoing
sends_copies d handle copy version [] = d
sends_copies d handle copy version (t ∷ rest) = sends_copies (orders d t.server (copy_order handle copy version t.base)) handle copy version rest

-- each current holder copies; a chunk that was never granted is placed anew
abbrev pub copy_targets : MasterState → ℕ → ChunkRow → List VersionTarget
copy_targets m handle row =
    if nat_lt 0 row.granted then map holder_target (current_holders m handle row)
    else map (λ s. record { server = s; base = None }) (placement m row)

-- a copy that is on the disk is ordered, and the client waits
abbrev pub sends_copy_started : MasterDoing → Asker → ℕ → ℕ → ℕ → List VersionTarget → MasterDoing
sends_copy_started d a handle copy version targets =
    let seen : MasterDoing = record d { seen = d.seen ++ CopyStarted (handle_of handle) (handle_of copy) ∷ [] } in
    tells_to_wait (sends_copies (with_attempt seen copy (new_attempt d.master version targets)) handle copy version targets) a

abbrev pub copies_to : MasterDoing → Asker → ℕ → ChunkRow → List VersionTarget → MasterDoing
copies_to d a handle row [] = tells_location d a handle row []
copies_to d a handle row targets =
    let copy : ℕ = d.master.logged.next_handle in
    logs d (log.CopyStart (file_id a.file) a.index (handle_of handle) (handle_of copy) (version_of (suc row.issued)))
    (λ e. sends_copy_started e a handle copy (suc row.issued) targets)

-- A shared chunk is copied at the next write by one owner, under a new handle whose first version follows the old handle's issued one.
abbrev pub begins_copy : MasterDoing → Asker → ℕ → ChunkRow → MasterDoing
begins_copy d a handle row = copies_to d a handle row (copy_targets d.master handle row)

-- the copy under way for this chunk of this file
abbrev pub copy_for : Logged → ℕ → ℕ → Option ℕ
copy_for l file index = first_of_list (copies_that l (λ c. (c.file == file) && (c.index == index)))

abbrev pub is_copied : Logged → ℕ → Bool
is_copied l handle = is_some (first_of_list (copies_that l (λ c. c.source == handle)))

-- no copy is under way for this owner
abbrev pub wants_own : MasterDoing → Asker → ℕ → ChunkRow → MasterDoing
wants_own d a handle row =
    if nat_lt 1 row.references then begins_copy d a handle row
    else (if is_copied d.master.logged handle then tells_to_wait d a else issues_own d a handle row (is_attempted d.master handle))

abbrev pub wants_own_of : MasterDoing → Asker → ℕ → Option ChunkRow → MasterDoing
wants_own_of d a handle None = d
wants_own_of d a handle (Some row) = wants_own d a handle row

-- A copy whose number was given up: the next number goes to those that recorded it. Where none did, the copy is given up.
abbrev pub issues_copy : MasterDoing → Asker → ℕ → ChunkRow → ℕ → ChunkRow → List HeldAt → MasterDoing
issues_copy d a handle row copy copy_row [] = let given_up : MasterDoing = gives_up_copy d copy in wants_own_of given_up a handle (chunk_of given_up.master.logged.table handle)
issues_copy d a handle row copy copy_row holders = issues_to d a handle row copy copy_row (map holder_target holders)

abbrev pub wants_copy : MasterDoing → Asker → ℕ → ChunkRow → ℕ → Option ChunkRow → MasterDoing
wants_copy d a handle row copy None = wants_own d a handle row
wants_copy d a handle row copy (Some copy_row) =
    if is_attempted d.master copy then tells_to_wait d a
    else issues_copy d a handle row copy copy_row (holders_where d.master copy (λ v. v == copy_row.issued))

abbrev pub wants_by : MasterDoing → Asker → ℕ → ChunkRow → Option ℕ → MasterDoing
wants_by d a handle row None = wants_own d a handle row
wants_by d a handle row (Some copy) = wants_copy d a handle row copy (chunk_of d.master.logged.table copy)

-- A write or append needs a primary, and the last lease has ended.
abbrev pub wants_primary : MasterDoing → Asker → ℕ → ChunkRow → MasterDoing
wants_primary d a handle row =
    if waits_for d.master handle then tells_to_wait d a else wants_by d a handle row (copy_for d.master.logged a.file a.index)

-- how many bytes a chunk has at most
abbrev pub chunk_size_of : ChunkTable → ℕ → ℕ
chunk_size_of t handle = (shape_in (chunk_of t handle)).chunk

-- a grant that is on the disk is sent to the primary, with the size of the chunk; the lease ends a lease's time from now
abbrev pub sends_grant : MasterDoing → ℕ → ℕ → ℕ → List ℕ → MasterDoing
sends_grant d handle version primary members =
    let until : ℕ = d.master.now + d.master.config.lease_ms in
    orders (ends_at (without_attempt d handle) handle until) primary
    (λ order. body.Grant order (handle_of handle) (version_of version) (moment_of until) (chunk_size_of d.master.logged.table handle) members)

-- At the grant the version, the primary and the members are logged, and one Grant is sent.
abbrev pub grants : MasterDoing → ℕ → VersionAttempt → ℕ → List ℕ → MasterDoing
grants d handle a primary members =
    logs d (log.Grant (handle_of handle) (version_of a.version) (server_id primary) members) (λ e. sends_grant e handle a.version primary members)

abbrev pub grants_to : MasterDoing → ℕ → VersionAttempt → List ℕ → MasterDoing
grants_to d handle a [] = d
grants_to d handle a (primary ∷ rest) = grants d handle a primary (primary ∷ rest)

-- a number is granted only when all of the set have recorded it, in time
abbrev pub is_complete : MasterState → VersionAttempt → Bool
is_complete m a = same_numbers a.servers a.recorded && nat_lt (m.now - a.begun) m.config.attempt_ms

abbrev pub with_recorded : MasterDoing → ℕ → VersionAttempt → MasterDoing
with_recorded d handle a = if is_complete d.master a then grants_to (with_attempt d handle a) handle a (rising a.servers) else with_attempt d handle a

abbrev pub learns_attempt : MasterDoing → ℕ → ℕ → ℕ → Option ChunkRow → Option VersionAttempt → MasterDoing
learns_attempt d server handle version None a = d
learns_attempt d server handle version (Some row) None = d
learns_attempt d server handle version (Some row) (Some a) =
    if (a.version == version) && has_number a.servers server then with_recorded d handle (record a { recorded = with_number a.recorded server }) else d

-- A server says that it holds this version.
abbrev pub learns : MasterDoing → ℕ → ℕ → ℕ → MasterDoing
learns d server handle version = learns_attempt d server handle version (chunk_of d.master.logged.table handle) (table.get d.master.attempts handle)
