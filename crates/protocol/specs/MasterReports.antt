-- What servers tell the master: they report their replicas, which it doesn't log (sections 2.6.2, 4.4 and 4.5).
use Rattle.std.specs.Prelude.{ℕ, ◌+◌, Bool, true, not, ◌==◌, ◌&&◌, nat_lt, if◌then◌else◌, List, [], ◌∷◌, map, Option, Some, None}
use Rattle.std.specs.FinMap as table
use Rattle.messages.specs.declared.message.Body.TheVariants as body
use Rattle.messages.specs.declared.message.ReplicaLine.{ReplicaLine}
use Rattle.messages.specs.declared.message.LeaseLine.{LeaseLine}
use Rattle.protocol.specs.Sending.{the_server, moment_of}
use Rattle.chunk_table.specs.ChunkTable.{ChunkRow, chunk_of}
use Rattle.protocol.specs.Master.{MasterState, MasterDoing, tells, orders, ends_at, held_by, has_lease}
use Rattle.protocol.specs.MasterSnapshots.{waits_for}
use Rattle.protocol.specs.MasterVersions.{learns}

-- a server holds this version
abbrev pub holds_now : MasterDoing → ℕ → ℕ → ℕ → MasterDoing
holds_now d server handle version =
    record d { master = record d.master { holders = table.insert d.master.holders server (table.insert (held_by d.master server) handle version) } }

-- a Recorded
abbrev pub takes_recorded : MasterDoing → ℕ → ℕ → ℕ → MasterDoing
takes_recorded d server handle version = learns (holds_now d server handle version) server handle version

-- a Cloned
abbrev pub takes_cloned : MasterDoing → ℕ → ℕ → ℕ → MasterDoing
takes_cloned d server handle version = holds_now d server handle version

abbrev pub revoked_row : MasterDoing → ℕ → ℕ → ℕ → Option ChunkRow → MasterDoing
revoked_row d server handle version None = d
revoked_row d server handle version (Some row) = if (row.granted == version) && (row.primary == server) then ends_at d handle 0 else d

-- its primary's Revoked ends the lease at the master
abbrev pub takes_revoked : MasterDoing → ℕ → ℕ → ℕ → MasterDoing
takes_revoked d server handle version = revoked_row d server handle version (chunk_of d.master.logged.table handle)

-- whether a reported replica is unknown, or older than the granted version
abbrev pub is_useless : ℕ → Option ChunkRow → Bool
is_useless version None = true
is_useless version (Some row) = nat_lt version row.granted

-- a Drop for each useless replica
abbrev pub drops_useless : MasterDoing → ℕ → List ReplicaLine → MasterDoing
drops_useless d server [] = d
drops_useless d server (line ∷ rest) =
    drops_useless
    (if is_useless line.version.0 (chunk_of d.master.logged.table line.handle.0) then orders d server (λ order. body.Drop order line.handle line.version) else d)
    server rest

abbrev pub learns_all : MasterDoing → ℕ → List ReplicaLine → MasterDoing
learns_all d server [] = d
learns_all d server (line ∷ rest) = learns_all (learns d server line.handle.0 line.version.0) server rest

-- a primary asks for more of a lease that has not ended, of a chunk that no snapshot waits for
abbrev pub may_extend : MasterState → ℕ → LeaseLine → ChunkRow → Bool
may_extend m server line row =
    line.was_used_since_report && (row.granted == line.version.0) && (row.primary == server) && has_lease m row && not (waits_for m line.handle.0)

-- It gets a later end.
abbrev pub extends_row : MasterDoing → ℕ → LeaseLine → Option ChunkRow → MasterDoing
extends_row d server line None = d
extends_row d server line (Some row) =
    let until : ℕ = d.master.now + d.master.config.lease_ms in
    if may_extend d.master server line row && nat_lt row.lease_end until
    then tells (ends_at d line.handle.0 until) (the_server server) (body.Extend line.handle line.version (moment_of until))
    else d

abbrev pub extends_all : MasterDoing → ℕ → List LeaseLine → MasterDoing
extends_all d server [] = d
extends_all d server (line ∷ rest) = extends_all (extends_row d server line (chunk_of d.master.logged.table line.handle.0)) server rest

-- the server is present, and holds what it reports and nothing else
abbrev pub hears : MasterDoing → ℕ → List ReplicaLine → MasterDoing
hears d server replicas =
    record d {
      master = record d.master {
        reported = table.insert d.master.reported server d.master.now;
        holders = table.insert d.master.holders server (table.from_entries (map (λ line. (line.handle.0, line.version.0)) replicas));
      };
    }

-- a Report
abbrev pub takes_report : MasterDoing → ℕ → List ReplicaLine → List LeaseLine → MasterDoing
takes_report d server replicas leases = extends_all (learns_all (drops_useless (hears d server replicas) server replicas) server replicas) server leases
