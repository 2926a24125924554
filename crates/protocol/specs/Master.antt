-- The master: what its log says, and what it knows until it stops (sections 2.4, 2.6 and 3.1).
use Rattle.std.specs.Prelude.{ℕ, suc, ◌-◌, Bool, false, not, ◌&&◌, nat_lt, nat_le, if◌then◌else◌, List, [], ◌∷◌, ◌++◌, filter, Option, Some, None, unwrap_or}
use Rattle.std.specs.List.{filter_map}
use Rattle.std.specs.FinMap as table
use Rattle.gfs_types.specs.declared.config.Config.{Config}
use Rattle.gfs_types.specs.declared.ids.Node.{Node}
use Rattle.gfs_types.specs.declared.ids.Node.TheVariants as node
use Rattle.gfs_types.specs.declared.ids.OrderNo.{OrderNo}
use Rattle.messages.specs.declared.message.Body.{Body}
use Rattle.messages.specs.declared.message.Message.{Message}
use Rattle.log_records.specs.declared.record.Record.{Record}
use Rattle.log_records.specs.declared.record.Record.TheVariants as log
use Rattle.gfs_types.specs.Paths.{Path}
use Rattle.protocol.specs.Tables.{Table, first_numbers, removed_all}
use Rattle.protocol.specs.Sending.{message, the_server}
use Rattle.chunk_table.specs.ChunkTable.{ChunkRow, ChunkTable, set_end}
use Rattle.leases.specs.LeaseEnds.{has_ended}
use Rattle.protocol.specs.LogSizes.{record_fits, checkpoint_fits}
use Rattle.protocol.specs.Logged.{Logged, first_logged, LogDisk, LogChange, AppendRecord, WriteCheckpoint, log_changed, after_record, checkpoint_of, copies_given_up}
use Rattle.protocol.specs.declared.seen.Seen.{Seen}

-- A version number that was issued and is neither granted nor given up: the servers that it was sent to, those that recorded it, and when it was issued.
pub record VersionAttempt : Type 0 where
  pub version : ℕ
  pub servers : List ℕ
  pub recorded : List ℕ
  pub begun : ℕ

-- A snapshot that waits, under its locks, for leases to end.
pub record PendingSnapshot : Type 0 where
  pub client : ℕ
  pub number : ℕ
  pub deadline : ℕ
  pub from : Path
  pub to : Path

pub record MasterState : Type 0 where
  pub config : Config
  pub server_count : ℕ
  pub up : Bool
  pub now : ℕ
  pub disk : LogDisk
  -- of a master that is down: the changes that were under way as it stopped
  pub under_way : List LogChange
  pub logged : Logged
  -- how many orders were sent in this epoch
  pub order_count : ℕ
  pub attempts : Table VersionAttempt
  pub snapshots : List PendingSnapshot
  -- of each server, the versions of its replicas by handle, as far as it told
  pub holders : Table (Table ℕ)
  -- of each server, the moment of its last report
  pub reported : Table ℕ

-- One that is down keeps its disk alone, and the change under way, however far its last step had come.
abbrev pub stopped_master : MasterState → LogDisk → List LogChange → MasterState
stopped_master m disk under_way =
    record {
      config = m.config;
      server_count = m.server_count;
      up = false;
      now = 0;
      disk = disk;
      under_way = under_way;
      logged = first_logged;
      order_count = 0;
      attempts = table.empty;
      snapshots = [];
      holders = table.empty;
      reported = table.empty;
    }

-- A step that is being taken: the master so far, the messages, the changes of the disk in order, what is seen, and which growths of the names are still to be refused.
pub record MasterDoing : Type 0 where
  pub master : MasterState
  pub sent : List Message
  pub changes : List LogChange
  pub seen : List Seen
  pub refused : List Bool

abbrev pub master_begins : MasterState → List Bool → MasterDoing
master_begins m refused = record { master = m; sent = []; changes = []; seen = []; refused = refused }

abbrev pub tells : MasterDoing → Node → Body → MasterDoing
tells d receiver b = record d { sent = d.sent ++ message node.Master receiver b ∷ [] }

-- an order goes to a server under the next number
abbrev pub orders : MasterDoing → ℕ → (OrderNo → Body) → MasterDoing
orders d server b =
    record d {
      sent = d.sent ++ message node.Master (the_server server) (b (record { epoch = d.master.logged.epoch; count = suc d.master.order_count })) ∷ [];
      master = record d.master { order_count = suc d.master.order_count };
    }

abbrev pub with_logged : MasterDoing → Logged → MasterDoing
with_logged d l = record d { master = record d.master { logged = l } }

abbrev pub with_table : MasterDoing → ChunkTable → MasterDoing
with_table d t = with_logged d (record d.master.logged { table = t })

-- the moment at which a chunk's lease ends; 0 ends it
abbrev pub ends_at : MasterDoing → ℕ → ℕ → MasterDoing
ends_at d handle moment = with_table d (set_end d.master.logged.table handle moment)

abbrev pub with_attempt : MasterDoing → ℕ → VersionAttempt → MasterDoing
with_attempt d handle a = record d { master = record d.master { attempts = table.insert d.master.attempts handle a } }

abbrev pub without_attempt : MasterDoing → ℕ → MasterDoing
without_attempt d handle = record d { master = record d.master { attempts = table.remove d.master.attempts handle } }

abbrev pub without_attempts : MasterDoing → List ℕ → MasterDoing
without_attempts d handles = record d { master = record d.master { attempts = removed_all d.master.attempts handles } }

-- copies are given up, with their version attempts
abbrev pub gives_up_copies : MasterDoing → List ℕ → MasterDoing
gives_up_copies d handles = record d { master = record d.master { logged = copies_given_up d.master.logged handles; attempts = removed_all d.master.attempts handles } }

abbrev pub gives_up_copy : MasterDoing → ℕ → MasterDoing
gives_up_copy d handle = gives_up_copies d (handle ∷ [])

-- the disk changes
abbrev pub writes_log : MasterDoing → LogChange → MasterDoing
writes_log d change = record d { master = record d.master { disk = log_changed d.master.disk change }; changes = d.changes ++ change ∷ [] }

-- A record is on the disk, and the state follows.
abbrev pub appends : MasterDoing → Record → MasterDoing
appends d r = with_logged (writes_log d (AppendRecord r)) (after_record d.master.logged r)

abbrev pub fits : MasterDoing → Record → Bool
fits d r = record_fits d.master.config.log_bytes d.master.disk.items d.master.disk.records r

-- the state as a checkpoint is on the disk, and no record after it
abbrev pub stores_checkpoint : MasterDoing → MasterDoing
stores_checkpoint d = writes_log d (WriteCheckpoint (checkpoint_of d.master.logged))

-- a checkpoint gives up each copy under way
abbrev pub writes_checkpoint : MasterDoing → MasterDoing
writes_checkpoint d = gives_up_copies (stores_checkpoint d) (table.keys d.master.logged.copies)

-- whether a record is of a copy that is under way: its number or its grant
abbrev pub is_of_copy : Logged → Record → Bool
is_of_copy l (log.Issue handle version) = table.contains_key l.copies handle.0
is_of_copy l (log.Grant handle version primary members) = table.contains_key l.copies handle.0
is_of_copy l other = false

abbrev pub logs_after_checkpoint : MasterDoing → Record → Bool → (MasterDoing → MasterDoing) → MasterDoing
logs_after_checkpoint d r was_of_copy then_ = if fits d r && not was_of_copy then then_ (appends d r) else d

-- A record is logged, after a checkpoint where there is no room for it, and then what waits for it follows. Where there is no room even so, or the checkpoint gave up the copy that it is of, both are left out.
abbrev pub logs : MasterDoing → Record → (MasterDoing → MasterDoing) → MasterDoing
logs d r then_ =
    if fits d r then then_ (appends d r)
    else (
    if checkpoint_fits d.master.config.log_bytes (checkpoint_of d.master.logged)
    then logs_after_checkpoint (writes_checkpoint d) r (is_of_copy d.master.logged r) then_
    else d)

-- the servers of the cell
abbrev pub servers_of : MasterState → List ℕ
servers_of m = first_numbers m.server_count

-- what the master knows of a server's replicas
abbrev pub held_by : MasterState → ℕ → Table ℕ
held_by m server = unwrap_or (table.get m.holders server) table.empty

abbrev pub version_held : MasterState → ℕ → ℕ → Option ℕ
version_held m handle server = table.get (held_by m server) handle

-- a server is present while its last report is younger than a lease
abbrev pub is_present : MasterState → ℕ → Bool
is_present m server = nat_lt (m.now - unwrap_or (table.get m.reported server) 0) m.config.lease_ms

abbrev pub chunks_held : MasterState → ℕ → ℕ
chunks_held m server = table.len (held_by m server)

-- A server with the version of its replica of a chunk.
pub record HeldAt : Type 0 where
  pub server : ℕ
  pub version : ℕ

abbrev pub held_where : (ℕ → Bool) → ℕ → Option ℕ → Option HeldAt
held_where test server None = None
held_where test server (Some version) = if test version then Some (record { server = server; version = version }) else None

-- the servers that hold a version which passes the test, in rising number
abbrev pub holders_where : MasterState → ℕ → (ℕ → Bool) → List HeldAt
holders_where m handle test = filter_map (λ s. held_where test s (version_held m handle s)) (servers_of m)

-- a holder is current where its version is at least the granted one
abbrev pub current_holders : MasterState → ℕ → ChunkRow → List HeldAt
current_holders m handle row = holders_where m handle (λ v. nat_le row.granted v)

abbrev pub present_current_holders : MasterState → ℕ → ChunkRow → List HeldAt
present_current_holders m handle row = filter (λ h. is_present m h.server) (current_holders m handle row)

-- the lease of a chunk that was granted has not ended
abbrev pub has_lease : MasterState → ChunkRow → Bool
has_lease m row = nat_lt 0 row.granted && not (has_ended row m.now)
