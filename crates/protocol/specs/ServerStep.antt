-- A step of a chunkserver (sections 2.3 and 2.6.2).
use Rattle.std.specs.Prelude.{ℕ, max, false, if◌then◌else◌, [], map, filter, None}
use Rattle.std.specs.FinMap as table
use Rattle.gfs_types.specs.declared.ids.Node.TheVariants.{Master}
use Rattle.messages.specs.declared.message.Body.{Body}
use Rattle.messages.specs.declared.message.Body.TheVariants as body
use Rattle.messages.specs.declared.message.Message.{Message}
use Rattle.messages.specs.declared.message.ReplicaLine.{ReplicaLine}
use Rattle.messages.specs.declared.message.LeaseLine.{LeaseLine}
use Rattle.messages.specs.declared.event.NodeInput.{NodeInput}
use Rattle.messages.specs.declared.event.NodeInput.TheVariants as input
use Rattle.protocol.specs.Tables.{Table, kept_where, map_values}
use Rattle.protocol.specs.Choice.{Choice, Ending, Goes, Lost, Stops, in_order, decided_changes, made_changes, change_under_way}
use Rattle.protocol.specs.Sending.{handle_of, version_of, server_number}
use Rattle.replica_store.specs.Replicas.{Replica, ServerDisk, disk_changed_by_all}
use Rattle.leases.specs.LeaseHeld.{counts_at}
use Rattle.primary_order.specs.SerialOrder.{SerialOrder}
use Rattle.protocol.specs.Seen.{is_numbering, Taken, no_output, down_output, no_step}
use Rattle.protocol.specs.Server.{ServerState, ServerDoing, started_server, stopped_server, server_begins, sends}
use Rattle.protocol.specs.ServerReads.{takes_read, takes_len, takes_copy_ask}
use Rattle.protocol.specs.ServerWrites.{takes_push, takes_mutate, takes_forward, takes_acked, takes_nacked}
use Rattle.protocol.specs.ServerOrders.{on_order, takes_create, takes_set_version, takes_grant, takes_extend, takes_revoke, takes_drop, takes_clone, takes_image, takes_copy_local}

abbrev pub replica_line : ℕ × Replica → ReplicaLine
replica_line e = record { handle = handle_of e.0; version = version_of e.1.version }

abbrev pub lease_line : ℕ × SerialOrder → LeaseLine
lease_line e = record { handle = handle_of e.0; version = version_of e.1.held.version; was_used_since_report = e.1.was_used_since_report }

abbrev pub asks_no_more : SerialOrder → SerialOrder
asks_no_more p = record p { was_used_since_report = false }

-- the leases that count now
abbrev pub counting_leases : ServerState → Table SerialOrder
counting_leases s = kept_where (λ e. counts_at s.config.skew_ms e.1.held s.now) s.leases

-- At a tick a lease that no longer counts is forgotten, and the server reports its replicas and leases to the master.
abbrev pub server_ticks : ServerDoing → ServerDoing
server_ticks d =
    let leases : Table SerialOrder = counting_leases d.server in
    record (sends d Master (body.Report (map replica_line (table.entries d.server.disk.replicas)) (map lease_line (table.entries leases)))) {
      server = record d.server { leases = map_values asks_no_more leases };
    }

abbrev pub server_takes : ServerDoing → Message → Body → ServerDoing
server_takes d m (body.Push id bytes rest) = takes_push d id bytes rest
server_takes d m (body.Mutate id handle version target deadline) = takes_mutate d id handle.0 version.0 target deadline.0
server_takes d m (body.Read number handle version offset count) = takes_read d m.sender number handle.0 version.0 offset count
server_takes d m (body.Len number handle version) = takes_len d m.sender number handle.0 version.0
server_takes d m (body.Forward handle version serial id chunk change) = takes_forward d m.sender handle.0 version.0 serial.0 id chunk change
server_takes d m (body.Acked handle version serial) = takes_acked d (server_number m.sender) handle.0 version.0 serial.0
server_takes d m (body.Nacked handle version serial refusal) = takes_nacked d handle.0 version.0 serial.0 refusal
server_takes d m (body.Create order handle version) = on_order d order (λ o. takes_create o handle.0 version.0)
server_takes d m (body.SetVersion order handle version base) = on_order d order (λ o. takes_set_version o handle.0 version.0 base.0)
server_takes d m (body.Grant order handle version end_moment chunk members) = on_order d order (λ o. takes_grant o handle.0 version.0 end_moment.0 chunk members)
server_takes d m (body.Revoke order handle version) = on_order d order (λ o. takes_revoke o handle.0 version.0)
server_takes d m (body.Drop order handle version) = on_order d order (λ o. takes_drop o handle.0 version.0)
server_takes d m (body.Clone order handle version source) = on_order d order (λ o. takes_clone o handle.0 version.0 source.0)
server_takes d m (body.CopyLocal order handle version copy copy_version) = on_order d order (λ o. takes_copy_local o handle.0 version.0 copy.0 copy_version.0)
server_takes d m (body.Extend handle version end_moment) = takes_extend d handle.0 version.0 end_moment.0
server_takes d m (body.CopyAsk handle version) = takes_copy_ask d m.sender handle.0 version.0
server_takes d m (body.Image handle version serial bytes) = takes_image d handle.0 version.0 serial.0 bytes
server_takes d m other = d

abbrev pub server_does : ServerDoing → NodeInput → ServerDoing
server_does d (input.Deliver m) = server_takes d m m.body
server_does d input.Tick = server_ticks d

-- now is the greatest moment that it was given since its start
abbrev pub server_at : ServerState → ℕ → ServerState
server_at s moment = record s { now = max s.now moment }

-- the step of a server that is up, where nothing hinders it
abbrev pub server_goes : ServerState → ℕ → NodeInput → ServerDoing
server_goes s moment i = server_does (server_begins (server_at s moment)) i

abbrev pub server_ends : ServerState → ServerDoing → Choice → Ending → Taken ServerState
server_ends s d choice Goes = record { state = record d.server { disk = disk_changed_by_all d.server.disk d.changes }; out = record { sent = in_order choice.order d.sent; answer = None; down = false }; seen = d.seen }
server_ends s d choice Lost = record { state = stopped_server s s.disk []; out = down_output; seen = [] }
server_ends s d choice (Stops made) =
    record {
      state = stopped_server s (disk_changed_by_all s.disk (made_changes made d.changes)) (change_under_way made d.changes);
      out = down_output;
      seen = filter is_numbering d.seen;
    }

-- one that is down takes nothing
abbrev pub server_step : ServerState → ℕ → NodeInput → Choice → Taken ServerState
server_step s moment i choice = if s.up then server_ends s (server_goes s moment i) choice choice.ending else no_step s

-- what a restart finds on the disk
abbrev pub found_disk : ServerState → Choice → ServerDisk
found_disk s choice = disk_changed_by_all s.disk (decided_changes choice.decided s.under_way)

abbrev pub server_restarts : ServerState → ℕ → Choice → Ending → Taken ServerState
server_restarts s moment choice Lost = record { state = stopped_server s s.disk s.under_way; out = down_output; seen = [] }
server_restarts s moment choice (Stops made) = record { state = stopped_server s (found_disk s choice) []; out = down_output; seen = [] }
server_restarts s moment choice goes_through = record { state = started_server s.config s.id (found_disk s choice) moment; out = no_output; seen = [] }

-- A server that restarts has its disk, and no lease, pushed data, pending clone or pending mutation.
abbrev pub server_restart : ServerState → ℕ → Choice → Taken ServerState
server_restart s moment choice = server_restarts s moment choice choice.ending
