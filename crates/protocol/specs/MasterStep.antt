-- A step of the master (sections 2.6 and 4).
use Rattle.std.specs.Prelude.{ℕ, suc, ◌+◌, ◌-◌, ◌*◌, max, Bool, true, false, not, ◌==◌, ◌&&◌, nat_lt, nat_le, if◌then◌else◌, List, [], ◌∷◌, map, filter, take, drop, Option, Some, None, is_some}
use Rattle.std.specs.List.{list_all}
use Rattle.std.specs.Str.{byte}
use Rattle.std.specs.FinMap as table
use Rattle.gfs_types.specs.declared.config.Config.{Config}
use Rattle.gfs_types.specs.Shapes.{usual_shape}
use Rattle.messages.specs.declared.message.Body.{Body}
use Rattle.messages.specs.declared.message.Body.TheVariants as body
use Rattle.messages.specs.declared.message.Message.{Message}
use Rattle.messages.specs.declared.event.NodeInput.{NodeInput}
use Rattle.messages.specs.declared.event.NodeInput.TheVariants as input
use Rattle.log_records.specs.declared.record.Record.TheVariants as log
use Rattle.gfs_types.specs.Paths.{Path, trash, is_child}
use Rattle.relaxed_file.specs.Names.{Node, Dir, File}
use Rattle.gfs_types.specs.Counters.{counter_limit}
use Rattle.protocol.specs.Tables.{Table, first_numbers, first_of_list, kept_where, map_values}
use Rattle.protocol.specs.Choice.{Choice, Ending, Goes, Lost, Stops, in_order, decided_changes, made_changes, change_under_way}
use Rattle.protocol.specs.Sending.{client_number, server_number, file_id}
use Rattle.chunk_table.specs.ChunkTable.{ChunkRow, chunk_of, known_shape, row_restarted}
use Rattle.protocol.specs.Logged.{Logged, LogDisk, first_logged, log_changed_by_all, replayed}
use Rattle.protocol.specs.Seen.{Taken, no_output, down_output, no_step}
use Rattle.protocol.specs.Master.{MasterState, MasterDoing, VersionAttempt, stopped_master, master_begins, logs, gives_up_copies, holders_where}
use Rattle.protocol.specs.MasterSnapshots.{live_snapshots, takes_ready}
use Rattle.protocol.specs.MasterNames.{takes_name, takes_look}
use Rattle.protocol.specs.MasterAsks.{takes_ask}
use Rattle.protocol.specs.MasterReports.{takes_recorded, takes_cloned, takes_revoked, takes_report}
use Rattle.protocol.specs.MasterVersions.{is_attempted}
use Rattle.protocol.specs.MasterClones.{clones_next}
use Rattle.protocol.specs.MasterLimits.{can_count}

-- a version attempt that takes too long is given up
abbrev pub is_in_time : MasterState → ℕ × VersionAttempt → Bool
is_in_time m e = nat_lt (m.now - e.1.begun) m.config.attempt_ms

abbrev pub gives_up_attempts : MasterDoing → MasterDoing
gives_up_attempts d = record d { master = record d.master { attempts = kept_where (is_in_time d.master) d.master.attempts } }

abbrev pub is_recorded : MasterState → ℕ → Option ChunkRow → Bool
is_recorded m handle None = false
is_recorded m handle (Some row) = is_some (first_of_list (holders_where m handle (λ v. v == row.issued)))

-- a copy without an attempt, of which nobody holds the number
abbrev pub is_lost_copy : MasterState → ℕ → Bool
is_lost_copy m handle = not (is_attempted m handle) && not (is_recorded m handle (chunk_of m.logged.table handle))

abbrev pub lost_copies : MasterState → List ℕ
lost_copies m = filter (is_lost_copy m) (table.keys m.logged.copies)

abbrev pub gives_up_lost_copies : MasterDoing → MasterDoing
gives_up_lost_copies d = gives_up_copies d (lost_copies d.master)

-- the number that digits in base ten write
abbrev pub number_from : ℕ → List ℕ → ℕ
number_from before [] = before
number_from before (c ∷ rest) = number_from (before * 10 + (c - byte "0")) rest

-- the moment in a hidden name
abbrev pub hidden_moment : Path → ℕ
hidden_moment path = number_from 0 (take 20 (drop 7 path))

-- a hidden file was kept long enough
abbrev pub is_old : MasterState → Path → Bool
is_old m path = nat_le (hidden_moment path) m.now && nat_le m.config.keep_ms (m.now - hidden_moment path)

-- the hidden names in order, the oldest first
abbrev pub hidden_names : MasterState → List (Path × Node)
hidden_names m = filter (λ e. is_child trash e.0) (table.entries m.logged.names)

abbrev pub old_file : MasterState → Path → Node → Option ℕ
old_file m path Dir = None
old_file m path (File id) = if is_old m path then Some id else None

-- those before the first that there is not
abbrev pub before_none : {X : Type 0} → List (Option X) → List X
before_none [] = []
before_none (None ∷ rest) = []
before_none (Some x ∷ rest) = x ∷ before_none rest

-- the hidden files that were kept long enough, in the order of their names, up to the first that stays (section 4.4)
abbrev pub expired_files : MasterState → List ℕ
expired_files m = before_none (map (λ e. old_file m e.0 e.1) (hidden_names m))

abbrev pub expires_all : MasterDoing → List ℕ → MasterDoing
expires_all d [] = d
expires_all d (file ∷ rest) = expires_all (logs d (log.Expired (file_id file)) (λ e. e)) rest

abbrev pub expires_old : MasterDoing → MasterDoing
expires_old d = expires_all d (expired_files d.master)

abbrev pub master_ticks : MasterDoing → MasterDoing
master_ticks d = clones_next (expires_old (gives_up_lost_copies (gives_up_attempts d)))

abbrev pub master_takes : MasterDoing → Message → Body → MasterDoing
master_takes d m (body.Name number deadline c) = takes_name d (client_number m.sender) number deadline.0 c
master_takes d m (body.Look number c) = takes_look d m.sender number c
master_takes d m (body.Ask number file wanted deadline lost) = takes_ask d m.sender number file.0 wanted deadline.0 lost
master_takes d m (body.Recorded handle version) = takes_recorded d (server_number m.sender) handle.0 version.0
master_takes d m (body.Revoked handle version) = takes_revoked d (server_number m.sender) handle.0 version.0
master_takes d m (body.Cloned handle version) = takes_cloned d (server_number m.sender) handle.0 version.0
master_takes d m (body.Report replicas leases) = takes_report d (server_number m.sender) replicas leases
master_takes d m other = d

abbrev pub master_does : MasterDoing → NodeInput → MasterDoing
master_does d (input.Deliver m) = master_takes d m m.body
master_does d input.Tick = master_ticks d

-- now is the greatest moment that it was given since its start; snapshots whose deadline has come are given up
abbrev pub master_at : MasterState → ℕ → MasterState
master_at m moment = record m { now = max m.now moment; snapshots = live_snapshots (max m.now moment) m.snapshots }

-- each step ends with the snapshots that are ready
abbrev pub finishes : MasterDoing → MasterDoing
finishes d = takes_ready d d.master.snapshots

-- the step of a master that is up, where nothing hinders it
abbrev pub master_goes : MasterState → ℕ → NodeInput → List Bool → MasterDoing
master_goes m moment i refused = finishes (master_does (master_begins (master_at m moment) refused) i)

-- No counter is past its limit, and no place in a file either: a chunk's index is below the next handle.
abbrev pub is_within_limits : MasterState → Bool
is_within_limits m =
    nat_le m.logged.next_file counter_limit && nat_le m.logged.next_handle counter_limit && nat_le m.logged.epoch counter_limit
    && nat_le m.order_count counter_limit && list_all (λ e. nat_le e.1.issued counter_limit) (table.entries m.logged.table.chunks)
    && nat_le (m.logged.next_handle * m.config.chunk) counter_limit

abbrev pub master_ends : MasterState → MasterDoing → Choice → Ending → Taken MasterState
master_ends m d choice Goes = record { state = d.master; out = record { sent = in_order choice.order d.sent; answer = None; down = false }; seen = d.seen }
master_ends m d choice Lost = record { state = stopped_master m m.disk []; out = down_output; seen = [] }
master_ends m d choice (Stops made) =
    record {
      state = stopped_master m (log_changed_by_all m.disk (made_changes made d.changes)) (change_under_way made d.changes);
      out = down_output;
      seen = [];
    }

-- A step that goes through raises no counter past its limit: one that would, or that might, changes nothing. A master may be put down in any step.
abbrev pub may_end : MasterState → NodeInput → MasterDoing → Ending → Bool
may_end m i d Goes = can_count m i && is_within_limits d.master
may_end m i d other = true

abbrev pub master_bounded : MasterState → NodeInput → MasterDoing → Choice → Taken MasterState
master_bounded m i d choice = if may_end m i d choice.ending then master_ends m d choice choice.ending else no_step m

-- one that is down takes nothing
abbrev pub master_step : MasterState → ℕ → NodeInput → Choice → Taken MasterState
master_step m moment i choice = if m.up then master_bounded m i (master_goes m moment i choice.refused) choice else no_step m

-- what a restart finds on the disk
abbrev pub found_log : MasterState → Choice → LogDisk
found_log m choice = log_changed_by_all m.disk (decided_changes choice.decided m.under_way)

-- After a restart each granted lease is taken to end one clock bound and one lease from now, and a shape that the log didn't tell is the settings'.
abbrev pub row_after_restart : Config → ℕ → ChunkRow → ChunkRow
row_after_restart config now row = row_restarted (now + config.skew_ms + config.lease_ms) (usual_shape config) row

abbrev pub as_restarted : Config → ℕ → Logged → Logged
as_restarted config now l =
    record l {
      table = record l.table { shapes = map_values (known_shape (usual_shape config)) l.table.shapes; chunks = map_values (row_after_restart config now) l.table.chunks };
    }

-- the master's opening counts as a report of each server
abbrev pub first_reports : ℕ → ℕ → Table ℕ
first_reports server_count now = table.from_entries (map (λ s. (s, now)) (first_numbers server_count))

-- what a master knows that has read its log
abbrev pub started_master : Config → ℕ → LogDisk → ℕ → MasterState
started_master config server_count disk now =
    record {
      config = config;
      server_count = server_count;
      up = true;
      now = now;
      disk = disk;
      under_way = [];
      logged = as_restarted config now (replayed disk);
      order_count = 0;
      attempts = table.empty;
      snapshots = [];
      holders = table.empty;
      reported = first_reports server_count now;
    }

-- The opening logs a new epoch.
abbrev pub opening : MasterState → MasterDoing
opening m = logs (master_begins m []) (log.Epoch (suc m.logged.epoch)) (λ e. e)

-- the log had room for the epoch
abbrev pub has_opened : MasterState → MasterDoing → Bool
has_opened m d = d.master.logged.epoch == suc m.logged.epoch

abbrev pub opens_as : MasterState → MasterState → MasterDoing → Choice → Ending → Taken MasterState
opens_as old m d choice Lost = record { state = stopped_master old old.disk old.under_way; out = down_output; seen = [] }
opens_as old m d choice (Stops made) =
    record {
      state = stopped_master old (log_changed_by_all m.disk (made_changes made d.changes)) (change_under_way made d.changes);
      out = down_output;
      seen = [];
    }
opens_as old m d choice Goes =
    if has_opened m d && is_within_limits d.master then record { state = d.master; out = no_output; seen = [] }
    else record { state = stopped_master old d.master.disk []; out = down_output; seen = [] }

-- At a restart pending snapshots, locks, version attempts and copies are forgotten.
abbrev pub master_restart : MasterState → ℕ → Choice → Taken MasterState
master_restart m moment choice =
    let started : MasterState = started_master m.config m.server_count (found_log m choice) moment in
    opens_as m started (opening started) choice choice.ending

-- the log of a new cell: its first epoch has begun
abbrev pub first_log : LogDisk
first_log = record { items = []; records = log.Epoch 1 ∷ [] }

-- the master of a new cell, at moment 0, as its first opening leaves it
abbrev pub new_master : Config → ℕ → MasterState
new_master config server_count =
    record {
      config = config;
      server_count = server_count;
      up = true;
      now = 0;
      disk = first_log;
      under_way = [];
      logged = record first_logged { epoch = 1 };
      order_count = 0;
      attempts = table.empty;
      snapshots = [];
      holders = table.empty;
      reported = first_reports server_count 0;
    }
