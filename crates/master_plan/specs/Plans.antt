-- The master while it takes a step, but for the log on its disk.
use Rattle.std.specs.Prelude.{ℕ, suc, true, max, List, [], ◌∷◌, ◌++◌}
use Rattle.std.specs.FinMap as table
use Rattle.gfs_types.specs.declared.config.Config.{Config}
use Rattle.gfs_types.specs.declared.ids.Node.{Node}
use Rattle.gfs_types.specs.declared.ids.Node.TheVariants as node
use Rattle.gfs_types.specs.declared.ids.OrderNo.{OrderNo}
use Rattle.messages.specs.declared.message.Body.{Body}
use Rattle.messages.specs.declared.message.Message.{Message}
use Rattle.log_records.specs.declared.record.Record.{Record}
use Rattle.chunk_table.specs.ChunkTable.{set_end}
use Rattle.leases.specs.LeaseEnds.{extended}
use Rattle.master_state.specs.Follows.{table_of}
use Rattle.protocol.specs.Tables.{Table, removed_all}
use Rattle.protocol.specs.Sending.{message}
use Rattle.protocol.specs.Logged.{Logged, LogDisk, LogChange, AppendRecord, WriteCheckpoint, new_log, log_changed_by_all, after_record, copies_given_up}
use Rattle.protocol.specs.declared.seen.Seen.{Seen}
use Rattle.protocol.specs.Master.{MasterState, MasterDoing, VersionAttempt, PendingSnapshot}
use Rattle.protocol.specs.MasterSnapshots.{live_snapshots}
use Rattle.protocol.specs.MasterStep.{first_reports}

pub record PlanState : Type 0 where
  pub config : Config
  pub server_count : ℕ
  pub now : ℕ
  pub logged : Logged
  pub order_count : ℕ
  pub attempts : Table VersionAttempt
  pub snapshots : List PendingSnapshot
  pub holders : Table (Table ℕ)
  pub reported : Table ℕ
  pub sent : List Message
  pub changes : List LogChange
  pub seen : List Seen

-- the master, over what is on its disk once the changes so far are made
abbrev pub master_of : LogDisk → PlanState → MasterState
master_of disk p =
    record {
      config = p.config;
      server_count = p.server_count;
      up = true;
      now = p.now;
      disk = log_changed_by_all disk p.changes;
      under_way = [];
      logged = p.logged;
      order_count = p.order_count;
      attempts = p.attempts;
      snapshots = p.snapshots;
      holders = p.holders;
      reported = p.reported;
    }

-- the step so far, over what was on the disk as it began
abbrev pub doing : LogDisk → PlanState → MasterDoing
doing disk p = record { master = master_of disk p; sent = p.sent; changes = p.changes; seen = p.seen; refused = [] }

-- What a look at the master gives that doesn't depend on its disk.
abbrev pub known : PlanState → MasterState
known p = master_of new_log p

abbrev pub told : PlanState → Node → Body → PlanState
told p receiver b = record p { sent = p.sent ++ message node.Master receiver b ∷ [] }

-- the number of the next order
abbrev pub next_order : PlanState → OrderNo
next_order p = record { epoch = p.logged.epoch; count = suc p.order_count }

-- a record is to be added to the log, and the state follows
abbrev pub appended : PlanState → Record → PlanState
appended p entry = record p { changes = p.changes ++ AppendRecord entry ∷ []; logged = after_record p.logged entry }

abbrev pub without_attempts : PlanState → List ℕ → PlanState
without_attempts p handles = record p { attempts = removed_all p.attempts handles }

-- copies are given up, with their version numbers that are under way
abbrev pub without_copies : PlanState → List ℕ → PlanState
without_copies p handles = record p { logged = copies_given_up p.logged handles; attempts = removed_all p.attempts handles }

-- a checkpoint is to be written, which gives up each copy under way
abbrev pub with_checkpoint : PlanState → List Record → PlanState
with_checkpoint p items = without_copies (record p { changes = p.changes ++ WriteCheckpoint items ∷ [] }) (table.keys p.logged.copies)

abbrev pub with_end : PlanState → ℕ → ℕ → PlanState
with_end p handle moment = record p { logged = record p.logged { table = set_end p.logged.table handle moment } }

-- a lease that has not ended gets a later end, a lease's time from now
abbrev pub with_lease_extended : PlanState → ℕ → PlanState
with_lease_extended p handle = record p { logged = record p.logged { table = (extended (table_of p.logged) handle p.now p.config.lease_ms).table } }

-- a step begins at a moment
abbrev pub begun : PlanState → ℕ → PlanState
begun p moment = record p { now = max p.now moment; snapshots = live_snapshots (max p.now moment) p.snapshots; sent = []; changes = []; seen = [] }

-- no step is being taken
abbrev pub resting : PlanState → PlanState
resting p = record p { sent = []; changes = []; seen = [] }

-- what a master knows that has read its log
abbrev pub started : Config → ℕ → Logged → ℕ → PlanState
started config server_count logged now =
    record {
      config = config;
      server_count = server_count;
      now = now;
      logged = logged;
      order_count = 0;
      attempts = table.empty;
      snapshots = [];
      holders = table.empty;
      reported = first_reports server_count now;
      sent = [];
      changes = [];
      seen = [];
    }
