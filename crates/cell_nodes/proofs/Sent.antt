-- The master, whose names lie in a tree of labels, may go to another thread.
use denote.RattleType.{RattleType}
use denote.Param.Send.{IsSend, sendable}
use denote.Param.SendFields.{declared_send}
use Rattle.std.proofs.Crossing.{crosses, frees}
use Rattle.std.proofs.MapsCrossing as maps
use Rattle.std.proofs.alloc.Global.TheSendSync as heap
use Rattle.std.proofs.option.Option.TheSendSync as option
use Rattle.std.specs.contracts.alloc.Global as Heap
use Rattle.std.specs.contracts.impls.GlobalAllocator.TheImpl.{ghosts}
use Rattle.label_tree.proofs.tree.Tree.TheLaws.TheKnot as knot
use Rattle.label_tree.proofs.node.TrieNode.TheSendSync as node
use Rattle.namespace.proofs.node.NameNode.TheSendSync as name
use Rattle.chunk_table.proofs.table.Table.TheSendSync as table
use Rattle.ordered_map.proofs.OrderedMap.TheSendSync as ordered
use Rattle.ordered_map.proofs.number_map.NumberMap.TheSendSync as number
use Rattle.gfs_types.proofs.lists.Sequence.TheSendSync as sequence
use Rattle.gfs_types.proofs.config.Config.TheSendSync as config
use Rattle.messages.proofs.message.Message.TheSendSync as message
use Rattle.protocol.proofs.seen.Seen.TheSendSync as seen
use Rattle.master_state.proofs.kept.KeptCall.TheSendSync as kept
use Rattle.master_state.proofs.kept.CopyRow.TheSendSync as copy
use Rattle.master_state.specs.contracts.state.State as State
use Rattle.master_plan.proofs.change.PlannedChange.TheSendSync as change
use Rattle.master_waiting.proofs.waiting.VersionAttempt.TheSendSync as attempt
use Rattle.master_waiting.proofs.waiting_list.WaitingSnapshots.TheSendSync as waiting
use Rattle.master_plan.specs.contracts.plan.Plan as Plan
use Rattle.disk.proofs.fuse.FuseDisk.TheSendSync as fuse
use Rattle.disk.proofs.stop_plan.StopPlan.TheSendSync as stops
use Rattle.disk.specs.contracts.fuse.FuseDisk as Fuse
use Rattle.disk.specs.declared.device.Disk as Disk
use Rattle.disk.specs.Writes.{LeftBy, LeftSince, moment_of}
use Rattle.gfs_types.proofs.ghost_list.GhostList.TheSendSync as before
use Rattle.gfs_types.specs.contracts.ghost_list.GhostList as Before
use Rattle.operation_log.specs.declared.log.OperationLog as OperationLog
use Rattle.stored_log.proofs.disk_log.DiskLog.TheSendSync as disk_log
use Rattle.stored_log.specs.contracts.disk_log.DiskLog as Log
use Rattle.master_cell.specs.contracts.logged_master.LoggedMaster as Master
use Rattle.master_cell.proofs.shown.ShownFiles.TheSendSync as shown
use Rattle.memory_nodes.specs.contracts.master_slot.MasterSlot as Slot
use Rattle.memory_nodes.specs.contracts.master_slot.MasterSlot.TheInside as Inside
use Rattle.running_nodes.specs.contracts.master_stepper.MasterNode as Node
use Rattle.cell_nodes.specs.contracts.running_master.RunningMaster as Running

state_send : IsSend (State.the_row Heap.the_row ghosts)
state_send = search (sendable, crosses, maps.crosses, heap.the_send, heap.the_field_send, knot.crosses, knot.send-Tree, knot.send-Link, node.the_send, node.the_field_send, name.the_send, table.the_send, ordered.the_send, kept.the_send, copy.the_send) depth 60

plan_send : IsSend (Plan.the_row Heap.the_row ghosts)
plan_send = search (sendable, crosses, maps.crosses, state_send, heap.the_field_send, config.the_field_send, number.the_send, ordered.the_send, option.the_field_send, sequence.the_send, change.the_send, attempt.the_send, waiting.the_send, message.the_send, seen.the_send) depth 40 fits 100000

abbrev fuse_row : RattleType
fuse_row = Fuse.the_row Heap.the_row ghosts

-- what the disk and the log are for proofs
abbrev disk_ghosts : Disk.Ghosts fuse_row.Denot
disk_ghosts = record {
  seen = λ f. f.disk.bytes;
  may_leave = λ f c. LeftBy f.disk c;
  moment = λ f. moment_of f.disk;
  left_since = λ f t c. LeftSince f.disk t c;
  failed = λ f. f.failures;
}

abbrev log_row : RattleType
log_row = Log.the_row fuse_row disk_ghosts

abbrev log_ghosts : OperationLog.Ghosts log_row.Denot
log_ghosts = record {
  disk = λ l. l.disk;
  under_way = λ l. l.under_way;
  writing = λ l. l.writing;
  log_bytes = λ l. l.log_bytes;
  is_open = λ l. l.is_open;
  failed = λ l. l.failed;
}

fuse_send : IsSend fuse_row
fuse_send = fuse.the_send Heap.the_row ghosts heap.the_send frees

log_send : IsSend log_row
log_send = disk_log.the_send fuse_row disk_ghosts fuse_send

master_send : IsSend (Master.the_row log_row Heap.the_row log_ghosts ghosts)
master_send = let a = log_send in let b = plan_send in search (sendable, crosses) depth 40 fits 100000

before_send : IsSend (Before.the_row log_row)
before_send = before.the_send log_row log_send

inside_send : IsSend (Inside.the_row Heap.the_row ghosts)
inside_send =
    let a = fuse_send in
    let b = log_send in
    let c = master_send in
    declared_send (Inside.the_type Heap.the_row ghosts) (
      heap.the_send,
      (
        config.the_send,
        (
          search sendable,
          (
            search (sendable, heap.the_send),
            (
              search (sendable, option.the_field_send),
              (
                search (sendable, option.the_field_send),
                (
                  search (sendable, option.the_field_send),
                  (
                    before_send,
                    (
                      shown.the_send,
                      (
                        stops.the_send,
                        tt,
                      ),
                    ),
                  ),
                ),
              ),
            ),
          ),
        ),
      ),
    )

slot_send : IsSend (Slot.the_row Heap.the_row ghosts)
slot_send = let a = inside_send in search sendable

node_send : IsSend (Node.the_row (Slot.the_row Heap.the_row ghosts))
node_send = declared_send (Node.the_type (Slot.the_row Heap.the_row ghosts)) (heap.the_send, (slot_send, tt))

pub running_send : IsSend Running.the_row
running_send = declared_send Running.the_type (node_send, tt)
