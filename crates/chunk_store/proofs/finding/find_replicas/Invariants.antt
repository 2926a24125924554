use Rattle.std.proofs.Common.{◌≡◌, ◌≤◌}
use Rattle.disk_redo.specs.GateMoments.{OnlyReads}
use Rattle.replica_store.specs.Replicas.{ServerDisk}
use Rattle.store_disk.specs.Index.{IndexState}
use Rattle.store_disk.specs.Stored.{IsDiskOf}
use Rattle.chunk_store.specs.Finding.{KnowsFirst}
use Rattle.chunk_store.proofs.finding.find_replicas.Given as goal

abbrev pub invariant-loop-slot : goal.invariant-loop-slot
invariant-loop-slot g l =
    let disk = g.D.Disk in
    record {
      known : (index : IndexState) (d : ServerDisk) → IsDiskOf l.layout.chunk l.layout.block l.layout.slots index (disk.seen l.fn.disk) d → KnowsFirst l.layout.chunk l.layout.block l.layout.slots (disk.seen l.fn.disk) index l.slot l.found;
      seen : disk.seen l.disk ≡ disk.seen l.fn.disk;
      reads : OnlyReads disk.seen disk.may_leave disk.moment disk.left_since l.fn.disk l.disk;
      later : disk.failed l.fn.disk ≤ disk.failed l.disk;
    }
