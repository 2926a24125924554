use Rattle.disk_redo.proofs.Moments.{reads_one}
use Rattle.chunk_store.proofs.StillOpen.{read_open}
use Rattle.chunk_store.proofs.volume.StoreVolume.arm.Goals as goal

pub returns-clause-still_open : goal.returns-clause-still_open
returns-clause-still_open g c d is =
    let disk = g.D.Disk in
    let store = c.args.self.now in
    read_open disk.seen disk.may_leave store d is disk.moment disk.left_since c.arm.new.self
    (reads_one disk.seen disk.may_leave disk.moment disk.left_since store.disk c.arm.new.self (g.met.D.Disk.only_now store.disk) c.arm.ensures.seen c.arm.ensures.crash c.arm.ensures.time)

pub returns-clause-reads : goal.returns-clause-reads
returns-clause-reads g c =
    let disk = g.D.Disk in
    reads_one disk.seen disk.may_leave disk.moment disk.left_since c.args.self.now.disk c.arm.new.self (g.met.D.Disk.only_now c.args.self.now.disk) c.arm.ensures.seen c.arm.ensures.crash c.arm.ensures.time
