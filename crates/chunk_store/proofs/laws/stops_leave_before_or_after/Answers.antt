use Rattle.std.proofs.Common.{inl, refl}
use Rattle.replica_store.specs.Replicas.{disk_changed}
use Rattle.chunk_store.proofs.Stopped.{held_after, opening_holds, reads_hold, reopens_either}
use Rattle.chunk_store.proofs.laws.stops_leave_before_or_after.Goals as goal

pub returns-clause-fresh : goal.returns-clause-fresh
returns-clause-fresh g c chunk block slots bytes closed = inl (closed, refl)

pub returns-clause-opening : goal.returns-clause-opening
returns-clause-opening g c chunk block slots old new d holds left run =
    let disk = g.D.Disk in
    opening_holds disk.seen disk.may_leave disk.moment disk.left_since chunk block slots old new d holds left run

pub returns-clause-open : goal.returns-clause-open
returns-clause-open g c store d is bytes left = held_after g.D.Disk.seen g.D.Disk.may_leave store d is bytes left

pub returns-clause-read : goal.returns-clause-read
returns-clause-read g c store new d is reads =
    let disk = g.D.Disk in
    reads_hold disk.seen disk.may_leave store d is disk.moment disk.left_since new reads

pub returns-clause-change : goal.returns-clause-change
returns-clause-change g c old new d change is leaves =
    let disk = g.D.Disk in
    let l = old.layout in
    reopens_either disk.seen disk.may_leave disk.moment disk.left_since l.chunk l.block l.slots old.disk new.disk d (disk_changed d change) (leaves d is.says)
